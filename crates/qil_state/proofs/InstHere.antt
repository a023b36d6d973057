-- The instruction at the place of the innermost frame.
use Rattle.std.proofs.Common.{◌≡◌, refl, sym, ap, ◌∙◌, subst, ℕ, zero, suc, ◌+◌, ◌≤◌, List, [], ◌∷◌, length, Option, Some, None, arith}
use Rattle.std.specs.Prelude.{option_map, slice_get}
use Rattle.std.proofs.lemmas.Option.{slice_get-map}
use Rattle.qil_tree.specs.declared.tree.Inst.{Inst}
use Rattle.qil_tree.specs.declared.tree.Block.{Block}
use Rattle.qil_tree.specs.declared.tree.Func.{Func}
use Rattle.qil_tree.specs.declared.tree.Program.{Program}
use Rattle.qil_semantics.specs.State as meaning
use Rattle.qil_semantics.specs.State.{Name, State}
use Rattle.qil_semantics.specs.Names.{temps_named}
use Rattle.qil_semantics.specs.Step.{does}
use Rattle.qil_code.specs.declared.numbered.NumberedBlock.{NumberedBlock}
use Rattle.qil_code.specs.declared.numbered.NumberedInst.{NumberedInst}
use Rattle.qil_code.specs.Facts.{Finds}
use Rattle.qil_code.specs.Numbered.{inst_of, func_at, block_at, names_of}
use Rattle.qil_code.specs.Named.{named_inst, resolved_inst}
use Rattle.qil_code.specs.Reading.{block_code_at}
use Rattle.qil_code.proofs.Naming.{named-kind}
use Rattle.qil_code.proofs.NamedCode.{block-has, inst-has}
use Rattle.qil_frames.specs.Frames.{SlotFrame}
use Rattle.qil_state.specs.State.{frame_state, frames_state, PlaceFits}
use Rattle.qil_state.specs.Stepping.{stepped, performed}
use Rattle.qil_state.proofs.Resolved.{does_resolved}
use Rattle.qil_state.proofs.Place.{none_some, some_same, BlockHere, block_here, block_at_here, names_here, stands}

-- what is known where an instruction was found
pub record InstHere {A : Type 0} (p : Program A) (f : SlotFrame) (fs : List SlotFrame) (s : State) (inst : NumberedInst A) : Type 0 where
  pub does : stepped p s (frames_state p (f ∷ fs)) ≡ performed p s (frames_state p (f ∷ fs)) (named_inst (names_of p f.func) inst)
  pub next : PlaceFits (block_at p f.func f.block) (f.index + 1)

get_below : {X : Type 0} (xs : List X) (i : ℕ) (x : X) → slice_get xs i ≡ Some x → i + 1 ≤ length xs
get_below [] i x e = none_some e
get_below (y ∷ ys) zero x e = omega arith
get_below (y ∷ ys) (suc i) x e = let deep : i + 1 ≤ length ys = get_below ys i x e in omega (arith, deep)

of_inst : {A : Type 0} (p : Program A) (f : SlotFrame) (fs : List SlotFrame) (s : State) (func : Func A) (b : Block A) (t : Inst A) (inst : NumberedInst A)
    → Finds p → func_at p f.func ≡ Some func → slice_get func.blocks f.block ≡ Some b → slice_get b.insts f.index ≡ Some t → inst_of p (temps_named func) t ≡ inst
    → InstHere p f fs s inst
of_inst {A} p f fs s func b t inst finds ef eb et ei =
    let ns : List Name = temps_named func in
    let names : names_of p f.func ≡ ns = names_here p f.func func ef in
    let back : named_inst ns (inst_of p ns t) ≡ resolved_inst p t.kind = named-kind p ns t.kind (inst-has ns b f.index t et (block-has func f.block b eb)) in
    let F : meaning.Frame = frame_state p fs f in
    let FS : List meaning.Frame = frames_state p fs in
    record {
      does = stands p f fs s func b finds ef eb ∙ ap (λ o. does p s F FS func o b.jump) et ∙ sym (does_resolved p s F FS t.kind)
          ∙ ap (performed p s (frames_state p (f ∷ fs))) (sym back ∙ (λ i. named_inst (sym names i) (ei i)));
      next = subst (λ o. PlaceFits o (f.index + 1)) (sym (block_at_here p f.func f.block func b ef eb)) (get_below b.insts f.index t et);
    }

pub inst_here : {A : Type 0} (p : Program A) (f : SlotFrame) (fs : List SlotFrame) (s : State) (block : NumberedBlock A) (inst : NumberedInst A)
    → Finds p → block_code_at p f.func f.block ≡ Some block → slice_get block.insts f.index ≡ Some inst → InstHere p f fs s inst
inst_here {A} p f fs s block inst finds eb ei =
    let here : BlockHere p f.func f.block block = block_here p f.func f.block block eb in
    by here (slice_get here.block.insts f.index) refl
    (sym (slice_get-map (inst_of p (temps_named here.func)) here.block.insts f.index) ∙ ap (λ (k : NumberedBlock A). slice_get k.insts f.index) here.code_is ∙ ei)
  where
    by : (here : BlockHere p f.func f.block block) (o : Option (Inst A)) → slice_get here.block.insts f.index ≡ o
        → option_map (inst_of p (temps_named here.func)) o ≡ Some inst → InstHere p f fs s inst
    by here None eo e = none_some e
    by here (Some t) eo e = of_inst p f fs s here.func here.block t inst finds here.func_is here.block_is eo (some_same (inst_of p (temps_named here.func) t) inst e)
