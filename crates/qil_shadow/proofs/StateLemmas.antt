-- What stands at the place of a frame: the instruction or the jump by its number, with what it reads; and what is unset.
use Rattle.std.proofs.Common.{◌≡◌, ◌∙◌, ◌⊎◌, inl, inr, sym, ap, subst, refl, ℕ, zero, suc, ◌+◌, Bool, true, false, if◌then◌else◌, List, [], ◌∷◌, ◌++◌, map, Option, Some, None, option_map, unwrap_or, IsSome, Ok, Err}
use Rattle.std.specs.Prelude.{slice_get, flat_map, filter}
use Rattle.std.specs.Str.{bytes_eq}
use Rattle.std.specs.List.{AllByRecursion}
use Rattle.std.proofs.lemmas.List.Elements.{recursion_from_All}
use Rattle.qil_tree.specs.declared.ops.Class.{Class}
use Rattle.qil_tree.specs.declared.tree.Argument.{Argument}
use Rattle.qil_tree.specs.declared.tree.Expr.{Expr}
use Rattle.qil_tree.specs.declared.tree.Expr.TheVariants as exprs
use Rattle.qil_tree.specs.declared.tree.Inst.{Inst}
use Rattle.qil_tree.specs.declared.tree.InstKind.{InstKind}
use Rattle.qil_tree.specs.declared.tree.InstKind.TheVariants as insts
use Rattle.qil_tree.specs.declared.tree.JumpKind.{JumpKind}
use Rattle.qil_tree.specs.declared.tree.JumpKind.TheVariants as jumps
use Rattle.qil_tree.specs.declared.tree.Operand.{Operand}
use Rattle.qil_tree.specs.declared.tree.Operand.TheVariants as operands
use Rattle.qil_tree.specs.declared.tree.Target.{Target}
use Rattle.qil_tree.specs.declared.tree.PhiSource.{PhiSource}
use Rattle.qil_tree.specs.declared.tree.Phi.{Phi}
use Rattle.qil_tree.specs.declared.tree.Block.{Block}
use Rattle.qil_tree.specs.declared.tree.Func.{Func}
use Rattle.qil_tree.specs.declared.tree.Program.{Program}
use Rattle.qil_memory.specs.qil_rules.Operands.{Read, inst_reads, inst_target, argument_read}
use Rattle.qil_memory.specs.qil_rules.Text.{IsAmong}
use Rattle.qil_memory.specs.qil_layout.Layout.{address_of}
use Rattle.qil_semantics.specs.State.{Name, Frame, Fault}
use Rattle.qil_semantics.specs.Names.{operand_names, target_names, inst_names, jump_names, block_names, temps_named}
use Rattle.qil_semantics.specs.Slots.{temps_of}
use Rattle.qil_semantics.specs.Values.{Outcome, ◌>>=◌, known, val, vals}
use Rattle.qil_semantics.specs.Step.{phi_moves, block_labelled}
use Rattle.qil_semantics.specs.Step as step
use Rattle.qil_code.specs.declared.numbered.NumberedArgument.{NumberedArgument}
use Rattle.qil_code.specs.declared.numbered.NumberedInst.{NumberedInst}
use Rattle.qil_code.specs.declared.numbered.NumberedJump.{NumberedJump}
use Rattle.qil_code.specs.Facts.{KnowsLabels, jump_labels}
use Rattle.qil_code.specs.Gather.{labels_in}
use Rattle.qil_code.specs.Moves.{given}
use Rattle.qil_code.specs.Slots.{number_in}
use Rattle.qil_code.specs.Numbered.{func_at, block_in, block_at, inst_in, inst_at, names_of, operand_of, argument_of, kind_of, edge_of, jump_of, block_moves, moves_into, move_of}
use Rattle.qil_code.proofs.Has.{Has, HasAll, HasAll-left, HasAll-right, has-among, among-has}
use Rattle.qil_code.proofs.NamedCode.{block-has, inst-has, jump-has}
use Rattle.qil_code.proofs.PhiMoves.{HasMove, moves-of-tree, moves-have}
use Rattle.qil_code.proofs.Edges.{label-found}
use Rattle.qil_shadow.specs.declared.suspicion.Place.{Place}
use Rattle.qil_shadow.specs.Numbered.{value_in}
use Rattle.qil_shadow.specs.Reads.{IsKnown}
use Rattle.qil_shadow.specs.Instructions.{IsTarget, IsInst}
use Rattle.qil_shadow.specs.Shapes.{operands_of, IsUnset}
use Rattle.qil_shadow.specs.Phis.{IsMove, moves_from, IsEdge}
use Rattle.qil_shadow.specs.Jumps.{jump_operands, Leads, IsJump}
use Rattle.qil_shadow.specs.Steps.{HasAddress, PhiIsRuled, IsRuled, IsAtPlace}
use Rattle.qil_shadow.proofs.ParamLemmas.{names_here, has_slot}
use Rattle.qil_shadow.proofs.ValueLemmas.{temp_at}

-- ---- what is unset

unset_by : {X Y : Type 0} (o : Outcome X) (g : X → Outcome Y) (why : Fault) → (o >>= g) ≡ Err why → ((w : Fault) × (o ≡ Err w)) ⊎ ((x : X) × (o ≡ Ok x) × (g x ≡ Err why))
unset_by (Ok x) g why e = inr (x, refl, e)
unset_by (Err w) g why e = inl (w, refl)

not_known : (c : Class) (x : Name) (o : Option ℕ) (w : Fault) → known c x o ≡ Err w → o ≡ None
not_known c x None w e = refl
not_known c x (Some v) w e = absurd cc

val_unset : {A : Type 0} (p : Program A) (ns : List Name) (slots : List (Option ℕ)) (c : Class) (a : Operand) (w : Fault) → IsKnown p ns a → val p (temps_of ns slots) c a ≡ Err w → value_in slots (operand_of p ns a) ≡ None
val_unset p ns slots c (operands.Number n) w known e = absurd cc
val_unset p ns slots c (operands.Global g) w known e = absurd cc
val_unset p ns slots c (operands.Temp x) w known e =
    temp_at ns slots x (number_in ns x) (has_slot ns x (has-among ns x known.0 known.1)) ∙ not_known c x (temps_of ns slots x) w e

abbrev held_by : {A : Type 0} → Program A → List Name → List (Option ℕ) → Read → Option ℕ
held_by p ns slots r = value_in slots (operand_of p ns r.operand)

abbrev UnsetAmong : {A : Type 0} → Program A → List Name → List (Option ℕ) → List Read → Type 0
UnsetAmong p ns slots rs = (k : ℕ) × (slice_get (map (held_by p ns slots) rs) k ≡ Some None)

unset_later : {A : Type 0} (p : Program A) (ns : List Name) (slots : List (Option ℕ)) (r : Read) (rs : List Read) (v : ℕ) (why : Fault) → ((w : Fault) → vals p (temps_of ns slots) rs ≡ Err w → UnsetAmong p ns slots rs)
    → ((w : Fault) × (vals p (temps_of ns slots) rs ≡ Err w)) ⊎ ((x : List ℕ) × (vals p (temps_of ns slots) rs ≡ Ok x) × (◌≡◌ {A = Outcome (List ℕ)} (Ok (v ∷ x)) (Err why))) → UnsetAmong p ns slots (r ∷ rs)
unset_later p ns slots r rs v why deep (inl q) = let found = deep q.0 q.1 in (suc found.0, found.1)
unset_later p ns slots r rs v why deep (inr q) = absurd (let no = q.2 in cc)

unset_first : {A : Type 0} (p : Program A) (ns : List Name) (slots : List (Option ℕ)) (r : Read) (rs : List Read) (why : Fault) → IsKnown p ns r.operand → ((w : Fault) → vals p (temps_of ns slots) rs ≡ Err w → UnsetAmong p ns slots rs)
    → ((w : Fault) × (val p (temps_of ns slots) r.class r.operand ≡ Err w)) ⊎ ((x : ℕ) × (val p (temps_of ns slots) r.class r.operand ≡ Ok x) × ((vals p (temps_of ns slots) rs >>= λ vs. Ok (x ∷ vs)) ≡ Err why))
    → UnsetAmong p ns slots (r ∷ rs)
unset_first p ns slots r rs why known deep (inl q) = (0, ap (λ o. Some o) (val_unset p ns slots r.class r.operand q.0 known q.1))
unset_first p ns slots r rs why known deep (inr q) = unset_later p ns slots r rs q.0 why deep (unset_by (vals p (temps_of ns slots) rs) (λ vs. Ok (q.0 ∷ vs)) why q.2)

unset_at : {A : Type 0} (p : Program A) (ns : List Name) (slots : List (Option ℕ)) (rs : List Read) (why : Fault) → AllByRecursion (λ r. IsKnown p ns r.operand) rs → vals p (temps_of ns slots) rs ≡ Err why → UnsetAmong p ns slots rs
unset_at p ns slots [] why known e = absurd cc
unset_at p ns slots (r ∷ rs) why known e =
    unset_first p ns slots r rs why known.0 (λ w f. unset_at p ns slots rs w known.1 f)
    (unset_by (val p (temps_of ns slots) r.class r.operand) (λ x. vals p (temps_of ns slots) rs >>= λ vs. Ok (x ∷ vs)) why e)

args_by_number : {A : Type 0} (p : Program A) (ns : List Name) (slots : List (Option ℕ)) (args : List Argument)
    → map (held_by p ns slots) (map argument_read args) ≡ map (value_in slots) (map (λ (a : NumberedArgument). a.source) (map (argument_of p ns) args))
args_by_number p ns slots [] = refl
args_by_number p ns slots (a ∷ args) = ap (λ l. value_in slots (operand_of p ns a.value) ∷ l) (args_by_number p ns slots args)

reads_by_number : {A : Type 0} (p : Program A) (ns : List Name) (slots : List (Option ℕ)) (kind : InstKind A) → map (held_by p ns slots) (inst_reads kind) ≡ map (value_in slots) (operands_of (kind_of p ns kind))
reads_by_number p ns slots (insts.Assign to (exprs.Unary op a)) = refl
reads_by_number p ns slots (insts.Assign to (exprs.Binary op a b)) = refl
reads_by_number p ns slots (insts.Assign to (exprs.Compare op c a b)) = refl
reads_by_number p ns slots (insts.Assign to (exprs.Extend op a)) = refl
reads_by_number p ns slots (insts.Assign to (exprs.Load op a)) = refl
reads_by_number p ns slots (insts.Alloc to op n) = refl
reads_by_number p ns slots (insts.Store w a b) = refl
reads_by_number p ns slots (insts.Blit a b n) = refl
reads_by_number p ns slots (insts.Call to callee args) = ap (λ l. value_in slots (operand_of p ns callee) ∷ l) (args_by_number p ns slots args)

pub is_unset : {A : Type 0} (p : Program A) (ns : List Name) (slots : List (Option ℕ)) (kind : InstKind A) (inst : NumberedInst A) (why : Fault) → inst ≡ kind_of p ns kind → AllByRecursion (λ r. IsKnown p ns r.operand) (inst_reads kind)
    → vals p (temps_of ns slots) (inst_reads kind) ≡ Err why → IsUnset slots (operands_of inst)
is_unset {A} p ns slots kind inst why number known e =
    let found = unset_at p ns slots (inst_reads kind) why known e in
    subst (λ (i : NumberedInst A). IsUnset slots (operands_of i)) (sym number) (found.0, ap (λ l. slice_get l found.0) (sym (reads_by_number p ns slots kind)) ∙ found.1)

-- ---- what is known

known_of : {A : Type 0} (p : Program A) (ns : List Name) (a : Operand) → HasAddress p a → HasAll ns (operand_names a) → IsKnown p ns a
known_of p ns (operands.Number n) address has = tt
known_of p ns (operands.Global g) address has = subst (λ (o : Option ℕ). IsSome o) (sym address.1) refl
known_of p ns (operands.Temp x) address has = among-has ns x has.0

all_known : {A : Type 0} (p : Program A) (ns : List Name) (rs : List Read) → AllByRecursion (λ r. HasAddress p r.operand) rs → HasAll ns (flat_map (λ r. operand_names r.operand) rs) → AllByRecursion (λ r. IsKnown p ns r.operand) rs
all_known p ns [] addresses has = tt
all_known p ns (r ∷ rs) addresses has = (
  known_of p ns r.operand addresses.0 (HasAll-left ns (operand_names r.operand) (flat_map (λ (q : Read). operand_names q.operand) rs) has),
  all_known p ns rs addresses.1 (HasAll-right ns (operand_names r.operand) (flat_map (λ (q : Read). operand_names q.operand) rs) has),
)

target_there : (ns : List Name) (to : Option Target) → HasAll ns (target_names to) → IsTarget ns to
target_there ns None has = tt
target_there ns (Some to) has = among-has ns to.name has.0

jump_known : {A : Type 0} (p : Program A) (ns : List Name) (kind : JumpKind) → AllByRecursion (HasAddress p) (jump_operands kind) → HasAll ns (jump_names kind) → AllByRecursion (IsKnown p ns) (jump_operands kind)
jump_known p ns (jumps.Jmp l) addresses has = tt
jump_known p ns (jumps.Jnz a l m) addresses has = (known_of p ns a addresses.0 has, tt)
jump_known p ns (jumps.Ret None) addresses has = tt
jump_known p ns (jumps.Ret (Some a)) addresses has = (known_of p ns a addresses.0 has, tt)
jump_known p ns jumps.Hlt addresses has = tt

-- ---- the place

pub block_there : {A : Type 0} (p : Program A) (place : Place) (slots : List (Option ℕ)) (f : Frame) (at : IsAtPlace p place slots f) → block_at p place.func.index place.block.index ≡ Some at.block
block_there {A} p place slots f at = ap (λ (o : Option (Func A)). block_in o place.block.index) at.func_is ∙ at.block_is

names_have : {A : Type 0} (p : Program A) (place : Place) (slots : List (Option ℕ)) (f : Frame) (at : IsAtPlace p place slots f) → HasAll (names_of p place.func.index) (block_names at.block)
names_have p place slots f at = subst (λ ns. HasAll ns (block_names at.block)) (sym (names_here p place.func.index at.func at.func_is)) (block-has at.func place.block.index at.block at.block_is)

pub record Reads {A : Type 0} (p : Program A) (place : Place) (kind : InstKind A) : Type 0 where
  pub here : option_map (λ (i : Inst A). i.kind) (inst_at p place.func.index place.block.index place.index) ≡ Some kind
  pub known : AllByRecursion (λ r. IsKnown p (names_of p place.func.index) r.operand) (inst_reads kind)
  pub target : IsTarget (names_of p place.func.index) (inst_target kind)

pub reads_there : {A : Type 0} (p : Program A) (place : Place) (slots : List (Option ℕ)) (f : Frame) (at : IsAtPlace p place slots f) (inst : Inst A) → IsRuled p → slice_get at.block.insts place.index ≡ Some inst → Reads p place inst.kind
reads_there {A} p place slots f at inst ruled here =
    let ns = names_of p place.func.index in
    let found : inst_at p place.func.index place.block.index place.index ≡ Some inst = ap (λ (b : Option (Block A)). inst_in b place.index) (block_there p place slots f at) ∙ here in
    let has : HasAll ns (inst_names inst) = inst-has ns at.block place.index inst here (names_have p place slots f at) in
    let behind = flat_map (λ (r : Read). operand_names r.operand) (inst_reads inst.kind) in
    record {
      here = ap (option_map (λ (i : Inst A). i.kind)) found;
      known = all_known p ns (inst_reads inst.kind) (ruled.insts place.func.index place.block.index place.index inst found) (HasAll-right ns (target_names (inst_target inst.kind)) behind has);
      target = target_there ns (inst_target inst.kind) (HasAll-left ns (target_names (inst_target inst.kind)) behind has);
    }

-- with values it is the one that the code reads
pub inst_there : {A : Type 0} (p : Program A) (place : Place) (slots : List (Option ℕ)) (f : Frame) (at : IsAtPlace p place slots f) (number : NumberedInst A) (kind : InstKind A) (vs : List ℕ) → Reads p place kind
    → number ≡ kind_of p (names_of p place.func.index) kind → vals p f.temps (inst_reads kind) ≡ Ok vs → IsInst p place slots number kind vs
inst_there p place slots f at number kind vs reads is e = record {
  here = reads.here;
  number = is;
  known = reads.known;
  target = reads.target;
  values = (λ j. vals p (sym at.temps_are j) (inst_reads kind)) ∙ e;
}

-- ---- the jump

kept_ruled : {A : Type 0} (p : Program A) (to : Target) (b : Bool) (q : PhiSource) (kept : List PhiSource) → HasAddress p q.value → AllByRecursion (λ (m : step.PhiMove). HasAddress p m.value) (map (given to) kept)
    → AllByRecursion (λ (m : step.PhiMove). HasAddress p m.value) (map (given to) (if b then q ∷ kept else kept))
kept_ruled p to true q kept one all = (one, all)
kept_ruled p to false q kept one all = all

sources_ruled : {A : Type 0} (p : Program A) (left : Name) (to : Target) (qs : List PhiSource) → AllByRecursion (λ q. HasAddress p q.value) qs
    → AllByRecursion (λ (m : step.PhiMove). HasAddress p m.value) (map (given to) (filter (λ q. bytes_eq q.label left) qs))
sources_ruled p left to [] all = tt
sources_ruled p left to (q ∷ qs) all = kept_ruled p to (bytes_eq q.label left) q (filter (λ (x : PhiSource). bytes_eq x.label left) qs) all.0 (sources_ruled p left to qs all.1)

both_ruled : {A : Type 0} (p : Program A) (ms ks : List step.PhiMove) → AllByRecursion (λ m. HasAddress p m.value) ms → AllByRecursion (λ m. HasAddress p m.value) ks → AllByRecursion (λ m. HasAddress p m.value) (ms ++ ks)
both_ruled p [] ks one other = other
both_ruled p (m ∷ ms) ks one other = (one.0, both_ruled p ms ks one.1 other)

phis_ruled : {A : Type 0} (p : Program A) (left : Name) (phis : List (Phi A)) → AllByRecursion (PhiIsRuled p) phis → AllByRecursion (λ m. HasAddress p m.value) (flat_map (phi_moves left) phis)
phis_ruled p left [] all = tt
phis_ruled p left (phi ∷ phis) all = both_ruled p (phi_moves left phi) (flat_map (phi_moves left) phis) (sources_ruled p left phi.target phi.sources all.0) (phis_ruled p left phis all.1)

moves_known : {A : Type 0} (p : Program A) (ns : List Name) (ms : List step.PhiMove) → AllByRecursion (HasMove ns) ms → AllByRecursion (λ m. HasAddress p m.value) ms → AllByRecursion (IsMove p ns) ms
moves_known p ns [] has all = tt
moves_known p ns (m ∷ ms) has all = ((known_of p ns m.value all.0 has.0.1, among-has ns m.target.name has.0.0), moves_known p ns ms has.1 all.1)

leads : {A : Type 0} (p : Program A) (place : Place) (slots : List (Option ℕ)) (f : Frame) (at : IsAtPlace p place slots f) (l : Name) → IsRuled p → KnowsLabels p → IsAmong l (jump_labels at.block.jump.kind) → Leads p place at.func at.block l
leads {A} p place slots f at l ruled knows among =
    let i = place.func.index in
    let ns = names_of p i in
    let known = knows.known i at.func place.block.index at.block l at.func_is at.block_is among in
    let has : Has (labels_in at.func.blocks) l = has-among (labels_in at.func.blocks) l known.0 known.1 in
    let d = label-found at.func.blocks l has.0 has.1 in
    let number : number_in (labels_in at.func.blocks) l ≡ has.0 = ap (λ o. unwrap_or o 0) has.1 in
    let there : block_at p i (number_in (labels_in at.func.blocks) l) ≡ Some d.block = ap (λ (o : Option (Func A)). block_in o (number_in (labels_in at.func.blocks) l)) at.func_is ∙ ap (slice_get at.func.blocks) number ∙ d.there in
    let there_number : block_at p i has.0 ≡ Some d.block = ap (λ (o : Option (Func A)). block_in o has.0) at.func_is ∙ d.there in
    let target_has : HasAll ns (block_names d.block) = subst (λ ms. HasAll ms (block_names d.block)) (sym (names_here p i at.func at.func_is)) (block-has at.func has.0 d.block d.there) in
    record {
      target = d.block;
      edge = record {
        func_is = at.func_is;
        left_is = block_there p place slots f at;
        found = d.found;
        there = there;
        moves_are = ap (λ (o : Option (Block A)). moves_into p ns at.block.label o) d.found ∙ moves-of-tree p ns at.block.label d.block.phis;
        single = ruled.single i place.block.index at.func at.block d.block l at.func_is at.block_is among d.found;
        known = moves_known p ns (moves_from at.block d.block) (recursion_from_All (HasMove ns) (moves_from at.block d.block) (moves-have ns at.block.label d.block target_has)) (phis_ruled p at.block.label d.block.phis (ruled.phis i has.0 d.block there_number));
      };
    }

pub jump_there : {A : Type 0} (p : Program A) (place : Place) (slots : List (Option ℕ)) (f : Frame) (at : IsAtPlace p place slots f) (jump : NumberedJump A) → IsRuled p → KnowsLabels p → slice_get at.block.insts place.index ≡ None
    → jump ≡ jump_of p at.func.blocks (names_of p place.func.index) at.block.label at.block.jump.kind → IsJump p place jump at.func at.block
jump_there p place slots f at jump ruled knows end is = record {
  func_is = at.func_is;
  left_is = block_there p place slots f at;
  end = end;
  number = is;
  known = jump_known p (names_of p place.func.index) at.block.jump.kind (ruled.jumps place.func.index place.block.index at.block (block_there p place slots f at)) (jump-has (names_of p place.func.index) at.block (names_have p place slots f at));
  edges = λ l among. leads p place slots f at l ruled knows among;
}
