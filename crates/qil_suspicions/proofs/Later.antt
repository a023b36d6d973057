-- The shadow after a step is one move later.
use Rattle.std.proofs.Common.{◌≡◌, ◌∙◌, refl, ap, ℕ, ◌+◌, List, [], ◌∷◌, Option, Some, None, Ok, Err}
use Rattle.std.specs.Prelude.{slice_get}
use Rattle.qil_tree.specs.declared.tree.Argument.{Argument}
use Rattle.qil_tree.specs.declared.tree.CallResult.{CallResult}
use Rattle.qil_tree.specs.declared.tree.InstKind.{InstKind}
use Rattle.qil_tree.specs.declared.tree.InstKind.TheVariants as insts
use Rattle.qil_tree.specs.declared.tree.JumpKind.{JumpKind}
use Rattle.qil_tree.specs.declared.tree.JumpKind.TheVariants as jumps
use Rattle.qil_tree.specs.declared.tree.Block.{Block}
use Rattle.qil_tree.specs.declared.tree.Func.{Func}
use Rattle.qil_tree.specs.declared.tree.Program.{Program}
use Rattle.qil_memory.specs.qil_rules.Operands.{inst_reads}
use Rattle.qil_memory.specs.qil_layout.declared.callee.Callee.{Callee}
use Rattle.qil_memory.specs.qil_layout.declared.callee.Callee.TheVariants.{Defined, PutChar, Puts, Exit}
use Rattle.qil_memory.specs.qil_layout.Callee.{callee_at}
use Rattle.qil_semantics.specs.State.{Name, Frame, State}
use Rattle.qil_semantics.specs.Values.{Outcome, vals, first}
use Rattle.qil_semantics.specs.Step.{block_labelled}
use Rattle.qil_shadow.specs.Next.{Next, nothing, inst, jump, next_of}
use Rattle.qil_shadow.specs.Shadow.{Origins, Shadow}
use Rattle.qil_shadow.specs.Shadowed.{enters, calls, acts, enters_block, goes, leaves, acts_on, does, shadowed_in, shadowed}

entered : {A : Type 0} (p : Program A) (sh : Shadow) (t : Origins) (ts : List Origins) (args : List Argument) (o : Option (Func A)) → (enters p sh t ts args o).position ≡ sh.position
entered p sh t ts args (Some func) = refl
entered p sh t ts args None = refl

called : {A : Type 0} (p : Program A) (sh : Shadow) (t : Origins) (ts : List Origins) (to : Option CallResult) (args : List Argument) (o : Option Callee) → (calls p sh t ts to args o).position ≡ sh.position
called p sh t ts to args (Some (Defined id)) = entered p sh t ts args (slice_get p.funcs id.index)
called p sh t ts to args (Some PutChar) = refl
called p sh t ts to args (Some Puts) = refl
called p sh t ts to args (Some Exit) = refl
called p sh t ts to args None = refl

acted : {A : Type 0} (p : Program A) (s : State) (f : Frame) (sh : Shadow) (t : Origins) (ts : List Origins) (kind : InstKind A) (vs : List ℕ) → (acts p s f sh t ts kind vs).position ≡ sh.position
acted p s f sh t ts (insts.Assign to e) vs = refl
acted p s f sh t ts (insts.Alloc to op n) vs = refl
acted p s f sh t ts (insts.Store w a b) vs = refl
acted p s f sh t ts (insts.Blit a b n) vs = refl
acted p s f sh t ts (insts.Call to callee args) vs = called p sh t ts to args (callee_at p (first vs))

acted_on : {A : Type 0} (p : Program A) (s : State) (f : Frame) (sh : Shadow) (t : Origins) (ts : List Origins) (kind : InstKind A) (o : Outcome (List ℕ)) → (acts_on p s f sh t ts kind o).position ≡ sh.position
acted_on p s f sh t ts kind (Ok vs) = acted p s f sh t ts kind vs
acted_on p s f sh t ts kind (Err why) = refl

block_entered : {A : Type 0} (p : Program A) (f : Frame) (sh : Shadow) (t : Origins) (ts : List Origins) (o : Option (Block A)) → (enters_block p f sh t ts o).position ≡ sh.position
block_entered p f sh t ts (Some b) = refl
block_entered p f sh t ts None = refl

left : {A : Type 0} (p : Program A) (s : State) (f : Frame) (sh : Shadow) (t : Origins) (ts : List Origins) (func : Func A) (kind : JumpKind) → (leaves p f sh t ts func kind).position ≡ sh.position
left p s f sh t ts func (jumps.Jmp l) = block_entered p f sh t ts (block_labelled func.blocks l)
left p s f sh t ts func (jumps.Jnz a l m) = block_entered p f sh t ts (block_labelled func.blocks _)
left p s f sh t ts func (jumps.Ret None) = refl
left p s f sh t ts func (jumps.Ret (Some a)) = refl
left p s f sh t ts func jumps.Hlt = refl

done : {A : Type 0} (p : Program A) (s : State) (f : Frame) (sh : Shadow) (t : Origins) (ts : List Origins) (n : Next A) → (does p s f sh t ts n).position ≡ sh.position
done p s f sh t ts nothing = refl
done p s f sh t ts (inst kind) = acted_on p s f sh t ts kind (vals p f.temps (inst_reads kind))
done p s f sh t ts (jump func kind) = left p s f sh t ts func kind

shadowed_here : {A : Type 0} (p : Program A) (s : State) (sh : Shadow) (fs : List Frame) (ts : List Origins) → (shadowed_in p s sh fs ts).position ≡ sh.position
shadowed_here p s sh [] ts = refl
shadowed_here p s sh (f ∷ fs) [] = refl
shadowed_here p s sh (f ∷ fs) (t ∷ ts) = done p s f sh t ts (next_of p f)

pub one_later : {A : Type 0} (p : Program A) (s : State) (sh : Shadow) → (shadowed p s sh).position ≡ sh.position + 1
unfolding shadowed
one_later p s sh = ap (λ n. n + 1) (shadowed_here p s sh s.frames sh.frames)
