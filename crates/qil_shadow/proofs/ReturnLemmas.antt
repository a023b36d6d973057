-- A return by number is by names the one of the definition, where the call's receiver is that of its frame.
use Rattle.std.proofs.Common.{◌≡◌, ◌∙◌, sym, ap, refl, ℕ, List, [], ◌∷◌, length, map, Option, Some, None, option_map}
use Rattle.qil_tree.specs.declared.tree.CallResult.{CallResult}
use Rattle.qil_tree.specs.declared.tree.Program.{Program}
use Rattle.qil_semantics.specs.State.{Frame}
use Rattle.qil_code.specs.declared.numbered.Receiver.{Receiver}
use Rattle.qil_code.specs.Numbered.{names_of, receiver_of}
use Rattle.qil_code.proofs.Has.{has-among}
use Rattle.qil_shadow.specs.declared.origin.Origin.{Origin}
use Rattle.qil_shadow.specs.declared.shadow.Shadow.{Shadow}
use Rattle.qil_shadow.specs.Objects as objects
use Rattle.qil_shadow.specs.Shadowed.{taken_by, returns}
use Rattle.qil_shadow.specs.Spots.{origins_in}
use Rattle.qil_shadow.specs.Stack.{CallShadow, callers_of}
use Rattle.qil_shadow.specs.Calls.{taken, left_calls, with_return}
use Rattle.qil_shadow.specs.Table.{ends_with}
use Rattle.qil_shadow.specs.Numbered.{object_named, frames_by}
use Rattle.qil_shadow.specs.Reads.{innermost}
use Rattle.qil_shadow.specs.Kept.{KeepsButCalls}
use Rattle.qil_shadow.specs.Instructions.{named, AreCalls}
use Rattle.qil_shadow.specs.Returns.{IsTaker, IsCalled}
use Rattle.qil_shadow.proofs.ObjectsByName.{ends_with_named}
use Rattle.qil_shadow.proofs.InstLemmas.{set_frames}
use Rattle.qil_shadow.proofs.AllocLemmas.{deep_frames}

-- what the caller takes
taken_named : {A : Type 0} (p : Program A) (j : ℕ) (fs : List ℕ) (result : Option CallResult) (receiver : Option Receiver) (m : Origin) (d : CallShadow) (cs : List CallShadow) → length (names_of p j) ≡ length d.origins
    → IsTaker (names_of p j) result → receiver ≡ option_map (receiver_of (names_of p j)) result
    → frames_by p (j ∷ fs) (taken receiver m (d ∷ cs)) ≡ taken_by (frames_by p (j ∷ fs) (d ∷ cs)) result m
taken_named p j fs None receiver m d cs slots among is = ap (λ r. frames_by p (j ∷ fs) (taken r m (d ∷ cs))) is
taken_named p j fs (Some to) receiver m d cs slots among is =
    ap (λ r. frames_by p (j ∷ fs) (taken r m (d ∷ cs))) is
    ∙ set_frames p j fs (d ∷ cs) (receiver_of (names_of p j) to).slot to.name m slots (has-among (names_of p j) to.name among.0 among.1) refl

left_named : {A : Type 0} (p : Program A) (i j : ℕ) (fs : List ℕ) (f : Frame) (m : Origin) (cs : List CallShadow) → AreCalls p (i ∷ (j ∷ fs)) cs → IsCalled p j f cs
    → frames_by p (j ∷ fs) (left_calls m cs) ≡ taken_by (frames_by p (j ∷ fs) (callers_of cs)) f.result m
left_named p i j fs f m [] are is = absurd are
left_named p i j fs f m (c ∷ []) are is = absurd are.1
left_named p i j fs f m (c ∷ (d ∷ cs)) are is = taken_named p j fs f.result c.receiver m d cs are.1.0 is.taker is.receiver

pub return_named : {A : Type 0} (p : Program A) (i j : ℕ) (fs : List ℕ) (f : Frame) (was now : Shadow A) (m : Origin) → AreCalls p (i ∷ (j ∷ fs)) was.calls.calls → IsCalled p j f was.calls.calls
    → now.calls ≡ with_return was.calls was.position m → KeepsButCalls was now
    → named p (j ∷ fs) now ≡ returns f (named p (i ∷ (j ∷ fs)) was) (innermost p i was.calls.calls) (frames_by p (j ∷ fs) (callers_of was.calls.calls)) m
return_named {A} p i j fs f was now m are is calls keeps =
    let cs = was.calls.calls in
    let os = was.calls.objects.objects in
    let ts = frames_by p (j ∷ fs) (callers_of cs) in
    let frames : frames_by p (j ∷ fs) (left_calls m cs) ≡ taken_by ts f.result m = left_named p i j fs f m cs are is in
    let ended : map (object_named p) (map (ends_with (length cs) was.position) os) ≡ map (objects.ends_with (length (innermost p i cs ∷ ts)) was.position) (map (object_named p) os) =
    sym (ends_with_named p (length cs) was.position os)
    ∙ ap (λ n. map (objects.ends_with n was.position) (map (object_named p) os)) (deep_frames p i (j ∷ fs) cs (innermost p i cs) are) in
    (λ k. record { frames = frames_by p (j ∷ fs) (calls k).calls; bytes = origins_in (keeps.memory_is k); objects = map (object_named p) (calls k).objects.objects; position = keeps.position_is k })
    ∙ (λ k. record { frames = frames k; bytes = origins_in was.memory; objects = ended k; position = was.position })
