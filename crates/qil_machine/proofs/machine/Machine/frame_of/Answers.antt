-- By hand, as a search takes five seconds to find them: what the arguments pass is that of the innermost frame, which a new frame leaves as it was.
use Rattle.std.proofs.Common.{◌≡◌, ◌∙◌, ℕ, List, [], ◌∷◌, length, replicate, Option, Some, None, refl, sym, ap, subst, All, Bor}
use Rattle.std.specs.Prelude.{slice_get}
use Rattle.std.proofs.lemmas.List.{length-replicate, length-map}
use Rattle.qil_symbols.specs.Numbers.{names_of}
use Rattle.qil_tree.specs.declared.ops.AbiType.{AbiType}
use Rattle.qil_code.specs.declared.numbered.Slot.{Slot}
use Rattle.qil_code.specs.declared.numbered.Receiver.{Receiver}
use Rattle.qil_code.specs.declared.numbered.NumberedArgument.{NumberedArgument}
use Rattle.qil_code.specs.Ranges.{InRange}
use Rattle.qil_frames.specs.Frames.{SlotFrame, HasFrame}
use Rattle.qil_state.specs.Beginning.{begun_slots, passed_values}
use Rattle.qil_state.proofs.Place.{none_some, some_same}
use Rattle.qil_machine.specs.Calls.{HasArguments, head_passed}
use Rattle.qil_machine.proofs.machine.Machine.frame_of.Goals as goal
use Rattle.qil_machine.proofs.machine.Machine.frame_of.Goals.{in-Ok, in-Err}

has_frame : (fs : List SlotFrame) (args : List NumberedArgument) → HasArguments fs args → HasFrame fs
has_frame [] args has = has
has_frame (f ∷ fs) args has = tt

has_arguments : (fs : List SlotFrame) (f : SlotFrame) (args : List NumberedArgument) → slice_get fs 0 ≡ Some f → HasArguments fs args → All (λ a. InRange (length f.slots) a.source) args
has_arguments [] f args at has = absurd has
has_arguments (g ∷ gs) f args at has = subst (λ (h : SlotFrame). All (λ a. InRange (length h.slots) a.source) args) (some_same g f at) has

passes : (fs : List SlotFrame) (f : SlotFrame) (args : List NumberedArgument) → slice_get fs 0 ≡ Some f → passed_values f.slots args ≡ head_passed fs args
passes [] f args at = none_some at
passes (g ∷ gs) f args at = ap (λ (h : SlotFrame). passed_values h.slots args) (sym (some_same g f at))

counted : (names : List (Bor (List ℕ))) (temps : List (List ℕ)) → names_of names ≡ temps → length names ≡ length temps
counted names temps are = sym (length-map names (λ key. key.now)) ∙ ap length are

begun : (f g : SlotFrame) (func floor t n m : ℕ) (to : Option Receiver) (ps qs : List (Slot × AbiType)) (vs ws : List ℕ) → g ≡ record f { slots = begun_slots ps vs f.slots }
    → f ≡ record { func = func; block = 0; index = 0; slots = replicate n None; floor = floor; result = to } → ps ≡ qs → vs ≡ ws → n ≡ m → floor ≡ t
    → g ≡ record { func = func; block = 0; index = 0; slots = begun_slots qs ws (replicate m None); floor = t; result = to }
begun f g func floor t n m to ps qs vs ws set begin ep ev en et = subst (λ (h : SlotFrame). g ≡ record h { slots = begun_slots ps vs h.slots }) begin set ∙ rw (ep, ev, en, et) refl

pub innermost-requires : goal.innermost-requires
innermost-requires g c = rw c.begin.ensures.same (rw (ap (λ w. w.frames) c.self.view_is) (has_frame c.args.self.now.frames c.args.args.now c.requires.args))

pub pass-requires-clause-params : goal.pass-requires-clause-params
pass-requires-clause-params g c =
    let long : length c.in-Ok.frame.slots ≡ length c.args.found.now.temps = ap (λ (f : SlotFrame). length f.slots) c.in-Ok.ensures.frame ∙ length-replicate (length c.names.result.now) None ∙ counted c.names.result.now c.args.found.now.temps c.names.ensures in
    rw (c.as_slice.ensures, long) c.requires.params

pub pass-requires-clause-args : goal.pass-requires-clause-args
pass-requires-clause-args g c =
    rw c.slots-slots.ensures.value
    (has_arguments c.begin.new.self c.innermost.result.now c.args.args.now c.innermost.ensures
    (subst (λ fs. HasArguments fs c.args.args.now) (sym (c.begin.ensures.same ∙ ap (λ w. w.frames) c.self.view_is)) c.requires.args))

pub pass-requires-clause-same : goal.pass-requires-clause-same
pass-requires-clause-same g c = rw c.as_slice.ensures c.requires.same

pub invariant_of-self : goal.invariant_of-self
invariant_of-self g c = rw c.begin.ensures.same c.self.invariant

pub returns-clause-frame : goal.returns-clause-frame
returns-clause-frame g c = elim c.match-begin.branch [
  | in-Ok w ↦ rw w.result-is
      (begun w.in-Ok.frame w.pass.new.frame c.args.func.index c.top-top.result c.args.self.now.memory.top (length c.names.result.now) (length c.args.found.now.temps) c.args.to w.as_slice.result.now c.args.found.now.code.params
      (passed_values w.slots-slots.result.now c.args.args.now) (head_passed c.args.self.now.frames c.args.args.now) w.pass.ensures w.in-Ok.ensures.frame w.as_slice.ensures
      (ap (λ s. passed_values s c.args.args.now) w.slots-slots.ensures.value ∙ passes c.begin.new.self w.innermost.result.now c.args.args.now w.innermost.ensures
      ∙ ap (λ fs. head_passed fs c.args.args.now) (c.begin.ensures.same ∙ ap (λ w. w.frames) c.self.view_is))
      (counted c.names.result.now c.args.found.now.temps c.names.ensures)
      (c.top-top.ensures.value ∙ ap (λ w. w.memory.top) c.self.view_is))
  | in-Err w ↦ rw w.result-is tt
]

pub returns-clause-same : goal.returns-clause-same
returns-clause-same g c = rw c.begin.ensures.same c.self.view_is
