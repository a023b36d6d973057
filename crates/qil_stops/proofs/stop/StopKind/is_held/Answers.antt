-- A watch is never held, whatever it watches: by hand, so that another answer is refused at once.
use Rattle.std.proofs.Common.{◌≡◌, ◌∙◌, refl, sym, ap, Bool, false, Option, Some, None}
use Rattle.qil_tree.specs.declared.tree.Func.{Func}
use Rattle.qil_tree.specs.declared.tree.Program.{Program}
use Rattle.qil_semantics.specs.State.{Name, State}
use Rattle.qil_semantics.specs.Stops.{is_held}
use Rattle.qil_history.specs.qil_state.State.{state_of}
use Rattle.qil_history.specs.qil_code.Numbered.{func_at, names_of}
use Rattle.std.specs.Prelude.{slice_get}
use Rattle.qil_stops.specs.declared.stop.Watched.{Watched}
use Rattle.qil_stops.specs.declared.stop.Watched.TheVariants.{Bytes, Temp}
use Rattle.qil_stops.specs.Named.{named_kind, named_watch, watch_in, passes}
use Rattle.qil_stops.proofs.stop.StopKind.is_held.Goals as goal

no_temp : {A : Type 0} (s : State) (f : Option (Func A)) (x : Option Name) → false ≡ passes (is_held s) (watch_in f x)
no_temp s None x = refl
no_temp s (Some f) None = refl
no_temp s (Some f) (Some x) = refl

no_watch : {A : Type 0} (s : State) (p : Program A) (w : Watched) → false ≡ passes (is_held s) (named_watch p w)
no_watch s p (Bytes a n) = refl
no_watch s p (Temp func slot) = no_temp s (func_at p func.index) (slice_get (names_of p func.index) slot.index)

pub returns-in-Watch : goal.returns-in-Watch
returns-in-Watch g c =
    let s = state_of c.args.machine.now in
    let p = c.args.machine.now.program in
    no_watch s p c.in-Watch.field-0 ∙ ap (λ k. passes (is_held s) (named_kind p k)) (sym c.in-Watch.is)
