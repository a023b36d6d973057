-- Answers to the goals of `open_copies`.
use Rattle.std.proofs.Common.{◌∙◌, refl, sym, ap, ℕ, Option, false}
use Rattle.qil_semantics.specs.Timeline.{begun}
use Rattle.qil_state.specs.State.{state_of}
use Rattle.qrev_recorder.specs.Record.{moves_want_memory, setup_of}
use Rattle.qrev_recorder.proofs.Beginnings.{is_beginning}
use Rattle.qrev_adapter.proofs.opening.open_copies.Goals as goal

pub open_copying-requires : goal.open_copying-requires
open_copying-requires g c =
    let started = c.requires.begins in
    λ lifetimes. (
      (refl, tt),
      (
        c.requires.limit,
        is_beginning (setup_of c.args.opening) c.args.loaded.now started.verdict (state_of (c.args.machine.present.whole)) _ _ _ false (sym (ap moves_want_memory c.requires.copies)) started.begins started.loaded_is c.in-Ok.ensures.opened
            (c.in-Ok.ensures.program ∙ started.program)
            (c.in-Ok.ensures.begun ∙ ap (λ (keeps : Option ℕ). begun keeps (state_of (c.args.machine.present.whole))) (sym c.requires.bound)),
      ),
    )
