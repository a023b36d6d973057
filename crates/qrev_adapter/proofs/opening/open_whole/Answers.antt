-- Answers to the goals of `open_whole`.
use Rattle.std.proofs.Common.{◌∙◌, refl, sym, ap, ℕ, Option, true}
use Rattle.qil_semantics.specs.Timeline.{begun}
use Rattle.qil_state.specs.State.{state_of}
use Rattle.qrev_recorder.specs.Record.{moves_want_memory, setup_of}
use Rattle.qrev_recorder.proofs.Beginnings.{is_beginning}
use Rattle.qrev_adapter.proofs.opening.open_whole.Goals as goal

pub open_session-requires : goal.open_session-requires
open_session-requires g c =
    let started = c.requires.begins in
    λ lifetimes. (
      (refl, tt),
      (
        c.requires.limit,
        is_beginning (setup_of c.args.opening) c.args.loaded.now started.verdict (state_of c.args.machine) _ _ _ true (sym (ap moves_want_memory c.requires.records)) started.begins started.loaded_is c.in-Ok.ensures
            (c.new.ensures.program ∙ started.program)
            (c.new.ensures.begun ∙ ap (λ (keeps : Option ℕ). begun keeps (state_of c.args.machine)) (sym c.requires.bound)),
      ),
    )
