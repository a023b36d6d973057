-- Answers to the goals of `put_frame`.
use Rattle.std.proofs.Common.{refl, subst, ℕ, append_assoc, codes, decimal, [], ◌∷◌, ◌++◌}
use Rattle.json.specs.Token.{key, number, end_object}
use Rattle.qil_state.specs.State.{frame_state}
use Rattle.qrev_views.specs.Frames.{frame_head}
use Rattle.qrev_views.specs.Sources.{origin_of, IsShownAt}
use Rattle.qrev_views.proofs.frames.put_frame.Goals as goal

pub returns : goal.returns
returns g c = λ callers.
    let placed = c.in_ok-item-2.ensures in (
      frame_head c.args.number (frame_state c.args.code.now callers c.args.frame.now) ++ (placed.0 ++ key (codes "column") ∷ number (decimal c.from.result) ∷ end_object ∷ []),
      (placed.0, c.from.result, subst (λ (line : ℕ). IsShownAt c.args.shown (origin_of c.args.source_map line) line placed.0) c.line_of_frame-line.ensures placed.1, refl),
      rw (
        c.in_ok-list.ensures,
        placed.2,
        c.in_ok-item.ensures,
        append_assoc,
        append_assoc,
        c.as_str.ensures.value,
        c.in_ok-name.ensures callers,
      ) refl,
    )
