-- Each move goes one further on the way.
use Rattle.std.proofs.Common.{◌≡◌, arith, ◌∙◌, ap, refl, false, []}
use Rattle.qil_semantics.specs.Timeline.{forward, at_end}
use Rattle.qil_stops.proofs.OnWay.{on-begun, on-more, on-position, none-stopped, not_true}
use Rattle.qil_stops.proofs.running.run_freely.Goals as goal

pub loop-made-init : goal.loop-made-init
loop-made-init g c = record { program = refl; way = on-begun (g.H.History.program c.args.history.now) [] (g.H.History.timeline c.args.history.now) }

pub forward-requires : goal.forward-requires
forward-requires g c =
    let i = c.loop-made.invariant in
    let at = on-position (g.H.History.program c.args.history.now) [] c.loop-made.made (g.H.History.timeline c.args.history.now) (g.H.History.timeline c.loop-made.history) i.way in
    omega (arith, at)

pub loop-made-preserved : goal.loop-made-preserved
loop-made-preserved g c =
    let i = c.loop-made.invariant in
    let now = g.H.History.timeline c.loop-made.history in
    let new = g.H.History.timeline c.forward.new.self in
    let goes : at_end now ≡ false = not_true (at_end now) (λ e. let w = c.in-Ok.ensures.end.1 e in absurd cc) in
    let f = c.in-Ok.ensures.ok ∙ ap (λ p. forward p now) i.program in
    record {
      program = c.in-Ok.ensures.program ∙ i.program;
      way = on-more (g.H.History.program c.args.history.now) [] c.loop-made.made (g.H.History.timeline c.args.history.now) now new i.way goes f (none-stopped now.now new.now);
    }
