-- The history is moved to the place, unless memory ran out on the way.
use Rattle.std.specs.Prelude.{None}
use Rattle.std.proofs.Common.{◌≡◌, ◌+◌, ◌<◌, ◌≤◌, ◌^◌, ◌∙◌, refl, sym, ap, subst, arith, [], ◌≢◌}
use Rattle.std.proofs.lemmas.Bool.{true≢false}
use Rattle.qil_tree.specs.declared.tree.Program.{Program}
use Rattle.qil_semantics.specs.Timeline.{Timeline, moved, position}
use Rattle.qil_semantics.specs.declared.reason.Reason.{Reason}
use Rattle.qil_semantics.specs.declared.reason.Reason.TheVariants.{Memory}
use Rattle.qil_stops.specs.Named.{named_stops}
use Rattle.qil_compare.proofs.Walking.{position_at}
use Rattle.qil_comparison.specs.Compared.{session_on}
use Rattle.qil_comparison.specs.Handed.{IsServedAt}
use Rattle.qil_comparison.proofs.Comparisons.{unserved, few_none}
use Rattle.qil_comparison.proofs.Reporting.{none_named, runs_all, served_there}
use Rattle.qil_comparison.proofs.sessions.serve_moved.Goals as goal

pub run-reason-requires : goal.run-reason-requires
run-reason-requires g c =
    let start = c.requires.start in
    let moves = c.requires.moves in
    let near : position (g.H.Runs.timeline c.args.history) + c.args.moves ≤ 2 ^ 62 = omega (arith, start, moves) in
    let few : 0 ≤ 64 = omega arith in
    record { near = near; few = few; readable = tt }

pub returns-then-is_memory-clause-served : goal.returns-then-is_memory-clause-served
returns-then-is_memory-clause-served g c = unserved c.args.told (session_on g.H.Runs.wants_memory (g.H.Runs.program c.args.history) (moved (g.H.Runs.program c.args.history) c.args.moves (g.H.Runs.timeline c.args.history)) c.args.request.now.limit)
    (g.S.Source.remaining c.args.source.now) None _ _ refl

pub returns-then-is_memory-clause-few : goal.returns-then-is_memory-clause-few
returns-then-is_memory-clause-few g c = few_none (g.S.Source.remaining c.args.source.now)

pub serve_at-requires : goal.serve_at-requires
serve_at-requires g c κs =
    let spared : c.run-reason.result.0 ≢ Memory = λ e. true≢false (sym (c.is_memory.ensures.1 e) ∙ c.if-is_memory.false) in
    let p = g.H.Runs.program c.args.history in
    let t = g.H.Runs.timeline c.args.history in
    let u = g.H.Runs.timeline c.run-reason.new.self in
    let all = runs_all p (named_stops p []) c.args.moves t u c.run-reason.result.0 c.run-reason.result.1 (none_named p) c.run-reason.ensures.run spared c.requires.goes in
    let at = position_at p c.args.moves t u all in
    let start = c.requires.start in
    let moves = c.requires.moves in
    ((refl, tt), (c.requires.reads, (c.requires.writes, (omega (arith, at, start, moves), c.requires.limit))))

pub returns-clause-served : goal.returns-clause-served
returns-clause-served g c =
    let spared : c.run-reason.result.0 ≢ Memory = λ e. true≢false (sym (c.is_memory.ensures.1 e) ∙ c.if-is_memory.false) in
    let p = g.H.Runs.program c.args.history in
    let t = g.H.Runs.timeline c.args.history in
    let u = g.H.Runs.timeline c.run-reason.new.self in
    let all = runs_all p (named_stops p []) c.args.moves t u c.run-reason.result.0 c.run-reason.result.1 (none_named p) c.run-reason.ensures.run spared c.requires.goes in
    served_there g.H.Runs.wants_memory (g.H.Runs.program c.run-reason.new.self) p u (moved p c.args.moves t) c.args.request.now.limit c.serve_at.result c.args.told _ _ _ _ c.run-reason.ensures.program all c.serve_at.ensures.served
