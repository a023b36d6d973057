-- The runs over calls of a session, by which way it goes.
use Rattle.std.specs.Prelude.{ℕ}
use Rattle.qil_stops.specs.Depths.{RunsToDepth, RunsBackToDepth}
use Rattle.qil_stops.specs.declared.depth_end.DepthEnd.{DepthEnd}
use Rattle.qil_semantics.specs.Timeline.{Timeline}
use Rattle.qil_session.specs.qil_replies.SessionState.{SessionState}
use Rattle.qil_stops.specs.Named.{named_stops}
use Rattle.qrev_sessions.specs.declared.running.Way.{Way}
use Rattle.qrev_sessions.specs.declared.running.Way.TheVariants as ways

-- a run that way from a session so made k moves to a timeline, and ended for this
abbrev pub RunsBy : {A : Type 0} → Way A → SessionState A → ℕ → DepthEnd → ℕ → Timeline → Type 0
RunsBy ways.Forward s most end k t = RunsToDepth s.program (named_stops s.program s.stops.kept) most s.limit s.timeline end k t
RunsBy ways.Back s most end k t = RunsBackToDepth (named_stops s.program s.stops.kept) most s.limit s.timeline end k t
RunsBy (ways.BackPast stops) s most end k t = RunsBackToDepth (named_stops s.program stops.now.kept) most s.limit s.timeline end k t
