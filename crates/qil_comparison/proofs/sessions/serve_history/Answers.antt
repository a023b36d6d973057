-- A history that goes by single moves has runs.
use Rattle.qil_comparison.proofs.sessions.serve_history.Goals as goal

pub returns-clause-served : goal.returns-clause-served
returns-clause-served g c = c.serve_moved.ensures.served
