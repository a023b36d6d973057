-- The goals of `call_faults_in_order` that the check leaves open.
use Rattle.qil_semantics.proofs.laws.call_faults_in_order.Goals as goal
use Rattle.qil_semantics.proofs.CallLemmas.{no_function_first, shape_before_depth, depth_last}

pub returns-clause-no_function : goal.returns-clause-no_function
returns-clause-no_function g c p s f fs to args a vs h = no_function_first p s f fs to args a vs h

pub returns-clause-shape : goal.returns-clause-shape
returns-clause-shape g c s f fs to args vs func h = shape_before_depth s f fs to args vs func h

pub returns-clause-depth : goal.returns-clause-depth
returns-clause-depth g c s f fs to args vs func h d = depth_last s f fs to args vs func h d
