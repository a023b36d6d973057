-- The goals of `names_have_their_own` that the check leaves open.
use Rattle.qil_layout_builder.proofs.Named.{each_name, below_data, one_name, function_address, function_called}
use Rattle.qil_layout_builder.proofs.laws.names_have_their_own.Goals as goal

pub returns-clause-each : goal.returns-clause-each
returns-clause-each g c = λ p x a none e. each_name p x a none e

pub returns-clause-below : goal.returns-clause-below
returns-clause-below g c = λ p x a few i. below_data p x a few i

pub returns-clause-apart : goal.returns-clause-apart
returns-clause-apart g c = λ p x y a none low e f. one_name p x y a none low e f

pub returns-clause-function : goal.returns-clause-function
returns-clause-function g c = λ p k f i. function_address p k f i

pub returns-clause-called : goal.returns-clause-called
returns-clause-called g c = λ p k f h. function_called p k f h
