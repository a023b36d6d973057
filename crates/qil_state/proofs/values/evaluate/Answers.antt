-- Each expression has the value that the function of its shape gives.

use Rattle.qil_memory.specs.Live.{live}
use Rattle.qil_state.proofs.values.evaluate.Goals as goal

pub returns-in-Unary : goal.returns-in-Unary
returns-in-Unary g c p ns are = rw c.in-Unary.is (c.unary_value.ensures p (live c.args.memory.now) ns are)

pub returns-in-Binary : goal.returns-in-Binary
returns-in-Binary g c p ns are = rw c.in-Binary.is (c.binary_value.ensures p (live c.args.memory.now) ns are)

pub returns-in-Compare : goal.returns-in-Compare
returns-in-Compare g c p ns are = rw c.in-Compare.is (c.compare_value.ensures p (live c.args.memory.now) c.args.class ns are)

pub returns-in-Extend : goal.returns-in-Extend
returns-in-Extend g c p ns are = rw c.in-Extend.is (c.extend_value.ensures p (live c.args.memory.now) c.args.class ns are)

pub returns-in-Load : goal.returns-in-Load
returns-in-Load g c p ns are = rw c.in-Load.is (c.load_value.ensures p c.args.class ns are)
