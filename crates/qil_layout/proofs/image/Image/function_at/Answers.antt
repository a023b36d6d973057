-- The first built-in that lies at the address is what is there.
use Rattle.std.proofs.Common.{refl}
use Rattle.qil_layout.proofs.image.Image.function_at.Goals as goal

pub returns-then-lies : goal.returns-then-lies
returns-then-lies g c = rw (← c.lies.ensures, c.if-lies.true) refl

pub returns-then-lies-2 : goal.returns-then-lies-2
returns-then-lies-2 g c = rw (← c.lies.ensures, c.if-lies.false, ← c.lies-2.ensures, c.if-lies-2.true) refl

pub returns-then-lies-3 : goal.returns-then-lies-3
returns-then-lies-3 g c = rw (← c.lies.ensures, c.if-lies.false, ← c.lies-2.ensures, c.if-lies-2.false, ← c.lies-3.ensures, c.if-lies-3.true) refl
