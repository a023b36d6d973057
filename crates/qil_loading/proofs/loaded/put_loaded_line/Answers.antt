-- Answers to the goals of `put_loaded_line`.
use Rattle.qil_loading.proofs.loaded.put_loaded_line.Goals as goal

pub returns-in-Multiple : goal.returns-in-Multiple
returns-in-Multiple g c = rw c.in-Multiple.is (rw (c.bytes.ensures, c.bytes-in-Multiple.ensures) at c.put_fragments-in-Multiple.ensures)
