-- That a word is no text is no failure yet, by hand: where it is one, there is more to show.
use Rattle.qil_options.proofs.command_line.words.Goals as goal

pub returns-in-Err-2 : goal.returns-in-Err-2
returns-in-Err-2 g c = tt
