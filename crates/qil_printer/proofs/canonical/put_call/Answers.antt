-- Answers to the goals of `put_call`.
use Rattle.std.proofs.Common.{[], ◌∷◌}
use Rattle.qil_printer.specs.Canonical.{call_words, arguments_words, close_paren}
use Rattle.qil_printer.proofs.CanonicalLemmas.{words_put, words_stop}
use Rattle.qil_printer.proofs.canonical.put_call.Goals as goal

pub returns-in_err-put_called : goal.returns-in_err-put_called
returns-in_err-put_called g c = words_stop (call_words c.args.target.now c.args.callee.now) _ _ _ c.from_residual.ensures.1 _ _ _ c.in_err-put_called.ensures

pub returns-in_err-put_arguments : goal.returns-in_err-put_arguments
returns-in_err-put_arguments g c = words_put (call_words c.args.target.now c.args.callee.now) _ _ _ _ _ _ c.in_ok-put_called.ensures (words_stop (arguments_words c.args.arguments.now) (close_paren ∷ []) _ _ c.from_residual-in_err-put_arguments.ensures.1 _ _ _ c.in_err-put_arguments.ensures)

pub returns : goal.returns
returns g c = words_put (call_words c.args.target.now c.args.callee.now) _ _ _ _ _ _ c.in_ok-put_called.ensures (words_put (arguments_words c.args.arguments.now) (close_paren ∷ []) _ _ _ _ _ c.in_ok-put_arguments.ensures c.put.ensures)
