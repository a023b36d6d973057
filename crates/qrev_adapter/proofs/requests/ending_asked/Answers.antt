-- The command is the one by which an editor leaves, or another.
use Rattle.std.proofs.Common.{refl, Option}
use Rattle.std.specs.Prelude.{Some, None, codes}
use Rattle.qrev_adapter.specs.declared.requests.Ending.{Ending}
use Rattle.qrev_adapter.specs.declared.requests.Ending.TheVariants.{Terminated}
use Rattle.qrev_adapter.proofs.Words.{is_word, is_not_word, leaves_by, stays_by, no_end, not_left}
use Rattle.qrev_adapter.proofs.requests.ending_asked.Goals as goal

pub returns-then-eq : goal.returns-then-eq
returns-then-eq c =
    let command = c.args.command.now in leaves_by command (is_word command command (codes "disconnect") c.eq.result refl c.eq.ensures c.if-eq.true)

pub returns-then-eq-2 : goal.returns-then-eq-2
returns-then-eq-2 c =
    let command = c.args.command.now in
    let found : Option Ending = Some Terminated in stays_by found command (not_left found refl) (is_not_word command command (codes "disconnect") c.eq.result refl c.eq.ensures c.if-eq.false)

pub returns : goal.returns
returns c =
    let command = c.args.command.now in
    let found : Option Ending = None in stays_by found command (no_end found refl) (is_not_word command command (codes "disconnect") c.eq.result refl c.eq.ensures c.if-eq.false)
