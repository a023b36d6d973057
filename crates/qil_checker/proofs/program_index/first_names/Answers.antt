-- A name that was not recorded before is recorded.
use Rattle.std.proofs.lemmas.Grind.{common_steps}
use borrow.Author.Differences.{ints}
use Rattle.std.proofs.Common.{arith, ap, ◌∙◌}
use Rattle.std.specs.Option.{option_or}
use Rattle.std.proofs.lemmas.Result.{IfOk-from_err}
use Rattle.qil_symbols.specs.Tables.{for_name}
use Rattle.qil_checker.specs.Tables.{place_in, first, has_name}
use Rattle.qil_checker.specs.Whole.{occurrences_of}
use Rattle.qil_checker.proofs.Programs.Gathered.{recorded_name, all_recorded}
use Rattle.qil_checker.proofs.program_index.first_names.Goals as goal

pub loop-number-init : goal.loop-number-init
loop-number-init g c = λ x. ap (λ o. option_or o (first (has_name x) 0 (occurrences_of c.args.texts.now))) (c.new-table.ensures x)

pub loop-number-preserved : goal.loop-number-preserved
loop-number-preserved g c = λ x.
    recorded_name c.index-texts-number.result c.args.texts.now c.loop-number.number x (place_in c.loop-number.table.places x) (place_in c.note.new.self.places x) _
    (c.loop-number.invariant x) (omega arith) c.index-texts-number.is (c.in_ok-note.ensures x ∙ ap (λ n. option_or (place_in c.loop-number.table.places x) (for_name n c.loop-number.number x)) c.bytes.ensures)

pub returns : goal.returns
returns g c = λ x. all_recorded c.args.texts.now c.loop-number.number x (place_in c.loop-number.table.places x) _ (c.loop-number.invariant x) (omega arith)

pub offset_bounds-texts-number : goal.offset_bounds-texts-number
offset_bounds-texts-number c = grind (ints, arith, common_steps)

pub bounds-texts-number : goal.bounds-texts-number
bounds-texts-number c = grind (ints, arith, common_steps)

pub returns-in_err-note : goal.returns-in_err-note
returns-in_err-note g c = IfOk-from_err c.from_residual.result _ c.from_residual.ensures.0

pub loop-number-smaller : goal.loop-number-smaller
loop-number-smaller c = grind (ints, arith, common_steps)
