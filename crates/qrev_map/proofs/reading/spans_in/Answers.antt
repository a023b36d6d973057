-- The lines of a map, one after the other.
use Rattle.std.proofs.Common.{arith, refl, sym, subst, length, ◌-◌, Some, None}
use Rattle.qrev_map.specs.Spans.{MapRefused}
use Rattle.qrev_map.proofs.Told.{read_nothing, read_line, read_whole, read_last, rest_found, line_shortens, last_few, refused_line, refused_last, err_from}
use Rattle.qrev_map.proofs.reading.spans_in.Goals.{then-start-text+in_ok-add_line-2, else-start-text}
use Rattle.qrev_map.proofs.reading.spans_in.Goals as goal

pub loop-length-init : goal.loop-length-init
loop-length-init g c = rw c.new-spans.ensures.items (read_nothing c.args.text.now)

pub returns-in_err-add_line-clause-refused : goal.returns-in_err-add_line-clause-refused
returns-in_err-add_line-clause-refused g c =
    err_from c.from_residual.result _ (MapRefused c.args.text.now) c.from_residual.ensures.1 (λ e same. subst (λ v. MapRefused c.args.text.now v) (sym same)
    (refused_line c.args.text.now c.loop-length.start c.in-Some.length c.loop-length.spans.items c.in_err-add_line.field-0.0 c.loop-length.invariant (rest_found c.args.text.now c.loop-length.start (Some c.in-Some.length) (rw c.in-Some.is at c.memchr.ensures)) c.in_err-add_line.ensures.refused))

pub loop-length-smaller : goal.loop-length-smaller
loop-length-smaller g c = line_shortens c.args.text.now c.loop-length.start c.in-Some.length (rest_found c.args.text.now c.loop-length.start (Some c.in-Some.length) (rw c.in-Some.is at c.memchr.ensures))

pub loop-length-preserved : goal.loop-length-preserved
loop-length-preserved g c = read_line c.args.text.now c.loop-length.start c.in-Some.length c.loop-length.spans.items c.add_line.new.spans.items c.loop-length.invariant (rest_found c.args.text.now c.loop-length.start (Some c.in-Some.length) (rw c.in-Some.is at c.memchr.ensures)) c.in_ok-add_line.ensures.added

pub returns-in_err-add_line-2-clause-refused : goal.returns-in_err-add_line-2-clause-refused
returns-in_err-add_line-2-clause-refused g c =
    err_from c.from_residual-in_err-add_line-2.result _ (MapRefused c.args.text.now) c.from_residual-in_err-add_line-2.ensures.1 (λ e same. subst (λ v. MapRefused c.args.text.now v) (sym same)
    (refused_last c.args.text.now c.loop-length.start (length c.args.text.now - c.loop-length.start) c.loop-length.spans.items c.in_err-add_line-2.field-0.0 c.loop-length.invariant (rest_found c.args.text.now c.loop-length.start None (rw c.in_default.is at c.memchr.ensures)) c.if-start-text.true refl c.in_err-add_line-2.ensures.refused))

pub returns-clause-told : goal.returns-clause-told
returns-clause-told g c = elim c.if-start-text.branch [
  | then-start-text+in_ok-add_line-2 w ↦ rw w.spans-is (read_last c.args.text.now c.loop-length.start (length c.args.text.now - c.loop-length.start) c.loop-length.spans.items w.add_line-then-start-text.new.spans.items c.loop-length.invariant (rest_found c.args.text.now c.loop-length.start None (rw c.in_default.is at c.memchr.ensures)) w.if-start-text.true refl w.in_ok-add_line-2.ensures.added)
  | else-start-text w ↦ rw w.spans-is (read_whole c.args.text.now c.loop-length.start c.loop-length.spans.items c.loop-length.invariant (omega (arith, w.if-start-text.false)))
]

pub returns-clause-few : goal.returns-clause-few
returns-clause-few g c = elim c.if-start-text.branch [
  | then-start-text+in_ok-add_line-2 w ↦ rw w.spans-is (last_few c.args.text.now c.loop-length.start (length c.args.text.now - c.loop-length.start) c.loop-length.spans.items w.add_line-then-start-text.new.spans.items c.loop-length.invariant w.if-start-text.true w.in_ok-add_line-2.ensures.added)
  | else-start-text w ↦ rw w.spans-is (omega (arith, c.loop-length.invariant.few, c.loop-length.invariant.within))
]
