-- One object more is noted.
use Rattle.std.proofs.Common.{arith, refl, ◌+◌, drop}
use Rattle.std.proofs.lemmas.List.{drop_all}
use Rattle.qil_shadow.specs.Objects.{object_named}
use Rattle.qil_shadow.proofs.NumberedNames.{left_from}
use Rattle.qil_shadow.proofs.StartObjects.{first_fault, noted_none, noted_one, noted_all}
use Rattle.qil_shadow.proofs.start.note_datas.Goals as goal

pub loop-object-init : goal.loop-object-init
loop-object-init g c = (noted_none (object_named c.args.names.now) c.args.datas.now _ _ c.requires.laid c.requires.first c.requires.fresh, refl)

pub note_object-requires : goal.note_object-requires
note_object-requires g c =
    let xs = c.args.datas.now in
    let left = left_from xs c.loop-object.object-index c.object-item.result c.loop-object-test.true c.object-item.is in
    let are = c.loop-object.invariant.0 in
    record {
      first = are.fixed_are;
      low = are.low;
      high = are.high;
      fits = (first_fault c.loop-object.at (drop c.loop-object.object-index xs) (drop (c.loop-object.object-index + 1) xs) c.object-item.result left are.laid).0;
    }

pub loop-object-preserved : goal.loop-object-preserved
loop-object-preserved g c =
    let xs = c.args.datas.now in
    let left = left_from xs c.loop-object.object-index c.object-item.result c.loop-object-test.true c.object-item.is in (
      noted_one (object_named c.args.names.now) xs (drop c.loop-object.object-index xs) (drop (c.loop-object.object-index + 1) xs) c.loop-object.object-index _ c.loop-object.at _ c.object-item.result _ _ _ _ left refl
          c.loop-object.invariant.1 c.in_ok-at.ensures.made c.in_ok-at.ensures.next c.in_ok-at.ensures.noted c.loop-object.invariant.0,
      omega (arith, c.in_ok-number.ensures, c.loop-object.invariant.1),
    )

pub returns-clause-fixed : goal.returns-clause-fixed
returns-clause-fixed g c = c.loop-object.invariant.0.fixed_are

pub returns-clause-starts : goal.returns-clause-starts
returns-clause-starts g c =
    (noted_all (object_named c.args.names.now) c.args.datas.now _ _ _ _ _ (drop_all c.loop-object.object-index c.args.datas.now (omega (arith, c.loop-object-test.false))) c.loop-object.invariant.0).starts_are

pub returns-clause-objects : goal.returns-clause-objects
returns-clause-objects g c =
    (noted_all (object_named c.args.names.now) c.args.datas.now _ _ _ _ _ (drop_all c.loop-object.object-index c.args.datas.now (omega (arith, c.loop-object-test.false))) c.loop-object.invariant.0).named

pub returns-clause-noted : goal.returns-clause-noted
returns-clause-noted g c =
    (noted_all (object_named c.args.names.now) c.args.datas.now _ _ _ _ _ (drop_all c.loop-object.object-index c.args.datas.now (omega (arith, c.loop-object-test.false))) c.loop-object.invariant.0).bytes_are
