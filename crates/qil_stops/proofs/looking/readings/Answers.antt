-- Each stop can be read, and its own reading is what is kept: by hand, so that another value is refused at once.
use Rattle.std.proofs.Common.{ap, arith, length}
use Rattle.std.proofs.lemmas.List.{length_push}
use Rattle.qil_state.specs.State.{state_of}
use Rattle.qil_stops.proofs.Kept.{readable-at}
use Rattle.qil_stops.proofs.Telling.{reported-more}
use Rattle.qil_stops.proofs.looking.readings.Goals as goal

pub reading-requires : goal.reading-requires
reading-requires g c = readable-at c.args.stops.now c.loop-stop.stop-index _ c.requires.readable c.loop-stop-test.true

pub loop-stop-preserved : goal.loop-stop-preserved
loop-stop-preserved g c =
    let i = c.loop-stop.invariant in
    record {
      count = omega (arith, ap length c.push.ensures.items, length_push c.loop-stop.all.items c.reading.result, i.count);
      room = omega (arith, c.push.ensures.len, i.room);
      reported = reported-more (g.M.HasCopies.present c.args.machine.now).program (state_of (g.M.HasCopies.present c.args.machine.now)) c.args.stops.now c.loop-stop.all.items _ c.loop-stop.stop-index _ c.reading.result i.count c.push.ensures.items c.reading.ensures
          c.loop-stop-test.true i.reported;
    }
