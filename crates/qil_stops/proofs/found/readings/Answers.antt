-- Each stop can be read, and its own reading is what is kept: by hand, so that another value is refused at once.
use Rattle.std.proofs.Common.{ap, arith, length}
use Rattle.std.proofs.lemmas.List.{length_push}
use Rattle.qil_history.specs.qil_state.State.{state_of}
use Rattle.qil_stops.proofs.Kept.{readable-at}
use Rattle.qil_stops.proofs.Telling.{reported-more}
use Rattle.qil_stops.proofs.found.readings.Goals as goal

pub read-requires : goal.read-requires
read-requires g c = readable-at c.args.stops.now c.loop-stop.stop-index _ c.requires.readable c.loop-stop-test.true

pub loop-stop-preserved : goal.loop-stop-preserved
loop-stop-preserved g c =
    let i = c.loop-stop.invariant in
    record {
      count = omega (arith, ap length c.push.ensures.items, length_push c.loop-stop.all.items c.read.result, i.count);
      room = omega (arith, c.push.ensures.len, i.room);
      reported = reported-more c.args.machine.now.program (state_of c.args.machine.now) c.args.stops.now c.loop-stop.all.items _ c.loop-stop.stop-index _ c.read.result i.count c.push.ensures.items c.read.ensures
          c.loop-stop-test.true i.reported;
    }
