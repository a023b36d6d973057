-- Part after part: up to the next poke, or to where a stop may hold.
use Rattle.std.proofs.Common.{◌≡◌, ◌∙◌, sym, ap, refl, length, ◌+◌, arith}
use Rattle.qil_state.specs.State.{state_of}
use Rattle.qil_stops.specs.Named.{named_stops}
use Rattle.qil_stops.specs.Readings.{AllTell}
use Rattle.qil_stops.proofs.Telling.{reported-at}
use Rattle.qil_stops.proofs.Told.{told-as}
use Rattle.qil_semantics.specs.State.{State}
use Rattle.qil_checkpoints.specs.Hits.{stop_at}
use Rattle.qil_checkpoints.proofs.Parts.{poked-le}
use Rattle.qil_checkpoints.proofs.AlongWalks.{by-program-to}
use Rattle.qil_checkpoints.proofs.Hitting.{hit-begun}
use Rattle.qil_checkpoints.proofs.Quiet.{hits-more, quiet-by, seen-by, held-by}
use Rattle.qil_checkpoints.proofs.searching.last_hit.Goals as goal

pub loop-at-init : goal.loop-at-init
loop-at-init g c =
    let p = (g.M.HasCopies.present c.args.machine.now).program in
    record {
      program = refl;
      kept = refl;
      order = omega arith;
      within = poked-le c.args.from c.args.part.now c.args.to c.requires.poked;
      poked = c.requires.poked;
      count = c.readings-before.ensures.count;
      reported = c.readings-before.ensures.reported;
      ran = λ s pokes part moves at. (part, at, hit-begun (stop_at p (named_stops p c.args.stops.now) s pokes) c.args.from);
    }

pub loop-at-preserved : goal.loop-at-preserved
loop-at-preserved g c =
    let i = c.loop-at.invariant in
    let p = (g.M.HasCopies.present c.args.machine.now).program in
    let was = g.M.HasCopies.present c.loop-at.machine in
    let mid = g.M.HasCopies.present c.go_on-made.new.machine in
    let same = c.go_on-made.ensures.program ∙ i.program in
    let stops = c.args.stops.now in
    let values = c.as_slice.result.now in
    let n = c.go_on-made.result.0 in
    let at = c.loop-at.at in
    let told = told-as p (state_of was) stops c.loop-at.before.items values c.as_slice.ensures.value i.reported in
    let count : length values ≡ length stops = ap length c.as_slice.ensures.value ∙ i.count in
    record {
      program = same;
      kept = c.go_on-made.ensures.kept ∙ i.kept;
      order = omega (arith, i.order);
      within = c.go_on-made.ensures.within;
      poked = c.go_on-made.ensures.poked;
      count = c.read_again.ensures.count;
      reported = reported-at mid.program p (state_of mid) (state_of mid) stops c.read_again.new.before.items same refl c.read_again.ensures.reported;
      ran = λ s pokes part moves from.
          (let before = i.ran s pokes part moves from in
          let there = by-program-to was.program p s (state_of was) (state_of mid) pokes at (at + n) c.args.to i.program (c.go_on-made.ensures.state s pokes before.0) moves before.1 in
          let quiet = quiet-by was.program p s (state_of was) pokes stops values at n c.args.to i.program (c.go_on-made.ensures.quiet s pokes before.0) moves before.1 told in
          let by_name = λ (old : State) (now : AllTell mid.program old stops values). c.read_again.ensures.first old (told-as mid.program old stops values c.loop-at.before.items (sym c.as_slice.ensures.value) now) in (
            c.go_on-made.ensures.part pokes before.0,
            there,
            hits-more p stops values s pokes c.args.from at n (at + n) c.loop-at.last c.later_break-last.result c.later_watch-last.result c.first_break.result c.read_again.result count c.go_on-made.ensures.some i.order refl before.2 quiet
                (held-by was.program p s (state_of was) pokes stops at c.first_break.result i.program before.1 c.first_break.ensures)
                (seen-by mid.program p s (state_of mid) pokes stops values at n (at + n) c.read_again.result same c.go_on-made.ensures.some refl quiet there by_name) c.later_break-last.ensures c.later_watch-last.ensures,
          ));
    }
