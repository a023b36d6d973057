-- From mark to mark.
use Rattle.std.proofs.Common.{◌≡◌, refl, sym, ap, ◌∙◌, subst, ◌≤◌, ℕ, List, length, Some, arith}
use Rattle.std.specs.Prelude.{slice_get}
use Rattle.qil_semantics.specs.State.{State}
use Rattle.qil_state.specs.State.{Whole, state_of}
use Rattle.qil_checkpoints.specs.Walk.{walk}
use Rattle.qil_checkpoints.specs.Held.{first_of, FromStart}
use Rattle.qil_checkpoints.proofs.AlongWalks.{by-program, moves-below}
use Rattle.qil_checkpoints.proofs.Copies.{kept-there, kept-within, kept-length}
use Rattle.qil_checkpoints.proofs.Choices.{still-same, still-then, still-as, kept-by}
use Rattle.qil_checkpoints.proofs.HeldLemmas.{walk-as}
use Rattle.qil_checkpoints.proofs.replaying.come_to.Goals as goal

pub latest_copy-copy-requires : goal.latest_copy-copy-requires
latest_copy-copy-requires g c = subst (λ (ks : List ℕ). FromStart ks) (sym c.as_slice.ensures.value) c.requires.2.start

pub restore-requires : goal.restore-requires
restore-requires g c =
    let copy = c.latest_copy-copy.result in
    kept-within (g.M.HasCopies.present c.args.machine.now).program (g.M.HasCopies.kept c.args.machine.now) c.args.positions.now.items c.args.pokes.now c.requires.0 copy.index copy.position c.requires.2
    (ap (λ (ks : List ℕ). slice_get ks copy.index) (sym c.as_slice.ensures.value) ∙ c.latest_copy-copy.ensures.there)

pub loop-at-init : goal.loop-at-init
loop-at-init g c =
    let p = (g.M.HasCopies.present c.args.machine.now).program in
    let kept = g.M.HasCopies.kept c.args.machine.now in
    let copy = c.latest_copy-copy.result in
    let ks = c.args.positions.now.items in
    let pokes = c.args.pokes.now in
    let there = ap (λ (ks : List ℕ). slice_get ks copy.index) (sym c.as_slice.ensures.value) ∙ c.latest_copy-copy.ensures.there in
    record {
      length = ap (λ (ss : List State). length ss) c.restore.ensures.kept ∙ kept-length p kept ks pokes c.requires.0 c.requires.2;
      program = c.restore.ensures.program;
      within = c.latest_copy-copy.ensures.last;
      state = kept-there p kept ks pokes c.requires.0 copy.index copy.position (state_of (g.M.HasCopies.present c.restore.new.self)) c.requires.2 there c.restore.ensures.state;
      kept = λ n le is. still-same p kept (g.M.HasCopies.kept c.restore.new.self) ks ks pokes n c.restore.ensures.kept refl is;
    }

pub run_through-requires : goal.run_through-requires
run_through-requires g c =
    let le : c.next_mark-next.result ≤ c.requires.0 = omega (arith, c.next_mark-next.ensures.within, c.requires.1) in
    record { order = omega (arith, c.next_mark-next.ensures.later); poked = (c.requires.0, le, c.requires.2.poked) }

pub loop-at-preserved : goal.loop-at-preserved
loop-at-preserved g c =
    let i = c.loop-at.invariant in
    let p = (g.M.HasCopies.present c.args.machine.now).program in
    let first = first_of (g.M.HasCopies.kept c.args.machine.now) in
    let was = g.M.HasCopies.present c.loop-at.machine in
    let mid = g.M.HasCopies.present c.run_through.new.machine in
    let kept = g.M.HasCopies.kept c.loop-at.machine in
    let held = g.M.HasCopies.kept c.run_through.new.machine in
    let other = g.M.HasCopies.kept c.lay_copy.new.machine in
    let pokes = c.args.pokes.now in
    let next = c.next_mark-next.result in
    let same = c.run_through.ensures.program ∙ i.program in
    let there = by-program was.program p first (state_of was) (state_of mid) pokes c.loop-at.at next i.program (c.run_through.ensures.state first)
    (moves-below p first pokes c.requires.0 next c.requires.2.moves (omega (arith, c.next_mark-next.ensures.within, c.requires.1))) i.state in
    record {
      length = c.lay_copy.ensures.length;
      program = ap (λ (w : Whole g.row.A.Denot). w.program) c.lay_copy.ensures.whole ∙ same;
      within = c.next_mark-next.ensures.within;
      state = ap (λ (w : Whole g.row.A.Denot). state_of w) c.lay_copy.ensures.whole ∙ there;
      kept = λ n le is.
          (let one = i.kept n le is in
          still-then p (g.M.HasCopies.kept c.args.machine.now) kept other c.loop-at.positions.items c.lay_copy.new.positions.items pokes n one
          (λ now. still-as p mid.program kept held other c.lay_copy.new.positions.items pokes n same c.run_through.ensures.kept
          (c.lay_copy.ensures.kept pokes n (kept-by p mid.program kept held c.loop-at.positions.items pokes n same c.run_through.ensures.kept now)
          (omega (arith, c.next_mark-next.ensures.within, le))
          (there ∙ ap (λ (s : State). walk p s pokes next) (sym one.first) ∙ walk-as p mid.program kept held pokes next (sym same) (sym c.run_through.ensures.kept)))));
    }

pub returns-clause-state : goal.returns-clause-state
returns-clause-state g c =
    let i = c.loop-at.invariant in
    let end : c.loop-at.at ≡ c.args.position = omega (arith, i.within, c.loop-at-test.false) in
    i.state ∙ ap (λ (n : ℕ). walk (g.M.HasCopies.present c.args.machine.now).program (first_of (g.M.HasCopies.kept c.args.machine.now)) c.args.pokes.now n) end
