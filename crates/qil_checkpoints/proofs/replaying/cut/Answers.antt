-- Where a poke goes, the copies behind it go too.
use Rattle.std.proofs.Common.{◌≡◌, refl, sym, ap, ◌∙◌, ℕ, ◌≤◌, ◌<◌, List, length, take, get_or, arith}
use Rattle.std.proofs.lemmas.List.{take_all}
use Rattle.qil_state.specs.State.{Whole}
use Rattle.qil_checkpoints.specs.declared.poked.Poked.{Poked}
use Rattle.qil_checkpoints.specs.Walk.{count_before}
use Rattle.qil_checkpoints.specs.Held.{StillKept}
use Rattle.qil_checkpoints.proofs.Parts.{cut-same}
use Rattle.qil_checkpoints.proofs.Copies.{upto-all, kept-cut, kept-less}
use Rattle.qil_checkpoints.proofs.replaying.cut.Goals as goal

pub returns-then-count-len-clause-kept : goal.returns-then-count-len-clause-kept
returns-then-count-len-clause-kept g c = λ n is le.
    let p = (g.M.HasCopies.present c.args.machine.now).program in
    let pokes = c.args.pokes.now.items in
    let made = c.truncate.new.self.items in
    let left = c.forget_later.new.positions.items in
    let first = c.index.result.now.position in
    let still = c.forget_later.ensures.kept pokes n is in
    let count = c.count_before-count.ensures.count ∙ ap (λ (qs : List Poked). count_before c.args.position qs) c.as_slice.ensures.value in
    let cut = cut-same pokes made n c.args.position c.count_before-count.result first c.index.result.now is.poked count (omega (arith, c.if-count-len.true, c.len.ensures)) (ap (λ (q : Poked). q.position) c.index.ensures) c.truncate.ensures.items in
    record {
      is_kept = kept-cut p (g.M.HasCopies.kept c.forget_later.new.machine) left pokes made n c.args.position first still.is_kept le cut.0
          (c.truncate.ensures.items ∙ ap (λ (n : ℕ). take n pokes) count) cut.1 (upto-all left first still.is_kept.start c.forget_later.ensures.last);
      first = still.first;
    }

pub returns-else-count-len-clause-kept : goal.returns-else-count-len-clause-kept
returns-else-count-len-clause-kept g c = λ n is le.
    let p = (g.M.HasCopies.present c.args.machine.now).program in
    let pokes = c.args.pokes.now.items in
    let count = c.count_before-count.ensures.count ∙ ap (λ (qs : List Poked). count_before c.args.position qs) c.as_slice.ensures.value in
    record {
      is_kept = kept-less p (g.M.HasCopies.kept c.args.machine.now) c.args.positions.now.items pokes pokes n c.args.position is le
          (sym (take_all (count_before c.args.position pokes) pokes (omega (arith, c.if-count-len.false, c.len.ensures, count)))) refl;
      first = refl;
    }
