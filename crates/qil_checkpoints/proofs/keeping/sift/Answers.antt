-- From the last copy on.
use Rattle.std.proofs.Common.{◌≡◌, ◌∙◌, refl, sym, subst, ℕ, ◌+◌, ◌-◌, ◌<◌, ◌≤◌, List, length, drop, arith}
use Rattle.std.proofs.lemmas.List.{drop_all}
use Rattle.qil_checkpoints.specs.Held.{AreUpTo}
use Rattle.qil_checkpoints.proofs.Choices.{still-same, still-next, upto-removed, upto-stays, upto-left, upto-more}
use Rattle.qil_checkpoints.proofs.keeping.sift.Goals as goal

pub loop-index-init : goal.loop-index-init
loop-index-init g c =
    let ks = c.args.positions.now.items in
    record {
      long = c.requires;
      whole = refl;
      within = omega (arith, c.len-index.ensures);
      last = subst (λ xs. AreUpTo c.args.rule.now.last xs) (sym (drop_all c.len-index.result ks (omega (arith, c.len-index.ensures)))) tt;
      kept = λ pokes n is. still-same (g.M.HasCopies.present c.args.machine.now).program (g.M.HasCopies.kept c.args.machine.now) (g.M.HasCopies.kept c.args.machine.now) ks ks pokes n refl refl is;
    }

pub index-requires : goal.index-requires
index-requires g c =
    let within : c.loop-index.index ≤ length c.loop-index.positions.items = c.loop-index.invariant.within in
    omega (arith, within, c.loop-index-test.true)

pub recycle-requires-clause-length : goal.recycle-requires-clause-length
recycle-requires-clause-length g c = c.loop-index.invariant.long

pub recycle-requires-clause-inside : goal.recycle-requires-clause-inside
recycle-requires-clause-inside g c =
    let within : c.loop-index.index ≤ length c.loop-index.positions.items = c.loop-index.invariant.within in
    omega (arith, within, c.loop-index-test.true)

pub loop-index-preserved-then-not-keeps : goal.loop-index-preserved-then-not-keeps
loop-index-preserved-then-not-keeps g c =
    let i = c.loop-index.invariant in
    let first = g.M.HasCopies.present c.args.machine.now in
    let was = g.M.HasCopies.present c.loop-index.machine in
    let ks = c.loop-index.positions.items in
    let within : c.loop-index.index ≤ length ks = i.within in
    let inside : c.loop-index.index - 1 < length ks = omega (arith, within, c.loop-index-test.true) in
    record {
      long = c.recycle.ensures.length;
      whole = c.recycle.ensures.whole ∙ i.whole;
      within = upto-left ks c.recycle.new.positions.items (c.loop-index.index - 1) inside c.recycle.ensures.items;
      last = upto-removed c.args.rule.now.last ks c.recycle.new.positions.items c.loop-index.index (c.loop-index.index - 1) inside (omega (arith, c.loop-index-test.true)) c.recycle.ensures.items i.last;
      kept = λ pokes n is. still-next first was (g.M.HasCopies.kept c.args.machine.now) (g.M.HasCopies.kept c.loop-index.machine) (g.M.HasCopies.kept c.recycle.new.machine) ks c.recycle.new.positions.items pokes n i.whole
          (i.kept pokes n is) (c.recycle.ensures.kept pokes n);
    }

pub loop-index-preserved : goal.loop-index-preserved
loop-index-preserved g c =
    let i = c.loop-index.invariant in
    let ks = c.loop-index.positions.items in
    let within : c.loop-index.index ≤ length ks = i.within in
    record {
      long = i.long;
      whole = i.whole;
      within = omega (arith, within);
      last = upto-stays c.args.rule.now.last ks c.loop-index.index (c.loop-index.index - 1) c.index.result.now (omega (arith, within, c.loop-index-test.true)) (omega (arith, c.loop-index-test.true)) c.index.ensures
          (c.keeps.ensures c.if-not-keeps.false) i.last;
      kept = i.kept;
    }

pub returns-clause-last : goal.returns-clause-last
returns-clause-last g c =
    let ks = c.loop-index.positions.items in
    upto-more c.args.rule.now.last ks c.loop-index.index (omega (arith, c.loop-index-test.false)) c.loop-index.invariant.last
