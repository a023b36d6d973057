-- One after the other ends, until one was made in another call or none is living.
use Rattle.std.proofs.Common.{rules, arith, ◌≡◌, ◌∙◌, ◌-◌, ap, take, length, slice_get, Some}
use Rattle.std.specs.Prelude.{vec_len}
use Rattle.qil_shadow.proofs.ObjectLemmas.{last_there, one_shorter, end_done, end_step, end_empty, as_table}
use Rattle.qil_shadow.proofs.object.Objects.end.Goals as goal

pub index-requires : goal.index-requires
index-requires g c =
    let last : slice_get c.loop.self-inside.living.items (length c.loop.self-inside.living.items - 1) ≡ Some c.in-Some.index = search rules in
    let there = last_there _ _ _ _ _ _ c.loop.invariant.table last in
    search rules

pub returns-then-index-depth : goal.returns-then-index-depth
returns-then-index-depth g c =
    let last : slice_get c.loop.self-inside.living.items (length c.loop.self-inside.living.items - 1) ≡ Some c.in-Some.index = search rules in
    let done = end_done _ _ _ c.args.position _ _ _ _ _ c.requires.called c.loop.invariant.table last c.index.ensures c.loop.invariant.within c.if-index-depth.true in
    as_table _ _ _ _ _ done c.loop.invariant.same c.loop.invariant.fixed c.loop.invariant.starts

pub index_mut-requires : goal.index_mut-requires
index_mut-requires g c =
    let last : slice_get c.loop.self-inside.living.items (length c.loop.self-inside.living.items - 1) ≡ Some c.in-Some.index = search rules in
    let there = last_there _ _ _ _ _ _ c.loop.invariant.table last in
    search rules

pub loop-preserved : goal.loop-preserved
loop-preserved g c =
    let last : slice_get c.loop.self-inside.living.items (length c.loop.self-inside.living.items - 1) ≡ Some c.in-Some.index = search rules in
    let long : vec_len c.loop.self-inside.living ≡ length c.loop.self-inside.living.items = search rules in
    let rest : c.pop.new.self.items ≡ take (length c.loop.self-inside.living.items - 1) c.loop.self-inside.living.items = c.pop.ensures.rest ∙ ap (λ n. take (n - 1) c.loop.self-inside.living.items) long in
    let shorter = one_shorter _ _ _ last rest in
    let step = end_step _ _ _ c.args.position _ _ _ _ _ _ _ c.loop.invariant.table last rest c.index.ensures c.index_mut.ensures.value c.loop.invariant.within c.if-index-depth.false in
    record {
      table = step.table;
      fixed = c.loop.invariant.fixed;
      starts = c.loop.invariant.starts;
      same = step.same ∙ c.loop.invariant.same;
      within = step.within;
      left = omega (arith, shorter, c.loop.invariant.left);
    }

pub returns : goal.returns
returns g c =
    let done = end_empty _ _ _ c.args.position _ _ _ c.requires.called c.loop.invariant.table (omega (arith, c.loop.invariant.left)) in
    as_table _ _ _ _ _ done c.loop.invariant.same c.loop.invariant.fixed c.loop.invariant.starts
