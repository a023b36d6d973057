use Rattle.std.proofs.Common.{◌≡◌, ◌+◌, ◌-◌, ap, sym, ◌∙◌, take, drop, arith}
use Rattle.std.proofs.lemmas.List.{drop-take}
use Rattle.qil_flat.proofs.parts.slots_between.Goals as goal

pub returns : goal.returns
returns c =
    let whole : c.args.start + (c.args.end - c.args.start) ≡ c.args.end = omega (arith, c.requires.start) in
    sym (drop-take c.args.start (c.args.end - c.args.start) c.args.all.now) ∙ ap (λ n. drop c.args.start (take n c.args.all.now)) whole
