-- What lies nowhere is a number.
use Rattle.std.proofs.Common.{◌≡◌, ◌∙◌, sym, refl, rules, ℕ, Option, None, false}
use Rattle.qil_tree.specs.declared.tree.Program.{Program}
use Rattle.qil_layout.specs.Callee.{callee_at}
use Rattle.qil_compare.specs.Seen.{Value, address_seen, data_place, is_stack, number}
use Rattle.qil_compare.proofs.seen.address_seen.Goals as goal

seen_number : {A : Type 0} (p : Program A) (a : ℕ) → is_stack a ≡ false → data_place p a ≡ None → callee_at p a ≡ None → number a ≡ address_seen p a
seen_number p a apart nowhere uncalled = rw (apart, nowhere, uncalled) refl

pub returns-in-None : goal.returns-in-None
returns-in-None g c =
    let nowhere : data_place c.args.program.now c.args.address ≡ None = search rules in
    let uncalled : callee_at c.args.program.now c.args.address ≡ None = search rules in
    seen_number c.args.program.now c.args.address (sym c.is_stack.ensures ∙ c.if-is_stack.false) nowhere uncalled
