-- There are many blocks exactly if their number is above the limit.
use Rattle.std.proofs.Common.{◌≡◌, ◌↔◌, IsTrue, ℕ, ◌<◌, nat_lt, arith}
use Rattle.std.proofs.lemmas.Bool.Decides.{nat_tests}
use Rattle.std.specs.List.{count_by}
use Rattle.qil_rules.specs.Rules.{is_label}
use Rattle.qil_checker.proofs.definition.IndexedDefinition.has_many_blocks.Goals as goal

above : (blocks count : ℕ) → blocks ≡ count → IsTrue (nat_lt 65535 blocks) ↔ 65535 < count
above blocks count e = (λ t. grind (arith, nat_tests), λ l. grind (arith, nat_tests))

pub returns : goal.returns
returns g c = let s = c.args.self.now in above s.blocks (count_by is_label s.occurrences.items) s.blocks_are
