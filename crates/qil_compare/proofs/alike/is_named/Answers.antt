-- The name of the function is the other one, byte by byte.
use Rattle.std.proofs.Common.{◌≡◌, ◌∙◌, sym, ap, subst, List, ℕ, Option, Some, IsTrue, Bool}
use Rattle.std.specs.Str.{bytes_eq}
use Rattle.std.proofs.lemmas.Slice.Eq.{bytes_eq-Decides}
use Rattle.qil_compare.proofs.alike.is_named.Goals as goal

named : (o : Option (List ℕ)) (of bytes name : List ℕ) → o ≡ Some of → bytes ≡ of → IsTrue (bytes_eq bytes name) → o ≡ Some name
named o of bytes name is spelled same = is ∙ ap Some (sym spelled ∙ (bytes_eq-Decides bytes name).0 same)

pub returns-in-Some : goal.returns-in-Some
returns-in-Some g c = λ same. named _ c.in-Some.other c.bytes.result.now c.args.name.now (sym c.name_of.ensures ∙ c.in-Some.is) c.bytes.ensures (subst IsTrue c.eq.ensures same)
