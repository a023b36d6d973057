-- Both operands are one temporary by their slots if they are by their names.
use Rattle.std.proofs.Common.{◌≡◌, ◌∙◌, sym, ap, refl, ℕ, Bool, true, false, List, arith}
use Rattle.std.specs.Prelude.{◌==◌}
use Rattle.std.specs.Str.{bytes_eq}
use Rattle.std.proofs.lemmas.Slice.Eq.{bytes_eq-Decides}
use Rattle.std.proofs.lemmas.Bool.Decides.{nat_tests}
use Rattle.qil_tree.specs.declared.tree.Operand.{Operand}
use Rattle.qil_tree.specs.declared.tree.Operand.TheVariants as operands
use Rattle.qil_tree.specs.declared.tree.Program.{Program}
use Rattle.qil_semantics.specs.State.{Name}
use Rattle.qil_code.specs.declared.numbered.NumberedOperand.{NumberedOperand}
use Rattle.qil_code.specs.Slots.{number_in, name_at}
use Rattle.qil_code.specs.Numbered.{operand_of}
use Rattle.qil_code.proofs.Has.{Has, has-among, name-number}
use Rattle.qil_shadow.specs.Shadowed.{is_twice}
use Rattle.qil_shadow.specs.Numbered as by_number
use Rattle.qil_shadow.specs.Reads.{IsKnown, IsFor}

same_number : (ns : List Name) (x y : Name) → Has ns x → Has ns y → number_in ns x ≡ number_in ns y → x ≡ y
same_number ns x y one other same = sym (name-number ns x one) ∙ ap (name_at ns) same ∙ name-number ns y other

twice_by : (ns : List Name) (x y : Name) (b c : Bool) → Has ns x → Has ns y → bytes_eq x y ≡ b → (number_in ns x == number_in ns y) ≡ c → c ≡ b
twice_by ns x y true true one other e f = refl
twice_by ns x y false false one other e f = refl
twice_by ns x y true false one other e f =
    let same : number_in ns x ≡ number_in ns y = ap (number_in ns) ((bytes_eq-Decides x y).0 e) in absurd (grind (arith, nat_tests))
twice_by ns x y false true one other e f =
    let number : number_in ns x ≡ number_in ns y = grind (arith, nat_tests) in
    absurd (let both : false ≡ true = sym e ∙ (bytes_eq-Decides x y).1 (same_number ns x y one other number) in cc)

-- both operands are one temporary by slots, as by names
pub twice_is : {A : Type 0} (p : Program A) (ns : List Name) (a b : Operand) → IsKnown p ns a → IsKnown p ns b → by_number.is_twice (operand_of p ns a) (operand_of p ns b) ≡ is_twice a b
twice_is p ns (operands.Number n) b one other = refl
twice_is p ns (operands.Global g) b one other = refl
twice_is p ns (operands.Temp x) (operands.Number n) one other = refl
twice_is p ns (operands.Temp x) (operands.Global g) one other = refl
twice_is p ns (operands.Temp x) (operands.Temp y) one other = twice_by ns x y (bytes_eq x y) (number_in ns x == number_in ns y) (has-among ns x one.0 one.1) (has-among ns y other.0 other.1) refl refl

pub twice_read : {A : Type 0} (p : Program A) (ns : List Name) (a b : Operand) (left right : NumberedOperand) → IsFor p ns a left → IsFor p ns b right → by_number.is_twice left right ≡ is_twice a b
twice_read p ns a b left right one other = (λ i. by_number.is_twice (one.number i) (other.number i)) ∙ twice_is p ns a b one.known other.known
