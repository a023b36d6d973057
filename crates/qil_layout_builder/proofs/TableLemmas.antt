-- What a table says after names were recorded: three lists of them, one after the other, and the objects of a program.
use Rattle.std.proofs.Common.{◌≡◌, ◌∙◌, sym, ap, refl, ℕ, List, ◌∷◌, Option, Some, None}
use Rattle.std.specs.Option.{option_or}
use Rattle.qil_tree.specs.declared.tree.Data.{Data}
use Rattle.qil_layout.specs.declared.error.LayoutCode.{LayoutCode}
use Rattle.qil_layout.specs.Layout.{data_address, if_named, start_of, end_of, object_fault, reported, fault_from}

pub three_recorded : (o a b c p q r : Option ℕ) → p ≡ option_or o a → q ≡ option_or p b → r ≡ option_or q c → r ≡ option_or o (option_or a (option_or b c))
three_recorded None None b c p q r e f g = g ∙ rw (f, e) refl
three_recorded None (Some x) b c p q r e f g = g ∙ rw (f, e) refl
three_recorded (Some x) a b c p q r e f g = g ∙ rw (f, e) refl

assoc : (a b c : Option ℕ) → option_or (option_or a b) c ≡ option_or a (option_or b c)
assoc None b c = refl
assoc (Some x) b c = refl

-- the address of one object more is noted
pub one_recorded : {A : Type 0} (v p total : Option ℕ) (at start end : ℕ) (name x : List ℕ) (d : Data A) (left ds : List (Data A)) → left ≡ d ∷ ds → start ≡ start_of at d → end ≡ end_of at d → name ≡ d.name
    → p ≡ option_or v (if_named name x start) → option_or v (data_address at left x) ≡ total → option_or p (data_address end ds x) ≡ total
one_recorded v p total at start end name x d left ds e s t n f so_far =
    rw (f, n, s, t) (assoc v (if_named d.name x (start_of at d)) (data_address (end_of at d) ds x)) ∙ ap (λ l. option_or v (data_address at l x)) (sym e) ∙ so_far

-- an object without a fault leaves it to those behind it
pub later_fault : {A : Type 0} (at end : ℕ) (d : Data A) (left ds : List (Data A)) (all : Option (LayoutCode × ℕ)) → left ≡ d ∷ ds → end ≡ end_of at d → object_fault at d ≡ None → fault_from at left ≡ all → fault_from end ds ≡ all
later_fault at end d left ds all e t none so_far =
    ap (λ n. fault_from n ds) t ∙ sym (ap (λ o. reported d o (fault_from (end_of at d) ds)) none) ∙ ap (fault_from at) (sym e) ∙ so_far
