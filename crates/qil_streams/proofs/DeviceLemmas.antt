-- What is known of a device's bytes after several calls.
use Rattle.std.proofs.Common.{◌≡◌, ℕ, ◌-◌, ◌<◌, List, [], ◌++◌, length, take, drop, Option, Bool, true, refl, sym, ◌∙◌, ap, arith, append_assoc}
use Rattle.std.proofs.lemmas.Bool.Decides.{Decides-eqb}
use Rattle.std.specs.Prelude.{Some, None, ◌==◌}
use Rattle.std.proofs.lemmas.List.{append-nil, take-append-drop, take_rest}
use Rattle.std.specs.Io.KnownBytes.{Appends, Consumes}

pub Appends-nil : (a : Option (List ℕ)) → Appends a a []
Appends-nil None = tt
Appends-nil (Some xs) = sym (append-nil xs)

pub Appends-append : (a b c : Option (List ℕ)) (x y : List ℕ) → Appends a b x → Appends b c y → Appends a c (x ++ y)
Appends-append None b c x y p q = tt
Appends-append (Some xs) None c x y p q = absurd p
Appends-append (Some xs) (Some ys) None x y p q = absurd q
Appends-append (Some xs) (Some ys) (Some zs) x y p q = q ∙ ap (λ v. v ++ y) p ∙ append_assoc xs x y

pub Consumes-nil : (a : Option (List ℕ)) → Consumes a a []
Consumes-nil None = tt
Consumes-nil (Some xs) = refl

pub Consumes-append : (a b c : Option (List ℕ)) (x y : List ℕ) → Consumes a b x → Consumes b c y → Consumes a c (x ++ y)
Consumes-append None b c x y p q = tt
Consumes-append (Some xs) None c x y p q = absurd p
Consumes-append (Some xs) (Some ys) None x y p q = absurd q
Consumes-append (Some xs) (Some ys) (Some zs) x y p q = p ∙ ap (λ v. x ++ v) q ∙ sym (append_assoc x y zs)

-- a call that took nothing after one that took some
pub Consumes-end : (a b c : Option (List ℕ)) (x : List ℕ) → Consumes a b x → Consumes b c [] → Consumes a c x
Consumes-end None b c x p q = tt
Consumes-end (Some xs) None c x p q = absurd p
Consumes-end (Some xs) (Some ys) None x p q = absurd q
Consumes-end (Some xs) (Some ys) (Some zs) x p q = p ∙ ap (λ v. x ++ v) q

-- bytes of which there are some aren't tested to be none
pub not_none : (n : ℕ) (test value : Bool) → test ≡ (n == 0) → value ≡ test → value ≡ true → 0 < n → ⊥
not_none n test value is same holds some = omega (arith, (Decides-eqb n 0).0 (sym is ∙ sym same ∙ holds), some)

-- one more write of a text that is written fragment by fragment
pub wrote_more : (bytes rest : List ℕ) (n : ℕ) (old mid new : Option (List ℕ))
    → ((prefix : List ℕ) × (bytes ≡ prefix ++ rest) × Appends old mid prefix) → Appends mid new (take n rest)
    → (prefix : List ℕ) × (bytes ≡ prefix ++ take (length rest - n) (drop n rest)) × Appends old new prefix
wrote_more bytes rest n old mid new reported more = (
  reported.0 ++ take n rest,
  reported.1 ∙ ap (λ v. reported.0 ++ v) (sym (take-append-drop n rest)) ∙ sym (append_assoc reported.0 (take n rest) (drop n rest))
      ∙ ap (λ v. (reported.0 ++ take n rest) ++ v) (sym (take_rest rest n)),
  Appends-append old mid new reported.0 (take n rest) reported.2 more,
)
