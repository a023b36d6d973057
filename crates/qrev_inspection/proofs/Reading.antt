-- Bytes that are read one after the other.
use Rattle.std.proofs.Common.{◌≡◌, ap, sym, subst, ℕ, zero, suc, ◌+◌, ◌-◌, ◌<◌, ◌≤◌, ◌^◌, ◌%◌, List, [], ◌∷◌, ◌++◌, length, Option, Some, None, Bool, true, false, inl, inr, arith}
use Rattle.std.specs.Prelude.{ℤ, pos, negsuc, cond, codes, decimal, min, slice_get, int_lt, unsigned_abs, option_and_then, ok_or, MatchOption, FitsSigned}
use Rattle.std.specs.Int.{w64}
use Rattle.std.specs.Str.Parse.{ParsesSigned}
use Rattle.std.proofs.Math.Facts.{sfits_lit}
use Rattle.std.proofs.lemmas.Bool.{le-ltb, lt-ltb, ltb-true}
use Rattle.json.specs.Json.{Json}
use Rattle.json.specs.Find.{as_number}
use Rattle.json.specs.Token.{key, number}
use Rattle.qil_memory.specs.Live.{Live}
use Rattle.qrev_requests.specs.Members.{member_in, IsSignedIn}
use Rattle.qrev_inspection.specs.ReadBytes.{address_after, read_limit, unreadable_member, IsMovedBy, SaysOffset}

each_more : {P : ℕ → ℕ → Type 0} (xs : List ℕ) (b : ℕ) → ((i c : ℕ) → slice_get xs i ≡ Some c → P i c) → P (length xs) b → (i c : ℕ) → slice_get (xs ++ b ∷ []) i ≡ Some c → P i c
each_more {P} [] b each last zero c at = subst (λ (d : ℕ). P 0 d) (first at) last
  where
    first : Some b ≡ Some c → b ≡ c
    first e = cc
each_more [] b each last (suc i) c at = absurd cc
each_more (x ∷ xs) b each last zero c at = each zero c at
each_more {P} (x ∷ xs) b each last (suc i) c at = each_more {P = λ j d. P (suc j) d} xs b (λ j d there. each (suc j) d there) last i c at

-- bytes that are live from an address on
abbrev pub AreLive : Live → ℕ → List ℕ → Type 0
AreLive m a bytes = (i b : ℕ) → slice_get bytes i ≡ Some b → m (address_after a i) ≡ Some b

pub none_live : (m : Live) (a : ℕ) → AreLive m a []
none_live m a i b at = absurd cc

-- one more
pub one_live : (m : Live) (a : ℕ) (bytes : List ℕ) (b : ℕ) → AreLive m a bytes → m (address_after a (length bytes)) ≡ Some b → AreLive m a (bytes ++ b ∷ [])
one_live m a bytes b are is = each_more {P = λ i c. m (address_after a i) ≡ Some c} bytes b are is

-- what is told of bytes that weren't read
pub none_unreadable : (count read m : ℕ) → m ≡ min count read_limit → m ≤ read → unreadable_member count read ≡ []
none_unreadable count read m is le =
    ap (λ (b : Bool). cond b (key (codes "unreadableBytes") ∷ number (decimal (count - read)) ∷ []) []) (le-ltb read (min count read_limit) (subst (λ (k : ℕ). k ≤ read) is le))

pub some_unreadable : (count read m : ℕ) → m ≡ min count read_limit → read < m → unreadable_member count read ≡ key (codes "unreadableBytes") ∷ number (decimal (count - read)) ∷ []
some_unreadable count read m is lt =
    ap (λ (b : Bool). cond b (key (codes "unreadableBytes") ∷ number (decimal (count - read)) ∷ []) []) (lt-ltb read (min count read_limit) (subst (λ (k : ℕ). read < k) is lt))

-- a number that isn't there is none
none_signed : (said : Option (List ℕ)) (offset : ℤ) → MatchOption said (◌≡◌ {A = Option ℤ} None None) (λ digits. ParsesSigned w64 10 digits (ok_or None digits)) → MatchOption said (Some offset ≡ None) (λ digits. ParsesSigned w64 10 digits (ok_or (Some offset) digits)) → ⊥
none_signed None offset none some = cc
none_signed (Some digits) offset none some = none some.0

none_offset : (json : Option Json) (offset : ℤ) → (member_in (codes "offset") json ≡ None → ⊥) → IsSignedIn (codes "offset") json None → SaysOffset json offset → ⊥
none_offset json offset there none (inl absent) = there absent.0
none_offset json offset there none (inr said) = none_signed (option_and_then as_number (member_in (codes "offset") json)) offset none said

pub offset_found : (json : Option Json) (r : Option ℤ) → (member_in (codes "offset") json ≡ None → ⊥) → IsSignedIn (codes "offset") json r → MatchOption r ((offset : ℤ) → SaysOffset json offset → ⊥) (SaysOffset json)
offset_found json None there said = λ offset. none_offset json offset there said
offset_found json (Some offset) there said = inr said

-- an offset that is said fits into 64 bits
fits_in : (said : Option (List ℕ)) (offset : ℤ) → MatchOption said (Some offset ≡ None) (λ digits. ParsesSigned w64 10 digits (ok_or (Some offset) digits)) → FitsSigned w64 offset
fits_in None offset absent = absurd cc
fits_in (Some digits) offset parses = subst (λ (z : ℤ). FitsSigned w64 z) (sym parses.1) parses.0.1

pub fits_said : (json : Option Json) (offset : ℤ) → SaysOffset json offset → FitsSigned w64 offset
fits_said json offset (inl none) = subst (λ (z : ℤ). FitsSigned w64 z) (sym none.1) (sfits_lit {w = w64} {z = pos 0} tt)
fits_said json offset (inr said) = fits_in (option_and_then as_number (member_in (codes "offset") json)) offset said

-- an offset below zero, and another
down : (start : ℕ) (z : ℤ) (u a : ℕ) → int_lt z (pos 0) ≡ true → u ≡ unsigned_abs z → (a + u) % 2 ^ 64 ≡ start → IsMovedBy start z a
down start (pos n) u a lt is moved = absurd (let few : n < 0 = ltb-true n 0 lt in omega (arith, few))
down start (negsuc n) u a lt is moved = subst (λ (k : ℕ). (a + k) % 2 ^ 64 ≡ start) is moved

up : (start : ℕ) (z : ℤ) (u a : ℕ) → int_lt z (pos 0) ≡ false → u ≡ unsigned_abs z → a ≡ (start + u) % 2 ^ 64 → IsMovedBy start z a
up start (pos n) u a ge is moved = subst (λ (k : ℕ). a ≡ (start + k) % 2 ^ 64) is moved
up start (negsuc n) u a ge is moved = absurd cc

pub moved_down : (start : ℕ) (offset z : ℤ) (u a : ℕ) → z ≡ offset → int_lt z (pos 0) ≡ true → u ≡ unsigned_abs z → (a + u) % 2 ^ 64 ≡ start → IsMovedBy start offset a
moved_down start offset z u a same lt is moved = subst (λ (y : ℤ). IsMovedBy start y a) same (down start z u a lt is moved)

pub moved_up : (start : ℕ) (offset z : ℤ) (u a : ℕ) → z ≡ offset → int_lt z (pos 0) ≡ false → u ≡ unsigned_abs z → a ≡ (start + u) % 2 ^ 64 → IsMovedBy start offset a
moved_up start offset z u a same ge is moved = subst (λ (y : ℤ). IsMovedBy start y a) same (up start z u a ge is moved)
