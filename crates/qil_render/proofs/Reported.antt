-- Texts that a loop puts: what was reported so far, and what is left.
use Rattle.std.proofs.Common.{◌≡◌, ℕ, List, [], ◌++◌, Option, sym, subst, ◌∙◌, append_assoc, refl}
use Rattle.std.specs.Prelude.{Result, Err, IsErrAnd}
use Rattle.std.specs.Io.KnownBytes.{Appends}
use Rattle.std.proofs.lemmas.List.{append-nil}
use Rattle.qil_streams.specs.Device.{Puts}
use Rattle.qil_streams.proofs.DeviceLemmas.{Appends-nil, Appends-append}
use Rattle.qil_streams.proofs.TextLemmas.{Puts-append, Puts-stop}

-- of the whole text a prefix was put, and this is left
pub record Reported (whole rest : List ℕ) (before now : Option (List ℕ)) : Type 0 where
  pub prefix : List ℕ
  pub put : Appends before now prefix
  pub left : whole ≡ prefix ++ rest

pub reported_none : (whole : List ℕ) (a : Option (List ℕ)) → Reported whole whole a a
reported_none whole a = record { prefix = []; put = Appends-nil a; left = refl }

-- one text more was put
pub reported_more : (whole x rest : List ℕ) (a b c : Option (List ℕ)) → Reported whole (x ++ rest) a b → Appends b c x → Reported whole rest a c
reported_more whole x rest a b c t p = record { prefix = t.prefix ++ x; put = Appends-append a b c t.prefix x t.put p; left = t.left ∙ sym (append_assoc t.prefix x rest) }

-- a text stopped
pub reported_stop : {T E F : Type 0} (whole x rest : List ℕ) (a b c : Option (List ℕ)) → Reported whole (x ++ rest) a b →
    (Q : E → Type 0) (r : Result T E) → IsErrAnd r Q → (e : F) → Puts {T = T} (Err e) b c x → Puts r a c whole
reported_stop whole x rest a b c t Q r is e p =
    subst (λ (text : List ℕ). Puts r a c text) (sym t.left) (Puts-append r a b c t.prefix (x ++ rest) t.put (Puts-stop Q r is e b c x rest p))

-- the last text
pub reported_last : {T E : Type 0} (whole x : List ℕ) (a b c : Option (List ℕ)) → Reported whole x a b → (r : Result T E) → Puts r b c x → Puts r a c whole
reported_last whole x a b c t r p = subst (λ (text : List ℕ). Puts r a c text) (sym t.left) (Puts-append r a b c t.prefix x t.put p)

-- nothing is left
pub reported_all : (whole : List ℕ) (a b : Option (List ℕ)) → Reported whole [] a b → Appends a b whole
reported_all whole a b t = subst (λ (text : List ℕ). Appends a b text) (sym (t.left ∙ append-nil t.prefix)) t.put

-- what is left, in other words
pub reported_as : (whole rest other : List ℕ) (a b : Option (List ℕ)) → rest ≡ other → Reported whole rest a b → Reported whole other a b
reported_as whole rest other a b e t = subst (λ (r : List ℕ). Reported whole r a b) e t

-- a whole text in other words
pub reported_whole : (whole other rest : List ℕ) (a b : Option (List ℕ)) → whole ≡ other → Reported whole rest a b → Reported other rest a b
reported_whole whole other rest a b e t = subst (λ (w : List ℕ). Reported w rest a b) e t
