-- The words of a canonical text are spelled as the tree that they are written from, lines aside.
use Rattle.std.proofs.Common.{◌≡◌, ℕ, ◌+◌, List, [], ◌∷◌, ◌++◌, length, Option, Some, refl, ap, subst, ◌∙◌, inl, inr}
use Rattle.std.specs.List.{flat_map}
use Rattle.qil_language.specs.Language.{One, Nothing, Seq, Image, Either, Many, Tail}
use Rattle.qil_parser.specs.Token.{Tok, seen}
use Rattle.qil_printer.specs.Canonical.{Written}
use Rattle.qil_printer.proofs.CanonicalCuts.{tokens_at}

-- ---- tokens that show words

-- the tokens are of the words' kinds and bytes, on any lines
abbrev pub Shows : List Tok → List Written → Type 0
Shows [] [] = Unit {0}
Shows [] (w ∷ ws) = ⊥
Shows (t ∷ us) [] = ⊥
Shows (t ∷ us) (w ∷ ws) = (t.kind ≡ w.kind) × (t.text ≡ w.bytes) × Shows us ws

pub shown : (text : List ℕ) (from : ℕ) (ws : List Written) → Shows (seen (tokens_at text from ws)) ws
shown text from [] = tt
shown text from (w ∷ ws) = (refl, refl, shown text ((from + length w.gap) + length w.bytes) ws)

split_shows : (xs ys : List Written) (us : List Tok) → Shows us (xs ++ ys) → (p : List Tok) × (q : List Tok) × (us ≡ p ++ q) × Shows p xs × Shows q ys
split_shows [] ys us s = ([], us, refl, tt, s)
split_shows (x ∷ xs) ys [] s = absurd s
split_shows (x ∷ xs) ys (t ∷ us) s =
    let k = split_shows xs ys us s.2 in
    (t ∷ k.0, k.1, ap (λ (l : List Tok). t ∷ l) k.2, (s.0, s.1, k.3), k.4)

none_shown : (us : List Tok) → Shows us [] → us ≡ []
none_shown [] s = refl
none_shown (t ∷ us) s = absurd s

-- each of them
abbrev pub AllOf : {T : Type 0} → (T → Type 0) → List T → Type 0
AllOf P [] = Unit {0}
AllOf P (x ∷ xs) = P x × AllOf P xs

-- ---- languages whose phrases the words are, with a value of which Q holds

pub record Reported {A : Type 0} (S : List Tok → A → Type 0) (us : List Tok) (Q : A → Type 0) : Type 0 where
  pub value : A
  pub spelled : S us value
  pub holds : Q value

abbrev pub Writes : {A : Type 0} → (List Tok → A → Type 0) → List Written → (A → Type 0) → Type 0
Writes S ws Q = (us : List Tok) → Shows us ws → Reported S us Q

abbrev pub tok_of : Written → ℕ → Tok
tok_of w line = record { kind = w.kind; text = w.bytes; line = line }

pub writes_one : {A : Type 0} (f : Tok → Option A) (w : Written) (a : ℕ → A) (Q : A → Type 0) → ((line : ℕ) → f (tok_of w line) ≡ Some (a line)) → ((line : ℕ) → Q (a line)) → Writes (One f) (w ∷ []) Q
writes_one f w a Q means holds [] s = absurd s
writes_one f w a Q means holds (t ∷ []) s =
    let same : t ≡ tok_of w t.line = λ i. record { kind = s.0 i; text = s.1 i; line = t.line } in
    record { value = a t.line; spelled = record { token = t; alone = refl; means = ap f same ∙ means t.line }; holds = holds t.line }
writes_one f w a Q means holds (t ∷ (u ∷ us)) s = absurd s.2

pub writes_seq : {A B : Type 0} {S : List Tok → A → Type 0} {U : List Tok → B → Type 0} {Q : A → Type 0} {R : B → Type 0} (xs ys : List Written) → Writes S xs Q → Writes U ys R → Writes (Seq S U) (xs ++ ys) (λ v. Q v.0 × R v.1)
writes_seq xs ys f g us s =
    let k = split_shows xs ys us s in
    let x = f k.0 k.3 in
    let y = g k.1 k.4 in
    record { value = (x.value, y.value); spelled = record { left = k.0; right = k.1; parts = k.2; first = x.spelled; second = y.spelled }; holds = (x.holds, y.holds) }

pub writes_image : {A B : Type 0} {S : List Tok → A → Type 0} {Q : A → Type 0} {ws : List Written} (f : A → B) (R : B → Type 0) → Writes S ws Q → ((a : A) → Q a → R (f a)) → Writes (Image f S) ws R
writes_image f R g h us s = let x = g us s in record { value = f x.value; spelled = record { value = x.value; spelled = x.spelled; made = refl }; holds = h x.value x.holds }

pub writes_left : {A : Type 0} {S U : List Tok → A → Type 0} {Q : A → Type 0} {ws : List Written} → Writes S ws Q → Writes (Either S U) ws Q
writes_left f us s = let x = f us s in record { value = x.value; spelled = inl x.spelled; holds = x.holds }

pub writes_right : {A : Type 0} {S U : List Tok → A → Type 0} {Q : A → Type 0} {ws : List Written} → Writes U ws Q → Writes (Either S U) ws Q
writes_right f us s = let x = f us s in record { value = x.value; spelled = inr x.spelled; holds = x.holds }

pub writes_nothing : {A : Type 0} (x : A) (Q : A → Type 0) → Q x → Writes (Nothing x) [] Q
writes_nothing x Q q us s = record { value = x; spelled = record { none = none_shown us s; value = refl }; holds = q }

-- items, each of whose words are known
pub writes_many : {T : Type 0} (S : List Tok → T → Type 0) (words : T → List Written) (xs : List T) (P : T → Type 0) → AllOf P xs → ((x : T) → P x → Writes S (words x) (λ v. v ≡ x)) → Writes (Many S) (flat_map words xs) (λ v. v ≡ xs)
writes_many S words [] P all f us s = record { value = []; spelled = none_shown us s; holds = refl }
writes_many S words (x ∷ xs) P all f us s =
    let k = split_shows (words x) (flat_map words xs) us s in
    let a = f x all.0 k.0 k.3 in
    let b = writes_many S words xs P all.1 f k.1 k.4 in
    record { value = a.value ∷ b.value; spelled = (k.0, k.1, k.2, a.spelled, b.spelled); holds = λ i. a.holds i ∷ b.holds i }

-- the same after separators
pub writes_tail : {T : Type 0} (C : List Tok → Unit {0} → Type 0) (S : List Tok → T → Type 0) (c : Written) (words : T → List Written) (xs : List T) (P : T → Type 0) → AllOf P xs → Writes C (c ∷ []) (λ v. Unit {0}) → ((x : T) → P x → Writes S (words x) (λ v. v ≡ x)) → Writes (Tail C S) (flat_map (λ x. c ∷ words x) xs) (λ v. v ≡ xs)
writes_tail C S c words [] P all sep f us s = record { value = []; spelled = inl (none_shown us s); holds = refl }
writes_tail C S c words (x ∷ xs) P all sep f us s =
    let k = split_shows (c ∷ []) (words x ++ flat_map (λ y. c ∷ words y) xs) us s in
    let j = split_shows (words x) (flat_map (λ y. c ∷ words y) xs) k.1 k.4 in
    let d = sep k.0 k.3 in
    let a = f x all.0 j.0 j.3 in
    let b = writes_tail C S c words xs P all.1 sep f j.1 j.4 in
    record {
      value = a.value ∷ b.value;
      spelled = (k.0, j.0, j.1, k.2 ∙ ap (λ (l : List Tok). k.0 ++ l) j.2, subst (λ (u : Unit {0}). C k.0 u) (λ i. tt) d.spelled, a.spelled, b.spelled);
      holds = λ i. a.holds i ∷ b.holds i;
    }
