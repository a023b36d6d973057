-- What reading says of a language, proved once for each way of putting languages together.
use Rattle.std.proofs.Common.{◌≡◌, ℕ, zero, suc, ◌≤◌, Bool, true, false, ◌||◌, ◌&&◌, not, cond, eqb, List, [], ◌∷◌, ◌++◌, length, Option, Some, None, refl, sym, ap, subst, ◌∙◌, inl, inr, arith, append_assoc}
use Rattle.std.proofs.lemmas.List.{append_cancel_left, append-nil, length-append}
use Rattle.std.proofs.lemmas.Bool.{eqb-true}
use Rattle.qil_language.specs.Language.{One, Nothing, Seq, Image, Either, Many, Tail}
use Rattle.qil_language.specs.Reading.{Read, got, failed, ◌>>=◌, has, starts, taken, one, nothing, seq, image, either, many_at, many, cons_of, tail_at, tail, flagged}
use Rattle.qil_language.specs.Reads.{when, apart, within, Same, Got, Failed, Explains, Begins, Quiet, Reads}

-- ---- sets of kinds of tokens

or_false : (a b : Bool) → a || b ≡ false → (a ≡ false) × (b ≡ false)
or_false true b h = absurd cc
or_false false b h = (refl, h)

or_right : (a b : Bool) → b ≡ true → a || b ≡ true
or_right true b h = refl
or_right false b h = h

pub and_true : (a b : Bool) → a && b ≡ true → (a ≡ true) × (b ≡ true)
and_true true b h = (refl, h)
and_true false b h = absurd cc

not_true : (a : Bool) → not a ≡ true → a ≡ false
not_true true h = absurd cc
not_true false h = refl

has_split : (xs ys : List ℕ) (n : ℕ) → has (xs ++ ys) n ≡ false → (has xs n ≡ false) × (has ys n ≡ false)
has_split [] ys n h = (refl, h)
has_split (x ∷ xs) ys n h =
    let o = or_false (eqb x n) (has (xs ++ ys) n) h in
    let k = has_split xs ys n o.1 in
    (rw (o.0, k.0) refl, k.1)

or_join : (a b : Bool) → a ≡ false → b ≡ false → a || b ≡ false
or_join a b h k = rw (h, k) refl

has_join : (xs ys : List ℕ) (n : ℕ) → has xs n ≡ false → has ys n ≡ false → has (xs ++ ys) n ≡ false
has_join [] ys n h k = k
has_join (x ∷ xs) ys n h k = let o = or_false (eqb x n) (has xs n) h in or_join (eqb x n) (has (xs ++ ys) n) o.0 (has_join xs ys n o.1 k)

or_map : (b x y : Bool) → (x ≡ true → y ≡ true) → b || x ≡ true → b || y ≡ true
or_map true x y f h = refl
or_map false x y f h = f h

pub has_left : (xs ys : List ℕ) (n : ℕ) → has xs n ≡ true → has (xs ++ ys) n ≡ true
has_left [] ys n h = absurd cc
has_left (x ∷ xs) ys n h = or_map (eqb x n) (has xs n) (has (xs ++ ys) n) (has_left xs ys n) h

pub has_right : (xs ys : List ℕ) (n : ℕ) → has ys n ≡ true → has (xs ++ ys) n ≡ true
has_right [] ys n h = h
has_right (x ∷ xs) ys n h = or_right (eqb x n) (has (xs ++ ys) n) (has_right xs ys n h)

apart_head : (x n : ℕ) (ys : List ℕ) (b c : Bool) → eqb x n ≡ b → has ys x ≡ false → (c ≡ true → has ys n ≡ false) → b || c ≡ true → has ys n ≡ false
apart_head x n ys true c e out f h = subst (λ (m : ℕ). has ys m ≡ false) (eqb-true x n e) out
apart_head x n ys false c e out f h = f h

pub apart_law : (xs ys : List ℕ) (n : ℕ) → apart xs ys ≡ true → has xs n ≡ true → has ys n ≡ false
apart_law [] ys n a h = absurd cc
apart_law (x ∷ xs) ys n a h =
    let k = and_true (not (has ys x)) (apart xs ys) a in
    apart_head x n ys (eqb x n) (has xs n) refl (not_true (has ys x) k.0) (apart_law xs ys n k.1) h

pub quiet_bind : {T A B : Type 0} (o : Read T A) (f : A × List T → Read T B) → Quiet o → ((x : A × List T) → Quiet (f x)) → Quiet (o >>= f)
quiet_bind (got a rest) f q h = h (a, rest)
quiet_bind (failed e rest) f q h = q

pub quiet_seq : {T A B : Type 0} (r : List T → Read T A) (s : List T → Read T B) → ((ts : List T) → Quiet (r ts)) → ((ts : List T) → Quiet (s ts)) → (ts : List T) → Quiet (seq r s ts)
quiet_seq r s q k ts = quiet_bind (r ts) (λ x. s x.1 >>= λ y. got (x.0, y.0) y.1) (q ts) (λ x. quiet_bind (s x.1) (λ y. got (x.0, y.0) y.1) (k x.1) (λ y. tt))

quiet_cond : {T A : Type 0} (b : Bool) (o u : Read T A) → Quiet o → Quiet u → Quiet (cond b o u)
quiet_cond true o u q k = q
quiet_cond false o u q k = k

quiet_many : {T A : Type 0} (index : T → ℕ) (set : List ℕ) (r : List T → Read T A) → ((ts : List T) → Quiet (r ts)) → (n : ℕ) (ts : List T) → Quiet (many_at index set r n ts)
quiet_many index set r q zero ts = tt
quiet_many index set r q (suc n) ts = quiet_cond (starts index set ts) _ _ (quiet_bind (r ts) (λ x. many_at index set r n x.1 >>= λ y. got (x.0 ∷ y.0) y.1) (q ts) (λ x. quiet_bind (many_at index set r n x.1) (λ y. got (x.0 ∷ y.0) y.1) (quiet_many index set r q n x.1) (λ y. tt))) tt

pub quiet_image : {T A B : Type 0} (f : A → B) (r : List T → Read T A) → ((ts : List T) → Quiet (r ts)) → (ts : List T) → Quiet (image f r ts)
quiet_image f r q ts = quiet_bind (r ts) (λ x. got (f x.0) x.1) (q ts) (λ x. tt)

quiet_tail : {T A : Type 0} (index : T → ℕ) (sep set : List ℕ) (c : List T → Read T (Unit {0})) (r : List T → Read T A) → ((ts : List T) → Quiet (c ts)) → ((ts : List T) → Quiet (r ts)) → (n : ℕ) (ts : List T) → Quiet (tail_at index sep set c r n ts)
quiet_tail index sep set c r q k zero ts = tt
quiet_tail index sep set c r q k (suc n) ts =
    quiet_cond (starts index sep ts) _ _ (quiet_image (λ v. v.1) (seq c (either index set (image cons_of (seq r (tail_at index sep set c r n))) (nothing [])))
    (quiet_seq c (either index set (image cons_of (seq r (tail_at index sep set c r n))) (nothing [])) q (λ us. quiet_cond (starts index set us) _ _ (quiet_image cons_of (seq r (tail_at index sep set c r n)) (quiet_seq r (tail_at index sep set c r n) k (quiet_tail index sep set c r q k n)) us) tt)) ts) tt

quiet_taken : {T A : Type 0} (o : Option A) (t : T) (ts : List T) → Quiet (taken o t ts)
quiet_taken (Some a) t ts = tt
quiet_taken None t ts = refl

pub quiet_one : {T A : Type 0} (f : T → Option A) (ts : List T) → Quiet (one f ts)
quiet_one f [] = refl
quiet_one f (t ∷ ts) = quiet_taken (f t) t ts

module _ {T : Type 0} (index : T → ℕ) where
  pub same_heads : (c rest z : List T) → Same rest z → Same (c ++ rest) (c ++ z)
  same_heads [] rest z h = h
  same_heads (t ∷ c) rest z h = refl

  pub starts_same : (set : List ℕ) (ts z : List T) → Same ts z → starts index set ts ≡ starts index set z
  starts_same set [] [] h = refl
  starts_same set [] (t ∷ z) h = absurd h
  starts_same set (t ∷ ts) [] h = absurd h
  starts_same set (t ∷ ts) (u ∷ z) h = ap (λ (v : T). has set (index v)) h

  pub free_split : (xs ys : List ℕ) (w : List T) → starts index (xs ++ ys) w ≡ false → (starts index xs w ≡ false) × (starts index ys w ≡ false)
  free_split xs ys [] h = (refl, refl)
  free_split xs ys (t ∷ w) h = has_split xs ys (index t) h

  -- what comes after a phrase doesn't go on with it
  pub free_next : (m1 m2 f2 : List ℕ) (e2 : Bool) (r w : List T) → apart f2 m1 ≡ true → Begins index f2 e2 r → starts index (m2 ++ when e2 m1) w ≡ false → starts index m1 (r ++ w) ≡ false
  free_next m1 m2 f2 true [] w a b h = (free_split m2 m1 w h).1
  free_next m1 m2 f2 false [] w a b h = absurd cc
  free_next m1 m2 f2 e2 (t ∷ r) w a b h = apart_law f2 m1 (index t) a b

  regroup : (p l r w c z : List T) → p ≡ l ++ r → p ++ w ≡ c ++ z → l ++ (r ++ w) ≡ c ++ z
  regroup p l r w c z e h = sym (append_assoc l r w) ∙ ap (λ (x : List T). x ++ w) (sym e) ∙ h

-- ---- one phrase and then another

module _ {T A B : Type 0} (index : T → ℕ) (S : List T → A → Type 0) (U : List T → B → Type 0) (m1 f2 m2 : List ℕ) (e2 : Bool) where
  abbrev pub both : List ℕ
  both = m2 ++ when e2 m1

  pub seq_got : (ts : List T) (a : A) (rest : List T) (b : B) (rest2 : List T) → ((p : List T) (x : B) → U p x → Begins index f2 e2 p) → apart f2 m1 ≡ true → Got index S m1 ts a rest → Got index U m2 rest b rest2 → Got index (Seq S U) both ts (a, b) rest2
  seq_got ts a rest b rest2 begins far g h = record {
    prefix = g.prefix ++ h.prefix;
    parts = g.parts ∙ ap (λ (x : List T). g.prefix ++ x) h.parts ∙ sym (append_assoc g.prefix h.prefix rest2);
    spelled = record { left = g.prefix; right = h.prefix; parts = refl; first = g.spelled; second = h.spelled };
    only = λ p ab w z s free eq same.
        let eq1 : s.left ++ (s.right ++ w) ≡ g.prefix ++ (h.prefix ++ z) = regroup index p s.left s.right w (g.prefix ++ h.prefix) z s.parts eq ∙ append_assoc g.prefix h.prefix z in
        let heads : Same rest (h.prefix ++ z) = subst (λ (x : List T). Same x (h.prefix ++ z)) (sym h.parts) (same_heads index h.prefix rest2 z same) in
        let one = g.only s.left ab.0 (s.right ++ w) (h.prefix ++ z) s.first (free_next index m1 m2 f2 e2 s.right w far (begins s.right ab.1 s.second) free) eq1 heads in
        let eq2 : s.right ++ w ≡ h.prefix ++ z = append_cancel_left g.prefix (s.right ++ w) (h.prefix ++ z) (ap (λ (x : List T). x ++ (s.right ++ w)) (sym one.0) ∙ eq1) in
        let two = h.only s.right ab.1 w z s.second (free_split index m2 (when e2 m1) w free).0 eq2 same in
        (s.parts ∙ ap (λ (x : List T). x ++ s.right) one.0 ∙ ap (λ (x : List T). g.prefix ++ x) two.0, λ i. (one.1 i, two.1 i));
  }

  pub seq_failed_first : (ts rest w2 : List T) (b : B) → U w2 b → ((p : List T) (x : B) → U p x → Begins index f2 e2 p) → apart f2 m1 ≡ true → Failed index S m1 ts rest → Failed index (Seq S U) both ts rest
  seq_failed_first ts rest w2 b example begins far g = record {
    prefix = g.prefix;
    parts = g.parts;
    ending = g.ending ++ w2;
    value = (g.value, b);
    begun = record { left = g.prefix ++ g.ending; right = w2; parts = sym (append_assoc g.prefix g.ending w2); first = g.begun; second = example };
    none = λ p ab w z s free eq same.
        g.none s.left ab.0 (s.right ++ w) z s.first (free_next index m1 m2 f2 e2 s.right w far (begins s.right ab.1 s.second) free) (regroup index p s.left s.right w g.prefix z s.parts eq) same;
  }

  pub seq_failed_second : (ts : List T) (a : A) (rest rest2 : List T) → ((p : List T) (x : B) → U p x → Begins index f2 e2 p) → apart f2 m1 ≡ true → Got index S m1 ts a rest → Failed index U m2 rest rest2 → Failed index (Seq S U) both ts rest2
  seq_failed_second ts a rest rest2 begins far g h = record {
    prefix = g.prefix ++ h.prefix;
    parts = g.parts ∙ ap (λ (x : List T). g.prefix ++ x) h.parts ∙ sym (append_assoc g.prefix h.prefix rest2);
    ending = h.ending;
    value = (a, h.value);
    begun = record { left = g.prefix; right = h.prefix ++ h.ending; parts = append_assoc g.prefix h.prefix h.ending; first = g.spelled; second = h.begun };
    none = λ p ab w z s free eq same.
        let eq1 : s.left ++ (s.right ++ w) ≡ g.prefix ++ (h.prefix ++ z) = regroup index p s.left s.right w (g.prefix ++ h.prefix) z s.parts eq ∙ append_assoc g.prefix h.prefix z in
        let heads : Same rest (h.prefix ++ z) = subst (λ (x : List T). Same x (h.prefix ++ z)) (sym h.parts) (same_heads index h.prefix rest2 z same) in
        let one = g.only s.left ab.0 (s.right ++ w) (h.prefix ++ z) s.first (free_next index m1 m2 f2 e2 s.right w far (begins s.right ab.1 s.second) free) eq1 heads in
        let eq2 : s.right ++ w ≡ h.prefix ++ z = append_cancel_left g.prefix (s.right ++ w) (h.prefix ++ z) (ap (λ (x : List T). x ++ (s.right ++ w)) (sym one.0) ∙ eq1) in
        h.none s.right ab.1 w z s.second (free_split index m2 (when e2 m1) w free).0 eq2 same;
  }

  explain_rest : (ts : List T) (a : A) (rest : List T) (o : Read T B) → ((p : List T) (x : B) → U p x → Begins index f2 e2 p) → apart f2 m1 ≡ true → Got index S m1 ts a rest → Explains index U m2 rest o → Explains index (Seq S U) both ts (o >>= λ y. got (a, y.0) y.1)
  explain_rest ts a rest (got b rest2) begins far g h = seq_got ts a rest b rest2 begins far g h
  explain_rest ts a rest (failed e rest2) begins far g h = seq_failed_second ts a rest rest2 begins far g h

  -- the second is read only after a first, which may be known to take tokens
  pub explain_seq : (ts : List T) (o : Read T A) (s : List T → Read T B) (w2 : List T) (b : B) → U w2 b → ((p : List T) (x : B) → U p x → Begins index f2 e2 p) → apart f2 m1 ≡ true → Explains index S m1 ts o → ((a : A) (rest : List T) → Got index S m1 ts a rest → Explains index U m2 rest (s rest)) → Explains index (Seq S U) both ts (o >>= λ x. s x.1 >>= λ y. got (x.0, y.0) y.1)
  explain_seq ts (got a rest) s w2 b example begins far g h = explain_rest ts a rest (s rest) begins far g (h a rest g)
  explain_seq ts (failed e rest) s w2 b example begins far g h = seq_failed_first ts rest w2 b example begins far g

pub begins_right : {T : Type 0} (index : T → ℕ) (f1 f2 : List ℕ) (e2 : Bool) (q : List T) → Begins index f2 e2 q → Begins index (f1 ++ f2) e2 q
begins_right index f1 f2 e2 [] k = k
begins_right index f1 f2 e2 (t ∷ q) k = has_right f1 f2 (index t) k

pub seq_begins : {T : Type 0} (index : T → ℕ) (f1 f2 : List ℕ) (e1 e2 : Bool) (l r : List T) → Begins index f1 e1 l → Begins index f2 e2 r → Begins index (f1 ++ when e1 f2) (e1 && e2) (l ++ r)
seq_begins index f1 f2 true e2 [] r h k = begins_right index f1 f2 e2 r k
seq_begins index f1 f2 false e2 [] r h k = absurd cc
seq_begins index f1 f2 e1 e2 (t ∷ l) r h k = has_left f1 (when e1 f2) (index t) h

pub shorter_by : {T : Type 0} (index : T → ℕ) (f : List ℕ) (n : ℕ) (ts prefix rest : List T) → length ts ≤ suc n → ts ≡ prefix ++ rest → Begins index f false prefix → length rest ≤ n
shorter_by index f n ts [] rest le e b = absurd cc
shorter_by index f n ts (t ∷ prefix) rest le e b = omega (arith, ap length e, length-append prefix rest)

pub prefix_first : {T : Type 0} (index : T → ℕ) (set : List ℕ) (p l q : List T) → p ≡ l ++ q → Begins index set false l → Begins index set false p
prefix_first index set p [] q e b = absurd cc
prefix_first index set p (t ∷ l) q e b = subst (λ (y : List _). Begins index set false y) (sym e) b

pub seq_reads : {T A B : Type 0} {index : T → ℕ} {S : List T → A → Type 0} {U : List T → B → Type 0} {r : List T → Read T A} {s : List T → Read T B} {f1 f2 m1 m2 : List ℕ} {e1 e2 c d : Bool} {n : ℕ} → Reads n c index S r f1 e1 m1 → Reads n d index U s f2 e2 m2 → apart f2 m1 ≡ true → Reads n (c && d) index (Seq S U) (seq r s) (f1 ++ when e1 f2) (e1 && e2) (m2 ++ when e2 m1)
seq_reads {index} {S} {U} {r} {s} {f1} {f2} {m1} {m2} {e1} {e2} {c} {d} {n} x y far = record {
  explains = λ ts le. explain_seq index S U m1 f2 m2 e2 ts (r ts) s y.text y.value y.example y.begins far (x.explains ts le) (λ a rest g. y.explains rest (omega (arith, ap length g.parts, length-append g.prefix rest)));
  begins = λ p ab q. subst (λ (l : List _). Begins index (f1 ++ when e1 f2) (e1 && e2) l) (sym q.parts) (seq_begins index f1 f2 e1 e2 q.left q.right (x.begins q.left ab.0 q.first) (y.begins q.right ab.1 q.second));
  text = x.text ++ y.text;
  value = (x.value, y.value);
  example = record { left = x.text; right = y.text; parts = refl; first = x.example; second = y.example };
  quiet = λ h. let k = and_true c d h in quiet_seq r s (x.quiet k.0) (y.quiet k.1);
}

-- the second has fewer tokens left
pub seq_after : {T A B : Type 0} {index : T → ℕ} {S : List T → A → Type 0} {U : List T → B → Type 0} {r : List T → Read T A} {s : List T → Read T B} {f1 f2 m1 m2 : List ℕ} {e2 c d : Bool} {n : ℕ} → Reads (suc n) c index S r f1 false m1 → Reads n d index U s f2 e2 m2 → apart f2 m1 ≡ true → Reads (suc n) (c && d) index (Seq S U) (seq r s) f1 false (m2 ++ when e2 m1)
seq_after {index} {S} {U} {r} {s} {f1} {f2} {m1} {m2} {e2} {c} {d} {n} x y far = record {
  explains = λ ts le. explain_seq index S U m1 f2 m2 e2 ts (r ts) s y.text y.value y.example y.begins far (x.explains ts le) (λ a rest g. y.explains rest (shorter_by index f1 n ts g.prefix rest le g.parts (x.begins g.prefix a g.spelled)));
  begins = λ p ab q. prefix_first index f1 p q.left q.right q.parts (x.begins q.left ab.0 q.first);
  text = x.text ++ y.text;
  value = (x.value, y.value);
  example = record { left = x.text; right = y.text; parts = refl; first = x.example; second = y.example };
  quiet = λ h. let k = and_true c d h in quiet_seq r s (x.quiet k.0) (y.quiet k.1);
}

-- ---- a value made from another

module _ {T A B : Type 0} (index : T → ℕ) (f : A → B) (S : List T → A → Type 0) (more : List ℕ) where
  explain_image : (ts : List T) (o : Read T A) → Explains index S more ts o → Explains index (Image f S) more ts (o >>= λ x. got (f x.0) x.1)
  explain_image ts (got a rest) g = record {
    prefix = g.prefix;
    parts = g.parts;
    spelled = record { value = a; spelled = g.spelled; made = refl };
    only = λ p b w z s free eq same. let one = g.only p s.value w z s.spelled free eq same in (one.0, sym s.made ∙ ap f one.1);
  }
  explain_image ts (failed e rest) g = record {
    prefix = g.prefix;
    parts = g.parts;
    ending = g.ending;
    value = f g.value;
    begun = record { value = g.value; spelled = g.begun; made = refl };
    none = λ p b w z s free eq same. g.none p s.value w z s.spelled free eq same;
  }

pub image_reads : {T A B : Type 0} {index : T → ℕ} {S : List T → A → Type 0} {r : List T → Read T A} {first more : List ℕ} {empty c : Bool} {n : ℕ} (f : A → B) → Reads n c index S r first empty more → Reads n c index (Image f S) (image f r) first empty more
image_reads {index} {S} {r} {first} {more} {empty} f x = record {
  explains = λ ts le. explain_image index f S more ts (r ts) (x.explains ts le);
  begins = λ p b q. x.begins p q.value q.spelled;
  text = x.text;
  value = f x.value;
  example = record { value = x.value; spelled = x.example; made = refl };
  quiet = λ h. quiet_image f r (x.quiet h);
}

-- ---- the same language, said in another way

module _ {T A : Type 0} (index : T → ℕ) (S U : List T → A → Type 0) (there : (p : List T) (a : A) → S p a → U p a) (back : (p : List T) (a : A) → U p a → S p a) (more : List ℕ) where
  explain_said : (ts : List T) (o : Read T A) → Explains index S more ts o → Explains index U more ts o
  explain_said ts (got a rest) g = record { prefix = g.prefix; parts = g.parts; spelled = there g.prefix a g.spelled; only = λ p b w z s. g.only p b w z (back p b s) }
  explain_said ts (failed e rest) g = record { prefix = g.prefix; parts = g.parts; ending = g.ending; value = g.value; begun = there (g.prefix ++ g.ending) g.value g.begun; none = λ p b w z s. g.none p b w z (back p b s) }

pub said_reads : {T A : Type 0} {index : T → ℕ} {S U : List T → A → Type 0} {r : List T → Read T A} {first more : List ℕ} {empty c : Bool} {n : ℕ} → ((p : List T) (a : A) → S p a → U p a) → ((p : List T) (a : A) → U p a → S p a) → Reads n c index S r first empty more → Reads n c index U r first empty more
said_reads {index} {S} {U} {r} {first} {more} {empty} there back x = record {
  explains = λ ts le. explain_said index S U there back more ts (r ts) (x.explains ts le);
  begins = λ p a u. x.begins p a (back p a u);
  text = x.text;
  value = x.value;
  example = there x.text x.value x.example;
  quiet = x.quiet;
}

-- ---- one token, and none

abbrev known : {A : Type 0} → A → Option A
known x = Some x

pub known_is : {A : Type 0} (x y : A) → known x ≡ known y → x ≡ y
known_is x y e = cc

pub head_is : {T : Type 0} (t u : T) (w z : List T) → t ∷ w ≡ u ∷ z → t ≡ u
head_is t u w z e = cc

module _ {T A : Type 0} (index : T → ℕ) (f : T → Option A) (set : List ℕ) (fits : (t : T) (a : A) → f t ≡ Some a → has set (index t) ≡ true) (t0 : T) (a0 : A) (e0 : f t0 ≡ Some a0) where
  one_example : One f (t0 ∷ []) a0
  one_example = record { token = t0; alone = refl; means = e0 }

  explain_one_at : (t : T) (ts : List T) (o : Option A) → f t ≡ o → Explains index (One f) [] (t ∷ ts) (taken o t ts)
  explain_one_at t ts (Some a) e = record {
    prefix = t ∷ [];
    parts = refl;
    spelled = record { token = t; alone = refl; means = e };
    only = λ p b w z s free eq same.
        let h : s.token ≡ t = head_is s.token t w z (ap (λ (x : List T). x ++ w) (sym s.alone) ∙ eq) in
        (s.alone ∙ ap (λ (v : T). v ∷ []) h, known_is b a (sym s.means ∙ ap f h ∙ e));
  }
  explain_one_at t ts None e = record {
    prefix = [];
    parts = refl;
    ending = t0 ∷ [];
    value = a0;
    begun = one_example;
    none = λ p b w z s free eq same.
        let g : s.token ∷ w ≡ z = ap (λ (x : List T). x ++ w) (sym s.alone) ∙ eq in
        let m : t ≡ s.token = subst (λ (x : List T). Same (t ∷ ts) x) (sym g) same in
        let bad : Some b ≡ None = sym s.means ∙ ap f (sym m) ∙ e in
        absurd cc;
  }

  explain_one : (ts : List T) → Explains index (One f) [] ts (one f ts)
  explain_one [] = record {
    prefix = [];
    parts = refl;
    ending = t0 ∷ [];
    value = a0;
    begun = one_example;
    none = λ p b w z s free eq same.
        let g : s.token ∷ w ≡ z = ap (λ (x : List T). x ++ w) (sym s.alone) ∙ eq in
        subst (λ (x : List T). Same [] x) (sym g) same;
  }
  explain_one (t ∷ ts) = explain_one_at t ts (f t) refl

  pub one_reads : (n : ℕ) → Reads n true index (One f) (one f) set false []
  one_reads n = record {
    explains = λ ts le. explain_one ts;
    begins = λ p a s. subst (λ (l : List T). Begins index set false l) (sym s.alone) (fits s.token a s.means);
    text = t0 ∷ [];
    value = a0;
    example = one_example;
    quiet = λ h. quiet_one f;
  }

nil_parts : {T : Type 0} (p w z : List T) → p ≡ [] → p ++ w ≡ z → w ≡ z
nil_parts p w z e h = ap (λ (x : List _). x ++ w) (sym e) ∙ h

pub nothing_reads : {T A : Type 0} (index : T → ℕ) (n : ℕ) (x : A) → Reads {T = T} {A = A} n true index (Nothing x) (nothing x) [] true []
nothing_reads {T} {A} index n x = record {
  explains = λ ts le. record { prefix = []; parts = refl; spelled = record { none = refl; value = refl }; only = λ p b w z s free eq same. (s.none, sym s.value) };
  begins = λ p a s. subst (λ (l : List T). Begins index [] true l) (sym s.none) refl;
  text = [];
  value = x;
  example = record { none = refl; value = refl };
  quiet = λ h ts. tt;
}

-- ---- more tokens that may go on

module _ {T A : Type 0} (index : T → ℕ) (S : List T → A → Type 0) (less more : List ℕ) (within : (w : List T) → starts index more w ≡ false → starts index less w ≡ false) where
  pub explain_weaker : (ts : List T) (o : Read T A) → Explains index S less ts o → Explains index S more ts o
  explain_weaker ts (got a rest) g = record { prefix = g.prefix; parts = g.parts; spelled = g.spelled; only = λ p b w z s free eq same. g.only p b w z s (within w free) eq same }
  explain_weaker ts (failed e rest) g = record { prefix = g.prefix; parts = g.parts; ending = g.ending; value = g.value; begun = g.begun; none = λ p b w z s free eq same. g.none p b w z s (within w free) eq same }

-- ---- one phrase or the other

module _ {T : Type 0} (index : T → ℕ) where
  starts_at : (set : List ℕ) (p w : List T) → Begins index set false p → starts index set (p ++ w) ≡ true
  starts_at set [] w b = absurd cc
  starts_at set (t ∷ p) w b = b

  -- where the first's tokens come, the second isn't meant
  clash : (f1 f2 : List ℕ) (e2 : Bool) (p w : List T) → apart f1 f2 ≡ true → starts index f1 (p ++ w) ≡ true → Begins index f2 e2 p → starts index (when e2 f1) w ≡ false → ⊥
  clash f1 f2 true [] w far h b free = let bad : true ≡ false = sym h ∙ free in absurd cc
  clash f1 f2 false [] w far h b free = absurd cc
  clash f1 f2 e2 (t ∷ p) w far h b free = let bad : true ≡ false = sym b ∙ apart_law f1 f2 (index t) far h in absurd cc

  start_moves : (set : List ℕ) (ts prefix rest pw z : List T) (b : Bool) → ts ≡ prefix ++ rest → Same rest z → pw ≡ prefix ++ z → starts index set ts ≡ b → starts index set pw ≡ b
  start_moves set ts prefix rest pw z b parts same eq h = ap (starts index set) eq ∙ sym (starts_same index set (prefix ++ rest) (prefix ++ z) (same_heads index prefix rest z same)) ∙ ap (starts index set) (sym parts) ∙ h

module _ {T A : Type 0} (index : T → ℕ) (S U : List T → A → Type 0) (f1 f2 m1 m2 : List ℕ) (e2 : Bool) (b1 : (p : List T) (a : A) → S p a → Begins index f1 false p) (b2 : (p : List T) (a : A) → U p a → Begins index f2 e2 p) (far : apart f1 f2 ≡ true) where
  abbrev pub any_more : List ℕ
  any_more = m1 ++ (m2 ++ when e2 f1)

  not_second : (ts prefix rest p : List T) (a : A) (w z : List T) → starts index f1 ts ≡ true → ts ≡ prefix ++ rest → U p a → starts index any_more w ≡ false → p ++ w ≡ prefix ++ z → Same rest z → ⊥
  not_second ts prefix rest p a w z h parts u free eq same =
      clash index f1 f2 e2 p w far (start_moves index f1 ts prefix rest (p ++ w) z true parts same eq h) (b2 p a u) (free_split index m2 (when e2 f1) w (free_split index m1 (m2 ++ when e2 f1) w free).1).1

  not_first : (ts prefix rest p : List T) (a : A) (w z : List T) → starts index f1 ts ≡ false → ts ≡ prefix ++ rest → S p a → p ++ w ≡ prefix ++ z → Same rest z → ⊥
  not_first ts prefix rest p a w z h parts s eq same =
      let bad : true ≡ false = sym (starts_at index f1 p w (b1 p a s)) ∙ start_moves index f1 ts prefix rest (p ++ w) z false parts same eq h in absurd cc

  either_first : (ts : List T) (o : Read T A) → starts index f1 ts ≡ true → Explains index S m1 ts o → Explains index (Either S U) any_more ts o
  either_first ts (got a rest) h g = record {
    prefix = g.prefix;
    parts = g.parts;
    spelled = inl g.spelled;
    only = λ p b w z s free eq same. elim s [
      | inl x ↦ g.only p b w z x (free_split index m1 (m2 ++ when e2 f1) w free).0 eq same
      | inr x ↦ absurd (not_second ts g.prefix rest p b w z h g.parts x free eq same)
    ];
  }
  either_first ts (failed e rest) h g = record {
    prefix = g.prefix;
    parts = g.parts;
    ending = g.ending;
    value = g.value;
    begun = inl g.begun;
    none = λ p b w z s free eq same. elim s [
      | inl x ↦ g.none p b w z x (free_split index m1 (m2 ++ when e2 f1) w free).0 eq same
      | inr x ↦ not_second ts g.prefix rest p b w z h g.parts x free eq same
    ];
  }

  second_free : (w : List T) → starts index any_more w ≡ false → starts index m2 w ≡ false
  second_free w free = (free_split index m2 (when e2 f1) w (free_split index m1 (m2 ++ when e2 f1) w free).1).0

  either_second : (ts : List T) (o : Read T A) → starts index f1 ts ≡ false → Explains index U m2 ts o → Explains index (Either S U) any_more ts o
  either_second ts (got a rest) h g = record {
    prefix = g.prefix;
    parts = g.parts;
    spelled = inr g.spelled;
    only = λ p b w z s free eq same. elim s [
      | inl x ↦ absurd (not_first ts g.prefix rest p b w z h g.parts x eq same)
      | inr x ↦ g.only p b w z x (second_free w free) eq same
    ];
  }
  either_second ts (failed e rest) h g = record {
    prefix = g.prefix;
    parts = g.parts;
    ending = g.ending;
    value = g.value;
    begun = inr g.begun;
    none = λ p b w z s free eq same. elim s [
      | inl x ↦ not_first ts g.prefix rest p b w z h g.parts x eq same
      | inr x ↦ g.none p b w z x (second_free w free) eq same
    ];
  }

  either_explains : (ts : List T) (b : Bool) (o u : Read T A) → starts index f1 ts ≡ b → Explains index S m1 ts o → Explains index U m2 ts u → Explains index (Either S U) any_more ts (cond b o u)
  either_explains ts true o u h x y = either_first ts o h x
  either_explains ts false o u h x y = either_second ts u h y

  either_begins : (p : List T) (a : A) → Either S U p a → Begins index (f1 ++ f2) e2 p
  either_begins p a (inl s) = begins_left p (b1 p a s)
    where
      begins_left : (q : List T) → Begins index f1 false q → Begins index (f1 ++ f2) e2 q
      begins_left [] k = absurd cc
      begins_left (t ∷ q) k = has_left f1 f2 (index t) k
  either_begins p a (inr u) = begins_right index f1 f2 e2 p (b2 p a u)

pub either_reads : {T A : Type 0} {index : T → ℕ} {S U : List T → A → Type 0} {r s : List T → Read T A} {f1 f2 m1 m2 : List ℕ} {e2 c d : Bool} {n : ℕ} → Reads n c index S r f1 false m1 → Reads n d index U s f2 e2 m2 → apart f1 f2 ≡ true → Reads n (c && d) index (Either S U) (either index f1 r s) (f1 ++ f2) e2 (m1 ++ (m2 ++ when e2 f1))
either_reads {T} {A} {index} {S} {U} {r} {s} {f1} {f2} {m1} {m2} {e2} {c} {d} x y far = record {
  explains = λ ts le. either_explains index S U f1 f2 m1 m2 e2 x.begins y.begins far ts (starts index f1 ts) (r ts) (s ts) refl (x.explains ts le) (y.explains ts le);
  begins = either_begins index S U f1 f2 m1 m2 e2 x.begins y.begins far;
  text = x.text;
  value = x.value;
  example = inl x.example;
  quiet = λ h ts. let k = and_true c d h in quiet_cond (starts index f1 ts) (r ts) (s ts) (x.quiet k.0 ts) (y.quiet k.1 ts);
}

-- ---- any number

module _ {T A : Type 0} {calm : Bool} (index : T → ℕ) (S : List T → A → Type 0) (r : List T → Read T A) (f m : List ℕ) (k : ℕ) (x : Reads k calm index S r f false m) (far : apart f m ≡ true) where
  to_many : (p : List T) (v : A × List A) → Seq S (Many S) p v → Many S p (v.0 ∷ v.1)
  to_many p v q = (q.left, q.right, q.parts, q.first, q.second)

  from_many : (p : List T) (a : A) (others : List A) → Many S p (a ∷ others) → Seq S (Many S) p (a, others)
  from_many p a others q = record { left = q.0; right = q.1; parts = q.2; first = q.3; second = q.4 }

  many_begins : (p : List T) (v : List A) → Many S p v → Begins index f true p
  many_begins p [] q = subst (λ (l : List T). Begins index f true l) (sym q) refl
  many_begins p (a ∷ others) q = go q.0 (x.begins q.0 a q.3) q.2
    where
      go : (l : List T) → Begins index f false l → p ≡ l ++ q.1 → Begins index f true p
      go [] k e = absurd cc
      go (t ∷ l) k e = subst (λ (y : List T). Begins index f true y) (sym e) k

  not_many : (ts prefix rest p : List T) (a : A) (others : List A) (w z : List T) → starts index f ts ≡ false → ts ≡ prefix ++ rest → Many S p (a ∷ others) → p ++ w ≡ prefix ++ z → Same rest z → ⊥
  not_many ts prefix rest p a others w z h parts q eq same =
      let eq1 : q.0 ++ (q.1 ++ w) ≡ prefix ++ z = regroup index p q.0 q.1 w (prefix ++ z) [] q.2 (eq ∙ sym (append-nil (prefix ++ z))) ∙ append-nil (prefix ++ z) in
      let bad : true ≡ false = sym (starts_at index f q.0 (q.1 ++ w) (x.begins q.0 a q.3)) ∙ start_moves index f ts prefix rest (q.0 ++ (q.1 ++ w)) z false parts same eq1 h in absurd cc

  many_stop : (ts : List T) → starts index f ts ≡ false → Got index (Many S) (f ++ m) ts [] ts
  many_stop ts h = record {
    prefix = [];
    parts = refl;
    spelled = refl;
    only = λ p v w z s free eq same. go p v w z s eq same;
  }
    where
      go : (p : List T) (v : List A) (w z : List T) → Many S p v → p ++ w ≡ z → Same ts z → (p ≡ []) × (v ≡ [])
      go p [] w z s eq same = (s, refl)
      go p (a ∷ others) w z s eq same = absurd (not_many ts [] ts p a others w z h refl s eq same)

  not_none : (ts prefix rest p w z : List T) → starts index f ts ≡ true → ts ≡ prefix ++ rest → p ≡ [] → starts index (f ++ m) w ≡ false → p ++ w ≡ prefix ++ z → Same rest z → ⊥
  not_none ts prefix rest p w z h parts e free eq same =
      let bad : false ≡ true = sym (free_split index f m w free).0 ∙ start_moves index f ts prefix rest w z true parts same (nil_parts p w (prefix ++ z) e eq) h in absurd cc

  many_more : List ℕ
  many_more = (f ++ m) ++ m

  enough : (w : List T) → starts index (f ++ m) w ≡ false → starts index ((f ++ m) ++ m) w ≡ false
  enough [] h = refl
  enough (t ∷ w) h = go (has_split f m (index t) h).1
    where
      go : has m (index t) ≡ false → has ((f ++ m) ++ m) (index t) ≡ false
      go k = has_join (f ++ m) m (index t) h k

  many_cons : (ts : List T) (o : Read T (A × List A)) → starts index f ts ≡ true → Explains index (Seq S (Many S)) ((f ++ m) ++ m) ts o → Explains index (Many S) (f ++ m) ts (o >>= λ v. got (v.0.0 ∷ v.0.1) v.1)
  many_cons ts (got v rest) h g = record {
    prefix = g.prefix;
    parts = g.parts;
    spelled = to_many g.prefix v g.spelled;
    only = go;
  }
    where
      go : (p : List T) (b : List A) (w z : List T) → Many S p b → starts index (f ++ m) w ≡ false → p ++ w ≡ g.prefix ++ z → Same rest z → (p ≡ g.prefix) × (b ≡ v.0 ∷ v.1)
      go p [] w z s free eq same = absurd (not_none ts g.prefix rest p w z h g.parts s free eq same)
      go p (a ∷ others) w z s free eq same = let k = g.only p (a, others) w z (from_many p a others s) (enough w free) eq same in (k.0, ap (λ (y : A × List A). y.0 ∷ y.1) k.1)
  many_cons ts (failed e rest) h g = record {
    prefix = g.prefix;
    parts = g.parts;
    ending = g.ending;
    value = g.value.0 ∷ g.value.1;
    begun = to_many (g.prefix ++ g.ending) g.value g.begun;
    none = go;
  }
    where
      go : (p : List T) (b : List A) (w z : List T) → Many S p b → starts index (f ++ m) w ≡ false → p ++ w ≡ g.prefix ++ z → Same rest z → ⊥
      go p [] w z s free eq same = not_none ts g.prefix rest p w z h g.parts s free eq same
      go p (a ∷ others) w z s free eq same = g.none p (a, others) w z (from_many p a others s) (enough w free) eq same

  shorter : (n : ℕ) (ts prefix rest : List T) → length ts ≤ suc n → ts ≡ prefix ++ rest → Begins index f false prefix → length rest ≤ n
  shorter n ts [] rest le e b = absurd cc
  shorter n ts (t ∷ prefix) rest le e b = omega (arith, ap length e, length-append prefix rest)

  abbrev pairs : Read T A → (List T → Read T (List A)) → Read T (A × List A)
  pairs o s = o >>= λ y. s y.1 >>= λ z. got (y.0, z.0) z.1

  abbrev pairs_at : A → Read T (List A) → Read T (A × List A)
  pairs_at a u = u >>= λ z. got (a, z.0) z.1

  cons_outcome : (o : Read T A) (s : List T → Read T (List A)) → (pairs o s >>= λ v. got (v.0.0 ∷ v.0.1) v.1) ≡ (o >>= λ y. s y.1 >>= λ z. got (y.0 ∷ z.0) z.1)
  cons_outcome (got a rest) s = go (s rest)
    where
      go : (u : Read T (List A)) → (pairs_at a u >>= λ v. got (v.0.0 ∷ v.0.1) v.1) ≡ (u >>= λ z. got (a ∷ z.0) z.1)
      go (got others after) = refl
      go (failed e after) = refl
  cons_outcome (failed e rest) s = refl

  many_step : (ts : List T) → length ts ≤ k → (s : List T → Read T (List A)) → ((a : A) (rest : List T) → Got index S m ts a rest → Explains index (Many S) (f ++ m) rest (s rest)) → (b : Bool) → starts index f ts ≡ b → Explains index (Many S) (f ++ m) ts (cond b (r ts >>= λ y. s y.1 >>= λ z. got (y.0 ∷ z.0) z.1) (got [] ts))
  many_step ts le s next true h = subst (λ (o : Read T (List A)). Explains index (Many S) (f ++ m) ts o) (cons_outcome (r ts) s) (many_cons ts (pairs (r ts) s) h (explain_seq index S (Many S) m f (f ++ m) true ts (r ts) s [] [] refl many_begins far (x.explains ts le) next))
  many_step ts le s next false h = many_stop ts h

  explain_many : (n : ℕ) (ts : List T) → length ts ≤ n → length ts ≤ k → Explains index (Many S) (f ++ m) ts (many_at index f r n ts)
  explain_many zero [] le lk = many_stop [] refl
  explain_many zero (t ∷ ts) le lk = absurd (omega arith)
  explain_many (suc n) ts le lk = many_step ts lk (many_at index f r n) (λ a rest g. explain_many n rest (shorter n ts g.prefix rest le g.parts (x.begins g.prefix a g.spelled)) (omega (arith, ap length g.parts, length-append g.prefix rest))) (starts index f ts) refl

pub many_reads : {T A : Type 0} {index : T → ℕ} {S : List T → A → Type 0} {r : List T → Read T A} {f m : List ℕ} {n : ℕ} {c : Bool} → Reads n c index S r f false m → apart f m ≡ true → Reads n c index (Many S) (many index f r) f true (f ++ m)
many_reads {index} {S} {r} {f} {m} {n} x far = record {
  explains = λ ts le. explain_many index S r f m n x far (length ts) ts (omega arith) le;
  begins = many_begins index S r f m n x far;
  text = [];
  value = [];
  example = refl;
  quiet = λ h ts. quiet_many index f r (x.quiet h) (length ts) ts;
}

-- ---- more tokens that may go on, and the start of a recursion

within_head : (x n : ℕ) (ys : List ℕ) (b c : Bool) → eqb x n ≡ b → has ys x ≡ true → has ys n ≡ false → c ≡ false → b || c ≡ false
within_head x n ys true c e i h k = let bad : true ≡ false = sym i ∙ ap (has ys) (eqb-true x n e) ∙ h in absurd cc
within_head x n ys false c e i h k = k

within_law : (xs ys : List ℕ) (n : ℕ) → within xs ys ≡ true → has ys n ≡ false → has xs n ≡ false
within_law [] ys n i h = refl
within_law (x ∷ xs) ys n i h =
    let k = and_true (has ys x) (within xs ys) i in
    within_head x n ys (eqb x n) (has xs n) refl k.0 h (within_law xs ys n k.1 h)

starts_within : {T : Type 0} (index : T → ℕ) (xs ys : List ℕ) → within xs ys ≡ true → (w : List T) → starts index ys w ≡ false → starts index xs w ≡ false
starts_within index xs ys i [] h = refl
starts_within index xs ys i (t ∷ w) h = within_law xs ys (index t) i h

pub wider_reads : {T A : Type 0} {index : T → ℕ} {S : List T → A → Type 0} {r : List T → Read T A} {first less : List ℕ} {empty c : Bool} {n : ℕ} (more : List ℕ) → Reads n c index S r first empty less → within less more ≡ true → Reads n c index S r first empty more
wider_reads {index} {S} {r} {first} {less} {empty} {n} more x i = record {
  explains = λ ts le. explain_weaker index S less more (starts_within index less more i) ts (r ts) (x.explains ts le);
  begins = x.begins;
  text = x.text;
  value = x.value;
  example = x.example;
  quiet = x.quiet;
}

no_tokens : {T : Type 0} (index : T → ℕ) (first : List ℕ) (p w z : List T) → Begins index first false p → p ++ w ≡ z → Same [] z → ⊥
no_tokens index first [] w z b e h = absurd cc
no_tokens index first (t ∷ p) w z b e h = subst (λ (y : List _). Same [] y) (sym e) h

-- without tokens a phrase of one token or more fails
pub zero_reads : {T A : Type 0} (index : T → ℕ) (S : List T → A → Type 0) (first more : List ℕ) (text : List T) (value : A) → S text value → ((p : List T) (a : A) → S p a → Begins index first false p) → Reads 0 false index S (λ ts. failed false ts) first false more
zero_reads {T} index S first more text value example begins = record {
  explains = λ ts le. record { prefix = []; parts = refl; ending = text; value = value; begun = example; none = λ p b w z s free eq same. no_tokens index first p w z (begins p b s) eq (subst (λ (y : List _). Same y z) (nil_of ts le) same) };
  begins = begins;
  text = text;
  value = value;
  example = example;
  quiet = λ h ts. refl;
}
  where
    nil_of : (l : List T) → length l ≤ 0 → l ≡ []
    nil_of [] le = refl
    nil_of (t ∷ l) le = absurd (omega arith)

-- without tokens a phrase of no token is read
pub empty_reads : {T A : Type 0} (index : T → ℕ) (S : List T → A → Type 0) (first more : List ℕ) (value : A) → S [] value → ((a : A) → S [] a → a ≡ value) → ((p : List T) (a : A) → S p a → Begins index first true p) → Reads 0 true index S (λ ts. got value ts) first true more
empty_reads {T} {A} index S first more value example alone begins = record {
  explains = λ ts le. record { prefix = []; parts = refl; spelled = example; only = λ p b w z s free eq same. only_one ts p b w z le s eq same };
  begins = begins;
  text = [];
  value = value;
  example = example;
  quiet = λ h ts. tt;
}
  where
    none_left : (p w : List T) → p ++ w ≡ [] → p ≡ []
    none_left [] w e = refl
    none_left (t ∷ p) w e = absurd cc

    only_one : (ts p : List T) (b : A) (w z : List T) → length ts ≤ 0 → S p b → p ++ w ≡ z → Same ts z → (p ≡ []) × (b ≡ value)
    only_one [] p b w [] le s eq same = let e = none_left p w eq in (e, alone b (subst (λ (l : List T). S l b) e s))
    only_one [] p b w (u ∷ z) le s eq same = absurd same
    only_one (t ∷ ts) p b w z le s eq same = absurd (omega arith)

-- the same reading, which tells where another token than its first came
pub flagged_reads : {T A : Type 0} {index : T → ℕ} {S : List T → A → Type 0} {r : List T → Read T A} {first more : List ℕ} {n : ℕ} {c : Bool} → Reads n c index S r first false more → Reads n false index S (flagged index first r) first false more
flagged_reads {T} {A} {index} {S} {r} {first} {more} {n} x = record {
  explains = λ ts le. go ts (starts index first ts) refl (x.explains ts le);
  begins = x.begins;
  text = x.text;
  value = x.value;
  example = x.example;
  quiet = λ h ts. absurd cc;
}
  where
    go : (ts : List T) (b : Bool) → starts index first ts ≡ b → Explains index S more ts (r ts) → Explains index S more ts (cond b (r ts) (failed true ts))
    go ts true h e = e
    go ts false h e = record {
      prefix = [];
      parts = refl;
      ending = x.text;
      value = x.value;
      begun = x.example;
      none = λ p b w z s free eq same. let bad : true ≡ false = sym (starts_at index first p w (x.begins p b s)) ∙ start_moves index first ts [] ts (p ++ w) z false refl same eq h in absurd cc;
    }

-- ---- separators

pub apart_nil : (xs : List ℕ) → apart xs [] ≡ true
apart_nil [] = refl
apart_nil (x ∷ xs) = apart_nil xs

module _ {T A : Type 0} {calm calm2 : Bool} (index : T → ℕ) (C : List T → Unit {0} → Type 0) (c : List T → Read T (Unit {0})) (fc mc : List ℕ) (k : ℕ) (x : Reads k calm index C c fc false mc) (S : List T → A → Type 0) (r : List T → Read T A) (f m : List ℕ) (y : Reads k calm2 index S r f false m) (far : apart fc m ≡ true) (near : apart f mc ≡ true) where
  abbrev tail_more : List ℕ
  tail_more = fc ++ (f ++ (m ++ mc))

  abbrev Next : List T → List A → Type 0
  Next = Either (Image cons_of (Seq S (Tail C S))) (Nothing [])

  abbrev Written : List T → List A → Type 0
  Written = Either (Image (λ v. v.1) (Seq C Next)) (Nothing [])

  from_next : (p l q : List T) (v : List A) → p ≡ l ++ q → C l tt → Next q v → Tail C S p v
  from_next p l q v e h (inl k) =
      let made : Tail C S p (cons_of k.value) = (l, k.spelled.left, k.spelled.right, e ∙ ap (λ (y : List T). l ++ y) k.spelled.parts, h, k.spelled.first, k.spelled.second) in
      subst (λ (u : List A). Tail C S p u) k.made made
  from_next p l q v e h (inr n) =
      let whole : p ≡ l = e ∙ ap (λ (y : List T). l ++ y) n.none ∙ append-nil l in
      let made : Tail C S p [] = inr (subst (λ (y : List T). C y tt) (sym whole) h) in
      subst (λ (u : List A). Tail C S p u) n.value made

  written_there : (p : List T) (v : List A) → Written p v → Tail C S p v
  written_there p v (inl i) = subst (λ (u : List A). Tail C S p u) i.made (from_next p i.spelled.left i.spelled.right i.value.1 i.spelled.parts i.spelled.first i.spelled.second)
  written_there p v (inr n) = subst (λ (u : List A). Tail C S p u) n.value (inl n.none)

  written_back : (p : List T) (v : List A) → Tail C S p v → Written p v
  written_back p [] (inl e) = inr (record { none = e; value = refl })
  written_back p [] (inr h) = inl (record { value = (tt, []); spelled = record { left = p; right = []; parts = sym (append-nil p); first = h; second = inr (record { none = refl; value = refl }) }; made = refl })
  written_back p (a ∷ others) h = inl (record {
    value = (tt, a ∷ others);
    spelled = record { left = h.0; right = h.1 ++ h.2; parts = h.3; first = h.4; second = inl (record { value = (a, others); spelled = record { left = h.1; right = h.2; parts = refl; first = h.5; second = h.6 }; made = refl }) };
    made = refl;
  })

  loosen : (p : List T) → Begins index fc false p → Begins index fc true p
  loosen [] b = refl
  loosen (t ∷ p) b = b

  widen : (l q : List T) → Begins index fc false l → Begins index fc true (l ++ q)
  widen [] q b = absurd cc
  widen (t ∷ l) q b = b

  tail_begins : (p : List T) (v : List A) → Tail C S p v → Begins index fc true p
  tail_begins p [] (inl e) = subst (λ (l : List T). Begins index fc true l) (sym e) refl
  tail_begins p [] (inr h) = loosen p (x.begins p tt h)
  tail_begins p (a ∷ others) h = subst (λ (l : List T). Begins index fc true l) (sym h.3) (widen h.0 (h.1 ++ h.2) (x.begins h.0 tt h.4))

  empty_tail : (p w z : List T) (v : List A) → Tail C S p v → p ++ w ≡ z → Same [] z → (p ≡ []) × (v ≡ [])
  empty_tail p w [] v h eq same = go p v h (nil_left p w eq)
    where
      nil_left : (l u : List T) → l ++ u ≡ [] → l ≡ []
      nil_left [] u e = refl
      nil_left (t ∷ l) u e = absurd cc

      go : (l : List T) (b : List A) → Tail C S l b → l ≡ [] → (l ≡ []) × (b ≡ [])
      go l [] k e = (e, refl)
      go l (a ∷ others) k e =
          let none : k.0 ≡ [] = nil_left k.0 (k.1 ++ k.2) (sym k.3 ∙ e) in
          let bad : false ≡ true = subst (λ (y : List T). Begins index fc false y) none (x.begins k.0 tt k.4) in
          absurd cc
  empty_tail p w (t ∷ z) v h eq same = absurd same

  tail_stop : Got index (Tail C S) tail_more [] [] []
  tail_stop = record { prefix = []; parts = refl; spelled = inl refl; only = λ p v w z s free eq same. empty_tail p w z v s eq same }

  abbrev outer_more : List ℕ
  outer_more = (((tail_more ++ m) ++ ([] ++ f)) ++ mc) ++ ([] ++ fc)

  enough_tail : (w : List T) → starts index tail_more w ≡ false → starts index ((((tail_more ++ m) ++ ([] ++ f)) ++ mc) ++ ([] ++ fc)) w ≡ false
  enough_tail [] h = refl
  enough_tail (t ∷ w) h =
      let n = index t in
      let k = has_split fc (f ++ (m ++ mc)) n h in
      let l = has_split f (m ++ mc) n k.1 in
      let j = has_split m mc n l.1 in
      has_join (((tail_more ++ m) ++ f) ++ mc) fc n (has_join ((tail_more ++ m) ++ f) mc n (has_join (tail_more ++ m) f n (has_join tail_more m n h j.0) l.0) j.1) k.0

  prefix_begins : (set : List ℕ) (p l q : List T) → p ≡ l ++ q → Begins index set false l → Begins index set false p
  prefix_begins set p [] q e b = absurd cc
  prefix_begins set p (t ∷ l) q e b = subst (λ (y : List T). Begins index set false y) (sym e) b

  item_begins : (p : List T) (v : List A) → Image cons_of (Seq S (Tail C S)) p v → Begins index f false p
  item_begins p v s = prefix_begins f p s.spelled.left s.spelled.right s.spelled.parts (y.begins s.spelled.left s.value.0 s.spelled.first)

  no_begins : (p : List T) (v : List A) → Nothing [] p v → Begins index [] true p
  no_begins p v s = subst (λ (l : List T). Begins index [] true l) (sym s.none) refl

  next_begins : (p : List T) (v : List A) → Next p v → Begins index (f ++ []) true p
  next_begins = either_begins index (Image cons_of (Seq S (Tail C S))) (Nothing []) f [] [] [] true item_begins no_begins (apart_nil f)

  sep_begins : (p : List T) (v : List A) → Image (λ v. v.1) (Seq C Next) p v → Begins index fc false p
  sep_begins p v s = prefix_begins fc p s.spelled.left s.spelled.right s.spelled.parts (x.begins s.spelled.left tt s.spelled.first)

  next_explains : (n : ℕ) → ((ts : List T) → length ts ≤ n → length ts ≤ k → Explains index (Tail C S) tail_more ts (tail_at index fc f c r n ts)) → (ts : List T) → length ts ≤ n → length ts ≤ k → Explains index Next ((tail_more ++ m) ++ ([] ++ f)) ts (either index f (image cons_of (seq r (tail_at index fc f c r n))) (nothing []) ts)
  next_explains n below ts le lk =
      either_explains index (Image cons_of (Seq S (Tail C S))) (Nothing []) f [] (tail_more ++ m) [] true item_begins no_begins (apart_nil f) ts (starts index f ts) _ _ refl
      (explain_image index cons_of (Seq S (Tail C S)) (tail_more ++ m) ts (seq r (tail_at index fc f c r n) ts) (explain_seq index S (Tail C S) m fc tail_more true ts (r ts) (tail_at index fc f c r n) [] [] (inl refl) tail_begins far (y.explains ts lk) (λ a rest g. below rest (omega (arith, ap length g.parts, length-append g.prefix rest)) (omega (arith, ap length g.parts, length-append g.prefix rest)))))
      ((nothing_reads index k []).explains ts lk)

  explain_tail : (n : ℕ) (ts : List T) → length ts ≤ n → length ts ≤ k → Explains index (Tail C S) tail_more ts (tail_at index fc f c r n ts)
  explain_tail zero [] le lk = tail_stop
  explain_tail zero (t ∷ ts) le lk = absurd (omega arith)
  explain_tail (suc n) ts le lk =
      let next : List T → Read T (List A) = either index f (image cons_of (seq r (tail_at index fc f c r n))) (nothing []) in
      let inner = explain_seq index C Next mc (f ++ []) ((tail_more ++ m) ++ ([] ++ f)) true ts (c ts) next [] [] (inr (record { none = refl; value = refl })) next_begins (subst (λ (l : List ℕ). apart l mc ≡ true) (sym (append-nil f)) near) (x.explains ts lk) (λ a rest g. next_explains n (explain_tail n) rest (shorter_by index fc n ts g.prefix rest le g.parts (x.begins g.prefix tt g.spelled)) (omega (arith, ap length g.parts, length-append g.prefix rest))) in
      let outer = either_explains index (Image (λ v. v.1) (Seq C Next)) (Nothing []) fc [] (((tail_more ++ m) ++ ([] ++ f)) ++ mc) [] true sep_begins no_begins (apart_nil fc) ts (starts index fc ts) (image (λ v. v.1) (seq c next) ts) (nothing [] ts) refl
      (explain_image index (λ v. v.1) (Seq C Next) (((tail_more ++ m) ++ ([] ++ f)) ++ mc) ts (seq c next ts) inner)
      ((nothing_reads index k []).explains ts lk) in
      explain_said index Written (Tail C S) written_there written_back tail_more ts _ (explain_weaker index Written outer_more tail_more enough_tail ts _ outer)

-- the separator may go on too
pub loose_tail_reads : {T A : Type 0} {index : T → ℕ} {C : List T → Unit {0} → Type 0} {c : List T → Read T (Unit {0})} {fc mc : List ℕ} {S : List T → A → Type 0} {r : List T → Read T A} {f m : List ℕ} {n : ℕ} {b d : Bool} → Reads n b index C c fc false mc → Reads n d index S r f false m → apart fc m ≡ true → apart f mc ≡ true → Reads n (b && d) index (Tail C S) (tail index fc f c r) fc true (fc ++ (f ++ (m ++ mc)))
loose_tail_reads {index} {C} {c} {fc} {mc} {S} {r} {f} {m} {n} {b} {d} x y far near = record {
  explains = λ ts le. explain_tail index C c fc mc n x S r f m y far near (length ts) ts (omega arith) le;
  begins = tail_begins index C c fc mc n x S r f m y far near;
  text = [];
  value = [];
  example = inl refl;
  quiet = λ h ts. let k = and_true b d h in quiet_tail index fc f c r (x.quiet k.0) (y.quiet k.1) (length ts) ts;
}

pub tail_reads : {T A : Type 0} {index : T → ℕ} {C : List T → Unit {0} → Type 0} {c : List T → Read T (Unit {0})} {fc : List ℕ} {S : List T → A → Type 0} {r : List T → Read T A} {f m : List ℕ} {n : ℕ} {b d : Bool} → Reads n b index C c fc false [] → Reads n d index S r f false m → apart fc m ≡ true → Reads n (b && d) index (Tail C S) (tail index fc f c r) fc true (fc ++ (f ++ m))
tail_reads {index} {C} {c} {fc} {S} {r} {f} {m} {n} {b} {d} x y far = subst (λ (l : List ℕ). Reads n (b && d) index (Tail C S) (tail index fc f c r) fc true (fc ++ (f ++ l))) (append-nil m) (loose_tail_reads x y far (apart_nil f))

-- ---- what the laws say of a whole text

pub reads_whole : {T A : Type 0} {index : T → ℕ} {S : List T → A → Type 0} {more : List ℕ} (ts : List T) (a : A) → Got index S more ts a [] → S ts a × ((b : A) → S ts b → b ≡ a)
reads_whole {index} {S} ts a g =
    let whole : ts ≡ g.prefix = g.parts ∙ append-nil g.prefix in
    (subst (λ (x : List _). S x a) (sym whole) g.spelled, λ b s. (g.only ts b [] [] s refl (append-nil ts ∙ g.parts) tt).1)
