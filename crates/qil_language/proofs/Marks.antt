-- Where a failure is marked: exactly after the phrases of another language, before a token of a set.
use Rattle.std.proofs.Common.{◌≡◌, ℕ, zero, suc, ◌≤◌, Bool, true, false, ◌&&◌, ◌||◌, cond, List, [], ◌∷◌, ◌++◌, length, refl, sym, ap, subst, ◌∙◌, inl, inr, ◌⊎◌, arith, append_assoc}
use Rattle.std.proofs.lemmas.List.{append_cancel_left, length-append}
use Rattle.qil_language.specs.Language.{Many, Then}
use Rattle.qil_language.specs.Reading.{Read, got, failed, ◌>>=◌, has, starts, seq, image, either, many_at, many, flagged}
use Rattle.qil_language.specs.Reads.{when, apart, Same, Got, Explains, Begins, Quiet, Reads, Marks}
use Rattle.qil_language.proofs.Law.{apart_law, seq_begins, shorter_by, has_left, begins_right}

same_refl : {T : Type 0} (ts : List T) → Same ts ts
same_refl [] = tt
same_refl (t ∷ ts) = refl

complete_at : {T A : Type 0} (index : T → ℕ) (S : List T → A → Type 0) (more : List ℕ) (ts p w : List T) (a : A) (o : Read T A) → ts ≡ p ++ w → S p a → starts index more w ≡ false → Explains index S more ts o → o ≡ got a w
complete_at index S more ts p w a (got b rest) e s free g =
    let k = g.only p a w rest s free (sym e ∙ g.parts) (same_refl rest) in
    let same : w ≡ rest = append_cancel_left g.prefix w rest (ap (λ (x : List _). x ++ w) (sym k.0) ∙ sym e ∙ g.parts) in
    ap (λ (x : _). got x rest) (sym k.1) ∙ ap (λ (x : List _). got a x) (sym same)
complete_at index S more ts p w a (failed b rest) e s free g = absurd (g.none p a w rest s free (sym e ∙ g.parts) (same_refl rest))

-- a phrase is read wherever nothing after it goes on with it
pub complete : {T A : Type 0} {index : T → ℕ} {S : List T → A → Type 0} {r : List T → Read T A} {first more : List ℕ} {empty c : Bool} {n : ℕ} → Reads n c index S r first empty more → (p w : List T) (a : A) → S p a → length (p ++ w) ≤ n → starts index more w ≡ false → r (p ++ w) ≡ got a w
complete {index} {S} {r} {more} x p w a s le free = complete_at index S more (p ++ w) p w a (r (p ++ w)) refl s free (x.explains (p ++ w) le)

abbrev stopped : {T A : Type 0} → Bool → List T → Read T A
stopped k us = failed k us

abbrev seq_with : {T A B : Type 0} → Read T A → (List T → Read T B) → Read T (A × B)
seq_with o s = o >>= λ x. s x.1 >>= λ y. got (x.0, y.0) y.1

failed_is : {T A B : Type 0} (k : Bool) (us rest : List T) → stopped {T = T} {A = A} k us ≡ stopped {T = T} {A = A} true rest → stopped {T = T} {A = B} k us ≡ stopped {T = T} {A = B} true rest
failed_is k us rest e =
    let x : k ≡ true = cc in
    let y : us ≡ rest = cc in
    rw (x, y) refl

not_marked : {T A : Type 0} (o : Read T A) (rest : List T) → Quiet o → o ≡ failed true rest → ⊥
not_marked (got a us) rest q e = absurd cc
not_marked (failed k us) rest q e = let x : k ≡ true = cc in let bad : true ≡ false = sym x ∙ q in absurd cc

abbrev made_with : {T A B : Type 0} → Read T A → (A × List T → B) → Read T B
made_with o f = o >>= λ y. got (f y) y.1

bind_failed : {T A B : Type 0} (o : Read T A) (f : A × List T → B) (rest : List T) → made_with o f ≡ failed true rest → o ≡ failed true rest
bind_failed (got a us) f rest e = absurd cc
bind_failed (failed k us) f rest e = failed_is k us rest e

free_ends : {T : Type 0} (index : T → ℕ) (m1 f2 ends : List ℕ) (e2 : Bool) (q : List T) (t : T) (after : List T) → apart f2 m1 ≡ true → apart ends m1 ≡ true → Begins index f2 e2 q → has ends (index t) ≡ true → starts index m1 (q ++ t ∷ after) ≡ false
free_ends index m1 f2 ends e2 [] t after a b g h = apart_law ends m1 (index t) b h
free_ends index m1 f2 ends e2 (u ∷ q) t after a b g h = apart_law f2 m1 (index u) a g

-- ---- a phrase, and then O

module _ {T A B : Type 0} (index : T → ℕ) (S : List T → A → Type 0) (O : List T → Type 0) (m1 : List ℕ) (s : List T → Read T B) (n : ℕ) (rest : List T) (below : (us : List T) → length us ≤ n → s us ≡ failed true rest → (p : List T) × (us ≡ p ++ rest) × O p) where
  then_opens : (ts : List T) (o : Read T A) → Explains index S m1 ts o → Quiet o → ((a : A) (us : List T) → Got index S m1 ts a us → length us ≤ n) → seq_with o s ≡ failed true rest → (p : List T) × (ts ≡ p ++ rest) × Then S O p
  then_opens ts (got a us) g q le e =
      let k = below us (le a us g) (bind_failed (s us) (λ y. (a, y.0)) rest e) in
      (g.prefix ++ k.0, g.parts ∙ ap (λ (x : List T). g.prefix ++ x) k.1 ∙ sym (append_assoc g.prefix k.0 rest), record { left = g.prefix; right = k.0; parts = refl; value = a; first = g.spelled; second = k.2 })
  then_opens ts (failed k us) g q le e = let x : k ≡ true = cc in let bad : true ≡ false = sym x ∙ q in absurd cc

seq_at : {T A B : Type 0} (o : Read T A) (s : List T → Read T B) (a : A) (us rest : List T) → o ≡ got a us → s us ≡ failed true rest → seq_with o s ≡ failed true rest
seq_at o s a us rest h k = rw (h, k) refl

module _ {T A B : Type 0} {index : T → ℕ} {S : List T → A → Type 0} {O : List T → Type 0} {r : List T → Read T A} {s : List T → Read T B} {f1 f2 m1 ends : List ℕ} {e1 e2 : Bool} {n k : ℕ} (x : Reads n true index S r f1 e1 m1) (y : Marks k index O s f2 e2 ends) (far : apart f2 m1 ≡ true) (away : apart ends m1 ≡ true) (less : (ts : List T) (a : A) (us : List T) → length ts ≤ n → Got index S m1 ts a us → length us ≤ k) where
  seq_stops : (p : List T) (t : T) (after : List T) → length (p ++ t ∷ after) ≤ n → has ends (index t) ≡ true → Then S O p → seq r s (p ++ t ∷ after) ≡ failed true (t ∷ after)
  seq_stops p t after le h q =
      let e : p ++ t ∷ after ≡ q.left ++ (q.right ++ t ∷ after) = ap (λ (l : List T). l ++ t ∷ after) q.parts ∙ append_assoc q.left q.right (t ∷ after) in
      let lf : length (q.left ++ (q.right ++ t ∷ after)) ≤ n = subst (λ (l : List T). length l ≤ n) e le in
      let free = free_ends index m1 f2 ends e2 q.right t after far away (y.begins q.right q.second) h in
      let one : r (q.left ++ (q.right ++ t ∷ after)) ≡ got q.value (q.right ++ t ∷ after) = complete x q.left (q.right ++ t ∷ after) q.value q.first lf free in
      let g : Got index S m1 (q.left ++ (q.right ++ t ∷ after)) q.value (q.right ++ t ∷ after) = subst (λ (o : Read T A). Explains index S m1 (q.left ++ (q.right ++ t ∷ after)) o) one (x.explains (q.left ++ (q.right ++ t ∷ after)) lf) in
      let two : s (q.right ++ t ∷ after) ≡ failed true (t ∷ after) = y.stops q.right t after (less _ q.value _ lf g) h q.second in
      ap (seq r s) e ∙ seq_at (r (q.left ++ (q.right ++ t ∷ after))) s q.value (q.right ++ t ∷ after) (t ∷ after) one two

  seq_marks_by : Marks n index (Then S O) (seq r s) (f1 ++ when e1 f2) (e1 && e2) ends
  seq_marks_by = record {
    opens = λ ts rest le e. then_opens index S O m1 s k rest (λ us lu f. y.opens us rest lu f) ts (r ts) (x.explains ts le) (x.quiet refl ts) (λ a us g. less ts a us le g) e;
    begins = λ p q. subst (λ (l : List T). Begins index (f1 ++ when e1 f2) (e1 && e2) l) (sym q.parts) (seq_begins index f1 f2 e1 e2 q.left q.right (x.begins q.left q.value q.first) (y.begins q.right q.second));
    stops = seq_stops;
  }

pub seq_marks : {T A B : Type 0} {index : T → ℕ} {S : List T → A → Type 0} {O : List T → Type 0} {r : List T → Read T A} {s : List T → Read T B} {f1 f2 m1 ends : List ℕ} {e1 e2 : Bool} {n : ℕ} → Reads n true index S r f1 e1 m1 → Marks n index O s f2 e2 ends → apart f2 m1 ≡ true → apart ends m1 ≡ true → Marks n index (Then S O) (seq r s) (f1 ++ when e1 f2) (e1 && e2) ends
seq_marks x y far away = seq_marks_by x y far away (λ ts a us le g. omega (arith, ap length g.parts, length-append g.prefix us))

-- the second has fewer tokens left
pub marks_after : {T A B : Type 0} {index : T → ℕ} {S : List T → A → Type 0} {O : List T → Type 0} {r : List T → Read T A} {s : List T → Read T B} {f1 f2 m1 ends : List ℕ} {e2 : Bool} {n : ℕ} → Reads (suc n) true index S r f1 false m1 → Marks n index O s f2 e2 ends → apart f2 m1 ≡ true → apart ends m1 ≡ true → Marks (suc n) index (Then S O) (seq r s) (f1 ++ []) false ends
marks_after {index} {f1} {n} x y far away = seq_marks_by x y far away (λ ts a us le g. shorter_by index f1 n ts g.prefix us le g.parts (x.begins g.prefix a g.spelled))

-- ---- O, and what comes after it in the phrase

first_opens : {T A B : Type 0} (o : Read T A) (s : List T → Read T B) (rest : List T) → ((ts : List T) → Quiet (s ts)) → seq_with o s ≡ failed true rest → o ≡ failed true rest
first_opens (got a us) s rest q e = absurd (not_marked (s us) rest (q us) (bind_failed (s us) (λ y. (a, y.0)) rest e))
first_opens (failed k us) s rest q e = failed_is k us rest e

first_stops : {T A B : Type 0} (o : Read T A) (s : List T → Read T B) (rest : List T) → o ≡ failed true rest → seq_with o s ≡ failed true rest
first_stops o s rest h = rw h refl

pub first_marks : {T A B : Type 0} {index : T → ℕ} {O : List T → Type 0} {r : List T → Read T A} {f ends : List ℕ} {e : Bool} {n : ℕ} (s : List T → Read T B) → Marks n index O r f e ends → ((ts : List T) → Quiet (s ts)) → Marks n index O (seq r s) f e ends
first_marks {r} s x q = record {
  opens = λ ts rest le e. x.opens ts rest le (first_opens (r ts) s rest q e);
  begins = x.begins;
  stops = λ p t after le h o. first_stops (r (p ++ t ∷ after)) s (t ∷ after) (x.stops p t after le h o);
}

image_stops : {T A B : Type 0} (f : A → B) (o : Read T A) (rest : List T) → o ≡ failed true rest → made_with o (λ y. f y.0) ≡ failed true rest
image_stops f o rest h = rw h refl

pub image_marks : {T A B : Type 0} {index : T → ℕ} {O : List T → Type 0} {r : List T → Read T A} {first ends : List ℕ} {e : Bool} {n : ℕ} (f : A → B) → Marks n index O r first e ends → Marks n index O (image f r) first e ends
image_marks {r} f x = record {
  opens = λ ts rest le e. x.opens ts rest le (bind_failed (r ts) (λ y. f y.0) rest e);
  begins = x.begins;
  stops = λ p t after le h o. image_stops f (r (p ++ t ∷ after)) (t ∷ after) (x.stops p t after le h o);
}

-- ---- the same, said in another way

pub said_marks : {T A : Type 0} {index : T → ℕ} {O P : List T → Type 0} {r : List T → Read T A} {first ends : List ℕ} {e : Bool} {n : ℕ} → ((p : List T) → O p → P p) → ((p : List T) → P p → O p) → Marks n index O r first e ends → Marks n index P r first e ends
said_marks there back x = record {
  opens = λ ts rest le e. let k = x.opens ts rest le e in (k.0, k.1, there k.0 k.2);
  begins = λ p u. x.begins p (back p u);
  stops = λ p t after le h u. x.stops p t after le h (back p u);
}

-- ---- never, at once, and one or the other

abbrev pub Never : {T : Type 0} → List T → Type 0
Never p = ⊥

abbrev pub Empty : {T : Type 0} → List T → Type 0
Empty p = p ≡ []

pub quiet_marks : {T A : Type 0} (index : T → ℕ) (r : List T → Read T A) (ends : List ℕ) (n : ℕ) → ((ts : List T) → Quiet (r ts)) → Marks n index Never r [] true ends
quiet_marks index r ends n q = record {
  opens = λ ts rest le e. absurd (not_marked (r ts) rest (q ts) e);
  begins = λ p o. absurd o;
  stops = λ p t after le h o. absurd o;
}

-- the same, where a phrase has a first token
pub never_marks : {T A : Type 0} (index : T → ℕ) (first : List ℕ) (r : List T → Read T A) (ends : List ℕ) (n : ℕ) → ((ts : List T) → Quiet (r ts)) → Marks n index Never r first false ends
never_marks index first r ends n q = record {
  opens = λ ts rest le e. absurd (not_marked (r ts) rest (q ts) e);
  begins = λ p o. absurd o;
  stops = λ p t after le h o. absurd o;
}

abbrev pub marked : {T A : Type 0} → List T → Read T A
marked ts = failed true ts

pub marked_marks : {T A : Type 0} (index : T → ℕ) (ends : List ℕ) (n : ℕ) → Marks {T = T} {A = A} n index Empty marked [] true ends
marked_marks index ends n = record {
  opens = λ ts rest le e. let same : ts ≡ rest = cc in ([], same, refl);
  begins = λ p o. subst (λ (l : List _). Begins index [] true l) (sym o) refl;
  stops = λ p t after le h o. ap (λ (l : List _). failed true (l ++ t ∷ after)) o;
}

abbrev pub Or : {T : Type 0} → (List T → Type 0) → (List T → Type 0) → List T → Type 0
Or O P p = O p ⊎ P p

module _ {T A : Type 0} {index : T → ℕ} {O P : List T → Type 0} {r s : List T → Read T A} {f1 f2 ends : List ℕ} {e2 : Bool} {n : ℕ} (x : Marks n index O r f1 false ends) (y : Marks n index P s f2 e2 ends) (far : apart f2 f1 ≡ true) (away : apart ends f1 ≡ true) where
  either_opens : (ts rest : List T) → length ts ≤ n → (b : Bool) → cond b (r ts) (s ts) ≡ failed true rest → (p : List T) × (ts ≡ p ++ rest) × Or O P p
  either_opens ts rest le true e = let k = x.opens ts rest le e in (k.0, k.1, inl k.2)
  either_opens ts rest le false e = let k = y.opens ts rest le e in (k.0, k.1, inr k.2)

  begins_starts : (p w : List T) → Begins index f1 false p → starts index f1 (p ++ w) ≡ true
  begins_starts [] w b = absurd cc
  begins_starts (t ∷ p) w b = b

  either_stops : (p : List T) (t : T) (after : List T) → length (p ++ t ∷ after) ≤ n → has ends (index t) ≡ true → Or O P p → either index f1 r s (p ++ t ∷ after) ≡ failed true (t ∷ after)
  either_stops p t after le h (inl o) = rw (begins_starts p (t ∷ after) (x.begins p o)) (x.stops p t after le h o)
  either_stops p t after le h (inr o) = rw (free_ends index f1 f2 ends e2 p t after far away (y.begins p o) h) (y.stops p t after le h o)

  either_begins : (p : List T) → Or O P p → Begins index (f1 ++ f2) (false || e2) p
  either_begins p (inl o) = widened p (x.begins p o)
    where
      widened : (q : List T) → Begins index f1 false q → Begins index (f1 ++ f2) e2 q
      widened [] b = absurd cc
      widened (t ∷ q) b = has_left f1 f2 (index t) b
  either_begins p (inr o) = begins_right index f1 f2 e2 p (y.begins p o)

  pub either_marks : Marks n index (Or O P) (either index f1 r s) (f1 ++ f2) e2 ends
  either_marks = record {
    opens = λ ts rest le e. either_opens ts rest le (starts index f1 ts) e;
    begins = either_begins;
    stops = either_stops;
  }

-- ---- any number, and then O in the next

module _ {T A : Type 0} {c : Bool} {index : T → ℕ} {S : List T → A → Type 0} {O : List T → Type 0} {r : List T → Read T A} {f m ends : List ℕ} {n : ℕ} (x : Reads n c index S r f false m) (y : Marks n index O r f false ends) (far : apart f m ≡ true) where
  starts_prefix : (p w : List T) → Begins index f false p → starts index f (p ++ w) ≡ true
  starts_prefix [] w b = absurd cc
  starts_prefix (t ∷ p) w b = b

  cons_then : (ts rest : List T) (a : A) (us : List T) → Got index S m ts a us → (p : List T) × (us ≡ p ++ rest) × Then (Many S) O p → (p : List T) × (ts ≡ p ++ rest) × Then (Many S) O p
  cons_then ts rest a us g k = (
    g.prefix ++ k.0,
    g.parts ∙ ap (λ (l : List T). g.prefix ++ l) k.1 ∙ sym (append_assoc g.prefix k.0 rest),
    record {
      left = g.prefix ++ k.2.left;
      right = k.2.right;
      parts = ap (λ (l : List T). g.prefix ++ l) k.2.parts ∙ sym (append_assoc g.prefix k.2.left k.2.right);
      value = a ∷ k.2.value;
      first = (g.prefix, k.2.left, refl, g.spelled, k.2.first);
      second = k.2.second;
    },
  )

  step_opens : (ts rest : List T) (s : List T → Read T (List A)) → length ts ≤ n → (o : Read T A) → r ts ≡ o → Explains index S m ts o → ((a : A) (us : List T) → Got index S m ts a us → s us ≡ failed true rest → (p : List T) × (us ≡ p ++ rest) × Then (Many S) O p) → (o >>= λ y. s y.1 >>= λ z. got (y.0 ∷ z.0) z.1) ≡ failed true rest → (p : List T) × (ts ≡ p ++ rest) × Then (Many S) O p
  step_opens ts rest s le (got a us) h g below e = cons_then ts rest a us g (below a us g (bind_failed (s us) (λ z. a ∷ z.0) rest e))
  step_opens ts rest s le (failed k us) h g below e =
      let o = y.opens ts rest le (h ∙ failed_is k us rest e) in
      (o.0, o.1, record { left = []; right = o.0; parts = refl; value = []; first = refl; second = o.2 })

  cond_opens : (ts rest : List T) (s : List T → Read T (List A)) → length ts ≤ n → (b : Bool) → ((a : A) (us : List T) → Got index S m ts a us → s us ≡ failed true rest → (p : List T) × (us ≡ p ++ rest) × Then (Many S) O p) → cond b (r ts >>= λ y. s y.1 >>= λ z. got (y.0 ∷ z.0) z.1) (got [] ts) ≡ failed true rest → (p : List T) × (ts ≡ p ++ rest) × Then (Many S) O p
  cond_opens ts rest s le true below e = step_opens ts rest s le (r ts) refl (x.explains ts le) below e
  cond_opens ts rest s le false below e = absurd cc

  many_at_opens : (k : ℕ) (ts rest : List T) → length ts ≤ n → many_at index f r k ts ≡ failed true rest → (p : List T) × (ts ≡ p ++ rest) × Then (Many S) O p
  many_at_opens zero ts rest le e = absurd cc
  many_at_opens (suc k) ts rest le e = cond_opens ts rest (many_at index f r k) le (starts index f ts) (λ a us g h. many_at_opens k us rest (omega (arith, ap length g.parts, length-append g.prefix us)) h) e

  starts_step : (k : ℕ) (ts rest : List T) → starts index f ts ≡ true → r ts ≡ failed true rest → many_at index f r (suc k) ts ≡ failed true rest
  starts_step k ts rest h e = rw (h, e) refl

  item_step : (k : ℕ) (ts us rest : List T) (a : A) → starts index f ts ≡ true → r ts ≡ got a us → many_at index f r k us ≡ failed true rest → many_at index f r (suc k) ts ≡ failed true rest
  item_step k ts us rest a h e g = rw (h, e, g) refl

  items_begin : (left right : List T) (vs : List A) → Many S left vs → O right → Begins index f false (left ++ right)
  items_begin left right [] s o = subst (λ (l : List T). Begins index f false (l ++ right)) (sym s) (y.begins right o)
  items_begin left right (a ∷ others) s o = subst (λ (l : List T). Begins index f false (l ++ right)) (sym s.2) (prefix s.0 (x.begins s.0 a s.3))
    where
      prefix : (l : List T) → Begins index f false l → Begins index f false ((l ++ s.1) ++ right)
      prefix [] b = absurd cc
      prefix (t ∷ l) b = b

  many_at_stops : (k : ℕ) (left right : List T) (t : T) (after : List T) (vs : List A) → length (left ++ (right ++ t ∷ after)) ≤ k → length (left ++ (right ++ t ∷ after)) ≤ n → has ends (index t) ≡ true → Many S left vs → O right → many_at index f r k (left ++ (right ++ t ∷ after)) ≡ failed true (t ∷ after)
  many_at_stops zero left right t after vs lk le h s o = absurd (omega (arith, lk, length-append left (right ++ t ∷ after), length-append right (t ∷ after)))
  many_at_stops (suc k) left right t after [] lk le h s o =
      let e : left ++ (right ++ t ∷ after) ≡ right ++ t ∷ after = ap (λ (l : List T). l ++ (right ++ t ∷ after)) s in
      ap (many_at index f r (suc k)) e ∙ starts_step k (right ++ t ∷ after) (t ∷ after) (starts_prefix right (t ∷ after) (y.begins right o)) (y.stops right t after (subst (λ (l : List T). length l ≤ n) e le) h o)
  many_at_stops (suc k) left right t after (a ∷ others) lk le h s o =
      let z : List T = right ++ t ∷ after in
      let e : left ++ (right ++ t ∷ after) ≡ s.0 ++ (s.1 ++ (right ++ t ∷ after)) = ap (λ (l : List T). l ++ (right ++ t ∷ after)) s.2 ∙ append_assoc s.0 s.1 (right ++ t ∷ after) in
      let ln = subst (λ (l : List T). length l ≤ n) e le in
      let lm = subst (λ (l : List T). length l ≤ suc k) e lk in
      let b : Begins index f false (s.1 ++ right) = items_begin s.1 right others s.4 o in
      let next : starts index f (s.1 ++ (right ++ t ∷ after)) ≡ true = ap (starts index f) (sym (append_assoc s.1 right (t ∷ after))) ∙ starts_prefix (s.1 ++ right) (t ∷ after) b in
      let one : r (s.0 ++ (s.1 ++ (right ++ t ∷ after))) ≡ got a (s.1 ++ (right ++ t ∷ after)) = complete x s.0 (s.1 ++ (right ++ t ∷ after)) a s.3 ln (ap (starts index m) (sym (append_assoc s.1 right (t ∷ after))) ∙ free_prefix (s.1 ++ right) (t ∷ after) b) in
      ap (many_at index f r (suc k)) e ∙ item_step k (s.0 ++ (s.1 ++ (right ++ t ∷ after))) (s.1 ++ (right ++ t ∷ after)) (t ∷ after) a (starts_prefix s.0 (s.1 ++ (right ++ t ∷ after)) (x.begins s.0 a s.3)) one
      (many_at_stops k s.1 right t after others (shorter_by index f k (s.0 ++ (s.1 ++ (right ++ t ∷ after))) s.0 (s.1 ++ (right ++ t ∷ after)) lm refl (x.begins s.0 a s.3)) (omega (arith, ln, length-append s.0 (s.1 ++ (right ++ t ∷ after)))) h s.4 o)
    where
      free_prefix : (p w : List T) → Begins index f false p → starts index m (p ++ w) ≡ false
      free_prefix [] w b = absurd cc
      free_prefix (u ∷ p) w b = apart_law f m (index u) far b

  pub many_marks : Marks n index (Then (Many S) O) (many index f r) f false ends
  many_marks = record {
    opens = λ ts rest le e. many_at_opens (length ts) ts rest le e;
    begins = λ p q. subst (λ (l : List T). Begins index f false l) (sym q.parts) (items_begin q.left q.right q.value q.first q.second);
    stops = λ p t after le h q.
        let e : p ++ t ∷ after ≡ q.left ++ (q.right ++ t ∷ after) = ap (λ (l : List T). l ++ t ∷ after) q.parts ∙ append_assoc q.left q.right (t ∷ after) in
        ap (many_at index f r (length (p ++ t ∷ after))) e ∙ many_at_stops (length (p ++ t ∷ after)) q.left q.right t after q.value (omega (arith, ap length e)) (subst (λ (l : List T). length l ≤ n) e le) h q.first q.second;
  }

-- ---- one that never comes

pub or_never : {T : Type 0} (O : List T → Type 0) (p : List T) → Or O Never p → O p
or_never O p (inl o) = o
or_never O p (inr n) = absurd n

pub perhaps_marks : {T A : Type 0} {index : T → ℕ} {O : List T → Type 0} {r s : List T → Read T A} {f ends : List ℕ} {n : ℕ} → Marks n index O r f false ends → ((ts : List T) → Quiet (s ts)) → apart ends f ≡ true → Marks n index O (either index f r s) (f ++ []) false ends
perhaps_marks {index = index} {O = O} {s = s} {ends = ends} {n = n} x q away = said_marks (or_never O) (λ p o. inl o) (either_marks x (never_marks index [] s ends n q) refl away)

pub flagged_marks : {T A : Type 0} (index : T → ℕ) (f : List ℕ) (r : List T → Read T A) (ends : List ℕ) (n : ℕ) → ((ts : List T) → Quiet (r ts)) → apart ends f ≡ true → Marks n index Empty (flagged index f r) (f ++ []) true ends
flagged_marks index f r ends n q away = said_marks (λ p o. elim o [ inl h ↦ absurd h | inr e ↦ e ]) (λ p e. inr e) (either_marks (never_marks index f r ends n q) (marked_marks index ends n) refl away)
