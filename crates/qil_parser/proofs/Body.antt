-- Phis and then instructions: as they are spelled, and as they are told apart after the destination and its class.
use Rattle.std.proofs.Common.{◌≡◌, ℕ, zero, suc, true, false, List, [], ◌∷◌, ◌++◌, length, refl, sym, ap, subst, ◌∙◌, inl, inr, arith, append_assoc}
use Rattle.qil_language.specs.Language.{Nothing, Seq, Image, Either, Many}
use Rattle.qil_language.specs.Reading.{Read}
use Rattle.qil_language.specs.Reads.{Reads, Begins}
use Rattle.qil_language.proofs.Law.{seq_reads, seq_after, image_reads, said_reads, nothing_reads, either_reads, wider_reads, empty_reads, prefix_first, has_left, has_right}
use Rattle.qil_parser.specs.declared.terminal.Terminal.{Terminal}
use Rattle.qil_parser.specs.declared.terminal.Terminal.TheVariants as terminals
use Rattle.qil_tree.specs.declared.ops.Class.{Class}
use Rattle.qil_tree.specs.declared.tree.Target.{Target}
use Rattle.qil_tree.specs.declared.tree.PhiSource.{PhiSource}
use Rattle.qil_tree.specs.declared.tree.Phi.{Phi}
use Rattle.qil_tree.specs.declared.tree.Inst.{Inst}
use Rattle.qil_parser.specs.Token.{Tok, index}
use Rattle.qil_parser.specs.Grammar.{ClassWord, Before}
use Rattle.qil_parser.specs.Functions.{Dest, TargetOf, Plain, InstOf, Sources, PhiOf, Body, target_of, phi_of}
use Rattle.qil_parser.specs.Parsing.{the, before}
use Rattle.qil_parser.specs.FunctionParsing
use Rattle.qil_parser.specs.FunctionParsing.{plain_starts, inst_starts, Lines, phi_more, class_more, in_class, sub_more, with_dest, insts_alone, with_class, made_of, body_then, body_at, body}
use Rattle.qil_parser.proofs.Productions.{at, newline, class_reads, before_reads}
use Rattle.qil_parser.proofs.FunctionProductions.{dest_reads, plain_reads, sources_line_reads}
use Rattle.qil_parser.proofs.Insts.{OfClass, OfSub, OfDest, Reported, inst_there, inst_back, of_class_reads, of_sub_reads, lines_reads}

-- a word after the last part of a phrase
module _ {A B C : Type 0} (f : A × B → C) (S : List Tok → A → Type 0) (U : List Tok → B → Type 0) (m : Terminal) where
  before_out : (p : List Tok) (c : C) → Before (Image f (Seq S U)) m p c → Image f (Seq S (Before U m)) p c
  before_out p c h =
      let i = h.spelled.first in
      record {
        value = i.value;
        spelled = record {
          left = i.spelled.left;
          right = i.spelled.right ++ h.spelled.right;
          parts = h.spelled.parts ∙ ap (λ (x : List Tok). x ++ h.spelled.right) i.spelled.parts ∙ append_assoc i.spelled.left i.spelled.right h.spelled.right;
          first = i.spelled.first;
          second = record { value = (i.value.1, h.value.1); spelled = record { left = i.spelled.right; right = h.spelled.right; parts = refl; first = i.spelled.second; second = h.spelled.second }; made = refl };
        };
        made = i.made ∙ h.made;
      }

  before_in : (l r : List Tok) (a : A) (b : B) → S l a → Before U m r b → Before (Image f (Seq S U)) m (l ++ r) (f (a, b))
  before_in l r a b s u = record {
    value = (f (a, u.value.0), u.value.1);
    spelled = record {
      left = l ++ u.spelled.left;
      right = u.spelled.right;
      parts = ap (λ (x : List Tok). l ++ x) u.spelled.parts ∙ sym (append_assoc l u.spelled.left u.spelled.right);
      first = record { value = (a, u.value.0); spelled = record { left = l; right = u.spelled.left; parts = refl; first = s; second = u.spelled.first }; made = refl };
      second = u.spelled.second;
    };
    made = ap (λ (x : B). f (a, x)) u.made;
  }

-- the same word after one phrase as after another that spells the same
before_as : {A : Type 0} (S U : List Tok → A → Type 0) (m : Terminal) → ((p : List Tok) (a : A) → S p a → U p a) → (p : List Tok) (a : A) → Before S m p a → Before U m p a
before_as S U m f p a h = record { value = h.value; spelled = record { left = h.spelled.left; right = h.spelled.right; parts = h.spelled.parts; first = f h.spelled.left h.value.0 h.spelled.first; second = h.spelled.second }; made = h.made }

abbrev NL : Terminal
NL = terminals.Newline

module _ {A : Type 0} where
  abbrev InstLines : List Tok → List (Inst A) → Type 0
  InstLines = Many (Before InstOf NL)

  abbrev AfterClass : List Tok → (Class → ℕ × List ℕ → Lines A) → Type 0
  AfterClass = Either (Image phi_more (Seq (Before Sources NL) Body)) (Image class_more (Seq (Before OfClass NL) InstLines))

  abbrev AfterDest : List Tok → (ℕ × List ℕ → Lines A) → Type 0
  AfterDest = Either (Image in_class (Seq ClassWord AfterClass)) (Image sub_more (Seq (Before OfSub NL) InstLines))

  abbrev ByDest : List Tok → Lines A → Type 0
  ByDest = Image with_dest (Seq Dest AfterDest)

  abbrev ByPlain : List Tok → Lines A → Type 0
  ByPlain = Image insts_alone (Seq (Before Plain NL) InstLines)

  abbrev Written : List Tok → Lines A → Type 0
  Written = Either ByDest (Either ByPlain (Nothing ([], [])))

  -- one instruction more, before no phi
  inst_first : (p l r : List Tok) (i : Inst A) (is : List (Inst A)) → p ≡ l ++ r → Before InstOf NL l i → InstLines r is → Body p ([], i ∷ is)
  inst_first p l r i is e s o = record { left = []; right = p; parts = refl; first = refl; second = (l, r, e, s, o) }

  phi_first : (p l r : List Tok) (h : Phi A) (v : Lines A) → p ≡ l ++ r → Before PhiOf NL l h → Body r v → Body p (h ∷ v.0, v.1)
  phi_first p l r h v e s o = record { left = l ++ o.left; right = o.right; parts = e ∙ ap (λ (x : List Tok). l ++ x) o.parts ∙ sym (append_assoc l o.left o.right); first = (l, o.left, refl, s, o.first); second = o.second }

  -- lines that begin with a destination
  class_line : (l c r : List Tok) (to : ℕ × List ℕ) (class : Class) (f : Class → ℕ × List ℕ → Inst A) → Dest l to → ClassWord c class → Before OfClass NL r f → Before InstOf NL (l ++ (c ++ r)) (f class to)
  class_line l c r to class f d k s =
      let one : Before (Image with_class (Seq ClassWord OfClass)) NL (c ++ r) (f class) = before_in with_class ClassWord OfClass NL c r class f k s in
      let two : Before OfDest NL (c ++ r) (f class) = before_as (Image with_class (Seq ClassWord OfClass)) OfDest NL (λ q g h. inl h) (c ++ r) (f class) one in
      let three : Before (Image made_of (Seq Dest OfDest)) NL (l ++ (c ++ r)) (f class to) = before_in made_of Dest OfDest NL l (c ++ r) to (f class) d two in
      before_as (Image made_of (Seq Dest OfDest)) InstOf NL (λ q i h. inst_there q i (inl h)) (l ++ (c ++ r)) (f class to) three

  sub_line : (l r : List Tok) (to : ℕ × List ℕ) (f : ℕ × List ℕ → Inst A) → Dest l to → Before OfSub NL r f → Before InstOf NL (l ++ r) (f to)
  sub_line l r to f d s =
      let two : Before OfDest NL r f = before_as OfSub OfDest NL (λ q g h. inr h) r f s in
      let three : Before (Image made_of (Seq Dest OfDest)) NL (l ++ r) (f to) = before_in made_of Dest OfDest NL l r to f d two in
      before_as (Image made_of (Seq Dest OfDest)) InstOf NL (λ q i h. inst_there q i (inl h)) (l ++ r) (f to) three

  phi_line : (l c r : List Tok) (to : ℕ × List ℕ) (class : Class) (v : List PhiSource) → Dest l to → ClassWord c class → Before Sources NL r v → Before (PhiOf {A = A}) NL ((l ++ c) ++ r) (phi_of (target_of (to, class), v))
  phi_line l c r to class v d k s = before_in phi_of TargetOf Sources NL (l ++ c) r (target_of (to, class)) v (record { value = (to, class); spelled = record { left = l; right = c; parts = refl; first = d; second = k }; made = refl }) s

  plain_line : (p : List Tok) (i : Inst A) → Before Plain NL p i → Before InstOf NL p i
  plain_line p i h = before_as Plain InstOf NL (λ q j k. inst_there q j (inr k)) p i h

  -- ---- what is told apart is spelled

  after_class_there : (p l c r : List Tok) (to : ℕ × List ℕ) (class : Class) (g : Class → ℕ × List ℕ → Lines A) → p ≡ l ++ (c ++ r) → Dest l to → ClassWord c class → AfterClass r g → Body p (g class to)
  after_class_there p l c r to class g e d k (inl i) =
      let s = i.spelled in
      let at_phi : p ≡ ((l ++ c) ++ s.left) ++ s.right = e ∙ sym (append_assoc l c r) ∙ ap (λ (x : List Tok). (l ++ c) ++ x) s.parts ∙ sym (append_assoc (l ++ c) s.left s.right) in
      let made : Body p (phi_more i.value class to) = phi_first p ((l ++ c) ++ s.left) s.right (phi_of (target_of (to, class), i.value.0)) i.value.1 at_phi (phi_line l c s.left to class i.value.0 d k s.first) s.second in
      subst (λ (x : Class → ℕ × List ℕ → Lines A). Body p (x class to)) i.made made
  after_class_there p l c r to class g e d k (inr i) =
      let s = i.spelled in
      let at_inst : p ≡ (l ++ (c ++ s.left)) ++ s.right = e ∙ ap (λ (x : List Tok). l ++ (c ++ x)) s.parts ∙ ap (λ (x : List Tok). l ++ x) (sym (append_assoc c s.left s.right)) ∙ sym (append_assoc l (c ++ s.left) s.right) in
      let made : Body p (class_more i.value class to) = inst_first p (l ++ (c ++ s.left)) s.right (i.value.0 class to) i.value.1 at_inst (class_line l c s.left to class i.value.0 d k s.first) s.second in
      subst (λ (x : Class → ℕ × List ℕ → Lines A). Body p (x class to)) i.made made

  after_dest_there : (p l r : List Tok) (to : ℕ × List ℕ) (g : ℕ × List ℕ → Lines A) → p ≡ l ++ r → Dest l to → AfterDest r g → Body p (g to)
  after_dest_there p l r to g e d (inl i) =
      let s = i.spelled in
      subst (λ (x : ℕ × List ℕ → Lines A). Body p (x to)) i.made (after_class_there p l s.left s.right to i.value.0 i.value.1 (e ∙ ap (λ (x : List Tok). l ++ x) s.parts) d s.first s.second)
  after_dest_there p l r to g e d (inr i) =
      let s = i.spelled in
      let made : Body p (sub_more i.value to) = inst_first p (l ++ s.left) s.right (i.value.0 to) i.value.1 (e ∙ ap (λ (x : List Tok). l ++ x) s.parts ∙ sym (append_assoc l s.left s.right)) (sub_line l s.left to i.value.0 d s.first) s.second in
      subst (λ (x : ℕ × List ℕ → Lines A). Body p (x to)) i.made made

  body_there : (p : List Tok) (v : Lines A) → Written p v → Body p v
  body_there p v (inl i) = subst (λ (x : Lines A). Body p x) i.made (after_dest_there p i.spelled.left i.spelled.right i.value.0 i.value.1 i.spelled.parts i.spelled.first i.spelled.second)
  body_there p v (inr (inl i)) = subst (λ (x : Lines A). Body p x) i.made (inst_first p i.spelled.left i.spelled.right i.value.0 i.value.1 i.spelled.parts (plain_line i.spelled.left i.value.0 i.spelled.first) i.spelled.second)
  body_there p v (inr (inr n)) = subst (λ (x : Lines A). Body p x) n.value (record { left = []; right = p; parts = refl; first = refl; second = n.none })

  -- ---- what is spelled is told apart

  dest_first : (p l r : List Tok) (to : ℕ × List ℕ) (v : Lines A) (g : ℕ × List ℕ → Lines A) → p ≡ l ++ r → Dest l to → AfterDest r g → g to ≡ v → Written p v
  dest_first p l r to v g e d k m = inl (record { value = (to, g); spelled = record { left = l; right = r; parts = e; first = d; second = k }; made = m })

  class_first : (p l c r : List Tok) (to : ℕ × List ℕ) (class : Class) (v : Lines A) (g : Class → ℕ × List ℕ → Lines A) → p ≡ l ++ (c ++ r) → Dest l to → ClassWord c class → AfterClass r g → g class to ≡ v → Written p v
  class_first p l c r to class v g e d k s m = dest_first p l (c ++ r) to v (g class) e d (inl (record { value = (class, g); spelled = record { left = c; right = r; parts = refl; first = k; second = s }; made = refl })) m

  phi_back : (p l r : List Tok) (h : Phi A) (v : Lines A) → p ≡ l ++ r → Before PhiOf NL l h → Body r v → Written p (h ∷ v.0, v.1)
  phi_back p l r h v e s o =
      let k = before_out phi_of TargetOf Sources NL l h s in
      let t = k.spelled.first in
      let d = t.spelled in
      class_first p d.left d.right (k.spelled.right ++ r) t.value.0 t.value.1 (h ∷ v.0, v.1) (phi_more (k.value.1, v))
      (e ∙ ap (λ (x : List Tok). x ++ r) (k.spelled.parts ∙ ap (λ (x : List Tok). x ++ k.spelled.right) d.parts ∙ append_assoc d.left d.right k.spelled.right) ∙ append_assoc d.left (d.right ++ k.spelled.right) r ∙ ap (λ (x : List Tok). d.left ++ x) (append_assoc d.right k.spelled.right r))
      d.first d.second
      (inl (record { value = (k.value.1, v); spelled = record { left = k.spelled.right; right = r; parts = refl; first = k.spelled.second; second = o }; made = refl }))
      (ap (λ (x : ℕ × Target). (phi_of (x, k.value.1) ∷ v.0, v.1)) t.made ∙ ap (λ (x : Phi A). (x ∷ v.0, v.1)) k.made)

  -- the rest of a line after the destination
  dest_back : (p l r : List Tok) (to : ℕ × List ℕ) (f : ℕ × List ℕ → Inst A) (i : Inst A) (q : List Tok) (is : List (Inst A)) → p ≡ (l ++ r) ++ q → Dest l to → (h : Before OfDest NL r f) → OfDest h.spelled.left h.value.0 → InstLines q is → f to ≡ i → Written p ([], i ∷ is)
  dest_back p l r to f i q is e d h (inl k) o m =
      let c : Before (Image with_class (Seq ClassWord OfClass)) NL r f = record { value = h.value; spelled = record { left = h.spelled.left; right = h.spelled.right; parts = h.spelled.parts; first = k; second = h.spelled.second }; made = h.made } in
      let b = before_out with_class ClassWord OfClass NL r f c in
      class_first p l b.spelled.left (b.spelled.right ++ q) to b.value.0 ([], i ∷ is) (class_more (b.value.1, is))
      (e ∙ append_assoc l r q ∙ ap (λ (x : List Tok). l ++ x) (ap (λ (x : List Tok). x ++ q) b.spelled.parts ∙ append_assoc b.spelled.left b.spelled.right q))
      d b.spelled.first
      (inr (record { value = (b.value.1, is); spelled = record { left = b.spelled.right; right = q; parts = refl; first = b.spelled.second; second = o }; made = refl }))
      (ap (λ (x : ℕ × List ℕ → Inst A). ([], x to ∷ is)) b.made ∙ ap (λ (x : Inst A). ([], x ∷ is)) m)
  dest_back p l r to f i q is e d h (inr k) o m =
      dest_first p l (r ++ q) to ([], i ∷ is) (sub_more (f, is)) (e ∙ append_assoc l r q) d
      (inr (record {
        value = (f, is);
        spelled = record {
          left = r;
          right = q;
          parts = refl;
          first = record { value = h.value; spelled = record { left = h.spelled.left; right = h.spelled.right; parts = h.spelled.parts; first = k; second = h.spelled.second }; made = h.made };
          second = o;
        };
        made = refl;
      }))
      (ap (λ (x : Inst A). ([], x ∷ is)) m)

  line_back : (p l r : List Tok) (i : Inst A) (is : List (Inst A)) → p ≡ l ++ r → (s : Before InstOf NL l i) → Reported s.spelled.left s.value.0 → InstLines r is → Written p ([], i ∷ is)
  line_back p l r i is e s (inl x) o =
      let k = before_out made_of Dest OfDest NL l i (record { value = s.value; spelled = record { left = s.spelled.left; right = s.spelled.right; parts = s.spelled.parts; first = x; second = s.spelled.second }; made = s.made }) in
      let b = k.spelled.second in
      dest_back p k.spelled.left k.spelled.right k.value.0 k.value.1 i r is (e ∙ ap (λ (y : List Tok). y ++ r) k.spelled.parts) k.spelled.first b b.spelled.first o k.made
  line_back p l r i is e s (inr x) o = inr (inl (record { value = (i, is); spelled = record { left = l; right = r; parts = e; first = record { value = s.value; spelled = record { left = s.spelled.left; right = s.spelled.right; parts = s.spelled.parts; first = x; second = s.spelled.second }; made = s.made }; second = o }; made = refl }))

  body_back : (p : List Tok) (v : Lines A) → Body p v → Written p v
  body_back p v b = phis v.0 v.1 b.left b.right b.parts b.first b.second
    where
      phis : (ps : List (Phi A)) (is : List (Inst A)) (l r : List Tok) → p ≡ l ++ r → Many (Before PhiOf NL) l ps → InstLines r is → Written p (ps, is)
      phis [] [] l r e s o = inr (inr (record { none = e ∙ ap (λ (x : List Tok). x ++ r) s ∙ o; value = refl }))
      phis [] (i ∷ is) l r e s o = line_back p o.0 o.1 i is (e ∙ ap (λ (x : List Tok). x ++ r) s ∙ o.2) o.3 (inst_back o.3.spelled.left o.3.value.0 o.3.spelled.first) o.4
      phis (h ∷ ps) is l r e s o = phi_back p s.0 (s.1 ++ r) h (ps, is) (e ∙ ap (λ (x : List Tok). x ++ r) s.2 ∙ append_assoc s.0 s.1 r) s.3 (record { left = s.1; right = r; parts = refl; first = s.4; second = o })

  -- ---- and so it is read

  pub plain_line_reads : (n : ℕ) → Reads n true index (Before (Plain {A = A}) terminals.Newline) (before FunctionParsing.plain terminals.Newline) plain_starts false []
  unfolding at newline
  plain_line_reads n = before_reads terminals.Newline newline refl refl (plain_reads n)

  -- one step of reading, whatever reads the rest of the body
  body_then_reads : (n : ℕ) (s : List Tok → Read Tok (Lines A)) → Reads n true index Body s inst_starts true inst_starts → Reads (suc n) true index Body (body_then s) inst_starts true inst_starts
  unfolding at newline
  body_then_reads n s x =
      wider_reads inst_starts (said_reads body_there body_back (either_reads
      (image_reads with_dest (seq_after (dest_reads (suc n)) (either_reads
      (image_reads in_class (seq_reads (class_reads n) (either_reads
      (image_reads phi_more (seq_reads (sources_line_reads n) x refl))
      (image_reads class_more (seq_reads (before_reads terminals.Newline newline refl refl (of_class_reads n)) (lines_reads n) refl)) refl) refl))
      (image_reads sub_more (seq_reads (before_reads terminals.Newline newline refl refl (of_sub_reads n)) (lines_reads n) refl)) refl) refl))
      (either_reads (image_reads insts_alone (seq_reads (before_reads terminals.Newline newline refl refl (plain_reads (suc n))) (lines_reads (suc n)) refl)) (nothing_reads index (suc n) ([], [])) refl) refl)) refl

  body_begins : (p : List Tok) (v : Lines A) → Body p v → Begins index inst_starts true p
  body_begins p v b = go p v (body_back p v b)
    where
      loose : (q : List Tok) (set : List ℕ) → Begins index set false q → Begins index set true q
      loose [] set k = refl
      loose (t ∷ q) set k = k

      go : (q : List Tok) (u : Lines A) → Written q u → Begins index inst_starts true q
      go q u (inl i) = loose q inst_starts (widen q (prefix_first index (the terminals.Temp) q i.spelled.left i.spelled.right i.spelled.parts ((dest_reads 0).begins i.spelled.left i.value.0 i.spelled.first)))
        where
          widen : (l : List Tok) → Begins index (the terminals.Temp) false l → Begins index inst_starts false l
          widen [] k = absurd cc
          widen (t ∷ l) k = has_left (the terminals.Temp) plain_starts (index t) k
      go q u (inr (inl i)) = loose q inst_starts (widen q (prefix_first index plain_starts q i.spelled.left i.spelled.right i.spelled.parts ((plain_line_reads 0).begins i.spelled.left i.value.0 i.spelled.first)))
        where
          widen : (l : List Tok) → Begins index plain_starts false l → Begins index inst_starts false l
          widen [] k = absurd cc
          widen (t ∷ l) k = has_right (the terminals.Temp) plain_starts (index t) k
      go q u (inr (inr n)) = subst (λ (l : List Tok). Begins index inst_starts true l) (sym n.none) refl

  alone : (v : Lines A) → Body [] v → v ≡ ([], [])
  alone v b = go v (body_back [] v b)
    where
      go : (u : Lines A) → Written [] u → u ≡ ([], [])
      go u (inl i) = let bad : false ≡ true = prefix_first index (the terminals.Temp) [] i.spelled.left i.spelled.right i.spelled.parts ((dest_reads 0).begins i.spelled.left i.value.0 i.spelled.first) in absurd cc
      go u (inr (inl i)) = let bad : false ≡ true = prefix_first index plain_starts [] i.spelled.left i.spelled.right i.spelled.parts ((plain_line_reads 0).begins i.spelled.left i.value.0 i.spelled.first) in absurd cc
      go u (inr (inr n)) = sym n.value

  nothing_spelled : Body {A = A} [] ([], [])
  nothing_spelled = record { left = []; right = []; parts = refl; first = refl; second = refl }

  body_at_reads : (n : ℕ) → Reads n true index (Body {A = A}) (body_at n) inst_starts true inst_starts
  body_at_reads zero = empty_reads index Body inst_starts inst_starts ([], []) nothing_spelled alone body_begins
  body_at_reads (suc n) = body_then_reads n (body_at n) (body_at_reads n)

  pub body_reads : (n : ℕ) → Reads n true index (Body {A = A}) body inst_starts true inst_starts
  unfolding body
  body_reads n = record {
    explains = λ ts le. (body_at_reads (length ts)).explains ts (omega arith);
    begins = body_begins;
    text = [];
    value = ([], []);
    example = nothing_spelled;
    quiet = λ h ts. (body_at_reads (length ts)).quiet h ts;
  }
