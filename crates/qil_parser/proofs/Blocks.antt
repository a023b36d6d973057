-- Blocks are read as they are spelled.
use Rattle.std.proofs.Common.{◌≡◌, ℕ, zero, suc, true, false, List, [], ◌∷◌, ◌++◌, length, Option, Some, None, refl, sym, ap, subst, ◌∙◌, inl, inr, arith, append_assoc, append-nil}
use Rattle.qil_language.specs.Language.{Seq, Image, Either, Many}
use Rattle.qil_language.specs.Reads.{Reads, Begins, Takes}
use Rattle.qil_language.proofs.Law.{seq_reads, seq_after, image_reads, said_reads, either_reads, wider_reads, zero_reads, flagged_reads, prefix_first}
use Rattle.qil_language.proofs.Loop.{takes_by}
use Rattle.qil_parser.specs.declared.terminal.Terminal.TheVariants as terminals
use Rattle.qil_tree.specs.declared.tree.Jump.{Jump}
use Rattle.qil_parser.specs.Token.{Tok, index}
use Rattle.qil_parser.specs.Grammar.{Before, Perhaps}
use Rattle.qil_parser.specs.Functions.{Prefix, Head, JumpOf, BlockOf, LastBlock}
use Rattle.qil_parser.specs.Parsing.{the}
use Rattle.qil_parser.specs.FunctionParsing.{inst_starts, head}
use Rattle.qil_parser.proofs.Parts.{Parts, jumped_of, fallen_of, parts_of, parts_at, parts}
use Rattle.qil_parser.proofs.Productions.{at, newline, label_reads, before_reads, perhaps_reads}
use Rattle.qil_parser.proofs.FunctionProductions.{jump_line_reads}
use Rattle.qil_parser.proofs.Body.{body_reads}

abbrev pub JumpLine : List Tok → Jump → Type 0
JumpLine = Before JumpOf terminals.Newline

module _ {A : Type 0} where
  pub head_reads : (n : ℕ) → Reads n true index (Head {A = A}) head (the terminals.Label) false inst_starts
  unfolding at newline head
  head_reads n = seq_reads (before_reads terminals.Newline newline refl refl (label_reads n)) (body_reads n) refl

  pub head_takes : Takes (head {A = A})
  head_takes = takes_by head_reads

  -- ---- blocks: as they are spelled, and as they are read

  abbrev pub AllParts : List Tok → Parts A → Type 0
  AllParts = Seq (Many BlockOf) LastBlock

  abbrev Second : List Tok → (Prefix A → Parts A) → Type 0
  Second = Either (Image jumped_of (Seq JumpLine (Perhaps AllParts))) (Image fallen_of AllParts)

  abbrev Written : List Tok → Parts A → Type 0
  Written = Image parts_of (Seq Head Second)

  -- a block before others
  block_first : (p l r : List Tok) (h : Prefix A) (j : Option Jump) (v : Parts A) → p ≡ l ++ r → BlockOf l (h, j) → AllParts r v → AllParts p ((h, j) ∷ v.0, v.1)
  block_first p l r h j v e b s = record { left = l ++ s.left; right = s.right; parts = e ∙ ap (λ (x : List Tok). l ++ x) s.parts ∙ sym (append_assoc l s.left s.right); first = (l, s.left, refl, b, s.first); second = s.second }

  last_alone : (p l r : List Tok) (h : Prefix A) (j : Jump) → p ≡ l ++ r → Head l h → JumpLine r j → AllParts p ([], (h, j))
  last_alone p l r h j e b s = record { left = []; right = p; parts = refl; first = refl; second = record { left = l; right = r; parts = e; first = b; second = s } }

  with_jump : (l r : List Tok) (h : Prefix A) (j : Jump) → Head l h → JumpLine r j → BlockOf (l ++ r) (h, Some j)
  with_jump l r h j b s = record { left = l; right = r; parts = refl; first = b; second = inl (record { value = j; spelled = s; made = refl }) }

  without_jump : (l : List Tok) (h : Prefix A) → Head l h → BlockOf l (h, None)
  without_jump l h b = record { left = l; right = []; parts = sym (append-nil l); first = b; second = inr (record { none = refl; value = refl }) }

  jumped_there : (p l a b : List Tok) (h : Prefix A) (j : Jump) (w : Option (Parts A)) → p ≡ l ++ (a ++ b) → Head l h → JumpLine a j → Perhaps AllParts b w → AllParts p (jumped_of (j, w) h)
  jumped_there p l a b h j w e d s (inl k) =
      subst (λ (x : Option (Parts A)). AllParts p (jumped_of (j, x) h)) k.made (block_first p (l ++ a) b h (Some j) k.value (e ∙ sym (append_assoc l a b)) (with_jump l a h j d s) k.spelled)
  jumped_there p l a b h j w e d s (inr n) =
      subst (λ (x : Option (Parts A)). AllParts p (jumped_of (j, x) h)) n.value (last_alone p l a h j (e ∙ ap (λ (x : List Tok). l ++ (a ++ x)) n.none ∙ ap (λ (x : List Tok). l ++ x) (append-nil a)) d s)

  second_there : (p l r : List Tok) (h : Prefix A) (g : Prefix A → Parts A) → p ≡ l ++ r → Head l h → Second r g → AllParts p (g h)
  second_there p l r h g e d (inl i) =
      let s = i.spelled in
      subst (λ (x : Prefix A → Parts A). AllParts p (x h)) i.made (jumped_there p l s.left s.right h i.value.0 i.value.1 (e ∙ ap (λ (x : List Tok). l ++ x) s.parts) d s.first s.second)
  second_there p l r h g e d (inr i) = subst (λ (x : Prefix A → Parts A). AllParts p (x h)) i.made (block_first p l r h None i.value e (without_jump l h d) i.spelled)

  parts_there : (p : List Tok) (v : Parts A) → Written p v → AllParts p v
  parts_there p v i = subst (AllParts p) i.made (second_there p i.spelled.left i.spelled.right i.value.0 i.value.1 i.spelled.parts i.spelled.first i.spelled.second)

  written_by : (p l r : List Tok) (h : Prefix A) (g : Prefix A → Parts A) (v : Parts A) → p ≡ l ++ r → Head l h → Second r g → g h ≡ v → Written p v
  written_by p l r h g v e d s m = record { value = (h, g); spelled = record { left = l; right = r; parts = e; first = d; second = s }; made = m }

  jump_back : (p l a q : List Tok) (h : Prefix A) (j : Option Jump) (v : Parts A) → p ≡ (l ++ a) ++ q → Head l h → Perhaps JumpLine a j → AllParts q v → Written p ((h, j) ∷ v.0, v.1)
  jump_back p l a q h j v e d (inl k) s =
      written_by p l (a ++ q) h (jumped_of (k.value, Some v)) ((h, j) ∷ v.0, v.1) (e ∙ append_assoc l a q) d
      (inl (record { value = (k.value, Some v); spelled = record { left = a; right = q; parts = refl; first = k.spelled; second = inl (record { value = v; spelled = s; made = refl }) }; made = refl }))
      (ap (λ (x : Option Jump). ((h, x) ∷ v.0, v.1)) k.made)
  jump_back p l a q h j v e d (inr n) s =
      written_by p l q h (fallen_of v) ((h, j) ∷ v.0, v.1) (e ∙ ap (λ (x : List Tok). x ++ q) (ap (λ (x : List Tok). l ++ x) n.none ∙ append-nil l)) d
      (inr (record { value = v; spelled = s; made = refl }))
      (ap (λ (x : Option Jump). ((h, x) ∷ v.0, v.1)) n.value)

  parts_back : (p : List Tok) (v : Parts A) → AllParts p v → Written p v
  parts_back p v s = go v.0 v.1 s.left s.first s.parts s.second
    where
      go : (prefixes : List (Prefix A × Option Jump)) (last : Prefix A × Jump) (l : List Tok) → Many BlockOf l prefixes → p ≡ l ++ s.right → LastBlock s.right last → Written p (prefixes, last)
      go [] last l m e b =
          written_by p b.left b.right last.0 (jumped_of (last.1, None)) ([], last) (e ∙ ap (λ (x : List Tok). x ++ s.right) m ∙ b.parts) b.first
          (inl (record { value = (last.1, None); spelled = record { left = b.right; right = []; parts = sym (append-nil b.right); first = b.second; second = inr (record { none = refl; value = refl }) }; made = refl }))
          refl
      go (f ∷ prefixes) last l m e b =
          let d = m.3 in
          jump_back p d.left d.right (m.1 ++ s.right) f.0 f.1 (prefixes, last)
          (e ∙ ap (λ (x : List Tok). x ++ s.right) m.2 ∙ append_assoc m.0 m.1 s.right ∙ ap (λ (x : List Tok). x ++ (m.1 ++ s.right)) d.parts)
          d.first d.second (record { left = m.1; right = s.right; parts = refl; first = m.4; second = b })

  parts_begin : (p : List Tok) (v : Parts A) → AllParts p v → Begins index (the terminals.Label) false p
  parts_begin p v h = let w = parts_back p v h in prefix_first index (the terminals.Label) p w.spelled.left w.spelled.right w.spelled.parts ((head_reads 0).begins w.spelled.left w.value.0 w.spelled.first)

  -- one block with a jump
  parts_example : (p : List Tok) × (v : Parts A) × AllParts p v
  parts_example =
      let h = head_reads 0 in
      let j = jump_line_reads 0 in
      (h.text ++ j.text, ([], (h.value, j.value)), last_alone (h.text ++ j.text) h.text j.text h.value j.value refl h.example j.example)

  pub parts_at_reads : (n : ℕ) → Reads n false index AllParts (parts_at n) (the terminals.Label) false (the terminals.Label)
  parts_at_reads zero = zero_reads index AllParts (the terminals.Label) (the terminals.Label) parts_example.0 parts_example.1 parts_example.2 parts_begin
  parts_at_reads (suc n) =
      wider_reads (the terminals.Label) (said_reads parts_there parts_back (image_reads parts_of (seq_after (head_reads (suc n)) (either_reads
      (image_reads jumped_of (seq_reads (jump_line_reads n) (perhaps_reads (parts_at_reads n)) refl))
      (flagged_reads (image_reads fallen_of (parts_at_reads n))) refl) refl))) refl

  pub parts_reads : (n : ℕ) → Reads n false index AllParts parts (the terminals.Label) false (the terminals.Label)
  unfolding parts
  parts_reads n = record {
    explains = λ ts le. (parts_at_reads (length ts)).explains ts (omega arith);
    begins = (parts_at_reads n).begins;
    text = (parts_at_reads n).text;
    value = (parts_at_reads n).value;
    example = (parts_at_reads n).example;
    quiet = λ h ts. absurd cc;
  }
