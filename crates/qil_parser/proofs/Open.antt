-- Where reading a function marks its failure: after a block without a jump.
use Rattle.std.proofs.Common.{◌≡◌, ℕ, zero, suc, false, List, [], ◌∷◌, ◌++◌, length, Option, Some, None, refl, sym, ap, subst, ◌∙◌, inl, inr, arith, append_assoc, append-nil}
use Rattle.std.proofs.lemmas.List.{length-append}
use Rattle.qil_language.specs.Language.{Many, Then, Phrase}
use Rattle.qil_language.specs.Reading.{Read}
use Rattle.qil_language.specs.Reads.{Marks, Begins}
use Rattle.qil_language.proofs.Law.{prefix_first, quiet_one}
use Rattle.qil_language.proofs.Marks.{Or, Empty, seq_marks, marks_after, first_marks, image_marks, said_marks, marked_marks, either_marks, perhaps_marks}
use Rattle.qil_parser.specs.declared.terminal.Terminal.TheVariants as terminals
use Rattle.qil_tree.specs.declared.tree.Jump.{Jump}
use Rattle.qil_tree.specs.declared.tree.Block.{Block}
use Rattle.qil_parser.specs.Token.{Tok, index}
use Rattle.qil_parser.specs.Grammar.{exactly, Perhaps}
use Rattle.qil_parser.specs.Functions.{Prefix, Head, BlockOf, FuncTop, blocks_of, func_of}
use Rattle.qil_parser.specs.Parsing.{the, word}
use Rattle.qil_parser.specs.FunctionParsing.{blocks, func}
use Rattle.qil_parser.proofs.Parts.{jumped_of, fallen_of, parts_of, parts_at, parts}
use Rattle.qil_parser.proofs.FunctionProductions.{jump_line_reads, top_reads}
use Rattle.qil_parser.proofs.Blocks.{JumpLine, head_reads}
use Rattle.qil_parser.proofs.BlocksLoop.{blocks_are}

abbrev pub ends : List ℕ
ends = the terminals.CloseBrace

abbrev pub OpenBlocks : Type 0 → List Tok → Type 0
OpenBlocks A = Then (Many (BlockOf {A = A})) (Phrase (Head {A = A}))

abbrev Written : Type 0 → List Tok → Type 0
Written A = Then (Head {A = A}) (Or (Then JumpLine (OpenBlocks A)) (Or (OpenBlocks A) Empty))

module _ {A : Type 0} where
  cons_open : (p l r : List Tok) (v : Prefix A × Option Jump) → p ≡ l ++ r → BlockOf l v → OpenBlocks A r → OpenBlocks A p
  cons_open p l r v e s o = record { left = l ++ o.left; right = o.right; parts = e ∙ ap (λ (x : List Tok). l ++ x) o.parts ∙ sym (append_assoc l o.left o.right); value = v ∷ o.value; first = (l, o.left, refl, s, o.first); second = o.second }

  open_there : (p : List Tok) → Written A p → OpenBlocks A p
  open_there p w = go w.second
    where
      go : Or (Then JumpLine (OpenBlocks A)) (Or (OpenBlocks A) Empty) w.right → OpenBlocks A p
      go (inl j) = cons_open p (w.left ++ j.left) j.right (w.value, Some j.value) (w.parts ∙ ap (λ (x : List Tok). w.left ++ x) j.parts ∙ sym (append_assoc w.left j.left j.right)) (record { left = w.left; right = j.left; parts = refl; first = w.first; second = inl (record { value = j.value; spelled = j.first; made = refl }) }) j.second
      go (inr (inl o)) = cons_open p w.left w.right (w.value, None) w.parts (record { left = w.left; right = []; parts = sym (append-nil w.left); first = w.first; second = inr (record { none = refl; value = refl }) }) o
      go (inr (inr e)) = record { left = []; right = p; parts = refl; value = []; first = refl; second = record { value = w.value; spelled = subst (λ (l : List Tok). Head l w.value) (sym (w.parts ∙ ap (λ (x : List Tok). w.left ++ x) e ∙ append-nil w.left)) w.first } }

  by_jump : (p l a r : List Tok) (h : Prefix A) (j : Option Jump) → p ≡ (l ++ a) ++ r → Head l h → Perhaps JumpLine a j → OpenBlocks A r → Written A p
  by_jump p l a r h j e d (inl k) o = record { left = l; right = a ++ r; parts = e ∙ append_assoc l a r; value = h; first = d; second = inl (record { left = a; right = r; parts = refl; value = k.value; first = k.spelled; second = o }) }
  by_jump p l a r h j e d (inr n) o = record { left = l; right = r; parts = e ∙ ap (λ (x : List Tok). x ++ r) (ap (λ (x : List Tok). l ++ x) n.none ∙ append-nil l); value = h; first = d; second = inr (inl o) }

  open_back : (p : List Tok) → OpenBlocks A p → Written A p
  open_back p o = go o.left o.value o.first o.parts
    where
      go : (l : List Tok) (vs : List (Prefix A × Option Jump)) → Many BlockOf l vs → p ≡ l ++ o.right → Written A p
      go l [] s e = record { left = p; right = []; parts = sym (append-nil p); value = o.second.value; first = subst (λ (x : List Tok). Head x o.second.value) (sym (e ∙ ap (λ (x : List Tok). x ++ o.right) s)) o.second.spelled; second = inr (inr refl) }
      go l (v ∷ others) s e =
          let b = s.3 in
          by_jump p b.left b.right (s.1 ++ o.right) v.0 v.1 (e ∙ ap (λ (x : List Tok). x ++ o.right) s.2 ∙ append_assoc s.0 s.1 o.right ∙ ap (λ (x : List Tok). x ++ (s.1 ++ o.right)) b.parts) b.first b.second (record { left = s.1; right = o.right; parts = refl; value = others; first = s.4; second = o.second })

  open_begins : (p : List Tok) → OpenBlocks A p → Begins index (the terminals.Label) false p
  open_begins p o = let w = open_back p o in prefix_first index (the terminals.Label) p w.left w.right w.parts ((head_reads 0).begins w.left w.value w.first)

  parts_at_marks : (n : ℕ) → Marks n index (OpenBlocks A) (parts_at {A = A} n) (the terminals.Label) false ends
  parts_at_marks zero = record {
    opens = λ ts rest le e. absurd cc;
    begins = open_begins;
    stops = λ p t after le h o. absurd (omega (arith, le, length-append p (t ∷ after)));
  }
  parts_at_marks (suc n) =
      said_marks open_there open_back (image_marks parts_of (marks_after (head_reads (suc n)) (either_marks
      (image_marks jumped_of (seq_marks (jump_line_reads n) (perhaps_marks (image_marks Some (parts_at_marks n)) (λ ts. tt) refl) refl refl))
      (either_marks (image_marks fallen_of (parts_at_marks n)) (marked_marks index ends n) refl refl) refl refl) refl refl))

  parts_marks : (n : ℕ) → Marks n index (OpenBlocks A) (parts {A = A}) (the terminals.Label) false ends
  unfolding parts
  parts_marks n = record {
    opens = λ ts rest le e. (parts_at_marks (length ts)).opens ts rest (omega arith) e;
    begins = open_begins;
    stops = λ p t after le h o. (parts_at_marks (length (p ++ t ∷ after))).stops p t after (omega arith) h o;
  }

  blocks_marks : (n : ℕ) → Marks n index (OpenBlocks A) (blocks {A = A}) (the terminals.Label) false ends
  blocks_marks n = subst (λ (r : List Tok → Read Tok (List (Block A))). Marks n index (OpenBlocks A) r (the terminals.Label) false ends) (λ i ts. blocks_are ts i) (image_marks (λ v. blocks_of v.0 v.1) (parts_marks n))

  pub func_marks : (n : ℕ) → Marks n index (Then FuncTop (OpenBlocks A)) (func {A = A}) (the terminals.Function) false ends
  unfolding func
  func_marks n = image_marks func_of (seq_marks (top_reads n) (image_marks (λ v. v.0) (first_marks (word terminals.CloseBrace) (blocks_marks n) (quiet_one (exactly terminals.CloseBrace)))) refl refl)
