-- Blocks read one by one are the blocks that are spelled.
use Rattle.std.proofs.Common.{◌≡◌, ℕ, zero, suc, ◌≤◌, ◌<◌, Bool, true, false, List, [], ◌∷◌, ◌++◌, length, drop, Option, Some, None, refl, sym, ap, subst, ◌∙◌, arith, append_assoc}
use Rattle.qil_lexer.specs.declared.token.TokenKind.{TokenKind}
use Rattle.qil_lexer.specs.declared.token.TokenKind.TheVariants as kinds
use Rattle.qil_language.specs.Language.{Many}
use Rattle.qil_language.specs.Reading.{Read, got, failed, ◌>>=◌, starts, joined}
use Rattle.qil_language.specs.Reads.{Got, Explains, Takes}
use Rattle.qil_language.proofs.Loop.{cons_at, pair_got, unrolled}
use Rattle.qil_parser.specs.declared.terminal.Terminal.TheVariants as terminals
use Rattle.qil_tree.specs.declared.tree.Jump.{Jump}
use Rattle.qil_tree.specs.declared.tree.Block.{Block}
use Rattle.qil_parser.specs.Token.{Tok, index}
use Rattle.qil_parser.specs.Grammar.{label_at, list_of}
use Rattle.qil_parser.specs.Functions.{Prefix, Head, BlockOf, block_of, blocks_of, jump_or, first_label}
use Rattle.qil_parser.specs.Parsing.{the}
use Rattle.qil_parser.specs.FunctionParsing.{jump_starts, head, next_name, jump_line, ending, block, more_blocks, blocks}
use Rattle.qil_parser.proofs.Parts.{Parts, jumped_of, fallen_of, parts_of, parts_then, parts_at, parts}
use Rattle.qil_parser.proofs.FunctionProductions.{jump_line_takes}
use Rattle.qil_parser.proofs.Blocks.{AllParts, head_takes, parts_at_reads}

-- the first and the others
abbrev pub consed : {T A B C : Type 0} → (A × B → C) → A → Read T B → Read T C
consed f a o = (o >>= λ y. pair_got (a, y.0) y.1) >>= λ v. got (f v.0) v.1

pub listed : {A : Type 0} (a : A) (o : Read Tok (List A)) → consed list_of a o ≡ joined (a ∷ []) o
listed a (got others rest) = refl
listed a (failed e rest) = refl

-- ---- what a block takes

ending_left : (ts : List Tok) (j : Jump) (rest : List Tok) → ending ts ≡ got j rest → length rest ≤ length ts
unfolding ending
ending_left ts j rest e = by_jump (starts index jump_starts ts) refl
  where
    by_label : (b : Bool) → starts index jump_starts ts ≡ false → starts index (the terminals.Label) ts ≡ b → length rest ≤ length ts
    by_label true s l = let one : got (jump_or None (next_name ts)) ts ≡ got j rest = sym (rw (s, l) refl) ∙ e in let two : ts ≡ rest = cc in omega (arith, ap length two)
    by_label false s l = let one : failed true ts ≡ got j rest = sym (rw (s, l) refl) ∙ e in absurd cc

    by_jump : (b : Bool) → starts index jump_starts ts ≡ b → length rest ≤ length ts
    by_jump true s = let one : jump_line ts ≡ got j rest = sym (rw s refl) ∙ e in omega (arith, jump_line_takes.fewer ts j rest one)
    by_jump false s = by_label (starts index (the terminals.Label) ts) s refl

-- ---- the first label of what is read is the first token's

label_is : (k : TokenKind) (text : List ℕ) (line : ℕ) (x : ℕ × List ℕ) → label_at k text line ≡ Some x → (line, drop 1 text) ≡ x
label_is kinds.Label text line x h = cc
label_is _ text line x h = absurd cc

module _ {A : Type 0} where
  head_label : (l : List Tok) (h : Prefix A) (more : List Tok) → Head l h → next_name (l ++ more) ≡ h.0
  head_label l h more d = go l d.parts
    where
      t : Tok
      t = d.first.spelled.first.token

      means : (t.line, drop 1 t.text) ≡ h.0
      means = label_is t.kind t.text t.line d.first.value.0 d.first.spelled.first.means ∙ d.first.made

      all : d.left ≡ t ∷ d.first.spelled.right
      all = d.first.spelled.parts ∙ ap (λ (x : List Tok). x ++ d.first.spelled.right) d.first.spelled.first.alone

      go : (m : List Tok) → m ≡ d.left ++ d.right → next_name (m ++ more) ≡ h.0
      go m e = ap (λ (x : List Tok). next_name (x ++ more)) (e ∙ ap (λ (x : List Tok). x ++ d.right) all) ∙ means

  all_label : (p : List Tok) (v : Parts A) (more : List Tok) → AllParts p v → next_name (p ++ more) ≡ first_label v.0 v.1
  all_label p v more s = go v.0 s.left s.first s.parts
    where
      go : (prefixes : List (Prefix A × Option Jump)) (l : List Tok) → Many BlockOf l prefixes → p ≡ l ++ s.right → next_name (p ++ more) ≡ first_label prefixes v.1
      go [] l m e = ap (λ (x : List Tok). next_name (x ++ more)) (e ∙ ap (λ (x : List Tok). x ++ s.right) m ∙ s.second.parts) ∙ (ap next_name (append_assoc s.second.left s.second.right more) ∙ head_label s.second.left v.1.0 (s.second.right ++ more) s.second.first)
      go (f ∷ prefixes) l m e =
          let d = m.3 in
          ap (λ (x : List Tok). next_name (x ++ more)) (e ∙ ap (λ (x : List Tok). x ++ s.right) m.2 ∙ append_assoc m.0 m.1 s.right ∙ ap (λ (x : List Tok). x ++ (m.1 ++ s.right)) d.parts ∙ append_assoc d.left d.right (m.1 ++ s.right))
          ∙ (ap next_name (append_assoc d.left (d.right ++ (m.1 ++ s.right)) more) ∙ head_label d.left f.0 ((d.right ++ (m.1 ++ s.right)) ++ more) d.first)

  read_label : (n : ℕ) (ts : List Tok) (v : Parts A) (rest : List Tok) → length ts ≤ n → parts_at n ts ≡ got v rest → next_name ts ≡ first_label v.0 v.1
  read_label n ts v rest le e =
      let g : Got index AllParts (the terminals.Label) ts v rest = subst (λ (o : Read Tok (Parts A)). Explains index AllParts (the terminals.Label) ts o) e ((parts_at_reads n).explains ts le) in
      ap next_name g.parts ∙ all_label g.prefix v rest g.spelled

  -- ---- one block, and others

  pub block_takes : Takes (block {A = A})
  unfolding block
  block_takes = record { fewer = λ ts b rest e. by_head ts b rest (head ts) refl e }
    where
      ended : (h : Prefix A) (us rest : List Tok) (b : Block A) (o : Read Tok Jump) → ending us ≡ o → ((o >>= λ y. pair_got (h, y.0) y.1) >>= λ v. got (block_of v.0.0 v.0.1) v.1) ≡ got b rest → length rest ≤ length us
      ended h us rest b (got j after) e f = let same : after ≡ rest = cc in subst (λ (l : List Tok). length l ≤ length us) same (ending_left us j after e)
      ended h us rest b (failed k after) e f = absurd cc

      by_head : (ts : List Tok) (b : Block A) (rest : List Tok) (o : Read Tok (Prefix A)) → head ts ≡ o → block ts ≡ got b rest → length rest < length ts
      by_head ts b rest (got h us) e f = omega (arith, head_takes.fewer ts h us e, ended h us rest b (ending us) refl (sym (rw e refl) ∙ f))
      by_head ts b rest (failed k us) e f = let bad : failed k us ≡ got b rest = sym (rw e refl) ∙ f in absurd cc

  abbrev filled : Read Tok (Parts A) → Read Tok (List (Block A))
  filled o = o >>= λ v. got (blocks_of v.0.0 v.0.1) v.1

  abbrev with_prefix : Prefix A → Read Tok (Prefix A → Parts A) → Read Tok (Parts A)
  with_prefix h o = consed parts_of h o

  abbrev jumped : Prefix A → Jump → Read Tok (Parts A) → Read Tok (Parts A)
  jumped h j o = with_prefix h (consed jumped_of j (o >>= λ v. got (Some v.0) v.1))

  abbrev fallen : Prefix A → Read Tok (Parts A) → Read Tok (Parts A)
  fallen h o = with_prefix h (o >>= λ v. got (fallen_of v.0) v.1)

  jumped_fills : (h : Prefix A) (j : Jump) (o : Read Tok (Parts A)) → filled (jumped h j o) ≡ cons_at (block_of h j) (filled o)
  jumped_fills h j (got v rest) = refl
  jumped_fills h j (failed k rest) = refl

  fallen_fills : (h : Prefix A) (next : ℕ × List ℕ) (o : Read Tok (Parts A)) → ((v : Parts A) (rest : List Tok) → o ≡ got v rest → next ≡ first_label v.0 v.1) → filled (fallen h o) ≡ cons_at (block_of h (jump_or None next)) (filled o)
  fallen_fills h next (got v rest) f = ap (λ (x : ℕ × List ℕ). got (block_of h (jump_or None x) ∷ blocks_of v.0 v.1) rest) (sym (f v rest refl))
  fallen_fills h next (failed k rest) f = refl

  then_listed : (o : Read Tok (Block A)) → (o >>= λ x. more_blocks x.1 >>= λ y. got (x.0 ∷ y.0) y.1) ≡ ((o >>= λ x. more_blocks x.1 >>= λ y. pair_got (x.0, y.0) y.1) >>= λ v. got (list_of v.0) v.1)
  then_listed (got b rest) = sym (listed b (more_blocks rest))
  then_listed (failed k rest) = refl

  goes_on : (ts : List Tok) → starts index (the terminals.Label) ts ≡ true → more_blocks ts ≡ blocks {A = A} ts
  unfolding more_blocks blocks
  goes_on ts h = let one : more_blocks ts ≡ (block ts >>= λ x. more_blocks x.1 >>= λ y. got (x.0 ∷ y.0) y.1) = unrolled index (the terminals.Label) block block_takes ts ∙ rw h refl in one ∙ then_listed (block ts)

  ends_there : (ts : List Tok) → starts index (the terminals.Label) ts ≡ false → more_blocks {A = A} ts ≡ got [] ts
  unfolding more_blocks
  ends_there ts h = unrolled index (the terminals.Label) block block_takes ts ∙ rw h refl

  -- one block, and then others
  first_block : (ts : List Tok) (h : Prefix A) (us : List Tok) (j : Jump) (rest : List Tok) → head ts ≡ got h us → ending us ≡ got j rest → blocks ts ≡ cons_at (block_of h j) (more_blocks rest)
  unfolding block blocks
  first_block ts h us j rest e f = let one : blocks ts ≡ consed list_of (block_of h j) (more_blocks rest) = rw (e, f) refl in one ∙ listed (block_of h j) (more_blocks rest)

  head_fails : (ts : List Tok) (k : Bool) (rest : List Tok) → head {A = A} ts ≡ failed k rest → blocks {A = A} ts ≡ failed k rest
  unfolding block blocks
  head_fails ts k rest e = rw e refl

  ending_fails : (ts : List Tok) (h : Prefix A) (us : List Tok) (k : Bool) (rest : List Tok) → head ts ≡ got h us → ending us ≡ failed k rest → blocks {A = A} ts ≡ failed k rest
  unfolding block blocks
  ending_fails ts h us k rest e f = rw (e, f) refl

  module _ (n : ℕ) (below : (ts : List Tok) → length ts ≤ n → filled (parts_at n ts) ≡ blocks ts) (ts : List Tok) (le : length ts ≤ suc n) where
    module _ (h : Prefix A) (us : List Tok) (e : head ts ≡ got h us) where
      short : length us ≤ n
      short = omega (arith, le, head_takes.fewer ts h us e)

      by_label : (j : Jump) (after : List Tok) → starts index jump_starts us ≡ true → jump_line us ≡ got j after → ending us ≡ got j after → (b : Bool) → starts index (the terminals.Label) after ≡ b → filled (parts_then (parts_at n) ts) ≡ blocks ts
      by_label j after s f g true l =
          let one : parts_then (parts_at n) ts ≡ jumped h j (parts_at n after) = rw (e, s, f, l) refl in
          ap filled one ∙ jumped_fills h j (parts_at n after) ∙ ap (cons_at (block_of h j)) (below after (omega (arith, short, jump_line_takes.fewer us j after f)) ∙ sym (goes_on after l)) ∙ sym (first_block ts h us j after e g)
      by_label j after s f g false l =
          let one : parts_then (parts_at n) ts ≡ got ([], (h, j)) after = rw (e, s, f, l) refl in
          ap filled one ∙ sym (first_block ts h us j after e g ∙ ap (cons_at (block_of h j)) (ends_there after l))

      by_line : (o : Read Tok Jump) → starts index jump_starts us ≡ true → jump_line us ≡ o → filled (parts_then (parts_at n) ts) ≡ blocks ts
      unfolding ending
      by_line (got j after) s f = let g : ending us ≡ got j after = rw (s, f) refl in by_label j after s f g (starts index (the terminals.Label) after) refl
      by_line (failed k rest) s f =
          let g : ending us ≡ failed k rest = rw (s, f) refl in
          let one : parts_then (parts_at n) ts ≡ failed k rest = rw (e, s, f) refl in
          ap filled one ∙ sym (ending_fails ts h us k rest e g)

      by_next : (b : Bool) → starts index jump_starts us ≡ false → starts index (the terminals.Label) us ≡ b → filled (parts_then (parts_at n) ts) ≡ blocks ts
      unfolding ending
      by_next true s l =
          let g : ending us ≡ got (jump_or None (next_name us)) us = rw (s, l) refl in
          let one : parts_then (parts_at n) ts ≡ fallen h (parts_at n us) = rw (e, s, l) refl in
          ap filled one ∙ fallen_fills h (next_name us) (parts_at n us) (λ v rest r. read_label n us v rest short r) ∙ ap (cons_at (block_of h (jump_or None (next_name us)))) (below us short ∙ sym (goes_on us l)) ∙ sym (first_block ts h us (jump_or None (next_name us)) us e g)
      by_next false s l =
          let g : ending us ≡ failed true us = rw (s, l) refl in
          let one : parts_then (parts_at n) ts ≡ failed true us = rw (e, s, l) refl in
          ap filled one ∙ sym (ending_fails ts h us true us e g)

      by_jump : (b : Bool) → starts index jump_starts us ≡ b → filled (parts_then (parts_at n) ts) ≡ blocks ts
      by_jump true s = by_line (jump_line us) s refl
      by_jump false s = by_next (starts index (the terminals.Label) us) s refl

    by_head : (o : Read Tok (Prefix A)) → head ts ≡ o → filled (parts_then (parts_at n) ts) ≡ blocks ts
    by_head (got h us) e = by_jump h us e (starts index jump_starts us) refl
    by_head (failed k rest) e = let one : parts_then (parts_at n) ts ≡ failed k rest = rw e refl in ap filled one ∙ sym (head_fails ts k rest e)

  no_tokens : blocks {A = A} [] ≡ failed false []
  unfolding head block blocks
  no_tokens = refl

  one_by_one : (n : ℕ) (ts : List Tok) → length ts ≤ n → filled (parts_at n ts) ≡ blocks ts
  one_by_one zero [] le = sym no_tokens
  one_by_one zero (t ∷ ts) le = absurd (omega arith)
  one_by_one (suc n) ts le = by_head n (one_by_one n) ts le (head ts) refl

  pub blocks_are : (ts : List Tok) → filled (parts ts) ≡ blocks ts
  unfolding parts
  blocks_are ts = one_by_one (length ts) ts (omega arith)
