-- Reading phis and then instructions, as a loop does.
use Rattle.std.proofs.Common.{◌≡◌, ℕ, zero, suc, ◌≤◌, ◌<◌, Bool, true, false, cond, List, [], ◌∷◌, ◌++◌, length, refl, sym, ap, ◌∙◌, arith, append_assoc, append-nil}
use Rattle.qil_language.specs.Reading.{Read, got, failed, ◌>>=◌, starts, seq, image, joined, cons_of}
use Rattle.qil_language.specs.Reads.{Takes}
use Rattle.qil_language.proofs.Loop.{pair_got, takes_by}
use Rattle.qil_parser.specs.declared.terminal.Terminal.TheVariants as terminals
use Rattle.qil_tree.specs.declared.ops.Class.{Class}
use Rattle.qil_tree.specs.declared.tree.PhiSource.{PhiSource}
use Rattle.qil_tree.specs.declared.tree.Phi.{Phi}
use Rattle.qil_tree.specs.declared.tree.Inst.{Inst}
use Rattle.qil_parser.specs.declared.cursor_error.CursorError.{CursorError}
use Rattle.qil_parser.specs.declared.cursor_error.CursorError.TheVariants as ends
use Rattle.qil_parser.specs.Token.{Tok, index}
use Rattle.qil_parser.specs.Functions.{target_of, phi_of}
use Rattle.qil_parser.specs.Outcome.{Fails}
use Rattle.qil_parser.specs.Parsing.{the, classes, class_word, before}
use Rattle.qil_parser.specs.FunctionParsing.{Lines, plain_starts, phi_more, class_more, in_class, sub_more, with_dest, insts_alone, of_class, of_sub, plain, dest, lines, sources, after_class, after_dest, no_dest, body_then, body_at, body, class_lines, sub_lines, plain_lines}
use Rattle.qil_parser.proofs.Productions.{class_reads}
use Rattle.qil_parser.proofs.FunctionProductions.{dest_takes, sources_line_takes}
use Rattle.qil_parser.proofs.BlocksLoop.{consed}

pub listed_made : {A B : Type 0} (to : B) (g : B → A) (o : Read Tok (List A)) → consed (λ (v : (B → A) × List A). v.0 to ∷ v.1) g o ≡ joined (g to ∷ []) o
listed_made to g (got others rest) = refl
listed_made to g (failed e rest) = refl

pub listed_classed : {A B C : Type 0} (class : C) (to : B) (g : C → B → A) (o : Read Tok (List A)) → consed (λ (v : (C → B → A) × List A). v.0 class to ∷ v.1) g o ≡ joined (g class to ∷ []) o
listed_classed class to g (got others rest) = refl
listed_classed class to g (failed e rest) = refl

abbrev then_by : {A B C : Type 0} → (A × B → C) → Read Tok A → (List Tok → Read Tok B) → Read Tok C
then_by f o s = (o >>= λ x. s x.1 >>= λ y. pair_got (x.0, y.0) y.1) >>= λ v. got (f v.0) v.1

same_then : {A B C : Type 0} (f : A × B → C) (o : Read Tok A) (s u : List Tok → Read Tok B) → ((a : A) (rest : List Tok) → o ≡ got a rest → s rest ≡ u rest) → then_by f o s ≡ then_by f o u
same_then f (got a rest) s u h = ap (consed f a) (h a rest refl)
same_then f (failed e rest) s u h = refl

abbrev source_lines : List Tok → Read Tok (List PhiSource)
source_lines = before sources terminals.Newline

pub class_takes : Takes class_word
class_takes = takes_by class_reads

module _ {A : Type 0} where
  same_class : (ts : List Tok) (s u : List Tok → Read Tok (Lines A)) → ((rest : List Tok) → length rest < length ts → s rest ≡ u rest) → after_class s ts ≡ after_class u ts
  same_class ts s u h = ap (λ (o : Read Tok (Class → ℕ × List ℕ → Lines A)). cond (starts index (the terminals.Phi) ts) o (image class_more (seq (before of_class terminals.Newline) lines) ts)) (same_then phi_more (source_lines ts) s u (λ a rest e. h rest (sources_line_takes.fewer ts a rest e)))

  same_dest : (ts : List Tok) (s u : List Tok → Read Tok (Lines A)) → ((rest : List Tok) → length rest < length ts → s rest ≡ u rest) → after_dest s ts ≡ after_dest u ts
  same_dest ts s u h = ap (λ (o : Read Tok (ℕ × List ℕ → Lines A)). cond (starts index classes ts) o (image sub_more (seq (before of_sub terminals.Newline) lines) ts)) (same_then in_class (class_word ts) (after_class s) (after_class u) (λ class rest e. same_class rest s u (λ us lt. h us (omega (arith, lt, class_takes.fewer ts class rest e)))))

  same_body : (ts : List Tok) (s u : List Tok → Read Tok (Lines A)) → ((rest : List Tok) → length rest < length ts → s rest ≡ u rest) → body_then s ts ≡ body_then u ts
  same_body ts s u h = ap (λ (o : Read Tok (Lines A)). cond (starts index (the terminals.Temp) ts) o (no_dest ts)) (same_then with_dest (dest ts) (after_dest s) (after_dest u) (λ to rest e. same_dest rest s u (λ us lt. h us (omega (arith, lt, dest_takes.fewer ts to rest e)))))

  body_fuel : (n m : ℕ) (ts : List Tok) → length ts ≤ n → length ts ≤ m → body_at {A = A} n ts ≡ body_at m ts
  body_fuel zero zero ts le lm = refl
  body_fuel zero (suc m) [] le lm = refl
  body_fuel zero (suc m) (t ∷ ts) le lm = absurd (omega arith)
  body_fuel (suc n) zero [] le lm = refl
  body_fuel (suc n) zero (t ∷ ts) le lm = absurd (omega arith)
  body_fuel (suc n) (suc m) ts le lm = same_body ts (body_at n) (body_at m) (λ rest lt. body_fuel n m rest (omega arith) (omega arith))

  body_again : (ts : List Tok) → body {A = A} ts ≡ body_then body ts
  unfolding body
  body_again ts =
      body_fuel (length ts) (suc (length ts)) ts (omega arith) (omega arith)
      ∙ same_body ts (body_at (length ts)) (λ rest. body_at (length rest) rest) (λ rest lt. body_fuel (length ts) (length rest) rest (omega arith) (omega arith))

  -- phis that were read before
  abbrev pub with_phis : List (Phi A) → Read Tok (Lines A) → Read Tok (Lines A)
  with_phis prefix o = o >>= λ x. got (prefix ++ x.0.0, x.0.1) x.1

  abbrev pub with_insts : List (Phi A) → Read Tok (List (Inst A)) → Read Tok (Lines A)
  with_insts prefix o = o >>= λ x. got (prefix, x.0) x.1

  regroup : (prefix : List (Phi A)) (to : ℕ × List ℕ) (class : Class) (ss : List PhiSource) (o : Read Tok (Lines A)) → with_phis prefix (consed with_dest to (consed in_class class (consed phi_more ss o))) ≡ with_phis (prefix ++ phi_of (target_of (to, class), ss) ∷ []) o
  regroup prefix to class ss (got v rest) = ap (λ (l : List (Phi A)). got (l, v.1) rest) (sym (append_assoc prefix (phi_of (target_of (to, class), ss) ∷ []) v.0))
  regroup prefix to class ss (failed e rest) = refl

  class_alone : (prefix : List (Phi A)) (to : ℕ × List ℕ) (class : Class) (o : Read Tok (Class → ℕ × List ℕ → Inst A)) → with_phis prefix (consed with_dest to (consed in_class class (then_by class_more o lines))) ≡ with_insts prefix (then_by (λ (v : (Class → ℕ × List ℕ → Inst A) × List (Inst A)). v.0 class to ∷ v.1) o lines)
  class_alone prefix to class (failed e rest) = refl
  class_alone prefix to class (got g rest) = go (lines rest)
    where
      go : (o : Read Tok (List (Inst A))) → with_phis prefix (consed with_dest to (consed in_class class (consed class_more g o))) ≡ with_insts prefix (consed (λ (v : (Class → ℕ × List ℕ → Inst A) × List (Inst A)). v.0 class to ∷ v.1) g o)
      go (got is us) = ap (λ (l : List (Phi A)). got (l, g class to ∷ is) us) (append-nil prefix)
      go (failed e us) = refl

  sub_alone : (prefix : List (Phi A)) (to : ℕ × List ℕ) (o : Read Tok (ℕ × List ℕ → Inst A)) → with_phis prefix (consed with_dest to (then_by sub_more o lines)) ≡ with_insts prefix (then_by (λ (v : (ℕ × List ℕ → Inst A) × List (Inst A)). v.0 to ∷ v.1) o lines)
  sub_alone prefix to (failed e rest) = refl
  sub_alone prefix to (got g rest) = go (lines rest)
    where
      go : (o : Read Tok (List (Inst A))) → with_phis prefix (consed with_dest to (consed sub_more g o)) ≡ with_insts prefix (consed (λ (v : (ℕ × List ℕ → Inst A) × List (Inst A)). v.0 to ∷ v.1) g o)
      go (got is us) = ap (λ (l : List (Phi A)). got (l, g to ∷ is) us) (append-nil prefix)
      go (failed e us) = refl

  plain_alone : (prefix : List (Phi A)) (b : Bool) (ts : List Tok) (o : Read Tok (Inst A)) → with_phis prefix (cond b (then_by insts_alone o lines) (got ([], []) ts)) ≡ with_insts prefix (cond b (then_by cons_of o lines) (got [] ts))
  plain_alone prefix false ts o = ap (λ (l : List (Phi A)). got (l, []) ts) (append-nil prefix)
  plain_alone prefix true ts (failed e rest) = refl
  plain_alone prefix true ts (got i rest) = go (lines rest)
    where
      go : (o : Read Tok (List (Inst A))) → with_phis prefix (consed insts_alone i o) ≡ with_insts prefix (consed cons_of i o)
      go (got is us) = ap (λ (l : List (Phi A)). got (l, i ∷ is) us) (append-nil prefix)
      go (failed e us) = refl

  pub insts_end : (e : CursorError) (left : List Tok) (prefix : List (Phi A)) (o : Read Tok (List (Inst A))) (total : Read Tok (Lines A)) → total ≡ with_insts prefix o → Fails e left o → Fails e left total
  insts_end ends.Memory left prefix o total h f = tt
  insts_end (ends.Refused k) left prefix o total h f = h ∙ ap (with_insts prefix) f

  module _ (prefix : List (Phi A)) (ts : List Tok) (total : Read Tok (Lines A)) (so_far : with_phis prefix (body ts) ≡ total) where
    module _ (temp : starts index (the terminals.Temp) ts ≡ true) where
      dest_fails : (k : Bool) (rest : List Tok) → dest ts ≡ failed k rest → total ≡ failed k rest
      dest_fails k rest e = let one : body_then body ts ≡ failed k rest = rw (temp, e) refl in sym so_far ∙ ap (with_phis prefix) (body_again ts ∙ one)

      module _ (to : ℕ × List ℕ) (us : List Tok) (e : dest ts ≡ got to us) where
        at_dest : body {A = A} ts ≡ consed with_dest to (after_dest body us)
        at_dest = body_again ts ∙ (let one : body_then body ts ≡ consed with_dest to (after_dest body us) = rw (temp, e) refl in one)

        pub sub_last : starts index classes us ≡ false → total ≡ with_insts prefix (sub_lines to us)
        sub_last s =
            let two : after_dest body us ≡ then_by sub_more (before of_sub terminals.Newline us) lines = rw s refl in
            sym so_far ∙ ap (with_phis prefix) (at_dest ∙ ap (consed with_dest to) two) ∙ sub_alone prefix to (before of_sub terminals.Newline us)

        module _ (s : starts index classes us ≡ true) (class : Class) (vs : List Tok) (f : class_word us ≡ got class vs) where
          at_class : body {A = A} ts ≡ consed with_dest to (consed in_class class (after_class body vs))
          at_class = let two : after_dest body us ≡ consed in_class class (after_class body vs) = rw (s, f) refl in at_dest ∙ ap (consed with_dest to) two

          pub class_last : starts index (the terminals.Phi) vs ≡ false → total ≡ with_insts prefix (class_lines to class vs)
          class_last h =
              let three : after_class body vs ≡ then_by class_more (before of_class terminals.Newline vs) lines = rw h refl in
              sym so_far ∙ ap (with_phis prefix) (at_class ∙ ap (λ (o : Read Tok (Class → ℕ × List ℕ → Lines A)). consed with_dest to (consed in_class class o)) three) ∙ class_alone prefix to class (before of_class terminals.Newline vs)

          phi_fails : (k : Bool) (rest : List Tok) → starts index (the terminals.Phi) vs ≡ true → source_lines vs ≡ failed k rest → total ≡ failed k rest
          phi_fails k rest h g = let three : after_class body vs ≡ failed k rest = rw (h, g) refl in sym so_far ∙ ap (with_phis prefix) (at_class ∙ ap (λ (o : Read Tok (Class → ℕ × List ℕ → Lines A)). consed with_dest to (consed in_class class o)) three)

          pub phi_goes_on : (ss : List PhiSource) (rest : List Tok) → starts index (the terminals.Phi) vs ≡ true → source_lines vs ≡ got ss rest → with_phis (prefix ++ phi_of (target_of (to, class), ss) ∷ []) (body rest) ≡ total
          phi_goes_on ss rest h g =
              let three : after_class body vs ≡ consed phi_more ss (body rest) = rw (h, g) refl in
              sym (ap (with_phis prefix) (at_class ∙ ap (λ (o : Read Tok (Class → ℕ × List ℕ → Lines A)). consed with_dest to (consed in_class class o)) three) ∙ regroup prefix to class ss (body rest)) ∙ so_far

          pub phi_ends : (e : CursorError) (left : List Tok) → starts index (the terminals.Phi) vs ≡ true → Fails e left (source_lines vs) → Fails e left total
          phi_ends ends.Memory left h g = tt
          phi_ends (ends.Refused k) left h g = phi_fails k left h g

      pub dest_ends : (e : CursorError) (left : List Tok) → Fails e left (dest ts) → Fails e left total
      dest_ends ends.Memory left f = tt
      dest_ends (ends.Refused k) left f = dest_fails k left f

    pub plain_last : starts index (the terminals.Temp) ts ≡ false → total ≡ with_insts prefix (plain_lines ts)
    plain_last h =
        let one : body_then body ts ≡ no_dest ts = rw h refl in
        sym so_far ∙ ap (with_phis prefix) (body_again ts ∙ one) ∙ plain_alone prefix (starts index plain_starts ts) ts (before plain terminals.Newline ts)
