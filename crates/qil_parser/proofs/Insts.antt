-- Instructions: as they are spelled, and as they are told apart after the destination and its class.
use Rattle.std.proofs.Common.{◌≡◌, ℕ, true, false, List, [], ◌++◌, refl, sym, ap, subst, ◌∙◌, inl, inr, append_assoc}
use Rattle.qil_language.specs.Language.{Seq, Image, Either, Many}
use Rattle.qil_language.specs.Reads.{Reads, Takes}
use Rattle.qil_language.proofs.Law.{seq_reads, image_reads, either_reads, many_reads, said_reads}
use Rattle.qil_language.proofs.Loop.{takes_by}
use Rattle.qil_parser.specs.declared.terminal.Terminal.TheVariants as terminals
use Rattle.qil_tree.specs.declared.ops.Class.{Class}
use Rattle.qil_tree.specs.declared.ops.AbiType.{AbiType}
use Rattle.qil_tree.specs.declared.tree.Operand.{Operand}
use Rattle.qil_tree.specs.declared.tree.Argument.{Argument}
use Rattle.qil_tree.specs.declared.tree.Target.{Target}
use Rattle.qil_tree.specs.declared.tree.CallResult.{CallResult}
use Rattle.qil_tree.specs.declared.tree.Inst.{Inst}
use Rattle.qil_parser.specs.Token.{Tok, index}
use Rattle.qil_parser.specs.Grammar.{ClassWord, SubWord, TypeWord, Val, After, Before}
use Rattle.qil_tree.specs.Types.{type_of}
use Rattle.qil_parser.specs.Functions.{AllocWord, Dest, TargetOf, ResultOf, ExprOf, Callee, Plain, InstOf, target_of, result_of, assign_of, alloc_of, call_of}
use Rattle.qil_parser.specs.Parsing.{the, classes, sub_words, before}
use Rattle.qil_parser.specs.FunctionParsing
use Rattle.qil_parser.specs.FunctionParsing.{exprs, allocs, plain_starts, inst_starts, expr_for, alloc_for, call_for, sub_for, with_class, made_of, inst, lines}
use Rattle.qil_parser.proofs.Productions.{at, newline, class_reads, sub_reads, before_reads}
use Rattle.qil_parser.proofs.FunctionProductions.{dest_reads, expr_reads, alloc_val_reads, called_reads, plain_reads}

-- a destination and a class, or a type
target_at : (l r : List Tok) (to : ℕ × List ℕ) (class : Class) → Dest l to → ClassWord r class → TargetOf (l ++ r) (target_of (to, class))
target_at l r to class d c = record { value = (to, class); spelled = record { left = l; right = r; parts = refl; first = d; second = c }; made = refl }

result_at : (l r : List Tok) (to : ℕ × List ℕ) (type : AbiType) → Dest l to → TypeWord r type → ResultOf (l ++ r) (result_of (to, type))
result_at l r to type d c = record { value = (to, type); spelled = record { left = l; right = r; parts = refl; first = d; second = c }; made = refl }

module _ {A : Type 0} where
  abbrev pub OfClass : List Tok → (Class → ℕ × List ℕ → Inst A) → Type 0
  OfClass = Either (Image expr_for ExprOf) (Either (Image alloc_for (Seq AllocWord Val)) (Image call_for (After terminals.Call Callee)))

  abbrev pub OfSub : List Tok → (ℕ × List ℕ → Inst A) → Type 0
  OfSub = Image sub_for (Seq SubWord (After terminals.Call Callee))

  abbrev pub OfDest : List Tok → (ℕ × List ℕ → Inst A) → Type 0
  OfDest = Either (Image with_class (Seq ClassWord OfClass)) OfSub

  abbrev pub Reported : List Tok → Inst A → Type 0
  Reported = Either (Image made_of (Seq Dest OfDest)) Plain

  class_there : (p l c r : List Tok) (to : ℕ × List ℕ) (class : Class) (f : Class → ℕ × List ℕ → Inst A) → p ≡ l ++ (c ++ r) → Dest l to → ClassWord c class → OfClass r f → InstOf p (f class to)
  class_there p l c r to class f e d k (inl i) =
      let h : InstOf p (expr_for i.value class to) = inl (record { value = (target_of (to, class), i.value); spelled = record { left = l ++ c; right = r; parts = e ∙ sym (append_assoc l c r); first = target_at l c to class d k; second = i.spelled }; made = refl }) in
      subst (λ (g : Class → ℕ × List ℕ → Inst A). InstOf p (g class to)) i.made h
  class_there p l c r to class f e d k (inr (inl i)) =
      let h : InstOf p (alloc_for i.value class to) = inr (inl (record { value = (target_of (to, class), i.value); spelled = record { left = l ++ c; right = r; parts = e ∙ sym (append_assoc l c r); first = target_at l c to class d k; second = i.spelled }; made = refl })) in
      subst (λ (g : Class → ℕ × List ℕ → Inst A). InstOf p (g class to)) i.made h
  class_there p l c r to class f e d k (inr (inr i)) =
      let h : InstOf p (call_for i.value class to) = inr (inr (inl (record { value = (result_of (to, type_of class), i.value); spelled = record { left = l ++ c; right = r; parts = e ∙ sym (append_assoc l c r); first = result_at l c to (type_of class) d (inl (record { value = class; spelled = k; made = refl })); second = i.spelled }; made = refl }))) in
      subst (λ (g : Class → ℕ × List ℕ → Inst A). InstOf p (g class to)) i.made h

  sub_there : (p l r : List Tok) (to : ℕ × List ℕ) (f : ℕ × List ℕ → Inst A) → p ≡ l ++ r → Dest l to → OfSub r f → InstOf p (f to)
  sub_there p l r to f e d i =
      let s = i.spelled in
      let h : InstOf p (sub_for i.value to) = inr (inr (inl (record { value = (result_of (to, i.value.0), i.value.1); spelled = record { left = l ++ s.left; right = s.right; parts = e ∙ ap (λ (x : List Tok). l ++ x) s.parts ∙ sym (append_assoc l s.left s.right); first = result_at l s.left to i.value.0 d (inr s.first); second = s.second }; made = refl }))) in
      subst (λ (g : ℕ × List ℕ → Inst A). InstOf p (g to)) i.made h

  dest_there : (p l r : List Tok) (to : ℕ × List ℕ) (f : ℕ × List ℕ → Inst A) → p ≡ l ++ r → Dest l to → OfDest r f → InstOf p (f to)
  dest_there p l r to f e d (inl i) =
      let s = i.spelled in
      subst (λ (g : ℕ × List ℕ → Inst A). InstOf p (g to)) i.made (class_there p l s.left s.right to i.value.0 i.value.1 (e ∙ ap (λ (x : List Tok). l ++ x) s.parts) d s.first s.second)
  dest_there p l r to f e d (inr i) = sub_there p l r to f e d i

  pub inst_there : (p : List Tok) (i : Inst A) → Reported p i → InstOf p i
  inst_there p i (inl k) = subst (InstOf p) k.made (dest_there p k.spelled.left k.spelled.right k.value.0 k.value.1 k.spelled.parts k.spelled.first k.spelled.second)
  inst_there p i (inr k) = inr (inr (inr k))

  -- a target, and what comes after it
  class_back : (p t r : List Tok) (target : ℕ × Target) (f : Class → ℕ × List ℕ → Inst A) (i : Inst A) → p ≡ t ++ r → (h : TargetOf t target) → OfClass r f → f h.value.1 h.value.0 ≡ i → Reported p i
  class_back p t r target f i e h k m =
      let s = h.spelled in
      inl (record {
        value = (h.value.0, f h.value.1);
        spelled = record {
          left = s.left;
          right = s.right ++ r;
          parts = e ∙ ap (λ (x : List Tok). x ++ r) s.parts ∙ append_assoc s.left s.right r;
          first = s.first;
          second = inl (record { value = (h.value.1, f); spelled = record { left = s.right; right = r; parts = refl; first = s.second; second = k }; made = refl });
        };
        made = m;
      })

  call_back : (p l c r : List Tok) (to : ℕ × List ℕ) (type : AbiType) (v : Operand × List Argument) → p ≡ l ++ (c ++ r) → Dest l to → TypeWord c type → After terminals.Call Callee r v → Reported p (call_of (result_of (to, type), v))
  call_back p l c r to type v e d (inl k) s =
      inl (record {
        value = (to, call_for v k.value);
        spelled = record {
          left = l;
          right = c ++ r;
          parts = e;
          first = d;
          second = inl (record { value = (k.value, call_for v); spelled = record { left = c; right = r; parts = refl; first = k.spelled; second = inr (inr (record { value = v; spelled = s; made = refl })) }; made = refl });
        };
        made = ap (λ (x : AbiType). call_of (result_of (to, x), v)) k.made;
      })
  call_back p l c r to type v e d (inr k) s =
      inl (record {
        value = (to, sub_for (type, v));
        spelled = record {
          left = l;
          right = c ++ r;
          parts = e;
          first = d;
          second = inr (record { value = (type, v); spelled = record { left = c; right = r; parts = refl; first = k; second = s }; made = refl });
        };
        made = refl;
      })

  pub inst_back : (p : List Tok) (i : Inst A) → InstOf p i → Reported p i
  inst_back p i (inl k) =
      let s = k.spelled in
      class_back p s.left s.right k.value.0 (expr_for k.value.1) i s.parts s.first (inl (record { value = k.value.1; spelled = s.second; made = refl })) (ap (λ (x : ℕ × Target). assign_of (x, k.value.1)) s.first.made ∙ k.made)
  inst_back p i (inr (inl k)) =
      let s = k.spelled in
      class_back p s.left s.right k.value.0 (alloc_for k.value.1) i s.parts s.first (inr (inl (record { value = k.value.1; spelled = s.second; made = refl }))) (ap (λ (x : ℕ × Target). alloc_of (x, k.value.1)) s.first.made ∙ k.made)
  inst_back p i (inr (inr (inl k))) =
      let s = k.spelled in
      let t = s.first.spelled in
      subst (Reported p) (ap (λ (x : ℕ × CallResult). call_of (x, k.value.1)) s.first.made ∙ k.made)
      (call_back p t.left t.right s.right s.first.value.0 s.first.value.1 k.value.1 (s.parts ∙ ap (λ (x : List Tok). x ++ s.right) t.parts ∙ append_assoc t.left t.right s.right) t.first t.second s.second)
  inst_back p i (inr (inr (inr k))) = inr k

  pub of_class_reads : (n : ℕ) → Reads n true index OfClass FunctionParsing.of_class (exprs ++ (allocs ++ the terminals.Call)) false []
  unfolding FunctionParsing.of_class
  of_class_reads n = either_reads (image_reads expr_for (expr_reads n)) (either_reads (image_reads alloc_for (alloc_val_reads n)) (image_reads call_for (called_reads n)) refl) refl

  pub of_sub_reads : (n : ℕ) → Reads n true index OfSub FunctionParsing.of_sub sub_words false []
  unfolding FunctionParsing.of_sub
  of_sub_reads n = image_reads sub_for (seq_reads (sub_reads n) (called_reads n) refl)

  of_dest_reads : (n : ℕ) → Reads n true index OfDest FunctionParsing.of_dest (classes ++ sub_words) false []
  unfolding FunctionParsing.of_dest
  of_dest_reads n = either_reads (image_reads with_class (seq_reads (class_reads n) (of_class_reads n) refl)) (of_sub_reads n) refl

  pub inst_reads : (n : ℕ) → Reads n true index (InstOf {A = A}) inst inst_starts false []
  unfolding inst
  inst_reads n = said_reads inst_there inst_back (either_reads (image_reads made_of (seq_reads (dest_reads n) (of_dest_reads n) refl)) (plain_reads n) refl)

  pub inst_line_reads : (n : ℕ) → Reads n true index (Before (InstOf {A = A}) terminals.Newline) (before inst terminals.Newline) inst_starts false []
  unfolding at newline
  inst_line_reads n = before_reads terminals.Newline newline refl refl (inst_reads n)

  pub lines_reads : (n : ℕ) → Reads n true index (Many (Before (InstOf {A = A}) terminals.Newline)) lines inst_starts true inst_starts
  unfolding lines
  lines_reads n = many_reads (inst_line_reads n) refl

  pub inst_line_takes : Takes (before (inst {A = A}) terminals.Newline)
  inst_line_takes = takes_by inst_line_reads
