-- The words of a phi or a jump are spelled as it is, but for its line.
use Rattle.std.proofs.Common.{◌≡◌, ℕ, List, [], ◌∷◌, ◌++◌, Some, None, refl, ap}
use Rattle.std.specs.Prelude.{codes}
use Rattle.std.specs.List.{flat_map}
use Rattle.qil_lexer.specs.declared.token.TokenKind.TheVariants as kinds
use Rattle.qil_parser.specs.declared.terminal.Terminal.TheVariants as terminals
use Rattle.qil_tree.specs.declared.tree.PhiSource.{PhiSource}
use Rattle.qil_tree.specs.declared.tree.Phi.{Phi}
use Rattle.qil_tree.specs.declared.tree.Jump.{Jump}
use Rattle.qil_tree.specs.declared.tree.JumpKind.{JumpKind}
use Rattle.qil_tree.specs.declared.tree.JumpKind.TheVariants as jump_kinds
use Rattle.qil_parser.specs.Words.{word_terminal}
use Rattle.qil_parser.specs.Token.{terminal, code}
use Rattle.qil_parser.specs.Grammar.{exactly, line_at, After, list_of}
use Rattle.qil_parser.specs.Functions.{source_of, SourceOf, Sources, phi_of, PhiOf, jmp_of, jnz_of, ret_of, hlt_of, JumpOf}
use Rattle.qil_printer.specs.Canonical.{tight, spaced, class_name, a_value, a_label, comma, target_words, source_words, more_source_words, sources_words, phi_words, going_words, jump_words}
use Rattle.qil_printer.proofs.Writes.{Writes, tok_of, writes_seq, writes_image, writes_left, writes_right, writes_nothing, writes_many}
use Rattle.qil_printer.proofs.Writable.{GoodSource, GoodSources, GoodPhi, GoodJump}
use Rattle.qil_printer.proofs.WritesInsts.{a_word, writes_word_line, writes_before, writes_after, writes_label, writes_val, writes_target}

-- ---- phis

writes_source : (s : PhiSource) → GoodSource s → Writes SourceOf (source_words s) (λ v. v ≡ s)
writes_source s good = writes_image source_of (λ v. v ≡ s) (writes_seq (a_label s.label ∷ []) (a_value s.value ∷ []) (writes_label s.label) (writes_val s.value good.1)) (λ v q. λ i. record { label = q.0 i; value = q.1 i })

writes_next_source : (s : PhiSource) → GoodSource s → Writes (After terminals.Comma SourceOf) (more_source_words s) (λ v. v ≡ s)
writes_next_source s good = writes_after terminals.Comma comma (source_words s) (λ v. v ≡ s) (λ line. refl) (writes_source s good)

phi_is : (line : ℕ) → exactly terminals.Phi (tok_of (a_word [] (codes "phi")) line) ≡ Some tt
unfolding word_terminal
phi_is line = refl

writes_sources : (all : List PhiSource) → GoodSources all → Writes Sources (spaced kinds.Word (codes "phi") ∷ sources_words all) (λ v. v ≡ all)
writes_sources [] good = absurd good
writes_sources (s ∷ others) good =
    writes_after terminals.Phi (spaced kinds.Word (codes "phi")) (source_words s ++ flat_map more_source_words others) (λ v. v ≡ s ∷ others) phi_is
    (writes_image list_of (λ v. v ≡ s ∷ others) (writes_seq (source_words s) (flat_map more_source_words others) (writes_source s good.0) (writes_many (After terminals.Comma SourceOf) more_source_words others GoodSource good.1 writes_next_source)) (λ v q. λ i. q.0 i ∷ q.1 i))

pub writes_phi : {A : Type 0} (p : Phi A) → GoodPhi p → Writes (PhiOf {A = A}) (phi_words p) (λ q. (q.target ≡ p.target) × (q.sources ≡ p.sources))
writes_phi p good = writes_image phi_of (λ q. (q.target ≡ p.target) × (q.sources ≡ p.sources)) (writes_seq (target_words p.target.name (class_name p.target.class)) (spaced kinds.Word (codes "phi") ∷ sources_words p.sources) (writes_target p.target) (writes_sources p.sources good.1)) (λ v q. (q.0, q.1))

-- ---- jumps

jmp_is : (line : ℕ) → line_at (code (terminal (tok_of (a_word [] (codes "jmp")) line))) (code terminals.Jmp) line ≡ Some line
unfolding word_terminal
jmp_is line = refl

jnz_is : (line : ℕ) → line_at (code (terminal (tok_of (a_word [] (codes "jnz")) line))) (code terminals.Jnz) line ≡ Some line
unfolding word_terminal
jnz_is line = refl

ret_is : (line : ℕ) → line_at (code (terminal (tok_of (a_word [] (codes "ret")) line))) (code terminals.Ret) line ≡ Some line
unfolding word_terminal
ret_is line = refl

hlt_is : (line : ℕ) → line_at (code (terminal (tok_of (a_word [] (codes "hlt")) line))) (code terminals.Hlt) line ≡ Some line
unfolding word_terminal
hlt_is line = refl

abbrev Goes : JumpKind → Jump → Type 0
Goes kind j = j.kind ≡ kind

writes_going : (k : JumpKind) → GoodJump k → Writes JumpOf (going_words k) (Goes k)
writes_going (jump_kinds.Jmp to) good =
    writes_left (writes_image jmp_of (Goes (jump_kinds.Jmp to)) (writes_seq (tight kinds.Word (codes "jmp") ∷ []) (a_label to ∷ []) (writes_word_line terminals.Jmp (tight kinds.Word (codes "jmp")) jmp_is) (writes_label to)) (λ v q. λ i. jump_kinds.Jmp (q.1 i)))
writes_going (jump_kinds.Jnz value a b) good =
    writes_right (writes_left (writes_image jnz_of (Goes (jump_kinds.Jnz value a b))
    (writes_seq (tight kinds.Word (codes "jnz") ∷ []) (a_value value ∷ comma ∷ a_label a ∷ comma ∷ a_label b ∷ []) (writes_word_line terminals.Jnz (tight kinds.Word (codes "jnz")) jnz_is)
    (writes_seq (a_value value ∷ comma ∷ []) (a_label a ∷ comma ∷ a_label b ∷ []) (writes_before terminals.Comma (a_value value ∷ []) comma (λ v. v ≡ value) (λ line. refl) (writes_val value good.0))
    (writes_seq (a_label a ∷ comma ∷ []) (a_label b ∷ []) (writes_before terminals.Comma (a_label a ∷ []) comma (λ v. v.1 ≡ a) (λ line. refl) (writes_label a)) (writes_label b))))
    (λ v q. λ i. jump_kinds.Jnz (q.1.0 i) (q.1.1.0 i) (q.1.1.1 i))))
writes_going (jump_kinds.Ret None) good =
    writes_right (writes_right (writes_left (writes_image ret_of (Goes (jump_kinds.Ret None)) (writes_seq (tight kinds.Word (codes "ret") ∷ []) [] (writes_word_line terminals.Ret (tight kinds.Word (codes "ret")) ret_is) (writes_right (writes_nothing None (λ v. v ≡ None) refl))) (λ v q. λ i. jump_kinds.Ret (q.1 i)))))
writes_going (jump_kinds.Ret (Some value)) good =
    writes_right (writes_right (writes_left (writes_image ret_of (Goes (jump_kinds.Ret (Some value))) (writes_seq (tight kinds.Word (codes "ret") ∷ []) (a_value value ∷ []) (writes_word_line terminals.Ret (tight kinds.Word (codes "ret")) ret_is) (writes_left (writes_image Some (λ v. v ≡ Some value) (writes_val value good) (λ v q. ap Some q)))) (λ v q. λ i. jump_kinds.Ret (q.1 i)))))
writes_going jump_kinds.Hlt good =
    writes_right (writes_right (writes_right (writes_image hlt_of (Goes jump_kinds.Hlt) (writes_word_line terminals.Hlt (tight kinds.Word (codes "hlt")) hlt_is) (λ v q. refl))))

pub writes_jump : (j : Jump) → GoodJump j.kind → Writes JumpOf (jump_words j) (λ k. k.kind ≡ j.kind)
writes_jump j good = writes_going j.kind good
