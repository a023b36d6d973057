-- Canonical texts are cut into tokens that spell the same tree, its line aside.
use Rattle.std.proofs.Common.{◌≡◌, ℕ, suc, List, [], ◌∷◌, map, arith, refl, sym, ap, subst, ◌∙◌}
use Rattle.std.specs.List.{All}
use Rattle.qil_lexer.specs.declared.token.Token.{Token}
use Rattle.qil_lexer.specs.Cut.{IsShaped, Cuts, TokenContent, content_of}
use Rattle.qil_lexer.proofs.Law.{one_cut}
use Rattle.qil_tree.specs.declared.tree.Inst.{Inst}
use Rattle.qil_tree.specs.declared.tree.Phi.{Phi}
use Rattle.qil_tree.specs.declared.tree.Jump.{Jump}
use Rattle.qil_parser.specs.Token.{Tok, tok, seen}
use Rattle.qil_parser.specs.Functions.{InstOf, PhiOf, JumpOf}
use Rattle.qil_printer.specs.Canonical.{inst_words, phi_words, jump_words, inst_text, phi_text, jump_text}
use Rattle.qil_printer.specs.Respelled.{InstRespelled, PhiRespelled, JumpRespelled}
use Rattle.qil_printer.proofs.CanonicalCuts.{cuts, tokens_at}
use Rattle.qil_printer.proofs.Writes.{AllOf, shown}
use Rattle.qil_printer.proofs.Writable.{GoodKind, GoodPhi, GoodJump}
use Rattle.qil_printer.proofs.WritesInsts.{writes_inst}
use Rattle.qil_printer.proofs.WritesJumps.{writes_phi, writes_jump}
use Rattle.qil_printer.proofs.WordsFit.{fits_kind, fits_phi, fits_going}
use Rattle.qil_printer.proofs.Spelled.{IsShapedTok, yields_inst, yields_phi, yields_jump}

pub shaped_toks : (ts : List Token) → All IsShaped ts → AllOf IsShapedTok (seen ts)
shaped_toks [] h = tt
shaped_toks (t ∷ ts) h = let k = h 0 t (omega arith) in (record { shape = k.shape; in_range = k.in_range }, shaped_toks ts (λ n d lt. h (suc n) d (omega arith)))

-- ---- a text has one cut

abbrev tok_of_content : TokenContent → Tok
tok_of_content p = record { kind = p.kind; text = p.bytes; line = p.line }

seen_contents : (ts : List Token) → seen ts ≡ map tok_of_content (map content_of ts)
seen_contents [] = refl
seen_contents (t ∷ ts) = ap (λ (l : List Tok). tok t ∷ l) (seen_contents ts)

same_seen : (text : List ℕ) (ts us : List Token) → Cuts text ts → Cuts text us → seen ts ≡ seen us
same_seen text ts us c d = seen_contents ts ∙ ap (map tok_of_content) (one_cut text ts us c d) ∙ sym (seen_contents us)

-- what one cut spells each cut does
each_cut : {A : Type 0} (S : List Tok → A → Type 0) (a : A) (text : List ℕ) (ts : List Token) → Cuts text ts → S (seen ts) a → (us : List Token) → Cuts text us → S (seen us) a
each_cut S a text ts c s us d = subst (λ (l : List Tok). S l a) (same_seen text ts us c d) s

pub inst_again : {A : Type 0} (i : Inst A) → GoodKind i.kind → InstRespelled i
inst_again i good =
    let reported = writes_inst i good (seen (tokens_at (inst_text i) 0 (inst_words i))) (shown (inst_text i) 0 (inst_words i)) in
    let cut = cuts (inst_words i) (fits_kind i.kind good) in
    record { tokens = tokens_at (inst_text i) 0 (inst_words i); cut = cut; again = reported.value; spelled = each_cut InstOf reported.value (inst_text i) (tokens_at (inst_text i) 0 (inst_words i)) cut reported.spelled; same = reported.holds }

pub phi_again : {A : Type 0} (p : Phi A) → GoodPhi p → PhiRespelled p
phi_again p good =
    let reported = writes_phi p good (seen (tokens_at (phi_text p) 0 (phi_words p))) (shown (phi_text p) 0 (phi_words p)) in
    let cut = cuts (phi_words p) (fits_phi p good) in
    record { tokens = tokens_at (phi_text p) 0 (phi_words p); cut = cut; again = reported.value; spelled = each_cut PhiOf reported.value (phi_text p) (tokens_at (phi_text p) 0 (phi_words p)) cut reported.spelled; same_target = reported.holds.0; same_sources = reported.holds.1 }

pub jump_again : (j : Jump) → GoodJump j.kind → JumpRespelled j
jump_again j good =
    let reported = writes_jump j good (seen (tokens_at (jump_text j) 0 (jump_words j))) (shown (jump_text j) 0 (jump_words j)) in
    let cut = cuts (jump_words j) (fits_going j.kind good) in
    record { tokens = tokens_at (jump_text j) 0 (jump_words j); cut = cut; again = reported.value; spelled = each_cut JumpOf reported.value (jump_text j) (tokens_at (jump_text j) 0 (jump_words j)) cut reported.spelled; same = reported.holds }

pub inst_respelled : {A : Type 0} (ts : List Token) (i : Inst A) → All IsShaped ts → InstOf (seen ts) i → InstRespelled i
inst_respelled ts i shaped spelled = inst_again i (yields_inst (seen ts) i (shaped_toks ts shaped) spelled)

pub phi_respelled : {A : Type 0} (ts : List Token) (p : Phi A) → All IsShaped ts → PhiOf (seen ts) p → PhiRespelled p
phi_respelled ts p shaped spelled = phi_again p (yields_phi (seen ts) p (shaped_toks ts shaped) spelled)

pub jump_respelled : (ts : List Token) (j : Jump) → All IsShaped ts → JumpOf (seen ts) j → JumpRespelled j
jump_respelled ts j shaped spelled = jump_again j (yields_jump (seen ts) j (shaped_toks ts shaped) spelled)
