-- Reading definitions one after the other, as a loop does.
use Rattle.std.proofs.Common.{◌≡◌, Bool, true, false, List, [], ◌∷◌, ◌++◌, map, refl, sym, ap, ◌∙◌, append_assoc, append-nil}
use Rattle.std.specs.List.{flat_map}
use Rattle.qil_language.specs.Reading.{Read, got, failed, ◌>>=◌, starts, image}
use Rattle.qil_language.proofs.Loop.{cons_at, unrolled}
use Rattle.qil_tree.specs.declared.tree.Program.{Program}
use Rattle.qil_parser.specs.declared.program_cursor.Defined.{Defined}
use Rattle.qil_parser.specs.declared.cursor_error.CursorError.{CursorError}
use Rattle.qil_parser.specs.declared.cursor_error.CursorError.TheVariants as ends
use Rattle.qil_parser.specs.Token.{Tok, index}
use Rattle.qil_parser.specs.Programs.{program_of, datas_in, funcs_in, definition_in}
use Rattle.qil_parser.specs.DataParsing.{defs, def_line, def_firsts}
use Rattle.qil_parser.specs.Outcome.{Fails, extended}
use Rattle.qil_parser.proofs.DataProductions.{def_line_takes}

-- the definitions that were read before, and those that are still read
abbrev pub extending : {A : Type 0} → Program A → Read Tok (List (Defined A)) → Read Tok (Program A)
extending p o = o >>= λ x. got (extended p (program_of x.0)) x.1

regrouped : {X : Type 0} (xs ys zs : List X) → xs ++ (ys ++ zs) ≡ (xs ++ (ys ++ [])) ++ zs
regrouped xs ys zs = sym (append_assoc xs ys zs) ∙ ap (λ (l : List _). (xs ++ l) ++ zs) (sym (append-nil ys))

one_more : {A : Type 0} (p : Program A) (d : Defined A) (others : List (Defined A)) → extended p (program_of (d ∷ others)) ≡ extended (extended p (program_of (d ∷ []))) (program_of others)
one_more p d others =
    let datas = regrouped p.datas (datas_in d) (flat_map datas_in others) in
    let funcs = regrouped p.funcs (funcs_in d) (flat_map funcs_in others) in
    let order = regrouped p.order (definition_in d ∷ []) (map definition_in others) in
    λ i. record { datas = datas i; funcs = funcs i; order = order i }

none_more : {A : Type 0} (p : Program A) → extended p (program_of []) ≡ p
none_more p =
    let datas = append-nil p.datas in
    let funcs = append-nil p.funcs in
    let order = append-nil p.order in
    λ i. record { datas = datas i; funcs = funcs i; order = order i }

regroup : {A : Type 0} (p : Program A) (d : Defined A) (o : Read Tok (List (Defined A))) → extending p (cons_at d o) ≡ extending (extended p (program_of (d ∷ []))) o
regroup p d (got others rest) = ap (λ (q : Program _). got q rest) (one_more p d others)
regroup p d (failed e rest) = refl

pub defs_begin : {A : Type 0} (ts : List Tok) → extending (program_of []) (defs {A = A} ts) ≡ image program_of defs ts
defs_begin ts = refl

pub defs_continue : {A : Type 0} (p : Program A) (d : Defined A) (ts rest : List Tok) (total : Read Tok (Program A)) → starts index def_firsts ts ≡ true → def_line ts ≡ got d rest → extending p (defs ts) ≡ total → extending (extended p (program_of (d ∷ []))) (defs rest) ≡ total
unfolding defs
defs_continue p d ts rest total h e so_far =
    let one : defs ts ≡ cons_at d (defs rest) = unrolled index def_firsts def_line def_line_takes ts ∙ rw (h, e) refl in
    sym (ap (extending p) one ∙ regroup p d (defs rest)) ∙ so_far

pub defs_fail : {A : Type 0} (p : Program A) (ts : List Tok) (k : Bool) (rest : List Tok) (total : Read Tok (Program A)) → starts index def_firsts ts ≡ true → def_line {A = A} ts ≡ failed k rest → extending p (defs ts) ≡ total → total ≡ failed k rest
unfolding defs
defs_fail p ts k rest total h e so_far =
    let one : defs ts ≡ failed k rest = unrolled index def_firsts def_line def_line_takes ts ∙ rw (h, e) refl in
    sym so_far ∙ ap (extending p) one

pub defs_stop : {A : Type 0} (p : Program A) (ts : List Tok) (total : Read Tok (Program A)) → starts index def_firsts ts ≡ false → extending p (defs ts) ≡ total → total ≡ got p ts
unfolding defs
defs_stop p ts total h so_far =
    let one : defs ts ≡ got [] ts = unrolled index def_firsts def_line def_line_takes ts ∙ rw h refl in
    sym so_far ∙ ap (extending p) one ∙ ap (λ (q : Program _). got q ts) (none_more p)

pub defs_end : {A : Type 0} (e : CursorError) (left : List Tok) (p : Program A) (ts : List Tok) (total : Read Tok (Program A)) → starts index def_firsts ts ≡ true → Fails e left (def_line {A = A} ts) → extending p (defs ts) ≡ total → Fails e left total
defs_end ends.Memory left p ts total h f so_far = tt
defs_end (ends.Refused k) left p ts total h f so_far = defs_fail p ts k left total h f so_far
