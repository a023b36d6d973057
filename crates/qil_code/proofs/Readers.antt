-- What the readers of a code say of a function that is there, and of one that isn't.
use Rattle.std.proofs.Common.{◌≡◌, ◌≤◌, ◌∙◌, refl, sym, ap, subst, arith, length, Bor, ℕ, List, [], Option, Some, None}
use Rattle.std.specs.Prelude.{map, option_map, unwrap_or, slice_get}
use Rattle.std.specs.Option.{option_and_then, option_copied}
use Rattle.std.specs.Prelude.{IfSome}
use Rattle.std.proofs.lemmas.List.{length-map}
use Rattle.std.proofs.lemmas.Option.{slice_get-map, slice_get_within, get_or_from_slice_get}
use Rattle.qil_tree.specs.declared.tree.Func.{Func}
use Rattle.qil_tree.specs.declared.tree.Program.{Program}
use Rattle.qil_symbols.specs.Numbers.{place_of}
use Rattle.qil_semantics.specs.State.{Name}
use Rattle.qil_semantics.specs.Names.{temps_named}
use Rattle.qil_code.specs.declared.numbered.FuncCode.{FuncCode}
use Rattle.qil_code.specs.Facts.{IsNumerable, AreNumerable}
use Rattle.qil_code.specs.Gather.{labels_in}
use Rattle.qil_code.specs.Numbered.{class_of_temp, param_of, block_of, func_of, func_code, func_at, names_of, names_in}
use Rattle.qil_code.specs.Reading.{func_code_at, params_at, returns_at, class_at, labels_at, block_code_at}

not_none : {X : Type 0} {Y : Type 0} (x : X) → None ≡ Some x → Y
not_none x e = absurd (subst (λ o. elim o as (λ _. Type 0) [ None ↦ Unit {0} | Some y ↦ ⊥ ]) e tt)

-- the code is that of the function of a number
pub record IsCoded {A : Type 0} (p : Program A) (i : ℕ) (k : FuncCode A) : Type 0 where
  pub func : Func A
  pub there : func_at p i ≡ Some func
  pub is : k ≡ func_code p func

by_func : {A : Type 0} (p : Program A) (i : ℕ) (k : FuncCode A) (o : Option (Func A)) → func_at p i ≡ o → Some k ≡ option_map (func_code p) o → IsCoded p i k
by_func p i k None e at = not_none k (sym at)
by_func p i k (Some func) e at = record { func = func; there = e; is = ap (λ o. unwrap_or o k) at }

pub coded : {A : Type 0} (p : Program A) (i : ℕ) (k : FuncCode A) → Some k ≡ func_code_at p i → IsCoded p i k
coded p i k at = by_func p i k (func_at p i) refl at

no_func : {A : Type 0} (p : Program A) (o : Option (Func A)) → None ≡ option_map (func_code p) o → o ≡ None
no_func p None at = refl
no_func p (Some func) at = not_none (func_code p func) at

pub uncoded : {A : Type 0} (p : Program A) (i : ℕ) → None ≡ func_code_at p i → func_at p i ≡ None
uncoded p i at = no_func p (func_at p i) at

pub func_at_numerable : {A : Type 0} (p : Program A) (i : ℕ) (func : Func A) → AreNumerable p → func_at p i ≡ Some func → IsNumerable func
func_at_numerable p i func all there = subst IsNumerable (get_or_from_slice_get p.funcs i func func there) (all.each i func (slice_get_within p.funcs i func there))

-- ---- of a function that is there

pub params-there : {A : Type 0} (p : Program A) (i : ℕ) (k : FuncCode A) → IsCoded p i k → k.code.params ≡ params_at p i
unfolding func_code func_of
params-there p i k d =
    ap (λ (c : FuncCode _). c.code.params) d.is
    ∙ sym (ap (λ o. unwrap_or (option_map (λ func. map (param_of (temps_named func)) func.params) o) []) d.there)

pub returns-there : {A : Type 0} (p : Program A) (i : ℕ) (k : FuncCode A) → IsCoded p i k → k.code.returns ≡ returns_at p i
unfolding func_code func_of
returns-there p i k d = ap (λ (c : FuncCode _). c.code.returns) d.is ∙ sym (ap (λ o. option_and_then (λ func. func.returns) o) d.there)

pub classes-there : {A : Type 0} (p : Program A) (i s : ℕ) (k : FuncCode A) → IsCoded p i k → slice_get k.code.classes s ≡ class_at p i s
unfolding func_code func_of
classes-there p i s k d =
    ap (λ (c : FuncCode _). slice_get c.code.classes s) d.is
    ∙ slice_get-map (class_of_temp d.func) (temps_named d.func) s
    ∙ sym (ap (λ o. option_and_then (λ func. option_map (class_of_temp func) (slice_get (temps_named func) s)) o) d.there)

pub temps-there : {A : Type 0} (p : Program A) (i : ℕ) (k : FuncCode A) → IsCoded p i k → k.temps ≡ names_of p i
unfolding func_code names_of
temps-there p i k d = ap (λ (c : FuncCode _). c.temps) d.is ∙ sym (ap (λ o. names_in o) d.there)

pub labels-there : {A : Type 0} (p : Program A) (i : ℕ) (k : FuncCode A) → IsCoded p i k → k.labels ≡ labels_at p i
unfolding func_code
labels-there p i k d = ap (λ (c : FuncCode _). c.labels) d.is ∙ sym (ap (λ o. unwrap_or (option_map (λ func. labels_in func.blocks) o) []) d.there)

pub blocks-there : {A : Type 0} (p : Program A) (i b : ℕ) (k : FuncCode A) → IsCoded p i k → slice_get k.code.blocks b ≡ block_code_at p i b
unfolding func_code func_of
blocks-there p i b k d =
    ap (λ (c : FuncCode _). slice_get c.code.blocks b) d.is
    ∙ slice_get-map (block_of p d.func.blocks (temps_named d.func)) d.func.blocks b
    ∙ sym (ap (λ o. option_and_then (λ func. option_map (block_of p func.blocks (temps_named func)) (slice_get func.blocks b)) o) d.there)

-- ---- of one that isn't

pub no-names : {A : Type 0} (p : Program A) (i : ℕ) → func_at p i ≡ None → names_of p i ≡ []
unfolding names_of
no-names p i e = ap (λ o. names_in o) e

pub no-labels : {A : Type 0} (p : Program A) (i : ℕ) → func_at p i ≡ None → labels_at p i ≡ []
no-labels p i e = ap (λ o. unwrap_or (option_map (λ func. labels_in func.blocks) o) []) e

pub no-place : (ns : List Name) (x : Name) → ns ≡ [] → None ≡ place_of ns x
unfolding place_of
no-place ns x e = ap (λ ms. place_of ms x) (sym e)

-- ---- numbers of 16 bits

few_temps : {A : Type 0} (p : Program A) (i : ℕ) (k : FuncCode A) → AreNumerable p → IsCoded p i k → length k.temps ≤ 65535
unfolding func_code
few_temps p i k all d =
    let one = func_at_numerable p i d.func all d.there in
    let same : length k.temps ≡ length (temps_named d.func) = ap (λ (c : FuncCode _). length c.temps) d.is in
    omega (arith, same, one.few_temps)

few_labels : {A : Type 0} (p : Program A) (i : ℕ) (k : FuncCode A) → AreNumerable p → IsCoded p i k → length k.labels ≤ 65535
unfolding func_code
few_labels p i k all d =
    let one = func_at_numerable p i d.func all d.there in
    let same : length k.labels ≡ length (labels_in d.func.blocks) = ap (λ (c : FuncCode _). length c.labels) d.is in
    omega (arith, same, one.few_blocks, length-map d.func.blocks (λ b. b.label))

pub few-found : {A : Type 0} (p : Program A) (i : ℕ) (r : Option (Bor (FuncCode A))) → AreNumerable p → option_copied r ≡ func_code_at p i
    → IfSome r (λ k. (length k.now.temps ≤ 65535) × (length k.now.labels ≤ 65535))
few-found p i None all at = tt
few-found p i (Some k) all at = let d = coded p i k.now at in (few_temps p i k.now all d, few_labels p i k.now all d)
