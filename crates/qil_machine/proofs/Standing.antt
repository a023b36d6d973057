-- Where a run stands, by numbers and by names.
use Rattle.std.proofs.Common.{◌≡◌, refl, sym, ap, ◌∙◌, subst, ℕ, ◌==◌, ◌≢◌, Bool, true, false, List, [], ◌∷◌, Option, Some, None, arith}
use Rattle.std.specs.Prelude.{slice_get, not, ◌&&◌}
use Rattle.std.specs.Str.{bytes_eq}
use Rattle.std.proofs.lemmas.Bool.Decides.{nat_tests, Decides-eqb}
use Rattle.std.proofs.lemmas.Slice.Eq.{bytes_eq-Decides}
use Rattle.qil_tree.specs.declared.tree.Block.{Block}
use Rattle.qil_tree.specs.declared.tree.Func.{Func}
use Rattle.qil_tree.specs.declared.tree.Program.{Program}
use Rattle.qil_memory.specs.Buffers.{Buffers}
use Rattle.qil_semantics.specs.State as meaning
use Rattle.qil_semantics.specs.State.{Name, is_final}
use Rattle.qil_semantics.specs.Stops.{Place, is_at, innermost_at}
use Rattle.qil_code.specs.Facts.{Finds, NumbersBlocks}
use Rattle.qil_code.specs.Gather.{labels_in}
use Rattle.qil_code.specs.Numbered.{func_at, block_in, block_at}
use Rattle.qil_code.specs.Slots.{number_in}
use Rattle.qil_frames.specs.Frames.{SlotFrame}
use Rattle.qil_state.specs.declared.status.Status.{Status}
use Rattle.qil_state.specs.declared.status.Status.TheVariants.{Running, Done, Exited, Faulted}
use Rattle.qil_state.specs.Faults.{status_of}
use Rattle.qil_state.specs.State.{Whole, whole, state_of, func_name, label_in, head_names, PlaceFits, FrameFits, FramesFit, IsMachine}
use Rattle.qil_state.proofs.Place.{none_some, some_same}
use Rattle.qil_machine.specs.Readings.{stands_at}
use Rattle.qil_machine.proofs.Watching.{same_func}

-- ---- blocks by number, and by label

abbrev place_named : {A : Type 0} → Func A → Block A → ℕ → Place
place_named source target k = record { func = source.name; label = target.label; index = k }

same_block : {A : Type 0} (p : Program A) (i j b : ℕ) (source : Func A) (here target : Block A) (x y : Bool) → NumbersBlocks p → slice_get p.funcs i ≡ Some source → slice_get source.blocks j ≡ Some here
    → slice_get source.blocks b ≡ Some target → bytes_eq here.label target.label ≡ x → (j == b) ≡ y → x ≡ y
same_block p i j b source here target true true numbers ef eh et ex ey = refl
same_block p i j b source here target false false numbers ef eh et ex ey = refl
same_block p i j b source here target true false numbers ef eh et ex ey =
    let label : here.label ≡ target.label = (bytes_eq-Decides here.label target.label).0 ex in
    let same : j ≡ b = sym (numbers.number i source j here ef eh) ∙ ap (number_in (labels_in source.blocks)) label ∙ numbers.number i source b target ef et in
    absurd (grind (arith, nat_tests, same, ey))
same_block {A} p i j b source here target false true numbers ef eh et ex ey =
    let same : j ≡ b = (Decides-eqb j b).0 ey in
    let label : here.label ≡ target.label = ap (λ (c : Block A). c.label) (some_same here target (sym eh ∙ ap (slice_get source.blocks) same ∙ et)) in
    sym ex ∙ (bytes_eq-Decides here.label target.label).1 label

block_there : {A : Type 0} (o : Option (Block A)) (k : ℕ) → PlaceFits o k → (b : Block A) × (o ≡ Some b)
block_there None k fits = absurd fits
block_there (Some b) k fits = (b, refl)

both_tests : (a b c d : Bool) → a ≡ b → (b ≡ true → c ≡ d) → (a && c) ≡ (b && d)
both_tests true true c d e h = h refl
both_tests false false c d e h = refl
both_tests true false c d e h = absurd cc
both_tests false true c d e h = absurd cc

-- in the function of the frame
label_test : {A : Type 0} (p : Program A) (f : SlotFrame) (i b : ℕ) (source : Func A) (target : Block A) → NumbersBlocks p → FrameFits p f → func_at p i ≡ Some source → block_at p i b ≡ Some target → f.func ≡ i
    → bytes_eq (label_in (block_at p f.func f.block)) target.label ≡ (f.block == b)
label_test {A} p f i b source target numbers fits ef et same =
    let there = block_there (block_at p f.func f.block) f.index fits.place in
    let in_source : slice_get source.blocks f.block ≡ Some there.0 = ap (λ (o : Option (Func A)). block_in o f.block) (sym ef) ∙ ap (λ j. block_at p j f.block) (sym same) ∙ there.1 in
    let target_in : slice_get source.blocks b ≡ Some target = ap (λ (o : Option (Func A)). block_in o b) (sym ef) ∙ et in
    ap (λ (o : Option (Block A)). bytes_eq (label_in o) target.label) there.1
    ∙ same_block p i f.block b source there.0 target (bytes_eq there.0.label target.label) (f.block == b) numbers ef in_source target_in refl refl

place_test : {A : Type 0} (p : Program A) (f : SlotFrame) (i b k : ℕ) (source : Func A) (target : Block A) → Finds p → NumbersBlocks p → FrameFits p f → func_at p i ≡ Some source → block_at p i b ≡ Some target
    → (bytes_eq (func_name (func_at p f.func)) source.name && (bytes_eq (label_in (block_at p f.func f.block)) target.label && f.index == k)) ≡ ((f.func == i) && ((f.block == b) && f.index == k))
place_test p f i b k source target finds numbers fits ef et =
    both_tests _ (f.func == i) _ ((f.block == b) && f.index == k) (same_func p i source f finds ef fits)
    (λ same. ap (λ x. x && f.index == k) (label_test p f i b source target numbers fits ef et ((Decides-eqb f.func i).0 same)))

-- ---- of a machine

at_parts : {A : Type 0} (p : Program A) (fs : List SlotFrame) (m : Buffers) (out : List ℕ) (st : Status) (f : SlotFrame) (i b k : ℕ) (source : Func A) (target : Block A) → FramesFit p fs → st ≡ Running → slice_get fs 0 ≡ Some f
    → Finds p → NumbersBlocks p → func_at p i ≡ Some source → block_at p i b ≡ Some target → stands_at i b k f ≡ is_at (place_named source target k) (state_of (whole p fs m out st))
at_parts p [] m out st f i b k source target fits on first finds numbers ef et = none_some first
at_parts {A} p (g ∷ fs) m out st f i b k source target fits on first finds numbers ef et =
    let same : g ≡ f = some_same g f first in
    ap (stands_at i b k) (sym same) ∙ sym (place_test p g i b k source target finds numbers fits.0 ef et)
    ∙ sym (ap (λ (s : Status). is_at (place_named source target k) (state_of (whole p (g ∷ fs) m out s))) on)

pub is_standing : {A : Type 0} (m now : Whole A) (q : Program A) (f : SlotFrame) (i b k : ℕ) (source : Func A) (target : Block A) (r : Bool) → m ≡ now → IsMachine m → q ≡ m.program → m.status ≡ Running → slice_get m.frames 0 ≡ Some f
    → Finds q → NumbersBlocks q → r ≡ stands_at i b k f → func_at now.program i ≡ Some source → block_at now.program i b ≡ Some target → r ≡ is_at (place_named source target k) (state_of now)
is_standing {A} m now q f i b k source target r same ok program on first finds numbers is ef et =
    is ∙ at_parts m.program m.frames m.memory m.output m.status f i b k source target ok.frames on first (subst Finds program finds) (subst NumbersBlocks program numbers)
    (ap (λ (w : Whole A). func_at w.program i) same ∙ ef) (ap (λ (w : Whole A). block_at w.program i b) same ∙ et)
    ∙ ap (λ (w : Whole A). is_at (place_named source target k) (state_of w)) same

-- where the run is over it stands nowhere
over_test : (ns : List Name) (st : Status) (place : Place) (frames : List meaning.Frame) → st ≢ Running → is_final (status_of ns st) ≡ true
over_test ns Running place frames other = absurd (other refl)
over_test ns (Done v) place frames other = refl
over_test ns (Exited w) place frames other = refl
over_test ns (Faulted f) place frames other = refl

pub stands_nowhere : {A : Type 0} (m now : Whole A) (place : Place) → m ≡ now → m.status ≢ Running → false ≡ is_at place (state_of now)
stands_nowhere {A} m now place same other =
    sym (ap (λ x. not x && innermost_at place (state_of m).frames) (over_test (head_names m.program m.frames) m.status place (state_of m).frames other)) ∙ ap (λ (w : Whole A). is_at place (state_of w)) same

-- no frame is in a block that the program lacks
lacks : {A : Type 0} (p : Program A) (f : SlotFrame) (i b k : ℕ) (x y : Bool) → FrameFits p f → block_at p i b ≡ None → (f.func == i) ≡ x → (f.block == b) ≡ y → (x && (y && f.index == k)) ≡ false
lacks p f i b k false y fits none ex ey = refl
lacks p f i b k true false fits none ex ey = refl
lacks p f i b k true true fits none ex ey =
    let func : f.func ≡ i = (Decides-eqb f.func i).0 ex in
    let block : f.block ≡ b = (Decides-eqb f.block b).0 ey in
    let there = block_there (block_at p f.func f.block) f.index fits.place in
    none_some (sym none ∙ ap (λ j. block_at p j b) (sym func) ∙ ap (block_at p f.func) (sym block) ∙ there.1)

lacks_first : {A : Type 0} (p : Program A) (fs : List SlotFrame) (f : SlotFrame) (i b k : ℕ) → FramesFit p fs → slice_get fs 0 ≡ Some f → block_at p i b ≡ None → stands_at i b k f ≡ false
lacks_first p [] f i b k fits first none = none_some first
lacks_first p (g ∷ fs) f i b k fits first none =
    let same : g ≡ f = some_same g f first in
    ap (stands_at i b k) (sym same) ∙ lacks p g i b k (g.func == i) (g.block == b) fits.0 none refl refl

pub lacks_place : {A : Type 0} (m now : Whole A) (f : SlotFrame) (i b k : ℕ) (r : Bool) → m ≡ now → IsMachine m → slice_get m.frames 0 ≡ Some f → r ≡ stands_at i b k f → block_at now.program i b ≡ None → r ≡ false
lacks_place {A} m now f i b k r same ok first is none = is ∙ lacks_first m.program m.frames f i b k ok.frames first (ap (λ (w : Whole A). block_at w.program i b) same ∙ none)
