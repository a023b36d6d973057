-- The shadow's step beside the one of a state: what the code does at a place is by names what the definition says.
use Rattle.std.proofs.Common.{◌≡◌, ◌∙◌, sym, ap, subst, refl, ℕ, ◌+◌, ◌-◌, ◌^◌, ◌<◌, ◌≤◌, min, arith, Bool, false, List, [], ◌∷◌, ◌++◌, length, map, Option, Some, None, option_map, unwrap_or, Ok, Err}
use Rattle.std.specs.Prelude.{slice_get, flat_map}
use Rattle.std.specs.List.{AllByRecursion}
use Rattle.std.specs.Option.{option_and_then}
use Rattle.std.proofs.lemmas.List.{append-nil}
use Rattle.std.proofs.lemmas.Option.{slice_get-map}
use Rattle.qil_tree.specs.declared.tree.Inst.{Inst}
use Rattle.qil_tree.specs.declared.tree.InstKind.{InstKind}
use Rattle.qil_tree.specs.declared.tree.Block.{Block}
use Rattle.qil_tree.specs.declared.tree.Func.{Func}
use Rattle.qil_tree.specs.declared.tree.Program.{Program}
use Rattle.qil_memory.specs.qil_rules.Operands.{inst_reads, inst_target}
use Rattle.qil_memory.specs.qil_layout.Layout.{bytes_of}
use Rattle.qil_layout.proofs.BytesLemmas.{few_bytes}
use Rattle.qil_semantics.specs.State.{Frame, State, Fault, is_final}
use Rattle.qil_semantics.specs.Stops as stops
use Rattle.qil_semantics.specs.Values.{Outcome, vals}
use Rattle.qil_semantics.specs.Step as step
use Rattle.qil_semantics.specs.Step.{act, settled, step_of}
use Rattle.qil_code.specs.declared.numbered.NumberedInst.{NumberedInst}
use Rattle.qil_code.specs.declared.numbered.NumberedJump.{NumberedJump}
use Rattle.qil_code.specs.declared.numbered.NumberedBlock.{NumberedBlock}
use Rattle.qil_code.specs.Facts as facts
use Rattle.qil_code.specs.Facts.{KnowsLabels}
use Rattle.qil_code.specs.Numbered.{func_at, block_at, names_of, kind_of, inst_of, jump_of, block_of}
use Rattle.qil_code.specs.Reading.{block_code_at}
use Rattle.qil_semantics.specs.Names.{temps_named}
use Rattle.qil_shadow.specs.declared.suspicion.Place.{Place}
use Rattle.qil_shadow.specs.declared.suspicion.Suspicion.{Suspicion}
use Rattle.qil_shadow.specs.declared.shadow.Shadow.{Shadow}
use Rattle.qil_shadow.specs.Shadow as by_names
use Rattle.qil_shadow.specs.Shadow.{Origins}
use Rattle.qil_shadow.specs.Next.{Next, inst, jump}
use Rattle.qil_shadow.specs.Shadowed.{acts, acts_on, does, leaves, shadowed_in, one_later, shadowed}
use Rattle.qil_shadow.specs.Accesses.{accesses_on, accesses_by}
use Rattle.qil_shadow.specs.Suspicions.{suspicion, doubted, suspicions_of}
use Rattle.qil_shadow.specs.Stack.{CallShadow, callers_of}
use Rattle.qil_shadow.specs.Numbered.{function_name, frames_by, shadow_by}
use Rattle.qil_shadow.specs.Doubts.{label_name, place_named, suspicion_named, StandsFor}
use Rattle.qil_shadow.specs.Starting.{IsOf}
use Rattle.qil_shadow.specs.Reads.{innermost, HasSlots}
use Rattle.qil_shadow.specs.Kept.{KeepsButCalls}
use Rattle.qil_shadow.specs.Instructions.{named, AreCalls, IsAt, IsTarget, IsInst, IsSound, HasDone, running_then}
use Rattle.qil_shadow.specs.Shapes.{CallShape, shapes_of, shapes_behind, top_behind, LiesBehind, HasLeft}
use Rattle.qil_shadow.specs.Jumps.{IsJump, GoesOn, left_running, shapes_left, top_left, LiesAfter}
use Rattle.qil_shadow.specs.Steps.{number_of, numbers_of, AreBeside, StandsBeside, shadow_of, IsAtPlace, IsReady, Finds, Follows, HasFollowed}
use Rattle.qil_shadow.proofs.ParamLemmas.{names_here, mapped_from}
use Rattle.qil_shadow.proofs.PassLemmas.{first_frames, no_item}
use Rattle.qil_shadow.proofs.ValueLemmas.{bound}
use Rattle.qil_shadow.proofs.SoundLemmas.{settled_on, sound}
use Rattle.qil_shadow.proofs.StepLemmas.{frame_number, step_there, next_there, suspicions_there, calls_beside, many_beside, LiesThen, acted}
use Rattle.qil_shadow.proofs.LeaveLemmas.{LiesLeft, left_then, goes_there}
use Rattle.qil_shadow.proofs.StateLemmas.{block_there, Reads, reads_there, inst_there, is_unset, jump_there}

-- ---- what a state that is ready gives

slots_beside : {A : Type 0} (p : Program A) (i : ℕ) (f : Frame) (gs : List Frame) (cs : List CallShadow) → number_of p f ≡ i → AreBeside p (f ∷ gs) (shapes_of cs) → HasSlots p i cs
slots_beside p i f gs [] number b = absurd b
slots_beside p i f gs (c ∷ cs) number b = ap (λ n. length (names_of p n)) (sym number) ∙ b.0.slots

record Given {A : Type 0} (p : Program A) (s : State) (f : Frame) (gs : List Frame) (place : Place) (sh : Shadow A) : Type 0 where
  number : number_of p f ≡ place.func.index
  frames : AreBeside p (f ∷ gs) (shapes_of sh.calls.calls)
  at : IsAt p place sh
  calls : AreCalls p (place.func.index ∷ numbers_of p gs) sh.calls.calls
  stands : StandsFor p s (named p (place.func.index ∷ numbers_of p gs) sh) f sh.calls.objects.objects sh.calls.top sh.position place
  deep : length sh.calls.calls ≡ length (f ∷ gs)
  few : length (bytes_of p) ≤ 2 ^ 20
  same : shadow_of p s sh ≡ named p (place.func.index ∷ numbers_of p gs) sh
  origins : frames_by p (place.func.index ∷ numbers_of p gs) sh.calls.calls ≡ innermost p place.func.index sh.calls.calls ∷ frames_by p (numbers_of p gs) (callers_of sh.calls.calls)

given_by : {A : Type 0} (p : Program A) (s : State) (f : Frame) (gs : List Frame) (place : Place) (slots : List (Option ℕ)) (sh : Shadow A) → facts.Finds p → IsReady p s f gs place slots sh → Given p s f gs place sh
given_by {A} p s f gs place slots sh finds r =
    let i = place.func.index in
    let number = frame_number p place slots f finds r.at in
    let frames : AreBeside p (f ∷ gs) (shapes_of sh.calls.calls) = subst (λ fs. AreBeside p fs (shapes_of sh.calls.calls)) r.frames_are r.beside.calls in
    let has = slots_beside p i f gs sh.calls.calls number frames in
    let func : f.func ≡ function_name (func_at p i) = r.at.name_is ∙ ap (λ (o : Option (Func A)). function_name o) (sym r.at.func_is) in
    let label : f.label ≡ label_name (block_at p i place.block.index) = r.at.label_is ∙ ap (λ (o : Option (Block A)). label_name o) (sym (block_there p place slots f r.at)) in
    let index = r.at.index_is in
    record {
      number = number;
      frames = frames;
      at = record { own = r.beside.own; slots = has };
      calls = subst (λ n. AreCalls p (n ∷ numbers_of p gs) sh.calls.calls) number (calls_beside p (f ∷ gs) sh.calls.calls frames);
      stands = record { objects_are = refl; position_is = refl; place_is = λ j. record { func = func j; label = label j; index = index j }; top_is = r.beside.top };
      deep = many_beside p (f ∷ gs) sh.calls.calls frames;
      few = few_bytes p r.beside.own.starts_are.no_fault;
      same = ap (λ ns. named p ns sh) (ap (numbers_of p) r.frames_are ∙ ap (λ n. n ∷ numbers_of p gs) number);
      origins = first_frames p i (numbers_of p gs) sh.calls.calls has;
    }

own_then : {A : Type 0} (p : Program A) (was now : Shadow A) → now.names ≡ was.names → now.data_end ≡ was.data_end → now.calls.objects.starts ≡ was.calls.objects.starts → IsOf p was.names was.calls.objects.starts was.data_end
    → IsOf p now.names now.calls.objects.starts now.data_end
own_then p was now names end starts own = subst (λ e. IsOf p now.names now.calls.objects.starts e) (sym end) (subst (λ xs. IsOf p now.names xs was.data_end) (sym starts) (subst (λ q. IsOf p q was.calls.objects.starts was.data_end) (sym names) own))

-- ---- behind an instruction

pub inst_follows : {A : Type 0} (p : Program A) (s : State) (f : Frame) (gs : List Frame) (place : Place) (slots : List (Option ℕ)) (was now : Shadow A) (n : NumberedInst A) (x : Inst A) → facts.Finds p → (r : IsReady p s f gs place slots was)
    → slice_get r.at.block.insts place.index ≡ Some x → n ≡ kind_of p (names_of p place.func.index) x.kind → HasDone p place slots n was now → HasLeft p place slots n was now → is_final (step_of p s).status ≡ false → Follows p s was now
inst_follows {A} p s f gs place slots was now n x finds r here form done left goes_on =
    let i = place.func.index in
    let fs = numbers_of p gs in
    let cs = was.calls.calls in
    let t = innermost p i cs in
    let ts = frames_by p fs (callers_of cs) in
    let kind = x.kind in
    let g = given_by p s f gs place slots was finds r in
    let steps : step_of p s ≡ settled s (step.does p s f gs r.at.func (Some x) r.at.block.jump) = step_there p s f gs place slots r.at (Some x) finds r.frames_are here in
    let ok = settled_on s (step.does p s f gs r.at.func (Some x) r.at.block.jump) (ap (λ (u : State). is_final u.status) (sym steps) ∙ goes_on) in
    let is_next : step_of p s ≡ ok.0 = steps ∙ ap (settled s) ok.1 in
    let running : is_final ok.0.status ≡ false = ap (λ (u : State). is_final u.status) (sym is_next) ∙ goes_on in
    let b = bound (vals p f.temps (inst_reads kind)) (act p s f gs kind) ok.0 ok.1 in
    let vs = b.0 in
    let reads = reads_there p place slots f r.at x r.ruled here in
    let is : IsInst p place slots n kind vs = inst_there p place slots f r.at n kind vs reads form b.1 in
    let even : IsSound p s (length cs) kind vs = subst (λ m. IsSound p s m kind vs) (sym g.deep) (sound p s f gs kind vs ok.0 r.room g.few b.2) in
    let made = done.shadow_is kind vs s f fs is g.at g.calls g.stands even in
    let lies = left.lies kind vs s is g.at r.beside.top even in
    let then = acted p s f gs kind vs (shapes_of cs) ok.0 finds b.2 running (subst (λ m. IsTarget (names_of p m) (inst_target kind)) (sym g.number) reads.target) g.frames in
    let numbers : numbers_of p ok.0.frames ≡ running_then p (i ∷ fs) kind vs = then.numbers ∙ ap (λ m. running_then p (m ∷ fs) kind vs) g.number in
    let comes = next_there p f place slots r.at (Some x) finds here in
    let base : acts p s f (named p (i ∷ fs) was) t ts kind vs ≡ shadowed_in p s (named p (i ∷ fs) was) (f ∷ gs) (t ∷ ts) =
    ap (λ o. acts_on p s f (named p (i ∷ fs) was) t ts kind o) (sym b.1) ∙ ap (λ (q : Next A). does p s f (named p (i ∷ fs) was) t ts q) (sym comes) in
    let origins_are : shadowed_in p s (named p (i ∷ fs) was) (f ∷ gs) (t ∷ ts) ≡ shadowed_in p s (shadow_of p s was) s.frames (shadow_of p s was).frames =
    (λ j. shadowed_in p s (named p (i ∷ fs) was) (sym r.frames_are j) (sym g.origins j)) ∙ (λ j. shadowed_in p s (sym g.same j) s.frames (sym g.same j).frames) in
    let shapes : shapes_behind p (number_of p f) kind vs s.top (shapes_of cs) ≡ shapes_of now.calls.calls =
    (λ j. shapes_behind p (g.number j) kind vs (sym r.beside.top j) (shapes_of cs)) ∙ sym lies.shapes_are in
    record {
      shadow_is = (λ j. named p (numbers_of p (is_next j).frames) now) ∙ ap (λ ns. named p ns now) numbers ∙ made ∙ base ∙ origins_are;
      beside = subst (λ u. StandsBeside p u now) (sym is_next) (record {
        own = own_then p was now left.own.names_are left.own.end_is lies.starts_are r.beside.own;
        calls = subst (AreBeside p ok.0.frames) shapes then.calls;
        top = lies.top_is ∙ ap (top_behind kind vs) r.beside.top ∙ sym then.top;
        none = left.own.roles_are ∙ r.beside.none;
      });
      position_is = left.own.position_is;
    }

-- what is found
found_on : {A : Type 0} (p : Program A) (s : State) (f : Frame) (gs : List Frame) (place : Place) (slots : List (Option ℕ)) (was now : Shadow A) (n : NumberedInst A) (kind : InstKind A) (o : Outcome (List ℕ)) → (r : IsReady p s f gs place slots was)
    → Given p s f gs place was → Reads p place kind → n ≡ kind_of p (names_of p place.func.index) kind → HasDone p place slots n was now → HasLeft p place slots n was now → vals p f.temps (inst_reads kind) ≡ o
    → map (suspicion_named p) now.found.items
    ≡ map (suspicion_named p) was.found.items
    ++ flat_map (λ a. suspicion p s (named p (place.func.index ∷ numbers_of p gs) was) f a (doubted (named p (place.func.index ∷ numbers_of p gs) was).objects a a.origin)) (accesses_on p s (innermost p place.func.index was.calls.calls) kind o)
found_on p s f gs place slots was now n kind (Ok vs) r g reads form done left e =
    done.found_is kind vs s (named p (place.func.index ∷ numbers_of p gs) was) f (inst_there p place slots f r.at n kind vs reads form e) g.at g.stands
found_on p s f gs place slots was now n kind (Err why) r g reads form done left e =
    ap (map (suspicion_named p)) (left.unset (is_unset p (names_of p place.func.index) slots kind n why form reads.known ((λ j. vals p (sym r.at.temps_are j) (inst_reads kind)) ∙ e)))
    ∙ sym (append-nil (map (suspicion_named p) was.found.items))

finds_by : {A : Type 0} (p : Program A) (s : State) (f : Frame) (gs : List Frame) (place : Place) (was now : Shadow A) (n : Next A) → Given p s f gs place was → s.frames ≡ f ∷ gs
    → suspicions_of p s (named p (place.func.index ∷ numbers_of p gs) was)
    ≡ flat_map (λ a. suspicion p s (named p (place.func.index ∷ numbers_of p gs) was) f a (doubted (named p (place.func.index ∷ numbers_of p gs) was).objects a a.origin)) (accesses_by p s f (innermost p place.func.index was.calls.calls) n)
    → map (suspicion_named p) now.found.items
    ≡ map (suspicion_named p) was.found.items
    ++ flat_map (λ a. suspicion p s (named p (place.func.index ∷ numbers_of p gs) was) f a (doubted (named p (place.func.index ∷ numbers_of p gs) was).objects a a.origin)) (accesses_by p s f (innermost p place.func.index was.calls.calls) n)
    → Finds p s was now
finds_by p s f gs place was now n g frames there noted =
    noted ∙ ap (λ xs. map (suspicion_named p) was.found.items ++ xs) (sym there) ∙ (λ j. map (suspicion_named p) was.found.items ++ suspicions_of p s (sym g.same j))

pub inst_finds : {A : Type 0} (p : Program A) (s : State) (f : Frame) (gs : List Frame) (place : Place) (slots : List (Option ℕ)) (was now : Shadow A) (n : NumberedInst A) (x : Inst A) → facts.Finds p → (r : IsReady p s f gs place slots was)
    → slice_get r.at.block.insts place.index ≡ Some x → n ≡ kind_of p (names_of p place.func.index) x.kind → HasDone p place slots n was now → HasLeft p place slots n was now → Finds p s was now
inst_finds {A} p s f gs place slots was now n x finds r here form done left =
    let i = place.func.index in
    let fs = numbers_of p gs in
    let g = given_by p s f gs place slots was finds r in
    let t = innermost p i was.calls.calls in
    let ts = frames_by p fs (callers_of was.calls.calls) in
    finds_by p s f gs place was now (inst x.kind) g r.frames_are
    (suspicions_there p s (named p (i ∷ fs) was) f gs t ts (inst x.kind) r.frames_are g.origins (next_there p f place slots r.at (Some x) finds here))
    (found_on p s f gs place slots was now n x.kind (vals p f.temps (inst_reads x.kind)) r g (reads_there p place slots f r.at x r.ruled here) form done left refl)

-- ---- behind a jump

pub jump_finds : {A : Type 0} (p : Program A) (s : State) (f : Frame) (gs : List Frame) (place : Place) (slots : List (Option ℕ)) (was now : Shadow A) → facts.Finds p → (r : IsReady p s f gs place slots was)
    → slice_get r.at.block.insts place.index ≡ None → now.found.items ≡ was.found.items → Finds p s was now
jump_finds {A} p s f gs place slots was now finds r here found =
    let i = place.func.index in
    let fs = numbers_of p gs in
    let g = given_by p s f gs place slots was finds r in
    let t = innermost p i was.calls.calls in
    let ts = frames_by p fs (callers_of was.calls.calls) in
    finds_by p s f gs place was now (jump r.at.func r.at.block.jump.kind) g r.frames_are
    (suspicions_there p s (named p (i ∷ fs) was) f gs t ts (jump r.at.func r.at.block.jump.kind) r.frames_are g.origins (next_there p f place slots r.at None finds here))
    (ap (map (suspicion_named p)) found ∙ sym (append-nil (map (suspicion_named p) was.found.items)))

-- what `leave` says
abbrev pub Leaves : {A : Type 0} → Program A → Place → List (Option ℕ) → NumberedJump A → Shadow A → Shadow A → Type 0
Leaves {A} p place slots j was now = (f : Frame) (fs : List ℕ) (func : Func A) (left : Block A) → IsJump p place j func left → f.label ≡ left.label → IsAt p place was → was.heap.roles.items ≡ []
    → GoesOn p place.func.index slots f fs was.calls.calls left.jump.kind
    → named p (left_running place.func.index fs left.jump.kind) now
    ≡ leaves p f (named p (place.func.index ∷ fs) was) (innermost p place.func.index was.calls.calls) (frames_by p fs (callers_of was.calls.calls)) func left.jump.kind

abbrev pub LiesSo : {A : Type 0} → Program A → Place → List (Option ℕ) → NumberedJump A → Shadow A → Shadow A → Type 0
LiesSo {A} p place slots j was now = (f : Frame) (fs : List ℕ) (func : Func A) (left : Block A) → IsJump p place j func left → IsAt p place was → was.heap.roles.items ≡ []
    → GoesOn p place.func.index slots f fs was.calls.calls left.jump.kind → LiesAfter left.jump.kind was.calls now.calls

pub jump_follows : {A : Type 0} (p : Program A) (s : State) (f : Frame) (gs : List Frame) (place : Place) (slots : List (Option ℕ)) (was now : Shadow A) (n : NumberedJump A) → facts.Finds p → KnowsLabels p → (r : IsReady p s f gs place slots was)
    → slice_get r.at.block.insts place.index ≡ None → n ≡ jump_of p r.at.func.blocks (names_of p place.func.index) r.at.block.label r.at.block.jump.kind → Leaves p place slots n was now → LiesSo p place slots n was now → KeepsButCalls was now
    → is_final (step_of p s).status ≡ false → Follows p s was now
jump_follows {A} p s f gs place slots was now n finds knows r here form leaves_by lies_by keeps goes_on =
    let i = place.func.index in
    let fs = numbers_of p gs in
    let cs = was.calls.calls in
    let t = innermost p i cs in
    let ts = frames_by p fs (callers_of cs) in
    let kind = r.at.block.jump.kind in
    let g = given_by p s f gs place slots was finds r in
    let steps : step_of p s ≡ settled s (step.does p s f gs r.at.func None r.at.block.jump) = step_there p s f gs place slots r.at None finds r.frames_are here in
    let ok = settled_on s (step.does p s f gs r.at.func None r.at.block.jump) (ap (λ (u : State). is_final u.status) (sym steps) ∙ goes_on) in
    let is_next : step_of p s ≡ ok.0 = steps ∙ ap (settled s) ok.1 in
    let running : is_final ok.0.status ≡ false = ap (λ (u : State). is_final u.status) (sym is_next) ∙ goes_on in
    let is = jump_there p place slots f r.at n r.ruled knows here form in
    let by : GoesOn p i slots f fs cs kind = goes_there p i slots s f gs r.at.func kind cs ok.0 ok.1 running g.number r.at.temps_are is.known g.frames in
    let made = leaves_by f fs r.at.func r.at.block is r.at.label_is g.at r.beside.none by in
    let lies = lies_by f fs r.at.func r.at.block is g.at r.beside.none by in
    let then = left_then p s f gs r.at.func kind (shapes_of cs) ok.0 r.frames_are ok.1 running g.frames in
    let numbers : numbers_of p ok.0.frames ≡ left_running i fs kind = then.numbers ∙ ap (λ m. left_running m fs kind) g.number in
    let comes = next_there p f place slots r.at None finds here in
    let base : leaves p f (named p (i ∷ fs) was) t ts r.at.func kind ≡ shadowed_in p s (named p (i ∷ fs) was) (f ∷ gs) (t ∷ ts) = ap (λ (q : Next A). does p s f (named p (i ∷ fs) was) t ts q) (sym comes) in
    let origins_are : shadowed_in p s (named p (i ∷ fs) was) (f ∷ gs) (t ∷ ts) ≡ shadowed_in p s (shadow_of p s was) s.frames (shadow_of p s was).frames =
    (λ j. shadowed_in p s (named p (i ∷ fs) was) (sym r.frames_are j) (sym g.origins j)) ∙ (λ j. shadowed_in p s (sym g.same j) s.frames (sym g.same j).frames) in
    record {
      shadow_is = (λ j. named p (numbers_of p (is_next j).frames) now) ∙ ap (λ ns. named p ns now) numbers ∙ made ∙ base ∙ origins_are;
      beside = subst (λ u. StandsBeside p u now) (sym is_next) (record {
        own = own_then p was now keeps.names_are keeps.end_is lies.starts_are r.beside.own;
        calls = subst (AreBeside p ok.0.frames) (sym lies.shapes_are) then.calls;
        top = lies.top_is ∙ ap (λ u. top_left kind u (shapes_of cs)) r.beside.top ∙ sym then.top;
        none = keeps.roles_are ∙ r.beside.none;
      });
      position_is = keeps.position_is;
    }

-- ---- as the code reads its block

code_there : {A : Type 0} (p : Program A) (s : State) (f : Frame) (gs : List Frame) (place : Place) (slots : List (Option ℕ)) (was : Shadow A) (r : IsReady p s f gs place slots was) (code : NumberedBlock A)
    → Some code ≡ block_code_at p place.func.index place.block.index → code ≡ block_of p r.at.func.blocks (names_of p place.func.index) r.at.block
code_there {A} p s f gs place slots was r code is =
    let there : Some code ≡ Some (block_of p r.at.func.blocks (temps_named r.at.func) r.at.block) =
    is
    ∙ ap (λ (o : Option (Func A)). option_and_then (λ func. option_map (block_of p func.blocks (temps_named func)) (slice_get func.blocks place.block.index)) o) r.at.func_is
    ∙ ap (λ (o : Option (Block A)). option_map (block_of p r.at.func.blocks (temps_named r.at.func)) o) r.at.block_is in
    ap (λ o. unwrap_or o code) there ∙ ap (λ ns. block_of p r.at.func.blocks ns r.at.block) (sym (names_here p place.func.index r.at.func r.at.func_is))

pub record HasInstThere {A : Type 0} (p : Program A) (s : State) (f : Frame) (gs : List Frame) (place : Place) (slots : List (Option ℕ)) (was : Shadow A) (r : IsReady p s f gs place slots was) (n : NumberedInst A) : Type 0 where
  pub source : Inst A
  pub here : slice_get r.at.block.insts place.index ≡ Some source
  pub form : n ≡ kind_of p (names_of p place.func.index) source.kind

pub inst_code : {A : Type 0} (p : Program A) (s : State) (f : Frame) (gs : List Frame) (place : Place) (slots : List (Option ℕ)) (was : Shadow A) (r : IsReady p s f gs place slots was) (code : NumberedBlock A) (n : NumberedInst A)
    → Some code ≡ block_code_at p place.func.index place.block.index → slice_get code.insts place.index ≡ Some n → HasInstThere p s f gs place slots was r n
inst_code {A} p s f gs place slots was r code n is at =
    let ns = names_of p place.func.index in
    let c = code_there p s f gs place slots was r code is in
    let found = mapped_from (inst_of p ns) r.at.block.insts place.index n (slice_get r.at.block.insts place.index) refl
    (sym (slice_get-map (inst_of p ns) r.at.block.insts place.index) ∙ ap (λ (b : NumberedBlock A). slice_get b.insts place.index) (sym c) ∙ at) in
    record { source = found.0; here = found.1; form = sym found.2 }

pub end_code : {A : Type 0} (p : Program A) (s : State) (f : Frame) (gs : List Frame) (place : Place) (slots : List (Option ℕ)) (was : Shadow A) (r : IsReady p s f gs place slots was) (code : NumberedBlock A)
    → Some code ≡ block_code_at p place.func.index place.block.index → slice_get code.insts place.index ≡ None → slice_get r.at.block.insts place.index ≡ None
end_code {A} p s f gs place slots was r code is at =
    let ns = names_of p place.func.index in
    let c = code_there p s f gs place slots was r code is in
    no_item (inst_of p ns) (slice_get r.at.block.insts place.index) (sym (slice_get-map (inst_of p ns) r.at.block.insts place.index) ∙ ap (λ (b : NumberedBlock A). slice_get b.insts place.index) (sym c) ∙ at)

pub jump_code : {A : Type 0} (p : Program A) (s : State) (f : Frame) (gs : List Frame) (place : Place) (slots : List (Option ℕ)) (was : Shadow A) (r : IsReady p s f gs place slots was) (code : NumberedBlock A)
    → Some code ≡ block_code_at p place.func.index place.block.index → code.jump ≡ jump_of p r.at.func.blocks (names_of p place.func.index) r.at.block.label r.at.block.jump.kind
jump_code {A} p s f gs place slots was r code is = ap (λ (b : NumberedBlock A). b.jump) (code_there p s f gs place slots was r code is)

-- without a block there is no such state
pub no_code : {A : Type 0} (p : Program A) (s : State) (f : Frame) (gs : List Frame) (place : Place) (slots : List (Option ℕ)) (was : Shadow A) (X : Type 0) → IsReady p s f gs place slots was → None ≡ block_code_at p place.func.index place.block.index → X
no_code {A} p s f gs place slots was X r is =
    let there : None ≡ Some (block_of p r.at.func.blocks (temps_named r.at.func) r.at.block) =
    is
    ∙ ap (λ (o : Option (Func A)). option_and_then (λ func. option_map (block_of p func.blocks (temps_named func)) (slice_get func.blocks place.block.index)) o) r.at.func_is
    ∙ ap (λ (o : Option (Block A)). option_map (block_of p r.at.func.blocks (temps_named r.at.func)) o) r.at.block_is in
    absurd (let e = there in cc)

-- ---- one move later

one_move : {A : Type 0} (p : Program A) (s : State) (was mid now : Shadow A) → Follows p s was mid → now.calls ≡ mid.calls → now.memory ≡ mid.memory → now.position ≡ mid.position + 1 → shadow_of p (step_of p s) now ≡ shadowed p s (shadow_of p s was)
unfolding shadowed
one_move p s was mid now k calls memory position =
    (λ j. shadow_by p (numbers_of p (step_of p s).frames) (calls j).calls (memory j) (calls j).objects.objects (position j)) ∙ ap one_later k.shadow_is

pub moved_on : {A : Type 0} (p : Program A) (s : State) (was mid now : Shadow A) → Follows p s was mid → now.calls ≡ mid.calls → now.memory ≡ mid.memory → now.names ≡ mid.names → now.data_end ≡ mid.data_end → now.heap.roles.items ≡ mid.heap.roles.items
    → now.position ≡ was.position + 1 → HasFollowed p s was now
moved_on {A} p s was mid now k calls memory names end roles position = record {
  shadow_is = one_move p s was mid now k calls memory (position ∙ ap (λ n. n + 1) (sym k.position_is));
  beside = record {
    own = own_then p mid now names end (λ j. (calls j).objects.starts) k.beside.own;
    calls = subst (λ c. AreBeside p (step_of p s).frames (shapes_of c)) (λ j. (sym calls j).calls) k.beside.calls;
    top = (λ j. (calls j).top) ∙ k.beside.top;
    none = roles ∙ k.beside.none;
  };
}

pub one_later_is : (m n k : ℕ) → m ≡ n → n < 2 ^ 64 - 1 → k ≡ min (m + 1) (2 ^ 64 - 1) → k ≡ n + 1
one_later_is m n k same few is = grind (arith, same, few, is)
