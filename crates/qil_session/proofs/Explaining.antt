-- Why a text has no session: each refusal of a part is one of the whole load, and what a part can't be refused for isn't.
use Rattle.std.proofs.Common.{◌≡◌, ℕ, List, sym, subst}
use Rattle.std.specs.Prelude.{None}
use Rattle.qil_tree.specs.declared.tree.Program.{Program}
use Rattle.qil_rules.specs.Verdict.{Verdict}
use Rattle.qil_layout.specs.Layout.{fault_of}
use Rattle.qil_layout_builder.specs.Answer.{IsFault}
use Rattle.qil_layout_builder.specs.declared.error.LayoutError.{LayoutError}
use Rattle.qil_layout_builder.specs.declared.error.LayoutError.TheVariants as layout
use Rattle.qil_loading.specs.declared.load.LoadError.{LoadError}
use Rattle.qil_loading.specs.declared.load.LoadError.TheVariants as errors
use Rattle.qil_loading.specs.declared.refusal.Refusal.TheVariants as refusals
use Rattle.qil_loading.specs.Load.{Checks, Refuses, IsCheckFault}
use Rattle.qil_loading.specs.LoadError.{of_layout}
use Rattle.qil_replies.specs.Transcript.{Setup}

-- the text is refused for that, or memory ran out
abbrev pub Explained : Type 0 → Setup → LoadError → Type 0
Explained A s (errors.Refused refusal) = Refuses A s.text s.entry s.args refusal
Explained A s errors.OutOfMemory = Unit {0}

pub check-explained : (A : Type 0) (s : Setup) (error : LoadError) → IsCheckFault A s.text error → Explained A s error
check-explained A s (errors.Refused (refusals.Text code line)) h = h
check-explained A s (errors.Refused (refusals.Tokens code line)) h = h
check-explained A s (errors.Refused (refusals.Rule rule line)) h = h
check-explained A s (errors.Refused (refusals.Layout code line)) h = absurd h
check-explained A s (errors.Refused (refusals.Start fault)) h = absurd h
check-explained A s errors.OutOfMemory h = tt

pub layout-explained : {A : Type 0} (s : Setup) (verdict : Verdict A) (error : LayoutError) (load : LoadError) → Checks s.text verdict
    → IsFault (fault_of verdict.program) error → load ≡ of_layout error → Explained A s load
layout-explained {A} s verdict (layout.Refused code line) load checks fault e =
    subst (λ (x : LoadError). Explained A s x) (sym e) (verdict, checks, fault)
layout-explained {A} s verdict layout.OutOfMemory load checks fault e = subst (λ (x : LoadError). Explained A s x) (sym e) tt

-- a program without a fault of layout isn't refused for one
pub layout-shortage : {A : Type 0} (p : Program A) (error : LayoutError) (load : LoadError) → fault_of p ≡ None → IsFault (fault_of p) error → load ≡ of_layout error → load ≡ errors.OutOfMemory
layout-shortage p (layout.Refused code line) load none fault e = absurd cc
layout-shortage p layout.OutOfMemory load none fault e = e
