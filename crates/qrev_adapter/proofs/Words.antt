-- What a command is, by the test that the code makes, and whether the editor leaves by it.
use Rattle.std.proofs.Common.{◌≡◌, ◌∙◌, ℕ, List, Bool, true, false, Option, refl, sym, ap, nat_eq, get_or}
use Rattle.std.specs.Prelude.{Some, None, codes, cond}
use Rattle.std.specs.Str.{bytes_eq}
use Rattle.std.proofs.lemmas.Bool.{false≢true}
use Rattle.std.proofs.lemmas.Slice.Eq.{bytes_eq-Decides}
use Rattle.qrev_adapter.specs.declared.requests.Ending.{Ending}
use Rattle.qrev_adapter.specs.declared.requests.Ending.TheVariants.{Terminated, Left}
use Rattle.qrev_adapter.specs.Served.{Leaves}

-- a command was compared with a word
pub is_word : (command text word : List ℕ) (test : Bool) → text ≡ command → test ≡ bytes_eq text word → test ≡ true → command ≡ word
is_word command text word test same compared holds = sym same ∙ (bytes_eq-Decides text word).0 (sym compared ∙ holds)

pub is_not_word : (command text word : List ℕ) (test : Bool) → text ≡ command → test ≡ bytes_eq text word → test ≡ false → command ≡ word → ⊥
is_not_word command text word test same compared fails is = false≢true (sym fails ∙ compared ∙ (bytes_eq-Decides text word).1 (same ∙ is))

-- words that aren't the farewell
pub launch_stays : (command : List ℕ) → command ≡ codes "launch" → command ≡ codes "disconnect" → ⊥
launch_stays command launch farewell = false≢true (sym (ap (λ (v : List ℕ). nat_eq (get_or v 0 0) 108) (sym launch ∙ farewell)))

pub restart_stays : (command : List ℕ) → command ≡ codes "restart" → command ≡ codes "disconnect" → ⊥
restart_stays command restart farewell = false≢true (sym (ap (λ (v : List ℕ). nat_eq (get_or v 0 0) 114) (sym restart ∙ farewell)))

is_left : Option Ending → Bool
is_left None = false
is_left (Some Terminated) = false
is_left (Some Left) = true

pub no_end : (found : Option Ending) → found ≡ None → found ≡ Some Left → ⊥
unfolding is_left
no_end found same left = false≢true (ap is_left (sym same ∙ left))

pub not_left : (found : Option Ending) → found ≡ Some Terminated → found ≡ Some Left → ⊥
unfolding is_left
not_left found same left = false≢true (ap is_left (sym same ∙ left))

-- an ending is that of a command
pub leaves_by : (command : List ℕ) → command ≡ codes "disconnect" → Leaves (Some Left) command
leaves_by command is = (λ left. is, λ stays. absurd (stays refl))

pub stays_by : (found : Option Ending) (command : List ℕ) → (found ≡ Some Left → ⊥) → (command ≡ codes "disconnect" → ⊥) → Leaves found command
stays_by found command other isnt = (λ left. absurd (other left), λ stays. isnt)

-- a value that a test chooses, and one behind a test that fails
pub chosen : {X : Type 0} → (test known : Bool) (x y : X) → test ≡ known → test ≡ true → x ≡ cond known x y
chosen test known x y same holds = ap (λ (b : Bool). cond b x y) (sym holds ∙ same)

pub passed : {X : Type 0} → (test known : Bool) (x y z : X) → test ≡ known → test ≡ false → z ≡ y → z ≡ cond known x y
passed test known x y z same fails rest = rest ∙ ap (λ (b : Bool). cond b x y) (sym fails ∙ same)
