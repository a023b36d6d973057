-- Which function lies at an address.
use Rattle.std.specs.Prelude.{ℕ, ◌-◌, ◌/◌, ◌%◌, Bool, false, ◌==◌, ◌&&◌, nat_lt, if◌then◌else◌, List, length, codes, Option, Some, None, option_map}
use Rattle.qil_tree.specs.declared.tree.Program.{Program}
use Rattle.qil_layout.specs.declared.callee.Callee.{Callee}
use Rattle.qil_layout.specs.declared.callee.Callee.TheVariants.{Defined, PutChar, Puts, Exit}
use Rattle.qil_layout.specs.Layout.{address_of}

abbrev pub is_some_at : Option ℕ → ℕ → Bool
is_some_at None a = false
is_some_at (Some b) a = b == a

-- the built-in function of that name and address lies at a: the program doesn't define its name
abbrev pub lies : {A : Type 0} → Program A → List ℕ → ℕ → ℕ → Bool
lies p name at a = a == at && is_some_at (address_of p name) at

-- the number of the function of the program that lies at a
abbrev pub func_at : {A : Type 0} → Program A → ℕ → Option ℕ
func_at p a =
    if nat_lt a 4096 then None else
    (if (a - 4096) % 16 == 0 && nat_lt ((a - 4096) / 16) (length p.funcs) then Some ((a - 4096) / 16) else None)

abbrev pub defined_at : ℕ → Callee
defined_at i = Defined (record { index = i })

abbrev pub callee_at : {A : Type 0} → Program A → ℕ → Option Callee
callee_at p a =
    if lies p (codes "putchar") 1024 a then Some PutChar else
    (if lies p (codes "puts") 1040 a then Some Puts else
    (if lies p (codes "exit") 1056 a then Some Exit else option_map defined_at (func_at p a)))
