-- What is noted of a program at the start of a run, one object after the other; and what a shadow keeps of its program.
use Rattle.std.specs.Prelude.{◌≡◌, ℕ, ◌+◌, List, length, None}
use Rattle.qil_tree.specs.declared.tree.Program.{Program}
use Rattle.qil_memory.specs.qil_layout.Layout.{data_base, bytes_of}
use Rattle.qil_shadow.specs.declared.origin.ByteOrigin.{ByteOrigin}
use Rattle.qil_shadow.specs.declared.object.ObjectKind.{ObjectKind}
use Rattle.qil_shadow.specs.declared.object.Object.{Object}
use Rattle.qil_shadow.specs.Bytes.{ByteOrigins, laid_origins}
use Rattle.qil_shadow.specs.Shadow.{all_numbers}
use Rattle.qil_shadow.specs.ObjectNumbers.{AreStarts}

-- an object that is there from the start on
abbrev pub fixed : ObjectKind → ℕ → ℕ → Object
fixed kind at n = record { kind = kind; address = at; size = n; made = 0; depth = 0; ended = None }

-- the bytes of the data up to an address are made of these, and all behind them are numbers
pub record HasNoted (bs : List ByteOrigin) (at : ℕ) (m : ByteOrigins) : Type 0 where
  pub up_to : data_base + length bs ≡ at
  pub bytes_are : m ≡ laid_origins all_numbers data_base bs

-- a shadow's names, the starts of its data and the end of these are those of a program that could be laid out
pub record IsOf {A : Type 0} (p names : Program A) (starts : List ℕ) (data_end : ℕ) : Type 0 where
  pub names_are : names ≡ p
  pub starts_are : AreStarts p starts
  pub end_is : data_end ≡ data_base + length (bytes_of p)
