-- Values as texts.
use Rattle.std.specs.Prelude.{◌≡◌, ℕ, ◌^◌, ◌%◌, Bool, true, false, List, [], ◌++◌, ◌⊎◌, codes, decimal, Option, Some, None, from_bits}
use Rattle.std.specs.Float.{binary32, binary64}
use Rattle.std.specs.Fmt.{digits}
use Rattle.ryu.specs.Parse.{parse_float}
use Rattle.qrev_map.specs.declared.names.FloatClass.{FloatClass}
use Rattle.qrev_map.specs.declared.names.FloatClass.TheVariants as floats
use Rattle.qrev_views.specs.declared.values.Style.{Style}
use Rattle.qrev_views.specs.declared.values.Style.TheVariants.{Decimal, Hex, Single, Double}

-- how a value is written that may be a float, and if hexadecimal digits are asked for
abbrev pub style_of : Option FloatClass → Bool → Style
style_of class true = Hex
style_of None false = Decimal
style_of (Some floats.Single) false = Single
style_of (Some floats.Double) false = Double

-- a text is a value, written so: in digits, or as a decimal that is read as the float whose bits it is
abbrev pub IsWritten : Style → ℕ → List ℕ → Type 0
IsWritten Decimal v text = text ≡ decimal v
IsWritten Hex v text = text ≡ codes "0x" ++ digits 16 false v
IsWritten Single v text = parse_float binary32 text ≡ Some (from_bits binary32 (v % 2 ^ 32))
IsWritten Double v text = parse_float binary64 text ≡ Some (from_bits binary64 v)

-- the same of one that may be unset
abbrev pub IsShown : Style → Option ℕ → List ℕ → Type 0
IsShown style None text = text ≡ codes "unset"
IsShown style (Some v) text = IsWritten style v text

-- what may stand behind a value
abbrev pub IsRemark : List ℕ → Type 0
IsRemark more = (more ≡ []) ⊎ ((remark : List ℕ) × (more ≡ codes " " ++ remark))

-- a text is a value, and perhaps a remark behind it
abbrev pub IsTold : Style → Option ℕ → List ℕ → Type 0
IsTold style value text = (written more : List ℕ) × IsShown style value written × IsRemark more × (text ≡ written ++ more)
