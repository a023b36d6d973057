-- The texts of fragments.
use Rattle.std.specs.Prelude.{ℕ, List, decimal}
use Rattle.std.specs.List.{flat_map}
use Rattle.qil_fragments.specs.declared.fragment.Fragment.{Fragment}
use Rattle.qil_fragments.specs.declared.fragment.Fragment.TheVariants as fragments

abbrev pub fragment_text : Fragment → List ℕ
fragment_text (fragments.Bytes bytes) = bytes.now
fragment_text (fragments.Number n) = decimal n

-- texts one after the other
abbrev pub text_of : List (List ℕ) → List ℕ
text_of texts = flat_map (λ text. text) texts
