-- The lines that loading writes.
use Rattle.std.specs.Prelude.{◌≡◌, ℕ, List, [], ◌∷◌, length, codes, decimal}
use Rattle.qil_lexer.specs.Text.{code_text}
use Rattle.qil_parser.specs.Codes.{parse_code}
use Rattle.qil_rules.specs.Codes.{rule_code}
use Rattle.qil_rules.specs.Verdict.{Verdict}
use Rattle.qil_rules.specs.declared.form.Form.{Form}
use Rattle.qil_rules.specs.declared.form.Form.TheVariants.{Single, Multiple}
use Rattle.qil_layout.specs.Codes.{layout_code}
use Rattle.qil_layout.specs.Layout.{bytes_of}
use Rattle.qil_semantics.specs.StartCode.{start_code}
use Rattle.qil_fragments.specs.Texts.{text_of}
use Rattle.qil_loading.specs.declared.refusal.Refusal.{Refusal}
use Rattle.qil_loading.specs.declared.refusal.Refusal.TheVariants as refusals
use Rattle.qil_loading.specs.declared.loaded.Loaded.{Loaded}

-- ---- the line of a refusal

abbrev pub refused_at : List ℕ → ℕ → List ℕ
refused_at code line = text_of (codes "refused: " ∷ code ∷ codes " line " ∷ decimal line ∷ codes "\n" ∷ [])

abbrev pub refused_line : Refusal → List ℕ
refused_line (refusals.Text code line) = refused_at (code_text code) line
refused_line (refusals.Tokens code line) = refused_at (parse_code code) line
refused_line (refusals.Rule rule line) = refused_at (rule_code rule) line
refused_line (refusals.Layout code line) = refused_at (layout_code code) line
refused_line (refusals.Start fault) = text_of (codes "refused: " ∷ start_code fault ∷ codes "\n" ∷ [])

-- ---- the line of what was loaded

-- how many functions and bytes of data were loaded, and whether each temporary has one definition
abbrev pub loaded_line : ℕ → ℕ → Form → List ℕ
loaded_line funcs bytes Single =
    text_of (codes "loaded " ∷ decimal funcs ∷ codes " functions " ∷ decimal bytes ∷ codes " data bytes ssa yes\n" ∷ [])
loaded_line funcs bytes (Multiple func temp) =
    text_of (codes "loaded " ∷ decimal funcs ∷ codes " functions " ∷ decimal bytes ∷ codes " data bytes ssa no $" ∷ func ∷ codes " %" ∷ temp ∷ codes "\n" ∷ [])

-- what is reported is of that program
pub record IsLoaded {A : Type 0} (loaded : Loaded) (verdict : Verdict A) : Type 0 where
  pub funcs : loaded.funcs ≡ length verdict.program.funcs
  pub bytes : loaded.bytes ≡ length (bytes_of verdict.program)
  pub form : loaded.form.now ≡ verdict.form
