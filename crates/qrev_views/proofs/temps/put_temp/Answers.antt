-- Answers to the goals of `put_temp`.
use Rattle.std.proofs.Common.{◌≡◌, ◌==◌, [], ◌∷◌, ◌++◌, ap, refl, ◌∙◌, append_assoc, List, ℕ}
use Rattle.std.specs.Prelude.{unwrap_or, codes, cond, string_bytes}
use Rattle.json.specs.Token.{Token, end_object}
use Rattle.qil_memory.specs.Live.{live}
use Rattle.qil_code.specs.Numbered.{func_at}
use Rattle.qil_semantics.specs.Poke.{temp_class}
use Rattle.qrev_views.specs.Texts.{shown_text}
use Rattle.qrev_views.specs.Variables.{letter_of, live_reference, variable_head, type_member, name_member, read_only}
use Rattle.qrev_views.proofs.temps.put_temp.Goals as goal

pub returns : goal.returns
returns g c = λ x name.
    let named : c.temp_name-name.result.now ≡ x = rw (c.temp_name-name.ensures, c.func.ensures, c.code_of-code.ensures, ap (λ o. unwrap_or o []) name) refl in
    let class = c.class_of-class.ensures.defined x (rw (c.code_of-code.ensures, c.func-2.ensures) name) in
    let tokens : List Token = variable_head (shown_text (codes "%" ++ c.told-told.result.now)) (string_bytes c.in_ok-text.text) c.pointed-parts.result
    ++ (type_member c.args.showing.has_types (letter_of c.class_of-float.result (temp_class (func_at (g.M.Readers.whole c.args.machine.now).program c.args.frame.now.func) x))
    ++ (name_member (shown_text (codes "%" ++ x))
    ++ (live_reference c.args.showing.has_references (live (g.M.Readers.whole c.args.machine.now).memory) c.args.value ++ (cond (c.args.number == 1) [] read_only ++ end_object ∷ [])))) in (
      tokens,
      record {
        float = c.class_of-float.result;
        name = c.told-told.result.now;
        value = string_bytes c.in_ok-text.text;
        parts = c.pointed-parts.result;
        unnamed = λ none. (c.class_of-float.ensures none, c.told-told.ensures none ∙ named);
        is_value = rw c.of.ensures at c.in_ok-text.ensures;
        tokens = refl;
      },
      rw (
        c.in_ok-list.ensures,
        c.in_ok-variable-4.ensures,
        c.in_ok-variable-3.ensures,
        c.in_ok-variable-2.ensures,
        c.in_ok-variable.ensures,
        append_assoc,
        append_assoc,
        append_assoc,
        append_assoc,
        c.as_str.ensures.value,
        c.letter_of-letter.ensures,
        class,
        c.code_of-code.ensures,
        c.func-2.ensures,
        named,
      )
          refl,
    )
