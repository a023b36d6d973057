-- Answers to the goals of `put_object`.
use Rattle.std.proofs.Common.{◌≡◌, [], ◌∷◌, ◌++◌, refl, append_assoc, List, ℕ}
use Rattle.std.specs.Prelude.{unwrap_or, codes, string_bytes}
use Rattle.json.specs.Token.{Token, end_object}
use Rattle.qil_layout.specs.Layout.{address_of}
use Rattle.qil_fragments.specs.Texts.{text_of}
use Rattle.qrev_views.specs.Texts.{shown_text}
use Rattle.qrev_views.specs.Variables.{data_letter, shown_width, variable_head, type_member, name_member, reference}
use Rattle.qrev_views.proofs.data.put_object.Goals as goal

pub returns : goal.returns
returns g c =
    let d = c.args.data.now in
    let float = c.data_float-float.result in
    let letter = c.data_letter-letter.ensures (shown_width d.fields) c.data_word-width.ensures.letter in
    let address : c.unwrap_or-address.result ≡ unwrap_or (address_of (g.M.Readers.whole c.args.machine.now).program d.name) 0 = rw (c.unwrap_or-address.ensures, c.address.ensures, c.bytes.ensures, c.image.ensures, c.code_of-code.ensures) refl in
    let tokens : List Token = variable_head (shown_text (codes "$" ++ d.name)) (string_bytes c.in_ok-text.text) c.data_parts-parts.result
    ++ (type_member c.args.showing.has_types (data_letter float (shown_width d.fields))
    ++ (name_member (shown_text (text_of (data_letter float (shown_width d.fields) ∷ codes "[$" ∷ d.name ∷ codes "]" ∷ [])))
    ++ (reference c.args.showing.has_references (unwrap_or (address_of (g.M.Readers.whole c.args.machine.now).program d.name) 0) ++ end_object ∷ []))) in (
      tokens,
      record {
        float = float;
        value = string_bytes c.in_ok-text.text;
        parts = c.data_parts-parts.result;
        unnamed = λ none. c.data_float-float.ensures none;
        is_value = rw (c.of-style.ensures, c.value_at-value.ensures, address, c.data_word-width.ensures.bytes) at c.in_ok-text.ensures;
        tokens = refl;
      },
      rw (
        c.in_ok-list.ensures,
        c.in_ok-variable-4.ensures,
        c.in_ok-variable-3.ensures,
        c.in_ok-variable-2.ensures,
        c.in_ok-variable.ensures,
        append_assoc,
        append_assoc,
        append_assoc,
        append_assoc,
        c.as_str.ensures.value,
        letter,
        c.bytes-2.ensures,
        c.bytes-3.ensures,
        address,
      )
          refl,
    )
