-- Answers to the goals of `by_characters`.
use Rattle.std.proofs.Common.{◌∙◌, ap, arith, ◌++◌, take, ℕ, List}
use Rattle.std.specs.Prelude.{encode_utf8_all}
use Rattle.std.proofs.lemmas.List.{take_all}
use Rattle.std.specs.Char.{encode_utf8}
use Rattle.qrev_views.proofs.ShownTexts.{character_more}
use Rattle.qrev_views.proofs.texts.by_characters.Goals as goal

pub loop-byte-preserved : goal.loop-byte-preserved
loop-byte-preserved g c =
    let done : List ℕ = encode_utf8_all (take c.loop-byte.byte-index c.args.bytes.now) in
    c.in_ok-push.ensures.bytes
    ∙ (ap (λ (t : List ℕ). t ++ encode_utf8 c.from.result) c.loop-byte.invariant
    ∙ (ap (λ (b : ℕ). done ++ encode_utf8 b) c.from.ensures
    ∙ character_more c.args.bytes.now c.loop-byte.byte-index c.loop-byte-test.true))

pub returns : goal.returns
returns g c = c.loop-byte.invariant ∙ ap encode_utf8_all (take_all c.loop-byte.byte-index c.args.bytes.now (omega (arith, c.loop-byte-test.false)))
