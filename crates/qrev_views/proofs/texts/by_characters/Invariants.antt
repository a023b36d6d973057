-- The characters so far.
use Rattle.std.proofs.Common.{◌≡◌, take}
use Rattle.std.specs.Prelude.{encode_utf8_all, string_bytes}
use Rattle.qrev_views.proofs.texts.by_characters.Given as goal

abbrev pub invariant-loop-byte : goal.invariant-loop-byte
invariant-loop-byte g l = string_bytes l.text ≡ encode_utf8_all (take l.byte-index l.fn.bytes)
