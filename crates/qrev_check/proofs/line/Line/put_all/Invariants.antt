-- The text of the fragments so far stands behind what was there.
use Rattle.std.proofs.Common.{◌≡◌, ◌++◌, take}
use Rattle.std.specs.List.{flat_map}
use Rattle.qil_fragments.specs.Texts.{fragment_text}
use Rattle.qrev_check.proofs.line.Line.put_all.Given as goal

abbrev pub invariant-loop-fragment : goal.invariant-loop-fragment
invariant-loop-fragment g l = l.self ≡ l.fn.self ++ flat_map fragment_text (take l.fragment-index l.fn.fragments)
