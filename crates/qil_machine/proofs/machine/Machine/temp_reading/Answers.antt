-- The slot is read in the innermost frame of the function, which is that of its name.
use Rattle.std.proofs.Common.{◌∙◌, refl, None, Some}
use Rattle.qil_machine.proofs.Watching.{turned, has_read, is_read, none_read, no_slot}
use Rattle.qil_machine.proofs.machine.Machine.temp_reading.Goals as goal

pub get-requires : goal.get-requires
get-requires g c =
    has_read _ c.self.inside.code.now c.args.func.index c.args.slot.index c.in-Some.field-0 c.in-Some-innermost_of.frame.now c.self.invariant refl c.in-Some.ensures.code
    (c.in-Some-innermost_of.ensures ∙ turned c.args.func.index c.self.inside.frames c.frames.result.now c.frames.ensures)

pub returns-in-Some-innermost_of-clause-named : goal.returns-in-Some-innermost_of-clause-named
returns-in-Some-innermost_of-clause-named g c = λ source name found at.
    is_read _ c.args.self.now c.self.inside.code.now c.args.func.index c.args.slot.index source name (Some c.in-Some-innermost_of.frame.now) c.get.result c.self.view_is c.self.invariant refl c.in-Some.ensures.finds
    (c.in-Some-innermost_of.ensures ∙ turned c.args.func.index c.self.inside.frames c.frames.result.now c.frames.ensures) c.get.ensures found at

pub returns-in-None-innermost_of-clause-named : goal.returns-in-None-innermost_of-clause-named
returns-in-None-innermost_of-clause-named g c = λ source name found at.
    is_read _ c.args.self.now c.self.inside.code.now c.args.func.index c.args.slot.index source name None None c.self.view_is c.self.invariant refl c.in-Some.ensures.finds
    (c.in-None-innermost_of.ensures ∙ turned c.args.func.index c.self.inside.frames c.frames.result.now c.frames.ensures) refl found at

pub returns-in-None-clause-named : goal.returns-in-None-clause-named
returns-in-None-clause-named g c = λ source name found at. none_read _ c.args.self.now c.self.inside.code.now c.args.func.index c.args.slot.index name c.self.view_is refl c.in-None.ensures.code at

pub returns-in-Some-innermost_of-clause-unknown : goal.returns-in-Some-innermost_of-clause-unknown
returns-in-Some-innermost_of-clause-unknown g c = λ none.
    no_slot _ c.args.self.now c.self.inside.code.now c.args.func.index c.args.slot.index c.in-Some.field-0 c.self.view_is refl c.in-Some.ensures.code none
