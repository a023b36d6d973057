-- One line more, or the end of the header.
use Rattle.std.proofs.Common.{length, refl, sym, ap, ◌∙◌, arith, subst}
use Rattle.std.proofs.lemmas.Result.{err_from_is_err_and}
use Rattle.std.proofs.lemmas.Bool.{false≢true}
use Rattle.qrev_protocol.specs.Frame.{IsBlank}
use Rattle.qrev_protocol.specs.Incoming.{Reads}
use Rattle.qrev_protocol.proofs.Heads.{none_so_far, one_line_more}
use Rattle.qrev_protocol.proofs.Exits.{front_with, ends_in_line, line_too_long, whole_header, no_length}
use Rattle.qrev_protocol.proofs.incoming.Incoming.read_head.Goals as goal

pub loop-self-init : goal.loop-self-init
loop-self-init g c = (refl, none_so_far _)

pub loop-self-preserved : goal.loop-self-preserved
loop-self-preserved g c =
    let i = c.loop-self.invariant in
    let line = c.read.new.self in
    let same = c.as_slice-line.ensures in
    let taken = rw c.in-Newline.is at c.in_ok-read.ensures.line in (
      c.in_ok-read.ensures.counted ∙ i.0,
      one_line_more _ c.join-said.result c.loop-self.room _ line _ _ _ i.1 (taken.0, λ b. false≢true (c.if-is_blank.ensures.1 (subst IsBlank (sym same) b)))
          (c.join-said.ensures i.1.lines line i.1.are_said (subst (λ v. Reads c.said_in.result v) same c.said_in.ensures)) taken.2 (omega (arith, ap length same, taken.1)),
    )

pub returns-in_err-read-clause-head : goal.returns-in_err-read-clause-head
returns-in_err-read-clause-head g c =
    let p = err_from_is_err_and c.from_residual.result c.from_residual.ensures.1 in
    rw p.1 (front_with _ _ _ _ _ c.loop-self.invariant.1 c.in_err-read.ensures.line)

pub returns-in-EndOfInput-clause-head : goal.returns-in-EndOfInput-clause-head
returns-in-EndOfInput-clause-head g c =
    let taken = rw c.in-EndOfInput.is at c.in_ok-read.ensures.line in ends_in_line _ _ c.read.new.self _ _ _ c.loop-self.invariant.1 taken.0 taken.1

pub returns-in-TooLong-clause-head : goal.returns-in-TooLong-clause-head
returns-in-TooLong-clause-head g c =
    let taken = rw c.in-TooLong.is at c.in_ok-read.ensures.line in line_too_long _ _ c.read.new.self _ _ _ c.loop-self.invariant.1 taken.0 taken.1 taken.2

pub returns-in-Length-clause-head : goal.returns-in-Length-clause-head
returns-in-Length-clause-head g c =
    let taken = rw c.in-Newline.is at c.in_ok-read.ensures.line in
    let said = rw c.in-Length.is at c.loop-self.invariant.1 in
    whole_header c.in-Length.length c.loop-self.room c.read.new.self _ _ _ said (subst IsBlank c.as_slice-line.ensures (c.if-is_blank.ensures.0 refl)) taken.1 taken.2

pub returns-in_default : goal.returns-in_default
returns-in_default g c =
    let taken = rw c.in-Newline.is at c.in_ok-read.ensures.line in record {
      head = no_length _ _ c.read.new.self _ _ _ c.loop-self.invariant.1 (subst IsBlank c.as_slice-line.ensures (c.if-is_blank.ensures.0 refl)) c.in_default.not-Length taken.2;
      counted = c.in_ok-read.ensures.counted ∙ c.loop-self.invariant.0;
    }
