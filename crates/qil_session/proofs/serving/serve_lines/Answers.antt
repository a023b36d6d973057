-- Answers to the goals of `serve_lines`.
use Rattle.std.proofs.Common.{◌∙◌, arith, refl, None, Ok, Err}
use Rattle.qil_session.specs.declared.session.Next.TheVariants.{Go, Quit}
use Rattle.qil_streams.proofs.ReaderLemmas.{Reads-append}
use Rattle.qil_session.proofs.FewLemmas.{unread, Reads-start, few_read}
use Rattle.qil_session.proofs.ServeLemmas.{Standing-start, Standing-line, Promise-end, Promise-last, Promise-last_quit, Promise-read, Promise-too_long, Promise-quit, Promise-write, Promise-write_last, line_read, prepend_none}
use Rattle.qil_session.proofs.serving.serve_lines.Goals as goal

pub loop-end-init : goal.loop-end-init
loop-end-init g c =
    record {
      standing = Standing-start _ _ _ _ _ (prepend_none _ _ c.new-reader.ensures.pending) c.new-reader.ensures.given;
      reads = Reads-start _ _ c.new-reader.ensures.pending c.new-reader.ensures.given;
      near = omega (arith, c.new-reader.ensures.given);
      limit = refl;
      source = refl;
      out = refl;
      device = refl;
    }

pub returns-in_default-clause-served : goal.returns-in_default-clause-served
returns-in_default-clause-served g c =
    let (line, is_line, takes) = c.in_default.ensures.line in
    Promise-read (Unit {0}) _ _ _ _ _ _ _ _ _ line c.loop-end.invariant.standing is_line takes.0 takes.1

pub returns-in-End-clause-served : goal.returns-in-End-clause-served
returns-in-End-clause-served g c =
    let (line, is_line, takes) = c.in-Ok.ensures.line in
    let end = rw c.in-End.is at takes in
    Promise-end {T = Unit {0}} tt _ _ _ _ None _ _ _ _ _ c.loop-end.invariant.standing end.0 end.1 end.2 end.3

pub returns-in-TooLong-clause-served : goal.returns-in-TooLong-clause-served
returns-in-TooLong-clause-served g c =
    let (line, is_line, takes) = c.in-Ok.ensures.line in
    let end = rw c.in-TooLong.is at takes in
    Promise-too_long (Unit {0}) _ _ _ _ None _ _ _ _ line c.loop-end.invariant.standing is_line end.0 end.1 end.2

pub loop-end-preserved : goal.loop-end-preserved
loop-end-preserved g c =
    let (line, is_line, takes) = c.in-Ok.ensures.line in
    let end = rw c.in-Newline.is at takes in
    let said = line_read (Ok Go) _ _ _ _ line _ _ c.as_slice.ensures end.1 (rw c.in-Ok-Go.field-0-is at c.in-Ok-Go.ensures.answered) in
    record {
      standing = Standing-line _ _ _ _ _ _ _ _ _ _ _ line said.1.shortage c.loop-end.invariant.standing is_line end.0 end.2 said.0 said.1.valid said.1.text said.1.left;
      reads = Reads-append unread _ _ _ _ _ c.loop-end.invariant.reads c.in-Ok.ensures.reads;
      near = omega (arith, end.2, c.answer_line.ensures.near, c.loop-end.invariant.near);
      limit = c.answer_line.ensures.limit ∙ c.loop-end.invariant.limit;
      source = c.in-Ok.ensures.counted ∙ c.loop-end.invariant.source;
      out = c.in-Ok-Go.ensures.counted ∙ c.loop-end.invariant.out;
      device = c.answer_line.ensures.device ∙ c.loop-end.invariant.device;
    }

pub returns-in-Ok-Quit-clause-served : goal.returns-in-Ok-Quit-clause-served
returns-in-Ok-Quit-clause-served g c =
    let (line, is_line, takes) = c.in-Ok.ensures.line in
    let end = rw c.in-Newline.is at takes in
    let said = line_read {E = Unit {0}} (Ok Quit) _ _ _ _ line _ _ c.as_slice.ensures end.1 (rw c.in-Ok-Quit.field-0-is at c.in-Ok-Quit.ensures.answered) in
    rw (said.1, said.2) (Promise-quit {T = Unit {0}} tt _ _ _ _ None _ _ _ _ _ line c.loop-end.invariant.standing is_line end.0 end.2 end.3 said.0)

pub returns-in-Err-clause-served : goal.returns-in-Err-clause-served
returns-in-Err-clause-served g c =
    let (line, is_line, takes) = c.in-Ok.ensures.line in
    let end = rw c.in-Newline.is at takes in
    let said = line_read (Err c.in-Err.field-0) _ _ _ _ line _ _ c.as_slice.ensures end.1 c.in-Err.ensures.answered in
    Promise-write (Unit {0}) _ _ _ _ None _ _ _ _ _ _ line said.1.shortage c.loop-end.invariant.standing is_line end.0 said.1.valid said.1.text said.1.left

pub returns-in-Ok-Go-answer_line-clause-served : goal.returns-in-Ok-Go-answer_line-clause-served
returns-in-Ok-Go-answer_line-clause-served g c =
    let (line, is_line, takes) = c.in-Ok.ensures.line in
    let end = rw c.in-Last.is at takes in
    let said = line_read (Ok Go) _ _ _ _ line _ _ c.as_slice-in-Last.ensures end.1 (rw c.in-Ok-Go-answer_line.field-0-is at c.in-Ok-Go-answer_line.ensures.answered) in
    Promise-last {T = Unit {0}} tt _ _ _ _ None _ _ _ _ _ _ _ line said.1.shortage c.loop-end.invariant.standing is_line end.2 end.0 end.3 end.4 end.5 said.0 said.1.valid said.1.text said.1.left

pub returns-in-Ok-Quit-answer_line-clause-served : goal.returns-in-Ok-Quit-answer_line-clause-served
returns-in-Ok-Quit-answer_line-clause-served g c =
    let (line, is_line, takes) = c.in-Ok.ensures.line in
    let end = rw c.in-Last.is at takes in
    let said = line_read {E = Unit {0}} (Ok Quit) _ _ _ _ line _ _ c.as_slice-in-Last.ensures end.1 (rw c.in-Ok-Quit-answer_line.field-0-is at c.in-Ok-Quit-answer_line.ensures.answered) in
    rw (said.1, said.2) (Promise-last_quit {T = Unit {0}} tt _ _ _ _ None _ _ _ _ _ line c.loop-end.invariant.standing is_line end.2 end.0 end.3 end.4 end.5 said.0)

pub returns-in-Err-answer_line-clause-served : goal.returns-in-Err-answer_line-clause-served
returns-in-Err-answer_line-clause-served g c =
    let (line, is_line, takes) = c.in-Ok.ensures.line in
    let end = rw c.in-Last.is at takes in
    let said = line_read (Err c.in-Err-answer_line.field-0) _ _ _ _ line _ _ c.as_slice-in-Last.ensures end.1 c.in-Err-answer_line.ensures.answered in
    Promise-write_last (Unit {0}) _ _ _ _ None _ _ _ _ _ _ line said.1.shortage c.loop-end.invariant.standing is_line end.2 end.0 end.3 said.1.valid said.1.text said.1.left

pub returns-in_default-clause-few : goal.returns-in_default-clause-few
returns-in_default-clause-few g c = few_read c.loop-end.reader.bytes _ _ _ _ c.loop-end.invariant.reads c.in_default.ensures.reads c.in_default.ensures.within

pub returns-in-End-clause-few : goal.returns-in-End-clause-few
returns-in-End-clause-few g c = few_read c.loop-end.reader.bytes _ _ _ _ c.loop-end.invariant.reads c.in-Ok.ensures.reads c.in-Ok.ensures.within

pub returns-in-TooLong-clause-few : goal.returns-in-TooLong-clause-few
returns-in-TooLong-clause-few g c = few_read c.loop-end.reader.bytes _ _ _ _ c.loop-end.invariant.reads c.in-Ok.ensures.reads c.in-Ok.ensures.within

pub returns-in-Ok-Quit-clause-few : goal.returns-in-Ok-Quit-clause-few
returns-in-Ok-Quit-clause-few g c = few_read c.loop-end.reader.bytes _ _ _ _ c.loop-end.invariant.reads c.in-Ok.ensures.reads c.in-Ok.ensures.within

pub returns-in-Err-clause-few : goal.returns-in-Err-clause-few
returns-in-Err-clause-few g c = few_read c.loop-end.reader.bytes _ _ _ _ c.loop-end.invariant.reads c.in-Ok.ensures.reads c.in-Ok.ensures.within

pub returns-in-Ok-Go-answer_line-clause-few : goal.returns-in-Ok-Go-answer_line-clause-few
returns-in-Ok-Go-answer_line-clause-few g c = few_read c.loop-end.reader.bytes _ _ _ _ c.loop-end.invariant.reads c.in-Ok.ensures.reads c.in-Ok.ensures.within

pub returns-in-Ok-Quit-answer_line-clause-few : goal.returns-in-Ok-Quit-answer_line-clause-few
returns-in-Ok-Quit-answer_line-clause-few g c = few_read c.loop-end.reader.bytes _ _ _ _ c.loop-end.invariant.reads c.in-Ok.ensures.reads c.in-Ok.ensures.within

pub returns-in-Err-answer_line-clause-few : goal.returns-in-Err-answer_line-clause-few
returns-in-Err-answer_line-clause-few g c = few_read c.loop-end.reader.bytes _ _ _ _ c.loop-end.invariant.reads c.in-Ok.ensures.reads c.in-Ok.ensures.within
