-- Answers to the goals of `scopes`.
use Rattle.std.proofs.Common.{refl, ap, inr, ℕ, ◌∙◌, ◌++◌, ◌-◌, length}
use Rattle.std.specs.Prelude.{slice_get}
use Rattle.std.proofs.lemmas.Result.{IfErr-weaker, IfOk-weaker}
use Rattle.qrev_requests.specs.Members.{json_of}
use Rattle.qrev_views.specs.Scopes.{scopes_tokens}
use Rattle.qrev_inspection.specs.Requested.{frame_numbered}
use Rattle.qrev_inspection.proofs.Lifting.{named_missing, slots_counted}
use Rattle.qrev_inspection.proofs.looking.scopes.Goals as goal

pub returns-then-number-eq0-clause-fails : goal.returns-then-number-eq0-clause-fails
returns-then-number-eq0-clause-fails g c = inr (
  refl,
  c.unwrap_or-number.result,
  (c.number.result, c.number.ensures, c.unwrap_or-number.ensures),
  ap (λ (n : ℕ). frame_numbered n (g.L.Debugged.state c.args.debuggee.now.recorder.live).timeline.now.frames) c.if-number-eq0.true,
)

pub returns-clause-shown : goal.returns-clause-shown
returns-clause-shown g c =
    let s = g.L.Debugged.state c.args.debuggee.now.recorder.live in
    let w = g.L.Readers.whole c.machine-machine.result.now in
    let n = c.unwrap_or-number.result in
    IfOk-weaker c.frame_scopes.result _ _
    (λ o added. record {
      number = n;
      frame = slice_get w.frames (n - 1);
      is_said = (c.number.result, c.number.ensures, c.unwrap_or-number.ensures);
      has_slots = slots_counted w s.program s.timeline.now n c.machine-machine.ensures.now c.machine-machine.ensures.program c.if-number-eq0.false c.are_slots.ensures;
      added = added ∙ ap (λ (k : ℕ). c.args.body.out.tokens ++ scopes_tokens n (slice_get w.frames (n - 1)) k) (ap length c.as_slice-datas.ensures ∙ (λ i. length (c.program-program.ensures i).datas));
    }) c.frame_scopes.ensures.shown

pub returns-clause-fails : goal.returns-clause-fails
returns-clause-fails g c =
    IfErr-weaker c.frame_scopes.result _ _
    (λ why missing. named_missing (g.L.Readers.whole c.machine-machine.result.now) (g.L.Debugged.state c.args.debuggee.now.recorder.live) (json_of c.args.asked) why c.unwrap_or-number.result c.machine-machine.ensures.now (c.number.result, c.number.ensures, c.unwrap_or-number.ensures) missing)
    c.frame_scopes.ensures.fails
