-- Answers to the goals of `set_in`.
use Rattle.std.proofs.Common.{inl, inr}
use Rattle.std.proofs.lemmas.Result.{IfErr-weaker, IfOk-weaker}
use Rattle.qil_semantics.specs.Poke.{no_frame}
use Rattle.qrev_inspection.specs.Setting.{without}
use Rattle.qrev_inspection.proofs.Exits.{err_all}
use Rattle.qrev_inspection.proofs.Sets.{data_apart, none_poked}
use Rattle.qrev_inspection.proofs.setting.set_in.Goals as goal

pub returns-then-reference-eq-DATA-clause-set : goal.returns-then-reference-eq-DATA-clause-set
returns-then-reference-eq-DATA-clause-set g c = IfOk-weaker c.set_data.result _ _ (λ set is. inr (c.if-reference-eq-DATA.true, is)) c.set_data.ensures.set

pub returns-then-reference-eq-DATA-clause-refused : goal.returns-then-reference-eq-DATA-clause-refused
returns-then-reference-eq-DATA-clause-refused g c = err_all c.set_data.result _ (λ why one. absurd (data_apart c.args.reference c.if-reference-eq-DATA.true one))

pub returns-in-Some-clause-refused : goal.returns-in-Some-clause-refused
returns-in-Some-clause-refused g c = λ one none is n says few.
    inr (inr (inr (no_frame, none_poked (g.L.Readers.whole c.machine.result.now) (g.L.Debugged.state c.args.debuggee.now.recorder.live).program (g.L.Debugged.state c.args.debuggee.now.recorder.live).timeline.now (without 37 c.args.name.now) n c.machine.ensures.now (c.in-Some.ensures.refused one))))

pub returns-in-None-clause-set : goal.returns-in-None-clause-set
returns-in-None-clause-set g c = IfOk-weaker c.set_temp.result _ _ (λ set is. inl (c.refusal_of.ensures.none c.in-None.is, is)) c.set_temp.ensures.set

pub returns-in-None-clause-refused : goal.returns-in-None-clause-refused
returns-in-None-clause-refused g c = IfErr-weaker c.set_temp.result _ _ (λ why refused one. refused) c.set_temp.ensures.refused
