-- Answers to the goals of `live_bytes`.
use Rattle.std.proofs.Common.{◌≡◌, ap, sym, subst, ◌∙◌, ◌+◌, ℕ, List, [], ◌∷◌, length, arith, inl, inr}
use Rattle.std.proofs.lemmas.List.{length-append}
use Rattle.qil_memory.specs.Live.{live}
use Rattle.qrev_inspection.specs.ReadBytes.{address_after}
use Rattle.qrev_inspection.proofs.Reading.{none_live, one_live, AreLive}
use Rattle.qrev_inspection.proofs.memory.live_bytes.Goals as goal

pub loop-offset-init : goal.loop-offset-init
loop-offset-init g c =
    let m = live (g.M.Readers.whole c.args.machine.now).memory in
    record {
      within = omega arith;
      counted = ap length c.new-bytes.ensures.items;
      read = subst (λ (bytes : List ℕ). AreLive m c.args.start bytes) (sym c.new-bytes.ensures.items) (none_live m c.args.start);
    }

pub loop-offset-preserved : goal.loop-offset-preserved
loop-offset-preserved g c =
    let m = live (g.M.Readers.whole c.args.machine.now).memory in
    let i = c.loop-offset.invariant in
    let bytes = c.loop-offset.bytes.items in
    let byte = c.in-Some.byte in
    let here = ap (λ (n : ℕ). m (address_after c.args.start n)) i.counted ∙ sym c.byte_at.ensures ∙ c.in-Some.is in
    record {
      within = omega (arith, c.loop-offset-test.true);
      counted = ap length c.in_ok-add_byte-in-Some.ensures.added ∙ length-append bytes (byte ∷ []) ∙ ap (λ (n : ℕ). n + 1) i.counted;
      read = subst (λ (all : List ℕ). AreLive m c.args.start all) (sym c.in_ok-add_byte-in-Some.ensures.added) (one_live m c.args.start bytes byte i.read here);
    }

pub returns-in-None-clause-read : goal.returns-in-None-clause-read
returns-in-None-clause-read g c =
    let m = live (g.M.Readers.whole c.args.machine.now).memory in
    let i = c.loop-offset.invariant in
    record {
      live = i.read;
      few = omega (arith, i.counted, i.within);
      all = inr (ap (λ (n : ℕ). m (address_after c.args.start n)) i.counted ∙ sym c.byte_at.ensures ∙ c.in-None.is);
    }

pub returns-clause-read : goal.returns-clause-read
returns-clause-read g c =
    let i = c.loop-offset.invariant in
    let all : length c.loop-offset.bytes.items ≡ c.args.most = omega (arith, i.counted, i.within, c.loop-offset-test.false) in
    record {
      live = i.read;
      few = omega (arith, i.counted, i.within);
      all = inl all;
    }
