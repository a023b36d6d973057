-- Answers to the goals of `put_bytes`.
use Rattle.std.proofs.Common.{◌≡◌, ap, ℕ, Option, ◌+◌, ◌-◌, ◌<◌, ◌≤◌, ◌∙◌, codes, arith, rules}
use Rattle.qil_memory.specs.Live.{Live, live}
use Rattle.qil_streams.specs.Text.{line}
use Rattle.qil_compare.specs.Events.{bytes_from}
use Rattle.qil_streams.proofs.TextLemmas.{HasPut-as, HasPut-stop}
use Rattle.qil_render.specs.Texts.{byte_text}
use Rattle.qil_render.specs.Shown.{spaced_byte, bytes_text}
use Rattle.qil_render.proofs.Reported.{reported_none, reported_as, reported_stop, reported_more, reported_last}
use Rattle.qil_comparison.proofs.Values.{no_bytes, positive, later_bytes, bytes_first, later_step, later_end}
use Rattle.qil_comparison.proofs.event_text.put_bytes.Goals as goal

-- the first byte is at the address
first_at : (m : Live) (a : ℕ) (byte : Option ℕ) → byte ≡ m (a + 0) → byte ≡ m a
first_at m a byte e = let none : a + 0 ≡ a = omega arith in e ∙ ap m none

pub returns-then-count-eq0 : goal.returns-then-count-eq0
returns-then-count-eq0 g c = HasPut-as (no_bytes (live (g.M.Readers.whole c.args.machine.now).memory) c.args.start c.args.count c.if-count-eq0.true) c.put.ensures

pub returns-in_err-put_byte : goal.returns-in_err-put_byte
returns-in_err-put_byte g c =
    let m = live (g.M.Readers.whole c.args.machine.now).memory in
    let a = c.args.start in
    let n = c.args.count in
    rw (bytes_first m a n (positive n c.if-count-eq0.false))
    (HasPut-stop _ _ c.from_residual.ensures.1 _ _ _ (byte_text (m a)) (later_bytes m (a + 1) (n - 1)) (rw (first_at m a c.byte_after.result c.byte_after.ensures) at c.in_err-put_byte.ensures))

pub loop-offset-init : goal.loop-offset-init
loop-offset-init g c =
    let m = live (g.M.Readers.whole c.args.machine.now).memory in
    let a = c.args.start in
    let n = c.args.count in
    record {
      text = reported_more _ (byte_text (m a)) (later_bytes m (a + 1) (n - 1)) _ _ _
          (reported_as _ _ _ _ _ (bytes_first m a n (positive n c.if-count-eq0.false)) (reported_none (line (bytes_text (bytes_from m a n))) _))
          (rw (first_at m a c.byte_after.result c.byte_after.ensures) at c.in_ok-put_byte.ensures.text);
      counted = c.in_ok-put_byte.ensures.counted;
      device = c.put_byte.ensures.device;
    }

pub returns-in_err-put_next_byte : goal.returns-in_err-put_next_byte
returns-in_err-put_next_byte g c =
    let m = live (g.M.Readers.whole c.args.machine.now).memory in
    let a = c.args.start in
    let n = c.args.count in
    let i = c.loop-offset.offset in
    let lt : i < n = omega (arith, c.loop-offset-test.true) in
    record {
      text = reported_stop _ (spaced_byte (m (a + i))) (later_bytes m (a + (i + 1)) (n - (i + 1))) _ _ _
          (reported_as _ _ _ _ _ (later_step m a i n lt) c.loop-offset.invariant.text)
          _ _ c.from_residual-in_err-put_next_byte.ensures.1 c.in_err-put_next_byte.field-0.0 (rw c.byte_after-in-loop-offset.ensures at c.in_err-put_next_byte.ensures.text);
      counted = search rules;
      device = search rules;
    }

pub loop-offset-preserved : goal.loop-offset-preserved
loop-offset-preserved g c =
    let m = live (g.M.Readers.whole c.args.machine.now).memory in
    let a = c.args.start in
    let n = c.args.count in
    let i = c.loop-offset.offset in
    let lt : i < n = omega (arith, c.loop-offset-test.true) in
    record {
      text = reported_more _ (spaced_byte (m (a + i))) (later_bytes m (a + (i + 1)) (n - (i + 1))) _ _ _
          (reported_as _ _ _ _ _ (later_step m a i n lt) c.loop-offset.invariant.text)
          (rw c.byte_after-in-loop-offset.ensures at c.in_ok-put_next_byte.ensures.text);
      counted = c.in_ok-put_next_byte.ensures.counted ∙ c.loop-offset.invariant.counted;
      device = c.put_next_byte.ensures.device ∙ c.loop-offset.invariant.device;
    }

pub returns : goal.returns
returns g c =
    let m = live (g.M.Readers.whole c.args.machine.now).memory in
    let a = c.args.start in
    let n = c.args.count in
    let i = c.loop-offset.offset in
    let le : n ≤ i = omega (arith, c.loop-offset-test.false) in
    record {
      text = reported_last _ (codes "\n") _ _ _ (reported_as _ _ _ _ _ (later_end m a n i le) c.loop-offset.invariant.text) _ c.put-2.ensures.text;
      counted = search rules;
      device = search rules;
    }
