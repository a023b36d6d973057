-- By hand, as a search finds them late: the bytes lie in the one buffer that has the address, and are written over there.
use Rattle.std.proofs.Common.{◌≡◌, ◌∙◌, ℕ, ◌+◌, ◌-◌, ◌<◌, ◌≤◌, List, length, slice_range, Vec, refl, sym, ap, subst, arith}
use Rattle.std.specs.Vec.{with_items}
use Rattle.std.proofs.lemmas.Bool.{lt-ltb, le-ltb}
use Rattle.std.proofs.lemmas.List.{with_items_is}
use Rattle.qil_layout.specs.Layout.{data_base, low_bytes}
use Rattle.qil_layout.proofs.BytesLemmas.{length-low_bytes}
use Rattle.qil_memory.specs.Bytes.{over}
use Rattle.qil_memory.specs.Buffers.{Buffers, IsMemory, stack_base, stack_end}
use Rattle.qil_memory.specs.Undo.{with_bytes}
use Rattle.qil_memory.specs.Places.{IsLive, bytes_at}
use Rattle.qil_memory.proofs.Spans.{length-over}
use Rattle.qil_memory.proofs.memory.Memory.exchange_live.Goals as goal

-- bytes of the stack
module _ (m : Buffers) (a n at : ℕ) (i : IsMemory m) (s : (a ≡ stack_base + at) × (at + n ≤ m.top - stack_base)) where
  on_stack : stack_base ≤ a
  on_stack = let is = s.0 in omega arith

  stack_place : a - stack_base ≡ at
  stack_place = let is = s.0 in omega arith

  stack_live : IsLive m a n
  stack_live = let is = s.0 in let fits = s.1 in let low = i.low in record { low = omega arith; high = rw (le-ltb a stack_base on_stack) (omega arith) }

  stack_inside : at + n ≤ length m.stack_bytes
  stack_inside = let fits = s.1 in let whole = i.whole in let high = i.high in omega arith

  stack_read : bytes_at m a n ≡ slice_range m.stack_bytes at (at + n)
  stack_read = rw (le-ltb a stack_base on_stack) (ap (λ k. slice_range m.stack_bytes k (k + n)) stack_place)

  stack_written : (bs : List ℕ) → with_bytes m a bs ≡ record m { stack_bytes = over m.stack_bytes at bs }
  stack_written bs = rw (le-ltb a stack_base on_stack) (ap (λ k. let w : Buffers = record m { stack_bytes = over m.stack_bytes k bs } in w) stack_place)

-- bytes of the data
module _ (m : Buffers) (a n at : ℕ) (i : IsMemory m) (s : (a ≡ data_base + at) × (at + n ≤ length m.data_bytes)) where
  in_data : a < stack_base
  in_data = let is = s.0 in let fits = s.1 in let few = i.few in omega arith

  data_place : a - data_base ≡ at
  data_place = let is = s.0 in omega arith

  data_live : IsLive m a n
  data_live = let is = s.0 in let fits = s.1 in record { low = omega arith; high = rw (lt-ltb a stack_base in_data) (omega arith) }

  data_read : bytes_at m a n ≡ slice_range m.data_bytes at (at + n)
  data_read = rw (lt-ltb a stack_base in_data) (ap (λ k. slice_range m.data_bytes k (k + n)) data_place)

  data_written : (bs : List ℕ) → with_bytes m a bs ≡ record m { data_bytes = over m.data_bytes at bs }
  data_written bs = rw (lt-ltb a stack_base in_data) (ap (λ k. let w : Buffers = record m { data_bytes = over m.data_bytes k bs } in w) data_place)

-- a list of bytes, some of which were written over
module _ {Z : Type 0} (v : Vec ℕ Z) (xs t : List ℕ) (at n number : ℕ) (is : xs ≡ v.items) (new : t ≡ over xs at (low_bytes n number)) (h : at + n ≤ length v.items) where
  long : length t ≡ length v.items
  long = let count = length-low_bytes n number in ap length (new ∙ ap (λ ys. over ys at (low_bytes n number)) is) ∙ length-over v.items at (low_bytes n number) (omega arith)

  written : (with_items v t).items ≡ over v.items at (low_bytes n number)
  written = let count = long in with_items_is v t (omega (arith, count, v.ok.0)) ∙ new ∙ ap (λ ys. over ys at (low_bytes n number)) is

  long_written : length (with_items v t).items ≡ length v.items
  long_written = let count = length-low_bytes n number in ap length written ∙ length-over v.items at (low_bytes n number) (omega arith)

pub invariant_of-self : goal.invariant_of-self
invariant_of-self g c =
    let h = subst (λ (m : Buffers). c.in-Some.at + c.args.n ≤ length m.stack_bytes) (sym c.self.view_is) (stack_inside c.args.self.now c.args.address c.args.n c.in-Some.at c.stack_place.ensures.memory c.in-Some.ensures.place) in
    record {
      few = c.self.invariant.few;
      whole = long_written c.self.inside.stack_bytes c.deref_mut.result.now c.exchange.new.target c.in-Some.at c.args.n c.args.v c.deref_mut.ensures.value c.exchange.ensures.new h ∙ c.self.invariant.whole;
      low = c.self.invariant.low;
      high = c.self.invariant.high;
    }

pub returns-in-Some-clause-live : goal.returns-in-Some-clause-live
returns-in-Some-clause-live g c = (λ _. stack_live c.args.self.now c.args.address c.args.n c.in-Some.at c.stack_place.ensures.memory c.in-Some.ensures.place, λ _. refl)

pub returns-in-Some-clause-old : goal.returns-in-Some-clause-old
returns-in-Some-clause-old g c =
    c.exchange.ensures.old ∙ ap (λ xs. slice_range xs c.in-Some.at (c.in-Some.at + c.args.n)) (c.deref_mut.ensures.value ∙ ap (λ (m : Buffers). m.stack_bytes) c.self.view_is)
    ∙ sym (stack_read c.args.self.now c.args.address c.args.n c.in-Some.at c.stack_place.ensures.memory c.in-Some.ensures.place)

pub returns-in-Some-clause-new : goal.returns-in-Some-clause-new
returns-in-Some-clause-new g c =
    let h = subst (λ (m : Buffers). c.in-Some.at + c.args.n ≤ length m.stack_bytes) (sym c.self.view_is) (stack_inside c.args.self.now c.args.address c.args.n c.in-Some.at c.stack_place.ensures.memory c.in-Some.ensures.place) in
    ap (λ xs. let w : Buffers = record { data_bytes = c.self.inside.data_bytes.items; stack_bytes = xs; top = c.self.inside.top } in w)
    (written c.self.inside.stack_bytes c.deref_mut.result.now c.exchange.new.target c.in-Some.at c.args.n c.args.v c.deref_mut.ensures.value c.exchange.ensures.new h)
    ∙ ap (λ (m : Buffers). let w : Buffers = record m { stack_bytes = over m.stack_bytes c.in-Some.at (low_bytes c.args.n c.args.v) } in w) c.self.view_is
    ∙ sym (stack_written c.args.self.now c.args.address c.args.n c.in-Some.at c.stack_place.ensures.memory c.in-Some.ensures.place (low_bytes c.args.n c.args.v))

pub invariant_of-self-in-Some-data_place : goal.invariant_of-self-in-Some-data_place
invariant_of-self-in-Some-data_place g c =
    let at = c.in-Some-data_place.at in
    let place = c.in-Some-data_place.ensures.place in
    let h = subst (λ (m : Buffers). at + c.args.n ≤ length m.data_bytes) (sym c.self.view_is) place.1 in
    let same = long_written c.self.inside.data_bytes c.deref_mut-in-Some-data_place.result.now c.exchange-in-Some-data_place.new.target at c.args.n c.args.v c.deref_mut-in-Some-data_place.ensures.value c.exchange-in-Some-data_place.ensures.new h in
    record {
      few = subst (λ k. k ≤ 1048576) (sym same) c.self.invariant.few;
      whole = c.self.invariant.whole;
      low = c.self.invariant.low;
      high = c.self.invariant.high;
    }

pub returns-in-Some-data_place-clause-live : goal.returns-in-Some-data_place-clause-live
returns-in-Some-data_place-clause-live g c =
    (λ _. data_live c.args.self.now c.args.address c.args.n c.in-Some-data_place.at c.stack_place.ensures.memory c.in-Some-data_place.ensures.place, λ _. refl)

pub returns-in-Some-data_place-clause-old : goal.returns-in-Some-data_place-clause-old
returns-in-Some-data_place-clause-old g c =
    let at = c.in-Some-data_place.at in
    c.exchange-in-Some-data_place.ensures.old
    ∙ ap (λ xs. slice_range xs at (at + c.args.n)) (c.deref_mut-in-Some-data_place.ensures.value ∙ ap (λ (m : Buffers). m.data_bytes) c.self.view_is)
    ∙ sym (data_read c.args.self.now c.args.address c.args.n at c.stack_place.ensures.memory c.in-Some-data_place.ensures.place)

pub returns-in-Some-data_place-clause-new : goal.returns-in-Some-data_place-clause-new
returns-in-Some-data_place-clause-new g c =
    let at = c.in-Some-data_place.at in
    let place = c.in-Some-data_place.ensures.place in
    let h = subst (λ (m : Buffers). at + c.args.n ≤ length m.data_bytes) (sym c.self.view_is) place.1 in
    ap (λ xs. let w : Buffers = record { data_bytes = xs; stack_bytes = c.self.inside.stack_bytes.items; top = c.self.inside.top } in w)
    (written c.self.inside.data_bytes c.deref_mut-in-Some-data_place.result.now c.exchange-in-Some-data_place.new.target at c.args.n c.args.v c.deref_mut-in-Some-data_place.ensures.value c.exchange-in-Some-data_place.ensures.new h)
    ∙ ap (λ (m : Buffers). let w : Buffers = record m { data_bytes = over m.data_bytes at (low_bytes c.args.n c.args.v) } in w) c.self.view_is
    ∙ sym (data_written c.args.self.now c.args.address c.args.n at c.stack_place.ensures.memory place (low_bytes c.args.n c.args.v))
