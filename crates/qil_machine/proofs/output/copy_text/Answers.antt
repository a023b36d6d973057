-- By hand, as a search takes four seconds to find them: one byte more of the text, and the byte 10 after all.
use Rattle.std.proofs.Common.{◌≡◌, ◌∙◌, ◌+◌, List, [], ◌∷◌, ◌++◌, refl, sym, ap, append_assoc, arith}
use Rattle.std.proofs.lemmas.List.{append-nil}
use Rattle.qil_memory.specs.Live.{live}
use Rattle.qil_machine.specs.Calls.{bytes_from}
use Rattle.qil_machine.proofs.Texts.{bytes_more}
use Rattle.qil_machine.proofs.output.copy_text.Goals as goal

pub loop-i-init : goal.loop-i-init
loop-i-init g c = record {
  items = sym (append-nil c.args.output.now.items);
  long = omega arith;
  room = refl;
}

pub unreachable-requires : goal.unreachable-requires
unreachable-requires g c = c.requires.live c.loop-i.i c.loop-i-test.true (sym c.in-None.ensures.value)

pub unreachable-unreachable : goal.unreachable-unreachable
unreachable-unreachable g c = c.unreachable.result

pub loop-i-preserved : goal.loop-i-preserved
loop-i-preserved g c = record {
  items = c.push_reserved.ensures.items ∙ ap (λ xs. xs ++ c.in-Some.byte ∷ []) c.loop-i.invariant.items
      ∙ append_assoc c.args.output.now.items (bytes_from (live c.args.memory.now) c.args.address c.loop-i.i) (c.in-Some.byte ∷ [])
      ∙ ap (λ xs. c.args.output.now.items ++ xs) (sym (bytes_more (live c.args.memory.now) c.args.address c.loop-i.i c.in-Some.byte c.in-Some.ensures.value));
  long = omega (arith, c.push_reserved.ensures.len, c.loop-i.invariant.long);
  room = c.push_reserved.ensures.capacity ∙ c.loop-i.invariant.room;
}

pub returns-clause-items : goal.returns-clause-items
returns-clause-items g c =
    let all : c.loop-i.i ≡ c.args.count = omega arith in
    c.push_reserved-2.ensures.items ∙ ap (λ xs. xs ++ 10 ∷ []) (c.loop-i.invariant.items ∙ ap (λ n. c.args.output.now.items ++ bytes_from (live c.args.memory.now) c.args.address n) all)
    ∙ append_assoc c.args.output.now.items (bytes_from (live c.args.memory.now) c.args.address c.args.count) (10 ∷ [])
