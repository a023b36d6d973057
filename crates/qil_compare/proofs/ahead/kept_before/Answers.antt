-- What is kept is of the innermost frame, which there is unless the run is over.
use Rattle.std.proofs.Common.{refl, sym, ap, subst, length}
use Rattle.qil_tree.specs.declared.tree.Program.{Program}
use Rattle.qil_state.specs.State.{FrameFits, state_of}
use Rattle.qil_state.proofs.Reading.{innermost_fits}
use Rattle.qil_compare.proofs.Stretching.{stretch_first}
use Rattle.qil_compare.proofs.ahead.kept_before.Goals as goal

pub look_ahead-stretch-requires-clause-fits : goal.look_ahead-stretch-requires-clause-fits
look_ahead-stretch-requires-clause-fits g c =
    let w = g.M.Readers.whole c.args.machine.now in
    subst (λ (q : Program _). FrameFits q c.in-Some.frame) (sym c.code_of-code.ensures) (innermost_fits w.program w.frames c.in-Some.frame c.innermost.ensures.machine.frames (sym c.in-Some.ensures.frame))

pub returns : goal.returns
returns g c =
    let w = g.M.Readers.whole c.args.machine.now in
    record {
      depth = c.depth-depth.ensures;
      output = ap length c.output-written.ensures;
      ahead = stretch_first w.program c.code_of-code.result.now c.args.kinds w.frames c.in-Some.frame (state_of w) c.func.result c.look_ahead-stretch.result.ahead c.look_ahead-stretch.result.moves
          c.code_of-code.ensures (sym c.in-Some.ensures.frame) refl c.look_ahead-stretch.ensures c.func.ensures;
    }
