-- The parameters, then the blocks, over nothing: by hand, as a search takes two seconds to find it.
use Rattle.std.specs.List.{flat_map}
use Rattle.qil_semantics.specs.Names.{block_names}
use Rattle.qil_code.specs.Gather.{param_names}
use Rattle.qil_code.proofs.Once.{gathered}
use Rattle.qil_resolution.proofs.gather.temps_of.Goals as goal

pub returns : goal.returns
returns g c =
    rw (c.in_ok-note_blocks.ensures, c.in_ok-note_params.ensures, c.new-names.ensures, c.as_slice.ensures, c.as_slice-2.ensures) (gathered (param_names c.args.func.now.params) (flat_map block_names c.args.func.now.blocks))
