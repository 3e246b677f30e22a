use Rattle.std.proofs.Common.{ap, ◌∙◌}
use Rattle.hw_bits.specs.declared.bits.Bits.{Bits}
use Rattle.hw_prims.specs.Meaning.{output_values}
use Rattle.std.specs.Prelude.{slice_index}
use Rattle.net_sim.proofs.CellInputLemmas.{cut_of_map}
use Rattle.net_sim.proofs.evaluate.output_value.Goals as goal

pub comb-requires-clause-inputs : goal.comb-requires-clause-inputs
comb-requires-clause-inputs c =
    rw (c.requires.prim, c.inputs.ensures) (cut_of_map (λ (x : Bits). x.width) c.args.values.now c.args.cell.first _ ∙ c.requires.inputs)

pub returns-clause-value : goal.returns-clause-value
returns-clause-value c =
    c.comb.ensures.value ∙ rw (c.requires.prim, c.inputs.ensures) (ap (λ ins. slice_index (output_values c.args.cell.prim c.args.state.now.state ins) c.args.output) (cut_of_map (λ (x : Bits). x.value) c.args.values.now c.args.cell.first _))
