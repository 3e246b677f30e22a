use Rattle.std.proofs.Common.{◌≤◌, ◌∙◌, List, sym, subst}
use Rattle.std.specs.Prelude.{All}
use Rattle.hw_bits.specs.declared.bits.TheConstants.{MAX_WIDTH}
use Rattle.hw_names.specs.Name.{AreDistinct}
use Rattle.net_core.specs.declared.stimulus.InputShape.{InputShape}
use Rattle.net_core.specs.Netlist.{netlist_of}
use Rattle.net_core.specs.declared.stimulus.MemShape.{MemShape}
use Rattle.stim_read.specs.CycleRules.{input_targets, memory_targets}
use Rattle.stim_read.specs.CycleRun.{IsCause}
use Rattle.stim_read.specs.Fits.{FitsRun}
use Rattle.filc_load.proofs.CauseLemmas.{gives_nothing_for}
use Rattle.filc_load.proofs.FitLemmas.{fits_net}
use Rattle.filc_load.proofs.SettableLemmas.{inputs_differ, memories_differ, inputs_have_widths, memories_have_widths}
use Rattle.filc_load.specs.Settable.{settable_inputs}
use Rattle.filc_load.specs.StimulusFile.{run_causes}
use Rattle.filc_load.proofs.stimulus.judge_cycles.Goals as goal

pub read_cycles-requires-clause-inputs : goal.read_cycles-requires-clause-inputs
read_cycles-requires-clause-inputs c =
    subst (λ (ins : List InputShape). AreDistinct (input_targets ins).names) (sym (c.deref.ensures.value ∙ c.in_ok-ins.ensures)) (inputs_differ (netlist_of c.args.built.now.net) c.requires.ready.valid)

pub read_cycles-requires-clause-memories : goal.read_cycles-requires-clause-memories
read_cycles-requires-clause-memories c =
    subst (λ (mems : List MemShape). AreDistinct (memory_targets mems).names) (sym (c.deref-2.ensures.value ∙ c.in_ok-memories.ensures)) (memories_differ (netlist_of c.args.built.now.net) c.requires.ready.valid)

pub read_cycles-requires-clause-input_widths : goal.read_cycles-requires-clause-input_widths
read_cycles-requires-clause-input_widths c =
    subst (λ (ins : List InputShape). All (λ (i : InputShape). (1 ≤ i.width) × (i.width ≤ MAX_WIDTH)) ins) (sym (c.deref.ensures.value ∙ c.in_ok-ins.ensures)) (inputs_have_widths (netlist_of c.args.built.now.net) c.requires.ready.valid)

pub read_cycles-requires-clause-memory_widths : goal.read_cycles-requires-clause-memory_widths
read_cycles-requires-clause-memory_widths c =
    subst (λ (mems : List MemShape). All (λ (m : MemShape). (1 ≤ m.width) × (m.width ≤ MAX_WIDTH)) mems) (sym (c.deref-2.ensures.value ∙ c.in_ok-memories.ensures)) (memories_have_widths (netlist_of c.args.built.now.net) c.requires.ready.valid)

pub returns-in-Ok-clause-fits : goal.returns-in-Ok-clause-fits
returns-in-Ok-clause-fits c =
    let n = netlist_of c.args.built.now.net in
    let ins = c.deref.ensures.value ∙ c.in_ok-ins.ensures in
    let mems = c.deref-2.ensures.value ∙ c.in_ok-memories.ensures in
    fits_net n c.in-Ok.list
    (subst (λ (ms : List MemShape). FitsRun (settable_inputs n) ms c.in-Ok.list) mems (subst (λ (ps : List InputShape). FitsRun ps c.deref-2.result.now c.in-Ok.list) ins c.in-Ok.ensures.fits))

pub returns-clause-refused : goal.returns-clause-refused
returns-clause-refused c =
    let n = netlist_of c.args.built.now.net in
    let text = c.args.text.now in
    let ins = c.deref.ensures.value ∙ c.in_ok-ins.ensures in
    let mems = c.deref-2.ensures.value ∙ c.in_ok-memories.ensures in
    let cause = subst (λ (ms : List MemShape). IsCause text (settable_inputs n) ms c.in-Err.end) mems (subst (λ (ps : List InputShape). IsCause text ps c.deref-2.result.now c.in-Err.end) ins c.in-Err.ensures.cause) in
    gives_nothing_for (run_causes text n) c.in-Err.end text c.stop_of.result cause (c.stop_of.ensures.cause text c.requires.within)
