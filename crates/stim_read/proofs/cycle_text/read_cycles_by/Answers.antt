use Rattle.std.proofs.Common.{Global, Vec, map, option_map, sym, ap, ◌∙◌}
use Rattle.serde_json.specs.View.{view}
use Rattle.stim_read.specs.CycleText.{entry_seen, words_seen, memories_in}
use Rattle.stim_read.specs.declared.cycle_text.InputEntry.{InputEntry}
use Rattle.stim_read.specs.declared.cycle_text.MemoryWords.{MemoryWords}
use Rattle.stim_read.proofs.MeaningLemmas.{no_count, no_inputs, no_memories, by_parts}
use Rattle.stim_read.proofs.cycle_text.read_cycles_by.Goals as goal

pub returns-in_default : goal.returns-in_default
returns-in_default c = sym (no_count c.args.version (view c.args.value.now) (sym c.number_at.ensures ∙ c.in_default.is))

pub returns-in_default-2 : goal.returns-in_default-2
returns-in_default-2 c =
    sym (no_inputs c.args.version (view c.args.value.now) c.in-Some.cycles (sym c.number_at.ensures ∙ c.in-Some.is)
    (sym c.in_ok-inputs.ensures ∙ ap (option_map (λ (v : Vec InputEntry Global). map entry_seen v.items)) c.in_default-2.is))

pub returns-in_default-3 : goal.returns-in_default-3
returns-in_default-3 c =
    sym (no_memories c.args.version (view c.args.value.now) c.in-Some.cycles (map entry_seen c.in-Some-2.inputs.items) (sym c.number_at.ensures ∙ c.in-Some.is)
    (sym c.in_ok-inputs.ensures ∙ ap (option_map (λ (v : Vec InputEntry Global). map entry_seen v.items)) c.in-Some-2.is)
    (ap (memories_in c.args.version) (sym c.get.ensures) ∙ sym c.in_ok-memories.ensures ∙ ap (option_map (λ (v : Vec MemoryWords Global). map words_seen v.items)) c.in_default-3.is))

pub returns : goal.returns
returns c =
    sym (by_parts c.args.version (view c.args.value.now) c.in-Some.cycles (map entry_seen c.in-Some-2.inputs.items) (map words_seen c.in-Some-3.memories.items) (sym c.number_at.ensures ∙ c.in-Some.is)
    (sym c.in_ok-inputs.ensures ∙ ap (option_map (λ (v : Vec InputEntry Global). map entry_seen v.items)) c.in-Some-2.is)
    (ap (memories_in c.args.version) (sym c.get.ensures) ∙ sym c.in_ok-memories.ensures ∙ ap (option_map (λ (v : Vec MemoryWords Global). map words_seen v.items)) c.in-Some-3.is))
