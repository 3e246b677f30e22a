use Rattle.std.proofs.Common.{◌≡◌, ◌+◌, ◌<◌, ◌∙◌, ◌++◌, ◌∷◌, [], ℕ, List, ap, sym, subst, length, map, get_or, take}
use Rattle.std.proofs.lemmas.List.{map-append, take_all, take_more}
use Rattle.hw_names.specs.Name.{Text}
use Rattle.net_core.specs.Netlist.{netlist_of}
use Rattle.net_core.specs.Rules.{IsValid}
use Rattle.net_core.specs.declared.net.Net.{Net}
use Rattle.net_core.specs.declared.stimulus.MemLoad.{MemLoad}
use Rattle.net_sim.specs.Sim.{IsLoadedSim}
use Rattle.stim_read.specs.CycleRun.{Load, load_seen}
use Rattle.filc_load.specs.Given.{after_load, after_loads}
use Rattle.filc_report.proofs.LoadedLemmas.{loads_more}
use Rattle.filc_report.proofs.net_run.load_memories.Goals as goal

pub load_memory-requires-clause-valid : goal.load_memory-requires-clause-valid
load_memory-requires-clause-valid c = subst (λ (m : Net). IsValid (netlist_of m)) (sym c.loop-load.invariant.0) c.requires.valid

pub loop-load-preserved : goal.loop-load-preserved
loop-load-preserved c = (
  c.load_memory.ensures.net ∙ c.loop-load.invariant.0,
  c.load_memory.ensures.fresh,
  λ before loaded.
      let net = c.args.sim.now.net in
      let n = netlist_of net in
      let loads = c.args.loads.now in
      let i = c.loop-load.load-index in
      let last = c.load-item.result in
      let here : i < length loads = c.loop-load-test.true in
      let so_far = map load_seen (take i loads) in
      let more = subst (λ (m : Net). (words : Text → List ℕ) → IsLoadedSim m words c.loop-load.sim → IsLoadedSim m (after_load (netlist_of m) (load_seen last) words) c.load_memory.new.sim) c.loop-load.invariant.0 c.load_memory.ensures.loaded in
      let after = more (after_loads n so_far before) (c.loop-load.invariant.2 before loaded) in
      let longer : so_far ++ load_seen last ∷ [] ≡ map load_seen (take (i + 1) loads) =
      ap (λ (l : MemLoad). so_far ++ load_seen l ∷ []) c.load-item.is ∙ sym (map-append load_seen (take i loads) (get_or loads i last ∷ [])) ∙ ap (map load_seen) (sym (take_more loads i last here)) in
      subst (λ (l : List Load). IsLoadedSim net (after_loads n l before) c.load_memory.new.sim) longer
      (subst (λ (words : Text → List ℕ). IsLoadedSim net words c.load_memory.new.sim) (sym (loads_more n so_far (load_seen last) before)) after),
)

pub returns-clause-loaded : goal.returns-clause-loaded
returns-clause-loaded c = λ before loaded.
    let net = c.args.sim.now.net in
    subst (λ (l : List MemLoad). IsLoadedSim net (after_loads (netlist_of net) (map load_seen l) before) c.loop-load.sim) (take_all c.loop-load.load-index c.args.loads.now c.loop-load-test.false) (c.loop-load.invariant.2 before loaded)
