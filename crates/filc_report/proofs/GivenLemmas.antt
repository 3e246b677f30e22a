-- What a list of the program gives to a run is what its stimulus says.
use Rattle.std.proofs.Common.{◌≡◌, Bool, false, if◌then◌else◌, List, [], map, ap, ◌∙◌}
use Rattle.net_core.specs.Netlist.{Netlist}
use Rattle.net_core.specs.declared.stimulus.CycleList.{CycleList}
use Rattle.net_core.specs.declared.stimulus.MemLoad.{MemLoad}
use Rattle.hw_names.specs.Name.{Text}
use Rattle.stim_read.specs.CycleRun.{load_seen, run_seen}
use Rattle.filc_load.specs.Given.{after_loads, driven}
use Rattle.filc_report.specs.Runs.{no_loads, plain_run, run_from, stimulus_run}
use Rattle.filc_report.proofs.RunLemmas.{no_sets}

-- the run of a stimulus
pub stimulus_run_is : (n : Netlist) (list : CycleList) (head : Text) (all : Bool) → run_from n list head all ≡ stimulus_run n (run_seen list) head all
stimulus_run_is n list head all = λ k. record {
  net = n;
  cycles = list.cycles;
  inputs = driven n list.sets.items;
  loads = after_loads n (map load_seen list.loads.items) no_loads;
  head = head;
  line = (run_from n list head all).line;
  last = (run_from n list head all).last;
}

-- a run without settings and loads
pub plain_run_is : (n : Netlist) (list : CycleList) → list.sets.items ≡ [] → list.loads.items ≡ [] → run_from n list [] false ≡ plain_run n list.cycles
plain_run_is n list no_set no_load = λ k. record {
  net = n;
  cycles = list.cycles;
  inputs = (ap (driven n) no_set ∙ no_sets n) k;
  loads = ap (λ (loads : List MemLoad). after_loads n (map load_seen loads) no_loads) no_load k;
  head = [];
  line = (plain_run n list.cycles).line;
  last = (plain_run n list.cycles).last;
}
