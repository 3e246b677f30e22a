use Rattle.std.proofs.Common.{◌≡◌, ℕ, ◌<◌, List, Some, All, length, slice_get, arith, subst, sym, ◌∙◌}
use Rattle.std.proofs.lemmas.Option.{slice_get_within}
use Rattle.std.proofs.lemmas.Result.{IfOk-weaker}
use Rattle.hw_graph.specs.Groups.{IsGathered}
use Rattle.hw_graph.specs.declared.groups.Entry.{Entry}
use Rattle.cal_place.specs.Around.{comp_at, design_at}
use Rattle.cal_loops.proofs.CellPinLemmas.{ports_gathered, ports_within}
use Rattle.cal_wires.proofs.WiredCellLemmas.{cells_counted}
use Rattle.cal_loops.proofs.cells.cell_nodes.Goals as goal

pub gather-requires-clause-in_range : goal.gather-requires-clause-in_range
gather-requires-clause-in_range c =
    let p = c.args.place.now in
    let comp = c.comp.result.now in
    let entries = c.in_ok-entries.entries.items in
    let same : length (comp_at p).cells ≡ c.len-count.result = omega (arith, cells_counted p comp c.comp.ensures.comp, c.len-count.ensures, comp.cells.ok.0) in
    let within = ports_within (design_at p) (comp_at p) c.args.graph.now entries c.in_ok-entries.ensures in
    let counted = subst (λ (n : ℕ). All (λ (e : Entry). e.key < n) entries) same within in
    subst (λ (l : List Entry). All (λ (e : Entry). e.key < c.len-count.result) l) (sym c.as_slice.ensures.value) counted

pub returns-clause-all : goal.returns-clause-all
returns-clause-all c =
    let p = c.args.place.now in
    let comp = c.comp.result.now in
    let same : c.len-count.result ≡ length (comp_at p).cells = omega (arith, cells_counted p comp c.comp.ensures.comp, c.len-count.ensures, comp.cells.ok.0) in
    IfOk-weaker c.gather.result _ _ (λ (nodes : List (List ℕ)) (is : IsGathered c.as_slice.result.now c.len-count.result nodes). is.all ∙ same) c.gather.ensures

pub returns-clause-each : goal.returns-clause-each
returns-clause-each c =
    let p = c.args.place.now in
    let count = c.len-count.result in
    let entries = c.in_ok-entries.entries.items in
    IfOk-weaker c.gather.result _ _
    (λ (nodes : List (List ℕ)) (is : IsGathered c.as_slice.result.now count nodes) (number : ℕ) (ports : List ℕ) (at : slice_get nodes number ≡ Some ports).
    let gathered = subst (λ (l : List Entry). IsGathered l count nodes) c.as_slice.ensures.value is in
    let less : number < count = omega (arith, slice_get_within nodes number ports at, is.all) in
    ports_gathered (design_at p) (comp_at p) c.args.graph.now entries c.in_ok-entries.ensures count nodes gathered number less ports at)
    c.gather.ensures
