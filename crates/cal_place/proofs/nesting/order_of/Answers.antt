use Rattle.std.proofs.Common.{◌≡◌, ◌<◌, ℕ, List, Vec, Global, get_or, length, sym, subst, ◌∙◌, arith}
use Rattle.std.proofs.lemmas.List.{get_or_default}
use Rattle.hw_graph.specs.Graph.{IsLeastCycle}
use Rattle.hw_graph.specs.Loop.{AtLoop}
use Rattle.hw_graph.specs.declared.order_end.OrderEnd.{OrderEnd}
use Rattle.hw_graph.specs.declared.order_end.OrderEnd.TheVariants.{Loop}
use Rattle.hw_names.specs.Name.{Text}
use Rattle.cal_place.specs.inside.Entries.{AreNumerals, IsFirstOnCycle}
use Rattle.cal_place.proofs.HolderLemmas.{first_on_cycle}
use Rattle.cal_place.proofs.nesting.order_of.Goals.{In-Err-Loop}
use Rattle.cal_place.proofs.nesting.order_of.Goals as goal

at_loop : (reads : List (List ℕ)) (names : List Text) (end : OrderEnd) (ports : Vec ℕ Global) → end ≡ Loop ports → AtLoop end (λ ports. IsLeastCycle reads names ports) → IsLeastCycle reads names ports.items
at_loop reads names end ports is least = subst (λ (e : OrderEnd). AtLoop e (λ ports. IsLeastCycle reads names ports)) is least

cycle_of : (c : In-Err-Loop) → IsLeastCycle c.args.reads.now c.in_ok-numerals.numerals c.in-Err-Loop.ports.items
cycle_of c = at_loop c.args.reads.now c.in_ok-numerals.numerals c.in-Err-Loop.field-0 c.in-Err-Loop.ports c.in-Err-Loop.field-0-is c.in-Err-Loop.ensures.cycle

pub order_or_least_loop-requires : goal.order_or_least_loop-requires
order_or_least_loop-requires c =
    let are = c.in_ok-numerals.ensures in
    record {
      in_range = c.requires;
      names = sym (are.sized ∙ c.len.ensures);
      room = omega (arith, are.few, c.len.ensures);
    }

pub index-requires : goal.index-requires
index-requires c =
    let cycle = cycle_of (goal.at.index-requires c).In-Err-Loop in
    omega (arith, cycle.is_cycle.some, c.in-Err-Loop.ports.ok.0)

pub returns-in-Err-Loop : goal.returns-in-Err-Loop
returns-in-Err-Loop c =
    let reads = c.args.reads.now in
    let ports = c.in-Err-Loop.ports.items in
    let names = c.in_ok-numerals.numerals in
    let cycle = cycle_of (goal.at.returns-in-Err-Loop c).In-Err-Loop in
    let are = subst (λ k. AreNumerals k names) c.len.ensures c.in_ok-numerals.ensures in
    let within : 0 < length ports = cycle.is_cycle.some in
    let same : get_or ports 0 0 ≡ c.index.result.now = get_or_default ports 0 0 c.index.result.now within ∙ sym c.index.ensures in
    subst (IsFirstOnCycle reads) same (first_on_cycle reads names ports are cycle)
