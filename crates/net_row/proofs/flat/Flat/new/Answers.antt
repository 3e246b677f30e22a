use Rattle.std.proofs.Common.{◌≡◌, ◌+◌, ◌∙◌, ℕ, List, length, ap, sym, arith, subst, All}
use Rattle.std.specs.Prelude.{slice_index}
use Rattle.hw_prims.specs.Table.{IsMade}
use Rattle.net_core.specs.Netlist.{netlist_of}
use Rattle.net_core.specs.declared.net.Net.{Net}
use Rattle.net_sim.proofs.SimLemmas.{all_made}
use Rattle.net_sim.specs.declared.cells.CellPorts.{CellPorts}
use Rattle.net_steps.specs.Others.{AreCounted}
use Rattle.net_steps.specs.declared.other.Other.{Other as OtherCell}
use Rattle.net_row.proofs.FlatOtherLemmas.{are_counted}
use Rattle.net_row.proofs.FlatRowLemmas.{zeros}
use Rattle.net_row.proofs.FlatSourceLemmas.{has_built, is_new_flat}
use Rattle.net_row.proofs.FlatSimLemmas.{of_place}
use Rattle.net_row.specs.Flats.{AreOthers}
use Rattle.net_row.specs.Programs.{AreFit, AreProgramsOf, program_at}
use Rattle.net_row.specs.Kinds.{kept_in, kinds_of}
use Rattle.net_row.specs.Program.{IsProgram}
use Rattle.net_row.proofs.flat.Flat.new.Goals as goal

pub others-requires-clause-made : goal.others-requires-clause-made
others-requires-clause-made c =
    subst (λ cells. All (λ (p : CellPorts). IsMade p.prim) cells) (sym c.as_slice-2.ensures.value) (all_made (netlist_of c.args.net.now) c.in_ok-cells.cells.items c.in_ok-cells.ensures)

pub compile_all-requires-clause-counted : goal.compile_all-requires-clause-counted
compile_all-requires-clause-counted c =
    subst AreCounted (sym c.as_slice-4.ensures.value) (are_counted c.as_slice-2.result.now c.in_ok-others.others.items c.in_ok-others.ensures.are)

pub invariant_of-result : goal.invariant_of-result
invariant_of-result c =
    let n = netlist_of c.args.net.now in
    let cells = c.in_ok-cells.cells.items in
    let programs = c.in_ok-programs.programs in
    let place = c.len-2.result in
    let others = c.in_ok-others.others.items in
    let kept = c.in_ok-kept.kept.items in
    let slots = c.in_ok-slots.slots.items in
    let shown = c.in_ok-shown.shown.items in
    let numbered = c.in_ok-numbered.numbered in
    let same : numbered.cells.now ≡ cells = c.in_ok-numbered.ensures.cells ∙ c.as_slice.ensures.value in
    let of_net = c.in_ok-numbered.ensures.net in
    let programs_are : AreProgramsOf n cells programs = subst (λ (cs : List CellPorts). AreProgramsOf n cs programs) same (subst (λ (w : Net). AreProgramsOf (netlist_of w) numbered.cells.now programs) of_net c.in_ok-programs.ensures.are) in
    let fit : AreFit (kept_in cells + length n.ins) others programs =
    subst (λ (os : List OtherCell). AreFit (kept_in cells + length n.ins) os programs) c.as_slice-4.ensures.value
    (subst (λ (cs : List CellPorts). AreFit (kept_in cs + length n.ins) c.as_slice-4.result.now programs) same
    (subst (λ (w : Net). AreFit (kept_in numbered.cells.now + length (netlist_of w).ins) c.as_slice-4.result.now programs) of_net c.in_ok-programs.ensures.fit)) in
    let kinds = numbered.kinds.of_cells.items in
    let kinds_are : kinds ≡ kinds_of cells = c.in_ok-numbered.ensures.numbered.kinds ∙ ap kinds_of same in
    let program_is = of_place (IsProgram n cells) programs programs_are.general programs_are.cases place in
    let has = has_built n c.requires.valid c.args.table.now c.requires.table c.len.ensures.distinct c.args.order.now c.requires.order cells c.in_ok-cells.ensures kinds kinds_are (program_at programs place) program_is shown c.in_ok-shown.ensures (c.is_narrow.ensures c.if-not-is_narrow.false) in
    let are : AreOthers cells others = subst (λ (cs : List CellPorts). AreOthers cs others) c.as_slice-2.ensures.value c.in_ok-others.ensures.are in
    let no_kept = λ (k : ℕ). ap (λ l. slice_index l k) (c.in_ok-kept.ensures.items_if_clones_equal (λ y e. cc)) ∙ zeros numbered.kinds.kept k in
    let no_slots = λ (k : ℕ). ap (λ l. slice_index l k) (c.in_ok-slots.ensures.items_if_clones_equal (λ y e. cc)) ∙ zeros programs.room k in
    let kept_all : length kept ≡ kept_in cells = omega (arith, c.in_ok-kept.ensures.len, c.in_ok-kept.kept.ok.0, c.in_ok-numbered.ensures.numbered.kept, ap kept_in same) in
    let room : programs.room ≡ length slots = omega (arith, c.in_ok-slots.ensures.len, c.in_ok-slots.slots.ok.0) in
    let new = is_new_flat c.args.net.now c.args.table.now kinds programs place shown cells has programs_are others kept slots are fit c.in_ok-others.ensures.opening no_kept no_slots kept_all room in
    record { built = new.built; are = new.are; values = new.values; programs_are = new.programs_are; fit = new.fit; room = room; evaluated = tt }

pub returns : goal.returns
returns c =
    let n = netlist_of c.args.net.now in
    let cells = c.in_ok-cells.cells.items in
    let programs = c.in_ok-programs.programs in
    let place = c.len-2.result in
    let others = c.in_ok-others.others.items in
    let kept = c.in_ok-kept.kept.items in
    let slots = c.in_ok-slots.slots.items in
    let shown = c.in_ok-shown.shown.items in
    let numbered = c.in_ok-numbered.numbered in
    let same : numbered.cells.now ≡ cells = c.in_ok-numbered.ensures.cells ∙ c.as_slice.ensures.value in
    let of_net = c.in_ok-numbered.ensures.net in
    let programs_are : AreProgramsOf n cells programs = subst (λ (cs : List CellPorts). AreProgramsOf n cs programs) same (subst (λ (w : Net). AreProgramsOf (netlist_of w) numbered.cells.now programs) of_net c.in_ok-programs.ensures.are) in
    let fit : AreFit (kept_in cells + length n.ins) others programs =
    subst (λ (os : List OtherCell). AreFit (kept_in cells + length n.ins) os programs) c.as_slice-4.ensures.value
    (subst (λ (cs : List CellPorts). AreFit (kept_in cs + length n.ins) c.as_slice-4.result.now programs) same
    (subst (λ (w : Net). AreFit (kept_in numbered.cells.now + length (netlist_of w).ins) c.as_slice-4.result.now programs) of_net c.in_ok-programs.ensures.fit)) in
    let kinds = numbered.kinds.of_cells.items in
    let kinds_are : kinds ≡ kinds_of cells = c.in_ok-numbered.ensures.numbered.kinds ∙ ap kinds_of same in
    let program_is = of_place (IsProgram n cells) programs programs_are.general programs_are.cases place in
    let has = has_built n c.requires.valid c.args.table.now c.requires.table c.len.ensures.distinct c.args.order.now c.requires.order cells c.in_ok-cells.ensures kinds kinds_are (program_at programs place) program_is shown c.in_ok-shown.ensures (c.is_narrow.ensures c.if-not-is_narrow.false) in
    let are : AreOthers cells others = subst (λ (cs : List CellPorts). AreOthers cs others) c.as_slice-2.ensures.value c.in_ok-others.ensures.are in
    let no_kept = λ (k : ℕ). ap (λ l. slice_index l k) (c.in_ok-kept.ensures.items_if_clones_equal (λ y e. cc)) ∙ zeros numbered.kinds.kept k in
    let no_slots = λ (k : ℕ). ap (λ l. slice_index l k) (c.in_ok-slots.ensures.items_if_clones_equal (λ y e. cc)) ∙ zeros programs.room k in
    let kept_all : length kept ≡ kept_in cells = omega (arith, c.in_ok-kept.ensures.len, c.in_ok-kept.kept.ok.0, c.in_ok-numbered.ensures.numbered.kept, ap kept_in same) in
    let room : programs.room ≡ length slots = omega (arith, c.in_ok-slots.ensures.len, c.in_ok-slots.slots.ok.0) in
    let new = is_new_flat c.args.net.now c.args.table.now kinds programs place shown cells has programs_are others kept slots are fit c.in_ok-others.ensures.opening no_kept no_slots kept_all room in
    new.new
