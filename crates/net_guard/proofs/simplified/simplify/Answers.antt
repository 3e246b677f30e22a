use Rattle.std.proofs.Common.{List, All, map, refl, sym, ap, subst, ◌∙◌}
use Rattle.net_core.specs.Netlist.{cell_of, netlist_of}
use Rattle.net_core.specs.Numbers.{CellHasNumbers, SetHasNumbers}
use Rattle.net_core.specs.declared.net.Net.{Net}
use Rattle.net_core.specs.declared.net.NetAssign.{NetAssign}
use Rattle.net_core.specs.declared.net.NetCell.{NetCell}
use Rattle.net_guard.proofs.LoopLemmas.{has_no_loop}
use Rattle.net_guard.proofs.RuleLemmas.{is_valid}
use Rattle.net_guard.proofs.SetLemmas.{IsCopy, copy_has_folded_guards, copy_has_numbers, copy_is_simplified}
use Rattle.net_guard.specs.inside.Folding.{SetsFoldTo}
use Rattle.net_guard.proofs.simplified.simplify.Goals as goal

pub returns : goal.returns
returns c =
    let old = c.args.net.now in
    let new : Net = record { names = c.in_ok-names.names; name = old.name; ins = c.in_ok-ins.ins; outs = c.in_ok-outs.outs; wires = c.in_ok-wires.wires; cells = c.in_ok-cells.cells; sets = c.in_ok-sets.sets } in
    let C : List NetCell → Type 0 = All (CellHasNumbers old.names) in
    let A : List NetAssign → Type 0 = All (SetHasNumbers old.names) in
    let S : List NetAssign → Type 0 = λ olds. SetsFoldTo old.names olds c.in_ok-sets.sets.items in
    let same : IsCopy old new = record {
      names = c.in_ok-names.ensures;
      name = refl;
      ins = c.in_ok-ins.ensures.items ∙ c.deref.ensures.value;
      outs = c.in_ok-outs.ensures.items ∙ c.deref-2.ensures.value;
      wires = c.in_ok-wires.ensures.items ∙ c.deref-3.ensures.value;
      cells = λ texts. c.in_ok-cells.ensures.same texts ∙ ap (map (cell_of texts)) c.deref-4.ensures.value;
      cell_numbers = λ has. c.in_ok-cells.ensures.numbers old.names (subst C (sym c.deref-4.ensures.value) has);
    } in
    let fold : S old.sets.items = subst S c.deref-5.ensures.value (c.in_ok-sets.ensures old.names (subst A (sym c.deref-5.ensures.value) c.requires.sets)) in
    let simplified = copy_is_simplified old new same fold in
    record {
      numbers = copy_has_numbers old new same fold c.requires;
      simplified = simplified;
      folded = copy_has_folded_guards old new same fold;
      valid = is_valid (netlist_of old) (netlist_of new) simplified;
      no_loop = has_no_loop (netlist_of old) (netlist_of new) simplified;
    }
