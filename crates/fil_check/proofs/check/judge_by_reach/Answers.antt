use Rattle.std.proofs.Common.{◌≡◌, ◌≤◌, ◌<◌, List, length, take, get_or, slice_get, Some, sym, ap, subst, ◌∙◌, arith}
use Rattle.std.proofs.lemmas.List.{length-map, take_all}
use Rattle.hw_names.specs.Name.{text_of}
use Rattle.fil_ast.specs.Limits.{KeepsLimits}
use Rattle.fil_ast.specs.Tree.{Design, component_tree, design_of}
use Rattle.fil_ast.specs.declared.tree.FilComp.{FilComp}
use Rattle.fil_check.specs.First.{TellsFirst}
use Rattle.fil_place.specs.Tables.{ShowsEarlier}
use Rattle.fil_check.specs.declared.rules.FilEnd.TheVariants as design
use Rattle.fil_rules.proofs.ItemLemmas.{passed_up}
use Rattle.fil_loops.specs.Wired.{HaveNoLoop, IsFirstLoop, IsWired}
use Rattle.fil_loops.specs.declared.wires.Wired.{Wired}
use Rattle.fil_check.proofs.DesignLemmas.{all_keep, component_ends, keep_more, kept_so_far, looped}
use Rattle.fil_place.proofs.GeneralLemmas.{at_mapped}
use Rattle.fil_share.proofs.ListLemmas.{take_next}
use Rattle.fil_check.proofs.check.judge_by_reach.Goals as goal

pub returns-in_err-tables-clause-refused : goal.returns-in_err-tables-clause-refused
returns-in_err-tables-clause-refused c =
    let d = c.args.design.now in
    let n = c.loop-comp.comp-index in
    let comp = c.comp-item.result in
    let tree = component_tree d.names comp in
    let before = take n (design_of d) in
    let at : slice_get (design_of d) n ≡ Some tree = at_mapped (component_tree d.names) d.comps.items c.deref-comp-items.result.now n comp c.deref-comp-items.ensures.value c.loop-comp-test.true c.comp-item.is in
    let told = c.in_err-tables.ensures.broken before c.loop-comp.invariant.shown in
    let tells = component_ends d n comp c.in_err-tables.field-0.0 at c.loop-comp.invariant.kept told in
    passed_up c.from_residual.result c.in_err-tables.field-0.0 (TellsFirst d) c.from_residual.ensures.1 tells

pub judged-requires-clause-small : goal.judged-requires-clause-small
judged-requires-clause-small c =
    let comps = c.args.design.now.comps.items in
    let n = c.loop-comp.comp-index in
    let comp = c.comp-item.result in
    let is : comp ≡ get_or comps n comp = c.comp-item.is ∙ ap (λ (xs : List FilComp). get_or xs n comp) c.deref-comp-items.ensures.value in
    let within : n < length comps = omega (arith, ap length c.deref-comp-items.ensures.value) in
    let K : FilComp → Type 0 = KeepsLimits in
    subst K (sym is) (c.requires.small n comp within)

pub add_component-requires-clause-small : goal.add_component-requires-clause-small
add_component-requires-clause-small c =
    let comps = c.args.design.now.comps.items in
    let n = c.loop-comp.comp-index in
    let comp = c.comp-item.result in
    let is : comp ≡ get_or comps n comp = c.comp-item.is ∙ ap (λ (xs : List FilComp). get_or xs n comp) c.deref-comp-items.ensures.value in
    let within : n < length comps = omega (arith, ap length c.deref-comp-items.ensures.value) in
    let K : FilComp → Type 0 = KeepsLimits in
    subst K (sym is) (c.requires.small n comp within)

pub loop-comp-preserved : goal.loop-comp-preserved
loop-comp-preserved c =
    let d = c.args.design.now in
    let n = c.loop-comp.comp-index in
    let comp = c.comp-item.result in
    let tree = component_tree d.names comp in
    let before = take n (design_of d) in
    let at : slice_get (design_of d) n ≡ Some tree = at_mapped (component_tree d.names) d.comps.items c.deref-comp-items.result.now n comp c.deref-comp-items.ensures.value c.loop-comp-test.true c.comp-item.is in
    let S : Design → Type 0 = ShowsEarlier c.add_component.new.earlier in
    let W : Design → Type 0 = λ comps. IsWired d.names comps c.in_ok-wired.wired in
    record {
      shown = subst S (sym (take_next (design_of d) n tree at)) (c.in_ok-add_component.ensures before c.loop-comp.invariant.shown);
      kept = keep_more (design_of d) n tree at c.loop-comp.invariant.kept (c.in_ok-tables.ensures.kept before c.loop-comp.invariant.shown);
      wired = subst W (sym (take_next (design_of d) n tree at))
          (c.in_ok-wired.ensures before (c.in_ok-tables.ensures.tables before c.loop-comp.invariant.shown) (kept_so_far (design_of d) n c.loop-comp.invariant.kept) (c.in_ok-tables.ensures.kept before c.loop-comp.invariant.shown) c.loop-comp.invariant.wired);
    }

pub new-requires-in-Free-clause-rules : goal.new-requires-in-Free-clause-rules
new-requires-in-Free-clause-rules c =
    let d = c.args.design.now in
    let n = c.loop-comp.comp-index in
    let end : length (design_of d) ≤ n = omega (arith, length-map d.comps.items (component_tree d.names), ap length c.deref-comp-items.ensures.value) in
    let W : Wired → Type 0 = IsWired d.names (take n (design_of d)) in
    let free = subst W c.in-Free.is c.loop-comp.invariant.wired in
    let N : Design → Type 0 = HaveNoLoop in
    record {
      keeps = all_keep (design_of d) n end c.loop-comp.invariant.kept;
      no_loop = subst N (take_all n (design_of d) end) free.1;
    }

pub returns-in-Free-clause-kept : goal.returns-in-Free-clause-kept
returns-in-Free-clause-kept c =
    let d = c.args.design.now in
    let n = c.loop-comp.comp-index in
    let end : length (design_of d) ≤ n = omega (arith, length-map d.comps.items (component_tree d.names), ap length c.deref-comp-items.ensures.value) in
    let W : Wired → Type 0 = IsWired d.names (take n (design_of d)) in
    let free = subst W c.in-Free.is c.loop-comp.invariant.wired in
    let N : Design → Type 0 = HaveNoLoop in
    record {
      keeps = all_keep (design_of d) n end c.loop-comp.invariant.kept;
      no_loop = subst N (take_all n (design_of d) end) free.1;
    }

pub returns-clause-refused : goal.returns-clause-refused
returns-clause-refused c =
    let d = c.args.design.now in
    let n = c.loop-comp.comp-index in
    let end : length (design_of d) ≤ n = omega (arith, length-map d.comps.items (component_tree d.names), ap length c.deref-comp-items.ensures.value) in
    let W : Wired → Type 0 = IsWired d.names (take n (design_of d)) in
    let F : Design → Type 0 = λ comps. IsFirstLoop comps (text_of d.names c.in-Looped.comp) c.in-Looped.ports.items in
    let first = subst F (take_all n (design_of d) end) (subst W c.in-Looped.is c.loop-comp.invariant.wired) in
    looped (design_of d) (text_of d.names c.in-Looped.comp) c.in-Looped.ports.items (all_keep (design_of d) n end c.loop-comp.invariant.kept) first

pub returns-in_err-wired-clause-refused : goal.returns-in_err-wired-clause-refused
returns-in_err-wired-clause-refused c =
    passed_up c.from_residual-in_err-wired.result design.Memory (TellsFirst c.args.design.now) c.from_residual-in_err-wired.ensures.1 tt

pub returns-in_err-add_component-clause-refused : goal.returns-in_err-add_component-clause-refused
returns-in_err-add_component-clause-refused c =
    passed_up c.from_residual-in_err-add_component.result design.Memory (TellsFirst c.args.design.now) c.from_residual-in_err-add_component.ensures.1 tt
