use Rattle.std.proofs.Common.{◌≡◌, ◌≤◌, ◌<◌, List, [], ◌∷◌, ◌++◌, Some, Vec, Global, length, take, get_or, slice_get, sym, ap, subst, ◌∙◌, arith}
use Rattle.std.specs.Prelude.{⊤}
use Rattle.std.proofs.lemmas.List.{length-map, take_all}
use Rattle.std.proofs.lemmas.Option.{MatchOption-at_some}
use Rattle.fil_ast.specs.Limits.{KeepsLimits}
use Rattle.fil_ast.specs.Tree.{Design, component_tree, design_of}
use Rattle.fil_ast.specs.Wires.{HasNoLoop}
use Rattle.fil_ast.specs.declared.tree.FilComp.{FilComp}
use Rattle.fil_loops.specs.Levels.{ShowAllLevels}
use Rattle.fil_loops.specs.declared.levels.Levels.{Levels}
use Rattle.fil_check.specs.declared.rules.FilEnd.TheVariants as design
use Rattle.fil_check.specs.First.{TellsFirst}
use Rattle.fil_place.specs.Tables.{ShowsEarlier}
use Rattle.fil_loops.specs.Wired.{HaveNoLoop}
use Rattle.fil_check.proofs.DesignLemmas.{all_keep, component_ends, keep_more, kept_so_far}
use Rattle.fil_place.proofs.GeneralLemmas.{at_mapped}
use Rattle.fil_rules.proofs.ItemLemmas.{passed_up}
use Rattle.fil_loops.proofs.WiredLemmas.{no_loop_more}
use Rattle.fil_share.proofs.ListLemmas.{take_next}
use Rattle.fil_check.proofs.check.judge_by_levels.Goals as goal

pub returns-in_err-tables-clause-refused : goal.returns-in_err-tables-clause-refused
returns-in_err-tables-clause-refused c =
    let d = c.args.design.now in
    let n = c.loop-comp.comp-index in
    let comp = c.comp-item.result in
    let tree = component_tree d.names comp in
    let before = take n (design_of d) in
    let at : slice_get (design_of d) n ≡ Some tree = at_mapped (component_tree d.names) d.comps.items c.deref-comp-items.result.now n comp c.deref-comp-items.ensures.value c.loop-comp-test.true c.comp-item.is in
    let told = c.in_err-tables.ensures.broken before c.loop-comp.invariant.shown in
    let tells = component_ends d n comp c.in_err-tables.field-0.0 at c.loop-comp.invariant.kept told in
    passed_up c.from_residual.result c.in_err-tables.field-0.0 (TellsFirst d) c.from_residual.ensures.1 tells

pub judged-requires-clause-small : goal.judged-requires-clause-small
judged-requires-clause-small c =
    let comps = c.args.design.now.comps.items in
    let n = c.loop-comp.comp-index in
    let comp = c.comp-item.result in
    let is : comp ≡ get_or comps n comp = c.comp-item.is ∙ ap (λ (xs : List FilComp). get_or xs n comp) c.deref-comp-items.ensures.value in
    let within : n < length comps = omega (arith, ap length c.deref-comp-items.ensures.value) in
    let K : FilComp → Type 0 = KeepsLimits in
    subst K (sym is) (c.requires.small n comp within)

pub add_component-requires-clause-small : goal.add_component-requires-clause-small
add_component-requires-clause-small c =
    let comps = c.args.design.now.comps.items in
    let n = c.loop-comp.comp-index in
    let comp = c.comp-item.result in
    let is : comp ≡ get_or comps n comp = c.comp-item.is ∙ ap (λ (xs : List FilComp). get_or xs n comp) c.deref-comp-items.ensures.value in
    let within : n < length comps = omega (arith, ap length c.deref-comp-items.ensures.value) in
    let K : FilComp → Type 0 = KeepsLimits in
    subst K (sym is) (c.requires.small n comp within)

pub add_component-requires-clause-kept : goal.add_component-requires-clause-kept
add_component-requires-clause-kept c =
    let before = take c.loop-comp.comp-index (design_of c.args.design.now) in
    (before, c.loop-comp.invariant.shown, c.in_ok-tables.ensures.kept before c.loop-comp.invariant.shown)

pub loop-comp-preserved : goal.loop-comp-preserved
loop-comp-preserved c =
    let d = c.args.design.now in
    let n = c.loop-comp.comp-index in
    let comp = c.comp-item.result in
    let tree = component_tree d.names comp in
    let before = take n (design_of d) in
    let at : slice_get (design_of d) n ≡ Some tree = at_mapped (component_tree d.names) d.comps.items c.deref-comp-items.result.now n comp c.deref-comp-items.ensures.value c.loop-comp-test.true c.comp-item.is in
    let S : Design → Type 0 = ShowsEarlier c.add_component.new.earlier in
    let L : Design → Type 0 = λ comps. ShowAllLevels comps c.in-Some.more.items in
    let N : Design → Type 0 = HaveNoLoop in
    let place = c.in_ok-tables.ensures.tables before c.loop-comp.invariant.shown in
    let earlier = kept_so_far (design_of d) n c.loop-comp.invariant.kept in
    let own = c.in_ok-tables.ensures.kept before c.loop-comp.invariant.shown in
    let more = MatchOption-at_some ⊤ (λ (l : Vec Levels Global). ShowAllLevels (before ++ tree ∷ []) l.items) c.in-Some.more c.in-Some.is (c.in_ok-more.ensures.levels before place c.loop-comp.invariant.levels earlier own) in
    let none = MatchOption-at_some ⊤ (λ (l : Vec Levels Global). HasNoLoop before tree) c.in-Some.more c.in-Some.is (c.in_ok-more.ensures.no_loop before place c.loop-comp.invariant.levels earlier own) in
    record {
      shown = subst S (sym (take_next (design_of d) n tree at)) (c.in_ok-add_component.ensures before c.loop-comp.invariant.shown);
      kept = keep_more (design_of d) n tree at c.loop-comp.invariant.kept own;
      levels = subst L (sym (take_next (design_of d) n tree at)) more;
      none = subst N (sym (take_next (design_of d) n tree at)) (no_loop_more before tree c.loop-comp.invariant.none none);
    }

pub returns-clause-kept : goal.returns-clause-kept
returns-clause-kept c all =
    let d = c.args.design.now in
    let n = c.loop-comp.comp-index in
    let end : length (design_of d) ≤ n = omega (arith, length-map d.comps.items (component_tree d.names), ap length c.deref-comp-items.ensures.value) in
    let N : Design → Type 0 = HaveNoLoop in
    record {
      keeps = all_keep (design_of d) n end c.loop-comp.invariant.kept;
      no_loop = subst N (take_all n (design_of d) end) c.loop-comp.invariant.none;
    }

pub returns-in_err-more-clause-refused : goal.returns-in_err-more-clause-refused
returns-in_err-more-clause-refused c =
    passed_up c.from_residual-in_err-more.result design.Memory (TellsFirst c.args.design.now) c.from_residual-in_err-more.ensures.1 tt

pub returns-in_err-add_component-clause-refused : goal.returns-in_err-add_component-clause-refused
returns-in_err-add_component-clause-refused c =
    passed_up c.from_residual-in_err-add_component.result design.Memory (TellsFirst c.args.design.now) c.from_residual-in_err-add_component.ensures.1 tt
