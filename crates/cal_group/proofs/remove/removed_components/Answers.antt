use Rattle.std.proofs.Common.{◌≡◌, ◌<◌, ℕ, List, length, map, Some, refl, sym, ap, subst, ◌∙◌, arith}
use Rattle.std.specs.Prelude.{All, slice_get}
use Rattle.std.proofs.lemmas.List.{take_all, with_items_is}
use Rattle.std.proofs.lemmas.List.Elements.{All-nil, All-contains, All-push}
use Rattle.std.proofs.lemmas.Option.{slice_get_read}
use Rattle.cal_ast.proofs.ListLemmas.{Contains-at, Contains-map}
use Rattle.cal_ast.specs.Numbers.{ComponentHasNumbers}
use Rattle.cal_ast.specs.Tree.{Component, assignment_tree, component_tree}
use Rattle.cal_ast.specs.declared.lowered.ActRule.{ActRule}
use Rattle.cal_ast.specs.declared.tree.CalComp.{CalComp}
use Rattle.cal_group.proofs.RemovalLemmas.{mapped_next, no_statements, read_at}
use Rattle.cal_group.proofs.TableLemmas.{finds_again, groups_within, has_places, places_within, rules_within}
use Rattle.cal_group.specs.inside.Removed.{removed}
use Rattle.cal_group.specs.inside.Ruling.{HasPlaces, HasRulesOf, IsNoted}
use Rattle.cal_ast.specs.Holes.{rule_trees}
use Rattle.cal_group.proofs.remove.removed_components.Goals as goal

pub rules_by_component-requires : goal.rules_by_component-requires
rules_by_component-requires c =
    let holes = c.args.holes.now in
    rules_within holes.design.names holes.design.comps.items holes.acts.items c.deref.result.now c.len.result (omega (arith, c.len.ensures, holes.design.comps.ok.0)) c.deref.ensures.value c.requires.hole.no_other

pub loop-number-init : goal.loop-number-init
loop-number-init c =
    let names = c.args.holes.now.design.names in
    let N : CalComp → Type 0 = ComponentHasNumbers names in
    record {
      len = omega (arith, c.in_ok-table.ensures.len, c.in_ok-table.table.ok.0, c.len-2.ensures.len);
      trees = ap (map (component_tree names)) c.new-comps.ensures.items;
      numbers = subst (λ (comps : List CalComp). All N comps) (sym c.new-comps.ensures.items) (All-nil N);
    }

pub note_rules-requires-clause-within : goal.note_rules-requires-clause-within
note_rules-requires-clause-within c =
    let holes = c.args.holes.now in
    let lists = c.in_ok-places.places.items in
    let n = c.loop-number.number in
    let list = c.index.result.now in
    let within : n < length lists = omega (arith, c.in_ok-places.ensures.len, c.len.ensures, holes.design.comps.ok.0, c.loop-number-test.true, ap length c.deref-comp-items.ensures.value) in
    places_within c.deref.result.now c.deref-in-loop-number.result.now lists n list c.deref-in-loop-number-2.result.now c.in_ok-places.ensures.places (slice_get_read lists (length lists) n list refl within c.index.ensures)
    (c.deref-in-loop-number.ensures.value ∙ sym c.deref.ensures.value) c.deref-in-loop-number-2.ensures.value

pub note_rules-requires-clause-groups : goal.note_rules-requires-clause-groups
note_rules-requires-clause-groups c =
    groups_within c.args.holes.now.design.names c.args.holes.now.acts.items c.deref-in-loop-number.result.now (length c.deref_mut.result.now) (ap length c.deref_mut.ensures.value ∙ c.loop-number.invariant.len)
    c.deref-in-loop-number.ensures.value c.requires.rules

pub removed_component-requires-clause-bare : goal.removed_component-requires-clause-bare
removed_component-requires-clause-bare c = λ other.
    let names = c.args.holes.now.design.names in
    let comps = c.args.holes.now.design.comps.items in
    let n = c.loop-number.number in
    let comp = c.comp-item.result in
    let in_comps = Contains-at comps n comp (read_at c.deref-comp-items.result.now comps n comp c.deref-comp-items.ensures.value c.loop-number-test.true c.comp-item.is) in
    no_statements names other comp.control (map (assignment_tree names) comp.sets.items) (c.requires.hole.bare (component_tree names comp) (Contains-map (component_tree names) comps comp in_comps))

pub removed_component-requires-clause-ruled : goal.removed_component-requires-clause-ruled
removed_component-requires-clause-ruled c =
    let holes = c.args.holes.now in
    let names = holes.design.names in
    let comps = holes.design.comps.items in
    let acts = holes.acts.items in
    let lists = c.in_ok-places.places.items in
    let n = c.loop-number.number in
    let comp = c.comp-item.result in
    let list = c.index.result.now in
    let table = c.note_rules.new.table in
    let within : n < length lists = omega (arith, c.in_ok-places.ensures.len, c.len.ensures, holes.design.comps.ok.0, c.loop-number-test.true, ap length c.deref-comp-items.ensures.value) in
    let places : HasPlaces acts lists = subst (λ (rules : List ActRule). HasPlaces rules lists) c.deref.ensures.value c.in_ok-places.ensures.places in
    let at_list : slice_get lists n ≡ Some list = slice_get_read lists (length lists) n list refl within c.index.ensures in
    let at_comp : slice_get comps n ≡ Some comp = read_at c.deref-comp-items.result.now comps n comp c.deref-comp-items.ensures.value c.loop-number-test.true c.comp-item.is in
    let same_table : c.deref-in-loop-number-4.result.now ≡ table =
    c.deref-in-loop-number-4.ensures.value ∙ with_items_is c.loop-number.table table (omega (arith, c.note_rules.auto.table, ap length c.deref_mut.ensures.value, c.loop-number.table.ok.0)) in
    let noted : IsNoted acts list.items table =
    subst (λ (rules : List ActRule). IsNoted rules list.items table) c.deref-in-loop-number.ensures.value
    (subst (λ (xs : List ℕ). IsNoted c.deref-in-loop-number.result.now xs table) c.deref-in-loop-number-2.ensures.value c.note_rules.ensures) in
    let rules_of : HasRulesOf names (map (component_tree names) comps) c.deref-in-loop-number-3.result.now c.deref-in-loop-number-4.result.now comp =
    finds_again names comps acts c.len-2.ensures.distinct c.requires.numbers c.requires.rules c.requires.hole lists places n comp at_comp list at_list table noted
    c.deref-in-loop-number-3.result.now c.deref-in-loop-number-4.result.now c.deref-in-loop-number-3.ensures.value same_table in
    has_places names (map (component_tree names) comps) c.deref-in-loop-number-3.result.now c.deref-in-loop-number-4.result.now comp rules_of

pub loop-number-preserved : goal.loop-number-preserved
loop-number-preserved c =
    let holes = c.args.holes.now in
    let names = holes.design.names in
    let comps = holes.design.comps.items in
    let acts = holes.acts.items in
    let lists = c.in_ok-places.places.items in
    let n = c.loop-number.number in
    let comp = c.comp-item.result in
    let list = c.index.result.now in
    let table = c.note_rules.new.table in
    let within : n < length lists = omega (arith, c.in_ok-places.ensures.len, c.len.ensures, holes.design.comps.ok.0, c.loop-number-test.true, ap length c.deref-comp-items.ensures.value) in
    let places : HasPlaces acts lists = subst (λ (rules : List ActRule). HasPlaces rules lists) c.deref.ensures.value c.in_ok-places.ensures.places in
    let at_list : slice_get lists n ≡ Some list = slice_get_read lists (length lists) n list refl within c.index.ensures in
    let at_comp : slice_get comps n ≡ Some comp = read_at c.deref-comp-items.result.now comps n comp c.deref-comp-items.ensures.value c.loop-number-test.true c.comp-item.is in
    let same_table : c.deref-in-loop-number-4.result.now ≡ table =
    c.deref-in-loop-number-4.ensures.value ∙ with_items_is c.loop-number.table table (omega (arith, c.note_rules.auto.table, ap length c.deref_mut.ensures.value, c.loop-number.table.ok.0)) in
    let noted : IsNoted acts list.items table =
    subst (λ (rules : List ActRule). IsNoted rules list.items table) c.deref-in-loop-number.ensures.value
    (subst (λ (xs : List ℕ). IsNoted c.deref-in-loop-number.result.now xs table) c.deref-in-loop-number-2.ensures.value c.note_rules.ensures) in
    let rules_of : HasRulesOf names (map (component_tree names) comps) c.deref-in-loop-number-3.result.now c.deref-in-loop-number-4.result.now comp =
    finds_again names comps acts c.len-2.ensures.distinct c.requires.numbers c.requires.rules c.requires.hole lists places n comp at_comp list at_list table noted
    c.deref-in-loop-number-3.result.now c.deref-in-loop-number-4.result.now c.deref-in-loop-number-3.ensures.value same_table in
    let design : List Component = map (component_tree names) comps in
    let N : CalComp → Type 0 = ComponentHasNumbers names in
    let made = c.in_ok-removed_component.field-0 in
    let is = c.in_ok-removed_component.ensures names design (All-contains N comps comp c.requires.numbers (Contains-at comps n comp at_comp)) rules_of in
    let same : component_tree names made ≡ removed design (rule_trees names acts) (component_tree names comp) =
    is.0 ∙ ap (λ (rules : List ActRule). removed design (rule_trees names rules) (component_tree names comp)) c.deref-in-loop-number-3.ensures.value in
    let at = read_at c.deref-comp-items.result.now c.deref-comp-items.result.now n comp refl c.loop-number-test.true c.comp-item.is in
    let as_long : length table ≡ c.loop-number.table.len = omega (arith, c.note_rules.auto.table, ap length c.deref_mut.ensures.value, c.loop-number.table.ok.0) in
    record {
      len = ap length (with_items_is c.loop-number.table table as_long) ∙ c.note_rules.auto.table ∙ ap length c.deref_mut.ensures.value ∙ c.loop-number.invariant.len;
      trees = mapped_next (component_tree names) (removed design (rule_trees names acts)) c.loop-number.comps.items c.push.new.self.items c.deref-comp-items.result.now n comp made
          c.in_ok-push.ensures.items at same c.loop-number.invariant.trees;
      numbers = subst (λ (cs : List CalComp). All N cs) (sym c.in_ok-push.ensures.items) (All-push N c.loop-number.comps.items made c.loop-number.invariant.numbers is.1);
    }

pub returns-clause-trees : goal.returns-clause-trees
returns-clause-trees c =
    let holes = c.args.holes.now in
    let names = holes.design.names in
    let design : List Component = map (component_tree names) holes.design.comps.items in
    c.loop-number.invariant.trees
    ∙ ap (λ (comps : List CalComp). map (removed design (rule_trees names holes.acts.items)) (map (component_tree names) comps))
    (take_all c.loop-number.number c.deref-comp-items.result.now c.loop-number-test.false ∙ c.deref-comp-items.ensures.value)

pub returns-clause-numbers : goal.returns-clause-numbers
returns-clause-numbers c = c.loop-number.invariant.numbers
