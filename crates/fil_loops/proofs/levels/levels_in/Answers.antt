use Rattle.std.proofs.Common.{◌≡◌, ℕ, List, Option, Vec, Global, length, map, refl, ap₂, subst, ◌∙◌, arith}
use Rattle.std.specs.Prelude.{⊤, All, slice_index}
use Rattle.std.proofs.lemmas.List.{length-map}
use Rattle.std.proofs.lemmas.Option.{MatchOption-at_some}
use Rattle.hw_levels.specs.Levels.{AreLevels}
use Rattle.hw_names.specs.Name.{Text, AreDistinct, HasNoDot}
use Rattle.fil_ast.specs.Tree.{component_tree, port_tree}
use Rattle.fil_loops.specs.inside.PortsOfParts.{HasAllPorts}
use Rattle.fil_loops.specs.OwnPorts.{own_port_names}
use Rattle.fil_loops.proofs.LevelLemmas.{no_loop_by_levels, shows_own}
use Rattle.fil_loops.proofs.levels.levels_in.Goals as goal

pub returns-clause-levels : goal.returns-clause-levels
returns-clause-levels c comps place shows keeps own_keeps =
    let names = c.args.place.now.names.now in
    let comp = c.args.place.now.comp.now in
    let tree = component_tree names comp in
    let levels = c.args.levels.now in
    let made = c.in_ok-graph.ensures in
    let g = c.in_ok-graph.field-0.graph in
    let cells = c.in_ok-cells.cells.items in
    let parts = c.in_ok-parts.parts.items in
    let E : List (Option ℕ) → Type 0 = λ l. HasAllPorts g.ports l levels cells in
    let every = subst E c.deref.ensures.value c.in_ok-cells.ensures.all in
    let falling = MatchOption-at_some ⊤ (λ (l : Vec ℕ Global). AreLevels g.entries.items cells l.items) c.in-Some-2.found c.in-Some-2.is c.in_ok-found.ensures.levels in
    let has = made.instances comps place in
    let reads = made.reads comps place in
    let texts = c.in-Some.names in
    let are_names = MatchOption-at_some ⊤ (λ (l : List Text). l ≡ own_port_names tree) texts c.in-Some.is c.in_ok-names.ensures.names in
    let differ = MatchOption-at_some ⊤ (λ (l : List Text). AreDistinct l) texts c.in-Some.is c.in_ok-names.ensures.distinct in
    let no_dots = MatchOption-at_some ⊤ (λ (l : List Text). All HasNoDot l) texts c.in-Some.is c.in_ok-names.ensures.dotless in
    let inputs : c.len-2.result ≡ length tree.ins = omega (arith, c.len-2.ensures, comp.ins.ok.0, length-map comp.ins.items (port_tree names)) in
    let own = c.in_ok-levels.ensures ∙ ap₂ (λ (l ns : List ℕ). map (slice_index l) ns) c.deref-3.ensures.value c.deref-2.ensures.value in
    shows_own comps tree names c.args.place.now.earlier.now comp c.args.place.now.tables.now place c.parts_of.ensures.distinct keeps parts (c.in_ok-parts.ensures.parts comps place) levels shows
    g has reads c.len.ensures.distinct cells every c.in-Some-2.found.items falling
    texts are_names differ no_dots c.in_ok-graph.field-0.own.items (made.own comps place) _ refl inputs own

pub returns-clause-no_loop : goal.returns-clause-no_loop
returns-clause-no_loop c comps place shows keeps own_keeps =
    let names = c.args.place.now.names.now in
    let comp = c.args.place.now.comp.now in
    let tree = component_tree names comp in
    let levels = c.args.levels.now in
    let made = c.in_ok-graph.ensures in
    let g = c.in_ok-graph.field-0.graph in
    let cells = c.in_ok-cells.cells.items in
    let parts = c.in_ok-parts.parts.items in
    let E : List (Option ℕ) → Type 0 = λ l. HasAllPorts g.ports l levels cells in
    let every = subst E c.deref.ensures.value c.in_ok-cells.ensures.all in
    let falling = MatchOption-at_some ⊤ (λ (l : Vec ℕ Global). AreLevels g.entries.items cells l.items) c.in-Some-2.found c.in-Some-2.is c.in_ok-found.ensures.levels in
    let has = made.instances comps place in
    let reads = made.reads comps place in
    no_loop_by_levels comps tree names c.args.place.now.earlier.now comp c.args.place.now.tables.now place c.parts_of.ensures.distinct keeps parts (c.in_ok-parts.ensures.parts comps place) levels shows
    g has reads c.len.ensures.distinct cells every c.in-Some-2.found.items falling
