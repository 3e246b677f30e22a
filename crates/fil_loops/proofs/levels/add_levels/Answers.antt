use Rattle.std.proofs.Common.{List, sym, subst}
use Rattle.std.specs.Prelude.{⊤}
use Rattle.std.proofs.lemmas.Option.{MatchOption-at_some}
use Rattle.fil_ast.specs.Tree.{component_tree}
use Rattle.fil_ast.specs.Wires.{HasNoLoop}
use Rattle.fil_loops.specs.Levels.{ShowAllLevels, ShowsLevels}
use Rattle.fil_loops.specs.declared.levels.Levels.{Levels}
use Rattle.fil_loops.proofs.WiredLemmas.{levels_more}
use Rattle.fil_loops.proofs.levels.add_levels.Goals as goal

pub returns-clause-levels : goal.returns-clause-levels
returns-clause-levels c comps place shows earlier kept =
    let tree = component_tree c.args.place.now.names.now c.args.place.now.comp.now in
    let own = c.in-Some.own in
    let S : List Levels → Type 0 = ShowAllLevels comps in
    let known = subst S (sym c.deref.ensures.value) shows in
    let shown = MatchOption-at_some ⊤ (ShowsLevels comps tree) own c.in-Some.is (c.in_ok-own.ensures.levels comps place known earlier kept) in
    let more = levels_more comps tree c.args.levels.items own shows shown in
    let M : List Levels → Type 0 = ShowAllLevels _ in
    subst M (sym c.in_ok-push.ensures.items) more

pub returns-clause-no_loop : goal.returns-clause-no_loop
returns-clause-no_loop c comps place shows earlier kept =
    let tree = component_tree c.args.place.now.names.now c.args.place.now.comp.now in
    let S : List Levels → Type 0 = ShowAllLevels comps in
    let known = subst S (sym c.deref.ensures.value) shows in
    MatchOption-at_some ⊤ (λ (own : Levels). HasNoLoop comps tree) c.in-Some.own c.in-Some.is (c.in_ok-own.ensures.no_loop comps place known earlier kept)
