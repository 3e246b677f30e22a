use Rattle.std.proofs.Common.{List, All, Contains, map, sym, subst}
use Rattle.std.specs.Result.{IfOk}
use Rattle.hw_names.specs.Name.{text_of}
use Rattle.fil_ast.specs.Naming.{UsesKnownNames}
use Rattle.fil_ast.specs.Tree.{statement_tree, time_tree}
use Rattle.fil_ast.specs.declared.tree.Stmt.{Stmt}
use Rattle.fil_ast.specs.declared.tree.Time.{Time}
use Rattle.fil_place.specs.Tables.{AreTimesOf}
use Rattle.fil_place.specs.Times.{AreTimes}
use Rattle.fil_place.proofs.StatementLemmas.{times_known}
use Rattle.fil_place.proofs.offsets.given_at.Goals as goal

pub returns-in-Call : goal.returns-in-Call
returns-in-Call c scope are known =
    let names = c.args.names.now in
    let events = c.args.events.now in
    let times = c.in-Call.at.items in
    let K : Stmt → Type 0 = λ s. UsesKnownNames scope (statement_tree names s) in
    let S : Stmt → Type 0 = λ s. IfOk c.offsets_of.result (λ at. AreTimesOf events at.items (statement_tree names s)) in
    let N : List Time → Type 0 = λ ts. All (λ (t : Time). Contains events (text_of names t.event)) ts in
    let O : List Time → Type 0 = λ ts. IfOk c.offsets_of.result (λ at. AreTimes events at.items (map (time_tree names) ts)) in
    let gives = (subst K c.in-Call.is known).1 in
    let named = times_known names scope events are times c.in-Call.args.items gives in
    subst S (sym c.in-Call.is) (subst O c.deref.ensures.value (c.offsets_of.ensures (subst N (sym c.deref.ensures.value) named)))

pub returns-in-Both : goal.returns-in-Both
returns-in-Both c scope are known =
    let names = c.args.names.now in
    let events = c.args.events.now in
    let times = c.in-Both.at.items in
    let K : Stmt → Type 0 = λ s. UsesKnownNames scope (statement_tree names s) in
    let S : Stmt → Type 0 = λ s. IfOk c.offsets_of-in-Both.result (λ at. AreTimesOf events at.items (statement_tree names s)) in
    let N : List Time → Type 0 = λ ts. All (λ (t : Time). Contains events (text_of names t.event)) ts in
    let O : List Time → Type 0 = λ ts. IfOk c.offsets_of-in-Both.result (λ at. AreTimes events at.items (map (time_tree names) ts)) in
    let gives = (subst K c.in-Both.is known).1 in
    let named = times_known names scope events are times c.in-Both.args.items gives in
    subst S (sym c.in-Both.is) (subst O c.deref-in-Both.ensures.value (c.offsets_of-in-Both.ensures (subst N (sym c.deref-in-Both.ensures.value) named)))
