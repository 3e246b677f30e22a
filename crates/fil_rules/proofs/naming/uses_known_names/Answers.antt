use Rattle.std.proofs.Common.{◌↔◌, List, Bor, is_some, ap, subst, sym, ◌∙◌}
use Rattle.std.specs.Bool.{IsTrue}
use Rattle.std.specs.Option.{IsSome}
use Rattle.hw_names.specs.Name.{Text, text_of}
use Rattle.hw_names.proofs.NameLemmas.{text_of-slice_get}
use Rattle.fil_ast.specs.Naming.{GivesKnown, IsKnownValue, IsMadeOf, UsesKnownNames}
use Rattle.fil_ast.specs.Scope.{instance_named, output_of}
use Rattle.fil_ast.specs.Signature.{sig_port}
use Rattle.fil_ast.specs.Tree.{giving, port_tree, statement_tree, value_tree}
use Rattle.fil_ast.specs.declared.tree.FilPort.{FilPort}
use Rattle.fil_ast.specs.declared.tree.Stmt.{Stmt}
use Rattle.fil_ast.specs.declared.tree.Time.{Time}
use Rattle.fil_ast.specs.declared.tree.Value.{Value}
use Rattle.fil_rules.proofs.ArgumentLemmas.{known_by_width, width_of_known}
use Rattle.fil_place.proofs.StatementLemmas.{both_parts, first_fails, instance_listed, seen_listed, there_at}
use Rattle.fil_rules.proofs.naming.uses_known_names.Goals as goal

pub returns-then-is_some : goal.returns-then-is_some
returns-then-is_some c scope place =
    let names = c.args.place.now.names.now in
    let tables = c.args.place.now.tables.now in
    let inst = text_of names c.in-Call.inst in
    let gives = giving names c.in-Call.at.items c.in-Call.args.items in
    let a = c.is_some.result in
    let b = c.gives_known.result in
    let S : Stmt → Type 0 = λ s. IsTrue b ↔ UsesKnownNames scope (statement_tree names s) in
    let G : List Time → List Value → Type 0 = λ at args. IsTrue b ↔ GivesKnown scope (giving names at args) in
    let first =
    instance_listed names c.args.place.now.earlier.now c.args.place.now.comp.now tables scope place a inst
    (there_at names c.in-Call.inst c.text-in-Call.result.now c.text-in-Call.ensures tables.instances (is_some c.find.result) c.find.ensures.present a c.is_some.ensures) in
    let second =
    subst (λ (at : List Time). G at c.in-Call.args.items) c.deref.ensures.value
    (subst (λ (args : List Value). G c.deref.result.now args) c.deref-then-is_some.ensures.value (c.gives_known.ensures scope place)) in
    subst S (sym c.in-Call.is) (both_parts (IsSome (instance_named scope.instances inst)) (GivesKnown scope gives) a b first c.if-is_some.true second)

pub returns-else-is_some : goal.returns-else-is_some
returns-else-is_some c scope place =
    let names = c.args.place.now.names.now in
    let tables = c.args.place.now.tables.now in
    let inst = text_of names c.in-Call.inst in
    let gives = giving names c.in-Call.at.items c.in-Call.args.items in
    let a = c.is_some.result in
    let S : Stmt → Type 0 = λ s. IsTrue a ↔ UsesKnownNames scope (statement_tree names s) in
    let first =
    instance_listed names c.args.place.now.earlier.now c.args.place.now.comp.now tables scope place a inst
    (there_at names c.in-Call.inst c.text-in-Call.result.now c.text-in-Call.ensures tables.instances (is_some c.find.result) c.find.ensures.present a c.is_some.ensures) in
    subst S (sym c.in-Call.is) (first_fails (IsSome (instance_named scope.instances inst)) (GivesKnown scope gives) a first c.if-is_some.false)

pub returns-then-is_made_of : goal.returns-then-is_made_of
returns-then-is_made_of c scope place =
    let names = c.args.place.now.names.now in
    let made = text_of names c.in-Both.made in
    let gives = giving names c.in-Both.at.items c.in-Both.args.items in
    let a = c.is_made_of-in-Both.result in
    let b = c.gives_known-then-is_made_of.result in
    let S : Stmt → Type 0 = λ s. IsTrue b ↔ UsesKnownNames scope (statement_tree names s) in
    let G : List Time → List Value → Type 0 = λ at args. IsTrue b ↔ GivesKnown scope (giving names at args) in
    let M : Text → Type 0 = λ t. IsTrue a ↔ IsMadeOf scope t in
    let first = subst M (sym (text_of-slice_get names c.in-Both.made c.text-in-Both.result.now c.text-in-Both.ensures)) (c.is_made_of-in-Both.ensures scope place.shows.components) in
    let second =
    subst (λ (at : List Time). G at c.in-Both.args.items) c.deref-then-is_made_of.ensures.value
    (subst (λ (args : List Value). G c.deref-then-is_made_of.result.now args) c.deref-then-is_made_of-2.ensures.value (c.gives_known-then-is_made_of.ensures scope place)) in
    subst S (sym c.in-Both.is) (both_parts (IsMadeOf scope made) (GivesKnown scope gives) a b first c.if-is_made_of.true second)

pub returns-else-is_made_of : goal.returns-else-is_made_of
returns-else-is_made_of c scope place =
    let names = c.args.place.now.names.now in
    let made = text_of names c.in-Both.made in
    let gives = giving names c.in-Both.at.items c.in-Both.args.items in
    let a = c.is_made_of-in-Both.result in
    let S : Stmt → Type 0 = λ s. IsTrue a ↔ UsesKnownNames scope (statement_tree names s) in
    let M : Text → Type 0 = λ t. IsTrue a ↔ IsMadeOf scope t in
    let first = subst M (sym (text_of-slice_get names c.in-Both.made c.text-in-Both.result.now c.text-in-Both.ensures)) (c.is_made_of-in-Both.ensures scope place.shows.components) in
    subst S (sym c.in-Both.is) (first_fails (IsMadeOf scope made) (GivesKnown scope gives) a first c.if-is_made_of.false)

pub returns-then-is_some-2 : goal.returns-then-is_some-2
returns-then-is_some-2 c scope place =
    let names = c.args.place.now.names.now in
    let dst = text_of names c.in-Set.dst in
    let value = value_tree names c.in-Set.value in
    let a = c.is_some-in-Set.result in
    let b = c.is_some-then-is_some-2.result in
    let S : Stmt → Type 0 = λ s. IsTrue b ↔ UsesKnownNames scope (statement_tree names s) in
    let named = text_of-slice_get names c.in-Set.dst c.text-in-Set.result.now c.text-in-Set.ensures in
    let first =
    seen_listed (λ (p : Bor FilPort). sig_port scope.comp.events (port_tree names p.now)) c.output.result (output_of scope dst) a c.is_some-in-Set.ensures
    (c.output.ensures.meaning names c.args.place.now.earlier.now scope place ∙ ap (output_of scope) (sym named)) in
    let width = c.is_some-then-is_some-2.ensures ∙ ap is_some (c.value_width.ensures scope place) in
    subst S (sym c.in-Set.is)
    (both_parts (IsSome (output_of scope dst)) (IsKnownValue scope value) a b first c.if-is_some-2.true
    (λ t. known_by_width scope value (sym width ∙ t), λ known. width ∙ width_of_known scope value known))

pub returns-else-is_some-2 : goal.returns-else-is_some-2
returns-else-is_some-2 c scope place =
    let names = c.args.place.now.names.now in
    let dst = text_of names c.in-Set.dst in
    let a = c.is_some-in-Set.result in
    let S : Stmt → Type 0 = λ s. IsTrue a ↔ UsesKnownNames scope (statement_tree names s) in
    let named = text_of-slice_get names c.in-Set.dst c.text-in-Set.result.now c.text-in-Set.ensures in
    let first =
    seen_listed (λ (p : Bor FilPort). sig_port scope.comp.events (port_tree names p.now)) c.output.result (output_of scope dst) a c.is_some-in-Set.ensures
    (c.output.ensures.meaning names c.args.place.now.earlier.now scope place ∙ ap (output_of scope) (sym named)) in
    subst S (sym c.in-Set.is) (first_fails (IsSome (output_of scope dst)) (IsKnownValue scope (value_tree names c.in-Set.value)) a first c.if-is_some-2.false)
