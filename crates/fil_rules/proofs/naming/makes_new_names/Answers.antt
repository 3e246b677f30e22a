use Rattle.std.proofs.Common.{◌↔◌, is_some, subst, sym}
use Rattle.std.specs.Bool.{IsTrue}
use Rattle.hw_names.specs.Name.{text_of}
use Rattle.fil_ast.specs.Naming.{MakesNewNames}
use Rattle.fil_ast.specs.Tree.{giving, statement_tree}
use Rattle.fil_ast.specs.declared.tree.Stmt.{Stmt}
use Rattle.fil_place.proofs.GeneralLemmas.{clash, told_no}
use Rattle.fil_place.proofs.StatementLemmas.{absent_at, both_instance, new_at_both, new_at_call, new_at_new}
use Rattle.fil_rules.proofs.naming.makes_new_names.Goals as goal

pub returns-in-New : goal.returns-in-New
returns-in-New c earlier comp scope place =
    let names = c.args.names.now in
    let tables = c.args.tables.now in
    let b = c.is_none.result in
    let S : Stmt → Type 0 = λ s. IsTrue b ↔ MakesNewNames scope (statement_tree names s) in
    subst S (sym c.in-New.is)
    (new_at_new names earlier comp tables scope place (text_of names c.in-New.name) (text_of names c.in-New.comp) c.in-New.params.items b
    (absent_at names c.in-New.name c.text.result.now c.text.ensures tables.instances (is_some c.find.result) c.find.ensures.present b c.is_none.ensures))

pub returns-in-Call : goal.returns-in-Call
returns-in-Call c earlier comp scope place =
    let names = c.args.names.now in
    let tables = c.args.tables.now in
    let b = c.is_none-in-Call.result in
    let S : Stmt → Type 0 = λ s. IsTrue b ↔ MakesNewNames scope (statement_tree names s) in
    subst S (sym c.in-Call.is)
    (new_at_call names earlier comp tables scope place (text_of names c.in-Call.name) (text_of names c.in-Call.inst) (giving names c.in-Call.at.items c.in-Call.args.items) b
    (absent_at names c.in-Call.name c.text-in-Call.result.now c.text-in-Call.ensures tables.ports (is_some c.find-in-Call.result) c.find-in-Call.ensures.present b c.is_none-in-Call.ensures))

pub returns-then-is_none : goal.returns-then-is_none
returns-then-is_none c earlier comp scope place =
    let names = c.args.names.now in
    let tables = c.args.tables.now in
    let b = c.is_none-then-is_none.result in
    let S : Stmt → Type 0 = λ s. IsTrue b ↔ MakesNewNames scope (statement_tree names s) in
    let absent = absent_at names c.in-Both.name c.text-name.result.now c.text-name.ensures tables.instances (is_some c.find-in-Both.result) c.find-in-Both.ensures.present c.is_none-in-Both.result c.is_none-in-Both.ensures in
    subst S (sym c.in-Both.is)
    (new_at_both names earlier comp tables scope place (text_of names c.in-Both.name) (text_of names c.in-Both.comp) c.in-Both.params.items (giving names c.in-Both.at.items c.in-Both.args.items) b
    (absent.0 c.if-is_none.true)
    (absent_at names c.in-Both.name c.text-name.result.now c.text-name.ensures tables.ports (is_some c.find-then-is_none.result) c.find-then-is_none.ensures.present b c.is_none-then-is_none.ensures))

pub returns-else-is_none : goal.returns-else-is_none
returns-else-is_none c earlier comp scope place =
    let names = c.args.names.now in
    let tables = c.args.tables.now in
    let b = c.is_none-in-Both.result in
    let S : Stmt → Type 0 = λ s. IsTrue b ↔ MakesNewNames scope (statement_tree names s) in
    let absent = absent_at names c.in-Both.name c.text-name.result.now c.text-name.ensures tables.instances (is_some c.find-in-Both.result) c.find-in-Both.ensures.present b c.is_none-in-Both.ensures in
    subst S (sym c.in-Both.is)
    (told_no _ b c.if-is_none.false (λ new.
    let told = absent.1 (both_instance names earlier comp tables scope place (text_of names c.in-Both.name) (text_of names c.in-Both.comp) c.in-Both.params.items (giving names c.in-Both.at.items c.in-Both.args.items) new) in
    clash b told c.if-is_none.false))
