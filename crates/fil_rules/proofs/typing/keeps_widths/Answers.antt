use Rattle.std.proofs.Common.{◌≡◌, ◌↔◌, List, Bor, Option, option_map, subst, sym}
use Rattle.std.specs.Bool.{IsTrue}
use Rattle.std.specs.Option.{IfSome}
use Rattle.hw_names.specs.Name.{text_of}
use Rattle.fil_ast.specs.Scope.{signature_in}
use Rattle.fil_ast.specs.Signature.{Signature}
use Rattle.fil_ast.specs.Tree.{giving, statement_tree}
use Rattle.fil_ast.specs.Typing.{GivesWidths, HasParameters, KeepsWidths}
use Rattle.fil_ast.specs.declared.tree.Stmt.{Stmt}
use Rattle.fil_ast.specs.declared.tree.Value.{Value}
use Rattle.fil_place.specs.Tables.{signature_at}
use Rattle.fil_place.specs.declared.callee.Callee.{Callee}
use Rattle.fil_place.proofs.StatementLemmas.{both_parts, first_fails, seen_listed}
use Rattle.fil_rules.proofs.typing.keeps_widths.Goals as goal

pub returns-in-Call : goal.returns-in-Call
returns-in-Call c scope place signed =
    let names = c.args.place.now.names.now in
    let b = c.gives_callee_widths.result in
    let at = c.in-Call.at.items in
    let sig = option_map (λ (callee : Bor Callee). callee.now) c.args.callee in
    let S : Stmt → Type 0 = λ s. IsTrue b ↔ KeepsWidths scope (statement_tree names s) in
    let C : Stmt → Type 0 = λ s. sig ≡ signature_at scope (statement_tree names s) in
    let P : Option Signature → List Value → Type 0 = λ o args. IsTrue b ↔ IfSome o (λ sig. GivesWidths scope sig (giving names at args)) in
    let told = subst (λ (args : List Value). P sig args) c.deref.ensures.value (c.gives_callee_widths.ensures scope at place) in
    subst S (sym c.in-Call.is) (subst (λ (o : Option Signature). P o c.in-Call.args.items) (subst C c.in-Call.is signed) told)

pub returns-then-is_some : goal.returns-then-is_some
returns-then-is_some c scope place signed =
    let names = c.args.place.now.names.now in
    let a = c.is_some-in-Both.result in
    let b = c.gives_callee_widths-then-is_some.result in
    let at = c.in-Both.at.items in
    let made = text_of names c.in-Both.comp in
    let params = c.in-Both.params.items in
    let sig = option_map (λ (callee : Bor Callee). callee.now) c.args.callee in
    let S : Stmt → Type 0 = λ s. IsTrue b ↔ KeepsWidths scope (statement_tree names s) in
    let C : Stmt → Type 0 = λ s. sig ≡ signature_at scope (statement_tree names s) in
    let P : Option Signature → List Value → Type 0 = λ o args. IsTrue b ↔ IfSome o (λ sig. GivesWidths scope sig (giving names at args)) in
    let is = subst C c.in-Both.is signed in
    let told = subst (λ (args : List Value). P sig args) c.deref-then-is_some.ensures.value (c.gives_callee_widths-then-is_some.ensures scope at place) in
    subst S (sym c.in-Both.is)
    (both_parts (HasParameters scope made params) (IfSome (signature_in scope.comps made params) (λ sig. GivesWidths scope sig (giving names at c.in-Both.args.items))) a b
    (seen_listed (λ (callee : Bor Callee). callee.now) c.args.callee (signature_in scope.comps made params) a c.is_some-in-Both.ensures is)
    c.if-is_some.true
    (subst (λ (o : Option Signature). P o c.in-Both.args.items) is told))

pub returns-in-New : goal.returns-in-New
returns-in-New c scope place signed =
    let names = c.args.place.now.names.now in
    let a = c.is_some.result in
    let sig = option_map (λ (callee : Bor Callee). callee.now) c.args.callee in
    let S : Stmt → Type 0 = λ s. IsTrue a ↔ KeepsWidths scope (statement_tree names s) in
    let C : Stmt → Type 0 = λ s. sig ≡ signature_at scope (statement_tree names s) in
    let made = signature_in scope.comps (text_of names c.in-New.comp) c.in-New.params.items in
    subst S (sym c.in-New.is) (seen_listed (λ (callee : Bor Callee). callee.now) c.args.callee made a c.is_some.ensures (subst C c.in-New.is signed))

pub returns-else-is_some : goal.returns-else-is_some
returns-else-is_some c scope place signed =
    let names = c.args.place.now.names.now in
    let a = c.is_some-in-Both.result in
    let at = c.in-Both.at.items in
    let made = text_of names c.in-Both.comp in
    let params = c.in-Both.params.items in
    let sig = option_map (λ (callee : Bor Callee). callee.now) c.args.callee in
    let S : Stmt → Type 0 = λ s. IsTrue a ↔ KeepsWidths scope (statement_tree names s) in
    let C : Stmt → Type 0 = λ s. sig ≡ signature_at scope (statement_tree names s) in
    let is = subst C c.in-Both.is signed in
    subst S (sym c.in-Both.is)
    (first_fails (HasParameters scope made params) (IfSome (signature_in scope.comps made params) (λ sig. GivesWidths scope sig (giving names at c.in-Both.args.items))) a
    (seen_listed (λ (callee : Bor Callee). callee.now) c.args.callee (signature_in scope.comps made params) a c.is_some-in-Both.ensures is)
    c.if-is_some.false)
