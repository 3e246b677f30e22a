use Rattle.std.proofs.Common.{◌≡◌, List, Bor, Option, Some, map, option_map, subst, sym, ◌∙◌}
use Rattle.std.specs.Option.{IfSome}
use Rattle.std.specs.Prelude.{IfErr, OnOk}
use Rattle.std.proofs.lemmas.Bool.Decides.{not_from_Decides}
use Rattle.hw_names.specs.Name.{text_of}
use Rattle.fil_ast.specs.Signature.{Signature}
use Rattle.fil_ast.specs.Tree.{Call, Both, giving, statement_tree, value_tree}
use Rattle.fil_ast.specs.declared.tree.Stmt.{Stmt}
use Rattle.fil_ast.specs.declared.tree.Value.{Value}
use Rattle.fil_rules.specs.inside.Invocation.{KeepsTimes, TellsTimes}
use Rattle.fil_rules.specs.inside.Stages.{HoldsUses, KeepsFrom, KeptAt, ShownAt, TellsFrom}
use Rattle.fil_place.specs.Tables.{AreTimesOf, signature_at}
use Rattle.fil_place.specs.declared.callee.Callee.{Callee}
use Rattle.fil_rules.specs.declared.rules.ItemEnd.{ItemEnd}
use Rattle.fil_place.proofs.AddLemmas.{on_ok}
use Rattle.fil_rules.proofs.PlaceLemmas.{held_at_connection, held_at_new, statement_held}
use Rattle.fil_rules.proofs.StageLemmas.{both_kept, both_told, call_kept, call_told, connection_kept, connection_told, new_kept, on_err}
use Rattle.fil_rules.proofs.timeline.judge_timing.Goals as goal

pub returns-in-Call-clause-kept : goal.returns-in-Call-clause-kept
returns-in-Call-clause-kept c scope before place distinct connected signed given =
    let names = c.args.place.now.names.now in
    let o = option_map (λ (callee : Bor Callee). callee.now) c.args.callee in
    let r = c.judge_callee.result in
    let name = text_of names c.in-Call.name in
    let inst = text_of names c.in-Call.inst in
    let gives = giving names c.in-Call.at.items c.in-Call.args.items in
    let S : Stmt → Type 0 = λ s. OnOk r (KeepsFrom (KeptAt scope before (statement_tree names s)) 6 10) in
    let C : Stmt → Type 0 = λ s. o ≡ signature_at scope (statement_tree names s) in
    let T : Stmt → Type 0 = λ s. AreTimesOf c.args.place.now.tables.now.events c.args.at.now (statement_tree names s) in
    let P : Option Signature → List Value → Type 0 = λ o args. OnOk r (IfSome o (λ (sig : Signature). KeepsTimes scope sig inst (record { times = gives.times; args = map (value_tree names) args }))) in
    let kept = subst (λ (args : List Value). P o args) c.deref.ensures.value (c.judge_callee.ensures.kept scope gives.times inst place distinct (subst T c.in-Call.is given)) in
    subst S (sym c.in-Call.is)
    (on_ok r (subst (λ (o : Option Signature). P o c.in-Call.args.items) (subst C c.in-Call.is signed) kept) (λ kept. call_kept scope before name inst gives kept))

pub returns-in-Call-clause-broken : goal.returns-in-Call-clause-broken
returns-in-Call-clause-broken c scope before place distinct connected signed given =
    let names = c.args.place.now.names.now in
    let o = option_map (λ (callee : Bor Callee). callee.now) c.args.callee in
    let r = c.judge_callee.result in
    let name = text_of names c.in-Call.name in
    let inst = text_of names c.in-Call.inst in
    let gives = giving names c.in-Call.at.items c.in-Call.args.items in
    let S : Stmt → Type 0 = λ s. IfErr r (TellsFrom (KeptAt scope before (statement_tree names s)) (ShownAt scope (statement_tree names s)) 6) in
    let C : Stmt → Type 0 = λ s. o ≡ signature_at scope (statement_tree names s) in
    let T : Stmt → Type 0 = λ s. AreTimesOf c.args.place.now.tables.now.events c.args.at.now (statement_tree names s) in
    let Q : List Value → ItemEnd → Type 0 = λ args end. (sig : Signature) × (o ≡ Some sig) × TellsTimes scope sig inst (record { times = gives.times; args = map (value_tree names) args }) end in
    let told = subst (λ (args : List Value). IfErr r (Q args)) c.deref.ensures.value (c.judge_callee.ensures.broken scope gives.times inst place distinct (subst T c.in-Call.is given)) in
    subst S (sym c.in-Call.is)
    (on_err r (Q c.in-Call.args.items) (TellsFrom (KeptAt scope before (Call name inst gives)) (ShownAt scope (Call name inst gives)) 6) told
    (λ end (sig, is, tells). call_told scope before name inst gives end sig (sym (subst C c.in-Call.is signed) ∙ is) tells))

pub returns-in-Call-clause-held : goal.returns-in-Call-clause-held
returns-in-Call-clause-held c scope before signed kept =
    statement_held scope before (statement_tree c.args.place.now.names.now c.args.stmt.now) (option_map (λ (callee : Bor Callee). callee.now) c.args.callee) signed c.judge_callee.ensures.good kept

pub returns-in-Both-clause-kept : goal.returns-in-Both-clause-kept
returns-in-Both-clause-kept c scope before place distinct connected signed given =
    let names = c.args.place.now.names.now in
    let o = option_map (λ (callee : Bor Callee). callee.now) c.args.callee in
    let r = c.judge_callee-in-Both.result in
    let inst = text_of names c.in-Both.name in
    let made = text_of names c.in-Both.comp in
    let params = c.in-Both.params.items in
    let gives = giving names c.in-Both.at.items c.in-Both.args.items in
    let S : Stmt → Type 0 = λ s. OnOk r (KeepsFrom (KeptAt scope before (statement_tree names s)) 6 10) in
    let C : Stmt → Type 0 = λ s. o ≡ signature_at scope (statement_tree names s) in
    let T : Stmt → Type 0 = λ s. AreTimesOf c.args.place.now.tables.now.events c.args.at.now (statement_tree names s) in
    let P : Option Signature → List Value → Type 0 = λ o args. OnOk r (IfSome o (λ (sig : Signature). KeepsTimes scope sig inst (record { times = gives.times; args = map (value_tree names) args }))) in
    let kept = subst (λ (args : List Value). P o args) c.deref-in-Both.ensures.value (c.judge_callee-in-Both.ensures.kept scope gives.times inst place distinct (subst T c.in-Both.is given)) in
    subst S (sym c.in-Both.is)
    (on_ok r (subst (λ (o : Option Signature). P o c.in-Both.args.items) (subst C c.in-Both.is signed) kept) (λ kept. both_kept scope before inst made params gives kept))

pub returns-in-Both-clause-broken : goal.returns-in-Both-clause-broken
returns-in-Both-clause-broken c scope before place distinct connected signed given =
    let names = c.args.place.now.names.now in
    let o = option_map (λ (callee : Bor Callee). callee.now) c.args.callee in
    let r = c.judge_callee-in-Both.result in
    let inst = text_of names c.in-Both.name in
    let made = text_of names c.in-Both.comp in
    let params = c.in-Both.params.items in
    let gives = giving names c.in-Both.at.items c.in-Both.args.items in
    let S : Stmt → Type 0 = λ s. IfErr r (TellsFrom (KeptAt scope before (statement_tree names s)) (ShownAt scope (statement_tree names s)) 6) in
    let C : Stmt → Type 0 = λ s. o ≡ signature_at scope (statement_tree names s) in
    let T : Stmt → Type 0 = λ s. AreTimesOf c.args.place.now.tables.now.events c.args.at.now (statement_tree names s) in
    let Q : List Value → ItemEnd → Type 0 = λ args end. (sig : Signature) × (o ≡ Some sig) × TellsTimes scope sig inst (record { times = gives.times; args = map (value_tree names) args }) end in
    let told = subst (λ (args : List Value). IfErr r (Q args)) c.deref-in-Both.ensures.value (c.judge_callee-in-Both.ensures.broken scope gives.times inst place distinct (subst T c.in-Both.is given)) in
    subst S (sym c.in-Both.is)
    (on_err r (Q c.in-Both.args.items) (TellsFrom (KeptAt scope before (Both inst made params gives)) (ShownAt scope (Both inst made params gives)) 6) told
    (λ end (sig, is, tells). both_told scope before inst made params gives end sig (sym (subst C c.in-Both.is signed) ∙ is) tells))

pub returns-in-Both-clause-held : goal.returns-in-Both-clause-held
returns-in-Both-clause-held c scope before signed kept =
    statement_held scope before (statement_tree c.args.place.now.names.now c.args.stmt.now) (option_map (λ (callee : Bor Callee). callee.now) c.args.callee) signed c.judge_callee-in-Both.ensures.good kept

pub returns-then-connects_once-clause-kept : goal.returns-then-connects_once-clause-kept
returns-then-connects_once-clause-kept c scope before place distinct connected signed given =
    let names = c.args.place.now.names.now in
    let S : Stmt → Type 0 = λ s. KeepsFrom (KeptAt scope before (statement_tree names s)) 6 10 in
    subst S (sym c.in-Set.is)
    (connection_kept scope before (text_of names c.in-Set.dst) (value_tree names c.in-Set.value) ((c.connects_once.ensures scope before place distinct connected).0 c.if-connects_once.true))

pub returns-else-connects_once-clause-broken : goal.returns-else-connects_once-clause-broken
returns-else-connects_once-clause-broken c scope before place distinct connected signed given =
    let names = c.args.place.now.names.now in
    let S : Stmt → Type 0 = λ s. TellsFrom (KeptAt scope before (statement_tree names s)) (ShownAt scope (statement_tree names s)) 6 c.breaks.result in
    subst S (sym c.in-Set.is)
    (connection_told scope before (text_of names c.in-Set.dst) (value_tree names c.in-Set.value) c.breaks.result c.breaks.ensures
    (not_from_Decides c.connects_once.result (c.connects_once.ensures scope before place distinct connected) c.if-connects_once.false))

pub returns-then-connects_once-clause-held : goal.returns-then-connects_once-clause-held
returns-then-connects_once-clause-held c scope before signed kept =
    let names = c.args.place.now.names.now in
    let S : Stmt → Type 0 = λ s. HoldsUses scope (statement_tree names s) in
    subst S (sym c.in-Set.is) (held_at_connection scope (text_of names c.in-Set.dst) (value_tree names c.in-Set.value))

pub returns-else-connects_once-clause-held : goal.returns-else-connects_once-clause-held
returns-else-connects_once-clause-held c scope before signed kept =
    let names = c.args.place.now.names.now in
    let S : Stmt → Type 0 = λ s. HoldsUses scope (statement_tree names s) in
    subst S (sym c.in-Set.is) (held_at_connection scope (text_of names c.in-Set.dst) (value_tree names c.in-Set.value))

pub returns-in-New-clause-kept : goal.returns-in-New-clause-kept
returns-in-New-clause-kept c scope before place distinct connected signed given =
    let names = c.args.place.now.names.now in
    let S : Stmt → Type 0 = λ s. KeepsFrom (KeptAt scope before (statement_tree names s)) 6 10 in
    subst S (sym c.in-New.is) (new_kept scope before (text_of names c.in-New.name) (text_of names c.in-New.comp) c.in-New.params.items)

pub returns-in-New-clause-held : goal.returns-in-New-clause-held
returns-in-New-clause-held c scope before signed kept =
    let names = c.args.place.now.names.now in
    let S : Stmt → Type 0 = λ s. HoldsUses scope (statement_tree names s) in
    subst S (sym c.in-New.is) (held_at_new scope (text_of names c.in-New.name) (text_of names c.in-New.comp) c.in-New.params.items)
