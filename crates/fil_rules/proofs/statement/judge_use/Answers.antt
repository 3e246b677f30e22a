use Rattle.std.proofs.Common.{◌≡◌, ◌≤◌, Bor, Some, Contains, false, is_some, length, slice_get, option_map, refl, sym, ap, subst, ◌∙◌, arith}
use Rattle.std.specs.Prelude.{IfErr, OnOk}
use Rattle.hw_names.specs.Name.{Text, text_of}
use Rattle.hw_names.proofs.NameLemmas.{text_of-slice_get}
use Rattle.fil_ast.specs.Naming.{MakesNewNames, UsesKnownNames}
use Rattle.fil_ast.specs.Rules.{F1, F2}
use Rattle.fil_ast.specs.Scope.{Invocation}
use Rattle.fil_ast.specs.Tree.{New, Call, Both, Connect, giving, statement_tree, value_tree}
use Rattle.fil_ast.specs.declared.tree.Stmt.{Stmt}
use Rattle.fil_place.specs.Place.{with_instance}
use Rattle.fil_rules.specs.inside.Shared.{TellsSharing}
use Rattle.fil_rules.specs.inside.Stages.{KeepsFrom, KeptAt, ShownAt, TellsFrom}
use Rattle.fil_place.specs.Tables.{AreTimesOf, calls_at, signature_at}
use Rattle.fil_place.specs.declared.callee.Callee.{Callee}
use Rattle.fil_place.proofs.GeneralLemmas.{clash}
use Rattle.fil_place.proofs.AddLemmas.{on_ok}
use Rattle.fil_rules.proofs.ListedLemmas.{lists_fresh, lists_with}
use Rattle.fil_place.proofs.LookupLemmas.{no_instance_named, not_found}
use Rattle.fil_rules.proofs.PlaceLemmas.{calls_found, invoked_both, invoked_call, none_used}
use Rattle.fil_rules.proofs.StageLemmas.{none_invoked, on_err, sharing_kept, sharing_told}
use Rattle.fil_place.proofs.StatementLemmas.{both_instance}
use Rattle.fil_rules.proofs.statement.judge_use.Goals as goal

pub returns-in-Some-find-clause-kept : goal.returns-in-Some-find-clause-kept
returns-in-Some-find-clause-kept c scope before stands signed given kept =
    let names = c.args.place.now.names.now in
    let r = c.judge_sharing.result in
    let o = option_map (λ (callee : Bor Callee). callee.now) c.args.callee in
    let found : o ≡ Some c.in-Some.callee.now = ap (option_map (λ (callee : Bor Callee). callee.now)) c.in-Some.is in
    let name = text_of names c.in-Call.name in
    let inst = text_of names c.in-Call.inst in
    let named = text_of-slice_get names c.in-Call.inst c.text.result.now c.text.ensures in
    let tables = c.args.place.now.tables.now in
    let n = c.in-Some-find.instance.0 in
    let there : slice_get tables.instances n ≡ Some inst = c.in-Some-find.ensures.text ∙ ap Some (sym named) in
    let are = calls_found c.args.place.now.earlier.now tables scope stands.place.shows inst n there in
    let gives = giving names c.in-Call.at.items c.in-Call.args.items in
    let v : Invocation = record { name = name; inst = inst; gives = gives } in
    let s = Call name inst gives in
    let lists = lists_with c.args.place.now.earlier.now tables scope stands.place.shows s stands.listed n inst there in
    let R : Stmt → Type 0 = λ s. OnOk r (KeepsFrom (KeptAt scope before (statement_tree names s)) 10 13) in
    let C : Stmt → Type 0 = λ s. o ≡ signature_at scope (statement_tree names s) in
    let T : Stmt → Type 0 = λ s. AreTimesOf c.args.place.now.tables.now.events c.args.at.now (statement_tree names s) in
    let K : Stmt → Type 0 = λ s. KeepsFrom (KeptAt scope before (statement_tree names s)) 0 10 in
    let invoked = invoked_call names c.args.place.now.earlier.now c.args.place.now.comp.now c.args.place.now.tables.now scope before stands name inst gives (subst K c.in-Call.is kept) c.in-Some.callee.now (sym (subst C c.in-Call.is signed) ∙ found) (calls_at tables n) are c.args.at.now (subst T c.in-Call.is given) in
    subst R (sym c.in-Call.is) (on_ok r (c.judge_sharing.ensures.kept (with_instance scope s) v invoked lists) (λ shared. sharing_kept scope before s v refl shared))

pub returns-in-Some-find-clause-broken : goal.returns-in-Some-find-clause-broken
returns-in-Some-find-clause-broken c scope before stands signed given kept =
    let names = c.args.place.now.names.now in
    let r = c.judge_sharing.result in
    let o = option_map (λ (callee : Bor Callee). callee.now) c.args.callee in
    let found : o ≡ Some c.in-Some.callee.now = ap (option_map (λ (callee : Bor Callee). callee.now)) c.in-Some.is in
    let name = text_of names c.in-Call.name in
    let inst = text_of names c.in-Call.inst in
    let named = text_of-slice_get names c.in-Call.inst c.text.result.now c.text.ensures in
    let tables = c.args.place.now.tables.now in
    let n = c.in-Some-find.instance.0 in
    let there : slice_get tables.instances n ≡ Some inst = c.in-Some-find.ensures.text ∙ ap Some (sym named) in
    let are = calls_found c.args.place.now.earlier.now tables scope stands.place.shows inst n there in
    let gives = giving names c.in-Call.at.items c.in-Call.args.items in
    let v : Invocation = record { name = name; inst = inst; gives = gives } in
    let s = Call name inst gives in
    let lists = lists_with c.args.place.now.earlier.now tables scope stands.place.shows s stands.listed n inst there in
    let R : Stmt → Type 0 = λ s. IfErr r (TellsFrom (KeptAt scope before (statement_tree names s)) (ShownAt scope (statement_tree names s)) 10) in
    let C : Stmt → Type 0 = λ s. o ≡ signature_at scope (statement_tree names s) in
    let T : Stmt → Type 0 = λ s. AreTimesOf c.args.place.now.tables.now.events c.args.at.now (statement_tree names s) in
    let K : Stmt → Type 0 = λ s. KeepsFrom (KeptAt scope before (statement_tree names s)) 0 10 in
    let invoked = invoked_call names c.args.place.now.earlier.now c.args.place.now.comp.now c.args.place.now.tables.now scope before stands name inst gives (subst K c.in-Call.is kept) c.in-Some.callee.now (sym (subst C c.in-Call.is signed) ∙ found) (calls_at tables n) are c.args.at.now (subst T c.in-Call.is given) in
    subst R (sym c.in-Call.is)
    (on_err r (TellsSharing (with_instance scope s) v) (TellsFrom (KeptAt scope before s) (ShownAt scope s) 10) (c.judge_sharing.ensures.broken (with_instance scope s) v invoked lists)
    (λ end told. sharing_told scope before s v refl end told))

pub returns-in-Both-clause-kept : goal.returns-in-Both-clause-kept
returns-in-Both-clause-kept c scope before stands signed given kept =
    let names = c.args.place.now.names.now in
    let r = c.judge_sharing-in-Both.result in
    let o = option_map (λ (callee : Bor Callee). callee.now) c.args.callee in
    let found : o ≡ Some c.in-Some.callee.now = ap (option_map (λ (callee : Bor Callee). callee.now)) c.in-Some.is in
    let name = text_of names c.in-Both.name in
    let made = text_of names c.in-Both.comp in
    let params = c.in-Both.params.items in
    let gives = giving names c.in-Both.at.items c.in-Both.args.items in
    let v : Invocation = record { name = name; inst = name; gives = gives } in
    let s = Both name made params gives in
    let tables = c.args.place.now.tables.now in
    let n = c.len-instance.result in
    let past : length tables.instances ≤ n = omega (arith, c.len-instance.ensures.len) in
    let F : Stmt → Type 0 = λ s. KeepsFrom (KeptAt scope before (statement_tree names s)) 0 10 in
    let fresh : MakesNewNames scope s = (subst F c.in-Both.is kept) 0 F1 (omega arith) (omega arith) refl in
    let lists = lists_fresh c.args.place.now.earlier.now tables scope stands.place.shows s stands.listed n name past (both_instance names c.args.place.now.earlier.now c.args.place.now.comp.now tables scope stands.place name made params gives fresh) in
    let R : Stmt → Type 0 = λ s. OnOk r (KeepsFrom (KeptAt scope before (statement_tree names s)) 10 13) in
    let C : Stmt → Type 0 = λ s. o ≡ signature_at scope (statement_tree names s) in
    let T : Stmt → Type 0 = λ s. AreTimesOf c.args.place.now.tables.now.events c.args.at.now (statement_tree names s) in
    let K : Stmt → Type 0 = λ s. KeepsFrom (KeptAt scope before (statement_tree names s)) 0 10 in
    let invoked = invoked_both names c.args.place.now.earlier.now c.args.place.now.comp.now c.args.place.now.tables.now scope before stands name made params gives (subst K c.in-Both.is kept) c.in-Some.callee.now (sym (subst C c.in-Both.is signed) ∙ found) n past c.args.at.now (subst T c.in-Both.is given) in
    subst R (sym c.in-Both.is) (on_ok r (c.judge_sharing-in-Both.ensures.kept (with_instance scope s) v invoked lists) (λ shared. sharing_kept scope before s v refl shared))

pub returns-in-Both-clause-broken : goal.returns-in-Both-clause-broken
returns-in-Both-clause-broken c scope before stands signed given kept =
    let names = c.args.place.now.names.now in
    let r = c.judge_sharing-in-Both.result in
    let o = option_map (λ (callee : Bor Callee). callee.now) c.args.callee in
    let found : o ≡ Some c.in-Some.callee.now = ap (option_map (λ (callee : Bor Callee). callee.now)) c.in-Some.is in
    let name = text_of names c.in-Both.name in
    let made = text_of names c.in-Both.comp in
    let params = c.in-Both.params.items in
    let gives = giving names c.in-Both.at.items c.in-Both.args.items in
    let v : Invocation = record { name = name; inst = name; gives = gives } in
    let s = Both name made params gives in
    let tables = c.args.place.now.tables.now in
    let n = c.len-instance.result in
    let past : length tables.instances ≤ n = omega (arith, c.len-instance.ensures.len) in
    let F : Stmt → Type 0 = λ s. KeepsFrom (KeptAt scope before (statement_tree names s)) 0 10 in
    let fresh : MakesNewNames scope s = (subst F c.in-Both.is kept) 0 F1 (omega arith) (omega arith) refl in
    let lists = lists_fresh c.args.place.now.earlier.now tables scope stands.place.shows s stands.listed n name past (both_instance names c.args.place.now.earlier.now c.args.place.now.comp.now tables scope stands.place name made params gives fresh) in
    let R : Stmt → Type 0 = λ s. IfErr r (TellsFrom (KeptAt scope before (statement_tree names s)) (ShownAt scope (statement_tree names s)) 10) in
    let C : Stmt → Type 0 = λ s. o ≡ signature_at scope (statement_tree names s) in
    let T : Stmt → Type 0 = λ s. AreTimesOf c.args.place.now.tables.now.events c.args.at.now (statement_tree names s) in
    let K : Stmt → Type 0 = λ s. KeepsFrom (KeptAt scope before (statement_tree names s)) 0 10 in
    let invoked = invoked_both names c.args.place.now.earlier.now c.args.place.now.comp.now c.args.place.now.tables.now scope before stands name made params gives (subst K c.in-Both.is kept) c.in-Some.callee.now (sym (subst C c.in-Both.is signed) ∙ found) n past c.args.at.now (subst T c.in-Both.is given) in
    subst R (sym c.in-Both.is)
    (on_err r (TellsSharing (with_instance scope s) v) (TellsFrom (KeptAt scope before s) (ShownAt scope s) 10) (c.judge_sharing-in-Both.ensures.broken (with_instance scope s) v invoked lists)
    (λ end told. sharing_told scope before s v refl end told))

pub returns-in_default-clause-kept : goal.returns-in_default-clause-kept
returns-in_default-clause-kept c scope before stands signed given kept =
    let s = statement_tree c.args.place.now.names.now c.args.stmt.now in
    let fresh : MakesNewNames scope s = kept 0 F1 (omega arith) (omega arith) refl in
    none_used scope before s fresh (sym (ap (option_map (λ (callee : Bor Callee). callee.now)) c.in_default.is) ∙ signed)

pub returns-in-New-clause-kept : goal.returns-in-New-clause-kept
returns-in-New-clause-kept c scope before stands signed given kept =
    let names = c.args.place.now.names.now in
    let R : Stmt → Type 0 = λ s. KeepsFrom (KeptAt scope before (statement_tree names s)) 10 13 in
    subst R (sym c.in-New.is) (none_invoked scope before (New (text_of names c.in-New.name) (text_of names c.in-New.comp) c.in-New.params.items) refl)

pub returns-in-Set-clause-kept : goal.returns-in-Set-clause-kept
returns-in-Set-clause-kept c scope before stands signed given kept =
    let names = c.args.place.now.names.now in
    let R : Stmt → Type 0 = λ s. KeepsFrom (KeptAt scope before (statement_tree names s)) 10 13 in
    subst R (sym c.in-Set.is) (none_invoked scope before (Connect (text_of names c.in-Set.dst) (value_tree names c.in-Set.value)) refl)

pub returns-in-None-clause-kept : goal.returns-in-None-clause-kept
returns-in-None-clause-kept c scope before stands signed given kept =
    let names = c.args.place.now.names.now in
    let tables = c.args.place.now.tables.now in
    let inst = text_of names c.in-Call.inst in
    let named = text_of-slice_get names c.in-Call.inst c.text.result.now c.text.ensures in
    let K : Stmt → Type 0 = λ s. KeepsFrom (KeptAt scope before (statement_tree names s)) 0 10 in
    let known : UsesKnownNames scope (Call (text_of names c.in-Call.name) inst (giving names c.in-Call.at.items c.in-Call.args.items)) = (subst K c.in-Call.is kept) 1 F2 (omega arith) (omega arith) refl in
    let absent : Contains tables.instances inst → ⊥ = λ listed. not_found (Contains tables.instances c.text.result.now) c.in-None.ensures.present (subst (λ (t : Text). Contains tables.instances t) named listed) in
    absurd (clash false (sym (ap is_some (no_instance_named names c.args.place.now.earlier.now c.args.place.now.comp.now tables scope stands.place inst absent)) ∙ known.0) refl)
