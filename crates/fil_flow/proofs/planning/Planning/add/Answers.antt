use Rattle.std.proofs.Common.{[], ◌∷◌, ◌++◌, map, refl, sym, ap, subst, arith}
use Rattle.std.specs.Prelude.{OnOk}
use Rattle.std.proofs.lemmas.Result.{on_ok_weaker}
use Rattle.hw_names.specs.Name.{text_of}
use Rattle.fil_ast.specs.Scope.{Instance, Invocation}
use Rattle.fil_ast.specs.Tree.{giving, statement_tree, value_tree}
use Rattle.fil_ast.specs.declared.tree.Stmt.{Stmt}
use Rattle.fil_flow.specs.inside.Body.{plus_instance}
use Rattle.fil_flow.specs.inside.Planning.{IsPlanning, KeepsStatement, grown}
use Rattle.fil_flow.proofs.PlanningLemmas.{both_can, both_new, call_can, planning_both, planning_call, planning_new}
use Rattle.fil_flow.proofs.planning.Planning.add.Goals as goal

pub invoke-requires-clause-known : goal.invoke-requires-clause-known
invoke-requires-clause-known c =
    let (scope, done, known, kept) = c.requires.known in
    let names = c.args.names.now in
    let name = text_of names c.in-Call.name in
    let inst = text_of names c.in-Call.inst in
    let gives = giving names c.in-Call.at.items c.in-Call.args.items in
    let K : Stmt → Type 0 = λ s. KeepsStatement scope done (statement_tree names s) in
    let v : Invocation = record { name = name; inst = inst; gives = gives } in (
      scope,
      done,
      v,
      known,
      record { name_of = refl; inst_of = refl; args_of = ap (map (value_tree names)) (sym c.deref-in-Call.ensures.value) },
      call_can scope done name gives inst known.body.signed (subst K c.in-Call.is kept),
    )

pub invoke-requires-in-Both-clause-known : goal.invoke-requires-in-Both-clause-known
invoke-requires-in-Both-clause-known c =
    let (scope, done, known, kept) = c.requires.known in
    let names = c.args.names.now in
    let name = text_of names c.in-Both.name in
    let made = text_of names c.in-Both.comp in
    let params = c.in-Both.params.items in
    let gives = giving names c.in-Both.at.items c.in-Both.args.items in
    let K : Stmt → Type 0 = λ s. KeepsStatement scope done (statement_tree names s) in
    let keeps = subst K c.in-Both.is kept in
    let i : Instance = record { name = name; made = made; params = params } in
    let v : Invocation = record { name = name; inst = name; gives = gives } in
    let mid = c.in_ok-make-in-Both.ensures scope done i known refl refl (sym c.deref-in-Both.ensures.value) keeps.widths.0 (both_new scope done name gives made params keeps) in (
      plus_instance scope i,
      done,
      v,
      mid,
      record { name_of = refl; inst_of = refl; args_of = ap (map (value_tree names)) (sym c.deref-in-Both-2.ensures.value) },
      both_can scope done name gives made params keeps,
    )

pub returns-in-New : goal.returns-in-New
returns-in-New c scope done known kept =
    let names = c.args.names.now in
    let earlier = c.args.earlier.now in
    let name = text_of names c.in-New.name in
    let made = text_of names c.in-New.comp in
    let params = c.in-New.params.items in
    let K : Stmt → Type 0 = λ s. KeepsStatement scope done (statement_tree names s) in
    let keeps = subst K c.in-New.is kept in
    let i : Instance = record { name = name; made = made; params = params } in
    let new = c.make.new.self in
    let R : Stmt → Type 0 = λ s. OnOk c.make.result (IsPlanning earlier (grown scope (statement_tree names s)) (done ++ statement_tree names s ∷ []) new) in
    subst R (sym c.in-New.is)
    (on_ok_weaker c.make.result (planning_new earlier scope done new name made params)
    (c.make.ensures scope done i known refl refl (sym c.deref.ensures.value) keeps.widths (keeps.new.instances 0 i (omega arith))))

pub returns-in-Call : goal.returns-in-Call
returns-in-Call c scope done known kept =
    let names = c.args.names.now in
    let earlier = c.args.earlier.now in
    let name = text_of names c.in-Call.name in
    let inst = text_of names c.in-Call.inst in
    let gives = giving names c.in-Call.at.items c.in-Call.args.items in
    let K : Stmt → Type 0 = λ s. KeepsStatement scope done (statement_tree names s) in
    let v : Invocation = record { name = name; inst = inst; gives = gives } in
    let new = c.invoke.new.self in
    let R : Stmt → Type 0 = λ s. OnOk c.invoke.result (IsPlanning earlier (grown scope (statement_tree names s)) (done ++ statement_tree names s ∷ []) new) in
    subst R (sym c.in-Call.is)
    (on_ok_weaker c.invoke.result (planning_call earlier scope done new name inst gives)
    (c.invoke.ensures scope done v known (record { name_of = refl; inst_of = refl; args_of = ap (map (value_tree names)) (sym c.deref-in-Call.ensures.value) })
    (call_can scope done name gives inst known.body.signed (subst K c.in-Call.is kept))))

pub returns-in_ok-make-in-Both : goal.returns-in_ok-make-in-Both
returns-in_ok-make-in-Both c scope done known kept =
    let names = c.args.names.now in
    let earlier = c.args.earlier.now in
    let name = text_of names c.in-Both.name in
    let made = text_of names c.in-Both.comp in
    let params = c.in-Both.params.items in
    let gives = giving names c.in-Both.at.items c.in-Both.args.items in
    let K : Stmt → Type 0 = λ s. KeepsStatement scope done (statement_tree names s) in
    let keeps = subst K c.in-Both.is kept in
    let i : Instance = record { name = name; made = made; params = params } in
    let v : Invocation = record { name = name; inst = name; gives = gives } in
    let mid = c.in_ok-make-in-Both.ensures scope done i known refl refl (sym c.deref-in-Both.ensures.value) keeps.widths.0 (both_new scope done name gives made params keeps) in
    let new = c.invoke-in-Both.new.self in
    let R : Stmt → Type 0 = λ s. OnOk c.invoke-in-Both.result (IsPlanning earlier (grown scope (statement_tree names s)) (done ++ statement_tree names s ∷ []) new) in
    subst R (sym c.in-Both.is)
    (on_ok_weaker c.invoke-in-Both.result (planning_both earlier scope done new name made params gives)
    (c.invoke-in-Both.ensures (plus_instance scope i) done v mid (record { name_of = refl; inst_of = refl; args_of = ap (map (value_tree names)) (sym c.deref-in-Both-2.ensures.value) })
    (both_can scope done name gives made params keeps)))
