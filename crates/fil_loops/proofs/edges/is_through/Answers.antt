use Rattle.std.proofs.Common.{◌≡◌, ◌<◌, Option, None, Some, Err, length, sym, ap, subst, ◌∙◌}
use Rattle.std.proofs.lemmas.Option.{same_Some}
use Rattle.hw_names.specs.Name.{Text}
use Rattle.hw_prims.specs.Meaning.{is_through}
use Rattle.hw_prims.specs.Table.{inputs_of, name_at, outputs_of, prim_of}
use Rattle.hw_prims.specs.declared.prim.Primitive.{Primitive}
use Rattle.fil_sig.proofs.PinLemmas.{makes_none}
use Rattle.fil_loops.proofs.InstanceLemmas.{through_alike, table_prim}
use Rattle.fil_loops.proofs.edges.is_through.Goals as goal

pub returns-in-Ok : goal.returns-in-Ok
returns-in-Ok c made prim input output told is ins outs =
    let table = c.args.table.now in
    let params = c.args.params.now in
    let by_table = table_prim made table params prim told is in
    let by_make = ap (λ (t : Text). prim_of t params) (sym c.as_bytes.ensures.value) ∙ c.in-Ok.ensures.made.0 in
    let same : c.in-Ok.prim ≡ prim = same_Some c.in-Ok.prim prim (sym by_make ∙ by_table) in
    let first = c.is_first_through.ensures
    (subst (λ (p : Primitive). 0 < length (inputs_of p)) (sym same) ins) (subst (λ (p : Primitive). 0 < length (outputs_of p)) (sym same) outs) in
    let n = name_at (inputs_of c.in-Ok.prim) 0 in
    let m = name_at (outputs_of c.in-Ok.prim) 0 in
    through_alike made table params prim input output n m told by_table ∙ (ap (λ (p : Primitive). is_through p n m) (sym same) ∙ sym first)

pub returns-in-Err : goal.returns-in-Err
returns-in-Err c made prim input output told is ins outs =
    let table = c.args.table.now in
    let params = c.args.params.now in
    let none = makes_none c.as_bytes.result.now params c.in-Err.field-0 (λ e. c.make.ensures.unknown.0 (c.in-Err.is ∙ ap Err e)) (λ e. (c.make.ensures.bad.0 (c.in-Err.is ∙ ap Err e)).1) in
    let bad : ◌≡◌ {A = Option Primitive} None (Some prim) = sym (ap (λ (t : Text). prim_of t params) (sym c.as_bytes.ensures.value) ∙ none) ∙ table_prim made table params prim told is in
    absurd (cc)
