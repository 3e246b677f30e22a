use Rattle.std.proofs.Common.{ℕ, List, IfOk, length, sym, subst, ap, arith}
use Rattle.std.proofs.lemmas.List.{length-map}
use Rattle.cal_ast.specs.Tree.{component_tree, design_of}
use Rattle.cal_ast.specs.declared.tree.CalDesign.{CalDesign}
use Rattle.cal_place.specs.Tables.{AreSignatures}
use Rattle.cal_check.specs.inside.Totals.{AreOwn}
use Rattle.cal_check.specs.Weight.{IsTold, own_weight}
use Rattle.cal_place.specs.declared.signature.Signature.{Signature}
use Rattle.cal_check.proofs.weight.cal_weight.Goals as goal

pub own_weights-requires : goal.own_weights-requires
own_weights-requires c =
    let S : List Signature → Type 0 = λ l. AreSignatures (design_of c.design-design.result.now) l in
    subst S (sym c.deref.ensures.value) c.in_ok-tables.ensures.signatures

pub come_to-requires-clause-sized : goal.come_to-requires-clause-sized
come_to-requires-clause-sized c =
    let d = c.design-design.result.now in
    omega (arith, ap length c.deref-2.ensures.value, c.in_ok-own.ensures.sized, length-map d.comps.items (component_tree d.names))

pub returns : goal.returns
returns c =
    let d = c.design-design.result.now in
    let O : List ℕ → Type 0 = λ l. AreOwn (design_of d) own_weight l in
    let T : CalDesign → Type 0 = λ design. IfOk c.come_to.result (IsTold (design_of design) own_weight) in
    subst T c.design-design.ensures.same (c.come_to.ensures own_weight (subst O (sym c.deref-2.ensures.value) c.in_ok-own.ensures))
