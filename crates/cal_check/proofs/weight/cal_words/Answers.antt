use Rattle.std.proofs.Common.{ℕ, List, Vec, Global, Option, IfOk, length, sym, subst, ap, arith}
use Rattle.std.proofs.lemmas.List.{length-map}
use Rattle.cal_ast.specs.Tree.{component_tree, design_of}
use Rattle.cal_ast.specs.declared.tree.CalDesign.{CalDesign}
use Rattle.cal_place.specs.Tables.{AreMade}
use Rattle.cal_check.specs.inside.Totals.{AreOwn}
use Rattle.cal_check.specs.Weight.{IsTold, own_words}
use Rattle.cal_place.specs.declared.prototype.Prototype.{Prototype}
use Rattle.cal_check.proofs.weight.cal_words.Goals as goal

pub own_words_of_each-requires : goal.own_words_of_each-requires
own_words_of_each-requires c =
    let d = design_of c.design-design.result.now in
    let M : List (Vec (Option Prototype) Global) → Type 0 = λ l. AreMade d l in
    (d, subst M (sym c.deref.ensures.value) c.in_ok-tables.ensures.made)

pub come_to-requires-clause-sized : goal.come_to-requires-clause-sized
come_to-requires-clause-sized c =
    let d = c.design-design.result.now in
    let M : List (Vec (Option Prototype) Global) → Type 0 = λ l. AreMade (design_of d) l in
    let own = c.in_ok-own.ensures (design_of d) (subst M (sym c.deref.ensures.value) c.in_ok-tables.ensures.made) in
    omega (arith, ap length c.deref-2.ensures.value, own.sized, length-map d.comps.items (component_tree d.names))

pub returns : goal.returns
returns c =
    let d = c.design-design.result.now in
    let M : List (Vec (Option Prototype) Global) → Type 0 = λ l. AreMade (design_of d) l in
    let own = c.in_ok-own.ensures (design_of d) (subst M (sym c.deref.ensures.value) c.in_ok-tables.ensures.made) in
    let O : List ℕ → Type 0 = λ l. AreOwn (design_of d) own_words l in
    let T : CalDesign → Type 0 = λ design. IfOk c.come_to.result (IsTold (design_of design) own_words) in
    subst T c.design-design.ensures.same (c.come_to.ensures own_words (subst O (sym c.deref-2.ensures.value) own))
