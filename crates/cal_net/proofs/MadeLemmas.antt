-- What follows from clauses of calls, and that wires have a component.
use Rattle.std.proofs.Common.{◌≡◌, ◌≢◌, ◌<◌, [], ◌∷◌, length, Result, Ok, Err, refl, arith}
use Rattle.std.specs.Prelude.{IfOk}
use Rattle.std.proofs.lemmas.List.{length-map}
use Rattle.cal_ast.specs.Keeping.{KeepsComponentShape, KeepsShape}
use Rattle.cal_ast.specs.Tree.{Design, component_tree, design_of}
use Rattle.cal_ast.specs.Written.{DesignIsWritten}
use Rattle.cal_ast.specs.declared.tree.CalDesign.{CalDesign}
use Rattle.cal_net.proofs.ShapeLemmas.{zip_length}

-- what follows from a clause, and from two
pub ok_from : {X E : Type 0} (P Q : X → Type 0) → ((x : X) → P x → Q x) → (r : Result X E) → IfOk r P → IfOk r Q
ok_from P Q more (Ok x) p = more x p
ok_from P Q more (Err e) p = tt

pub ok_both : {X E : Type 0} (P Q R : X → Type 0) → ((x : X) → P x → Q x → R x) → (r : Result X E) → IfOk r P → IfOk r Q → IfOk r R
ok_both P Q R more (Ok x) p q = more x p q
ok_both P Q R more (Err e) p q = tt

not_empty : (design : Design) → design ≢ [] → 0 < length design
not_empty [] apart = absurd (apart refl)
not_empty (c ∷ design) apart = omega arith

-- a written design has a component, and so have its wires
pub some_made : (source : Design) (wires : CalDesign) → DesignIsWritten source → KeepsShape source (design_of wires) → 0 < length wires.comps.items
some_made source wires written shape =
    let same = zip_length KeepsComponentShape source (design_of wires) shape in
    let mapped = length-map wires.comps.items (component_tree wires.names) in
    let some = not_empty source written.0 in
    omega (arith, same, mapped, some)
