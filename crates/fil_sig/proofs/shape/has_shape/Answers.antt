use Rattle.std.proofs.Common.{◌↔◌, Bool, List, map, Result, Ok, Err, subst, sym}
use Rattle.std.specs.Bool.{IsTrue}
use Rattle.std.specs.Prelude.{IfOk}
use Rattle.hw_bits.specs.declared.memory.Memory.{Memory}
use Rattle.hw_names.specs.Name.{AreDistinct}
use Rattle.fil_ast.specs.Tree.{component_tree}
use Rattle.fil_ast.specs.Typing.{HasShape}
use Rattle.fil_ast.specs.declared.tree.GoPort.{GoPort}
use Rattle.fil_sig.specs.inside.Shape.{event_of}
use Rattle.fil_sig.proofs.ListLemmas.{told_false}
use Rattle.fil_sig.proofs.ShapeLemmas.{shape_made, plain_of, intervals_of, apart_of}
use Rattle.fil_sig.proofs.shape.has_shape.Goals.{then-not-has_plain_shape-via-then-not-has_plain_shape, then-not-has_plain_shape-via-else-not-has_plain_shape+then-not-has_intervals}
use Rattle.fil_sig.proofs.shape.has_shape.Goals as goal

pub returns-then-not-has_plain_shape : goal.returns-then-not-has_plain_shape
returns-then-not-has_plain_shape c =
    let names = c.args.names.now in
    let comp = c.args.comp.now in
    told_false (HasShape (component_tree names comp)) (λ shape.
    elim c.then-not-has_plain_shape.branch [
      | then-not-has_plain_shape-via-then-not-has_plain_shape w ↦
          (let is_so = c.has_plain_shape.ensures.1 (plain_of names comp shape) in let no = w.if-not-has_plain_shape.true in absurd (cc))
      | then-not-has_plain_shape-via-else-not-has_plain_shape+then-not-has_intervals w ↦
          (let is_so = w.has_intervals.ensures.1 (intervals_of names comp shape) in let no = w.if-not-has_intervals.true in absurd (cc))
    ])

weigh : (P Q : Type 0) → (Q → P) → (P → Q) → (r : Result Bool Memory) → IfOk r (λ apart. IsTrue apart ↔ Q) → IfOk r (λ kept. IsTrue kept ↔ P)
weigh P Q to_P to_Q (Ok b) told = (λ t. to_P (told.0 t), λ p. told.1 (to_Q p))
weigh P Q to_P to_Q (Err e) told = told

pub returns : goal.returns
returns c =
    let names = c.args.names.now in
    let comp = c.args.comp.now in
    let plain = c.has_plain_shape.ensures.0 c.if-not-has_plain_shape.false in
    let intervals = c.has_intervals.ensures.0 c.if-not-has_intervals.false in
    let D : List GoPort → Type 0 = λ gos. AreDistinct (map (event_of names) gos) in
    weigh (HasShape (component_tree names comp)) (D c.deref.result.now)
    (λ apart. shape_made names comp plain intervals (subst D c.deref.ensures.value apart))
    (λ shape. subst D (sym c.deref.ensures.value) (apart_of names comp shape))
    c.are_apart.result c.are_apart.ensures
