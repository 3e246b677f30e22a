use Rattle.std.proofs.Common.{◌≡◌, ◌↔◌, Bool, Some, map, sym, ap, ◌∙◌}
use Rattle.std.specs.Bool.{IsTrue}
use Rattle.std.proofs.lemmas.Bool.Decides.{not_from_Decides}
use Rattle.std.proofs.lemmas.Result.{IfOk-weaker}
use Rattle.hw_names.specs.Name.{AreDistinct, text_of}
use Rattle.cal_ast.specs.Controlling.{CanInvoke}
use Rattle.cal_ast.specs.Invoking.{go_of}
use Rattle.cal_ast.specs.Tree.{InBinding, in_tree, out_tree}
use Rattle.cal_place.specs.Around.{comp_at, design_at, names_at}
use Rattle.cal_rules.proofs.InvokeLemmas.{by_once, done_fails, go_fails, inputs_fail, none_starts, outputs_fail}
use Rattle.cal_rules.proofs.controlling.can_invoke.Goals.{After-as_bytes-go}
use Rattle.cal_rules.proofs.controlling.can_invoke.Goals as goal

-- the port that starts the cell
starts : (c : After-as_bytes-go) → go_of (design_at c.args.place.now) (comp_at c.args.place.now) (text_of (names_at c.args.place.now) c.args.cell) ≡ Some c.as_bytes-go.result.now
starts c = sym c.in-Some.ensures ∙ ap Some (sym c.as_bytes-go.ensures.value)

pub returns-in_default : goal.returns-in_default
returns-in_default c =
    let p = c.args.place.now in
    let names = names_at p in
    none_starts (design_at p) (comp_at p) (text_of names c.args.cell) (map (in_tree names) c.args.ins.now) (map (out_tree names) c.args.outs.now) (sym c.in_default.ensures)

pub returns-then-not-has_bit : goal.returns-then-not-has_bit
returns-then-not-has_bit c =
    let p = c.args.place.now in
    let names = names_at p in
    go_fails (design_at p) (comp_at p) (text_of names c.args.cell) (map (in_tree names) c.args.ins.now) (map (out_tree names) c.args.outs.now) c.as_bytes-go.result.now
    (starts (goal.at.returns-then-not-has_bit c).After-as_bytes-go) (not_from_Decides c.has_bit.result c.has_bit.ensures c.if-not-has_bit.true)

pub returns-then-not-has_bit-2 : goal.returns-then-not-has_bit-2
returns-then-not-has_bit-2 c =
    let p = c.args.place.now in
    let names = names_at p in
    done_fails (design_at p) (comp_at p) (text_of names c.args.cell) (map (in_tree names) c.args.ins.now) (map (out_tree names) c.args.outs.now) c.as_bytes-go.result.now
    (starts (goal.at.returns-then-not-has_bit-2 c).After-as_bytes-go) (not_from_Decides c.has_bit-2.result c.has_bit-2.ensures c.if-not-has_bit-2.true)

pub returns-then-not-bind_inputs : goal.returns-then-not-bind_inputs
returns-then-not-bind_inputs c =
    let p = c.args.place.now in
    let names = names_at p in
    inputs_fail (design_at p) (comp_at p) (text_of names c.args.cell) (map (in_tree names) c.args.ins.now) (map (out_tree names) c.args.outs.now) c.as_bytes-go.result.now
    (starts (goal.at.returns-then-not-bind_inputs c).After-as_bytes-go) (not_from_Decides c.bind_inputs.result c.bind_inputs.ensures c.if-not-bind_inputs.true)

pub returns-then-not-bind_outputs : goal.returns-then-not-bind_outputs
returns-then-not-bind_outputs c =
    let p = c.args.place.now in
    let names = names_at p in
    outputs_fail (design_at p) (comp_at p) (text_of names c.args.cell) (map (in_tree names) c.args.ins.now) (map (out_tree names) c.args.outs.now) c.as_bytes-go.result.now
    (starts (goal.at.returns-then-not-bind_outputs c).After-as_bytes-go) (not_from_Decides c.bind_outputs.result c.bind_outputs.ensures c.if-not-bind_outputs.true)

pub returns : goal.returns
returns c =
    let p = c.args.place.now in
    let names = names_at p in
    let d = design_at p in
    let t = comp_at p in
    let cell = text_of names c.args.cell in
    let ins = map (in_tree names) c.args.ins.now in
    let outs = map (out_tree names) c.args.outs.now in
    let Once : Bool → Type 0 = λ once. IsTrue once ↔ AreDistinct (map (λ (b : InBinding). b.pin) ins) in
    let Can : Bool → Type 0 = λ can. IsTrue can ↔ CanInvoke d t cell ins outs in
    IfOk-weaker c.bind_once.result Once Can
    (by_once d t cell ins outs c.as_bytes-go.result.now (starts (goal.at.returns c).After-as_bytes-go) (c.has_bit.ensures.0 c.if-not-has_bit.false) (c.has_bit-2.ensures.0 c.if-not-has_bit-2.false)
    (c.bind_inputs.ensures.0 c.if-not-bind_inputs.false) (c.bind_outputs.ensures.0 c.if-not-bind_outputs.false))
    c.bind_once.ensures
