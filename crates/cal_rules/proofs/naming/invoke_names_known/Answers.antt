use Rattle.std.proofs.Common.{map}
use Rattle.hw_names.specs.Name.{text_of}
use Rattle.cal_ast.specs.Naming.{InvokeNamesKnown}
use Rattle.cal_ast.specs.Tree.{in_tree, out_tree}
use Rattle.cal_place.specs.Around.{comp_at, design_at, names_at}
use Rattle.std.proofs.lemmas.Bool.Decides.{not_from_Decides}
use Rattle.cal_place.proofs.ListLemmas.{told_false}
use Rattle.cal_rules.proofs.naming.invoke_names_known.Goals as goal

pub returns-then-not-has_cell : goal.returns-then-not-has_cell
returns-then-not-has_cell c =
    let p = c.args.place.now in
    let names = names_at p in
    told_false (InvokeNamesKnown (design_at p) (comp_at p) (text_of names c.args.cell) (map (in_tree names) c.args.ins.now) (map (out_tree names) c.args.outs.now))
    (λ known. not_from_Decides c.has_cell.result c.has_cell.ensures c.if-not-has_cell.true known.known)

pub returns-then-not-bind_known_ins : goal.returns-then-not-bind_known_ins
returns-then-not-bind_known_ins c =
    let p = c.args.place.now in
    let names = names_at p in
    told_false (InvokeNamesKnown (design_at p) (comp_at p) (text_of names c.args.cell) (map (in_tree names) c.args.ins.now) (map (out_tree names) c.args.outs.now))
    (λ known. not_from_Decides c.bind_known_ins.result c.bind_known_ins.ensures c.if-not-bind_known_ins.true known.inputs)

pub returns : goal.returns
returns c = (
  λ yes'. record {
    known = c.has_cell.ensures.0 c.if-not-has_cell.false;
    inputs = c.bind_known_ins.ensures.0 c.if-not-bind_known_ins.false;
    outputs = c.bind_known_outs.ensures.0 yes';
  },
  λ known. c.bind_known_outs.ensures.1 known.outputs,
)
