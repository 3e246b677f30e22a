use Rattle.std.proofs.Common.{ℕ, List, false, ap, ap₂, ◌∙◌, arith}
use Rattle.hw_names.proofs.NameLemmas.{length-KeepsTexts, text_of-KeepsTexts}
use Rattle.hw_names.specs.Name.{Text, text_of}
use Rattle.std.specs.Option.{unwrap_or}
use Rattle.cal_ast.specs.Tree.{CellDef}
use Rattle.fil_ast.specs.Primitives.{table_name}
use Rattle.fil_fsm.proofs.FreshLemmas.{KeepsTexts-trans}
use Rattle.fil_lower.proofs.cells.instance_cell.Goals as goal

pub returns-clause-cell : goal.returns-clause-cell
returns-clause-cell c =
    let own = c.args.own.now in
    let after = c.made_of.new.names in
    let kept = KeepsTexts-trans own c.args.names.now after c.requires.names c.made_of.ensures.kept in
    let of : Text → Text → List ℕ → CellDef = λ name made params. record { name = name; made = made; params = params; external = false } in
    ap₂ (λ name made. of name made c.in_ok-from_slice.field-0.items) (text_of-KeepsTexts own after c.args.instance.now.name kept c.requires.instance.name) c.in_ok-made_of.ensures.made
    ∙ ap (of (text_of own c.args.instance.now.name) (unwrap_or (table_name (text_of own c.args.instance.now.comp)) (text_of own c.args.instance.now.comp))) c.in_ok-from_slice.ensures.items

pub returns-clause-numbers : goal.returns-clause-numbers
returns-clause-numbers c =
    let own = c.args.own.now in
    let after = c.made_of.new.names in
    let kept = KeepsTexts-trans own c.args.names.now after c.requires.names c.made_of.ensures.kept in
    (omega (arith, length-KeepsTexts own after kept, c.requires.instance.name), c.in_ok-made_of.ensures.numbered)
