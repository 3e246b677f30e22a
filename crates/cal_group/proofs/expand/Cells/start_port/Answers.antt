use Rattle.std.proofs.Common.{◌∙◌}
use Rattle.cal_ast.specs.Ports.{part_of}
use Rattle.cal_group.proofs.CellLemmas.{read_cell, starts_from, starts_none}
use Rattle.cal_group.proofs.expand.Cells.start_port.Goals as goal

pub returns-in-Some : goal.returns-in-Some
returns-in-Some c = λ names design comp go has named is.
    let source = c.args.self.source.now in
    let table = c.args.self.table.now in
    let cell = c.args.cell in
    let number = c.requires.number in
    let at = read_cell source table cell c.index.result.now c.requires.cells number c.index.ensures ∙ c.in-Some.is in
    let starts = starts_from source table design comp cell go c.in-Some.made number has at is in
    c.start_port.ensures names (part_of design starts.0) go named starts.1

pub returns-in-None : goal.returns-in-None
returns-in-None c = λ names design comp go has named is.
    let source = c.args.self.source.now in
    let table = c.args.self.table.now in
    let cell = c.args.cell in
    let number = c.requires.number in
    let at = read_cell source table cell c.index.result.now c.requires.cells number c.index.ensures ∙ c.in-None.is in
    absurd (starts_none source table design comp cell go number has at is)
