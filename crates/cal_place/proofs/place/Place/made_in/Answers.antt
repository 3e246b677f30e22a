use Rattle.hw_names.specs.Name.{text_of}
use Rattle.cal_ast.specs.Naming.{cell_names}
use Rattle.cal_place.specs.Around.{comp_at, names_at}
use Rattle.cal_place.proofs.PlaceTableLemmas.{none_made, some_made, stands}
use Rattle.cal_place.proofs.place.Place.made_in.Goals as goal

pub returns-in_err-find-clause-primitive : goal.returns-in_err-find-clause-primitive
returns-in_err-find-clause-primitive c =
    let i = c.self.inside in
    let p = c.args.self.now in
    let known = stands i p c.self.view_is c.self.invariant in
    (none_made p i.tables.now i.cells i.groups i.holders.items known c.text.result.now (text_of (names_at p) c.args.cell) c.text.ensures c.find.result c.in_err-find.was
    (c.find.ensures (cell_names (comp_at p).cells) known.cells) c.from_residual.result c.from_residual.ensures).primitive

pub returns-clause-primitive : goal.returns-clause-primitive
returns-clause-primitive c =
    let i = c.self.inside in
    let p = c.args.self.now in
    let known = stands i p c.self.view_is c.self.invariant in
    (some_made p c.text.result.now (text_of (names_at p) c.args.cell) c.text.ensures c.find.result c.in_ok-find.field-0 c.in_ok-find.was
    (c.find.ensures (cell_names (comp_at p).cells) known.cells) c.made.result c.made.ensures).primitive

pub returns-in_err-find-clause-in_range : goal.returns-in_err-find-clause-in_range
returns-in_err-find-clause-in_range c =
    let i = c.self.inside in
    let p = c.args.self.now in
    let known = stands i p c.self.view_is c.self.invariant in
    (none_made p i.tables.now i.cells i.groups i.holders.items known c.text.result.now (text_of (names_at p) c.args.cell) c.text.ensures c.find.result c.in_err-find.was
    (c.find.ensures (cell_names (comp_at p).cells) known.cells) c.from_residual.result c.from_residual.ensures).in_range

pub returns-clause-in_range : goal.returns-clause-in_range
returns-clause-in_range c =
    let i = c.self.inside in
    let p = c.args.self.now in
    let known = stands i p c.self.view_is c.self.invariant in
    (some_made p c.text.result.now (text_of (names_at p) c.args.cell) c.text.ensures c.find.result c.in_ok-find.field-0 c.in_ok-find.was
    (c.find.ensures (cell_names (comp_at p).cells) known.cells) c.made.result c.made.ensures).in_range

pub returns-in_err-find-clause-part : goal.returns-in_err-find-clause-part
returns-in_err-find-clause-part c =
    let i = c.self.inside in
    let p = c.args.self.now in
    let known = stands i p c.self.view_is c.self.invariant in
    (none_made p i.tables.now i.cells i.groups i.holders.items known c.text.result.now (text_of (names_at p) c.args.cell) c.text.ensures c.find.result c.in_err-find.was
    (c.find.ensures (cell_names (comp_at p).cells) known.cells) c.from_residual.result c.from_residual.ensures).part

pub returns-clause-part : goal.returns-clause-part
returns-clause-part c =
    let i = c.self.inside in
    let p = c.args.self.now in
    let known = stands i p c.self.view_is c.self.invariant in
    (some_made p c.text.result.now (text_of (names_at p) c.args.cell) c.text.ensures c.find.result c.in_ok-find.field-0 c.in_ok-find.was
    (c.find.ensures (cell_names (comp_at p).cells) known.cells) c.made.result c.made.ensures).part

pub returns-in_err-find-clause-within : goal.returns-in_err-find-clause-within
returns-in_err-find-clause-within c =
    let i = c.self.inside in
    let p = c.args.self.now in
    let known = stands i p c.self.view_is c.self.invariant in
    (none_made p i.tables.now i.cells i.groups i.holders.items known c.text.result.now (text_of (names_at p) c.args.cell) c.text.ensures c.find.result c.in_err-find.was
    (c.find.ensures (cell_names (comp_at p).cells) known.cells) c.from_residual.result c.from_residual.ensures).within

pub returns-clause-within : goal.returns-clause-within
returns-clause-within c =
    let i = c.self.inside in
    let p = c.args.self.now in
    let known = stands i p c.self.view_is c.self.invariant in
    (some_made p c.text.result.now (text_of (names_at p) c.args.cell) c.text.ensures c.find.result c.in_ok-find.field-0 c.in_ok-find.was
    (c.find.ensures (cell_names (comp_at p).cells) known.cells) c.made.result c.made.ensures).within
