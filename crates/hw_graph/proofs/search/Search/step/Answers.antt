use Rattle.std.proofs.Common.{◌<◌, ◌∙◌, [], length, get_or, refl, sym, subst, arith}
use Rattle.hw_graph.proofs.SearchLemmas.{step_closed, step_done, step_opened, step_cycle, read_in_range, read_mark}
use Rattle.hw_graph.specs.inside.Unread.{TakesRead}
use Rattle.hw_graph.specs.declared.search.Mark.TheVariants.{Unseen, Open, Done}
use Rattle.hw_graph.specs.declared.search.Search.{Search}
use Rattle.hw_graph.proofs.search.Search.step.Goals.{In-Some}
use Rattle.hw_graph.proofs.search.Search.step.Goals as goal

pub returns-in_default-clause-search : goal.returns-in_default-clause-search
returns-in_default-clause-search c =
    step_closed c.args.reads.now c.args.self.now c.close.new.self c.args.top c.requires.search c.requires.some c.requires.top c.in_default.ensures.none.0
    (c.close.ensures.left ∙ c.in_default.ensures.none.1) c.close.ensures.marks c.close.ensures.path c.in_ok-close.ensures.order

-- the search after a read was taken
abbrev taken : In-Some → Search
taken c = record c.args.self.now { left = c.next_read.new.left }

within : (c : In-Some) → c.in-Some.read < length c.args.self.now.marks.items
within c =
    read_in_range c.args.reads.now c.args.self.now (taken c) c.args.top c.requires.search c.requires.some c.requires.top c.in-Some.read c.in-Some.ensures.some c.requires.in_range

pub index-requires : goal.index-requires
index-requires c = omega (arith, within (goal.at.index-requires c).In-Some, c.args.self.now.marks.ok.0)

pub open-requires : goal.open-requires
open-requires c = within (goal.at.open-requires c).In-Some

pub tail_from-requires : goal.tail_from-requires
tail_from-requires c =
    let marks = c.args.self.now.marks.items in
    let is = read_mark marks marks c.in-Some.read c.index.result.now Open (within (goal.at.tail_from-requires c).In-Some) c.index.ensures c.in-Open.is refl in
    rw c.as_slice.ensures.value (c.requires.search.path.all_open c.in-Some.read is)

pub returns-in_ok-open-in-Unseen-clause-search : goal.returns-in_ok-open-in-Unseen-clause-search
returns-in_ok-open-in-Unseen-clause-search c =
    let marks = c.args.self.now.marks.items in
    let is = read_mark marks marks c.in-Some.read c.index.result.now Unseen (within (goal.at.returns-in_ok-open-in-Unseen-clause-search c).In-Some) c.index.ensures c.in-Unseen.is refl in
    let t = subst (TakesRead (get_or c.args.reads.now c.args.top []) c.args.self.now.left.items c.args.top c.in-Some.read) (sym c.open.ensures.left) c.in-Some.ensures.some in
    step_opened c.args.reads.now c.args.self.now c.open.new.self c.args.top c.requires.search c.requires.some c.requires.top c.in-Some.read t c.requires.in_range is
    c.open.ensures.marks c.in_ok-open-in-Unseen.ensures.path c.open.ensures.order

pub returns-in_ok-tail_from-in-Open-clause-cycle : goal.returns-in_ok-tail_from-in-Open-clause-cycle
returns-in_ok-tail_from-in-Open-clause-cycle c =
    let r : In-Some = (goal.at.returns-in_ok-tail_from-in-Open-clause-cycle c).In-Some in
    step_cycle c.args.reads.now c.args.self.now (taken r) c.args.top c.requires.search c.requires.some c.requires.top c.in-Some.read c.in-Some.ensures.some c.in_ok-tail_from-in-Open.field-0.items
    (rw c.as_slice.ensures.value at c.in_ok-tail_from-in-Open.ensures)

pub returns-in-Done-clause-search : goal.returns-in-Done-clause-search
returns-in-Done-clause-search c =
    let r : In-Some = (goal.at.returns-in-Done-clause-search c).In-Some in
    let marks = c.args.self.now.marks.items in
    let done = read_mark marks marks c.in-Some.read c.index.result.now Done (within r) c.index.ensures c.in-Done.is refl in
    step_done c.args.reads.now c.args.self.now (taken r) c.args.top c.requires.search c.requires.some c.requires.top c.in-Some.read c.in-Some.ensures.some done refl refl refl
