use Rattle.std.proofs.Common.{◌≡◌, Option, Some, length, slice_get, refl, sym, subst, arith}
use Rattle.std.proofs.lemmas.Option.{slice_get_read}
use Rattle.cal_ast.specs.Tree.{design_of}
use Rattle.cal_loops.specs.FirstLoop.{TellsFirstLoop}
use Rattle.cal_place.specs.Tables.{AreMade}
use Rattle.cal_check.specs.Refusals.{TellsRefusal}
use Rattle.cal_loops.specs.declared.first_loop.Looped.{Looped}
use Rattle.cal_check.specs.declared.refusal.CalEnd.TheVariants as design
use Rattle.cal_check.proofs.JudgeLemmas.{looped, looped_within}
use Rattle.cal_place.proofs.EndLemmas.{passed_up}
use Rattle.cal_check.proofs.check.check_calyx.Goals as goal

pub of-requires-2 : goal.of-requires-2
of-requires-2 c =
    let d = design_of c.args.design.now in
    (d, subst (AreMade d) (sym c.deref.ensures.value) c.in_ok-tables.ensures.made)

pub judge_components-requires-clause-nesting : goal.judge_components-requires-clause-nesting
judge_components-requires-clause-nesting c =
    let d = design_of c.args.design.now in
    c.in_ok-nesting.ensures d (subst (AreMade d) (sym c.deref.ensures.value) c.in_ok-tables.ensures.made)

pub first_looped-requires-clause-nesting : goal.first_looped-requires-clause-nesting
first_looped-requires-clause-nesting c =
    let d = design_of c.args.design.now in
    c.in_ok-nesting.ensures d (subst (AreMade d) (sym c.deref.ensures.value) c.in_ok-tables.ensures.made)

pub returns-in-None-clause-kept : goal.returns-in-None-clause-kept
returns-in-None-clause-kept c =
    let d = design_of c.args.design.now in
    let T : Option Looped → Type 0 = TellsFirstLoop d in
    record { keeps = c.in_ok-judge_components.ensures.kept; no_loop = subst T c.in-None.is c.in_ok-first_looped.ensures }

pub index-requires : goal.index-requires
index-requires c =
    let d = c.args.design.now in
    let T : Option Looped → Type 0 = TellsFirstLoop (design_of d) in
    omega (arith, looped_within d c.in-Some.looped (subst T c.in-Some.is c.in_ok-first_looped.ensures), d.comps.ok.0)

pub returns-clause-refused : goal.returns-clause-refused
returns-clause-refused c =
    let d = c.args.design.now in
    let T : Option Looped → Type 0 = TellsFirstLoop (design_of d) in
    let found = c.in-Some.looped in
    let told = subst T c.in-Some.is c.in_ok-first_looped.ensures in
    let comp = c.index.result.now in
    let comps = d.comps.items in
    let at : slice_get comps found.number ≡ Some comp = slice_get_read comps (length comps) found.number comp refl (looped_within d found told) c.index.ensures in
    looped d found comp told at

pub returns-in_err-tables-clause-refused : goal.returns-in_err-tables-clause-refused
returns-in_err-tables-clause-refused c =
    passed_up c.from_residual.result design.Memory (TellsRefusal c.args.design.now) c.from_residual.ensures.1 tt

pub returns-in_err-nesting-clause-refused : goal.returns-in_err-nesting-clause-refused
returns-in_err-nesting-clause-refused c =
    passed_up c.from_residual-in_err-nesting.result design.Memory (TellsRefusal c.args.design.now) c.from_residual-in_err-nesting.ensures.1 tt

pub returns-in_err-judge_components-clause-refused : goal.returns-in_err-judge_components-clause-refused
returns-in_err-judge_components-clause-refused c =
    passed_up c.from_residual-in_err-judge_components.result c.in_err-judge_components.field-0.0 (TellsRefusal c.args.design.now) c.from_residual-in_err-judge_components.ensures.1 c.in_err-judge_components.ensures.refused

pub returns-in_err-first_looped-clause-refused : goal.returns-in_err-first_looped-clause-refused
returns-in_err-first_looped-clause-refused c =
    passed_up c.from_residual-in_err-first_looped.result design.Memory (TellsRefusal c.args.design.now) c.from_residual-in_err-first_looped.ensures.1 tt
