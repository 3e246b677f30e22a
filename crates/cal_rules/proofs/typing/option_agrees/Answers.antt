use Rattle.std.proofs.Common.{◌↔◌, Option, subst, sym}
use Rattle.std.specs.Bool.{IsTrue}
use Rattle.net_core.specs.Guard.{guard_option}
use Rattle.net_core.specs.declared.net.Guard.{Guard}
use Rattle.cal_ast.specs.Numbers.{WhenHasNumbers}
use Rattle.cal_ast.specs.Tree.{port_tree}
use Rattle.cal_ast.specs.Typing.{OptionAgrees}
use Rattle.cal_ast.specs.declared.tree.CalPort.{CalPort}
use Rattle.cal_place.specs.Around.{comp_at, design_at, names_at}
use Rattle.cal_place.proofs.ListLemmas.{told_true}
use Rattle.cal_rules.proofs.typing.option_agrees.Goals as goal

pub guard_agrees-requires : goal.guard_agrees-requires
guard_agrees-requires c =
    let N : Option (Guard CalPort) → Type 0 = WhenHasNumbers (names_at c.args.place.now) in
    subst N c.in-Some.is c.requires

pub returns-in-Some : goal.returns-in-Some
returns-in-Some c =
    let p = c.args.place.now in
    subst (λ (o : Option (Guard CalPort)). IsTrue c.guard_agrees.result ↔ OptionAgrees (design_at p) (comp_at p) (guard_option (port_tree (names_at p)) o)) (sym c.in-Some.is) c.guard_agrees.ensures

pub returns-in-None : goal.returns-in-None
returns-in-None c =
    let p = c.args.place.now in
    let A : Option (Guard CalPort) → Type 0 = λ o. OptionAgrees (design_at p) (comp_at p) (guard_option (port_tree (names_at p)) o) in
    told_true (A c.args.guard.now) (subst A (sym c.in-None.is) tt)
