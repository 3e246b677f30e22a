use Rattle.std.proofs.Common.{◌↔◌, true, Option, option_map, subst, sym}
use Rattle.std.specs.Bool.{IsTrue}
use Rattle.std.specs.Option.{IfSome}
use Rattle.hw_names.specs.Name.{Text, text_of}
use Rattle.hw_names.specs.declared.names.NameId.{NameId}
use Rattle.net_core.specs.Numbers.{IsNumberOf}
use Rattle.cal_place.specs.Around.{comp_at, names_at}
use Rattle.cal_rules.specs.inside.Groups.{IsGroup}
use Rattle.cal_place.proofs.ListLemmas.{told_true}
use Rattle.cal_rules.proofs.controlling.is_combinational.Goals as goal

pub is_group-requires : goal.is_group-requires
is_group-requires c = subst (λ (o : Option NameId). IfSome o (IsNumberOf (names_at c.args.place.now))) c.in-Some.is c.requires

pub returns-in-Some : goal.returns-in-Some
returns-in-Some c =
    let p = c.args.place.now in
    subst (λ (o : Option NameId). IsTrue c.is_group.result ↔ IfSome (option_map (text_of (names_at p)) o) (λ (name : Text). IsGroup (comp_at p) name true)) (sym c.in-Some.is) c.is_group.ensures

pub returns-in-None : goal.returns-in-None
returns-in-None c =
    let p = c.args.place.now in
    let G : Option NameId → Type 0 = λ o. IfSome (option_map (text_of (names_at p)) o) (λ (name : Text). IsGroup (comp_at p) name true) in
    told_true (G c.args.by) (subst G (sym c.in-None.is) tt)
