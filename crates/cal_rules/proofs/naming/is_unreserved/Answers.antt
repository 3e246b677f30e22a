use Rattle.hw_names.specs.Name.{text_of}
use Rattle.cal_place.specs.Around.{comp_at, names_at}
use Rattle.cal_rules.proofs.NewNameLemmas.{free_by_name, free_if_bare}
use Rattle.cal_rules.proofs.naming.is_unreserved.Goals as goal

pub returns-then-signature : goal.returns-then-signature
returns-then-signature c =
    let p = c.args.place.now in
    free_if_bare (comp_at p) (text_of (names_at p) c.args.name) c.signature.result.now.bare c.signature.ensures.bare c.if-signature.true

pub returns : goal.returns
returns c =
    let p = c.args.place.now in
    free_by_name (comp_at p) (text_of (names_at p) c.args.name) c.text.result.now c.signature.result.now.bare c.starts_with.result c.signature.ensures.bare c.if-signature.false c.text.ensures c.starts_with.ensures.value
