use Rattle.std.proofs.Common.{◌^◌, ◌<◌, ◌++◌, Some, codes, sym, ap, ◌∙◌, arith}
use Rattle.hw_names.specs.Name.{Text}
use Rattle.cal_group.proofs.NumeralLemmas.{numeral_decimal}
use Rattle.cal_group.proofs.expand.Made.add_group.Goals as goal

pub returns-clause-named : goal.returns-clause-named
returns-clause-named c =
    let small : c.args.item < 2 ^ 64 = omega (arith, c.ranges.item) in
    c.in_ok-name.ensures.text
    ∙ ap Some (c.deref.ensures.value ∙ c.in_ok-text.ensures ∙ ap (λ (digits : Text). codes "c$invoke" ++ digits) (sym (numeral_decimal c.args.item small)))
