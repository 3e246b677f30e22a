use Rattle.std.proofs.Common.{◌≡◌, ◌+◌, ◌<◌, ◌^◌, ◌∷◌, ◌++◌, [], Contains, subst, ap, ◌∙◌, arith}
use Rattle.std.specs.Int.{to_be_bytes, w32}
use Rattle.hw_names.specs.Name.{Text}
use Rattle.cal_place.specs.inside.Entries.{AreNumerals}
use Rattle.cal_place.proofs.NumeralLemmas.{new_numeral, no_numerals, numerals_more}
use Rattle.cal_place.proofs.nesting.numerals.Goals as goal

pub loop-number-init : goal.loop-number-init
loop-number-init c = no_numerals c.new-names.result c.new-names.ensures

pub loop-number-preserved : goal.loop-number-preserved
loop-number-preserved c =
    let n = c.loop-number.number in
    let names = c.loop-number.names in
    let are = c.loop-number.invariant in
    let few : n + 1 < 2 ^ 32 = omega arith in
    let small : n < 2 ^ 32 = omega (arith, few) in
    let text : c.to_be_bytes.result ≡ to_be_bytes w32 n = c.to_be_bytes.ensures in
    let put = c.in_ok-_id.ensures.added (λ has. new_numeral n names are small (subst (Contains names) text has)) in
    numerals_more n names c.intern.new.self are few (put.0 ∙ ap (λ (t : Text). names ++ t ∷ []) text)

pub returns : goal.returns
returns c =
    let end : c.loop-number.number ≡ c.args.count = omega arith in
    subst (λ k. AreNumerals k c.loop-number.names) end c.loop-number.invariant
