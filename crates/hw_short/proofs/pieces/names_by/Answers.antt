use Rattle.std.proofs.Common.{◌≡◌, ◌<◌, ◌^◌, ℕ, Some, None, length, get_or, slice_get, ap₂, ◌∙◌, arith}
use Rattle.std.proofs.lemmas.Option.{slice_get-get_or}
use Rattle.hw_short.specs.inside.ShortNames.{name_by, rank_or, three}
use Rattle.hw_short.specs.declared.pieces.Places.{Places}
use Rattle.hw_short.proofs.ShortNameLemmas.{named_all, named_more, next_new, none_named, rank_up_to}
use Rattle.hw_short.proofs.pieces.names_by.Goals as goal

-- no places
abbrev none : Places
none = record { first = None; second = None }

pub rank_at-first-requires : goal.rank_at-first-requires
rank_at-first-requires c = (c.requires.places c.loop-number.number none c.loop-number-test.true).0

pub rank_at-second-requires : goal.rank_at-second-requires
rank_at-second-requires c = (c.requires.places c.loop-number.number none c.loop-number-test.true).1

pub text_of_three-requires : goal.text_of_three-requires
text_of_three-requires c =
    let ranks = c.args.ranks.now in
    let item = get_or c.args.places.now c.loop-number.number none in
    let within = c.requires.places c.loop-number.number none c.loop-number-test.true in
    let first = rank_up_to ranks item.first (length ranks) c.requires.ranks within.0 (omega arith) in
    let second = rank_up_to ranks item.second 0 c.requires.ranks within.1 (omega arith) in
    record {
      first = omega (arith, first, c.rank_at-first.ensures);
      second = omega (arith, second, c.rank_at-second.ensures);
      third = omega (arith, c.loop-number-test.true, c.requires.room);
    }

pub intern-requires : goal.intern-requires
intern-requires c = omega (arith, c.loop-number.invariant.sized, c.loop-number-test.true, c.requires.room)

pub loop-number-init : goal.loop-number-init
loop-number-init c = none_named c.args.ranks.now c.args.places.now c.new-names.result c.new-names.ensures

pub loop-number-preserved : goal.loop-number-preserved
loop-number-preserved c =
    let ranks = c.args.ranks.now in
    let places = c.args.places.now in
    let i = c.loop-number.number in
    let names = c.loop-number.names in
    let item = get_or places i none in
    let name = c.deref.result.now in
    let at : slice_get places i ≡ Some item = slice_get-get_or places i none c.loop-number-test.true in
    let is : name ≡ name_by ranks item i = c.deref.ensures.value ∙ c.in_ok-name.ensures ∙ ap₂ (λ (a b : ℕ). three a b i) c.rank_at-first.ensures c.rank_at-second.ensures in
    let fits : i < 2 ^ 32 = omega (arith, c.loop-number-test.true, c.requires.room) in
    let new = next_new ranks places i names (rank_or ranks item.first (length ranks)) (rank_or ranks item.second 0) name c.loop-number.invariant c.loop-number-test.true fits is in
    named_more ranks places i names c.intern.new.self item name c.loop-number.invariant at is (c.in_ok-_number.ensures.added new).0

pub returns : goal.returns
returns c = named_all c.args.ranks.now c.args.places.now c.loop-number.number c.loop-number.names (omega (arith, c.if-ranks.false)) c.loop-number-test.false c.loop-number.auto.number-end c.loop-number.invariant
