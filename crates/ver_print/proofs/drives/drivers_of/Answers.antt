use Rattle.std.proofs.Common.{◌≡◌, ◌+◌, ◌<◌, ◌∙◌, ℕ, List, All, length, sym, subst, arith}
use Rattle.std.proofs.lemmas.Option.{same_Some, slice_get_within}
use Rattle.hw_graph.specs.Groups.{with_key}
use Rattle.ver_print.specs.inside.Drivers.{entries_of}
use Rattle.ver_print.proofs.DriverLemmas.{absent_where_none, none_drives, numbers_within, picked_are}
use Rattle.ver_print.proofs.drives.drivers_of.Goals as goal

pub get-requires : goal.get-requires
get-requires c = omega (arith, slice_get_within c.args.net.now.names c.in-Some.id.0 c.args.port.now c.in-Some.ensures.text, c.requires.drivers.all)

pub returns-in-Some-clause-within : goal.returns-in-Some-clause-within
returns-in-Some-clause-within c =
    let net = c.args.net.now in
    let key = c.in-Some.id.0 in
    let below = slice_get_within net.names key c.args.port.now c.in-Some.ensures.text in
    let are : c.get.result.now ≡ with_key key (entries_of 0 net.sets.items) = same_Some c.get.result.now (with_key key (entries_of 0 net.sets.items)) (sym c.get.ensures ∙ c.requires.drivers.each key below) in
    let W : List ℕ → Type 0 = All (λ (n : ℕ). n < 0 + length net.sets.items) in
    let within = subst W (sym are) (numbers_within key 0 net.sets.items) in
    λ k d less. omega (arith, within k d less)

pub returns-in-Some-clause-all : goal.returns-in-Some-clause-all
returns-in-Some-clause-all c =
    let net = c.args.net.now in
    let key = c.in-Some.id.0 in
    let below = slice_get_within net.names key c.args.port.now c.in-Some.ensures.text in
    let are : c.get.result.now ≡ with_key key (entries_of 0 net.sets.items) = same_Some c.get.result.now (with_key key (entries_of 0 net.sets.items)) (sym c.get.ensures ∙ c.requires.drivers.each key below) in
    picked_are net.names c.find.ensures.distinct key c.args.port.now c.in-Some.ensures.text net.sets.items c.get.result.now c.requires.numbers.sets are

pub returns-in-None-clause-all : goal.returns-in-None-clause-all
returns-in-None-clause-all c =
    let net = c.args.net.now in
    none_drives net.names c.args.port.now (absent_where_none c.find.result _ c.find.ensures.present.1 c.in-None.is) net.sets.items c.requires.numbers.sets
