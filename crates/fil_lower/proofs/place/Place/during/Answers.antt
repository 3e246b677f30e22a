use Rattle.std.proofs.Common.{◌≡◌, ◌≢◌, ◌-◌, ◌<◌, ◌≤◌, [], length, map, option_map, Some, sym, ap, ◌∙◌, arith}
use Rattle.std.specs.Prelude.{slice_range}
use Rattle.std.proofs.lemmas.Bool.Decides.{nat_tests}
use Rattle.std.proofs.lemmas.List.{length-map}
use Rattle.hw_names.specs.Name.{text_of}
use Rattle.cal_ast.specs.Numbers.{PortHasNumbers}
use Rattle.cal_ast.specs.Tree.{PortName, port_tree}
use Rattle.fil_lower.specs.inside.Lowering.{any_of, bits_from, bits_of}
use Rattle.fil_lower.proofs.PlaceLemmas.{All-range, bits_range, has_go, map_range}
use Rattle.fil_lower.proofs.place.Place.during.Goals as goal

pub returns-clause-guard : goal.returns-clause-guard
returns-clause-guard c = λ l shows.
    let (other, shows_other, named, room) = c.requires.known in
    let own = c.args.self.now.body.now.names.now in
    let names = c.args.self.now.names.now in
    let event = text_of own c.args.interval.event in
    let from = c.args.interval.from in
    let to = c.args.interval.to in
    let bits = c.bits_of-bits.result.now in
    let some : 0 < length bits = grind (arith, nat_tests, c.is_empty.ensures, c.if-is_empty.false) in
    let are : map (port_tree names) bits ≡ bits_of l event = c.bits_of-bits.ensures.bits l shows in
    let are_other : map (port_tree names) bits ≡ bits_of other event = c.bits_of-bits.ensures.bits other shows_other in
    let count : length bits ≡ length (bits_of l event) = sym (length-map bits (port_tree names)) ∙ ap (length {A = PortName}) are in
    let count_other : length bits ≡ length (bits_of other event) = sym (length-map bits (port_tree names)) ∙ ap (length {A = PortName}) are_other in
    let not_empty : bits_of other event ≢ [] = λ empty. omega (arith, count_other, ap (length {A = PortName}) empty, some) in
    let within : to ≤ length (bits_of l event) = omega (arith, room not_empty, count, count_other) in
    let more : 0 < length (bits_of l event) = omega (arith, some, count) in
    let go = has_go l event more in
    ap Some (c.in_ok-any_of.ensures.shown names
    ∙ ap any_of (map_range (port_tree names) bits from to ∙ ap (λ ps. slice_range ps from to) are ∙ bits_range l event from to c.requires.ordered within))
    ∙ sym (ap (option_map (λ go. any_of (bits_from l event from (to - from)))) go.1)

pub returns-clause-numbers : goal.returns-clause-numbers
returns-clause-numbers c =
    let names = c.args.self.now.names.now in
    c.in_ok-any_of.ensures.numbers names (All-range (PortHasNumbers names) c.bits_of-bits.result.now c.args.interval.from c.args.interval.to c.bits_of-bits.ensures.numbers)
