use Rattle.std.proofs.Common.{◌≡◌, ◌-◌, List, length, [], ◌∷◌, map}
use Rattle.hw_names.specs.Name.{Text}
use Rattle.hw_grammar.specs.Reading.{with_front, list_tail_times, list_tail}
use Rattle.hw_grammar.specs.declared.sort.Sort.TheVariants.{Comma}
use Rattle.cal_parse.specs.inside.Pins.{meant_tree}
use Rattle.cal_parse.specs.inside.Reading.{pin_set, pin_at}
use Rattle.cal_parse.proofs.pin.more_pins.Given as goal

abbrev pub invariant-loop : goal.invariant-loop
invariant-loop l = (names : List Text) → with_front (map (meant_tree names) l.all.items) (list_tail_times Comma pin_set (pin_at names) (length l.ts - l.counter) l.rest)
    ≡ with_front (map (meant_tree names) l.fn.front.items) (list_tail Comma pin_set (pin_at names) l.ts)
