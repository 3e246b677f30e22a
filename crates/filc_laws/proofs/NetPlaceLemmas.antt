-- The text of a netlist is refused at one byte.
use Rattle.std.proofs.Common.{ℕ, ◌+◌, ◌<◌, ◌≤◌, List, length, take, sym, ap, ◌∙◌, arith}
use Rattle.hw_names.specs.Name.{Text}
use Rattle.net_text.specs.Reading.{whole_lines, joined, IsViable, IsRefusedAt}
use Rattle.filc_laws.proofs.ListLemmas.{take_less}
use Rattle.filc_laws.proofs.OrderLemmas.{neither_below}
use Rattle.filc_laws.specs.OnePlace.{NetPlaceIsOne}

viable_less : (lines : List Text) (j k : ℕ) → j ≤ k → IsViable lines k → IsViable lines j
viable_less lines j k less (w, n, spells, same) =
    (w, n, spells, sym (take_less j k (whole_lines w) less) ∙ ap (take j) same ∙ take_less j k lines less)

not_before : (text : Text) (at other : ℕ) (p : IsRefusedAt text at) (q : IsRefusedAt text other) → p.line < q.line → ⊥
not_before text at other p q less =
    p.hopeless (omega (arith, less, q.within)) (viable_less (whole_lines text) (p.line + 1) q.line (omega (arith, less)) q.viable)

pub net_place_is_one : NetPlaceIsOne
net_place_is_one = λ text at other p q.
    let same = neither_below p.line q.line (not_before text at other p q) (not_before text other at q p) in
    p.first_byte ∙ ap (λ (line : ℕ). length (joined (take line (whole_lines text)))) same ∙ sym q.first_byte
