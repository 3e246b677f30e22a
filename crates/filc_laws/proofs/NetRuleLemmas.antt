-- The first of N1 to N5 that a netlist breaks is one, and the least loops begin with one port.
use Rattle.std.proofs.Common.{◌≡◌, ℕ, ◌+◌, ◌<◌, Bool, true, false, Some, sym, ap, ◌∙◌, take}
use Rattle.std.specs.Prelude.{slice_get, List}
use Rattle.std.proofs.lemmas.Option.{same_Some}
use Rattle.net_core.specs.Netlist.{Netlist, Line, lines_of}
use Rattle.net_core.specs.Rules.{FirstBroken, LineKeepsRules, ports_of, rules_at}
use Rattle.filc_laws.proofs.ListLemmas.{none_broken}
use Rattle.filc_laws.proofs.OrderLemmas.{neither_below, neither_greater}
use Rattle.filc_laws.specs.OneRule.{NetRuleIsOne, BrokenNetIsNotValid, LeastPortIsOne}

-- the line of the first broken rule doesn't keep the rules
not_kept : (n : Netlist) (rule item : ℕ) (p : FirstBroken n rule item) → LineKeepsRules n p.place p.line → ⊥
not_kept n rule item p kept = none_broken (rules_at (ports_of n) (take p.place (lines_of n)) p.line) kept p.number p.broken

-- which of the rules are kept at a line
abbrev kept_at : Netlist → ℕ → Line → List Bool
kept_at n place line = rules_at (ports_of n) (take place (lines_of n)) line

-- of two first broken rules at one line the one is not before the other
not_lesser : (n : Netlist) (rule item : ℕ) (p : FirstBroken n rule item) (place number : ℕ) (line : Line) → p.place ≡ place → p.line ≡ line → ((r : ℕ) → r < number → slice_get (kept_at n place line) r ≡ Some true) → p.number < number → ⊥
not_lesser n rule item p place number line same same_line lesser less =
    let is : slice_get (kept_at n place line) p.number ≡ Some true = lesser p.number less in
    let here : slice_get (kept_at n p.place p.line) p.number ≡ slice_get (kept_at n place line) p.number =
    ap (λ (k : ℕ). slice_get (kept_at n k p.line) p.number) same ∙ ap (λ (l : Line). slice_get (kept_at n place l) p.number) same_line in
    let clash : Some false ≡ Some true = sym p.broken ∙ here ∙ is in
    cc

pub net_rule_is_one : NetRuleIsOne
net_rule_is_one = λ n rule rule' item item' p q.
    let place : p.place ≡ q.place = neither_below p.place q.place (λ less. not_kept n rule item p (q.earlier p.place p.line less p.at)) (λ more. not_kept n rule' item' q (p.earlier q.place q.line more q.at)) in
    let line : p.line ≡ q.line = same_Some p.line q.line (sym p.at ∙ ap (slice_get (lines_of n)) place ∙ q.at) in
    let number = neither_below p.number q.number (not_lesser n rule item p q.place q.number q.line place line q.lesser) (not_lesser n rule' item' q p.place p.number p.line (sym place) (sym line) p.lesser) in
    (sym p.numbered ∙ ap (λ (k : ℕ). k + 1) number ∙ q.numbered, sym p.counted ∙ ap (λ (k : ℕ). k + 1) place ∙ q.counted)

pub broken_net_is_not_valid : BrokenNetIsNotValid
broken_net_is_not_valid = λ n rule item p valid. not_kept n rule item p (valid p.place p.line p.at)

pub least_port_is_one : LeastPortIsOne
least_port_is_one = λ n first first' others others' p q. neither_greater first first' (p.least first' others' q.is_loop) (q.least first others p.is_loop)
