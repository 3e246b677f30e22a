use Rattle.std.proofs.Common.{◌≡◌, ℕ, ◌+◌, ◌∷◌, ◌++◌, List, true, take, drop, subst, sym, ap, ◌∙◌, arith}
use Rattle.std.specs.List.{list_all}
use Rattle.std.proofs.lemmas.List.{take_rest}
use Rattle.net_text.proofs.WordLemmas.{passes_front, passes_all, splits_at}
use Rattle.net_text.specs.inside.ReadTexts.{in_line}
use Rattle.net_text.proofs.netlists.split_line.Goals as goal

pub returns-then-at-text-clause-none : goal.returns-then-at-text-clause-none
returns-then-at-text-clause-none c = passes_all in_line c.args.text.now (sym c.line_len-at.ensures.is ∙ c.if-at-text.true)

pub returns-clause-parts : goal.returns-clause-parts
returns-clause-parts c =
    let text = c.args.text.now in
    let at = c.line_len-at.result in
    let split = splits_at text (omega (arith, c.line_len-at.ensures.is, c.line_len-at.ensures.fits)) in
    let parts : text ≡ take at text ++ 10 ∷ drop (at + 1) text = subst (λ (n : ℕ). text ≡ take n text ++ 10 ∷ drop (n + 1) text) (sym c.line_len-at.ensures.is) split in
    parts ∙ ap (λ (rest : List ℕ). take at text ++ 10 ∷ rest) (sym (take_rest text (at + 1)))

pub returns-clause-line : goal.returns-clause-line
returns-clause-line c = subst (λ (n : ℕ). list_all in_line (take n c.args.text.now) ≡ true) (sym c.line_len-at.ensures.is) (passes_front in_line c.args.text.now)
