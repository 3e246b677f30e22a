use Rattle.std.proofs.Common.{◌≡◌, ◌+◌, true, false, List, ℕ, take, drop, length, Option, Some, None, MatchOption, nat_eq, Bor, ap, sym, ◌∙◌}
use Rattle.std.specs.Option.{option_copied}
use lib.Pointwise.{pointwise}
use Rattle.net_text.specs.inside.ReadWords.{after}
use Rattle.net_text.proofs.WordLemmas.{after_strip, after_none}
use Rattle.net_text.proofs.words.after.Goals as goal

stripped : (mark text : List ℕ) (o : Option (Bor (List ℕ))) →
    MatchOption o (pointwise nat_eq (take (length mark) text) mark ≡ false) (λ x. (pointwise nat_eq (take (length mark) text) mark ≡ true) × (x.now ≡ drop (length mark) text) × (length x.now + length mark ≡ length text)) →
    option_copied o ≡ after mark text
stripped mark text None h = sym (after_none mark text h)
stripped mark text (Some x) h = ap (λ (t : List ℕ). Some t) h.1 ∙ sym (after_strip mark text h.0)

pub returns-clause-read : goal.returns-clause-read
returns-clause-read c = stripped c.args.mark.now c.args.text.now c.strip_prefix.result c.strip_prefix.ensures.cases
