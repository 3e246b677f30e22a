use Rattle.std.proofs.Common.{◌≡◌, ◌≢◌, ℕ, [], ◌∷◌, List, true, false, length, ◌==◌, refl, sym, ◌∙◌, arith}
use Rattle.std.proofs.lemmas.Bool.Decides.{nat_tests}
use Rattle.fil_sig.specs.Refusals.{ByParameters, ByWidths, ByShape}
use Rattle.fil_sig.proofs.named.of_component.Goals.{then-not-is_empty-via-then-not-is_empty, then-not-is_empty-via-else-not-is_empty+then-not-has_widths}
use Rattle.fil_sig.proofs.named.of_component.Goals as goal

some_there : (params : List ℕ) → (length params == 0) ≡ false → params ≢ []
some_there [] e same = absurd (cc)
some_there (p ∷ params) e same = absurd (cc)

none_there : (params : List ℕ) → (length params == 0) ≡ true → params ≡ []
none_there [] e = refl
none_there (p ∷ params) e = absurd (grind (arith, nat_tests))

pub returns-then-not-is_empty-clause-refused : goal.returns-then-not-is_empty-clause-refused
returns-then-not-is_empty-clause-refused c =
    elim c.then-not-is_empty.branch [
      | then-not-is_empty-via-then-not-is_empty w ↦ ByParameters (some_there c.args.params.now (sym c.is_empty.ensures ∙ w.if-not-is_empty.true))
      | then-not-is_empty-via-else-not-is_empty+then-not-has_widths w ↦ ByWidths (λ wide. let yes = (w.has_widths.ensures c.args.names.now).1 wide in let no = w.if-not-has_widths.true in absurd (cc))
    ]

pub returns-then-not-branch-clause-refused : goal.returns-then-not-branch-clause-refused
returns-then-not-branch-clause-refused c =
    ByShape (none_there c.args.params.now (sym c.is_empty.ensures ∙ c.if-not-is_empty.false))
    ((c.has_widths.ensures c.args.names.now).0 c.if-not-has_widths.false)
    (λ shape. let yes = c.in_ok-has_shape.ensures.1 shape in let no = c.if-not-branch.true in absurd (cc))

pub component_signature-requires-clause-wide : goal.component_signature-requires-clause-wide
component_signature-requires-clause-wide c = (c.has_widths.ensures c.args.names.now).0 c.if-not-has_widths.false

pub returns-clause-usable : goal.returns-clause-usable
returns-clause-usable c = ((c.has_widths.ensures c.args.names.now).0 c.if-not-has_widths.false, c.in_ok-has_shape.ensures.0 c.if-not-branch.false)
