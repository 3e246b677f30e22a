use Rattle.std.proofs.Common.{subst}
use Rattle.filc_core.proofs.LanguageLemmas.{same_language}
use Rattle.filc_core.proofs.WordLemmas.{failed_test}
use Rattle.filc_core.specs.Shape.{AreOf}
use Rattle.filc_core.proofs.shape.Designs.language.Goals as goal

pub returns-in_err-language : goal.returns-in_err-language
returns-in_err-language c = rw c.from_residual.ensures (λ language is named. c.in_err-language.ensures language named)

pub returns-else-has : goal.returns-else-has
returns-else-has c = λ language is named.
    failed_test (AreOf c.args.self c.in_ok-language.language) c.has.result c.has.ensures.1 c.if-has.false
    (subst (AreOf c.args.self) (same_language language c.in_ok-language.language c.args.file.now named c.in_ok-language.ensures) is)
