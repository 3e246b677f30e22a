use Rattle.std.proofs.Common.{refl, subst}
use Rattle.fil_parse.specs.Spelling.{EndsBy}
use Rattle.filc_load.specs.FilFile.{HasNoTokens, NestsTooDeep, HasNoGrammar, HasLargeOffset}
use Rattle.filc_load.proofs.fil_file.stop_of.Goals as goal

pub returns-in-Token : goal.returns-in-Token
returns-in-Token c text ends = HasNoTokens c.in-Token.at (subst (EndsBy text) c.in-Token.is ends) refl refl

pub returns-in-Nesting : goal.returns-in-Nesting
returns-in-Nesting c text ends =
    let nested = subst (EndsBy text) c.in-Nesting.is ends in
    NestsTooDeep c.in-Nesting.count nested.0 nested.1 refl refl

pub returns-in-Grammar : goal.returns-in-Grammar
returns-in-Grammar c text ends =
    let refused = subst (EndsBy text) c.in-Grammar.is ends in
    HasNoGrammar c.in-Grammar.at refused.0 refused.1 refl refl

pub returns-in-Offset : goal.returns-in-Offset
returns-in-Offset c text ends =
    let large = subst (EndsBy text) c.in-Offset.is ends in
    HasLargeOffset large.1.0 c.in-Offset.count large.0 large.1.1 large.1.2 refl refl
