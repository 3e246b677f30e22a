use Rattle.std.proofs.Common.{map}
use Rattle.filc_core.proofs.AskLemmas.{none_asked, none_more}
use Rattle.filc_core.specs.Request.{Asks, AskNothing}
use Rattle.filc_core.specs.declared.name.TheConstants.{COMMANDS}
use Rattle.filc_core.specs.inside.Told.{AskNoneOf, request_told}
use Rattle.filc_core.proofs.request.asked.Goals as goal

pub returns : goal.returns
returns c =
    let texts = map (λ w. w.now) c.args.words.now in
    none_more (AskNoneOf COMMANDS.now texts) (AskNothing texts) (λ request. Asks texts (request_told request)) c.first_asked.result (none_asked texts) c.first_asked.ensures
