-- Each run of a lowered design is one of its source.
use Rattle.std.proofs.Common.{List, map, sym, subst}
use Rattle.std.specs.Prelude.{Contains}
use Rattle.std.proofs.lemmas.List.Elements.{All-contains}
use Rattle.cal_ast.proofs.InstanceLemmas.{component_at-design}
use Rattle.cal_ast.specs.Holes.{ActivityRule}
use Rattle.cal_ast.specs.Tree.{Component, Design}
use Rattle.cal_lower.specs.inside.Laws.{KeepsRunsFromEach, LoweringsKeepRuns}
use Rattle.cal_lower.specs.inside.Lowered.{lowered, HasFewParts}
use Rattle.cal_lower.proofs.ActsLemmas.{control_followed}
use Rattle.cal_lower.proofs.LoweredLemmas.{tokens, tokens_made}
use Rattle.cal_lower.proofs.RunKeptLemmas.{FollowsControl, runs_kept}
use Rattle.cal_lower.proofs.TokenLemmas.{tokens_named}

pub lowerings_keep_runs : LoweringsKeepRuns
lowerings_keep_runs source answer rules tree plain is =
    let A : Design → Type 0 = λ a. KeepsRunsFromEach source a rules in
    let R : List ActivityRule → Type 0 = λ r. KeepsRunsFromEach source (map lowered source) r in
    let few = λ (c : Component) (has : Contains source c). All-contains HasFewParts source c is.few has in
    let follows : FollowsControl tokens source = λ top top_in asked inputs loads height trace stop run path c at full.
    let in_design : Contains source c = component_at-design source top path c top_in at in
    control_followed source tree plain top asked inputs loads height trace stop run path c at in_design full (few c in_design) in
    subst A (sym is.design) (subst R (sym is.acting)
    (runs_kept tokens tokens_made source tree plain (λ c has full. tokens_named source tree plain c has (few c has)) follows))
