use Rattle.std.proofs.Common.{List, [], ◌∷◌, ◌++◌, sym, subst, ◌∙◌}
use Rattle.cal_ast.specs.Numbers.{ComponentHasNumbers}
use Rattle.cal_ast.specs.Tree.{component_tree}
use Rattle.cal_ast.specs.declared.tree.CalComp.{CalComp}
use Rattle.cal_lower.specs.inside.Lowered.{lowered}
use Rattle.cal_lower.proofs.GrownLemmas.{show_all_kept, show_push}
use Rattle.cal_state.specs.inside.Encoded.{encoded}
use Rattle.cal_state.specs.inside.Making.{ShowComponents}
use Rattle.cal_state.proofs.EncodingLemmas.{show_some}
use Rattle.cal_state.proofs.RulesLaterLemmas.{next_shown, rest_kept}
use Rattle.cal_state.proofs.lower.push_next.Goals as goal

pub returns-in_default-clause-left : goal.returns-in_default-clause-left
returns-in_default-clause-left c = λ more tree shows.
    let left = c.args.left.now in
    absurd (show_some ComponentHasNumbers component_tree c.args.names.now tree more left.items shows (sym left.ok.0 ∙ c.in_default.ensures.cases.0))

pub returns-in_default-clause-pushed : goal.returns-in_default-clause-pushed
returns-in_default-clause-pushed c = λ texts more done shows before.
    let left = c.args.left.now in
    let tree = lowered (component_tree texts c.args.source.now) in
    absurd (show_some ComponentHasNumbers component_tree c.args.names.now tree more left.items shows (sym left.ok.0 ∙ c.in_default.ensures.cases.0))

pub returns-in_err-encode-clause-left : goal.returns-in_err-encode-clause-left
returns-in_err-encode-clause-left c = λ more tree shows.
    rest_kept c.args.names.now c.encode.new.names tree more c.in-Some.bits c.args.left.now.items c.pop_front.new.self.items c.encode.ensures.kept c.in-Some.ensures.items shows

pub returns-in_err-push-clause-left : goal.returns-in_err-push-clause-left
returns-in_err-push-clause-left c = λ more tree shows.
    rest_kept c.args.names.now c.encode.new.names tree more c.in-Some.bits c.args.left.now.items c.pop_front.new.self.items c.encode.ensures.kept c.in-Some.ensures.items shows

pub returns-clause-left : goal.returns-clause-left
returns-clause-left c = λ more tree shows.
    rest_kept c.args.names.now c.encode.new.names tree more c.in-Some.bits c.args.left.now.items c.pop_front.new.self.items c.encode.ensures.kept c.in-Some.ensures.items shows

pub returns-clause-pushed : goal.returns-clause-pushed
returns-clause-pushed c = λ texts more done shows before.
    let old = c.args.names.now in
    let new = c.encode.new.names in
    let tree = component_tree texts c.args.source.now in
    let comp = c.in_ok-encode.field-0 in
    let one = next_shown old (lowered tree) more c.in-Some.bits c.args.left.now.items c.pop_front.new.self.items c.in-Some.ensures.items shows in
    let so_far = show_all_kept ComponentHasNumbers component_tree old new done c.args.comps.now.items c.encode.ensures.kept before in
    let P : List CalComp → Type 0 = ShowComponents new (done ++ encoded tree ∷ []) in
    subst P (sym {A = List CalComp} c.in_ok-push.ensures.items)
    (show_push ComponentHasNumbers component_tree new done c.args.comps.now.items (encoded tree) comp so_far (c.in_ok-encode.ensures.encoded texts one))
