use Rattle.std.proofs.Common.{◌≡◌, ℕ, List, sym, subst₂, ◌∙◌}
use Rattle.std.proofs.lemmas.Result.{on_ok_weaker}
use Rattle.hw_names.specs.Name.{Text}
use Rattle.hw_names.proofs.NameLemmas.{text_of-slice_get}
use Rattle.fil_flow.specs.inside.Body.{IsCallee}
use Rattle.fil_flow.proofs.PlanningLemmas.{planning_instance}
use Rattle.fil_flow.proofs.planning.Planning.make.Goals as goal

pub returns : goal.returns
returns c scope done i known name_is made_is params_are signed new =
    let names = c.args.names.now in
    let earlier = c.args.earlier.now in
    let callee = c.callee-callee.result in
    let made : i.made ≡ c.text.result.now = made_is ∙ text_of-slice_get names c.args.comp c.text.result.now c.text.ensures in
    let named : i.name ≡ c.text-2.result.now = name_is ∙ text_of-slice_get names c.args.name c.text-2.result.now c.text-2.ensures in
    let C : Text → List ℕ → Type 0 = λ t ps. IsCallee earlier t ps callee in
    let is = subst₂ C (sym made) (sym params_are) c.callee-callee.ensures in
    on_ok_weaker c.add_instance.result (planning_instance earlier scope done c.args.self.now known i c.add_instance.new.self)
    (c.add_instance.ensures earlier scope known.held i known.body named is signed new)
