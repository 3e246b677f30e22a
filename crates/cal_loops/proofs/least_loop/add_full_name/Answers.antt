use Rattle.std.proofs.Common.{◌++◌, List, Option, sym, ap, subst, ◌∙◌}
use Rattle.std.proofs.lemmas.List.{append-nil}
use Rattle.hw_names.specs.Name.{Text}
use Rattle.cal_wires.specs.Nodes.{IsName}
use Rattle.cal_loops.proofs.NameInLemmas.{name_of_some, none_of_none}
use Rattle.cal_loops.proofs.least_loop.add_full_name.Goals as goal

pub returns-in_ok-push-in-Some : goal.returns-in_ok-push-in-Some
returns-in_ok-push-in-Some c node key =
    let is = subst (λ (o : Option Text). IsName node o) c.in-Some.is (c.in_ok-name.ensures node key) in
    c.in_ok-push-in-Some.ensures.items ∙ ap (λ (l : List Text). c.args.names.now.items ++ l) (name_of_some node c.in-Some.name is)

pub returns-in-None : goal.returns-in-None
returns-in-None c node key =
    let is = subst (λ (o : Option Text). IsName node o) c.in-None.is (c.in_ok-name.ensures node key) in
    sym (append-nil c.args.names.now.items) ∙ ap (λ (l : List Text). c.args.names.now.items ++ l) (none_of_none node is)
