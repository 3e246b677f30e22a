use Rattle.std.proofs.Common.{ℕ, [], List, map, sym, ap, subst, ◌∙◌}
use Rattle.std.specs.Prelude.{All, Contains, OnOk}
use Rattle.std.proofs.lemmas.List.Elements.{All-head}
use Rattle.std.proofs.lemmas.Option.{slice_get_within}
use Rattle.std.proofs.lemmas.Result.{on_ok_weaker}
use Rattle.fil_ast.specs.Scope.{Instance, instances_at}
use Rattle.fil_ast.specs.Tree.{Statement, Both, New, giving, value_tree}
use Rattle.fil_ast.specs.Wires.{through_before}
use Rattle.fil_ast.specs.declared.tree.Value.{Value}
use Rattle.fil_loops.specs.inside.PortGraph.{Adds, NoPair}
use Rattle.fil_loops.specs.inside.Readings.{ReadsBy, ReadsGiven, ReadsMade, ReadsValue}
use Rattle.fil_loops.proofs.PortGraphLemmas.{adds_after, adds_both, instances_kept}
use Rattle.fil_loops.proofs.ReadingLemmas.{new_tree, call_tree, both_tree, set_tree}
use Rattle.fil_loops.proofs.edges.add_statement.Goals as goal

pub returns-in-New : goal.returns-in-New
returns-in-New c scope place named there =
    let names = c.args.place.now.names.now in
    let stmt = c.args.stmt.now in
    let nt = c.text-name.result.now in
    let mt = c.text-made.result.now in
    let i : Instance = record { name = nt; made = mt; params = c.deref.result.now } in
    let tree = new_tree names stmt c.in-New.name c.in-New.comp c.in-New.params nt mt c.in-New.is c.text-name.ensures c.text-made.ensures ∙ ap (New nt mt) (sym c.deref.ensures.value) in
    let has = All-head (Contains scope.instances) i [] (subst (λ (s : Statement). All (Contains scope.instances) (instances_at s)) tree there) in
    subst (λ (s : Statement). OnOk c.add_instance.result (Adds (ReadsBy (through_before []) scope s) c.args.graph.now c.add_instance.new.graph)) (sym tree)
    (c.add_instance.ensures scope place named has)

pub returns-in-Call : goal.returns-in-Call
returns-in-Call c scope place named there =
    let names = c.args.place.now.names.now in
    let it = c.text.result.now in
    let tree = call_tree names c.args.stmt.now c.in-Call.name c.in-Call.inst c.in-Call.at c.in-Call.args it c.in-Call.is c.text.ensures in
    let given = subst (λ (args : List Value). OnOk c.add_arguments.result (Adds (ReadsGiven scope it (map (value_tree names) args)) c.args.graph.now c.add_arguments.new.graph)) c.deref-in-Call.ensures.value (c.add_arguments.ensures scope place named) in
    subst (λ (s : Statement). OnOk c.add_arguments.result (Adds (ReadsBy (through_before []) scope s) c.args.graph.now c.add_arguments.new.graph)) (sym tree) given

pub returns-in_ok-add_instance-in-Both : goal.returns-in_ok-add_instance-in-Both
returns-in_ok-add_instance-in-Both c scope place named there =
    let names = c.args.place.now.names.now in
    let nt = c.text-name-in-Both.result.now in
    let mt = c.text-made-in-Both.result.now in
    let i : Instance = record { name = nt; made = mt; params = c.deref-in-Both.result.now } in
    let gives = giving names c.in-Both.at.items c.in-Both.args.items in
    let tree = both_tree names c.args.stmt.now c.in-Both.name c.in-Both.made c.in-Both.params c.in-Both.at c.in-Both.args nt mt c.in-Both.is c.text-name-in-Both.ensures c.text-made-in-Both.ensures
    ∙ ap (λ (ps : List ℕ). Both nt mt ps gives) (sym c.deref-in-Both.ensures.value) in
    let has = All-head (Contains scope.instances) i [] (subst (λ (s : Statement). All (Contains scope.instances) (instances_at s)) tree there) in
    let first = c.in_ok-add_instance-in-Both.ensures scope place named has in
    let result = c.add_arguments-in-Both.result in
    let old = c.args.graph.now in
    let mid = c.add_instance-in-Both.new.graph in
    let new = c.add_arguments-in-Both.new.graph in
    let second = subst (λ (args : List Value). OnOk result (Adds (ReadsGiven scope nt (map (value_tree names) args)) mid new)) c.deref-in-Both-2.ensures.value (c.add_arguments-in-Both.ensures scope place (instances_kept (ReadsMade (through_before []) scope i) scope old mid first named)) in
    let both = on_ok_weaker result (λ d. adds_both (ReadsMade (through_before []) scope i) (ReadsGiven scope nt gives.args) old mid new first d) second in
    subst (λ (s : Statement). OnOk result (Adds (ReadsBy (through_before []) scope s) old new)) (sym tree) both

pub returns-in_ok-port-in-Set : goal.returns-in_ok-port-in-Set
returns-in_ok-port-in-Set c scope place named there =
    let names = c.args.place.now.names.now in
    let tree = set_tree names c.args.stmt.now c.in-Set.dst c.in-Set.value c.text-in-Set.result.now c.in-Set.is c.text-in-Set.ensures in
    let dst = c.text-in-Set.result.now in
    let old = c.args.graph.now in
    let mid = c.named.new.self in
    let new = c.add_value.new.graph in
    let reads = c.add_value.ensures.adds scope dst place (instances_kept NoPair scope old mid c.named.ensures.same named) c.in_ok-port-in-Set.ensures.number in
    subst (λ (s : Statement). OnOk c.add_value.result (Adds (ReadsBy (through_before []) scope s) old new)) (sym tree)
    (on_ok_weaker c.add_value.result (λ d. adds_after (ReadsValue scope dst (value_tree names c.in-Set.value)) old mid new c.named.ensures.same d) reads)

pub add_value-requires-clause-port : goal.add_value-requires-clause-port
add_value-requires-clause-port c = slice_get_within _ _ _ c.in_ok-port-in-Set.ensures.number
