use Rattle.std.proofs.Common.{◌≡◌, ◌<◌, ℕ, [], List, Option, Some, get_or, length, slice_get, sym, ap, subst, ◌∙◌}
use Rattle.std.specs.Option.{IfSome, option_and_then}
use Rattle.std.proofs.lemmas.Option.{slice_get-get_or}
use Rattle.std.proofs.lemmas.Result.{on_ok_weaker}
use Rattle.hw_names.specs.Name.{Text}
use Rattle.fil_ast.specs.Tree.{value_tree}
use Rattle.fil_loops.specs.inside.PortGraph.{NoPair}
use Rattle.fil_loops.specs.inside.Readings.{ReadsValue}
use Rattle.fil_loops.proofs.PortGraphLemmas.{adds_after, port_within}
use Rattle.fil_loops.proofs.ReadingLemmas.{value_gained, no_value}
use Rattle.fil_loops.proofs.edges.add_value.Goals as goal

-- the value's port is there
there : (n : ℕ) (found : Option ℕ) (names : List Text) → found ≡ Some n → IfSome found (λ m. m < length names) → n < length names
there n found names is lt = subst (λ (o : Option ℕ). IfSome o (λ m. m < length names)) is lt

pub add-requires : goal.add-requires
add-requires c =
    let mid = c.value_port.new.graph in
    record {
      key = port_within NoPair c.args.port c.args.graph.now mid c.value_port.ensures.same c.requires.port;
      value = there c.in-Some.other c.in_ok-other.field-0 mid.ports.names c.in-Some.is c.in_ok-other.ensures.within;
    }

pub returns-in-Some-clause-adds : goal.returns-in-Some-clause-adds
returns-in-Some-clause-adds c scope name place has at =
    let value = value_tree c.args.place.now.names.now c.args.value in
    let old = c.args.graph.now in
    let mid = c.value_port.new.graph in
    let new = c.add.new.self in
    let n = c.in-Some.other in
    let other = get_or mid.ports.names n [] in
    let at_other = slice_get-get_or mid.ports.names n [] (there n c.in_ok-other.field-0 mid.ports.names c.in-Some.is c.in_ok-other.ensures.within) in
    let is = sym (c.in_ok-other.ensures.port scope place has) ∙ ap (option_and_then (slice_get mid.ports.names)) c.in-Some.is ∙ at_other in
    on_ok_weaker c.add.result
    (λ d. adds_after (ReadsValue scope name value) old mid new c.value_port.ensures.same (value_gained scope value name other mid new is d))
    (c.add.ensures.pair name other (c.value_port.ensures.same.texts c.args.port name at) at_other)

pub returns-in-None-clause-adds : goal.returns-in-None-clause-adds
returns-in-None-clause-adds c scope name place has at =
    let value = value_tree c.args.place.now.names.now c.args.value in
    let mid = c.value_port.new.graph in
    let none = sym (c.in_ok-other.ensures.port scope place has) ∙ ap (option_and_then (slice_get mid.ports.names)) c.in-None.is in
    adds_after (ReadsValue scope name value) c.args.graph.now mid mid c.value_port.ensures.same (no_value scope value name mid none)
