use Rattle.std.proofs.Common.{sym, subst}
use Rattle.std.specs.Option.{option_and_then}
use Rattle.hw_names.specs.Name.{Text, text_of}
use Rattle.hw_names.proofs.NameLemmas.{text_of-slice_get}
use Rattle.fil_ast.specs.Scope.{input_of, result_of}
use Rattle.fil_ast.specs.Timeline as tree
use Rattle.fil_ast.specs.Tree.{InputValue, OutputValue, value_tree}
use Rattle.fil_ast.specs.declared.tree.Value.{Value}
use Rattle.fil_rules.specs.inside.Available.{result_interval}
use Rattle.fil_rules.specs.inside.Available.{ShowsAvailable}
use Rattle.fil_rules.proofs.AvailableLemmas.{available_out, out_available}
use Rattle.fil_rules.proofs.timeline.available.availability.Goals as goal

pub returns-in-Port : goal.returns-in-Port
returns-in-Port c scope place distinct =
    let names = c.args.place.now.names.now in
    let events = c.args.place.now.tables.now.events in
    let r = c.during.result in
    let text = c.text.result.now in
    let named = text_of-slice_get names c.in-Port.name text c.text.ensures in
    let V : Value → Type 0 = λ v. ShowsAvailable events scope (value_tree names v) r in
    let T : Text → Type 0 = λ t. ShowsAvailable events scope (InputValue t) r in
    subst V (sym c.in-Port.is)
    (subst T (sym named) (c.during.ensures events (tree.own_interval scope (input_of scope text)) distinct (c.input_interval.ensures scope place)))

pub returns-in-Out : goal.returns-in-Out
returns-in-Out c scope place distinct =
    let names = c.args.place.now.names.now in
    let events = c.args.place.now.tables.now.events in
    let r = c.during-in-Out.result in
    let invocation = c.text-in-Out.result.now in
    let port = c.text-in-Out-2.result.now in
    let named = text_of-slice_get names c.in-Out.invocation invocation c.text-in-Out.ensures in
    let named_port = text_of-slice_get names c.in-Out.port port c.text-in-Out-2.ensures in
    let V : Value → Type 0 = λ v. ShowsAvailable events scope (value_tree names v) r in
    let I : Text → Type 0 = λ t. ShowsAvailable events scope (OutputValue t (text_of names c.in-Out.port)) r in
    let P : Text → Type 0 = λ t. ShowsAvailable events scope (OutputValue invocation t) r in
    let shown = c.during-in-Out.ensures events (option_and_then result_interval (result_of scope invocation port)) distinct (c.result_interval.ensures scope place) in
    let here : P port = λ event name offset at. (
      λ t. available_out scope invocation port name offset ((shown event name offset at).0 t),
      λ t. (shown event name offset at).1 (out_available scope invocation port name offset t),
    ) in
    subst V (sym c.in-Out.is) (subst I (sym named) (subst P (sym named_port) here))
