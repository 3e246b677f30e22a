use Rattle.std.proofs.Common.{◌↔◌, List, Contains, is_some, flat_map, sym, subst, ◌∙◌}
use Rattle.std.specs.Bool.{IsTrue}
use Rattle.std.proofs.lemmas.Bool.Decides.{not_from_Decides}
use Rattle.hw_names.specs.Name.{Text, text_of}
use Rattle.hw_names.proofs.NameLemmas.{text_of-slice_get}
use Rattle.fil_ast.specs.Connections.{ConnectsOnce, connected_at}
use Rattle.fil_ast.specs.Scope.{output_of}
use Rattle.fil_ast.specs.Timeline as tree
use Rattle.fil_ast.specs.Tree.{Connect, value_tree}
use Rattle.fil_sig.proofs.ListLemmas.{told_false}
use Rattle.fil_rules.proofs.ConnectLemmas.{covers_told}
use Rattle.fil_rules.proofs.connections.connects_once.Goals as goal

pub returns-then-is_some : goal.returns-then-is_some
returns-then-is_some c scope before place distinct are =
    let names = c.args.place.now.names.now in
    let dst = text_of names c.args.dst in
    let named = text_of-slice_get names c.args.dst c.text-name.result.now c.text-name.ensures in
    let there = c.find.ensures.present.0 (sym c.is_some.ensures ∙ c.if-is_some.true) in
    let C : Text → Type 0 = λ t. Contains (flat_map connected_at before) t in
    let L : List Text → Type 0 = λ ts. Contains ts c.text-name.result.now in
    told_false (ConnectsOnce scope before (Connect dst (value_tree names c.args.value))) (λ once. once.0 (subst C (sym named) (subst L are there)))

pub returns : goal.returns
returns c scope before place distinct are =
    let names = c.args.place.now.names.now in
    let text = c.text-name.result.now in
    let named = text_of-slice_get names c.args.dst text c.text-name.ensures in
    let value = value_tree names c.args.value in
    let need = tree.own_interval scope (output_of scope text) in
    let C : Text → Type 0 = λ t. Contains (flat_map connected_at before) t in
    let L : List Text → Type 0 = λ ts. Contains ts text in
    let absent : C text → ⊥ = λ there.
    not_from_Decides (is_some c.find.result) c.find.ensures.present (sym c.is_some.ensures ∙ c.if-is_some.false) (subst L (sym are) there) in
    let O : Text → Type 0 = λ t. IsTrue c.is_none.result ↔ ConnectsOnce scope before (Connect t value) in
    subst O (sym named)
    (covers_told scope value need c.missing_in.result c.is_none.result (C text → ⊥)
    (c.missing_in.ensures.cases scope need place distinct (c.output_interval-need.ensures scope place)) c.is_none.ensures absent)
