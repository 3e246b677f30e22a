use Rattle.std.proofs.Common.{◌≡◌, ◌+◌, ◌<◌, length, Contains, Bor, option_map, sym, ap, subst, ◌∙◌, List, arith}
use Rattle.std.specs.Slice.{IsItemAt}
use Rattle.fil_ast.specs.Signature.{sig_port}
use Rattle.fil_ast.specs.Tree.{port_tree}
use Rattle.fil_ast.specs.declared.tree.FilPort.{FilPort}
use Rattle.fil_place.proofs.LookupLemmas.{got_among, not_found, no_input, no_input_before, input_there}
use Rattle.fil_place.proofs.lookup.input.Goals as goal

pub returns-in_err-number-clause-meaning : goal.returns-in_err-number-clause-meaning
returns-in_err-number-clause-meaning c names earlier scope place =
    let F = option_map (λ (p : Bor FilPort). sig_port scope.comp.events (port_tree names p.now)) in
    let name = c.args.name.now in
    ap F c.from_residual.ensures
    ∙ sym (no_input names earlier c.args.comp.now c.args.tables.now scope place name (not_found (Contains c.args.tables.now.ports name) c.in_err-number.ensures.present))

pub returns-in_err-place-clause-meaning : goal.returns-in_err-place-clause-meaning
returns-in_err-place-clause-meaning c names earlier scope place =
    let F = option_map (λ (p : Bor FilPort). sig_port scope.comp.events (port_tree names p.now)) in
    let comp = c.args.comp.now in
    let early : c.in_ok-number.field-0.0 < length comp.gos.items = omega (arith, c.in_err-place.ensures, c.len.ensures, comp.gos.ok.0) in
    ap F c.from_residual-in_err-place.ensures
    ∙ sym (no_input_before names earlier comp c.args.tables.now scope place c.args.name.now c.find.ensures.distinct c.in_ok-number.field-0.0 c.in_ok-number.ensures.text early)

pub returns-clause-meaning : goal.returns-clause-meaning
returns-clause-meaning c names earlier scope place =
    let comp = c.args.comp.now in
    let I : List FilPort → Type 0 = λ ports. IsItemAt ports c.in_ok-place.place c.get.result in
    let here : c.in_ok-number.field-0.0 ≡ length comp.gos.items + c.in_ok-place.place = omega (arith, c.in_ok-place.ensures, c.len.ensures, comp.gos.ok.0) in
    input_there names earlier comp c.args.tables.now scope place c.args.name.now c.find.ensures.distinct c.in_ok-number.field-0.0 c.in_ok-number.ensures.text
    c.in_ok-place.place c.get.result here (subst I c.deref.ensures.value c.get.ensures.lookup)

pub returns-clause-among : goal.returns-clause-among
returns-clause-among c =
    let comp = c.args.comp.now in
    let A : List FilPort → Type 0 = λ ports. IsItemAt ports c.in_ok-place.place c.get.result in
    got_among comp.ins.items c.in_ok-place.place c.get.result (subst A c.deref.ensures.value c.get.ensures.lookup)
