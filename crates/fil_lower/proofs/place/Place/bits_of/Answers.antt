use Rattle.std.proofs.Common.{◌≡◌, List, All, length, map, slice_get, Some, Vec, refl, sym, ap, subst, ◌∙◌, arith}
use Rattle.std.proofs.lemmas.Option.{same_Some, slice_get_read, slice_get_within}
use Rattle.cal_ast.specs.Numbers.{PortHasNumbers}
use Rattle.cal_ast.specs.Tree.{port_tree}
use Rattle.cal_ast.specs.declared.tree.CalPort.{CalPort}
use Rattle.hw_names.specs.Name.{text_of}
use Rattle.std.specs.declared.alloc.Global.{Global}
use Rattle.fil_ast.specs.Naming.{NamesEvent}
use Rattle.fil_ast.specs.Signature.{event_number}
use Rattle.fil_ast.specs.Tree.{Component, event_tree}
use Rattle.fil_ast.specs.declared.tree.EventDef.{EventDef}
use Rattle.fil_lower.proofs.PlaceLemmas.{few_events, finds_bits}
use Rattle.fil_lower.proofs.StepLemmas.{All-at}
use Rattle.fil_lower.proofs.place.Place.bits_of.Goals as goal

pub event_number-number-requires-clause-few : goal.event_number-number-requires-clause-few
event_number-number-requires-clause-few c =
    let (l, shows, named) = c.requires.known in
    omega (arith, few_events c.args.self.now.body.now l.scope shows.body, ap (length {A = EventDef}) c.deref.ensures.value)

pub bounds-self-number : goal.bounds-self-number
bounds-self-number c =
    let (l, shows, named) = c.requires.known in
    let own = c.args.self.now.body.now.names.now in
    let number = c.event_number-number.ensures ∙ ap (λ (es : List EventDef). event_number (map (event_tree own) es) (text_of own c.args.event)) c.deref.ensures.value in
    let found = finds_bits c.args.self.now l (text_of own c.args.event) shows named c.event_number-number.result number in
    slice_get_within c.args.self.now.bits.now c.event_number-number.result found.bits found.at

pub returns-clause-bits : goal.returns-clause-bits
returns-clause-bits c = λ l shows.
    let (other, shows_other, named_other) = c.requires.known in
    let own = c.args.self.now.body.now.names.now in
    let bits = c.args.self.now.bits.now in
    let n = c.event_number-number.result in
    let event = text_of own c.args.event in
    let number = c.event_number-number.ensures ∙ ap (λ (es : List EventDef). event_number (map (event_tree own) es) event) c.deref.ensures.value in
    let first = finds_bits c.args.self.now other event shows_other named_other n number in
    let within = slice_get_within bits n first.bits first.at in
    let comp : l.scope.comp ≡ other.scope.comp = shows.body.comp ∙ sym shows_other.body.comp in
    let N : Component → Type 0 = λ c. NamesEvent c event in
    let named : NamesEvent l.scope.comp event = subst N (sym comp) named_other in
    let found = finds_bits c.args.self.now l event shows named n number in
    let at : slice_get bits n ≡ Some c.index-self-number.result = slice_get_read bits (length bits) n c.index-self-number.result refl within c.index-self-number.is in
    let same : c.index-self-number.result ≡ found.bits = same_Some c.index-self-number.result found.bits (sym at ∙ found.at) in
    ap (map (port_tree c.args.self.now.names.now)) (c.as_slice.ensures.value ∙ ap (λ (b : Vec CalPort Global). b.items) (sym c.index-self-number.is ∙ same)) ∙ found.are

pub returns-clause-numbers : goal.returns-clause-numbers
returns-clause-numbers c =
    let (l, shows, named) = c.requires.known in
    let own = c.args.self.now.body.now.names.now in
    let names = c.args.self.now.names.now in
    let bits = c.args.self.now.bits.now in
    let n = c.event_number-number.result in
    let number = c.event_number-number.ensures ∙ ap (λ (es : List EventDef). event_number (map (event_tree own) es) (text_of own c.args.event)) c.deref.ensures.value in
    let found = finds_bits c.args.self.now l (text_of own c.args.event) shows named n number in
    let within = slice_get_within bits n found.bits found.at in
    let at : slice_get bits n ≡ Some c.index-self-number.result = slice_get_read bits (length bits) n c.index-self-number.result refl within c.index-self-number.is in
    let A : List CalPort → Type 0 = All (PortHasNumbers names) in
    subst A (sym (c.as_slice.ensures.value ∙ ap (λ (b : Vec CalPort Global). b.items) (sym c.index-self-number.is))) (All-at (λ (b : Vec CalPort Global). All (PortHasNumbers names) b.items) bits n c.index-self-number.result at shows.bits.numbers)
