use Rattle.std.proofs.Common.{◌≡◌, ◌∙◌, [], List, Some, get_or, slice_get, refl, sym, ap, subst}
use Rattle.std.proofs.lemmas.Option.{get_or_from_slice_get, slice_get-get_or}
use Rattle.hw_names.specs.Name.{dotted}
use Rattle.fil_loops.specs.inside.Ports.{IsFit, PortList, full_name_in}
use Rattle.fil_loops.specs.declared.ports.PortKey.{PortKey}
use Rattle.fil_loops.specs.declared.ports.PortKey.TheVariants.{Own, OfInstance}
use Rattle.fil_loops.proofs.PartLemmas.{key_at}
use Rattle.fil_loops.proofs.PortNumberLemmas.{instance_name, of_instance_key, own_key_apart, own_key_dotless}
use Rattle.fil_loops.proofs.ports.Ports.of_instance.Goals as goal

pub returns-in-Own-clause-found : goal.returns-in-Own-clause-found
returns-in-Own-clause-found c instance inst name at plain at_instance =
    let texts = c.self.inside.texts.all in
    let key = key_at texts c.self.inside.set.keys c.self.invariant.0 c.args.place (dotted inst name) (ap (λ (v : PortList). slice_get v.names c.args.place) c.self.view_is ∙ at) in
    let is : key.0 ≡ Own c.in-Own.field-0 =
    sym (get_or_from_slice_get c.as_slice.result.now c.args.place key.0 _ (ap (λ (l : List PortKey). slice_get l c.args.place) c.as_slice.ensures.keys ∙ key.1)) ∙ c.in-Own.is in
    absurd (own_key_apart texts c.in-Own.field-0 inst name (subst (IsFit texts) is key.2) (ap (full_name_in texts) (sym is) ∙ key.3))

pub returns-in-OfInstance-clause-found : goal.returns-in-OfInstance-clause-found
returns-in-OfInstance-clause-found c instance inst name at plain at_instance =
    let texts = c.self.inside.texts.all in
    let key = key_at texts c.self.inside.set.keys c.self.invariant.0 c.args.place (dotted inst name) (ap (λ (v : PortList). slice_get v.names c.args.place) c.self.view_is ∙ at) in
    let is : key.0 ≡ OfInstance c.in-OfInstance.instance c.in-OfInstance.port =
    sym (get_or_from_slice_get c.as_slice.result.now c.args.place key.0 _ (ap (λ (l : List PortKey). slice_get l c.args.place) c.as_slice.ensures.keys ∙ key.1)) ∙ c.in-OfInstance.is in
    let at_text = c.begin_with_names.ensures instance inst (ap (λ (v : PortList). slice_get v.instances instance) c.self.view_is ∙ at_instance) in
    let own = of_instance_key texts c.are_distinct.ensures c.in-OfInstance.instance c.in-OfInstance.port instance inst name (subst (IsFit texts) is key.2) (ap (full_name_in texts) (sym is) ∙ key.3) plain at_text in
    (refl, (own.0, sym (get_or_from_slice_get texts c.in-OfInstance.port c.text.result.now [] c.text.ensures) ∙ own.1))

pub returns-in-OfInstance-clause-some : goal.returns-in-OfInstance-clause-some
returns-in-OfInstance-clause-some c inst at_instance =
    let names = c.args.self.now.names in
    let texts = c.self.inside.texts.all in
    let instance = c.in-OfInstance.instance in
    let name = get_or names c.args.place [] in
    let at : slice_get names c.args.place ≡ Some name = slice_get-get_or names c.args.place [] c.requires in
    let key = key_at texts c.self.inside.set.keys c.self.invariant.0 c.args.place name (ap (λ (v : PortList). slice_get v.names c.args.place) c.self.view_is ∙ at) in
    let is : key.0 ≡ OfInstance instance c.in-OfInstance.port =
    sym (get_or_from_slice_get c.as_slice.result.now c.args.place key.0 _ (ap (λ (l : List PortKey). slice_get l c.args.place) c.as_slice.ensures.keys ∙ key.1)) ∙ c.in-OfInstance.is in
    let at_text = c.begin_with_names.ensures instance inst (ap (λ (v : PortList). slice_get v.instances instance) c.self.view_is ∙ at_instance) in
    at ∙ ap Some (sym key.3 ∙ ap (full_name_in texts) is ∙ instance_name texts instance c.in-OfInstance.port inst c.text.result.now at_text c.text.ensures)

pub returns-in-Own-clause-none : goal.returns-in-Own-clause-none
returns-in-Own-clause-none c name at =
    let texts = c.self.inside.texts.all in
    let key = key_at texts c.self.inside.set.keys c.self.invariant.0 c.args.place name (ap (λ (v : PortList). slice_get v.names c.args.place) c.self.view_is ∙ at) in
    let is : key.0 ≡ Own c.in-Own.field-0 =
    sym (get_or_from_slice_get c.as_slice.result.now c.args.place key.0 _ (ap (λ (l : List PortKey). slice_get l c.args.place) c.as_slice.ensures.keys ∙ key.1)) ∙ c.in-Own.is in
    own_key_dotless texts c.in-Own.field-0 name (subst (IsFit texts) is key.2) (ap (full_name_in texts) (sym is) ∙ key.3)
