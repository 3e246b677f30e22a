-- Names that are put last, one by one: those of ports, and those of the components before one.
use Rattle.std.proofs.Common.{◌≡◌, ℕ, ◌+◌, ◌<◌, Bool, true, false, List, [], ◌∷◌, ◌++◌, length, map, take, drop, get_or, slice_get, Contains, Some, refl, sym, ap, subst, ◌∙◌, arith}
use Rattle.std.proofs.lemmas.List.{get_or_append_left, get_or-append-add, length-append, map_push}
use Rattle.std.proofs.lemmas.List.Elements.{All-push}
use Rattle.std.proofs.lemmas.Simd.{map-map}
use Rattle.hw_names.specs.Name.{Text, AreDistinct, text_of}
use Rattle.hw_names.proofs.NameLemmas.{AreDistinct-push, text_of-slice_get}
use Rattle.fil_ast.specs.Naming.{HasNewNames, component_names}
use Rattle.fil_ast.specs.Tree.{Component, DataPort, Design, Interface, port_tree}
use Rattle.fil_ast.specs.declared.tree.FilPort.{FilPort}
use Rattle.fil_sig.proofs.ListLemmas.{comes_twice, map_at, map_more}
use Rattle.fil_flow.specs.inside.Body.{IsEarlier, data_names, output_names}
use Rattle.fil_flow.specs.declared.earlier.Earlier.{Earlier}

-- a name that was not there is put last
pub added : (old new : List Text) (text : Text) (b : Bool) → (Contains old text → ⊥) → (b ≡ true → (Contains old text → ⊥) × (new ≡ old ++ text ∷ []))
    → (b ≡ false → Contains old text × (new ≡ old)) → new ≡ old ++ text ∷ []
added old new text true absent was_new was_there = (was_new refl).1
added old new text false absent was_new was_there = absurd (absent (was_there refl).0)

module _ (names : List Text) where
  abbrev name_of : FilPort → Text
  name_of p = text_of names p.name

  names_are : (ports : List FilPort) → data_names (map (port_tree names) ports) ≡ map name_of ports
  names_are ports = map-map (λ (p : DataPort). p.name) (port_tree names) ports

  -- one more port, where all names differ
  pub port_more : (ports : List FilPort) (i : ℕ) (d : FilPort) (text : Text) (old new : List Text) (b : Bool) → i < length ports
      → slice_get names (get_or ports i d).name.0 ≡ Some text → AreDistinct (data_names (map (port_tree names) ports))
      → old ≡ data_names (map (port_tree names) (take i ports)) → (b ≡ true → (Contains old text → ⊥) × (new ≡ old ++ text ∷ []))
      → (b ≡ false → Contains old text × (new ≡ old)) → new ≡ data_names (map (port_tree names) (take (i + 1) ports))
  port_more ports i d text old new b within at distinct old_is was_new was_there =
      let D : List Text → Type 0 = AreDistinct in
      let named : name_of (get_or ports i d) ≡ text = text_of-slice_get names (get_or ports i d).name text at in
      let before = map name_of (take i ports) in
      let is : old ≡ before = old_is ∙ names_are (take i ports) in
      let whole = subst D (names_are ports ∙ map_at name_of ports i d within ∙ ap (λ t. before ++ t ∷ map name_of (drop (i + 1) ports)) named) distinct in
      let absent : Contains old text → ⊥ = λ there. comes_twice before (map name_of (drop (i + 1) ports)) text (subst (λ (ts : List Text). Contains ts text) is there) whole in
      added old new text b absent was_new was_there ∙ ap (λ ts. ts ++ text ∷ []) is
      ∙ ap (λ t. before ++ t ∷ []) (sym named) ∙ sym (map_more name_of ports i d within) ∙ sym (names_are (take (i + 1) ports))

-- parts of names that differ
pub distinct_front : (xs ys : List Text) → AreDistinct (xs ++ ys) → AreDistinct xs
distinct_front xs ys distinct i j d before within same =
    let long : j < length (xs ++ ys) = omega (arith, length-append xs ys) in
    distinct i j d before long (get_or_append_left xs ys d i (omega arith) ∙ same ∙ sym (get_or_append_left xs ys d j within))

pub distinct_back : (xs ys : List Text) → AreDistinct (xs ++ ys) → AreDistinct ys
distinct_back xs ys distinct i j d before within same =
    let long : length xs + j < length (xs ++ ys) = omega (arith, length-append xs ys) in
    distinct (length xs + i) (length xs + j) d (omega arith) long (get_or-append-add xs ys i d ∙ same ∙ sym (get_or-append-add xs ys j d))

module _ (before : Design) (c : Component) (new_names : HasNewNames before c) where
  abbrev interfaces : List Text
  interfaces = map (λ (g : Interface). g.name) c.interfaces

  pub inputs_differ : AreDistinct (data_names c.ins)
  inputs_differ = distinct_back interfaces (data_names c.ins) (distinct_front (interfaces ++ data_names c.ins) (data_names c.outs) new_names.ports)

  pub outputs_differ : AreDistinct (data_names c.outs)
  outputs_differ = distinct_back (interfaces ++ data_names c.ins) (data_names c.outs) new_names.ports

  -- one more component
  pub earlier_more : (old new : Earlier) → IsEarlier before old → new.names ≡ old.names ++ c.name ∷ []
      → new.outs.items ≡ old.outs.items ++ output_names c ∷ [] → IsEarlier (before ++ c ∷ []) new
  earlier_more old new known names outs =
      let D : List Text → Type 0 = AreDistinct in
      let names_push = map_push (λ (c : Component). c.name) before c in
      record {
        names = names ∙ ap (λ ts. ts ++ c.name ∷ []) known.names ∙ sym names_push;
        outs = outs ∙ ap (λ os. os ++ output_names c ∷ []) known.outs ∙ sym (map_push output_names before c);
        distinct = subst D (sym names_push) (AreDistinct-push (component_names before) c.name known.distinct new_names.new);
        distinct_outs = All-push (λ (c : Component). AreDistinct (output_names c)) before c known.distinct_outs outputs_differ;
      }
