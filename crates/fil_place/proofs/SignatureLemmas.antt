-- The names that a signature puts into the tables.
use Rattle.std.proofs.Common.{◌≡◌, List, [], ◌++◌, map, ap₂, ◌∙◌}
use Rattle.hw_names.specs.Name.{Text, text_of}
use Rattle.hw_names.specs.declared.names.NameId.{NameId}
use Rattle.fil_ast.specs.Naming.{event_names, port_names}
use Rattle.fil_ast.specs.Tree.{component_tree}
use Rattle.fil_ast.specs.declared.tree.FilComp.{FilComp}
use Rattle.fil_place.specs.SignatureNames.{event_ids, port_ids}
use Rattle.fil_place.proofs.NameLemmas.{event_texts, port_texts}

module _ (names : List Text) (c : FilComp) where
  -- names that are put after none
  pub events_put : (old : List Text) (ids : List NameId) → old ≡ [] → ids ≡ event_ids c → old ++ map (text_of names) ids ≡ event_names (component_tree names c)
  events_put old ids none are =
      ap₂ (λ (ts : List Text) (ns : List NameId). ts ++ map (text_of names) ns) none are ∙ event_texts names c

  pub ports_put : (old : List Text) (ids : List NameId) → old ≡ [] → ids ≡ port_ids c → old ++ map (text_of names) ids ≡ port_names (component_tree names c)
  ports_put old ids none are =
      ap₂ (λ (ts : List Text) (ns : List NameId). ts ++ map (text_of names) ns) none are ∙ port_texts names c
