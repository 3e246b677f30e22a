-- Instances and names as code has them. This project's.
use Rattle.std.specs.Prelude.{◌≡◌, ◌<◌, List, [], ◌∷◌, ◌++◌, length, map, slice_index_or, All, None, IfSome, option_map}
use Rattle.hw_names.specs.Name.{Text, Path, dot, port_at, text_of}
use Rattle.hw_names.specs.declared.names.NameId.{NameId}
use Rattle.cal_ast.specs.Numbers.{ComponentHasNumbers}
use Rattle.cal_ast.specs.Ports.{component_named}
use Rattle.cal_ast.specs.Tree.{Component, component_tree, design_of}
use Rattle.cal_ast.specs.declared.tree.CalDesign.{CalDesign}
use Rattle.cal_ast.specs.declared.tree.CalPort.{CalPort}
use Rattle.net_flat.specs.Listing as listing
use Rattle.net_flat.specs.declared.comps.Comps.{Comps}
use Rattle.net_flat.specs.declared.instances.Instance.{Instance}

-- what full names at a path begin with
abbrev pub prefix_of : Path → Text
prefix_of [] = []
prefix_of (instance ∷ path) = instance ++ dot ∷ prefix_of path

-- the full name of a port where full names begin with the prefix
abbrev pub port_text : List Text → Text → CalPort → Text
port_text names prefix p = prefix ++ port_at [] (option_map (text_of names) p.cell) (text_of names p.port)

-- for each name the first component that has it
pub record HasComps (design : CalDesign) (comps : Comps) : Type 0 where
  pub sized : length comps.by_name.items ≡ length design.names
  pub first : (name : NameId) → name.0 < length design.names
      → option_map (λ c. component_tree design.names c.now) (slice_index_or comps.by_name.items name.0 None)
      ≡ component_named (design_of design) (text_of design.names name)
  pub numbers : All (λ found. IfSome found (λ c. ComponentHasNumbers design.names c.now)) comps.by_name.items

-- an instance as code has it: what full names in it begin with, and its component
abbrev pub Scope : Type 0
Scope = Text × Component

abbrev pub scope_of : listing.Instance → Scope
scope_of i = (prefix_of i.0, i.1)

abbrev pub scope_in : List Text → Instance → Scope
scope_in names i = (i.prefix.items, component_tree names i.comp.now)

abbrev pub InstanceHasNumbers : List Text → Instance → Type 0
InstanceHasNumbers names i = ComponentHasNumbers names i.comp.now

-- the instances are these, with numbers that have texts
pub record AreInstances (names : List Text) (listed : List listing.Instance) (instances : List Instance) : Type 0 where
  pub numbers : All (InstanceHasNumbers names) instances
  pub scopes : map (scope_in names) instances ≡ map scope_of listed
