-- The ports that an assignment of a listing reads are those of the component's, with full names.
use Rattle.std.proofs.Common.{◌≡◌, ◌++◌, map, Option, Some, None, option_map, refl, sym, ap₂, ◌∙◌}
use Rattle.std.proofs.lemmas.List.{map-append}
use Rattle.hw_names.specs.Name.{Path}
use Rattle.net_core.specs.Graph as net
use Rattle.net_core.specs.Graph.{option_ports, source_ports, guard_ports, guards_ports}
use Rattle.net_core.specs.Guard.{GuardTree, GuardTrees, Reads, Compares, Negates, AllOf, AnyOf, NoGuards, MoreGuards, source_tree}
use Rattle.net_core.specs.declared.net.Src.{Src}
use Rattle.net_core.specs.declared.net.Src.TheVariants.{Port, Lit}
use Rattle.cal_ast.specs.Instances.{port_name}
use Rattle.cal_ast.specs.Tree.{Assignment}
use Rattle.cal_ast.specs.Wires.{set_ports}
use Rattle.net_flat.specs.Listing.{map_guard, map_guards, flat_set}

module _ {P Q : Type 0} (f : P → Q) where
  source_ports-map : (s : Src P) → source_ports (source_tree f s) ≡ map f (source_ports s)
  source_ports-map (Port p) = refl
  source_ports-map (Lit width value) = refl

  mutual
    guard_ports-map : (g : GuardTree P) → guard_ports (map_guard f g) ≡ map f (guard_ports g)
    guard_ports-map (Reads s) = source_ports-map s
    guard_ports-map (Compares op a b) = ap₂ ◌++◌ (source_ports-map a) (source_ports-map b) ∙ sym (map-append f (source_ports a) (source_ports b))
    guard_ports-map (Negates g) = guard_ports-map g
    guard_ports-map (AllOf gs) = guards_ports-map gs
    guard_ports-map (AnyOf gs) = guards_ports-map gs

    guards_ports-map : (gs : GuardTrees P) → guards_ports (map_guards f gs) ≡ map f (guards_ports gs)
    guards_ports-map NoGuards = refl
    guards_ports-map (MoreGuards g gs) = ap₂ ◌++◌ (guard_ports-map g) (guards_ports-map gs) ∙ sym (map-append f (guard_ports g) (guards_ports gs))

  option_ports-map : (o : Option (GuardTree P)) → option_ports (option_map (map_guard f) o) ≡ map f (option_ports o)
  option_ports-map None = refl
  option_ports-map (Some g) = guard_ports-map g

pub set_ports-flat_set : (path : Path) (a : Assignment) → net.set_ports (flat_set path a) ≡ map (port_name path) (set_ports a)
set_ports-flat_set path a =
    ap₂ ◌++◌ (option_ports-map (port_name path) a.guard) (source_ports-map (port_name path) a.src) ∙ sym (map-append (port_name path) (option_ports a.guard) (source_ports a.src))
