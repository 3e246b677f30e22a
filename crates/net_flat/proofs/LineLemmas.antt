-- Ports, cells and assignments of an instance with full names.
use Rattle.std.proofs.Common.{◌≡◌, ◌<◌, Bool, false, ◌&&◌, ◌==◌, List, [], ◌∷◌, ◌++◌, length, slice_get, Option, Some, None, option_map, refl, sym, ap, ap₂, ◌∙◌, arith}
use Rattle.std.proofs.lemmas.List.{length-append}
use Rattle.std.proofs.lemmas.Bool.Decides.{nat_tests}
use Rattle.hw_names.specs.Name.{Text, Path, dot, full_name, text_of}
use Rattle.hw_names.specs.declared.names.NameId.{NameId}
use Rattle.hw_prims.specs.Table.{is_memory}
use Rattle.cal_ast.specs.Instances.{port_name}
use Rattle.cal_ast.specs.Tree.{port_tree, pin_tree, cell_tree, assignment_tree}
use Rattle.cal_ast.specs.declared.tree.Assign.{Assign}
use Rattle.cal_ast.specs.declared.tree.CalCell.{CalCell}
use Rattle.cal_ast.specs.declared.tree.CalPin.{CalPin}
use Rattle.cal_ast.specs.declared.tree.CalPort.{CalPort}
use Rattle.net_core.specs.Guard.{Reads, Compares, Negates, AllOf, AnyOf, MoreGuards, guard_tree, guard_trees, guard_option, source_tree}
use Rattle.net_core.specs.Netlist.{pin_of, cell_of}
use Rattle.net_core.specs.Numbers.{PortHasNumbers, CellHasNumbers}
use Rattle.net_core.specs.declared.net.Guard.{Guard, Row_of-Guard, end_of-Guard, more_of-Guard}
use Rattle.net_core.specs.declared.net.Guard as code
use Rattle.net_core.specs.declared.net.NetAssign.{NetAssign}
use Rattle.net_core.specs.declared.net.NetCell.{NetCell}
use Rattle.net_core.specs.declared.net.Src.{Src}
use Rattle.net_core.specs.declared.net.Src.TheVariants.{Port, Lit}
use Rattle.cal_ast.specs.Keeping.{flat_cell, is_top}
use Rattle.net_flat.specs.Listing.{flat_pin, flat_set, map_guard, map_guards}
use Rattle.net_flat.specs.inside.Placed.{port_text, prefix_of}
use Rattle.net_flat.specs.inside.StandFor.{StandsFor, IsSet, IsSource, IsWhen}
use Rattle.net_flat.proofs.TextLemmas.{full_name-prefix, number_stands, port_name-prefix}

-- a port with a full name
pub pin_stands : (names source : List Text) (prefix : Text) (path : Path) (p : CalPin) (id : NameId) → prefix ≡ prefix_of path → slice_get names id.0 ≡ Some (prefix ++ text_of source p.name)
    → StandsFor PortHasNumbers pin_of names (flat_pin path (pin_tree source p)) (record { name = id; width = p.width })
pin_stands names source prefix path p id at found =
    let named = number_stands names id (prefix ++ text_of source p.name) found in
    record {
      numbers = named.numbers;
      tree = ap (λ text. record { name = text; width = p.width }) (named.tree ∙ ap (λ (before : Text). before ++ text_of source p.name) at ∙ sym (full_name-prefix path (text_of source p.name)));
    }

-- no prefix stands for the top
pub is_top-prefix : (path : Path) → is_top path ≡ (length (prefix_of path) == 0)
is_top-prefix [] = refl
is_top-prefix (name ∷ path) =
    sym (not_none (name ++ dot ∷ prefix_of path) (omega (arith, length-append name (dot ∷ prefix_of path))))
  where
    not_none : (text : Text) → 0 < length text → (length text == 0) ≡ false
    not_none text some = grind (arith, nat_tests)

-- a guard's ports seen by two functions in turn
module _ {P Q R : Type 0} (f : Q → R) (g : P → Q) (h : P → R) (same : (p : P) → f (g p) ≡ h p) where
  pub source_then : (s : Src P) → source_tree f (source_tree g s) ≡ source_tree h s
  source_then (Port p) = ap Port (same p)
  source_then (Lit width value) = refl

  mutual
    pub guard_then : (x : Guard P) → map_guard f (guard_tree g x) ≡ guard_tree h x
    guard_then (code.Read s) = ap Reads (source_then s.value)
    guard_then (code.Test op a b) = ap₂ (Compares op) (source_then a.value) (source_then b.value)
    guard_then (code.Not' p x) = ap Negates (guard_then x)
    guard_then (code.All' shape xs) = ap AllOf (guards_then xs)
    guard_then (code.Any' shape xs) = ap AnyOf (guards_then xs)

    guards_then : {m : _} (xs : Row_of-Guard P m) → map_guards f (guard_trees g xs) ≡ guard_trees h xs
    guards_then end_of-Guard = refl
    guards_then (more_of-Guard x xs) = ap₂ MoreGuards (guard_then x) (guards_then xs)

  pub when_then : (x : Option (Guard P)) → option_map (map_guard f) (guard_option g x) ≡ guard_option h x
  when_then None = refl
  when_then (Some x) = ap Some (guard_then x)

-- an assignment with full names
pub set_stands : (names source : List Text) (prefix : Text) (path : Path) (a : Assign) (b : NetAssign) → prefix ≡ prefix_of path
    → slice_get names b.dst.0 ≡ Some (port_text source prefix a.dst)
    → IsWhen names (guard_option (port_text source prefix) a.guard) b.guard
    → IsSource names (source_tree (port_text source prefix) a.src) b.src
    → IsSet names (flat_set path (assignment_tree source a)) b
set_stands names source prefix path a b at dst guard src =
    let named = number_stands names b.dst (port_text source prefix a.dst) dst in
    let same = λ (p : CalPort). port_name-prefix source path p ∙ ap (λ (before : Text). port_text source before p) (sym at) in
    let when = guard.tree ∙ sym (when_then (port_name path) (port_tree source) (port_text source prefix) same a.guard) in
    let from = src.tree ∙ sym (source_then (port_name path) (port_tree source) (port_text source prefix) same a.src) in
    record {
      numbers = (named.numbers, guard.numbers, src.numbers);
      tree =
          ap (λ text. record { dst = text; guard = guard_option (text_of names) b.guard; src = source_tree (text_of names) b.src }) (named.tree ∙ sym (same a.dst))
          ∙ ap₂ (λ g s. record { dst = port_name path (port_tree source a.dst); guard = g; src = s }) when from;
    }

-- a cell with a full name
pub cell_stands : (names source : List Text) (prefix : Text) (path : Path) (c : CalCell) (b : NetCell) → prefix ≡ prefix_of path
    → slice_get names b.name.0 ≡ Some (prefix ++ text_of source c.name)
    → slice_get names b.prim.0 ≡ Some (text_of source c.made)
    → b.params.items ≡ c.params.items
    → b.shown ≡ ((length prefix == 0) && c.external && is_memory (text_of source c.made))
    → StandsFor CellHasNumbers cell_of names (flat_cell path (cell_tree source c)) b
cell_stands names source prefix path c b at name prim params shown =
    let named = number_stands names b.name (prefix ++ text_of source c.name) name in
    let made = number_stands names b.prim (text_of source c.made) prim in
    let full = named.tree ∙ ap (λ (before : Text). before ++ text_of source c.name) at ∙ sym (full_name-prefix path (text_of source c.name)) in
    let by_top = shown ∙ ap (λ (b : Bool). b && c.external && is_memory (text_of source c.made)) (ap (λ (before : Text). length before == 0) at ∙ sym (is_top-prefix path)) in
    record {
      numbers = (named.numbers, made.numbers);
      tree =
          ap₂ (λ text t. record { name = text; prim = t; params = b.params.items; shown = b.shown }) full made.tree
          ∙ ap₂ (λ ps s. record { name = full_name path (text_of source c.name); prim = text_of source c.made; params = ps; shown = s }) params by_top;
    }
