-- The instances of a listing: a component of the design at each path, and what its rules give.
use Rattle.std.proofs.Common.{◌≡◌, true, List, [], ◌∷◌, ◌++◌, map, Some, refl, ap₂, subst, inl, inr}
use Rattle.hw_graph.proofs.MemberLemmas.{In, in_append, from_map, in_of, contains_of}
use Rattle.hw_names.specs.Name.{Text, Path, IsPlain, IsPlainPath, AreDistinct}
use Rattle.hw_prims.specs.Table.{Pin, pin_names}
use Rattle.net_core.specs.Netlist.{Netlist}
use Rattle.cal_ast.proofs.InstanceLemmas.{component_at-design, plain_path}
use Rattle.net_flat.proofs.KeptLemmas.{new_ports}
use Rattle.cal_ast.proofs.LookupLemmas.{bare_inputs, bare_outputs}
use Rattle.cal_ast.specs.Instances.{component_at}
use Rattle.cal_ast.specs.Plain.{IsPlainPin, IsPlainCell, IsPlainComponent, HasPlainTree}
use Rattle.cal_ast.specs.Ports.{is_bare, inputs_in, outputs_in}
use Rattle.cal_ast.specs.Tree.{CellDef, Component, Design}
use Rattle.cal_ast.specs.Wired.{IsWired}
use Rattle.net_flat.specs.Listing.{Instance, IsListing}
use Rattle.net_flat.proofs.ApartLemmas.{AreApart, images_apart, apart_from_map, apart_from_pairs, same_by}
use Rattle.net_flat.proofs.ListFacts.{of_all}

-- a netlist that lists a design of wires with plain names
pub record IsWiredListing (design : Design) (top : Component) (n : Netlist) : Type 0 where
  pub plain : HasPlainTree design
  pub wired : IsWired design
  pub top_there : In design top
  pub listing : IsListing design top n

-- all instances, the top first
abbrev pub instances : {design : Design} {top : Component} {n : Netlist} → IsWiredListing design top n → List Instance
instances {top} l = ([], top) ∷ l.listing.others

module _ (design : Design) (plain : HasPlainTree design) (wired : IsWired design) (c : Component) (there : In design c) where
  bare : is_bare c ≡ true
  bare = wired.bare c (contains_of design c there)

  pub inputs_are : inputs_in c ≡ c.ins
  inputs_are = bare_inputs c bare

  pub outputs_are : outputs_in c ≡ c.outs
  outputs_are = bare_outputs c bare

  -- the names of its ports are apart, and plain
  pub pins_apart : AreApart (pin_names (c.ins ++ c.outs))
  pins_apart =
      let D : List Text → Type 0 = AreDistinct in
      apart_from_pairs (pin_names (c.ins ++ c.outs)) (subst D (ap₂ (λ ins outs. pin_names (ins ++ outs)) inputs_are outputs_are) (new_ports design wired.rules.keeps c (contains_of design c there)))

  pub pins_plain : (name : Text) → In (pin_names (c.ins ++ c.outs)) name → IsPlain name
  pins_plain name h =
      let parts = of_all IsPlainComponent design c plain there in
      let r = from_map (λ (p : Pin). p.name) (c.ins ++ c.outs) name h in
      subst IsPlain r.2 (elim (in_append c.ins c.outs r.0 r.1) [ inl input ↦ of_all IsPlainPin c.ins r.0 parts.ins input | inr output ↦ of_all IsPlainPin c.outs r.0 parts.outs output ])

  pub cell_name_plain : (cell : CellDef) → In c.cells cell → IsPlain cell.name
  cell_name_plain cell h = of_all IsPlainCell c.cells cell (of_all IsPlainComponent design c plain there).cells h

module _ (design : Design) (top : Component) (n : Netlist) (l : IsWiredListing design top n) where
  pub at_path : (i : Instance) → In (instances l) i → component_at design top i.0 ≡ Some i.1
  at_path i (inl e) = let P : Instance → Type 0 = λ j. component_at design top j.0 ≡ Some j.1 in subst P e refl
  at_path i (inr h) = of_all (λ (j : Instance). component_at design top j.0 ≡ Some j.1) l.listing.others i l.listing.listed h

  pub in_design : (i : Instance) → In (instances l) i → In design i.1
  in_design i h = in_of design i.1 (component_at-design design top i.0 i.1 (contains_of design top l.top_there) (at_path i h))

  pub plain_at : (i : Instance) → In (instances l) i → IsPlainPath i.0
  plain_at i h = plain_path design top i.0 i.1 l.plain (contains_of design top l.top_there) (at_path i h)

  pub found_instance : (path : Path) (c : Component) → component_at design top path ≡ Some c → In (instances l) (path, c)
  found_instance path c e = in_of (instances l) (path, c) (l.listing.found path c e)

  paths_apart : AreApart (map (λ (i : Instance). i.0) (instances l))
  paths_apart = images_apart (λ (i : Instance). i.0) (instances l) l.listing.once

  pub instances_apart : AreApart (instances l)
  instances_apart = apart_from_map (λ (i : Instance). i.0) (instances l) paths_apart

  -- at one path stands one instance
  pub same_path : (i j : Instance) → In (instances l) i → In (instances l) j → i.0 ≡ j.0 → i ≡ j
  same_path i j hi hj e = same_by (λ (x : Instance). x.0) (instances l) i j paths_apart hi hj e
