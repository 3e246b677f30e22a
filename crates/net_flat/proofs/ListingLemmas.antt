-- The instances that a netlist lists, and what drives a port of one of them.
use Rattle.std.proofs.Common.{◌≡◌, ◌≢◌, ℕ, zero, suc, List, [], ◌∷◌, Option, Some, refl, sym, ap, ◌∙◌, subst, inl, inr, arith}
use Rattle.std.specs.Prelude.{Contains, slice_get}
use Rattle.std.proofs.lemmas.Bool.{cases_lt}
use Rattle.std.proofs.lemmas.List.Elements.{All-contains}
use Rattle.hw_graph.proofs.MemberLemmas.{In, in_of}
use Rattle.hw_names.specs.Name.{Text, Path, port_at}
use Rattle.hw_prims.specs.Row.{Row}
use Rattle.hw_prims.specs.Table.{pin_names}
use Rattle.net_core.specs.NetRun as net
use Rattle.net_core.specs.Netlist.{Netlist}
use Rattle.cal_ast.proofs.DriveLemmas.{one_instance}
use Rattle.cal_ast.proofs.InstanceLemmas.{component_at-design}
use Rattle.net_flat.proofs.KeptLemmas.{drives_destination}
use Rattle.cal_ast.proofs.ListLemmas.{place_of, Contains-at, AllPairs-at}
use Rattle.cal_ast.proofs.SideLemmas.{destination_pin, writable_in}
use Rattle.cal_ast.specs.CalRun.{values_for}
use Rattle.cal_ast.specs.Instances.{component_at}
use Rattle.cal_ast.specs.Naming.{Unreserved}
use Rattle.cal_ast.specs.Plain.{HasPlainTree}
use Rattle.cal_ast.specs.Rules.{KeepsRules}
use Rattle.cal_ast.specs.Tree.{Assignment, Component, Design}
use Rattle.net_flat.proofs.ValueLemmas.{values_for-flat_set, values_for-none, only_in}
use Rattle.net_flat.specs.Listing.{Instance, IsListing, sets_at}

module _ (design : Design) (top : Component) (n : Netlist) (listing : IsListing design top n) where
  -- the top, and the instances below it
  abbrev pub instances : List Instance
  instances = ([], top) ∷ listing.others

  -- what is listed is an instance
  pub listed : (k : ℕ) (i : Instance) → slice_get instances k ≡ Some i → component_at design top i.0 ≡ Some i.1
  listed zero i at =
      let is : ◌≡◌ {A = Instance} ([], top) i = cc in
      subst (λ (j : Instance). component_at design top j.0 ≡ Some j.1) is refl
  listed (suc k) i at =
      All-contains (λ (j : Instance). component_at design top j.0 ≡ Some j.1) listing.others i listing.listed (Contains-at listing.others k i at)

  -- instances at different places have different paths
  pub apart : (j k : ℕ) (x y : Instance) → slice_get instances j ≡ Some x → slice_get instances k ≡ Some y → x.0 ≡ y.0 → j ≡ k
  apart j k x y at_j at_k same =
      let R = λ (a b : Instance). a.0 ≢ b.0 in
      elim (cases_lt j k) [
        | inl less ↦ absurd (AllPairs-at R instances listing.once j k x y less at_j at_k same)
        | inr ge ↦ elim (cases_lt k j) [
          | inl more ↦ absurd (AllPairs-at R instances listing.once k j y x more at_k at_j (sym same))
          | inr le ↦ omega arith
        ]
      ]

  -- an instance below the top is among the others
  pub below_top : (path : Path) (c : Component) → component_at design top path ≡ Some c → path ≢ [] → In listing.others (path, c)
  below_top path c at below = elim (in_of instances (path, c) (listing.found path c at)) [
    | inl same ↦ absurd (below (sym (ap (λ (i : Instance). i.0) same)))
    | inr there ↦ there
  ]

  -- and what is among the others is below the top
  pub not_top : (k : ℕ) (i : Instance) → slice_get listing.others k ≡ Some i → i.0 ≢ []
  not_top k i at same =
      let places : suc k ≡ 0 = apart (suc k) 0 i ([], top) at refl same in
      omega (arith, places)

  module _ (plain : HasPlainTree design) (keeps : KeepsRules design) (in_design : Contains design top) where
    -- an assignment drives a port that its component may drive
    drives_writable : (path : Path) (c : Component) (a : Assignment) → component_at design top path ≡ Some c → Contains c.sets a → Contains (pin_names (writable_in design c a.dst.cell)) a.dst.pin
    drives_writable path c a at has =
        destination_pin design c a.dst.cell a.dst.pin (drives_destination design keeps c (component_at-design design top path c in_design at) a has)

    -- in the netlist a port is driven by the assignments of its instance alone
    pub same_values : (path : Path) (c : Component) → component_at design top path ≡ Some c → (cell : Option Text) (pin : Text) → Contains (pin_names (writable_in design c cell)) pin → (port : Text) → port_at path cell pin ≡ port → (row : Row) → net.values_for port row n.sets ≡ values_for path port row c.sets
    same_values path c at cell pin has port named row =
        let place = place_of instances (path, c) (listing.found path c at) in
        let others = λ (j : ℕ) (i : Instance) (there : slice_get instances j ≡ Some i) (other : j ≡ place.0 → ⊥).
        values_for-flat_set i.0 port row i.1.sets ∙ values_for-none i.0 port row i.1.sets (λ a of same.
        other (apart j place.0 i (path, c) there place.1
        (one_instance Unreserved design top plain keeps in_design i.0 path i.1 c (listed j i there) at a.dst.cell cell a.dst.pin pin (drives_writable i.0 i.1 a (listed j i there) of) has (same ∙ sym named)))) in
        ap (net.values_for port row) listing.sets ∙ only_in port row sets_at instances place.0 (path, c) place.1 others ∙ values_for-flat_set path port row c.sets
