-- What is read over instances below a component, seen from the component: each way down into a cell and out again is one read of the cell's output.
use Rattle.std.proofs.Common.{◌≡◌, ◌⊎◌, inl, inr, [], ◌∷◌, ◌++◌, Contains, Option, Some, None, option_and_then, refl, sym, ap, ap₂, subst, subst₂, ◌∙◌}
use Rattle.std.proofs.lemmas.Option.{same_Some}
use Rattle.hw_names.specs.Name.{Text, Path}
use Rattle.hw_prims.specs.Table.{pin_names}
use Rattle.cal_ast.proofs.InstanceLemmas.{component_at-below}
use Rattle.cal_ast.specs.Instances.{component_at}
use Rattle.cal_ast.specs.Ports.{inputs_in, outputs_in, part_in}
use Rattle.cal_ast.specs.Tree.{PortName, own, port_of, Component, Design}
use Rattle.cal_ast.specs.Wires.{ReadsPort, ByComponent, Reaches, Straight, Over}

-- the path of the component whose own port this is, and the port's name there: a port of a cell is the own port of what the cell is made of
abbrev pub Place : Type 0
Place = Path × Text

abbrev pub owner : Path → Option Text → Path
owner path None = path
owner path (Some cell) = path ++ cell ∷ []

abbrev pub place : Path → PortName → Place
place path port = (owner path port.cell, port.pin)

-- an own port that is read is an input of the component, and one that reads is an output
abbrev pub IsTaken : Component → PortName → Type 0
IsTaken c port = port.cell ≡ None → Contains (pin_names (inputs_in c)) port.pin

abbrev pub IsGiven : Component → PortName → Type 0
IsGiven c port = port.cell ≡ None → Contains (pin_names (outputs_in c)) port.pin

-- the port is the other, or reaches it
abbrev pub Onward : Design → Component → PortName → PortName → Type 0
Onward design c port other = (port ≡ other) ⊎ Reaches design c port other

-- a port of the instance at the path comes to a port of the component: it comes to an input of its instance, that to one of the instance above, and so on
abbrev pub Climbs : Design → Component → Path → PortName → PortName → Type 0
Climbs design c [] port other = Onward design c port other
Climbs design c (cell ∷ path) port other =
    (part : Component) × (part_in design c cell ≡ Some part) × (input : Text) × Contains (pin_names (inputs_in part)) input × Climbs design part path port (own input) × Onward design c (port_of cell input) other

-- a path that goes on by a cell is not empty
no_last : (path : Path) (cell : Text) → [] ≡ path ++ cell ∷ [] → ⊥
no_last [] cell e = cc
no_last (s ∷ path) cell e = cc

-- paths that go on by a cell are equal only where both parts are
pub last_same : (p q : Path) (x y : Text) → p ++ x ∷ [] ≡ q ++ y ∷ [] → (p ≡ q) × (x ≡ y)
last_same [] [] x y e = (refl, cc)
last_same [] (s ∷ q) x y e = let tails : [] ≡ q ++ y ∷ [] = cc in absurd (no_last q y tails)
last_same (s ∷ p) [] x y e = let tails : [] ≡ p ++ x ∷ [] = cc in absurd (no_last p x tails)
last_same (s ∷ p) (r ∷ q) x y e =
    let heads : s ≡ r = cc in
    let tails : p ++ x ∷ [] ≡ q ++ y ∷ [] = cc in
    let rest = last_same p q x y tails in
    (ap₂ ◌∷◌ heads rest.0, rest.1)

module _ (design : Design) where
  -- one read more
  pub reach_more : (c : Component) (port between other : PortName) → ReadsPort design c port between → Onward design c between other → Reaches design c port other
  reach_more c port between other reads (inl same) = Straight c port other (subst (ReadsPort design c port) same reads)
  reach_more c port between other reads (inr rest) = Over c port between other reads rest

  -- one read more, within the instance
  pub climb_more : (c last : Component) (path : Path) → component_at design c path ≡ Some last → (port between other : PortName) → ReadsPort design last port between → Climbs design c path between other → Climbs design c path port other
  climb_more c last [] at port between other reads on =
      inr (reach_more c port between other (subst (λ d. ReadsPort design d port between) (sym (same_Some c last at)) reads) on)
  climb_more c last (cell ∷ path) at port between other reads (part, is, input, has, below, on) =
      let there = sym (ap (option_and_then (λ x. component_at design x path)) is) ∙ at in
      (part, is, input, has, climb_more part last path there port between (own input) reads below, on)

  -- an input of a cell, as an own input of what the cell is made of
  climb_in : (c last part : Component) (path : Path) (cell input : Text) (other : PortName) → component_at design c path ≡ Some last → part_in design last cell ≡ Some part → Contains (pin_names (inputs_in part)) input
      → Climbs design c path (port_of cell input) other → Climbs design c (path ++ cell ∷ []) (own input) other
  climb_in c last part [] cell input other at is has on =
      (part, ap (λ x. part_in design x cell) (same_Some c last at) ∙ is, input, has, inl refl, on)
  climb_in c last part (s ∷ path) cell input other at is has (first, first_is, own_input, own_has, below, on) =
      let there = sym (ap (option_and_then (λ x. component_at design x path)) first_is) ∙ at in
      (first, first_is, own_input, own_has, climb_in first last part path cell input (own own_input) there is has below, on)

  -- an output of a cell, as an own output of what the cell is made of
  climb_out_top : (c part inner : Component) (cell output input : Text) (other : PortName) → part_in design c cell ≡ Some part → part_in design c cell ≡ Some inner → Contains (pin_names (outputs_in part)) output → Contains (pin_names (inputs_in inner)) input
      → Onward design inner (own output) (own input) → Onward design c (port_of cell input) other → Onward design c (port_of cell output) other
  climb_out_top c part inner cell output input other is inner_is has inner_has (inl same) on =
      subst (λ pin. Onward design c (port_of cell pin) other) (ap (λ (p : PortName). p.pin) (sym same)) on
  climb_out_top c part inner cell output input other is inner_is has inner_has (inr reaches) on =
      let there = subst (λ x. Contains (pin_names (outputs_in x)) output) (same_Some part inner (sym is ∙ inner_is)) has in
      inr (reach_more c (port_of cell output) (port_of cell input) other (ByComponent c inner (port_of cell output) (port_of cell input) output input (record { cell = cell; made = inner_is; has_output = there; has_input = inner_has; is_output = refl; is_input = refl }) reaches) on)

  climb_out : (c last part : Component) (path : Path) (cell output : Text) (other : PortName) → component_at design c path ≡ Some last → part_in design last cell ≡ Some part → Contains (pin_names (outputs_in part)) output
      → Climbs design c (path ++ cell ∷ []) (own output) other → Climbs design c path (port_of cell output) other
  climb_out c last part [] cell output other at is has (inner, inner_is, input, inner_has, below, on) =
      climb_out_top c part inner cell output input other (ap (λ x. part_in design x cell) (same_Some c last at) ∙ is) inner_is has inner_has below on
  climb_out c last part (s ∷ path) cell output other at is has (first, first_is, own_input, own_has, below, on) =
      let there = sym (ap (option_and_then (λ x. component_at design x path)) first_is) ∙ at in
      (first, first_is, own_input, own_has, climb_out first last part path cell output (own own_input) there is has below, on)

  module _ (c : Component) (path there : Path) (inner last : Component) (at : component_at design c path ≡ Some inner) (at_there : component_at design c there ≡ Some last) (other : PortName) where
    -- what is read from where a read begins is read from where the read before it ends
    seen_by : (cell cell' : Option Text) (pin pin' : Text) → (cell ≡ None → Contains (pin_names (inputs_in inner)) pin) → (cell' ≡ None → Contains (pin_names (outputs_in last)) pin') → owner path cell ≡ owner there cell' → pin ≡ pin'
        → Climbs design c there (record { cell = cell'; pin = pin' }) other → Climbs design c path (record { cell = cell; pin = pin }) other
    seen_by None None pin pin' taken given paths pins climbs =
        subst₂ (λ (way : Path) (name : Text). Climbs design c way (own name) other) (sym paths) (sym pins) climbs
    seen_by (Some cell) (Some cell') pin pin' taken given paths pins climbs =
        let same = last_same path there cell cell' paths in
        let at_pin = subst (λ name. Climbs design c there (port_of cell' name) other) (sym pins) climbs in
        subst₂ (λ (way : Path) (name : Text). Climbs design c way (port_of name pin) other) (sym same.0) (sym same.1) at_pin
    seen_by None (Some cell') pin pin' taken given paths pins climbs =
        let is = sym (component_at-below design c there last cell' at_there) ∙ ap (component_at design c) (sym paths) ∙ at in
        let at_pin = subst (λ name. Climbs design c there (port_of cell' name) other) (sym pins) climbs in
        subst (λ way. Climbs design c way (own pin) other) (sym paths) (climb_in c last inner there cell' pin other at_there is (taken refl) at_pin)
    seen_by (Some cell) None pin pin' taken given paths pins climbs =
        let is = sym (component_at-below design c path inner cell at) ∙ ap (component_at design c) paths ∙ at_there in
        let has = subst (Contains (pin_names (outputs_in last))) (sym pins) (given refl) in
        let at_pin = subst₂ (λ (way : Path) (name : Text). Climbs design c way (own name) other) (sym paths) (sym pins) climbs in
        climb_out c inner last path cell pin other at is has at_pin

    pub climb_same : (port port' : PortName) → IsTaken inner port → IsGiven last port' → place path port ≡ place there port' → Climbs design c there port' other → Climbs design c path port other
    climb_same port port' taken given same climbs =
        seen_by port.cell port'.cell port.pin port'.pin taken given (ap (λ (p : Place). p.0) same) (ap (λ (p : Place). p.1) same) climbs
