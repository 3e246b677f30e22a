-- What gives each port of a netlist its value: one thing alone.
use Rattle.std.proofs.Common.{◌≡◌, ◌⊎◌, inl, inr, ℕ, zero, suc, ◌+◌, List, [], ◌∷◌, ◌++◌, length, Bool, true, false, Option, Some, None, refl, sym, ap, ◌∙◌, arith, subst}
use Rattle.std.specs.Prelude.{Contains, bytes_eq, is_some, map, slice_get}
use Rattle.std.specs.List.{flat_map}
use Rattle.std.proofs.lemmas.Option.{same_Some}
use Rattle.std.proofs.lemmas.Slice.Eq.{bytes_eq-Decides}
use Rattle.hw_graph.proofs.MemberLemmas.{In, in_at, at_of, contains_of, in_append, in_map, from_map, from_flat_map}
use Rattle.hw_names.specs.Name.{Text, dotted}
use Rattle.hw_prims.proofs.PortNameLemmas.{prim_of-made}
use Rattle.hw_prims.specs.Table.{Pin, prim_of, inputs_of, outputs_of, pin_names}
use Rattle.hw_prims.specs.declared.prim.Primitive.{Primitive}
use Rattle.hw_prims.specs.declared.prim.Primitive.TheVariants.{StdWire}
use Rattle.net_core.proofs.ValidLemmas.{port_names_are_distinct}
use Rattle.net_core.specs.Circuit.{Drive}
use Rattle.net_core.specs.NetRun.{net_circuit, net_drive, IsNetCell, IsWritable}
use Rattle.net_core.specs.Netlist.{Netlist, CellLine}
use Rattle.net_core.specs.Rules.{PortLine, ports_of, own_port, cell_input, cell_output, IsValid}
use Rattle.net_sim.proofs.LayoutLemmas.{ports_of-parts, ports_of_prim}
use Rattle.net_sim.proofs.PlaceLemmas.{in_place, writable_place, output_place}
use Rattle.net_sim.proofs.RowLemmas.{once_from_distinct}
use Rattle.net_sim.proofs.ValidLemmas.{cell_has_prim}
use Rattle.net_sim.specs.Compiled.{givers_of}
use Rattle.net_sim.specs.Layout.{port_names, ports_of_cell, first_port, AreCellPorts}
use Rattle.net_sim.specs.declared.cells.CellPorts.{CellPorts}
use Rattle.net_sim.specs.declared.plan.Giver.{Giver}
use Rattle.net_sim.specs.declared.plan.Giver.TheVariants.{Input, Output, Driven}
use Rattle.net_runs.proofs.OrderlyLemmas.{Role, Given, Computed, Alike}
use Rattle.net_runs.proofs.OrderlyLemmas as role

-- ---- the cells, each with its primitive and the number of its first port

some_prim : Option Primitive → Primitive
some_prim (Some prim) = prim
some_prim None = StdWire 1

some_prim-is : (o : Option Primitive) → is_some o ≡ true → o ≡ Some (some_prim o)
unfolding some_prim
some_prim-is (Some prim) e = refl
some_prim-is None e = cc

listed_from : Netlist → ℕ → List CellLine → List CellPorts
listed_from n k [] = []
listed_from n k (c ∷ cells) = record { prim = some_prim (prim_of c.prim c.params); first = first_port n k } ∷ listed_from n (suc k) cells

length-listed_from : (n : Netlist) (k : ℕ) (cells : List CellLine) → length (listed_from n k cells) ≡ length cells
unfolding listed_from
length-listed_from n k [] = refl
length-listed_from n k (c ∷ cells) = ap suc (length-listed_from n (suc k) cells)

listed_at : (n : Netlist) (k : ℕ) (cells : List CellLine) (j : ℕ) (c : CellLine) (ports : CellPorts) → slice_get cells j ≡ Some c → slice_get (listed_from n k cells) j ≡ Some ports
    → (ports.prim ≡ some_prim (prim_of c.prim c.params)) × (ports.first ≡ first_port n (k + j))
unfolding listed_from
listed_at n k [] j c ports at is = cc
listed_at n k (d ∷ cells) zero c ports at is =
    let same : d ≡ c = cc in
    (ap (λ (p : CellPorts). p.prim) (sym (same_Some _ ports is)) ∙ ap (λ (x : CellLine). some_prim (prim_of x.prim x.params)) same, ap (λ (p : CellPorts). p.first) (sym (same_Some _ ports is)) ∙ ap (first_port n) (let e : k ≡ k + 0 = omega arith in e))
listed_at n k (d ∷ cells) (suc j) c ports at is =
    let r = listed_at n (suc k) cells j c ports at is in
    (r.0, r.1 ∙ ap (first_port n) (let e : suc k + j ≡ k + suc j = omega arith in e))

module _ (n : Netlist) (valid : IsValid n) where
  cells : List CellPorts
  cells = listed_from n 0 n.cells

  made : (k : ℕ) (c : CellLine) → slice_get n.cells k ≡ Some c → prim_of c.prim c.params ≡ Some (some_prim (prim_of c.prim c.params))
  made k c at = some_prim-is (prim_of c.prim c.params) (cell_has_prim n valid k c at)

  listed : AreCellPorts n cells
  unfolding cells
  listed = record {
    all = length-listed_from n 0 n.cells;
    each = λ k c ports at is.
        let r = listed_at n 0 n.cells k c ports at is in
        let prim = made k c at ∙ ap Some (sym r.0) in
        record { prim = prim; made = prim_of-made c.prim c.params ports.prim prim; first = r.1 ∙ ap (first_port n) (let e : 0 + k ≡ k = omega arith in e) };
  }

  -- ---- the roles of a name, by its number

  abbrev RoleOf : Text → Type 0
  RoleOf = Role (net_circuit n)

  -- the number of a name, and what gives it its value
  record IsGiven (name : Text) (giver : Giver) : Type 0 where
    number : ℕ
    at : slice_get (port_names n) number ≡ Some name
    given : slice_get (givers_of n cells) number ≡ Some giver

  -- what a role says of the giver
  abbrev Agrees : (name : Text) → RoleOf name → Giver → Type 0
  Agrees name (Given is) giver = giver ≡ Input
  Agrees name (role.Driven drive sink) giver = giver ≡ Driven
  Agrees name (Computed cell prim k output is at named) giver =
      (m : ℕ) × (line : CellLine) × (giver ≡ Output m k) × (slice_get n.cells m ≡ Some line) × (line.name ≡ cell) × (prim_of line.prim line.params ≡ Some prim)

  giver_of : (name : Text) (r : RoleOf name) → (giver : Giver) × IsGiven name giver × Agrees name r giver
  giver_of name (Given is) = let place = in_place n cells listed name is in (Input, record { number = place.number; at = place.at; given = place.given }, refl)
  giver_of name (role.Driven drive sink) = let place = writable_place n cells listed name sink.0 in (Driven, record { number = place.number; at = place.at; given = place.given }, refl)
  giver_of name (Computed cell prim k output is at named) =
      let place = output_place n cells listed cell prim k output is at in
      let c = place.listed_as in (
        Output c.index k,
        record { number = place.number; at = place.at ∙ ap Some named; given = place.given },
        (c.index, c.line, refl, c.at_line, c.named, c.made_of),
      )

  one_giver : (name : Text) (g h : Giver) → IsGiven name g → IsGiven name h → g ≡ h
  one_giver name g h is is' =
      let same = once_from_distinct (port_names n) (port_names_are_distinct n valid) is.number is'.number name is.at is'.at in
      same_Some g h (sym is.given ∙ ap (slice_get (givers_of n cells)) same ∙ is'.given)

  same_output : (m j m' j' : ℕ) → Output m j ≡ Output m' j' → (m ≡ m') × (j ≡ j')
  same_output m j m' j' e = (cc, cc)

  agree : (name : Text) (r r' : RoleOf name) (g : Giver) → Agrees name r g → Agrees name r' g → Alike (net_circuit n) name r r'
  agree name (Given is) (Given is') g e e' = tt
  agree name (role.Driven drive sink) (role.Driven drive' sink') g e e' = λ t row. ap (λ (d : Drive). d t row) (sink.1 ∙ sym sink'.1)
  agree name (Computed cell prim k output is at named) (Computed cell' prim' k' output' is' at' named') g e e' =
      let same = same_output e.0 k e'.0 k' (sym e.2 ∙ e'.2) in
      let line : e.1 ≡ e'.1 = same_Some e.1 e'.1 (sym e.3 ∙ ap (slice_get n.cells) same.0 ∙ e'.3) in (
        sym e.4 ∙ ap (λ (c : CellLine). c.name) line ∙ e'.4,
        same_Some prim prim' (sym e.5 ∙ ap (λ (c : CellLine). prim_of c.prim c.params) line ∙ e'.5),
        same.1,
      )
  agree name (Given is) (role.Driven drive' sink') g e e' = let bad : Input ≡ Driven = sym e ∙ e' in cc
  agree name (Given is) (Computed cell' prim' k' output' is' at' named') g e e' = let bad : Input ≡ Output e'.0 k' = sym e ∙ e'.2 in cc
  agree name (role.Driven drive sink) (Given is') g e e' = let bad : Driven ≡ Input = sym e ∙ e' in cc
  agree name (role.Driven drive sink) (Computed cell' prim' k' output' is' at' named') g e e' = let bad : Driven ≡ Output e'.0 k' = sym e ∙ e'.2 in cc
  agree name (Computed cell prim k output is at named) (Given is') g e e' = let bad : Output e.0 k ≡ Input = sym e.2 ∙ e' in cc
  agree name (Computed cell prim k output is at named) (role.Driven drive' sink') g e e' = let bad : Output e.0 k ≡ Driven = sym e.2 ∙ e' in cc

  pub one_role : (name : Text) (r r' : RoleOf name) → Alike (net_circuit n) name r r'
  one_role name r r' =
      let g = giver_of name r in
      let h = giver_of name r' in
      agree name r r' g.0 g.2 (subst (λ (x : Giver). Agrees name r' x) (one_giver name h.0 g.0 h.1 g.1) h.2)

  -- a name with a role is a port's
  pub role_listed : (name : Text) → RoleOf name → In (port_names n) name
  role_listed name r = let g = giver_of name r in in_at (port_names n) g.1.number name g.1.at

  -- ---- each port has a role

  pin_in : (pins : List Pin) (p : Pin) → In pins p → Contains (map (λ (q : Pin). q.name) pins) p.name
  pin_in pins p has = contains_of (map (λ (q : Pin). q.name) pins) p.name (in_map (λ (q : Pin). q.name) pins p has)

  written : (name : Text) → IsWritable n name → RoleOf name
  written name is = role.Driven (net_drive n name) (is, refl)

  role_along : (a b : Text) → a ≡ b → RoleOf a → RoleOf b
  role_along a b e r = subst (λ (x : Text). RoleOf x) e r

  cell_role : (c : CellLine) → In n.cells c → (p : PortLine) → In (ports_of_cell c) p → RoleOf p.name
  cell_role c has p within =
      let k = at_of n.cells c has in
      let prim : Primitive = some_prim (prim_of c.prim c.params) in
      let is_made = made k.0 c k.1 in
      let is : IsNetCell n c.name prim = (k.0, c, k.1, refl, is_made) in
      elim (in_append (map (cell_input c.name) (inputs_of prim)) (map (cell_output c.name) (outputs_of prim)) p (subst (λ (l : List PortLine). In l p) (ports_of_prim c prim is_made) within)) [
        | inl input ↦
            let r = from_map (cell_input c.name) (inputs_of prim) p input in
            role_along (dotted c.name r.0.name) p.name (ap (λ (q : PortLine). q.name) r.2) (written (dotted c.name r.0.name) (inr (inr (c.name, prim, is, r.0.name, pin_in (inputs_of prim) r.0 r.1, refl))))
        | inr output ↦
            let r = from_map (cell_output c.name) (outputs_of prim) p output in
            let at = at_of (pin_names (outputs_of prim)) r.0.name (in_map (λ (q : Pin). q.name) (outputs_of prim) r.0 r.1) in
            role_along (dotted c.name r.0.name) p.name (ap (λ (q : PortLine). q.name) r.2) (Computed c.name prim at.0 r.0.name is at.1 refl)
      ]

  port_role : (p : PortLine) → In (ports_of n) p → RoleOf p.name
  port_role p has = elim (in_append (map (own_port true false) n.ins ++ map (own_port false true) n.outs ++ map (own_port true true) n.wires) (flat_map ports_of_cell n.cells) p (subst (λ (l : List PortLine). In l p) (ports_of-parts n) has)) [
    | inr there ↦ let r = from_flat_map ports_of_cell n.cells p there in cell_role r.0 r.1 p r.2
    | inl own ↦ elim (in_append (map (own_port true false) n.ins ++ map (own_port false true) n.outs) (map (own_port true true) n.wires) p own) [
      | inr wire ↦
          let r = from_map (own_port true true) n.wires p wire in
          role_along r.0.name p.name (ap (λ (q : PortLine). q.name) r.2) (written r.0.name (inr (inl (pin_in n.wires r.0 r.1))))
      | inl others ↦ elim (in_append (map (own_port true false) n.ins) (map (own_port false true) n.outs) p others) [
        | inl input ↦
            let r = from_map (own_port true false) n.ins p input in
            role_along r.0.name p.name (ap (λ (q : PortLine). q.name) r.2) (Given (pin_in n.ins r.0 r.1))
        | inr out ↦
            let r = from_map (own_port false true) n.outs p out in
            role_along r.0.name p.name (ap (λ (q : PortLine). q.name) r.2) (written r.0.name (inl (pin_in n.outs r.0 r.1)))
      ]
    ]
  ]

  is_there : (xs : List Text) (x : Text) → In xs x ⊎ (In xs x → ⊥)
  is_there [] x = inr (λ none. none)
  is_there (y ∷ xs) x = by (bytes_eq y x) refl (is_there xs x)
    where
      by : (b : Bool) → bytes_eq y x ≡ b → In xs x ⊎ (In xs x → ⊥) → In (y ∷ xs) x ⊎ (In (y ∷ xs) x → ⊥)
      by true e later = inl (inl ((bytes_eq-Decides y x).0 e))
      by false e (inl there) = inl (inr there)
      by false e (inr none) = inr (λ has. elim has [
        | inl same ↦ let is = (bytes_eq-Decides y x).1 same in let bad : true ≡ false = sym is ∙ e in cc
        | inr later ↦ none later
      ])

  -- a name has a role or none
  pub decide_role : (name : Text) → RoleOf name ⊎ (RoleOf name → ⊥)
  decide_role name = elim (is_there (port_names n) name) [
    | inl has ↦ let p = from_map (λ (q : PortLine). q.name) (ports_of n) name has in inl (role_along p.0.name name p.2 (port_role p.0 p.1))
    | inr none ↦ inr (λ r. none (role_listed name r))
  ]
