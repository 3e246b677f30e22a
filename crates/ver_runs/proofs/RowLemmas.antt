-- What the first assignments give is the row of a netlist that has no Conflict, port by port: each port follows from those that it reads, and none reads itself.
use Rattle.std.proofs.Common.{◌≡◌, ◌≢◌, ℕ, zero, suc, ◌≤◌, List, [], ◌∷◌, ◌++◌, length, map, flat_map, true, false, Option, None, Some, inl, inr, refl, sym, ap, ◌∙◌, subst, arith}
use Rattle.std.specs.Prelude.{Contains, is_some}
use Rattle.hw_graph.proofs.MemberLemmas.{In, in_append, in_at, in_map, in_of, at_of, contains_of, from_flat_map, from_map}
use Rattle.hw_names.specs.Name.{Text, dotted}
use Rattle.hw_prims.proofs.PrimLemmas.{output_agrees}
use Rattle.hw_prims.specs.Row.{Row}
use Rattle.hw_prims.specs.State.{State}
use Rattle.hw_prims.specs.Table.{Pin, prim_of, inputs_of, outputs_of, pin_names}
use Rattle.hw_prims.specs.declared.prim.Primitive.{Primitive}
use Rattle.net_core.specs.Circuit.{HasConflict, IsRow, settled}
use Rattle.net_core.specs.Graph.{HasNoLoop, ReadsPort, ByAssignment, ByCell, set_ports}
use Rattle.net_core.specs.NetRun.{HasPin, IsNetCell, IsWritable, net_circuit, net_drive, values_for}
use Rattle.net_core.specs.Netlist.{Netlist, CellLine}
use Rattle.net_core.specs.Rules.{PortLine, IsValid, cell_input, cell_output, own_port, ports_of}
use Rattle.net_runs.proofs.LoopLemmas.{never_reaches_itself}
use Rattle.net_runs.proofs.SettlingLemmas.{Reaches, AtOnce, Over}
use Rattle.net_sim.proofs.AgreeLemmas.{drivers_agree}
use Rattle.net_sim.proofs.LayoutLemmas.{ports_of-parts, ports_of_prim}
use Rattle.net_sim.proofs.NoLoopLemmas.{read_number}
use Rattle.net_sim.proofs.ValidLemmas.{cell_has_prim}
use Rattle.net_sim.specs.Layout.{ports_of_cell}
use Rattle.ver_runs.specs.Rows.{FirstRowsAreRows, IsFirstRow, first_of}

-- the first of the values is the one that drives, where no two do
first_settled : (vs : List ℕ) → (2 ≤ length vs → ⊥) → first_of vs ≡ settled vs
first_settled [] alone = refl
first_settled (v ∷ []) alone = refl
first_settled (v ∷ w ∷ vs) alone = absurd (alone (omega arith))

-- the other texts of a list, where one of them is taken away
record IsWithout (xs rest : List Text) (x : Text) : Type 0 where
  shorter : length xs ≡ suc (length rest)
  others : (y : Text) → In xs y → y ≢ x → In rest y

without : (xs : List Text) (x : Text) → In xs x → (rest : List Text) × IsWithout xs rest x
without [] x has = absurd has
without (z ∷ xs) x (inl same) = (xs, record { shorter = refl; others = λ y there other. elim there [ inl here ↦ absurd (other (sym here ∙ same)) | inr later ↦ later ] })
without (z ∷ xs) x (inr has) =
    let r = without xs x has in
    (z ∷ r.0, record { shorter = ap suc r.1.shorter; others = λ y there other. elim there [ inl here ↦ inl here | inr later ↦ inr (r.1.others y later other) ] })

-- ---- what a port is

data Role (n : Netlist) (name : Text) : Type 0 where
  Given : HasPin n.ins name → Role n name
  Written : IsWritable n name → Role n name
  Computed : (cell : Text) (prim : Primitive) (output : Text) → IsNetCell n cell prim → Contains (pin_names (outputs_of prim)) output → dotted cell output ≡ name → Role n name

some_of : {X : Type 0} (o : Option X) → is_some o ≡ true → (x : X) × (o ≡ Some x)
some_of None e = absurd (cc)
some_of (Some x) e = (x, refl)

pin_in : (pins : List Pin) (p : Pin) → In pins p → Contains (map (λ (q : Pin). q.name) pins) p.name
pin_in pins p has = contains_of (map (λ (q : Pin). q.name) pins) p.name (in_map (λ (q : Pin). q.name) pins p has)

role_along : (n : Netlist) (a b : Text) → a ≡ b → Role n a → Role n b
role_along n a b e role = subst (λ (x : Text). Role n x) e role

cell_role : (n : Netlist) → IsValid n → (c : CellLine) → In n.cells c → (p : PortLine) → In (ports_of_cell c) p → Role n p.name
cell_role n valid c has p within =
    let k = at_of n.cells c has in
    let made = some_of (prim_of c.prim c.params) (cell_has_prim n valid k.0 c k.1) in
    let is : IsNetCell n c.name made.0 = (k.0, c, k.1, refl, made.1) in
    elim (in_append (map (cell_input c.name) (inputs_of made.0)) (map (cell_output c.name) (outputs_of made.0)) p (subst (λ l. In l p) (ports_of_prim c made.0 made.1) within)) [
      | inl input ↦
          let r = from_map (cell_input c.name) (inputs_of made.0) p input in
          role_along n (dotted c.name r.0.name) p.name (ap (λ (q : PortLine). q.name) r.2) (Written (inr (inr (c.name, made.0, is, r.0.name, pin_in (inputs_of made.0) r.0 r.1, refl))))
      | inr output ↦
          let r = from_map (cell_output c.name) (outputs_of made.0) p output in
          role_along n (dotted c.name r.0.name) p.name (ap (λ (q : PortLine). q.name) r.2) (Computed c.name made.0 r.0.name is (pin_in (outputs_of made.0) r.0 r.1) refl)
    ]

role_of : (n : Netlist) → IsValid n → (p : PortLine) → In (ports_of n) p → Role n p.name
role_of n valid p has = elim (in_append (map (own_port true false) n.ins ++ map (own_port false true) n.outs ++ map (own_port true true) n.wires) (flat_map ports_of_cell n.cells) p (subst (λ l. In l p) (ports_of-parts n) has)) [
  | inr there ↦ let r = from_flat_map ports_of_cell n.cells p there in cell_role n valid r.0 r.1 p r.2
  | inl own ↦ elim (in_append (map (own_port true false) n.ins ++ map (own_port false true) n.outs) (map (own_port true true) n.wires) p own) [
    | inr wire ↦
        let r = from_map (own_port true true) n.wires p wire in
        role_along n r.0.name p.name (ap (λ (q : PortLine). q.name) r.2) (Written (inr (inl (pin_in n.wires r.0 r.1))))
    | inl others ↦ elim (in_append (map (own_port true false) n.ins) (map (own_port false true) n.outs) p others) [
      | inl input ↦
          let r = from_map (own_port true false) n.ins p input in
          role_along n r.0.name p.name (ap (λ (q : PortLine). q.name) r.2) (Given (pin_in n.ins r.0 r.1))
      | inr out ↦
          let r = from_map (own_port false true) n.outs p out in
          role_along n r.0.name p.name (ap (λ (q : PortLine). q.name) r.2) (Written (inl (pin_in n.outs r.0 r.1)))
    ]
  ]
]

module _ (n : Netlist) (valid : IsValid n) (no_loop : HasNoLoop n) (t : ℕ) (inputs : Row) (states : Text → Primitive → State) (first row : Row)
    (shows : IsFirstRow n inputs states first) (is_row : IsRow (net_circuit n) t inputs states row) (quiet : (port : Text) → HasConflict (net_circuit n) t row port → ⊥) where
  -- a port agrees where those that it reads do
  by_role : (x : Text) → ((y : Text) → ReadsPort n x y → first y ≡ row y) → Role n x → first x ≡ row x
  by_role x agree (Given is) = shows.given x is ∙ sym (is_row.given x is)
  by_role x agree (Written is) =
      let alike = drivers_agree first row x n.sets (λ k a at dst p has. agree p (ByAssignment k a at dst (contains_of (set_ports a) p has))) in
      let alone : 2 ≤ length (values_for x row n.sets) → ⊥ = λ clash. quiet x (record { drive = net_drive n x; sink = (is, refl); clash = clash }) in
      shows.driven x is ∙ ap first_of alike ∙ first_settled (values_for x row n.sets) alone ∙ sym (is_row.driven x (net_drive n x) (is, refl))
  by_role x agree (Computed cell prim output is has same) =
      let alike = output_agrees prim (states cell prim) first row (dotted cell) (shows.computed cell prim is) (is_row.computed cell prim is) output has
      (λ input of through. agree (dotted cell input) (ByCell cell prim input output is of has through same refl)) in
      subst (λ (y : Text). first y ≡ row y) same alike

  -- a port that is read is a port
  role_read : (x y : Text) → ReadsPort n x y → Role n y
  role_read x y reads =
      let m = read_number n valid x y reads in
      role_along n m.1.0.name y m.1.2 (role_of n valid m.1.0 (in_at (ports_of n) m.0 m.1.0 m.1.1))

  read_named : (x y : Text) → ReadsPort n x y → In (map (λ (p : PortLine). p.name) (ports_of n)) y
  read_named x y reads =
      let m = read_number n valid x y reads in
      subst (λ (name : Text). In (map (λ (p : PortLine). p.name) (ports_of n)) name) m.1.2
      (in_map (λ (p : PortLine). p.name) (ports_of n) m.1.0 (in_at (ports_of n) m.0 m.1.0 m.1.1))

  reached_named : (x y : Text) → Reaches (ReadsPort n) x y → In (map (λ (p : PortLine). p.name) (ports_of n)) y
  reached_named x y (AtOnce p q reads) = read_named p q reads
  reached_named x y (Over p between q reads rest) = reached_named between q rest

  -- a port agrees that reaches no more names than these
  agree_within : (k : ℕ) (names : List Text) → length names ≤ k → (x : Text) → Role n x → ((y : Text) → Reaches (ReadsPort n) x y → In names y) → first x ≡ row x
  agree_within zero [] few x role within = by_role x (λ y reads. absurd (within y (AtOnce x y reads))) role
  agree_within zero (z ∷ names) few x role within = absurd (omega (arith, few))
  agree_within (suc k) names few x role within = by_role x (λ y reads.
      let r = without names y (within y (AtOnce x y reads)) in
      agree_within k r.0 (omega (arith, few, r.1.shorter)) y (role_read x y reads)
      (λ z more. r.1.others z (within z (Over x y z reads more)) (λ same. never_reaches_itself n no_loop y (subst (λ (w : Text). Reaches (ReadsPort n) y w) same more)))) role

  agree : (p : PortLine) → In (ports_of n) p → first p.name ≡ row p.name
  agree p has =
      agree_within (length (map (λ (q : PortLine). q.name) (ports_of n))) (map (λ (q : PortLine). q.name) (ports_of n)) (omega arith) p.name (role_of n valid p has) (λ y reaches. reached_named p.name y reaches)

pub first_rows_are_rows : FirstRowsAreRows
first_rows_are_rows n valid no_loop t inputs states first row shows is_row quiet p has = agree n valid no_loop t inputs states first row shows is_row quiet p (in_of (ports_of n) p has)
