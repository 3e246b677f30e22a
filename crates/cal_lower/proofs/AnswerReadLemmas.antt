-- The wires of a lowered design: what a port of the source reads in it is read in the source too, at once or over the wires of pieces, and what a port of
-- a piece reads is later.
use Rattle.std.proofs.Common.{◌≡◌, ◌⊎◌, inl, inr, ℕ, ◌^◌, ◌≤◌, List, [], ◌∷◌, ◌++◌, drop, true, false, Option, Some, None, refl, sym, ap, ap₂, subst, ◌∙◌, arith}
use Rattle.std.specs.Prelude.{All, Contains, flat_map, codes, slice_get, option_map, option_and_then}
use Rattle.std.proofs.lemmas.Bool.{cases_Bool, cond-true, cond-false}
use Rattle.std.proofs.lemmas.List.Elements.{All-contains, Contains-append_left, Contains-append_right, Contains-append_cases}
use Rattle.std.proofs.lemmas.Option.{same_Some}
use Rattle.hw_names.specs.Name.{Text}
use Rattle.hw_prims.specs.Meaning.{is_through}
use Rattle.hw_prims.specs.Table.{Pin, pin_names, inputs_of, outputs_of}
use Rattle.hw_prims.specs.declared.prim.Primitive.{Primitive}
use Rattle.net_core.specs.Graph.{guard_ports, option_ports, source_ports}
use Rattle.net_core.specs.Guard.{GuardTree}
use Rattle.net_core.specs.declared.net.Src.TheVariants.{Lit}
use Rattle.cal_ast.proofs.ListLemmas.{place_of, Contains-none, Contains-cases_first, Contains-from_flat_map}
use Rattle.cal_ast.proofs.LookupLemmas.{part_in-design}
use Rattle.cal_ast.proofs.SideLemmas.{input_first}
use Rattle.cal_ast.specs.Holes.{ActivityRule, with_guard, when_of}
use Rattle.cal_ast.specs.Naming.{IsReserved}
use Rattle.cal_ast.specs.NoInvoke.{IsPlainDesign}
use Rattle.cal_ast.specs.Plain.{HasPlainTree}
use Rattle.cal_ast.specs.Plan.{plan_of}
use Rattle.cal_ast.specs.Ports.{is_bare, inputs_in, outputs_in, with_pin, cell_named, primitive_of, part_of, primitive_in, SidedPin, both_sides, port_named}
use Rattle.cal_ast.specs.Sides.{IsSource}
use Rattle.cal_ast.specs.Tree.{PortName, own, port_of, CellDef, Assignment, GroupDef, Component, Design}
use Rattle.cal_ast.specs.Wires.{IsAssignmentOf, set_ports, done_ports, ReadsByAssignment, IsAssignedIn, ReadsByDone, ReadsByGo, DependsWithinRow, ReadsByPrimitive, CrossesCell, ReadsPort, ByAssignment, ByDone, ByGo, ByPrimitive, ByComponent, Reaches}
use Rattle.cal_group.proofs.EdgeLemmas.{own_is_group}
use Rattle.cal_token.specs.inside.Tokens.{size}
use Rattle.cal_lower.specs.inside.Added.{extended}
use Rattle.cal_lower.specs.inside.Lowered.{HasFewParts, acts_guard, start_guard, control_pieces, done_set, rules_from}
use Rattle.cal_lower.specs.inside.Pieces.{Kind, Wire, Register, Piece, piece_set, enables_piece, piece_sets, token_name, ends_name, acts_name, done_name, start_name, busy_name, over_name, shown, is_set, never}
use Rattle.cal_lower.proofs.ExtendedLemmas.{HasPlace, added_cells, answer, cell_other, extended_bare, extended_inputs, extended_outputs, extended_sets, primitive_kept}
use Rattle.cal_lower.proofs.GuardedLemmas.{whole, built, origin, unruled, assigned_before, part_before}
use Rattle.cal_lower.proofs.ListLemmas.{each_at}
use Rattle.cal_lower.proofs.LoweredLemmas.{tokens, tokens_made, IsOfPiece, added_cell, piece_made, prim_for}
use Rattle.cal_lower.proofs.PinLemmas.{with_pin_has}
use Rattle.cal_lower.proofs.PlacedLemmas.{IsPlaced, AStart, ARegister, AnActs, ADone, AnEnd, acts_reads, guard_reads_all, driven_place, read_place, done_place, takes_later, shows_later, pieces_placed}
use Rattle.cal_lower.proofs.PlaceLemmas.{third}
use Rattle.cal_lower.proofs.RankLemmas.{rank, IsRegisterName, token_register, busy_register, over_register, Falls}
use Rattle.cal_lower.proofs.PieceLemmas.{pieces_reserved}
use Rattle.cal_lower.proofs.RuleLemmas.{guard_for, when_extended}
use Rattle.cal_lower.proofs.SourceLemmas.{same_group, reserved_absent}

-- ---- guards under a rule

ruled_ports : (when : GuardTree PortName) (o : Option (GuardTree PortName)) (q : PortName) → Contains (option_ports (with_guard (Some when) o)) q
    → Contains (guard_ports when) q ⊎ Contains (option_ports o) q
ruled_ports when None q has = inl has
ruled_ports when (Some g) q has = elim (Contains-append_cases (guard_ports when) (guard_ports g ++ []) q has) [
  | inl first ↦ inl first
  | inr later ↦ elim (Contains-append_cases (guard_ports g) [] q later) [
    | inl second ↦ inr second
    | inr none ↦ absurd (Contains-none q none)
  ]
]

-- ---- the primitives of pieces

abbrev pub IsWired : Kind → Text → Text → Type 0
IsWired kind output input = (kind ≡ Wire) × (output ≡ codes "out") × (input ≡ codes "in")

one_name : (name x : Text) → Contains (name ∷ []) x → x ≡ name
one_name name x has = elim (Contains-cases_first name [] x has) [ inl same ↦ sym same | inr none ↦ absurd (Contains-none x none) ]

-- a wire's output depends on its input, and a register's on none
pub wire_depends : (kind : Kind) (output input : Text) → DependsWithinRow (prim_for kind) output input → IsWired kind output input
unfolding inputs_of outputs_of is_through
wire_depends Wire output input d = (refl, one_name (codes "out") output d.is_output, one_name (codes "in") input d.is_input)
wire_depends Register output input d = let bad : false ≡ true = d.through in absurd (cc)

-- ---- assignments of a piece

abbrev pub enable_set : Text → Assignment
enable_set name = record { dst = port_of name (codes "write_en"); guard = None; src = Lit 1 1 }

enable_case : (kind : Kind) (name : Text) (a : Assignment) → Contains (enables_piece kind name) a → enable_set name ≡ a
enable_case Wire name a has = absurd (Contains-none a has)
enable_case Register name a has = elim (Contains-cases_first (enable_set name) [] a has) [ inl same ↦ same | inr none ↦ absurd (Contains-none a none) ]

pub piece_set_case : (x : Piece) (a : Assignment) → Contains (piece_sets x) a → (piece_set x ≡ a) ⊎ (enable_set x.name ≡ a)
piece_set_case x a has = elim (Contains-cases_first (piece_set x) (enables_piece x.kind x.name) a has) [
  | inl same ↦ inl same
  | inr there ↦ inr (enable_case x.kind x.name a there)
]

-- ---- what ports come to

-- a port of a piece to which a port of the source comes: by a group in which it is assigned, or one that reads nothing within a row
pub data Enters (source : Design) (c : Component) (o p : PortName) : Type 0 where
  ToActs : (g : GroupDef) (pin : Text) → Contains c.groups g → IsAssignedIn source c g o → p ≡ port_of (acts_name g.name) pin → Enters source c o p
  ToDone : (g : GroupDef) (pin : Text) → Contains c.groups g → IsAssignedIn source c g o → p ≡ port_of (done_name g.name) pin → Enters source c o p
  ToStart : (g : GroupDef) (pin : Text) → IsAssignedIn source c g o → p ≡ port_of start_name pin → Enters source c o p
  ToRegister : (name : Text) → IsRegisterName name → p ≡ shown name → Enters source c o p

-- it is the port, or the port comes to it
abbrev pub Stands : Design → Component → PortName → PortName → Type 0
Stands source c o p = ((p ≡ o) × HasPlace source c p.cell) ⊎ ((is_bare c ≡ false) × Enters source c o p)

-- the port reads it in the source, or comes to it
abbrev pub Onward : Design → Component → PortName → PortName → Type 0
Onward source c o p = (ReadsPort source c o p × HasPlace source c p.cell) ⊎ ((is_bare c ≡ false) × Enters source c o p)

-- what a port of a piece reads: what drives the piece, or of a wire's output its input
pub data PieceReads (c : Component) (name pin : Text) (q : PortName) : Type 0 where
  Driven : is_bare c ≡ false → (x : Piece) → Contains (control_pieces c) x → x.name ≡ name → pin ≡ codes "in" → Contains (set_ports (piece_set x)) q → PieceReads c name pin q
  Passed : is_bare c ≡ false → (x : Piece) → Contains (control_pieces c) x → x.name ≡ name → pin ≡ codes "out" → x.kind ≡ Wire → q ≡ port_of name (codes "in")
      → PieceReads c name pin q

-- a continuous assignment of the answer: one of the source, of a piece, or of done
data SetCase (c : Component) (a : Assignment) : Type 0 where
  OfSource : Contains c.sets a → SetCase c a
  OfPiece : is_bare c ≡ false → (x : Piece) → Contains (control_pieces c) x → Contains (piece_sets x) a → SetCase c a
  OfControl : is_bare c ≡ false → done_set ≡ a → SetCase c a

module _ (source : Design) (tree : HasPlainTree source) (plain : IsPlainDesign source) (all_few : All HasFewParts source) where
  abbrev low : Design
  low = answer tokens source

  abbrev rules : List ActivityRule
  rules = rules_from 0 source

  module _ (c : Component) (in_design : Contains source c) where
    of_group : (h : GroupDef) (b : Assignment) → Contains c.groups h → Contains h.sets b → IsAssignmentOf source c b
    of_group h b of has = inr (h, own_is_group source c h of, has)

    few : size (plan_of c) ≤ 2 ^ 64
    few = All-contains HasFewParts source c all_few in_design

    place_at : (k : ℕ) × (slice_get source k ≡ Some c)
    place_at = place_of source c in_design

    -- ---- what a port of a piece reads

    not_place : (name pin : Text) (p : PortName) → p ≡ port_of name pin → cell_named c.cells name ≡ None → HasPlace source c p.cell → ⊥
    not_place name pin p is none has =
        let there : HasPlace source c (Some name) = subst (λ (x : PortName). HasPlace source c x.cell) is has in
        let bad : None ≡ Some there.0 = sym none ∙ there.1 in
        cc

    assigned_place : (g : GroupDef) (p : PortName) → IsAssignedIn (whole tokens source) (built tokens source c) g p → HasPlace source c p.cell
    assigned_place g p assigned =
        let b = assigned_before tokens source c g (origin tokens source c g assigned.is) p assigned in
        subst (λ (x : PortName). HasPlace source c x.cell) b.drives (driven_place source plain c in_design b.a (inr (_, b.is, b.has)))

    sets_case : (a : Assignment) → Contains (extended tokens c).sets a → SetCase c a
    sets_case a has = elim (cases_Bool (is_bare c)) [
      | inl bare ↦ OfSource (subst (λ (d : Component). Contains d.sets a) (extended_bare tokens c bare) has)
      | inr full ↦
          let there : Contains (c.sets ++ flat_map piece_sets (control_pieces c) ++ done_set ∷ []) a =
          subst (λ (sets : List Assignment). Contains sets a) (extended_sets tokens c full) has in
          elim (Contains-append_cases (c.sets ++ flat_map piece_sets (control_pieces c)) (done_set ∷ []) a there) [
            | inl front ↦ elim (Contains-append_cases c.sets (flat_map piece_sets (control_pieces c)) a front) [
              | inl own_set ↦ OfSource own_set
              | inr of_piece ↦ (let x = Contains-from_flat_map piece_sets (control_pieces c) a of_piece in OfPiece full x.0 x.1 x.2)
            ]
            | inr last ↦ elim (Contains-cases_first done_set [] a last) [
              | inl same ↦ OfControl full same
              | inr none ↦ absurd (Contains-none a none)
            ]
          ]
    ]

    same_cell : (x y name pin : Text) (p : PortName) → p ≡ port_of name pin → port_of x y ≡ p → (x ≡ name) × (y ≡ pin)
    same_cell x y name pin p is same =
        let e : port_of x y ≡ port_of name pin = same ∙ is in
        (same_Some x name (ap (λ (q : PortName). q.cell) e), ap (λ (q : PortName). q.pin) e)

    driven_by : is_bare c ≡ false → (name pin : Text) (p q : PortName) (x : Piece) (a : Assignment) → p ≡ port_of name pin → Contains (control_pieces c) x
        → Contains (piece_sets x) a → a.dst ≡ p → Contains (set_ports a) q → PieceReads c name pin q
    driven_by full name pin p q x a is has set drives reads = elim (piece_set_case x a set) [
      | inl same ↦
          let e = same_cell x.name (codes "in") name pin p is (ap (λ (y : Assignment). y.dst) same ∙ drives) in
          Driven full x has e.0 (sym e.1) (subst (λ (y : Assignment). Contains (set_ports y) q) (sym same) reads)
      | inr enables ↦
          let none : Contains [] q = subst (λ (y : Assignment). Contains (set_ports y) q) (sym enables) reads in
          absurd (Contains-none q none)
    ]

    -- by an assignment
    set_reads : (name pin : Text) (p q : PortName) → p ≡ port_of name pin → cell_named c.cells name ≡ None → ReadsByAssignment (whole tokens source) (built tokens source c) p q → PieceReads c name pin q
    set_reads name pin p q is none r = elim r.is [
      | inl there ↦ elim (sets_case r.a there) [
        | OfSource own_set ↦
            let has = driven_place source plain c in_design r.a (inl own_set) in
            absurd (not_place name pin p is none (subst (λ (x : PortName). HasPlace source c x.cell) r.drives has))
        | OfPiece full x has set ↦ driven_by full name pin p q x r.a is has set r.drives r.reads
        | OfControl full same ↦
            let e : own (codes "done") ≡ port_of name pin = ap (λ (a : Assignment). a.dst) same ∙ r.drives ∙ is in
            let bad : None ≡ Some name = ap (λ (x : PortName). x.cell) e in
            absurd (cc)
      ]
      | inr (g, is_group, has) ↦ absurd (not_place name pin p is none (assigned_place g p (record { is = is_group; a = r.a; has = has; drives = r.drives })))
    ]

    -- by the primitive of the piece
    primitive_reads : (name pin : Text) (p q : PortName) → p ≡ port_of name pin → cell_named c.cells name ≡ None → ReadsByPrimitive (built tokens source c) p q → PieceReads c name pin q
    primitive_reads name pin p q is none r =
        let e = same_cell r.cell r.output name pin p is (sym r.is_output) in
        let found : option_and_then primitive_of (cell_named (added_cells tokens c) name) ≡ Some r.prim =
        sym (ap (option_and_then primitive_of) (cell_other tokens c name none)) ∙ ap (λ (n : Text). primitive_in (extended tokens c) n) (sym e.0) ∙ r.made in
        by e.0 e.1 (cell_named (added_cells tokens c) name) refl found
      where
        by : r.cell ≡ name → r.output ≡ pin → (o : Option CellDef) → cell_named (added_cells tokens c) name ≡ o → option_and_then primitive_of o ≡ Some r.prim → PieceReads c name pin q
        by cell output None at found = absurd (cc)
        by cell output (Some x) at found =
            let a : IsOfPiece c name x = added_cell c name x at in
            let prim : prim_for a.p.kind ≡ r.prim = same_Some (prim_for a.p.kind) r.prim (sym (piece_made a.p) ∙ ap primitive_of a.is ∙ found) in
            let w = wire_depends a.p.kind r.output r.input (subst (λ (y : Primitive). DependsWithinRow y r.output r.input) (sym prim) r.depends) in
            Passed a.full a.p a.has a.named (sym output ∙ w.1) w.0 (r.is_input ∙ ap₂ port_of cell w.2)

    pub piece_reads : (d : Component) (p q : PortName) → ReadsPort (whole tokens source) d p q → built tokens source c ≡ d → (name pin : Text) → p ≡ port_of name pin → cell_named c.cells name ≡ None → PieceReads c name pin q
    piece_reads d p q (ByAssignment x p' q' r) same name pin is none = set_reads name pin p' q' is none (subst (λ (y : Component). ReadsByAssignment (whole tokens source) y p' q') (sym same) r)
    piece_reads d p q (ByDone x p' q' r) same name pin is none =
        let s = subst (λ (y : Component). ReadsByDone (whole tokens source) y p' q') (sym same) r in
        absurd (not_place name pin p' is none (assigned_place s.g p' s.assigned))
    piece_reads d p q (ByGo x p' q' r) same name pin is none =
        let s = subst (λ (y : Component). ReadsByGo (whole tokens source) y p' q') (sym same) r in
        absurd (not_place name pin p' is none (assigned_place s.g p' s.assigned))
    piece_reads d p q (ByPrimitive x p' q' r) same name pin is none = primitive_reads name pin p' q' is none (subst (λ (y : Component). ReadsByPrimitive y p' q') (sym same) r)
    piece_reads d p q (ByComponent x part p' q' output input r there) same name pin is none =
        let s = subst (λ (y : Component). CrossesCell (whole tokens source) y part p' q' output input) (sym same) r in
        let e = same_cell s.cell output name pin p' is (sym s.is_output) in
        let b = part_before tokens tokens_made source c s.cell part s.made in
        let bad : None ≡ Some b.0 = sym (ap (option_and_then (part_of source)) (ap (cell_named c.cells) e.0 ∙ none)) ∙ b.1 in
        absurd (cc)

    module _ (full : is_bare c ≡ false) where
      placed : (x : Piece) → Contains (control_pieces c) x → IsPlaced source c x
      placed x has = each_at (λ (p : Piece). IsPlaced source c p) (control_pieces c) x (pieces_placed source plain c in_design tree few) has

      -- ---- from a port of a piece on

      letters : (x y : Text) (m n : ℕ) → third x ≡ m → third y ≡ n → (m ≡ n → ⊥) → x ≡ y → ⊥
      letters x y m n one other apart same = apart (sym one ∙ ap third same ∙ other)

      -- a register's name is none of a wire
      not_register : (x y : Text) → IsRegisterName x → x ≡ y → (rank (shown y) ≡ 0 → ⊥) → ⊥
      not_register x y register same none = none (ap (λ (n : Text). rank (shown n)) (sym same) ∙ register.shows)

      enters : (o q : PortName) → Enters source c o q → Onward source c o q
      enters o q is = inr (full, is)

      -- from the wire of a group that acts
      acts_on : (o q : PortName) (g : GroupDef) → Contains c.groups g → IsAssignedIn source c g o → (x : Piece) → IsPlaced source c x → x.name ≡ acts_name g.name
          → Contains (set_ports (piece_set x)) q → Onward source c o q
      acts_on o q g of assigned x (AStart is) named reads =
          absurd (letters start_name (acts_name g.name) 115 97 refl refl (λ e. omega (arith, e)) (ap (λ (y : Piece). y.name) (sym is) ∙ named))
      acts_on o q g of assigned x (ARegister kind register early) named reads = absurd (not_register x.name (acts_name g.name) register named (λ e. omega (arith, e)))
      acts_on o q g of assigned x (AnActs h of_h is) named reads =
          let E : PortName → Type 0 = λ r. Enters source c o r in
          let same : acts_name h.name ≡ acts_name g.name = ap (λ (y : Piece). y.name) (sym is) ∙ named in
          let names : h.name ≡ g.name = ap (drop 7) same in
          enters o q (All-contains E (guard_ports (acts_guard (plan_of c) h) ++ []) q
          (guard_reads_all E (acts_guard (plan_of c) h)
          (acts_reads E (λ t. ToRegister (token_name t) (token_register t) refl) (ToStart g (codes "out") assigned refl) (plan_of c) h
          (ToDone g (codes "out") of assigned (ap (λ (n : Text). shown (done_name n)) names))))
          (subst (λ (y : Piece). Contains (set_ports (piece_set y)) q) is reads))
      acts_on o q g of assigned x (ADone h d of_h has group is) named reads =
          absurd (letters (done_name d.group) (acts_name g.name) 100 97 refl refl (λ e. omega (arith, e)) (ap (λ (y : Piece). y.name) (sym is) ∙ named))
      acts_on o q g of assigned x (AnEnd k guard small is later) named reads =
          absurd (letters (ends_name k) (acts_name g.name) 101 97 refl refl (λ e. omega (arith, e)) (ap (λ (y : Piece). y.name) (sym is) ∙ named))

      -- from the wire of a group's done line
      done_on : (o q : PortName) (g : GroupDef) → Contains c.groups g → IsAssignedIn source c g o → (x : Piece) → IsPlaced source c x → x.name ≡ done_name g.name
          → Contains (set_ports (piece_set x)) q → Onward source c o q
      done_on o q g of assigned x (AStart is) named reads =
          absurd (letters start_name (done_name g.name) 115 100 refl refl (λ e. omega (arith, e)) (ap (λ (y : Piece). y.name) (sym is) ∙ named))
      done_on o q g of assigned x (ARegister kind register early) named reads = absurd (not_register x.name (done_name g.name) register named (λ e. omega (arith, e)))
      done_on o q g of assigned x (AnActs h of_h is) named reads =
          absurd (letters (acts_name h.name) (done_name g.name) 97 100 refl refl (λ e. omega (arith, e)) (ap (λ (y : Piece). y.name) (sym is) ∙ named))
      done_on o q g of assigned x (ADone h d of_h has group is) named reads =
          let same : done_name d.group ≡ done_name g.name = ap (λ (y : Piece). y.name) (sym is) ∙ named in
          let names : h.name ≡ g.name = sym group ∙ ap (drop 7) same in
          let one : h ≡ g = same_group source tree plain c in_design h g of_h of names in
          let line : Contains g.dones d = subst (λ (y : GroupDef). Contains y.dones d) one has in
          let there : Contains (done_ports d) q = subst (λ (y : Piece). Contains (set_ports (piece_set y)) q) is reads in
          inl (ByDone c o q (record { g = g; assigned = assigned; d = d; has = line; reads = there }), done_place source plain c in_design g d of line q there)
      done_on o q g of assigned x (AnEnd k guard small is later) named reads =
          absurd (letters (ends_name k) (done_name g.name) 101 100 refl refl (λ e. omega (arith, e)) (ap (λ (y : Piece). y.name) (sym is) ∙ named))

      go_source : IsSource source c (own (codes "go"))
      go_source =
          let G : List Pin → Type 0 = λ pins. Contains (pin_names pins) (codes "go") in
          input_first (inputs_in c) (outputs_in c) (codes "go") (subst G (sym (cond-false (is_bare c) c.ins (with_pin (codes "go") c.ins) full)) (with_pin_has (codes "go") c.ins))

      -- from the wire of the start
      start_on : (o q : PortName) (g : GroupDef) → IsAssignedIn source c g o → (x : Piece) → IsPlaced source c x → x.name ≡ start_name
          → Contains (set_ports (piece_set x)) q → Onward source c o q
      start_on o q g assigned x (AStart is) named reads =
          let O : PortName → Type 0 = λ r. Onward source c o r in
          All-contains O (guard_ports start_guard ++ []) q
          (guard_reads_all O start_guard (
            inl (ByGo c o (own (codes "go")) (record { g = g; assigned = assigned; is_go = refl; is_input = go_source }), tt),
            (enters o (shown busy_name) (ToRegister busy_name busy_register refl), (enters o (shown over_name) (ToRegister over_name over_register refl), tt)),
          ))
          (subst (λ (y : Piece). Contains (set_ports (piece_set y)) q) is reads)
      start_on o q g assigned x (ARegister kind register early) named reads = absurd (not_register x.name start_name register named (λ e. omega (arith, e)))
      start_on o q g assigned x (AnActs h of_h is) named reads =
          absurd (letters (acts_name h.name) start_name 97 115 refl refl (λ e. omega (arith, e)) (ap (λ (y : Piece). y.name) (sym is) ∙ named))
      start_on o q g assigned x (ADone h d of_h has group is) named reads =
          absurd (letters (done_name d.group) start_name 100 115 refl refl (λ e. omega (arith, e)) (ap (λ (y : Piece). y.name) (sym is) ∙ named))
      start_on o q g assigned x (AnEnd k guard small is later) named reads =
          absurd (letters (ends_name k) start_name 101 115 refl refl (λ e. omega (arith, e)) (ap (λ (y : Piece). y.name) (sym is) ∙ named))

      -- no wire has a register's name
      register_on : (name : Text) → IsRegisterName name → (x : Piece) → IsPlaced source c x → x.kind ≡ Wire → x.name ≡ name → ⊥
      register_on name register x (AStart is) wire named =
          not_register name start_name register (sym named ∙ ap (λ (y : Piece). y.name) is) (λ e. omega (arith, e))
      register_on name register x (ARegister kind its early) wire named = let bad : Wire ≡ Register = sym wire ∙ kind in cc
      register_on name register x (AnActs g of is) wire named =
          not_register name (acts_name g.name) register (sym named ∙ ap (λ (y : Piece). y.name) is) (λ e. omega (arith, e))
      register_on name register x (ADone g d of has group is) wire named =
          not_register name (done_name d.group) register (sym named ∙ ap (λ (y : Piece). y.name) is) (λ e. omega (arith, e))
      register_on name register x (AnEnd k guard small is later) wire named =
          not_register name (ends_name k) register (sym named ∙ ap (λ (y : Piece). y.name) is) (λ e. omega (arith, e))

      free : (name : Text) → IsReserved name → cell_named c.cells name ≡ None
      free name reserved = reserved_absent source tree plain c in_design full name reserved

      pub enters_on : (o p q : PortName) → Enters source c o p → ReadsPort (whole tokens source) (built tokens source c) p q → Onward source c o q
      enters_on o p q (ToActs g pin of assigned is) reads = elim (piece_reads (built tokens source c) p q reads refl (acts_name g.name) pin is (free (acts_name g.name) refl)) [
        | Driven f x has named at ports ↦ acts_on o q g of assigned x (placed x has) named ports
        | Passed f x has named at wire same ↦ enters o q (ToActs g (codes "in") of assigned same)
      ]
      enters_on o p q (ToDone g pin of assigned is) reads = elim (piece_reads (built tokens source c) p q reads refl (done_name g.name) pin is (free (done_name g.name) refl)) [
        | Driven f x has named at ports ↦ done_on o q g of assigned x (placed x has) named ports
        | Passed f x has named at wire same ↦ enters o q (ToDone g (codes "in") of assigned same)
      ]
      enters_on o p q (ToStart g pin assigned is) reads = elim (piece_reads (built tokens source c) p q reads refl start_name pin is (free start_name refl)) [
        | Driven f x has named at ports ↦ start_on o q g assigned x (placed x has) named ports
        | Passed f x has named at wire same ↦ enters o q (ToStart g (codes "in") assigned same)
      ]
      enters_on o p q (ToRegister name register is) reads = elim (piece_reads (built tokens source c) p q reads refl name (codes "out") is (free name register.reserved)) [
        | Driven f x has named at ports ↦ absurd (let bad : codes "out" ≡ codes "in" = at in cc)
        | Passed f x has named at wire same ↦ absurd (register_on name register x (placed x has) wire named)
      ]

      -- it is no port of the source
      pub enters_piece : (o p : PortName) → Enters source c o p → HasPlace source c p.cell → ⊥
      enters_piece o p (ToActs g pin of assigned is) has = not_place (acts_name g.name) pin p is (free (acts_name g.name) refl) has
      enters_piece o p (ToDone g pin of assigned is) has = not_place (done_name g.name) pin p is (free (done_name g.name) refl) has
      enters_piece o p (ToStart g pin assigned is) has = not_place start_name pin p is (free start_name refl) has
      enters_piece o p (ToRegister name register is) has = not_place name (codes "out") p is (free name register.reserved) has

    -- ---- from a port of the source on

    -- by an assignment of the source, or under the rule of a group
    ruled_on : (p q : PortName) (h : GroupDef) (b : Assignment) → Contains c.groups h → Contains h.sets b → b.dst ≡ p
        → Contains (option_ports (with_guard (when_of low rules (extended tokens c) h.name) b.guard) ++ source_ports b.src) q → Onward source c p q
    ruled_on p q h b of has drives reads =
        let w : GuardTree PortName = guard_for c h.name in
        let there : Contains (option_ports (with_guard (Some w) b.guard) ++ source_ports b.src) q =
        subst (λ (o : Option (GuardTree PortName)). Contains (option_ports (with_guard o b.guard) ++ source_ports b.src) q) (when_extended tokens source plain place_at.0 c h place_at.1 of) reads in
        let its : Contains (set_ports b) q → Onward source c p q =
        λ (ports : Contains (set_ports b) q). inl (
          ByAssignment c p q (record { a = b; is = of_group h b of has; drives = drives; reads = ports }),
          read_place source plain c in_design b (of_group h b of has) q ports,
        ) in
        elim (Contains-append_cases (option_ports (with_guard (Some w) b.guard)) (source_ports b.src) q there) [
          | inr src ↦ its (Contains-append_right (option_ports b.guard) (source_ports b.src) q src)
          | inl guard ↦ elim (ruled_ports w b.guard q guard) [
            | inr later ↦ its (Contains-append_left (option_ports b.guard) (source_ports b.src) q later)
            | inl rule ↦ elim (cases_Bool (is_bare c)) [
              | inl bare ↦
                  let none : Contains [] q = subst (λ (g : GuardTree PortName). Contains (guard_ports g) q) (cond-true (is_bare c) never (is_set (acts_name h.name)) bare) rule in
                  absurd (Contains-none q none)
              | inr full ↦
                  let one : Contains (shown (acts_name h.name) ∷ []) q =
                  subst (λ (g : GuardTree PortName). Contains (guard_ports g) q) (cond-false (is_bare c) never (is_set (acts_name h.name)) full) rule in
                  elim (Contains-cases_first (shown (acts_name h.name)) [] q one) [
                    | inl same ↦ inr (full, ToActs h (codes "out") of (record { is = own_is_group source c h of; a = b; has = has; drives = drives }) (sym same))
                    | inr none ↦ absurd (Contains-none q none)
                  ]
            ]
          ]
        ]

    own_set_on : (p q : PortName) (a : Assignment) → Contains c.sets a → a.dst ≡ p → Contains (set_ports a) q → Onward source c p q
    own_set_on p q a has drives reads =
        inl (ByAssignment c p q (record { a = a; is = inl has; drives = drives; reads = reads }), read_place source plain c in_design a (inl has) q reads)

    continuous_on : (p q : PortName) → HasPlace source c p.cell → (a : Assignment) → SetCase c a → a.dst ≡ p → Contains (set_ports a) q → Onward source c p q
    continuous_on p q place a (OfSource has) drives reads = own_set_on p q a has drives reads
    continuous_on p q place a (OfPiece full x has set) drives reads =
        let none : cell_named c.cells x.name ≡ None =
        reserved_absent source tree plain c in_design full x.name (each_at (λ (y : Piece). IsReserved y.name) (control_pieces c) x (pieces_reserved c few) has) in
        elim (piece_set_case x a set) [
          | inl same ↦ absurd (not_place x.name (codes "in") p (sym (ap (λ (y : Assignment). y.dst) same ∙ drives)) none place)
          | inr same ↦ absurd (not_place x.name (codes "write_en") p (sym (ap (λ (y : Assignment). y.dst) same ∙ drives)) none place)
        ]
    continuous_on p q place a (OfControl full same) drives reads =
        let one : Contains (shown over_name ∷ []) q = subst (λ (y : Assignment). Contains (set_ports y) q) (sym same) reads in
        elim (Contains-cases_first (shown over_name) [] q one) [
          | inl is ↦ inr (full, ToRegister over_name over_register (sym is))
          | inr none ↦ absurd (Contains-none q none)
        ]

    pub set_on : (p q : PortName) → HasPlace source c p.cell → ReadsByAssignment (whole tokens source) (built tokens source c) p q → Onward source c p q
    set_on p q place r = elim r.is [
      | inl there ↦ continuous_on p q place r.a (sets_case r.a there) r.drives r.reads
      | inr (g, is_group, has) ↦
          let h = origin tokens source c g is_group in
          let b = unruled tokens source c g h r.a has in
          ruled_on p q h.0 b.0 h.1 b.1 (ap (λ (x : Assignment). x.dst) b.2 ∙ r.drives) (subst (λ (x : Assignment). Contains (set_ports x) q) (sym b.2) r.reads)
    ]

    pub done_line_on : (p q : PortName) → ReadsByDone (whole tokens source) (built tokens source c) p q → Onward source c p q
    done_line_on p q r =
        let h = origin tokens source c r.g r.assigned.is in
        let line : Contains h.0.dones r.d = subst (λ (x : GroupDef). Contains x.dones r.d) (sym h.2) r.has in
        inl (
          ByDone c p q (record { g = h.0; assigned = assigned_before tokens source c r.g h p r.assigned; d = r.d; has = line; reads = r.reads }),
          done_place source plain c in_design h.0 r.d h.1 line q r.reads,
        )

    pub go_on : (p q : PortName) → ReadsByGo (whole tokens source) (built tokens source c) p q → Onward source c p q
    go_on p q r =
        let h = origin tokens source c r.g r.assigned.is in
        let sides = ap₂ (λ (ins outs : List Pin). option_map (λ (x : SidedPin). x.side) (port_named (both_sides ins outs) (codes "go"))) (extended_inputs tokens c) (extended_outputs tokens c) in
        inl (
          ByGo c p q (record { g = h.0; assigned = assigned_before tokens source c r.g h p r.assigned; is_go = r.is_go; is_input = sym sides ∙ r.is_input }),
          subst (λ (x : PortName). HasPlace source c x.cell) (sym r.is_go) tt,
        )

    pub primitive_on : (p q : PortName) → HasPlace source c p.cell → ReadsByPrimitive (built tokens source c) p q → Onward source c p q
    primitive_on p q place r =
        let there : HasPlace source c (Some r.cell) = subst (λ (x : PortName). HasPlace source c x.cell) r.is_output place in
        let made : primitive_in c r.cell ≡ Some r.prim = sym (primitive_kept tokens c r.cell there.0 there.1) ∙ r.made in
        inl (
          ByPrimitive c p q (record { cell = r.cell; prim = r.prim; made = made; output = r.output; input = r.input; depends = r.depends; is_output = r.is_output; is_input = r.is_input }),
          subst (λ (x : PortName). HasPlace source c x.cell) (sym r.is_input) there,
        )

    -- over a cell of a component, where its output reaches its input in the source
    pub part_on : (p q : PortName) (part : Component) (output input : Text) → HasPlace source c p.cell → (r : CrossesCell (whole tokens source) (built tokens source c) part p q output input)
        → ((b : Component) → Contains source b → built tokens source b ≡ part → Reaches source b (own output) (own input)) → Onward source c p q
    part_on p q part output input place r inner =
        let b = part_before tokens tokens_made source c r.cell part r.made in
        let has = part_in-design source c r.cell b.0 b.1 in
        let there : HasPlace source c (Some r.cell) = subst (λ (x : PortName). HasPlace source c x.cell) r.is_output place in
        inl (
          ByComponent c b.0 p q output input (record {
            cell = r.cell;
            made = b.1;
            has_output = subst (λ (pins : List Pin). Contains (pin_names pins) output) (ap outputs_in (sym b.2) ∙ extended_outputs tokens b.0) r.has_output;
            has_input = subst (λ (pins : List Pin). Contains (pin_names pins) input) (ap inputs_in (sym b.2) ∙ extended_inputs tokens b.0) r.has_input;
            is_output = r.is_output;
            is_input = r.is_input;
          }) (inner b.0 has b.2),
          subst (λ (x : PortName). HasPlace source c x.cell) (sym r.is_input) there,
        )

    -- ---- what is read is later, but where a port of the source is one of the two

    abbrev pub Apart : PortName → PortName → Type 0
    Apart p q = (HasPlace source c p.cell ⊎ HasPlace source c q.cell) ⊎ Falls p q

    piece_falls : (name pin : Text) (p q : PortName) → p ≡ port_of name pin → PieceReads c name pin q → Apart p q
    piece_falls name pin p q is (Driven full x has named at ports) =
        let port : port_of x.name (codes "in") ≡ p = ap₂ port_of named (sym at) ∙ sym is in
        elim (takes_later source plain c in_design x (placed full x has) q ports) [
          | inl there ↦ inl (inr there)
          | inr falls ↦ inr (subst (λ (r : PortName). Falls r q) port falls)
        ]
    piece_falls name pin p q is (Passed full x has named at wire same) =
        let port : shown x.name ≡ p = ap₂ port_of named (sym at) ∙ sym is in
        let other : port_of x.name (codes "in") ≡ q = ap (λ (n : Text). port_of n (codes "in")) named ∙ sym same in
        inr (subst (λ (r : PortName). Falls r q) port (subst (λ (r : PortName). Falls (shown x.name) r) other (shows_later source plain c in_design x (placed full x has) wire)))

    pub read_falls : (p q : PortName) → ReadsPort (whole tokens source) (built tokens source c) p q → Apart p q
    read_falls p q reads = by p.cell refl
      where
        of_cell : (name : Text) → p.cell ≡ Some name → (o : Option CellDef) → cell_named c.cells name ≡ o → Apart p q
        of_cell name is (Some x) at = inl (inl (subst (λ (cell : Option Text). HasPlace source c cell) (sym is) (x, at)))
        of_cell name is None at =
            let port : p ≡ port_of name p.pin = ap (λ (cell : Option Text). record { cell = cell; pin = p.pin }) is in
            piece_falls name p.pin p q port (piece_reads (built tokens source c) p q reads refl name p.pin port at)

        by : (cell : Option Text) → p.cell ≡ cell → Apart p q
        by None is = inl (inl (subst (λ (cell : Option Text). HasPlace source c cell) (sym is) tt))
        by (Some name) is = of_cell name is (cell_named c.cells name) refl
