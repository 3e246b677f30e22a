-- An encoded design has no loop: what its ports read within a row is later in their order, or is read in the lowering to registers of one bit too, which has none.
use Rattle.std.proofs.Common.{◌≡◌, ◌⊎◌, inl, inr, ℕ, ◌<◌, ◌≤◌, ◌^◌, List, [], ◌∷◌, ◌++◌, map, ◌==◌, true, false, Option, Some, None, refl, sym, ap, ap₂, subst, ◌∙◌, arith}
use Rattle.std.specs.Prelude.{All, Contains, flat_map, bytes_eq, codes, slice_get, option_map, option_and_then}
use Rattle.std.proofs.lemmas.Bool.{cases_Bool, cases_order, cond-false}
use Rattle.std.proofs.lemmas.List.Elements.{All-nil, All-cons, All-append, All-contains, Contains-append_left, Contains-append_right, Contains-append_cases}
use Rattle.std.proofs.lemmas.Option.{same_Some, slice_get-map}
use Rattle.std.proofs.lemmas.Slice.Eq.{bytes_eq-Decides}
use Rattle.hw_names.specs.Name.{Text}
use Rattle.hw_prims.specs.Meaning.{is_through}
use Rattle.hw_prims.specs.Table.{Pin, pin_names}
use Rattle.hw_prims.specs.declared.prim.Primitive.{Primitive}
use Rattle.hw_prims.specs.declared.prim.Primitive.TheVariants.{StdReg}
use Rattle.net_core.specs.Graph.{guard_ports, guards_ports, option_ports, source_ports}
use Rattle.net_core.specs.Guard.{GuardTree, Negates, guards_of}
use Rattle.net_core.specs.declared.net.Src.TheVariants.{Lit}
use Rattle.cal_ast.proofs.CycleLemmas.{reaches_no_itself}
use Rattle.cal_ast.proofs.ListLemmas.{find-Some, Contains-at, Contains-here, Contains-there, Contains-none, Contains-cases_first, Contains-flat_map, Contains-from_flat_map, Contains-from_map}
use Rattle.cal_ast.proofs.LookupLemmas.{part_in-design}
use Rattle.cal_ast.proofs.SideLemmas.{some_found, some_of}
use Rattle.cal_ast.specs.Holes.{guarded}
use Rattle.cal_ast.specs.Naming.{IsKnownPort, IsReserved}
use Rattle.cal_ast.specs.NoInvoke.{IsPlainDesign}
use Rattle.cal_ast.specs.Plain.{HasPlainTree}
use Rattle.cal_ast.specs.Plan.{Plan, plan_of}
use Rattle.cal_ast.specs.Ports.{is_bare, inputs_in, outputs_in, cell_named, primitive_of, part_of, primitive_in, part_in, both_sides, port_named, port_in, SidedPin}
use Rattle.cal_ast.specs.Rules.{HasNoLoops}
use Rattle.cal_ast.specs.Tree.{PortName, own, port_of, CellDef, Assignment, GroupDef, Component, Design}
use Rattle.cal_ast.specs.Wires.{IsAssignedIn, ReadsByAssignment, ReadsByDone, ReadsByGo, ReadsByPrimitive, CrossesCell, DependsWithinRow, ReadsPort, ByAssignment, ByDone, ByGo, ByPrimitive, ByComponent}
use Rattle.cal_ast.specs.Wires.{Reaches, Straight, Over, ReadsAlong, HasNoLoop, set_ports}
use Rattle.cal_token.specs.inside.Tokens.{Token, size}
use Rattle.cal_lower.specs.inside.Added.{Additions, extended}
use Rattle.cal_lower.specs.inside.Lowered.{HasFewParts, control_ends, control_pieces, done_set, group_pieces, instance_pieces, plan_pieces, rules_from, start_guard}
use Rattle.cal_lower.specs.inside.Pieces.{Piece, Wire, Register, piece, piece_cell, piece_set, piece_sets, token_name, start_name, busy_name, over_name, shown, is_set, both, either, any_of}
use Rattle.cal_lower.proofs.AnswerReadLemmas.{Enters, ToActs, ToDone, ToStart, ToRegister, Onward, set_on, piece_set_case, wire_depends}
use Rattle.cal_lower.proofs.ExtendedLemmas.{HasPlace, place_found, answer, extended_bare, extended_inputs, extended_outputs, extended_sets, added_cells, cell_other, primitive_kept}
use Rattle.cal_lower.proofs.GoodLemmas.{IsGoodSet}
use Rattle.cal_lower.proofs.GuardedLemmas.{whole, built, origin, assigned_before, part_before, part_after, same_assigned, same_group_in}
use Rattle.cal_lower.proofs.ListLemmas.{Each, each_at, each_map, each_from}
use Rattle.cal_lower.proofs.LoopLemmas.{no_loop_in}
use Rattle.cal_lower.proofs.LoweredLemmas.{IsOfPiece, added_cell, piece_made, prim_for, tokens, tokens_made}
use Rattle.cal_lower.proofs.PlacedLemmas.{IsPlaced, AStart, ARegister, AnActs, ADone, AnEnd, driven_place, read_place, done_place, pieces_placed}
use Rattle.cal_lower.proofs.PlaceLemmas.{third}
use Rattle.cal_lower.proofs.SourceLemmas.{reserved_absent}
use Rattle.cal_lower.proofs.TokenGoodLemmas.{piece_primitive, tokens_agree}
use Rattle.cal_state.specs.inside.Encoded.{busy_guard, over_set, over_state, thread_sets, instance_wires, wires}
use Rattle.cal_state.specs.inside.States.{all_next_sets, as_wires, is_in, is_on, thread_cell, thread_enable, thread_name, width_of}
use Rattle.cal_state.specs.inside.Threads.{Thread, State, Place, NoState, IsIn, plan_places, thread_of, threads}
use Rattle.cal_state.proofs.AddedStateLemmas.{encoding, encoding_made, no_thread_pieces, thread_made}
use Rattle.cal_state.proofs.PlaceLemmas.{Aligned}
use Rattle.cal_state.proofs.RegisterLemmas.{IsWire, all_wires, plan_aligned}
use Rattle.cal_state.proofs.StateOrderLemmas.{order_at, order, order_bare, order_full, small_name, shown_small, other_order, token_takes, token_shows}

along_reaches : (design : Design) (c : Component) (first : PortName) (others : List PortName) (back : PortName) → ReadsAlong design c (first ∷ others) back → Reaches design c first back
along_reaches design c first [] back along = Straight c first back along
along_reaches design c first (next ∷ others) back along = Over c first next back along.0 (along_reaches design c next others back along.1)

-- a register's output depends on none of its inputs
register_apart : (width : ℕ) (output input : Text) → DependsWithinRow (StdReg width) output input → ⊥
unfolding is_through
register_apart width output input d = let bad : false ≡ true = d.through in absurd (cc)

-- ---- guards

-- the ports of a guard that holds where one of several does
module _ (P : PortName → Type 0) where
  several : (gs : List (GuardTree PortName)) → Each (λ (g : GuardTree PortName). All P (guard_ports g)) gs → All P (guards_ports (guards_of gs))
  several [] all = All-nil P
  several (g ∷ gs) all = All-append P (guard_ports g) (guards_ports (guards_of gs)) all.0 (several gs all.1)

  any_ports : (gs : List (GuardTree PortName)) → Each (λ (g : GuardTree PortName). All P (guard_ports g)) gs → All P (guard_ports (any_of gs))
  any_ports [] all = All-nil P
  any_ports (g ∷ []) all = all.0
  any_ports (g ∷ h ∷ gs) all = several (g ∷ h ∷ gs) all

-- ---- the wires

-- a wire of the token lowering, or what shows a token, or whether control runs or is over
data WireCase (c : Component) (w : Piece) : Type 0 where
  IsSame : Contains (control_pieces c) w → WireCase c w
  IsToken : (token : Token) (state : State) → w ≡ piece Wire (token_name token) (is_in state) → WireCase c w
  IsBusy : w ≡ piece Wire busy_name (busy_guard (plan_of c)) → WireCase c w
  IsOver : w ≡ piece Wire over_name (is_in (over_state (plan_of c))) → WireCase c w

-- the registers that tell in the token lowering whether control runs, and is over
abbrev busy_register : Plan → Piece
busy_register plan = piece Register busy_name (both (either (is_set start_name) (is_set busy_name)) (Negates (control_ends plan)))

abbrev over_register : Plan → Piece
over_register plan = piece Register over_name (control_ends plan)

abbrev IsTold : Piece → Type 0
IsTold w = (token : Token) × (state : State) × (w ≡ piece Wire (token_name token) (is_in state))

as_case : (ps : List Piece) (xs : List Place) → Aligned ps xs → (w : Piece) → Contains (as_wires ps xs) w → Contains ps w ⊎ IsTold w
as_case [] [] fit w has = absurd (Contains-none w has)
as_case [] (x ∷ xs) fit w has = absurd fit
as_case (p ∷ ps) [] fit w has = absurd fit
as_case (p ∷ ps) (NoState ∷ xs) fit w has = elim (Contains-cases_first p (as_wires ps xs) w has) [
  | inl same ↦ inl (subst (λ (x : Piece). Contains (p ∷ ps) x) same (Contains-here p ps))
  | inr there ↦ elim (as_case ps xs fit.1 w there) [
    | inl kept ↦ inl (Contains-there p ps w kept)
    | inr told ↦ inr told
  ]
]
as_case (p ∷ ps) (IsIn token state ∷ xs) fit w has = elim (Contains-cases_first (piece Wire p.name (is_in state)) (as_wires ps xs) w has) [
  | inl same ↦ inr (token, state, sym same ∙ ap (λ (name : Text). piece Wire name (is_in state)) fit.0.1)
  | inr there ↦ elim (as_case ps xs fit.1 w there) [
    | inl kept ↦ inl (Contains-there p ps w kept)
    | inr told ↦ inr told
  ]
]

wire_case : (c : Component) (w : Piece) → Contains (wires c) w → WireCase c w
wire_case c w has =
    let plan : Plan = plan_of c in
    let groups : List Piece = flat_map (group_pieces plan) c.groups in
    let states : List Piece = as_wires (plan_pieces plan) (plan_places plan) in
    let start : Piece = piece Wire start_name start_guard in
    let busy : Piece = piece Wire busy_name (busy_guard plan) in
    let over : Piece = piece Wire over_name (is_in (over_state plan)) in
    elim (Contains-append_cases (instance_wires plan ++ groups) states w has) [
      | inl front ↦ elim (Contains-append_cases (instance_wires plan) groups w front) [
        | inl own_wire ↦ elim (Contains-cases_first start (busy ∷ over ∷ []) w own_wire) [
          | inl same ↦ IsSame (subst (λ (x : Piece). Contains (control_pieces c) x) same
              (Contains-append_left (instance_pieces plan ++ groups) (plan_pieces plan) start (Contains-append_left (instance_pieces plan) groups start (Contains-here start (busy_register plan ∷ over_register plan ∷ [])))))
          | inr later ↦ elim (Contains-cases_first busy (over ∷ []) w later) [
            | inl same ↦ IsBusy (sym same)
            | inr last ↦ elim (Contains-cases_first over [] w last) [ inl same ↦ IsOver (sym same) | inr none ↦ absurd (Contains-none w none) ]
          ]
        ]
        | inr of_group ↦ IsSame (Contains-append_left (instance_pieces plan ++ groups) (plan_pieces plan) w (Contains-append_right (instance_pieces plan) groups w of_group))
      ]
      | inr of_plan ↦ elim (as_case (plan_pieces plan) (plan_places plan) (plan_aligned plan) w of_plan) [
        | inl kept ↦ IsSame (Contains-append_right (instance_pieces plan ++ groups) (plan_pieces plan) w kept)
        | inr (token, state, is) ↦ IsToken token state is
      ]
    ]

-- what brings a thread to a state is guarded as a piece of the plan is
record IsNext (ps : List Piece) (a : Assignment) : Type 0 where
  p : Piece
  has : Contains ps p
  thread : Thread
  dst : a.dst ≡ port_of (thread_name thread) (codes "in")
  ports : (q : PortName) → Contains (set_ports a) q → Contains (option_ports p.guard) q

no_more : (qs : List PortName) (q : PortName) → Contains (qs ++ []) q → Contains qs q
no_more qs q has = elim (Contains-append_cases qs [] q has) [ inl here ↦ here | inr none ↦ absurd (Contains-none q none) ]

later_next : (p : Piece) (ps : List Piece) (a : Assignment) → IsNext ps a → IsNext (p ∷ ps) a
later_next p ps a is = record { p = is.p; has = Contains-there p ps is.p is.has; thread = is.thread; dst = is.dst; ports = is.ports }

next_case : (ps : List Piece) (xs : List Place) (a : Assignment) → Contains (all_next_sets ps xs) a → IsNext ps a
next_case [] xs a has = absurd (Contains-none a has)
next_case (p ∷ ps) [] a has = absurd (Contains-none a has)
next_case (p ∷ ps) (NoState ∷ xs) a has = later_next p ps a (next_case ps xs a has)
next_case (p ∷ ps) (IsIn token state ∷ xs) a has =
    let first : Assignment = record { dst = port_of (thread_name state.thread) (codes "in"); guard = p.guard; src = Lit (width_of state.thread) state.number } in
    elim (Contains-cases_first first (all_next_sets ps xs) a has) [
      | inl same ↦ record {
        p = p;
        has = Contains-here p ps;
        thread = state.thread;
        dst = ap (λ (x : Assignment). x.dst) (sym same);
        ports = λ q reads. no_more (option_ports p.guard) q (subst (λ (x : Assignment). Contains (set_ports x) q) (sym same) reads);
      }
      | inr there ↦ later_next p ps a (next_case ps xs a there)
    ]

module _ (source : Design) (tree : HasPlainTree source) (plain : IsPlainDesign source) (all_few : All HasFewParts source) where
  -- the design with states, and that with registers of one bit; their rules count as guards
  abbrev E : Design
  E = whole encoding source

  abbrev e : Component → Component
  e c = built encoding source c

  abbrev L : Design
  L = whole tokens source

  abbrev l : Component → Component
  l c = built tokens source c

  -- what is read is later, or is as late and read in the other design too
  abbrev Step : (Component → PortName → PortName → Type 0) → Component → PortName → PortName → Type 0
  Step R c p q = (order c q < order c p) ⊎ ((order c p ≡ order c q) × R c p q)

  abbrev ReadsThere : Component → PortName → PortName → Type 0
  ReadsThere c p q = ReadsPort L (l c) p q

  abbrev ReachesThere : Component → PortName → PortName → Type 0
  ReachesThere c p q = Reaches L (l c) p q

  stays : (c : Component) (p q : PortName) → order c p ≡ 5 → order c q ≤ 5 → ReadsThere c p q → Step ReadsThere c p q
  stays c p q at small reads = elim (cases_order (order c q) 5) [
    | inl same ↦ inr (at ∙ sym same, reads)
    | inr (inl less) ↦ inl (omega (arith, less, at))
    | inr (inr greater) ↦ absurd (omega (arith, greater, small))
  ]

  -- ports of a component itself are as late as each other
  own_apart : (c : Component) (x y : Text) → order c (own y) < order c (own x) → ⊥
  own_apart c x y less = elim (cases_Bool (is_bare c)) [
    | inl bare ↦ (let one = order_bare c (own x) bare in let two = order_bare c (own y) bare in omega (arith, one, two, less))
    | inr full ↦ (let one = order_full c (own x) full in let two = order_full c (own y) full in omega (arith, one, two, less))
  ]

  at_once : (c : Component) (p q : PortName) → Step ReadsThere c p q → Step ReachesThere c p q
  at_once c p q (inl less) = inl less
  at_once c p q (inr (level, reads)) = inr (level, Straight (l c) p q reads)

  over : (c : Component) (p between q : PortName) → Step ReadsThere c p between → Step ReachesThere c between q → Step ReachesThere c p q
  over c p between q (inl less) (inl further) = inl (omega (arith, less, further))
  over c p between q (inl less) (inr (level, reaches)) = inl (omega (arith, less, level))
  over c p between q (inr (level, reads)) (inl less) = inl (omega (arith, less, level))
  over c p between q (inr (level, reads)) (inr (further, reaches)) = inr (level ∙ further, Over (l c) p between q reads reaches)

  module _ (c : Component) (in_design : Contains source c) where
    few : size (plan_of c) ≤ 2 ^ 64
    few = All-contains HasFewParts source c all_few in_design

    -- ---- the order of ports of the source

    not_reserved : is_bare c ≡ false → (name : Text) (cell : CellDef) → cell_named c.cells name ≡ Some cell → IsReserved name → ⊥
    not_reserved full name cell found reserved =
        let none : None ≡ Some cell = sym (reserved_absent source tree plain c in_design full name reserved) ∙ found in
        cc

    placed_at : is_bare c ≡ false → (cell : Option Text) (pin : Text) → HasPlace source c cell → order_at cell pin ≡ 5
    placed_at full None pin has = refl
    placed_at full (Some name) pin has = other_order name pin (not_reserved full name has.0 has.1)

    placed : (p : PortName) → HasPlace source c p.cell → order c p ≡ 5
    placed p has = elim (cases_Bool (is_bare c)) [
      | inl bare ↦ order_bare c p bare
      | inr full ↦ order_full c p full ∙ placed_at full p.cell p.pin has
    ]

    placed_small : (p : PortName) → HasPlace source c p.cell → order c p ≤ 5
    placed_small p has = let at = placed p has in omega (arith, at)

    -- a port that is read in the other design is no input of a thread's register
    enters_small : (o q : PortName) → Enters source c o q → order_at q.cell q.pin ≤ 5
    enters_small o q (ToActs g pin of assigned is) = subst (λ (x : PortName). order_at x.cell x.pin ≤ 5) (sym is) (omega arith)
    enters_small o q (ToDone g pin of assigned is) = subst (λ (x : PortName). order_at x.cell x.pin ≤ 5) (sym is) (omega arith)
    enters_small o q (ToStart g pin assigned is) = subst (λ (x : PortName). order_at x.cell x.pin ≤ 5) (sym is) (omega arith)
    enters_small o q (ToRegister name register is) = subst (λ (x : PortName). order_at x.cell x.pin ≤ 5) (sym is) (shown_small name)

    onward_small : (o q : PortName) → Onward source c o q → order c q ≤ 5
    onward_small o q (inl (reads, has)) = placed_small q has
    onward_small o q (inr (full, enters)) = let at = order_full c q full in let small = enters_small o q enters in omega (arith, at, small)

    -- ---- groups

    assigned_place : (g : GroupDef) (p : PortName) → IsAssignedIn E (e c) g p → HasPlace source c p.cell
    assigned_place g p assigned =
        let b = assigned_before encoding source c g (origin encoding source c g assigned.is) p assigned in
        subst (λ (x : PortName). HasPlace source c x.cell) b.drives (driven_place source plain c in_design b.a (inr (_, b.is, b.has)))

    by_group : (p q : PortName) (g : GroupDef) (assigned : IsAssignedIn E (e c) g p) → Contains (set_ports assigned.a) q → Step ReadsThere c p q
    by_group p q g assigned reads =
        let has : HasPlace source c p.cell = assigned_place g p assigned in
        let there : ReadsByAssignment L (l c) p q = record {
          a = assigned.a;
          is = inr (g, same_group_in source plain encoding tokens c in_design g assigned.is, assigned.has);
          drives = assigned.drives;
          reads = reads;
        } in
        stays c p q (placed p has) (onward_small p q (set_on source tree plain all_few c in_design p q has there)) (ByAssignment (l c) p q there)

    by_done : (p q : PortName) → ReadsByDone E (e c) p q → Step ReadsThere c p q
    by_done p q r =
        let h = origin encoding source c r.g r.assigned.is in
        let line : Contains h.0.dones r.d = subst (λ (x : GroupDef). Contains x.dones r.d) (sym h.2) r.has in
        stays c p q (placed p (assigned_place r.g p r.assigned)) (placed_small q (done_place source plain c in_design h.0 r.d h.1 line q r.reads))
        (ByDone (l c) p q (record { g = r.g; assigned = same_assigned source plain encoding tokens c in_design r.g p r.assigned; d = r.d; has = r.has; reads = r.reads }))

    go_side : (add : Additions) → option_map (λ (x : SidedPin). x.side) (port_named (both_sides (inputs_in (extended add c)) (outputs_in (extended add c))) (codes "go"))
        ≡ option_map (λ (x : SidedPin). x.side) (port_named (both_sides (inputs_in c) (outputs_in c)) (codes "go"))
    go_side add =
        ap₂ (λ (ins outs : List Pin). option_map (λ (x : SidedPin). x.side) (port_named (both_sides ins outs) (codes "go"))) (extended_inputs add c) (extended_outputs add c)

    by_go : (p q : PortName) → ReadsByGo E (e c) p q → Step ReadsThere c p q
    by_go p q r =
        stays c p q (placed p (assigned_place r.g p r.assigned)) (placed_small q (subst (λ (x : PortName). HasPlace source c x.cell) (sym r.is_go) tt))
        (ByGo (l c) p q (record {
          g = r.g;
          assigned = same_assigned source plain encoding tokens c in_design r.g p r.assigned;
          is_go = r.is_go;
          is_input = go_side tokens ∙ sym (go_side encoding) ∙ r.is_input;
        }))

    -- ---- continuous assignments

    kept_set : (a : Assignment) → Contains c.sets a → Contains (l c).sets a
    kept_set a has = elim (cases_Bool (is_bare c)) [
      | inl bare ↦ subst (λ (x : Component). Contains x.sets a) (sym (extended_bare tokens c bare)) has
      | inr full ↦ subst (λ (sets : List Assignment). Contains sets a) (sym (extended_sets tokens c full))
          (Contains-append_left (c.sets ++ tokens.sets c) (done_set ∷ []) a (Contains-append_left c.sets (tokens.sets c) a has))
    ]

    own_set : (p q : PortName) (a : Assignment) → Contains c.sets a → a.dst ≡ p → Contains (set_ports a) q → Step ReadsThere c p q
    own_set p q a has drives reads =
        let place : HasPlace source c p.cell = subst (λ (x : PortName). HasPlace source c x.cell) drives (driven_place source plain c in_design a (inl has)) in
        stays c p q (placed p place) (placed_small q (read_place source plain c in_design a (inl has) q reads))
        (ByAssignment (l c) p q (record { a = a; is = inl (kept_set a has); drives = drives; reads = reads }))

    module _ (full : is_bare c ≡ false) where
      -- later by the order of names
      falls : (p q x y : PortName) → x ≡ p → y ≡ q → order_at y.cell y.pin < order_at x.cell x.pin → Step ReadsThere c p q
      falls p q x y is other less =
          let one : order c p ≡ order_at x.cell x.pin = order_full c p full ∙ ap (λ (z : PortName). order_at z.cell z.pin) (sym is) in
          let two : order c q ≡ order_at y.cell y.pin = order_full c q full ∙ ap (λ (z : PortName). order_at z.cell z.pin) (sym other) in
          inl (omega (arith, one, two, less))

      -- what a piece of the token lowering reads is known there
      known_at : (q : PortName) → IsKnownPort (answer tokens source) (extended tokens c) q → order_at q.cell q.pin ≤ 5
      known_at q known =
          let found = some_of (port_in (answer tokens source) (extended tokens c) q) known in
          by q.cell (place_found source (answer tokens source) (extended tokens c) q.cell q.pin found.0 found.1)
        where
          of_name : (name : Text) (cell : CellDef) → cell_named (extended tokens c).cells name ≡ Some cell → (o : Option CellDef) → cell_named c.cells name ≡ o → order_at (Some name) q.pin ≤ 5
          of_name name cell there (Some x) at = let is = placed_at full (Some name) q.pin (x, at) in omega (arith, is)
          of_name name cell there None at =
              let piece_of : IsOfPiece c name cell = added_cell c name cell (sym (cell_other tokens c name at) ∙ there) in
              let no_thread = each_at (λ (p : Piece). (third p.name == 102) ≡ false) (control_pieces c) piece_of.p (no_thread_pieces c few) piece_of.has in
              subst (λ (x : Text). order_at (Some x) q.pin ≤ 5) piece_of.named (small_name piece_of.p.name q.pin no_thread)

          by : (cell : Option Text) → HasPlace source (extended tokens c) cell → order_at cell q.pin ≤ 5
          by None has = omega arith
          by (Some name) has = of_name name has.0 has.1 (cell_named c.cells name) refl

      good_set : (a : Assignment) → Contains (tokens.sets c) a → IsGoodSet (answer tokens source) (extended tokens c) a
      good_set a has =
          each_at (λ (x : Assignment). IsGoodSet (answer tokens source) (extended tokens c) x) (tokens.sets c) a (tokens_agree source tree plain c in_design full few).sets has

      set_known : (a : Assignment) → Contains (tokens.sets c) a → (q : PortName) → Contains (set_ports a) q → order_at q.cell q.pin ≤ 5
      set_known a has q reads =
          let K : PortName → Type 0 = λ x. IsKnownPort (answer tokens source) (extended tokens c) x in
          let good = good_set a has in
          elim (Contains-append_cases (option_ports a.guard) (source_ports a.src) q reads) [
            | inl guard ↦ known_at q (All-contains K (option_ports a.guard) q good.names.guard guard)
            | inr src ↦ known_at q (All-contains K (source_ports a.src) q good.names.src src)
          ]

      piece_known : (x : Piece) → Contains (control_pieces c) x → (q : PortName) → Contains (set_ports (piece_set x)) q → order_at q.cell q.pin ≤ 5
      piece_known x has q reads = set_known (piece_set x) (Contains-flat_map piece_sets (control_pieces c) x (piece_set x) has (Contains-here (piece_set x) _)) q reads

      -- a wire of the token lowering
      same_order : (w : Piece) → Contains (control_pieces c) w → w.kind ≡ Wire → (pin : Text) → order_at (Some w.name) pin ≡ 5
      same_order w has wire pin = by (each_at (λ (p : Piece). IsPlaced source c p) (control_pieces c) w (pieces_placed source plain c in_design tree few) has)
        where
          by : IsPlaced source c w → order_at (Some w.name) pin ≡ 5
          by (AStart is) = ap (λ (x : Piece). order_at (Some x.name) pin) is
          by (ARegister kind register early) = let bad : Wire ≡ Register = sym wire ∙ kind in absurd (cc)
          by (AnActs g of is) = ap (λ (x : Piece). order_at (Some x.name) pin) is
          by (ADone g d of_g there named is) = ap (λ (x : Piece). order_at (Some x.name) pin) is
          by (AnEnd k guard small is later) = ap (λ (x : Piece). order_at (Some x.name) pin) is

      is_wire : (w : Piece) → Contains (wires c) w → w.kind ≡ Wire
      is_wire w has = each_at IsWire (wires c) w (all_wires c) has

      thread_port : (thread : Thread) (q : PortName) → Contains (shown (thread_name thread) ∷ []) q → shown (thread_name thread) ≡ q
      thread_port thread q has = elim (Contains-cases_first (shown (thread_name thread)) [] q has) [ inl same ↦ same | inr none ↦ absurd (Contains-none q none) ]

      abbrev IsShown : PortName → Type 0
      IsShown q = order_at q.cell q.pin < 3

      busy_ports : (q : PortName) → Contains (set_ports (piece_set (piece Wire busy_name (busy_guard (plan_of c))))) q → IsShown q
      busy_ports q reads =
          let ons : List (GuardTree PortName) = map is_on (threads (plan_of c)) in
          let on : All IsShown (guard_ports (any_of ons)) =
          any_ports IsShown ons (each_map (λ (g : GuardTree PortName). All IsShown (guard_ports g)) is_on (threads (plan_of c))
          (each_from (λ (t : Thread). All IsShown (guard_ports (is_on t))) (threads (plan_of c)) (λ t has.
          All-cons IsShown (shown (thread_name t)) [] (omega arith) (All-nil IsShown)))) in
          let over : All IsShown (guard_ports (Negates (is_set over_name))) = All-cons IsShown (shown over_name) [] (omega arith) (All-nil IsShown) in
          let all : All IsShown (guards_ports (guards_of (any_of ons ∷ Negates (is_set over_name) ∷ []))) = several IsShown (any_of ons ∷ Negates (is_set over_name) ∷ []) (on, (over, tt)) in
          All-contains IsShown (guard_ports (busy_guard (plan_of c))) q all (no_more (guard_ports (busy_guard (plan_of c))) q reads)

      wire_set : (p q : PortName) (w : Piece) → Contains (wires c) w → WireCase c w → port_of w.name (codes "in") ≡ p → Contains (set_ports (piece_set w)) q → Step ReadsThere c p q
      wire_set p q w has (IsSame kept) drives reads =
          let at : order c p ≡ 5 = order_full c p full ∙ ap (λ (x : PortName). order_at x.cell x.pin) (sym drives) ∙ same_order w kept (is_wire w has) (codes "in") in
          let level = order_full c q full in
          let small = piece_known w kept q reads in
          let there : Contains (tokens.sets c) (piece_set w) = Contains-flat_map piece_sets (control_pieces c) w (piece_set w) kept (Contains-here (piece_set w) _) in
          let set : Contains (l c).sets (piece_set w) =
          subst (λ (sets : List Assignment). Contains sets (piece_set w)) (sym (extended_sets tokens c full))
          (Contains-append_left (c.sets ++ tokens.sets c) (done_set ∷ []) (piece_set w) (Contains-append_right c.sets (tokens.sets c) (piece_set w) there)) in
          stays c p q at (omega (arith, level, small)) (ByAssignment (l c) p q (record { a = piece_set w; is = inl set; drives = drives; reads = reads }))
      wire_set p q w has (IsToken token state is) drives reads =
          let takes = token_takes token in
          let port : port_of (token_name token) (codes "in") ≡ p = ap (λ (x : Piece). port_of x.name (codes "in")) (sym is) ∙ drives in
          let one : Contains (shown (thread_name state.thread) ∷ []) q = no_more (shown (thread_name state.thread) ∷ []) q (subst (λ (x : Piece). Contains (set_ports (piece_set x)) q) is reads) in
          falls p q (port_of (token_name token) (codes "in")) (shown (thread_name state.thread)) port (thread_port state.thread q one) (omega (arith, takes))
      wire_set p q w has (IsBusy is) drives reads =
          let port : port_of busy_name (codes "in") ≡ p = ap (λ (x : Piece). port_of x.name (codes "in")) (sym is) ∙ drives in
          falls p q (port_of busy_name (codes "in")) q port refl (busy_ports q (subst (λ (x : Piece). Contains (set_ports (piece_set x)) q) is reads))
      wire_set p q w has (IsOver is) drives reads =
          let main : Thread = thread_of 0 (plan_of c) in
          let port : port_of over_name (codes "in") ≡ p = ap (λ (x : Piece). port_of x.name (codes "in")) (sym is) ∙ drives in
          let one : Contains (shown (thread_name main) ∷ []) q = no_more (shown (thread_name main) ∷ []) q (subst (λ (x : Piece). Contains (set_ports (piece_set x)) q) is reads) in
          falls p q (port_of over_name (codes "in")) (shown (thread_name main)) port (thread_port main q one) (omega arith)

      -- what a thread's register takes
      next_set : (p q : PortName) (thread : Thread) → port_of (thread_name thread) (codes "in") ≡ p → order_at q.cell q.pin ≤ 5 → Step ReadsThere c p q
      next_set p q thread port small = falls p q (port_of (thread_name thread) (codes "in")) q port refl (omega (arith, small))

      abbrev over_piece : Piece
      over_piece = over_register (plan_of c)

      has_over : Contains (control_pieces c) over_piece
      has_over =
          let plan : Plan = plan_of c in
          let groups : List Piece = flat_map (group_pieces plan) c.groups in
          let start : Piece = piece Wire start_name start_guard in
          let busy : Piece = busy_register plan in
          Contains-append_left (instance_pieces plan ++ groups) (plan_pieces plan) over_piece (Contains-append_left (instance_pieces plan) groups over_piece
          (Contains-there start (busy ∷ over_piece ∷ []) over_piece (Contains-there busy (over_piece ∷ []) over_piece (Contains-here over_piece []))))

      thread_set : (p q : PortName) (a : Assignment) → Contains (thread_sets (plan_of c)) a → a.dst ≡ p → Contains (set_ports a) q → Step ReadsThere c p q
      thread_set p q a has drives reads =
          let plan : Plan = plan_of c in
          let nexts : List Assignment = all_next_sets (plan_pieces plan) (plan_places plan) in
          elim (Contains-append_cases (over_set plan ∷ nexts) (map thread_enable (threads plan)) a has) [
            | inl front ↦ elim (Contains-cases_first (over_set plan) nexts a front) [
              | inl same ↦ next_set p q (thread_of 0 plan) (ap (λ (x : Assignment). x.dst) same ∙ drives)
                  (piece_known over_piece has_over q (subst (λ (x : Assignment). Contains (set_ports x) q) (sym same) reads))
              | inr there ↦
                  let next = next_case (plan_pieces plan) (plan_places plan) a there in
                  let groups : List Piece = flat_map (group_pieces plan) c.groups in
                  next_set p q next.thread (sym next.dst ∙ drives)
                  (piece_known next.p (Contains-append_right (instance_pieces plan ++ groups) (plan_pieces plan) next.p next.has) q
                  (Contains-append_left (option_ports next.p.guard) (source_ports next.p.src) q (next.ports q reads)))
            ]
            | inr enable ↦
                let t = Contains-from_map thread_enable (threads plan) a enable in
                absurd (Contains-none q (subst (λ (x : Assignment). Contains (set_ports x) q) (sym t.2) reads))
          ]

      added_set : (p q : PortName) (a : Assignment) → Contains (encoding.sets c) a → a.dst ≡ p → Contains (set_ports a) q → Step ReadsThere c p q
      added_set p q a has drives reads = elim (Contains-append_cases (flat_map piece_sets (wires c)) (thread_sets (plan_of c)) a has) [
        | inr of_thread ↦ thread_set p q a of_thread drives reads
        | inl of_wire ↦
            let w = Contains-from_flat_map piece_sets (wires c) a of_wire in
            elim (piece_set_case w.0 a w.2) [
              | inl same ↦ wire_set p q w.0 w.1 (wire_case c w.0 w.1) (ap (λ (x : Assignment). x.dst) same ∙ drives) (subst (λ (x : Assignment). Contains (set_ports x) q) (sym same) reads)
              | inr enables ↦
                  let none : Contains [] q = subst (λ (x : Assignment). Contains (set_ports x) q) (sym enables) reads in
                  absurd (Contains-none q none)
            ]
      ]

      full_set : (p q : PortName) (a : Assignment) → Contains (extended encoding c).sets a → a.dst ≡ p → Contains (set_ports a) q → Step ReadsThere c p q
      full_set p q a has drives reads =
          let there : Contains (c.sets ++ encoding.sets c ++ done_set ∷ []) a = subst (λ (sets : List Assignment). Contains sets a) (extended_sets encoding c full) has in
          elim (Contains-append_cases (c.sets ++ encoding.sets c) (done_set ∷ []) a there) [
            | inl front ↦ elim (Contains-append_cases c.sets (encoding.sets c) a front) [
              | inl own ↦ own_set p q a own drives reads
              | inr added ↦ added_set p q a added drives reads
            ]
            | inr last ↦ elim (Contains-cases_first done_set [] a last) [
              | inr none ↦ absurd (Contains-none a none)
              | inl same ↦
                  let one : Contains (shown over_name ∷ []) q = subst (λ (x : Assignment). Contains (set_ports x) q) (sym same) reads in
                  elim (Contains-cases_first (shown over_name) [] q one) [
                    | inl is ↦ falls p q (own (codes "done")) (shown over_name) (ap (λ (x : Assignment). x.dst) same ∙ drives) is (omega arith)
                    | inr none ↦ absurd (Contains-none q none)
                  ]
            ]
          ]

      -- ---- primitives that are added

      added_primitive : (p q : PortName) (r : ReadsByPrimitive (e c) p q) → cell_named c.cells r.cell ≡ None → Step ReadsThere c p q
      added_primitive p q r none =
          let found : option_and_then primitive_of (cell_named (added_cells encoding c) r.cell) ≡ Some r.prim =
          sym (ap (option_and_then primitive_of) (cell_other encoding c r.cell none)) ∙ r.made in
          by (cell_named (added_cells encoding c) r.cell) refl found
        where
          of_thread : (t : Thread) → primitive_of (thread_cell t) ≡ Some r.prim → ⊥
          of_thread t is =
              let prim : StdReg (width_of t) ≡ r.prim = same_Some (StdReg (width_of t)) r.prim (sym (thread_made t) ∙ is) in
              register_apart (width_of t) r.output r.input (subst (λ (x : Primitive). DependsWithinRow x r.output r.input) (sym prim) r.depends)

          of_wire : (w : Piece) → Contains (wires c) w → w.name ≡ r.cell → primitive_of (piece_cell w) ≡ Some r.prim → WireCase c w → Step ReadsThere c p q
          of_wire w has name is wire =
              let prim : prim_for w.kind ≡ r.prim = same_Some (prim_for w.kind) r.prim (sym (piece_made w) ∙ is) in
              let d = wire_depends w.kind r.output r.input (subst (λ (x : Primitive). DependsWithinRow x r.output r.input) (sym prim) r.depends) in
              let output : shown w.name ≡ p = ap₂ port_of name (sym d.1) ∙ sym r.is_output in
              let input : port_of w.name (codes "in") ≡ q = ap₂ port_of name (sym d.2) ∙ sym r.is_input in
              elim wire [
                | IsSame kept ↦
                    let one = order_full c p full ∙ ap (λ (x : PortName). order_at x.cell x.pin) (sym output) ∙ same_order w kept d.0 (codes "out") in
                    let two = order_full c q full ∙ ap (λ (x : PortName). order_at x.cell x.pin) (sym input) ∙ same_order w kept d.0 (codes "in") in
                    let made : primitive_in (extended tokens c) r.cell ≡ Some r.prim =
                    ap (primitive_in (extended tokens c)) (sym name) ∙ piece_primitive source tree plain c in_design full few w kept ∙ ap (λ (x : Primitive). Some x) prim in
                    inr (
                      one ∙ sym two,
                      ByPrimitive (l c) p q (record {
                        cell = r.cell;
                        prim = r.prim;
                        made = made;
                        output = r.output;
                        input = r.input;
                        depends = r.depends;
                        is_output = r.is_output;
                        is_input = r.is_input;
                      }),
                    )
                | IsToken token state same ↦
                    let takes = token_takes token in
                    let shows = token_shows token in
                    falls p q (shown (token_name token)) (port_of (token_name token) (codes "in")) (ap (λ (x : Piece). shown x.name) (sym same) ∙ output)
                    (ap (λ (x : Piece). port_of x.name (codes "in")) (sym same) ∙ input) (omega (arith, takes, shows))
                | IsBusy same ↦
                    falls p q (shown busy_name) (port_of busy_name (codes "in")) (ap (λ (x : Piece). shown x.name) (sym same) ∙ output)
                    (ap (λ (x : Piece). port_of x.name (codes "in")) (sym same) ∙ input) (omega arith)
                | IsOver same ↦
                    falls p q (shown over_name) (port_of over_name (codes "in")) (ap (λ (x : Piece). shown x.name) (sym same) ∙ output)
                    (ap (λ (x : Piece). port_of x.name (codes "in")) (sym same) ∙ input) (omega arith)
              ]

          by : (o : Option CellDef) → cell_named (added_cells encoding c) r.cell ≡ o → option_and_then primitive_of o ≡ Some r.prim → Step ReadsThere c p q
          by None at is = absurd (cc)
          by (Some x) at is =
              let C : List CellDef → Type 0 = λ cells. Contains cells x in
              let f = find-Some (λ (y : CellDef). bytes_eq y.name r.cell) (added_cells encoding c) x at in
              let name : x.name ≡ r.cell = (bytes_eq-Decides x.name r.cell).0 f.1 in
              elim (Contains-append_cases (map piece_cell (wires c)) (map thread_cell (threads (plan_of c))) x (subst C (cond-false (is_bare c) [] (encoding.cells c) full) f.0)) [
                | inl wire ↦
                    let w = Contains-from_map piece_cell (wires c) x wire in
                    of_wire w.0 w.1 (ap (λ (y : CellDef). y.name) w.2 ∙ name) (ap primitive_of w.2 ∙ is) (wire_case c w.0 w.1)
                | inr thread ↦
                    let t = Contains-from_map thread_cell (threads (plan_of c)) x thread in
                    absurd (of_thread t.0 (ap primitive_of t.2 ∙ is))
              ]

    -- ---- what is read

    by_set : (p q : PortName) → ReadsByAssignment E (e c) p q → Step ReadsThere c p q
    by_set p q r = elim r.is [
      | inr (g, is, has) ↦ by_group p q g (record { is = is; a = r.a; has = has; drives = r.drives }) r.reads
      | inl there ↦ elim (cases_Bool (is_bare c)) [
        | inl bare ↦ own_set p q r.a (subst (λ (x : Component). Contains x.sets r.a) (extended_bare encoding c bare) there) r.drives r.reads
        | inr full ↦ full_set full p q r.a there r.drives r.reads
      ]
    ]

    by_primitive : (p q : PortName) → ReadsByPrimitive (e c) p q → Step ReadsThere c p q
    by_primitive p q r = by (cell_named c.cells r.cell) refl
      where
        by : (o : Option CellDef) → cell_named c.cells r.cell ≡ o → Step ReadsThere c p q
        by (Some x) at =
            let has : HasPlace source c (Some r.cell) = (x, at) in
            let made : primitive_in (extended tokens c) r.cell ≡ Some r.prim =
            primitive_kept tokens c r.cell x at ∙ sym (primitive_kept encoding c r.cell x at) ∙ r.made in
            stays c p q (placed p (subst (λ (y : PortName). HasPlace source c y.cell) (sym r.is_output) has))
            (placed_small q (subst (λ (y : PortName). HasPlace source c y.cell) (sym r.is_input) has))
            (ByPrimitive (l c) p q (record {
              cell = r.cell;
              prim = r.prim;
              made = made;
              output = r.output;
              input = r.input;
              depends = r.depends;
              is_output = r.is_output;
              is_input = r.is_input;
            }))
        by None at = elim (cases_Bool (is_bare c)) [
          | inl bare ↦
              let none : None ≡ Some r.prim =
              sym (ap (option_and_then primitive_of) at) ∙ ap (λ (x : Component). primitive_in x r.cell) (sym (extended_bare encoding c bare)) ∙ r.made in
              absurd (cc)
          | inr full ↦ added_primitive full p q r at
        ]

    part_place : (cell : Text) (b : Component) → part_in source c cell ≡ Some b → HasPlace source c (Some cell)
    part_place cell b made = by (cell_named c.cells cell) refl
      where
        by : (o : Option CellDef) → cell_named c.cells cell ≡ o → HasPlace source c (Some cell)
        by (Some x) at = (x, at)
        by None at = let none : None ≡ Some b = sym (ap (option_and_then (part_of source)) at) ∙ made in absurd (cc)

    -- over a cell of a component, where its output reaches its input in the other design too
    by_part : (p q : PortName) (part : Component) (output input : Text) (r : CrossesCell E (e c) part p q output input)
        → ((b : Component) → Contains source b → e b ≡ part → Step ReachesThere b (own output) (own input)) → Step ReadsThere c p q
    by_part p q part output input r inner =
        let b = part_before encoding encoding_made source c r.cell part r.made in
        let has : HasPlace source c (Some r.cell) = part_place r.cell b.0 b.1 in
        let of_design : Contains source b.0 = part_in-design source c r.cell b.0 b.1 in
        let outs : outputs_in part ≡ outputs_in (l b.0) = ap outputs_in (sym b.2) ∙ extended_outputs encoding b.0 ∙ sym (extended_outputs tokens b.0) in
        let ins : inputs_in part ≡ inputs_in (l b.0) = ap inputs_in (sym b.2) ∙ extended_inputs encoding b.0 ∙ sym (extended_inputs tokens b.0) in
        let crosses : CrossesCell L (l c) (l b.0) p q output input = record {
          cell = r.cell;
          made = part_after tokens tokens_made source c r.cell b.0 b.1;
          has_output = subst (λ (pins : List Pin). Contains (pin_names pins) output) outs r.has_output;
          has_input = subst (λ (pins : List Pin). Contains (pin_names pins) input) ins r.has_input;
          is_output = r.is_output;
          is_input = r.is_input;
        } in
        elim (inner b.0 of_design b.2) [
          | inl less ↦ absurd (own_apart b.0 output input less)
          | inr (level, reaches) ↦
              stays c p q (placed p (subst (λ (y : PortName). HasPlace source c y.cell) (sym r.is_output) has))
              (placed_small q (subst (λ (y : PortName). HasPlace source c y.cell) (sym r.is_input) has)) (ByComponent (l c) (l b.0) p q output input crosses reaches)
        ]

  -- ---- what is reached

  mutual
    read_on : (d : Component) (p q : PortName) → ReadsPort E d p q → (c : Component) → Contains source c → e c ≡ d → Step ReadsThere c p q
    read_on d p q (ByAssignment x p' q' r) c has same = by_set c has p' q' (subst (λ (y : Component). ReadsByAssignment E y p' q') (sym same) r)
    read_on d p q (ByDone x p' q' r) c has same = by_done c has p' q' (subst (λ (y : Component). ReadsByDone E y p' q') (sym same) r)
    read_on d p q (ByGo x p' q' r) c has same = by_go c has p' q' (subst (λ (y : Component). ReadsByGo E y p' q') (sym same) r)
    read_on d p q (ByPrimitive x p' q' r) c has same = by_primitive c has p' q' (subst (λ (y : Component). ReadsByPrimitive y p' q') (sym same) r)
    read_on d p q (ByComponent x part p' q' output input r there) c has same =
        by_part c has p' q' part output input (subst (λ (y : Component). CrossesCell E y part p' q' output input) (sym same) r)
        (λ b has_b is. reach_on part (own output) (own input) there b has_b is)

    reach_on : (d : Component) (p q : PortName) → Reaches E d p q → (c : Component) → Contains source c → e c ≡ d → Step ReachesThere c p q
    reach_on d p q (Straight x p' q' r) c has same = at_once c p' q' (read_on x p' q' r c has same)
    reach_on d p q (Over x p' between q' r rest) c has same = over c p' between q' (read_on x p' between r c has same) (reach_on x between q' rest c has same)

  no_loop : (c : Component) → Contains source c → HasNoLoop E (e c)
  no_loop c has first others loop = elim (reach_on (e c) first first (along_reaches E (e c) first others first loop.along) c has refl) [
    | inl less ↦ omega (arith, less)
    | inr (level, round) ↦ reaches_no_itself L (l c) first (no_loop_in source tree plain all_few c has) round
  ]

  pub no_loops : HasNoLoops E
  no_loops n d at =
      let x = some_found (guarded (answer encoding source) (rules_from 0 source)) (slice_get (answer encoding source) n) d
      (sym (slice_get-map (guarded (answer encoding source) (rules_from 0 source)) (answer encoding source) n) ∙ at) in
      let c = some_found (extended encoding) (slice_get source n) x.0 (sym (slice_get-map (extended encoding) source n) ∙ x.1) in
      let same : e c.0 ≡ d = ap (guarded (answer encoding source) (rules_from 0 source)) c.2 ∙ x.2 in
      subst (λ (y : Component). HasNoLoop E y) same (no_loop c.0 (Contains-at source n c.0 c.1))
