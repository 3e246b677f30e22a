-- What the lowering to states adds agrees with the rules: its wires read known sources of the right widths, and so does what brings threads to states.
use Rattle.std.proofs.Common.{◌≡◌, ℕ, ◌+◌, ◌≤◌, ◌^◌, List, [], ◌∷◌, ◌++◌, map, false, Option, Some, refl, ap, ap₂, subst, ◌∙◌, arith}
use Rattle.std.specs.Prelude.{All, Contains, flat_map, codes, is_some, option_map}
use Rattle.std.proofs.lemmas.List.Elements.{All-nil, All-cons, All-append}
use Rattle.std.proofs.lemmas.Nat.{pow_pos}
use Rattle.hw_names.specs.Name.{Text}
use Rattle.hw_prims.specs.Table.{pin, inputs_of, outputs_of}
use Rattle.hw_prims.specs.declared.prim.Primitive.TheVariants.{StdReg}
use Rattle.net_core.specs.Graph.{guard_ports, guards_ports, option_ports}
use Rattle.net_core.specs.Guard.{GuardTree, GuardTrees, Negates, guards_of}
use Rattle.net_core.specs.declared.net.Src.TheVariants.{Lit}
use Rattle.cal_ast.proofs.ListLemmas.{Contains-here, Contains-map}
use Rattle.cal_ast.proofs.LookupLemmas.{cell_inputs-primitive, cell_outputs-primitive}
use Rattle.cal_ast.specs.Holes.{IsGuardOf}
use Rattle.cal_ast.specs.Naming.{IsKnownPort}
use Rattle.cal_ast.specs.NoInvoke.{IsPlainDesign}
use Rattle.cal_ast.specs.Plain.{HasPlainTree}
use Rattle.cal_ast.specs.Plan.{Plan, plan_of}
use Rattle.cal_ast.specs.Ports.{is_bare, primitive_in, Input, Output, SidedPin, both_sides, ports_at, port_named, port_in}
use Rattle.cal_ast.specs.Sides.{IsSource}
use Rattle.cal_ast.specs.Tree.{PortName, port_of, Assignment, Component, Design}
use Rattle.cal_ast.specs.Typing.{LiteralFits, GuardsAgree, OptionAgrees}
use Rattle.cal_token.specs.inside.Tokens.{size}
use Rattle.cal_lower.specs.inside.Added.{extended}
use Rattle.cal_lower.specs.inside.Lowered.{control_pieces, group_pieces, instance_pieces, plan_pieces}
use Rattle.cal_lower.specs.inside.Pieces.{Piece, Wire, piece, piece_cell, piece_sets, never, both, any_of, is_set, shown, over_name}
use Rattle.cal_lower.proofs.ControlGoodLemmas.{acts_bit, over_bit, pieces_good}
use Rattle.cal_lower.proofs.ExtendedLemmas.{answer}
use Rattle.cal_lower.proofs.GoodLemmas.{IsBitPort, IsGoodPiece, IsGoodSet, guard_from_bits, is_width_one, sets_good, shown_bit}
use Rattle.cal_lower.proofs.ListLemmas.{Each, each_append, each_at, each_flat_map, each_from, each_left, each_map, each_right}
use Rattle.cal_lower.proofs.LoweredLemmas.{prim_for, piece_made}
use Rattle.cal_lower.proofs.RulesKeptLemmas.{AgreesWithRules}
use Rattle.cal_lower.proofs.ShownLemmas.{added_primitive}
use Rattle.cal_state.specs.inside.Encoded.{over_set, instance_wires, thread_sets, wires}
use Rattle.cal_state.specs.inside.States.{all_next_sets, as_wires, is_in, is_on, thread_cell, thread_enable, thread_name, width_of}
use Rattle.cal_state.specs.inside.Threads.{Thread, Place, NoState, IsIn, ended_state, inner_threads, plan_places, thread_of, threads}
use Rattle.cal_state.proofs.AddedStateLemmas.{encoding, encoding_made, encoding_named, thread_added, thread_made, wire_added}
use Rattle.cal_state.proofs.EncodedLemmas.{piece_names, wires_named}
use Rattle.cal_state.proofs.FitLemmas.{IsWithin, lasting_small, plan_within, state_fits}
use Rattle.cal_state.proofs.ThreadLemmas.{IsOfPlan, of_plan}
use Rattle.cal_state.proofs.WidthLemmas.{width_is}

-- ---- the ports of a register

register_out : (width : ℕ) → port_named (both_sides (inputs_of (StdReg width)) (outputs_of (StdReg width))) (codes "out") ≡ Some (record { side = Output; pin = pin (codes "out") width })
unfolding inputs_of outputs_of
register_out width = refl

register_in : (width : ℕ) → port_named (both_sides (inputs_of (StdReg width)) (outputs_of (StdReg width))) (codes "in") ≡ Some (record { side = Input; pin = pin (codes "in") width })
unfolding inputs_of outputs_of
register_in width = refl

register_enable : (width : ℕ)
    → port_named (both_sides (inputs_of (StdReg width)) (outputs_of (StdReg width))) (codes "write_en") ≡ Some (record { side = Input; pin = pin (codes "write_en") 1 })
unfolding inputs_of outputs_of
register_enable width = refl

-- ---- guards

module _ (design : Design) (d : Component) where
  abbrev Good : GuardTree PortName → Type 0
  Good g = IsGuardOf design d g

  -- several guards, each of which is good
  record AreGood (gs : GuardTrees PortName) : Type 0 where
    known : All (IsKnownPort design d) (guards_ports gs)
    widths : GuardsAgree design d gs
    sources : All (IsSource design d) (guards_ports gs)

  are_good : (gs : List (GuardTree PortName)) → Each Good gs → AreGood (guards_of gs)
  are_good [] all = record { known = All-nil (IsKnownPort design d); widths = tt; sources = All-nil (IsSource design d) }
  are_good (g ∷ gs) all =
      let rest = are_good gs all.1 in
      record {
        known = All-append (IsKnownPort design d) (guard_ports g) (guards_ports (guards_of gs)) all.0.known rest.known;
        widths = (all.0.widths, rest.widths);
        sources = All-append (IsSource design d) (guard_ports g) (guards_ports (guards_of gs)) all.0.sources rest.sources;
      }

  both_good : (a b : GuardTree PortName) → Good a → Good b → Good (both a b)
  both_good a b one other =
      let all = are_good (a ∷ b ∷ []) (one, (other, tt)) in record { known = all.known; widths = all.widths; sources = all.sources }

  any_good : (gs : List (GuardTree PortName)) → Each Good gs → Good (any_of gs)
  any_good [] all = guard_from_bits design d never (refl, omega arith)
  any_good (g ∷ []) all = all.0
  any_good (g ∷ h ∷ gs) all = let is = are_good (g ∷ h ∷ gs) all in record { known = is.known; widths = is.widths; sources = is.sources }

  -- a wire that is driven by 1
  wire_good : (name : Text) (g : GuardTree PortName) → Good g → IsGoodPiece design d (piece Wire name g)
  wire_good name g good = record {
    guard_known = good.known;
    guard_agrees = good.widths;
    guard_sources = good.sources;
    known = All-nil (IsKnownPort design d);
    literal = (is_width_one, omega arith);
    width = refl;
    sources = All-nil (IsSource design d);
  }

module _ (source : Design) (tree : HasPlainTree source) (plain : IsPlainDesign source) (c : Component) (in_design : Contains source c) (full : is_bare c ≡ false)
    (few : size (plan_of c) ≤ 2 ^ 64) where
  abbrev low : Design
  low = answer encoding source

  abbrev d : Component
  d = extended encoding c

  abbrev plan : Plan
  plan = plan_of c

  abbrev Bit : PortName → Type 0
  Bit q = IsBitPort low d q

  abbrev GoodGuard : GuardTree PortName → Type 0
  GoodGuard g = IsGuardOf low d g

  abbrev GoodPiece : Piece → Type 0
  GoodPiece p = IsGoodPiece low d p

  abbrev GoodSet : Assignment → Type 0
  GoodSet a = IsGoodSet low d a

  -- ---- what wires show

  pub wire_primitive : (p : Piece) → Contains (wires c) p → primitive_in d p.name ≡ Some (prim_for p.kind)
  wire_primitive p has =
      added_primitive encoding source tree plain c in_design full (encoding_named source tree plain c in_design few) (piece_cell p) (prim_for p.kind)
      (wire_added source tree plain c in_design few p has).has (piece_made p)

  wire_bit : (p : Piece) → Contains (wires c) p → Bit (shown p.name)
  wire_bit p has =
      let made = wire_primitive p has in
      shown_bit low d p (cell_inputs-primitive low d p.name (prim_for p.kind) made) (cell_outputs-primitive low d p.name (prim_for p.kind) made)

  -- wires have the names of the pieces of the other lowering
  piece_bit : (p : Piece) → Contains (control_pieces c) p → Bit (shown p.name)
  piece_bit p has =
      let N : Text → Type 0 = λ name. Bit (shown name) in
      let named : Each N (piece_names (wires c)) = each_map N (λ (q : Piece). q.name) (wires c) (each_from (λ (q : Piece). N q.name) (wires c) wire_bit) in
      each_at N (piece_names (control_pieces c)) p.name (subst (λ (names : List Text). Each N names) (wires_named c) named) (Contains-map (λ (q : Piece). q.name) (control_pieces c) p has)

  good_pieces : Each GoodPiece (control_pieces c)
  good_pieces = pieces_good encoding encoding_made source tree plain c in_design full piece_bit

  -- ---- the register of a thread

  module _ (thread : Thread) (has : Contains (threads plan) thread) where
    pub thread_primitive : primitive_in d (thread_name thread) ≡ Some (StdReg (width_of thread))
    thread_primitive =
        added_primitive encoding source tree plain c in_design full (encoding_named source tree plain c in_design few) (thread_cell thread) (StdReg (width_of thread))
        (thread_added source tree plain c in_design few thread has) (thread_made thread)

    ports_are : ports_at low d (Some (thread_name thread)) ≡ both_sides (inputs_of (StdReg (width_of thread))) (outputs_of (StdReg (width_of thread)))
    ports_are =
        ap₂ both_sides (cell_inputs-primitive low d (thread_name thread) (StdReg (width_of thread)) thread_primitive)
        (cell_outputs-primitive low d (thread_name thread) (StdReg (width_of thread)) thread_primitive)

    out_is : port_in low d (shown (thread_name thread)) ≡ Some (record { side = Output; pin = pin (codes "out") (width_of thread) })
    out_is = ap (λ ports. port_named ports (codes "out")) ports_are ∙ register_out (width_of thread)

    in_is : port_in low d (port_of (thread_name thread) (codes "in")) ≡ Some (record { side = Input; pin = pin (codes "in") (width_of thread) })
    in_is = ap (λ ports. port_named ports (codes "in")) ports_are ∙ register_in (width_of thread)

    enable_is : port_in low d (port_of (thread_name thread) (codes "write_en")) ≡ Some (record { side = Input; pin = pin (codes "write_en") 1 })
    enable_is = ap (λ ports. port_named ports (codes "write_en")) ports_are ∙ register_enable (width_of thread)

    known_out : All (IsKnownPort low d) (shown (thread_name thread) ∷ [])
    known_out = All-cons (IsKnownPort low d) (shown (thread_name thread)) [] (ap (λ (o : Option SidedPin). is_some o) out_is) (All-nil (IsKnownPort low d))

    source_out : All (IsSource low d) (shown (thread_name thread) ∷ [])
    source_out = All-cons (IsSource low d) (shown (thread_name thread)) [] (ap (option_map (λ (q : SidedPin). q.side)) out_is) (All-nil (IsSource low d))

    -- guards that compare it
    in_good : (n : ℕ) → LiteralFits (Lit (width_of thread) n) → GoodGuard (is_in (record { thread = thread; number = n }))
    in_good n fits = record { known = known_out; widths = (tt, fits, ap (option_map (λ (q : SidedPin). q.pin.width)) out_is); sources = source_out }

    on_good : GoodGuard (is_on thread)
    on_good =
        let is = width_is thread in
        let zero : LiteralFits (Lit (width_of thread) 0) = ((is.some, is.few), pow_pos (width_of thread)) in
        record { known = known_out; widths = (tt, zero, ap (option_map (λ (q : SidedPin). q.pin.width)) out_is); sources = source_out }

    -- what brings it to a state, where a good guard is true
    next_good : (n : ℕ) (guard : Option (GuardTree PortName)) → LiteralFits (Lit (width_of thread) n) → All (IsKnownPort low d) (option_ports guard) → OptionAgrees low d guard
        → All (IsSource low d) (option_ports guard) → GoodSet (record { dst = port_of (thread_name thread) (codes "in"); guard = guard; src = Lit (width_of thread) n })
    next_good n guard fits known agrees sources = record {
      names = record { dst = ap (λ (o : Option SidedPin). is_some o) in_is; guard = known; src = All-nil (IsKnownPort low d) };
      widths = record { literal = fits; sides = ap (option_map (λ (q : SidedPin). q.pin.width)) in_is; guard = agrees };
      drives = record { side = ap (option_map (λ (q : SidedPin). q.side)) in_is; not_done = λ control. refl };
      reads = (sources, All-nil (IsSource low d));
    }

    enable_good : GoodSet (thread_enable thread)
    enable_good = record {
      names = record { dst = ap (λ (o : Option SidedPin). is_some o) enable_is; guard = All-nil (IsKnownPort low d); src = All-nil (IsKnownPort low d) };
      widths = record { literal = (is_width_one, omega arith); sides = ap (option_map (λ (q : SidedPin). q.pin.width)) enable_is; guard = tt };
      drives = record { side = ap (option_map (λ (q : SidedPin). q.side)) enable_is; not_done = λ control. refl };
      reads = (All-nil (IsSource low d), All-nil (IsSource low d));
    }

  -- ---- the wires

  abbrev group_part : List Piece
  group_part = flat_map (group_pieces plan) c.groups

  abbrev front : List Piece
  front = instance_pieces plan ++ group_part

  good_front : Each GoodPiece front
  good_front = each_left GoodPiece front (plan_pieces plan) good_pieces

  good_instance : Each GoodPiece (instance_pieces plan)
  good_instance = each_left GoodPiece (instance_pieces plan) group_part good_front

  good_plan : Each GoodPiece (plan_pieces plan)
  good_plan = each_right GoodPiece front (plan_pieces plan) good_pieces

  main : Contains (threads plan) (thread_of 0 plan)
  main = Contains-here (thread_of 0 plan) (inner_threads 0 plan)

  main_fits : LiteralFits (Lit (width_of (thread_of 0 plan)) ended_state)
  main_fits = let less = lasting_small plan in state_fits (thread_of 0 plan) ended_state (omega arith) (omega (arith, few, less))

  good_busy : GoodGuard (both (any_of (map is_on (threads plan))) (Negates (is_set over_name)))
  good_busy =
      let over : Bit (shown over_name) = over_bit encoding encoding_made source tree plain c in_design full piece_bit in
      both_good low d (any_of (map is_on (threads plan))) (Negates (is_set over_name))
      (any_good low d (map is_on (threads plan)) (each_map GoodGuard is_on (threads plan) (each_from (λ (t : Thread). GoodGuard (is_on t)) (threads plan) on_good)))
      (guard_from_bits low d (Negates (is_set over_name)) over)

  wires_of_instance : Each GoodPiece (instance_wires plan)
  wires_of_instance = (
    good_instance.0,
    (wire_good low d _ _ good_busy, (wire_good low d _ _ (in_good (thread_of 0 plan) main ended_state main_fits), tt)),
  )

  -- a state of a thread of the plan, whose number fits
  abbrev Within : Place → Type 0
  Within x = IsWithin (2 ^ 64 + 1) x

  as_good : (ps : List Piece) (xs : List Place) → Each GoodPiece ps → Each (IsOfPlan plan) xs → Each Within xs → Each GoodPiece (as_wires ps xs)
  as_good [] xs good of within = tt
  as_good (p ∷ ps) [] good of within = tt
  as_good (p ∷ ps) (NoState ∷ xs) good of within = (good.0, as_good ps xs good.1 of.1 within.1)
  as_good (p ∷ ps) (IsIn token state ∷ xs) good of within = (
    wire_good low d p.name (is_in state) (in_good state.thread of.0.among state.number (state_fits state.thread state.number within.0.0 within.0.1)),
    as_good ps xs good.1 of.1 within.1,
  )

  plan_room : Each Within (plan_places plan)
  plan_room = plan_within (2 ^ 64 + 1) plan (omega (arith, few))

  good_wires : Each GoodPiece (wires c)
  good_wires =
      each_append GoodPiece (instance_wires plan ++ group_part) (as_wires (plan_pieces plan) (plan_places plan))
      (each_append GoodPiece (instance_wires plan) group_part wires_of_instance (each_right GoodPiece (instance_pieces plan) group_part good_front))
      (as_good (plan_pieces plan) (plan_places plan) good_plan (of_plan plan) plan_room)

  wire_sets_good : (p : Piece) → Contains (wires c) p → Each GoodSet (piece_sets p)
  wire_sets_good p has =
      let made = wire_primitive p has in
      sets_good low d p (cell_inputs-primitive low d p.name (prim_for p.kind) made) (cell_outputs-primitive low d p.name (prim_for p.kind) made)
      (each_at GoodPiece (wires c) p good_wires has)

  -- ---- what brings threads to states

  next_sets_good : (ps : List Piece) (xs : List Place) → Each GoodPiece ps → Each (IsOfPlan plan) xs → Each Within xs → Each GoodSet (all_next_sets ps xs)
  next_sets_good [] xs good of within = tt
  next_sets_good (p ∷ ps) [] good of within = tt
  next_sets_good (p ∷ ps) (NoState ∷ xs) good of within = next_sets_good ps xs good.1 of.1 within.1
  next_sets_good (p ∷ ps) (IsIn token state ∷ xs) good of within = (
    next_good state.thread of.0.among state.number p.guard (state_fits state.thread state.number within.0.0 within.0.1) good.0.guard_known good.0.guard_agrees good.0.guard_sources,
    next_sets_good ps xs good.1 of.1 within.1,
  )

  thread_sets_good : Each GoodSet (thread_sets plan)
  thread_sets_good =
      let over = good_instance.1.1.0 in (
        next_good (thread_of 0 plan) main ended_state (over_set plan).guard main_fits over.guard_known over.guard_agrees over.guard_sources,
        each_append GoodSet (all_next_sets (plan_pieces plan) (plan_places plan)) (map thread_enable (threads plan))
            (next_sets_good (plan_pieces plan) (plan_places plan) good_plan (of_plan plan) plan_room)
            (each_map GoodSet thread_enable (threads plan) (each_from (λ (t : Thread). GoodSet (thread_enable t)) (threads plan) enable_good)),
      )

  pub encoding_agrees : AgreesWithRules encoding source c
  encoding_agrees = record {
    sets = each_append GoodSet (flat_map piece_sets (wires c)) (thread_sets plan)
        (each_flat_map GoodSet piece_sets (wires c) (each_from (λ (p : Piece). Each GoodSet (piece_sets p)) (wires c) wire_sets_good)) thread_sets_good;
    over = over_bit encoding encoding_made source tree plain c in_design full piece_bit;
    acts = acts_bit encoding encoding_made source tree plain c in_design full piece_bit;
  }
