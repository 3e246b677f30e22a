-- In a component with control each piece reads known sources of one bit: the ports of its conditions, its go, its done lines and other pieces.
use Rattle.std.proofs.Common.{◌≡◌, inl, inr, ℕ, List, [], ◌∷◌, ◌++◌, map, take, length, false, Some, sym, ap, subst, ◌∙◌, arith}
use Rattle.std.specs.Prelude.{Contains, flat_map, slice_get, codes, is_some}
use Rattle.std.proofs.lemmas.Bool.{cases_Bool, cond-true, cond-false}
use Rattle.std.proofs.lemmas.List.Elements.{Contains-append_left, Contains-append_right}
use Rattle.hw_prims.specs.Table.{Pin, pin_names}
use Rattle.net_core.specs.Graph.{option_ports, source_ports}
use Rattle.net_core.specs.Guard.{GuardTree, Negates}
use Rattle.cal_ast.proofs.ItemLemmas.{has_widths, statement_item, statement_names_known, statement_reads, done_item, done_names_known, done_reads_sources}
use Rattle.cal_ast.proofs.ListLemmas.{place_of, Contains-here, Contains-there, Contains-map, Contains-flat_map}
use Rattle.cal_ast.proofs.SideLemmas.{input_first, some_found}
use Rattle.cal_ast.specs.Actors.{Actor, GroupNamed}
use Rattle.cal_ast.specs.Controlling.{HasCondition}
use Rattle.cal_ast.specs.Items.{TheDone, TheStatement, control_statements, items_before_control}
use Rattle.cal_ast.specs.Naming.{AnyName, IsKnownPort, StatementNamesKnown}
use Rattle.cal_ast.specs.NoInvoke.{IsPlainDesign}
use Rattle.cal_ast.specs.Plain.{HasPlainTree}
use Rattle.cal_ast.specs.Plan.{plan_of}
use Rattle.cal_ast.specs.Ports.{is_bare, inputs_in, outputs_in, with_pin, SidedPin, port_in, width_in}
use Rattle.cal_ast.specs.Rules.{C1}
use Rattle.cal_ast.specs.Sides.{IsSource, StatementReads}
use Rattle.cal_ast.specs.Statement.{IfCondition}
use Rattle.cal_ast.specs.Tree.{PortName, own, DoneLine, GroupDef, Statement, Enable, Seq, Par, If, While, Invoke, Component, Design}
use Rattle.cal_walk.specs.Left.{is_over}
use Rattle.cal_lower.specs.inside.Added.{Additions, extended}
use Rattle.cal_lower.specs.inside.Lowered.{acts_guard, acts_wire, done_wire, group_pieces, control_ends, start_guard, instance_pieces, plan_pieces, control_pieces}
use Rattle.cal_lower.specs.inside.Parts.{part_ends, part_pieces, enabling, testing}
use Rattle.cal_lower.specs.inside.Pieces.{Piece, Wire, Register, piece, start_name, busy_name, over_name, acts_name, done_name, shown, is_set, either, both, any_of, is_done}
use Rattle.cal_lower.proofs.BitLemmas.{IsBitGuard, IsBitPiece, IsNamed, IsDoneSeen, one_bit, EachPort, any_bits, first_named, part_bits, enabling_bits, testing_bits}
use Rattle.cal_lower.proofs.ConditionLemmas.{section_ports}
use Rattle.cal_lower.proofs.ControlLemmas.{enabled_weaker}
use Rattle.cal_lower.proofs.ExtendedLemmas.{AreOfPrimitives, answer, source_kept}
use Rattle.cal_lower.proofs.GoodLemmas.{IsBitPort, IsGoodPiece, good_from_bits}
use Rattle.cal_lower.proofs.KnownLemmas.{known_kept, width_kept, option_kept, all_known, all_sources, source_width_kept}
use Rattle.cal_lower.proofs.ListLemmas.{Each, each_append, each_right, each_from, each_weaker, each_map, each_flat_map}
use Rattle.cal_lower.proofs.OverLemmas.{over_enabling, over_testing}
use Rattle.cal_lower.proofs.PartLemmas.{EachEnabled}
use Rattle.cal_lower.proofs.PinLemmas.{with_pin_has}
use Rattle.cal_lower.proofs.SourceLemmas.{IsOwnGroup, plan_is_own, one_done, HasOneDone, at_item}

module _ (add : Additions) (primitive : AreOfPrimitives add) (source : Design) (tree : HasPlainTree source) (plain : IsPlainDesign source) (c : Component)
    (in_design : Contains source c) (full : is_bare c ≡ false)
    (piece_bit : (p : Piece) → Contains (control_pieces c) p → IsBitPort (answer add source) (extended add c) (shown p.name)) where
  abbrev low : Design
  low = answer add source

  abbrev Bit : PortName → Type 0
  Bit q = IsBitPort low (extended add c) q

  here : (k : ℕ) × (slice_get source k ≡ Some c)
  here = place_of source c in_design

  -- ---- ports of the source

  -- a source of one bit stays one
  bit_kept : (q : PortName) → IsKnownPort source c q → width_in source c q ≡ Some 1 → IsSource source c q → Bit q
  bit_kept q known width is = record {
    known = known_kept add primitive source c q known;
    width = width_kept add primitive source c q known ∙ width;
    source = source_kept add primitive source c q.cell q.pin is;
  }

  condition_bit : (s : Statement) → StatementNamesKnown source c s → HasCondition source c s → StatementReads source c s → IfCondition s (λ port by. Bit port)
  condition_bit (Enable name) names has reads = tt
  condition_bit (Seq ss) names has reads = tt
  condition_bit (Par ss) names has reads = tt
  condition_bit (If port by s t) names has reads = bit_kept port names.condition has.bit reads.condition
  condition_bit (While port by s) names has reads = bit_kept port names.condition has.bit reads.condition
  condition_bit (Invoke cell ins outs) names has reads = tt

  ports : EachPort Bit (plan_of c)
  ports =
      section_ports Bit (length (items_before_control c)) c.control
      (each_from (λ (s : Statement). IfCondition s (λ port by. Bit port)) (control_statements c.control) (λ s has.
      let item = statement_item c s has in
      condition_bit s (statement_names_known AnyName source plain.keeps here.0 c here.1 s item)
      (at_item source tree plain c in_design (TheStatement s) item 9 C1 (omega arith))
      (statement_reads AnyName source plain.keeps here.0 c here.1 s item)))

  go_bit : Bit (own (codes "go"))
  go_bit =
      let width : width_in source c (own (codes "go")) ≡ Some 1 = (has_widths AnyName source plain.keeps here.0 c here.1).go full in
      let q = some_found (λ (x : SidedPin). x.pin.width) (port_in source c (own (codes "go"))) 1 width in
      let G : List Pin → Type 0 = λ pins. Contains (pin_names pins) (codes "go") in
      let has : Contains (pin_names (inputs_in c)) (codes "go") =
      subst G (sym (cond-false (is_bare c) c.ins (with_pin (codes "go") c.ins) full)) (with_pin_has (codes "go") c.ins) in
      bit_kept (own (codes "go")) (ap is_some q.1) width (input_first (inputs_in c) (outputs_in c) (codes "go") has)

  -- ---- the pieces

  abbrev plan_part : List Piece
  plan_part = part_pieces 0 (plan_of c) (is_set start_name)

  abbrev group_part : List Piece
  group_part = flat_map (group_pieces (plan_of c)) c.groups

  abbrev front : List Piece
  front = instance_pieces (plan_of c) ++ group_part

  abbrev start_piece : Piece
  start_piece = piece Wire start_name start_guard

  abbrev busy_piece : Piece
  busy_piece = piece Register busy_name (both (either (is_set start_name) (is_set busy_name)) (Negates (control_ends (plan_of c))))

  abbrev over_piece : Piece
  over_piece = piece Register over_name (control_ends (plan_of c))

  in_instance : (p : Piece) → Contains (instance_pieces (plan_of c)) p → Contains (control_pieces c) p
  in_instance p has = Contains-append_left front (plan_pieces (plan_of c)) p (Contains-append_left (instance_pieces (plan_of c)) group_part p has)

  start_bit : Bit (shown start_name)
  start_bit = piece_bit start_piece (in_instance start_piece (Contains-here start_piece (busy_piece ∷ over_piece ∷ [])))

  busy_bit : Bit (shown busy_name)
  busy_bit =
      piece_bit busy_piece (in_instance busy_piece (Contains-there start_piece (busy_piece ∷ over_piece ∷ []) busy_piece (Contains-here busy_piece (over_piece ∷ []))))

  pub over_bit : Bit (shown over_name)
  over_bit =
      piece_bit over_piece
      (in_instance over_piece
      (Contains-there start_piece (busy_piece ∷ over_piece ∷ []) over_piece (Contains-there busy_piece (over_piece ∷ []) over_piece (Contains-here over_piece []))))

  -- the wire of a group that acts
  pub acts_bit : (g : GroupDef) → Contains c.groups g → Bit (shown (acts_name g.name))
  acts_bit g of =
      piece_bit (acts_wire (plan_of c) g)
      (Contains-append_left front (plan_pieces (plan_of c)) (acts_wire (plan_of c) g)
      (Contains-append_right (instance_pieces (plan_of c)) group_part (acts_wire (plan_of c) g)
      (Contains-flat_map (group_pieces (plan_of c)) c.groups g (acts_wire (plan_of c) g) of
      (Contains-here (acts_wire (plan_of c) g) (map done_wire g.dones)))))

  named : is_over (plan_of c) ≡ false → Each (IsNamed Bit) plan_part
  named more =
      let E : List Piece → Type 0 = λ ps. Each (IsNamed Bit) ps in
      subst E (cond-false (is_over (plan_of c)) [] plan_part more)
      (each_right (IsNamed Bit) front (plan_pieces (plan_of c)) (each_from (IsNamed Bit) (control_pieces c) piece_bit))

  done_bit : (g : GroupDef) → Contains c.groups g → g.comb ≡ false → Bit (shown (done_name g.name))
  done_bit g of comb =
      let one : HasOneDone source tree plain c in_design g = one_done source tree plain c in_design g of comb in
      let H : List DoneLine → Type 0 = λ ds. Contains ds one.line in
      let has : Contains g.dones one.line = subst H (sym one.only) (Contains-here one.line []) in
      let wire_has : Contains (control_pieces c) (done_wire one.line) =
      Contains-append_left front (plan_pieces (plan_of c)) (done_wire one.line)
      (Contains-append_right (instance_pieces (plan_of c)) group_part (done_wire one.line)
      (Contains-flat_map (group_pieces (plan_of c)) c.groups g (done_wire one.line) of
      (Contains-there (acts_wire (plan_of c) g) (map done_wire g.dones) (done_wire one.line) (Contains-map done_wire g.dones one.line has)))) in
      subst (λ name. Bit (shown (done_name name))) one.of (piece_bit (done_wire one.line) wire_has)

  done_seen : (actor : Actor) → IsOwnGroup c false actor → IsDoneSeen Bit actor
  done_seen actor (g, of, is, comb) = let D : Actor → Type 0 = λ a. IsDoneSeen Bit a in subst D (sym is) (done_bit g of comb)

  dones : EachEnabled (IsDoneSeen Bit) (plan_of c)
  dones = enabled_weaker (IsOwnGroup c false) (IsDoneSeen Bit) done_seen (plan_of c) (plan_is_own source tree plain c in_design).0

  -- ---- the guards of pieces

  ends_bits : IsBitGuard Bit (control_ends (plan_of c))
  ends_bits =
      let G : GuardTree PortName → Type 0 = λ g. IsBitGuard Bit g in
      elim (cases_Bool (is_over (plan_of c))) [
        | inl over ↦ subst G (sym (cond-true (is_over (plan_of c)) (is_set start_name) (part_ends 0) over)) start_bit
        | inr more ↦ subst G (sym (cond-false (is_over (plan_of c)) (is_set start_name) (part_ends 0) more))
            (first_named Bit 0 (plan_of c) (is_set start_name) (named more))
      ]

  instance_bits : Each (IsBitPiece Bit) (instance_pieces (plan_of c))
  instance_bits = (
    ((go_bit, (busy_bit, (over_bit, tt))), one_bit Bit),
    (
      (((start_bit, (busy_bit, tt)), (ends_bits, tt)), one_bit Bit),
      ((ends_bits, one_bit Bit), tt),
    ),
  )

  plan_bits : Each (IsBitPiece Bit) (plan_pieces (plan_of c))
  plan_bits =
      let B : List Piece → Type 0 = λ ps. Each (IsBitPiece Bit) ps in
      elim (cases_Bool (is_over (plan_of c))) [
        | inl over ↦ subst B (sym (cond-true (is_over (plan_of c)) [] plan_part over)) tt
        | inr more ↦ subst B (sym (cond-false (is_over (plan_of c)) [] plan_part more))
            (part_bits Bit 0 (plan_of c) (is_set start_name) more dones ports start_bit (named more))
      ]

  enabling_are : (actor : Actor) → Each (IsBitGuard Bit) (enabling 0 (plan_of c) (is_set start_name) actor)
  enabling_are actor =
      let L : List (GuardTree PortName) → Type 0 = λ gs. Each (IsBitGuard Bit) gs in
      elim (cases_Bool (is_over (plan_of c))) [
        | inl over ↦ subst L (sym (over_enabling 0 (plan_of c) (is_set start_name) actor over)) tt
        | inr more ↦ enabling_bits Bit 0 (plan_of c) (is_set start_name) actor more start_bit (named more)
      ]

  testing_are : (actor : Actor) → Each (IsBitGuard Bit) (testing 0 (plan_of c) (is_set start_name) actor)
  testing_are actor =
      let L : List (GuardTree PortName) → Type 0 = λ gs. Each (IsBitGuard Bit) gs in
      elim (cases_Bool (is_over (plan_of c))) [
        | inl over ↦ subst L (sym (over_testing 0 (plan_of c) (is_set start_name) actor over)) tt
        | inr more ↦ testing_bits Bit 0 (plan_of c) (is_set start_name) actor more start_bit (named more)
      ]

  acts_bits : (g : GroupDef) → Contains c.groups g → IsBitPiece Bit (acts_wire (plan_of c) g)
  acts_bits g of =
      let actor : Actor = GroupNamed g.name in
      let G : GuardTree PortName → Type 0 = λ x. IsBitGuard Bit x in
      let one : GuardTree PortName = any_of (testing 0 (plan_of c) (is_set start_name) actor) in
      let two : GuardTree PortName = both (any_of (enabling 0 (plan_of c) (is_set start_name) actor)) (Negates (is_done actor)) in
      let guard : IsBitGuard Bit (acts_guard (plan_of c) g) = elim (cases_Bool g.comb) [
        | inl comb ↦ subst G (sym (cond-true g.comb one two comb)) (any_bits Bit (testing 0 (plan_of c) (is_set start_name) actor) (testing_are actor))
        | inr comb ↦ subst G (sym (cond-false g.comb one two comb))
            (any_bits Bit (enabling 0 (plan_of c) (is_set start_name) actor) (enabling_are actor), (done_bit g of comb, tt))
      ] in
      (guard, one_bit Bit)

  -- a wire of a done line reads what the line reads
  done_good : (g : GroupDef) (k : ℕ) (l : DoneLine) → Contains c.groups g → slice_get g.dones k ≡ Some l → IsGoodPiece low (extended add c) (done_wire l)
  done_good g k l of at =
      let item = done_item c g k l of at in
      let names = done_names_known AnyName source plain.keeps here.0 c here.1 g of k l at in
      let all = at_item source tree plain c in_design (TheDone g (take k g.dones) l) item in
      let reads = done_reads_sources AnyName source plain.keeps here.0 c here.1 g of k l at in
      record {
        guard_known = all_known add primitive source c (option_ports l.guard) names.guard;
        guard_agrees = option_kept add primitive source c l.guard names.guard (all 3 C1 (omega arith)).guard;
        guard_sources = all_sources add primitive source c (option_ports l.guard) reads.0;
        known = all_known add primitive source c (source_ports l.src) names.src;
        literal = (all 3 C1 (omega arith)).literal;
        width = source_width_kept add primitive source c l.src names.src ∙ (all 6 C1 (omega arith) (all 7 C1 (omega arith))).1;
        sources = all_sources add primitive source c (source_ports l.src) reads.1;
      }

  group_good : (g : GroupDef) → Contains c.groups g → Each (IsGoodPiece low (extended add c)) (group_pieces (plan_of c) g)
  group_good g of = (
    good_from_bits low (extended add c) (acts_wire (plan_of c) g) (acts_bits g of),
    each_map (IsGoodPiece low (extended add c)) done_wire g.dones
        (each_from (λ (l : DoneLine). IsGoodPiece low (extended add c) (done_wire l)) g.dones (λ l has.
        let k = place_of g.dones l has in done_good g k.0 l of k.1)),
  )

  -- every piece keeps the rules
  pub pieces_good : Each (IsGoodPiece low (extended add c)) (control_pieces c)
  pieces_good =
      let Good : Piece → Type 0 = λ p. IsGoodPiece low (extended add c) p in
      each_append Good front (plan_pieces (plan_of c))
      (each_append Good (instance_pieces (plan_of c)) group_part
      (each_weaker (IsBitPiece Bit) Good (λ p is. good_from_bits low (extended add c) p is) (instance_pieces (plan_of c)) instance_bits)
      (each_flat_map Good (group_pieces (plan_of c)) c.groups (each_from (λ (g : GroupDef). Each Good (group_pieces (plan_of c) g)) c.groups group_good)))
      (each_weaker (IsBitPiece Bit) Good (λ p is. good_from_bits low (extended add c) p is) (plan_pieces (plan_of c)) plan_bits)
