-- What each piece of a component is for, and that what it reads is later than itself.
use Rattle.std.proofs.Common.{◌≡◌, ◌⊎◌, inl, inr, ℕ, ◌+◌, ◌*◌, ◌^◌, ◌<◌, ◌≤◌, List, [], ◌++◌, false, Option, Some, None, refl, sym, ap, subst, ◌∙◌, arith}
use Rattle.std.specs.Prelude.{All, Contains, flat_map, codes, length, slice_get}
use Rattle.std.proofs.lemmas.Bool.{cases_Bool, cond-true, cond-false}
use Rattle.std.proofs.lemmas.List.Elements.{All-nil, All-cons, All-append, All-contains}
use Rattle.hw_names.specs.Name.{Text}
use Rattle.net_core.specs.Graph.{guard_ports, option_ports, source_ports}
use Rattle.net_core.specs.Guard.{GuardTree, Negates}
use Rattle.net_core.specs.declared.net.Src.{Src}
use Rattle.net_core.specs.declared.net.Src.TheVariants.{Port, Lit}
use Rattle.cal_ast.proofs.ItemLemmas.{statement_item, statement_names_known, done_names_known}
use Rattle.cal_ast.proofs.LineLemmas.{IsLine, line, done_line}
use Rattle.cal_ast.proofs.ListLemmas.{place_of}
use Rattle.cal_ast.proofs.SideLemmas.{some_found, some_of}
use Rattle.cal_ast.specs.Actors.{Actor, GroupNamed}
use Rattle.cal_ast.specs.Items.{control_statements, items_before_control}
use Rattle.cal_ast.specs.Naming.{AnyName, IsKnownPort, StatementNamesKnown}
use Rattle.cal_ast.specs.NoInvoke.{IsPlainDesign}
use Rattle.cal_ast.specs.Plain.{HasPlainTree}
use Rattle.cal_ast.specs.Plan.{Plan, plan_of}
use Rattle.cal_ast.specs.Ports.{SidedPin, port_in}
use Rattle.cal_ast.specs.Sides.{driven_side, read_side, IsDestination, IsSource}
use Rattle.cal_ast.specs.Statement.{IfCondition}
use Rattle.cal_ast.specs.Tree.{PortName, port_of, Assignment, DoneLine, GroupDef, Statement, Enable, Seq, Par, If, While, Invoke, Component, Design}
use Rattle.cal_ast.specs.Wires.{IsAssignmentOf, set_ports, done_ports}
use Rattle.cal_group.proofs.EdgeLemmas.{own_is_group}
use Rattle.cal_token.specs.inside.Tokens.{Token, size}
use Rattle.cal_walk.specs.Left.{is_over}
use Rattle.cal_lower.specs.inside.Lowered.{acts_guard, acts_wire, done_wire, group_pieces, control_ends, start_guard, instance_pieces, plan_pieces, control_pieces}
use Rattle.cal_lower.specs.inside.Parts.{part_ends, part_pieces, enabling, testing}
use Rattle.cal_lower.specs.inside.Pieces.{Piece, Wire, Register, piece, piece_set, token_name, ends_name, acts_name, done_name, start_name, busy_name, shown, is_set, either, both, any_of, is_done}
use Rattle.cal_lower.proofs.ActsReadLemmas.{enabling_reads, testing_reads}
use Rattle.cal_lower.proofs.BitLemmas.{IsBitSource, IsBitGuard, IsBitOption, IsBitPiece, IsNamed, IsDoneSeen, EachPort, bit_ports, any_bits, part_bits}
use Rattle.cal_lower.proofs.ConditionLemmas.{section_ports}
use Rattle.cal_lower.proofs.ControlLemmas.{enabled_weaker}
use Rattle.cal_lower.proofs.EndReadLemmas.{bit_weaker, ReadsLater, IsPlanPiece, OfToken, OfEnd, part_placed}
use Rattle.cal_lower.proofs.ListLemmas.{Each, each_append, each_from, each_weaker, each_map, each_flat_map, each_both}
use Rattle.cal_lower.proofs.ExtendedLemmas.{HasPlace, place_found}
use Rattle.cal_lower.proofs.PartLemmas.{EachEnabled}
use Rattle.cal_lower.proofs.RankLemmas.{rank, IsRegisterName, token_register, busy_register, over_register, shown_small, Shows, Takes, Falls, ByRank, ByEnd}
use Rattle.cal_lower.proofs.SourceLemmas.{IsOwnGroup, plan_is_own}

-- ---- what a piece reads

module _ (P : PortName → Type 0) where
  option_reads : (o : Option (GuardTree PortName)) → IsBitOption P o → All P (option_ports o)
  option_reads None is = All-nil P
  option_reads (Some g) is = bit_ports P g is

  source_reads : (s : Src PortName) → IsBitSource P s → All P (source_ports s)
  source_reads (Port q) is = All-cons P q [] is (All-nil P)
  source_reads (Lit width value) is = All-nil P

  piece_reads_all : (p : Piece) → IsBitPiece P p → All P (set_ports (piece_set p))
  piece_reads_all p is = All-append P (option_ports p.guard) (source_ports p.src) (option_reads p.guard is.0) (source_reads p.src is.1)

  -- a piece that is driven by 1
  pub guard_reads_all : (g : GuardTree PortName) → IsBitGuard P g → All P (guard_ports g ++ [])
  guard_reads_all g is = All-append P (guard_ports g) [] (bit_ports P g is) (All-nil P)

  -- the wire of a group that acts reads registers, the start, and the done of its own group
  pub acts_reads : ((t : Token) → P (shown (token_name t))) → P (shown start_name) → (plan : Plan) (g : GroupDef) → P (shown (done_name g.name)) → IsBitGuard P (acts_guard plan g)
  acts_reads tokens start plan g done =
      let actor : Actor = GroupNamed g.name in
      let G : GuardTree PortName → Type 0 = λ x. IsBitGuard P x in
      let one : GuardTree PortName = any_of (testing 0 plan (is_set start_name) actor) in
      let two : GuardTree PortName = both (any_of (enabling 0 plan (is_set start_name) actor)) (Negates (is_done actor)) in
      elim (cases_Bool g.comb) [
        | inl comb ↦ subst G (sym (cond-true g.comb one two comb))
            (any_bits P (testing 0 plan (is_set start_name) actor) (testing_reads P tokens actor 0 plan (is_set start_name) start))
        | inr full ↦ subst G (sym (cond-false g.comb one two full))
            (any_bits P (enabling 0 plan (is_set start_name) actor) (enabling_reads P tokens actor 0 plan (is_set start_name) start), (done, tt))
      ]

-- ---- what a piece is for

-- a port of the component itself or of a cell of it, or one of a piece that isn't late
abbrev pub IsEarly : Design → Component → ℕ → PortName → Type 0
IsEarly source c bound q = HasPlace source c q.cell ⊎ (rank q < bound)

pub data IsPlaced (source : Design) (c : Component) (p : Piece) : Type 0 where
  AStart : p ≡ piece Wire start_name start_guard → IsPlaced source c p
  ARegister : p.kind ≡ Register → IsRegisterName p.name → All (IsEarly source c 6) (set_ports (piece_set p)) → IsPlaced source c p
  AnActs : (g : GroupDef) → Contains c.groups g → p ≡ acts_wire (plan_of c) g → IsPlaced source c p
  ADone : (g : GroupDef) (d : DoneLine) → Contains c.groups g → Contains g.dones d → d.group ≡ g.name → p ≡ done_wire d → IsPlaced source c p
  AnEnd : (k : ℕ) (guard : GuardTree PortName) → k < 2 ^ 64 → p ≡ piece Wire (ends_name k) guard → IsBitGuard (ReadsLater (2 ^ 64) (IsEarly source c 5) k) guard
      → IsPlaced source c p

module _ (source : Design) (plain : IsPlainDesign source) (c : Component) (in_design : Contains source c) where
  here : (k : ℕ) × (slice_get source k ≡ Some c)
  here = place_of source c in_design

  -- ---- ports of the source have a place

  pub known_place : (q : PortName) → IsKnownPort source c q → HasPlace source c q.cell
  known_place q known = let r = some_of (port_in source c q) known in place_found source source c q.cell q.pin r.0 r.1

  pub source_place : (q : PortName) → IsSource source c q → HasPlace source c q.cell
  source_place q is = let r = some_found (λ (x : SidedPin). x.side) (port_in source c q) (read_side q.cell) is in place_found source source c q.cell q.pin r.0 r.1

  destination_place : (q : PortName) → IsDestination source c q → HasPlace source c q.cell
  destination_place q is = let r = some_found (λ (x : SidedPin). x.side) (port_in source c q) (driven_side q.cell) is.side in place_found source source c q.cell q.pin r.0 r.1

  source_line : (a : Assignment) → IsAssignmentOf source c a → IsLine source c a
  source_line a is = line AnyName source plain.keeps here.0 c here.1 a is

  pub driven_place : (a : Assignment) → IsAssignmentOf source c a → HasPlace source c a.dst.cell
  driven_place a is = destination_place a.dst (source_line a is).drives

  pub read_place : (a : Assignment) → IsAssignmentOf source c a → (q : PortName) → Contains (set_ports a) q → HasPlace source c q.cell
  read_place a is q reads = source_place q (All-contains (IsSource source c) (set_ports a) q (source_line a is).reads reads)

  pub done_place : (g : GroupDef) (d : DoneLine) → Contains c.groups g → Contains g.dones d → (q : PortName) → Contains (done_ports d) q → HasPlace source c q.cell
  done_place g d of has q reads =
      source_place q (All-contains (IsSource source c) (done_ports d) q (done_line AnyName source plain.keeps here.0 c here.1 g d (own_is_group source c g of) has) reads)

  -- ---- the ports of conditions

  module _ (P : PortName → Type 0) (placed : (q : PortName) → HasPlace source c q.cell → P q) where
    condition_at : (s : Statement) → StatementNamesKnown source c s → IfCondition s (λ port by. P port)
    condition_at (Enable name) names = tt
    condition_at (Seq ss) names = tt
    condition_at (Par ss) names = tt
    condition_at (If port by s t) names = placed port (known_place port names.condition)
    condition_at (While port by s) names = placed port (known_place port names.condition)
    condition_at (Invoke cell ins outs) names = tt

    ports : EachPort P (plan_of c)
    ports =
        section_ports P (length (items_before_control c)) c.control
        (each_from (λ (s : Statement). IfCondition s (λ port by. P port)) (control_statements c.control) (λ s has.
        condition_at s (statement_names_known AnyName source plain.keeps here.0 c here.1 s (statement_item c s has))))

  -- ---- the pieces

  abbrev Good : Piece → Type 0
  Good p = IsPlaced source c p

  abbrev Early : PortName → Type 0
  Early q = IsEarly source c 6 q

  seen : (name : Text) → Early (shown name)
  seen name = inr (shown_small name)

  ends_seen : IsBitGuard Early (control_ends (plan_of c))
  ends_seen =
      let G : GuardTree PortName → Type 0 = λ g. IsBitGuard Early g in
      elim (cases_Bool (is_over (plan_of c))) [
        | inl over ↦ subst G (sym (cond-true (is_over (plan_of c)) (is_set start_name) (part_ends 0) over)) (seen start_name)
        | inr more ↦ subst G (sym (cond-false (is_over (plan_of c)) (is_set start_name) (part_ends 0) more)) (seen (ends_name 0))
      ]

  instance_placed : Each Good (instance_pieces (plan_of c))
  instance_placed =
      let busy : GuardTree PortName = both (either (is_set start_name) (is_set busy_name)) (Negates (control_ends (plan_of c))) in (
        AStart refl,
        (
          ARegister refl busy_register (guard_reads_all Early busy ((seen start_name, (seen busy_name, tt)), (ends_seen, tt))),
          (ARegister refl over_register (guard_reads_all Early (control_ends (plan_of c)) ends_seen), tt),
        ),
      )

  group_placed : (g : GroupDef) → Contains c.groups g → Each Good (group_pieces (plan_of c) g)
  group_placed g of = (
    AnActs g of refl,
    each_map Good done_wire g.dones (each_from (λ (d : DoneLine). Good (done_wire d)) g.dones (λ d has.
        let k = place_of g.dones d has in
        ADone g d of has (done_names_known AnyName source plain.keeps here.0 c here.1 g of k.0 d k.1).group refl)),
  )

  module _ (tree : HasPlainTree source) (few : size (plan_of c) ≤ 2 ^ 64) where
    abbrev plan_part : List Piece
    plan_part = part_pieces 0 (plan_of c) (is_set start_name)

    token_calm : (t : Token) → IsEarly source c 5 (shown (token_name t))
    token_calm t = let shows = (token_register t).shows in inr (omega (arith, shows))

    -- a piece of the plan
    plan_piece : (p : Piece) → IsPlanPiece (2 ^ 64) (IsEarly source c 5) p → IsBitPiece Early p → Good p
    plan_piece p (OfToken token kind named) bits = ARegister kind (subst IsRegisterName (sym named) (token_register token)) (piece_reads_all Early p bits)
    plan_piece p (OfEnd k guard small is later) bits = AnEnd k guard small is later

    lasting_placed : is_over (plan_of c) ≡ false → Each Good plan_part
    lasting_placed more =
        let all : 0 + size (plan_of c) ≤ 2 ^ 64 = omega (arith, few) in
        let placed : Each (IsPlanPiece (2 ^ 64) (IsEarly source c 5)) plan_part =
        part_placed (2 ^ 64) (IsEarly source c 5) token_calm (λ actor. inr (omega arith)) 0 (plan_of c) (is_set start_name) more all
        (ports (IsEarly source c 5) (λ q has. inl has)) (inr (omega arith)) in
        let enabled : EachEnabled (IsDoneSeen Early) (plan_of c) =
        enabled_weaker (IsOwnGroup c false) (IsDoneSeen Early) (λ actor is. inr (omega arith)) (plan_of c) (plan_is_own source tree plain c in_design).0 in
        let bits : Each (IsBitPiece Early) plan_part =
        part_bits Early 0 (plan_of c) (is_set start_name) more enabled (ports Early (λ q has. inl has)) (seen start_name)
        (each_from (IsNamed Early) plan_part (λ p has. seen p.name)) in
        each_weaker (λ (p : Piece). IsPlanPiece (2 ^ 64) (IsEarly source c 5) p × IsBitPiece Early p) Good (λ p is. plan_piece p is.0 is.1) plan_part
        (each_both (IsPlanPiece (2 ^ 64) (IsEarly source c 5)) (IsBitPiece Early) plan_part placed bits)

    pub pieces_placed : Each Good (control_pieces c)
    pieces_placed =
        let group_part : List Piece = flat_map (group_pieces (plan_of c)) c.groups in
        let front : List Piece = instance_pieces (plan_of c) ++ group_part in
        let groups : Each Good group_part =
        each_flat_map Good (group_pieces (plan_of c)) c.groups (each_from (λ (g : GroupDef). Each Good (group_pieces (plan_of c) g)) c.groups group_placed) in
        let E : List Piece → Type 0 = λ ps. Each Good ps in
        let plan : Each Good (plan_pieces (plan_of c)) = elim (cases_Bool (is_over (plan_of c))) [
          | inl over ↦ subst E (sym (cond-true (is_over (plan_of c)) [] plan_part over)) tt
          | inr more ↦ subst E (sym (cond-false (is_over (plan_of c)) [] plan_part more)) (lasting_placed more)
        ] in
        each_append Good front (plan_pieces (plan_of c)) (each_append Good (instance_pieces (plan_of c)) group_part instance_placed groups) plan

  -- ---- what a piece reads is later, or a port of the source

  abbrev Later : PortName → PortName → Type 0
  Later p q = HasPlace source c q.cell ⊎ Falls p q

  of_placed : (n name : Text) (q : PortName) → n ≡ name → Later (port_of n (codes "in")) q → Later (port_of name (codes "in")) q
  of_placed n name q same is = subst (λ (x : Text). Later (port_of x (codes "in")) q) same is

  start_later : (q : PortName) → Contains (guard_ports start_guard ++ []) q → Later (port_of start_name (codes "in")) q
  start_later q reads =
      let P : PortName → Type 0 = λ x. Later (port_of start_name (codes "in")) x in
      All-contains P (guard_ports start_guard ++ []) q
      (guard_reads_all P start_guard (inl tt, (inr (ByRank (omega arith)), (inr (ByRank (omega arith)), tt)))) reads

  acts_later : (g : GroupDef) (q : PortName) → Contains (guard_ports (acts_guard (plan_of c) g) ++ []) q → Later (port_of (acts_name g.name) (codes "in")) q
  acts_later g q reads =
      let P : PortName → Type 0 = λ x. Later (port_of (acts_name g.name) (codes "in")) x in
      All-contains P (guard_ports (acts_guard (plan_of c) g) ++ []) q
      (guard_reads_all P (acts_guard (plan_of c) g)
      (acts_reads P (λ t. let shows = (token_register t).shows in inr (ByRank (omega (arith, shows)))) (inr (ByRank (omega arith))) (plan_of c) g (inr (ByRank (omega arith))))) reads

  end_later : (k : ℕ) (guard : GuardTree PortName) → k < 2 ^ 64 → IsBitGuard (ReadsLater (2 ^ 64) (IsEarly source c 5) k) guard
      → (q : PortName) → Contains (guard_ports guard ++ []) q → Later (port_of (ends_name k) (codes "in")) q
  end_later k guard small is q reads =
      let P : PortName → Type 0 = λ x. Later (port_of (ends_name k) (codes "in")) x in
      All-contains P (guard_ports guard ++ []) q (guard_reads_all P guard (bit_weaker (ReadsLater (2 ^ 64) (IsEarly source c 5) k) P weaker guard is)) reads
    where
      weaker : (x : PortName) → ReadsLater (2 ^ 64) (IsEarly source c 5) k x → Later (port_of (ends_name k) (codes "in")) x
      weaker x (inl (inl has)) = inl has
      weaker x (inl (inr low)) = inr (ByRank low)
      weaker x (inr end) =
          let after : k < end.part = end.later in
          inr (ByEnd (2 * k + 1) (2 * end.part) (Takes k small refl refl) (Shows end.part end.small end.is refl) (omega (arith, after)))

  pub takes_later : (p : Piece) → IsPlaced source c p → (q : PortName) → Contains (set_ports (piece_set p)) q → Later (port_of p.name (codes "in")) q
  takes_later p (AStart is) q reads =
      of_placed start_name p.name q (ap (λ (x : Piece). x.name) (sym is)) (start_later q (subst (λ (x : Piece). Contains (set_ports (piece_set x)) q) is reads))
  takes_later p (ARegister kind named early) q reads = elim (All-contains (IsEarly source c 6) (set_ports (piece_set p)) q early reads) [
    | inl has ↦ inl has
    | inr low ↦ (let high = named.takes in inr (ByRank (omega (arith, low, high))))
  ]
  takes_later p (AnActs g of is) q reads =
      of_placed (acts_name g.name) p.name q (ap (λ (x : Piece). x.name) (sym is)) (acts_later g q (subst (λ (x : Piece). Contains (set_ports (piece_set x)) q) is reads))
  takes_later p (ADone g d of has named is) q reads = inl (done_place g d of has q (subst (λ (x : Piece). Contains (set_ports (piece_set x)) q) is reads))
  takes_later p (AnEnd k guard small is later) q reads =
      of_placed (ends_name k) p.name q (ap (λ (x : Piece). x.name) (sym is))
      (end_later k guard small later q (subst (λ (x : Piece). Contains (set_ports (piece_set x)) q) is reads))

  -- a wire shows what drives it
  pub shows_later : (p : Piece) → IsPlaced source c p → p.kind ≡ Wire → Falls (shown p.name) (port_of p.name (codes "in"))
  shows_later p placed wire = by placed
    where
      named : (name : Text) → name ≡ p.name → Falls (shown name) (port_of name (codes "in")) → Falls (shown p.name) (port_of p.name (codes "in"))
      named name same is = subst (λ (x : Text). Falls (shown x) (port_of x (codes "in"))) same is

      by : IsPlaced source c p → Falls (shown p.name) (port_of p.name (codes "in"))
      by (AStart is) = named start_name (ap (λ (x : Piece). x.name) (sym is)) (ByRank (omega arith))
      by (ARegister kind register early) = let bad : Wire ≡ Register = sym wire ∙ kind in absurd (cc)
      by (AnActs g of is) = named (acts_name g.name) (ap (λ (x : Piece). x.name) (sym is)) (ByRank (omega arith))
      by (ADone g d of has group is) = named (done_name d.group) (ap (λ (x : Piece). x.name) (sym is)) (ByRank (omega arith))
      by (AnEnd k guard small is later) =
          named (ends_name k) (ap (λ (x : Piece). x.name) (sym is)) (ByEnd (2 * k) (2 * k + 1) (Shows k small refl refl) (Takes k small refl refl) (omega arith))
