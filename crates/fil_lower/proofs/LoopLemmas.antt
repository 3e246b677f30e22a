-- A lowered component has no loop: it would be a loop of the Filament component.
use Rattle.std.proofs.Common.{◌≡◌, ◌≢◌, ℕ, zero, suc, ◌<◌, List, [], ◌∷◌, map, take, get_or, slice_get, All, Some, refl, sym, ap, subst, ◌∙◌, inl, true, arith}
use Rattle.std.specs.Prelude.{Contains}
use Rattle.std.proofs.lemmas.List.Elements.{All-cons, All-contains, All-head, All-nil}
use Rattle.std.proofs.lemmas.Option.{same_Some, slice_get_within}
use Rattle.hw_names.specs.Name.{Text}
use Rattle.hw_prims.specs.Table.{Pin, pin_names}
use Rattle.cal_ast.specs.Naming.{Unreserved}
use Rattle.cal_ast.specs.Plain as calyx_plain
use Rattle.cal_ast.specs.Plain.{IsPlainCell, IsPlainComponent, IsPlainPort}
use Rattle.cal_ast.specs.Ports.{is_bare}
use Rattle.cal_ast.specs.Tree as calyx
use Rattle.cal_ast.specs.Tree.{CellDef, PortName, own, port_of}
use Rattle.cal_ast.specs.Wires as wiring
use Rattle.cal_ast.specs.Wires.{ReadsPort, Reaches, Straight, Over, shown, set_ports}
use Rattle.cal_ast.proofs.LocalLemmas.{same_port}
use Rattle.cal_ast.proofs.LookupLemmas.{cell_outputs-part, cell_outputs-primitive}
use Rattle.cal_ast.proofs.PlainLemmas.{plain_readable}
use Rattle.cal_ast.proofs.PathLoopLemmas.{assignments_are_plain}
use Rattle.fil_ast.specs.Plain.{HasPlainTree}
use Rattle.fil_ast.specs.Rules.{FilRules}
use Rattle.fil_ast.specs.Tree.{Component, DataPort, Design}
use Rattle.fil_ast.specs.Wires as texts
use Rattle.fil_ast.specs.Wires.{through_before, whole_scope}
use Rattle.fil_share.proofs.ListLemmas.{Contains-at}
use Rattle.fil_lower.specs.inside.Lowering.{IsLoweringOf, Lowering, lowered_component}
use Rattle.fil_lower.specs.inside.LoweringLaws.{LoweringsAreWired}
use Rattle.fil_lower.proofs.EdgeLemmas.{IsEdge, BySet, Through, Inside, IsStart, bit_reads_nothing, edge_is, interface_no_input, own_or_cell, start_reads_bits}
use Rattle.fil_lower.proofs.GuardBitLemmas.{IsBit, Later, Start}
use Rattle.fil_lower.proofs.ItemLemmas.{keeps_all}
use Rattle.fil_lower.proofs.KindLemmas.{IsKind, InText, ToBit, ToStart, ReachesAlike, ReadsText, edge_kind}
use Rattle.fil_lower.proofs.ListLemmas.{pairs_more}
use Rattle.fil_lower.proofs.LoweredLemmas.{IsLowered, lowered_at, lowering_at}
use Rattle.fil_lower.proofs.PlainLemmas.{plain_designs}
use Rattle.fil_lower.proofs.SlotLemmas.{pairs_map}
use Rattle.fil_lower.proofs.TimedAsLemmas.{place_of}
use Rattle.fil_lower.proofs.UseLemmas.{some_at}

module _ (comps : Design) (rules : FilRules comps) (design : calyx.Design) (lowered : IsLoweringOf comps design) where
  -- each component is bare and has no groups
  bare_at : (n : ℕ) (x : calyx.Component) → slice_get design n ≡ Some x → (is_bare x ≡ true) × (x.groups ≡ [])
  bare_at n x at =
      let within = slice_get_within design n x at in
      let c = some_at comps n (omega (arith, within, lowered.count)) in
      let lw = lowered_at comps design lowered n c.0 c.1 in
      subst (λ (y : calyx.Component). (is_bare y ≡ true) × (y.groups ≡ [])) (same_Some (lowered_component (lowering_at comps design n c.0 lw)) x (sym lw.there ∙ at)) (refl, refl)

  bare_there : (x : calyx.Component) → Contains design x → (is_bare x ≡ true) × (x.groups ≡ [])
  bare_there x has = let place = place_of design x has in bare_at place.0 x place.1

  module _ (n : ℕ) (c : Component) (here : slice_get comps n ≡ Some c) (before : (m : ℕ) (d : Component) (at : slice_get comps m ≡ Some d) → m < n → ReachesAlike comps rules design lowered m d at) where
    abbrev lw : IsLowered comps design n c
    lw = lowered_at comps design lowered n c here

    abbrev l : Lowering
    l = lowering_at comps design n c lw

    abbrev low : calyx.Component
    low = lowered_component l

    abbrev ToText : PortName → PortName → Type 0
    ToText p q = ReadsText comps rules design lowered n c here before p q

    kind : (p q : PortName) → IsEdge design low p q → IsKind comps rules design lowered n c here before p q
    kind p q edge = edge_kind comps rules design lowered n c here before p q edge

    -- ---- what reaches a data input

    first_edge : (x : calyx.Component) (p t : PortName) → x ≡ low → Reaches design x p t → (q : PortName) × IsEdge design low p q
    first_edge x p t same (Straight y p' t' edge) = (t, edge_is comps rules design lowered n c here y p t same edge)
    first_edge x p t same (Over y p' q t' edge rest) = (q, edge_is comps rules design lowered n c here y p q same edge)

    -- from a bit nothing is reached, and from an interface port of an instance bits alone
    not_bit : (x : calyx.Component) (q t : PortName) → x ≡ low → IsBit l q → Reaches design x q t → ⊥
    not_bit x q t same is reaches = let e = first_edge x q t same reaches in bit_reads_nothing comps rules design lowered n c here q e.0 is e.1

    not_start : (x : calyx.Component) (q t : PortName) → x ≡ low → (IsBit l t → ⊥) → IsStart comps rules design lowered n c here q → Reaches design x q t → ⊥
    not_start x q t same no_bit is (Straight y q' t' edge) = no_bit (start_reads_bits comps rules design lowered n c here q t is (edge_is comps rules design lowered n c here y q t same edge))
    not_start x q t same no_bit is (Over y q' r t' edge rest) =
        not_bit y r t same (start_reads_bits comps rules design lowered n c here q r is (edge_is comps rules design lowered n c here y q r same edge)) rest

    path_text : (x : calyx.Component) (p t : PortName) → x ≡ low → (IsBit l t → ⊥) → (IsStart comps rules design lowered n c here t → ⊥) → Reaches design x p t → texts.Reaches (through_before (take n comps)) l.scope (shown t) (shown p)
    path_text x p t same no_bit no_start (Straight y p' t' edge) =
        elim (kind p t (edge_is comps rules design lowered n c here y p t same edge)) [
          | InText reads ↦ texts.Straight (shown p) reads
          | ToBit is ↦ absurd (no_bit is)
          | ToStart is ↦ absurd (no_start is)
        ]
    path_text x p t same no_bit no_start (Over y p' q t' edge rest) =
        elim (kind p q (edge_is comps rules design lowered n c here y p q same edge)) [
          | InText reads ↦ texts.Over (shown p) (shown q) reads (path_text y q t same no_bit no_start rest)
          | ToBit is ↦ absurd (not_bit y q t same is rest)
          | ToStart is ↦ absurd (not_start y q t same no_bit is rest)
        ]

    input_no_bit : (input : Text) → Contains (map (λ (p : DataPort). p.name) c.ins) input → (t : PortName) → t ≡ own input → IsBit l t → ⊥
    input_no_bit input has t same (Start g of) = interface_no_input comps rules design lowered n c here n c here g of (subst (Contains (map (λ (p : DataPort). p.name) c.ins)) (sym (ap (λ (p : PortName). p.pin) same)) has)
    input_no_bit input has t same (Later name of) = own_or_cell input name _ (sym same)

    pub reaches_alike : ReachesAlike comps rules design lowered n c here
    reaches_alike input output has reaches =
        path_text low (own output) (own input) refl (input_no_bit input has (own input) refl) (λ s. own_or_cell input s.i.name s.g.name (sym s.is)) reaches

    -- ---- loops

    -- two edges lead on from the port
    abbrev GoesOn : PortName → Type 0
    GoesOn q = (r : PortName) × (s : PortName) × IsEdge design low q r × IsEdge design low r s

    to_text : (p q : PortName) → IsEdge design low p q → GoesOn q → ToText p q
    to_text p q edge (r, s, next, last) =
        elim (kind p q edge) [
          | InText reads ↦ reads
          | ToBit is ↦ absurd (bit_reads_nothing comps rules design lowered n c here q r is next)
          | ToStart is ↦ absurd (bit_reads_nothing comps rules design lowered n c here r s (start_reads_bits comps rules design lowered n c here q r is next) last)
        ]

    edge_here : (p q : PortName) → ReadsPort design low p q → IsEdge design low p q
    edge_here p q edge = edge_is comps rules design lowered n c here low p q refl edge

    abbrev FirstGoesOn : List PortName → Type 0
    FirstGoesOn [] = Unit {0}
    FirstGoesOn (p ∷ ports) = GoesOn p

    record IsAlong (ports : List PortName) (back : PortName) : Type 0 where
      along : texts.ReadsAlong (take n comps) c (map shown ports) (shown back)
      sources : All (λ (p : PortName). (q : PortName) × IsEdge design low p q) ports
      first : FirstGoesOn ports

    along_text : (ports : List PortName) (back : PortName) → wiring.ReadsAlong design low ports back → GoesOn back → IsAlong ports back
    along_text [] back along on = record { along = tt; sources = All-nil _; first = tt }
    along_text (p ∷ []) back along on =
        let edge = edge_here p back along in
        let P : PortName → Type 0 = λ x. (q : PortName) × IsEdge design low x q in
        record { along = to_text p back edge on; sources = All-cons P p [] (back, edge) (All-nil P); first = (back, on.0, edge, on.2) }
    along_text (p ∷ q ∷ ports) back along on =
        let rest = along_text (q ∷ ports) back along.1 on in
        let edge = edge_here p q along.0 in
        let P : PortName → Type 0 = λ x. (q : PortName) × IsEdge design low x q in
        let next : GoesOn q = rest.first in
        record { along = (to_text p q edge next, rest.along); sources = All-cons P p (q ∷ ports) (q, edge) rest.sources; first = (q, next.0, edge, next.2) }

    loop_goes_on : (first : PortName) (others : List PortName) → wiring.ReadsAlong design low (first ∷ others) first → GoesOn first
    loop_goes_on first [] along = let edge = edge_here first first along in (first, first, edge, edge)
    loop_goes_on first (q ∷ []) along = (q, first, edge_here first q along.0, edge_here q first along.1)
    loop_goes_on first (q ∷ r ∷ others) along = (q, r, edge_here first q along.0, edge_here q r along.1.0)

    source_plain : calyx_plain.HasPlainTree design → (p q : PortName) → IsEdge design low p q → IsPlainPort p
    source_plain plain p q (BySet a has dst reads) =
        subst IsPlainPort dst
        (All-head IsPlainPort a.dst (set_ports a) (assignments_are_plain Unreserved design low a plain (keeps_all comps rules design lowered) (Contains-at design n low lw.there) (inl has)))
    source_plain plain p q (Through cell prim input output is of_in of_out through at_p at_q) =
        subst IsPlainPort at_p
        (plain_readable design low plain (Contains-at design n low lw.there) (Some cell) output (subst (λ (ps : List Pin). Contains (pin_names ps) output) (sym (cell_outputs-primitive design low cell prim is)) of_out))
    source_plain plain p q (Inside part cell input output is of_in of_out reaches at_p at_q) =
        subst IsPlainPort at_p
        (plain_readable design low plain (Contains-at design n low lw.there) (Some cell) output (subst (λ (ps : List Pin). Contains (pin_names ps) output) (sym (cell_outputs-part design low cell part is)) of_out))

    no_loop : calyx_plain.HasPlainTree design → wiring.HasNoLoop design low
    no_loop plain first others loop =
        let m = along_text (first ∷ others) first loop.along (loop_goes_on first others loop.along) in
        let all_plain : All IsPlainPort (first ∷ others) = λ k d within. let s = m.sources k d within in source_plain plain (get_or (first ∷ others) k d) s.0 s.1 in
        rules.no_loop n c here (shown first) (map shown others) (record {
          along = m.along;
          distinct = pairs_map (λ (a b : Text). a ≢ b) shown (first ∷ others)
              (pairs_more (λ (p q : PortName). p ≢ q) (λ (p q : PortName). shown p ≢ shown q) (first ∷ others)
              (λ p q of_p of_q differ same. differ (same_port [] p q (All-contains IsPlainPort (first ∷ others) p all_plain of_p) (All-contains IsPlainPort (first ∷ others) q all_plain of_q) same)) loop.distinct);
        })

  reaches_below : (bound m : ℕ) (d : Component) (at : slice_get comps m ≡ Some d) → m < bound → ReachesAlike comps rules design lowered m d at
  reaches_below zero m d at below = absurd (omega (arith, below))
  reaches_below (suc bound) m d at below = reaches_alike m d at (λ k e at_k less. reaches_below bound k e at_k (omega (arith, below, less)))

  no_loop_here : HasPlainTree comps → (n : ℕ) (x : calyx.Component) → slice_get design n ≡ Some x → wiring.HasNoLoop design x
  no_loop_here plain n x at =
      let within = slice_get_within design n x at in
      let c = some_at comps n (omega (arith, within, lowered.count)) in
      let lw = lowered_at comps design lowered n c.0 c.1 in
      subst (wiring.HasNoLoop design) (same_Some (lowered_component (lowering_at comps design n c.0 lw)) x (sym lw.there ∙ at))
      (no_loop n c.0 c.1 (λ m d at_m less. reaches_below n m d at_m less) (plain_designs comps design rules plain lowered))

pub wired_designs : LoweringsAreWired
wired_designs comps design rules plain lowered = record {
  bare = λ c has. (bare_there comps rules design lowered c has).0;
  no_groups = λ c has. (bare_there comps rules design lowered c has).1;
  rules = record { keeps = keeps_all comps rules design lowered; no_loop = no_loop_here comps rules design lowered plain };
}
