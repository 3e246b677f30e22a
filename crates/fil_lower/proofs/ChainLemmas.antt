-- The shift registers of a lowered component: its cells, what drives them, and that they are chains.
use Rattle.std.proofs.Common.{◌≡◌, ℕ, zero, suc, Bool, true, false, cond, List, [], ◌∷◌, ◌++◌, length, map, flat_map, filter, take, get_or, slice_get, All, Option, Some, None, option_map, refl, sym, ap, ap₂, subst, ◌∙◌, inl, inr, arith}
use Rattle.std.specs.List.{find}
use Rattle.std.specs.Option.{option_and_then, option_map_or, option_or}
use Rattle.std.specs.Prelude.{◌≢◌, Contains, bytes_eq}
use Rattle.std.proofs.lemmas.Bool.{false≢true}
use Rattle.std.proofs.lemmas.List.{append-nil, map-append}
use Rattle.std.proofs.lemmas.List.Elements.{All-contains, All-weaker, Contains-get_or, filter-append}
use Rattle.std.proofs.lemmas.List.Folds.{find-append}
use Rattle.std.proofs.lemmas.Option.{get_or_from_slice_get, none-some, option_and_then_some, same_Some, slice_get-map}
use Rattle.std.proofs.lemmas.Simd.{map-map}
use Rattle.std.proofs.lemmas.Slice.Eq.{bytes_eq-Decides}
use Rattle.hw_names.specs.Name.{Text, AreDistinct, IsPlain}
use Rattle.hw_names.proofs.NameLemmas.{same_number}
use Rattle.hw_prims.specs.Table.{is_made, prim_names, prim_of, with_params}
use Rattle.hw_prims.specs.declared.prim.Primitive.TheVariants.{StdReg}
use Rattle.cal_ast.specs.Laws.{is_cell}
use Rattle.cal_ast.specs.Ports.{primitive_in, primitive_of}
use Rattle.cal_ast.specs.Tree.{Assignment, CellDef, own}
use Rattle.fil_ast.specs.Items.{TheSignature}
use Rattle.fil_ast.specs.Naming.{HasNewNames, event_names, instance_names}
use Rattle.fil_ast.specs.Rules.{F1}
use Rattle.fil_ast.specs.Scope.{Instance, Invocation, instance_named, signature_in}
use Rattle.fil_ast.specs.Signature.{event_number}
use Rattle.fil_ast.specs.Tree.{Event}
use Rattle.fil_ast.specs.Wires.{whole_scope}
use Rattle.fil_fsm.specs.Chain.{chain_sets, register}
use Rattle.fil_promise.specs.Refines.{IsGenerated}
use Rattle.fil_fsm.specs.Delays.{HasChain, drives_cell}
use Rattle.fil_share.proofs.ListLemmas.{AllPairs-left, Contains-at}
use Rattle.fil_share.proofs.Lookup.{find_nowhere}
use Rattle.fil_lower.specs.inside.Lowering.{Lowering, all_registers, connection_set, go_of, inputs_of_callee, invocation_sets, last_bit, lowered_cell, lowered_component, lowered_sets, lowering_with, register_sets, registers_of, start_sets}
use Rattle.fil_lower.proofs.AvailableLemmas.{found_passes, mapped_from}
use Rattle.fil_lower.proofs.CallLemmas.{IsCalled, all_called, found_among}
use Rattle.fil_lower.proofs.CellLemmas.{DrivesCell, DrivesOne, among_lists, argument_cells, chain_cells, connection_cells, other_cell, start_cells}
use Rattle.fil_lower.proofs.ListLemmas.{contains_in_flat, contains_none, first_or_later}
use Rattle.fil_lower.proofs.LoweredParts.{LoweredComp}
use Rattle.fil_lower.proofs.NameLemmas.{apart_joined, distinct_rest}
use Rattle.fil_lower.proofs.TimedAsLemmas.{contains_map, number_of}
use Rattle.fil_lower.proofs.ValueLemmas.{filter_flat, filter_none, flat_none, flat_only}

-- ---- lists of names

abbrev pub all_of : List (List Text) → List Text
all_of lists = flat_map (λ names. names) lists

-- lists at two places
pub apart_at : (lists : List (List Text)) → AreDistinct (all_of lists) → (k j : ℕ) (xs ys : List Text) → slice_get lists k ≡ Some xs → slice_get lists j ≡ Some ys → (k ≡ j → ⊥) → (name : Text) → Contains xs name → Contains ys name → ⊥
apart_at [] distinct k j xs ys at_k at_j apart name has_x has_y = none-some xs at_k
apart_at (names ∷ lists) distinct zero zero xs ys at_k at_j apart name has_x has_y = apart refl
apart_at (names ∷ lists) distinct zero (suc j) xs ys at_k at_j apart name has_x has_y =
    apart_joined names (all_of lists) distinct name (subst (λ (ns : List Text). Contains ns name) (sym (same_Some names xs at_k)) has_x)
    (contains_in_flat (λ names. names) lists ys name (Contains-at lists j ys at_j) has_y)
apart_at (names ∷ lists) distinct (suc k) zero xs ys at_k at_j apart name has_x has_y =
    apart_joined names (all_of lists) distinct name (subst (λ (ns : List Text). Contains ns name) (sym (same_Some names ys at_j)) has_y)
    (contains_in_flat (λ names. names) lists xs name (Contains-at lists k xs at_k) has_x)
apart_at (names ∷ lists) distinct (suc k) (suc j) xs ys at_k at_j apart name has_x has_y =
    apart_at lists (distinct_rest names (all_of lists) distinct) k j xs ys at_k at_j (λ same. apart (ap suc same)) name has_x has_y

pub distinct_at : (lists : List (List Text)) → AreDistinct (all_of lists) → (k : ℕ) (xs : List Text) → slice_get lists k ≡ Some xs → AreDistinct xs
distinct_at [] distinct k xs at = absurd (none-some xs at)
distinct_at (names ∷ lists) distinct zero xs at = (let D : List Text → Type 0 = AreDistinct in subst D (same_Some names xs at) (AllPairs-left (λ (a b : Text). a ≢ b) names (all_of lists) distinct))
distinct_at (names ∷ lists) distinct (suc k) xs at = distinct_at lists (distinct_rest names (all_of lists) distinct) k xs at

-- ---- the cell of a register

pub registers_joined : (lists : List (List Text)) → flat_map (map register) lists ≡ map register (all_of lists)
registers_joined [] = refl
registers_joined (names ∷ lists) = ap (λ rest. map register names ++ rest) (registers_joined lists) ∙ sym (map-append register names (all_of lists))

register_found : (names : List Text) (name : Text) → Contains names name → find (λ (c : CellDef). bytes_eq c.name name) (map register names) ≡ Some (register name)
register_found [] name has = absurd (contains_none name has)
register_found (other ∷ names) name has = by (bytes_eq other name) refl (register_found names name)
  where
    by : (b : Bool) → bytes_eq other name ≡ b → (Contains names name → find (λ (c : CellDef). bytes_eq c.name name) (map register names) ≡ Some (register name))
        → cond b (Some (register other)) (find (λ (c : CellDef). bytes_eq c.name name) (map register names)) ≡ Some (register name)
    by true here rest = ap (λ (n : Text). Some (register n)) ((bytes_eq-Decides other name).0 here)
    by false there rest =
        rest (elim (first_or_later other names name has) [ inl same ↦ absurd (false≢true (sym there ∙ (bytes_eq-Decides other name).1 same)) | inr later ↦ later ])

one_bit : (name : Text) → primitive_of (register name) ≡ Some (StdReg 1)
unfolding prim_of prim_names with_params is_made
one_bit name = refl

module _ (comp : LoweredComp) where
  open comp use {pair, pair.{comps, rules, plain, design, lowered}, n, c, here, registers, enough, new}

  abbrev pub l : Lowering
  l = lowering_with (take n comps) c registers

  abbrev pub instances : List Instance
  instances = (whole_scope (take n comps) c).instances

  pub names : HasNewNames (take n comps) c
  names = rules.keeps n c here 0 TheSignature refl 0 F1 (omega arith)

  -- an event's number is its place
  pub number_at : (k : ℕ) (e : Event) → slice_get c.events k ≡ Some e → event_number c.events e.name ≡ k
  number_at k e at =
      let name_of : Event → Text = λ x. x.name in
      let m = number_of c.events e.name (contains_map name_of c.events e (Contains-at c.events k e at)) in
      same_number (event_names c) (event_number c.events e.name) k e.name names.events
      (slice_get-map name_of c.events (event_number c.events e.name) ∙ ap (option_map name_of) m.1 ∙ ap Some m.2)
      (slice_get-map name_of c.events k ∙ ap (option_map name_of) at)

  -- each event has its registers
  pub registers_at : (k : ℕ) (e : Event) → slice_get c.events k ≡ Some e → (slice_get registers k ≡ Some (registers_of l e.name)) × (length (registers_of l e.name) ≡ last_bit l e.name)
  registers_at k e at =
      let last : Event → ℕ = λ x. last_bit l x.name in
      let there : option_map length (slice_get registers k) ≡ Some (last_bit l e.name) =
      sym (slice_get-map length registers k) ∙ ap (λ (xs : List ℕ). slice_get xs k) enough ∙ slice_get-map last c.events k ∙ ap (option_map last) at in
      mapped_from length (slice_get registers k) (last_bit l e.name) there (λ ns at_k long.
      let same : registers_of l e.name ≡ ns = ap (λ (j : ℕ). get_or registers j []) (number_at k e at) ∙ get_or_from_slice_get registers k ns [] at_k in
      (at_k ∙ ap Some (sym same), ap length same ∙ long))

  pub instance_there : (v : Invocation) → IsCalled (take n comps) c v → Contains (instance_names instances) v.inst
  instance_there v f =
      option_and_then_some (λ (i : Instance). signature_in (take n comps) i.made i.params) (instance_named instances v.inst) f.sig f.signed (λ i found signed.
      let test : Instance → Bool = λ j. bytes_eq j.name v.inst in
      let is : i.name ≡ v.inst = (bytes_eq-Decides i.name v.inst).0 (found_passes test instances i found) in
      subst (λ (name : Text). Contains (instance_names instances) name) is (contains_map (λ (j : Instance). j.name) instances i (found_among test instances i found)))

  -- no instance is a register
  pub no_register : (inst name : Text) → Contains (instance_names instances) inst → Contains (all_registers l) name → name ≡ inst → ⊥
  no_register inst name there has same =
      All-contains (λ name. ¬ Contains (instance_names instances) name) (all_registers l) name new.fresh has (subst (λ (x : Text). Contains (instance_names instances) x) (sym same) there)

  pub made_register : (name : Text) → Contains (all_registers l) name → primitive_in (lowered_component l) name ≡ Some (StdReg 1)
  made_register name has =
      let test : CellDef → Bool = λ x. bytes_eq x.name name in
      let are : instance_names instances ≡ map (λ (x : CellDef). x.name) (map lowered_cell instances) = sym (map-map (λ (x : CellDef). x.name) lowered_cell instances) in
      let absent = find_nowhere (λ (x : CellDef). x.name) (map lowered_cell instances) (instance_names instances) name are (λ there. no_register name name there has refl) in
      ap (option_and_then primitive_of)
      (find-append test (map lowered_cell instances) (flat_map (map register) registers)
      ∙ ap₂ option_or absent (ap (find test) (registers_joined registers) ∙ register_found (all_of registers) name has))
      ∙ one_bit name

  module _ (k : ℕ) (e : Event) (at : slice_get c.events k ≡ Some e) (go : Text) (is_go : go_of l e.name ≡ Some go) (name : Text) (has : Contains (registers_of l e.name) name) where
    in_all : Contains (all_registers l) name
    in_all = among_lists registers (event_number c.events e.name) name has

    abbrev test : Assignment → Bool
    test = drives_cell name

    -- the registers of another event are others
    other_event : (j : ℕ) (f : Event) → slice_get c.events j ≡ Some f → (j ≡ k → ⊥) → (o : Option Text) → filter test (option_map_or (λ go. chain_sets (own go) (registers_of l f.name)) o []) ≡ []
    other_event j f at_j apart None = refl
    other_event j f at_j apart (Some g) =
        filter_none test (chain_sets (own g) (registers_of l f.name))
        (All-weaker (DrivesOne (registers_of l f.name)) (λ a. test a ≡ false)
        (λ a d.
        ap (λ (x : Option Text). is_cell x (Some name)) d.2
        ∙ other_cell d.0 name (λ same.
        apart_at registers new.distinct j k (registers_of l f.name) (registers_of l e.name) (registers_at j f at_j).0 (registers_at k e at).0 apart name (subst (λ (x : Text). Contains (registers_of l f.name) x) same d.1) has))
        (chain_sets (own g) (registers_of l f.name)) (chain_cells (own g) (registers_of l f.name)))

    of_registers : filter test (register_sets l c.events) ≡ filter test (chain_sets (own go) (registers_of l e.name))
    of_registers =
        let sets : Event → List Assignment = λ f. option_map_or (λ go. chain_sets (own go) (registers_of l f.name)) (go_of l f.name) [] in
        filter_flat test sets c.events
        ∙ flat_only (λ f. filter test (sets f)) c.events k e at (λ j f at_j apart. other_event j f at_j apart (go_of l f.name))
        ∙ ap (λ (o : Option Text). filter test (option_map_or (λ go. chain_sets (own go) (registers_of l e.name)) o [])) is_go

    -- an instance is another cell
    of_cell : (inst : Text) → Contains (instance_names instances) inst → (sets : List Assignment) → All (DrivesCell (Some inst)) sets → filter test sets ≡ []
    of_cell inst there sets all =
        filter_none test sets (All-weaker (DrivesCell (Some inst)) (λ a. test a ≡ false)
        (λ a d. ap (λ (x : Option Text). is_cell x (Some name)) d ∙ other_cell inst name (λ same. no_register inst name there in_all (sym same))) sets all)

    of_invocations : filter test (flat_map (invocation_sets l) l.scope.invocations) ≡ []
    of_invocations =
        filter_flat test (invocation_sets l) l.scope.invocations
        ∙ flat_none (λ v. filter test (invocation_sets l v)) l.scope.invocations (λ j v at_j.
        let f = All-contains (IsCalled (take n comps) c) l.scope.invocations v (all_called comps rules n c here) (Contains-at l.scope.invocations j v at_j) in
        of_cell v.inst (instance_there v f) (invocation_sets l v) (argument_cells l v (inputs_of_callee l v.inst) v.gives.args))

    of_starts : filter test (flat_map (start_sets l) instances) ≡ []
    of_starts =
        filter_flat test (start_sets l) instances
        ∙ flat_none (λ i. filter test (start_sets l i)) instances (λ j i at_j.
        of_cell i.name (contains_map (λ (x : Instance). x.name) instances i (Contains-at instances j i at_j)) (start_sets l i) (start_cells l i))

    of_connections : filter test (flat_map (connection_set l) c.body) ≡ []
    of_connections =
        filter_flat test (connection_set l) c.body
        ∙ flat_none (λ s. filter test (connection_set l s)) c.body (λ j s at_j.
        filter_none test (connection_set l s) (All-weaker (DrivesCell None) (λ a. test a ≡ false) (λ a d. ap (λ (x : Option Text). is_cell x (Some name)) d) (connection_set l s) (connection_cells l s)))

    pub chain_alone : filter test (lowered_sets l) ≡ filter test (chain_sets (own go) (registers_of l e.name))
    chain_alone =
        let r = register_sets l c.events in
        let i = flat_map (invocation_sets l) l.scope.invocations in
        let s = flat_map (start_sets l) instances in
        let d = flat_map (connection_set l) c.body in
        filter-append test (r ++ i ++ s) d
        ∙ ap₂ ◌++◌ (filter-append test (r ++ i) s ∙ ap₂ ◌++◌ (filter-append test r i ∙ ap₂ ◌++◌ of_registers of_invocations) of_starts) of_connections
        ∙ append-nil ((filter test (chain_sets (own go) (registers_of l e.name)) ++ []) ++ [])
        ∙ append-nil (filter test (chain_sets (own go) (registers_of l e.name)) ++ [])
        ∙ append-nil (filter test (chain_sets (own go) (registers_of l e.name)))

  -- the registers of an event are a chain after its interface port
  pub has_chain : (k : ℕ) (e : Event) → slice_get c.events k ≡ Some e → (go : Text) → go_of l e.name ≡ Some go → HasChain (lowered_component l) (own go) (registers_of l e.name)
  has_chain k e at go is_go = record {
    made = λ j d within.
        made_register (get_or (registers_of l e.name) j d) (among_lists registers (event_number c.events e.name) _ (Contains-get_or (registers_of l e.name) j d within));
    driven = λ j d within. chain_alone k e at go is_go (get_or (registers_of l e.name) j d) (Contains-get_or (registers_of l e.name) j d within);
    distinct = distinct_at registers new.distinct k (registers_of l e.name) (registers_at k e at).0;
  }

  pub plain_registers : (event : Text) → All IsPlain (registers_of l event)
  plain_registers event j d within =
      (All-contains (λ name. IsGenerated name × IsPlain name) (all_registers l) (get_or (registers_of l event) j d) new.generated
      (among_lists registers (event_number c.events event) _ (Contains-get_or (registers_of l event) j d within))).1
