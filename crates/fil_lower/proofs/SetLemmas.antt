-- The assignments of a lowered component, kind by kind.
use Rattle.std.proofs.Common.{◌≡◌, ℕ, zero, suc, ◌+◌, Bool, true, List, [], ◌∷◌, ◌++◌, flat_map, filter, get_or, slice_get, All, Option, Some, None, is_some, codes, refl, sym, ap, subst, ◌∙◌, arith}
use Rattle.std.specs.Option.{option_and_then, option_map_or}
use Rattle.std.specs.Prelude.{Contains, bytes_eq, ◌==◌, ◌&&◌}
use Rattle.std.proofs.lemmas.Bool.{and_parts}
use Rattle.std.proofs.lemmas.Bool.Decides.{Decides-eqb}
use Rattle.std.proofs.lemmas.List.Elements.{All-append, All-cons, All-contains, All-map, All-nil, filter_passes, Contains-append_right, Contains-get_or}
use Rattle.std.proofs.lemmas.Option.{same_Some}
use Rattle.std.proofs.lemmas.Slice.Eq.{bytes_eq-Decides}
use Rattle.hw_names.specs.Name.{Text}
use Rattle.net_core.specs.Guard.{GuardTree}
use Rattle.net_core.specs.declared.net.Src.TheVariants.{Port, Lit}
use Rattle.cal_ast.specs.Tree.{PortName, own, port_of, Assignment}
use Rattle.fil_ast.proofs.UseLemmas.{parts_of}
use Rattle.fil_ast.specs.Holds.{uses_of}
use Rattle.fil_ast.specs.Naming.{NamesEvents}
use Rattle.fil_ast.specs.Scope.{Instance, Invocation, instance_signature}
use Rattle.fil_ast.specs.Signature.{SigEvent, SigPort, Signature}
use Rattle.fil_ast.specs.Timeline.{IsUse, Use, interval_at}
use Rattle.fil_ast.specs.Tree.{Component, Design, Event, Statement, New, Call, Both, Connect, ValueTree}
use Rattle.fil_ast.specs.Wires.{whole_scope}
use Rattle.fil_fsm.specs.Chain.{bit_of, chain_sets, takes}
use Rattle.fil_share.proofs.ListLemmas.{All-flat_map, Contains-at}
use Rattle.fil_lower.specs.inside.Lowering.{Lowering, HasEnoughBits, Registers, all_registers, any_of, argument_sets, bit_at, connection_set, during, go_of, inputs_of_callee, invocation_sets, lowered_sets, lowered_value, lowering_with, register_sets, registers_of, start_set, start_sets, start_sets_from, starting_bits, starts_of}
use Rattle.fil_lower.proofs.GuardBitLemmas.{IsBit, Later, Start, IsGuard, Where, argument_guard, interface_is, use_bit}
use Rattle.fil_lower.proofs.CallLemmas.{IsCalled}
use Rattle.fil_lower.proofs.ListLemmas.{contains_in_flat, contains_none, filter_among}
use Rattle.fil_lower.proofs.UseLemmas.{all_uses}

-- what an assignment of a lowered component does
pub data IsSet (l : Lowering) : Assignment → Type 0 where
  Takes : (name : Text) (bit : PortName) → Contains (all_registers l) name → IsBit l bit → IsSet l (record { dst = port_of name (codes "in"); guard = None; src = Port bit })
  Enables : (name : Text) → Contains (all_registers l) name → IsSet l (record { dst = port_of name (codes "write_en"); guard = None; src = Lit 1 1 })
  Gives : (v : Invocation) (sig : Signature) (k : ℕ) (arg : ValueTree) (port : SigPort) (guard : Option (GuardTree PortName)) → Contains l.scope.invocations v → instance_signature l.scope v.inst ≡ Some sig →
      slice_get v.gives.args k ≡ Some arg → slice_get sig.ins k ≡ Some port → IsGuard l guard → IsSet l (record { dst = port_of v.inst port.name; guard = guard; src = lowered_value l arg })
  Starts : (i : Instance) (sig : Signature) (e : SigEvent) (go : Text) (guard : Option (GuardTree PortName)) → Contains l.scope.instances i → instance_signature l.scope i.name ≡ Some sig → Contains sig.events e → e.go ≡ Some go →
      IsGuard l guard → IsSet l (record { dst = port_of i.name go; guard = guard; src = Lit 1 1 })
  Connects : (output : Text) (value : ValueTree) → Contains l.scope.comp.body (Connect output value) → IsSet l (record { dst = own output; guard = None; src = lowered_value l value })

module _ (earlier : Design) (c : Component) (registers : Registers) (enough : HasEnoughBits (lowering_with earlier c registers)) (names : NamesEvents c) (called : All (IsCalled earlier c) (whole_scope earlier c).invocations) where
  abbrev l : Lowering
  l = lowering_with earlier c registers

  -- ---- registers

  chain : (bit : PortName) (chained : List Text) → IsBit l bit → ((name : Text) → Contains chained name → Contains (all_registers l) name) → All (IsSet l) (chain_sets bit chained)
  chain bit [] is among = All-nil (IsSet l)
  chain bit (name ∷ chained) is among =
      let here : Contains (all_registers l) name = among name (zero, omega arith, refl) in
      let enables : Assignment = record { dst = port_of name (codes "write_en"); guard = None; src = Lit 1 1 } in
      All-append (IsSet l) (takes bit name) (chain_sets (bit_of name) chained)
      (All-cons (IsSet l) _ (enables ∷ []) (Takes name bit here is) (All-cons (IsSet l) enables [] (Enables name here) (All-nil (IsSet l))))
      (chain (bit_of name) chained (Later name here) (λ other has. among other (suc has.0, omega (arith, has.1), has.2)))

  of_registers : (rss : List (List Text)) (k : ℕ) (name : Text) → Contains (get_or rss k []) name → Contains (flat_map (λ (names : List Text). names) rss) name
  of_registers rss k name has = by rss k has
    where
      by : (rss : List (List Text)) (k : ℕ) → Contains (get_or rss k []) name → Contains (flat_map (λ (names : List Text). names) rss) name
      by [] k has = absurd (contains_none name has)
      by (rs ∷ rss) zero has = contains_in_flat (λ (names : List Text). names) (rs ∷ rss) rs name (zero, omega arith, refl) has
      by (rs ∷ rss) (suc k) has = let m = by rss k has in later rs (flat_map (λ (names : List Text). names) rss) m
        where
          later : (xs ys : List Text) → Contains ys name → Contains (xs ++ ys) name
          later xs ys m = Contains-append_right xs ys name m

  of_events : (events : List Event) → All (IsSet l) (register_sets l events)
  of_events events = All-flat_map (IsSet l) sets events (λ k d within. by (get_or events k d) (go_of l (get_or events k d).name) refl)
    where
      sets : Event → List Assignment
      sets e = option_map_or (λ go. chain_sets (own go) (registers_of l e.name)) (go_of l e.name) []

      by : (e : Event) (o : Option Text) → go_of l e.name ≡ o → All (IsSet l) (option_map_or (λ go. chain_sets (own go) (registers_of l e.name)) o [])
      by e None is = All-nil (IsSet l)
      by e (Some go) is =
          let g = interface_is c.interfaces e.name go is in
          chain (own go) (registers_of l e.name) (subst (λ (n : Text). IsBit l (own n)) g.2 (Start g.0 g.1)) (λ name has. of_registers l.registers _ name has)

  -- ---- arguments

  arguments : (v : Invocation) (sig : Signature) → Contains l.scope.invocations v → instance_signature l.scope v.inst ≡ Some sig → (ports : List SigPort) (args : List ValueTree) →
      ((j : ℕ) (p : SigPort) (a : ValueTree) → slice_get ports j ≡ Some p → slice_get args j ≡ Some a → (k : ℕ) × (slice_get v.gives.args k ≡ Some a) × (slice_get sig.ins k ≡ Some p)) → All (IsSet l) (argument_sets l v ports args)
  arguments v sig of signed [] args at = All-nil (IsSet l)
  arguments v sig of signed (p ∷ ports) [] at = All-nil (IsSet l)
  arguments v sig of signed (p ∷ ports) (a ∷ args) at =
      let m = at 0 p a refl refl in
      let guard = argument_guard l enough names v sig p of signed (Contains-at sig.ins m.0 p m.2) in
      All-cons (IsSet l) _ (argument_sets l v ports args) (Gives v sig m.0 a p (option_and_then (during l) (interval_at v.gives.times p)) of signed m.1 m.2 guard)
      (arguments v sig of signed ports args (λ j q b at_q at_b. at (suc j) q b at_q at_b))

  of_invocations : All (IsSet l) (flat_map (invocation_sets l) l.scope.invocations)
  of_invocations =
      All-flat_map (IsSet l) (invocation_sets l) l.scope.invocations (λ k d within.
      let v = get_or l.scope.invocations k d in
      let of = Contains-get_or l.scope.invocations k d within in
      let f = All-contains (IsCalled earlier c) l.scope.invocations v called of in
      let ports : inputs_of_callee l v.inst ≡ f.sig.ins = ap (λ (o : Option Signature). option_map_or (λ (s : Signature). s.ins) o []) f.signed in
      subst (λ (ps : List SigPort). All (IsSet l) (argument_sets l v ps v.gives.args)) (sym ports)
      (arguments v f.sig of f.signed f.sig.ins v.gives.args (λ j p a at_p at_a. (j, at_a, at_p))))

  -- ---- starts

  starting : (inst : Text) (sig : Signature) (k : ℕ) (e : SigEvent) (go : Text) → instance_signature l.scope inst ≡ Some sig → slice_get sig.events k ≡ Some e → e.go ≡ Some go → All (IsBit l) (starting_bits l inst k)
  starting inst sig k e go signed at is =
      All-flat_map (IsBit l) (starts_of l inst k) l.scope.invocations (λ j d within.
      let v = get_or l.scope.invocations j d in
      let of = Contains-get_or l.scope.invocations j d within in
      let f = All-contains (IsCalled earlier c) l.scope.invocations v called of in
      let test : Use → Bool = λ u. bytes_eq u.inst inst && u.event == k in
      All-map (IsBit l) (λ (u : Use). bit_at l u.at.event u.at.plus) (filter test (uses_of l.scope v)) (λ m d' inside.
      let u = get_or (filter test (uses_of l.scope v)) m d' in
      let passes : test u ≡ true = filter_passes test (uses_of l.scope v) m d' inside in
      let both = and_parts (bytes_eq u.inst inst) (u.event == k) passes in
      let used = filter_among test (uses_of l.scope v) u (Contains-get_or (filter test (uses_of l.scope v)) m d' inside) in
      let is_use : IsUse f.sig v.inst v.gives.times u = All-contains (IsUse f.sig v.inst v.gives.times) (uses_of l.scope v) u (all_uses l.scope v f.sig f.signed) used in
      let named : v.inst ≡ inst = sym (parts_of is_use).named ∙ (bytes_eq-Decides u.inst inst).0 both.0 in
      let same_sig : sig ≡ f.sig = same_Some sig f.sig (sym signed ∙ ap (instance_signature l.scope) (sym named) ∙ f.signed) in
      let number : u.event ≡ k = (Decides-eqb u.event k).0 both.1 in
      let event : is_use.event ≡ e = same_Some is_use.event e (sym is_use.of ∙ ap (slice_get f.sig.events) number ∙ ap (λ (s : Signature). slice_get s.events k) (sym same_sig) ∙ at) in
      let has_go : u.go ≡ Some go = (parts_of is_use).go ∙ ap (λ (x : SigEvent). x.go) event ∙ is in
      use_bit l enough names v u of used (f.triggers u is_use (ap is_some has_go))))

  starts_from : (i : Instance) (sig : Signature) → Contains l.scope.instances i → instance_signature l.scope i.name ≡ Some sig → (k : ℕ) (events : List SigEvent) →
      ((j : ℕ) (x : SigEvent) → slice_get events j ≡ Some x → slice_get sig.events (k + j) ≡ Some x) → All (IsSet l) (start_sets_from l i.name k events)
  starts_from i sig of signed k [] at = All-nil (IsSet l)
  starts_from i sig of signed k (e ∷ events) at =
      All-append (IsSet l) (option_map_or (λ go. start_set i.name go (starting_bits l i.name k)) e.go []) (start_sets_from l i.name (suc k) events) (by e.go refl)
      (starts_from i sig of signed (suc k) events (λ j x at_x. let shift : k + suc j ≡ suc k + j = omega arith in ap (slice_get sig.events) (sym shift) ∙ at (suc j) x at_x))
    where
      here : slice_get sig.events k ≡ Some e
      here = let zero_at : k ≡ k + 0 = omega arith in ap (slice_get sig.events) zero_at ∙ at 0 e refl

      one : (go : Text) → e.go ≡ Some go → (bits : List PortName) → All (IsBit l) bits → All (IsSet l) (start_set i.name go bits)
      one go is [] all = All-nil (IsSet l)
      one go is (bit ∷ bits) all =
          All-cons (IsSet l) _ [] (Starts i sig e go (Some (any_of (bit ∷ bits))) of signed (Contains-at sig.events k e here) is (Where (bit ∷ bits) all)) (All-nil (IsSet l))

      by : (o : Option Text) → e.go ≡ o → All (IsSet l) (option_map_or (λ go. start_set i.name go (starting_bits l i.name k)) o [])
      by None is = All-nil (IsSet l)
      by (Some go) is = one go is (starting_bits l i.name k) (starting i.name sig k e go signed here is)

  of_instances : All (IsSet l) (flat_map (start_sets l) l.scope.instances)
  of_instances =
      All-flat_map (IsSet l) (start_sets l) l.scope.instances (λ k d within.
      by (get_or l.scope.instances k d) (Contains-get_or l.scope.instances k d within) (instance_signature l.scope (get_or l.scope.instances k d).name) refl)
    where
      by : (i : Instance) → Contains l.scope.instances i → (o : Option Signature) → instance_signature l.scope i.name ≡ o → All (IsSet l) (option_map_or (λ (sig : Signature). start_sets_from l i.name 0 sig.events) o [])
      by i of None is = All-nil (IsSet l)
      by i of (Some sig) is = starts_from i sig of is 0 sig.events (λ j x at. let shift : 0 + j ≡ j = omega arith in ap (slice_get sig.events) shift ∙ at)

  -- ---- connections

  of_body : All (IsSet l) (flat_map (connection_set l) c.body)
  of_body = All-flat_map (IsSet l) (connection_set l) c.body (λ k d within. by (get_or c.body k d) (Contains-get_or c.body k d within))
    where
      by : (s : Statement) → Contains c.body s → All (IsSet l) (connection_set l s)
      by (New name made params) of = All-nil (IsSet l)
      by (Call name inst gives) of = All-nil (IsSet l)
      by (Both name made params gives) of = All-nil (IsSet l)
      by (Connect output value) of = All-cons (IsSet l) _ [] (Connects output value of) (All-nil (IsSet l))

  pub sets_are : All (IsSet l) (lowered_sets l)
  sets_are =
      All-append (IsSet l) ((register_sets l c.events ++ flat_map (invocation_sets l) l.scope.invocations) ++ flat_map (start_sets l) l.scope.instances) (flat_map (connection_set l) c.body)
      (All-append (IsSet l) (register_sets l c.events ++ flat_map (invocation_sets l) l.scope.invocations) (flat_map (start_sets l) l.scope.instances)
      (All-append (IsSet l) (register_sets l c.events) (flat_map (invocation_sets l) l.scope.invocations) (of_events c.events) of_invocations) of_instances) of_body
