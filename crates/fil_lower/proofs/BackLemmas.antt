-- Each component of a lowered design stands where a Filament component does, and is given transactions by those of the top.
use Rattle.std.proofs.Common.{◌≡◌, ℕ, ◌<◌, Bool, true, false, cond, List, [], ◌∷◌, ◌++◌, map, flat_map, take, slice_get, Option, Some, None, refl, sym, ap, subst, ◌∙◌, inl, inr, append_assoc}
use Rattle.std.specs.List.{find}
use Rattle.std.specs.Option.{option_and_then, option_or, unwrap_or}
use Rattle.std.specs.Prelude.{Contains, bytes_eq, if◌then◌else◌}
use Rattle.std.proofs.lemmas.Bool.{cases_Bool}
use Rattle.std.proofs.lemmas.List.{append-nil}
use Rattle.std.proofs.lemmas.List.Folds.{find-append}
use Rattle.std.proofs.lemmas.Option.{none-some, option_and_then_some, same_Some}
use Rattle.hw_names.specs.Name.{Path, Text}
use Rattle.hw_prims.specs.Table.{is_primitive, prim_names}
use Rattle.hw_prims.specs.Timed.{Behaviour, Transaction}
use Rattle.cal_ast.specs.Instances.{component_at}
use Rattle.cal_ast.specs.Ports as ports
use Rattle.cal_ast.specs.Ports.{cell_named, part_in, part_of}
use Rattle.cal_ast.specs.Tree as calyx
use Rattle.cal_ast.specs.Tree.{CellDef}
use Rattle.fil_ast.specs.Behaviours.{IsGiven, Itself, Below, component_behaviour, inner_transactions}
use Rattle.fil_ast.specs.Primitives.{is_filament_primitive, table_name}
use Rattle.fil_ast.specs.Scope.{Instance, instance_named, signature_in}
use Rattle.fil_ast.specs.Tree.{Component}
use Rattle.fil_ast.specs.Wires.{whole_scope}
use Rattle.fil_fsm.specs.Chain.{register}
use Rattle.fil_lower.specs.Wires.{Stands, AtTop, Within}
use Rattle.fil_lower.specs.inside.Lowering.{lowered_cell, lowered_component, lowering_with}
use Rattle.fil_lower.proofs.CallLemmas.{found_among, signature_is}
use Rattle.fil_lower.proofs.ChainLemmas.{all_of, registers_joined}
use Rattle.fil_lower.proofs.LoweredParts.{LoweredComp, LoweredPair, comp_of}
use Rattle.fil_lower.proofs.NameLemmas.{from_map}
use Rattle.fil_lower.proofs.PartLemmas.{cell_of, comp_at, kind_here, not_a_primitive, table_primitive}

-- ---- cells by name

unmapped : {X Y : Type 0} (test : Y → Bool) (h : X → Y) (xs : List X) → find (λ x. test (h x)) xs ≡ None → find test (map h xs) ≡ None
unmapped test h [] none = refl
unmapped test h (x ∷ xs) none = by (test (h x)) none (unmapped test h xs)
  where
    by : (b : Bool) → cond b (Some x) (find (λ x. test (h x)) xs) ≡ None → (find (λ x. test (h x)) xs ≡ None → find test (map h xs) ≡ None) → cond b (Some (h x)) (find test (map h xs)) ≡ None
    by true e later = absurd (none-some x (sym e))
    by false e later = later e

register_is_primitive : (name : Text) → is_primitive (register name).made ≡ true
unfolding is_primitive prim_names
register_is_primitive name = refl

module _ (comp : LoweredComp) where
  open comp use {pair, pair.{comps, rules, plain, design, lowered}, n, c, here, registers, enough, new}

  abbrev instances : List Instance
  instances = (whole_scope (take n comps) c).instances

  abbrev low : calyx.Component
  low = lowered_component (lowering_with (take n comps) c registers)

  -- a cell that is no instance is a register
  pub register_cell : (cell : Text) → instance_named instances cell ≡ None → (def : CellDef) → cell_named low.cells cell ≡ Some def → (name : Text) × Contains (all_of registers) name × (register name ≡ def)
  register_cell cell none def is =
      let test : CellDef → Bool = λ x. bytes_eq x.name cell in
      let split : cell_named low.cells cell ≡ find test (flat_map (map register) registers) =
      find-append test (map lowered_cell instances) (flat_map (map register) registers)
      ∙ ap (λ (o : Option CellDef). option_or o (find test (flat_map (map register) registers))) (unmapped test lowered_cell instances none) in
      let among = found_among test (map register (all_of registers)) def (ap (find test) (sym (registers_joined registers)) ∙ sym split ∙ is) in
      from_map register (all_of registers) def among

  -- a cell of a component is an instance of it
  pub part_back : (cell : Text) (part : calyx.Component) → part_in design low cell ≡ Some part →
      (i : Instance) × (instance_named instances cell ≡ Some i) × (is_filament_primitive i.made ≡ false) × (m : ℕ) × (m < n) × (d : Component) × (slice_get comps m ≡ Some d) × (d.name ≡ i.made) × (slice_get design m ≡ Some part)
  part_back cell part is = by (instance_named instances cell) refl
    where
      by : (o : Option Instance) → instance_named instances cell ≡ o →
          (i : Instance) × (instance_named instances cell ≡ Some i) × (is_filament_primitive i.made ≡ false) × (m : ℕ) × (m < n) × (d : Component) × (slice_get comps m ≡ Some d) × (d.name ≡ i.made) × (slice_get design m ≡ Some part)
      by None none =
          option_and_then_some (part_of design) (cell_named low.cells cell) part is (λ def found made.
          let r = register_cell cell none def found in
          absurd (none-some part
          (sym (ap (λ (b : Bool). if b then None else ports.component_named design def.made) (ap (λ (x : CellDef). is_primitive x.made) (sym r.2) ∙ register_is_primitive r.0)) ∙ made)))
      by (Some i) found =
          let s = signature_is comps rules n c here cell i found in
          let signed : signature_in (take n comps) i.made i.params ≡ Some s.0 = sym (ap (option_and_then (λ (i : Instance). signature_in (take n comps) i.made i.params)) found) ∙ s.1 in
          elim (kind_here comp cell i s.0 found signed) [
            | inl p ↦
                (let made = unwrap_or (table_name i.made) i.made in
                let of_cell : part_in design low cell ≡ (if is_primitive made then None else ports.component_named design made) = ap (option_and_then (part_of design)) (cell_of comp cell i found) in
                elim (cases_Bool (is_primitive made)) [
                  | inl known ↦ absurd (none-some part (sym (of_cell ∙ ap (λ (b : Bool). if b then None else ports.component_named design made) known) ∙ is))
                  | inr unknown ↦ absurd (none-some p.prim (sym (not_a_primitive made i.params unknown) ∙ table_primitive (take n comps) i.made i.params p.prim p.is))
                ])
            | inr d ↦
                (i, found, d.none, d.m, d.below, d.d, d.at, d.is_named, d.at_part ∙ ap Some (same_Some d.part part (sym d.cell ∙ is)))
          ]

-- ---- paths

module _ (pair : LoweredPair) (number : ℕ) where
  open pair use {comps, rules, plain, design, lowered, plain_design}

  along : (path before : Path) (n : ℕ) (high found : calyx.Component) → Stands comps number n before → slice_get design n ≡ Some high → component_at design high path ≡ Some found →
      (m : ℕ) × Stands comps number m (before ++ path) × (slice_get design m ≡ Some found)
  along [] before n high found stands at is = (n, subst (λ (p : Path). Stands comps number n p) (sym (append-nil before)) stands, at ∙ is)
  along (cell ∷ path) before n high found stands at is =
      option_and_then_some (λ part. component_at design part path) (part_in design high cell) found is (λ part is_part rest.
      let c = comp_at pair n high at in
      let to = lowered.components n c.0 high c.1 at in
      let b = part_back (comp_of pair n c.0 high c.1 at) cell part (ap (λ (x : calyx.Component). part_in design x cell) (sym to.is) ∙ is_part) in
      let next = Within n b.3 before c.0 b.5 cell b.0 stands c.1 b.1 b.2 b.4 b.6 b.7 in
      let m = along path (before ++ cell ∷ []) b.3 part found next b.8 rest in
      (m.0, subst (λ (p : Path). Stands comps number m.0 p) (append_assoc before (cell ∷ []) path) m.1, m.2))

  -- what is at a path stands there
  pub stands_back : (top : calyx.Component) → slice_get design number ≡ Some top → (path : Path) (low : calyx.Component) → component_at design top path ≡ Some low → (n : ℕ) × Stands comps number n path × (slice_get design n ≡ Some low)
  stands_back top at path low is = along path [] number top low AtTop at is

  -- what stands at a path is given transactions, and so is what is below it
  record IsGivenAt (n : ℕ) (txs : List Transaction) (path : Path) : Type 0 where
    given : List Transaction
    deeper : (b : Behaviour) (more : List Transaction) (rest : Path) → IsGiven comps b more n given rest → IsGiven comps b more number txs (path ++ rest)

  given_along : (n : ℕ) (path : Path) (txs : List Transaction) → Stands comps number n path → IsGivenAt n txs path
  given_along n path txs AtTop = record { given = txs; deeper = λ b more rest is. is }
  given_along n path txs (Within k m before c d inst i stands here found none below at_m is_named) =
      let g = given_along k before txs stands in
      record {
        given = inner_transactions (take k comps) c g.given inst;
        deeper = λ b more rest is.
            subst (λ (p : Path). IsGiven comps b more number txs p) (sym (append_assoc before (inst ∷ []) rest))
            (g.deeper b more (inst ∷ rest) (Below k m g.given c d inst i rest here found none below at_m is_named is));
      }

  pub stands_given : (n : ℕ) (path : Path) (c : Component) (txs : List Transaction) → Stands comps number n path → slice_get comps n ≡ Some c →
      (given : List Transaction) × IsGiven comps (component_behaviour (take n comps) c) given number txs path
  stands_given n path c txs stands here =
      let g = given_along n path txs stands in
      (g.given, subst (λ (p : Path). IsGiven comps (component_behaviour (take n comps) c) g.given number txs p) (append-nil path) (g.deeper (component_behaviour (take n comps) c) g.given [] (Itself n c here refl)))
