-- A design none of whose numbers is too large keeps the limits.
use Rattle.std.proofs.Common.{◌≡◌, ℕ, ◌≤◌, Bool, true, false, cond, List, [], ◌∷◌, ◌++◌, map, All, Option, Some, None, refl, sym, ◌∙◌}
use Rattle.std.specs.Prelude.{find, flat_map}
use Rattle.std.proofs.lemmas.Bool.{ltb-false}
use Rattle.std.proofs.lemmas.List.Elements.{All-nil, All-cons, All-head, All-tail, All-weaker}
use Rattle.fil_ast.specs.Limits.{KeepsOffsetLimit, KeepsStatementLimit, KeepsLimits, HasSmallOffsets}
use Rattle.fil_ast.specs.Tree.{design_of}
use Rattle.hw_limits.specs.declared.limits.TheConstants.{MOST_OFFSET}
use Rattle.fil_ast.specs.declared.tree.Time.{Time}
use Rattle.fil_ast.specs.declared.tree.EventDef.{EventDef}
use Rattle.fil_ast.specs.declared.tree.FilComp.{FilComp}
use Rattle.fil_ast.specs.declared.tree.FilDesign.{FilDesign}
use Rattle.fil_ast.specs.declared.tree.FilPort.{FilPort}
use Rattle.fil_ast.specs.declared.tree.Stmt.{Stmt}
use Rattle.fil_ast.specs.declared.tree.Stmt.TheVariants as stmts
use Rattle.fil_parse.specs.inside.Offsets.{of_port, of_statement, of_events, of_component}
use Rattle.fil_parse.specs.Spelling.{is_large, first_large}
use Rattle.fil_parse.proofs.OffsetLists.{design_same}

not_first : {X : Type 0} (x : X) (later : Option X) (b : Bool) → cond b (Some x) later ≡ None → (b ≡ false) × (later ≡ None)
not_first x later true none = absurd (cc)
not_first x later false none = (refl, none)

-- where none is found, each fails the test
none_passes : {X : Type 0} (p : X → Bool) (xs : List X) → find p xs ≡ None → All (λ x. p x ≡ false) xs
none_passes p [] none = All-nil (λ x. p x ≡ false)
none_passes p (x ∷ xs) none =
    let parts = not_first x (find p xs) (p x) none in
    All-cons (λ y. p y ≡ false) x xs parts.0 (none_passes p xs parts.1)

module _ {Y : Type 0} (P : Y → Type 0) where
  front : (xs ys : List Y) → All P (xs ++ ys) → All P xs
  front [] ys all = All-nil P
  front (x ∷ xs) ys all = All-cons P x xs (All-head P x (xs ++ ys) all) (front xs ys (All-tail P x (xs ++ ys) all))

  back : (xs ys : List Y) → All P (xs ++ ys) → All P ys
  back [] ys all = all
  back (x ∷ xs) ys all = back xs ys (All-tail P x (xs ++ ys) all)

  module _ {X : Type 0} where
    unmapped : (f : X → Y) (xs : List X) → All P (map f xs) → All (λ x. P (f x)) xs
    unmapped f [] all = All-nil (λ x. P (f x))
    unmapped f (x ∷ xs) all = All-cons (λ y. P (f y)) x xs (All-head P (f x) (map f xs) all) (unmapped f xs (All-tail P (f x) (map f xs) all))

    parted : (f : X → List Y) (xs : List X) → All P (flat_map f xs) → All (λ x. All P (f x)) xs
    parted f [] all = All-nil (λ x. All P (f x))
    parted f (x ∷ xs) all =
        All-cons (λ y. All P (f y)) x xs (front (f x) (flat_map f xs) all) (parted f xs (back (f x) (flat_map f xs) all))

abbrev IsSmall : ℕ → Type 0
IsSmall offset = offset ≤ MOST_OFFSET

port_small : (p : FilPort) → All IsSmall (of_port p) → KeepsOffsetLimit p
port_small p all =
    let later = All-tail IsSmall p.from.plus (p.to.plus ∷ []) all in
    (All-head IsSmall p.from.plus (p.to.plus ∷ []) all, All-head IsSmall p.to.plus [] later)

statement_small : (s : Stmt) → All IsSmall (of_statement s) → KeepsStatementLimit s
statement_small (stmts.New name made params) all = tt
statement_small (stmts.Call name inst at args) all = unmapped IsSmall (λ (t : Time). t.plus) at.items all
statement_small (stmts.Both name made params at args) all = unmapped IsSmall (λ (t : Time). t.plus) at.items all
statement_small (stmts.Set dst value) all = tt

ports_small : (ports : List FilPort) → All IsSmall (flat_map of_port ports) → All KeepsOffsetLimit ports
ports_small ports all = All-weaker (λ p. All IsSmall (of_port p)) KeepsOffsetLimit port_small ports (parted IsSmall of_port ports all)

component_small : (c : FilComp) → All IsSmall (of_component c) → KeepsLimits c
component_small c all =
    let events = of_events c.events.items in
    let ins = flat_map of_port c.ins.items in
    let outs = flat_map of_port c.outs.items in
    let body = flat_map of_statement c.body.items in
    let ports = back IsSmall events (ins ++ (outs ++ body)) all in
    let rest = back IsSmall ins (outs ++ body) ports in
    record {
      events = unmapped IsSmall (λ (e : EventDef). e.delay) c.events.items (front IsSmall events (ins ++ (outs ++ body)) all);
      ins = ports_small c.ins.items (front IsSmall ins (outs ++ body) ports);
      outs = ports_small c.outs.items (front IsSmall outs body rest);
      body = All-weaker (λ s. All IsSmall (of_statement s)) KeepsStatementLimit statement_small c.body.items (parted IsSmall of_statement c.body.items (back IsSmall outs body rest));
    }

pub small_offsets : (d : FilDesign) → first_large (design_of d) ≡ None → HasSmallOffsets d
small_offsets d none =
    let offsets = flat_map of_component d.comps.items in
    let passed = none_passes is_large offsets (sym (design_same d) ∙ none) in
    let small = All-weaker (λ n. is_large n ≡ false) IsSmall (λ n. ltb-false MOST_OFFSET n) offsets passed in
    All-weaker (λ c. All IsSmall (of_component c)) KeepsLimits component_small d.comps.items (parted IsSmall of_component d.comps.items small)
