-- Plain names stay plain where invokes become groups and where groups become wires: the digits of an invoke's number are no dots.
use Rattle.std.proofs.Common.{◌≢◌, ℕ, zero, suc, ◌+◌, ◌/◌, ◌%◌, nat_lt, Bool, true, false, [], ◌∷◌, ◌++◌, get_or, if◌then◌else◌, refl, arith}
use Rattle.std.specs.Prelude.{All, codes}
use Rattle.std.proofs.lemmas.List.Elements.{All-nil, All-cons, All-append, All-push, All-map, All-weaker}
use Rattle.hw_names.proofs.NameLemmas.{HasNoDot-from_test}
use Rattle.hw_names.specs.Name.{dot, HasNoDot, IsPlain}
use Rattle.cal_ast.specs.Invoking.{InvokeDef, invokes_in, invoke_group}
use Rattle.cal_ast.specs.Plain.{IsPlainComponent, IsPlainGroup, AreGroupsPlain}
use Rattle.cal_ast.specs.Tree.{GroupDef, Component, Design}
use Rattle.cal_group.specs.inside.Expanded.{invoke_name, invoke_groups, expanded}
use Rattle.cal_group.specs.inside.Laws.{ExpandedIsPlainTree, ExpandedHasPlainGroups, RemovedIsPlainTree}
use Rattle.cal_group.specs.inside.Numeral.{digits_within, numeral}
use Rattle.cal_group.specs.inside.Removed.{removed}

-- ---- digits

abbrev IsNoDot : ℕ → Type 0
IsNoDot byte = byte ≢ dot

digit_no_dot : (d : ℕ) → IsNoDot (48 + d)
digit_no_dot d same = omega (arith, same)

digits_no_dot : (more n : ℕ) → HasNoDot (digits_within more n)
digits_no_dot zero n = All-nil IsNoDot
digits_no_dot (suc more) n = by (nat_lt n 10) (digits_no_dot more (n / 10))
  where
    by : (b : Bool) → HasNoDot (digits_within more (n / 10)) → HasNoDot (if b then (48 + n) ∷ [] else digits_within more (n / 10) ++ (48 + n % 10) ∷ [])
    by true rest = All-cons IsNoDot (48 + n) [] (digit_no_dot n) (All-nil IsNoDot)
    by false rest = All-push IsNoDot (digits_within more (n / 10)) (48 + n % 10) rest (digit_no_dot (n % 10))

numeral_no_dot : (n : ℕ) → HasNoDot (numeral n)
unfolding numeral
numeral_no_dot n = digits_no_dot (n + 1) n

plain_invoke : (item : ℕ) → IsPlain (invoke_name item)
plain_invoke item =
    (λ empty. cc, All-append IsNoDot (codes "c$invoke") (numeral item) (HasNoDot-from_test (codes "c$invoke") refl) (numeral_no_dot item))

-- ---- components

plain_groups : (design : Design) (c : Component) → AreGroupsPlain c → AreGroupsPlain (expanded design c)
plain_groups design c plain =
    let of_invoke : InvokeDef → GroupDef = λ i. invoke_group design c (invoke_name i.item) i in
    All-append IsPlainGroup c.groups (invoke_groups design c) plain
    (All-map IsPlainGroup of_invoke (invokes_in c) (λ k i within. plain_invoke (get_or (invokes_in c) k i).item))

pub expanded_has_plain_groups : ExpandedHasPlainGroups
expanded_has_plain_groups design plain =
    All-map AreGroupsPlain (expanded design) design
    (All-weaker AreGroupsPlain (λ (c : Component). AreGroupsPlain (expanded design c)) (plain_groups design) design plain)

-- a component with the same ports and cells
same_faces : (f : Component → Component) → ((c : Component) → IsPlainComponent c → IsPlainComponent (f c)) → (design : Design) → All IsPlainComponent design
    → All (λ (c : Component). IsPlainComponent (f c)) design
same_faces f keeps design tree = All-weaker IsPlainComponent (λ (c : Component). IsPlainComponent (f c)) keeps design tree

pub expanded_is_plain_tree : ExpandedIsPlainTree
expanded_is_plain_tree design tree =
    All-map IsPlainComponent (expanded design) design
    (same_faces (expanded design) (λ c is. record { ins = is.ins; outs = is.outs; cells = is.cells }) design tree)

pub removed_is_plain_tree : RemovedIsPlainTree
removed_is_plain_tree design rules tree =
    All-map IsPlainComponent (removed design rules) design
    (same_faces (removed design rules) (λ c is. record { ins = is.ins; outs = is.outs; cells = is.cells }) design tree)
