-- What a guard asks, by its leaves: what holds of its sources and widths, and the ports that it reads.
use Rattle.std.proofs.Common.{◌≡◌, ℕ, zero, suc, ◌<◌, Bool, true, false, ◌&&◌, List, [], ◌∷◌, length, get_or, Contains, Option, None, Some, inl, inr, refl, sym, ap, ap₂, subst, ◌∙◌, arith}
use Rattle.std.specs.List.{list_all}
use Rattle.std.proofs.lemmas.Bool.{and_from, and_parts}
use Rattle.std.proofs.lemmas.List.Elements.{Contains-append_left, Contains-append_right, Contains-append_cases}
use Rattle.std.proofs.lemmas.List.Folds.{list_all-append}
use Rattle.hw_names.specs.Name.{Text}
use Rattle.net_core.specs.Graph.{guard_ports, guards_ports, option_ports}
use Rattle.net_core.specs.Guard.{GuardTree, GuardTrees, Reads, Compares, Negates, AllOf, AnyOf, NoGuards, MoreGuards}
use Rattle.net_core.specs.Rules.{PortLine, each_in_guard, each_read, each_reads, guard_widths_agree, guards_widths_agree, option_widths_agree}
use Rattle.net_core.specs.declared.net.Src.{Src}
use Rattle.net_guard.specs.Simplified.{all_leaves, leaves, option_leaves}

-- ---- lists within lists

pub none_in : {X : Type 0} (x : X) → Contains [] x → ⊥
none_in x (k, less, is) = omega (arith, less)

one_at : {X : Type 0} (x y : X) (k : ℕ) → k < 1 → get_or (x ∷ []) k y ≡ y → x ≡ y
one_at x y zero less is = is
one_at x y (suc k) less is = absurd (omega arith)

pub only_one : {X : Type 0} (x y : X) → Contains (x ∷ []) y → x ≡ y
only_one x y (k, less, is) = one_at x y k less is

pub first_in : {X : Type 0} (x : X) (xs : List X) → Contains (x ∷ xs) x
first_in x xs = (0, omega arith, refl)

pub later_in : {X : Type 0} (x y : X) (xs : List X) → Contains xs y → Contains (x ∷ xs) y
later_in x y xs (k, less, is) = (suc k, omega (arith, less), is)

passes_at : {X : Type 0} (p : X → Bool) (xs : List X) (k : ℕ) (d : X) → k < length xs → list_all p xs ≡ true → p (get_or xs k d) ≡ true
passes_at p [] k d less all = absurd (omega arith)
passes_at p (x ∷ xs) zero d less all = (and_parts (p x) (list_all p xs) all).0
passes_at p (x ∷ xs) (suc k) d less all = passes_at p xs k d (omega arith) (and_parts (p x) (list_all p xs) all).1

-- what passes of all of a list passes of all of a list within it
pub all_within : {X : Type 0} (p : X → Bool) (xs ys : List X) → ((x : X) → Contains xs x → Contains ys x) → list_all p ys ≡ true → list_all p xs ≡ true
all_within p [] ys within all = refl
all_within p (x ∷ xs) ys within all =
    let (k, less, is) = within x (first_in x xs) in
    and_from (p x) (list_all p xs) (ap p (sym is) ∙ passes_at p ys k x less all) (all_within p xs ys (λ y there. within y (later_in x y xs there)) all)

-- ---- sources and widths

and_true : (b : Bool) → b ≡ (b && true)
and_true true = refl
and_true false = refl

module _ (test : Src Text → Bool) where
  mutual
    each_read-leaves : (g : GuardTree Text) → each_read test g ≡ list_all (each_read test) (leaves g)
    each_read-leaves (Reads s) = and_true (test s)
    each_read-leaves (Compares op a b) = and_true (test a && test b)
    each_read-leaves (Negates g) = each_read-leaves g
    each_read-leaves (AllOf gs) = each_reads-leaves gs
    each_read-leaves (AnyOf gs) = each_reads-leaves gs

    each_reads-leaves : (gs : GuardTrees Text) → each_reads test gs ≡ list_all (each_read test) (all_leaves gs)
    each_reads-leaves NoGuards = refl
    each_reads-leaves (MoreGuards g gs) =
        ap₂ ◌&&◌ (each_read-leaves g) (each_reads-leaves gs) ∙ sym (list_all-append (each_read test) (leaves g) (all_leaves gs))

  option-leaves : (g : Option (GuardTree Text)) → each_in_guard test g ≡ list_all (each_read test) (option_leaves g)
  option-leaves None = refl
  option-leaves (Some g) = each_read-leaves g

  -- what holds of each source of a guard holds of those of one that asks no more
  pub sources_within : (old new : Option (GuardTree Text)) → ((leaf : GuardTree Text) → Contains (option_leaves new) leaf → Contains (option_leaves old) leaf) → each_in_guard test old ≡ true → each_in_guard test new ≡ true
  sources_within old new within all =
      option-leaves new ∙ all_within (each_read test) (option_leaves new) (option_leaves old) within (sym (option-leaves old) ∙ all)

module _ (ports : List PortLine) where
  mutual
    widths-leaves : (g : GuardTree Text) → guard_widths_agree ports g ≡ list_all (guard_widths_agree ports) (leaves g)
    widths-leaves (Reads s) = and_true (guard_widths_agree ports (Reads s))
    widths-leaves (Compares op a b) = and_true (guard_widths_agree ports (Compares op a b))
    widths-leaves (Negates g) = widths-leaves g
    widths-leaves (AllOf gs) = all_widths-leaves gs
    widths-leaves (AnyOf gs) = all_widths-leaves gs

    all_widths-leaves : (gs : GuardTrees Text) → guards_widths_agree ports gs ≡ list_all (guard_widths_agree ports) (all_leaves gs)
    all_widths-leaves NoGuards = refl
    all_widths-leaves (MoreGuards g gs) =
        ap₂ ◌&&◌ (widths-leaves g) (all_widths-leaves gs) ∙ sym (list_all-append (guard_widths_agree ports) (leaves g) (all_leaves gs))

  option_widths-leaves : (g : Option (GuardTree Text)) → option_widths_agree ports g ≡ list_all (guard_widths_agree ports) (option_leaves g)
  option_widths-leaves None = refl
  option_widths-leaves (Some g) = widths-leaves g

  pub widths_within : (old new : Option (GuardTree Text)) → ((leaf : GuardTree Text) → Contains (option_leaves new) leaf → Contains (option_leaves old) leaf) → option_widths_agree ports old ≡ true → option_widths_agree ports new ≡ true
  widths_within old new within all =
      option_widths-leaves new ∙ all_within (guard_widths_agree ports) (option_leaves new) (option_leaves old) within (sym (option_widths-leaves old) ∙ all)

-- ---- ports that are read

module _ (port : Text) where
  mutual
    port_leaf : (g : GuardTree Text) → Contains (guard_ports g) port → (leaf : GuardTree Text) × Contains (leaves g) leaf × Contains (guard_ports leaf) port
    port_leaf (Reads s) has = (Reads s, first_in (Reads s) [], has)
    port_leaf (Compares op a b) has = (Compares op a b, first_in (Compares op a b) [], has)
    port_leaf (Negates g) has = port_leaf g has
    port_leaf (AllOf gs) has = ports_leaf gs has
    port_leaf (AnyOf gs) has = ports_leaf gs has

    ports_leaf : (gs : GuardTrees Text) → Contains (guards_ports gs) port → (leaf : GuardTree Text) × Contains (all_leaves gs) leaf × Contains (guard_ports leaf) port
    ports_leaf NoGuards has = absurd (none_in port has)
    ports_leaf (MoreGuards g gs) has = elim (Contains-append_cases (guard_ports g) (guards_ports gs) port has) [
      | inl here ↦ let (leaf, among, asks) = port_leaf g here in (leaf, Contains-append_left (leaves g) (all_leaves gs) leaf among, asks)
      | inr later ↦ let (leaf, among, asks) = ports_leaf gs later in (leaf, Contains-append_right (leaves g) (all_leaves gs) leaf among, asks)
    ]

  mutual
    leaf_port : (g leaf : GuardTree Text) → Contains (leaves g) leaf → Contains (guard_ports leaf) port → Contains (guard_ports g) port
    leaf_port (Reads s) leaf among asks = subst (λ (h : GuardTree Text). Contains (guard_ports h) port) (sym (only_one (Reads s) leaf among)) asks
    leaf_port (Compares op a b) leaf among asks = subst (λ (h : GuardTree Text). Contains (guard_ports h) port) (sym (only_one (Compares op a b) leaf among)) asks
    leaf_port (Negates g) leaf among asks = leaf_port g leaf among asks
    leaf_port (AllOf gs) leaf among asks = leaf_ports gs leaf among asks
    leaf_port (AnyOf gs) leaf among asks = leaf_ports gs leaf among asks

    leaf_ports : (gs : GuardTrees Text) (leaf : GuardTree Text) → Contains (all_leaves gs) leaf → Contains (guard_ports leaf) port → Contains (guards_ports gs) port
    leaf_ports NoGuards leaf among asks = absurd (none_in leaf among)
    leaf_ports (MoreGuards g gs) leaf among asks = elim (Contains-append_cases (leaves g) (all_leaves gs) leaf among) [
      | inl here ↦ Contains-append_left (guard_ports g) (guards_ports gs) port (leaf_port g leaf here asks)
      | inr later ↦ Contains-append_right (guard_ports g) (guards_ports gs) port (leaf_ports gs leaf later asks)
    ]

  option_port_leaf : (g : Option (GuardTree Text)) → Contains (option_ports g) port → (leaf : GuardTree Text) × Contains (option_leaves g) leaf × Contains (guard_ports leaf) port
  option_port_leaf None has = absurd (none_in port has)
  option_port_leaf (Some g) has = port_leaf g has

  option_leaf_port : (g : Option (GuardTree Text)) (leaf : GuardTree Text) → Contains (option_leaves g) leaf → Contains (guard_ports leaf) port → Contains (option_ports g) port
  option_leaf_port None leaf among asks = absurd (none_in leaf among)
  option_leaf_port (Some g) leaf among asks = leaf_port g leaf among asks

  -- a port that a guard reads is one that a guard reads that asks as much
  pub ports_within : (old new : Option (GuardTree Text)) → ((leaf : GuardTree Text) → Contains (option_leaves new) leaf → Contains (option_leaves old) leaf) → Contains (option_ports new) port → Contains (option_ports old) port
  ports_within old new within has =
      let (leaf, among, asks) = option_port_leaf new has in
      option_leaf_port old leaf (within leaf among) asks
