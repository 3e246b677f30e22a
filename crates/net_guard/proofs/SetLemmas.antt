-- Assignments whose guards are folded, and the netlist that they make.
use Rattle.std.proofs.Common.{◌≡◌, ℕ, ◌+◌, ◌<◌, ◌≤◌, true, List, [], ◌∷◌, ◌++◌, length, map, take, get_or, sum_by, All, Contains, Option, None, Some, refl, sym, ap, ap₂, subst, subst₂, ◌∙◌, arith}
use Rattle.std.proofs.lemmas.List.{map-append}
use Rattle.std.proofs.lemmas.List.Elements.{All-nil, All-push}
use Rattle.std.proofs.lemmas.List.Sums.{sum_by-cons}
use Rattle.hw_names.specs.Name.{Text, text_of}
use Rattle.hw_names.specs.declared.names.NameId.{NameId}
use Rattle.net_core.specs.Guard.{GuardTree, guard_holds, guard_option, holds, source_tree}
use Rattle.net_core.specs.Netlist.{CellLine, SetLine, cell_of, pin_of, set_of, netlist_of}
use Rattle.net_core.specs.Numbers.{CellHasNumbers, HasNumbers, IsNumberOf, PortHasNumbers, SetHasNumbers, SourceHasNumbers, WhenHasNumbers}
use Rattle.net_core.specs.Weight.{option_nodes, set_weight}
use Rattle.net_core.specs.declared.net.Guard.{Guard}
use Rattle.net_core.specs.declared.net.Net.{Net}
use Rattle.net_core.specs.declared.net.NetAssign.{NetAssign}
use Rattle.net_core.specs.declared.net.NetPort.{NetPort}
use Rattle.net_guard.proofs.LeafLemmas.{none_in}
use Rattle.net_guard.proofs.Lists.{map_next}
use Rattle.net_guard.specs.Folded.{HasFoldedGuards, IsFolded, IsFoldedOption}
use Rattle.net_guard.specs.inside.Folding.{IsFoldOf, IsGuardOf, IsReduced, IsSetFoldOf, SetsFoldTo, open_tree, tree_of}
use Rattle.net_guard.specs.Simplified.{AreSimplifiedSets, IsNeverTrue, IsSimplified, IsSimplifiedSet, Kept, Left, NoSets, option_leaves}
use Rattle.net_guard.specs.declared.tops.Open.{Open}

-- ---- one assignment

-- what a guard, or none, has become
pub record IsWhenFoldOf (names : List Text) (old new : Option (Guard NameId)) : Type 0 where
  pub numbers : WhenHasNumbers names new
  pub truth : (look : Text → ℕ) → guard_holds look (guard_option (text_of names) new) ≡ guard_holds look (guard_option (text_of names) old)
  pub leaves : (leaf : GuardTree Text) → Contains (option_leaves (guard_option (text_of names) new)) leaf → Contains (option_leaves (guard_option (text_of names) old)) leaf
  pub nodes : option_nodes (guard_option (text_of names) new) ≤ option_nodes (guard_option (text_of names) old)
  pub folded : IsFoldedOption (guard_option (text_of names) new)

pub no_guard_folds : (names : List Text) → IsWhenFoldOf names None None
no_guard_folds names = record { numbers = tt; truth = λ look. refl; leaves = λ leaf here. here; nodes = omega arith; folded = tt }

pub true_guard_folds : (names : List Text) (g : Guard NameId) → ((look : Text → ℕ) → holds look (tree_of names g) ≡ true) → IsWhenFoldOf names (Some g) None
true_guard_folds names g always =
    record { numbers = tt; truth = λ look. sym (always look); leaves = λ leaf here. absurd (none_in leaf here); nodes = omega arith; folded = tt }

pub guard_folds : (names : List Text) (g new : Guard NameId) (o : Open) → IsFoldOf names (tree_of names g) o → IsGuardOf names (open_tree names o) new → IsWhenFoldOf names (Some g) (Some new)
guard_folds names g new o fold is =
    let R : GuardTree Text → Type 0 = IsReduced (tree_of names g) in
    let F : GuardTree Text → Type 0 = IsFolded in
    let reduced : IsReduced (tree_of names g) (tree_of names new) = subst R (sym is.tree) fold.reduced in
    record {
      numbers = is.numbers;
      truth = reduced.truth;
      leaves = reduced.leaves;
      nodes = reduced.nodes;
      folded = subst F (sym is.tree) fold.folded;
    }

pub set_folds : (names : List Text) (old new : NetAssign) → SetHasNumbers names old → new.dst ≡ old.dst → new.src ≡ old.src → IsWhenFoldOf names old.guard new.guard → IsSetFoldOf names old new
set_folds names old new (dst, when, src) same_dst same_src guard =
    record {
      numbers = (subst (IsNumberOf names) (sym same_dst) dst, guard.numbers, subst (SourceHasNumbers names) (sym same_src) src);
      simplified =
          record {
            dst = ap (text_of names) same_dst;
            src = ap (source_tree (text_of names)) same_src;
            truth = guard.truth;
            leaves = guard.leaves;
            nodes = guard.nodes;
          };
      folded = guard.folded;
    }

-- ---- the assignments

pub no_sets : (names : List Text) → SetsFoldTo names [] []
no_sets names = record { numbers = All-nil (SetHasNumbers names); simplified = NoSets; folded = All-nil (λ (a : SetLine). IsFoldedOption a.guard); weight = omega arith }

kept_last : (olds news : List SetLine) (old new : SetLine) → AreSimplifiedSets olds news → IsSimplifiedSet old new → AreSimplifiedSets (olds ++ old ∷ []) (news ++ new ∷ [])
kept_last _ _ old new NoSets is = Kept old new [] [] is NoSets
kept_last _ _ old new (Kept first firsts olds news s rest) is = Kept first firsts (olds ++ old ∷ []) (news ++ new ∷ []) s (kept_last olds news old new rest is)
kept_last _ _ old new (Left first olds news never rest) is = Left first (olds ++ old ∷ []) (news ++ new ∷ []) never (kept_last olds news old new rest is)

left_last : (olds news : List SetLine) (old : SetLine) → AreSimplifiedSets olds news → IsNeverTrue old → AreSimplifiedSets (olds ++ old ∷ []) news
left_last _ _ old NoSets never = Left old [] [] never NoSets
left_last _ _ old (Kept first firsts olds news s rest) never = Kept first firsts (olds ++ old ∷ []) news s (left_last olds news old rest never)
left_last _ _ old (Left first olds news before rest) never = Left first (olds ++ old ∷ []) news before (left_last olds news old rest never)

no_heavier : (olds news : List SetLine) → AreSimplifiedSets olds news → sum_by set_weight news ≤ sum_by set_weight olds
no_heavier _ _ NoSets = omega arith
no_heavier _ _ (Kept old new olds news s rest) = omega (arith, sum_by-cons set_weight old olds, sum_by-cons set_weight new news, s.nodes, no_heavier olds news rest)
no_heavier _ _ (Left old olds news never rest) = omega (arith, sum_by-cons set_weight old olds, no_heavier olds news rest)

module _ (names : List Text) (sets : List NetAssign) where
  next_set : (i : ℕ) (a : NetAssign) → i < length sets → a ≡ get_or sets i a → map (set_of names) (take (i + 1) sets) ≡ map (set_of names) (take i sets) ++ set_of names a ∷ []
  next_set i a less is = map_next (set_of names) sets i a less is

  pub set_left : (i : ℕ) (a : NetAssign) (news : List NetAssign) → i < length sets → a ≡ get_or sets i a → SetsFoldTo names (take i sets) news → IsNeverTrue (set_of names a) → SetsFoldTo names (take (i + 1) sets) news
  set_left i a news less is so_far never =
      let simplified : AreSimplifiedSets (map (set_of names) (take (i + 1) sets)) (map (set_of names) news) =
      subst (λ (olds : List SetLine). AreSimplifiedSets olds (map (set_of names) news)) (sym (next_set i a less is)) (left_last (map (set_of names) (take i sets)) (map (set_of names) news) (set_of names a) so_far.simplified never) in
      record {
        numbers = so_far.numbers;
        simplified = simplified;
        folded = so_far.folded;
        weight = no_heavier (map (set_of names) (take (i + 1) sets)) (map (set_of names) news) simplified;
      }

  pub set_kept : (i : ℕ) (a new : NetAssign) (news : List NetAssign) → i < length sets → a ≡ get_or sets i a → SetsFoldTo names (take i sets) news → IsSetFoldOf names a new → SetsFoldTo names (take (i + 1) sets) (news ++ new ∷ [])
  set_kept i a new news less is so_far fold =
      let lines : map (set_of names) (news ++ new ∷ []) ≡ map (set_of names) news ++ set_of names new ∷ [] = map-append (set_of names) news (new ∷ []) in
      let both = kept_last (map (set_of names) (take i sets)) (map (set_of names) news) (set_of names a) (set_of names new) so_far.simplified fold.simplified in
      let simplified : AreSimplifiedSets (map (set_of names) (take (i + 1) sets)) (map (set_of names) (news ++ new ∷ [])) =
      subst₂ AreSimplifiedSets (sym (next_set i a less is)) (sym lines) both in
      record {
        numbers = All-push (SetHasNumbers names) news new so_far.numbers fold.numbers;
        simplified = simplified;
        folded = subst (λ (ls : List SetLine). All (λ (l : SetLine). IsFoldedOption l.guard) ls) (sym lines) (All-push (λ (l : SetLine). IsFoldedOption l.guard) (map (set_of names) news) (set_of names new) so_far.folded fold.folded);
        weight = no_heavier (map (set_of names) (take (i + 1) sets)) (map (set_of names) (news ++ new ∷ [])) simplified;
      }

-- ---- the netlist

-- the netlist has the names, the ports and the cells of the old one
pub record IsCopy (old new : Net) : Type 0 where
  pub names : new.names ≡ old.names
  pub name : new.name ≡ old.name
  pub ins : new.ins.items ≡ old.ins.items
  pub outs : new.outs.items ≡ old.outs.items
  pub wires : new.wires.items ≡ old.wires.items
  pub cells : (texts : List Text) → map (cell_of texts) new.cells.items ≡ map (cell_of texts) old.cells.items
  pub cell_numbers : All (CellHasNumbers old.names) old.cells.items → All (CellHasNumbers old.names) new.cells.items

pub copy_is_simplified : (old new : Net) → IsCopy old new → SetsFoldTo old.names old.sets.items new.sets.items → IsSimplified (netlist_of old) (netlist_of new)
copy_is_simplified old new same fold =
    let cells : map (cell_of new.names) new.cells.items ≡ map (cell_of old.names) old.cells.items = same.cells new.names ∙ ap (λ (ns : List Text). map (cell_of ns) old.cells.items) same.names in
    let sets : map (set_of new.names) new.sets.items ≡ map (set_of old.names) new.sets.items = ap (λ (ns : List Text). map (set_of ns) new.sets.items) same.names in
    record {
      name = ap₂ text_of same.names same.name;
      ins = ap₂ (λ (ns : List Text) (ps : List NetPort). map (pin_of ns) ps) same.names same.ins;
      outs = ap₂ (λ (ns : List Text) (ps : List NetPort). map (pin_of ns) ps) same.names same.outs;
      wires = ap₂ (λ (ns : List Text) (ps : List NetPort). map (pin_of ns) ps) same.names same.wires;
      cells = cells;
      sets = subst (AreSimplifiedSets (map (set_of old.names) old.sets.items)) (sym sets) fold.simplified;
      weight = omega (arith, ap (length {A = CellLine}) cells, ap (sum_by set_weight) sets, fold.weight);
    }

pub copy_has_folded_guards : (old new : Net) → IsCopy old new → SetsFoldTo old.names old.sets.items new.sets.items → HasFoldedGuards (netlist_of new)
copy_has_folded_guards old new same fold =
    subst (λ (ns : List Text). All (λ (a : SetLine). IsFoldedOption a.guard) (map (set_of ns) new.sets.items)) (sym same.names) fold.folded

pub copy_has_numbers : (old new : Net) → IsCopy old new → SetsFoldTo old.names old.sets.items new.sets.items → HasNumbers old → HasNumbers new
copy_has_numbers old new same fold has =
    record {
      name = subst₂ IsNumberOf (sym same.names) (sym same.name) has.name;
      ins = subst₂ (λ (ns : List Text) (ps : List NetPort). All (PortHasNumbers ns) ps) (sym same.names) (sym same.ins) has.ins;
      outs = subst₂ (λ (ns : List Text) (ps : List NetPort). All (PortHasNumbers ns) ps) (sym same.names) (sym same.outs) has.outs;
      wires = subst₂ (λ (ns : List Text) (ps : List NetPort). All (PortHasNumbers ns) ps) (sym same.names) (sym same.wires) has.wires;
      cells = subst (λ (ns : List Text). All (CellHasNumbers ns) new.cells.items) (sym same.names) (same.cell_numbers has.cells);
      sets = subst (λ (ns : List Text). All (SetHasNumbers ns) new.sets.items) (sym same.names) fold.numbers;
    }
