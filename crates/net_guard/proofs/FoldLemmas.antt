-- Folded guards behind a `!`, and guards of which others are reductions.
use Rattle.std.proofs.Common.{◌≡◌, ℕ, Bool, true, false, not, List, refl, sym, ap, ◌∙◌, arith}
use Rattle.hw_names.specs.Name.{Text}
use Rattle.net_core.specs.Guard.{GuardTree, Negates, holds}
use Rattle.net_guard.specs.Folded.{IsFoldedPart, NegatesNoNegation}
use Rattle.net_guard.specs.inside.Folding.{FoldsTo, IsFoldOf, IsReduced, core_tree, flipped, negated_tree}
use Rattle.net_guard.specs.declared.fold.Folded.{Folded}
use Rattle.net_guard.specs.declared.fold.Folded.TheVariants.{Known, Sometimes}
use Rattle.net_guard.specs.declared.tops.Core.{Core}
use Rattle.net_guard.specs.declared.tops.Core.TheVariants as cores
use Rattle.net_guard.specs.declared.tops.Joint.TheVariants as joints

not_not : (b : Bool) → not (not b) ≡ b
not_not true = refl
not_not false = refl

-- no core is a `!`
core_negation : (names : List Text) (c : Core) → NegatesNoNegation (Negates (core_tree names c))
core_negation names (cores.Read s) = tt
core_negation names (cores.Test op a b) = tt
core_negation names (cores.List joints.All gs) = tt
core_negation names (cores.List joints.Any gs) = tt

negated_part : (names : List Text) (c : Core) → IsFoldedPart (Negates (core_tree names c))
negated_part names c = record { literal = tt; comparison = tt; negation = core_negation names c; all = tt; any = tt; lists = tt }

pub fold_negated : (names : List Text) (old : GuardTree Text) (negated inner : Bool) (c : Core) → IsFoldOf names old (record { negated = inner; core = c }) → IsFoldOf names (negated_tree negated old) (record { negated = flipped inner negated; core = c })
fold_negated names old false inner c h = h
fold_negated names old true false c h =
    record {
      numbers = h.numbers;
      reduced = record { truth = λ look. ap not (h.reduced.truth look); leaves = h.reduced.leaves; nodes = omega (arith, h.reduced.nodes) };
      folded = (negated_part names c, h.folded);
    }
fold_negated names old true true c h =
    record {
      numbers = h.numbers;
      reduced = record { truth = λ look. sym (not_not (holds look (core_tree names c))) ∙ ap not (h.reduced.truth look); leaves = h.reduced.leaves; nodes = omega (arith, h.reduced.nodes) };
      folded = h.folded.1;
    }

pub known_negated : (old : GuardTree Text) (negated truth : Bool) → ((look : Text → ℕ) → holds look old ≡ truth) → (look : Text → ℕ) → holds look (negated_tree negated old) ≡ flipped truth negated
known_negated old false truth h look = h look
known_negated old true truth h look = ap not (h look)

-- what folds a reduction of a guard folds the guard
pub folds_whole : (names : List Text) (whole part : GuardTree Text) (found : Folded) → IsReduced whole part → FoldsTo names part found → FoldsTo names whole found
folds_whole names whole part (Known truth) r h = λ look. sym (r.truth look) ∙ h look
folds_whole names whole part (Sometimes new) r h =
    record {
      numbers = h.numbers;
      reduced = record { truth = λ look. h.reduced.truth look ∙ r.truth look; leaves = λ leaf here. r.leaves leaf (h.reduced.leaves leaf here); nodes = omega (arith, r.nodes, h.reduced.nodes) };
      folded = h.folded;
    }

-- a guard is a reduction of itself
pub same_reduced : (g : GuardTree Text) → IsReduced g g
same_reduced g = record { truth = λ look. refl; leaves = λ leaf here. here; nodes = omega arith }

-- a `!` inside goes by the one before it, or takes its place
pub negation_inside : (whole inner : GuardTree Text) (negated : Bool) → IsReduced whole (negated_tree negated (Negates inner)) → IsReduced whole (negated_tree (not negated) inner)
negation_inside whole inner true h =
    record { truth = λ look. sym (not_not (holds look inner)) ∙ h.truth look; leaves = h.leaves; nodes = omega (arith, h.nodes) }
negation_inside whole inner false h = record { truth = h.truth; leaves = h.leaves; nodes = h.nodes }
