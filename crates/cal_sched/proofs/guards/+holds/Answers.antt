use Rattle.std.proofs.Common.{◌≡◌, ℕ, ◌<◌, List, All, Bool, true, false, not, cond, length, map, refl, ap, subst, sym, ◌∙◌, inl, inr, rules, Vec, Global}
use Rattle.std.specs.Bool.{beq}
use Rattle.net_core.proofs.GuardLemmas.{guard_tree-All, guard_tree-Any}
use Rattle.net_core.specs.Graph.{guard_ports}
use Rattle.net_core.specs.Guard.{all_hold, any_holds, guard_tree, guards_of, holds}
use Rattle.net_core.specs.declared.net.Guard.{Guard, the_lemmas}
use Rattle.net_core.specs.declared.net.Guard.TheVariants as variants
use Rattle.cal_sched.specs.Watching.{AreWithin, numbers_only, value_at}
use Rattle.cal_sched.proofs.GuardLemmas.{list_reads}
use Rattle.cal_sched.proofs.guards.+holds.Goals as goal

differs : (value negated : Bool) → not (beq value negated) ≡ cond negated (not value) value
differs true true = refl
differs true false = refl
differs false true = refl
differs false false = refl

-- what was found behind the `!`, negated as often, is what the guard comes to
negated_whole : (found negated inner whole : Bool) → whole ≡ cond negated (not inner) inner → found ≡ inner → not (beq found negated) ≡ whole
negated_whole found negated inner whole is same = differs found negated ∙ ap (λ value. cond negated (not value) value) same ∙ sym is

module _ (look : ℕ → ℕ) (inner : Guard ℕ) (v : Vec (Guard ℕ) Global) (guards : List (Guard ℕ)) (found : Bool) (same : guards ≡ v.items) where
  holds_all : inner ≡ variants.All v → found ≡ all_hold look (guards_of (map (guard_tree numbers_only) guards)) → found ≡ holds look (guard_tree numbers_only inner)
  holds_all is all =
      all ∙ ap (λ (gs : List (Guard ℕ)). all_hold look (guards_of (map (guard_tree numbers_only) gs))) same
      ∙ ap (holds look) (sym (guard_tree-All numbers_only v)) ∙ ap (λ (g : Guard ℕ). holds look (guard_tree numbers_only g)) (sym is)

  holds_any : inner ≡ variants.Any v → found ≡ any_holds look (guards_of (map (guard_tree numbers_only) guards)) → found ≡ holds look (guard_tree numbers_only inner)
  holds_any is any =
      any ∙ ap (λ (gs : List (Guard ℕ)). any_holds look (guards_of (map (guard_tree numbers_only) gs))) same
      ∙ ap (holds look) (sym (guard_tree-Any numbers_only v)) ∙ ap (λ (g : Guard ℕ). holds look (guard_tree numbers_only g)) (sym is)

pub holds-all_hold-requires : goal.holds-all_hold-requires
holds-all_hold-requires t c =
    let values = c.args.sim.now.values in
    let W : List (Guard ℕ) → Type 0 = All (λ g. AreWithin values (guard_ports (guard_tree numbers_only g))) in (
      search (rules, the_lemmas),
      subst W (sym c.deref-in-All.ensures.value) (list_reads numbers_only (λ k. k < length values) c.loop-inner.inner.now c.in-All.guards (inl c.in-All.is) c.loop-inner.invariant.within),
    )

pub holds-returns-in-All : goal.holds-returns-in-All
holds-returns-in-All t c =
    let look = value_at c.args.sim.now.values in
    negated_whole c.all_hold.result c.loop-inner.negated _ _ c.loop-inner.invariant.value
    (holds_all look c.loop-inner.inner.now c.in-All.guards c.deref-in-All.result.now c.all_hold.result c.deref-in-All.ensures.value c.in-All.is c.all_hold.ensures)

pub holds-any_holds-requires : goal.holds-any_holds-requires
holds-any_holds-requires t c =
    let values = c.args.sim.now.values in
    let W : List (Guard ℕ) → Type 0 = All (λ g. AreWithin values (guard_ports (guard_tree numbers_only g))) in (
      search (rules, the_lemmas),
      subst W (sym c.deref-in-Any.ensures.value) (list_reads numbers_only (λ k. k < length values) c.loop-inner.inner.now c.in-Any.guards (inr c.in-Any.is) c.loop-inner.invariant.within),
    )

pub holds-returns-in-Any : goal.holds-returns-in-Any
holds-returns-in-Any t c =
    let look = value_at c.args.sim.now.values in
    negated_whole c.any_holds.result c.loop-inner.negated _ _ c.loop-inner.invariant.value
    (holds_any look c.loop-inner.inner.now c.in-Any.guards c.deref-in-Any.result.now c.any_holds.result c.deref-in-Any.ensures.value c.in-Any.is c.any_holds.ensures)
