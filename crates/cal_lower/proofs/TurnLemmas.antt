-- Statements in turn and at once, as far as they are gone over.
use Rattle.std.proofs.Common.{◌≡◌, ℕ, ◌+◌, true, false, List, [], ◌∷◌, Option, Some, None, sym, subst}
use Rattle.hw_names.specs.Name.{Text}
use Rattle.net_core.specs.Guard.{GuardTree}
use Rattle.cal_ast.specs.Plan.{Plans, NoPlans, MorePlans}
use Rattle.cal_ast.specs.Tree.{PortName}
use Rattle.cal_ast.specs.declared.tree.Control.{Control}
use Rattle.cal_token.specs.inside.Tokens.{size}
use Rattle.cal_walk.specs.Left.{is_over}
use Rattle.cal_lower.specs.inside.Making.{Made, ShowsParts, with_made, in_turn_made, at_once_made, turn_made}
use Rattle.cal_lower.specs.declared.made.Parts.{Parts}
use Rattle.cal_lower.proofs.MakingLemmas.{Alike, alike_refl, alike_sym, alike_trans, none_made, with_none, with_assoc, with_second, shows_alike, rest_made, rest_none, rest_over, rest_lasts, at_once_over, at_once_lasts, one_at_once}
use Rattle.cal_lower.proofs.SizeLemmas.{item_after, plan, plans, plans_end, plans_next}

module _ (source : List Text) (start : GuardTree PortName) (whole : Made) where
  -- this was made so far, and with what the rest makes it is the whole
  pub record TurnSoFar (names : List Text) (parts : Parts) (before : Option ℕ) (k : ℕ) (rest : List Control) : Type 0 where
    pub now : Made
    pub item : ℕ
    pub shown : ShowsParts names now parts
    pub alike : Alike (with_made now (rest_made before k (plans source item rest) start)) whole

  module _ (names : List Text) (parts : Parts) (before : Option ℕ) (k next : ℕ) (rest others : List Control) (s : Control) (is : rest ≡ s ∷ others) (sized : (item : ℕ) → next ≡ k + size (plan source item s)) where
    pub turn_over : ((item : ℕ) → is_over (plan source item s) ≡ true) → TurnSoFar names parts before k rest → TurnSoFar names parts before next others
    turn_over over so_far =
        let at = so_far.item in
        let later = item_after source at s in
        let A : Plans → Type 0 = λ ps. Alike (with_made so_far.now (rest_made before k ps start)) whole in
        let N : ℕ → Type 0 = λ n. Alike (with_made so_far.now (rest_made before n (plans source later others) start)) whole in
        let cut : Alike (with_made so_far.now (rest_made before k (MorePlans (plan source at s) (plans source later others)) start)) whole = subst A (plans_next source at rest others s is) so_far.alike in
        let step = alike_sym _ _ (with_second so_far.now _ _ (rest_over before k (plan source at s) (plans source later others) start (over at))) in
        record { now = so_far.now; item = later; shown = so_far.shown; alike = subst N (sym (sized at)) (alike_trans _ _ _ step cut) }

    pub turn_lasts : (later_names : List Text) (later_parts : Parts) → ((item : ℕ) → is_over (plan source item s) ≡ false)
        → ((made : Made) (item : ℕ) → ShowsParts names made parts → ShowsParts later_names (with_made made (turn_made before k (plan source item s) start)) later_parts)
        → TurnSoFar names parts before k rest → TurnSoFar later_names later_parts (Some k) next others
    turn_lasts later_names later_parts lasts more so_far =
        let at = so_far.item in
        let later = item_after source at s in
        let one = turn_made before k (plan source at s) start in
        let A : Plans → Type 0 = λ ps. Alike (with_made so_far.now (rest_made before k ps start)) whole in
        let N : ℕ → Type 0 = λ n. Alike (with_made (with_made so_far.now one) (rest_made (Some k) n (plans source later others) start)) whole in
        let cut : Alike (with_made so_far.now (rest_made before k (MorePlans (plan source at s) (plans source later others)) start)) whole = subst A (plans_next source at rest others s is) so_far.alike in
        let step = alike_sym _ _ (with_second so_far.now _ _ (rest_lasts before k (plan source at s) (plans source later others) start (lasts at))) in
        record {
          now = with_made so_far.now one;
          item = later;
          shown = more so_far.now at so_far.shown;
          alike = subst N (sym (sized at)) (alike_trans _ _ _ (with_assoc so_far.now one _) (alike_trans _ _ _ step cut));
        }

  pub turn_end : (names : List Text) (parts : Parts) (before : Option ℕ) (k : ℕ) (rest : List Control) → rest ≡ [] → TurnSoFar names parts before k rest → ShowsParts names whole parts
  turn_end names parts before k rest is so_far =
      let A : Plans → Type 0 = λ ps. Alike (with_made so_far.now (rest_made before k ps start)) whole in
      let cut : Alike (with_made so_far.now (rest_made before k NoPlans start)) whole = subst A (plans_end source so_far.item rest is) so_far.alike in
      let none = alike_trans _ _ _ (with_second so_far.now _ _ (rest_none before k start)) (with_none so_far.now) in
      shows_alike names so_far.now whole parts (alike_trans _ _ _ (alike_sym _ _ none) cut) so_far.shown

pub turn_start : (source : List Text) (start : GuardTree PortName) (names : List Text) (parts : Parts) (made : Made) (item k : ℕ) (ss rest : List Control) → rest ≡ ss → ShowsParts names made parts
    → TurnSoFar source start (with_made made (in_turn_made k (plans source item ss) start)) names parts None k rest
turn_start source start names parts made item k ss rest is shown =
    let whole = with_made made (in_turn_made k (plans source item ss) start) in
    let P : List Control → Type 0 = TurnSoFar source start whole names parts None k in
    subst P (sym is) (record { now = made; item = item; shown = shown; alike = alike_refl whole })

-- ---- at once

module _ (source : List Text) (start all : GuardTree PortName) (whole : Made) where
  pub record OnceSoFar (names : List Text) (parts : Parts) (k : ℕ) (rest : List Control) : Type 0 where
    pub now : Made
    pub item : ℕ
    pub shown : ShowsParts names now parts
    pub alike : Alike (with_made now (at_once_made k (plans source item rest) start all)) whole

  module _ (names : List Text) (parts : Parts) (k next : ℕ) (rest others : List Control) (s : Control) (is : rest ≡ s ∷ others) (sized : (item : ℕ) → next ≡ k + size (plan source item s)) where
    pub once_over : ((item : ℕ) → is_over (plan source item s) ≡ true) → OnceSoFar names parts k rest → OnceSoFar names parts next others
    once_over over so_far =
        let at = so_far.item in
        let later = item_after source at s in
        let A : Plans → Type 0 = λ ps. Alike (with_made so_far.now (at_once_made k ps start all)) whole in
        let N : ℕ → Type 0 = λ n. Alike (with_made so_far.now (at_once_made n (plans source later others) start all)) whole in
        let cut : Alike (with_made so_far.now (at_once_made k (MorePlans (plan source at s) (plans source later others)) start all)) whole = subst A (plans_next source at rest others s is) so_far.alike in
        let step = alike_sym _ _ (with_second so_far.now _ _ (at_once_over k (plan source at s) (plans source later others) start all (over at))) in
        record { now = so_far.now; item = later; shown = so_far.shown; alike = subst N (sym (sized at)) (alike_trans _ _ _ step cut) }

    pub once_lasts : (later_names : List Text) (later_parts : Parts) → ((item : ℕ) → is_over (plan source item s) ≡ false)
        → ((made : Made) (item : ℕ) → ShowsParts names made parts → ShowsParts later_names (with_made made (one_at_once k (plan source item s) start all)) later_parts)
        → OnceSoFar names parts k rest → OnceSoFar later_names later_parts next others
    once_lasts later_names later_parts lasts more so_far =
        let at = so_far.item in
        let later = item_after source at s in
        let one = one_at_once k (plan source at s) start all in
        let A : Plans → Type 0 = λ ps. Alike (with_made so_far.now (at_once_made k ps start all)) whole in
        let N : ℕ → Type 0 = λ n. Alike (with_made (with_made so_far.now one) (at_once_made n (plans source later others) start all)) whole in
        let cut : Alike (with_made so_far.now (at_once_made k (MorePlans (plan source at s) (plans source later others)) start all)) whole = subst A (plans_next source at rest others s is) so_far.alike in
        let step = alike_sym _ _ (with_second so_far.now _ _ (at_once_lasts k (plan source at s) (plans source later others) start all (lasts at))) in
        record {
          now = with_made so_far.now one;
          item = later;
          shown = more so_far.now at so_far.shown;
          alike = subst N (sym (sized at)) (alike_trans _ _ _ (with_assoc so_far.now one _) (alike_trans _ _ _ step cut));
        }

  pub once_end : (names : List Text) (parts : Parts) (k : ℕ) (rest : List Control) → rest ≡ [] → OnceSoFar names parts k rest → ShowsParts names whole parts
  once_end names parts k rest is so_far =
      let A : Plans → Type 0 = λ ps. Alike (with_made so_far.now (at_once_made k ps start all)) whole in
      let cut : Alike (with_made so_far.now none_made) whole = subst A (plans_end source so_far.item rest is) so_far.alike in
      shows_alike names so_far.now whole parts (alike_trans _ _ _ (alike_sym _ _ (with_none so_far.now)) cut) so_far.shown

pub once_start : (source : List Text) (start all : GuardTree PortName) (names : List Text) (parts : Parts) (made : Made) (item k : ℕ) (ss rest : List Control) → rest ≡ ss → ShowsParts names made parts
    → OnceSoFar source start all (with_made made (at_once_made k (plans source item ss) start all)) names parts k rest
once_start source start all names parts made item k ss rest is shown =
    let whole = with_made made (at_once_made k (plans source item ss) start all) in
    let P : List Control → Type 0 = OnceSoFar source start all whole names parts k in
    subst P (sym is) (record { now = made; item = item; shown = shown; alike = alike_refl whole })
