-- Marks of what is wanted by trees that code has.
use Rattle.std.proofs.Common.{◌≡◌, ℕ, Bool, true, false, ◌||◌, List, map, Option, Vec, Global, Bor, refl, sym, ap, ◌∙◌, subst}
use Rattle.std.specs.Global.{Box}
use Rattle.std.specs.Prelude.{if◌then◌else◌, option_map}
use Rattle.std.proofs.lemmas.Bool.{and_parts}
use Rattle.cal_ast.specs.Actors.{Actor, same_actor}
use Rattle.cal_ast.specs.Plan.{Plan, Enables, InTurn, AtOnce, Chooses, Repeats, Plans, NoPlans, MorePlans}
use Rattle.cal_ast.specs.Tree.{PortName}
use Rattle.cal_walk.specs.Left.{is_over, are_over, enables, enables_in_turn, enables_at_once, tests, tests_in_turn, tests_at_once, nothing, is_by}
use Rattle.cal_walk.specs.Marking.{AddsMarks, AddsWanted}
use Rattle.cal_walk.specs.Trees.{plan_tree, slice_trees, plans_of, left_tree}
use Rattle.cal_walk.specs.declared.left.Left as rest
use Rattle.cal_walk.specs.declared.left.Left.TheVariants as lefts
use Rattle.cal_walk.specs.declared.marks.Marks.{Marks}
use Rattle.cal_walk.specs.declared.plan.Plan as code
use Rattle.cal_walk.specs.declared.plan.Plan.TheVariants as variants
use Rattle.cal_walk.proofs.MarkLemmas.{same_wanted, wanted_alike, same_marks, no_marks, none_wanted}
use Rattle.cal_walk.proofs.TreeLemmas.{plan_tree-InTurn, plan_tree-AtOnce, left_tree-AtOnce}

-- ---- plans that take no row want nothing

module _ (actor : Actor) where
  mutual
    over_enables : (p : Plan) → is_over p ≡ true → enables p actor ≡ false
    over_enables (Enables other) over = absurd (cc)
    over_enables (InTurn ps) over = over_in_turn ps over
    over_enables (AtOnce ps) over = over_at_once ps over
    over_enables (Chooses port by on off) over = refl
    over_enables (Repeats port by body) over = refl

    over_in_turn : (ps : Plans) → are_over ps ≡ true → enables_in_turn ps actor ≡ false
    over_in_turn NoPlans over = refl
    over_in_turn (MorePlans p ps) over =
        let both = and_parts (is_over p) (are_over ps) over in
        ap (λ b. if b then enables_in_turn ps actor else enables p actor) both.0 ∙ over_in_turn ps both.1

    over_at_once : (ps : Plans) → are_over ps ≡ true → enables_at_once ps actor ≡ false
    over_at_once NoPlans over = refl
    over_at_once (MorePlans p ps) over =
        let both = and_parts (is_over p) (are_over ps) over in
        ap (λ b. b || enables_at_once ps actor) (over_enables p both.0) ∙ over_at_once ps both.1

  mutual
    over_tests : (p : Plan) → is_over p ≡ true → tests p actor ≡ false
    over_tests (Enables other) over = refl
    over_tests (InTurn ps) over = over_tests_in_turn ps over
    over_tests (AtOnce ps) over = over_tests_at_once ps over
    over_tests (Chooses port by on off) over = absurd (cc)
    over_tests (Repeats port by body) over = absurd (cc)

    over_tests_in_turn : (ps : Plans) → are_over ps ≡ true → tests_in_turn ps actor ≡ false
    over_tests_in_turn NoPlans over = refl
    over_tests_in_turn (MorePlans p ps) over =
        let both = and_parts (is_over p) (are_over ps) over in
        ap (λ b. if b then tests_in_turn ps actor else tests p actor) both.0 ∙ over_tests_in_turn ps both.1

    over_tests_at_once : (ps : Plans) → are_over ps ≡ true → tests_at_once ps actor ≡ false
    over_tests_at_once NoPlans over = refl
    over_tests_at_once (MorePlans p ps) over =
        let both = and_parts (is_over p) (are_over ps) over in
        ap (λ b. b || tests_at_once ps actor) (over_tests p both.0) ∙ over_tests_at_once ps both.1

  -- a plan alone, in turn, wants what it wants
  alone_enables : (p : Plan) (b : Bool) → is_over p ≡ b → enables p actor ≡ enables_in_turn (MorePlans p NoPlans) actor
  alone_enables p true over = over_enables p over ∙ sym (ap (λ b. if b then false else enables p actor) over)
  alone_enables p false lasts = sym (ap (λ b. if b then false else enables p actor) lasts)

  alone_tests : (p : Plan) (b : Bool) → is_over p ≡ b → tests p actor ≡ tests_in_turn (MorePlans p NoPlans) actor
  alone_tests p true over = over_tests p over ∙ sym (ap (λ b. if b then false else tests p actor) over)
  alone_tests p false lasts = sym (ap (λ b. if b then false else tests p actor) lasts)

-- ---- what is left in turn wants what the first of it wants, or else what the others want

module _ (f : ℕ → Actor) (t p : Plan) (ps : Plans) (is : t ≡ InTurn (MorePlans p ps)) (before after : Marks) where
  pub others_wanted : is_over p ≡ true → AddsWanted f (enables (InTurn ps)) (tests (InTurn ps)) before after → AddsWanted f (enables t) (tests t) before after
  others_wanted over wanted =
      same_wanted f (InTurn (MorePlans p ps)) t before after (sym is)
      (wanted_alike f (InTurn ps) (InTurn (MorePlans p ps)) before after
      (λ actor. sym (ap (λ b. if b then enables_in_turn ps actor else enables p actor) over))
      (λ actor. sym (ap (λ b. if b then tests_in_turn ps actor else tests p actor) over))
      wanted)

  pub one_wanted : is_over p ≡ false → AddsWanted f (enables p) (tests p) before after → AddsWanted f (enables t) (tests t) before after
  one_wanted lasts wanted =
      same_wanted f (InTurn (MorePlans p ps)) t before after (sym is)
      (wanted_alike f p (InTurn (MorePlans p ps)) before after
      (λ actor. sym (ap (λ b. if b then enables_in_turn ps actor else enables p actor) lasts))
      (λ actor. sym (ap (λ b. if b then tests_in_turn ps actor else tests p actor) lasts))
      wanted)

-- and the last of it, where the first takes no row
module _ (f : ℕ → Actor) (t p last : Plan) (is : t ≡ InTurn (MorePlans p (MorePlans last NoPlans))) (before after : Marks) where
  pub last_wanted : is_over p ≡ true → AddsWanted f (enables last) (tests last) before after → AddsWanted f (enables t) (tests t) before after
  last_wanted over wanted =
      others_wanted f t p (MorePlans last NoPlans) is before after over
      (wanted_alike f last (InTurn (MorePlans last NoPlans)) before after
      (λ actor. alone_enables actor last (is_over last) refl) (λ actor. alone_tests actor last (is_over last) refl) wanted)

-- ---- plans of plans

module _ (f : ℕ → Actor) (h : ℕ → PortName) (before after : Marks) where
  -- an enabled actor
  pub enabled_wanted : (p : code.Plan) (actor : ℕ) → p ≡ variants.Enables actor → AddsMarks f (λ other. same_actor (f actor) other) before.enabled.items after.enabled.items → after.tested.items ≡ before.tested.items
      → AddsWanted f (enables (plan_tree f h p)) (tests (plan_tree f h p)) before after
  enabled_wanted p actor is marked kept =
      let T : List Bool → Type 0 = AddsMarks f (λ other. false) before.tested.items in
      let untested : AddsMarks f (λ other. false) before.tested.items after.tested.items = subst T (sym kept) (no_marks f before.tested.items) in
      same_wanted f (plan_tree f h (variants.Enables actor)) (plan_tree f h p) before after (sym (ap (plan_tree f h) is)) (record { enabled_are = marked; tested_are = untested })

  -- the test of a condition
  tested_wanted : (p t : Plan) (by : Option Actor) → p ≡ t → ((actor : Actor) → enables t actor ≡ false) → ((actor : Actor) → tests t actor ≡ is_by by actor)
      → AddsMarks f (is_by by) before.tested.items after.tested.items → after.enabled.items ≡ before.enabled.items → AddsWanted f (enables p) (tests p) before after
  tested_wanted p t by is disabled test marked kept =
      let E : List Bool → Type 0 = AddsMarks f (enables t) before.enabled.items in
      same_wanted f t p before after (sym is) (record {
        enabled_are = subst E (sym kept) (same_marks f (λ other. false) (enables t) before.enabled.items before.enabled.items (λ actor. sym (disabled actor)) (no_marks f before.enabled.items));
        tested_are = same_marks f (is_by by) (tests t) before.tested.items after.tested.items (λ actor. sym (test actor)) marked;
      })

  pub chooses_wanted : (p : code.Plan) (condition : ℕ) (by : Option ℕ) (on off : Box code.Plan) → p ≡ variants.Chooses condition by on off
      → AddsMarks f (is_by (option_map f by)) before.tested.items after.tested.items → after.enabled.items ≡ before.enabled.items → AddsWanted f (enables (plan_tree f h p)) (tests (plan_tree f h p)) before after
  chooses_wanted p condition by on off is =
      tested_wanted (plan_tree f h p) (plan_tree f h (variants.Chooses condition by on off)) (option_map f by) (ap (plan_tree f h) is) (λ actor. refl) (λ actor. refl)

  pub repeats_wanted : (p : code.Plan) (condition : ℕ) (by : Option ℕ) (body : Box code.Plan) → p ≡ variants.Repeats condition by body
      → AddsMarks f (is_by (option_map f by)) before.tested.items after.tested.items → after.enabled.items ≡ before.enabled.items → AddsWanted f (enables (plan_tree f h p)) (tests (plan_tree f h p)) before after
  repeats_wanted p condition by body is =
      tested_wanted (plan_tree f h p) (plan_tree f h (variants.Repeats condition by body)) (option_map f by) (ap (plan_tree f h) is) (λ actor. refl) (λ actor. refl)

  -- a plan that starts
  pub whole_wanted : (l : rest.Left) (p : Bor code.Plan) → l ≡ lefts.Whole p → AddsWanted f (enables (plan_tree f h p.now)) (tests (plan_tree f h p.now)) before after
      → AddsWanted f (enables (left_tree f h l)) (tests (left_tree f h l)) before after
  whole_wanted l p is = same_wanted f (plan_tree f h p.now) (left_tree f h l) before after (sym (ap (left_tree f h) is))

  -- what is left of the first, read through a box
  pub read_wanted : (l read : rest.Left) → read ≡ l → AddsWanted f (enables (left_tree f h read)) (tests (left_tree f h read)) before after
      → AddsWanted f (enables (left_tree f h l)) (tests (left_tree f h l)) before after
  read_wanted l read is = same_wanted f (left_tree f h read) (left_tree f h l) before after (ap (left_tree f h) is)

  pub in_turn_wanted : (p : code.Plan) (v : Vec code.Plan Global) (items : List code.Plan) → p ≡ variants.InTurn v → items ≡ v.items
      → AddsWanted f (enables (InTurn (slice_trees f h items))) (tests (InTurn (slice_trees f h items))) before after
      → AddsWanted f (enables (plan_tree f h p)) (tests (plan_tree f h p)) before after
  in_turn_wanted p v items is same =
      same_wanted f (InTurn (slice_trees f h items)) (plan_tree f h p) before after
      (ap (λ (ps : List code.Plan). InTurn (slice_trees f h ps)) same ∙ sym (ap (plan_tree f h) is ∙ plan_tree-InTurn f h v))

  pub at_once_wanted : (p : code.Plan) (v : Vec code.Plan Global) (items : List code.Plan) → p ≡ variants.AtOnce v → items ≡ v.items
      → AddsWanted f (enables (AtOnce (slice_trees f h items))) (tests (AtOnce (slice_trees f h items))) before after
      → AddsWanted f (enables (plan_tree f h p)) (tests (plan_tree f h p)) before after
  at_once_wanted p v items is same =
      same_wanted f (AtOnce (slice_trees f h items)) (plan_tree f h p) before after
      (ap (λ (ps : List code.Plan). AtOnce (slice_trees f h ps)) same ∙ sym (ap (plan_tree f h) is ∙ plan_tree-AtOnce f h v))

  pub all_wanted : (l : rest.Left) (v : Vec rest.Left Global) (items : List rest.Left) → l ≡ lefts.AtOnce v → items ≡ v.items
      → AddsWanted f (enables (AtOnce (plans_of (map (left_tree f h) items)))) (tests (AtOnce (plans_of (map (left_tree f h) items)))) before after
      → AddsWanted f (enables (left_tree f h l)) (tests (left_tree f h l)) before after
  all_wanted l v items is same =
      same_wanted f (AtOnce (plans_of (map (left_tree f h) items))) (left_tree f h l) before after
      (ap (λ (ls : List rest.Left). AtOnce (plans_of (map (left_tree f h) ls))) same ∙ sym (ap (left_tree f h) is ∙ left_tree-AtOnce f h v))

-- nothing
pub nothing_wanted : (f : ℕ → Actor) (h : ℕ → PortName) (marks : Marks) (l : rest.Left) → l ≡ lefts.Nothing → AddsWanted f (enables (left_tree f h l)) (tests (left_tree f h l)) marks marks
nothing_wanted f h marks l is = same_wanted f nothing (left_tree f h l) marks marks (sym (ap (left_tree f h) is)) (none_wanted f nothing marks (λ actor. refl) (λ actor. refl))
