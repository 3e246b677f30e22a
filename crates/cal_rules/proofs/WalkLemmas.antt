-- Walks over items, one list after another.
use Rattle.std.proofs.Common.{◌≡◌, ℕ, suc, ◌+◌, ◌≤◌, List, [], ◌∷◌, ◌++◌, length, take, drop, slice_get, All, Result, Ok, Err, IsErrAnd, Option, Some, None, refl, sym, ap, subst, ◌∙◌, append_assoc, length-append, arith}
use Rattle.std.specs.Prelude.{flat_map}
use Rattle.std.proofs.lemmas.List.{append-nil, take_all}
use Rattle.std.proofs.lemmas.List.Elements.{All-append, All-cons, All-nil}
use Rattle.cal_ast.specs.Items.{Item}
use Rattle.cal_ast.specs.Rules.{all_rules}
use Rattle.cal_place.specs.Around.{Around, KeepsAt}
use Rattle.cal_rules.specs.LeastRule.{TellsLeast}
use Rattle.cal_rules.specs.inside.Walks.{IsFirstIn, Passes, WalksOver}
use Rattle.cal_rules.specs.declared.rule.CompEnd.{CompEnd}
use Rattle.cal_rules.specs.declared.rule.CompEnd.TheVariants.{Broken, Memory}
use Rattle.cal_rules.specs.declared.rule.Rule as code
use Rattle.cal_rules.specs.declared.walk.Walk.{Walk}
use Rattle.cal_place.proofs.ListLemmas.{cut_at, one_more}

abbrev pub flat : List (List Item) → List Item
flat sections = flat_map (λ items. items) sections

flat-append : (xs ys : List (List Item)) → flat (xs ++ ys) ≡ flat xs ++ flat ys
flat-append [] ys = refl
flat-append (x ∷ xs) ys = ap (λ items. x ++ items) (flat-append xs ys) ∙ sym (append_assoc x (flat xs) (flat ys))

-- a walk over items that has ended so, whatever it was to give
abbrev pub Ends : Around → List Item → Walk → CompEnd → Type 0
Ends place items old (Broken number rule) = IsFirstIn place items old.item number rule
Ends place items old Memory = Unit {0}

module _ (place : Around) where
  abbrev Kept : Item → Type 0
  Kept item = All (KeepsAt place item) all_rules

  -- ---- one item

  pub passes_one : (item : Item) (old new : Walk) (broken : Option code.Rule) → broken ≡ None → TellsLeast (KeepsAt place item) broken → new.item ≡ old.item + 1 → Passes place (item ∷ []) old new
  passes_one item old new broken none tells counted =
      let L : Option code.Rule → Type 0 = λ b. TellsLeast (KeepsAt place item) b in
      let kept : Kept item = subst L none tells in
      (All-cons Kept item [] kept (All-nil Kept), omega arith)

  pub breaks_one : (item : Item) (old : Walk) (broken : Option code.Rule) (rule : code.Rule) → broken ≡ Some rule → TellsLeast (KeepsAt place item) broken → IsFirstIn place (item ∷ []) old.item old.item rule
  breaks_one item old broken rule some tells =
      let L : Option code.Rule → Type 0 = λ b. TellsLeast (KeepsAt place item) b in
      record {
        before = [];
        item = item;
        after = [];
        parts = refl;
        kept = All-nil Kept;
        counted = omega arith;
        least = subst L some tells;
      }

  -- ---- a walk past items

  -- past no items
  pub passes_none : (walk : Walk) → Passes place [] walk walk
  passes_none walk = (All-nil Kept, omega arith)

  -- past one list of items, and past another
  pub passes_both : (xs ys : List Item) (old mid new : Walk) → Passes place xs old mid → Passes place ys mid new → Passes place (xs ++ ys) old new
  passes_both xs ys old mid new first second =
      (All-append Kept xs ys first.0 second.0, omega (arith, first.1, second.1, length-append xs ys))

  -- past all items
  pub passes_all : (items : List Item) (k : ℕ) (old new : Walk) → length items ≤ k → Passes place (take k items) old new → Passes place items old new
  passes_all items k old new end passes =
      let P : List Item → Type 0 = λ xs. Passes place xs old new in
      subst P (take_all k items end) passes

  pub passes_sections : (sections : List (List Item)) (k : ℕ) (old new : Walk) → length sections ≤ k → Passes place (flat (take k sections)) old new → Passes place (flat sections) old new
  passes_sections sections k old new end passes =
      let P : List (List Item) → Type 0 = λ xs. Passes place (flat xs) old new in
      subst P (take_all k sections end) passes

  -- ---- a walk that ends

  -- in a list of items, and so in a longer one
  pub ends_sooner : (xs ys : List Item) (old : Walk) (end : CompEnd) → Ends place xs old end → Ends place (xs ++ ys) old end
  ends_sooner xs ys old (Broken number rule) first =
      record {
        before = first.before;
        item = first.item;
        after = first.after ++ ys;
        parts = ap (λ items. items ++ ys) first.parts ∙ append_assoc first.before (first.item ∷ first.after) ys;
        kept = first.kept;
        counted = first.counted;
        least = first.least;
      }
  ends_sooner xs ys old Memory first = tt

  -- in a list of items, past another
  pub ends_later : (xs ys : List Item) (old mid : Walk) (end : CompEnd) → Passes place xs old mid → Ends place ys mid end → Ends place (xs ++ ys) old end
  ends_later xs ys old mid (Broken number rule) first second =
      record {
        before = xs ++ second.before;
        item = second.item;
        after = second.after;
        parts = ap (λ items. xs ++ items) second.parts ∙ sym (append_assoc xs second.before (second.item ∷ second.after));
        kept = All-append Kept xs second.before first.0 second.kept;
        counted = omega (arith, first.1, second.counted, length-append xs second.before);
        least = second.least;
      }
  ends_later xs ys old mid Memory first second = tt

  -- as a call has told it
  pub ended : (T : Type 0) (xs : List Item) (old new : Walk) (end : CompEnd) → WalksOver {T = T} place xs old new (Err end) → Ends place xs old end
  ended T xs old new (Broken number rule) first = first
  ended T xs old new Memory first = tt

  -- an end is passed up as it is
  pub walk_passed : {T : Type 0} (xs : List Item) (old last : Walk) (r : Result T CompEnd) (end : CompEnd) → IsErrAnd r (λ other. other ≡ end) → Ends place xs old end → WalksOver place xs old last r
  walk_passed xs old last (Ok t) end is first = absurd is
  walk_passed xs old last (Err (Broken number rule)) end is first =
      let E : CompEnd → Type 0 = λ e. Ends place xs old e in
      subst E (sym is) first
  walk_passed xs old last (Err Memory) end is first = tt

  -- so is want of memory
  pub walk_memory : {T : Type 0} (xs : List Item) (old last : Walk) (r : Result T CompEnd) → IsErrAnd r (λ other. other ≡ Memory) → WalksOver place xs old last r
  walk_memory xs old last r is = walk_passed xs old last r Memory is tt

  -- ---- a walk that goes on

  -- past one list, and then over another
  pub walks_on : {T : Type 0} (xs ys : List Item) (old mid new : Walk) (r : Result T CompEnd) → Passes place xs old mid → WalksOver place ys mid new r → WalksOver place (xs ++ ys) old new r
  walks_on xs ys old mid new (Ok t) first second = passes_both xs ys old mid new first second
  walks_on xs ys old mid new (Err (Broken number rule)) first second = ends_later xs ys old mid (Broken number rule) first second
  walks_on xs ys old mid new (Err Memory) first second = tt

  -- item by item, k items so far
  module _ (items : List Item) (k : ℕ) (item : Item) (at : slice_get items k ≡ Some item) (old mid : Walk) (so_far : Passes place (take k items) old mid) where
    pub next_item : (new : Walk) → Passes place (item ∷ []) mid new → Passes place (take (k + 1) items) old new
    next_item new one =
        let P : List Item → Type 0 = λ xs. Passes place xs old new in
        subst P (sym (one_more items k item at)) (passes_both (take k items) (item ∷ []) old mid new so_far one)

    pub last_item : (end : CompEnd) → Ends place (item ∷ []) mid end → Ends place items old end
    last_item end one =
        let E : List Item → Type 0 = λ xs. Ends place xs old end in
        subst E (append_assoc (take k items) (item ∷ []) (drop (suc k) items) ∙ sym (cut_at items k item at))
        (ends_sooner (take k items ++ item ∷ []) (drop (suc k) items) old end (ends_later (take k items) (item ∷ []) old mid end so_far one))

  -- section by section, k sections so far
  module _ (sections : List (List Item)) (k : ℕ) (section : List Item) (at : slice_get sections k ≡ Some section) (old mid : Walk) (so_far : Passes place (flat (take k sections)) old mid) where
    pub next_section : (new : Walk) → Passes place section mid new → Passes place (flat (take (k + 1) sections)) old new
    next_section new one =
        let P : List Item → Type 0 = λ xs. Passes place xs old new in
        let whole : flat (take (k + 1) sections) ≡ flat (take k sections) ++ section =
        ap flat (one_more sections k section at) ∙ flat-append (take k sections) (section ∷ []) ∙ ap (λ xs. flat (take k sections) ++ xs) (append-nil section) in
        subst P (sym whole) (passes_both (flat (take k sections)) section old mid new so_far one)

    pub last_section : (end : CompEnd) → Ends place section mid end → Ends place (flat sections) old end
    last_section end one =
        let E : List Item → Type 0 = λ xs. Ends place xs old end in
        let whole : flat sections ≡ flat (take k sections) ++ (section ++ flat (drop (suc k) sections)) =
        ap flat (cut_at sections k section at) ∙ flat-append (take k sections) (section ∷ drop (suc k) sections) in
        subst E (append_assoc (flat (take k sections)) section (flat (drop (suc k) sections)) ∙ sym whole)
        (ends_sooner (flat (take k sections) ++ section) (flat (drop (suc k) sections)) old end (ends_later (flat (take k sections)) section old mid end so_far one))

  -- past one item, and on over the others of a list
  pub goes_on : {T : Type 0} (items : List Item) (item : Item) (rest : List Item) (old mid new : Walk) (r : Result T CompEnd) → items ≡ item ∷ rest → Passes place (item ∷ []) old mid → WalksOver place rest mid new r → WalksOver place items old new r
  goes_on {T} items item rest old mid new r is first second =
      let W : List Item → Type 0 = λ xs. WalksOver {T = T} place xs old new r in
      subst W (sym is) (walks_on (item ∷ []) rest old mid new r first second)

  -- at the first item of a list
  pub ends_first : (items : List Item) (item : Item) (rest : List Item) (old : Walk) (end : CompEnd) → items ≡ item ∷ rest → Ends place (item ∷ []) old end → Ends place items old end
  ends_first items item rest old end is one =
      let E : List Item → Type 0 = λ xs. Ends place xs old end in
      subst E (sym is) (ends_sooner (item ∷ []) rest old end one)
