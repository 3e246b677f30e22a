-- What assignments give a port.
use Rattle.std.proofs.Common.{◌≡◌, ◌==◌, ℕ, Bool, true, false, not, ◌&&◌, ◌||◌, if◌then◌else◌, List, [], ◌∷◌, ◌++◌, ◌<◌, ◌≤◌, take, length, get_or, Result, Ok, Err, IfOk, refl, sym, ap, subst, ◌∙◌, eq-eqb, eqb-true, append_assoc, arith, ◌+◌, ◌-◌, drop, length-append}
use Rattle.std.proofs.lemmas.Grind.{common_steps}
use Rattle.std.proofs.lemmas.List.{append-nil}
use Rattle.std.proofs.Math.Seq.{drop-append_seam, take-append_seam}
use Rattle.std.specs.Prelude.{slice_index, All}
use Rattle.hw_prims.specs.Meaning.{bit}
use Rattle.net_core.specs.Circuit.{settled}
use Rattle.net_steps.specs.Apart.{AreNeverBoth, HasNoTwo}
use Rattle.net_steps.specs.Drivers.{acting, ActAlike, AddsChoices, AddsPort, SameWhere}
use Rattle.net_steps.specs.Operations.{has_two, is_on, part_of, picked, values_on, IsStep}
use Rattle.net_steps.specs.Steps.{Extends, IsRowOf, Defines, AddsChoice, AddsSlot, IsConstant, IsBit}
use Rattle.net_steps.specs.StepsValue.{StepsValue}
use Rattle.net_steps.specs.Truths.{is_true, AddsTruth}
use Rattle.net_steps.specs.declared.choice.Choice.{Choice}
use Rattle.net_steps.specs.declared.clashes.Clash.{Clash}
use Rattle.net_steps.specs.declared.drivers.Driver.{Driver}
use Rattle.net_steps.specs.declared.operation.Operation.TheVariants.{Constant, Choose, Pick, Only, Several}
use Rattle.net_steps.specs.declared.other.Other.{Other}
use Rattle.net_steps.specs.declared.truth.Truth.{Truth}
use Rattle.net_steps.specs.declared.truth.Truth.TheVariants.{Slot}
use Rattle.net_steps.proofs.ChoiceLemmas.{more_values, value_if, values_more}
use Rattle.net_steps.proofs.TruthLemmas.{bit_is_on}
use Rattle.net_steps.proofs.StepLemmas.{choices_twice, extends_itself, extends_twice, row_before, step_made, defined_made, still_defined}

-- ---- one of two slots

choice_of : (b : Bool) (x y z : ℕ) → (b ≡ true → z ≡ x) → (b ≡ false → z ≡ y) → z ≡ (if b then x else y)
choice_of true x y z when unless = when refl
choice_of false x y z when unless = unless refl

abbrev chooses : (on x y : ℕ) → List Other → List ℕ → ℕ
chooses on x y others slots = if is_on slots on then slice_index slots x else slice_index slots y

pub chosen_same : (steps : StepsValue) (on x y a b : ℕ) → SameWhere steps on true x a → SameWhere steps on false y b → a ≡ b → AddsSlot steps steps (λ others slots. if is_on slots on then slice_index slots x else slice_index slots y) a
chosen_same steps on x y a b when unless same = record {
  extends = extends_itself steps;
  made = λ others slots row. choice_of (is_on slots on) (slice_index slots x) (slice_index slots y) (slice_index slots a) (when others slots row) (λ off. ap (slice_index slots) same ∙ unless others slots row off);
}

-- where it is known whether a slot is on
pub chosen_always : (steps : StepsValue) (on x y a number : ℕ) → SameWhere steps on true x a → IsConstant steps on number → number ≡ 1 → AddsSlot steps steps (λ others slots. if is_on slots on then slice_index slots x else slice_index slots y) a
chosen_always steps on x y a number when is one = record {
  extends = extends_itself steps;
  made = λ others slots row.
      let there : is_on slots on ≡ true = eq-eqb (slice_index slots on) 1 (is others slots row ∙ one) in
      choice_of (is_on slots on) (slice_index slots x) (slice_index slots y) (slice_index slots a) (when others slots row) (λ off. cc);
}

pub chosen_never : (steps : StepsValue) (on x y b number : ℕ) → SameWhere steps on false y b → IsConstant steps on number → (number ≡ 1 → ⊥) → AddsSlot steps steps (λ others slots. if is_on slots on then slice_index slots x else slice_index slots y) b
chosen_never steps on x y b number unless is other = record {
  extends = extends_itself steps;
  made = λ others slots row.
      choice_of (is_on slots on) (slice_index slots x) (slice_index slots y) (slice_index slots b)
      (λ one. absurd (other (sym (is others slots row) ∙ eqb-true (slice_index slots on) 1 one)))
      (unless others slots row);
}

pub chosen_bit : (steps : StepsValue) (on x y a b : ℕ) → SameWhere steps on true x a → SameWhere steps on false y b → IsBit steps on → IsConstant steps a 1 → IsConstant steps b 0 → AddsSlot steps steps (λ others slots. if is_on slots on then slice_index slots x else slice_index slots y) on
chosen_bit steps on x y a b when unless is_bit one none = record {
  extends = extends_itself steps;
  made = λ others slots row.
      choice_of (is_on slots on) (slice_index slots x) (slice_index slots y) (slice_index slots on)
      (λ e. is_bit others slots row ∙ ap bit e ∙ sym (one others slots row) ∙ when others slots row e)
      (λ e. is_bit others slots row ∙ ap bit e ∙ sym (none others slots row) ∙ unless others slots row e);
}

choice_same : (c : Bool) (x y a b : ℕ) → (c ≡ true → a ≡ x) → (c ≡ false → b ≡ y) → (if c then a else b) ≡ (if c then x else y)
choice_same true x y a b when unless = when refl
choice_same false x y a b when unless = unless refl

pub chosen_made : {E : Type 0} (r : Result ℕ E) (old new : StepsValue) (on x y a b : ℕ) → SameWhere old on true x a → SameWhere old on false y b → IfOk r (Defines old new (Choose on a b)) → IfOk r (AddsSlot old new (λ others slots. if is_on slots on then slice_index slots x else slice_index slots y))
chosen_made (Ok slot) old new on x y a b when unless defines = record {
  extends = defines.extends;
  made = λ others slots row.
      let before = row_before old new defines.extends others slots row in
      defined_made old new (Choose on a b) slot defines others slots row
      ∙ choice_same (is_on slots on) (slice_index slots x) (slice_index slots y) (slice_index slots a) (slice_index slots b) (when others slots before) (unless others slots before);
}
chosen_made (Err e) old new on x y a b when unless defines = defines

-- ---- by a truth

by_negated : (negated on : Bool) → negated ≡ false → (if negated then not on else on) ≡ on
by_negated true on h = cc
by_negated false on h = refl

by_not : (negated on : Bool) → negated ≡ true → (if negated then not on else on) ≡ not on
by_not true on h = refl
by_not false on h = cc

pub selected : {E : Type 0} (r : Result ℕ E) (old new : StepsValue) (truth : Truth) (slot x y : ℕ) (negated : Bool) → truth ≡ Slot slot negated → negated ≡ false → IfOk r (AddsSlot old new (λ others slots. if is_on slots slot then slice_index slots x else slice_index slots y)) → IfOk r (AddsSlot old new (λ others slots. if is_true slots truth then slice_index slots x else slice_index slots y))
selected (Ok s) old new truth slot x y negated is plain adds = record {
  extends = adds.extends;
  made = λ others slots row. adds.made others slots row ∙ ap (λ b. if b then slice_index slots x else slice_index slots y) (sym (ap (is_true slots) is ∙ by_negated negated (is_on slots slot) plain));
}
selected (Err e) old new truth slot x y negated is plain adds = adds

twisted : (b : Bool) (x y : ℕ) → (if b then y else x) ≡ (if not b then x else y)
twisted true x y = refl
twisted false x y = refl

pub selected_not : {E : Type 0} (r : Result ℕ E) (old new : StepsValue) (truth : Truth) (slot x y : ℕ) (negated : Bool) → truth ≡ Slot slot negated → negated ≡ true → IfOk r (AddsSlot old new (λ others slots. if is_on slots slot then slice_index slots y else slice_index slots x)) → IfOk r (AddsSlot old new (λ others slots. if is_true slots truth then slice_index slots x else slice_index slots y))
selected_not (Ok s) old new truth slot x y negated is turned adds = record {
  extends = adds.extends;
  made = λ others slots row.
      adds.made others slots row
      ∙ twisted (is_on slots slot) (slice_index slots x) (slice_index slots y)
      ∙ ap (λ b. if b then slice_index slots x else slice_index slots y) (sym (ap (is_true slots) is ∙ by_not negated (is_on slots slot) turned));
}
selected_not (Err e) old new truth slot x y negated is turned adds = adds

-- ---- the values of assignments

settled_value_if : (b : Bool) (v : ℕ) → settled (value_if b v) ≡ (if b then v else 0)
settled_value_if true v = refl
settled_value_if false v = refl

pub settled_one : (slots : List ℕ) (d : Driver) → settled (acting slots (d ∷ [])) ≡ (if is_true slots d.truth then slice_index slots d.source else 0)
settled_one slots d = settled_value_if (is_true slots d.truth) (slice_index slots d.source)

one_is_not_two : (b : Bool) (v : ℕ) → has_two (value_if b v) ≡ false
one_is_not_two true v = refl
one_is_not_two false v = refl

abbrev two_values : Bool → ℕ → Bool → ℕ → List ℕ
two_values a v b w = if a then v ∷ value_if b w else value_if b w

opposite_settled : (a b : Bool) (v w : ℕ) → b ≡ not a → settled (two_values a v b w) ≡ (if a then v else w)
opposite_settled true true v w h = cc
opposite_settled true false v w h = refl
opposite_settled false true v w h = refl
opposite_settled false false v w h = cc

opposite_two : (a b : Bool) (v w : ℕ) → b ≡ not a → has_two (two_values a v b w) ≡ false
opposite_two true true v w h = cc
opposite_two true false v w h = refl
opposite_two false true v w h = refl
opposite_two false false v w h = cc

-- a port with one driver
pub port_of_one : {E : Type 0} (r : Result ℕ E) (old new : StepsValue) (clashes after : List Clash) (port : ℕ) (d : Driver) → after ≡ clashes → IfOk r (AddsSlot old new (λ others slots. if is_true slots d.truth then slice_index slots d.source else 0)) → IfOk r (AddsPort old new clashes after port (d ∷ []))
port_of_one (Ok slot) old new clashes after port d same adds = record {
  extends = adds.extends;
  value = λ others slots row. adds.made others slots row ∙ sym (settled_one slots d);
  added = [];
  after_is = same ∙ sym (append-nil clashes);
  of_port = λ k x lt. absurd (omega (arith, lt));
  told = λ others slots row. sym (one_is_not_two (is_true slots d.truth) (slice_index slots d.source));
}
port_of_one (Err e) old new clashes after port d same adds = adds

-- a port with two drivers that never act both
pub port_of_opposite : {E : Type 0} (r : Result ℕ E) (old new : StepsValue) (clashes after : List Clash) (port : ℕ) (d e : Driver) → after ≡ clashes → ((slots : List ℕ) → is_true slots e.truth ≡ not (is_true slots d.truth)) → IfOk r (AddsSlot old new (λ others slots. if is_true slots d.truth then slice_index slots d.source else slice_index slots e.source)) → IfOk r (AddsPort old new clashes after port (d ∷ e ∷ []))
port_of_opposite (Ok slot) old new clashes after port d e same opposite adds = record {
  extends = adds.extends;
  value = λ others slots row. adds.made others slots row ∙ sym (opposite_settled (is_true slots d.truth) (is_true slots e.truth) (slice_index slots d.source) (slice_index slots e.source) (opposite slots));
  added = [];
  after_is = same ∙ sym (append-nil clashes);
  of_port = λ k x lt. absurd (omega (arith, lt));
  told = λ others slots row. sym (opposite_two (is_true slots d.truth) (is_true slots e.truth) (slice_index slots d.source) (slice_index slots e.source) (opposite slots));
}
port_of_opposite (Err err) old new clashes after port d e same opposite adds = adds

-- a port with no driver
none_listed : (drivers : List Driver) → length drivers < 1 → drivers ≡ []
none_listed [] lt = refl
none_listed (d ∷ drivers) lt = absurd (omega (arith, lt))

one_listed : (drivers : List Driver) (e : Driver) → 1 ≤ length drivers → length drivers < 2 → get_or drivers 0 e ∷ [] ≡ drivers
one_listed [] e le lt = absurd (omega (arith, le))
one_listed (d ∷ []) e le lt = refl
one_listed (d ∷ f ∷ drivers) e le lt = absurd (omega (arith, lt))

pub port_of_listed : {E : Type 0} (r : Result ℕ E) (old new : StepsValue) (clashes after : List Clash) (port : ℕ) (drivers : List Driver) (e : Driver) → 1 ≤ length drivers → length drivers < 2 → after ≡ clashes → IfOk r (AddsSlot old new (λ others slots. if is_true slots (get_or drivers 0 e).truth then slice_index slots (get_or drivers 0 e).source else 0)) → IfOk r (AddsPort old new clashes after port drivers)
port_of_listed r old new clashes after port drivers e le lt same adds =
    subst (λ ds. IfOk r (AddsPort old new clashes after port ds)) (one_listed drivers e le lt) (port_of_one r old new clashes after port (get_or drivers 0 e) same adds)

pub port_of_none : {E : Type 0} (r : Result ℕ E) (old new : StepsValue) (clashes after : List Clash) (port : ℕ) (drivers : List Driver) → length drivers < 1 → after ≡ clashes → IfOk r (Defines old new (Constant 0)) → IfOk r (AddsPort old new clashes after port drivers)
port_of_none (Ok slot) old new clashes after port drivers lt same adds = subst (λ ds. AddsPort old new clashes after port ds slot) (sym (none_listed drivers lt)) (record {
  extends = adds.extends;
  value = λ others slots row. defined_made old new (Constant 0) slot adds others slots row;
  added = [];
  after_is = same ∙ sym (append-nil clashes);
  of_port = λ k x lt. absurd (omega (arith, lt));
  told = λ others slots row. refl;
})
port_of_none (Err e) old new clashes after port drivers lt same adds = adds

-- ---- two assignments

first_value : (a b : Bool) (v w : ℕ) → picked a v b w ≡ settled (two_values a v b w)
first_value true true v w = refl
first_value true false v w = refl
first_value false true v w = refl
first_value false false v w = refl

first_two : (a b : Bool) (v w : ℕ) → ((a && b) || false) ≡ has_two (two_values a v b w)
first_two true true v w = refl
first_two true false v w = refl
first_two false true v w = refl
first_two false false v w = refl

one_of_port : (clash : Clash) (port : ℕ) → clash.port ≡ port → All (λ (x : Clash). x.port ≡ port) (clash ∷ [])
one_of_port clash port is = grind (arith, common_steps)

-- what is picked of two drivers, by the slots of their truths
module _ (old mid more new : StepsValue) (d e : Driver) (first second slot : ℕ) (one : AddsTruth old mid (λ slots. is_true slots d.truth) (Slot first false)) (two : AddsTruth mid more (λ slots. is_true slots e.truth) (Slot second false)) (defines : Defines more new (Pick first d.source second e.source) slot) where
  first_is : (others : List Other) (slots : List ℕ) → IsRowOf new others slots → is_on slots first ≡ is_true slots d.truth
  first_is others slots row = one.made others slots (row_before mid more two.extends others slots (row_before more new defines.extends others slots row))

  second_is : (others : List Other) (slots : List ℕ) → IsRowOf new others slots → is_on slots second ≡ is_true slots e.truth
  second_is others slots row = two.made others slots (row_before more new defines.extends others slots row)

  pick_extends : Extends old new
  pick_extends = extends_twice old mid new one.extends (extends_twice mid more new two.extends defines.extends)

  pick_value : (others : List Other) (slots : List ℕ) → IsRowOf new others slots → slice_index slots slot ≡ settled (acting slots (d ∷ e ∷ []))
  pick_value others slots row =
      defined_made more new (Pick first d.source second e.source) slot defines others slots row
      ∙ ap (λ b. picked b (slice_index slots d.source) (is_on slots second) (slice_index slots e.source)) (first_is others slots row)
      ∙ ap (λ b. picked (is_true slots d.truth) (slice_index slots d.source) b (slice_index slots e.source)) (second_is others slots row)
      ∙ first_value (is_true slots d.truth) (is_true slots e.truth) (slice_index slots d.source) (slice_index slots e.source)

  -- with a clash
  pub pick_made : (before after : List Clash) (port : ℕ) → after ≡ before ++ (record { first = first; second = second; port = port }) ∷ [] → AddsPort old new before after port (d ∷ e ∷ []) slot
  pick_made before after port pushed = record {
    extends = pick_extends;
    value = pick_value;
    added = (record { first = first; second = second; port = port }) ∷ [];
    after_is = pushed;
    of_port = one_of_port (record { first = first; second = second; port = port }) port refl;
    told = λ others slots row.
        ap (λ b. (b && is_on slots second) || false) (first_is others slots row)
        ∙ ap (λ b. (is_true slots d.truth && b) || false) (second_is others slots row)
        ∙ first_two (is_true slots d.truth) (is_true slots e.truth) (slice_index slots d.source) (slice_index slots e.source);
  }

  -- where they never act both
  pub pick_alone : (before after : List Clash) (port : ℕ) → after ≡ before → AreNeverBoth new d.truth e.truth → AddsPort old new before after port (d ∷ e ∷ []) slot
  pick_alone before after port same never = record {
    extends = pick_extends;
    value = pick_value;
    added = [];
    after_is = same ∙ sym (append-nil before);
    of_port = λ k x lt. absurd (omega (arith, lt));
    told = λ others slots row.
        ap (λ b. b || false) (sym (never others slots row))
        ∙ first_two (is_true slots d.truth) (is_true slots e.truth) (slice_index slots d.source) (slice_index slots e.source);
  }

-- ---- many assignments

pub acting_more : (slots : List ℕ) (drivers : List Driver) (d : Driver) → acting slots (drivers ++ d ∷ []) ≡ acting slots drivers ++ value_if (is_true slots d.truth) (slice_index slots d.source)
acting_more slots [] d = refl
acting_more slots (e ∷ drivers) d =
    more_values (is_true slots e.truth) (slice_index slots e.source) (acting slots (drivers ++ d ∷ [])) (acting slots drivers) (value_if (is_true slots d.truth) (slice_index slots d.source)) (acting_more slots drivers d)

-- a driver more that may act, and one that never does
pub kept_alike : (some drivers : List Driver) (d : Driver) → ActAlike some drivers → ActAlike (some ++ d ∷ []) (drivers ++ d ∷ [])
kept_alike some drivers d alike slots =
    acting_more slots some d
    ∙ ap (λ (vs : List ℕ). vs ++ value_if (is_true slots d.truth) (slice_index slots d.source)) (alike slots)
    ∙ sym (acting_more slots drivers d)

pub dropped_alike : (some drivers : List Driver) (d : Driver) → ActAlike some drivers → ((slots : List ℕ) → is_true slots d.truth ≡ false) → ActAlike some (drivers ++ d ∷ [])
dropped_alike some drivers d alike never slots =
    alike slots
    ∙ sym (acting_more slots drivers d ∙ ap (λ b. acting slots drivers ++ value_if b (slice_index slots d.source)) (never slots) ∙ append-nil (acting slots drivers))

-- a port with drivers that act as others do
pub port_of_alike : {E : Type 0} (r : Result ℕ E) (old new : StepsValue) (before after : List Clash) (port : ℕ) (some drivers : List Driver) → ActAlike some drivers → IfOk r (AddsPort old new before after port some) → IfOk r (AddsPort old new before after port drivers)
port_of_alike (Ok slot) old new before after port some drivers alike adds = record {
  extends = adds.extends;
  value = λ others slots row. adds.value others slots row ∙ ap settled (alike slots);
  added = adds.added;
  after_is = adds.after_is;
  of_port = adds.of_port;
  told = λ others slots row. adds.told others slots row ∙ ap has_two (alike slots);
}
port_of_alike (Err e) old new before after port some drivers alike adds = adds

pub choices_none : (steps : StepsValue) → AddsChoices steps steps []
choices_none steps = record { extends = extends_itself steps; added = []; choices = sym (append-nil steps.choices); count = refl; are = λ others slots row. refl }

-- one driver more
pub choices_more : (old mid more new : StepsValue) (drivers : List Driver) (d : Driver) (on : ℕ) → AddsChoices old mid drivers → AddsTruth mid more (λ slots. is_true slots d.truth) (Slot on false) → more.choices ≡ mid.choices → AddsChoice more new (record { on = on; value = d.source }) → AddsChoices old new (drivers ++ d ∷ [])
choices_more old mid more new drivers d on so_far truth same adds = record {
  extends = extends_twice old mid new so_far.extends (extends_twice mid more new truth.extends pushed);
  added = so_far.added ++ c ∷ [];
  choices = table ∙ ap (λ (l : List Choice). l ++ c ∷ []) (same ∙ so_far.choices) ∙ append_assoc old.choices so_far.added (c ∷ []);
  count =
      length-append so_far.added (c ∷ [])
      ∙ ap (λ n. n + 1) so_far.count
      ∙ sym (length-append drivers (d ∷ []));
  are = λ others slots row.
      let in_more = row_before more new pushed others slots row in
      let is : is_on slots on ≡ is_true slots d.truth = truth.made others slots in_more in
      values_more slots so_far.added c
      ∙ ap (λ (vs : List ℕ). vs ++ value_if (is_on slots on) (slice_index slots d.source)) (so_far.are others slots (row_before mid more truth.extends others slots in_more))
      ∙ ap (λ b. acting slots drivers ++ value_if b (slice_index slots d.source)) is
      ∙ sym (acting_more slots drivers d);
}
  where
    c : Choice
    c = record { on = on; value = d.source }

    table : new.choices ≡ more.choices ++ c ∷ []
    table = ap (λ (s : StepsValue). s.choices) adds

    pushed : Extends more new
    pushed = subst (Extends more) (sym adds) (record { base = refl; keeps = λ k step at. at; choices = (c ∷ [], refl); assumed = refl })

-- the choices of the drivers, in a table that has others before and after them
part_is : (old added rest choices : List Choice) (from count : ℕ) → choices ≡ (old ++ added) ++ rest → from ≡ length old → count ≡ length added → part_of choices from count ≡ added
part_is old added rest choices from count is at size =
    let width : from + count - from ≡ count = omega arith in
    ap (λ (l : List Choice). take (from + count - from) (drop from l)) (is ∙ append_assoc old added rest)
    ∙ ap (λ n. take n (drop from (old ++ (added ++ rest)))) (width ∙ size)
    ∙ ap (λ n. take (length added) (drop n (old ++ (added ++ rest)))) at
    ∙ ap (take (length added)) (drop-append_seam old (added ++ rest))
    ∙ take-append_seam added rest

twice : (b : Bool) → ((b && b) || false) ≡ b
twice true = refl
twice false = refl

-- how many there are
pub choices_counted : (old mid : StepsValue) (drivers : List Driver) → AddsChoices old mid drivers → length mid.choices ≡ length old.choices + length drivers
choices_counted old mid drivers adds =
    ap length adds.choices ∙ length-append old.choices adds.added ∙ ap (λ n. length old.choices + n) adds.count

-- the one of the drivers that acts
module _ (old mid new : StepsValue) (drivers : List Driver) (from end : ℕ) (adds : AddsChoices old mid drivers) (at : from ≡ length old.choices) (upto : end ≡ length mid.choices) (later : Extends mid new) where
  size : end - from ≡ length adds.added
  size = let all = choices_counted old mid drivers adds in let count = adds.count in omega (arith, at, upto, all, count)

  choices_are : (others : List Other) (slots : List ℕ) (row : IsRowOf new others slots) → values_on slots (part_of row.choices from (end - from)) ≡ acting slots drivers
  choices_are others slots row =
      let table = choices_twice mid.choices new.choices row.choices later.choices row.table in
      ap (values_on slots) (part_is old.choices adds.added table.0 row.choices from (end - from) (table.1 ∙ ap (λ (l : List Choice). l ++ table.0) adds.choices) at size)
      ∙ adds.are others slots (row_before mid new later others slots row)

  only_value : (slot : ℕ) → IsStep new.base new.items slot (Only from (end - from)) → (others : List Other) (slots : List ℕ) → IsRowOf new others slots → slice_index slots slot ≡ settled (acting slots drivers)
  only_value slot is others slots row =
      step_made new others slots slot (Only from (end - from)) is row ∙ ap settled (choices_are others slots row)

-- with a clash where two of them do
pub only_made : (old mid more new : StepsValue) (before after : List Clash) (port : ℕ) (drivers : List Driver) (from end slot several : ℕ) → AddsChoices old mid drivers → from ≡ length old.choices → end ≡ length mid.choices → Defines mid more (Only from (end - from)) slot → Defines more new (Several from (end - from)) several → after ≡ before ++ (record { first = several; second = several; port = port }) ∷ [] → AddsPort old new before after port drivers slot
only_made old mid more new before after port drivers from end slot several adds at upto only two pushed = record {
  extends = extends_twice old mid new adds.extends later;
  value = only_value old mid new drivers from end adds at upto later slot (still_defined mid more new (Only from (end - from)) slot only two.extends);
  added = (record { first = several; second = several; port = port }) ∷ [];
  after_is = pushed;
  of_port = one_of_port (record { first = several; second = several; port = port }) port refl;
  told = λ others slots row.
      let is : is_on slots several ≡ has_two (acting slots drivers) =
      ap (λ v. v == 1) (defined_made more new (Several from (end - from)) several two others slots row ∙ ap (λ vs. bit (has_two vs)) (choices_are old mid new drivers from end adds at upto later others slots row))
      ∙ bit_is_on (has_two (acting slots drivers)) in
      twice (is_on slots several) ∙ is;
}
  where
    later : Extends mid new
    later = extends_twice mid more new only.extends two.extends

-- where no two of them do
pub only_alone : (old mid new : StepsValue) (before after : List Clash) (port : ℕ) (drivers : List Driver) (from end slot : ℕ) → AddsChoices old mid drivers → from ≡ length old.choices → end ≡ length mid.choices → Defines mid new (Only from (end - from)) slot → after ≡ before → HasNoTwo new drivers → AddsPort old new before after port drivers slot
only_alone old mid new before after port drivers from end slot adds at upto only same never = record {
  extends = extends_twice old mid new adds.extends only.extends;
  value = only_value old mid new drivers from end adds at upto only.extends slot only.is_step;
  added = [];
  after_is = same ∙ sym (append-nil before);
  of_port = λ k x lt. absurd (omega (arith, lt));
  told = λ others slots row. sym (never others slots row);
}
