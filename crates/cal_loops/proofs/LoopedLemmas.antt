-- The first component that has a loop, where components are judged after their parts.
use Rattle.std.proofs.Common.{◌≡◌, ◌≢◌, ◌↔◌, ◌⊎◌, inl, inr, ℕ, zero, suc, ◌+◌, ◌<◌, ◌≤◌, Bool, true, false, List, [], ◌∷◌, ◌++◌, Option, Some, None, Vec, Global, Contains, length, take, get_or, set, slice_get, not, ◌==◌, refl, sym, ap, subst, subst₂, ◌∙◌, arith}
use Rattle.std.specs.Prelude.{IfSome, IsSome, IsTrue, MatchOption, replicate}
use Rattle.std.proofs.lemmas.Bool.{cases_eq, cases_lt, ne_eqb}
use Rattle.std.proofs.lemmas.List.{take_more, length-set, get_or-set_same, get_or-set_other}
use Rattle.std.proofs.lemmas.List.Elements.{Contains-push_cases}
use Rattle.std.proofs.lemmas.Option.{none-some, same_Some, slice_get_within, slice_get-get_or, get_or_from_slice_get}
use Rattle.hw_graph.specs.Graph.{HasRead}
use Rattle.hw_names.specs.Name.{Text}
use Rattle.cal_ast.proofs.ListLemmas.{Contains-none}
use Rattle.cal_ast.specs.Rules.{KeepsRules}
use Rattle.cal_ast.specs.Tree.{Component, Design}
use Rattle.cal_ast.specs.Wires.{HasNoLoop, shown}
use Rattle.cal_loops.specs.FirstLoop.{TellsFirstLoop}
use Rattle.cal_loops.specs.inside.LoopedSoFar.{TellsFirstLooped}
use Rattle.cal_place.specs.Nesting.{ArePartsFirst, HasPart}
use Rattle.cal_loops.specs.inside.Wiring.{IsInside, ShowsParts, TellsLoop}
use Rattle.cal_loops.specs.declared.first_loop.Looped.{Looped}
use Rattle.cal_loops.specs.declared.cells.inside.Inside.{Inside}
use Rattle.cal_place.proofs.GraphLemmas.{exists_at}

-- ---- one component more

pub looped_none : (design : Design) → TellsFirstLooped design [] None
looped_none design m c has at = absurd (Contains-none m has)

module _ (design : Design) (numbers : List ℕ) (number : ℕ) (c : Component) (at : slice_get design number ≡ Some c) where
  -- it has no loop
  pub clear_more : (found : Option Looped) → HasNoLoop design c → TellsFirstLooped design numbers found → TellsFirstLooped design (numbers ++ number ∷ []) found
  clear_more None clear tells = λ m d has at_m. (elim (Contains-push_cases numbers number m has) [
    | inl before ↦ tells m d before at_m
    | inr same ↦ subst (HasNoLoop design) (same_Some c d (sym at ∙ ap (slice_get design) same ∙ at_m)) clear
  ])
  clear_more (Some looped) clear tells = record {
    c = tells.c;
    at = tells.at;
    earlier = λ m d less has at_m. (elim (Contains-push_cases numbers number m has) [
      | inl before ↦ tells.earlier m d less before at_m
      | inr same ↦ subst (HasNoLoop design) (same_Some c d (sym at ∙ ap (slice_get design) same ∙ at_m)) clear
    ]);
    first = tells.first;
    others = tells.others;
    shows = tells.shows;
    loop = tells.loop;
  }

  -- it has one, after the one that was found
  pub looped_later : (looped : Looped) → looped.number < number → TellsFirstLooped design numbers (Some looped) → TellsFirstLooped design (numbers ++ number ∷ []) (Some looped)
  looped_later looped less tells = record {
    c = tells.c;
    at = tells.at;
    earlier = λ m d lt has at_m. (elim (Contains-push_cases numbers number m has) [
      | inl before ↦ tells.earlier m d lt before at_m
      | inr same ↦ absurd (omega (arith, same, lt, less))
    ]);
    first = tells.first;
    others = tells.others;
    shows = tells.shows;
    loop = tells.loop;
  }

  -- it has the first one
  pub looped_here : (found : Option Looped) (ports : Vec Text Global) → TellsLoop design c (Some ports) → TellsFirstLooped design numbers found → ((looped : Looped) → found ≡ Some looped → number ≤ looped.number)
      → TellsFirstLooped design (numbers ++ number ∷ []) (Some (record { number = number; ports = ports }))
  looped_here found ports tells so_far first = record {
    c = c;
    at = at;
    earlier = λ m d less has at_m. (elim (Contains-push_cases numbers number m has) [
      | inl before ↦ earlier found so_far first m d less before at_m
      | inr same ↦ absurd (omega (arith, same, less))
    ]);
    first = tells.0;
    others = tells.1;
    shows = tells.2;
    loop = tells.3;
  }
    where
      earlier : (o : Option Looped) → TellsFirstLooped design numbers o → ((looped : Looped) → o ≡ Some looped → number ≤ looped.number) → (m : ℕ) (d : Component) → m < number → Contains numbers m → slice_get design m ≡ Some d → HasNoLoop design d
      earlier None t f m d less before at_m = t m d before at_m
      earlier (Some looped) t f m d less before at_m = let le = f looped refl in t.earlier m d (omega (arith, less, le)) before at_m

-- whether the one that was found stands before
pub stands_earlier : (found : Option Looped) (number : ℕ) (b : Bool) → MatchOption found (b ≡ false) (λ (looped : Looped). IsTrue b ↔ (looped.number < number)) → b ≡ true → (looped : Looped) × (found ≡ Some looped) × (looped.number < number)
stands_earlier None number b says is = absurd (cc)
stands_earlier (Some looped) number b says is = (looped, refl, says.0 is)

pub stands_later : (found : Option Looped) (number : ℕ) (b : Bool) → MatchOption found (b ≡ false) (λ (looped : Looped). IsTrue b ↔ (looped.number < number)) → b ≡ false → (looped : Looped) → found ≡ Some looped → number ≤ looped.number
stands_later None number b says is_not looped e = absurd (cc)
stands_later (Some own) number b says is_not looped e =
    let same : own ≡ looped = same_Some own looped e in
    let le : number ≤ own.number = elim (cases_lt own.number number) [ inl less ↦ (let is = says.1 less in absurd (cc)) | inr past ↦ past ] in
    subst (λ (x : Looped). number ≤ x.number) same le

-- the one that was found stays where it stands before
pub looped_kept : (design : Design) (numbers : List ℕ) (number : ℕ) (c : Component) → slice_get design number ≡ Some c → (found : Option Looped) (b : Bool) → MatchOption found (b ≡ false) (λ (looped : Looped). IsTrue b ↔ (looped.number < number)) → b ≡ true
    → TellsFirstLooped design numbers found → TellsFirstLooped design (numbers ++ number ∷ []) found
looped_kept design numbers number c at found b says is tells =
    let l = stands_earlier found number b says is in
    let own : TellsFirstLooped design numbers (Some l.0) = subst (λ (o : Option Looped). TellsFirstLooped design numbers o) l.1 tells in
    subst (λ (o : Option Looped). TellsFirstLooped design (numbers ++ number ∷ []) o) (sym l.1) (looped_later design numbers number c at l.0 l.2 own)

-- all components were judged
pub first_loop_told : (design : Design) → KeepsRules design → (numbers : List ℕ) → ((n : ℕ) → n < length design → Contains numbers n) → (found : Option Looped) → TellsFirstLooped design numbers found → TellsFirstLoop design found
first_loop_told design keeps numbers all None tells = λ n c at. tells n c (all n (slice_get_within design n c at)) at
first_loop_told design keeps numbers all (Some looped) tells = (
  tells.first,
  tells.others,
  tells.shows,
  record {
    others_keep = keeps;
    c = tells.c;
    at = tells.at;
    components = λ m earlier less at. tells.earlier m earlier less (all m (slice_get_within design m earlier at)) at;
    loop = tells.loop;
  },
)

-- ---- what is known of the parts

-- of the components that are judged those that are parts are known; no more is known than holds
pub record KnowsParts (design : Design) (judged : List ℕ) (insides : List (Option Inside)) : Type 0 where
  pub known : (n m : ℕ) → Contains judged m → HasPart design n m → (inside : Inside) × (slice_get insides m ≡ Some (Some inside))
  pub each : (m : ℕ) (part : Component) (inside : Inside) → slice_get design m ≡ Some part → slice_get insides m ≡ Some (Some inside) → IsInside design part inside

nothing_known : (count m : ℕ) (inside : Inside) → slice_get (replicate count None) m ≡ Some (Some inside) → ⊥
nothing_known zero m inside at = absurd (cc)
nothing_known (suc count) zero inside at = none-some inside (same_Some None (Some inside) at)
nothing_known (suc count) (suc m) inside at = nothing_known count m inside at

pub knows_none : (design : Design) (count : ℕ) (insides : List (Option Inside)) → insides ≡ replicate count None → KnowsParts design [] insides
knows_none design count insides none = record {
  known = λ n m has part. absurd (Contains-none m has);
  each = λ m part inside at there. absurd (nothing_known count m inside (subst (λ (l : List (Option Inside)). slice_get l m ≡ Some (Some inside)) none there));
}

-- ---- one component more is judged

set_same : (insides : List (Option Inside)) (number : ℕ) (own : Option Inside) → number < length insides → slice_get (set insides number own) number ≡ Some own
set_same insides number own within =
    let lt : number < length (set insides number own) = omega (arith, within, length-set insides number own) in
    slice_get-get_or (set insides number own) number own lt ∙ ap Some (get_or-set_same insides number own own within)

set_other : (insides : List (Option Inside)) (number m : ℕ) (own : Option Inside) → m ≢ number → m < length insides → slice_get (set insides number own) m ≡ slice_get insides m
set_other insides number m own apart within =
    let lt : m < length (set insides number own) = omega (arith, within, length-set insides number own) in
    slice_get-get_or (set insides number own) m own lt ∙ ap Some (get_or-set_other insides number m own own apart) ∙ sym (slice_get-get_or insides m own within)

some_of : (own : Option Inside) → IsSome own → (inside : Inside) × (own ≡ Some inside)
some_of None some = absurd (cc)
some_of (Some inside) some = (inside, refl)

module _ (design : Design) (judged : List ℕ) (number : ℕ) (c : Component) (insides : List (Option Inside)) (own : Option Inside) (at : slice_get design number ≡ Some c) (within : number < length insides) (knows : KnowsParts design judged insides) where
  known_more : ((n : ℕ) → HasPart design n number → IsSome own) → (n m : ℕ) → Contains (judged ++ number ∷ []) m → HasPart design n m → (inside : Inside) × (slice_get (set insides number own) m ≡ Some (Some inside))
  known_more some n m has part = by (cases_eq m number)
    where
      by : (m ≡ number) ⊎ (m ≢ number) → (inside : Inside) × (slice_get (set insides number own) m ≡ Some (Some inside))
      by (inl same) =
          let is = some_of own (some n (subst (HasPart design n) same part)) in
          (is.0, ap (slice_get (set insides number own)) same ∙ set_same insides number own within ∙ ap Some is.1)
      by (inr apart) =
          let before : Contains judged m = (elim (Contains-push_cases judged number m has) [ inl b ↦ b | inr same ↦ absurd (apart (sym same)) ]) in
          let old = knows.known n m before part in
          (old.0, set_other insides number m own apart (slice_get_within insides m (Some old.0) old.1) ∙ old.1)

  each_more : IfSome own (IsInside design c) → (m : ℕ) (part : Component) (inside : Inside) → slice_get design m ≡ Some part → slice_get (set insides number own) m ≡ Some (Some inside) → IsInside design part inside
  each_more here m part inside at_m there = by (cases_eq m number)
    where
      by : (m ≡ number) ⊎ (m ≢ number) → IsInside design part inside
      by (inl same) =
          let is : own ≡ Some inside = same_Some own (Some inside) (sym (set_same insides number own within) ∙ ap (slice_get (set insides number own)) (sym same) ∙ there) in
          let c_is : c ≡ part = same_Some c part (sym at ∙ ap (slice_get design) (sym same) ∙ at_m) in
          let shows : IsInside design c inside = subst (λ (o : Option Inside). IfSome o (IsInside design c)) is here in
          subst (λ (x : Component). IsInside design x inside) c_is shows
      by (inr apart) =
          let lt : m < length insides = omega (arith, slice_get_within (set insides number own) m (Some inside) there, length-set insides number own) in
          knows.each m part inside at_m (sym (set_other insides number m own apart lt) ∙ there)

  knows_more : ((n : ℕ) → HasPart design n number → IsSome own) → IfSome own (IsInside design c) → KnowsParts design (judged ++ number ∷ []) (set insides number own)
  knows_more some here = record { known = known_more some; each = each_more here }

-- the numbers so far, and one more
pub numbers_next : (order : List ℕ) (i : ℕ) → i < length order → take i order ++ get_or order i 0 ∷ [] ≡ take (i + 1) order
numbers_next order i lt = sym (take_more order i 0 lt)

-- the numbers in the order are those of components
pub in_order : (design : Design) (order items : List ℕ) (i : ℕ) → items ≡ order → ArePartsFirst design order → i < length items → get_or items i 0 < length design
in_order design order items i same first lt =
    let own : ArePartsFirst design items = subst (ArePartsFirst design) (sym same) first in
    own.in_range i lt

-- the parts of a component are known when it is judged
pub parts_shown : (design : Design) (order items : List ℕ) (i : ℕ) (insides shown : List (Option Inside)) → items ≡ order → ArePartsFirst design order → i < length items → length insides ≡ length design → KnowsParts design (take i items) insides
    → shown ≡ insides → ShowsParts design (get_or items i 0) shown
parts_shown design order items i insides shown same first lt sized knows is =
    let own : ArePartsFirst design items = subst (ArePartsFirst design) (sym same) first in
    let shows : ShowsParts design (get_or items i 0) insides = record {
      all = sized;
      known = λ m part. knows.known (get_or items i 0) m (own.after i m lt part) part;
      each = knows.each;
    } in
    subst (ShowsParts design (get_or items i 0)) (sym is) shows

-- one component more is judged
pub knows_next : (design : Design) (order items : List ℕ) (i : ℕ) (insides new : List (Option Inside)) (own : Option Inside) → items ≡ order → ArePartsFirst design order → i < length items → length insides ≡ length design → KnowsParts design (take i items) insides
    → ((holder : ℕ) → HasPart design holder (get_or items i 0) → IsSome own) → ((c : Component) → slice_get design (get_or items i 0) ≡ Some c → IfSome own (IsInside design c))
    → new ≡ set insides (get_or items i 0) own → KnowsParts design (take (i + 1) items) new
knows_next design order items i insides new own same first lt sized knows some shows put =
    let number = get_or items i 0 in
    let in_range = in_order design order items i same first lt in
    let c = exists_at design number in_range in
    let more = knows_more design (take i items) number c.0 insides own c.1 (omega (arith, in_range, sized)) knows some (shows c.0 c.1) in
    subst₂ (KnowsParts design) (numbers_next items i lt) (sym put) more

-- a component that has a holder is a part
pub has_holder : (reads : List (List ℕ)) (m n : ℕ) → HasRead reads m n → 0 < length (get_or reads m [])
has_holder reads m n has = omega (arith, has.1)

-- a component that another has a cell of is told to be a part
pub told_part : (design : Design) (holders : List (List ℕ)) (n m : ℕ) (held : List ℕ) (none : Bool) → ((i j : ℕ) → HasRead holders j i ↔ HasPart design i j) → HasPart design n m → slice_get holders m ≡ Some held → none ≡ (length held == 0) → not none ≡ true
told_part design holders n m held none shows part at told =
    let some = has_holder holders m n ((shows n m).1 part) in
    let is : get_or holders m [] ≡ held = get_or_from_slice_get holders m held [] at in
    let more : 0 < length held = subst (λ (l : List ℕ). 0 < length l) is some in
    let no' : (length held == 0) ≡ false = ne_eqb (length held) 0 (λ e. omega (arith, e, more)) in
    ap not (told ∙ no')
