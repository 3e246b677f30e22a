-- Words of nodes, whose bits tell which starts reach them, as one node after another passes its bits on.
use Rattle.std.proofs.Common.{◌≡◌, ◌⊎◌, inl, inr, ℕ, ◌+◌, ◌-◌, ◌*◌, ◌%◌, ◌^◌, ◌<◌, ◌≤◌, List, [], ◌∷◌, ◌++◌, length, get_or, set, take, replicate, max, bit_or, w64, Some, sym, ap, subst, ◌∙◌, arith, get_or-set_same, get_or-set_other}
use Rattle.std.specs.Prelude.{Contains, ◌↔◌, slice_get}
use Rattle.std.specs.Int.{bit_at}
use Rattle.std.proofs.lemmas.Bool.{cases_eq, cases_lt}
use Rattle.std.proofs.lemmas.List.{get_or_past, get_or-replicate, get_or-take, length-replicate, length-take}
use Rattle.std.proofs.lemmas.List.Elements.{Contains-append_left, Contains-push, Contains-push_cases}
use Rattle.std.proofs.lemmas.Nat.Bits.{bit_at-zero, bit_at-lt, bit_at_or, bit_at_set_same, bit_at_set_other}
use Rattle.std.proofs.lemmas.Option.{slice_get-get_or, slice_get_within, get_or_from_slice_get}
use Rattle.hw_graph.proofs.ComponentLemmas.{read_of}
use Rattle.hw_graph.proofs.ReachLemmas.{reach_on}
use Rattle.hw_graph.proofs.SearchLemmas.{contained_at}
use Rattle.hw_graph.specs.Graph.{HasRead, IsReadOrder, Reaches, Directly, Through}
use Rattle.hw_cells.specs.Cells.{IsOrReaches}
use Rattle.hw_cells.specs.Cells.{HasBit}
use Rattle.hw_cells.specs.inside.Words.{TellStarts, TellReached}

-- ---- bits of two words in one

one_of : (m a b : ℕ) → m ≡ max a b → a < 2 → b < 2 → m ≡ 1 → (a ≡ 1) ⊎ (b ≡ 1)
one_of m a b is a_lt b_lt has = elim (cases_lt a 1) [
  | inl none ↦ inr (omega (arith, is, has, none, b_lt))
  | inr some ↦ inl (omega (arith, some, a_lt))
]

from_left : (m a b : ℕ) → m ≡ max a b → b < 2 → a ≡ 1 → m ≡ 1
from_left m a b is lt has = omega (arith, is, lt, has)

from_right : (m a b : ℕ) → m ≡ max a b → a < 2 → b ≡ 1 → m ≡ 1
from_right m a b is lt has = omega (arith, is, lt, has)

bit_of_either : (a b bit : ℕ) → HasBit (bit_or a b) bit → HasBit a bit ⊎ HasBit b bit
bit_of_either a b bit has = one_of (bit_at (bit_or a b) bit) (bit_at a bit) (bit_at b bit) (bit_at_or a b bit) (bit_at-lt a bit) (bit_at-lt b bit) has

bit_of_left : (a b bit : ℕ) → HasBit a bit → HasBit (bit_or a b) bit
bit_of_left a b bit has = from_left (bit_at (bit_or a b) bit) (bit_at a bit) (bit_at b bit) (bit_at_or a b bit) (bit_at-lt b bit) has

bit_of_right : (a b bit : ℕ) → HasBit b bit → HasBit (bit_or a b) bit
bit_of_right a b bit has = from_right (bit_at (bit_or a b) bit) (bit_at a bit) (bit_at b bit) (bit_at_or a b bit) (bit_at-lt a bit) has

one_is_not_zero : (m : ℕ) → m ≡ 0 → m ≡ 1 → ⊥
one_is_not_zero m none has = absurd (omega (arith, none, has))

zero_has_no_bit : (bit : ℕ) → HasBit 0 bit → ⊥
zero_has_no_bit bit has = one_is_not_zero (bit_at 0 bit) (bit_at-zero bit) has

-- ---- the words of the starts

-- so many starts have their bits
abbrev pub TellFirst : ℕ → List ℕ → List ℕ → Type 0
TellFirst count starts words = (bit node : ℕ) → HasBit (get_or words node 0) bit ↔ ((bit < count) × (slice_get starts bit ≡ Some node))

no_word : (nodes node : ℕ) → ◌≡◌ {A = ℕ} (get_or (replicate nodes 0) node 0) 0
no_word nodes node = elim (cases_lt node nodes) [
  | inl lt ↦ get_or-replicate nodes node 0 0 lt
  | inr past ↦ get_or_past (replicate nodes 0) node 0 (omega (arith, past, length-replicate {A = ℕ} nodes 0))
]

pub tell_none : (nodes : ℕ) (starts words : List ℕ) → words ≡ replicate nodes 0 → TellFirst 0 starts words
tell_none nodes starts words zeros bit node =
    (λ has. absurd (zero_has_no_bit bit (subst (λ word. HasBit word bit) (ap (λ (l : List ℕ). get_or l node 0) zeros ∙ no_word nodes node) has)), λ told. absurd (omega (arith, told.0)))

some_same : (a b : ℕ) → Some a ≡ Some b → a ≡ b
some_same a b e = cc

module _ (starts words : List ℕ) (k start word : ℕ) (few : k < 64) (at : slice_get starts k ≡ Some start) (within : start < length words) (is : word ≡ get_or words start 0) (told : TellFirst k starts words) where
  abbrev with_bit : ℕ
  with_bit = bit_or word (1 * 2 ^ k % 18446744073709551616)

  pub tell_more : TellFirst (k + 1) starts (set words start (bit_or word (1 * 2 ^ k % 18446744073709551616)))
  tell_more bit node = elim (cases_eq node start) [
    | inl here ↦
        let now : get_or (set words start with_bit) node 0 ≡ with_bit = ap (λ n. get_or (set words start with_bit) n 0) here ∙ get_or-set_same words start with_bit 0 within in
        elim (cases_eq bit k) [
          | inl same ↦ (
            λ has. (omega (arith, same), ap (slice_get starts) same ∙ at ∙ ap Some (sym here)),
            λ first. subst (λ w. HasBit w bit) (sym now) (subst (HasBit with_bit) (sym same) (bit_at_set_same w64 word k few)),
          )
          | inr ne ↦
              let stays : bit_at with_bit bit ≡ bit_at (get_or words node 0) bit = bit_at_set_other w64 word k few bit ne ∙ ap (λ w. bit_at w bit) (is ∙ ap (λ n. get_or words n 0) (sym here)) in (
                λ has. let before = (told bit node).0 (sym stays ∙ subst (λ w. HasBit w bit) now has) in (omega (arith, before.0), before.1),
                λ first. subst (λ w. HasBit w bit) (sym now) (stays ∙ (told bit node).1 (omega (arith, first.0, ne), first.1)),
              )
        ]
    | inr other ↦
        let now : get_or (set words start with_bit) node 0 ≡ get_or words node 0 = get_or-set_other words start node with_bit 0 other in (
          λ has. let before = (told bit node).0 (subst (λ w. HasBit w bit) now has) in (omega (arith, before.0), before.1),
          λ first. subst (λ w. HasBit w bit) (sym now) (elim (cases_eq bit k) [
            | inl same ↦ absurd (other (some_same node start (sym first.1 ∙ ap (slice_get starts) same ∙ at)))
            | inr ne ↦ (told bit node).1 (omega (arith, first.0, ne), first.1)
          ]),
        )
  ]

pub tell_all : (starts words : List ℕ) (count : ℕ) → length starts ≤ count → TellFirst count starts words → TellStarts starts words
tell_all starts words count all told bit node =
    (λ has. ((told bit node).0 has).1, λ at. (told bit node).1 (omega (arith, slice_get_within starts bit node at, all), at))

-- ---- a word is passed on

-- these nodes were given the bits of the word
abbrev pub AreGiven : ℕ → List ℕ → List ℕ → List ℕ → Type 0
AreGiven word given old new = (bit other : ℕ) → HasBit (get_or new other 0) bit ↔ HasBit (get_or old other 0) bit ⊎ (Contains given other × HasBit word bit)

pub given_none : (word : ℕ) (words : List ℕ) → AreGiven word [] words words
given_none word words bit other =
    (λ has. inl has, λ either. elim either [ inl has ↦ has | inr given ↦ absurd (omega (arith, given.0.1)) ])

module _ (word : ℕ) (given old new : List ℕ) (read : ℕ) (within : read < length new) (are : AreGiven word given old new) where
  abbrev with_word : ℕ
  with_word = bit_or (get_or new read 0) word

  pub given_more : AreGiven word (given ++ read ∷ []) old (set new read (bit_or (get_or new read 0) word))
  given_more bit other = elim (cases_eq other read) [
    | inl here ↦
        let now : get_or (set new read with_word) other 0 ≡ with_word = ap (λ n. get_or (set new read with_word) n 0) here ∙ get_or-set_same new read with_word 0 within in
        let before : get_or new other 0 ≡ get_or new read 0 = ap (λ n. get_or new n 0) here in (
          λ has. elim (bit_of_either (get_or new read 0) word bit (subst (λ w. HasBit w bit) now has)) [
            | inl had ↦ weaker bit other ((are bit other).0 (subst (λ w. HasBit w bit) (sym before) had))
            | inr passed ↦ inr (subst (Contains (given ++ read ∷ [])) (sym here) (Contains-push given read), passed)
          ],
          λ either. subst (λ w. HasBit w bit) (sym now) (elim either [
            | inl had ↦ bit_of_left (get_or new read 0) word bit (subst (λ w. HasBit w bit) before ((are bit other).1 (inl had)))
            | inr passed ↦ bit_of_right (get_or new read 0) word bit passed.1
          ]),
        )
    | inr ne ↦
        let now : get_or (set new read with_word) other 0 ≡ get_or new other 0 = get_or-set_other new read other with_word 0 ne in (
          λ has. weaker bit other ((are bit other).0 (subst (λ w. HasBit w bit) now has)),
          λ either. subst (λ w. HasBit w bit) (sym now) (elim either [
            | inl had ↦ (are bit other).1 (inl had)
            | inr passed ↦ elim (Contains-push_cases given read other passed.0) [
              | inl before ↦ (are bit other).1 (inr (before, passed.1))
              | inr same ↦ absurd (ne (sym same))
            ]
          ]),
        )
  ]
    where
      weaker : (bit other : ℕ) → HasBit (get_or old other 0) bit ⊎ (Contains given other × HasBit word bit) → HasBit (get_or old other 0) bit ⊎ (Contains (given ++ read ∷ []) other × HasBit word bit)
      weaker bit other either = elim either [
        | inl had ↦ inl had
        | inr passed ↦ inr (Contains-append_left given (read ∷ []) other passed.0, passed.1)
      ]

-- ---- the order is gone through from its end

pub has_read : (reads : List (List ℕ)) (port : ℕ) (got : List ℕ) → slice_get reads port ≡ Some got → (other : ℕ) → Contains got other → HasRead reads port other
has_read reads port got at other has = subst (λ (l : List ℕ). Contains l other) (sym (get_or_from_slice_get reads port got [] at)) has

-- each bit is of a start that reaches the node; the nodes from a place of the order on have passed their bits on
pub record ArePassedFrom (left : ℕ) (reads : List (List ℕ)) (order starts words : List ℕ) : Type 0 where
  pub all : length words ≡ length reads
  pub sound : (bit node : ℕ) → bit < length starts → HasBit (get_or words node 0) bit → IsOrReaches reads (get_or starts bit 0) node
  pub begun : (bit : ℕ) → bit < length starts → HasBit (get_or words (get_or starts bit 0) 0) bit
  pub passed : (place read bit : ℕ) → left ≤ place → place < length order → HasRead reads (get_or order place 0) read → HasBit (get_or words (get_or order place 0) 0) bit → HasBit (get_or words read 0) bit

pub passed_none : (reads : List (List ℕ)) (order starts words : List ℕ) → length words ≡ length reads → TellStarts starts words → ArePassedFrom (length order) reads order starts words
passed_none reads order starts words all told = record {
  all = all;
  sound = λ bit node lt has. inl (get_or_from_slice_get starts bit node 0 ((told bit node).0 has));
  begun = λ bit lt. (told bit (get_or starts bit 0)).1 (slice_get-get_or starts bit 0 lt);
  passed = λ place read bit le lt reads has. absurd (omega (arith, le, lt));
}

module _ (reads : List (List ℕ)) (order starts old : List ℕ) (left : ℕ) (is_order : IsReadOrder reads order) (some : 0 < left) (within : left ≤ length order) (before : ArePassedFrom left reads order starts old) where
  abbrev node : ℕ
  node = get_or order (left - 1) 0

  pub passed_more : (got new : List ℕ) → slice_get reads (get_or order (left - 1) 0) ≡ Some got → length new ≡ length old → AreGiven (get_or old (get_or order (left - 1) 0) 0) got old new → ArePassedFrom (left - 1) reads order starts new
  passed_more got new at size are = record {
    all = size ∙ before.all;
    sound = sound;
    begun = λ bit lt. (are bit (get_or starts bit 0)).1 (inl (before.begun bit lt));
    passed = passed;
  }
    where
      sound : (bit other : ℕ) → bit < length starts → HasBit (get_or new other 0) bit → IsOrReaches reads (get_or starts bit 0) other
      sound bit other lt has = elim ((are bit other).0 has) [
        | inl had ↦ before.sound bit other lt had
        | inr given ↦
            let read = has_read reads node got at other given.0 in
            elim (before.sound bit node lt given.1) [
              | inl same ↦ inr (Directly (get_or starts bit 0) other (subst (λ n. HasRead reads n other) (sym same) read))
              | inr reaches ↦ inr (reach_on reads (get_or starts bit 0) node other reaches read)
            ]
      ]

      -- what the node reads stands before it
      stays : (place bit : ℕ) → left - 1 ≤ place → place < length order → HasBit (get_or new (get_or order place 0) 0) bit → HasBit (get_or old (get_or order place 0) 0) bit
      stays place bit le lt has = elim ((are bit (get_or order place 0)).0 has) [
        | inl had ↦ had
        | inr given ↦
            let earlier = is_order.after (left - 1) (get_or order place 0) (omega (arith, some, within)) (has_read reads node got at (get_or order place 0) given.0) in
            let lower : earlier.0 < left - 1 = omega (arith, earlier.1, length-take (left - 1) order) in
            let same = is_order.once earlier.0 place (omega (arith, lower, within)) lt (sym (get_or-take (left - 1) order earlier.0 0 lower) ∙ contained_at (take (left - 1) order) (get_or order place 0) earlier) in
            absurd (omega (arith, same, lower, le))
      ]

      passed : (place read bit : ℕ) → left - 1 ≤ place → place < length order → HasRead reads (get_or order place 0) read → HasBit (get_or new (get_or order place 0) 0) bit → HasBit (get_or new read 0) bit
      passed place read bit le lt reading has =
          let had = stays place bit le lt has in
          elim (cases_lt place left) [
            | inl next ↦
                let same : place ≡ left - 1 = omega (arith, le, next) in
                let there = read_of reads node got at read (subst (λ p. HasRead reads (get_or order p 0) read) same reading) in
                (are bit read).1 (inr (there, subst (λ p. HasBit (get_or old (get_or order p 0) 0) bit) same had))
            | inr later ↦ (are bit read).1 (inl (before.passed place read bit later lt reading had))
          ]

module _ (reads : List (List ℕ)) (order starts words : List ℕ) (is_order : IsReadOrder reads order) (over : ArePassedFrom 0 reads order starts words) where
  step : (bit port other : ℕ) → HasRead reads port other → HasBit (get_or words port 0) bit → HasBit (get_or words other 0) bit
  step bit port other read has = elim (cases_lt port (length reads)) [
    | inl lt ↦
        let stands = is_order.each port lt in
        let at = contained_at order port stands in
        over.passed stands.0 other bit (omega arith) stands.1 (subst (λ p. HasRead reads p other) (sym at) read) (subst (λ p. HasBit (get_or words p 0) bit) (sym at) has)
    | inr past ↦ let none : get_or reads port [] ≡ [] = get_or_past reads port [] past in absurd (omega (arith, read.1, ap length none))
  ]

  along : (bit port other : ℕ) → Reaches reads port other → HasBit (get_or words port 0) bit → HasBit (get_or words other 0) bit
  along bit port other (Directly p o read) has = step bit p o read has
  along bit port other (Through p next o read rest) has = along bit next o rest (step bit p next read has)

  pub passed_all : TellReached reads starts words
  passed_all bit node lt = (
    over.sound bit node lt,
    λ reached. elim reached [
      | inl same ↦ subst (λ n. HasBit (get_or words n 0) bit) same (over.begun bit lt)
      | inr reaches ↦ along bit (get_or starts bit 0) node reaches (over.begun bit lt)
    ],
  )
