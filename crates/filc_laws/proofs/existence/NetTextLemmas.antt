-- The text of a netlist gives a netlist to run, or is refused.
use Rattle.std.proofs.Common.{◌≡◌, ℕ, ◌+◌, ◌<◌, ◌≤◌, ◌⊎◌, inl, inr, List, [], ◌∷◌, codes, length, map, take, Some, refl, subst}
use Rattle.std.specs.Prelude.{slice_get}
use Rattle.std.proofs.lemmas.Bool.{cases_lt}
use Rattle.std.proofs.lemmas.Option.{same_Some, slice_get_within}
use Rattle.hw_graph.proofs.MemberLemmas.{In, in_at, in_map}
use Rattle.hw_limits.specs.declared.limits.TheConstants.{MOST_NET_NESTING, MOST_WEIGHT, MOST_WORDS}
use Rattle.hw_names.specs.Name.{Text}
use Rattle.net_core.specs.Graph.{HasNoLoop, IsLeastLoop, IsLoop, ReadsAlong}
use Rattle.net_core.specs.Netlist.{Netlist, Line, lines_of}
use Rattle.net_core.specs.Rules.{PortLine, FirstBroken, IsValid, LineKeepsRules, ports_of, rules_at}
use Rattle.net_core.specs.Weight.{weight_of, saturated}
use Rattle.net_core.specs.Words.{word_total}
use Rattle.net_sim.proofs.NoLoopLemmas.{read_number}
use Rattle.net_sim.specs.Order.{IsNamed}
use Rattle.net_text.specs.Layout.{net_text}
use Rattle.net_text.specs.Reading.{IsRefusedAt, IsViable, Spells, joined, whole_lines}
use Rattle.filc_load.specs.NetFile.{GivesNet, IsAcceptedTextOf, IsRefused, IsTextOf, NestsTooDeep, HasNoGrammar, BreaksRule, HasLoop, IsTooHeavy, HasTooManyWords, net_nesting}
use Rattle.filc_stop.specs.Lines.{limit_line, grammar_line, loop_text, rule_name, rule_line}
use Rattle.filc_stop.specs.declared.ended.Ended.{Ended}
use Rattle.filc_stop.specs.declared.ended.Ended.TheVariants.{Refused, Limit}
use Rattle.filc_stop.specs.declared.language.Language.TheVariants.{Netlists}
use Rattle.filc_laws.proofs.existence.Classical.{sure, next, so, by_cases, greatest, all_or_first, IsJudgedBelow}
use Rattle.filc_laws.proofs.existence.LeastLemmas.{LeastOf, least_of}
use Rattle.filc_laws.proofs.existence.ListLemmas.{FirstFalse, first_false, place_of}
use Rattle.filc_laws.specs.Classically.{Classically}

-- ---- the grammar

-- the least netlist
smallest : Netlist
smallest = record { name = 97 ∷ []; ins = []; outs = []; wires = []; cells = []; sets = [] }

some_begins : (lines : List Text) → IsViable lines 0
unfolding smallest
some_begins lines = (net_text smallest, smallest, ((refl, refl), refl), refl)

abbrev IsSpelledOrNot : Text → Type 0
IsSpelledOrNot text = ((n : Netlist) × Spells text n) ⊎ ((at : ℕ) × IsRefusedAt text at)

is_spelled_or_not : (text : Text) → Classically (IsSpelledOrNot text)
is_spelled_or_not text =
    by_cases ((n : Netlist) × Spells text n)
    (λ spelled. sure (inl spelled))
    (λ none. so (greatest (IsViable (whole_lines text)) (length (whole_lines text)) (some_begins (whole_lines text))) (λ g. inr (
      length (joined (take g.at (whole_lines text))),
      record {
        spells_none = λ n spells. none (n, spells);
        line = g.at;
        within = g.within;
        first_byte = refl;
        viable = g.has;
        hopeless = λ less more. g.past less more;
      },
    )))

-- ---- N1 to N5

module _ (n : Netlist) where
  abbrev KeepsAt : ℕ → Type 0
  KeepsAt k = (line : Line) → slice_get (lines_of n) k ≡ Some line → LineKeepsRules n k line

  abbrev IsValidOrNot : Type 0
  IsValidOrNot = IsValid n ⊎ ((rule : ℕ) × (item : ℕ) × FirstBroken n rule item)

  broken_at : (k : ℕ) → k < length (lines_of n) → (KeepsAt k → ⊥) → ((j : ℕ) → j < k → KeepsAt j) → (rule : ℕ) × (item : ℕ) × FirstBroken n rule item
  broken_at k less lacks before =
      let line = place_of (lines_of n) k less in
      let same : (other : Line) → slice_get (lines_of n) k ≡ Some other → line.0 ≡ other = λ other at. same_Some line.0 other (subst (λ o. o ≡ Some other) line.1 at) in
      let f : FirstFalse (rules_at (ports_of n) (take k (lines_of n)) line.0) =
      first_false (rules_at (ports_of n) (take k (lines_of n)) line.0)
      (λ kept. lacks (λ other at. subst (λ (x : Line). LineKeepsRules n k x) (same other at) kept)) in (
        f.number + 1,
        k + 1,
        record {
          line = line.0;
          place = k;
          counted = refl;
          at = line.1;
          earlier = λ j other below at. before j below other at;
          number = f.number;
          numbered = refl;
          lesser = λ r below. f.lesser r below;
          broken = f.is_false;
        },
      )

  judged_lines : IsJudgedBelow KeepsAt (length (lines_of n)) → IsValidOrNot
  judged_lines (inl all) = inl (λ k line at. all k (slice_get_within (lines_of n) k line at) line at)
  judged_lines (inr (k, less, lacks, before)) = inr (broken_at k less lacks before)

  is_valid_or_not : Classically IsValidOrNot
  is_valid_or_not = so (all_or_first KeepsAt (length (lines_of n))) judged_lines

  -- ---- N6

  module _ (valid : IsValid n) where
    abbrev names : List Text
    names = map (λ (p : PortLine). p.name) (ports_of n)

    named_in : (m : ℕ) (port : Text) → IsNamed n m port → In names port
    named_in m port (p, at, is) = subst (λ (x : Text). In names x) is (in_map (λ (q : PortLine). q.name) (ports_of n) p (in_at (ports_of n) m p at))

    -- a port that is read back to is one of the netlist
    back_in : (port : Text) (others : List Text) (back : Text) → ReadsAlong n (port ∷ others) back → In names back
    back_in port [] back reads = let number = read_number n valid port back reads in named_in number.0 back number.1
    back_in port (other ∷ others) back along = back_in other others back along.1

    abbrev LiesOnLoop : Text → Type 0
    LiesOnLoop port = (others : List Text) × IsLoop n port others

    abbrev HasLoopOrNot : Type 0
    HasLoopOrNot = HasNoLoop n ⊎ ((first : Text) × (others : List Text) × IsLeastLoop n first others)

    least_loop : LeastOf LiesOnLoop names → (first : Text) × (others : List Text) × IsLeastLoop n first others
    least_loop l = (l.text, l.has.0, record { is_loop = l.has.1; least = λ port ports loop. l.least port (back_in port ports port loop.along) (ports, loop) })

    has_loop_or_not : Classically HasLoopOrNot
    has_loop_or_not =
        by_cases ((first : Text) × LiesOnLoop first)
        (λ (first, loop). so (least_of LiesOnLoop names first loop) (λ l. inr (least_loop l)))
        (λ none. sure (inl (λ first others loop. none (first, (others, loop)))))

-- ---- what a text gives

abbrev pub IsNetJudged : Text → Type 0
IsNetJudged text = ((n : Netlist) × GivesNet text n) ⊎ ((ended : Ended) × (line : Text) × IsRefused text ended line)

module _ (text : Text) (n : Netlist) where
  by_weight : IsAcceptedTextOf n text → IsNetJudged text
  by_weight accepted = elim (cases_lt MOST_WEIGHT (weight_of n)) [
    | inl heavy ↦ inr (Limit, limit_line (codes "weight") (saturated (weight_of n)) MOST_WEIGHT, IsTooHeavy n accepted heavy refl refl)
    | inr light ↦ elim (cases_lt MOST_WORDS (word_total n)) [
      | inl many ↦ inr (Limit, limit_line (codes "words") (saturated (word_total n)) MOST_WORDS, HasTooManyWords n accepted light many refl refl)
      | inr few ↦ inl (n, record { accepted = accepted; light = light; few_words = few })
    ]
  ]

  by_loops : IsTextOf n text → (valid : IsValid n) → HasLoopOrNot n valid → IsNetJudged text
  by_loops of valid (inl none) = by_weight (record { text_of = of; valid = valid; no_loop = none })
  by_loops of valid (inr (first, others, loop)) =
      inr (Refused, rule_line (rule_name Netlists 6) n.name 0 (loop_text (first ∷ others)), HasLoop n first others of valid loop refl refl)

  by_rules : IsTextOf n text → IsValidOrNot n → Classically (IsNetJudged text)
  by_rules of (inl valid) = so (has_loop_or_not n valid) (by_loops of valid)
  by_rules of (inr (rule, item, broken)) = sure (inr (Refused, rule_line (rule_name Netlists rule) n.name item [], BreaksRule n rule item of broken refl refl))

by_grammar : (text : Text) → net_nesting text ≤ MOST_NET_NESTING → IsSpelledOrNot text → Classically (IsNetJudged text)
by_grammar text shallow (inl (n, spells)) = next (is_valid_or_not n) (by_rules text n (record { shallow = shallow; spells = spells }))
by_grammar text shallow (inr (at, refused)) = sure (inr (Refused, grammar_line at, HasNoGrammar at shallow refused refl refl))

pub net_is_judged : (text : Text) → Classically (IsNetJudged text)
net_is_judged text = elim (cases_lt MOST_NET_NESTING (net_nesting text)) [
  | inl deep ↦ sure (inr (Limit, limit_line (codes "nesting") (net_nesting text) MOST_NET_NESTING, NestsTooDeep deep refl refl))
  | inr shallow ↦ next (is_spelled_or_not text) (by_grammar text shallow)
]
