-- The text of a Calyx file gives a design, or is refused.
use Rattle.std.proofs.Common.{◌≡◌, ℕ, ◌<◌, ◌≤◌, ◌⊎◌, inl, inr, Bool, true, false, List, [], ◌∷◌, codes, length, drop, Option, None, Some, refl, arith}
use Rattle.std.proofs.lemmas.Bool.{cases_lt}
use Rattle.hw_grammar.specs.TextPlace.{byte_of, IsLexed}
use Rattle.hw_grammar.specs.declared.terminal.Terminal.{Terminal}
use Rattle.hw_lex.specs.Cut.{AreTokens, token_texts}
use Rattle.hw_lex.specs.Nesting.{nesting_of}
use Rattle.hw_lex.specs.declared.token.Dialect.TheVariants.{Cal}
use Rattle.hw_lex.specs.declared.token.Token.{Token}
use Rattle.hw_limits.specs.declared.limits.TheConstants.{MOST_WEIGHT, MOST_WORDS, MOST_NESTING}
use Rattle.hw_names.specs.Name.{Text}
use Rattle.cal_ast.specs.Top.{IsTop}
use Rattle.cal_ast.specs.Tree.{Design}
use Rattle.cal_check.specs.Weight.{AreWords, IsWeight, own_weight, own_words}
use Rattle.cal_parse.proofs.Designs.{tree_written}
use Rattle.cal_parse.proofs.Exactness.{file-exact}
use Rattle.cal_parse.specs.Grammar.{IsFile}
use Rattle.cal_parse.specs.Spelling.{IsRefusedAt, KeepsNesting, is_left_out}
use Rattle.filc_load.proofs.LeftOutLemmas.{left_out_found, left_out_stands}
use Rattle.filc_load.specs.CalFile.{GivesCal, IsAcceptedCalTextOf, IsCalTextOf, IsRefused, ByTokens, ByNesting, ByGrammar, ByWord, ByRule, ByWeight, ByWords, first_word, left_out_words}
use Rattle.filc_stop.specs.Lines.{limit_line, token_line, grammar_line, left_out_line, loop_text, rule_name, rule_line}
use Rattle.filc_stop.specs.declared.ended.Ended.{Ended}
use Rattle.filc_stop.specs.declared.ended.Ended.TheVariants.{Refused, Limit}
use Rattle.filc_stop.specs.declared.language.Language.TheVariants.{Calyx}
use Rattle.filc_laws.proofs.existence.CalRuleLemmas.{IsCalRuled, is_cal_ruled}
use Rattle.filc_laws.proofs.existence.CalWeightLemmas.{is_told, some_top, top_at}
use Rattle.filc_laws.proofs.existence.Classical.{sure, next, so}
use Rattle.filc_laws.proofs.existence.GrammarLemmas.{IsJudged, is_judged, terminals_for, words_of}
use Rattle.filc_laws.proofs.existence.TokenLemmas.{IsCut, is_cut}
use Rattle.filc_laws.specs.Classically.{Classically}

abbrev pub IsCalJudged : Text → Type 0
IsCalJudged text = ((d : Design) × GivesCal text d) ⊎ ((ended : Ended) × (line : Text) × IsRefused text ended line)

-- ---- what a design costs

module _ (text : Text) (d : Design) (accepted : IsAcceptedCalTextOf d text) where
  by_words : (weight : ℕ) → IsWeight d weight → weight ≤ MOST_WEIGHT → (words : ℕ) × AreWords d words → IsCalJudged text
  by_words weight weighs light (words, has) = elim (cases_lt MOST_WORDS words) [
    | inl many ↦ inr (
      Limit,
      limit_line (codes "words") words MOST_WORDS,
      ByWords (record {
        design = d;
        words = words;
        accepted = accepted;
        light = record { weight = weight; weighs = weighs; light = light };
        has = has;
        many = many;
        is = refl;
        tells = refl;
      }),
    )
    | inr few ↦ inl (
      d,
      record {
        accepted = accepted;
        light = record { weight = weight; weighs = weighs; light = light };
        few_words = record { words = words; has = has; few = few };
      },
    )
  ]

  by_weight : Classically ((words : ℕ) × AreWords d words) → (weight : ℕ) × IsWeight d weight → Classically (IsCalJudged text)
  by_weight words (weight, weighs) = elim (cases_lt MOST_WEIGHT weight) [
    | inl heavy ↦ sure (inr (
      Limit,
      limit_line (codes "weight") weight MOST_WEIGHT,
      ByWeight (record {
        design = d;
        weight = weight;
        accepted = accepted;
        weighs = weighs;
        heavy = heavy;
        is = refl;
        tells = refl;
      }),
    ))
    | inr light ↦ so words (by_words weight weighs light)
  ]

  by_top : 0 < length d → (n : ℕ) × IsTop d n → Classically (IsCalJudged text)
  by_top some (n, is) =
      let c = top_at d n some is in
      next (is_told d accepted.rules.keeps own_weight n c.0 is c.1) (by_weight (is_told d accepted.rules.keeps own_words n c.0 is c.1))

-- ---- the rules

some_length : (d : Design) → (d ≡ [] → ⊥) → 0 < length d
some_length [] lacks = absurd (lacks refl)
some_length (c ∷ d) lacks = omega arith

module _ (text : Text) (d : Design) (of : IsCalTextOf d text) where
  by_rules : 0 < length d → IsCalRuled d → Classically (IsCalJudged text)
  by_rules some (inl rules) = next (some_top d some) (by_top text d (record { text_of = of; rules = rules }) some)
  by_rules some (inr (name, item, ports, rule, refusal)) = sure (inr (
    Refused,
    rule_line (rule_name Calyx rule) name item (loop_text ports),
    ByRule (record {
      design = d;
      rule = rule;
      name = name;
      item = item;
      ports = ports;
      text_of = of;
      first = refusal;
      is = refl;
      tells = refl;
    }),
  ))

  judged_rules : Classically (IsCalJudged text)
  judged_rules = next (is_cal_ruled d) (by_rules (some_length d (tree_written text d of.spells).0))

-- ---- the grammar

module _ (text : Text) (shallow : KeepsNesting text) where
  by_word : (at : ℕ) (refusal : IsRefusedAt text at) → is_left_out refusal ≡ true → (o : Option Text) → first_word left_out_words (drop at text) ≡ o → IsCalJudged text
  by_word at refusal left None none = absurd (left_out_found text at (shallow, (refusal, left)) none)
  by_word at refusal left (Some word) is = inr (
    Refused,
    left_out_line word at,
    ByWord (record {
      at = at;
      word = word;
      shallow = shallow;
      refusal = refusal;
      left_out = left;
      stands = left_out_stands text at word is;
      is = refl;
      tells = refl;
    }),
  )

  by_refusal : (at : ℕ) (refusal : IsRefusedAt text at) → (left : Bool) → is_left_out refusal ≡ left → IsCalJudged text
  by_refusal at refusal true left = by_word at refusal left (first_word left_out_words (drop at text)) refl
  by_refusal at refusal false profile = inr (
    Refused,
    grammar_line at,
    ByGrammar (record {
      at = at;
      shallow = shallow;
      refusal = refusal;
      of_profile = profile;
      is = refl;
      tells = refl;
    }),
  )

  module _ (tokens : List Token) (are : AreTokens Cal text tokens) where
    abbrev names : List Text
    names = words_of Cal text tokens

    abbrev terminals : List Terminal
    terminals = (terminals_for Cal text tokens).0

    lexed : IsLexed Cal names text tokens terminals
    lexed = record { tokens_are = are; terminals_are = (terminals_for Cal text tokens).1 }

    by_grammar : IsJudged (IsFile names) terminals → Classically (IsCalJudged text)
    by_grammar (inl (d, spells)) = judged_rules text d (record { shallow = shallow; spells = (names, (tokens, terminals, lexed, spells)) })
    by_grammar (inr (k, place)) =
        let refusal : IsRefusedAt text (byte_of text tokens k) = record { names = names; tokens = tokens; terminals = terminals; lexed = lexed; place = k; refused = place; byte = refl } in
        sure (by_refusal (byte_of text tokens k) refusal (is_left_out refusal) refl)

    judged_grammar : Classically (IsCalJudged text)
    judged_grammar =
        let sample = (file-exact names).law.sample [] in
        next (is_judged (IsFile names) terminals sample.0 sample.1 sample.2) by_grammar

by_tokens : (text : Text) → IsCut Cal text → Classically (IsCalJudged text)
by_tokens text (inr (at, faults)) = sure (inr (Refused, token_line at, ByTokens (record { at = at; faults = faults; is = refl; tells = refl })))
by_tokens text (inl (tokens, are)) =
    let depth = nesting_of (token_texts text tokens) in
    elim (cases_lt MOST_NESTING depth) [
      | inl deep ↦ sure (inr (
        Limit,
        limit_line (codes "nesting") depth MOST_NESTING,
        ByNesting (record {
          depth = depth;
          nested = (tokens, are, refl);
          deep = deep;
          is = refl;
          tells = refl;
        }),
      ))
      | inr within ↦ judged_grammar text (depth, (tokens, are, refl), within) tokens are
    ]

pub cal_is_judged : (text : Text) → Classically (IsCalJudged text)
cal_is_judged text = next (is_cut Cal text) (by_tokens text)
