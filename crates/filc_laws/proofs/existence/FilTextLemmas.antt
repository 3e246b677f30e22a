-- The text of a Filament file gives a design, or is refused.
use Rattle.std.proofs.Common.{◌≡◌, ℕ, ◌-◌, ◌<◌, ◌⊎◌, inl, inr, List, [], codes, length, Option, None, Some, refl, sym, subst, arith}
use Rattle.std.specs.Prelude.{slice_get, Contains}
use Rattle.std.proofs.lemmas.Bool.{cases_lt}
use Rattle.hw_graph.proofs.MemberLemmas.{in_of, at_of, from_map}
use Rattle.hw_grammar.specs.TextPlace.{byte_of, IsLexed}
use Rattle.hw_grammar.specs.declared.terminal.Terminal.{Terminal}
use Rattle.hw_lex.specs.Cut.{AreTokens, token_texts}
use Rattle.hw_lex.specs.Nesting.{nesting_of}
use Rattle.hw_lex.specs.declared.token.Dialect.TheVariants.{Fil}
use Rattle.hw_lex.specs.declared.token.Token.{Token}
use Rattle.hw_limits.specs.declared.limits.TheConstants.{MOST_WEIGHT, MOST_NESTING, MOST_OFFSET}
use Rattle.hw_names.specs.Name.{Text}
use Rattle.fil_ast.specs.Naming.{component_names}
use Rattle.fil_ast.specs.Rules.{FilRules}
use Rattle.fil_ast.specs.Top.{IsTop}
use Rattle.fil_ast.specs.Tree.{Component, Design}
use Rattle.fil_ast.specs.Weight.{told_weight}
use Rattle.fil_parse.proofs.Exactness.{file-exact}
use Rattle.fil_parse.specs.Grammar.{IsFile}
use Rattle.fil_parse.specs.Spelling.{SpellsDesign, KeepsNesting, first_large}
use Rattle.filc_load.proofs.TopLemmas.{has_top}
use Rattle.filc_load.specs.FilFile.{GivesFil, IsFilTextOf, IsRefused, HasNoTokens, NestsTooDeep, HasNoGrammar, HasLargeOffset, BreaksRule, IsTooHeavy}
use Rattle.filc_stop.specs.Lines.{limit_line, token_line, grammar_line, evidence_text, rule_name, rule_line}
use Rattle.filc_stop.specs.declared.ended.Ended.{Ended}
use Rattle.filc_stop.specs.declared.ended.Ended.TheVariants.{Refused, Limit}
use Rattle.filc_stop.specs.declared.language.Language.TheVariants.{Filament}
use Rattle.filc_laws.proofs.existence.Classical.{sure, next, so, by_cases, Least, least}
use Rattle.filc_laws.proofs.existence.FilRuleLemmas.{IsFilRuled, is_fil_ruled}
use Rattle.filc_laws.proofs.existence.GrammarLemmas.{IsJudged, is_judged, terminals_for, words_of}
use Rattle.filc_laws.proofs.existence.TokenLemmas.{IsCut, is_cut}
use Rattle.filc_laws.specs.Classically.{Classically}

-- ---- the top component

module _ (d : Design) where
  abbrev IsMain : ℕ → Type 0
  IsMain n = (c : Component) × (slice_get d n ≡ Some c) × (c.name ≡ codes "main")

  first_main : Least IsMain → (n : ℕ) × IsTop d n
  first_main l = (l.at, inl (l.has.0, l.has.1, l.has.2, λ m c less at is. l.lesser m less (c, at, is)))

  main_of : Contains (component_names d) (codes "main") → (n : ℕ) × IsMain n
  main_of has =
      let c = from_map (λ (x : Component). x.name) d (codes "main") (in_of (component_names d) (codes "main") has) in
      let place = at_of d c.0 c.1 in
      (place.0, (c.0, place.1, c.2))

  pub some_top : 0 < length d → Classically ((n : ℕ) × IsTop d n)
  some_top some =
      by_cases ((n : ℕ) × IsMain n)
      (λ (n, main). so (least IsMain n main) first_main)
      (λ none. sure (length d - 1, inr (λ has. none (main_of has), omega (arith, some))))

-- ---- what a text gives

abbrev pub IsFilJudged : Text → Type 0
IsFilJudged text = ((d : Design) × GivesFil text d) ⊎ ((ended : Ended) × (line : Text) × IsRefused text ended line)

module _ (text : Text) (d : Design) (of : IsFilTextOf d text) (some : 0 < length d) where
  by_weight : FilRules d → (n : ℕ) × IsTop d n → IsFilJudged text
  by_weight rules (n, is) =
      let top = has_top d n is in
      elim (cases_lt MOST_WEIGHT (told_weight d top.0)) [
        | inl heavy ↦ inr (Limit, limit_line (codes "weight") (told_weight d top.0) MOST_WEIGHT, IsTooHeavy d n top.0 (record { text_of = of; rules = rules }) top.1 heavy refl refl)
        | inr light ↦ inl (d, record { accepted = record { text_of = of; rules = rules }; light = record { number = n; top = top.0; has_top = top.1; light = light } })
      ]

  by_rules : IsFilRuled d → Classically (IsFilJudged text)
  by_rules (inl rules) = so (some_top d some) (by_weight rules)
  by_rules (inr (name, item, e, rule, refusal)) =
      sure (inr (Refused, rule_line (rule_name Filament rule) name item (evidence_text e), BreaksRule d rule name item e of refusal refl refl))

module _ (text : Text) (shallow : KeepsNesting text) where
  by_offsets : (d : Design) → SpellsDesign text d → 0 < length d → (o : Option ℕ) → first_large d ≡ o → Classically (IsFilJudged text)
  by_offsets d spells some None small = next (is_fil_ruled d) (by_rules text d (record { shallow = shallow; spells = spells; small = small }) some)
  by_offsets d spells some (Some offset) large =
      sure (inr (Limit, limit_line (codes "offset") offset MOST_OFFSET, HasLargeOffset d offset shallow spells large refl refl))

  module _ (tokens : List Token) (are : AreTokens Fil text tokens) where
    abbrev names : List Text
    names = words_of Fil text tokens

    abbrev terminals : List Terminal
    terminals = (terminals_for Fil text tokens).0

    lexed : IsLexed Fil names text tokens terminals
    lexed = record { tokens_are = are; terminals_are = (terminals_for Fil text tokens).1 }

    by_grammar : IsJudged (IsFile names) terminals → Classically (IsFilJudged text)
    by_grammar (inl (d, spells)) =
        by_offsets d (names, (tokens, terminals, lexed, spells)) (subst (λ (x : Design). 0 < length x) (sym spells.2) (omega arith)) (first_large d) refl
    by_grammar (inr (k, place)) =
        sure (inr (Refused, grammar_line (byte_of text tokens k), HasNoGrammar (byte_of text tokens k) shallow (names, (tokens, terminals, lexed, k, place, refl)) refl refl))

    judged_grammar : Classically (IsFilJudged text)
    judged_grammar =
        let sample = (file-exact names).law.sample [] in
        next (is_judged (IsFile names) terminals sample.0 sample.1 sample.2) by_grammar

by_tokens : (text : Text) → IsCut Fil text → Classically (IsFilJudged text)
by_tokens text (inr (at, faults)) = sure (inr (Refused, token_line at, HasNoTokens at faults refl refl))
by_tokens text (inl (tokens, are)) =
    let depth = nesting_of (token_texts text tokens) in
    elim (cases_lt MOST_NESTING depth) [
      | inl deep ↦ sure (inr (Limit, limit_line (codes "nesting") depth MOST_NESTING, NestsTooDeep depth (tokens, are, refl) deep refl refl))
      | inr within ↦ judged_grammar text (depth, (tokens, are, refl), within) tokens are
    ]

pub fil_is_judged : (text : Text) → Classically (IsFilJudged text)
fil_is_judged text = next (is_cut Fil text) (by_tokens text)
