-- What the text of a netlist file gives: a netlist to run, or the first cause that stands against it. This project's.
use Rattle.std.specs.Prelude.{◌≡◌, ℕ, ◌<◌, ◌≤◌, List, [], ◌∷◌, codes}
use Rattle.hw_lex.specs.Nesting.{byte_tokens, nesting_of}
use Rattle.hw_names.specs.Name.{Text}
use Rattle.net_core.specs.Graph.{HasNoLoop, IsLeastLoop}
use Rattle.net_core.specs.Netlist.{Netlist}
use Rattle.net_core.specs.Rules.{IsValid, FirstBroken}
use Rattle.net_core.specs.Weight.{weight_of, saturated}
use Rattle.net_core.specs.Words.{word_total}
use Rattle.net_text.specs.Reading.{Spells, IsRefusedAt}
use Rattle.filc_stop.specs.Lines.{limit_line, grammar_line, loop_text, rule_name, rule_line}
use Rattle.filc_stop.specs.declared.ended.Ended.{Ended}
use Rattle.filc_stop.specs.declared.ended.Ended.TheVariants.{Refused, Limit}
use Rattle.filc_stop.specs.declared.language.Language.TheVariants.{Netlists}
use Rattle.hw_limits.specs.declared.limits.TheConstants.{MOST_NET_NESTING, MOST_WEIGHT, MOST_WORDS}

-- how deep the brackets and negations of a netlist's text nest, byte by byte
abbrev pub net_nesting : Text → ℕ
net_nesting text = nesting_of (byte_tokens text)

-- the text is nested no deeper than the limit, and spells this netlist
pub record IsTextOf (n : Netlist) (text : Text) : Type 0 where
  pub shallow : net_nesting text ≤ MOST_NET_NESTING
  pub spells : Spells text n

-- it spells this netlist, which keeps N1 to N6
pub record IsAcceptedTextOf (n : Netlist) (text : Text) : Type 0 where
  pub text_of : IsTextOf n text
  pub valid : IsValid n
  pub no_loop : HasNoLoop n

-- it spells this netlist, which keeps the rules and the limits of what a run costs
pub record GivesNet (text : Text) (n : Netlist) : Type 0 where
  pub accepted : IsAcceptedTextOf n text
  pub light : weight_of n ≤ MOST_WEIGHT
  pub few_words : word_total n ≤ MOST_WORDS

-- why a text gives no netlist to run: the first of these causes, with its answer and its line
pub data IsRefused (text : Text) (ended : Ended) (line : Text) : Type 0 where
  NestsTooDeep : MOST_NET_NESTING < net_nesting text → ended ≡ Limit → line ≡ limit_line (codes "nesting") (net_nesting text) MOST_NET_NESTING →
      IsRefused text ended line
  HasNoGrammar : (place : ℕ) → net_nesting text ≤ MOST_NET_NESTING → IsRefusedAt text place → ended ≡ Refused → line ≡ grammar_line place →
      IsRefused text ended line
  BreaksRule : (n : Netlist) (rule item : ℕ) → IsTextOf n text → FirstBroken n rule item → ended ≡ Refused →
      line ≡ rule_line (rule_name Netlists rule) n.name item [] → IsRefused text ended line
  HasLoop : (n : Netlist) (first : Text) (others : List Text) → IsTextOf n text → IsValid n → IsLeastLoop n first others → ended ≡ Refused →
      line ≡ rule_line (rule_name Netlists 6) n.name 0 (loop_text (first ∷ others)) → IsRefused text ended line
  IsTooHeavy : (n : Netlist) → IsAcceptedTextOf n text → MOST_WEIGHT < weight_of n → ended ≡ Limit →
      line ≡ limit_line (codes "weight") (saturated (weight_of n)) MOST_WEIGHT → IsRefused text ended line
  HasTooManyWords : (n : Netlist) → IsAcceptedTextOf n text → weight_of n ≤ MOST_WEIGHT → MOST_WORDS < word_total n → ended ≡ Limit →
      line ≡ limit_line (codes "words") (saturated (word_total n)) MOST_WORDS → IsRefused text ended line
