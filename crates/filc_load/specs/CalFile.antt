-- What the text of a Calyx file gives: a design that keeps the rules and the limits, or the first cause that stands against it. This project's.
use Rattle.std.specs.Prelude.{◌≡◌, ℕ, ◌<◌, ◌≤◌, true, false, if◌then◌else◌, Option, None, Some, bytes_eq, codes}
use Rattle.std.specs.Prelude.{List, [], ◌∷◌, ◌++◌, length, take, drop, Contains}
use Rattle.hw_lex.specs.Cut.{FaultsAt}
use Rattle.hw_lex.specs.declared.token.Dialect.TheVariants.{Cal}
use Rattle.hw_names.specs.Name.{Text}
use Rattle.cal_ast.specs.Rules.{CalRules, IsRefusal}
use Rattle.cal_ast.specs.Tree.{Design}
use Rattle.cal_check.specs.Weight.{IsWeight, AreWords}
use Rattle.cal_parse.specs.Spelling.{SpellsDesign, IsNested, KeepsNesting, IsRefusedAt, is_left_out}
use Rattle.hw_limits.specs.declared.limits.TheConstants.{MOST_WEIGHT, MOST_WORDS, MOST_NESTING}
use Rattle.filc_stop.specs.Lines.{limit_line, token_line, grammar_line, left_out_line, loop_text, rule_name, rule_line}
use Rattle.filc_stop.specs.declared.ended.Ended.{Ended}
use Rattle.filc_stop.specs.declared.ended.Ended.TheVariants.{Refused, Limit}
use Rattle.filc_stop.specs.declared.language.Language.TheVariants.{Calyx}

-- ---- what a text gives

-- the text spells this design, and its brackets keep the limit
pub record IsCalTextOf (design : Design) (text : Text) : Type 0 where
  pub shallow : KeepsNesting text
  pub spells : SpellsDesign text design

-- it spells this design, which keeps C1 to C12
pub record IsAcceptedCalTextOf (design : Design) (text : Text) : Type 0 where
  pub text_of : IsCalTextOf design text
  pub rules : CalRules design

-- the design weighs no more than the limit
pub record IsLight (design : Design) : Type 0 where
  pub weight : ℕ
  pub weighs : IsWeight design weight
  pub light : weight ≤ MOST_WEIGHT

-- and its memories have no more words than the limit
pub record HasFewWords (design : Design) : Type 0 where
  pub words : ℕ
  pub has : AreWords design words
  pub few : words ≤ MOST_WORDS

-- the text spells this design, which keeps the rules and the limits of what a run costs
pub record GivesCal (text : Text) (design : Design) : Type 0 where
  pub accepted : IsAcceptedCalTextOf design text
  pub light : IsLight design
  pub few_words : HasFewWords design

-- ---- why a text gives nothing

-- the words of Calyx that this profile leaves out
abbrev pub left_out_words : List Text
left_out_words = codes "static" ∷ codes "ref" ∷ codes "repeat" ∷ codes "primitive" ∷ codes "extern" ∷ codes "metadata" ∷ []

-- one of them stands at this byte
pub record LeavesOutAt (text : Text) (at : ℕ) (word : Text) : Type 0 where
  pub known : Contains left_out_words word
  pub after : Text
  pub stands : drop at text ≡ word ++ after

-- the first of these words that stands at the front of the text
abbrev pub first_word : List Text → Text → Option Text
first_word [] text = None
first_word (word ∷ words) text = if bytes_eq word (take (length word) text) then Some word else first_word words text

-- the causes, in their order; each asks that those before it are not met
pub record HasNoTokens (text : Text) (ended : Ended) (line : Text) : Type 0 where
  pub at : ℕ
  pub faults : FaultsAt Cal text at
  pub is : ended ≡ Refused
  pub tells : line ≡ token_line at

pub record NestsTooDeep (text : Text) (ended : Ended) (line : Text) : Type 0 where
  pub depth : ℕ
  pub nested : IsNested text depth
  pub deep : MOST_NESTING < depth
  pub is : ended ≡ Limit
  pub tells : line ≡ limit_line (codes "nesting") depth MOST_NESTING

pub record HasNoGrammar (text : Text) (ended : Ended) (line : Text) : Type 0 where
  pub at : ℕ
  pub shallow : KeepsNesting text
  pub refusal : IsRefusedAt text at
  pub of_profile : is_left_out refusal ≡ false
  pub is : ended ≡ Refused
  pub tells : line ≡ grammar_line at

pub record LeavesOut (text : Text) (ended : Ended) (line : Text) : Type 0 where
  pub at : ℕ
  pub word : Text
  pub shallow : KeepsNesting text
  pub refusal : IsRefusedAt text at
  pub left_out : is_left_out refusal ≡ true
  pub stands : LeavesOutAt text at word
  pub is : ended ≡ Refused
  pub tells : line ≡ left_out_line word at

-- C12 shows the ports of a loop, the other rules none
pub record BreaksRule (text : Text) (ended : Ended) (line : Text) : Type 0 where
  pub design : Design
  pub rule : ℕ
  pub name : Text
  pub item : ℕ
  pub ports : List Text
  pub text_of : IsCalTextOf design text
  pub first : IsRefusal design name item ports rule
  pub is : ended ≡ Refused
  pub tells : line ≡ rule_line (rule_name Calyx rule) name item (loop_text ports)

pub record IsTooHeavy (text : Text) (ended : Ended) (line : Text) : Type 0 where
  pub design : Design
  pub weight : ℕ
  pub accepted : IsAcceptedCalTextOf design text
  pub weighs : IsWeight design weight
  pub heavy : MOST_WEIGHT < weight
  pub is : ended ≡ Limit
  pub tells : line ≡ limit_line (codes "weight") weight MOST_WEIGHT

pub record HasTooManyWords (text : Text) (ended : Ended) (line : Text) : Type 0 where
  pub design : Design
  pub words : ℕ
  pub accepted : IsAcceptedCalTextOf design text
  pub light : IsLight design
  pub has : AreWords design words
  pub many : MOST_WORDS < words
  pub is : ended ≡ Limit
  pub tells : line ≡ limit_line (codes "words") words MOST_WORDS

-- why a text gives no design: the first of these causes, with its answer and its line
pub data IsRefused (text : Text) (ended : Ended) (line : Text) : Type 0 where
  ByTokens : HasNoTokens text ended line → IsRefused text ended line
  ByNesting : NestsTooDeep text ended line → IsRefused text ended line
  ByGrammar : HasNoGrammar text ended line → IsRefused text ended line
  ByWord : LeavesOut text ended line → IsRefused text ended line
  ByRule : BreaksRule text ended line → IsRefused text ended line
  ByWeight : IsTooHeavy text ended line → IsRefused text ended line
  ByWords : HasTooManyWords text ended line → IsRefused text ended line
