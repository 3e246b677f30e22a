-- What the text of a Filament file gives: a design that keeps the rules and the limits, or the first cause that stands against it. This project's.
use Rattle.std.specs.Prelude.{◌≡◌, ℕ, ◌<◌, ◌≤◌, codes, slice_get, None, Some}
use Rattle.hw_lex.specs.Cut.{FaultsAt}
use Rattle.hw_lex.specs.declared.token.Dialect.TheVariants.{Fil}
use Rattle.hw_names.specs.Name.{Text}
use Rattle.fil_ast.specs.Evidence.{Evidence}
use Rattle.fil_ast.specs.Refusal.{IsRefusal}
use Rattle.fil_ast.specs.Rules.{FilRules}
use Rattle.fil_ast.specs.Top.{IsTop}
use Rattle.fil_ast.specs.Tree.{Component, Design}
use Rattle.fil_ast.specs.Weight.{told_weight}
use Rattle.hw_limits.specs.declared.limits.TheConstants.{MOST_WEIGHT, MOST_NESTING, MOST_OFFSET}
use Rattle.fil_parse.specs.Spelling.{SpellsDesign, IsNested, KeepsNesting, IsRefusedAt, first_large}
use Rattle.filc_stop.specs.Lines.{limit_line, token_line, grammar_line, evidence_text, rule_name, rule_line}
use Rattle.filc_stop.specs.declared.ended.Ended.{Ended}
use Rattle.filc_stop.specs.declared.ended.Ended.TheVariants.{Refused, Limit}
use Rattle.filc_stop.specs.declared.language.Language.TheVariants.{Filament}

-- the text spells this design, and keeps the limits: brackets stand no deeper in one another, and no offset or delay is larger
pub record IsFilTextOf (design : Design) (text : Text) : Type 0 where
  pub shallow : KeepsNesting text
  pub spells : SpellsDesign text design
  pub small : first_large design ≡ None

-- it spells this design, which keeps F1 to F14
pub record IsAcceptedFilTextOf (design : Design) (text : Text) : Type 0 where
  pub text_of : IsFilTextOf design text
  pub rules : FilRules design

-- the top component of the design, with its number
pub record HasTop (design : Design) (number : ℕ) (top : Component) : Type 0 where
  pub is_top : IsTop design number
  pub at : slice_get design number ≡ Some top

-- the top component weighs no more than the limit
pub record IsLight (design : Design) : Type 0 where
  pub number : ℕ
  pub top : Component
  pub has_top : HasTop design number top
  pub light : told_weight design top ≤ MOST_WEIGHT

-- the text spells this design, which keeps the rules and the limit of what a run costs
pub record GivesFil (text : Text) (design : Design) : Type 0 where
  pub accepted : IsAcceptedFilTextOf design text
  pub light : IsLight design

-- why a text gives no design: the first of these causes, with its answer and its line
pub data IsRefused (text : Text) (ended : Ended) (line : Text) : Type 0 where
  HasNoTokens : (at : ℕ) → FaultsAt Fil text at → ended ≡ Refused → line ≡ token_line at → IsRefused text ended line
  NestsTooDeep : (depth : ℕ) → IsNested text depth → MOST_NESTING < depth → ended ≡ Limit → line ≡ limit_line (codes "nesting") depth MOST_NESTING →
      IsRefused text ended line
  HasNoGrammar : (at : ℕ) → KeepsNesting text → IsRefusedAt text at → ended ≡ Refused → line ≡ grammar_line at → IsRefused text ended line
  HasLargeOffset : (design : Design) (offset : ℕ) → KeepsNesting text → SpellsDesign text design → first_large design ≡ Some offset → ended ≡ Limit →
      line ≡ limit_line (codes "offset") offset MOST_OFFSET → IsRefused text ended line
  BreaksRule : (design : Design) (rule : ℕ) (name : Text) (item : ℕ) (evidence : Evidence) → IsFilTextOf design text →
      IsRefusal design name item evidence rule → ended ≡ Refused → line ≡ rule_line (rule_name Filament rule) name item (evidence_text evidence) →
      IsRefused text ended line
  IsTooHeavy : (design : Design) (number : ℕ) (top : Component) → IsAcceptedFilTextOf design text → HasTop design number top →
      MOST_WEIGHT < told_weight design top → ended ≡ Limit → line ≡ limit_line (codes "weight") (told_weight design top) MOST_WEIGHT →
      IsRefused text ended line
