-- The first broken rule of a netlist or a design is one, with its place and with what it shows, but for which loop that is. This project's.
use Rattle.std.specs.Prelude.{◌≡◌, ◌⊎◌, ℕ, ◌∷◌, List}
use Rattle.hw_names.specs.Name.{Text}
use Rattle.cal_ast.specs.Rules as calyx_rules
use Rattle.cal_ast.specs.Tree as calyx
use Rattle.fil_ast.specs.Evidence.{Evidence, ALoop}
use Rattle.fil_ast.specs.Refusal.{IsRefusal}
use Rattle.fil_ast.specs.Rules.{FilRules}
use Rattle.fil_ast.specs.Tree.{Design}
use Rattle.net_core.specs.Graph.{IsLeastLoop}
use Rattle.net_core.specs.Netlist.{Netlist}
use Rattle.net_core.specs.Rules.{IsValid, FirstBroken}
use Rattle.filc_stop.specs.declared.language.Language.{Language}
use Rattle.filc_stop.specs.declared.language.Language.TheVariants.{Filament, Calyx}
use Rattle.filc_laws.specs.OneLine.{loop_rule}

-- what a refusal tells of a design: the rule, the component's name, the item, and what that shows: evidence, or the ports of a loop
pub record Broken (Shows : Type 0) : Type 0 where
  pub rule : ℕ
  pub name : Text
  pub item : ℕ
  pub shows : Shows

abbrev pub Refuses : Design → Broken Evidence → Type 0
Refuses design b = IsRefusal design b.name b.item b.shows b.rule

-- the same of a Calyx design
abbrev pub RefusesCal : calyx.Design → Broken (List Text) → Type 0
RefusesCal design b = calyx_rules.IsRefusal design b.name b.item b.shows b.rule

-- by the rule that there is no loop, at item 0
abbrev pub loop_in : {Shows : Type 0} → Language → Text → Shows → Broken Shows
loop_in language name shows = record { rule = loop_rule language; name = name; item = 0; shows = shows }

-- both show a loop of one component, from the same port on
pub record ShowOneLoop {Shows : Type 0} (language : Language) (shown_loop : List Text → Shows) (b other : Broken Shows) : Type 0 where
  pub name : Text
  pub first : Text
  pub ports : List Text
  pub ports' : List Text
  pub shown : b ≡ loop_in language name (shown_loop (first ∷ ports))
  pub shown' : other ≡ loop_in language name (shown_loop (first ∷ ports'))

-- refusals of one design: the same, but for which loop is shown
abbrev pub AreOneRefusal : {Shows : Type 0} → Language → (List Text → Shows) → Broken Shows → Broken Shows → Type 0
AreOneRefusal language shown_loop b other = (b ≡ other) ⊎ ShowOneLoop language shown_loop b other

abbrev pub FilRefusalIsOne : Type 0
FilRefusalIsOne = (design : Design) (b other : Broken Evidence) → Refuses design b → Refuses design other → AreOneRefusal Filament ALoop b other

-- a design with a broken rule doesn't keep F1 to F14
abbrev pub RefusedDesignBreaksRules : Type 0
RefusedDesignBreaksRules = (design : Design) (b : Broken Evidence) → Refuses design b → FilRules design → ⊥

abbrev pub CalRefusalIsOne : Type 0
CalRefusalIsOne =
    (design : calyx.Design) (b other : Broken (List Text)) → RefusesCal design b → RefusesCal design other → AreOneRefusal Calyx (λ ports. ports) b other

-- a design with a broken rule doesn't keep C1 to C12
abbrev pub RefusedCalBreaksRules : Type 0
RefusedCalBreaksRules = (design : calyx.Design) (b : Broken (List Text)) → RefusesCal design b → calyx_rules.CalRules design → ⊥

-- the first of N1 to N5 that a netlist breaks, and its line
abbrev pub NetRuleIsOne : Type 0
NetRuleIsOne = (n : Netlist) (rule rule' item item' : ℕ) → FirstBroken n rule item → FirstBroken n rule' item' → (rule ≡ rule') × (item ≡ item')

abbrev pub BrokenNetIsNotValid : Type 0
BrokenNetIsNotValid = (n : Netlist) (rule item : ℕ) → FirstBroken n rule item → IsValid n → ⊥

-- the least loops of a netlist begin with one port
abbrev pub LeastPortIsOne : Type 0
LeastPortIsOne =
    (n : Netlist) (first first' : Text) (others others' : List Text) → IsLeastLoop n first others → IsLeastLoop n first' others' → first ≡ first'
