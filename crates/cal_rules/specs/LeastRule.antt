-- The least of the rules C1 to C11 that is broken at one item. This project's.
use Rattle.std.specs.Prelude.{ℕ, take, Option, Some, None, All}
use Rattle.cal_ast.specs.Rules.{Rule, C1, C2, C3, C4, C5, C6, C7, C8, C9, C10, C11, all_rules}
use Rattle.cal_rules.specs.declared.rule.Rule as code
use Rattle.cal_rules.specs.declared.rule.Rule.TheVariants as number

-- the rule that code names so
abbrev pub rule_of : code.Rule → Rule
rule_of number.C1 = C1
rule_of number.C2 = C2
rule_of number.C3 = C3
rule_of number.C4 = C4
rule_of number.C5 = C5
rule_of number.C6 = C6
rule_of number.C7 = C7
rule_of number.C8 = C8
rule_of number.C9 = C9
rule_of number.C10 = C10
rule_of number.C11 = C11

-- its place among the rules, from 0
abbrev pub place_of : code.Rule → ℕ
place_of number.C1 = 0
place_of number.C2 = 1
place_of number.C3 = 2
place_of number.C4 = 3
place_of number.C5 = 4
place_of number.C6 = 5
place_of number.C7 = 6
place_of number.C8 = 7
place_of number.C9 = 8
place_of number.C10 = 9
place_of number.C11 = 10

-- the rule is not kept, and those before it are
pub record IsLeast (keeps : Rule → Type 0) (rule : code.Rule) : Type 0 where
  pub lesser : All keeps (take (place_of rule) all_rules)
  pub broken : ¬ keeps (rule_of rule)

-- none where each rule is kept, else the least that is not
abbrev pub TellsLeast : (Rule → Type 0) → Option code.Rule → Type 0
TellsLeast keeps None = All keeps all_rules
TellsLeast keeps (Some rule) = IsLeast keeps rule
