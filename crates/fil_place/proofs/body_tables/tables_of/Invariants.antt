use Rattle.std.proofs.Common.{take}
use Rattle.fil_ast.specs.Rules.{KeepsComponent, all_rules}
use Rattle.fil_ast.specs.Tree.{Design, component_tree}
use Rattle.fil_place.specs.Tables.{ShowsEarlier}
use Rattle.fil_place.proofs.BodyLemmas.{IsPlaceAfter}
use Rattle.fil_place.proofs.body_tables.tables_of.Given as goal

-- the tables show what names mean after the statements so far
abbrev pub invariant-loop-stmt : goal.invariant-loop-stmt
invariant-loop-stmt l = (comps : Design) → ShowsEarlier l.earlier comps → KeepsComponent all_rules comps (component_tree l.names l.comp)
    → IsPlaceAfter l.names l.earlier comps l.comp l.tables (take l.stmt-index (component_tree l.names l.comp).body)
