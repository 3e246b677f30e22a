-- What a design is where each invoke has become the group that it stands for, which is enabled in its place. Calyx, ASPLOS 2021; the names are this
-- project's.
use Rattle.std.specs.Prelude.{ℕ, ◌+◌, ◌++◌, List, length, map, codes}
use Rattle.hw_names.specs.Name.{Text}
use Rattle.cal_ast.specs.Invoking.{InvokeDef, invokes_in, invoke_group}
use Rattle.cal_ast.specs.Items.{items_before_control, statements_in, unless_empty}
use Rattle.cal_ast.specs.Tree.{Statement, Enable, Seq, Par, If, While, Invoke, Statements, NoStatements, MoreStatements}
use Rattle.cal_ast.specs.Tree.{ControlSection, Absent, Empty, Body, GroupDef, Component, Design}
use Rattle.cal_group.specs.inside.Numeral.{numeral}

-- the name of the group of the invoke at this item
abbrev pub invoke_name : ℕ → Text
invoke_name item = codes "c$invoke" ++ numeral item

-- a statement at item k, and statements the first of which is at item k, with an enable in place of each invoke
abbrev mutual
  pub expanded_at : ℕ → Statement → Statement
  expanded_at k (Enable name) = Enable name
  expanded_at k (Seq ss) = Seq (expanded_from (k + 1) ss)
  expanded_at k (Par ss) = Par (expanded_from (k + 1) ss)
  expanded_at k (If port by s t) = If port by (expanded_at (k + 1) s) (expanded_at (k + 1 + length (unless_empty s (statements_in s))) t)
  expanded_at k (While port by s) = While port by (expanded_at (k + 1) s)
  expanded_at k (Invoke cell ins outs) = Enable (invoke_name k)

  pub expanded_from : ℕ → Statements → Statements
  expanded_from k NoStatements = NoStatements
  expanded_from k (MoreStatements s ss) = MoreStatements (expanded_at k s) (expanded_from (k + length (statements_in s)) ss)

abbrev pub expanded_section : ℕ → ControlSection → ControlSection
expanded_section k Absent = Absent
expanded_section k Empty = Empty
expanded_section k (Body s) = Body (expanded_at k s)

-- the groups of the invokes, by their items
abbrev pub invoke_groups : Design → Component → List GroupDef
invoke_groups design c = map (λ (i : InvokeDef). invoke_group design c (invoke_name i.item) i) (invokes_in c)

abbrev pub expanded : Design → Component → Component
expanded design c =
    record c {
      groups = c.groups ++ invoke_groups design c;
      control = expanded_section (length (items_before_control c)) c.control;
    }

abbrev pub expanded_design : Design → Design
expanded_design design = map (expanded design) design
