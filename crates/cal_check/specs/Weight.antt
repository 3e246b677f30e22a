-- What a design weighs, which limits what a run of it costs, and how many words its memories have. This project's.
use Rattle.std.specs.Prelude.{◌≡◌, ℕ, ◌+◌, List, [], ◌∷◌, length, sum_by, slice_get, Some, None}
use Rattle.net_core.specs.Weight.{option_nodes, saturated}
use Rattle.net_core.specs.Words.{made_words}
use Rattle.cal_ast.specs.Items.{control_statements}
use Rattle.cal_ast.specs.Ports.{inputs_in, outputs_in, part_of, primitive_of}
use Rattle.cal_ast.specs.Top.{IsTop}
use Rattle.cal_ast.specs.Tree.{CellDef, Assignment, DoneLine, GroupDef, Statement, Invoke, Component, Design}

-- an assignment, or a done line, and the nodes of its guard
abbrev pub assignment_weight : Assignment → ℕ
assignment_weight a = 1 + option_nodes a.guard

abbrev pub done_weight : DoneLine → ℕ
done_weight d = 1 + option_nodes d.guard

-- the assignments and the done lines of a group
abbrev pub group_weight : GroupDef → ℕ
group_weight g = sum_by assignment_weight g.sets + sum_by done_weight g.dones

-- a control statement, without those inside it, and the bindings of an invoke
abbrev pub statement_weight : Statement → ℕ
statement_weight (Invoke cell ins outs) = 1 + length ins + length outs
statement_weight s = 1

abbrev pub control_weight : Component → ℕ
control_weight c = sum_by statement_weight (control_statements c.control)

-- a component itself: its ports, implied ones too, its cells, its assignments and done lines with the nodes of their guards, its control statements and
-- their bindings, and one
abbrev pub own_weight : Component → ℕ
own_weight c =
    1 + length (inputs_in c) + length (outputs_in c) + length c.cells + sum_by group_weight c.groups + sum_by assignment_weight c.sets + control_weight c

-- the words of a cell, if it is a memory's
abbrev pub cell_words : CellDef → ℕ
cell_words cell = made_words (primitive_of cell)

-- the words of the memories that a component has cells of
abbrev pub own_words : Component → ℕ
own_words c = sum_by cell_words c.cells

mutual
  -- what a component has of its own, and what the components of its cells come to, each cell counted
  pub data ComesTo (design : Design) (own : Component → ℕ) : Component → ℕ → Type 0 where
    WithCells : (c : Component) (parts : ℕ) → CellsComeTo design own c.cells parts → ComesTo design own c (own c + parts)

  pub data CellsComeTo (design : Design) (own : Component → ℕ) : List CellDef → ℕ → Type 0 where
    NoCells : CellsComeTo design own [] 0
    NoPart : (cell : CellDef) (cells : List CellDef) (parts : ℕ) → part_of design cell ≡ None → CellsComeTo design own cells parts →
        CellsComeTo design own (cell ∷ cells) parts
    APart : (cell : CellDef) (cells : List CellDef) (c : Component) (part parts : ℕ) → part_of design cell ≡ Some c → ComesTo design own c part →
        CellsComeTo design own cells parts → CellsComeTo design own (cell ∷ cells) (part + parts)

-- what the top component comes to, but no more than the greatest number of 64 bits
pub record IsTold (design : Design) (own : Component → ℕ) (told : ℕ) : Type 0 where
  pub n : ℕ
  pub top : IsTop design n
  pub c : Component
  pub at : slice_get design n ≡ Some c
  pub whole : ℕ
  pub comes : ComesTo design own c whole
  pub is : told ≡ saturated whole

-- the weight of a design: that of its top component with those of the components of its cells
abbrev pub IsWeight : Design → ℕ → Type 0
IsWeight design told = IsTold design own_weight told

-- the words of all memories of all instances
abbrev pub AreWords : Design → ℕ → Type 0
AreWords design told = IsTold design own_words told
