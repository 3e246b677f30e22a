-- C3 and C4: parameters and widths. Calyx documentation; the numbers are this project's.
use Rattle.std.specs.Prelude.{◌≡◌, ℕ, ◌^◌, ◌<◌, ◌≤◌, true, false, [], codes, Option, Some, None, IsSome, All}
use Rattle.hw_bits.specs.declared.bits.TheConstants.{MAX_WIDTH}
use Rattle.hw_names.specs.Name.{Text}
use Rattle.hw_prims.specs.Table.{Pin, is_primitive}
use Rattle.net_core.specs.Guard.{GuardTree, GuardTrees, Reads, Compares, Negates, AllOf, AnyOf, NoGuards, MoreGuards}
use Rattle.net_core.specs.declared.net.Src.{Src}
use Rattle.net_core.specs.declared.net.Src.TheVariants.{Port, Lit}
use Rattle.cal_ast.specs.Ports.{is_bare, primitive_of, width_in}
use Rattle.cal_ast.specs.Statement.{IfInvoke}
use Rattle.cal_ast.specs.Tree.{PortName, own, port_of, CellDef, Assignment, DoneLine, InBinding, OutBinding, Statement, Component, Design}

-- C3 at a cell: parameters have the right number and range; a component takes none
abbrev pub HasParameters : CellDef → Type 0
HasParameters cell = (is_primitive cell.made ≡ true → IsSome (primitive_of cell)) × (is_primitive cell.made ≡ false → cell.params ≡ [])

abbrev pub IsWidth : ℕ → Type 0
IsWidth width = (1 ≤ width) × (width ≤ MAX_WIDTH)

abbrev pub HasWidth : Pin → Type 0
HasWidth p = IsWidth p.width

-- C4 at the signature: widths are 1 to 128, and the go and the done of a component that isn't bare have one bit
pub record HasWidths (design : Design) (c : Component) : Type 0 where
  pub ins : All HasWidth c.ins
  pub outs : All HasWidth c.outs
  pub go : is_bare c ≡ false → width_in design c (own (codes "go")) ≡ Some 1
  pub done : is_bare c ≡ false → width_in design c (own (codes "done")) ≡ Some 1

abbrev pub source_width : Design → Component → Src PortName → Option ℕ
source_width design c (Port p) = width_in design c p
source_width design c (Lit width value) = Some width

-- a literal has a width, and fits it
abbrev pub LiteralFits : Src PortName → Type 0
LiteralFits (Port p) = Unit {0}
LiteralFits (Lit width value) = IsWidth width × (value < 2 ^ width)

-- both sides of a comparison have one width, what stands alone has one bit, and literals fit
abbrev mutual
  pub GuardAgrees : Design → Component → GuardTree PortName → Type 0
  GuardAgrees design c (Reads s) = LiteralFits s × (source_width design c s ≡ Some 1)
  GuardAgrees design c (Compares op a b) = LiteralFits a × LiteralFits b × (source_width design c a ≡ source_width design c b)
  GuardAgrees design c (Negates g) = GuardAgrees design c g
  GuardAgrees design c (AllOf gs) = GuardsAgree design c gs
  GuardAgrees design c (AnyOf gs) = GuardsAgree design c gs

  pub GuardsAgree : Design → Component → GuardTrees PortName → Type 0
  GuardsAgree design c NoGuards = Unit {0}
  GuardsAgree design c (MoreGuards g gs) = GuardAgrees design c g × GuardsAgree design c gs

abbrev pub OptionAgrees : Design → Component → Option (GuardTree PortName) → Type 0
OptionAgrees design c None = Unit {0}
OptionAgrees design c (Some g) = GuardAgrees design c g

-- C4 at an assignment, and at a done line, the width of whose source is judged by C7
pub record WidthsAgree (design : Design) (c : Component) (a : Assignment) : Type 0 where
  pub literal : LiteralFits a.src
  pub sides : width_in design c a.dst ≡ source_width design c a.src
  pub guard : OptionAgrees design c a.guard

pub record DoneAgrees (design : Design) (c : Component) (d : DoneLine) : Type 0 where
  pub literal : LiteralFits d.src
  pub guard : OptionAgrees design c d.guard

-- what an invoke gives an input of the cell, and where it puts an output, has the width of that port
abbrev pub InAgrees : Design → Component → Text → InBinding → Type 0
InAgrees design c cell b = LiteralFits b.src × (width_in design c (port_of cell b.pin) ≡ source_width design c b.src)

abbrev pub OutAgrees : Design → Component → Text → OutBinding → Type 0
OutAgrees design c cell b = width_in design c (port_of cell b.pin) ≡ width_in design c b.dst

-- C4 at a control statement
abbrev pub StatementAgrees : Design → Component → Statement → Type 0
StatementAgrees design c s = IfInvoke s (λ cell ins outs. All (InAgrees design c cell) ins × All (OutAgrees design c cell) outs)
