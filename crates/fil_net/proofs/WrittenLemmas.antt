-- Wires that a design which some text spells is lowered to: their names are names of netlists, and their numbers can be written.
use Rattle.std.proofs.Common.{◌≡◌, ℕ, List, [], get_or, map, take, slice_get, All, Contains, Some, inl, inr, sym, subst, lit<}
use Rattle.std.proofs.lemmas.List.Elements.{All-append, All-contains, All-cons, All-from_recursion, All-map, All-nil, All-weaker, Contains-get_or}
use Rattle.hw_grammar.specs.Words.{IsWritten}
use Rattle.hw_prims.specs.Table.{Pin, pin}
use Rattle.cal_ast.proofs.ItemLemmas.{assignment_item, widths_agree}
use Rattle.cal_ast.proofs.ListLemmas.{Contains-at}
use Rattle.cal_ast.specs.Naming.{Unreserved}
use Rattle.cal_ast.specs.Tree as calyx
use Rattle.cal_ast.specs.Tree.{Assignment, CellDef}
use Rattle.fil_ast.specs.Scope.{Instance, instances_at}
use Rattle.fil_ast.specs.Tree.{Component, DataPort, Design, Interface, Statement, New, Call, Both, Connect}
use Rattle.fil_ast.specs.Wires.{whole_scope}
use Rattle.fil_parse.specs.Written.{ComponentIsWritten, DesignIsWritten, InterfaceIsWritten, PortIsWritten, StatementIsWritten}
use Rattle.fil_lower.specs.Lowers.{IsBitGuarded, KeepsComponent, Lowers, instance_cell}
use Rattle.fil_lower.proofs.NameLemmas.{from_map}
use Rattle.fil_net.proofs.GuardLemmas.{IsBitSet, literal_written}
use Rattle.fil_net.proofs.ListLemmas.{All-flat}
use Rattle.fil_net.proofs.RegisterNames.{register_segment}
use Rattle.fil_net.proofs.SegmentLemmas.{IsSegment, fil_segment}

abbrev pub IsWrittenPin : Pin → Type 0
IsWrittenPin p = IsSegment p.name × IsWritten p.width

abbrev pub IsWrittenCell : CellDef → Type 0
IsWrittenCell cell = IsSegment cell.name × All IsWritten cell.params

pub record IsWrittenLow (low : calyx.Component) : Type 0 where
  pub name : IsSegment low.name
  pub ins : All IsWrittenPin low.ins
  pub outs : All IsWrittenPin low.outs
  pub cells : All IsWrittenCell low.cells
  pub sets : All IsBitSet low.sets

-- ---- ports

port_written : (p : DataPort) → PortIsWritten p → IsWrittenPin (pin p.name p.width)
port_written p is = (fil_segment p.name is.1.1.0, is.1.1.1)

ports_written : (ports : List DataPort) → All PortIsWritten ports → All IsWrittenPin (map (λ (p : DataPort). pin p.name p.width) ports)
ports_written ports is = All-map IsWrittenPin (λ (p : DataPort). pin p.name p.width) ports (All-weaker PortIsWritten (λ (p : DataPort). IsWrittenPin (pin p.name p.width)) port_written ports is)

interface_written : (g : Interface) → InterfaceIsWritten g → IsWrittenPin (pin g.name g.width)
interface_written g is = (fil_segment g.name is.1.0, is.1.1)

interfaces_written : (interfaces : List Interface) → All InterfaceIsWritten interfaces → All IsWrittenPin (map (λ (g : Interface). pin g.name g.width) interfaces)
interfaces_written interfaces is =
    All-map IsWrittenPin (λ (g : Interface). pin g.name g.width) interfaces (All-weaker InterfaceIsWritten (λ (g : Interface). IsWrittenPin (pin g.name g.width)) interface_written interfaces is)

-- ---- cells

abbrev IsWrittenInstance : Instance → Type 0
IsWrittenInstance i = IsSegment i.name × All IsWritten i.params

instances_written : (s : Statement) → StatementIsWritten s → All IsWrittenInstance (instances_at s)
instances_written (New name made params) is =
    All-cons IsWrittenInstance (record { name = name; made = made; params = params }) [] (fil_segment name is.0, All-from_recursion IsWritten params is.1.1) (All-nil IsWrittenInstance)
instances_written (Both name made params gives) is =
    All-cons IsWrittenInstance (record { name = name; made = made; params = params }) [] (fil_segment name is.0, All-from_recursion IsWritten params is.1.1.0) (All-nil IsWrittenInstance)
instances_written (Call name inst gives) is = All-nil IsWrittenInstance
instances_written (Connect output value) is = All-nil IsWrittenInstance

module _ (comps : Design) (design : calyx.Design) (lowers : Lowers comps design) (written : DesignIsWritten comps) (n : ℕ) (c : Component) (low : calyx.Component) (here : slice_get comps n ≡ Some c) (at_low : slice_get design n ≡ Some low) where
  keeps : KeepsComponent comps design n c low
  keeps = lowers.components n c low here at_low

  is : ComponentIsWritten c
  is = All-contains ComponentIsWritten comps c (All-from_recursion ComponentIsWritten comps written.1) (Contains-at comps n c here)

  -- ---- cells

  abbrev instances : List Instance
  instances = (whole_scope (take n comps) c).instances

  all_written : All IsWrittenInstance instances
  all_written =
      All-flat IsWrittenInstance instances_at c.body
      (All-weaker StatementIsWritten (λ (s : Statement). All IsWrittenInstance (instances_at s)) instances_written c.body (All-from_recursion StatementIsWritten c.body is.body))

  cell_written : (cell : CellDef) → Contains low.cells cell → IsWrittenCell cell
  cell_written cell has = elim (keeps.cells.only cell has) [
    | inl of_instance ↦ (let i = from_map instance_cell instances cell of_instance in subst IsWrittenCell i.2 (All-contains IsWrittenInstance instances i.0 all_written i.1))
    | inr (generated, made) ↦
        (register_segment cell.name generated, subst (λ (x : CellDef). All IsWritten x.params) (sym made) (All-cons IsWritten 1 [] (lit< tt) (All-nil IsWritten)))
  ]

  -- ---- assignments

  set_written : (a : Assignment) → Contains low.sets a → IsBitSet a
  set_written a has = (
    All-contains IsBitGuarded low.sets a keeps.guards has,
    literal_written a.src (widths_agree Unreserved design lowers.wired.rules.keeps n low at_low a (assignment_item low a has)).literal,
  )

  pub low_written : IsWrittenLow low
  low_written = record {
    name = subst IsSegment (sym keeps.name) (fil_segment c.name is.name);
    ins = subst (All IsWrittenPin) (sym keeps.ins)
        (All-append IsWrittenPin (map (λ (g : Interface). pin g.name g.width) c.interfaces) (map (λ (p : DataPort). pin p.name p.width) c.ins)
        (interfaces_written c.interfaces (All-from_recursion InterfaceIsWritten c.interfaces is.interfaces)) (ports_written c.ins (All-from_recursion PortIsWritten c.ins is.ins)));
    outs = subst (All IsWrittenPin) (sym keeps.outs) (ports_written c.outs (All-from_recursion PortIsWritten c.outs is.outs));
    cells = λ k d within. cell_written (get_or low.cells k d) (Contains-get_or low.cells k d within);
    sets = λ k d within. set_written (get_or low.sets k d) (Contains-get_or low.sets k d within);
  }
