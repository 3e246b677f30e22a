-- The texts that are made of a Calyx design: that of its netlist, and the Verilog of one. This project's.
use Rattle.std.specs.Prelude.{◌≡◌}
use Rattle.hw_names.specs.Name.{Text}
use Rattle.net_core.specs.Netlist.{Netlist}
use Rattle.net_guard.specs.Folded.{HasFoldedGuards}
use Rattle.net_text.specs.Names.{HasText}
use Rattle.net_text.specs.Reading.{Spells}
use Rattle.ver_print.specs.Verilog.{verilog_text}
use Rattle.cal_ast.specs.Tree.{Design}
use Rattle.cal_net.specs.Refining.{RefinesTop}

-- a netlist with folded guards that shows in every run, at every port of the design, what the schedule of the design's top says
pub record IsNetlistFor (design : Design) (net : Netlist) : Type 0 where
  pub refines : RefinesTop design net
  pub folded : HasFoldedGuards net

-- the text spells such a netlist
pub record IsNetOf (design : Design) (net : Netlist) (made : Text) : Type 0 where
  pub is_for : IsNetlistFor design net
  pub spells : Spells made net

abbrev pub IsMadeOf : Design → Text → Type 0
IsMadeOf design made = (net : Netlist) × IsNetOf design net made

-- the text is the Verilog of such a netlist, which has a text: its names are names of the netlist grammar
pub record IsVerilogOf (design : Design) (made : Text) : Type 0 where
  pub net : Netlist
  pub is_for : IsNetlistFor design net
  pub written : HasText net
  pub text : made ≡ verilog_text net
