-- The Verilog text of a netlist that a Filament design was lowered to. This project's.
use Rattle.std.specs.Prelude.{◌≡◌}
use Rattle.hw_names.specs.Name.{Text}
use Rattle.net_core.specs.Netlist.{Netlist}
use Rattle.net_guard.specs.Folded.{HasFoldedGuards}
use Rattle.net_text.specs.Names.{HasText}
use Rattle.ver_print.specs.Verilog.{verilog_text}
use Rattle.fil_ast.specs.Tree.{Design}
use Rattle.fil_promise.specs.Refines.{Refines}

-- the text is the Verilog of a netlist with folded guards that keeps what the design promises and has a text: its names are names of the netlist grammar
pub record IsVerilogOf (design : Design) (made : Text) : Type 0 where
  pub net : Netlist
  pub refines : Refines design net
  pub folded : HasFoldedGuards net
  pub written : HasText net
  pub text : made ≡ verilog_text net
