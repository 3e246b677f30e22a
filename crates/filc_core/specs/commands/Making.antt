-- `net F`, `lower F` and `verilog F`: a text that is made of the design of a file, and printed. This project's.
use Rattle.std.specs.Prelude.{◌≡◌, ◌⊎◌}
use Rattle.hw_names.specs.Name.{Text}
use Rattle.net_core.specs.Netlist.{Netlist}
use Rattle.ver_print.specs.Verilog.{verilog_text}
use Rattle.cal_ast.specs.Tree as calyx
use Rattle.cal_net.specs.Lowers as calyx_lowers
use Rattle.fil_ast.specs.Tree as filament
use Rattle.fil_cal.specs.LoweredText as filament_lowers
use Rattle.filc_calyx.specs.Made as calyx_made
use Rattle.filc_load.specs.Source.{FileGivesCal, FileGivesFil, FileGivesNet, IsAccepted, IsRefusedForSource}
use Rattle.filc_run.specs.Traced as filament_made
use Rattle.filc_run.specs.Verilog as filament_verilog
use Rattle.filc_stop.specs.Outcome.{Contents, Outcome, done_with}
use Rattle.filc_stop.specs.Stops.{IsOfSource, IsWritingStop}
use Rattle.filc_stop.specs.declared.language.Language.{Language}
use Rattle.filc_stop.specs.declared.language.Language.TheVariants.{Netlists, Filament, Calyx}
use Rattle.filc_core.specs.Arguments.{Arguments}
use Rattle.filc_core.specs.Command.{Command, of_design}
use Rattle.filc_core.specs.declared.commands.making.Product.{Product}
use Rattle.filc_core.specs.declared.commands.making.Product.TheVariants.{Net, Lower, Verilog}

-- what may be made: of a netlist its Verilog, and nothing else
abbrev pub IsMadeOfNetlist : Netlist → Text → Type 0
IsMadeOfNetlist net made = made ≡ verilog_text net

abbrev pub IsMadeOfFilament : Product → filament.Design → Text → Type 0
IsMadeOfFilament Net design made = filament_made.IsMadeOf design made
IsMadeOfFilament Lower design made = filament_lowers.IsLoweredText design made
IsMadeOfFilament Verilog design made = filament_verilog.IsVerilogOf design made

abbrev pub IsMadeOfCalyx : Product → calyx.Design → Text → Type 0
IsMadeOfCalyx Net design made = calyx_made.IsMadeOf design made
IsMadeOfCalyx Lower design made = calyx_lowers.IsLoweredText design made
IsMadeOfCalyx Verilog design made = calyx_made.IsVerilogOf design made

-- the text is one that may be made of the design that a file gives
pub record IsMadeFrom {D : Type 0} (Gives : D → Type 0) (IsMade : D → Text → Type 0) (made : Text) : Type 0 where
  pub design : D
  pub gives : Gives design
  pub is_made : IsMade design made

-- the same, by the file's language
abbrev pub IsMadeIn : Language → Product → Contents → Text → Text → Type 0
IsMadeIn Netlists product contents file made = IsMadeFrom (FileGivesNet contents file) IsMadeOfNetlist made
IsMadeIn Filament product contents file made = IsMadeFrom (FileGivesFil contents file) (IsMadeOfFilament product) made
IsMadeIn Calyx product contents file made = IsMadeFrom (FileGivesCal contents file) (IsMadeOfCalyx product) made

-- a text that may be made is printed
pub record PrintsMade (IsMade : Text → Type 0) (made : Text) (o : Outcome) : Type 0 where
  pub is_made : IsMade made
  pub outcome : o ≡ done_with made

abbrev pub making : Product → Arguments → Command
making product a =
    record {
      files = of_design a.language a;
      comes = λ contents made o. IsRefusedForSource contents a.language a.design o ⊎ PrintsMade (IsMadeIn a.language product contents a.design) made o;
      makes = λ contents. IsMadeIn a.language product contents a.design;
      stops = λ why. IsOfSource why ⊎ IsWritingStop why;
      granted = λ contents. IsAccepted contents a.language a.design;
    }
