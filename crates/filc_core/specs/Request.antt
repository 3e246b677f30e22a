-- The list of commands, each with the words that ask for it, and what words ask for. This project's.
use Rattle.std.specs.Prelude.{List, codes}
use Rattle.hw_names.specs.Name.{Text}
use Rattle.filc_stop.specs.declared.language.Language.TheVariants.{Netlists, Filament, Calyx}
use Rattle.filc_core.specs.Arguments.{Arguments}
use Rattle.filc_core.specs.Command.{AskedFile, Command}
use Rattle.filc_core.specs.Shape.{Spells}
use Rattle.filc_core.specs.declared.name.CommandName.{CommandName}
use Rattle.filc_core.specs.declared.name.CommandName.TheVariants as name
use Rattle.filc_core.specs.declared.commands.making.Product.TheVariants.{Net, Lower, Verilog}
use Rattle.filc_core.specs.declared.shape.Designs.TheVariants.{All, Sources, In}
use Rattle.filc_core.specs.declared.shape.Shape.{Shape}
use Rattle.filc_core.specs.declared.shape.Shape.TheVariants.{Design, DesignAndStimulus, DesignAndCount, Count}
use Rattle.filc_core.specs.commands

-- an entry of the list: a command's word, what follows it, and the command itself
pub record Entry : Type 1 where
  pub word : Text
  pub shape : Shape
  pub command : Arguments → Command

abbrev pub entry_of : CommandName → Entry
entry_of name.Check = record { word = codes "check"; shape = Design All; command = commands.Check.check }
entry_of name.Rows = record { word = codes "rows"; shape = DesignAndCount (In Netlists); command = commands.Rows.rows }
entry_of name.SimNet = record { word = codes "sim"; shape = DesignAndStimulus (In Netlists); command = commands.SimNet.sim_net }
entry_of name.TraceNet = record { word = codes "trace"; shape = DesignAndStimulus (In Netlists); command = commands.TraceNet.trace_net }
entry_of name.Flow = record { word = codes "flow"; shape = DesignAndStimulus (In Filament); command = commands.Flow.flow }
entry_of name.Timeline = record { word = codes "timeline"; shape = DesignAndStimulus (In Filament); command = commands.Timeline.timeline }
entry_of name.SimFil = record { word = codes "sim"; shape = DesignAndStimulus (In Filament); command = commands.SimFil.sim_fil }
entry_of name.TraceFil = record { word = codes "trace"; shape = DesignAndStimulus (In Filament); command = commands.TraceFil.trace_fil }
entry_of name.SimCal = record { word = codes "sim"; shape = DesignAndStimulus (In Calyx); command = commands.SimCal.sim_cal }
entry_of name.TraceCal = record { word = codes "trace"; shape = DesignAndStimulus (In Calyx); command = commands.TraceCal.trace_cal }
entry_of name.SchedCal = record { word = codes "sched"; shape = DesignAndStimulus (In Calyx); command = commands.SchedCal.sched_cal }
entry_of name.Soak = record { word = codes "soak"; shape = Count; command = commands.Soak.soak }
entry_of name.Net = record { word = codes "net"; shape = Design Sources; command = commands.Making.making Net }
entry_of name.Lower = record { word = codes "lower"; shape = Design Sources; command = commands.Making.making Lower }
entry_of name.Verilog = record { word = codes "verilog"; shape = Design All; command = commands.Making.making Verilog }

abbrev pub word_of : CommandName → Text
word_of command = (entry_of command).word

abbrev pub shape_of : CommandName → Shape
shape_of command = (entry_of command).shape

-- ---- requests

-- a command, and what it is given
pub record Request : Type 0 where
  pub command : CommandName
  pub arguments : Arguments

abbrev pub command_of : Request → Command
command_of r = (entry_of r.command).command r.arguments

abbrev pub files_of : Request → List AskedFile
files_of r = (command_of r).files

-- the words ask for this, exactly
abbrev pub Asks : List Text → Request → Type 0
Asks words r = Spells words (word_of r.command) (shape_of r.command) r.arguments

-- the words ask for nothing: they are not well formed
abbrev pub AskNothing : List Text → Type 0
AskNothing words = (r : Request) → Asks words r → ⊥
