-- The list of the commands' laws.
use Rattle.filc_core.specs.declared.commands.making.Product.TheVariants.{Net, Lower, Verilog}
use Rattle.filc_core.specs.declared.name.CommandName.{CommandName}
use Rattle.filc_core.specs.declared.name.CommandName.TheVariants as name
use Rattle.filc_core.proofs.commands
use Rattle.filc_core.proofs.CommandLaws.{CommandLaws}
use Rattle.filc_core.specs.Arguments.{Arguments}
use Rattle.filc_core.specs.Request.{Request, command_of, entry_of}

laws_by_name : (command : CommandName) (a : Arguments) → CommandLaws ((entry_of command).command a)
laws_by_name name.Check = commands.CheckLaws.check_laws
laws_by_name name.Rows = commands.RowsLaws.rows_laws
laws_by_name name.SimNet = commands.NetRunLaws.sim_net_laws
laws_by_name name.TraceNet = commands.NetRunLaws.trace_net_laws
laws_by_name name.Flow = commands.TransactionsLaws.flow_laws
laws_by_name name.Timeline = commands.TransactionsLaws.timeline_laws
laws_by_name name.SimFil = commands.TransactionsLaws.sim_fil_laws
laws_by_name name.TraceFil = commands.TraceFilLaws.trace_fil_laws
laws_by_name name.SimCal = commands.CalRunLaws.sim_cal_laws
laws_by_name name.TraceCal = commands.CalRunLaws.trace_cal_laws
laws_by_name name.SchedCal = commands.CalRunLaws.sched_cal_laws
laws_by_name name.Soak = commands.SoakLaws.soak_laws
laws_by_name name.Net = commands.MakingLaws.making_laws Net
laws_by_name name.Lower = commands.MakingLaws.making_laws Lower
laws_by_name name.Verilog = commands.MakingLaws.making_laws Verilog

pub laws_of : (r : Request) → CommandLaws (command_of r)
laws_of r = laws_by_name r.command r.arguments
