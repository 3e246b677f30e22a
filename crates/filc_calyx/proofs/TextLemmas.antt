-- The texts of a netlist that is made of a Calyx design.
use Rattle.std.proofs.Common.{◌≡◌, ℕ, Result, Ok, Err, Vec, Global, subst, sym}
use Rattle.std.specs.Prelude.{IfOk}
use Rattle.hw_bits.specs.declared.memory.Memory.{Memory}
use Rattle.net_core.specs.Netlist.{Netlist}
use Rattle.net_core.specs.declared.net.Net.{Net}
use Rattle.net_text.specs.Layout.{net_text}
use Rattle.net_text.specs.Names.{HasText}
use Rattle.ver_print.specs.Verilog.{verilog_text}
use Rattle.cal_ast.specs.Tree.{Design}
use Rattle.filc_load.specs.declared.net_file.Built.{Built}
use Rattle.filc_calyx.specs.Made.{IsMadeOf, IsNetlistFor, IsVerilogOf}

-- the text of the netlist
pub printed_net : (design : Design) (net : Netlist) (result : Result (Vec ℕ Global) Memory) → IsNetlistFor design net → HasText net → IfOk result (λ (text : Vec ℕ Global). text.items ≡ net_text net) → IfOk result (λ (text : Vec ℕ Global). IsMadeOf design text.items)
printed_net design net (Ok text) is_for has is = (net, record { is_for = is_for; spells = (has, is) })
printed_net design net (Err why) is_for has is = tt

-- the same of its Verilog
pub printed_verilog : (design : Design) (net : Netlist) (result : Result (Vec ℕ Global) Memory) → IsNetlistFor design net → HasText net → IfOk result (λ (text : Vec ℕ Global). text.items ≡ verilog_text net) → IfOk result (λ (text : Vec ℕ Global). IsVerilogOf design text.items)
printed_verilog design net (Ok text) is_for written is = record { net = net; is_for = is_for; written = written; text = is }
printed_verilog design net (Err why) is_for written is = tt

-- what holds of the netlist holds of it once it is ready
pub of_ready : (claim : Net → Type 0) (net : Net) (result : Result Built Memory) → claim net → IfOk result (λ (built : Built). built.net ≡ net) → IfOk result (λ (built : Built). claim built.net)
of_ready claim net (Ok built) holds is = subst claim (sym is) holds
of_ready claim net (Err why) holds is = tt
