-- The texts of a netlist that a design was lowered to.
use Rattle.std.proofs.Common.{◌≡◌, ℕ, Result, Ok, Err, Vec, Global}
use Rattle.std.specs.Prelude.{IfOk}
use Rattle.hw_bits.specs.declared.memory.Memory.{Memory}
use Rattle.net_core.specs.Netlist.{Netlist}
use Rattle.net_guard.specs.Folded.{HasFoldedGuards}
use Rattle.net_text.specs.Layout.{net_text}
use Rattle.net_text.specs.Names.{HasText}
use Rattle.ver_print.specs.Verilog.{verilog_text}
use Rattle.fil_ast.specs.Tree.{Design}
use Rattle.fil_promise.specs.Refines.{Refines}
use Rattle.filc_run.specs.Traced.{IsMadeOf}
use Rattle.filc_run.specs.Verilog.{IsVerilogOf}

-- the text of a netlist that keeps what the design promises
pub printed_net : (design : Design) (net : Netlist) (result : Result (Vec ℕ Global) Memory) → Refines design net → HasFoldedGuards net → HasText net → IfOk result (λ (text : Vec ℕ Global). text.items ≡ net_text net) → IfOk result (λ (text : Vec ℕ Global). IsMadeOf design text.items)
printed_net design net (Ok text) refines folded has is = (net, record { refines = refines; folded = folded; spells = (has, is) })
printed_net design net (Err why) refines folded has is = tt

-- the same of its Verilog
pub printed_verilog : (design : Design) (net : Netlist) (result : Result (Vec ℕ Global) Memory) → Refines design net → HasFoldedGuards net → HasText net → IfOk result (λ (text : Vec ℕ Global). text.items ≡ verilog_text net) → IfOk result (λ (text : Vec ℕ Global). IsVerilogOf design text.items)
printed_verilog design net (Ok text) refines folded written is = record { net = net; refines = refines; folded = folded; written = written; text = is }
printed_verilog design net (Err why) refines folded written is = tt
