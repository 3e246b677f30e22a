use Rattle.std.proofs.Common.{◌≡◌, ◌∙◌, ◌+◌, ℕ, Result, Ok, Err, length, arith}
use Rattle.std.specs.Prelude.{IfOk}
use Rattle.std.proofs.lemmas.List.{length-map}
use Rattle.net_core.specs.Netlist.{pin_of}
use Rattle.net_row.specs.inside.Compiling.{net_of}
use Rattle.net_row.specs.Kinds.{kept_in}
use Rattle.net_row.proofs.compile.first_slot.Goals as goal

if_slot : {E : Type 0} (r : Result ℕ E) (a b : ℕ) → a ≡ b → IfOk r (λ slot. slot ≡ a) → IfOk r (λ slot. slot ≡ b)
if_slot (Ok slot) a b e is = is ∙ e
if_slot (Err x) a b e is = is

pub returns : goal.returns
returns c =
    let numbered = c.args.numbered.now in
    let ins = numbered.net.now.ins in
    if_slot c.slot_after.result _ (kept_in numbered.cells.now + length (net_of numbered).ins) (omega (arith, c.requires.kept, c.len.ensures, ins.ok.0, length-map ins.items (pin_of numbered.net.now.names))) c.slot_after.ensures
