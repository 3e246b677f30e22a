-- No run loads or prints a cell of a netlist that keeps what a Filament design promises.
use Rattle.std.proofs.Common.{◌≡◌, ◌⊎◌, ℕ, false, get_or, ap, inl, inr}
use Rattle.std.proofs.lemmas.List.Elements.{Contains-get_or}
use Rattle.net_core.specs.Netlist.{CellLine}
use Rattle.fil_ast.specs.Tree.{Design}
use Rattle.fil_promise.specs.Refines.{IsInstanceCell, IsMadeByLowering}
use Rattle.fil_net.specs.Laws.{RefinedNetsShowNoCell}

hidden : (comps : Design) (number : ℕ) (line : CellLine) → IsInstanceCell comps number line ⊎ IsMadeByLowering line → line.shown ≡ false
hidden comps number line (inl of) = ap (λ (l : CellLine). l.shown) of.5
hidden comps number line (inr made) = made.not_shown

pub none_shown : RefinedNetsShowNoCell
none_shown comps n r k d within = hidden comps r.number (get_or n.cells k d) (r.cells.only (get_or n.cells k d) (Contains-get_or n.cells k d within))
