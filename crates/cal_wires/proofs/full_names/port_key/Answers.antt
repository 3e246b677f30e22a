use Rattle.std.proofs.Common.{◌≡◌, ◌++◌, [], ◌∷◌, Bor, Option, option_map, append_assoc, ap, sym, ◌∙◌}
use Rattle.hw_names.specs.Name.{Text, dot}
use Rattle.cal_ast.specs.Tree.{port_of}
use Rattle.cal_wires.specs.Nodes.{APort, key_of, marked}
use Rattle.cal_wires.specs.declared.full_names.TheConstants.{BYTE, END}
use Rattle.cal_wires.proofs.FullNameLemmas.{cell_port_key}
use Rattle.cal_wires.proofs.full_names.port_key.Goals as goal

-- the key of a port of this name, of the component or of a cell
abbrev key_at : Text → Option (Bor Text) → Text
key_at pin cell = key_of (APort (record { cell = option_map (λ (t : Bor Text). t.now) cell; pin = pin }))

cell_made : (k0 k1 k2 k3 k4 k5 k6 cell pin : Text) → k0 ≡ [] → k1 ≡ k0 ++ marked cell → k2 ≡ k1 ++ marked (dot ∷ []) → k3 ≡ k2 ++ marked pin → k4 ≡ k3 ++ END ∷ [] → k5 ≡ k4 ++ BYTE ∷ [] → k6 ≡ k5 ++ cell
    → k6 ≡ key_of (APort (port_of cell pin))
cell_made k0 k1 k2 k3 k4 k5 k6 cell pin e0 e1 e2 e3 e4 e5 e6 =
    let first : k1 ≡ marked cell = e1 ∙ ap (λ (l : Text). l ++ marked cell) e0 in
    let second : k2 ≡ marked cell ++ marked (dot ∷ []) = e2 ∙ ap (λ (l : Text). l ++ marked (dot ∷ [])) first in
    let third : k3 ≡ (marked cell ++ marked (dot ∷ [])) ++ marked pin = e3 ∙ ap (λ (l : Text). l ++ marked pin) second in
    let fourth : k4 ≡ ((marked cell ++ marked (dot ∷ [])) ++ marked pin) ++ END ∷ [] = e4 ∙ ap (λ (l : Text). l ++ END ∷ []) third in
    e6
    ∙ ap (λ (l : Text). l ++ cell) (e5 ∙ ap (λ (l : Text). l ++ BYTE ∷ []) fourth)
    ∙ append_assoc (((marked cell ++ marked (dot ∷ [])) ++ marked pin) ++ END ∷ []) (BYTE ∷ []) cell
    ∙ cell_port_key cell pin

pub returns : goal.returns
returns c =
    let pin = c.args.port.pin.now in
    cell_made c.new-key.result.items _ _ _ _ _ _ c.in-Some.cell.now pin c.new-key.ensures.items c.in_ok-add_marked-2.ensures c.in_ok-add_marked-3.ensures c.in_ok-add_marked-4.ensures c.in_ok-push-2.ensures.items c.in_ok-push-3.ensures.items
    c.in_ok-extend_from_slice.ensures.items
    ∙ ap (key_at pin) (sym c.in-Some.is)
