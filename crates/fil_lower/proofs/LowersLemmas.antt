-- A lowered design keeps what the Filament design promises.
use Rattle.std.proofs.Common.{◌≡◌, ◌⊎◌, ℕ, List, map, flat_map, take, slice_get, All, Contains, Some, refl, sym, ap, subst, inl, inr}
use Rattle.std.proofs.lemmas.List.Elements.{All-contains, Contains-append_left}
use Rattle.hw_names.specs.Name.{Text, IsPlain}
use Rattle.cal_ast.specs.Tree as calyx
use Rattle.cal_ast.specs.Tree.{CellDef}
use Rattle.fil_ast.specs.Plain.{HasPlainTree}
use Rattle.fil_ast.specs.Rules.{FilRules}
use Rattle.fil_ast.specs.Scope.{Instance}
use Rattle.fil_ast.specs.Tree.{Component, Design}
use Rattle.fil_ast.specs.Wires.{whole_scope}
use Rattle.fil_fsm.specs.Chain.{register}
use Rattle.fil_promise.specs.Refines.{IsGenerated}
use Rattle.fil_lower.specs.Lowers.{HasInstanceCells, IsBitGuarded, IsMadeByLowering, KeepsComponent, Lowers, instance_cell}
use Rattle.fil_lower.specs.inside.Lowering.{HasNewRegisters, IsLoweringOf, Registers, all_registers, lowered_component, lowering_with}
use Rattle.fil_lower.proofs.BitSetLemmas.{sets_ask}
use Rattle.fil_lower.proofs.CarryLemmas.{lowerings_carry_by}
use Rattle.fil_lower.proofs.LoopLemmas.{wired_designs}
use Rattle.fil_lower.proofs.LoweredLemmas.{IsCellOf, OfInstance, OfRegister, cell_is}
use Rattle.fil_lower.proofs.PlainLemmas.{plain_designs}
use Rattle.fil_lower.proofs.TimedAsLemmas.{contains_map}
use Rattle.fil_lower.proofs.WiredLemmas.{lowerings_have_wires}

module _ (comps : Design) (rules : FilRules comps) (design : calyx.Design) (lowered : IsLoweringOf comps design) where
  -- ---- cells

  module _ (n : ℕ) (c : Component) (here : slice_get comps n ≡ Some c) (registers : Registers) (new : HasNewRegisters (lowering_with (take n comps) c registers)) where
    abbrev instances : List Instance
    instances = (whole_scope (take n comps) c).instances

    cell_known : (cell : CellDef) → IsCellOf comps rules design lowered n c here registers new cell → Contains (map instance_cell instances) cell ⊎ IsMadeByLowering cell
    cell_known cell (OfInstance i has) = inl (contains_map instance_cell instances i has)
    cell_known cell (OfRegister name has) = inr ((All-contains (λ (x : Text). IsGenerated x × IsPlain x) (all_registers (lowering_with (take n comps) c registers)) name new.generated has).0, refl)

    cells_known : HasInstanceCells instances (lowered_component (lowering_with (take n comps) c registers)).cells
    cells_known = record {
      all = λ i has. Contains-append_left (map instance_cell instances) (flat_map (map register) registers) (instance_cell i) (contains_map instance_cell instances i has);
      only = λ cell has. cell_known cell (cell_is comps rules design lowered n c here registers new cell has);
    }

  -- ---- the design

  module _ (plain : HasPlainTree comps) where
    keeps : (n : ℕ) (c : Component) (low : calyx.Component) → slice_get comps n ≡ Some c → slice_get design n ≡ Some low → KeepsComponent comps design n c low
    keeps n c low here at_low =
        let to = lowered.components n c low here at_low in
        record {
          name = ap (λ (x : calyx.Component). x.name) to.is;
          ins = ap (λ (x : calyx.Component). x.ins) to.is;
          outs = ap (λ (x : calyx.Component). x.outs) to.is;
          cells = subst (λ (x : calyx.Component). HasInstanceCells (whole_scope (take n comps) c).instances x.cells) (sym to.is) (cells_known n c here to.registers to.new);
          guards = subst (λ (x : calyx.Component). All IsBitGuarded x.sets) (sym to.is) (sets_ask (take n comps) c to.registers);
          wires = lowerings_have_wires comps design rules plain lowered n low at_low;
          carries = lowerings_carry_by plain_designs comps design rules plain lowered n c low here at_low;
        }

    pub lowering_lowers : Lowers comps design
    lowering_lowers = record {
      count = lowered.count;
      components = keeps;
      wired = wired_designs comps design rules plain lowered;
      plain = plain_designs comps design rules plain lowered;
    }
