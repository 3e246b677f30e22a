-- The names of lowered components are plain.
use Rattle.std.proofs.Common.{◌≡◌, ℕ, ◌++◌, get_or, slice_get, All, Some, sym, subst, ◌∙◌, arith}
use Rattle.std.specs.Prelude.{Contains}
use Rattle.std.proofs.lemmas.List.Elements.{All-contains, Contains-get_or}
use Rattle.std.proofs.lemmas.Option.{same_Some, slice_get-get_or}
use Rattle.hw_names.specs.Name.{Text, IsPlain}
use Rattle.hw_prims.specs.Table.{Pin}
use Rattle.cal_ast.specs.Plain as calyx_plain
use Rattle.cal_ast.specs.Plain.{IsPlainCell, IsPlainPin, IsPlainPort}
use Rattle.cal_ast.specs.Tree as calyx
use Rattle.cal_ast.specs.Tree.{Assignment, CellDef, PortName, own, port_of}
use Rattle.fil_ast.specs.Plain.{HasPlainTree, IsPlainComponent, IsPlainInstance}
use Rattle.fil_ast.specs.Rules.{FilRules}
use Rattle.fil_ast.specs.Scope.{Instance}
use Rattle.fil_ast.specs.Tree.{Component, Design}
use Rattle.fil_promise.specs.Refines.{IsGenerated}
use Rattle.fil_promise.specs.Refines as wires
use Rattle.fil_share.proofs.ListLemmas.{All-left, All-right, Contains-at}
use Rattle.fil_lower.specs.inside.Lowering.{IsLoweringOf, Lowering, all_registers, lowered_component}
use Rattle.fil_lower.specs.inside.LoweringLaws.{LoweringsArePlain}
use Rattle.fil_lower.proofs.LoweredLemmas.{IsLowered, IsCellOf, OfInstance, OfRegister, cell_is, lowered_at, lowering_at}
use Rattle.fil_lower.proofs.SignaturePinLemmas.{component_plain}
use Rattle.fil_lower.proofs.UseLemmas.{some_at}

abbrev pub HasPlainName : Pin → Type 0
HasPlainName p = IsPlain p.name

module _ (comps : Design) (rules : FilRules comps) (plain : HasPlainTree comps) (design : calyx.Design) (lowered : IsLoweringOf comps design) where
  plain_at : (n : ℕ) (c : Component) → slice_get comps n ≡ Some c → IsPlainComponent c
  plain_at n c here = All-contains IsPlainComponent comps c plain (Contains-at comps n c here)

  pub own_pins_plain : (n : ℕ) (c : Component) → slice_get comps n ≡ Some c → All HasPlainName (wires.inputs_of c ++ wires.outputs_of c)
  own_pins_plain n c here = component_plain c (plain_at n c here)

  module _ (n : ℕ) (c : Component) (here : slice_get comps n ≡ Some c) where
    abbrev lw : IsLowered comps design n c
    lw = lowered_at comps design lowered n c here

    abbrev l : Lowering
    l = lowering_at comps design n c lw

    abbrev low : calyx.Component
    low = lowered_component l

    instance_plain : (i : Instance) → Contains l.scope.instances i → IsPlain i.name
    instance_plain i has = All-contains IsPlainInstance l.scope.instances i (plain_at n c here).instances has

    register_plain : (name : Text) → Contains (all_registers l) name → IsPlain name
    register_plain name has = (All-contains (λ (name : Text). IsGenerated name × IsPlain name) (all_registers l) name lw.new.generated has).1

    cell_plain : (cell : CellDef) → IsCellOf comps rules design lowered n c here lw.registers lw.new cell → IsPlainCell cell
    cell_plain cell (OfInstance i has) = instance_plain i has
    cell_plain cell (OfRegister name has) = register_plain name has

    pub low_plain : calyx_plain.IsPlainComponent low
    low_plain = record {
      ins = All-left HasPlainName (wires.inputs_of c) (wires.outputs_of c) (own_pins_plain n c here);
      outs = All-right HasPlainName (wires.inputs_of c) (wires.outputs_of c) (own_pins_plain n c here);
      cells = λ k d within. cell_plain (get_or low.cells k d) (cell_is comps rules design lowered n c here lw.registers lw.new (get_or low.cells k d) (Contains-get_or low.cells k d within));
    }

pub plain_designs : LoweringsArePlain
plain_designs comps design rules plain lowered n d within =
    let c = some_at comps n (omega (arith, within, lowered.count)) in
    let lw = lowered_at comps design lowered n c.0 c.1 in
    let same : lowered_component (lowering_at comps design n c.0 lw) ≡ get_or design n d = same_Some _ (get_or design n d) (sym lw.there ∙ slice_get-get_or design n d within) in
    subst calyx_plain.IsPlainComponent same (low_plain comps rules plain design lowered n c.0 c.1)
