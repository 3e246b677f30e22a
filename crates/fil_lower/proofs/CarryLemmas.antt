-- Each run of a lowered design whose inputs carry a legal list has no Conflict, and carries the list at every path.
use Rattle.std.proofs.Common.{◌≡◌, ℕ, ◌<◌, ◌≤◌, true, List, [], length, take, slice_get, Option, Some, sym, ap, subst, ◌∙◌, inl, inr, arith}
use Rattle.std.specs.Prelude.{Contains}
use Rattle.std.proofs.lemmas.Bool.{false≢true}
use Rattle.hw_names.specs.Name.{Path, Text, full_name, port_at}
use Rattle.hw_prims.specs.Table.{pin_names}
use Rattle.hw_prims.specs.Timed.{Behaviour, CarriesInputs, AreLegalTransactions, Transaction}
use Rattle.net_core.specs.Circuit.{Drive, HasConflict}
use Rattle.cal_ast.proofs.LocalLemmas.{drives_are_local}
use Rattle.cal_ast.proofs.PlainLemmas.{plain_writable}
use Rattle.cal_ast.proofs.SideLemmas.{destination_pin}
use Rattle.cal_ast.specs.CalRun.{bare, cal_circuit, values_for}
use Rattle.cal_ast.specs.Instances.{component_at}
use Rattle.cal_ast.specs.Plain.{IsPlainPort}
use Rattle.cal_ast.specs.Ports.{inputs_in, is_bare}
use Rattle.cal_ast.specs.Sides.{IsDestination}
use Rattle.cal_ast.specs.Tree as calyx
use Rattle.fil_ast.specs.Behaviours.{IsGiven, component_behaviour}
use Rattle.fil_ast.specs.Signature.{component_signature}
use Rattle.fil_ast.specs.Tree.{Component}
use Rattle.fil_promise.specs.Refines.{CarriesList, GiveInputs}
use Rattle.fil_share.proofs.ListLemmas.{Contains-at}
use Rattle.fil_lower.specs.inside.LoweredDesign.{CarriesAll, IsLoweredDesign}
use Rattle.fil_lower.specs.inside.Lowering.{lowered_sets, lowering_with}
use Rattle.fil_lower.specs.inside.LoweringLaws.{LoweringsArePlain, LoweringsCarry}
use Rattle.fil_lower.proofs.BackLemmas.{stands_back, stands_given}
use Rattle.fil_lower.proofs.DesignLemmas.{every_path}
use Rattle.fil_lower.proofs.FewLemmas.{few_values}
use Rattle.fil_lower.proofs.LoweredParts.{LoweredPair, TopRun, comp_of}
use Rattle.fil_lower.proofs.PartLemmas.{comp_at, own_pins}
use Rattle.fil_lower.proofs.PinLemmas.{HasPins}
use Rattle.fil_lower.proofs.StandLemmas.{is_lowered_design, standing_of}
use Rattle.fil_lower.proofs.TimedAsLemmas.{place_of}

module _ (pair : LoweredPair) (from_top : TopRun pair) (c : Component) (here : slice_get pair.comps from_top.number ≡ Some c)
    (txs : List Transaction) (legal : AreLegalTransactions (component_behaviour (take from_top.number pair.comps) c).sig txs) (give : GiveInputs (component_behaviour (take from_top.number pair.comps) c) from_top.asked from_top.inputs txs) where
  open pair use {comps, rules, plain, design, lowered, plain_design}
  open from_top use {number, top, at_top, asked, inputs, loads, height, trace, run}

  abbrev behaviour : Behaviour
  behaviour = component_behaviour (take number comps) c

  within : height ≤ asked
  within = elim run.ends [ inl all ↦ omega (arith, all) | inr fewer ↦ (let less = fewer.0 in omega (arith, less)) ]

  -- a row has at the top's inputs what the run is given
  top_pins : HasPins behaviour.sig (component_signature c) (pin_names (inputs_in top))
  top_pins = own_pins pair number c top here at_top

  carried : (r : ℕ) → r < height → CarriesInputs behaviour.sig (full_name []) (trace r) txs r
  carried r below =
      let given = (run.rows r below).given in
      let g = give r (let all = within in omega (arith, all, below)) in
      record {
        values = λ tx has p has_p covers. given p.name (top_pins.data_pin p has_p) ∙ g.values tx has p has_p covers;
        starts = λ n e go at is_go.
            let same = given go (top_pins.go_pin n e go at is_go) in
            let s = g.starts n e go at is_go in
            (λ on. s.0 (sym same ∙ on), λ tx. same ∙ s.1 tx);
      }

  shows : IsLoweredDesign comps number height trace
  shows = is_lowered_design pair from_top

  carries : (path : Path) (b : Behaviour) (given : List Transaction) → IsGiven comps b given number txs path → CarriesAll b (full_name path) height trace given
  carries path b given is = every_path comps rules number height trace shows c here txs legal carried b given path is

  -- ---- no Conflict

  bare_all : (d : calyx.Component) → Contains design d → is_bare d ≡ true
  bare_all d has =
      let place = place_of design d has in
      let e = comp_at pair place.0 d place.1 in
      ap is_bare (lowered.components place.0 e.0 d e.1 place.1).is

  -- what drives a port of a component, at the path of the component
  few_at : (path : Path) (d : calyx.Component) → component_at design top path ≡ Some d → (cell : Option Text) (pin : Text) → IsDestination design d (record { cell = cell; pin = pin }) → (r : ℕ) → r < height →
      length (values_for path (port_at path cell pin) (trace r) d.sets) < 2
  few_at path d at cell pin sink r below =
      let s = stands_back pair number top at_top path d at in
      let e = comp_at pair s.0 d s.2 in
      let to = lowered.components s.0 e.0 d e.1 s.2 in
      let given = stands_given pair number s.0 path e.0 txs s.1 e.1 in
      let all = carries path (component_behaviour (take s.0 comps) e.0) given.0 given.1 in
      let comp = comp_of pair s.0 e.0 d e.1 s.2 in
      let standing = standing_of pair from_top s.0 e.0 d e.1 s.2 path at in
      let port : IsPlainPort (record { cell = cell; pin = pin }) = plain_writable design d plain_design (Contains-at design s.0 d s.2) cell pin (destination_pin design d cell pin sink) in
      let sink_low = subst (λ (x : calyx.Component). IsDestination design x (record { cell = cell; pin = pin })) to.is sink in
      let few = few_values comp standing given.0 all.legal r below
      (λ q before. (all.inputs q (omega (arith, before, below))).starts) cell pin sink_low in
      let local = drives_are_local path (trace r) (record { cell = cell; pin = pin }) (lowered_sets (lowering_with (take s.0 comps) e.0 to.registers)) port standing.plain_sets in
      subst (λ (x : calyx.Component). length (values_for path (port_at path cell pin) (trace r) x.sets) < 2) (sym to.is) (subst (λ (vs : List ℕ). length vs < 2) (sym local) few)

  all_bare : (path : Path) (d : calyx.Component) → component_at design top path ≡ Some d → is_bare d ≡ true
  all_bare path d at = let s = stands_back pair number top at_top path d at in bare_all d (Contains-at design s.0 d s.2)

  clean : (r : ℕ) (port : Text) → r < height → HasConflict (cal_circuit design top bare) r (trace r) port → ⊥
  clean r port below conflict =
      elim conflict.sink [
        | inl a ↦
            (let few = few_at a.path a.c a.at a.cell a.pin a.sink r below in
            let driven : conflict.drive r (trace r) ≡ values_for a.path (port_at a.path a.cell a.pin) (trace r) a.c.sets =
            ap (λ (d : Drive). d r (trace r)) a.drives ∙ ap (λ (x : Text). values_for a.path x (trace r) a.c.sets) (sym a.named) in
            let clash = subst (λ (vs : List ℕ). 2 ≤ length vs) driven conflict.clash in
            omega (arith, few, clash))
        | inr b ↦ false≢true (sym b.control ∙ all_bare b.path b.c b.at)
      ]

  whole : height ≡ asked
  whole = elim run.ends [ inl all ↦ all | inr fewer ↦ (let last = fewer.1.1 in absurd (clean fewer.1.0 fewer.1.2 (omega (arith, last)) fewer.1.3)) ]

  pub carries_list : CarriesList comps number (cal_circuit design top bare) txs asked height trace
  carries_list = record {
    whole = whole;
    clean = clean;
    legal = λ path b given is. (carries path b given is).legal;
    carries = λ path b given is r below. let all = carries path b given is in (all.inputs r below, all.outputs r below);
  }

pub lowerings_carry_by : LoweringsArePlain → LoweringsCarry
lowerings_carry_by are_plain comps design rules plain lowered number c low here at_low txs legal own asked inputs loads height trace run give =
    carries_list (record { comps = comps; rules = rules; plain = plain; design = design; lowered = lowered; plain_design = are_plain comps design rules plain lowered })
    (record { number = number; top = low; at_top = at_low; asked = asked; inputs = inputs; loads = loads; height = height; trace = trace; run = run }) c here txs legal give
