-- In a design that keeps the rules and the limits, the inputs of each instance are good.
use Rattle.std.proofs.Common.{◌≡◌, ℕ, ◌<◌, ◌≤◌, Bool, true, false, List, [], ◌∷◌, length, filter, take, get_or, All, Option, Some, None, option_map, refl, ap, subst, arith}
use Rattle.std.specs.Option.{option_and_then}
use Rattle.std.specs.Prelude.{if◌then◌else◌}
use Rattle.std.proofs.lemmas.List.Elements.{All-contains, All-take}
use Rattle.std.proofs.lemmas.Option.{none-some, option_and_then_some, same_Some, slice_get-get_or}
use Rattle.hw_names.specs.Name.{Text}
use Rattle.hw_prims.specs.Filament.{is_data_pin}
use Rattle.hw_prims.specs.Table.{inputs_of}
use Rattle.hw_prims.specs.declared.prim.Primitive.{Primitive}
use Rattle.fil_ast.specs.Items.{TheSignature}
use Rattle.fil_ast.specs.Limits.{HasSmallOffsets}
use Rattle.fil_ast.specs.Primitives.{filament_primitive, input_port, is_filament_primitive, primitive_signature, signature_by, timing_of}
use Rattle.fil_ast.specs.Rules.{F1, FilRules}
use Rattle.fil_ast.specs.Scope.{Scope, bare_signature, component_named, instance_named, signature_in}
use Rattle.fil_ast.specs.Signature.{Signature, component_signature, event_number, sig_port}
use Rattle.fil_ast.specs.Tree.{Component, DataPort, Design, component_tree, design_of, port_tree}
use Rattle.fil_ast.specs.Typing.{IsInterval}
use Rattle.fil_ast.specs.declared.tree.FilDesign.{FilDesign}
use Rattle.hw_limits.specs.declared.limits.TheConstants.{MOST_OFFSET}
use Rattle.fil_share.proofs.CalleeLemmas.{named_among}
use Rattle.fil_share.specs.Instances.{signature_of}
use Rattle.fil_sig.proofs.ListLemmas.{All-mapped}
use Rattle.fil_lower.specs.inside.Parts.{IsGoodPort}
use Rattle.fil_lower.specs.inside.Place.{HasGoodPorts}

abbrev IsSmallPort : DataPort → Type 0
IsSmallPort p = p.to.plus ≤ MOST_OFFSET

-- the inputs of a component are in intervals that end early
pub record IsGood (c : Component) : Type 0 where
  pub shape : All IsInterval c.ins
  pub small : All IsSmallPort c.ins

good_ports : (c : Component) → IsGood c → All IsGoodPort (component_signature c).ins
good_ports c good =
    All-mapped IsGoodPort (sig_port c.events) c.ins
    (λ k d within. let shape = good.shape k d within in record { same_event = ap (event_number c.events) shape.0; ordered = shape.1; small = good.small k d within })

good_primitive : (name : Text) (o : Option Primitive) (sig : Signature) → option_map (signature_by (timing_of name)) o ≡ Some sig → All IsGoodPort sig.ins
good_primitive name None sig signed = absurd (none-some sig signed)
good_primitive name (Some prim) sig signed =
    let P : Signature → Type 0 = λ s. All IsGoodPort s.ins in
    subst P (same_Some (signature_by (timing_of name) prim) sig signed)
    (All-mapped IsGoodPort input_port (filter is_data_pin (inputs_of prim)) (λ k d within. record { same_event = refl; ordered = omega arith; small = omega arith }))

module _ (earlier : Design) (good : All IsGood earlier) where
  good_component : (params : List ℕ) (c : Component) (sig : Signature) → IsGood c → bare_signature params c ≡ Some sig → All IsGoodPort sig.ins
  good_component [] c sig is signed =
      let P : Signature → Type 0 = λ s. All IsGoodPort s.ins in
      subst P (same_Some (component_signature c) sig signed) (good_ports c is)
  good_component (p ∷ params) c sig is signed = absurd (none-some sig signed)

  good_signature : (made : Text) (params : List ℕ) (sig : Signature) → signature_in earlier made params ≡ Some sig → All IsGoodPort sig.ins
  good_signature made params sig signed = by (is_filament_primitive made) signed
    where
      by : (b : Bool) → (if b then primitive_signature made params else option_and_then (bare_signature params) (component_named earlier made)) ≡ Some sig → All IsGoodPort sig.ins
      by true is = good_primitive made (filament_primitive made params) sig is
      by false is =
          option_and_then_some (bare_signature params) (component_named earlier made) sig is
          (λ c found bare. good_component params c sig (All-contains IsGood earlier c good (named_among made earlier c found)) bare)

-- so it is for each instance of a component
pub good_instances : (scope : Scope) → All IsGood scope.comps → HasGoodPorts scope
good_instances scope good inst sig signed =
    option_and_then_some (signature_of scope.comps) (instance_named scope.instances inst) sig signed
    (λ i found is. good_signature scope.comps good i.made i.params sig is)

pub all_good : (d : FilDesign) → HasSmallOffsets d → FilRules (design_of d) → All IsGood (design_of d)
all_good d small rules =
    let shapes : (k : ℕ) (c : Component) → k < length (design_of d) → All IsInterval (get_or (design_of d) k c).ins =
    λ k c within. (rules.keeps k (get_or (design_of d) k c) (slice_get-get_or (design_of d) k c within) 0 TheSignature refl 4 F1 (omega arith)).ins in
    let smalls : All (λ (c : Component). All IsSmallPort c.ins) (design_of d) =
    All-mapped (λ (c : Component). All IsSmallPort c.ins) (component_tree d.names) d.comps.items
    (λ k x within. All-mapped IsSmallPort (port_tree d.names) (get_or d.comps.items k x).ins.items (λ j p below. ((small k x within).ins j p below).1)) in
    λ k c within. record { shape = shapes k c within; small = smalls k c within }

pub good_before : (d : FilDesign) (n : ℕ) → HasSmallOffsets d → FilRules (design_of d) → All IsGood (take n (design_of d))
good_before d n small rules = All-take IsGood n (design_of d) (all_good d small rules)
