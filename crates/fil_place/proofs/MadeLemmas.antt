-- What a name with parameters means: a primitive, an earlier component or nothing.
use Rattle.std.proofs.Common.{◌≡◌, ℕ, ◌+◌, ◌≤◌, All, Bool, true, false, List, [], ◌∷◌, length, map, slice_get, Contains, Bor, Option, Some, None, Result, Ok, Err, option_map, is_some, inl, filter, ◌==◌, if◌then◌else◌, refl, sym, ap, subst, ◌∙◌, arith}
use Rattle.std.specs.Option.{option_and_then}
use Rattle.std.specs.Prelude.{IfOk}
use Rattle.std.specs.Prelude.{codes}
use Rattle.std.proofs.lemmas.Bool.Decides.{nat_tests}
use Rattle.std.proofs.lemmas.List.Elements.{All-cons, All-nil}
use Rattle.std.proofs.lemmas.Option.{same_Some, slice_get-map}
use Rattle.hw_bits.specs.declared.memory.Memory.{Memory}
use Rattle.hw_names.specs.Name.{Text, AreDistinct}
use Rattle.hw_prims.specs.Filament.{is_data_pin}
use Rattle.hw_prims.specs.Table.{inputs_of, outputs_of}
use Rattle.hw_prims.specs.declared.prim.Primitive.{Primitive}
use Rattle.hw_prims.specs.declared.prim.Primitive.TheVariants.{StdConst, StdWire, StdAdd, StdSub, StdAnd, StdOr, StdXor, StdNot, StdEq, StdNeq, StdLt, StdGt, StdLe, StdGe, StdLsh, StdRsh, StdSlice, StdPad, FilMux, FilSlice, FilConcat, StdReg, StdMemD1, StdMemD2, StdMultPipe, FilDelay, FilFastMult, FilSeqMult}
use Rattle.fil_ast.proofs.PrimitiveLemmas.{each_timing}
use Rattle.fil_ast.specs.Primitives.{Timing, event, filament_primitive, input_port, is_filament_primitive, output_port, register_timing, table_name, primitive_signature, signature_by, timing, timing_of}
use Rattle.fil_ast.specs.Scope.{bare_signature, component_named, signature_in}
use Rattle.fil_ast.specs.Signature.{Fixed, Gap, End, SigPort, Signature, component_signature}
use Rattle.fil_ast.specs.Tree.{Component, Design}
use Rattle.fil_sig.specs.Refusals.{IsCause, ByF2, ByF3, ByF5, TellsCause}
use Rattle.fil_sig.specs.declared.named.SigEnd.{SigEnd}
use Rattle.fil_sig.specs.declared.named.SigEnd.TheVariants.{Refused}
use Rattle.fil_sig.proofs.UseLemmas.{primitive_shape, primitive_signed, primitive_usable}
use Rattle.hw_limits.specs.declared.limits.TheConstants.{MOST_OFFSET}
use Rattle.fil_sig.proofs.ListLemmas.{All-mapped}
use Rattle.fil_place.specs.Callees.{HasGoodDelay, HasGoodTimes, HasSmallInterval}
use Rattle.fil_place.specs.Outputs.{output_names}
use Rattle.fil_place.specs.Tables.{ShowsEarlier, made_signature}
use Rattle.fil_place.specs.declared.earlier.Earlier.{Earlier}
use Rattle.fil_place.specs.declared.tables.Made.{Made}
use Rattle.fil_place.proofs.FindLemmas.{find_at_place, find_nowhere}

one_name : (name : Text) → AreDistinct (name ∷ [])
one_name name i j d before within = absurd (omega arith)

-- the data outputs of a primitive are one
outputs_differ : (t : Timing) (prim : Primitive) → AreDistinct (map (λ (p : SigPort). p.name) (map (output_port t) (filter is_data_pin (outputs_of prim))))
unfolding outputs_of
outputs_differ t (StdConst w v) = one_name _
outputs_differ t (StdWire w) = one_name _
outputs_differ t (StdAdd w) = one_name _
outputs_differ t (StdSub w) = one_name _
outputs_differ t (StdAnd w) = one_name _
outputs_differ t (StdOr w) = one_name _
outputs_differ t (StdXor w) = one_name _
outputs_differ t (StdNot w) = one_name _
outputs_differ t (StdEq w) = one_name _
outputs_differ t (StdNeq w) = one_name _
outputs_differ t (StdLt w) = one_name _
outputs_differ t (StdGt w) = one_name _
outputs_differ t (StdLe w) = one_name _
outputs_differ t (StdGe w) = one_name _
outputs_differ t (StdLsh w) = one_name _
outputs_differ t (StdRsh w) = one_name _
outputs_differ t (StdSlice i o) = one_name _
outputs_differ t (StdPad i o) = one_name _
outputs_differ t (FilMux w) = one_name _
outputs_differ t (FilSlice w hi lo) = one_name _
outputs_differ t (FilConcat a b) = one_name _
outputs_differ t (StdReg w) = one_name _
outputs_differ t (StdMemD1 w size idx) = one_name _
outputs_differ t (StdMemD2 w size0 size1 idx0 idx1) = one_name _
outputs_differ t (StdMultPipe w) = one_name _
outputs_differ t (FilDelay w) = one_name _
outputs_differ t (FilFastMult w) = one_name _
outputs_differ t (FilSeqMult w) = one_name _

-- so the outputs of a primitive's signature differ
pub primitive_outputs : (name : Text) (params : List ℕ) (sig : Signature) → primitive_signature name params ≡ Some sig → AreDistinct (output_names sig)
primitive_outputs name params sig is = by (filament_primitive name params) is
  where
    by : (o : Option Primitive) → option_map (signature_by (timing_of name)) o ≡ Some sig → AreDistinct (output_names sig)
    by None e = absurd (cc)
    by (Some prim) e =
        let D : Signature → Type 0 = λ s. AreDistinct (output_names s) in
        subst D (same_Some (signature_by (timing_of name) prim) sig e) (outputs_differ (timing_of name) prim)

-- the delays and offsets of a primitive are small
abbrev HasGoodTiming : Timing → Type 0
HasGoodTiming t = All HasGoodDelay t.events × (t.from.plus ≤ MOST_OFFSET) × (t.to.plus ≤ MOST_OFFSET)

one_event : (delay latency : ℕ) (go : Option Text) → 1 ≤ delay → delay ≤ MOST_OFFSET → latency + 1 ≤ MOST_OFFSET → HasGoodTiming (timing delay go latency)
one_event delay latency go some few soon =
    (All-cons HasGoodDelay (event (codes "G") (Fixed delay) go) [] (some, few) (All-nil HasGoodDelay), omega arith, soon)

register_good : HasGoodTiming register_timing
register_good =
    let second : All HasGoodDelay (event (codes "L") End None ∷ []) = All-cons HasGoodDelay (event (codes "L") End None) [] tt (All-nil HasGoodDelay) in
    (All-cons HasGoodDelay (event (codes "G") Gap (Some (codes "write_en"))) (event (codes "L") End None ∷ []) tt second, omega arith, omega arith)

timing_good : (name : Text) → HasGoodTiming (timing_of name)
timing_good name =
    each_timing HasGoodTiming register_good (one_event 3 2 (Some (codes "go")) (omega arith) (omega arith) (omega arith)) (one_event 1 2 None (omega arith) (omega arith) (omega arith))
    (one_event 1 1 None (omega arith) (omega arith) (omega arith)) (one_event 1 0 None (omega arith) (omega arith) (omega arith)) name

times_good : (t : Timing) (prim : Primitive) → HasGoodTiming t → HasGoodTimes (signature_by t prim)
times_good t prim good = record {
  delays = good.0;
  ins = All-mapped HasSmallInterval input_port (filter is_data_pin (inputs_of prim)) (λ k p within. (omega arith, omega arith));
  outs = All-mapped HasSmallInterval (output_port t) (filter is_data_pin (outputs_of prim)) (λ k p within. (good.1, good.2));
}

pub primitive_times : (name : Text) (params : List ℕ) (sig : Signature) → primitive_signature name params ≡ Some sig → HasGoodTimes sig
primitive_times name params sig is = by (filament_primitive name params) is
  where
    by : (o : Option Primitive) → option_map (signature_by (timing_of name)) o ≡ Some sig → HasGoodTimes sig
    by None e = absurd (cc)
    by (Some prim) e =
        subst HasGoodTimes (same_Some (signature_by (timing_of name) prim) sig e) (times_good (timing_of name) prim (timing_good name))

module _ (name : Text) (params : List ℕ) (is : is_filament_primitive name ≡ true) where
  pub as_primitive : (sig : Signature) → signature_in [] name params ≡ Some sig → primitive_signature name params ≡ Some sig
  as_primitive sig made = sym (primitive_signed [] name params is) ∙ made

  no_primitive : (rule : ℕ) → IsCause [] name params rule → primitive_signature name params ≡ None
  no_primitive rule (ByF2 unknown) = absurd (unknown (inl is))
  no_primitive rule (ByF3 known bad) = by (primitive_signature name params) refl
    where
      by : (o : Option Signature) → primitive_signature name params ≡ o → primitive_signature name params ≡ None
      by None e = e
      by (Some sig) e = absurd (bad (primitive_usable [] name params is sig e).widths)
  no_primitive rule (ByF5 known wide bad) = absurd (bad (primitive_shape [] name params is))

  pub refused_primitive : (end : SigEnd) (rule : ℕ) → end ≡ Refused rule → TellsCause [] name params end → primitive_signature name params ≡ None
  refused_primitive end rule told cause = let T : SigEnd → Type 0 = TellsCause [] name params in no_primitive rule (subst T told cause)

  pub made_primitive : (comps : Design) (earlier : Earlier) (r : Result (Option Made) Memory) → IfOk r (λ made. option_and_then (made_signature earlier) made ≡ primitive_signature name params)
      → IfOk r (λ made. option_and_then (made_signature earlier) made ≡ signature_in comps name params)
  made_primitive comps earlier (Ok made) told = told ∙ sym (primitive_signed comps name params is)
  made_primitive comps earlier (Err e) told = tt

-- by the test that the code makes
pub is_primitive : (name : Text) (r : Option (Bor (List ℕ))) (b : Bool) → option_map (λ (t : Bor (List ℕ)). t.now) r ≡ table_name name → b ≡ is_some r → is_filament_primitive name ≡ b
is_primitive name r b named tested = ap is_some (sym named) ∙ kept r ∙ sym tested
  where
    kept : (r : Option (Bor (List ℕ))) → is_some (option_map (λ (t : Bor (List ℕ)). t.now) r) ≡ is_some r
    kept None = refl
    kept (Some t) = refl

pub none_there : (params : List ℕ) → (length params == 0) ≡ true → params ≡ []
none_there [] e = refl
none_there (p ∷ params) e = absurd (grind (arith, nat_tests))

module _ (comps : Design) (earlier : Earlier) (shown : ShowsEarlier earlier comps) (name : Text) (params : List ℕ) (is : is_filament_primitive name ≡ false) where
  as_component : signature_in comps name params ≡ option_and_then (bare_signature params) (component_named comps name)
  as_component = ap (λ (b : Bool). if b then primitive_signature name params else option_and_then (bare_signature params) (component_named comps name)) is

  bare : (o : Option Component) → option_map component_signature o ≡ option_and_then (bare_signature []) o
  bare None = refl
  bare (Some c) = refl

  pub made_component : (n : ℕ) → params ≡ [] → AreDistinct earlier.names → slice_get earlier.names n ≡ Some name → slice_get earlier.callees.items n ≡ signature_in comps name params
  made_component n empty distinct at =
      ap (λ os. slice_get os n) shown.callees ∙ slice_get-map component_signature comps n ∙ bare (slice_get comps n)
      ∙ ap (option_and_then (bare_signature [])) (sym (find_at_place (λ (c : Component). c.name) comps earlier.names name n shown.names distinct at))
      ∙ ap (λ ps. option_and_then (bare_signature ps) (component_named comps name)) (sym empty)
      ∙ sym as_component

  pub no_component : (Contains earlier.names name → ⊥) → signature_in comps name params ≡ None
  no_component absent =
      as_component ∙ ap (option_and_then (bare_signature params)) (find_nowhere (λ (c : Component). c.name) comps earlier.names name shown.names absent)
