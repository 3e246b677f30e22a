-- The data ports of a primitive, pin by pin, and what is made where no primitive is.
use Rattle.std.proofs.Common.{◌≡◌, ℕ, ◌+◌, ◌≤◌, Bool, true, false, List, [], ◌∷◌, ◌++◌, length, map, filter, take, drop, slice_get, Some, None, cond, refl, sym, ap, ap₂, ◌∙◌, lit≤}
use Rattle.std.proofs.lemmas.List.{map-append, append-nil as append_nothing}
use Rattle.std.proofs.lemmas.List.Elements.{filter_more}
use Rattle.std.proofs.lemmas.Option.{get_or_from_slice_get, slice_get_within}
use Rattle.hw_prims.specs.Filament.{is_data_pin}
use Rattle.fil_ast.specs.Signature as tree
use Rattle.hw_names.specs.Name.{Text}
use Rattle.hw_prims.proofs.PortNameLemmas.{unknown_makes_none}
use Rattle.hw_prims.specs.Table.{Pin, is_primitive, prim_of, inputs_of, outputs_of, pins_of}
use Rattle.hw_prims.specs.declared.prim.PrimEnd.{PrimEnd}
use Rattle.hw_prims.specs.declared.prim.PrimEnd.TheVariants.{UnknownPrim, BadParams}
use Rattle.hw_prims.specs.declared.prim.Primitive.{Primitive}
use Rattle.hw_prims.specs.declared.prim.Primitive.TheVariants.{StdConst, StdWire, StdAdd, StdSub, StdAnd, StdOr, StdXor, StdNot, StdEq, StdNeq, StdLt, StdGt, StdLe, StdGe, StdLsh, StdRsh, StdSlice, StdPad, FilMux, FilSlice, FilConcat, StdReg, StdMemD1, StdMemD2, StdMultPipe, FilDelay, FilFastMult, FilSeqMult}
use Rattle.fil_sig.specs.inside.Kinds.{port_in}
use Rattle.fil_sig.specs.Seen.{seen_port}
use Rattle.fil_sig.specs.declared.time_sig.SigPort.{SigPort}
use Rattle.fil_sig.proofs.ListLemmas.{slice_get-drop}

-- a primitive has few pins
pub few_pins : (prim : Primitive) → length (pins_of prim) ≤ 6
unfolding inputs_of outputs_of
few_pins (StdConst w v) = lit≤ tt
few_pins (StdWire w) = lit≤ tt
few_pins (StdAdd w) = lit≤ tt
few_pins (StdSub w) = lit≤ tt
few_pins (StdAnd w) = lit≤ tt
few_pins (StdOr w) = lit≤ tt
few_pins (StdXor w) = lit≤ tt
few_pins (StdNot w) = lit≤ tt
few_pins (StdEq w) = lit≤ tt
few_pins (StdNeq w) = lit≤ tt
few_pins (StdLt w) = lit≤ tt
few_pins (StdGt w) = lit≤ tt
few_pins (StdLe w) = lit≤ tt
few_pins (StdGe w) = lit≤ tt
few_pins (StdLsh w) = lit≤ tt
few_pins (StdRsh w) = lit≤ tt
few_pins (StdSlice i o) = lit≤ tt
few_pins (StdPad i o) = lit≤ tt
few_pins (FilMux w) = lit≤ tt
few_pins (FilSlice w hi lo) = lit≤ tt
few_pins (FilConcat a b) = lit≤ tt
few_pins (StdReg w) = lit≤ tt
few_pins (StdMemD1 w size idx) = lit≤ tt
few_pins (StdMemD2 w size0 size1 idx0 idx1) = lit≤ tt
few_pins (StdMultPipe w) = lit≤ tt
few_pins (FilDelay w) = lit≤ tt
few_pins (FilFastMult w) = lit≤ tt
few_pins (FilSeqMult w) = lit≤ tt

-- the data ports among the pins so far, where the pin at the next place is known
module _ (from to : tree.Offset) (pins : List Pin) (first i : ℕ) (p : Pin) (at : slice_get pins (first + i) ≡ Some p) (ports : List SigPort) (so_far : map seen_port ports ≡ map (port_in from to) (filter is_data_pin (take i (drop first pins)))) where
  abbrev rest : List Pin
  rest = drop first pins

  here : slice_get rest i ≡ Some p
  here = slice_get-drop first pins i ∙ at

  more : (b : Bool) → is_data_pin p ≡ b → filter is_data_pin (take (i + 1) rest) ≡ filter is_data_pin (take i rest) ++ cond b (p ∷ []) []
  more b is =
      let same = get_or_from_slice_get rest i p p here in
      filter_more is_data_pin rest i p (slice_get_within rest i p here)
      ∙ ap (λ (q : Pin). filter is_data_pin (take i rest) ++ cond (is_data_pin q) (q ∷ []) []) same
      ∙ ap (λ (t : Bool). filter is_data_pin (take i rest) ++ cond t (p ∷ []) []) is

  pub data_pushed : (port : SigPort) → is_data_pin p ≡ true → seen_port port ≡ port_in from to p → map seen_port (ports ++ port ∷ []) ≡ map (port_in from to) (filter is_data_pin (take (i + 1) (drop first pins)))
  data_pushed port is seen =
      map-append seen_port ports (port ∷ []) ∙ ap₂ (λ ps q. ps ++ q ∷ []) so_far seen
      ∙ sym (map-append (port_in from to) (filter is_data_pin (take i rest)) (p ∷ [])) ∙ ap (map (port_in from to)) (sym (more true is))

  pub data_skipped : is_data_pin p ≡ false → map seen_port ports ≡ map (port_in from to) (filter is_data_pin (take (i + 1) (drop first pins)))
  data_skipped is = so_far ∙ ap (map (port_in from to)) (sym (append_nothing (filter is_data_pin (take i rest))) ∙ sym (more false is))

-- where the table makes no primitive, there is none
pub makes_none : (name : Text) (params : List ℕ) (e : PrimEnd) → (e ≡ UnknownPrim → is_primitive name ≡ false) → (e ≡ BadParams → prim_of name params ≡ None) → prim_of name params ≡ None
makes_none name params UnknownPrim unknown bad = unknown_makes_none name params (unknown refl)
makes_none name params BadParams unknown bad = bad refl
