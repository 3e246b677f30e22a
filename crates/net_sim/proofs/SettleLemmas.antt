-- The assignments to a port, one after another: which of them act, and what they give it.
use Rattle.std.proofs.Common.{◌≡◌, ℕ, suc, ◌+◌, ◌<◌, ◌≤◌, List, [], ◌∷◌, ◌++◌, Bool, true, false, Some, length, get_or, take, refl, sym, ap, ap₂, ◌∙◌, arith, append_assoc, subst}
use Rattle.std.specs.Prelude.{slice_get, option_map, bytes_eq, ◌&&◌, if◌then◌else◌}
use Rattle.std.proofs.lemmas.List.{take_more, append-nil}
use Rattle.std.proofs.lemmas.Option.{slice_get-map, get_or_from_slice_get, same_Some}
use Rattle.std.proofs.lemmas.Slice.Eq.{bytes_eq-Decides}
use Rattle.hw_bits.specs.Values.{values_of, widths_of}
use Rattle.hw_bits.specs.declared.bits.Bits.{Bits}
use Rattle.hw_names.specs.Name.{Text}
use Rattle.hw_prims.specs.Row.{Row}
use Rattle.net_core.specs.Circuit.{settled}
use Rattle.net_core.specs.Guard.{guard_holds, source_value}
use Rattle.net_core.specs.NetRun.{values_for, IsWritable}
use Rattle.net_core.specs.Netlist.{Netlist, SetLine}
use Rattle.net_core.specs.Rules.{IsValid}
use Rattle.net_sim.proofs.PortLemmas.{set_writable}
use Rattle.net_sim.specs.Evaluated.{HasWidth, IsBitsOf, source_number}
use Rattle.net_sim.specs.PortOrder.{numbers_of}
use Rattle.net_sim.specs.inside.Settled.{IsSettled, IsClash, FitsWidth, settled_value, value_if_acting}
use Rattle.net_sim.specs.declared.plan.Source.{Source}
use Rattle.net_sim.specs.declared.plan.Source.TheVariants.{Slot, Fixed}
use Rattle.net_sim.specs.declared.settle.Settled.{Settled}
use Rattle.net_sim.specs.declared.settle.Settled.TheVariants.{Undriven, Driven, Clash}

-- the values of those of the assignments with these numbers that act
abbrev pub acting_values : Row → List SetLine → List ℕ → List ℕ
acting_values row sets [] = []
acting_values row sets (k ∷ numbers) = value_if_acting row (slice_get sets k) ++ acting_values row sets numbers

acting_values-append : (row : Row) (sets : List SetLine) (front back : List ℕ) → acting_values row sets (front ++ back) ≡ acting_values row sets front ++ acting_values row sets back
acting_values-append row sets [] back = refl
acting_values-append row sets (k ∷ front) back =
    ap (λ l. value_if_acting row (slice_get sets k) ++ l) (acting_values-append row sets front back)
    ∙ sym (append_assoc (value_if_acting row (slice_get sets k)) (acting_values row sets front) (acting_values row sets back))

pub acting_more : (row : Row) (sets : List SetLine) (numbers : List ℕ) (i : ℕ) → i < length numbers → acting_values row sets (take (i + 1) numbers) ≡ acting_values row sets (take i numbers) ++ value_if_acting row (slice_get sets (get_or numbers i 0))
acting_more row sets numbers i lt =
    ap (acting_values row sets) (take_more numbers i 0 lt) ∙ acting_values-append row sets (take i numbers) (get_or numbers i 0 ∷ [])
    ∙ ap (λ l. acting_values row sets (take i numbers) ++ l) (append-nil (value_if_acting row (slice_get sets (get_or numbers i 0))))

one_acts : (b on : Bool) (row : Row) (sets : List SetLine) (v k : ℕ) (numbers vs : List ℕ) → value_if_acting row (slice_get sets k) ≡ (if on then v ∷ [] else []) → acting_values row sets numbers ≡ vs → acting_values row sets (if b then k ∷ numbers else numbers) ≡ (if b && on then v ∷ vs else vs)
one_acts true true row sets v k numbers vs e rest = ap₂ ◌++◌ e rest
one_acts true false row sets v k numbers vs e rest = ap₂ ◌++◌ e rest
one_acts false on row sets v k numbers vs e rest = rest

acting_from : (row : Row) (all : List SetLine) (port : Text) (base : ℕ) (sets : List SetLine) → ((k : ℕ) (a : SetLine) → slice_get sets k ≡ Some a → slice_get all (base + k) ≡ Some a) → acting_values row all (numbers_of port base sets) ≡ values_for port row sets
acting_from row all port base [] is = refl
acting_from row all port base (a ∷ sets) is =
    let here : slice_get all base ≡ Some a = ap (slice_get all) (let e : base ≡ base + 0 = omega arith in e) ∙ is 0 a refl in
    one_acts (bytes_eq a.dst port) (guard_holds row a.guard) row all (source_value row a.src) base (numbers_of port (suc base) sets) (values_for port row sets)
    (ap (value_if_acting row) here)
    (acting_from row all port (suc base) sets (λ k b at. ap (slice_get all) (let e : suc base + k ≡ base + suc k = omega arith in e) ∙ is (suc k) b at))

-- the values of a port's assignments that act, by their numbers
pub acting_is : (row : Row) (sets : List SetLine) (port : Text) → acting_values row sets (numbers_of port 0 sets) ≡ values_for port row sets
acting_is row sets port = acting_from row sets port 0 sets (λ k a at. ap (slice_get sets) (let e : 0 + k ≡ k = omega arith in e) ∙ at)

-- ---- one more assignment

pub set_acts : (row : Row) (sets : List SetLine) (k width value : ℕ) (others : List ℕ) (after : Settled) (a : SetLine) → slice_get sets k ≡ Some a → guard_holds row a.guard ≡ true → value ≡ source_value row a.src → IsSettled width (others ++ value ∷ []) after → IsSettled width (others ++ value_if_acting row (slice_get sets k)) after
set_acts row sets k width value others after a at on is added =
    let here : value_if_acting row (slice_get sets k) ≡ value ∷ [] = ap (value_if_acting row) at ∙ ap (λ (b : Bool). if b then source_value row a.src ∷ [] else []) on ∙ ap (λ v. v ∷ []) (sym is) in
    subst (λ l. IsSettled width (others ++ l) after) (sym here) added

pub set_rests : (row : Row) (sets : List SetLine) (k width : ℕ) (others : List ℕ) (s : Settled) (a : SetLine) → slice_get sets k ≡ Some a → guard_holds row a.guard ≡ false → IsSettled width others s → IsSettled width (others ++ value_if_acting row (slice_get sets k)) s
set_rests row sets k width others s a at off so_far =
    let none : value_if_acting row (slice_get sets k) ≡ [] = ap (value_if_acting row) at ∙ ap (λ (b : Bool). if b then source_value row a.src ∷ [] else []) off in
    subst (λ l. IsSettled width l s) (sym (ap (λ l. others ++ l) none ∙ append-nil others)) so_far

-- ---- what a source gives

pub bits_value : (values : List Bits) (s : Source) (b : Bits) → IsBitsOf values s b → b.value ≡ source_number (values_of values) s
bits_value values (Slot k) b is = sym (get_or_from_slice_get (values_of values) k b.value 0 (slice_get-map (λ (x : Bits). x.value) values k ∙ ap (option_map (λ (x : Bits). x.value)) is))
bits_value values (Fixed bits) b is = ap (λ (x : Bits). x.value) is

pub bits_width : (values : List Bits) (s : Source) (b : Bits) (width : ℕ) → HasWidth (widths_of values) width s → IsBitsOf values s b → b.width ≡ width
bits_width values (Slot k) b width has is = same_Some b.width width (sym (slice_get-map (λ (x : Bits). x.width) values k ∙ ap (option_map (λ (x : Bits). x.width)) is) ∙ has)
bits_width values (Fixed bits) b width has is = ap (λ (x : Bits). x.width) is ∙ has

-- ---- what a settled port has

pub value_is : (width : ℕ) (values : List ℕ) (s : Settled) → IsSettled width values s → settled_value s ≡ settled values
value_is width values Undriven is = ap settled (sym is)
value_is width values (Driven value) is = ap settled (sym is.0)
value_is width [] Clash is = refl
value_is width (v ∷ []) Clash is = let one : length (v ∷ []) ≡ 1 = refl in absurd (omega (arith, is, one))
value_is width (v ∷ (w ∷ vs)) Clash is = refl

pub width_is : (width : ℕ) (values : List ℕ) (s : Settled) → IsSettled width values s → FitsWidth width s
width_is width values Undriven is = tt
width_is width values (Driven value) is = is.1
width_is width values Clash is = tt

pub clash_is : (width : ℕ) (values : List ℕ) (s : Settled) → IsSettled width values s → IsClash s → 2 ≤ length values
clash_is width values Undriven is clash = absurd clash
clash_is width values (Driven value) is clash = absurd clash
clash_is width values Clash is clash = is

pub clash_of : (width : ℕ) (values : List ℕ) (s : Settled) → IsSettled width values s → 2 ≤ length values → IsClash s
clash_of width values Undriven is two = let none : length {A = ℕ} [] ≡ 0 = refl in absurd (omega (arith, two, ap length is, none))
clash_of width values (Driven value) is two = let one : length (value ∷ []) ≡ 1 = refl in absurd (omega (arith, two, ap length is.0, one))
clash_of width values Clash is two = tt

-- a port that is driven is the destination of an assignment
assigned : (row : Row) (port : Text) (sets : List SetLine) → 1 ≤ length (values_for port row sets) → (k : ℕ) × (a : SetLine) × (slice_get sets k ≡ Some a) × (a.dst ≡ port)
assigned row port [] some = let none : length {A = ℕ} [] ≡ 0 = refl in absurd (omega (arith, some, none))
assigned row port (a ∷ sets) some = by (bytes_eq a.dst port) refl some (λ later. assigned row port sets later)
  where
    by : (b : Bool) → bytes_eq a.dst port ≡ b → 1 ≤ length (if b && guard_holds row a.guard then source_value row a.src ∷ values_for port row sets else values_for port row sets)
        → (1 ≤ length (values_for port row sets) → (k : ℕ) × (c : SetLine) × (slice_get sets k ≡ Some c) × (c.dst ≡ port)) → (k : ℕ) × (c : SetLine) × (slice_get (a ∷ sets) k ≡ Some c) × (c.dst ≡ port)
    by true t some' later = (0, a, refl, (bytes_eq-Decides a.dst port).0 t)
    by false t some' later = let r = later some' in (suc r.0, r.1, r.2, r.3)

pub driven_writable : (n : Netlist) → IsValid n → (row : Row) (port : Text) → 1 ≤ length (values_for port row n.sets) → IsWritable n port
driven_writable n valid row port some =
    let s = assigned row port n.sets some in
    subst (IsWritable n) s.3 (set_writable n valid s.0 s.1 s.2)
