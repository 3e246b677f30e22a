-- The row that values along names stand for, and how a write of one port's value leaves the others.
use Rattle.std.proofs.Common.{◌≡◌, ℕ, zero, suc, ◌<◌, List, [], ◌∷◌, Bool, true, false, Some, refl, sym, ap, ◌∙◌, arith, get_or, length, set, inl, inr, subst}
use Rattle.std.specs.Prelude.{slice_get, bytes_eq, if◌then◌else◌}
use Rattle.std.proofs.lemmas.Bool.{cases_lt, cases_eq}
use Rattle.std.proofs.lemmas.Option.{slice_get_within, get_or_from_slice_get}
use Rattle.std.proofs.lemmas.Slice.Eq.{bytes_eq-Decides}
use Rattle.hw_names.specs.Name.{Text, AreDistinct, dotted}
use Rattle.hw_prims.proofs.PrimLemmas.{through_alone}
use Rattle.hw_prims.specs.Row.{Row}
use Rattle.hw_prims.specs.State.{State}
use Rattle.hw_prims.specs.Table.{outputs_of, pin_names}
use Rattle.hw_prims.specs.declared.prim.Primitive.{Primitive}
use Rattle.net_core.specs.Circuit.{settled}
use Rattle.net_core.specs.Graph.{ReadsPort, ByAssignment, ByCell, set_ports}
use Rattle.net_core.specs.NetRun.{values_for}
use Rattle.net_core.specs.Netlist.{Netlist}
use Rattle.net_sim.proofs.AgreeLemmas.{drivers_agree}
use Rattle.hw_graph.proofs.MemberLemmas.{In, contains_of}
use Rattle.net_sim.specs.Evaluated.{IsValueOf}
use Rattle.net_sim.specs.Sim.{state_along}
use Rattle.net_sim.specs.Slots.{row_of}

-- no text stands in the list twice
abbrev pub Once : List Text → Type 0
Once xs = (i j : ℕ) (x : Text) → slice_get xs i ≡ Some x → slice_get xs j ≡ Some x → i ≡ j

pub once_from_distinct : (xs : List Text) → AreDistinct xs → Once xs
once_from_distinct xs distinct i j x at at' = elim (cases_lt i j) [
  | inl before ↦ absurd (distinct i j [] before (slice_get_within xs j x at') (get_or_from_slice_get xs i x [] at ∙ sym (get_or_from_slice_get xs j x [] at')))
  | inr later ↦ elim (cases_eq i j) [
    | inl same ↦ same
    | inr other ↦ absurd (distinct j i [] (let e : j < i = omega (arith, later, other) in e) (slice_get_within xs i x at) (get_or_from_slice_get xs j x [] at' ∙ sym (get_or_from_slice_get xs i x [] at)))
  ]
]

once_tail : (y : Text) (xs : List Text) → Once (y ∷ xs) → Once xs
once_tail y xs once i j x at at' = let e : suc i ≡ suc j = once (suc i) (suc j) x at at' in omega (arith, e)

skip : {X : Type 0} (name other : Text) (x y : X) → (name ≡ other → ⊥) → (if bytes_eq name other then x else y) ≡ y
skip {X = X} name other x y ne = by (bytes_eq name other) refl
  where
    by : (b : Bool) → bytes_eq name other ≡ b → (if b then x else y) ≡ y
    by true e = absurd (ne ((bytes_eq-Decides name other).0 e))
    by false e = refl

take_it : {X : Type 0} (name other : Text) (x y : X) → name ≡ other → (if bytes_eq name other then x else y) ≡ x
take_it name other x y e = ap (λ b. if b then x else y) ((bytes_eq-Decides name other).1 e)

-- the value along the name of a number
pub row_at : (names : List Text) (values : List ℕ) → Once names → length names ≡ length values → (k : ℕ) (name : Text) → slice_get names k ≡ Some name → row_of names values name ≡ get_or values k 0
row_at [] values once e k name at = cc
row_at (x ∷ xs) [] once e k name at = absurd (omega (arith, e))
row_at (x ∷ xs) (v ∷ vs) once e zero name at = let same : x ≡ name = cc in take_it x name v (row_of xs vs name) same
row_at (x ∷ xs) (v ∷ vs) once e (suc k) name at =
    skip x name v (row_of xs vs name) (λ same. let twice : zero ≡ suc k = once zero (suc k) name (ap Some same) at in omega (arith, twice))
    ∙ row_at xs vs (once_tail x xs once) (omega (arith, e)) k name at

-- the state along the name of a number
pub state_at : (names : List Text) (states : List State) → Once names → length names ≡ length states → (k : ℕ) (name : Text) (s : State) → slice_get names k ≡ Some name → slice_get states k ≡ Some s → state_along names states name ≡ s
state_at [] states once e k name s at is = cc
state_at (x ∷ xs) [] once e k name s at is = absurd (omega (arith, e))
state_at (x ∷ xs) (v ∷ vs) once e zero name s at is = let same : x ≡ name = cc in let value : v ≡ s = cc in take_it x name v (state_along xs vs name) same ∙ value
state_at (x ∷ xs) (v ∷ vs) once e (suc k) name s at is =
    skip x name v (state_along xs vs name) (λ same. let twice : zero ≡ suc k = once zero (suc k) name (ap Some same) at in omega (arith, twice))
    ∙ state_at xs vs (once_tail x xs once) (omega (arith, e)) k name s at is

-- a write at a number changes the row at its name alone
pub row_set : (names : List Text) (values : List ℕ) (k v : ℕ) (name other : Text) → slice_get names k ≡ Some name → (other ≡ name → ⊥) → row_of names values other ≡ row_of names (set values k v) other
row_set [] values k v name other at ne = refl
row_set (x ∷ xs) [] k v name other at ne = refl
row_set (x ∷ xs) (w ∷ ws) zero v name other at ne =
    let same : x ≡ name = cc in
    let apart : x ≡ other → ⊥ = λ e. ne (sym e ∙ same) in
    skip x other w (row_of xs ws other) apart ∙ sym (skip x other v (row_of xs ws other) apart)
row_set (x ∷ xs) (w ∷ ws) (suc k) v name other at ne =
    ap (λ r. if bytes_eq x other then w else r) (row_set xs ws k v name other at ne)

-- ---- rows that differ at one port

-- rows that agree but at one port
abbrev pub AgreeBut : Text → Row → Row → Type 0
AgreeBut x row row' = (name : Text) → (name ≡ x → ⊥) → row name ≡ row' name

-- what drives a port stays where the row changes at a port that it doesn't read
pub drivers_kept : (n : Netlist) (row row' : Row) (x port : Text) → AgreeBut x row row' → (ReadsPort n port x → ⊥) → values_for port row n.sets ≡ values_for port row' n.sets
drivers_kept n row row' x port agree unread =
    drivers_agree row row' port n.sets (λ k a at dst p has. agree p (λ e. unread (ByAssignment k a at dst (contains_of (set_ports a) x (subst (In (set_ports a)) e has)))))

-- what a row asks of a port's value stays where the row changes at a port that it doesn't read
pub value_kept : (n : Netlist) (inputs : Row) (states : Text → Primitive → State) (row row' : Row) (x port : Text) (value : ℕ) → AgreeBut x row row' → (ReadsPort n port x → ⊥) → IsValueOf n inputs states row port value → IsValueOf n inputs states row' port value
value_kept n inputs states row row' x port value agree unread is = record {
  given = is.given;
  driven = λ writable. is.driven writable ∙ ap settled (drivers_kept n row row' x port agree unread);
  computed = λ cell prim k output has at named. is.computed cell prim k output has at named ∙
      through_alone prim (states cell prim) (λ p. row (dotted cell p)) (λ p. row' (dotted cell p)) k output at
      (λ input within through. agree (dotted cell input) (λ e. unread (ByCell cell prim input output has within (k, slice_get_within (pin_names (outputs_of prim)) k output at, get_or_from_slice_get (pin_names (outputs_of prim)) k output output at) through named e)));
}
