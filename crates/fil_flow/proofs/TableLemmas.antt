-- Filament's primitives: the flow of each is known, and each has one output that Filament sees.
use Rattle.std.proofs.Common.{◌≡◌, ℕ, Bool, true, false, List, [], ◌∷◌, Option, Some, None, filter, refl, sym, ap, subst, ◌∙◌}
use Rattle.std.specs.Option.{option_and_then, option_map_or, is_some, IsSome}
use Rattle.std.specs.Prelude.{if◌then◌else◌, bytes_eq, codes}
use Rattle.std.proofs.lemmas.Bool.{false≢true}
use Rattle.std.proofs.lemmas.Option.{same_Some, option_and_then_some, cond_some}
use Rattle.hw_names.specs.Name.{Text}
use Rattle.hw_prims.specs.Filament.{is_data_pin}
use Rattle.hw_prims.specs.Meaning.{is_stateless}
use Rattle.hw_prims.specs.Memory.{keeps_words}
use Rattle.hw_prims.specs.Table.{pin, is_made, is_primitive, one, two, three, outputs_of, prim_in_range, prim_name, prim_names, prim_of, with_params}
use Rattle.hw_prims.specs.declared.name.PrimName.{PrimName}
use Rattle.hw_prims.specs.declared.name.PrimName.TheVariants as name
use Rattle.hw_prims.specs.declared.prim.PrimEnd.{PrimEnd}
use Rattle.hw_prims.specs.declared.prim.PrimEnd.TheVariants.{UnknownPrim, BadParams}
use Rattle.hw_prims.specs.declared.prim.Primitive.{Primitive}
use Rattle.hw_prims.specs.declared.prim.Primitive.TheVariants.{StdMemD1, StdMemD2, StdMultPipe}
use Rattle.fil_ast.proofs.PrimitiveLemmas.{OfEach, row_of}
use Rattle.fil_ast.specs.Primitives.{FilamentPrimitive, filament_primitive, filament_primitives, table_name}
use Rattle.fil_flow.specs.Plans.{has_flow}

-- the primitives of a name have a flow
abbrev flows : PrimName → Bool
flows name.StdMemD1 = false
flows name.StdMemD2 = false
flows name.StdMultPipe = false
flows name = true

abbrev HasFlow : Primitive → Type 0
HasFlow prim = has_flow prim ≡ true

of_one : (make : ℕ → Primitive) → ((a : ℕ) → HasFlow (make a)) → (params : List ℕ) (prim : Primitive) → one make params ≡ Some prim → HasFlow prim
of_one make known [] prim is = absurd (cc)
of_one make known (a ∷ []) prim is = subst HasFlow (same_Some (make a) prim is) (known a)
of_one make known (a ∷ b ∷ params) prim is = absurd (cc)

of_two : (make : ℕ → ℕ → Primitive) → ((a b : ℕ) → HasFlow (make a b)) → (params : List ℕ) (prim : Primitive) → two make params ≡ Some prim → HasFlow prim
of_two make known [] prim is = absurd (cc)
of_two make known (a ∷ []) prim is = absurd (cc)
of_two make known (a ∷ b ∷ []) prim is = subst HasFlow (same_Some (make a b) prim is) (known a b)
of_two make known (a ∷ b ∷ c ∷ params) prim is = absurd (cc)

of_three : (make : ℕ → ℕ → ℕ → Primitive) → ((a b c : ℕ) → HasFlow (make a b c)) → (params : List ℕ) (prim : Primitive) → three make params ≡ Some prim → HasFlow prim
of_three make known [] prim is = absurd (cc)
of_three make known (a ∷ []) prim is = absurd (cc)
of_three make known (a ∷ b ∷ []) prim is = absurd (cc)
of_three make known (a ∷ b ∷ c ∷ []) prim is = subst HasFlow (same_Some (make a b c) prim is) (known a b c)
of_three make known (a ∷ b ∷ c ∷ d ∷ params) prim is = absurd (cc)

of_name : (n : PrimName) (params : List ℕ) (prim : Primitive) → flows n ≡ true → with_params n params ≡ Some prim → HasFlow prim
unfolding with_params is_stateless keeps_words
of_name name.StdMemD1 params prim known is = absurd (false≢true known)
of_name name.StdMemD2 params prim known is = absurd (false≢true known)
of_name name.StdMultPipe params prim known is = absurd (false≢true known)
of_name name.StdConst params prim known is = of_two _ (λ a b. refl) params prim is
of_name name.StdSlice params prim known is = of_two _ (λ a b. refl) params prim is
of_name name.StdPad params prim known is = of_two _ (λ a b. refl) params prim is
of_name name.FilConcat params prim known is = of_two _ (λ a b. refl) params prim is
of_name name.FilSlice params prim known is = of_three _ (λ a b c. refl) params prim is
of_name n params prim known is = of_one _ (λ a. refl) params prim is

-- each row's name is one of a primitive that has a flow
abbrev flows_of : Text → Bool
flows_of table = option_map_or flows (prim_name table) false

abbrev Flows : FilamentPrimitive → Type 0
Flows p = flows_of p.table ≡ true

all_flow : OfEach Flows filament_primitives
unfolding prim_names
all_flow = (refl, (refl, (refl, (refl, (refl, (refl, (refl, (refl, (refl, (refl, (refl, (refl, (refl, (refl, (refl, (refl, tt))))))))))))))))

table_flows : (made table : Text) → table_name made ≡ Some table → flows_of table ≡ true
table_flows made table told = let p = row_of Flows all_flow made table told in ap flows_of (sym p.tabled) ∙ p.holds

of_known : (o : Option PrimName) (n : PrimName) → o ≡ Some n → option_map_or flows o false ≡ true → flows n ≡ true
of_known o n is known = sym (ap (λ (p : Option PrimName). option_map_or flows p false) is) ∙ known

-- a primitive of Filament has a flow
pub filament_flow : (made : Text) (params : List ℕ) (prim : Primitive) → filament_primitive made params ≡ Some prim → has_flow prim ≡ true
unfolding prim_of
filament_flow made params prim is =
    option_and_then_some (λ (t : Text). prim_of t params) (table_name made) prim is (λ table told of_table.
    option_and_then_some prim_in_range (option_and_then (λ n. with_params n params) (prim_name table)) prim of_table (λ whole with_them in_range.
    option_and_then_some (λ n. with_params n params) (prim_name table) whole with_them (λ n named made_of.
    subst HasFlow (cond_some (is_made whole) whole prim in_range).1
    (of_name n params whole (of_known (prim_name table) n named (table_flows made table told)) made_of))))

-- Filament sees one output of it
pub one_output : (prim : Primitive) → has_flow prim ≡ true → (w : ℕ) × (filter is_data_pin (outputs_of prim) ≡ pin (codes "out") w ∷ [])
unfolding outputs_of is_stateless keeps_words
one_output (StdMemD1 w size idx) known = absurd (false≢true known)
one_output (StdMemD2 w size0 size1 idx0 idx1) known = absurd (false≢true known)
one_output (StdMultPipe w) known = absurd (false≢true known)
one_output prim known = (_, refl)

no_prim : (text : Text) (params : List ℕ) → is_primitive text ≡ false → prim_of text params ≡ None
unfolding is_primitive prim_of
no_prim text params none = by (prim_name text) none
  where
    by : (o : Option PrimName) → is_some o ≡ false → option_and_then prim_in_range (option_and_then (λ n. with_params n params) o) ≡ None
    by None none = refl
    by (Some n) none = absurd (cc)

-- what has a primitive is not refused
pub refused : (text : Text) (params : List ℕ) (e : PrimEnd) → (e ≡ UnknownPrim → is_primitive text ≡ false)
    → (e ≡ BadParams → prim_of text params ≡ None) → IsSome (prim_of text params) → ⊥
refused text params UnknownPrim unknown bad is = let none = no_prim text params (unknown refl) in absurd (false≢true (sym (ap is_some none) ∙ is))
refused text params BadParams unknown bad is = absurd (false≢true (sym (ap is_some (bad refl)) ∙ is))
