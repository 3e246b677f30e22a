-- A circuit in which each port has one role, and each value follows from those that it reads, has a row of any inputs and states.
use Rattle.std.proofs.Common.{◌≡◌, ◌⊎◌, inl, inr, ℕ, ◌<◌, List, [], true, length, get_or, Some, refl, sym, ap, ◌∙◌, arith, subst}
use Rattle.std.specs.Prelude.{Contains, slice_get, slice_index}
use Rattle.std.proofs.lemmas.List.{length-map, get_or-map, ext_get_or}
use Rattle.std.proofs.lemmas.Option.{slice_get-get_or, slice_get_within, get_or_from_slice_get}
use Rattle.hw_graph.proofs.MemberLemmas.{In}
use Rattle.hw_names.specs.Name.{Text, dotted}
use Rattle.hw_prims.proofs.PrimLemmas.{length-output_values, through_alone}
use Rattle.hw_prims.specs.Meaning.{output_values, is_through}
use Rattle.hw_prims.specs.Row.{Row, values_at}
use Rattle.hw_prims.specs.State.{State}
use Rattle.hw_prims.specs.Table.{inputs_of, outputs_of, pin_names}
use Rattle.hw_prims.specs.declared.prim.Primitive.{Primitive}
use Rattle.net_core.specs.Circuit.{Circuit, Drive, settled, IsRow, IsComputed}
use Rattle.net_runs.proofs.SettlingLemmas.{Reaches, rest, rest_is}

-- what gives a port its value
pub data Role (c : Circuit) (name : Text) : Type 0 where
  Given : c.Input name → Role c name
  Driven : (drive : Drive) → c.Sink name drive → Role c name
  Computed : (cell : Text) (prim : Primitive) (k : ℕ) (output : Text) → c.Cell cell prim → slice_get (pin_names (outputs_of prim)) k ≡ Some output → dotted cell output ≡ name → Role c name

-- two roles that give one value
abbrev pub Alike : (c : Circuit) (name : Text) → Role c name → Role c name → Type 0
Alike c name (Given is) (Given is') = Unit {0}
Alike c name (Driven drive sink) (Driven drive' sink') = (t : ℕ) (row : Row) → drive t row ≡ drive' t row
Alike c name (Computed cell prim k output is at named) (Computed cell' prim' k' output' is' at' named') = (cell ≡ cell') × (prim ≡ prim') × (k ≡ k')
Alike c name role role' = ⊥

-- each port has one role, its value follows from those that it reads, and no port reads itself, at once or through others
pub record IsOrderly (c : Circuit) (ports : List Text) (Reads : Text → Text → Type 0) : Type 0 where
  pub decide : (name : Text) → Role c name ⊎ (Role c name → ⊥)
  pub one : (name : Text) (role role' : Role c name) → Alike c name role role'
  pub sinks : (name : Text) (drive : Drive) → c.Sink name drive → In ports name
  pub drives : (name : Text) (drive : Drive) → c.Sink name drive → (t : ℕ) (row other : Row) → ((y : Text) → Reads name y → row y ≡ other y) → drive t row ≡ drive t other
  pub cells : (cell : Text) (prim : Primitive) (output input : Text) → c.Cell cell prim → Contains (pin_names (outputs_of prim)) output → Contains (pin_names (inputs_of prim)) input →
      is_through prim input output ≡ true → Reads (dotted cell output) (dotted cell input)
  pub known : (x y : Text) → Reads x y → In ports y
  pub no_loop : (x : Text) → Reaches Reads x x → ⊥

module _ (c : Circuit) (ports : List Text) (Reads : Text → Text → Type 0) (orderly : IsOrderly c ports Reads) (t : ℕ) (inputs : Row) (states : Text → Primitive → State) where
  -- the outputs of a cell, in a row
  abbrev outputs : Row → Text → Primitive → List ℕ
  outputs row cell prim = output_values prim (states cell prim) (values_at row (dotted cell) (pin_names (inputs_of prim)))

  -- the value that a role gives in a row
  abbrev value_by : Row → (name : Text) → Role c name → ℕ
  value_by row name (Given is) = inputs name
  value_by row name (Driven drive sink) = settled (drive t row)
  value_by row name (Computed cell prim k output is at named) = slice_index (outputs row cell prim) k

  same_value : (row : Row) (name : Text) (role role' : Role c name) → Alike c name role role' → value_by row name role ≡ value_by row name role'
  same_value row name (Given is) (Given is') alike = refl
  same_value row name (Driven drive sink) (Driven drive' sink') alike = ap settled (alike t row)
  same_value row name (Computed cell prim k output is at named) (Computed cell' prim' k' output' is' at' named') alike = rw (alike.0, alike.1, alike.2) refl
  same_value row name (Given is) (Driven drive' sink') alike = absurd alike
  same_value row name (Given is) (Computed cell' prim' k' output' is' at' named') alike = absurd alike
  same_value row name (Driven drive sink) (Given is') alike = absurd alike
  same_value row name (Driven drive sink) (Computed cell' prim' k' output' is' at' named') alike = absurd alike
  same_value row name (Computed cell prim k output is at named) (Given is') alike = absurd alike
  same_value row name (Computed cell prim k output is at named) (Driven drive' sink') alike = absurd alike

  -- the value of a role follows from those that it reads
  value_follows : (row other : Row) (name : Text) (role : Role c name) → ((y : Text) → Reads name y → row y ≡ other y) → value_by row name role ≡ value_by other name role
  value_follows row other name (Given is) agree = refl
  value_follows row other name (Driven drive sink) agree = ap settled (orderly.drives name drive sink t row other agree)
  value_follows row other name (Computed cell prim k output is at named) agree =
      through_alone prim (states cell prim) (λ pin. row (dotted cell pin)) (λ pin. other (dotted cell pin)) k output at
      (λ input has through. agree (dotted cell input) (subst (λ (x : Text). Reads x (dotted cell input)) named (orderly.cells cell prim output input is (contained k output at) has through)))
    where
      contained : (j : ℕ) (pin : Text) → slice_get (pin_names (outputs_of prim)) j ≡ Some pin → Contains (pin_names (outputs_of prim)) pin
      contained j pin there = (j, slice_get_within (pin_names (outputs_of prim)) j pin there, get_or_from_slice_get (pin_names (outputs_of prim)) j pin pin there)

  abbrev value_if : (row : Row) (name : Text) → Role c name ⊎ (Role c name → ⊥) → ℕ
  value_if row name (inl role) = value_by row name role
  value_if row name (inr none) = 0

  -- the value of a name in a row, and 0 where no role gives it one
  abbrev value : Row → Text → ℕ
  value row name = value_if row name (orderly.decide name)

  follows_if : (row other : Row) (name : Text) (d : Role c name ⊎ (Role c name → ⊥)) → ((y : Text) → Reads name y → row y ≡ other y) → value_if row name d ≡ value_if other name d
  follows_if row other name (inl role) agree = value_follows row other name role agree
  follows_if row other name (inr none) agree = refl

  value_is : (row : Row) (name : Text) (role : Role c name) → value row name ≡ value_by row name role
  value_is row name role = by (orderly.decide name)
    where
      by : (d : Role c name ⊎ (Role c name → ⊥)) → value_if row name d ≡ value_by row name role
      by (inl found) = same_value row name found role (orderly.one name found role)
      by (inr none) = absurd (none role)

  -- the row
  pub row_made : Row
  row_made = rest ports Reads orderly.known orderly.no_loop value (λ row other name agree. follows_if row other name (orderly.decide name) agree)

  made_as : (name : Text) (role : Role c name) → row_made name ≡ value_by row_made name role
  unfolding row_made
  made_as name role =
      rest_is ports Reads orderly.known orderly.no_loop value (λ row other x agree. follows_if row other x (orderly.decide x) agree) name
      ∙ value_is row_made name role

  computed : (cell : Text) (prim : Primitive) → c.Cell cell prim → IsComputed row_made cell prim (states cell prim)
  computed cell prim is = ext_get_or 0 seen (outputs row_made cell prim) sizes each
    where
      pins : List Text
      pins = pin_names (outputs_of prim)

      seen : List ℕ
      seen = values_at row_made (dotted cell) pins

      sizes : length seen ≡ length (outputs row_made cell prim)
      sizes = length-map pins (λ pin. row_made (dotted cell pin)) ∙ length-map (outputs_of prim) _ ∙ sym (length-output_values prim (states cell prim) (values_at row_made (dotted cell) (pin_names (inputs_of prim))))

      each : (k : ℕ) → k < length seen → get_or seen k 0 ≡ get_or (outputs row_made cell prim) k 0
      each k lt =
          let within : k < length pins = omega (arith, lt, length-map pins (λ pin. row_made (dotted cell pin))) in
          get_or-map (λ pin. row_made (dotted cell pin)) pins k [] 0 within
          ∙ made_as (dotted cell (get_or pins k [])) (Computed cell prim k (get_or pins k []) is (slice_get-get_or pins k [] within) refl)

  pub row_is : IsRow c t inputs states row_made
  row_is = record {
    given = λ port is. made_as port (Given is);
    driven = λ port drive sink. made_as port (Driven drive sink);
    computed = computed;
  }
