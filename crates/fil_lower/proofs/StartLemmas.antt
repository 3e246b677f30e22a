-- What drives an interface port of an instance: the one start of its event.
use Rattle.std.proofs.Common.{◌≡◌, ℕ, zero, suc, ◌+◌, Bool, List, [], ◌∷◌, ◌++◌, slice_get, Option, Some, None, refl, ap, ap₂, ◌∙◌, arith}
use Rattle.std.specs.Prelude.{if◌then◌else◌}
use Rattle.std.proofs.lemmas.List.{append-nil}
use Rattle.std.proofs.lemmas.Option.{none-some, same_Some}
use Rattle.hw_names.specs.Name.{Text}
use Rattle.net_core.specs.declared.net.Src.TheVariants.{Lit}
use Rattle.cal_ast.specs.Laws.{local_values}
use Rattle.cal_ast.specs.Tree.{Assignment, PortName, port_of}
use Rattle.fil_ast.specs.Signature.{SigEvent}
use Rattle.fil_lower.specs.inside.Lowering.{Lowering, any_of, start_set, start_sets_from, starting_bits}
use Rattle.fil_lower.proofs.BitLemmas.{any_of_holds, some_on}
use Rattle.fil_lower.proofs.CellLemmas.{elsewhere_pin, start_sets_of}
use Rattle.fil_lower.proofs.ValueLemmas.{first_value, joined_values, later_values}

module _ (see : PortName → ℕ) (inst : Text) where
  start_elsewhere : (go name : Text) (bits : List PortName) → (go ≡ name → ⊥) → local_values see (port_of inst name) (start_set inst go bits) ≡ []
  start_elsewhere go name [] apart = refl
  start_elsewhere go name (bit ∷ bits) apart =
      let a : Assignment = record { dst = port_of inst go; guard = Some (any_of (bit ∷ bits)); src = Lit 1 1 } in
      later_values see (port_of inst name) a [] (elsewhere_pin see (port_of inst name) a apart)

  -- a start gives 1 where one of its bits is 1
  pub start_value : (go : Text) (bits : List PortName) → local_values see (port_of inst go) (start_set inst go bits) ≡ (if some_on see bits then 1 ∷ [] else [])
  start_value go [] = refl
  start_value go (bit ∷ bits) =
      first_value see (port_of inst go) (record { dst = port_of inst go; guard = Some (any_of (bit ∷ bits)); src = Lit 1 1 }) [] refl
      ∙ ap (λ (b : Bool). if b then 1 ∷ [] else []) (any_of_holds see (bit ∷ bits))

  module _ (l : Lowering) where
    of_go : (k : ℕ) (name : Text) (go : Option Text) → ((g : Text) → go ≡ Some g → g ≡ name → ⊥) → local_values see (port_of inst name) (start_sets_of l inst k go) ≡ []
    of_go k name None apart = refl
    of_go k name (Some g) apart = start_elsewhere g name (starting_bits l inst k) (apart g refl)

    -- a pin that is no interface port
    pub no_start : (name : Text) (k : ℕ) (events : List SigEvent) → ((j : ℕ) (e : SigEvent) (go : Text) → slice_get events j ≡ Some e → e.go ≡ Some go → go ≡ name → ⊥) →
        local_values see (port_of inst name) (start_sets_from l inst k events) ≡ []
    no_start name k [] apart = refl
    no_start name k (e ∷ events) apart =
        joined_values see (port_of inst name) (start_sets_of l inst k e.go) (start_sets_from l inst (suc k) events)
        ∙ ap₂ ◌++◌ (of_go k name e.go (λ g is. apart 0 e g refl is)) (no_start name (suc k) events (λ j f go at is. apart (suc j) f go at is))

    -- the interface port of an event, which is no other's
    pub one_start : (k j : ℕ) (events : List SigEvent) (e : SigEvent) (go : Text) → slice_get events j ≡ Some e → e.go ≡ Some go →
        ((i : ℕ) (f : SigEvent) → slice_get events i ≡ Some f → f.go ≡ Some go → i ≡ j) →
        local_values see (port_of inst go) (start_sets_from l inst k events) ≡ local_values see (port_of inst go) (start_set inst go (starting_bits l inst (k + j)))
    one_start k j [] e go at is only = absurd (none-some e at)
    one_start k zero (f ∷ events) e go at is only =
        let same : f.go ≡ Some go = ap (λ (x : SigEvent). x.go) (same_Some f e at) ∙ is in
        let number : k ≡ k + 0 = omega arith in
        joined_values see (port_of inst go) (start_sets_of l inst k f.go) (start_sets_from l inst (suc k) events)
        ∙ ap (λ rest. local_values see (port_of inst go) (start_sets_of l inst k f.go) ++ rest)
        (no_start go (suc k) events (λ i x g at_i is_g same_g. let zero_is = only (suc i) x at_i (is_g ∙ ap Some same_g) in omega (arith, zero_is)))
        ∙ append-nil (local_values see (port_of inst go) (start_sets_of l inst k f.go))
        ∙ ap (λ (o : Option Text). local_values see (port_of inst go) (start_sets_of l inst k o)) same
        ∙ ap (λ (m : ℕ). local_values see (port_of inst go) (start_set inst go (starting_bits l inst m))) number
    one_start k (suc j) (f ∷ events) e go at is only =
        let number : suc k + j ≡ k + suc j = omega arith in
        joined_values see (port_of inst go) (start_sets_of l inst k f.go) (start_sets_from l inst (suc k) events)
        ∙ ap₂ ◌++◌ (of_go k go f.go (λ g is_g same. let zero_is = only 0 f refl (is_g ∙ ap Some same) in omega (arith, zero_is)))
        (one_start (suc k) j events e go at is (λ i x at_i is_x. let more = only (suc i) x at_i is_x in omega (arith, more)))
        ∙ ap (λ (m : ℕ). local_values see (port_of inst go) (start_set inst go (starting_bits l inst m))) number
