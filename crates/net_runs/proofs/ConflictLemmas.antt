-- In a row of an orderly circuit no port has a Conflict, or one is the least by bytes that has.
use Rattle.std.proofs.Common.{◌≡◌, ◌≢◌, ◌⊎◌, inl, inr, ℕ, List, [], ◌∷◌, length, false, refl, sym, ap, arith, subst}
use Rattle.std.proofs.lemmas.Bool.{cases_lt}
use Rattle.std.proofs.lemmas.Cmp.{nat_list_cmp_total}
use Rattle.std.specs.Cmp.{upto}
use Rattle.std.specs.Cmp.Lexicographic.{slice_cmp}
use Rattle.std.specs.Ordering.{nat_cmp, is_gt}
use Rattle.std.specs.declared.cmp.Ordering.{Ordering}
use Rattle.std.specs.declared.cmp.Ordering.TheVariants.{Less, Equal, Greater}
use Rattle.hw_graph.proofs.MemberLemmas.{In}
use Rattle.hw_graph.proofs.NameOrderLemmas.{itself, turned}
use Rattle.hw_names.specs.Name.{Text}
use Rattle.hw_prims.specs.Row.{Row}
use Rattle.net_core.specs.Circuit.{Circuit, HasConflict, IsReported}
use Rattle.net_runs.proofs.OrderlyLemmas.{Role, Given, Driven, Computed, IsOrderly}

abbrev order : Text → Text → Ordering
order = slice_cmp nat_cmp

gt_is : (o : Ordering) → is_gt o ≡ false → o ≢ Greater
gt_is Less e = λ bad. cc
gt_is Equal e = λ bad. cc
gt_is Greater e = λ bad. cc

not_gt : (o : Ordering) → o ≢ Greater → is_gt o ≡ false
not_gt Less ne = refl
not_gt Equal ne = refl
not_gt Greater ne = absurd (ne refl)

-- a name that is at most another, which is at most a third
at_most_trans : (x y z : Text) → order x y ≢ Greater → order y z ≢ Greater → order x z ≢ Greater
at_most_trans x y z le le' = gt_is (order x z) (upto nat_list_cmp_total x y z (not_gt (order x y) le) (not_gt (order y z) le'))

greater_or_not : (o : Ordering) → (o ≡ Greater) ⊎ (o ≢ Greater)
greater_or_not Less = inr (λ bad. cc)
greater_or_not Equal = inr (λ bad. cc)
greater_or_not Greater = inl refl

module _ (c : Circuit) (ports : List Text) (Reads : Text → Text → Type 0) (orderly : IsOrderly c ports Reads) (t : ℕ) (row : Row) where
  abbrev Clash : Text → Type 0
  Clash = HasConflict c t row

  -- a port has a Conflict or not
  clash_or_not : (name : Text) → Clash name ⊎ (Clash name → ⊥)
  clash_or_not name = by (orderly.decide name)
    where
      by : Role c name ⊎ (Role c name → ⊥) → Clash name ⊎ (Clash name → ⊥)
      by (inr none) = inr (λ clash. none (Driven clash.drive clash.sink))
      by (inl (Given is)) = inr (λ clash. orderly.one name (Given is) (Driven clash.drive clash.sink))
      by (inl (Computed cell prim k output is at named)) = inr (λ clash. orderly.one name (Computed cell prim k output is at named) (Driven clash.drive clash.sink))
      by (inl (Driven drive sink)) = elim (cases_lt (length (drive t row)) 2) [
        | inl few ↦ inr (λ clash. let e = orderly.one name (Driven drive sink) (Driven clash.drive clash.sink) t row in omega (arith, few, ap length e, clash.clash))
        | inr many ↦ inl (record { drive = drive; sink = sink; clash = many })
      ]

  -- the least of these names that has a Conflict
  record IsLeastOf (names : List Text) (port : Text) : Type 0 where
    has : Clash port
    least : (other : Text) → In names other → Clash other → order port other ≢ Greater

  one_more : (name : Text) (names : List Text) → Clash name ⊎ (Clash name → ⊥) → ((port : Text) × IsLeastOf names port) ⊎ ((port : Text) → In names port → Clash port → ⊥)
      → ((port : Text) × IsLeastOf (name ∷ names) port) ⊎ ((port : Text) → In (name ∷ names) port → Clash port → ⊥)
  one_more name names (inr none) (inr nothing) = inr (λ port has clash. elim has [ inl same ↦ none (subst Clash (sym same) clash) | inr later ↦ nothing port later clash ])
  one_more name names (inr none) (inl found) = inl (
    found.0,
    record {
      has = found.1.has;
      least = λ other has clash. elim has [ inl same ↦ absurd (none (subst Clash (sym same) clash)) | inr later ↦ found.1.least other later clash ];
    },
  )
  one_more name names (inl clash) (inr nothing) = inl (
    name,
    record {
      has = clash;
      least = λ other has clash'. elim has [ inl same ↦ subst (λ (x : Text). order name x ≢ Greater) same (itself name) | inr later ↦ absurd (nothing other later clash') ];
    },
  )
  one_more name names (inl clash) (inl found) = elim (greater_or_not (order name found.0)) [
    | inl greater ↦ inl (
      found.0,
      record {
        has = found.1.has;
        least = λ other has clash'. elim has [ inl same ↦ subst (λ (x : Text). order found.0 x ≢ Greater) same (turned name found.0 greater) | inr later ↦ found.1.least other later clash' ];
      },
    )
    | inr lesser ↦ inl (
      name,
      record {
        has = clash;
        least = λ other has clash'. elim has [
          | inl same ↦ subst (λ (x : Text). order name x ≢ Greater) same (itself name)
          | inr later ↦ at_most_trans name found.0 other lesser (found.1.least other later clash')
        ];
      },
    )
  ]

  least_among : (names : List Text) → ((port : Text) × IsLeastOf names port) ⊎ ((port : Text) → In names port → Clash port → ⊥)
  least_among [] = inr (λ port has clash. has)
  least_among (name ∷ names) = one_more name names (clash_or_not name) (least_among names)

  listed : (port : Text) → Clash port → In ports port
  listed port clash = orderly.sinks port clash.drive clash.sink

  -- the reported port, or none has a Conflict
  pub reported_or_not : ((port : Text) × IsReported c t row port) ⊎ ((port : Text) → HasConflict c t row port → ⊥)
  reported_or_not = elim (least_among ports) [
    | inl found ↦ inl (found.0, record { has = found.1.has; least = λ other clash. found.1.least other (listed other clash) clash })
    | inr nothing ↦ inr (λ port clash. nothing port (listed port clash) clash)
  ]
