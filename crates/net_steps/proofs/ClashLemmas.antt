-- The least port that clashes, one clash after another.
use Rattle.std.proofs.Common.{◌≡◌, ℕ, ◌+◌, ◌<◌, ◌≤◌, List, Option, Some, None, true, false, length, refl, sym, ap, subst, ◌∙◌, arith, inl, inr, ◌⊎◌}
use Rattle.std.specs.Prelude.{slice_get, IfSome}
use Rattle.std.proofs.lemmas.Bool.{cases_lt}
use Rattle.std.proofs.lemmas.Option.{same_Some, slice_get_within}
use Rattle.hw_graph.proofs.NameOrderLemmas.{at_most_itself, at_most_trans}
use Rattle.hw_graph.specs.ByName.{IsAtMost, IsLeastWith}
use Rattle.hw_names.specs.Name.{Text}
use Rattle.net_steps.specs.Conflicts.{Clashes, IsLeastClash}
use Rattle.net_steps.specs.Drivers.{is_clash}
use Rattle.net_steps.specs.declared.clashes.Clash.{Clash}

-- one of the first clashes
pub record ClashesUpto (clashes : List Clash) (slots : List ℕ) (number : ℕ) (port : ℕ) : Type 0 where
  pub clash : Clashes clashes slots port
  pub before : clash.number < number

-- the least port of the first clashes
abbrev pub IsLeastUpto : List Text → List Clash → List ℕ → ℕ → Option ℕ → Type 0
IsLeastUpto names clashes slots number None = (port : ℕ) → ClashesUpto clashes slots number port → ⊥
IsLeastUpto names clashes slots number (Some least) = ClashesUpto clashes slots number least × ((port : ℕ) → ClashesUpto clashes slots number port → IsAtMost names least port)

pub least_none : (names : List Text) (clashes : List Clash) (slots : List ℕ) → IsLeastUpto names clashes slots 0 None
least_none names clashes slots = λ port c. let b = c.before in absurd (omega (arith, b))

-- at the end
pub least_all : (names : List Text) (clashes : List Clash) (slots : List ℕ) (number : ℕ) (found : Option ℕ) → length clashes ≤ number → IsLeastUpto names clashes slots number found → IsLeastClash names clashes slots found
least_all names clashes slots number None over least =
    λ port c. least port (record { clash = c; before = let lt = slice_get_within clashes c.number c.clash c.at in omega (arith, lt, over) })
least_all names clashes slots number (Some p) over least =
    (least.0.clash, λ port c. least.1 port (record { clash = c; before = let lt = slice_get_within clashes c.number c.clash c.at in omega (arith, lt, over) }))

module _ (names : List Text) (clashes : List Clash) (slots : List ℕ) (number : ℕ) (here : Clash) (at : slice_get clashes number ≡ Some here) where
  later : (port : ℕ) → ClashesUpto clashes slots number port → ClashesUpto clashes slots (number + 1) port
  later port c = record { clash = c.clash; before = let b = c.before in omega (arith, b) }

  this : is_clash slots here ≡ true → ClashesUpto clashes slots (number + 1) here.port
  this on = record { clash = record { number = number; clash = here; at = at; of_port = refl; both = on }; before = omega arith }

  -- a clash up to this one is an earlier one, or it
  earlier : (port : ℕ) → ClashesUpto clashes slots (number + 1) port → ClashesUpto clashes slots number port ⊎ ((port ≡ here.port) × (is_clash slots here ≡ true))
  earlier port c = elim (cases_lt c.clash.number number) [
    | inl before ↦ inl (record { clash = c.clash; before = before })
    | inr beyond ↦
        let b = c.before in
        let e : c.clash.number ≡ number = omega (arith, b, beyond) in
        let same : c.clash.clash ≡ here = same_Some c.clash.clash here (sym c.clash.at ∙ ap (slice_get clashes) e ∙ at) in
        inr (sym c.clash.of_port ∙ ap (λ (x : Clash). x.port) same, ap (is_clash slots) (sym same) ∙ c.clash.both)
  ]

  -- where this one does not clash
  pub least_kept : (found : Option ℕ) → is_clash slots here ≡ false → IsLeastUpto names clashes slots number found → IsLeastUpto names clashes slots (number + 1) found
  least_kept None off least = λ port c. elim (earlier port c) [ inl before ↦ least port before | inr e ↦ let on = e.1 in cc ]
  least_kept (Some p) off least =
      (later p least.0, λ port c. elim (earlier port c) [ inl before ↦ least.1 port before | inr e ↦ let on = e.1 in cc ])

  -- where it does
  pub least_with : (found : Option ℕ) (least : ℕ) → is_clash slots here ≡ true → IsLeastWith names found here.port least → IsLeastUpto names clashes slots number found → IsLeastUpto names clashes slots (number + 1) (Some least)
  least_with None least on is none = (
    subst (ClashesUpto clashes slots (number + 1)) (sym is) (this on),
    λ port c. elim (earlier port c) [
      | inl before ↦ absurd (none port before)
      | inr e ↦ subst (λ q. IsAtMost names q port) (sym is) (subst (IsAtMost names here.port) (sym e.0) (at_most_itself names here.port))
    ],
  )
  least_with (Some p) least on is found = (
    elim is.one [
      | inl e ↦ subst (ClashesUpto clashes slots (number + 1)) (sym e) (later p found.0)
      | inr e ↦ subst (ClashesUpto clashes slots (number + 1)) (sym e) (this on)
    ],
    λ port c. elim (earlier port c) [
      | inl before ↦ at_most_trans names least p port is.first (found.1 port before)
      | inr e ↦ subst (IsAtMost names least) (sym e.0) is.second
    ],
  )

-- the lesser of two ports is one of the names
pub within_with : (names : List Text) (found : Option ℕ) (port least : ℕ) → port < length names → IfSome found (λ other. other < length names) → IsLeastWith names found port least → least < length names
within_with names None port least lt within is = subst (λ p. p < length names) (sym is) lt
within_with names (Some other) port least lt within is = elim is.one [
  | inl e ↦ subst (λ p. p < length names) (sym e) within
  | inr e ↦ subst (λ p. p < length names) (sym e) lt
]
