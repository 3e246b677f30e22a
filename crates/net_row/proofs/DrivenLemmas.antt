-- What assignments give a port: it fits the port's width, and its Conflicts are told by clashes.
use Rattle.std.proofs.Common.{◌≡◌, ◌↔◌, ℕ, zero, suc, ◌+◌, ◌-◌, ◌<◌, ◌≤◌, ◌^◌, Bool, true, false, ◌||◌, if◌then◌else◌, List, [], ◌∷◌, ◌++◌, Option, Some, None, length, get_or, refl, sym, ap, ◌∙◌, subst, arith, inl, inr}
use Rattle.std.specs.Prelude.{All, slice_get}
use Rattle.std.specs.List.{list_any}
use Rattle.std.proofs.Math.Pow.{pow_pos}
use Rattle.std.proofs.lemmas.Bool.{cases_lt}
use Rattle.std.proofs.lemmas.List.Elements.{All-nil, All-cons, All-head, All-tail, All-append}
use Rattle.std.proofs.lemmas.Option.{none-some, same_Some, slice_get_within, slice_get-get_or}
use Rattle.hw_names.specs.Name.{Text}
use Rattle.hw_prims.specs.Row.{Row}
use Rattle.net_core.specs.Circuit.{settled}
use Rattle.net_core.specs.Guard.{guard_holds, source_value}
use Rattle.net_core.specs.NetRun.{values_for}
use Rattle.net_core.specs.Netlist.{Netlist, SetLine}
use Rattle.net_sim.proofs.GiverLemmas.{at_some}
use Rattle.net_sim.proofs.PlanLemmas.{number_fits, source_has_width, width_of}
use Rattle.net_sim.proofs.PortValueLemmas.{values_in}
use Rattle.net_sim.proofs.SettleLemmas.{acting_is, acting_values}
use Rattle.net_sim.proofs.TestLemmas.{number_in}
use Rattle.net_sim.proofs.ValidLemmas.{slice_get-append_before, slice_get-append_right}
use Rattle.net_sim.specs.Evaluated.{HasWidth, source_number}
use Rattle.net_sim.specs.Layout.{port_names, port_widths, name_of}
use Rattle.net_sim.specs.OrderValue.{OrderValue}
use Rattle.net_sim.specs.Plan.{IsCompiled}
use Rattle.net_sim.specs.PortOrder.{numbers_of}
use Rattle.net_sim.specs.inside.Settled.{value_if_acting}
use Rattle.net_sim.specs.Sim.{port_row}
use Rattle.net_sim.specs.declared.cells.CellPorts.{CellPorts}
use Rattle.net_sim.specs.declared.plan.Giver.{Giver}
use Rattle.net_sim.specs.declared.plan.Source.{Source}
use Rattle.net_sim.specs.declared.plan.Source.TheVariants.{Slot, Fixed}
use Rattle.net_steps.specs.Conflicts.{Clashes as ClashesIn}
use Rattle.net_steps.specs.Drivers.{is_clash}
use Rattle.net_steps.specs.Operations.{has_two}
use Rattle.net_steps.specs.declared.clashes.Clash.{Clash}
use Rattle.net_row.proofs.RowLemmas.{AreWithin}

-- ---- widths

abbrev Fits : ℕ → ℕ → Type 0
Fits width value = value < 2 ^ width

settled_fits : (width : ℕ) (values : List ℕ) → All (Fits width) values → settled values < 2 ^ width
settled_fits width [] all = pow_pos width
settled_fits width (v ∷ []) all = All-head (Fits width) v [] all
settled_fits width (v ∷ w ∷ values) all = pow_pos width

-- the value of a source of this width fits it
source_fits : (widths values : List ℕ) (width : ℕ) (source : Source) → length values ≡ length widths → AreWithin widths values → HasWidth widths width source → source_number values source < 2 ^ width
source_fits widths values width (Slot k) count fit has =
    let within : k < length values = omega (arith, count, slice_get_within widths k width has) in
    fit k (get_or values k 0) width (slice_get-get_or values k 0 within) has
source_fits widths values width (Fixed bits) count fit has = subst (λ w. bits.value < 2 ^ w) has bits.fits

acting_one : (on : Bool) (width value : ℕ) → value < 2 ^ width → All (Fits width) (if on then value ∷ [] else [])
acting_one true width value fits = All-cons (Fits width) value [] fits (All-nil (Fits width))
acting_one false width value fits = All-nil (Fits width)

acting_fit : (row : Row) (sets : List SetLine) (width : ℕ) (numbers : List ℕ) → ((i k : ℕ) (a : SetLine) → slice_get numbers i ≡ Some k → slice_get sets k ≡ Some a → source_value row a.src < 2 ^ width) → All (Fits width) (acting_values row sets numbers)
acting_fit row sets width [] each = All-nil (Fits width)
acting_fit row sets width (k ∷ numbers) each =
    All-append (Fits width) (value_if_acting row (slice_get sets k)) (acting_values row sets numbers) (first (slice_get sets k) refl)
    (acting_fit row sets width numbers (λ i j a at here. each (suc i) j a at here))
  where
    first : (o : Option SetLine) → slice_get sets k ≡ o → All (Fits width) (value_if_acting row o)
    first None is = All-nil (Fits width)
    first (Some a) is = acting_one (guard_holds row a.guard) width (source_value row a.src) (each 0 k a refl is)

module _ (n : Netlist) (order : OrderValue) (cells : List CellPorts) (sources : List Source) (givers : List Giver) (compiled : IsCompiled n order cells sources givers) (values : List ℕ) (size : length values ≡ length (port_names n)) (counted : length values ≡ length (port_widths n)) (fit : AreWithin (port_widths n) values) where
  -- what assignments give a port fits its width, where all values fit theirs
  pub driven_fits : (port : ℕ) → port < length (port_names n) → settled (values_for (name_of n port) (port_row n values) n.sets) < 2 ^ get_or (port_widths n) port 0
  driven_fits port within =
      settled_fits width (values_for name row n.sets)
      (subst (All (Fits width)) (acting_is row n.sets name) (acting_fit row n.sets width (numbers_of name 0 n.sets) each))
    where
      name : Text
      name = name_of n port

      row : Row
      row = port_row n values

      width : ℕ
      width = get_or (port_widths n) port 0

      each : (i k : ℕ) (a : SetLine) → slice_get (numbers_of name 0 n.sets) i ≡ Some k → slice_get n.sets k ≡ Some a → source_value row a.src < 2 ^ width
      each i k a at here =
          let lt = slice_get_within n.sets k a here in
          let s = at_some sources k (omega (arith, lt, compiled.sourced.all)) in
          let is = compiled.sourced.each k a s.0 here s.1 in
          let wide = number_fits n order cells sources givers compiled name i k at a here ∙ width_of n order cells sources givers compiled port within in
          let has = subst (λ w. HasWidth (port_widths n) w s.0) wide (source_has_width n order cells sources givers compiled a.src s.0 is) in
          let number = number_in row (port_names n) values a.src s.0 (values_in n order cells sources givers compiled values size) is in
          subst (λ v. v < 2 ^ width) number (source_fits (port_widths n) values width s.0 counted fit has)

-- ---- clashes

clash_later : (clash : Clash) (clashes : List Clash) (slots : List ℕ) (port : ℕ) → ClashesIn clashes slots port → ClashesIn (clash ∷ clashes) slots port
clash_later clash clashes slots port is = record { number = suc is.number; clash = is.clash; at = is.at; of_port = is.of_port; both = is.both }

-- one of the clashes of a port is on
told_by_any : (slots : List ℕ) (port : ℕ) (clashes : List Clash) → All (λ (clash : Clash). clash.port ≡ port) clashes → list_any (is_clash slots) clashes ≡ true → ClashesIn clashes slots port
told_by_any slots port [] all on = cc
told_by_any slots port (clash ∷ clashes) all on = by (is_clash slots clash) refl on (told_by_any slots port clashes (All-tail (λ (c : Clash). c.port ≡ port) clash clashes all))
  where
    of_port : clash.port ≡ port
    of_port = All-head (λ (c : Clash). c.port ≡ port) clash clashes all

    by : (b : Bool) → is_clash slots clash ≡ b → (b || list_any (is_clash slots) clashes) ≡ true → (list_any (is_clash slots) clashes ≡ true → ClashesIn clashes slots port) → ClashesIn (clash ∷ clashes) slots port
    by true is on' later = record { number = 0; clash = clash; at = refl; of_port = of_port; both = is }
    by false is on' later = clash_later clash clashes slots port (later on')

any_by_place : (slots : List ℕ) (clashes : List Clash) (k : ℕ) (clash : Clash) → slice_get clashes k ≡ Some clash → is_clash slots clash ≡ true → list_any (is_clash slots) clashes ≡ true
any_by_place slots [] k clash at on = absurd (none-some clash at)
any_by_place slots (c ∷ clashes) zero clash at on = let same : c ≡ clash = same_Some c clash at in ap (λ b. b || list_any (is_clash slots) clashes) (ap (is_clash slots) same ∙ on)
any_by_place slots (c ∷ clashes) (suc k) clash at on = ap (λ b. is_clash slots c || b) (any_by_place slots clashes k clash at on) ∙ or_true (is_clash slots c)
  where
    or_true : (b : Bool) → (b || true) ≡ true
    or_true true = refl
    or_true false = refl

two_long : (values : List ℕ) → has_two values ≡ true → 2 ≤ length values
two_long [] e = cc
two_long (v ∷ []) e = cc
two_long (v ∷ w ∷ values) e = omega arith

long_two : (values : List ℕ) → 2 ≤ length values → has_two values ≡ true
long_two [] le = absurd (omega (arith, le))
long_two (v ∷ []) le = absurd (omega (arith, le))
long_two (v ∷ w ∷ values) le = refl

-- the clashes of a port tell where two values or more act
pub told_by_two : (slots : List ℕ) (port : ℕ) (clashes : List Clash) (acts values : List ℕ) → All (λ (clash : Clash). clash.port ≡ port) clashes → list_any (is_clash slots) clashes ≡ has_two acts → acts ≡ values → (2 ≤ length values) ↔ ClashesIn clashes slots port
told_by_two slots port clashes acts values all is same = (
  (λ long. told_by_any slots port clashes all (is ∙ ap has_two same ∙ long_two values long)),
  (λ clash. two_long values (sym (is ∙ ap has_two same) ∙ any_by_place slots clashes clash.number clash.clash clash.at clash.both)),
)

-- no clash tells of a port without a Conflict
pub told_by_none : (slots : List ℕ) (port : ℕ) (Claim : Type 0) → (Claim → ⊥) → Claim ↔ ClashesIn [] slots port
told_by_none slots port Claim never = ((λ claim. absurd (never claim)), (λ clash. absurd (none-some clash.clash clash.at)))

-- clashes of other ports before tell nothing of the port
pub told_alone : (before added : List Clash) (slots : List ℕ) (port : ℕ) (Claim : Type 0) → ((k : ℕ) (clash : Clash) → slice_get before k ≡ Some clash → clash.port ≡ port → ⊥) → Claim ↔ ClashesIn added slots port → Claim ↔ ClashesIn (before ++ added) slots port
told_alone before added slots port Claim others told = (
  (λ claim.
      let is = told.0 claim in
      record { number = length before + is.number; clash = is.clash; at = slice_get-append_right before added is.number ∙ is.at; of_port = is.of_port; both = is.both }),
  (λ is. elim (cases_lt is.number (length before)) [
    | inl lt ↦ absurd (others is.number is.clash (sym (slice_get-append_before before added is.number lt) ∙ is.at) is.of_port)
    | inr le ↦
        let split : length before + (is.number - length before) ≡ is.number = omega (arith, le) in
        told.1 (record { number = is.number - length before; clash = is.clash; at = sym (slice_get-append_right before added (is.number - length before)) ∙ ap (slice_get (before ++ added)) split ∙ is.at; of_port = is.of_port; both = is.both })
  ]),
)
