-- What is compiled so far stays so when steps, truths of tests, and ports with their clashes are added.
use Rattle.std.proofs.Common.{◌≡◌, ℕ, ◌+◌, ◌<◌, ◌≤◌, List, [], ◌∷◌, ◌++◌, Bool, true, false, if◌then◌else◌, Option, Some, None, length, length-set, get_or, set, take, refl, sym, ap, ap₂, ◌∙◌, subst, arith}
use Rattle.std.specs.Prelude.{is_some, slice_get, slice_index}
use Rattle.std.proofs.lemmas.List.{take_all}
use Rattle.std.proofs.lemmas.Option.{slice_get-get_or, slice_get_read, slice_get_within}
use Rattle.net_core.specs.Guard.{guard_holds, source_value}
use Rattle.net_core.specs.Netlist.{Netlist}
use Rattle.net_sim.proofs.ConflictLemmas.{numbers_are}
use Rattle.net_sim.proofs.GiverLemmas.{at_some}
use Rattle.net_sim.proofs.PortLemmas.{set_of_number}
use Rattle.net_sim.proofs.PortValueLemmas.{values_in}
use Rattle.net_sim.proofs.SettleLemmas.{acting_is, acting_more, acting_values}
use Rattle.net_sim.proofs.TestLemmas.{number_in}
use Rattle.net_sim.specs.Evaluated.{Clashes}
use Rattle.net_sim.specs.Layout.{name_of, port_names}
use Rattle.net_sim.specs.inside.Settled.{value_if_acting}
use Rattle.net_sim.specs.Sim.{port_row}
use Rattle.net_sim.specs.declared.guards.Test.{Test}
use Rattle.net_sim.specs.declared.plan.Source.{Source}
use Rattle.net_steps.proofs.StepLemmas.{extends_itself, extends_twice}
use Rattle.net_steps.specs.Drivers.{acting}
use Rattle.net_steps.specs.Steps.{Extends}
use Rattle.net_steps.specs.StepsValue.{StepsValue}
use Rattle.net_steps.specs.Truths.{is_true}
use Rattle.net_steps.specs.declared.clashes.Clash.{Clash}
use Rattle.net_steps.specs.declared.drivers.Driver.{Driver}
use Rattle.net_steps.specs.declared.truth.Truth.{Truth}
use Rattle.net_row.proofs.DrivenLemmas.{told_alone}
use Rattle.net_row.proofs.RowLemmas.{each_row_after, keeps_slots, ports_after, ports_with, row_in_before, truths_after, truths_with}
use Rattle.net_row.proofs.TruthLemmas.{same_end, truth_at, truths_more}
use Rattle.net_row.specs.inside.Compiling.{AddsDriver, AddsDrivers, AddsPortSlot, AddsTruths, IsAssignment, frame_in, net_of}
use Rattle.net_row.specs.inside.Ports.{AddsSource, AddsTest, ArePorts, AreTruths, IsMadeOf, IsNumbered, IsSourceValue, IsTold, IsTruthAt}
use Rattle.net_row.specs.Rows.{AreValuesAt, Frame, InEachRow, SlotRow}
use Rattle.net_row.specs.declared.compile.Made.{Made}
use Rattle.net_row.specs.declared.compile.Numbered.{Numbered}
use Rattle.net_row.specs.declared.slots.PortSlots.{PortSlots}
use Rattle.net_row.specs.declared.slots.Truths.{Truths}

-- ---- steps and truths

-- steps were added, and the ports and clashes are the same
pub made_after : (numbered : Numbered) (old new : Made) → Extends old.steps new.steps → new.ports ≡ old.ports → new.clashes ≡ old.clashes → length new.truths.of_tests.items ≡ length numbered.guards.tests.items
    → AreTruths (frame_in numbered) new.steps old.ports.slots.items numbered.guards.tests.items new.truths.of_tests.items → IsMadeOf (net_of numbered) numbered old → IsMadeOf (net_of numbered) numbered new
made_after numbered old new extends ports clashes tests truths is = record {
  base = extends.base ∙ is.base;
  count = ap (λ (p : PortSlots). length p.slots.items) ports ∙ is.count;
  ports = rw (ports, clashes) (ports_after (frame_in numbered) old.steps new.steps extends old.ports.slots.items old.clashes.items is.ports);
  tests = tests;
  truths = rw ports truths;
}

-- the same truths of tests
pub steps_after : (numbered : Numbered) (old new : Made) → Extends old.steps new.steps → new.ports ≡ old.ports → new.clashes ≡ old.clashes → new.truths ≡ old.truths → IsMadeOf (net_of numbered) numbered old → IsMadeOf (net_of numbered) numbered new
steps_after numbered old new extends ports clashes truths is =
    made_after numbered old new extends ports clashes (ap (λ (t : Truths). length t.of_tests.items) truths ∙ is.tests)
    (subst (λ (t : Truths). AreTruths (frame_in numbered) new.steps old.ports.slots.items numbered.guards.tests.items t.of_tests.items) (sym truths)
    (truths_after (frame_in numbered) old.steps new.steps extends old.ports.slots.items numbered.guards.tests.items old.truths.of_tests.items is.truths))
    is

pub nothing_added : (numbered : Numbered) (made : Made) → IsMadeOf (net_of numbered) numbered made → AddsTruths numbered made made
nothing_added numbered made is = record { extends = extends_itself made.steps; ports = refl; clashes = refl; made = is }

pub added_twice : (numbered : Numbered) (old mid new : Made) → AddsTruths numbered old mid → AddsTruths numbered mid new → AddsTruths numbered old new
added_twice numbered old mid new first second = record {
  extends = extends_twice old.steps mid.steps new.steps first.extends second.extends;
  ports = second.ports ∙ first.ports;
  clashes = second.clashes ∙ first.clashes;
  made = second.made;
}

-- steps alone were added
pub steps_added : (numbered : Numbered) (old new : Made) → Extends old.steps new.steps → new.ports ≡ old.ports → new.clashes ≡ old.clashes → new.truths ≡ old.truths → IsMadeOf (net_of numbered) numbered old → AddsTruths numbered old new
steps_added numbered old new extends ports clashes truths is =
    record { extends = extends; ports = ports; clashes = clashes; made = steps_after numbered old new extends ports clashes truths is }

-- the truth of one test was added
pub truth_added : (numbered : Numbered) (old mid new : Made) (place : ℕ) (test : Test) (truth : Truth) → AddsTruths numbered old mid → slice_get numbered.guards.tests.items place ≡ Some test → AddsTest mid.steps new.steps mid.ports.slots.items mid.truths.of_tests.items test truth
    → new.ports ≡ mid.ports → new.clashes ≡ mid.clashes → new.truths.of_tests.items ≡ set mid.truths.of_tests.items place (Some truth) → AddsTruths numbered old new
truth_added numbered old mid new place test truth so_far at adds ports clashes truths =
    added_twice numbered old mid new so_far (record { extends = adds.extends; ports = ports; clashes = clashes; made = made_after numbered mid new adds.extends ports clashes tests are so_far.made })
  where
    within : place < length mid.truths.of_tests.items
    within = omega (arith, slice_get_within numbered.guards.tests.items place test at, so_far.made.tests)

    tests : length new.truths.of_tests.items ≡ length numbered.guards.tests.items
    tests = ap length truths ∙ length-set mid.truths.of_tests.items place (Some truth) ∙ so_far.made.tests

    are : AreTruths (frame_in numbered) new.steps mid.ports.slots.items numbered.guards.tests.items new.truths.of_tests.items
    are = subst (AreTruths (frame_in numbered) new.steps mid.ports.slots.items numbered.guards.tests.items) (sym truths)
        (truths_more (frame_in numbered) mid.steps new.steps mid.ports.slots.items numbered.guards.tests.items mid.truths.of_tests.items place test truth at within adds so_far.made.truths)

-- ---- assignments

one_gives : (is on : Bool) (value other : ℕ) → is ≡ on → value ≡ other → ◌≡◌ {A = List ℕ} (if is then value ∷ [] else []) (if on then other ∷ [] else [])
one_gives true on value other e same = ap₂ (λ b v. if b then v ∷ [] else []) e same
one_gives false on value other e same = ap (λ b. if b then other ∷ [] else []) e

module _ (numbered : Numbered) (is : IsNumbered (net_of numbered) numbered) where
  -- a driver is an assignment, by its source and the truth where the tests of its guard begin
  pub assignment_is : (steps : StepsValue) (ports : List (Option ℕ)) (truths : List (Option Truth)) (number start : ℕ) (source : Source) (driver : Driver) → number < length (net_of numbered).sets → slice_get numbered.sources.items number ≡ Some source → slice_get numbered.guards.starts.items number ≡ Some start
      → InEachRow (frame_in numbered) steps ports (IsSourceValue source driver.source) → AreTruths (frame_in numbered) steps ports numbered.guards.tests.items truths → IsTruthAt truths start driver.truth → InEachRow (frame_in numbered) steps ports (IsAssignment (net_of numbered) number driver)
  assignment_is steps ports truths number start source driver lt at_source at_start has are truth row values in_row size agree =
      let n = net_of numbered in
      let a = at_some n.sets number lt in
      let names = values_in n numbered.order.now numbered.cells.now numbered.sources.items numbered.givers.items is.compiled values size in
      let leads = (is.guards.each number a.0 start a.1 at_start).leads (port_row n values) values names in
      let by_truth = truth_at (frame_in numbered) steps ports numbered.guards.tests.items truths start driver.truth are truth row values in_row size agree in
      let acts = same_end numbered.guards.tests.items values (is_true row.slots driver.truth) (guard_holds (port_row n values) a.0.guard) start by_truth leads in
      let value = has row values in_row size agree ∙ number_in (port_row n values) (port_names n) values a.0.src source names (is.compiled.sourced.each number a.0 source a.1 at_source) in
      one_gives (is_true row.slots driver.truth) (guard_holds (port_row n values) a.0.guard) (slice_index row.slots driver.source) (source_value (port_row n values) a.0.src) acts value
      ∙ sym (ap (value_if_acting (port_row n values)) a.1)

  -- where the tests of a guard begin
  pub start_within : (number start : ℕ) → number < length (net_of numbered).sets → start ≡ get_or numbered.guards.starts.items number start → start < length numbered.guards.tests.items + 2
  start_within number start lt read =
      let a = at_some (net_of numbered).sets number lt in
      (is.guards.each number a.0 start a.1 (slice_get_read numbered.guards.starts.items (length numbered.guards.starts.items) number start refl (omega (arith, lt, is.guards.all)) read)).within

  -- the driver of an assignment, by the source and the start that were read
  pub driver_added : (old mid new : Made) (number start : ℕ) (source : Source) (driver : Driver) → IsMadeOf (net_of numbered) numbered old → number < length (net_of numbered).sets → source ≡ get_or numbered.sources.items number source → start ≡ get_or numbered.guards.starts.items number start
      → AddsSource old.steps mid.steps old.ports.slots.items source driver.source → mid.ports ≡ old.ports → mid.clashes ≡ old.clashes → mid.truths ≡ old.truths → AddsTruths numbered mid new → IsTruthAt new.truths.of_tests.items start driver.truth → AddsDriver numbered old new number driver
  driver_added old mid new number start source driver made lt read_source read_start adds ports clashes truths added truth = record {
    added = added_twice numbered old mid new (steps_added numbered old mid adds.extends ports clashes truths made) added;
    is = assignment_is new.steps new.ports.slots.items new.truths.of_tests.items number start source driver lt
        (slice_get_read numbered.sources.items (length numbered.sources.items) number source refl (omega (arith, lt, is.compiled.sourced.all)) read_source)
        (slice_get_read numbered.guards.starts.items (length numbered.guards.starts.items) number start refl (omega (arith, lt, is.guards.all)) read_start)
        has added.made.truths truth;
  }
    where
      has : InEachRow (frame_in numbered) new.steps new.ports.slots.items (IsSourceValue source driver.source)
      has = subst (λ (p : PortSlots). InEachRow (frame_in numbered) new.steps p.slots.items (IsSourceValue source driver.source)) (sym (added.ports ∙ ports))
          (each_row_after (frame_in numbered) mid.steps new.steps added.extends old.ports.slots.items (IsSourceValue source driver.source) (adds.made (frame_in numbered)))

  -- the number of an assignment to a port
  pub number_within : (port : ℕ) (numbers : List ℕ) (i : ℕ) → port < length (port_names (net_of numbered)) → slice_get numbered.order.now.sets port ≡ Some numbers → i < length numbers → get_or numbers i 0 < length (net_of numbered).sets
  number_within port numbers i within at lt =
      let n = net_of numbered in
      let same = numbers_are n numbered.order.now is.compiled.ordered port within numbers at in
      let set = set_of_number (name_of n port) 0 n.sets i (get_or numbers i 0) (ap (λ l. slice_get l i) same ∙ slice_get-get_or numbers i 0 lt) in
      omega (arith, slice_get_within n.sets set.index set.set set.at, set.counted)

more_gives : (on : Bool) (value : ℕ) (xs ys zs : List ℕ) → xs ≡ ys ++ zs → (if on then value ∷ xs else xs) ≡ (if on then value ∷ ys else ys) ++ zs
more_gives true value xs ys zs e = ap (λ l. value ∷ l) e
more_gives false value xs ys zs e = e

acting_push : (slots : List ℕ) (drivers : List Driver) (driver : Driver) → acting slots (drivers ++ driver ∷ []) ≡ acting slots drivers ++ acting slots (driver ∷ [])
acting_push slots [] driver = refl
acting_push slots (d ∷ drivers) driver =
    more_gives (is_true slots d.truth) (slice_index slots d.source) (acting slots (drivers ++ driver ∷ [])) (acting slots drivers) (acting slots (driver ∷ [])) (acting_push slots drivers driver)

-- the drivers are the assignments with these numbers
abbrev pub AreAssignments : Netlist → List ℕ → List Driver → SlotRow → List ℕ → Type 0
AreAssignments n numbers drivers row values = acting row.slots drivers ≡ acting_values (port_row n values) n.sets numbers

-- the first assignments to a port as drivers
pub record AddsFirst (numbered : Numbered) (old new : Made) (numbers : List ℕ) (drivers : List Driver) : Type 0 where
  pub added : AddsTruths numbered old new
  pub are : InEachRow (frame_in numbered) new.steps new.ports.slots.items (AreAssignments (net_of numbered) numbers drivers)

pub first_none : (numbered : Numbered) (made : Made) (numbers : List ℕ) → IsMadeOf (net_of numbered) numbered made → AddsFirst numbered made made (take 0 numbers) []
first_none numbered made numbers is = record { added = nothing_added numbered made is; are = λ row values in_row size agree. refl }

pub first_more : (numbered : Numbered) (old mid new : Made) (numbers : List ℕ) (i : ℕ) (drivers : List Driver) (driver : Driver) → i < length numbers → AddsFirst numbered old mid (take i numbers) drivers → AddsDriver numbered mid new (get_or numbers i 0) driver → AddsFirst numbered old new (take (i + 1) numbers) (drivers ++ driver ∷ [])
first_more numbered old mid new numbers i drivers driver lt so_far adds = record {
  added = added_twice numbered old mid new so_far.added adds.added;
  are = λ row values in_row size agree.
      let n = net_of numbered in
      let mid_row = row_in_before (frame_in numbered) mid.steps new.steps adds.added.extends row in_row in
      let mid_agree = subst (λ (p : PortSlots). AreValuesAt p.slots.items row values) adds.added.ports agree in
      acting_push row.slots drivers driver
      ∙ ap₂ ◌++◌ (so_far.are row values mid_row size mid_agree) (adds.is row values in_row size agree)
      ∙ sym (acting_more (port_row n values) n.sets numbers i lt);
}

-- all of them drive the port
pub first_all : (numbered : Numbered) (is : IsNumbered (net_of numbered) numbered) (old new : Made) (port : ℕ) (numbers : List ℕ) (i : ℕ) (drivers : List Driver) → port < length (port_names (net_of numbered)) → slice_get numbered.order.now.sets port ≡ Some numbers → length numbers ≤ i → AddsFirst numbered old new (take i numbers) drivers → AddsDrivers numbered old new port drivers
first_all numbered is old new port numbers i drivers within at past first = record {
  added = first.added;
  are = λ row values in_row size agree.
      let n = net_of numbered in
      first.are row values in_row size agree
      ∙ ap (acting_values (port_row n values) n.sets) (take_all i numbers past ∙ sym (numbers_are n numbered.order.now is.compiled.ordered port within numbers at))
      ∙ acting_is (port_row n values) n.sets (name_of n port);
}

-- ---- ports

-- a port that was read to have none
pub none_read : (ports : List (Option ℕ)) (port : ℕ) (read : Option ℕ) → port < length ports → read ≡ get_or ports port read → is_some read ≡ false → slice_get ports port ≡ Some None
none_read ports port None lt is none = slice_get_read ports (length ports) port None refl lt is
none_read ports port (Some slot) lt is none = cc

-- a port that had no slot has one
pub port_added : (numbered : Numbered) (old mid new : Made) (port slot : ℕ) → AddsPortSlot numbered old mid port slot → slice_get old.ports.slots.items port ≡ Some None → new.steps ≡ mid.steps → new.truths ≡ mid.truths → new.clashes ≡ mid.clashes
    → new.ports.slots.items ≡ set mid.ports.slots.items port (Some slot) → IsMadeOf (net_of numbered) numbered new
port_added numbered old mid new port slot adds free steps truths clashes ports = record {
  base = ap (λ (s : StepsValue). s.base) steps ∙ adds.made.base;
  count = ap length ports ∙ length-set mid.ports.slots.items port (Some slot) ∙ adds.made.count;
  ports = rw (ports, steps, clashes) are;
  tests = ap (λ (t : Truths). length t.of_tests.items) truths ∙ adds.made.tests;
  truths = rw (ports, steps, truths)
      (truths_with f mid.steps mid.ports.slots.items (set mid.ports.slots.items port (Some slot)) (keeps_slots mid.ports.slots.items port slot mid_free) numbered.guards.tests.items mid.truths.of_tests.items adds.made.truths);
}
  where
    f : Frame
    f = frame_in numbered

    mid_free : slice_get mid.ports.slots.items port ≡ Some None
    mid_free = ap (λ (p : PortSlots). slice_get p.slots.items port) adds.ports ∙ free

    others : (k : ℕ) (clash : Clash) → slice_get old.clashes.items k ≡ Some clash → clash.port ≡ port → ⊥
    others k clash at same =
        let has = adds.made.ports.others k clash at in
        let both : Some None ≡ Some (Some has.0) = sym mid_free ∙ ap (slice_get mid.ports.slots.items) (sym same) ∙ has.1 in
        cc

    told : InEachRow f mid.steps mid.ports.slots.items (IsTold f.net (old.clashes.items ++ adds.added) port)
    told row values in_row size agree = told_alone old.clashes.items adds.added row.slots port (Clashes f.net (port_row f.net values) port) others (adds.told row values in_row size agree)

    are : ArePorts f mid.steps (set mid.ports.slots.items port (Some slot)) mid.clashes.items
    are = ports_with mid.ports.slots.items port slot mid_free f mid.steps adds.fits old.clashes.items adds.added mid.clashes.items adds.clashes adds.of_port adds.made.ports adds.value
        (subst (λ cs. InEachRow f mid.steps mid.ports.slots.items (IsTold f.net cs port)) (sym adds.clashes) told)
