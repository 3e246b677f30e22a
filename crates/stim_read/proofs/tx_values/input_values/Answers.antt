use Rattle.std.proofs.Common.{◌≡◌, ℕ, true, false, is_some, Vec, Global, Option, map, sym, ap, ◌∙◌}
use Rattle.std.specs.List.{list_all}
use Rattle.hw_bits.specs.Values.{values_of, widths_of}
use Rattle.hw_bits.specs.declared.bits.Bits.{Bits}
use Rattle.stim_read.specs.CycleRules.{Targets, has_known_name}
use Rattle.stim_read.specs.TxEvents.{event_seen}
use Rattle.stim_read.specs.TxRules.{value_given, value_or_0, is_given, or_0, all_fit}
use Rattle.stim_read.specs.Rules.{refused}
use Rattle.stim_read.proofs.FaultLemmas.{told_of}
use Rattle.stim_read.proofs.TxValueLemmas.{match_some, match_none, all_given, found_or_0, fit_as, values_missing, values_wide, values_kept}
use Rattle.stim_read.proofs.tx_values.input_values.Goals as goal

pub returns-then-not-are_given-clause-told : goal.returns-then-not-are_given-clause-told
returns-then-not-are_given-clause-told c =
    let inputs : Targets = (event_seen c.args.event.now).inputs in
    let given = c.args.given.now in
    let found = match_some c.in_ok-found.field-0 c.in-Some.found (list_all (has_known_name inputs.names) given ≡ false)
    (λ (v : Vec (Option ℕ) Global). (list_all (has_known_name inputs.names) given ≡ true) × (v.items ≡ map (value_given given) inputs.names)) c.in-Some.is c.in_ok-found.ensures in
    let missing : list_all (is_given given) inputs.names ≡ false =
    all_given given inputs.names c.in-Some.found.items found.1 ∙ ap (list_all is_some) (sym c.deref.ensures.value) ∙ sym c.are_given.ensures ∙ c.if-not-are_given.true in
    told_of c.refused-then-not-are_given.result (refused 6 c.args.number) _ c.refused-then-not-are_given.ensures (values_missing inputs c.args.number given found.0 missing)

pub returns-in-Some-2-clause-told : goal.returns-in-Some-2-clause-told
returns-in-Some-2-clause-told c =
    let inputs : Targets = (event_seen c.args.event.now).inputs in
    let given = c.args.given.now in
    let ws = c.deref-2.result.now in
    let fs = c.deref-3.result.now in
    let found = match_some c.in_ok-found.field-0 c.in-Some.found (list_all (has_known_name inputs.names) given ≡ false)
    (λ (v : Vec (Option ℕ) Global). (list_all (has_known_name inputs.names) given ≡ true) × (v.items ≡ map (value_given given) inputs.names)) c.in-Some.is c.in_ok-found.ensures in
    let there : list_all (is_given given) inputs.names ≡ true =
    all_given given inputs.names c.in-Some.found.items found.1 ∙ ap (list_all is_some) (sym c.deref.ensures.value) ∙ sym c.are_given.ensures ∙ c.if-not-are_given.false in
    let fitted = match_some c.in_ok-values.field-0 c.in-Some-2.values (all_fit ws (map or_0 fs) ≡ false)
    (λ (v : Vec Bits Global). (all_fit ws (map or_0 fs) ≡ true) × (values_of v.items ≡ map or_0 fs) × (widths_of v.items ≡ ws)) c.in-Some-2.is c.in_ok-values.ensures in
    let values = found_or_0 given inputs.names fs c.in-Some.found.items c.deref-3.ensures.value found.1 in
    values_kept inputs c.args.number given found.0 there (fit_as ws inputs.widths (map or_0 fs) (map (value_or_0 given) inputs.names) true c.deref-2.ensures.value values fitted.0)

pub returns-in-Some-2-clause-values : goal.returns-in-Some-2-clause-values
returns-in-Some-2-clause-values c =
    let inputs : Targets = (event_seen c.args.event.now).inputs in
    let given = c.args.given.now in
    let ws = c.deref-2.result.now in
    let fs = c.deref-3.result.now in
    let found = match_some c.in_ok-found.field-0 c.in-Some.found (list_all (has_known_name inputs.names) given ≡ false)
    (λ (v : Vec (Option ℕ) Global). (list_all (has_known_name inputs.names) given ≡ true) × (v.items ≡ map (value_given given) inputs.names)) c.in-Some.is c.in_ok-found.ensures in
    let fitted = match_some c.in_ok-values.field-0 c.in-Some-2.values (all_fit ws (map or_0 fs) ≡ false)
    (λ (v : Vec Bits Global). (all_fit ws (map or_0 fs) ≡ true) × (values_of v.items ≡ map or_0 fs) × (widths_of v.items ≡ ws)) c.in-Some-2.is c.in_ok-values.ensures in
    let values = found_or_0 given inputs.names fs c.in-Some.found.items c.deref-3.ensures.value found.1 in
    (fitted.1 ∙ values, fitted.2 ∙ c.deref-2.ensures.value)

pub returns-clause-told : goal.returns-clause-told
returns-clause-told c =
    let inputs : Targets = (event_seen c.args.event.now).inputs in
    let given = c.args.given.now in
    let ws = c.deref-2.result.now in
    let fs = c.deref-3.result.now in
    let found = match_some c.in_ok-found.field-0 c.in-Some.found (list_all (has_known_name inputs.names) given ≡ false)
    (λ (v : Vec (Option ℕ) Global). (list_all (has_known_name inputs.names) given ≡ true) × (v.items ≡ map (value_given given) inputs.names)) c.in-Some.is c.in_ok-found.ensures in
    let there : list_all (is_given given) inputs.names ≡ true =
    all_given given inputs.names c.in-Some.found.items found.1 ∙ ap (list_all is_some) (sym c.deref.ensures.value) ∙ sym c.are_given.ensures ∙ c.if-not-are_given.false in
    let wide = match_none c.in_ok-values.field-0 (all_fit ws (map or_0 fs) ≡ false)
    (λ (v : Vec Bits Global). (all_fit ws (map or_0 fs) ≡ true) × (values_of v.items ≡ map or_0 fs) × (widths_of v.items ≡ ws)) c.in-None.is c.in_ok-values.ensures in
    let values = found_or_0 given inputs.names fs c.in-Some.found.items c.deref-3.ensures.value found.1 in
    told_of c.refused-in-None.result (refused 4 c.args.number) _ c.refused-in-None.ensures
    (values_wide inputs c.args.number given found.0 there (fit_as ws inputs.widths (map or_0 fs) (map (value_or_0 given) inputs.names) false c.deref-2.ensures.value values wide))
