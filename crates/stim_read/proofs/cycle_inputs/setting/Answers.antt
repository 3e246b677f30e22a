use Rattle.std.proofs.Common.{◌≡◌, ◌≤◌, true, false, sym, ap, subst, ◌∙◌}
use Rattle.std.proofs.lemmas.Bool.{false≢true}
use Rattle.net_core.specs.declared.stimulus.InputShape.{InputShape}
use Rattle.hw_bits.specs.declared.bits.TheConstants.{MAX_WIDTH}
use Rattle.hw_names.specs.Name.{Text}
use Rattle.stim_read.specs.Parts.{is_one_of}
use Rattle.stim_read.specs.CycleRules.{input_targets, place_in}
use Rattle.stim_read.proofs.FitLemmas.{Made, unfit, fit, given_as, same_setting}
use Rattle.stim_read.proofs.PlaceLemmas.{place_within, field_at, all_hold}
use Rattle.stim_read.proofs.cycle_inputs.setting.Goals as goal

abbrev name : InputShape → Text
name p = p.name

abbrev HasWidth : InputShape → Type 0
HasWidth p = (1 ≤ p.width) × (p.width ≤ MAX_WIDTH)

pub returns-in_err-input : goal.returns-in_err-input
returns-in_err-input c =
    let unknown : is_one_of c.args.names.now c.bytes.result.now ≡ false = c.in_err-input.ensures.place in
    let known : is_one_of c.args.names.now c.bytes.result.now ≡ true = ap (is_one_of c.args.names.now) c.bytes.ensures ∙ c.requires.known in
    absurd (false≢true (sym unknown ∙ known))

pub bounds-ins-input : goal.bounds-ins-input
bounds-ins-input c = place_within name c.args.ins.now c.args.names.now c.in_ok-input.input c.requires.names c.in_ok-input.ensures.place.2

pub bounds-ins-input-in_ok-input : goal.bounds-ins-input-in_ok-input
bounds-ins-input-in_ok-input c = place_within name c.args.ins.now c.args.names.now c.in_ok-input.input c.requires.names c.in_ok-input.ensures.place.2

pub returns-in_err-value : goal.returns-in_err-value
returns-in_err-value c =
    let ins = c.args.ins.now in
    let port = c.index-ins-input.result in
    let within = place_within name ins c.args.names.now c.in_ok-input.input c.requires.names c.in_ok-input.ensures.place.2 in
    let cause : Made c.new.result port.width c.args.given.now.value = subst (λ (i : InputShape). Made c.new.result i.width c.args.given.now.value) (sym c.index-ins-input.is) c.new.ensures.cause in
    let width = field_at name (λ (i : InputShape). i.width) ins c.args.names.now c.args.given.now.name c.bytes.result.now c.in_ok-input.input port c.requires.names c.bytes.ensures c.in_ok-input.ensures.place.1 within c.index-ins-input.is in
    let wide = all_hold HasWidth ins c.in_ok-input.input port c.requires.widths within c.index-ins-input.is in
    rw c.from_residual-in_err-value.ensures (given_as (input_targets ins) c.args.given.now port.width false width (unfit c.new.result port.width c.args.given.now.value c.in_err-value.was wide.0 wide.1 cause))

pub returns : goal.returns
returns c =
    let ins = c.args.ins.now in
    let port = c.index-ins-input.result in
    let within = place_within name ins c.args.names.now c.in_ok-input.input c.requires.names c.in_ok-input.ensures.place.2 in
    let cause : Made c.new.result port.width c.args.given.now.value = subst (λ (i : InputShape). Made c.new.result i.width c.args.given.now.value) (sym c.index-ins-input.is) c.new.ensures.cause in
    let width = field_at name (λ (i : InputShape). i.width) ins c.args.names.now c.args.given.now.name c.bytes.result.now c.in_ok-input.input port c.requires.names c.bytes.ensures c.in_ok-input.ensures.place.1 within c.index-ins-input.is in
    let made = c.in_ok-value.ensures.made in
    let place : c.in_ok-input.input ≡ place_in (input_targets ins).names c.args.given.now.name = c.in_ok-input.ensures.place.1 ∙ (λ j. place_in (c.requires.names j) (c.bytes.ensures j)) in (
      given_as (input_targets ins) c.args.given.now port.width true width (fit c.new.result c.in_ok-value.value port.width c.args.given.now.value c.in_ok-value.was cause),
      same_setting c.args.from c.in_ok-input.input _ c.in_ok-value.value.value c.args.given.now.value c.in_ok-value.value.width _ place made.0 (made.1 ∙ ap (λ (i : InputShape). i.width) (sym c.index-ins-input.is) ∙ sym width),
    )
