use Rattle.std.proofs.Common.{◌≡◌, ◌+◌, ◌<◌, ◌≤◌, ◌++◌, length, map, drop, get_or, sym, ap, ◌∙◌, arith}
use Rattle.std.proofs.lemmas.List.{length-map}
use Rattle.hw_bits.specs.Values.{values_of, widths_of}
use Rattle.hw_bits.specs.declared.bits.Bits.{Bits}
use Rattle.hw_bits.specs.declared.bits.TheConstants.{MAX_WIDTH}
use Rattle.stim_read.specs.CycleRules.{fits_width}
use Rattle.stim_read.specs.TxRules.{or_0}
use Rattle.stim_read.proofs.FitLemmas.{unfit, fit}
use Rattle.stim_read.proofs.TxValueLemmas.{fit_goes, fit_stops, or_0_at}
use Rattle.stim_read.proofs.WalkLemmas.{numbers_pushed}
use Rattle.stim_read.proofs.tx_values.fitted.Goals as goal

pub returns-in_default : goal.returns-in_default
returns-in_default c =
    let widths = c.args.widths.now in
    let found = c.args.found.now in
    let i = c.loop-place.place in
    let w = get_or widths i 0 in
    let within : i < length widths = omega arith in
    let inside : i < length found = omega (arith, within, c.requires.paired) in
    let there : i < length (map or_0 found) = omega (arith, inside, length-map found or_0) in
    let value : c.unwrap_or.result ≡ get_or (map or_0 found) i 0 = c.unwrap_or.ensures ∙ sym (or_0_at found i inside) in
    let wide : (1 ≤ w) × (w ≤ MAX_WIDTH) = c.requires.widths i 0 within in
    sym c.loop-place.invariant.fit ∙ fit_stops widths (map or_0 found) i within there (ap (fits_width w) (sym value) ∙ unfit c.new.result w c.unwrap_or.result c.in_default.is wide.0 wide.1 c.new.ensures.cause)

pub loop-place-preserved : goal.loop-place-preserved
loop-place-preserved c =
    let widths = c.args.widths.now in
    let found = c.args.found.now in
    let i = c.loop-place.place in
    let w = get_or widths i 0 in
    let within : i < length widths = omega arith in
    let inside : i < length found = omega (arith, within, c.requires.paired) in
    let there : i < length (map or_0 found) = omega (arith, inside, length-map found or_0) in
    let value : c.unwrap_or.result ≡ get_or (map or_0 found) i 0 = c.unwrap_or.ensures ∙ sym (or_0_at found i inside) in
    let made = c.in-Some.ensures.made in
    record {
      fit = sym (fit_goes widths (map or_0 found) i within there (ap (fits_width w) (sym value) ∙ fit c.new.result c.in-Some.value w c.unwrap_or.result c.in-Some.is c.new.ensures.cause)) ∙ c.loop-place.invariant.fit;
      values = ap (λ ys. values_of ys ++ drop (i + 1) (map or_0 found)) c.in_ok-push.ensures.items
          ∙ sym (numbers_pushed (λ (b : Bits). b.value) c.loop-place.values.items (map or_0 found) i c.in-Some.value there (made.0 ∙ value)) ∙ c.loop-place.invariant.values;
      widths = ap (λ ys. widths_of ys ++ drop (i + 1) widths) c.in_ok-push.ensures.items
          ∙ sym (numbers_pushed (λ (b : Bits). b.width) c.loop-place.values.items widths i c.in-Some.value within made.1) ∙ c.loop-place.invariant.widths;
    }
