use Rattle.std.proofs.Common.{◌<◌, ◌≤◌, ◌+◌, ◌++◌, ℕ, length, get_or, drop, map, sym, ap, ◌∙◌, arith}
use Rattle.hw_bits.specs.Values.{values_of, widths_of}
use Rattle.hw_bits.specs.declared.bits.Bits.{Bits}
use Rattle.stim_read.specs.CycleRules.{fits_width}
use Rattle.stim_read.proofs.FitLemmas.{unfit, fit}
use Rattle.stim_read.proofs.WalkLemmas.{numbers_go, numbers_stop, numbers_pushed, numbers_mapped, numbers_end, all_ends, mapped_ends}
use Rattle.stim_read.proofs.cycle_memories.fitted.Goals as goal

pub returns-in_default : goal.returns-in_default
returns-in_default c =
    let words = c.args.words.now in
    let i = c.loop-word.word-index in
    let within : i < length words = omega arith in
    sym c.loop-word.invariant.fit ∙ numbers_stop (fits_width c.args.width) words i within (unfit c.new.result c.args.width (get_or words i 0) c.in_default.is c.requires.wide c.requires.narrow c.new.ensures.cause)

pub loop-word-preserved : goal.loop-word-preserved
loop-word-preserved c =
    let words = c.args.words.now in
    let i = c.loop-word.word-index in
    let within : i < length words = omega arith in
    let rest = drop (i + 1) words in
    let made = c.in-Some.ensures.made in
    record {
      fit = sym (numbers_go (fits_width c.args.width) words i within (fit c.new.result c.in-Some.value c.args.width (get_or words i 0) c.in-Some.is c.new.ensures.cause)) ∙ c.loop-word.invariant.fit;
      values = ap (λ ys. values_of ys ++ rest) c.in_ok-push.ensures.items ∙ sym (numbers_pushed (λ (b : Bits). b.value) c.loop-word.values.items words i c.in-Some.value within made.0) ∙ c.loop-word.invariant.values;
      widths = ap (λ ys. widths_of ys ++ map (λ _. c.args.width) rest) c.in_ok-push.ensures.items
          ∙ sym (numbers_mapped (λ _. c.args.width) (λ (b : Bits). b.width) c.loop-word.values.items words i c.in-Some.value within made.1) ∙ c.loop-word.invariant.widths;
    }

pub returns : goal.returns
returns c =
    let words = c.args.words.now in
    let i = c.loop-word.word-index in
    let past : length words ≤ i = omega arith in (
      sym c.loop-word.invariant.fit ∙ all_ends (fits_width c.args.width) words i past,
      sym (numbers_end (values_of c.loop-word.values.items) words i past) ∙ c.loop-word.invariant.values,
      sym (mapped_ends (λ (n : ℕ). c.args.width) (widths_of c.loop-word.values.items) words i past) ∙ c.loop-word.invariant.widths,
    )
