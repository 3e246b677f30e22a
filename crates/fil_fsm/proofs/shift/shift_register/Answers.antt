use Rattle.std.proofs.Common.{◌≡◌, ℕ, ◌^◌, ◌<◌, subst, arith}
use Rattle.hw_names.specs.Name.{KeepsTexts}
use Rattle.std.proofs.lemmas.Option.{slice_get_within}
use Rattle.fil_fsm.proofs.FreshLemmas.{KeepsTexts-refl, KeepsTexts-trans, AreRegisterTexts-KeepsTexts}
use Rattle.fil_fsm.proofs.NumberLemmas.{PortHasNumbers-KeepsTexts, source_numbers}
use Rattle.fil_fsm.proofs.GrownLemmas.{IsGrown, IsGrown-source, IsGrown-more, IsShiftRegister-grown}
use Rattle.fil_fsm.proofs.shift.shift_register.Goals as goal

pub loop-init : goal.loop-init
loop-init c = record {
  kept = c.in_ok-texts.ensures.kept;
  texts = c.in_ok-texts.ensures.texts;
  numbers = λ later more.
      let known = PortHasNumbers-KeepsTexts c.args.names.now later c.args.go (KeepsTexts-trans c.args.names.now c.register_texts.new.names later c.in_ok-texts.ensures.kept more) c.requires.numbers in
      (source_numbers later c.args.go c.in_ok-parts.parts c.in_ok-parts.ensures.cells c.in_ok-parts.ensures.sets c.in_ok-parts.ensures.bits known, known);
  grown = IsGrown-source c.args.names.now c.register_texts.new.names c.args.go c.in_ok-parts.parts c.requires.numbers c.in_ok-texts.ensures.kept c.in_ok-parts.ensures.cells c.in_ok-parts.ensures.sets c.in_ok-parts.ensures.bits;
}

pub loop-preserved : goal.loop-preserved
loop-preserved c =
    let more : KeepsTexts c.loop.names c.fresh.new.names = c.in_ok-name.ensures.kept in
    let small : c.in_ok-name.name.number < 2 ^ 64 = omega (arith, c.in_ok-name.ensures.small) in
    record {
      kept = KeepsTexts-trans c.args.names.now c.loop.names c.fresh.new.names c.loop.invariant.kept more;
      numbers = λ later keeps.
          let before = KeepsTexts-trans c.loop.names c.fresh.new.names later more keeps in
          let are = AreRegisterTexts-KeepsTexts c.loop.names later c.in_ok-texts.texts before c.loop.invariant.texts in
          let known = slice_get_within later c.in_ok-name.name.id.0 _ (keeps _ _ c.in_ok-name.ensures.text) in
          let was = c.loop.invariant.numbers later before in
          (c.in_ok-bit.ensures.numbers later are known was.1 was.0, c.in_ok-bit.ensures.bit_numbers later are known);
      texts = AreRegisterTexts-KeepsTexts c.loop.names c.fresh.new.names c.in_ok-texts.texts more c.loop.invariant.texts;
      grown = IsGrown-more c.in_ok-texts.texts c.in_ok-name.name.id c.loop.bit c.loop.parts c.add_register.new.parts c.in_ok-bit.bit
          c.args.names.now c.loop.names c.fresh.new.names c.args.go c.loop.counter c.in_ok-name.name.number c.loop.invariant.grown
          (record { cells = c.in_ok-bit.ensures.cell; sets = c.in_ok-bit.ensures.sets; bits = c.in_ok-bit.ensures.bits; bit = c.in_ok-bit.ensures.bit })
          c.loop.invariant.texts c.loop.invariant.kept more small c.in_ok-name.ensures.text c.in_ok-name.ensures.absent;
    }

pub returns-clause-numbers : goal.returns-clause-numbers
returns-clause-numbers c = (c.loop.invariant.numbers c.loop.names (KeepsTexts-refl c.loop.names)).0

pub returns-clause-chain : goal.returns-clause-chain
returns-clause-chain c =
    let last : c.loop.counter ≡ c.args.n = omega (arith, c.loop-test.false, c.loop.auto.counter-end c.requires.bits.0) in
    IsShiftRegister-grown c.args.names.now c.loop.names c.args.go c.loop.bit c.args.n c.loop.parts c.requires.numbers c.loop.invariant.kept
    (subst (λ (n : ℕ). IsGrown c.args.names.now c.loop.names c.args.go c.loop.parts c.loop.bit n) last c.loop.invariant.grown)
