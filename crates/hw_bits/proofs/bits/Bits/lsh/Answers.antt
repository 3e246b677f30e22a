use Rattle.std.proofs.Common.{◌*◌, ◌^◌, ◌∙◌, ap, sym}
use Rattle.hw_bits.specs.Width.{low_bits}
use Rattle.hw_bits.proofs.WidthLemmas.{low_bits-low_bits, low_bits-of_lt, left_shifted_bits-below, left_shifted_bits-past}
use Rattle.std.proofs.lemmas.Nat.{pow_pos}
use Rattle.hw_bits.proofs.bits.Bits.lsh.Goals as goal
use Rattle.hw_bits.proofs.bits.Bits.lsh.Goals.{then-other-self, else-other-self}

pub returns-clause-value : goal.returns-clause-value
returns-clause-value c =
    elim c.if-other-self.branch [
      | then-other-self w ↦
          c.wrap.ensures.value
          ∙ ap (low_bits c.args.self.width) w.value-is
          ∙ low_bits-low_bits c.args.self.width 128 (c.args.self.value * 2 ^ c.args.other.value) c.args.self.narrow
          ∙ sym (left_shifted_bits-below c.args.self.width c.args.self.value c.args.other.value w.if-other-self.true)
      | else-other-self w ↦
          c.wrap.ensures.value
          ∙ ap (low_bits c.args.self.width) w.value-is
          ∙ low_bits-of_lt c.args.self.width 0 (pow_pos c.args.self.width)
          ∙ sym (left_shifted_bits-past c.args.self.width c.args.self.value c.args.other.value w.if-other-self.false)
    ]
