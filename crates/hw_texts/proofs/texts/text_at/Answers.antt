use Rattle.std.proofs.Common.{arith}
use Rattle.hw_texts.proofs.texts.text_at.Goals as goal

pub overflow_cast-number : goal.overflow_cast-number
overflow_cast-number c = omega (arith, c.requires, c.len-count.ensures.len, c.len-count.ensures.small)
