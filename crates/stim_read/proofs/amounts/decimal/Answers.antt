use Rattle.std.proofs.Common.{sym, ◌∙◌}
use Rattle.stim_read.proofs.AmountLemmas.{decimal_parsed}
use Rattle.stim_read.proofs.amounts.decimal.Goals as goal

pub returns : goal.returns
returns c = c.ok.ensures.value ∙ decimal_parsed c.args.text.now _ c.parse.ensures.value.0 (sym c.has_sign_or_zero.ensures ∙ c.if-has_sign_or_zero.false)
