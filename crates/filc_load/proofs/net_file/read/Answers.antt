use Rattle.std.proofs.Common.{refl, subst, arith}
use Rattle.net_text.specs.Reading.{Refuses}
use Rattle.net_text.specs.declared.net_text_end.NetTextEnd.{NetTextEnd}
use Rattle.filc_load.specs.NetFile.{HasNoGrammar}
use Rattle.filc_load.proofs.net_file.read.Goals as goal

pub returns-in-Err-Grammar-clause-refused : goal.returns-in-Err-Grammar-clause-refused
returns-in-Err-Grammar-clause-refused c =
    HasNoGrammar c.in-Err-Grammar.at (omega (arith, c.if-depth-gt-MOST_NET_NESTING.false, c.nesting_of_bytes-depth.ensures))
    (subst (λ (e : NetTextEnd). Refuses c.args.text.now e) c.in-Err-Grammar.field-0-is c.in-Err-Grammar.ensures.refused) refl refl
