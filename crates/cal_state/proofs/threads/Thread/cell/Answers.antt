use Rattle.cal_state.proofs.MadeLemmas.{register_shown}
use Rattle.cal_state.proofs.threads.Thread.cell.Goals as goal

pub returns : goal.returns
returns c = λ names thread are shows. register_shown names thread c.args.self c.args.texts c.in_ok-from_slice.field-0 are shows c.in_ok-from_slice.ensures.items
