use Rattle.net_steps.proofs.GateLemmas.{product_made}
use Rattle.net_steps.proofs.gates.product.Goals as goal

pub returns : goal.returns
returns c = product_made c.args.steps.now c.define.new.self c.args.width c.in_ok-mask.mask c.args.a c.args.b c.in_ok-define.field-0 c.in_ok-mask.ensures c.in_ok-define.ensures
