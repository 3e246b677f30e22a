use Rattle.std.proofs.Common.{◌≡◌, true, false, ap₂, sym, ◌∙◌, nat_lt}
use Rattle.net_core.proofs.PortListLemmas.{grows_by_new, added_where_new, same_where_there}
use Rattle.net_core.proofs.ports.add_name.Goals as goal

pub returns-clause-new : goal.returns-clause-new
returns-clause-new c =
    ap₂ nat_lt c.len-before.ensures.len c.len.ensures.len
    ∙ grows_by_new c.args.names.now c.intern.new.self c.args.name.now (λ there. (c.in_ok-_id.ensures.present there).1) (λ absent. (c.in_ok-_id.ensures.added absent).0)

pub returns-clause-added : goal.returns-clause-added
returns-clause-added c is_new =
    let new : nat_lt c.len-before.result c.len.result ≡ true = cc in
    added_where_new c.args.names.now c.intern.new.self c.args.name.now (λ absent. (c.in_ok-_id.ensures.added absent).0) (sym (returns-clause-new c) ∙ new)

pub returns-clause-there : goal.returns-clause-there
returns-clause-there c is_there =
    let there : nat_lt c.len-before.result c.len.result ≡ false = cc in
    same_where_there c.args.names.now c.intern.new.self c.args.name.now (λ there. (c.in_ok-_id.ensures.present there).1) (sym (returns-clause-new c) ∙ there)
