use Rattle.fil_loops.proofs.PortNumberLemmas.{different_kept}
use Rattle.fil_loops.proofs.ports.place_of.Goals as goal

pub returns-clause-different : goal.returns-clause-different
returns-clause-different c = different_kept c.args.set.now.keys c.insert_full.new.self.keys c.args.key c.in_ok-place.ensures.keys
