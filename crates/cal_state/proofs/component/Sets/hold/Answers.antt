use Rattle.std.proofs.Common.{◌++◌, refl}
use Rattle.cal_lower.specs.inside.Pieces.{Wire, piece, piece_sets}
use Rattle.cal_state.specs.inside.Making.{next_set}
use Rattle.cal_state.specs.inside.States.{is_in}
use Rattle.cal_state.proofs.EncodingLemmas.{held}
use Rattle.cal_state.proofs.component.Sets.hold.Goals as goal

pub returns : goal.returns
returns c = λ names p tree left wires states are is state shows.
    let (when, mid) = c.in_ok-drove.ensures names p (is_in tree) left wires states is (c.in_ok-guard.ensures names tree are state) shows in
    held names (next_set tree p.guard) left (wires ++ piece_sets (piece Wire p.name (is_in tree))) states c.replace.new.self
    (record { left = c.replace.new.self.left; wires = c.replace.new.self.wires; states = c.push.new.self }) c.next.result mid
    (c.next.ensures names tree p.guard are state when) refl refl c.in_ok-push.ensures.items
