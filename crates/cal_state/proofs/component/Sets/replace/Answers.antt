use Rattle.std.proofs.Common.{◌∷◌, None, codes, refl, sym, ◌∙◌}
use Rattle.net_core.specs.declared.net.Src.TheVariants.{Lit}
use Rattle.cal_ast.specs.Tree.{port_of}
use Rattle.cal_lower.specs.inside.Pieces.{piece_set}
use Rattle.cal_state.proofs.EncodingLemmas.{register_left, replaced, some_left, two_left}
use Rattle.cal_state.proofs.component.Sets.replace.Goals as goal

pub returns-in_default : goal.returns-in_default
returns-in_default c = λ names p tree left wires states is guard shows.
    some_left names (piece_set p) (record { dst = port_of p.name (codes "write_en"); guard = None; src = Lit 1 1 } ∷ left) wires states c.args.self.now
    (register_left names p left wires states c.args.self.now is shows) (sym c.args.self.now.left.ok.0 ∙ c.in_default.ensures.cases.0)

pub returns-in_default-pop_front : goal.returns-in_default-pop_front
returns-in_default-pop_front c = λ names p tree left wires states is guard shows.
    two_left names p left wires states c.args.self.now c.in-Some.set c.pop_front.new.self.items is shows c.in-Some.ensures.items (sym c.pop_front.new.self.ok.0 ∙ c.in_default-pop_front.ensures.cases.0)

pub returns : goal.returns
returns c = λ names p tree left wires states is guard shows.
    replaced names p tree left wires states c.args.self.now (record { left = c.pop_front-2.new.self; wires = c.push.new.self; states = c.args.self.now.states }) c.in-Some.set c.in-Some-pop_front._enable
    c.args.guard c.pop_front.new.self.items is guard shows c.in-Some.ensures.items c.in-Some-pop_front.ensures.items c.in_ok-push.ensures.items refl
