use Rattle.std.proofs.Common.{◌==◌, nat_lt, ap, sym, ◌∙◌}
use Rattle.net_core.specs.Guard.{compare_values}
use Rattle.net_steps.proofs.TruthLemmas.{compared, compared_not, not_less}
use Rattle.net_steps.proofs.truth.compare.Goals as goal

pub returns-in_ok-equal-in-Eq : goal.returns-in_ok-equal-in-Eq
returns-in_ok-equal-in-Eq c =
    compared c.args.steps.now c.equal.new.steps c.args.op c.args.left c.args.right (λ x y. x == y) c.in_ok-equal-in-Eq.field-0 (λ x y. ap (λ o. compare_values o x y) c.in-Eq.is) c.in_ok-equal-in-Eq.ensures

pub returns-in_ok-equal-in-Neq : goal.returns-in_ok-equal-in-Neq
returns-in_ok-equal-in-Neq c =
    compared_not c.args.steps.now c.equal-in-Neq.new.steps c.args.op c.args.left c.args.right (λ x y. x == y) c.in_ok-equal-in-Neq.field-0 c.not.result (λ x y. ap (λ o. compare_values o x y) c.in-Neq.is) c.not.ensures c.in_ok-equal-in-Neq.ensures

pub returns-in_ok-less-in-Lt : goal.returns-in_ok-less-in-Lt
returns-in_ok-less-in-Lt c =
    compared c.args.steps.now c.less.new.steps c.args.op c.args.left c.args.right (λ x y. nat_lt x y) c.in_ok-less-in-Lt.field-0 (λ x y. ap (λ o. compare_values o x y) c.in-Lt.is) c.in_ok-less-in-Lt.ensures

pub returns-in_ok-less-in-Gt : goal.returns-in_ok-less-in-Gt
returns-in_ok-less-in-Gt c =
    compared c.args.steps.now c.less-in-Gt.new.steps c.args.op c.args.left c.args.right (λ x y. nat_lt y x) c.in_ok-less-in-Gt.field-0 (λ x y. ap (λ o. compare_values o x y) c.in-Gt.is) c.in_ok-less-in-Gt.ensures

pub returns-in_ok-less-in-Le : goal.returns-in_ok-less-in-Le
returns-in_ok-less-in-Le c =
    compared_not c.args.steps.now c.less-in-Le.new.steps c.args.op c.args.left c.args.right (λ x y. nat_lt y x) c.in_ok-less-in-Le.field-0 c.not-in-Le.result (λ x y. ap (λ o. compare_values o x y) c.in-Le.is ∙ sym (not_less y x)) c.not-in-Le.ensures c.in_ok-less-in-Le.ensures

pub returns-in_ok-less-in-Ge : goal.returns-in_ok-less-in-Ge
returns-in_ok-less-in-Ge c =
    compared_not c.args.steps.now c.less-in-Ge.new.steps c.args.op c.args.left c.args.right (λ x y. nat_lt x y) c.in_ok-less-in-Ge.field-0 c.not-in-Ge.result (λ x y. ap (λ o. compare_values o x y) c.in-Ge.is ∙ sym (not_less x y)) c.not-in-Ge.ensures c.in_ok-less-in-Ge.ensures
