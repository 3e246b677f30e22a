use Rattle.cal_group.proofs.RulingLemmas.{ruled_alone, ruled_both}
use Rattle.cal_group.proofs.remove.ruled_set.Goals.{in-None, in-Some+in_ok-own-in-Some+in_ok-guard-in-Some}
use Rattle.cal_group.proofs.remove.ruled_set.Goals as goal

pub returns : goal.returns
returns c =
    let set = c.args.set.now in
    let when = c.args.when.now in
    let rule = c.in_ok-rule.rule in
    elim c.match-set.branch [
      | in-None w ↦ rw w.guard-is (ruled_alone when rule set c.in_ok-rule.ensures w.in-None.is)
      | in-Some+in_ok-own-in-Some+in_ok-guard-in-Some w ↦
          rw w.guard-is (ruled_both when rule w.in-Some.own w.in_ok-own-in-Some.own w.in_ok-guard-in-Some.guard set c.in_ok-rule.ensures w.in_ok-own-in-Some.ensures w.in-Some.is w.in_ok-guard-in-Some.ensures.numbers w.in_ok-guard-in-Some.ensures.tree)
    ]
