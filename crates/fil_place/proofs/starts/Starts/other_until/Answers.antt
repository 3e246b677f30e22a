use Rattle.fil_place.proofs.StartsLemmas.{none_until, last_found, last_elsewhere}
use Rattle.fil_place.proofs.starts.Starts.other_until.Goals.{else-key-instance-via-then-key-instance+else-key-event, else-key-instance-via-else-key-instance}
use Rattle.fil_place.proofs.starts.Starts.other_until.Goals as goal

pub returns-in_err-key : goal.returns-in_err-key
returns-in_err-key c =
    rw c.from_residual.ensures (none_until c.args.self.now.others c.args.instance c.args.event c.args.start c.range.result (c.range.ensures.in_range tt) c.in_err-key.ensures.steps.0)

pub returns-then-key-event : goal.returns-then-key-event
returns-then-key-event c =
    last_found c.args.self.now.others c.args.instance c.args.event c.args.start c.range.result (c.range.ensures.in_range tt) c.in_ok-key.key.now c.in_ok-key.held.now c.next_back.new.self c.in_ok-key.ensures.steps
    c.if-key-instance.true c.if-key-event.true

pub returns-else-key-instance : goal.returns-else-key-instance
returns-else-key-instance c = elim c.else-key-instance.branch [
  | else-key-instance-via-then-key-instance+else-key-event w ↦
      last_elsewhere c.args.self.now.others c.args.instance c.args.event c.args.start c.range.result (c.range.ensures.in_range tt) c.in_ok-key.key.now c.in_ok-key.held.now c.next_back.new.self c.in_ok-key.ensures.steps
      (λ same_i same_k. w.if-key-event.false same_k)
  | else-key-instance-via-else-key-instance w ↦
      last_elsewhere c.args.self.now.others c.args.instance c.args.event c.args.start c.range.result (c.range.ensures.in_range tt) c.in_ok-key.key.now c.in_ok-key.held.now c.next_back.new.self c.in_ok-key.ensures.steps
      (λ same_i same_k. w.if-key-instance.false same_i)
]
