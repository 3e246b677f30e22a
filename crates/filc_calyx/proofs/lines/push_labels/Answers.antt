use Rattle.std.proofs.Common.{◌∙◌, ◌++◌, Bool, true, false, List, flat_map, Some, sym, ap, arith}
use Rattle.std.proofs.lemmas.List.{append-nil}
use Rattle.hw_names.specs.Name.{Text}
use Rattle.cal_ast.specs.Actors.{Actor}
use Rattle.filc_calyx.specs.inside.Scheduling.{label_if}
use Rattle.filc_calyx.proofs.LabelLemmas.{actor_more, actors_all, inside, label_is}
use Rattle.filc_calyx.proofs.lines.push_labels.Goals as goal
use Rattle.filc_calyx.proofs.lines.push_labels.Goals.{then-acts+in_ok-put, else-acts}

pub acts-requires : goal.acts-requires
acts-requires c = inside c.requires.0 c.requires.1 c.args.labels.now c.requires.2 c.args.walker.now c.requires.3 c.loop-actor.actor c.loop-actor-test.true

pub loop-actor-preserved : goal.loop-actor-preserved
loop-actor-preserved c = λ actors acts are tells.
    let labels = c.args.labels.now in
    let walker = c.args.walker.now in
    let at = c.loop-actor.actor in
    let within = c.loop-actor-test.true in
    let before = c.args.text.now.items in
    let text = c.loop-actor.text.items in
    let so_far = c.loop-actor.invariant actors acts are tells in
    elim c.if-acts.branch [
      | then-acts+in_ok-put w ↦
          let label_at = label_is actors acts labels are walker tells at within c.index-labels-actor.result c.index-labels-actor.is in
          rw w.text-is (actor_more actors acts labels are walker tells at within true before text w.put.new.out.items
          (c.acts.ensures ∙ ap (λ (b : Bool). Some b) w.if-acts.true) so_far
          (w.in_ok-put.ensures ∙ ap (λ (label : Text). text ++ label) (w.deref.ensures.value ∙ label_at)))
      | else-acts w ↦
          rw w.text-is (actor_more actors acts labels are walker tells at within false before text text
          (c.acts.ensures ∙ ap (λ (b : Bool). Some b) w.if-acts.false) so_far (sym (append-nil text)))
    ]

pub returns : goal.returns
returns c = λ actors acts are tells.
    let all = actors_all actors c.args.labels.now are c.loop-actor.actor (omega (arith, c.loop-actor-test.false)) in
    c.loop-actor.invariant actors acts are tells ∙ ap (λ (front : List Actor). c.args.text.now.items ++ flat_map (label_if acts) front) all
