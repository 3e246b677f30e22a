use Rattle.std.proofs.Common.{◌<◌, ◌^◌, ◌++◌, ◌∷◌, [], List, Some, Contains, length, sym, ap, subst, ◌∙◌}
use Rattle.std.proofs.lemmas.Result.{IfOk-weaker, on_ok_weaker}
use Rattle.hw_names.specs.Name.{Text}
use Rattle.fil_loops.specs.inside.Ports.{PortList}
use Rattle.fil_loops.proofs.PortNumberLemmas.{all_fit_kept, fit_grown, key_absent, same_kept, seen_at, seen_kept, seen_more}
use Rattle.fil_loops.proofs.ports.Ports.named.Goals.{After-place_of}
use Rattle.fil_loops.proofs.ports.Ports.named.Goals as goal

pub invariant_of-self : goal.invariant_of-self
invariant_of-self c = (all_fit_kept c.self.inside.texts.all c.named_key.new.texts.all c.named_key.ensures.kept c.self.inside.set.keys c.self.invariant.0, c.self.invariant.1, c.self.invariant.2, subst (λ (l : List Text). length l < 2 ^ 32) (sym c.named_key.ensures.names) c.self.invariant.3)

pub returns-in_err-key-clause-kept : goal.returns-in_err-key-clause-kept
returns-in_err-key-clause-kept c =
    same_kept c.self.inside.texts.all _ c.named_key.ensures.kept c.self.inside.set.keys c.self.invariant.0 c.args.self.now.names (ap (λ (v : PortList). v.names) c.self.view_is)

pub invariant_of-self-2 : goal.invariant_of-self-2
invariant_of-self-2 c =
    let r : After-place_of = (goal.at.invariant_of-self-2 c).After-place_of in (
      fit_grown r.self.inside.texts.all _ r.named_key.ensures.kept r.self.inside.set.keys r.self.invariant.0 r.args.self.now.names (ap (λ (v : PortList). v.names) r.self.view_is) r.place_of.new.set.keys r.in_ok-key.key
          r.place_of.ensures.grown r.in_ok-key.ensures.fit,
      r.place_of.ensures.different r.self.invariant.1,
      r.place_of.ensures.small r.self.invariant.2,
      subst (λ (l : List Text). length l < 2 ^ 32) (sym r.named_key.ensures.names) r.self.invariant.3,
    )

pub returns-clause-number : goal.returns-clause-number
returns-clause-number c =
    IfOk-weaker c.place_of.result _ _
    (λ n at. seen_at c.self.inside.texts.all _ c.named_key.ensures.kept c.self.inside.set.keys c.self.invariant.0 c.args.self.now.names (ap (λ (v : PortList). v.names) c.self.view_is) c.place_of.new.set.keys c.in_ok-key.key n at ∙ ap Some c.in_ok-key.ensures.named)
    c.place_of.ensures.place

pub returns-clause-kept : goal.returns-clause-kept
returns-clause-kept c =
    seen_kept c.self.inside.texts.all _ c.named_key.ensures.kept c.self.inside.set.keys c.self.invariant.0 c.args.self.now.names (ap (λ (v : PortList). v.names) c.self.view_is) c.place_of.new.set.keys c.in_ok-key.key c.place_of.ensures.grown

pub returns-clause-added : goal.returns-clause-added
returns-clause-added c absent =
    let seen = c.args.self.now.names in
    let view = ap (λ (v : PortList). v.names) c.self.view_is in
    let named = c.in_ok-key.ensures.named in
    let keyless = key_absent c.self.inside.texts.all _ c.named_key.ensures.kept c.self.inside.set.keys c.self.invariant.0 seen view c.place_of.new.set.keys c.in_ok-key.key (subst (λ (t : Text). ¬ Contains seen t) (sym named) absent) in
    on_ok_weaker c.place_of.result
    (λ e. seen_more c.self.inside.texts.all _ c.named_key.ensures.kept c.self.inside.set.keys c.self.invariant.0 seen view c.place_of.new.set.keys c.in_ok-key.key e ∙ ap (λ (t : Text). seen ++ t ∷ []) named)
    (c.place_of.ensures.added keyless)
