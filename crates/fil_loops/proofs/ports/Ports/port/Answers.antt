use Rattle.std.proofs.Common.{◌<◌, ◌^◌, List, Some, length, slice_get, sym, ap, subst, ◌∙◌, arith}
use Rattle.std.proofs.lemmas.Option.{slice_get_within}
use Rattle.std.proofs.lemmas.Result.{IfOk-weaker}
use Rattle.hw_names.specs.Name.{Text}
use Rattle.fil_loops.specs.inside.Ports.{PortList}
use Rattle.fil_loops.proofs.PortNumberLemmas.{all_fit_kept, fit_grown, same_kept, seen_at, seen_kept}
use Rattle.fil_loops.proofs.ports.Ports.port.Goals.{After-place_of}
use Rattle.fil_loops.proofs.ports.Ports.port.Goals as goal

pub instance_key-requires : goal.instance_key-requires
instance_key-requires c = omega (arith, c.requires, ap (λ (v : PortList). length v.instances) c.self.view_is)

pub invariant_of-self : goal.invariant_of-self
invariant_of-self c = (all_fit_kept c.self.inside.texts.all c.instance_key.new.texts.all c.instance_key.ensures.kept c.self.inside.set.keys c.self.invariant.0, c.self.invariant.1, c.self.invariant.2, subst (λ (l : List Text). length l < 2 ^ 32) (sym c.instance_key.ensures.names) c.self.invariant.3)

pub returns-in_err-key-clause-kept : goal.returns-in_err-key-clause-kept
returns-in_err-key-clause-kept c =
    same_kept c.self.inside.texts.all _ c.instance_key.ensures.kept c.self.inside.set.keys c.self.invariant.0 c.args.self.now.names (ap (λ (v : PortList). v.names) c.self.view_is)

pub invariant_of-self-2 : goal.invariant_of-self-2
invariant_of-self-2 c =
    let r : After-place_of = (goal.at.invariant_of-self-2 c).After-place_of in (
      fit_grown r.self.inside.texts.all _ r.instance_key.ensures.kept r.self.inside.set.keys r.self.invariant.0 r.args.self.now.names (ap (λ (v : PortList). v.names) r.self.view_is) r.place_of.new.set.keys r.in_ok-key.key
          r.place_of.ensures.grown r.in_ok-key.ensures.fit,
      r.place_of.ensures.different r.self.invariant.1,
      r.place_of.ensures.small r.self.invariant.2,
      subst (λ (l : List Text). length l < 2 ^ 32) (sym r.instance_key.ensures.names) r.self.invariant.3,
    )

pub returns-clause-number : goal.returns-clause-number
returns-clause-number c inst at =
    let named = c.in_ok-key.ensures.named inst (ap (λ (v : PortList). slice_get v.instances c.args.instance) c.self.view_is ∙ at) in
    IfOk-weaker c.place_of.result _ _
    (λ n here. seen_at c.self.inside.texts.all _ c.instance_key.ensures.kept c.self.inside.set.keys c.self.invariant.0 c.args.self.now.names (ap (λ (v : PortList). v.names) c.self.view_is) c.place_of.new.set.keys c.in_ok-key.key n here ∙ ap Some named)
    c.place_of.ensures.place

pub returns-clause-within : goal.returns-clause-within
returns-clause-within c =
    IfOk-weaker c.place_of.result _ _
    (λ n here. slice_get_within _ n _ (seen_at c.self.inside.texts.all _ c.instance_key.ensures.kept c.self.inside.set.keys c.self.invariant.0 c.args.self.now.names (ap (λ (v : PortList). v.names) c.self.view_is) c.place_of.new.set.keys c.in_ok-key.key n here))
    c.place_of.ensures.place

pub returns-clause-kept : goal.returns-clause-kept
returns-clause-kept c =
    seen_kept c.self.inside.texts.all _ c.instance_key.ensures.kept c.self.inside.set.keys c.self.invariant.0 c.args.self.now.names (ap (λ (v : PortList). v.names) c.self.view_is) c.place_of.new.set.keys c.in_ok-key.key c.place_of.ensures.grown
