use denote.Enum.Bare.{same_true, true_same}
use Rattle.std.proofs.Common.{◌≡◌, Bool, false, refl, ap, ap₂, sym, subst, inl, inr, ◌∙◌}
use Rattle.net_guard.proofs.TopLemmas.{negated_no_list, no_list_core, other_no_list}
use Rattle.net_guard.specs.inside.Folding.{IsNoListOf}
use Rattle.net_guard.specs.contracts.tops.Joint.{the_type}
use Rattle.net_guard.specs.declared.tops.Core.{Core}
use Rattle.net_guard.specs.declared.tops.Core.TheVariants as cores
use Rattle.net_guard.specs.declared.tops.Joint.{Joint}
use Rattle.net_guard.specs.declared.tops.Open.{Open}
use Rattle.net_guard.proofs.tops.Open.list_of.Goals as goal

abbrev opened : Bool → Core → Open
opened negated core = record { negated = negated; core = core }

pub returns-then-negated : goal.returns-then-negated
returns-then-negated c =
    let core = c.args.self.core in
    let N : Bool → Type 0 = λ negated. IsNoListOf c.args.joint (opened negated core) in
    (refl, subst N (sym c.if-negated.true) (negated_no_list c.args.joint core))

pub returns-then-eq : goal.returns-then-eq
returns-then-eq c =
    let same : c.in-List.kind ≡ c.args.joint = same_true the_type tt c.in-List.kind c.args.joint (sym c.eq.ensures ∙ c.if-eq.true) in
    ap₂ opened c.if-negated.false (c.in-List.is ∙ ap (λ (kind : Joint). cores.List kind c.in-List.guards) same)

pub returns-else-eq : goal.returns-else-eq
returns-else-eq c =
    let kind = c.in-List.kind in
    let other = sym c.eq.ensures ∙ c.if-eq.false in
    let apart : kind ≡ c.args.joint → ⊥ = λ same. let equal = true_same the_type kind c.args.joint same in cc in
    let N : Bool → Type 0 = λ negated. IsNoListOf c.args.joint (opened negated (cores.List kind c.in-List.guards)) in
    (ap (opened c.args.self.negated) (sym c.in-List.is), subst N (sym c.if-negated.false) (other_no_list c.args.joint kind c.in-List.guards apart))

pub returns-in-Read : goal.returns-in-Read
returns-in-Read c =
    let core = c.args.self.core in
    let N : Bool → Type 0 = λ negated. IsNoListOf c.args.joint (opened negated core) in
    let none : IsNoListOf c.args.joint (opened false core) = elim c.in-Read.is [
      | inl (src, is) ↦ no_list_core c.args.joint core (λ kind gs list. let bad = sym is ∙ list in absurd (cc))
      | inr (op, left, right, is) ↦ no_list_core c.args.joint core (λ kind gs list. let bad = sym is ∙ list in absurd (cc))
    ] in
    (refl, subst N (sym c.if-negated.false) none)
