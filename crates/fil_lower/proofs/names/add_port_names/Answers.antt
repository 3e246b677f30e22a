use Rattle.std.proofs.Common.{◌≡◌, List, All, map, slice_get, Some, refl, subst}
use Rattle.std.proofs.lemmas.List.Elements.{All-contains, All-weaker}
use Rattle.hw_names.specs.Name.{KeepsTexts}
use Rattle.fil_ast.specs.Signature.{Signature}
use Rattle.fil_fsm.proofs.FreshLemmas.{Contains-KeepsTexts, KeepsTexts-trans}
use Rattle.fil_sig.specs.Seen.{seen}
use Rattle.fil_share.proofs.Lookup.{at_mapped}
use Rattle.fil_lower.specs.inside.Parts.{IsNamedPort, NamesPorts}
use Rattle.fil_lower.proofs.PortNameLemmas.{NamesPorts-kept}
use Rattle.fil_lower.proofs.StepLemmas.{All-next, whole_taken}
use Rattle.fil_lower.proofs.names.add_port_names.Goals as goal

pub loop-sig-preserved : goal.loop-sig-preserved
loop-sig-preserved c =
    let before = c.loop-sig.names in
    let between = c.add_inputs.new.names in
    let after = c.add_interfaces.new.names in
    let sigs = c.sigs-sig-items.result.now in
    let i = c.loop-sig.sig-index in
    let s = seen c.sig-item.result in
    let at : slice_get (map seen sigs) i ≡ Some s = at_mapped seen sigs sigs i c.sig-item.result refl c.loop-sig-test.true c.sig-item.is in
    let first : KeepsTexts before between = c.add_inputs.ensures.kept in
    let second : KeepsTexts between after = c.add_interfaces.ensures.kept in
    let both = KeepsTexts-trans before between after first second in
    record {
      kept = KeepsTexts-trans c.args.names.now before after c.loop-sig.invariant.kept both;
      named = All-next (NamesPorts after) (map seen sigs) i s at
          (All-weaker (NamesPorts before) (NamesPorts after) (NamesPorts-kept before after both) _ c.loop-sig.invariant.named)
          (record {
            inputs = All-weaker (IsNamedPort between) (IsNamedPort after) (λ p there. Contains-KeepsTexts between after p.name second there) _ c.in_ok-add_inputs.ensures.named;
            interfaces = c.in_ok-add_interfaces.ensures.named;
          });
    }

pub returns-clause-named : goal.returns-clause-named
returns-clause-named c = λ scope shown inst sig signed.
    let sigs = c.sigs-sig-items.result.now in
    let A : List Signature → Type 0 = All (NamesPorts c.loop-sig.names) in
    let all = subst A (whole_taken seen sigs sigs c.loop-sig.sig-index refl c.loop-sig-test.false) c.loop-sig.invariant.named in
    All-contains (NamesPorts c.loop-sig.names) (map seen sigs) sig all (c.sigs-sig-items.ensures scope inst sig shown signed)
