use Rattle.std.proofs.Common.{◌≡◌, List, All, Contains, map, slice_get, Some, subst}
use Rattle.std.proofs.lemmas.List.Elements.{All-weaker}
use Rattle.hw_names.proofs.NameLemmas.{Contains-slice_get}
use Rattle.hw_names.specs.Name.{KeepsTexts, Text}
use Rattle.fil_ast.specs.Signature.{SigPort}
use Rattle.fil_fsm.proofs.FreshLemmas.{Contains-KeepsTexts, KeepsTexts-trans}
use Rattle.fil_sig.specs.Seen.{seen_port}
use Rattle.fil_share.proofs.Lookup.{at_mapped}
use Rattle.fil_lower.specs.inside.Parts.{IsNamedPort}
use Rattle.fil_lower.proofs.StepLemmas.{All-next, whole_taken}
use Rattle.fil_lower.proofs.names.add_inputs.Goals as goal

pub loop-port-preserved : goal.loop-port-preserved
loop-port-preserved c =
    let before = c.loop-port.names in
    let after = c.intern.new.names in
    let ports = c.args.sig.now.ins.items in
    let i = c.loop-port.port-index in
    let p = seen_port c.port-item.result in
    let at : slice_get (map seen_port ports) i ≡ Some p = at_mapped seen_port ports c.deref-port-items.result.now i c.port-item.result c.deref-port-items.ensures.value c.loop-port-test.true c.port-item.is in
    let keeps : KeepsTexts before after = c.intern.ensures.kept in
    let C : Text → Type 0 = Contains after in
    record {
      kept = KeepsTexts-trans c.args.names.now before after c.loop-port.invariant.kept keeps;
      named = All-next (IsNamedPort after) (map seen_port ports) i p at
          (All-weaker (IsNamedPort before) (IsNamedPort after) (λ q there. Contains-KeepsTexts before after q.name keeps there) _ c.loop-port.invariant.named)
          (subst C c.bytes.ensures (Contains-slice_get after _ _ c.in_ok-_number.ensures.text));
    }

pub returns-clause-named : goal.returns-clause-named
returns-clause-named c =
    let A : List SigPort → Type 0 = All (IsNamedPort c.loop-port.names) in
    subst A (whole_taken seen_port c.args.sig.now.ins.items c.deref-port-items.result.now c.loop-port.port-index c.deref-port-items.ensures.value c.loop-port-test.false) c.loop-port.invariant.named
