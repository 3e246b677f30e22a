use Rattle.std.proofs.Common.{◌≡◌, List, [], map, refl, sym, subst}
use Rattle.std.specs.List.{All, AllZip}
use Rattle.hw_names.specs.Name.{AreDistinct}
use Rattle.fil_ast.specs.Items.{scope_after}
use Rattle.fil_ast.specs.Tree.{DataPort, InputValue, Literal, component_tree, port_tree}
use Rattle.fil_ast.specs.Typing.{IsWidth}
use Rattle.fil_ast.specs.declared.tree.FilPort.{FilPort}
use Rattle.fil_sig.proofs.ListLemmas.{All-unmap}
use Rattle.fil_flow.specs.inside.Body.{IsSourceOf, data_names}
use Rattle.fil_flow.specs.inside.Planning.{ShowsCalls, ShowsOutput}
use Rattle.fil_flow.specs.declared.plan.Call.{Call}
use Rattle.fil_flow.proofs.CallLemmas.{calls_start, source_kept}
use Rattle.fil_flow.proofs.PairLemmas.{zip_mapped, zip_weaker}
use Rattle.fil_flow.proofs.PortLemmas.{inputs_differ, outputs_differ}
use Rattle.fil_flow.proofs.planning.Planning.new.Goals as goal

pub zeros-requires : goal.zeros-requires
zeros-requires c =
    let W : List FilPort → Type 0 = All (λ (p : FilPort). IsWidth p.width) in
    subst W (sym c.deref-2.ensures.value) (All-unmap (λ (p : DataPort). IsWidth p.width) (port_tree c.args.names.now) c.args.comp.now.outs.items c.requires.wide.outs)

pub returns : goal.returns
returns c earlier before known new_names =
    let names = c.args.names.now in
    let ports = c.args.comp.now.outs.items in
    let comp = component_tree names c.args.comp.now in
    let held = map InputValue (data_names comp.ins) in
    let shows = ShowsOutput (scope_after before comp []) held [] in
    let O : List FilPort → Type 0 = λ ps. AreDistinct (data_names (map (port_tree names) ps)) → c.in_ok-port_names.field-0 ≡ data_names (map (port_tree names) ps) in
    let S : List Call → Type 0 = ShowsCalls (scope_after before comp []) held in
    let Z : List FilPort → Type 0 = λ ps. AllZip (λ (p : FilPort). IsSourceOf [] (Literal p.width 0)) ps c.in_ok-zeros.field-0.items in
    record {
      held = held;
      body = c.in_ok-new.ensures earlier before known new_names;
      calls = subst S (sym c.new-2.ensures.items) (calls_start before comp (inputs_differ before comp new_names));
      out_names = subst O c.deref.ensures.value c.in_ok-port_names.ensures (outputs_differ before comp new_names);
      outs =
          zip_mapped shows (port_tree names) ports c.in_ok-zeros.field-0.items
          (zip_weaker (λ (p : FilPort). IsSourceOf [] (Literal p.width 0)) (λ p. shows (port_tree names p))
          (λ p s is. record { is_source = source_kept [] held (Literal p.width 0) s is; width = refl })
          ports c.in_ok-zeros.field-0.items (subst Z c.deref-2.ensures.value c.in_ok-zeros.ensures));
    }
