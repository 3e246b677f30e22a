use Rattle.std.proofs.Common.{◌≡◌, ◌<◌, length, sym, ap, subst, ◌∙◌, arith}
use Rattle.std.proofs.lemmas.List.{length-map}
use Rattle.std.proofs.lemmas.Option.{same_Some, slice_get_within}
use Rattle.std.proofs.lemmas.Result.{IfOk-weaker}
use Rattle.hw_graph.specs.Groups.{IsGathered, with_key}
use Rattle.fil_ast.specs.Naming.{instance_names}
use Rattle.fil_ast.specs.Scope.{Instance}
use Rattle.fil_lower.specs.inside.Place.{AreUsesOf, ShowsUses}
use Rattle.fil_lower.proofs.starts.uses_by_instance.Goals as goal

pub returns : goal.returns
returns c = λ scope shows.
    let own = c.args.body.now.names.now in
    let uses = c.args.body.now.uses.items in
    let texts = instance_names scope.instances in
    let count : c.len.result ≡ length texts = c.len.ensures scope shows.instances ∙ sym (length-map scope.instances (λ (i : Instance). i.name)) in
    IfOk-weaker c.gather.result (IsGathered c.deref.result.now c.len.result) (ShowsUses own uses texts)
    (λ groups is. record {
      all = is.all ∙ count;
      each = λ n inst numbers at_n at_g.
          let below : n < c.len.result = omega (arith, slice_get_within texts n inst at_n, count) in
          let are : with_key n c.in_ok-entries.entries.items ≡ numbers =
          ap (with_key n) (sym c.deref.ensures.value) ∙ same_Some (with_key n c.deref.result.now) numbers (sym (is.each n below) ∙ at_g) in
          subst (AreUsesOf own uses inst) are (c.in_ok-entries.ensures.keyed scope shows n inst at_n);
    }) c.gather.ensures
