use Rattle.std.proofs.Common.{◌≡◌, ◌<◌, List, All, Contains, length, map, filter, take, get_or, slice_get, Some, sym, ap, subst, ◌∙◌, arith}
use Rattle.std.proofs.lemmas.List.{length-map, take_all}
use Rattle.std.proofs.lemmas.List.Elements.{All-push}
use Rattle.std.proofs.lemmas.Option.{slice_get_within}
use Rattle.hw_names.proofs.NameLemmas.{text_of-slice_get}
use Rattle.hw_names.specs.Name.{Text, AreDistinct}
use Rattle.hw_graph.specs.Groups.{with_key}
use Rattle.hw_graph.specs.declared.groups.Entry.{Entry}
use Rattle.fil_ast.specs.Naming.{instance_names}
use Rattle.fil_ast.specs.Scope.{Instance, Scope}
use Rattle.fil_share.specs.declared.uses.Use.{Use}
use Rattle.fil_share.proofs.Lookup.{not_found}
use Rattle.fil_share.proofs.OwnLemmas.{names_of}
use Rattle.fil_lower.specs.inside.Place.{is_of}
use Rattle.fil_lower.proofs.NewNameLemmas.{instances_distinct}
use Rattle.fil_lower.proofs.UseNumberLemmas.{keyed_more, keyed_same}
use Rattle.fil_lower.proofs.StepLemmas.{some_read}
use Rattle.fil_lower.proofs.starts.uses_keyed.Goals.{in-Some+in_ok-push, in_default}
use Rattle.fil_lower.proofs.starts.uses_keyed.Goals as goal

no_use : Use
no_use = record { on = record { 0 = 0 }; inst = record { 0 = 0 }; event = 0; from = 0; to = 0; call = record { 0 = 0 } }

pub loop-number-preserved : goal.loop-number-preserved
unfolding no_use
loop-number-preserved c =
    let own = c.args.body.now.names.now in
    let uses = c.args.body.now.uses.items in
    let items = c.deref-used-items.result.now in
    let j = c.loop-number.number in
    let within : j < length items = omega arith in
    let u = get_or items j no_use in
    let at : slice_get uses j ≡ Some u = ap (λ (us : List Use). slice_get us j) (sym c.deref-used-items.ensures.value) ∙ some_read items j no_use within in
    let named = text_of-slice_get own u.inst c.text.result.now c.text.ensures in
    let entries = c.loop-number.entries.items in
    elim c.match-number.branch [
      | in-Some+in_ok-push w ↦
          rw w.entries-is (record {
            small = λ scope shows.
                let A : List Entry → Type 0 = All (λ (e : Entry). e.key < length scope.instances) in
                let at_key = w.in-Some.ensures.at scope shows.instances in
                let below : w.in-Some.key < length scope.instances = omega (arith, slice_get_within (instance_names scope.instances) w.in-Some.key c.text.result.now at_key, length-map scope.instances (λ (i : Instance). i.name)) in
                subst A (sym w.in_ok-push.ensures.items) (All-push (λ (e : Entry). e.key < length scope.instances) entries _ (c.loop-number.invariant.small scope shows) below);
            keyed = λ scope shows n inst at_n.
                let D : Scope → Type 0 = λ s. AreDistinct (instance_names s.instances) in
                let distinct = subst D (sym shows.whole) (instances_distinct (take shows.number shows.design) scope.comp (names_of shows.design shows.rules shows.number scope.comp shows.at)) in
                ap (λ (es : List Entry). map (slice_get uses) (with_key n es)) w.in_ok-push.ensures.items
                ∙ keyed_more own uses j u at (instance_names scope.instances) entries w.in-Some.key n inst distinct
                (w.in-Some.ensures.at scope shows.instances ∙ ap Some (sym named)) at_n (c.loop-number.invariant.keyed scope shows n inst at_n);
          })
      | in_default w ↦
          rw w.entries-is (record {
            small = c.loop-number.invariant.small;
            keyed = λ scope shows n inst at_n.
                let P : Text → Type 0 = λ t. ¬ Contains (instance_names scope.instances) t in
                let absent = subst P (sym named) (not_found (Contains (instance_names scope.instances) c.text.result.now) (w.in_default.ensures.present scope shows.instances)) in
                keyed_same own uses j u at (instance_names scope.instances) entries n inst absent at_n (c.loop-number.invariant.keyed scope shows n inst at_n);
          })
    ]

pub returns-clause-keyed : goal.returns-clause-keyed
returns-clause-keyed c = λ scope shows n inst at.
    let own = c.args.body.now.names.now in
    let uses = c.args.body.now.uses.items in
    let all : take c.loop-number.number uses ≡ uses = take_all c.loop-number.number uses (omega (arith, ap (length {A = Use}) c.deref-used-items.ensures.value)) in
    c.loop-number.invariant.keyed scope shows n inst at ∙ ap (λ us. map (λ (u : Use). Some u) (filter (is_of own inst) us)) all
