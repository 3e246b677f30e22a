use Rattle.std.proofs.Common.{◌≡◌, Bor, List, Contains, Option, Some, None, option_map, slice_get, refl, sym, ap, subst, ◌∙◌}
use Rattle.std.specs.Option.{option_and_then}
use Rattle.std.specs.Slice.{IsItemAt}
use Rattle.std.proofs.lemmas.Option.{same_Some, slice_get-map}
use Rattle.fil_ast.specs.Scope.{Instance}
use Rattle.fil_ast.specs.Signature.{Signature}
use Rattle.fil_sig.specs.Seen.{seen}
use Rattle.fil_sig.specs.declared.time_sig.TimeSig.{TimeSig}
use Rattle.fil_share.specs.Instances.{known_signature, signature_of}
use Rattle.fil_share.proofs.Lookup.{find_at_place, find_nowhere, got, not_found, seen_copied}
use Rattle.fil_share.proofs.instances.Instances.sig.Goals as goal

same_chains : {X Y Z : Type 0} (f : X → Z) (g : Y → Option Z) (o : Option X) (p : Option Y) → option_map (λ x. Some (f x)) o ≡ option_map g p → option_map f o ≡ option_and_then g p
same_chains f g None None e = refl
same_chains f g None (Some y) e = absurd (cc)
same_chains f g (Some x) None e = absurd (cc)
same_chains f g (Some x) (Some y) e = same_Some (Some (f x)) (g y) e

pub returns-in_err-number-clause-meaning : goal.returns-in_err-number-clause-meaning
returns-in_err-number-clause-meaning c scope shown =
    let table = c.args.self.now in
    ap (option_map (λ (sig : Bor TimeSig). seen sig.now)) c.from_residual.ensures
    ∙ sym (ap (option_and_then (signature_of scope.comps)) (find_nowhere (λ (i : Instance). i.name) scope.instances table.names c.args.name.now shown.names (not_found (Contains table.names c.args.name.now) c.in_err-number.ensures.present)))

pub returns-clause-meaning : goal.returns-clause-meaning
returns-clause-meaning c scope shown =
    let table = c.args.self.now in
    let sigs = table.sigs.items in
    let n = c.in_ok-number.number.0 in
    let I : List TimeSig → Type 0 = λ xs. IsItemAt xs n c.get.result in
    let item = subst I c.deref.ensures.value c.get.ensures.lookup in
    seen_copied seen c.get.result ∙ ap (option_map seen) (got sigs n c.get.result item)
    ∙ same_chains seen (signature_of scope.comps) (slice_get sigs n) (slice_get scope.instances n)
    (sym (slice_get-map known_signature sigs n) ∙ ap (λ (os : List (Option Signature)). slice_get os n) shown.sigs ∙ slice_get-map (signature_of scope.comps) scope.instances n)
    ∙ ap (option_and_then (signature_of scope.comps)) (sym (find_at_place (λ (i : Instance). i.name) scope.instances table.names c.args.name.now n shown.names c.find.ensures.distinct c.in_ok-number.ensures.text))
