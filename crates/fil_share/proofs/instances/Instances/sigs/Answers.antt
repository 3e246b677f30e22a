use Rattle.std.proofs.Common.{◌≡◌, Bool, true, false, cond, List, [], ◌∷◌, map, slice_get, Contains, Option, Some, None, option_map, sym, ap, subst, ◌∙◌}
use Rattle.std.specs.Option.{option_and_then}
use Rattle.std.specs.Str.{bytes_eq}
use Rattle.std.proofs.lemmas.Option.{slice_get-get_or, slice_get-map}
use Rattle.hw_names.specs.Name.{Text}
use Rattle.fil_ast.specs.Scope.{Instance, instance_named}
use Rattle.fil_ast.specs.Signature.{Signature}
use Rattle.fil_ast.specs.Tree.{Design}
use Rattle.fil_sig.specs.Seen.{seen}
use Rattle.fil_sig.specs.declared.time_sig.TimeSig.{TimeSig}
use Rattle.fil_share.specs.Instances.{known_signature, signature_of}
use Rattle.fil_share.proofs.ListLemmas.{Contains-at, Contains-here, Contains-there}
use Rattle.fil_share.proofs.instances.Instances.sigs.Goals as goal

signed_among : (comps : Design) (instances : List Instance) (name : Text) (sig : Signature) → option_and_then (signature_of comps) (instance_named instances name) ≡ Some sig
    → Contains (map (signature_of comps) instances) (Some sig)
signed_among comps [] name sig signed = absurd (cc)
signed_among comps (i ∷ instances) name sig signed = by (bytes_eq i.name name) signed (signed_among comps instances name sig)
  where
    by : (b : Bool) → option_and_then (signature_of comps) (cond b (Some i) (instance_named instances name)) ≡ Some sig
        → (option_and_then (signature_of comps) (instance_named instances name) ≡ Some sig → Contains (map (signature_of comps) instances) (Some sig)) → Contains (map (signature_of comps) (i ∷ instances)) (Some sig)
    by true here rest =
        let C : Option Signature → Type 0 = Contains (map (signature_of comps) (i ∷ instances)) in
        subst C here (Contains-here (signature_of comps i) (map (signature_of comps) instances))
    by false later rest = Contains-there (signature_of comps i) (map (signature_of comps) instances) (Some sig) (rest later)

seen_one : (sig : Signature) (o : Option TimeSig) → option_map known_signature o ≡ Some (Some sig) → option_map seen o ≡ Some sig
seen_one sig None is = absurd (cc)
seen_one sig (Some s) is = cc

known_among : (sigs : List TimeSig) (sig : Signature) → Contains (map known_signature sigs) (Some sig) → Contains (map seen sigs) sig
known_among sigs sig (k, within, is) =
    let at : slice_get (map known_signature sigs) k ≡ Some (Some sig) = slice_get-get_or (map known_signature sigs) k (Some sig) within ∙ ap Some is in
    Contains-at (map seen sigs) k sig (slice_get-map seen sigs k ∙ seen_one sig (slice_get sigs k) (sym (slice_get-map known_signature sigs k) ∙ at))

pub returns : goal.returns
returns c scope name sig shown signed =
    let table = c.args.self.now in
    let C : List (Option Signature) → Type 0 = λ os. Contains os (Some sig) in
    let D : List TimeSig → Type 0 = λ sigs. Contains (map seen sigs) sig in
    subst D (sym c.as_slice.ensures.value) (known_among table.sigs.items sig (subst C (sym shown.sigs) (signed_among scope.comps scope.instances name sig signed)))
