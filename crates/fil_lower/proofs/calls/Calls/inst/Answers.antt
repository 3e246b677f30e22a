use Rattle.std.proofs.Common.{◌≡◌, ◌<◌, ℕ, List, [], length, slice_get, Some, None, Option, option_map, refl, sym, ap, ◌∙◌, arith}
use Rattle.std.specs.Option.{option_map_or}
use Rattle.std.proofs.lemmas.List.{length-map}
use Rattle.std.proofs.lemmas.Option.{slice_get-map, slice_get_read, slice_get_within}
use Rattle.hw_names.specs.Name.{Text, text_of}
use Rattle.fil_ast.specs.Numbers.{IsNumberOf}
use Rattle.fil_ast.specs.Scope.{Invocation}
use Rattle.fil_share.proofs.Lookup.{find_at_place}
use Rattle.fil_lower.specs.inside.Place.{ShowsCalls}
use Rattle.fil_lower.specs.declared.calls.Calls.{Calls}
use Rattle.fil_lower.proofs.StepLemmas.{All-at}
use Rattle.fil_lower.proofs.calls.Calls.inst.Goals as goal

-- a name's number is below that of the instances
within_insts : (names : List Text) (invocations : List Invocation) (calls : Calls) (name : Text) (n : ℕ) → ShowsCalls names invocations calls → slice_get calls.names n ≡ Some name → n < length calls.insts.items
within_insts names invocations calls name n shows at =
    omega (arith, slice_get_within calls.names n name at, ap length shows.named, length-map invocations (λ (v : Invocation). v.name), length-map invocations (λ (v : Invocation). v.inst), length-map calls.insts.items (text_of names), ap length shows.insts)

read_of : {X : Type 0} (f : X → Text) (o : Option X) (t : Text) → option_map f o ≡ Some t → option_map_or f o [] ≡ t
read_of f None t is = absurd (cc)
read_of f (Some x) t is = cc

pub returns-clause-shown : goal.returns-clause-shown
returns-clause-shown c = λ names invocations shows.
    let calls = c.args.self.now in
    let n = c.in-Some.number.0 in
    let name = c.args.name.now in
    let id = c.index.result.now in
    let inst_of : Invocation → Text = λ v. v.inst in
    let at : slice_get calls.insts.items n ≡ Some id = slice_get_read calls.insts.items (length calls.insts.items) n id refl (within_insts names invocations calls name n shows c.in-Some.ensures.text) c.index.ensures in
    let there : option_map inst_of (slice_get invocations n) ≡ Some (text_of names id) =
    sym (slice_get-map inst_of invocations n) ∙ ap (λ ts. slice_get ts n) (sym shows.insts) ∙ slice_get-map (text_of names) calls.insts.items n ∙ ap (option_map (text_of names)) at in
    sym (ap (λ o. option_map_or inst_of o []) (find_at_place (λ (v : Invocation). v.name) invocations calls.names name n shows.named c.find.ensures.distinct c.in-Some.ensures.text)
    ∙ read_of inst_of (slice_get invocations n) (text_of names id) there)

pub returns-clause-numbered : goal.returns-clause-numbered
returns-clause-numbered c = λ names invocations shows.
    let calls = c.args.self.now in
    let n = c.in-Some.number.0 in
    let id = c.index.result.now in
    let at : slice_get calls.insts.items n ≡ Some id = slice_get_read calls.insts.items (length calls.insts.items) n id refl (within_insts names invocations calls c.args.name.now n shows c.in-Some.ensures.text) c.index.ensures in
    All-at (IsNumberOf names) calls.insts.items n id at shows.numbers
