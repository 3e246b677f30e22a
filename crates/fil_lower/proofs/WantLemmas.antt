-- The last bit that is wanted of an event: by arguments, or by uses.
use Rattle.std.proofs.Common.{◌≡◌, Bool, true, false, cond, max, List, [], ◌∷◌, ◌++◌, map, filter, flat_map, bytes_eq, refl, ap, ◌∙◌, arith}
use Rattle.std.proofs.lemmas.List.{map-append}
use Rattle.std.proofs.lemmas.List.Elements.{filter-append}
use Rattle.hw_names.specs.Name.{Text}
use Rattle.fil_ast.specs.Holds.{uses_of}
use Rattle.fil_ast.specs.Scope.{Invocation}
use Rattle.fil_ast.specs.Timeline.{Use}
use Rattle.fil_share.specs.Uses.{Held, held, held_by, is_on}
use Rattle.fil_lower.specs.inside.Lowering.{Lowering, wanted_by}
use Rattle.fil_lower.specs.inside.Place.{greatest, wanted_by_ports, wanted_by_uses}
use Rattle.fil_lower.proofs.StepLemmas.{greatest-append}

wanted_by_held : (name event : Text) (us : List Use) → wanted_by_uses event (map (held name) us) ≡ map (λ (u : Use). u.at.plus) (filter (λ (u : Use). bytes_eq u.at.event event) us)
wanted_by_held name event [] = refl
wanted_by_held name event (u ∷ us) = by (bytes_eq u.at.event event) (wanted_by_held name event us)
  where
    by : (b : Bool) → wanted_by_uses event (map (held name) us) ≡ map (λ (u : Use). u.at.plus) (filter (λ (u : Use). bytes_eq u.at.event event) us)
        → map (λ (h : Held). h.from) (cond b (held name u ∷ filter (is_on event) (map (held name) us)) (filter (is_on event) (map (held name) us)))
        ≡ map (λ (u : Use). u.at.plus) (cond b (u ∷ filter (λ (u : Use). bytes_eq u.at.event event) us) (filter (λ (u : Use). bytes_eq u.at.event event) us))
    by true rest = ap (λ ns. u.at.plus ∷ ns) rest
    by false rest = rest

wanted_by_uses-append : (event : Text) (xs ys : List Held) → wanted_by_uses event (xs ++ ys) ≡ wanted_by_uses event xs ++ wanted_by_uses event ys
wanted_by_uses-append event xs ys =
    ap (map (λ (h : Held). h.from)) (filter-append (is_on event) xs ys) ∙ map-append (λ (h : Held). h.from) (filter (is_on event) xs) (filter (is_on event) ys)

-- the greatest of both kinds
pub greatest_wanted : (l : Lowering) (event : Text) (vs : List Invocation)
    → greatest (flat_map (wanted_by l event) vs) ≡ max (greatest (flat_map (wanted_by_ports l event) vs)) (greatest (wanted_by_uses event (flat_map (held_by l.scope) vs)))
greatest_wanted l event [] = refl
greatest_wanted l event (v ∷ vs) =
    let ports = wanted_by_ports l event v in
    let uses = map (λ (u : Use). u.at.plus) (filter (λ (u : Use). bytes_eq u.at.event event) (uses_of l.scope v)) in
    let later_ports = flat_map (wanted_by_ports l event) vs in
    let later_helds = flat_map (held_by l.scope) vs in
    let all : greatest ((ports ++ uses) ++ flat_map (wanted_by l event) vs) ≡ max (max (greatest ports) (greatest uses)) (greatest (flat_map (wanted_by l event) vs)) =
    greatest-append (ports ++ uses) (flat_map (wanted_by l event) vs) ∙ ap (λ n. max n (greatest (flat_map (wanted_by l event) vs))) (greatest-append ports uses) in
    let rest = greatest_wanted l event vs in
    let first : greatest (ports ++ later_ports) ≡ max (greatest ports) (greatest later_ports) = greatest-append ports later_ports in
    let second : greatest (wanted_by_uses event (held_by l.scope v ++ later_helds)) ≡ max (greatest uses) (greatest (wanted_by_uses event later_helds)) =
    ap greatest (wanted_by_uses-append event (held_by l.scope v) later_helds) ∙ greatest-append (wanted_by_uses event (held_by l.scope v)) (wanted_by_uses event later_helds)
    ∙ ap (λ ns. max (greatest ns) (greatest (wanted_by_uses event later_helds))) (wanted_by_held v.name event (uses_of l.scope v)) in
    omega (arith, all, rest, first, second)
