use Rattle.std.proofs.Common.{◌≡◌, ◌<◌, ◌++◌, [], List, Contains, length, map, take, slice_get, Option, Some, refl, sym, ap, ap₂, subst, ◌∙◌, append-nil, append_assoc, arith}
use Rattle.std.specs.Option.{IfSome, option_map_or}
use Rattle.hw_names.specs.Name.{Text, text_of}
use Rattle.cal_ast.specs.Tree.{assignment_tree, port_tree}
use Rattle.fil_ast.specs.Signature.{SigEvent}
use Rattle.fil_sig.specs.Seen.{seen_event}
use Rattle.fil_share.proofs.Lookup.{at_mapped}
use Rattle.fil_lower.specs.inside.Lowering.{Lowering, start_set, start_sets_from, starting_bits}
use Rattle.fil_lower.specs.inside.Parts.{IsNamedEvent}
use Rattle.fil_lower.proofs.KnownLemmas.{starts_fit}
use Rattle.fil_lower.proofs.UseNumberLemmas.{start_next}
use Rattle.fil_lower.proofs.StepLemmas.{All-at}
use Rattle.fil_lower.proofs.starts.push_instance.Goals.{in-Some+in_ok-bits+in_ok-push_start, in_default}
use Rattle.fil_lower.proofs.starts.push_instance.Goals as goal

pub starting_bits-requires : goal.starting_bits-requires
starting_bits-requires c =
    let (l, sig, shows, are, signed, same) = c.requires.known in
    let inst = text_of c.args.place.now.body.now.names.now c.args.inst in
    let events = c.args.events.now in
    let n = c.loop-number.number in
    let e = seen_event c.index-events-number.result in
    let within : n < length events = omega arith in
    let at : slice_get sig.events n ≡ Some e = ap (λ (es : List SigEvent). slice_get es n) same ∙ at_mapped seen_event events events n c.index-events-number.result refl within c.index-events-number.is in
    (l, inst, shows, are, starts_fit c.args.place.now.body.now l shows.body shows.enough inst sig n e c.in-Some.go signed at c.in-Some.is)

pub push_start-requires-clause-go : goal.push_start-requires-clause-go
push_start-requires-clause-go c =
    let (l, sig, shows, are, signed, same) = c.requires.known in
    let inst = text_of c.args.place.now.body.now.names.now c.args.inst in
    let names = c.args.place.now.names.now in
    let events = c.args.events.now in
    let n = c.loop-number.number in
    let e = seen_event c.index-events-number.result in
    let within : n < length events = omega arith in
    let at : slice_get sig.events n ≡ Some e = ap (λ (es : List SigEvent). slice_get es n) same ∙ at_mapped seen_event events events n c.index-events-number.result refl within c.index-events-number.is in
    let N : Option Text → Type 0 = λ go. IfSome go (Contains names) in
    subst N c.in-Some.is (All-at (IsNamedEvent names) sig.events n e at (shows.ports inst sig signed).interfaces)

pub returns-in_err-push_start-clause-numbers : goal.returns-in_err-push_start-clause-numbers
returns-in_err-push_start-clause-numbers c = λ known. c.push_start.ensures.numbers (c.loop-number.invariant.numbers known)

pub loop-number-preserved : goal.loop-number-preserved
loop-number-preserved c =
    let inst = text_of c.args.place.now.body.now.names.now c.args.inst in
    let names = c.args.place.now.names.now in
    let events = c.args.events.now in
    let trees = map seen_event events in
    let n = c.loop-number.number in
    let e = seen_event c.index-events-number.result in
    let within : n < length events = omega arith in
    let at : slice_get trees n ≡ Some e = at_mapped seen_event events events n c.index-events-number.result refl within c.index-events-number.is in
    let old = map (assignment_tree names) c.args.sets.now.items in
    let so_far = λ (low : Lowering). start_sets_from low inst 0 (take n trees) in
    let of = λ (low : Lowering) (go : Option Text). option_map_or (λ go. start_set inst go (starting_bits low inst n)) go [] in
    elim c.match-event.branch [
      | in-Some+in_ok-bits+in_ok-push_start w ↦
          rw w.sets-is (record {
            sets = λ low shows are.
                w.in_ok-push_start.ensures.sets
                ∙ ap₂ (λ xs ports. xs ++ start_set inst w.in-Some.go ports) (c.loop-number.invariant.sets low shows are) (ap (map (port_tree names)) w.deref.ensures.value ∙ w.in_ok-bits.ensures.bits low inst shows are)
                ∙ append_assoc old (so_far low) (start_set inst w.in-Some.go (starting_bits low inst n))
                ∙ ap (λ xs. old ++ xs) (sym (start_next low inst trees n e at ∙ ap (λ go. so_far low ++ of low go) w.in-Some.is));
            numbers = λ known. w.push_start.ensures.numbers (c.loop-number.invariant.numbers known);
          })
      | in_default w ↦
          rw w.sets-is (record {
            sets = λ low shows are.
                c.loop-number.invariant.sets low shows are
                ∙ ap (λ xs. old ++ xs) (sym (start_next low inst trees n e at ∙ ap (λ go. so_far low ++ of low go) w.in_default.is ∙ append-nil (so_far low)));
            numbers = c.loop-number.invariant.numbers;
          })
    ]
