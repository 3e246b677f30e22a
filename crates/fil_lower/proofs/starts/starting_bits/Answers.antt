use Rattle.std.proofs.Common.{◌≡◌, ◌==◌, ◌++◌, ◌∷◌, [], true, false, List, All, length, map, filter, take, get_or, slice_get, Option, Some, refl, sym, ap, ap₂, subst, ◌∙◌, append-nil, arith}
use Rattle.std.proofs.lemmas.Bool.{false_from_ne_true}
use Rattle.std.proofs.lemmas.Bool.Decides.{Decides-eqb}
use Rattle.std.proofs.lemmas.List.{length-map, map-append, take_all}
use Rattle.std.proofs.lemmas.List.Elements.{All-push}
use Rattle.std.proofs.lemmas.Option.{same_Some, slice_get_read, slice_get_within}
use Rattle.hw_names.specs.Name.{text_of}
use Rattle.cal_ast.specs.Numbers.{PortHasNumbers}
use Rattle.cal_ast.specs.Tree.{port_tree}
use Rattle.cal_ast.specs.declared.tree.CalPort.{CalPort}
use Rattle.fil_share.proofs.ListLemmas.{Contains-at}
use Rattle.fil_share.specs.Uses.{IsGoodUse}
use Rattle.fil_share.specs.declared.uses.Use.{Use}
use Rattle.fil_lower.specs.inside.Lowering.{bit_at}
use Rattle.fil_lower.specs.inside.Place.{is_of}
use Rattle.fil_lower.proofs.UseNumberLemmas.{bits_at, bits_next, is_of_instance, starting, use_at, use_starts}
use Rattle.fil_lower.proofs.StepLemmas.{All-at, some_read}
use Rattle.fil_lower.proofs.starts.starting_bits.Goals.{then-used-event+in_ok-push, else-used-event}
use Rattle.fil_lower.proofs.starts.starting_bits.Goals as goal

pub index-used-requires : goal.index-used-requires
index-used-requires c =
    let (l, inst, shows, are, starts) = c.requires in
    let own = c.args.place.now.body.now.names.now in
    let uses = c.args.place.now.body.now.uses.items in
    let numbers = c.args.numbers.now in
    let i = c.loop-number.number-index in
    let (u, at_u, at_us) = use_at uses (filter (is_of own inst) uses) numbers i (get_or numbers i 0) are (some_read numbers i 0 c.loop-number-test.true) in
    omega (arith, slice_get_within uses (get_or numbers i 0) u at_u, c.args.place.now.body.now.uses.ok.0)

pub start_bit-requires-clause-event : goal.start_bit-requires-clause-event
start_bit-requires-clause-event c =
    let (l, inst, shows, are, starts) = c.requires in
    let own = c.args.place.now.body.now.names.now in
    let uses = c.args.place.now.body.now.uses.items in
    let numbers = c.args.numbers.now in
    let i = c.loop-number.number-index in
    let number = get_or numbers i 0 in
    let (u, at_u, at_us) = use_at uses (filter (is_of own inst) uses) numbers i number are (some_read numbers i 0 c.loop-number-test.true) in
    let x = c.index-used.result.now in
    let at : slice_get uses number ≡ Some x = slice_get_read uses (length uses) number x refl (slice_get_within uses number u at_u) c.index-used.ensures in
    (All-at (IsGoodUse own) uses number x at shows.body.good).numbered.0

pub start_bit-requires-clause-known : goal.start_bit-requires-clause-known
start_bit-requires-clause-known c =
    let (l, inst, shows, are, starts) = c.requires in
    let own = c.args.place.now.body.now.names.now in
    let uses = c.args.place.now.body.now.uses.items in
    let numbers = c.args.numbers.now in
    let i = c.loop-number.number-index in
    let number = get_or numbers i 0 in
    let us = filter (is_of own inst) uses in
    let (u, at_u, at_us) = use_at uses us numbers i number are (some_read numbers i 0 c.loop-number-test.true) in
    let x = c.index-used.result.now in
    let at : slice_get uses number ≡ Some x = slice_get_read uses (length uses) number x refl (slice_get_within uses number u at_u) c.index-used.ensures in
    let same : x ≡ u = same_Some x u (sym at ∙ at_u) in
    let of_inst : text_of own x.inst ≡ inst = is_of_instance own uses inst i x (at_us ∙ ap Some (sym same)) in
    let of_event : x.event ≡ c.args.event = omega arith in
    let found = use_starts l own uses inst c.args.event x shows.body.uses starts (Contains-at uses number x at) of_inst of_event in
    (l, shows, found.0, found.1)

pub loop-number-preserved : goal.loop-number-preserved
loop-number-preserved c =
    let own = c.args.place.now.body.now.names.now in
    let names = c.args.place.now.names.now in
    let uses = c.args.place.now.body.now.uses.items in
    let numbers = c.args.numbers.now in
    let i = c.loop-number.number-index in
    let number = get_or numbers i 0 in
    let k = c.args.event in
    let x = c.index-used.result.now in
    elim c.if-used-event.branch [
      | then-used-event+in_ok-push w ↦
          let A : List CalPort → Type 0 = All (PortHasNumbers names) in
          let of_event : x.event ≡ k = omega arith in
          rw w.bits-is (record {
            bits = λ low inst shows are.
                let us = filter (is_of own inst) uses in
                let (u, at_u, at_us) = use_at uses us numbers i number are (some_read numbers i 0 c.loop-number-test.true) in
                let at : slice_get uses number ≡ Some x = slice_get_read uses (length uses) number x refl (slice_get_within uses number u at_u) c.index-used.ensures in
                let same : x ≡ u = same_Some x u (sym at ∙ at_u) in
                let is_true : (u.event == k) ≡ true = (Decides-eqb u.event k).1 (ap (λ (u : Use). u.event) (sym same) ∙ of_event) in
                ap (map (port_tree names)) w.in_ok-push.ensures.items ∙ map-append (port_tree names) c.loop-number.bits.items _
                ∙ ap₂ (λ xs b. xs ++ b ∷ []) (c.loop-number.invariant.bits low inst shows are) (w.start_bit.ensures.bit low shows ∙ ap (λ (u : Use). bit_at low (text_of own u.on) u.from) same)
                ∙ sym (bits_next low own inst k us i u true at_us is_true);
            numbers = subst A (sym w.in_ok-push.ensures.items) (All-push (PortHasNumbers names) c.loop-number.bits.items _ c.loop-number.invariant.numbers w.start_bit.ensures.numbers);
          })
      | else-used-event w ↦
          rw w.bits-is (record {
            bits = λ low inst shows are.
                let us = filter (is_of own inst) uses in
                let (u, at_u, at_us) = use_at uses us numbers i number are (some_read numbers i 0 c.loop-number-test.true) in
                let at : slice_get uses number ≡ Some x = slice_get_read uses (length uses) number x refl (slice_get_within uses number u at_u) c.index-used.ensures in
                let same : x ≡ u = same_Some x u (sym at ∙ at_u) in
                let is_false : (u.event == k) ≡ false = false_from_ne_true (u.event == k) (λ yes. let is : x.event ≡ k = ap (λ (u : Use). u.event) same ∙ (Decides-eqb u.event k).0 yes in absurd (omega (arith, is, w.if-used-event.false))) in
                c.loop-number.invariant.bits low inst shows are ∙ sym (bits_next low own inst k us i u false at_us is_false ∙ append-nil (bits_at low own inst k (take i us)));
            numbers = c.loop-number.invariant.numbers;
          })
    ]

pub returns-clause-bits : goal.returns-clause-bits
returns-clause-bits c = λ l inst shows are.
    let own = c.args.place.now.body.now.names.now in
    let uses = c.args.place.now.body.now.uses.items in
    let numbers = c.args.numbers.now in
    let us = filter (is_of own inst) uses in
    let i = c.loop-number.number-index in
    let count : length numbers ≡ length us = sym (length-map numbers (slice_get uses)) ∙ ap (length {A = Option Use}) are ∙ length-map us (λ (u : Use). Some u) in
    let all : take i us ≡ us = take_all i us (omega (arith, count, c.loop-number-test.false)) in
    c.loop-number.invariant.bits l inst shows are ∙ ap (bits_at l own inst c.args.event) all ∙ starting l own inst c.args.event uses shows.body.uses
