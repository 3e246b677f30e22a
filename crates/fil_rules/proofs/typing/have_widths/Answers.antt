use Rattle.std.proofs.Common.{◌≡◌, [], ◌∷◌, length, rules, length-append, subst, sym}
use Rattle.std.specs.Iterator.Adapters.{zip_first, zip_second}
use Rattle.std.specs.Slice.Iter.{iter_rest}
use Rattle.std.proofs.lemmas.Slice.Zip.{zip_end, zip_turn}
use Rattle.fil_sig.proofs.ListLemmas.{told_false, told_true}
use Rattle.fil_rules.specs.inside.Arguments.{AreWide}
use Rattle.fil_rules.proofs.ArgumentLemmas.{WideBelow, wide_all, wide_fails, wide_more}
use Rattle.fil_place.proofs.GeneralLemmas.{clash}
use Rattle.fil_rules.proofs.typing.have_widths.Goals as goal

pub returns-then-not-has_width : goal.returns-then-not-has_width
returns-then-not-has_width c scope place =
    let names = c.args.place.now.names.now in
    let args = c.args.args.now in
    let ports = c.args.ports.now in
    let s = c.into_iter-arg-iterator.result in
    let first : iter_rest (zip_first s) ≡ args = search rules in
    let second : iter_rest (zip_second s) ≡ ports = search rules in
    let turn = zip_turn args ports c.loop-arg.yielded s c.loop-arg.arg-iterator c.next.new.self c.next.result first second c.loop-arg.yielded_by (c.in-Some.arg, c.in-Some.port) c.in-Some.is c.next.ensures.steps in
    told_false (AreWide scope names ports args)
    (wide_fails names scope ports args (length c.loop-arg.yielded) c.in-Some.arg.now c.in-Some.port.now turn.2 turn.3 turn.0 turn.1
    (λ wide. clash c.has_width.result ((c.has_width.ensures scope place).1 wide) c.if-not-has_width.true))

pub loop-arg-preserved : goal.loop-arg-preserved
loop-arg-preserved c scope place =
    let names = c.args.place.now.names.now in
    let args = c.args.args.now in
    let ports = c.args.ports.now in
    let s = c.into_iter-arg-iterator.result in
    let first : iter_rest (zip_first s) ≡ args = search rules in
    let second : iter_rest (zip_second s) ≡ ports = search rules in
    let turn = zip_turn args ports c.loop-arg.yielded s c.loop-arg.arg-iterator c.next.new.self c.next.result first second c.loop-arg.yielded_by (c.in-Some.arg, c.in-Some.port) c.in-Some.is c.next.ensures.steps in
    subst (WideBelow names scope ports args) (sym (length-append c.loop-arg.yielded ((c.in-Some.arg, c.in-Some.port) ∷ [])))
    (wide_more names scope ports args (length c.loop-arg.yielded) c.in-Some.arg.now c.in-Some.port.now turn.2 turn.3 (c.loop-arg.invariant scope place)
    ((c.has_width.ensures scope place).0 c.if-not-has_width.false))

pub returns : goal.returns
returns c scope place =
    let names = c.args.place.now.names.now in
    let args = c.args.args.now in
    let ports = c.args.ports.now in
    let s = c.into_iter-arg-iterator.result in
    let first : iter_rest (zip_first s) ≡ args = search rules in
    let second : iter_rest (zip_second s) ≡ ports = search rules in
    let end = zip_end args ports c.loop-arg.yielded s c.loop-arg.arg-iterator c.next.new.self c.next.result first second c.loop-arg.yielded_by c.in-None.is c.next.ensures.steps in
    told_true (AreWide scope names ports args) (wide_all names scope ports args (length c.loop-arg.yielded) end (c.loop-arg.invariant scope place))
