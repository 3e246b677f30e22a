use Rattle.std.proofs.Common.{◌≡◌, ◌+◌, Bool, Some, length, get_or, slice_get, codes, decimal, refl, sym, ap, subst, ◌∙◌, ◌++◌, append_assoc, arith}
use Rattle.std.proofs.lemmas.Option.{slice_get_read}
use Rattle.hw_names.specs.Name.{Text}
use Rattle.net_core.specs.Netlist.{set_of}
use Rattle.net_core.specs.Numbers.{SetHasNumbers}
use Rattle.ver_print.specs.inside.Putting.{PutsGuarded}
use Rattle.ver_print.proofs.DriveLemmas.{value_end, value_from, value_next}
use Rattle.ver_print.proofs.PutLemmas.{OnOk-is}
use Rattle.ver_print.proofs.drives.put_value.Goals as goal

pub index-requires : goal.index-requires
index-requires c = omega (arith, c.requires.within c.loop-number.number-index 0 c.loop-number-test.true, c.args.net.now.sets.ok.0)

pub put_guarded-requires : goal.put_guarded-requires
put_guarded-requires c =
    let net = c.args.net.now in
    let i = c.loop-number.number-index in
    let number = get_or c.args.numbers.now i 0 in
    subst (SetHasNumbers net.names) (sym c.index.ensures) (c.requires.numbers.sets number c.index.result.now (c.requires.within i 0 c.loop-number-test.true))

pub returns-then-not-guarded : goal.returns-then-not-guarded
returns-then-not-guarded c =
    let net = c.args.net.now in
    let sets = net.sets.items in
    let numbers = c.args.numbers.now in
    let i = c.loop-number.number-index in
    let number = get_or numbers i 0 in
    let a = c.index.result.now in
    let old = c.loop-number.out.items in
    let new = c.put_guarded.new.out.items in
    let at : slice_get sets number ≡ Some a = slice_get_read sets (length sets) number a refl (c.requires.within i 0 c.loop-number-test.true) c.index.ensures in
    let puts = subst (λ (b : Bool). PutsGuarded old new b (set_of net.names a)) c.if-not-guarded.true c.in_ok-guarded.ensures in
    puts (value_from net.names sets numbers c.args.width (i + 1))
    ∙ ap (λ (t : Text). old ++ t) (sym (value_next net.names sets numbers c.args.width i number a c.loop-number-test.true refl at)) ∙ c.loop-number.invariant

pub loop-number-preserved : goal.loop-number-preserved
loop-number-preserved c =
    let net = c.args.net.now in
    let sets = net.sets.items in
    let numbers = c.args.numbers.now in
    let i = c.loop-number.number-index in
    let number = get_or numbers i 0 in
    let a = c.index.result.now in
    let old = c.loop-number.out.items in
    let new = c.put_guarded.new.out.items in
    let at : slice_get sets number ≡ Some a = slice_get_read sets (length sets) number a refl (c.requires.within i 0 c.loop-number-test.true) c.index.ensures in
    let puts = subst (λ (b : Bool). PutsGuarded old new b (set_of net.names a)) c.if-not-guarded.false c.in_ok-guarded.ensures in
    puts (value_from net.names sets numbers c.args.width (i + 1))
    ∙ ap (λ (t : Text). old ++ t) (sym (value_next net.names sets numbers c.args.width i number a c.loop-number-test.true refl at)) ∙ c.loop-number.invariant

pub returns : goal.returns
returns c =
    let net = c.args.net.now in
    let out = c.loop-number.out.items in
    let last = value_end net.names net.sets.items c.args.numbers.now c.args.width c.loop-number.number-index c.loop-number-test.false in
    OnOk-is c.put.result c.put.new.out.items _ _ c.put.ensures
    (ap (λ (t : Text). t ++ codes "'d0") c.in_ok-put_number.ensures ∙ append_assoc out (decimal c.args.width) (codes "'d0") ∙ ap (λ (t : Text). out ++ t) (sym last) ∙ c.loop-number.invariant)
