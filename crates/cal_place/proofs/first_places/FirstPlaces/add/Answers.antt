use Rattle.std.proofs.Common.{◌≡◌, ◌≢◌, ◌++◌, ◌∷◌, [], length, refl, sym, ap, ◌∙◌, arith}
use Rattle.cal_place.proofs.FirstLemmas.{added_new, added_old, interned_new, interned_same}
use Rattle.cal_place.proofs.first_places.FirstPlaces.add.Goals as goal

pub returns-then-len-before : goal.returns-then-len-before
returns-then-len-before c list counted shows =
    let f = c.args.self.now in
    let name = c.args.name.now in
    let same : length c.intern.new.self ≡ length f.names = omega (arith, c.if-len-before.true, c.len.ensures.len, c.len-before.ensures.len) in
    let is = interned_same f.names c.intern.new.self name (λ there. (c.in_ok-_id.ensures.present there).1) (λ absent. (c.in_ok-_id.ensures.added absent).0) same in
    added_old f _ list name shows is.0 is.1 refl refl

pub returns : goal.returns
returns c list counted shows =
    let f = c.args.self.now in
    let name = c.args.name.now in
    let differ : length c.intern.new.self ≢ length f.names = λ e. omega (arith, e, c.if-len-before.false, c.len.ensures.len, c.len-before.ensures.len) in
    let is = interned_new f.names c.intern.new.self name (λ there. (c.in_ok-_id.ensures.present there).1) (λ absent. (c.in_ok-_id.ensures.added absent).0) differ in
    added_new f _ list name shows is.0 is.1 (c.in_ok-push.ensures.items ∙ ap (λ n. f.places.items ++ n ∷ []) (sym counted)) refl
