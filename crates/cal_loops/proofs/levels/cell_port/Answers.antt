use Rattle.std.proofs.Common.{rules, ◌≡◌, ◌<◌, ◌∙◌, Option, Some, List, length, slice_get, get_or, sym, ap, subst, arith, ℕ}
use Rattle.std.specs.Slice.{IsItemAt}
use Rattle.std.proofs.lemmas.Option.{none-some, same_Some, slice_get-get_or, slice_get_within}
use Rattle.cal_place.specs.Around.{comp_at, design_at}
use Rattle.cal_loops.proofs.CellPortLemmas.{cell_told, level_told, made_told, part_within, pin_told, port_told}
use Rattle.cal_place.proofs.ListLemmas.{got}
use Rattle.cal_loops.proofs.levels.cell_port.Goals as goal

pub returns-in_err-number-clause-found : goal.returns-in_err-number-clause-found
returns-in_err-number-clause-found c = λ port same is.
    let p = c.args.place.now in
    let d = design_at p in
    let own = comp_at p in
    let g = c.args.graph.now in
    let levels = c.args.levels.now in
    let cell = c.in_ok-cell.cell.now in
    let pin = c.in_ok-cell.pin.now in
    let at = c.in_ok-cell.ensures.some in
    let told = cell_told d own g levels c.args.node port same is cell pin at c.cell.result c.cell.ensures in
    absurd (none-some port.cell (sym c.in_err-number.was ∙ told))

pub returns-in_err-part-clause-found : goal.returns-in_err-part-clause-found
returns-in_err-part-clause-found c = λ port same is.
    let p = c.args.place.now in
    let d = design_at p in
    let own = comp_at p in
    let g = c.args.graph.now in
    let levels = c.args.levels.now in
    let cell = c.in_ok-cell.cell.now in
    let pin = c.in_ok-cell.pin.now in
    let at = c.in_ok-cell.ensures.some in
    let told = cell_told d own g levels c.args.node port same is cell pin at c.cell.result c.cell.ensures in
    let number : c.in_ok-number.number ≡ port.cell = same_Some c.in_ok-number.number port.cell (sym c.in_ok-number.was ∙ told) in
    let made_is = made_told d own g levels c.args.node port same is c.in_ok-number.number number c.made.result c.made.ensures in
    absurd (none-some is.m (sym c.in_err-part.was ∙ c.component_of.ensures ∙ made_is))

pub signature_of-signature-requires : goal.signature_of-signature-requires
signature_of-signature-requires c =
    let p = c.args.place.now in
    let less = part_within (design_at p) (comp_at p) c.in_ok-cell.cell.now c.in_ok-number.number c.cell.result c.in_ok-number.was c.cell.ensures c.made.result c.made.ensures c.in_ok-part.part (sym c.component_of.ensures ∙ c.in_ok-part.was) in
    less

pub returns-in_err-port-clause-found : goal.returns-in_err-port-clause-found
returns-in_err-port-clause-found c = λ port same is.
    let p = c.args.place.now in
    let d = design_at p in
    let own = comp_at p in
    let g = c.args.graph.now in
    let levels = c.args.levels.now in
    let cell = c.in_ok-cell.cell.now in
    let pin = c.in_ok-cell.pin.now in
    let at = c.in_ok-cell.ensures.some in
    let told = cell_told d own g levels c.args.node port same is cell pin at c.cell.result c.cell.ensures in
    let number : c.in_ok-number.number ≡ port.cell = same_Some c.in_ok-number.number port.cell (sym c.in_ok-number.was ∙ told) in
    let made_is = made_told d own g levels c.args.node port same is c.in_ok-number.number number c.made.result c.made.ensures in
    let m = c.in_ok-part.part in
    let part : m ≡ is.m = same_Some m is.m (sym c.in_ok-part.was ∙ c.component_of.ensures ∙ made_is) in
    let there : slice_get d m ≡ Some is.part = ap (slice_get d) part ∙ is.there in
    let pin_is = pin_told d own g levels c.args.node port same is cell pin at c.signature_of-signature.result.now (c.signature_of-signature.ensures is.part there) c.find.result c.find.ensures in
    absurd (none-some is.j (sym c.in_err-port.was ∙ pin_is))

pub offset_bounds-levels-part : goal.offset_bounds-levels-part
offset_bounds-levels-part c =
    let p = c.args.place.now in
    let less = part_within (design_at p) (comp_at p) c.in_ok-cell.cell.now c.in_ok-number.number c.cell.result c.in_ok-number.was c.cell.ensures c.made.result c.made.ensures c.in_ok-part.part (sym c.component_of.ensures ∙ c.in_ok-part.was) in
    let lt : c.in_ok-part.part < length c.args.levels.now = omega (arith, less, c.requires.all) in
    search (rules, lt)

pub bounds-levels-part : goal.bounds-levels-part
bounds-levels-part c =
    let p = c.args.place.now in
    let less = part_within (design_at p) (comp_at p) c.in_ok-cell.cell.now c.in_ok-number.number c.cell.result c.in_ok-number.was c.cell.ensures c.made.result c.made.ensures c.in_ok-part.part (sym c.component_of.ensures ∙ c.in_ok-part.was) in
    omega (arith, less, c.requires.all)

pub returns-in_err-level-clause-found : goal.returns-in_err-level-clause-found
returns-in_err-level-clause-found c = λ port same is.
    let p = c.args.place.now in
    let d = design_at p in
    let own = comp_at p in
    let g = c.args.graph.now in
    let levels = c.args.levels.now in
    let cell = c.in_ok-cell.cell.now in
    let pin = c.in_ok-cell.pin.now in
    let at = c.in_ok-cell.ensures.some in
    let told = cell_told d own g levels c.args.node port same is cell pin at c.cell.result c.cell.ensures in
    let number : c.in_ok-number.number ≡ port.cell = same_Some c.in_ok-number.number port.cell (sym c.in_ok-number.was ∙ told) in
    let made_is = made_told d own g levels c.args.node port same is c.in_ok-number.number number c.made.result c.made.ensures in
    let m = c.in_ok-part.part in
    let part : m ≡ is.m = same_Some m is.m (sym c.in_ok-part.was ∙ c.component_of.ensures ∙ made_is) in
    let there : slice_get d m ≡ Some is.part = ap (slice_get d) part ∙ is.there in
    let pin_is = pin_told d own g levels c.args.node port same is cell pin at c.signature_of-signature.result.now (c.signature_of-signature.ensures is.part there) c.find.result c.find.ensures in
    let j : c.in_ok-port.port ≡ is.j = same_Some c.in_ok-port.port is.j (sym c.in_ok-port.was ∙ pin_is) in
    let l = get_or levels m c.index-levels-part.result in
    let within : m < length levels = omega (arith, part, slice_get_within levels is.m is.known is.are) in
    let at_l : slice_get levels m ≡ Some l = slice_get-get_or levels m c.index-levels-part.result within in
    let I : List (Option ℕ) → Type 0 = λ ls. IsItemAt ls c.in_ok-port.port c.get.result in
    let look = c.copied.ensures ∙ got l.ports.items c.in_ok-port.port c.get.result (subst I c.deref.ensures.value c.get.ensures.lookup) in
    let level_is = c.flatten.ensures ∙ level_told d own g levels c.args.node port same is m part l at_l c.in_ok-port.port j c.copied.result look in
    absurd (none-some port.level (sym c.in_err-level.was ∙ level_is))

pub returns-clause-found : goal.returns-clause-found
returns-clause-found c = λ port same is.
    let p = c.args.place.now in
    let d = design_at p in
    let own = comp_at p in
    let g = c.args.graph.now in
    let levels = c.args.levels.now in
    let cell = c.in_ok-cell.cell.now in
    let pin = c.in_ok-cell.pin.now in
    let at = c.in_ok-cell.ensures.some in
    let told = cell_told d own g levels c.args.node port same is cell pin at c.cell.result c.cell.ensures in
    let number : c.in_ok-number.number ≡ port.cell = same_Some c.in_ok-number.number port.cell (sym c.in_ok-number.was ∙ told) in
    let made_is = made_told d own g levels c.args.node port same is c.in_ok-number.number number c.made.result c.made.ensures in
    let m = c.in_ok-part.part in
    let part : m ≡ is.m = same_Some m is.m (sym c.in_ok-part.was ∙ c.component_of.ensures ∙ made_is) in
    let there : slice_get d m ≡ Some is.part = ap (slice_get d) part ∙ is.there in
    let pin_is = pin_told d own g levels c.args.node port same is cell pin at c.signature_of-signature.result.now (c.signature_of-signature.ensures is.part there) c.find.result c.find.ensures in
    let j : c.in_ok-port.port ≡ is.j = same_Some c.in_ok-port.port is.j (sym c.in_ok-port.was ∙ pin_is) in
    let l = get_or levels m c.index-levels-part.result in
    let within : m < length levels = omega (arith, part, slice_get_within levels is.m is.known is.are) in
    let at_l : slice_get levels m ≡ Some l = slice_get-get_or levels m c.index-levels-part.result within in
    let I : List (Option ℕ) → Type 0 = λ ls. IsItemAt ls c.in_ok-port.port c.get.result in
    let look = c.copied.ensures ∙ got l.ports.items c.in_ok-port.port c.get.result (subst I c.deref.ensures.value c.get.ensures.lookup) in
    let level_is = c.flatten.ensures ∙ level_told d own g levels c.args.node port same is m part l at_l c.in_ok-port.port j c.copied.result look in
    let level : c.in_ok-level.level ≡ port.level = same_Some c.in_ok-level.level port.level (sym c.in_ok-level.was ∙ level_is) in
    port_told d own g levels c.args.node port same is c.in_ok-number.number c.in_ok-level.level c.in_ok-port.port c.signature_of-signature.result.now.inputs number level j (c.signature_of-signature.ensures is.part there).inputs
