use Rattle.std.proofs.Common.{◌≡◌, refl}
use Rattle.hw_names.specs.Name.{text_of}
use Rattle.net_text.specs.inside.ReadLines.{cell_of_text}
use Rattle.net_text.proofs.WordLaws.{some_is}
use Rattle.net_text.proofs.NameLemmas.{Extends-then}
use Rattle.net_text.proofs.lines.cell.Goals as goal

pub returns-clause-read : goal.returns-clause-read
unfolding cell_of_text
returns-clause-read c = λ later ext.
    let name : c.in_ok-name.name.now ≡ text_of later c.in_ok-name-2.name =
    some_is c.in_ok-name.name.now (text_of later c.in_ok-name-2.name) (c.in_ok-name-2.ensures.read later (Extends-then c.in_ok-prim-2.ensures.grows.extends ext)) in
    let prim : c.in_ok-prim.prim.now ≡ text_of later c.in_ok-prim-2.prim =
    some_is c.in_ok-prim.prim.now (text_of later c.in_ok-prim-2.prim) (c.in_ok-prim-2.ensures.read later ext) in
    rw (c.in_ok-name.ensures.read, c.in_ok-expect.ensures.read, c.in_ok-prim.ensures.read, c.in_ok-params.ensures, name, prim) refl
