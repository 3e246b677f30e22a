use Rattle.std.proofs.Common.{◌≡◌, refl}
use Rattle.hw_names.specs.Name.{text_of}
use Rattle.net_text.specs.inside.ReadLines.{set_of_text}
use Rattle.net_text.proofs.WordLaws.{some_is}
use Rattle.net_text.proofs.NameLemmas.{Extends-then}
use Rattle.net_text.proofs.lines.set.Goals as goal

pub returns-clause-read : goal.returns-clause-read
unfolding set_of_text
returns-clause-read c = λ later ext.
    let dst : c.in_ok-dst.dst.now ≡ text_of later c.in_ok-dst-2.dst =
    some_is c.in_ok-dst.dst.now (text_of later c.in_ok-dst-2.dst) (c.in_ok-dst-2.ensures.read later (Extends-then c.in_ok-guard.ensures.grows.extends ext)) in
    let value = c.in_ok-guard.ensures.read later ext in
    rw (c.in_ok-dst.ensures.read, c.in_ok-rest.ensures.read, value, dst) refl
