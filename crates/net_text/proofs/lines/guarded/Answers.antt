use Rattle.std.proofs.Common.{◌<◌, length, arith}
use Rattle.std.proofs.lemmas.Bool.Decides.{nat_tests}
use Rattle.net_core.specs.Guard.{source_tree}
use Rattle.hw_names.specs.Name.{text_of}
use Rattle.net_text.specs.inside.ReadLines.{guarded_of_text}
use Rattle.net_text.specs.inside.ReadWords.{source_at}
use Rattle.net_text.proofs.NameLemmas.{Extends-itself}
use Rattle.net_text.proofs.WordLemmas.{whole_none}
use Rattle.net_text.proofs.lines.guarded.Goals as goal

pub returns-then-not-is_empty-clause-read : goal.returns-then-not-is_empty-clause-read
unfolding guarded_of_text
returns-then-not-is_empty-clause-read c =
    let names = c.source.new.names in
    let rest = c.in_ok-src.rest.now in
    let some : 0 < length rest = grind (arith, nat_tests) in
    rw c.in_ok-expect.ensures.read
    (whole_none (source_at c.in_ok-expect.field-0.now) (source_tree (text_of names) c.in_ok-src.src) rest (c.in_ok-src.ensures.read names (Extends-itself names)) some)
