use Rattle.std.proofs.Common.{◌≡◌, ◌<◌, ◌++◌, [], length, ap, sym, ◌∙◌, append_assoc, arith}
use Rattle.std.proofs.lemmas.Bool.Decides.{nat_tests}
use Rattle.std.proofs.lemmas.List.{nil_from_length}
use Rattle.hw_names.specs.Name.{Text}
use Rattle.net_core.specs.Netlist.{netlist_of}
use Rattle.net_text.specs.inside.ReadTexts.{front_text}
use Rattle.net_text.proofs.TextLaws.{last_line, refused_more}
use Rattle.net_text.proofs.NumberedLaws.{HasNumbers-from_text}
use Rattle.net_text.proofs.read.finished.Goals as goal

pub returns-then-not-is_empty-clause-refused : goal.returns-then-not-is_empty-clause-refused
returns-then-not-is_empty-clause-refused c =
    let n = netlist_of c.args.net in
    let rest = c.args.rest.now in
    let some : 0 < length rest = grind (arith, nat_tests) in
    refused_more c.args.bytes.now rest n c.requires.has (c.requires.parts ∙ sym (append_assoc (front_text n) last_line rest)) some

pub returns-clause-spelled : goal.returns-clause-spelled
returns-clause-spelled c =
    let none : c.args.rest.now ≡ [] = nil_from_length c.args.rest.now (grind (arith, nat_tests)) in
    ((c.requires.has, c.requires.parts ∙ ap (λ (rest : Text). front_text (netlist_of c.args.net) ++ (last_line ++ rest)) none), HasNumbers-from_text c.args.net c.requires.has)
