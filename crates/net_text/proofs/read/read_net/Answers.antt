use Rattle.net_text.proofs.ReadLemmas.{first_is_read}
use Rattle.net_text.proofs.TextLaws.{refused_first, refused_whole}
use Rattle.net_text.proofs.read.read_net.Goals as goal

pub returns-in_default-clause-refused : goal.returns-in_default-clause-refused
returns-in_default-clause-refused c = refused_whole c.args.bytes.now c.in_default.ensures.none

pub read_lines-requires : goal.read_lines-requires
read_lines-requires c =
    first_is_read c.args.bytes.now c.in-Some.line.now c.in-Some.rest.now c.in-Ok.net c.in-Some.ensures.parts c.requires c.in-Ok.ensures.read c.in-Ok.ensures.settled c.in-Ok.ensures.grows

pub returns-in-Err-Grammar-clause-refused : goal.returns-in-Err-Grammar-clause-refused
returns-in-Err-Grammar-clause-refused c =
    refused_first c.args.bytes.now c.in-Some.line.now c.in-Some.rest.now c.in-Some.ensures.parts c.in-Some.ensures.line (rw c.in-Err-Grammar.field-0-is at c.in-Err-Grammar.ensures.read)
