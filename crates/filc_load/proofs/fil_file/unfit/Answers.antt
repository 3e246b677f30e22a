use Rattle.std.proofs.Common.{subst}
use Rattle.fil_check.specs.First.{TellsFirst}
use Rattle.fil_check.specs.Least.{evidence_of}
use Rattle.fil_check.specs.declared.rules.FilEnd.{FilEnd}
use Rattle.filc_load.proofs.FilLemmas.{refusal_number}
use Rattle.filc_load.proofs.fil_file.unfit.Goals as goal

pub broken-requires-clause-first : goal.broken-requires-clause-first
broken-requires-clause-first c = subst (λ (e : FilEnd). TellsFirst c.args.design.now e) c.in-Refused.is c.requires.first

pub broken-requires-clause-numbered : goal.broken-requires-clause-numbered
broken-requires-clause-numbered c =
    refusal_number c.args.design.now c.in-Refused.rule c.in-Refused.comp c.in-Refused.item (evidence_of c.in-Refused.evidence) c.requires.written
    (subst (λ (e : FilEnd). TellsFirst c.args.design.now e) c.in-Refused.is c.requires.first)
