use Rattle.std.proofs.Common.{List, Contains, sym, subst}
use Rattle.std.proofs.lemmas.Bool.{false≢true}
use Rattle.hw_names.specs.Name.{Text}
use Rattle.fil_flow.proofs.CalleeLemmas.{unknown}
use Rattle.fil_flow.proofs.earlier.Earlier.callee.Goals as goal

pub unreachable-requires : goal.unreachable-requires
unreachable-requires c =
    let (before, known, signed) = c.requires in
    let name = c.args.name.now in
    unknown before name c.args.params.now (sym c.in-None.ensures)
    (λ there. false≢true (c.in-None-find.ensures.present.1 (subst (λ (ts : List Text). Contains ts name) (sym known.names) there))) signed
