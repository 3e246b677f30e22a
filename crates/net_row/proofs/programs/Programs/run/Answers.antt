use Rattle.std.proofs.Common.{◌≡◌, sym, arith, subst}
use Rattle.std.proofs.lemmas.List.{get_or_past}
use Rattle.net_steps.specs.Steps.{IsAssumed}
use Rattle.net_row.specs.Programs.{IsRunOf, program_at}
use Rattle.net_row.specs.declared.program.Program.{Program}
use Rattle.net_row.proofs.programs.Programs.run.Goals as goal

-- the general program assumes nothing
pub returns-clause-made : goal.returns-clause-made
returns-clause-made c =
    let programs = c.args.self.now in
    let slots = c.run_program.new.slots in
    let past : program_at programs c.len.result ≡ programs.general = get_or_past programs.cases.items c.len.result programs.general (omega (arith, c.len.ensures, programs.cases.ok.0)) in
    subst (λ (p : Program). IsRunOf c.args.base p c.args.others.now slots) (sym past) (record {
      made = c.run_program.ensures.made;
      assumed = subst (λ es. IsAssumed slots es) (sym c.requires.fit.any) (λ k d lt. absurd (omega (arith, lt)));
    })
