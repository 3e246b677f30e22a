use Rattle.std.proofs.Common.{◌≡◌, ◌+◌, ◌≤◌, List, length, get_or, ap, sym, arith, subst, All}
use Rattle.std.proofs.lemmas.List.Elements.{All-push}
use Rattle.net_steps.specs.Runs.{all_operations}
use Rattle.net_steps.specs.declared.runs.Run.{Run}
use Rattle.net_row.proofs.ProgramsLemmas.{fit_wider}
use Rattle.net_row.specs.Programs.{IsFit}
use Rattle.net_row.proofs.programs.Programs.add.Goals as goal

pub returns-clause-fit : goal.returns-clause-fit
returns-clause-fit c =
    let others = c.args.others.now in
    let base = c.args.base in
    let old = c.args.self.now in
    let room = c.max-self.result in
    let le : old.room ≤ room = omega (arith, c.max-self.ensures) in
    let added : IsFit base room others c.args.program = record {
      within = omega (arith, c.max-self.ensures, c.in_ok-room.ensures, ap (λ (runs : List Run). length (all_operations runs)) c.as_slice.ensures.value);
      sound = c.is_sound.ensures c.if-not-is_sound.false;
    } in
    record {
      general = fit_wider base old.room room others old.general le c.requires.fit.general;
      any = c.requires.fit.any;
      cases = subst (All (IsFit base room others)) (sym c.in_ok-push.ensures.items)
          (All-push (IsFit base room others) old.cases.items c.args.program
          (λ k d lt. fit_wider base old.room room others (get_or old.cases.items k d) le (c.requires.fit.cases k d lt)) added);
      opening_within = omega (arith, le, c.requires.fit.opening_within);
      opening_below = c.requires.fit.opening_below;
    }
