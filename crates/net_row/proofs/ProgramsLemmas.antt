-- Programs that are added to those of a netlist.
use Rattle.std.proofs.Common.{◌≡◌, ℕ, ◌≤◌, List, [], ◌∷◌, ◌++◌, sym, arith, subst, All}
use Rattle.std.proofs.lemmas.List.Elements.{All-push}
use Rattle.net_core.specs.Netlist.{Netlist}
use Rattle.net_sim.specs.declared.cells.CellPorts.{CellPorts}
use Rattle.net_steps.specs.declared.other.Other.{Other as OtherCell}
use Rattle.net_row.specs.Program.{IsProgram}
use Rattle.net_row.specs.Programs.{AreProgramsOf, IsFit}
use Rattle.net_row.specs.declared.program.Program.{Program}
use Rattle.net_row.specs.declared.programs.Programs.{Programs}

module _ (n : Netlist) (cells : List CellPorts) (new : Programs) where
  -- the general one alone
  pub programs_alone : (general : Program) → new.general ≡ general → new.cases.items ≡ [] → IsProgram n cells general → AreProgramsOf n cells new
  programs_alone general same none is = record {
    general = subst (IsProgram n cells) (sym same) is;
    cases = subst (All (IsProgram n cells)) (sym none) (λ k d lt. absurd (omega (arith, lt)));
  }

  -- the same programs
  pub programs_same : (old : Programs) → new.general ≡ old.general → new.cases.items ≡ old.cases.items → AreProgramsOf n cells old → AreProgramsOf n cells new
  programs_same old same cases are = record {
    general = subst (IsProgram n cells) (sym same) are.general;
    cases = subst (All (IsProgram n cells)) (sym cases) are.cases;
  }

  -- one more case
  pub programs_more : (old : Programs) (program : Program) → new.general ≡ old.general → new.cases.items ≡ old.cases.items ++ program ∷ [] → AreProgramsOf n cells old → IsProgram n cells program → AreProgramsOf n cells new
  programs_more old program same cases are is = record {
    general = subst (IsProgram n cells) (sym same) are.general;
    cases = subst (All (IsProgram n cells)) (sym cases) (All-push (IsProgram n cells) old.cases.items program are.cases is);
  }

-- in more room
pub fit_wider : (base old new : ℕ) (others : List OtherCell) (program : Program) → old ≤ new → IsFit base old others program → IsFit base new others program
fit_wider base old new others program le fit = record { within = omega (arith, le, fit.within); sound = fit.sound }
