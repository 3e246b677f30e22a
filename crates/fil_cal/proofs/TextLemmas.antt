-- The canonical text of wires that a Filament design is lowered to is one of them.
use Rattle.std.proofs.Common.{◌≡◌, Result, Ok, Err, Vec, Global, sym, subst, ℕ}
use Rattle.std.specs.Prelude.{IfOk}
use Rattle.hw_bits.specs.declared.memory.Memory.{Memory}
use Rattle.hw_names.specs.Name.{Text}
use Rattle.cal_ast.specs.Tree as calyx
use Rattle.cal_parse.specs.Spelling.{SpellsDesign}
use Rattle.cal_print.specs.Layout.{design_text}
use Rattle.cal_print.proofs.Shown.{design_shown}
use Rattle.fil_ast.specs.Tree.{Design}
use Rattle.fil_lower.specs.Lowers.{Lowers}
use Rattle.fil_parse.specs.Written.{DesignIsWritten}
use Rattle.fil_cal.specs.LoweredText.{IsLoweredText}
use Rattle.fil_cal.proofs.WrittenLemmas.{design_written}

-- the printed text, where it was printed
pub lowered_text : (comps : Design) (design : calyx.Design) (result : Result (Vec ℕ Global) Memory) → Lowers comps design → DesignIsWritten comps → IfOk result (λ (text : Vec ℕ Global). text.items ≡ design_text design) → IfOk result (λ (text : Vec ℕ Global). IsLoweredText comps text.items)
lowered_text comps design (Ok text) lowers written is = record {
  design = design;
  lowers = lowers;
  is = is;
  spells = λ names. subst (λ (t : Text). SpellsDesign t design) (sym is) (design_shown design (design_written comps design lowers written names));
}
lowered_text comps design (Err why) lowers written is = tt
