use Rattle.std.proofs.Common.{◌≡◌, ℕ, Global, Vec, sym, subst}
use Rattle.hw_names.specs.Name.{Text}
use Rattle.cal_ast.specs.Tree.{design_of}
use Rattle.cal_parse.specs.Spelling.{SpellsDesign}
use Rattle.cal_print.proofs.Shown.{design_shown}
use Rattle.cal_print.specs.Layout.{design_text}
use Rattle.cal_net.proofs.MadeLemmas.{ok_from}
use Rattle.cal_net.specs.Lowers.{IsLoweredText}
use Rattle.cal_net.proofs.text.calyx_of.Goals as goal

pub returns : goal.returns
returns c =
    let source = design_of c.args.ok.now in let wires = design_of c.in_ok-wires.wires.design in
    ok_from (λ (text : Vec ℕ Global). text.items ≡ design_text wires) (λ (text : Vec ℕ Global). IsLoweredText source text.items)
    (λ text is. record {
      wires = wires;
      lowers = c.in_ok-wires.ensures.lowers;
      is = is;
      spells = subst (λ (t : Text). SpellsDesign t wires) (sym is) (design_shown wires c.in_ok-wires.ensures.written);
    }) c.print_calyx.result c.print_calyx.ensures.text
