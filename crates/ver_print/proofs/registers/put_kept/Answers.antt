use Rattle.std.proofs.Common.{ℕ, ◌-◌, ◌++◌, codes, decimal, ap, ◌∙◌}
use Rattle.hw_names.specs.Name.{Text}
use Rattle.ver_print.specs.Words.{inner_line, part}
use Rattle.ver_print.proofs.LineLemmas.{kept_text}
use Rattle.ver_print.proofs.PutLemmas.{OnOk-is}
use Rattle.ver_print.proofs.registers.put_kept.Goals as goal

pub returns : goal.returns
returns c =
    let cell = c.args.cell.now in
    let out = c.args.out.now.items in
    let register = part cell c.args.register.now in
    let width = decimal c.args.w in
    OnOk-is c.put_line.result c.put_line.new.out.items _ _ c.put_line.ensures
    (ap (λ (n : ℕ). out ++ inner_line (codes "reg [" ++ (decimal n ++ (codes ":0] " ++ (register ++ (codes "= " ++ (width ++ codes "'d0;"))))))) c.saturating_sub.ensures
    ∙ ap (λ (t : Text). out ++ inner_line t) (kept_text (decimal (c.args.w - 1)) register width))
