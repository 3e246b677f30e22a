use Rattle.std.proofs.Common.{◌++◌, Bool, codes, decimal, sym, ap, ◌∙◌, append-nil}
use Rattle.std.specs.Prelude.{if◌then◌else◌}
use Rattle.std.proofs.lemmas.Bool.{ne_eqb}
use Rattle.std.proofs.lemmas.Bool.Decides.{Decides-eqb}
use Rattle.hw_names.specs.Name.{Text}
use Rattle.ver_print.specs.Words.{part, zeros}
use Rattle.ver_print.proofs.LineLemmas.{padded_put}
use Rattle.ver_print.proofs.PutLemmas.{OnOk-is}
use Rattle.ver_print.proofs.pieces.put_padded.Goals as goal

pub returns-then-zeros-eq0 : goal.returns-then-zeros-eq0
returns-then-zeros-eq0 c =
    let out = c.args.out.now.items in
    let port = part c.args.cell.now c.args.port.now in
    let other = codes "{" ++ zeros c.args.zeros ++ codes ", " ++ port ++ codes "}" in
    OnOk-is c.put_pieces.result c.put_pieces.new.out.items _ _ c.put_pieces.ensures
    (ap (λ (t : Text). out ++ t) (append-nil port) ∙ ap (λ (b : Bool). out ++ (if b then port else other)) (sym ((Decides-eqb c.args.zeros 0).1 c.if-zeros-eq0.true)))

pub returns : goal.returns
returns c =
    let out = c.args.out.now.items in
    let port = part c.args.cell.now c.args.port.now in
    let other = codes "{" ++ zeros c.args.zeros ++ codes ", " ++ port ++ codes "}" in
    OnOk-is c.put_pieces-2.result c.put_pieces-2.new.out.items _ _ c.put_pieces-2.ensures
    (ap (λ (t : Text). out ++ t) (padded_put (decimal c.args.zeros) port) ∙ ap (λ (b : Bool). out ++ (if b then port else other)) (sym (ne_eqb c.args.zeros 0 c.if-zeros-eq0.false)))
