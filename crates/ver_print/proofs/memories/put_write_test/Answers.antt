use Rattle.std.proofs.Common.{◌++◌, codes, Option, sym, ap, ◌∙◌, append-nil}
use Rattle.hw_names.specs.Name.{Text}
use Rattle.ver_print.specs.Cells.{write_test}
use Rattle.ver_print.specs.inside.Shapes.{test_text, within}
use Rattle.ver_print.specs.Words.{part}
use Rattle.ver_print.proofs.LineLemmas.{write_test_put}
use Rattle.ver_print.proofs.TestLemmas.{no_test, a_test}
use Rattle.ver_print.proofs.PutLemmas.{OnOk-is}
use Rattle.ver_print.proofs.memories.put_write_test.Goals as goal

pub returns-then-not-tested : goal.returns-then-not-tested
returns-then-not-tested c =
    let cell = c.args.cell.now in
    let out = c.args.out.now.items in
    let write_en = part cell (codes "write_en") in
    OnOk-is c.put_pieces.result c.put_pieces.new.out.items _ _ c.put_pieces.ensures
    (ap (λ (t : Text). out ++ t) (append-nil write_en)
    ∙ ap (λ (o : Option Text). out ++ write_test o write_en) (sym (no_test cell c.args.shape (sym c.may_miss-tested.ensures ∙ c.if-not-tested.true))))

pub returns : goal.returns
returns c =
    let cell = c.args.cell.now in
    let out = c.args.out.now.items in
    let write_en = part cell (codes "write_en") in
    OnOk-is c.put.result c.put.new.out.items _ _ c.put.ensures
    (write_test_put out c.put_pieces-2.new.out.items c.put_within.new.out.items write_en (test_text (within cell c.args.shape)) c.in_ok-put_pieces.ensures c.in_ok-put_within.ensures
    ∙ ap (λ (o : Option Text). out ++ write_test o write_en) (sym (a_test cell c.args.shape (sym c.may_miss-tested.ensures ∙ c.if-not-tested.false))))
