use Rattle.std.proofs.Common.{◌++◌, decimal, Option, sym, ap, ◌∙◌}
use Rattle.hw_names.specs.Name.{Text}
use Rattle.ver_print.specs.Cells.{read_value, word_text}
use Rattle.ver_print.specs.inside.Shapes.{place_text, test_text, within}
use Rattle.ver_print.proofs.LineLemmas.{value_put}
use Rattle.ver_print.proofs.TestLemmas.{no_test, a_test}
use Rattle.ver_print.proofs.PutLemmas.{OnOk-is}
use Rattle.ver_print.proofs.memories.put_read_value.Goals as goal

pub returns-then-not-tested : goal.returns-then-not-tested
returns-then-not-tested c =
    let cell = c.args.cell.now in
    let word = word_text cell (place_text cell c.args.shape) in
    OnOk-is c.put_word.result c.put_word.new.out.items _ _ c.put_word.ensures
    (ap (λ (o : Option Text). c.args.out.now.items ++ read_value o word c.args.w) (sym (no_test cell c.args.shape (sym c.may_miss-tested.ensures ∙ c.if-not-tested.true))))

pub returns : goal.returns
returns c =
    let cell = c.args.cell.now in
    let out = c.args.out.now.items in
    let word = word_text cell (place_text cell c.args.shape) in
    OnOk-is c.put_pieces.result c.put_pieces.new.out.items _ _ c.put_pieces.ensures
    (value_put out c.put.new.out.items c.put_within.new.out.items c.put-2.new.out.items c.put_word-2.new.out.items (test_text (within cell c.args.shape)) word (decimal c.args.w)
    c.in_ok-put.ensures c.in_ok-put_within.ensures c.in_ok-put-2.ensures c.in_ok-put_word.ensures
    ∙ ap (λ (o : Option Text). out ++ read_value o word c.args.w) (sym (a_test cell c.args.shape (sym c.may_miss-tested.ensures ∙ c.if-not-tested.false))))
