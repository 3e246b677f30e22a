use Rattle.std.proofs.Common.{ℕ, ◌-◌, ◌++◌, codes, decimal, ap, ap₂, ◌∙◌}
use Rattle.hw_names.specs.Name.{Text}
use Rattle.ver_print.specs.inside.Shapes.{count_of}
use Rattle.ver_print.specs.Words.{inner_line, part}
use Rattle.ver_print.proofs.LineLemmas.{words_text}
use Rattle.ver_print.proofs.PutLemmas.{OnOk-is}
use Rattle.ver_print.proofs.memories.put_words.Goals as goal

pub returns : goal.returns
returns c =
    let out = c.args.out.now.items in
    let words = part c.args.cell.now (codes "$0") in
    let last = c.saturating_sub-2.ensures ∙ ap (λ (n : ℕ). n - 1) c.word_count.ensures in
    OnOk-is c.put_line.result c.put_line.new.out.items _ _ c.put_line.ensures
    (ap₂ (λ (high last : ℕ). out ++ inner_line (codes "reg [" ++ (decimal high ++ (codes ":0] " ++ (words ++ (codes "[0:" ++ (decimal last ++ codes "];"))))))) c.saturating_sub.ensures last
    ∙ ap (λ (t : Text). out ++ inner_line t) (words_text (decimal (c.args.w - 1)) words (decimal (count_of c.args.shape - 1))))
