use Rattle.std.proofs.Common.{ℕ, ◌-◌, ◌++◌, codes, decimal, ap, ◌∙◌, append_assoc}
use Rattle.hw_names.specs.Name.{Text}
use Rattle.ver_print.proofs.PutLemmas.{OnOk-is, put_then}
use Rattle.ver_print.proofs.put.put_range.Goals as goal

pub returns : goal.returns
returns c =
    let out = c.args.out.now.items in
    let high = decimal (c.args.width - 1) in
    let number = c.in_ok-put_number.ensures ∙ ap (λ (n : ℕ). c.put.new.out.items ++ decimal n) c.saturating_sub.ensures in
    let front = put_then out c.put.new.out.items c.put_number.new.out.items (codes "[") high c.in_ok-put.ensures number in
    OnOk-is c.put-2.result c.put-2.new.out.items _ _ c.put-2.ensures
    (ap (λ (t : Text). t ++ codes ":0]") front ∙ append_assoc out (codes "[" ++ high) (codes ":0]"))
