use Rattle.std.proofs.Common.{◌≡◌, ◌≤◌, ◌+◌, Bool, cond, sym, ap, ◌∙◌}
use Rattle.std.specs.Prelude.{slice_range}
use Rattle.hw_lex.specs.Nesting.{byte_tokens, is_not}
use Rattle.hw_lex.proofs.Nestings.{next_depth, depth-most, byte_token_at}
use Rattle.hw_lex.proofs.nesting.nesting_of_bytes.Goals as goal
use Rattle.hw_lex.proofs.nesting.nesting_of_bytes.Goals.{then-is_one_of, else-is_one_of}

pub loop-i-preserved : goal.loop-i-preserved
loop-i-preserved c =
    let i = c.loop-i.invariant in
    let text = c.args.text.now in
    let at = c.loop-i.i in
    let nots : c.if-is_one_of.nots ≡ cond (is_not (slice_range text at (at + 1))) (c.loop-i.nots + 1) 0 =
    elim c.if-is_one_of.branch [ then-is_one_of w ↦ w.nots-is ∙ ap (λ (v : Bool). cond v (c.loop-i.nots + 1) 0) (sym w.if-is_one_of.true ∙ c.is_one_of.ensures) | else-is_one_of w ↦ w.nots-is ∙ ap (λ (v : Bool). cond v (c.loop-i.nots + 1) 0) (sym w.if-is_one_of.false ∙ c.is_one_of.ensures) ] in
    let short : c.brackets_after-brackets.result + c.if-is_one_of.nots ≤ at + 1 =
    depth-most at c.loop-i.brackets c.loop-i.nots _ _ (slice_range text at (at + 1)) i.3 c.brackets_after-brackets.ensures.is nots in
    let r = next_depth (byte_tokens text) at (slice_range text at (at + 1)) c.loop-i.brackets c.loop-i.nots c.loop-i.deepest _ _ _ (byte_token_at text at c.loop-i-test.true) i.0 i.1 i.2 c.brackets_after-brackets.ensures.is nots c.max-deepest.ensures in
    (r.0, r.1, r.2, short)
