use Rattle.std.proofs.Common.{◌≡◌, ◌≤◌, ◌+◌, Bool, cond, sym, ap, ◌∙◌}
use Rattle.hw_lex.specs.Cut.{token_texts}
use Rattle.hw_lex.specs.Nesting.{is_not}
use Rattle.hw_lex.proofs.Nestings.{next_depth, depth-most}
use Rattle.hw_lex.proofs.tokens.Tokens.nesting.Goals as goal
use Rattle.hw_lex.proofs.tokens.Tokens.nesting.Goals.{then-is_one_of, else-is_one_of}

pub loop-i-preserved : goal.loop-i-preserved
loop-i-preserved c =
    let i = c.loop-i.invariant in
    let nots : c.if-is_one_of.nots ≡ cond (is_not c.text-text.result.now) (c.loop-i.nots + 1) 0 =
    elim c.if-is_one_of.branch [ then-is_one_of w ↦ w.nots-is ∙ ap (λ (v : Bool). cond v (c.loop-i.nots + 1) 0) (sym w.if-is_one_of.true ∙ c.is_one_of.ensures) | else-is_one_of w ↦ w.nots-is ∙ ap (λ (v : Bool). cond v (c.loop-i.nots + 1) 0) (sym w.if-is_one_of.false ∙ c.is_one_of.ensures) ] in
    let short : c.brackets_after-brackets.result + c.if-is_one_of.nots ≤ c.loop-i.i + 1 =
    depth-most c.loop-i.i c.loop-i.brackets c.loop-i.nots _ _ c.text-text.result.now i.3 c.brackets_after-brackets.ensures.is nots in
    let r = next_depth (token_texts c.args.self.now.source c.args.self.now.tokens) c.loop-i.i c.text-text.result.now c.loop-i.brackets c.loop-i.nots c.loop-i.deepest _ _ _ c.text-text.ensures.bytes i.0 i.1 i.2 c.brackets_after-brackets.ensures.is nots c.max-deepest.ensures in
    (r.0, r.1, r.2, short)
