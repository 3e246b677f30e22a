use Rattle.std.proofs.Common.{drop, arith, length-drop, refl}
use Rattle.hw_lex.proofs.Cuts.{Cuts-next, Gap-length, rest_slice}
use Rattle.hw_lex.proofs.tokens.lex.Goals as goal

pub loop-rest-init : goal.loop-rest-init
loop-rest-init c =
    (rw c.new-tokens.ensures.items c.after_gap-rest.ensures.gap, c.after_gap-rest.ensures.whole, Gap-length _ _ c.after_gap-rest.ensures.gap)

pub loop-rest-smaller : goal.loop-rest-smaller
loop-rest-smaller c =
    let len = c.in-Some.len in
    let rest = c.loop-rest.rest.now in
    let gap = rw (rest_slice len rest) at c.after_gap-rest-in-loop-rest.ensures.gap in
    let short = Gap-length (drop len rest) c.after_gap-rest-in-loop-rest.result.now gap in
    omega (arith, short, length-drop len rest, c.in-Some.ensures.bounds)

pub loop-rest-preserved : goal.loop-rest-preserved
loop-rest-preserved c =
    let len = c.in-Some.len in
    let rest = c.loop-rest.rest.now in
    let gap = rw (rest_slice len rest) at c.after_gap-rest-in-loop-rest.ensures.gap in
    let short = Gap-length (drop len rest) c.after_gap-rest-in-loop-rest.result.now gap in (
      rw c.in_ok-push.ensures.items (Cuts-next c.args.dialect c.args.text.now c.loop-rest.tokens.items rest c.after_gap-rest-in-loop-rest.result.now c.in-Some.kind _ _ len c.loop-rest.invariant.0 c.in-Some.ensures.token gap c.in-Some.ensures.bounds.1 c.loop-rest.invariant.2 refl refl),
      c.after_gap-rest-in-loop-rest.ensures.whole,
      omega (arith, short, length-drop len rest, c.loop-rest.invariant.2),
    )
