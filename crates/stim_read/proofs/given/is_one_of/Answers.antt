use Rattle.std.proofs.Common.{◌<◌, ◌≤◌, ℕ, List, length, sym, ◌∙◌, arith}
use Rattle.std.specs.Borrow.{Bor}
use Rattle.std.specs.Str.{bytes_eq}
use Rattle.stim_read.proofs.WalkLemmas.{any_goes, any_stops, any_ends}
use Rattle.stim_read.proofs.given.is_one_of.Goals as goal

abbrev text : Bor (List ℕ) → List ℕ
text k = k.now

pub returns-then-eq : goal.returns-then-eq
returns-then-eq c =
    let keys = c.args.keys.now in
    let i = c.loop-other.other-index in
    let within : i < length keys = omega arith in
    sym (any_stops text (bytes_eq c.args.key.now) keys i _ within (sym c.eq.ensures ∙ c.if-eq.true)) ∙ c.loop-other.invariant

pub loop-other-preserved : goal.loop-other-preserved
loop-other-preserved c =
    let keys = c.args.keys.now in
    let i = c.loop-other.other-index in
    let within : i < length keys = omega arith in
    sym (any_goes text (bytes_eq c.args.key.now) keys i _ within (sym c.eq.ensures ∙ c.if-eq.false)) ∙ c.loop-other.invariant

pub returns : goal.returns
returns c =
    let keys = c.args.keys.now in
    let i = c.loop-other.other-index in
    let past : length keys ≤ i = omega arith in
    sym (any_ends text (bytes_eq c.args.key.now) keys i past) ∙ c.loop-other.invariant
