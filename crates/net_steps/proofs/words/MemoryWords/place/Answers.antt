use Rattle.std.proofs.Common.{ℕ, ◌<◌, IfSome, sym, subst, ◌∙◌, arith}
use Rattle.net_steps.proofs.WordLemmas.{count_is, place_is}
use Rattle.net_steps.proofs.words.MemoryWords.place.Goals as goal

pub returns-clause-place : goal.returns-clause-place
returns-clause-place c =
    let m = c.args.self.now in
    c.place.ensures.place ∙ place_is m.prim m.grid c.args.slots.now c.args.places (omega arith) c.requires.words.grid_is

pub returns-clause-within : goal.returns-clause-within
returns-clause-within c =
    let m = c.args.self.now in
    subst (λ (n : ℕ). IfSome c.place.result (λ place. place < n)) (count_is m.prim m.grid c.requires.words.grid_is ∙ sym c.requires.words.count) c.place.ensures.within
