use Rattle.std.proofs.Common.{◌+◌, ◌==◌, None, bit_and, length-set, refl, sym, ◌∙◌, arith}
use Rattle.std.proofs.lemmas.List.Elements.{All-set}
use Rattle.std.specs.Prelude.{◌<◌, ◌^◌, slice_index, slice_set}
use Rattle.hw_prims.specs.Meaning.{bit}
use Rattle.hw_prims.specs.Memory.{word_width}
use Rattle.net_steps.proofs.WordLemmas.{edge_is, kept_off, none_is, word_fits, written_on}
use Rattle.net_steps.proofs.words.MemoryWords.step.Goals as goal

pub returns-in-Some-clause-words : goal.returns-in-Some-clause-words
returns-in-Some-clause-words c =
    let m = c.args.self.now in
    let x = slice_index c.args.slots.now (slice_index c.args.places m.grid.input) in
    record {
      prim_is = refl;
      grid_is = c.requires.words.grid_is;
      count = length-set m.words.items c.in-Some.place (bit_and x m.grid.word_mask) ∙ c.requires.words.count;
      fit = All-set (λ word. word < 2 ^ word_width m.prim) m.words.items c.in-Some.place (bit_and x m.grid.word_mask) (word_fits m.prim m.grid x c.requires.words.grid_is) c.requires.words.fit;
    }

pub returns-in-Some-clause-state : goal.returns-in-Some-clause-state
returns-in-Some-clause-state c =
    let m = c.args.self.now in
    let on = bit_and (slice_index c.args.slots.now (slice_index c.args.places (m.grid.input + 1))) 1 == 1 in
    let word = bit_and (slice_index c.args.slots.now (slice_index c.args.places m.grid.input)) m.grid.word_mask in
    let new = slice_set m.words.items c.in-Some.place word in
    edge_is m.prim m.grid c.args.slots.now c.args.places m.words.items new (bit m.done) _ (omega arith) c.requires.words.grid_is
    (sym c.in-Some.is ∙ c.place-place.ensures.place)
    (written_on on m.words.items new c.if-self.true)

pub returns-in_default-clause-state : goal.returns-in_default-clause-state
returns-in_default-clause-state c =
    let m = c.args.self.now in
    let on = bit_and (slice_index c.args.slots.now (slice_index c.args.places (m.grid.input + 1))) 1 == 1 in
    edge_is m.prim m.grid c.args.slots.now c.args.places m.words.items m.words.items (bit m.done) None (omega arith) c.requires.words.grid_is
    (sym (none_is c.place-place.result c.in_default.not-Some) ∙ c.place-place.ensures.place)
    (written_on on m.words.items m.words.items c.if-self.true)

pub returns-else-self-clause-state : goal.returns-else-self-clause-state
returns-else-self-clause-state c =
    let m = c.args.self.now in
    let on = bit_and (slice_index c.args.slots.now (slice_index c.args.places (m.grid.input + 1))) 1 == 1 in
    edge_is m.prim m.grid c.args.slots.now c.args.places m.words.items m.words.items (bit m.done) c.place-place.result (omega arith) c.requires.words.grid_is
    c.place-place.ensures.place
    (kept_off on m.words.items _ c.if-self.false)
