use Rattle.std.proofs.Common.{sym, ap, ◌∙◌, arith}
use Rattle.std.proofs.lemmas.Grind.{get_or_default_zero}
use Rattle.hw_prims.specs.Meaning.{bit}
use Rattle.hw_prims.specs.Memory.{word_at}
use Rattle.hw_prims.specs.Table.{inputs_of, pin_widths}
use Rattle.net_steps.specs.Gathered.{gathered}
use Rattle.net_steps.proofs.ChoiceLemmas.{byte_is}
use Rattle.net_steps.proofs.WordLemmas.{done_is, read_is}
use Rattle.net_steps.proofs.words.MemoryWords.output.Goals as goal

pub returns-then-output-gt0 : goal.returns-then-output-gt0
returns-then-output-gt0 c =
    let m = c.args.self.now in
    let ins = gathered c.args.slots.now c.args.places (pin_widths (inputs_of m.prim)) in
    byte_is m.done ∙ sym (done_is m.prim m.grid ins m.words.items (bit m.done) c.args.output c.requires.words.grid_is (omega arith) c.requires.output)

pub returns-in-Some : goal.returns-in-Some
returns-in-Some c =
    let m = c.args.self.now in
    let ins = gathered c.args.slots.now c.args.places (pin_widths (inputs_of m.prim)) in
    c.index.ensures
    ∙ get_or_default_zero m.words.items c.in-Some.place c.index.result.now c.in-Some.ensures.within
    ∙ sym (read_is m.prim m.grid ins m.words.items (bit m.done) c.args.output c.requires.words.grid_is (omega arith) ∙ ap (word_at m.words.items) (sym c.place.ensures.place ∙ c.in-Some.is))

pub returns-in-None : goal.returns-in-None
returns-in-None c =
    let m = c.args.self.now in
    let ins = gathered c.args.slots.now c.args.places (pin_widths (inputs_of m.prim)) in
    sym (read_is m.prim m.grid ins m.words.items (bit m.done) c.args.output c.requires.words.grid_is (omega arith) ∙ ap (word_at m.words.items) (sym c.place.ensures.place ∙ c.in-None.is))
