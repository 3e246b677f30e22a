use Rattle.std.proofs.Common.{◌≡◌, ◌<◌, ◌≤◌, ◌∙◌, ℕ, List, ap, sym, subst, length, get_or, arith}
use Rattle.std.proofs.lemmas.List.{length-map, get_or-map, take_all}
use Rattle.hw_bits.specs.Values.{values_of, widths_of}
use Rattle.hw_bits.specs.declared.bits.Bits.{Bits}
use Rattle.net_core.specs.Netlist.{netlist_of}
use Rattle.net_core.specs.declared.net.Net.{Net}
use Rattle.net_sim.specs.Shown.{HasWord, IsShown}
use Rattle.net_sim.specs.Sim.{IsLoadedSim, IsLoadOfSim}
use Rattle.filc_report.proofs.LoadedLemmas.{after_words, shown_memory, one_more}
use Rattle.filc_report.proofs.net_run.load_memory.Goals as goal

-- the word is one of those that are loaded
inside : (items all : List Bits) (i : ℕ) → items ≡ all → i < length items → i < length all
inside items all i same within = subst (λ (l : List Bits). i < length l) same within

value_is : (items all : List Bits) (i : ℕ) (word : Bits) → items ≡ all → i < length items → word ≡ get_or items i word → word.value ≡ get_or (values_of all) i 0
value_is items all i word same within is =
    ap (λ (x : Bits). x.value) (is ∙ ap (λ l. get_or l i word) same) ∙ sym (get_or-map (λ (x : Bits). x.value) all i word 0 (inside items all i same within))

width_is : (items all : List Bits) (i : ℕ) (word : Bits) → items ≡ all → i < length items → word ≡ get_or items i word → word.width ≡ get_or (widths_of all) i 0
width_is items all i word same within is =
    ap (λ (x : Bits). x.width) (is ∙ ap (λ l. get_or l i word) same) ∙ sym (get_or-map (λ (x : Bits). x.width) all i word 0 (inside items all i same within))

pub load-requires-clause-place : goal.load-requires-clause-place
load-requires-clause-place c =
    let all = c.args.load.now.words.items in
    let here = inside c.deref-word-items.result.now all c.loop-at.at c.deref-word-items.ensures.value c.loop-at-test.true in
    subst (λ (m : Net). HasWord (netlist_of m) c.args.load.now.mem c.loop-at.at) (sym c.loop-at.invariant.0)
    (record { memory = c.requires.fits.memory; within = λ cell prim shown. omega (arith, c.requires.fits.few cell prim shown, here) })

pub load-requires-clause-width : goal.load-requires-clause-width
load-requires-clause-width c = λ cell prim shown.
    let all = c.args.load.now.words.items in
    let here = inside c.deref-word-items.result.now all c.loop-at.at c.deref-word-items.ensures.value c.loop-at-test.true in
    width_is c.deref-word-items.result.now all c.loop-at.at c.word-item.result c.deref-word-items.ensures.value c.loop-at-test.true c.word-item.is
    ∙ c.requires.fits.widths cell prim (subst (λ (m : Net). IsShown (netlist_of m) c.args.load.now.mem cell prim) c.loop-at.invariant.0 shown)
    c.loop-at.at 0 (omega (arith, here, length-map all (λ (x : Bits). x.width)))

pub loop-at-preserved : goal.loop-at-preserved
loop-at-preserved c = (
  c.load.ensures.net ∙ c.loop-at.invariant.0,
  c.load.ensures.phase ∙ c.loop-at.invariant.1,
  λ loads before.
      let net = c.args.sim.now.net in
      let n = netlist_of net in
      let mem = c.args.load.now.mem in
      let all = c.args.load.now.words.items in
      let words = values_of all in
      let i = c.loop-at.at in
      let here = inside c.deref-word-items.result.now all i c.deref-word-items.ensures.value c.loop-at-test.true in
      let place : i < length words = omega (arith, here, length-map all (λ (x : Bits). x.value)) in
      let shown = shown_memory n c.requires.valid mem c.requires.fits.memory in
      let few : length words ≤ _ = omega (arith, c.requires.fits.few _ shown.0 shown.1, length-map all (λ (x : Bits). x.value)) in
      let has : HasWord n mem i = record { memory = c.requires.fits.memory; within = λ cell prim is. omega (arith, c.requires.fits.few cell prim is, here) } in
      let value = value_is c.deref-word-items.result.now all i c.word-item.result c.deref-word-items.ensures.value c.loop-at-test.true c.word-item.is in
      one_more net c.requires.valid mem words loads i place shown.0 shown.1 few c.loop-at.sim c.load.new.self has (c.loop-at.invariant.2 loads before)
      (subst (λ (v : ℕ). IsLoadOfSim c.loop-at.sim mem i v c.load.new.self) value c.load.ensures),
)

pub returns-clause-loaded : goal.returns-clause-loaded
returns-clause-loaded c = λ loads before.
    let net = c.args.sim.now.net in
    let all = c.args.load.now.words.items in
    let words = values_of all in
    let past : length words ≤ c.loop-at.at = omega (arith, c.loop-at-test.false, ap length c.deref-word-items.ensures.value, length-map all (λ (x : Bits). x.value)) in
    subst (λ (ws : List ℕ). IsLoadedSim net (after_words (netlist_of net) c.args.load.now.mem ws loads) c.loop-at.sim) (take_all c.loop-at.at words past) (c.loop-at.invariant.2 loads before)
