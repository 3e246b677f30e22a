use Rattle.std.proofs.Common.{◌≡◌, ◌<◌, ◌≤◌, length, nat_le, map, sym, ap, ◌∙◌, arith}
use Rattle.std.proofs.lemmas.Bool.{lt-leb, le-leb}
use Rattle.std.specs.List.{list_all}
use Rattle.hw_bits.specs.declared.bits.TheConstants.{MAX_WIDTH}
use Rattle.hw_names.specs.Name.{Text}
use Rattle.net_core.specs.declared.stimulus.MemShape.{MemShape}
use Rattle.stim_read.specs.CycleText.{words_seen}
use Rattle.stim_read.specs.Parts.{is_one_of}
use Rattle.stim_read.specs.CycleRules.{memory_targets, sizes_of, place_in, fits_width}
use Rattle.stim_read.specs.Rules.{refused}
use Rattle.stim_read.proofs.FaultLemmas.{told_of, memory_unknown, memory_long, memory_wide, memory_kept}
use Rattle.stim_read.proofs.FitLemmas.{fitted_some, fitted_none, same_load}
use Rattle.stim_read.proofs.PlaceLemmas.{place_within, field_at, all_hold}
use Rattle.stim_read.proofs.cycle_memories.load.Goals as goal

abbrev name : MemShape → Text
name m = m.name

abbrev HasWidth : MemShape → Type 0
HasWidth m = (1 ≤ m.width) × (m.width ≤ MAX_WIDTH)

pub returns-in_default-clause-told : goal.returns-in_default-clause-told
returns-in_default-clause-told c =
    let t = memory_targets c.args.mems.now in
    let m = words_seen c.args.memory.now in
    let same : is_one_of c.args.names.now c.bytes.result.now ≡ is_one_of t.names m.name = λ j. is_one_of (c.requires.names j) (c.bytes.ensures j) in
    told_of c.refused.result (refused 3 c.args.number) _ c.refused.ensures (memory_unknown t (sizes_of c.args.mems.now) c.args.number m (sym same ∙ c.in_default.ensures.place))

pub bounds-mems-mem : goal.bounds-mems-mem
bounds-mems-mem c = place_within name c.args.mems.now c.args.names.now c.in-Some.mem c.requires.names c.in-Some.ensures.place.2

pub returns-then-len-shape-clause-told : goal.returns-then-len-shape-clause-told
returns-then-len-shape-clause-told c =
    let mems = c.args.mems.now in
    let t = memory_targets mems in
    let m = words_seen c.args.memory.now in
    let shape = c.index-mems-mem.result in
    let same : is_one_of c.args.names.now c.bytes.result.now ≡ is_one_of t.names m.name = λ j. is_one_of (c.requires.names j) (c.bytes.ensures j) in
    let within = place_within name mems c.args.names.now c.in-Some.mem c.requires.names c.in-Some.ensures.place.2 in
    let size = field_at name (λ (s : MemShape). s.size) mems c.args.names.now m.name c.bytes.result.now c.in-Some.mem shape c.requires.names c.bytes.ensures c.in-Some.ensures.place.1 within c.index-mems-mem.is in
    let long : shape.size < length m.words = omega (arith, c.if-len-shape.true, c.len.ensures, c.args.memory.now.words.ok.0) in
    told_of c.refused-then-len-shape.result (refused 7 c.args.number) _ c.refused-then-len-shape.ensures
    (memory_long t (sizes_of mems) c.args.number m (sym same ∙ c.in-Some.ensures.place.0) (ap (nat_le (length m.words)) size ∙ lt-leb (length m.words) shape.size long))

pub fitted-requires-clause-wide : goal.fitted-requires-clause-wide
fitted-requires-clause-wide c =
    let within = place_within name c.args.mems.now c.args.names.now c.in-Some.mem c.requires.names c.in-Some.ensures.place.2 in
    (all_hold HasWidth c.args.mems.now c.in-Some.mem c.index-mems-mem.result c.requires.widths within c.index-mems-mem.is).0

pub fitted-requires-clause-narrow : goal.fitted-requires-clause-narrow
fitted-requires-clause-narrow c =
    let within = place_within name c.args.mems.now c.args.names.now c.in-Some.mem c.requires.names c.in-Some.ensures.place.2 in
    (all_hold HasWidth c.args.mems.now c.in-Some.mem c.index-mems-mem.result c.requires.widths within c.index-mems-mem.is).1

pub returns-in-Some-2-clause-told : goal.returns-in-Some-2-clause-told
returns-in-Some-2-clause-told c =
    let mems = c.args.mems.now in
    let t = memory_targets mems in
    let m = words_seen c.args.memory.now in
    let shape = c.index-mems-mem.result in
    let same : is_one_of c.args.names.now c.bytes.result.now ≡ is_one_of t.names m.name = λ j. is_one_of (c.requires.names j) (c.bytes.ensures j) in
    let within = place_within name mems c.args.names.now c.in-Some.mem c.requires.names c.in-Some.ensures.place.2 in
    let size = field_at name (λ (s : MemShape). s.size) mems c.args.names.now m.name c.bytes.result.now c.in-Some.mem shape c.requires.names c.bytes.ensures c.in-Some.ensures.place.1 within c.index-mems-mem.is in
    let width = field_at name (λ (s : MemShape). s.width) mems c.args.names.now m.name c.bytes.result.now c.in-Some.mem shape c.requires.names c.bytes.ensures c.in-Some.ensures.place.1 within c.index-mems-mem.is in
    let short : length m.words ≤ shape.size = omega (arith, c.if-len-shape.false, c.len.ensures, c.args.memory.now.words.ok.0) in
    let fitted = fitted_some c.in_ok-words.field-0 c.in-Some-2.words shape.width c.deref.result.now m.words c.in-Some-2.is c.deref.ensures.value c.in_ok-words.ensures in
    memory_kept t (sizes_of mems) c.args.number m (sym same ∙ c.in-Some.ensures.place.0) (ap (nat_le (length m.words)) size ∙ le-leb (length m.words) shape.size short)
    (ap (λ w. list_all (fits_width w) m.words) width ∙ fitted.fit)

pub returns-in-Some-2-clause-load : goal.returns-in-Some-2-clause-load
returns-in-Some-2-clause-load c =
    let mems = c.args.mems.now in
    let t = memory_targets mems in
    let m = words_seen c.args.memory.now in
    let shape = c.index-mems-mem.result in
    let within = place_within name mems c.args.names.now c.in-Some.mem c.requires.names c.in-Some.ensures.place.2 in
    let width = field_at name (λ (s : MemShape). s.width) mems c.args.names.now m.name c.bytes.result.now c.in-Some.mem shape c.requires.names c.bytes.ensures c.in-Some.ensures.place.1 within c.index-mems-mem.is in
    let fitted = fitted_some c.in_ok-words.field-0 c.in-Some-2.words shape.width c.deref.result.now m.words c.in-Some-2.is c.deref.ensures.value c.in_ok-words.ensures in
    let place : c.in-Some.mem ≡ place_in t.names m.name = c.in-Some.ensures.place.1 ∙ (λ j. place_in (c.requires.names j) (c.bytes.ensures j)) in
    same_load c.in-Some.mem (place_in t.names m.name) _ m.words _ _ place fitted.values (fitted.widths ∙ ap (λ w. map (λ _. w) m.words) (sym width))

pub returns-in-None-clause-told : goal.returns-in-None-clause-told
returns-in-None-clause-told c =
    let mems = c.args.mems.now in
    let t = memory_targets mems in
    let m = words_seen c.args.memory.now in
    let shape = c.index-mems-mem.result in
    let same : is_one_of c.args.names.now c.bytes.result.now ≡ is_one_of t.names m.name = λ j. is_one_of (c.requires.names j) (c.bytes.ensures j) in
    let within = place_within name mems c.args.names.now c.in-Some.mem c.requires.names c.in-Some.ensures.place.2 in
    let size = field_at name (λ (s : MemShape). s.size) mems c.args.names.now m.name c.bytes.result.now c.in-Some.mem shape c.requires.names c.bytes.ensures c.in-Some.ensures.place.1 within c.index-mems-mem.is in
    let width = field_at name (λ (s : MemShape). s.width) mems c.args.names.now m.name c.bytes.result.now c.in-Some.mem shape c.requires.names c.bytes.ensures c.in-Some.ensures.place.1 within c.index-mems-mem.is in
    let short : length m.words ≤ shape.size = omega (arith, c.if-len-shape.false, c.len.ensures, c.args.memory.now.words.ok.0) in
    let wide = fitted_none c.in_ok-words.field-0 shape.width c.deref.result.now m.words c.in-None.is c.deref.ensures.value c.in_ok-words.ensures in
    told_of c.refused-in-None.result (refused 4 c.args.number) _ c.refused-in-None.ensures
    (memory_wide t (sizes_of mems) c.args.number m (sym same ∙ c.in-Some.ensures.place.0) (ap (nat_le (length m.words)) size ∙ le-leb (length m.words) shape.size short) (ap (λ w. list_all (fits_width w) m.words) width ∙ wide))
