-- The first fault, and what an answer tells of it.
use Rattle.std.proofs.Common.{◌≡◌, ℕ, ◌+◌, ◌<◌, List, length, get_or, drop, map, Bool, true, false, nat_le, slice_index, Option, Some, None, Result, Ok, Err, IsErrAnd, IfOk, IfErr, OnOk, refl, sym, subst, ap, ◌∙◌}
use Rattle.std.specs.List.{list_all}
use Rattle.stim_read.specs.Parts.{is_one_of}
use Rattle.stim_read.specs.CycleText.{Entry, entry_seen, Words, words_seen}
use Rattle.stim_read.specs.CycleRules.{Targets, has_known_name, given_fits, fits_width, place_in, width_of}
use Rattle.stim_read.specs.inside.Walk.{first_fault, unless, IsTold, Tells}
use Rattle.stim_read.specs.Rules.{refused}
use Rattle.stim_read.specs.inside.CycleWalk.{order_fault, input_fault, inputs_fault, memory_fault, memories_fault}
use Rattle.stim_read.specs.declared.cycle_text.InputEntry.{InputEntry}
use Rattle.stim_read.specs.declared.cycle_text.MemoryWords.{MemoryWords}
use Rattle.stim_read.specs.declared.stim_end.StimEnd.{StimEnd}
use Rattle.stim_read.specs.declared.stim_end.StimEnd.TheVariants.{Refused, Limit, Memory}
use Rattle.stim_read.proofs.EachLemmas.{cut_at}

-- a told fault is the first of two
pub told_first : (e : StimEnd) (fault later : Option StimEnd) → IsTold e fault → IsTold e (first_fault fault later)
told_first (Refused rule entry first second delay) fault later h = rw h refl
told_first (Limit count limit cycles) fault later h = rw h refl
told_first Memory fault later h = tt

pub told_later : (e : StimEnd) (fault later : Option StimEnd) → fault ≡ None → IsTold e later → IsTold e (first_fault fault later)
told_later e fault later none h = rw none h

pub told_by : (e : StimEnd) (fault other : Option StimEnd) → fault ≡ other → IsTold e fault → IsTold e other
told_by e fault other same h = subst (IsTold e) same h

pub neither : (fault later : Option StimEnd) → fault ≡ None → later ≡ None → first_fault fault later ≡ None
neither fault later none none_later = rw none none_later

pub inputs_cut : (t : Targets) (before : Option ℕ) (n : ℕ) (xs : List InputEntry) (i : ℕ) (x : InputEntry) → i < length xs → x ≡ get_or xs i x
    → inputs_fault t before n (map entry_seen (drop i xs)) ≡ first_fault (input_fault t before n (entry_seen x)) (inputs_fault t (Some x.from) (n + 1) (map entry_seen (drop (i + 1) xs)))
inputs_cut t before n xs i x within is = ap (λ ys. inputs_fault t before n (map entry_seen ys)) (cut_at xs i x within is)

pub memories_cut : (t : Targets) (sizes : List ℕ) (n : ℕ) (xs : List MemoryWords) (i : ℕ) (x : MemoryWords) → i < length xs → x ≡ get_or xs i x
    → memories_fault t sizes n (map words_seen (drop i xs)) ≡ first_fault (memory_fault t sizes n (words_seen x)) (memories_fault t sizes (n + 1) (map words_seen (drop (i + 1) xs)))
memories_cut t sizes n xs i x within is = ap (λ ys. memories_fault t sizes n (map words_seen ys)) (cut_at xs i x within is)

-- an answer that passes an error on tells what the error does
pub passes : {T : Type 0} (answer : Result T StimEnd) (e : StimEnd) (fault : Option StimEnd) → IsErrAnd answer (λ x. x ≡ e) → IsTold e fault → Tells answer fault
passes (Ok x) e fault is told = absurd is
passes (Err f) e fault is told = subst (λ x. IsTold x fault) (sym is) told

-- want of memory tells nothing
pub passes_memory : {T : Type 0} (answer : Result T StimEnd) (fault : Option StimEnd) → IsErrAnd answer (λ x. x ≡ Memory) → Tells answer fault
passes_memory (Ok x) fault is = absurd is
passes_memory (Err f) fault is = subst (λ x. IsTold x fault) (sym is) tt

pub refused_then : (fault later : Option StimEnd) (e : StimEnd) → fault ≡ Some e → first_fault fault later ≡ Some e
refused_then fault later e is = rw is refl

pub judged_later : (fault later : Option StimEnd) (e : StimEnd) → fault ≡ None → later ≡ Some e → first_fault fault later ≡ Some e
judged_later fault later e none is = rw (none, is) refl

pub broken : (kept : Bool) (e : StimEnd) → kept ≡ false → unless kept e ≡ Some e
broken kept e is = rw is refl

pub kept_so : (kept : Bool) (e : StimEnd) → kept ≡ true → unless kept e ≡ None
kept_so kept e is = rw is refl

pub alone : (fault : Option StimEnd) → first_fault fault None ≡ fault
alone None = refl
alone (Some e) = refl

pub assoc : (a b c : Option StimEnd) → first_fault (first_fault a b) c ≡ first_fault a (first_fault b c)
assoc None b c = refl
assoc (Some e) b c = refl

-- there is no first of two faults, so there is neither
pub neither_there : (fault later : Option StimEnd) → first_fault fault later ≡ None → (fault ≡ None) × (later ≡ None)
neither_there None later none = (refl, none)
neither_there (Some f) later none = let bad : ◌≡◌ {A = Option StimEnd} (Some f) None = none in absurd cc

pub kept_by : (kept : Bool) (f : StimEnd) → unless kept f ≡ None → kept ≡ true
kept_by true f none = refl
kept_by false f none = let bad : ◌≡◌ {A = Option StimEnd} (Some f) None = none in absurd cc

-- an answer that is this end, which is the first fault
pub told_of : (end e : StimEnd) (fault : Option StimEnd) → end ≡ e → fault ≡ Some e → IsTold end fault
told_of (Refused rule entry first second delay) e fault is h = h ∙ ap (λ (x : StimEnd). Some x) (sym is)
told_of (Limit count limit cycles) e fault is h = h ∙ ap (λ (x : StimEnd). Some x) (sym is)
told_of Memory e fault is h = tt

pub entry_unknown : (t : Targets) (before : Option ℕ) (n : ℕ) (e : Entry) → list_all (has_known_name t.names) e.given ≡ false → input_fault t before n e ≡ Some (refused 3 n)
entry_unknown t before n e unknown = rw unknown refl

pub entry_wide : (t : Targets) (before : Option ℕ) (n : ℕ) (e : Entry) → list_all (has_known_name t.names) e.given ≡ true → list_all (given_fits t) e.given ≡ false → input_fault t before n e ≡ Some (refused 4 n)
entry_wide t before n e known wide = rw (known, wide) refl

pub entry_order : (t : Targets) (before : Option ℕ) (n : ℕ) (e : Entry) → list_all (has_known_name t.names) e.given ≡ true → list_all (given_fits t) e.given ≡ true → input_fault t before n e ≡ order_fault before n e.from
entry_order t before n e known fit = rw (known, fit) refl

pub memory_unknown : (t : Targets) (sizes : List ℕ) (n : ℕ) (m : Words) → is_one_of t.names m.name ≡ false → memory_fault t sizes n m ≡ Some (refused 3 n)
memory_unknown t sizes n m unknown = rw unknown refl

pub memory_long : (t : Targets) (sizes : List ℕ) (n : ℕ) (m : Words) → is_one_of t.names m.name ≡ true → nat_le (length m.words) (slice_index sizes (place_in t.names m.name)) ≡ false → memory_fault t sizes n m ≡ Some (refused 7 n)
memory_long t sizes n m known long = rw (known, long) refl

pub memory_wide : (t : Targets) (sizes : List ℕ) (n : ℕ) (m : Words) → is_one_of t.names m.name ≡ true → nat_le (length m.words) (slice_index sizes (place_in t.names m.name)) ≡ true → list_all (fits_width (width_of t m.name)) m.words ≡ false
    → memory_fault t sizes n m ≡ Some (refused 4 n)
memory_wide t sizes n m known short wide = rw (known, short, wide) refl

pub memory_kept : (t : Targets) (sizes : List ℕ) (n : ℕ) (m : Words) → is_one_of t.names m.name ≡ true → nat_le (length m.words) (slice_index sizes (place_in t.names m.name)) ≡ true → list_all (fits_width (width_of t m.name)) m.words ≡ true
    → memory_fault t sizes n m ≡ None
memory_kept t sizes n m known short fit = rw (known, short, fit) refl

pub on_ok : {T E : Type 0} (r : Result T E) (P : Type 0) → P → OnOk r P
on_ok (Ok x) P p = p
on_ok (Err e) P p = tt

-- an error that is passed on keeps its cause
pub passes_cause : {T : Type 0} (answer : Result T StimEnd) (e : StimEnd) (P : StimEnd → Type 0) → IsErrAnd answer (λ x. x ≡ e) → P e → IfErr answer P
passes_cause (Ok x) e P is p = absurd is
passes_cause (Err f) e P is p = subst P (sym is) p

pub passes_no_value : {T : Type 0} (answer : Result T StimEnd) (e : StimEnd) (P : T → Type 0) → IsErrAnd answer (λ x. x ≡ e) → IfOk answer P
passes_no_value (Ok x) e P is = absurd is
passes_no_value (Err f) e P is = tt
