-- What a stimulus of cycles gives fits the inputs and the memories that it is for.
use Rattle.std.proofs.Common.{◌≡◌, ℕ, zero, suc, ◌+◌, ◌<◌, ◌≤◌, true, nat_lt, nat_le, List, [], ◌∷◌, ◌++◌, length, map, flat_map, get_or, slice_get, slice_index, All, Option, Some, None, Result, Ok, Err, IfOk, refl, sym, ap, subst, ◌∙◌, arith}
use Rattle.std.specs.List.{list_all}
use Rattle.std.specs.List.Sorted.{IsNonDecreasingBy}
use Rattle.std.proofs.lemmas.Bool.{ltb-true, leb-true}
use Rattle.std.proofs.lemmas.List.{length-map, get_or-map}
use Rattle.std.proofs.lemmas.List.Elements.{All-nil, All-cons, All-append, All-map, All-weaker}
use Rattle.std.proofs.lemmas.List.Sums.{AllPass-from_list_all}
use Rattle.std.proofs.lemmas.Option.{slice_get-get_or}
use Rattle.net_core.specs.declared.stimulus.InputShape.{InputShape}
use Rattle.fil_sig.proofs.ListLemmas.{All-unmap}
use Rattle.net_core.specs.declared.stimulus.CycleList.{CycleList}
use Rattle.net_core.specs.declared.stimulus.MemLoad.{MemLoad}
use Rattle.net_core.specs.declared.stimulus.MemShape.{MemShape}
use Rattle.stim_read.specs.Parts.{is_one_of}
use Rattle.stim_read.specs.CycleText.{Entry, Words, Cycles}
use Rattle.stim_read.specs.CycleRules.{Targets, input_targets, memory_targets, sizes_of, place_in, width_of, has_known_name, given_fits, fits_width, KeepsEntryRules}
use Rattle.stim_read.specs.CycleRun.{Setting, Load, setting_of, settings_of, load_of, setting_seen, load_seen, run_of, run_seen, GiveRun}
use Rattle.stim_read.specs.inside.Walk.{first_fault, unless}
use Rattle.stim_read.specs.Rules.{refused}
use Rattle.stim_read.specs.inside.CycleWalk.{order_fault, input_fault, inputs_fault, memory_fault, memories_fault}
use Rattle.stim_read.specs.Fits.{LoadsMemory, FitsRun}
use Rattle.stim_read.specs.declared.given.Given.{Given}
use Rattle.stim_read.specs.declared.stim_end.StimEnd.{StimEnd}
use Rattle.stim_read.specs.declared.stim_end.StimEnd.TheVariants.{Refused}
use Rattle.stim_read.proofs.CycleRuleLemmas.{kept_entries}
use Rattle.stim_read.proofs.FaultLemmas.{neither_there, kept_by}
use Rattle.stim_read.proofs.PlaceLemmas.{place_known}

-- ---- settings

-- it sets a target of its width
abbrev SetsTarget : Targets → Setting → Type 0
SetsTarget t s = slice_get t.widths s.input ≡ Some s.width

given_sets : (t : Targets) (from : ℕ) (g : Given) → length t.names ≡ length t.widths → has_known_name t.names g ≡ true → SetsTarget t (setting_of t from g)
given_sets t from g paired known =
    slice_get-get_or t.widths (place_in t.names g.name) 0 (omega (arith, place_known t.names g.name known, paired))

entry_sets : (t : Targets) (e : Entry) → length t.names ≡ length t.widths
    → list_all (has_known_name t.names) e.given ≡ true → All (SetsTarget t) (settings_of t e)
entry_sets t e paired known =
    All-map (SetsTarget t) (setting_of t e.from) e.given
    (All-weaker (λ (g : Given). has_known_name t.names g ≡ true) (λ (g : Given). SetsTarget t (setting_of t e.from g)) (λ g. given_sets t e.from g paired)
    e.given (AllPass-from_list_all (has_known_name t.names) e.given known))

-- what the rules on an entry of inputs say where none is broken
record IsKept (t : Targets) (before : Option ℕ) (n : ℕ) (e : Entry) (es : List Entry) : Type 0 where
  known : list_all (has_known_name t.names) e.given ≡ true
  later : order_fault before n e.from ≡ None
  others : inputs_fault t (Some e.from) (n + 1) es ≡ None

kept_parts : (t : Targets) (before : Option ℕ) (n : ℕ) (e : Entry) (es : List Entry) → inputs_fault t before n (e ∷ es) ≡ None → IsKept t before n e es
kept_parts t before n e es none =
    let both = neither_there (input_fault t before n e) (inputs_fault t (Some e.from) (n + 1) es) none in
    let fit = unless (list_all (given_fits t) e.given) (refused 4 n) in
    let names = neither_there (unless (list_all (has_known_name t.names) e.given) (refused 3 n)) (first_fault fit (order_fault before n e.from)) both.0 in
    let values = neither_there fit (order_fault before n e.from) names.1 in
    record { known = kept_by (list_all (has_known_name t.names) e.given) (refused 3 n) names.0; later = values.1; others = both.1 }

all_set : (t : Targets) (before : Option ℕ) (n : ℕ) (es : List Entry) → length t.names ≡ length t.widths → inputs_fault t before n es ≡ None → All (SetsTarget t) (flat_map (settings_of t) es)
all_set t before n [] paired none = All-nil (SetsTarget t)
all_set t before n (e ∷ es) paired none =
    let kept = kept_parts t before n e es none in
    All-append (SetsTarget t) (settings_of t e) (flat_map (settings_of t) es) (entry_sets t e paired kept.known) (all_set t (Some e.from) (n + 1) es paired kept.others)

-- ---- the order of settings

abbrev from_of : Setting → ℕ
from_of s = s.from

-- they start at this row or later
abbrev StartAt : ℕ → List Setting → Type 0
StartAt row ss = All (λ (s : Setting). row ≤ s.from) ss

entry_starts : (t : Targets) (row : ℕ) (e : Entry) → row ≤ e.from → StartAt row (settings_of t e)
entry_starts t row e below = All-map (λ (s : Setting). row ≤ s.from) (setting_of t e.from) e.given (λ k d within. below)

all_start : (t : Targets) (before n : ℕ) (es : List Entry) → inputs_fault t (Some before) n es ≡ None → StartAt before (flat_map (settings_of t) es)
all_start t before n [] none = All-nil (λ (s : Setting). before ≤ s.from)
all_start t before n (e ∷ es) none =
    let kept = kept_parts t (Some before) n e es none in
    let above : before < e.from = ltb-true before e.from (kept_by (nat_lt before e.from) (Refused 5 n before e.from 1) kept.later) in
    let sooner : before ≤ e.from = omega (arith, above) in
    All-append (λ (s : Setting). before ≤ s.from) (settings_of t e) (flat_map (settings_of t) es) (entry_starts t before e sooner)
    (All-weaker (λ (s : Setting). e.from ≤ s.from) (λ (s : Setting). before ≤ s.from) (λ s later. omega (arith, later, sooner)) (flat_map (settings_of t) es)
    (all_start t e.from (n + 1) es kept.others))

-- what stands before all of a list in order
before_all : {X : Type 0} (n : X → ℕ) (x : X) (xs : List X) → All (λ y. n x ≤ n y) xs → IsNonDecreasingBy n xs → IsNonDecreasingBy n (x ∷ xs)
before_all n x xs all order zero zero d le within = omega arith
before_all n x xs all order zero (suc j) d le within = all j d (omega arith)
before_all n x xs all order (suc i) zero d le within = absurd (omega arith)
before_all n x xs all order (suc i) (suc j) d le within = order i j d (omega arith) (omega arith)

entry_in_order : (t : Targets) (from : ℕ) (gs : List Given) (later : List Setting) → StartAt from later → IsNonDecreasingBy from_of later
    → IsNonDecreasingBy from_of (map (setting_of t from) gs ++ later)
entry_in_order t from [] later start order = order
entry_in_order t from (g ∷ gs) later start order =
    before_all from_of (setting_of t from g) (map (setting_of t from) gs ++ later)
    (All-append (λ (s : Setting). from ≤ s.from) (map (setting_of t from) gs) later (All-map (λ (s : Setting). from ≤ s.from) (setting_of t from) gs (λ k d within. omega arith)) start)
    (entry_in_order t from gs later start order)

all_in_order : (t : Targets) (before : Option ℕ) (n : ℕ) (es : List Entry) → inputs_fault t before n es ≡ None → IsNonDecreasingBy from_of (flat_map (settings_of t) es)
all_in_order t before n [] none = λ i j d le within. absurd (omega arith)
all_in_order t before n (e ∷ es) none =
    let kept = kept_parts t before n e es none in
    entry_in_order t e.from e.given (flat_map (settings_of t) es) (all_start t e.from (n + 1) es kept.others) (all_in_order t (Some e.from) (n + 1) es kept.others)

-- the order of a list that is seen
order_seen : {X Y : Type 0} (n : Y → ℕ) (f : X → Y) (xs : List X) → IsNonDecreasingBy n (map f xs) → IsNonDecreasingBy (λ x. n (f x)) xs
order_seen n f xs order i j d le within =
    let below : i < length xs = omega (arith, le, within) in
    omega (arith, ap n (get_or-map f xs i d (f d) below), ap n (get_or-map f xs j d (f d) within), order i j (f d) le (omega (arith, length-map xs f, within)))

-- ---- loads

-- a load as it is seen fits one of the memories
record SeenLoads (mems : List MemShape) (l : Load) : Type 0 where
  memory : MemShape
  at : slice_get mems l.memory ≡ Some memory
  few : length l.values ≤ memory.size
  widths : All (λ w. w ≡ memory.width) l.widths

loads_seen : (mems : List MemShape) (l : MemLoad) → SeenLoads mems (load_seen l) → LoadsMemory mems l
loads_seen mems l seen =
    record { memory = seen.memory; at = seen.at; few = omega (arith, seen.few, length-map l.words.items (λ b. b.value)); widths = seen.widths }

some_at : {X : Type 0} (xs : List X) (i : ℕ) → i < length xs → (x : X) × (get_or xs i x ≡ x)
some_at [] i within = absurd (omega arith)
some_at (x ∷ xs) zero within = (x, refl)
some_at (x ∷ xs) (suc i) within = some_at xs i (omega arith)

memory_loads : (mems : List MemShape) (n : ℕ) (m : Words) → memory_fault (memory_targets mems) (sizes_of mems) n m ≡ None → SeenLoads mems (load_of (memory_targets mems) m)
memory_loads mems n m none =
    let t = memory_targets mems in
    let place = place_in t.names m.name in
    let short = nat_le (length m.words) (slice_index (sizes_of mems) place) in
    let fit = unless (list_all (fits_width (width_of t m.name)) m.words) (refused 4 n) in
    let names = neither_there (unless (is_one_of t.names m.name) (refused 3 n)) (first_fault (unless short (refused 7 n)) fit) none in
    let sizes = neither_there (unless short (refused 7 n)) fit names.1 in
    let within : place < length mems = omega (arith, place_known t.names m.name (kept_by (is_one_of t.names m.name) (refused 3 n) names.0), length-map mems (λ (s : MemShape). s.name)) in
    let there = some_at mems place within in
    let shape = there.0 in
    let size : slice_index (sizes_of mems) place ≡ shape.size = get_or-map (λ (s : MemShape). s.size) mems place shape 0 within ∙ ap (λ (s : MemShape). s.size) there.1 in
    let width : width_of t m.name ≡ shape.width = get_or-map (λ (s : MemShape). s.width) mems place shape 0 within ∙ ap (λ (s : MemShape). s.width) there.1 in
    record {
      memory = shape;
      at = slice_get-get_or mems place shape within ∙ ap (λ (s : MemShape). Some s) there.1;
      few = omega (arith, leb-true (length m.words) (slice_index (sizes_of mems) place) (kept_by short (refused 7 n) sizes.0), size);
      widths = All-map (λ w. w ≡ shape.width) (λ (v : ℕ). width_of t m.name) m.words (λ k d inside. width);
    }

all_load : (mems : List MemShape) (n : ℕ) (ms : List Words) → memories_fault (memory_targets mems) (sizes_of mems) n ms ≡ None → All (SeenLoads mems) (map (load_of (memory_targets mems)) ms)
all_load mems n [] none = All-nil (SeenLoads mems)
all_load mems n (m ∷ ms) none =
    let t = memory_targets mems in
    let both = neither_there (memory_fault t (sizes_of mems) n m) (memories_fault t (sizes_of mems) (n + 1) ms) none in
    All-cons (SeenLoads mems) (load_of t m) (map (load_of t) ms) (memory_loads mems n m both.0) (all_load mems (n + 1) ms both.1)

-- ---- what was read

-- a stimulus whose entries keep the rules gives what fits
pub kept_fits_run : (ins : List InputShape) (mems : List MemShape) (c : Cycles) (list : CycleList) → KeepsEntryRules ins mems c → run_seen list ≡ run_of ins mems c → FitsRun ins mems list
kept_fits_run ins mems c list kept gives =
    let t = input_targets ins in
    let inputs = inputs_fault t None 0 c.inputs in
    let memories = memories_fault (memory_targets mems) (sizes_of mems) (length c.inputs) c.memories in
    let none = neither_there inputs memories (kept_entries ins mems c kept) in
    let sets : map setting_seen list.sets.items ≡ flat_map (settings_of t) c.inputs = ap (λ r. r.settings) gives in
    let loads : map load_seen list.loads.items ≡ map (load_of (memory_targets mems)) c.memories = ap (λ r. r.loads) gives in
    let paired : length t.names ≡ length t.widths = length-map ins (λ (i : InputShape). i.name) ∙ sym (length-map ins (λ (i : InputShape). i.width)) in
    record {
      sets = All-unmap (SetsTarget t) setting_seen list.sets.items (subst (λ (ss : List Setting). All (SetsTarget t) ss) (sym sets) (all_set t None 0 c.inputs paired none.0));
      in_order = order_seen from_of setting_seen list.sets.items (subst (λ (ss : List Setting). IsNonDecreasingBy from_of ss) (sym sets) (all_in_order t None 0 c.inputs none.0));
      loads = All-weaker (λ (l : MemLoad). SeenLoads mems (load_seen l)) (LoadsMemory mems) (loads_seen mems) list.loads.items
          (All-unmap (SeenLoads mems) load_seen list.loads.items (subst (λ (ls : List Load). All (SeenLoads mems) ls) (sym loads) (all_load mems (length c.inputs) c.memories none.1)));
    }

pub given_fits_run : (bytes : List ℕ) (ins : List InputShape) (mems : List MemShape) (list : CycleList) → GiveRun bytes ins mems (run_seen list) → FitsRun ins mems list
given_fits_run bytes ins mems list gives = kept_fits_run ins mems gives.stimulus list gives.kept.entries gives.gives

pub result_fits_run : (bytes : List ℕ) (ins : List InputShape) (mems : List MemShape) (r : Result CycleList StimEnd) → IfOk r (λ list. GiveRun bytes ins mems (run_seen list)) → IfOk r (FitsRun ins mems)
result_fits_run bytes ins mems (Ok list) gives = given_fits_run bytes ins mems list gives
result_fits_run bytes ins mems (Err end) gives = tt
