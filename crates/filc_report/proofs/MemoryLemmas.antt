-- The lines of shown memories: one after another, and the same in each trace of a run.
use Rattle.std.proofs.Common.{◌≡◌, ℕ, zero, suc, ◌+◌, ◌<◌, ◌≤◌, true, false, if◌then◌else◌, cond, List, [], ◌∷◌, ◌++◌, codes, decimal, flat_map, length, map, drop, get_or, Option, None, Some, refl, sym, ap, ap₂, subst, ◌∙◌, arith, append_assoc}
use Rattle.std.specs.Prelude.{slice_get, filter, Contains}
use Rattle.std.proofs.lemmas.List.{at_drop_more, get_or-map, length-map}
use Rattle.std.proofs.lemmas.Option.{slice_get-get_or, slice_get_within}
use Rattle.std.specs.Io.KnownBytes.{Appends}
use Rattle.hw_io.proofs.WritingLemmas.{appends_both, prefix_after}
use Rattle.hw_io.specs.Writing.{AppendsPrefix, Passes}
use Rattle.hw_names.proofs.NameLemmas.{Contains-slice_get}
use Rattle.hw_names.specs.Name.{Text, dotted}
use Rattle.hw_prims.specs.Meaning.{next_state}
use Rattle.hw_prims.specs.Row.{Trace}
use Rattle.hw_prims.specs.State.{State, memory_words}
use Rattle.hw_prims.specs.Table.{prim_of, inputs_of, pin_names}
use Rattle.hw_prims.specs.declared.prim.Primitive.{Primitive}
use Rattle.net_core.specs.Circuit.{states_before}
use Rattle.net_core.specs.NetRun.{IsNetCell}
use Rattle.net_core.specs.Netlist.{Netlist, CellLine, cell_of}
use Rattle.net_core.specs.Rules.{IsValid}
use Rattle.net_core.specs.declared.net.NetCell.{NetCell}
use Rattle.net_sim.specs.Layout.{port_names}
use Rattle.net_sim.specs.Shown.{is_shown, shown_cells, IsShown}
use Rattle.net_sim.proofs.OneRunLemmas.{input_number, values_alike}
use Rattle.net_sim.proofs.PlaceLemmas.{named_at}
use Rattle.filc_load.proofs.SettableLemmas.{made_cell}
use Rattle.filc_report.specs.Rows.{memory_text, cell_words, shown_text, memories_text}
use Rattle.filc_report.proofs.NetLaws.{IsPort}

-- ---- the words of one memory

-- a space before each word
abbrev pub words_text : List ℕ → Text
words_text words = flat_map (λ word. codes " " ++ decimal word) words

-- the words from one on, up to the end of the line
abbrev pub rest_of_words : List ℕ → ℕ → Text
rest_of_words words at = words_text (drop at words) ++ 10 ∷ []

pub next_word : (words : List ℕ) (at word : ℕ) → at < length words → word ≡ get_or words at 0 → rest_of_words words at ≡ (codes " " ++ decimal word) ++ rest_of_words words (at + 1)
next_word words at word within is =
    ap (λ text. text ++ 10 ∷ []) (at_drop_more words_text words at 0 within)
    ∙ append_assoc (codes " " ++ decimal (get_or words at 0)) (words_text (drop (at + 1) words)) (10 ∷ [])
    ∙ ap (λ (w : ℕ). (codes " " ++ decimal w) ++ rest_of_words words (at + 1)) (sym is)

dropped_all : (words : List ℕ) (at : ℕ) → length words ≤ at → drop at words ≡ []
dropped_all [] zero past = refl
dropped_all [] (suc at) past = refl
dropped_all (w ∷ words) zero past = absurd (omega (arith, past))
dropped_all (w ∷ words) (suc at) past = dropped_all words at (omega (arith, past))

pub last_word : (words : List ℕ) (at : ℕ) → length words ≤ at → rest_of_words words at ≡ 10 ∷ []
last_word words at past = ap (λ ws. words_text ws ++ 10 ∷ []) (dropped_all words at past)

pub memory_from : (name : Text) (words : List ℕ) → memory_text name words ≡ (codes "mem " ++ name) ++ rest_of_words words 0
memory_from name words = append_assoc (codes "mem " ++ name) (words_text words) (10 ∷ [])

-- ---- one cell after another

-- the shown cells from one on are those that the rest of the cells has
abbrev pub AreLeft : Netlist → (mem i : ℕ) → Type 0
AreLeft n mem i = drop mem (shown_cells n) ≡ filter is_shown (drop i n.cells)

pub line_at : (names : List Text) (cells : List NetCell) (i : ℕ) (cell : NetCell) (d : CellLine) → i < length cells → cell ≡ get_or cells i cell → get_or (map (cell_of names) cells) i d ≡ cell_of names cell
line_at names cells i cell d within is = get_or-map (cell_of names) cells i cell d within ∙ ap (cell_of names) (sym is)

-- the first of what is left of a list
pub first_left : {X : Type 0} (xs : List X) (i : ℕ) (x : X) (rest : List X) → drop i xs ≡ x ∷ rest → (slice_get xs i ≡ Some x) × (drop (i + 1) xs ≡ rest)
first_left [] zero x rest e = cc
first_left [] (suc i) x rest e = cc
first_left (y ∷ xs) zero x rest e = let same : y ≡ x = cc in let left : xs ≡ rest = cc in (ap Some same, left)
first_left (y ∷ xs) (suc i) x rest e =
    let r = first_left xs i x rest e in
    let next : suc i + 1 ≡ suc (i + 1) = omega arith in
    (r.0, rw next r.1)

module _ (n : Netlist) (mem i : ℕ) (line : CellLine) (within : i < length n.cells) (is : get_or n.cells i line ≡ line) (left : AreLeft n mem i) where
  now : filter is_shown (drop i n.cells) ≡ cond line.shown (line ∷ filter is_shown (drop (i + 1) n.cells)) (filter is_shown (drop (i + 1) n.cells))
  now = at_drop_more (filter is_shown) n.cells i line within ∙ ap (λ (c : CellLine). cond c.shown (c ∷ filter is_shown (drop (i + 1) n.cells)) (filter is_shown (drop (i + 1) n.cells))) is

  -- a shown cell is the first that is left
  pub shown_first : line.shown ≡ true → (slice_get (shown_cells n) mem ≡ Some line) × AreLeft n (mem + 1) (i + 1)
  shown_first shown =
      first_left (shown_cells n) mem line (filter is_shown (drop (i + 1) n.cells))
      (left ∙ now ∙ ap (λ b. cond b (line ∷ filter is_shown (drop (i + 1) n.cells)) (filter is_shown (drop (i + 1) n.cells))) shown)

  -- any other cell is passed over
  pub hidden_over : line.shown ≡ false → AreLeft n mem (i + 1)
  hidden_over hidden = left ∙ now ∙ ap (λ b. cond b (line ∷ filter is_shown (drop (i + 1) n.cells)) (filter is_shown (drop (i + 1) n.cells))) hidden

  module _ (states : Text → Primitive → State) where
    step : flat_map (shown_text states) (drop i n.cells) ≡ shown_text states line ++ flat_map (shown_text states) (drop (i + 1) n.cells)
    step = at_drop_more (flat_map (shown_text states)) n.cells i line within ∙ ap (λ (c : CellLine). shown_text states c ++ flat_map (shown_text states) (drop (i + 1) n.cells)) is

    pub shown_step : (prim : Primitive) → line.shown ≡ true → prim_of line.prim line.params ≡ Some prim → flat_map (shown_text states) (drop i n.cells) ≡ memory_text line.name (memory_words (states line.name prim)) ++ flat_map (shown_text states) (drop (i + 1) n.cells)
    shown_step prim shown made =
        step ∙ ap (λ b. (if b then memory_text line.name (cell_words states line.name (prim_of line.prim line.params)) else []) ++ flat_map (shown_text states) (drop (i + 1) n.cells)) shown
        ∙ ap (λ o. memory_text line.name (cell_words states line.name o) ++ flat_map (shown_text states) (drop (i + 1) n.cells)) made

    pub hidden_step : line.shown ≡ false → flat_map (shown_text states) (drop i n.cells) ≡ flat_map (shown_text states) (drop (i + 1) n.cells)
    hidden_step hidden =
        step ∙ ap (λ b. (if b then memory_text line.name (cell_words states line.name (prim_of line.prim line.params)) else []) ++ flat_map (shown_text states) (drop (i + 1) n.cells)) hidden

dropped_cells : (cells : List CellLine) (i : ℕ) → length cells ≤ i → drop i cells ≡ []
dropped_cells [] zero past = refl
dropped_cells [] (suc i) past = refl
dropped_cells (c ∷ cells) zero past = absurd (omega (arith, past))
dropped_cells (c ∷ cells) (suc i) past = dropped_cells cells i (omega (arith, past))

-- after all cells nothing is left
pub cells_done : (n : Netlist) (states : Text → Primitive → State) (i : ℕ) → length n.cells ≤ i → flat_map (shown_text states) (drop i n.cells) ≡ []
cells_done n states i past = ap (flat_map (shown_text states)) (dropped_cells n.cells i past)

-- the cell with this number is a shown memory, and its line is the next
pub record IsNextShown (n : Netlist) (states : Text → Primitive → State) (mem i : ℕ) (name : Text) : Type 0 where
  pub prim : Primitive
  pub is_shown : IsShown n mem name prim
  pub counted : mem < length (shown_cells n)
  pub left : AreLeft n (mem + 1) (i + 1)
  pub step : flat_map (shown_text states) (drop i n.cells) ≡ memory_text name (memory_words (states name prim)) ++ flat_map (shown_text states) (drop (i + 1) n.cells)

pub next_shown : (n : Netlist) → IsValid n → (states : Text → Primitive → State) (names : List Text) (cells : List NetCell) → n.cells ≡ map (cell_of names) cells → (mem i : ℕ) (cell : NetCell) → i < length cells → cell ≡ get_or cells i cell → AreLeft n mem i → cell.shown ≡ true → IsNextShown n states mem i (cell_of names cell).name
next_shown n valid states names cells are mem i cell inside is left shown =
    let line = cell_of names cell in
    let within : i < length n.cells = omega (arith, inside, ap length are, length-map cells (cell_of names)) in
    let here : get_or n.cells i line ≡ line = ap (λ ls. get_or ls i line) are ∙ line_at names cells i cell line inside is in
    let at : slice_get n.cells i ≡ Some line = slice_get-get_or n.cells i line within ∙ ap Some here in
    let made = made_cell n valid i line at in
    let first = shown_first n mem i line within here left shown in
    record {
      prim = made.0;
      is_shown = record { line = line; at = first.0; named = refl; made_of = made.1 };
      counted = slice_get_within (shown_cells n) mem line first.0;
      left = first.1;
      step = shown_step n mem i line within here left states made.0 shown made.1;
    }

pub next_hidden : (n : Netlist) (states : Text → Primitive → State) (names : List Text) (cells : List NetCell) → n.cells ≡ map (cell_of names) cells → (mem i : ℕ) (cell : NetCell) → i < length cells → cell ≡ get_or cells i cell → AreLeft n mem i → cell.shown ≡ false → AreLeft n mem (i + 1) × (flat_map (shown_text states) (drop i n.cells) ≡ flat_map (shown_text states) (drop (i + 1) n.cells))
next_hidden n states names cells are mem i cell inside is left hidden =
    let line = cell_of names cell in
    let within : i < length n.cells = omega (arith, inside, ap length are, length-map cells (cell_of names)) in
    let here : get_or n.cells i line ≡ line = ap (λ ls. get_or ls i line) are ∙ line_at names cells i cell line inside is in
    (hidden_over n mem i line within here left hidden, hidden_step n mem i line within here left states hidden)

-- ---- the same states have the same lines

texts_same : (f g : CellLine → Text) (cells : List CellLine) → ((k : ℕ) (c : CellLine) → slice_get cells k ≡ Some c → f c ≡ g c) → flat_map f cells ≡ flat_map g cells
texts_same f g [] same = refl
texts_same f g (c ∷ cells) same = ap₂ ◌++◌ (same 0 c refl) (texts_same f g cells (λ k d at. same (suc k) d at))

line_same : (states states' : Text → Primitive → State) (c : CellLine) (o : Option Primitive) → prim_of c.prim c.params ≡ o → ((prim : Primitive) → o ≡ Some prim → states c.name prim ≡ states' c.name prim) → shown_text states c ≡ shown_text states' c
line_same states states' c None made same =
    ap (λ o. if c.shown then memory_text c.name (cell_words states c.name o) else []) made ∙ sym (ap (λ o. if c.shown then memory_text c.name (cell_words states' c.name o) else []) made)
line_same states states' c (Some prim) made same =
    ap (λ o. if c.shown then memory_text c.name (cell_words states c.name o) else []) made
    ∙ ap (λ s. if c.shown then memory_text c.name (memory_words s) else []) (same prim refl)
    ∙ sym (ap (λ o. if c.shown then memory_text c.name (cell_words states' c.name o) else []) made)

pub memories_same : (n : Netlist) (states states' : Text → Primitive → State) → ((cell : Text) (prim : Primitive) → IsNetCell n cell prim → states cell prim ≡ states' cell prim) → memories_text n states ≡ memories_text n states'
memories_same n states states' same =
    texts_same (shown_text states) (shown_text states') n.cells (λ k c at. line_same states states' c (prim_of c.prim c.params) refl (λ prim made. same c.name prim (k, c, at, refl, made)))

-- ---- traces that agree at the ports have the same states

pub states_same : (n : Netlist) (loads : Text → List ℕ) (trace second : Trace) (t : ℕ) → ((k : ℕ) → k < t → (port : Text) → IsPort n port → trace k port ≡ second k port) → (cell : Text) (prim : Primitive) → IsNetCell n cell prim → states_before t trace loads cell prim ≡ states_before t second loads cell prim
states_same n loads trace second zero same cell prim is = refl
states_same n loads trace second (suc t) same cell prim is =
    ap₂ (next_state prim) (states_same n loads trace second t (λ k before. same k (omega (arith, before))) cell prim is)
    (values_alike (trace t) (second t) cell (pin_names (inputs_of prim)) (λ k pin at.
    let of : Contains (pin_names (inputs_of prim)) pin = Contains-slice_get (pin_names (inputs_of prim)) k pin at in
    let number = input_number n cell prim is pin of in
    let named = named_at n number.0 number.1.0 number.1.1 in
    let port : IsPort n (dotted cell pin) = Contains-slice_get (port_names n) number.0 (dotted cell pin) (named ∙ ap Some number.1.2) in
    same t (omega arith) (dotted cell pin) port))

-- ---- what is passed on, and then written

pub passed_then_written : (out mid out' : Option Text) (held between text : Text) → Passes out held mid between text → Appends mid out' between → Appends out out' (held ++ text)
passed_then_written out mid out' held between text passed late = subst (λ bytes. Appends out out' bytes) passed.in_order (appends_both out mid out' passed.gained between passed.appended late)

pub passed_then_part : (out mid out' : Option Text) (held between text : Text) → Passes out held mid between text → AppendsPrefix mid out' between → AppendsPrefix out out' (held ++ text)
passed_then_part out mid out' held between text passed late = subst (λ bytes. AppendsPrefix out out' bytes) passed.in_order (prefix_after out mid out' passed.gained between passed.appended late)

in_turn : (gained held rows more : Text) → gained ++ held ≡ rows → gained ++ (held ++ more) ≡ rows ++ more
in_turn gained held rows more in_order = sym (append_assoc gained held more) ∙ ap (λ front. front ++ more) in_order

-- rows were passed on, and what follows them was written with what is held
pub rows_then_written : (out mid out' : Option Text) (held rows more : Text) → Passes out [] mid held rows → Appends mid out' (held ++ more) → Appends out out' (rows ++ more)
rows_then_written out mid out' held rows more passed late = subst (λ bytes. Appends out out' bytes) (in_turn passed.gained held rows more passed.in_order) (appends_both out mid out' passed.gained (held ++ more) passed.appended late)

pub rows_then_part : (out mid out' : Option Text) (held rows more : Text) → Passes out [] mid held rows → AppendsPrefix mid out' (held ++ more) → AppendsPrefix out out' (rows ++ more)
rows_then_part out mid out' held rows more passed late = subst (λ bytes. AppendsPrefix out out' bytes) (in_turn passed.gained held rows more passed.in_order) (prefix_after out mid out' passed.gained (held ++ more) passed.appended late)
