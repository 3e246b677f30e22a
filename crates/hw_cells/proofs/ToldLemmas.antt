-- What was told of cells' pins, the entries that say it, and the bits of several cells in one word.
use Rattle.std.proofs.Common.{◌≡◌, ◌↔◌, ◌⊎◌, inl, inr, ℕ, suc, ◌+◌, ◌/◌, ◌%◌, ◌^◌, ◌<◌, ◌≤◌, List, [], ◌∷◌, ◌++◌, length, map, get_or, drop, drop-cons, take, set, slice_get, Some, sym, ap, ap₂, subst, subst₂, ◌∙◌, arith}
use Rattle.std.specs.Prelude.{All, Contains}
use Rattle.std.specs.Int.{bit_at}
use Rattle.std.proofs.lemmas.Bool.{cases_eq, cases_lt}
use Rattle.std.proofs.lemmas.Grind.{flat_map-append}
use Rattle.std.proofs.lemmas.List.{append-nil, drop-set-lt, drop-drop, get_or-drop, get_or-map, get_or_append_left, length-append, length-drop, length-map, take_more}
use Rattle.std.proofs.lemmas.List.Elements.{All-append, Contains-push, Contains-push_cases}
use Rattle.std.proofs.lemmas.Nat.{shr-shr}
use Rattle.std.proofs.Math.Seq.{drop-append_seam, get_or-append_seam}
use Rattle.std.proofs.lemmas.Option.{get_or_from_slice_get, same_Some, slice_get-get_or, slice_get_within}
use Rattle.hw_graph.specs.declared.groups.Entry.{Entry}
use Rattle.hw_cells.specs.Cells.{HasBit, IsAskable, IsOrReaches, IsTold, ReadsThrough}
use Rattle.hw_cells.specs.inside.Parts.{IsAmong, SayAll, Splits, cells_at}
use Rattle.hw_cells.specs.inside.Told.{AddsAll, IsMarked, IsOf, IsShifted, IsSound, outputs_of}
use Rattle.hw_cells.specs.inside.Words.{TellReached}
use Rattle.hw_cells.specs.declared.cell.Cell.{Cell}
use Rattle.hw_cells.specs.declared.cell.Pin.{Pin}
use Rattle.hw_cells.specs.declared.told.Told.{Told}
use Rattle.hw_cells.proofs.PartLemmas.{among-cells_at, cells_at-push, contains_at, contains_early}

-- ---- entries that say what a relation says

pub adds_none : (says : ℕ → ℕ → Type 0) (entries : List Entry) → ((port other : ℕ) → says port other → ⊥) → AddsAll says entries entries
adds_none says entries none = record {
  kept = λ entry has. has;
  only = λ entry has. inl has;
  all = λ port other said. absurd (none port other said);
}

pub adds_as : (says same : ℕ → ℕ → Type 0) (old new : List Entry) → ((port other : ℕ) → says port other ↔ same port other) → AddsAll says old new → AddsAll same old new
adds_as says same old new is adds = record {
  kept = adds.kept;
  only = λ entry has. elim (adds.only entry has) [ inl early ↦ inl early | inr said ↦ inr ((is entry.key entry.value).0 said) ];
  all = λ port other said. adds.all port other ((is port other).1 said);
}

pub adds_more : (some more both : ℕ → ℕ → Type 0) (old now new : List Entry) → ((port other : ℕ) → both port other ↔ some port other ⊎ more port other) → AddsAll some old now → AddsAll more now new → AddsAll both old new
adds_more some more both old now new is first second = record {
  kept = λ entry has. second.kept entry (first.kept entry has);
  only = λ entry has. elim (second.only entry has) [
    | inl early ↦ elim (first.only entry early) [
      | inl before ↦ inl before
      | inr said ↦ inr ((is entry.key entry.value).1 (inl said))
    ]
    | inr said ↦ inr ((is entry.key entry.value).1 (inr said))
  ];
  all = λ port other said. elim ((is port other).0 said) [
    | inl early ↦ second.kept (record { key = port; value = other }) (first.all port other early)
    | inr late ↦ second.all port other late
  ];
}

-- the output reads the input
abbrev pub IsPair : ℕ → ℕ → ℕ → ℕ → Type 0
IsPair output input port other = (output ≡ port) × (input ≡ other)

pub adds_one : (output input : ℕ) (old new : List Entry) → new ≡ old ++ record { key = output; value = input } ∷ [] → AddsAll (IsPair output input) old new
adds_one output input old new is = subst (AddsAll (IsPair output input) old) (sym is) pushed
  where
    make : ℕ → ℕ → Entry
    make a b = record { key = a; value = b }

    this : Entry
    this = make output input

    pushed : AddsAll (IsPair output input) old (old ++ record { key = output; value = input } ∷ [])
    pushed = record {
      kept = λ entry has. contains_early old this entry has;
      only = λ entry has. elim (Contains-push_cases old this entry has) [
        | inl early ↦ inl early
        | inr same ↦ inr (ap (λ (e : Entry). e.key) same, ap (λ (e : Entry). e.value) same)
      ];
      all = λ port other said. subst (Contains (old ++ this ∷ [])) (ap₂ make said.0 said.1) (Contains-push old this);
    }

-- ---- the inputs that an output reads, input by input

-- the input is one of the first ones
abbrev pub FirstMarked : List ℕ → ℕ → Pin → List Pin → ℕ → ℕ → ℕ → Type 0
FirstMarked words bit output inputs count port other = (mark : IsMarked words bit output inputs port other) × (mark.place < count)

module _ (words : List ℕ) (bit : ℕ) (output : Pin) (inputs : List Pin) where
  pub marked_none : (entries : List Entry) → AddsAll (FirstMarked words bit output inputs 0) entries entries
  marked_none entries = adds_none (FirstMarked words bit output inputs 0) entries (λ port other mark. absurd (omega (arith, mark.1)))

  pub marked_skip : (k : ℕ) (old new : List Entry) → (HasBit (get_or words k 0) bit → ⊥) → AddsAll (FirstMarked words bit output inputs k) old new → AddsAll (FirstMarked words bit output inputs (k + 1)) old new
  marked_skip k old new unmarked = adds_as (FirstMarked words bit output inputs k) (FirstMarked words bit output inputs (k + 1)) old new (λ port other. (λ mark. (mark.0, omega (arith, mark.1)), λ mark. (mark.0, below port other mark)))
    where
      below : (port other : ℕ) (mark : FirstMarked words bit output inputs (k + 1) port other) → mark.0.place < k
      below port other mark = elim (cases_eq mark.0.place k) [
        | inl same ↦ absurd (unmarked (subst (λ (place : ℕ). HasBit (get_or words place 0) bit) same mark.0.marked))
        | inr ne ↦ omega (arith, mark.1, ne)
      ]

  pub marked_more : (k : ℕ) (input : Pin) (old now new : List Entry) → slice_get inputs k ≡ Some input → HasBit (get_or words k 0) bit → new ≡ now ++ record { key = output.port; value = input.port } ∷ [] → AddsAll (FirstMarked words bit output inputs k) old now → AddsAll (FirstMarked words bit output inputs (k + 1)) old new
  marked_more k input old now new at has is so_far =
      adds_more (FirstMarked words bit output inputs k) (IsPair output.port input.port) (FirstMarked words bit output inputs (k + 1)) old now new (λ port other. (to port other, from port other)) so_far (adds_one output.port input.port now new is)
    where
      to : (port other : ℕ) → FirstMarked words bit output inputs (k + 1) port other → FirstMarked words bit output inputs k port other ⊎ IsPair output.port input.port port other
      to port other mark = elim (cases_eq mark.0.place k) [
        | inl same ↦
            let input_is : input ≡ mark.0.input = same_Some input mark.0.input (sym at ∙ ap (slice_get inputs) (sym same) ∙ mark.0.at) in
            inr (mark.0.is_output, ap (λ (pin : Pin). pin.port) input_is ∙ mark.0.is_input)
        | inr ne ↦ inl (mark.0, omega (arith, mark.1, ne))
      ]

      from : (port other : ℕ) → FirstMarked words bit output inputs k port other ⊎ IsPair output.port input.port port other → FirstMarked words bit output inputs (k + 1) port other
      from port other either = elim either [
        | inl early ↦ (early.0, omega (arith, early.1))
        | inr pair ↦ (record { place = k; input = input; at = at; marked = has; is_output = pair.0; is_input = pair.1 }, omega arith)
      ]

  pub marked_all : (count : ℕ) (old new : List Entry) → length inputs ≤ count → AddsAll (FirstMarked words bit output inputs count) old new → AddsAll (IsMarked words bit output inputs) old new
  marked_all count old new all =
      adds_as (FirstMarked words bit output inputs count) (IsMarked words bit output inputs) old new (λ port other. (λ mark. mark.0, λ mark. (mark, omega (arith, slice_get_within inputs mark.place mark.input mark.at, all))))

-- ---- what is read through a cell, output by output

-- through the cell the output reads an input
pub record OutputReads (cell : Cell) (output : Pin) (port other : ℕ) : Type 0 where
  pub input : Pin
  pub has_input : Contains cell.inputs.items input
  pub is_output : output.port ≡ port
  pub is_input : input.port ≡ other
  pub reaches : IsOrReaches cell.reads.now output.node input.node

-- one of the first outputs does
pub record FirstRead (cell : Cell) (count : ℕ) (port other : ℕ) : Type 0 where
  pub bit : ℕ
  pub output : Pin
  pub below : bit < count
  pub at : slice_get cell.outputs.items bit ≡ Some output
  pub reads : OutputReads cell output port other

pins_node : (nodes : List ℕ) (pins : List Pin) (place : ℕ) (pin : Pin) → nodes ≡ map (λ (p : Pin). p.node) pins → slice_get pins place ≡ Some pin → get_or nodes place 0 ≡ pin.node
pins_node nodes pins place pin are at =
    ap (λ (l : List ℕ). get_or l place 0) are ∙ get_or-map (λ (p : Pin). p.node) pins place pin 0 (slice_get_within pins place pin at) ∙ ap (λ (p : Pin). p.node) (get_or_from_slice_get pins place pin pin at)

pins_within : (nodes : List ℕ) (pins : List Pin) (place : ℕ) (pin : Pin) → nodes ≡ map (λ (p : Pin). p.node) pins → slice_get pins place ≡ Some pin → place < length nodes
pins_within nodes pins place pin are at = omega (arith, slice_get_within pins place pin at, ap length are, length-map pins (λ (p : Pin). p.node))

pub words_fit : (told : Told) (cell : Cell) → IsOf told cell → length told.words.items ≡ length cell.inputs.items
words_fit told cell of = of.words ∙ ap length of.inputs ∙ length-map cell.inputs.items (λ (p : Pin). p.node)

module _ (told : Told) (cell : Cell) (of : IsOf told cell) (is_told : IsTold cell.reads.now told) (bit : ℕ) (output : Pin) (at : slice_get cell.outputs.items bit ≡ Some output) where
  tells : (place : ℕ) (input : Pin) → slice_get cell.inputs.items place ≡ Some input → HasBit (get_or told.words.items place 0) bit ↔ IsOrReaches cell.reads.now output.node input.node
  tells place input input_at =
      subst₂ (λ (node other : ℕ). HasBit (get_or told.words.items place 0) bit ↔ IsOrReaches cell.reads.now node other)
      (pins_node told.outputs.items cell.outputs.items bit output of.outputs at) (pins_node told.inputs.items cell.inputs.items place input of.inputs input_at)
      (is_told bit place (pins_within told.outputs.items cell.outputs.items bit output of.outputs at) (omega (arith, pins_within told.inputs.items cell.inputs.items place input of.inputs input_at, of.words)))

  pub marked_reads : (port other : ℕ) → IsMarked told.words.items bit output cell.inputs.items port other ↔ OutputReads cell output port other
  marked_reads port other = (to, from)
    where
      to : IsMarked told.words.items bit output cell.inputs.items port other → OutputReads cell output port other
      to mark = record {
        input = mark.input;
        has_input = contains_at cell.inputs.items mark.place mark.input mark.at;
        is_output = mark.is_output;
        is_input = mark.is_input;
        reaches = (tells mark.place mark.input mark.at).0 mark.marked;
      }

      from : OutputReads cell output port other → IsMarked told.words.items bit output cell.inputs.items port other
      from reads =
          let place = reads.has_input.0 in
          let input_at = slice_get-get_or cell.inputs.items place reads.input reads.has_input.1 ∙ ap Some reads.has_input.2 in
          record {
            place = place;
            input = reads.input;
            at = input_at;
            marked = (tells place reads.input input_at).1 reads.reaches;
            is_output = reads.is_output;
            is_input = reads.is_input;
          }

  pub reads_more : (old now new : List Entry) → AddsAll (FirstRead cell bit) old now → AddsAll (IsMarked told.words.items bit output cell.inputs.items) now new → AddsAll (FirstRead cell (bit + 1)) old new
  reads_more old now new so_far marked =
      adds_more (FirstRead cell bit) (OutputReads cell output) (FirstRead cell (bit + 1)) old now new (λ port other. (to port other, from port other)) so_far
      (adds_as (IsMarked told.words.items bit output cell.inputs.items) (OutputReads cell output) now new marked_reads marked)
    where
      to : (port other : ℕ) → FirstRead cell (bit + 1) port other → FirstRead cell bit port other ⊎ OutputReads cell output port other
      to port other first = elim (cases_eq first.bit bit) [
        | inl same ↦
            let is : first.output ≡ output = same_Some first.output output (sym first.at ∙ ap (slice_get cell.outputs.items) same ∙ at) in
            inr (subst (λ (pin : Pin). OutputReads cell pin port other) is first.reads)
        | inr ne ↦ inl (record { bit = first.bit; output = first.output; below = omega (arith, first.below, ne); at = first.at; reads = first.reads })
      ]

      from : (port other : ℕ) → FirstRead cell bit port other ⊎ OutputReads cell output port other → FirstRead cell (bit + 1) port other
      from port other either = elim either [
        | inl early ↦ record { bit = early.bit; output = early.output; below = omega (arith, early.below); at = early.at; reads = early.reads }
        | inr now_read ↦ record { bit = bit; output = output; below = omega arith; at = at; reads = now_read }
      ]

pub reads_none : (cell : Cell) (entries : List Entry) → AddsAll (FirstRead cell 0) entries entries
reads_none cell entries = adds_none (FirstRead cell 0) entries (λ port other first. absurd (omega (arith, first.below)))

pub reads_all : (cell : Cell) (count : ℕ) (old new : List Entry) → length cell.outputs.items ≤ count → AddsAll (FirstRead cell count) old new → AddsAll (ReadsThrough cell) old new
reads_all cell count old new all = adds_as (FirstRead cell count) (ReadsThrough cell) old new (λ port other. (to port other, from port other))
  where
    to : (port other : ℕ) → FirstRead cell count port other → ReadsThrough cell port other
    to port other first = record {
      output = first.output;
      input = first.reads.input;
      has_output = contains_at cell.outputs.items first.bit first.output first.at;
      has_input = first.reads.has_input;
      is_output = first.reads.is_output;
      is_input = first.reads.is_input;
      reaches = first.reads.reaches;
    }

    from : (port other : ℕ) → ReadsThrough cell port other → FirstRead cell count port other
    from port other through =
        let place = through.has_output.0 in
        record {
          bit = place;
          output = through.output;
          below = omega (arith, through.has_output.1, all);
          at = slice_get-get_or cell.outputs.items place through.output through.has_output.1 ∙ ap Some through.has_output.2;
          reads = record { input = through.input; has_input = through.has_input; is_output = through.is_output; is_input = through.is_input; reaches = through.reaches };
        }

-- ---- told cells are split off

-- one of the first cells
abbrev pub IsFirst : List Cell → ℕ → Cell → Type 0
IsFirst cells count cell = (number : ℕ) × (number < count) × (slice_get cells number ≡ Some cell)

pub first_none : (cells : List Cell) (others : List ℕ) (entries : List Entry) → others ≡ [] → Splits cells (IsFirst cells 0) entries entries [] (cells_at cells others)
first_none cells others entries none = subst (λ (list : List ℕ). Splits cells (IsFirst cells 0) entries entries [] (cells_at cells list)) (sym none) start
  where
    start : Splits cells (IsFirst cells 0) entries entries [] []
    start = record {
      kept = λ entry has. has;
      only = λ entry has. inl has;
      left = λ cell has. has;
      others = λ cell has. inl has;
      each = λ cell first. absurd (omega (arith, first.1));
    }

module _ (cells : List Cell) (k : ℕ) (cell : Cell) (at : slice_get cells k ≡ Some cell) where
  first_or_this : (c : Cell) → IsFirst cells (k + 1) c → IsFirst cells k c ⊎ (cell ≡ c)
  first_or_this c first = elim (cases_eq first.0 k) [
    | inl same ↦ inr (same_Some cell c (sym at ∙ ap (slice_get cells) (sym same) ∙ first.2))
    | inr ne ↦ inl (first.0, omega (arith, first.1, ne), first.2)
  ]

  pub first_told : (old now new : List Entry) (left : List Cell) → AddsAll (ReadsThrough cell) now new → Splits cells (IsFirst cells k) old now [] left → Splits cells (IsFirst cells (k + 1)) old new [] left
  first_told old now new left adds so_far = record {
    kept = λ entry has. adds.kept entry (so_far.kept entry has);
    only = λ entry has. elim (adds.only entry has) [
      | inl early ↦ so_far.only entry early
      | inr through ↦ inr (cell, contains_at cells k cell at, through)
    ];
    left = so_far.left;
    others = so_far.others;
    each = λ c first. elim (first_or_this c first) [
      | inl early ↦ elim (so_far.each c early) [
        | inl stays ↦ inl stays
        | inr said ↦ inr (λ port other through. adds.kept (record { key = port; value = other }) (said port other through))
      ]
      | inr this ↦ inr (subst (SayAll new) this adds.all)
    ];
  }

  pub first_other : (old now new : List Entry) (others more : List ℕ) → new ≡ now → more ≡ others ++ k ∷ [] → Splits cells (IsFirst cells k) old now [] (cells_at cells others) → Splits cells (IsFirst cells (k + 1)) old new [] (cells_at cells more)
  first_other old now new others more same pushed so_far =
      subst₂ (λ (entries : List Entry) (left : List Cell). Splits cells (IsFirst cells (k + 1)) old entries [] left) (sym same) (sym (ap (cells_at cells) pushed ∙ cells_at-push cells others k cell at))
      (record {
        kept = so_far.kept;
        only = so_far.only;
        left = λ c has. contains_early (cells_at cells others) cell c (so_far.left c has);
        others = λ c has. elim (Contains-push_cases (cells_at cells others) cell c has) [
          | inl early ↦ so_far.others c early
          | inr is ↦ inr (subst (Contains cells) is (contains_at cells k cell at))
        ];
        each = λ c first. elim (first_or_this c first) [
          | inl early ↦ elim (so_far.each c early) [
            | inl stays ↦ inl (contains_early (cells_at cells others) cell c stays)
            | inr said ↦ inr said
          ]
          | inr is ↦ inl (subst (Contains (cells_at cells others ++ cell ∷ [])) is (Contains-push (cells_at cells others) cell))
        ];
      })

pub first_all : (cells : List Cell) (count : ℕ) (old new : List Entry) (left : List Cell) → length cells ≤ count → Splits cells (IsFirst cells count) old new [] left → Splits cells (Contains cells) old new [] left
first_all cells count old new left all splits = record {
  kept = splits.kept;
  only = splits.only;
  left = splits.left;
  others = splits.others;
  each = λ c has. splits.each c (has.0, omega (arith, has.1, all), slice_get-get_or cells has.0 c has.1 ∙ ap Some has.2);
}

-- and then those that are not told
pub splits_then : (cells : List Cell) (numbers : List ℕ) (old now new : List Entry) (left : List Cell) → Splits cells (Contains cells) old now [] (cells_at cells numbers) → Splits cells (IsAmong cells numbers) now new [] left → Splits cells (Contains cells) old new [] left
splits_then cells numbers old now new left first second = record {
  kept = λ entry has. second.kept entry (first.kept entry has);
  only = λ entry has. elim (second.only entry has) [ inl early ↦ first.only entry early | inr through ↦ inr through ];
  left = second.left;
  others = second.others;
  each = λ c has. elim (first.each c has) [
    | inl stays ↦ second.each c (among-cells_at cells numbers c stays)
    | inr said ↦ inr (λ port other through. second.kept (record { key = port; value = other }) (said port other through))
  ];
}

-- ---- outputs of several cells

pub outputs_next : (cells : List Told) (k : ℕ) (d : Told) → k < length cells → outputs_of (take (k + 1) cells) ≡ outputs_of (take k cells) ++ (get_or cells k d).outputs.items
outputs_next cells k d lt =
    ap outputs_of (take_more cells k d lt) ∙ flat_map-append (λ (told : Told). told.outputs.items) (take k cells) (get_or cells k d ∷ []) ∙ ap (λ (l : List ℕ). outputs_of (take k cells) ++ l) (append-nil (get_or cells k d).outputs.items)

pub count_next : (cells : List Told) (k : ℕ) (d : Told) → k < length cells → length (outputs_of (take (k + 1) cells)) ≡ length (outputs_of (take k cells)) + length (get_or cells k d).outputs.items
count_next cells k d lt = ap length (outputs_next cells k d lt) ∙ length-append (outputs_of (take k cells)) (get_or cells k d).outputs.items

pub rest_next : (cells : List Told) (k : ℕ) (d : Told) → k < length cells → outputs_of (drop k cells) ≡ (get_or cells k d).outputs.items ++ outputs_of (drop (k + 1) cells)
rest_next cells k d lt =
    let on : suc k ≡ k + 1 = omega arith in
    ap outputs_of (drop-cons cells k d lt ∙ ap (λ (n : ℕ). get_or cells k d ∷ drop n cells) on)

-- all outputs are nodes of the graph
pub outputs_sound : (reads : List (List ℕ)) (cells : List Told) → All (IsSound reads) cells → All (λ (node : ℕ). node < length reads) (outputs_of cells)
outputs_sound reads [] sound = λ k d lt. absurd (omega (arith, lt))
outputs_sound reads (told ∷ cells) sound =
    All-append (λ (node : ℕ). node < length reads) told.outputs.items (outputs_of cells) (sound 0 told (omega arith)).outputs (outputs_sound reads cells (λ k d lt. sound (suc k) d (omega (arith, lt))))

-- ---- bits of a word from one on

pub bit_of_shifted : (word first bit : ℕ) → bit_at (word / 2 ^ first) bit ≡ bit_at word (first + bit)
bit_of_shifted word first bit = ap (λ n. n % 2) (shr-shr word first bit)

-- the words of these nodes, from a bit on
abbrev pub AreShifted : List ℕ → ℕ → List ℕ → List ℕ → Type 0
AreShifted words first inputs told = (bit place : ℕ) → place < length told → HasBit (get_or told place 0) bit ↔ HasBit (get_or words (get_or inputs place 0) 0) (first + bit)

pub shifted_none : (words inputs told : List ℕ) (first : ℕ) → told ≡ [] → AreShifted words first inputs told
shifted_none words inputs told first none bit place lt = absurd (omega (arith, lt, ap length none))

pub shifted_more : (words inputs told new : List ℕ) (first word : ℕ) → word ≡ get_or words (get_or inputs (length told) 0) 0 / 2 ^ first → new ≡ told ++ word ∷ [] → AreShifted words first inputs told → AreShifted words first inputs new
shifted_more words inputs told new first word is pushed so_far bit place lt = elim (cases_lt place (length told)) [
  | inl early ↦
      subst (λ (w : ℕ). HasBit w bit ↔ HasBit (get_or words (get_or inputs place 0) 0) (first + bit)) (sym (ap (λ (l : List ℕ). get_or l place 0) pushed ∙ get_or_append_left told (word ∷ []) 0 place early)) (so_far bit place early)
  | inr past ↦
      let last : place ≡ length told = omega (arith, past, lt, ap length pushed, length-append told (word ∷ [])) in
      let node = get_or inputs (length told) 0 in
      let now : get_or new place 0 ≡ get_or words node 0 / 2 ^ first = ap₂ (λ (l : List ℕ) (n : ℕ). get_or l n 0) pushed last ∙ get_or-append_seam told word [] 0 ∙ is in
      let bits : bit_at (get_or new place 0) bit ≡ bit_at (get_or words (get_or inputs place 0) 0) (first + bit) =
      ap (λ (w : ℕ). bit_at w bit) now ∙ bit_of_shifted (get_or words node 0) first bit ∙ ap (λ (n : ℕ). bit_at (get_or words (get_or inputs n 0) 0) (first + bit)) (sym last) in
      (λ has. sym bits ∙ has, λ has. bits ∙ has)
]

-- ---- cells are told together

pub sound_askable : (reads : List (List ℕ)) (told : Told) → IsAskable (length reads) told → IsSound reads told
sound_askable reads told ask = record {
  few = ask.few;
  outputs = ask.outputs;
  inputs = ask.inputs;
  right = λ bit place lt within. absurd (omega (arith, within, ap length ask.untold));
}

module _ (reads : List (List ℕ)) (nodes words : List ℕ) (first k : ℕ) (cells : List Told) (d new : Told) (reached : TellReached reads nodes words) (within : k < length cells) (begun : first ≤ length nodes) (rest : drop first nodes ≡ outputs_of (drop k cells)) (same_outputs : new.outputs.items ≡ (get_or cells k d).outputs.items) (same_inputs : new.inputs.items ≡ (get_or cells k d).inputs.items) where
  abbrev old : Told
  old = get_or cells k d

  abbrev size : ℕ
  size = length (get_or cells k d).outputs.items

  rest_is : drop first nodes ≡ (get_or cells k d).outputs.items ++ outputs_of (drop (k + 1) cells)
  rest_is = rest ∙ rest_next cells k d within

  -- the outputs of the cell are still to come
  pub ends_within : first + size ≤ length nodes
  ends_within = omega (arith, begun, ap length rest_is, length-drop first nodes, length-append (get_or cells k d).outputs.items (outputs_of (drop (k + 1) cells)))

  output_is : (bit : ℕ) → bit < size → get_or nodes (first + bit) 0 ≡ get_or (get_or cells k d).outputs.items bit 0
  output_is bit lt = sym (get_or-drop first nodes bit 0) ∙ ap (λ (l : List ℕ). get_or l bit 0) rest_is ∙ get_or_append_left (get_or cells k d).outputs.items (outputs_of (drop (k + 1) cells)) 0 bit lt

  pub told_sound : IsShifted words first new → IsSound reads (get_or cells k d) → IsSound reads new
  told_sound shifted sound = record {
    few = subst (λ (l : List ℕ). length l ≤ 64) (sym same_outputs) sound.few;
    outputs = subst (All (λ (node : ℕ). node < length reads)) (sym same_outputs) sound.outputs;
    inputs = subst (All (λ (node : ℕ). node < length reads)) (sym same_inputs) sound.inputs;
    right = tells;
  }
    where
      tells : IsTold reads new
      tells bit place lt in_words =
          let below : bit < size = omega (arith, lt, ap length same_outputs) in
          let shift = shifted bit place lt in_words in
          let node = get_or new.inputs.items place 0 in
          let at = output_is bit below ∙ sym (ap (λ (l : List ℕ). get_or l bit 0) same_outputs) in
          let tell = subst (λ (n : ℕ). HasBit (get_or words node 0) (first + bit) ↔ IsOrReaches reads n node) at (reached (first + bit) node (omega (arith, ends_within, below))) in
          (λ has. tell.0 (shift.0 has), λ is. shift.1 (tell.1 is))

  pub rest_after : drop (first + size) nodes ≡ outputs_of (drop (k + 1) (set cells k new))
  rest_after =
      sym (drop-drop size first nodes) ∙ ap (drop size) rest_is ∙ drop-append_seam (get_or cells k d).outputs.items (outputs_of (drop (k + 1) cells)) ∙ ap outputs_of (sym (drop-set-lt (k + 1) cells k new (omega arith)))
