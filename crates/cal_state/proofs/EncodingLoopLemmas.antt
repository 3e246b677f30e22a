-- Assignments of a lowered component, as far as a list of them, of pieces or of groups is gone over.
use Rattle.std.proofs.Common.{◌≡◌, ℕ, suc, ◌+◌, ◌<◌, ◌≤◌, List, [], ◌∷◌, ◌++◌, length, map, take, drop, get_or, Option, Some, None, refl, sym, ap, ap₂, subst, ◌∙◌, append_assoc, append-nil, arith}
use Rattle.std.specs.Prelude.{flat_map, slice_get}
use Rattle.std.specs.List.{AllZip}
use Rattle.std.proofs.lemmas.List.{drop_all, drop_more, length-map, take_all, take_more}
use Rattle.std.proofs.lemmas.List.Concat.{flat_map-append}
use Rattle.hw_names.specs.Name.{Text}
use Rattle.cal_ast.specs.Plan.{Plan}
use Rattle.cal_ast.specs.Tree.{Assignment, DoneLine, GroupDef, done_tree, group_tree}
use Rattle.cal_ast.specs.declared.tree.DoneSet.{DoneSet}
use Rattle.cal_ast.specs.declared.tree.Group.{Group}
use Rattle.cal_lower.specs.inside.Lowered.{acts_wire, done_wire, group_pieces}
use Rattle.cal_lower.specs.inside.Pieces.{Piece, piece_set, piece_sets}
use Rattle.cal_lower.proofs.NextLemmas.{drop_next, one_more}
use Rattle.cal_state.specs.inside.Making.{Encoding, HasKind, ShowsEncoding, ShowsPlace}
use Rattle.cal_state.specs.inside.States.{all_next_sets, as_wire, as_wires, next_sets}
use Rattle.cal_state.specs.inside.Threads.{Place, NoState, IsIn}
use Rattle.cal_state.specs.declared.component.Sets.{Sets}
use Rattle.cal_state.specs.declared.threads.State as state

-- what is shown, by equal lists
pub encoding_same : (names : List Text) (left left' wires wires' states states' : List Assignment) (made : Sets) → left ≡ left' → wires ≡ wires' → states ≡ states'
    → ShowsEncoding names (record { left = left; wires = wires; states = states }) made → ShowsEncoding names (record { left = left'; wires = wires'; states = states' }) made
encoding_same names left left' wires wires' states states' made l w s shows =
    let P : Encoding → Type 0 = λ e. ShowsEncoding names e made in
    let one : Encoding = record { left = left; wires = wires; states = states } in
    let two : Encoding = record { left = left'; wires = wires'; states = states' } in
    let same : one ≡ two =
    ap₂ (λ (a b : List Assignment). record { left = a; wires = b; states = states }) l w ∙ ap (λ (c : List Assignment). record { left = left'; wires = wires'; states = c }) s in
    subst P same shows

-- ---- so many that stay

-- the element at a place
pub cut_at : {X : Type 0} (xs : List X) (k : ℕ) → k < length xs → (x : X) × (drop k xs ≡ x ∷ drop (k + 1) xs) × (take (k + 1) xs ≡ take k xs ++ x ∷ [])
cut_at [] k within = absurd (omega (arith, within))
cut_at (y ∷ ys) k within = (get_or (y ∷ ys) k y, drop_more (y ∷ ys) k y within, take_more (y ∷ ys) k y within)

module _ (names : List Text) (sets left wires states : List Assignment) where
  -- k of them have stayed
  abbrev pub StaysSoFar : ℕ → Sets → Type 0
  StaysSoFar k made = ShowsEncoding names (record { left = drop k sets ++ left; wires = wires ++ take k sets; states = states }) made

  pub stays_start : (made : Sets) → ShowsEncoding names (record { left = sets ++ left; wires = wires; states = states }) made → StaysSoFar 0 made
  stays_start made shows = encoding_same names _ _ _ _ _ _ made refl (sym (append-nil wires)) refl shows

  pub stays_next : (k : ℕ) (old new : Sets) → k < length sets → StaysSoFar k old
      → ((set : Assignment) (l w s : List Assignment) → ShowsEncoding names (record { left = set ∷ l; wires = w; states = s }) old
      → ShowsEncoding names (record { left = l; wires = w ++ set ∷ []; states = s }) new)
      → StaysSoFar (k + 1) new
  stays_next k old new within so_far step =
      let (x, cut, more) = cut_at sets k within in
      let open_it = encoding_same names _ (x ∷ (drop (k + 1) sets ++ left)) _ _ _ _ old (ap (λ (l : List Assignment). l ++ left) cut) refl refl so_far in
      encoding_same names _ _ _ _ _ _ new refl (append_assoc wires (take k sets) (x ∷ []) ∙ ap (λ (l : List Assignment). wires ++ l) (sym more)) refl
      (step x (drop (k + 1) sets ++ left) (wires ++ take k sets) states open_it)

  pub stays_end : (k : ℕ) (made : Sets) → length sets ≤ k → StaysSoFar k made → ShowsEncoding names (record { left = left; wires = wires ++ sets; states = states }) made
  stays_end k made past so_far =
      encoding_same names _ _ _ _ _ _ made (ap (λ (l : List Assignment). l ++ left) (drop_all k sets past)) (ap (λ (l : List Assignment). wires ++ l) (take_all k sets past)) refl so_far

-- ---- pieces

-- so far this was made, and with what the rest makes it is the whole
pub record PiecesSoFar (names : List Text) (left wires states : List Assignment) (made : Sets) (rest : List (Option state.State)) : Type 0 where
  pub pieces : List Piece
  pub trees : List Place
  pub so_wires : List Assignment
  pub so_states : List Assignment
  pub kinds : AllZip HasKind trees pieces
  pub places : AllZip (ShowsPlace names) trees rest
  pub shows : ShowsEncoding names (record { left = flat_map piece_sets pieces ++ left; wires = so_wires; states = so_states }) made
  pub same_wires : so_wires ++ flat_map piece_sets (as_wires pieces trees) ≡ wires
  pub same_states : so_states ++ all_next_sets pieces trees ≡ states

module _ (names : List Text) (left : List Assignment) where
  pub pieces_start : (pieces : List Piece) (trees : List Place) (wires states : List Assignment) (made : Sets) (all rest : List (Option state.State)) → rest ≡ all
      → AllZip HasKind trees pieces → AllZip (ShowsPlace names) trees all
      → ShowsEncoding names (record { left = flat_map piece_sets pieces ++ left; wires = wires; states = states }) made
      → PiecesSoFar names left (wires ++ flat_map piece_sets (as_wires pieces trees)) (states ++ all_next_sets pieces trees) made rest
  pieces_start pieces trees wires states made all rest is kinds places shows =
      let P : List (Option state.State) → Type 0 = AllZip (ShowsPlace names) trees in
      record {
        pieces = pieces;
        trees = trees;
        so_wires = wires;
        so_states = states;
        kinds = kinds;
        places = subst P (sym is) places;
        shows = shows;
        same_wires = refl;
        same_states = refl;
      }

  -- what one piece in its place makes
  abbrev pub PieceStep : Sets → Sets → Option state.State → Type 0
  PieceStep old new m = (p : Piece) (x : Place) (l w s : List Assignment) → HasKind x p → ShowsPlace names x m
      → ShowsEncoding names (record { left = piece_sets p ++ l; wires = w; states = s }) old
      → ShowsEncoding names (record { left = l; wires = w ++ piece_sets (as_wire p x); states = s ++ next_sets p x }) new

  pub pieces_next : (wires states : List Assignment) (old new : Sets) (rest others : List (Option state.State)) (m : Option state.State) → rest ≡ m ∷ others
      → PiecesSoFar names left wires states old rest → PieceStep old new m → PiecesSoFar names left wires states new others
  pieces_next wires states old new rest others m is so_far step =
      let P : List (Option state.State) → Type 0 = AllZip (ShowsPlace names) so_far.trees in
      by so_far.pieces so_far.trees so_far.so_wires so_far.so_states so_far.kinds (subst P is so_far.places) so_far.shows so_far.same_wires so_far.same_states
    where
      by : (pieces : List Piece) (trees : List Place) (w s : List Assignment) → AllZip HasKind trees pieces → AllZip (ShowsPlace names) trees (m ∷ others)
          → ShowsEncoding names (record { left = flat_map piece_sets pieces ++ left; wires = w; states = s }) old → w ++ flat_map piece_sets (as_wires pieces trees) ≡ wires
          → s ++ all_next_sets pieces trees ≡ states → PiecesSoFar names left wires states new others
      by pieces [] w s kinds places shows is_w is_s = absurd places
      by [] (x ∷ xs) w s kinds places shows is_w is_s = absurd kinds
      by (p ∷ ps) (x ∷ xs) w s kinds places shows is_w is_s =
          let opened = encoding_same names _ (piece_sets p ++ (flat_map piece_sets ps ++ left)) _ _ _ _ old (append_assoc (piece_sets p) (flat_map piece_sets ps) left) refl refl shows in
          record {
            pieces = ps;
            trees = xs;
            so_wires = w ++ piece_sets (as_wire p x);
            so_states = s ++ next_sets p x;
            kinds = kinds.1;
            places = places.1;
            shows = step p x (flat_map piece_sets ps ++ left) w s kinds.0 places.0 opened;
            same_wires = append_assoc w (piece_sets (as_wire p x)) (flat_map piece_sets (as_wires ps xs)) ∙ is_w;
            same_states = append_assoc s (next_sets p x) (all_next_sets ps xs) ∙ is_s;
          }

  pub pieces_end : (wires states : List Assignment) (made : Sets) (rest : List (Option state.State)) → rest ≡ [] → PiecesSoFar names left wires states made rest
      → ShowsEncoding names (record { left = left; wires = wires; states = states }) made
  pieces_end wires states made rest is so_far =
      let P : List (Option state.State) → Type 0 = AllZip (ShowsPlace names) so_far.trees in
      by so_far.pieces so_far.trees so_far.so_wires so_far.so_states so_far.kinds (subst P is so_far.places) so_far.shows so_far.same_wires so_far.same_states
    where
      by : (pieces : List Piece) (trees : List Place) (w s : List Assignment) → AllZip HasKind trees pieces → AllZip (ShowsPlace names) trees []
          → ShowsEncoding names (record { left = flat_map piece_sets pieces ++ left; wires = w; states = s }) made → w ++ flat_map piece_sets (as_wires pieces trees) ≡ wires
          → s ++ all_next_sets pieces trees ≡ states → ShowsEncoding names (record { left = left; wires = wires; states = states }) made
      by pieces (x ∷ xs) w s kinds places shows is_w is_s = absurd places
      by (p ∷ ps) [] w s kinds places shows is_w is_s = absurd kinds
      by [] [] w s kinds places shows is_w is_s = encoding_same names _ _ _ _ _ _ made refl (sym (append-nil w) ∙ is_w) (sym (append-nil s) ∙ is_s) shows

-- ---- groups

abbrev pub groups_sets : List Text → Plan → List Group → List Assignment
groups_sets source plan gs = flat_map piece_sets (flat_map (group_pieces plan) (map (group_tree source) gs))

-- the wires that show a group's done lines
abbrev pub dones_sets : List Text → List DoneSet → List Assignment
dones_sets source ds = flat_map piece_sets (map done_wire (map (done_tree source) ds))

pub dones_count : (source : List Text) (ds : List DoneSet) → length (dones_sets source ds) ≡ length ds
dones_count source [] = refl
dones_count source (d ∷ ds) = ap suc (dones_count source ds)

module _ (source : List Text) (plan : Plan) where
  -- those of a group: that it acts, and its done lines
  abbrev first_set : Group → Assignment
  first_set g = piece_set (acts_wire plan (group_tree source g))

  pub group_cut : (g : Group) (gs : List Group)
      → groups_sets source plan (g ∷ gs) ≡ first_set g ∷ (dones_sets source g.dones.items ++ groups_sets source plan gs)
  group_cut g gs = flat_map-append piece_sets (group_pieces plan (group_tree source g)) (flat_map (group_pieces plan) (map (group_tree source) gs))

  groups_append : (gs hs : List Group) → groups_sets source plan (gs ++ hs) ≡ groups_sets source plan gs ++ groups_sets source plan hs
  groups_append [] hs = refl
  groups_append (g ∷ gs) hs =
      group_cut g (gs ++ hs)
      ∙ ap (λ (l : List Assignment). first_set g ∷ (dones_sets source g.dones.items ++ l)) (groups_append gs hs)
      ∙ ap (λ (l : List Assignment). first_set g ∷ l) (sym (append_assoc (dones_sets source g.dones.items) (groups_sets source plan gs) (groups_sets source plan hs)))
      ∙ ap (λ (l : List Assignment). l ++ groups_sets source plan hs) (sym (group_cut g gs))

  module _ (names : List Text) (gs : List Group) (left wires states : List Assignment) where
    abbrev pub GroupsSoFar : ℕ → Sets → Type 0
    GroupsSoFar k made = ShowsEncoding names
        (record { left = groups_sets source plan (drop k gs) ++ left; wires = wires ++ groups_sets source plan (take k gs); states = states }) made

    pub groups_start : (made : Sets) → ShowsEncoding names (record { left = groups_sets source plan gs ++ left; wires = wires; states = states }) made → GroupsSoFar 0 made
    groups_start made shows = encoding_same names _ _ _ _ _ _ made refl (sym (append-nil wires)) refl shows

    pub groups_next : (k : ℕ) (g : Group) (old mid new : Sets) (count : ℕ) → slice_get gs k ≡ Some g → count ≡ length g.dones.items → GroupsSoFar k old
        → ((set : Assignment) (l w s : List Assignment) → ShowsEncoding names (record { left = set ∷ l; wires = w; states = s }) old
        → ShowsEncoding names (record { left = l; wires = w ++ set ∷ []; states = s }) mid)
        → ((sets l w s : List Assignment) → length sets ≡ count → ShowsEncoding names (record { left = sets ++ l; wires = w; states = s }) mid
        → ShowsEncoding names (record { left = l; wires = w ++ sets; states = s }) new)
        → GroupsSoFar (k + 1) new
    groups_next k g old mid new count at counted so_far stay stay_all =
        let rest = groups_sets source plan (drop (k + 1) gs) ++ left in
        let before = wires ++ groups_sets source plan (take k gs) in
        let dones = dones_sets source g.dones.items in
        let cut : groups_sets source plan (drop k gs) ++ left ≡ first_set g ∷ (dones ++ rest) =
        ap (λ (l : List Group). groups_sets source plan l ++ left) (drop_next gs k g at) ∙ ap (λ (l : List Assignment). l ++ left) (group_cut g (drop (k + 1) gs))
        ∙ ap (λ (l : List Assignment). first_set g ∷ l) (append_assoc dones (groups_sets source plan (drop (k + 1) gs)) left) in
        let one = stay (first_set g) (dones ++ rest) before states (encoding_same names _ _ _ _ _ _ old cut refl refl so_far) in
        let all = stay_all dones rest (before ++ first_set g ∷ []) states (dones_count source g.dones.items ∙ sym counted) one in
        let alone : groups_sets source plan (g ∷ []) ≡ first_set g ∷ dones = group_cut g [] ∙ ap (λ (l : List Assignment). first_set g ∷ l) (append-nil dones) in
        let put : (before ++ first_set g ∷ []) ++ dones ≡ wires ++ groups_sets source plan (take (k + 1) gs) =
        append_assoc before (first_set g ∷ []) dones
        ∙ append_assoc wires (groups_sets source plan (take k gs)) (first_set g ∷ dones)
        ∙ ap (λ (l : List Assignment). wires ++ l)
        (ap (λ (l : List Assignment). groups_sets source plan (take k gs) ++ l) (sym alone) ∙ sym (groups_append (take k gs) (g ∷ []))
        ∙ ap (λ (l : List Group). groups_sets source plan l) (sym (one_more gs k g at))) in
        encoding_same names _ _ _ _ _ _ new refl put refl all

    pub groups_end : (k : ℕ) (made : Sets) → length gs ≤ k → GroupsSoFar k made
        → ShowsEncoding names (record { left = left; wires = wires ++ groups_sets source plan gs; states = states }) made
    groups_end k made past so_far =
        encoding_same names _ _ _ _ _ _ made (ap (λ (l : List Group). groups_sets source plan l ++ left) (drop_all k gs past))
        (ap (λ (l : List Group). wires ++ groups_sets source plan l) (take_all k gs past)) refl so_far
