-- The wires of groups: that they act, and where they are done.
use Rattle.std.proofs.Common.{◌≡◌, ℕ, ◌+◌, Bool, true, false, List, [], ◌∷◌, ◌++◌, map, flat_map, take, Contains, Some, sym, ap, ap₂, subst, ◌∙◌, append_assoc}
use Rattle.std.specs.Prelude.{slice_get, if◌then◌else◌}
use Rattle.std.proofs.lemmas.List.{append-nil, map-append}
use Rattle.std.proofs.lemmas.List.Concat.{flat_map-append}
use Rattle.hw_names.proofs.NameLemmas.{text_of-KeepsTexts, text_of-slice_get}
use Rattle.hw_names.specs.Name.{KeepsTexts, Text, text_of}
use Rattle.net_core.specs.Guard.{GuardTree, Negates}
use Rattle.net_core.specs.Numbers.{IsNumberOf}
use Rattle.cal_ast.specs.Actors.{GroupNamed}
use Rattle.cal_ast.specs.Plan.{Plan}
use Rattle.cal_ast.specs.Tree.{GroupDef, PortName, done_tree, group_tree}
use Rattle.cal_ast.specs.declared.tree.DoneSet.{DoneSet}
use Rattle.cal_ast.specs.declared.tree.Group.{Group}
use Rattle.cal_lower.specs.inside.Lowered.{acts_guard, done_wire, group_pieces}
use Rattle.cal_lower.specs.inside.Making.{CanLowerGroup, plan_made}
use Rattle.cal_lower.specs.inside.Parts.{enabling, testing}
use Rattle.cal_lower.specs.inside.Pieces.{Piece, Wire, acts_name, any_of, both, done_name, is_done, is_set, start_name}
use Rattle.cal_lower.specs.inside.Shown.{ShowsPieces, driven, one_when}
use Rattle.cal_lower.specs.declared.acts.Acts.{Acts}
use Rattle.cal_lower.specs.declared.pieces.Pieces.{Pieces}
use Rattle.cal_lower.proofs.CopiedLemmas.{done_drive}
use Rattle.cal_lower.proofs.GrownLemmas.{acts_kept}
use Rattle.cal_lower.proofs.NextLemmas.{map_next}
use Rattle.cal_lower.proofs.StableLemmas.{KeepsTexts-trans, id_number}

-- ---- one group

pub can_group_later : (source old new : List Text) (plan : Plan) (acts : Acts) (group : Group) → KeepsTexts old new → CanLowerGroup source old plan acts group → CanLowerGroup source new plan acts group
can_group_later source old new plan acts group kept can = record {
  kept = KeepsTexts-trans source old new can.kept kept;
  numbers = can.numbers;
  known = can.known;
  shown = acts_kept old new (plan_made plan).enabled (plan_made plan).tested acts kept can.shown;
}

module _ (source names : List Text) (plan : Plan) (acts : Acts) (group : Group) (can : CanLowerGroup source names plan acts group) where
  pub group_number : IsNumberOf names group.name
  group_number = id_number source names can.kept group.name can.numbers.name

  pub group_text : text_of names group.name ≡ text_of source group.name
  group_text = text_of-KeepsTexts source names group.name can.kept can.numbers.name

  module _ (text : Text) (at : slice_get names group.name.0 ≡ Some text) where
    named : text_of source group.name ≡ text
    named = sym group_text ∙ text_of-slice_get names group.name text at

    pub group_known : Contains acts.groups text
    group_known = let C : Text → Type 0 = Contains acts.groups in subst C named can.known

    abbrev tests_of : Text → GuardTree PortName
    tests_of t = any_of (testing 0 plan (is_set start_name) (GroupNamed t))

    abbrev acts_of : (enabled done : Text) → GuardTree PortName
    acts_of enabled done = both (any_of (enabling 0 plan (is_set start_name) (GroupNamed enabled))) (Negates (is_done (GroupNamed done)))

    abbrev acts_by : Bool → GuardTree PortName
    acts_by b = if b then tests_of (text_of source group.name) else acts_of (text_of source group.name) (text_of source group.name)

    -- the guard of a combinational group, and that of any other one
    pub acts_in_tests : group.comb ≡ true → any_of (testing 0 plan (is_set start_name) (GroupNamed text)) ≡ acts_guard plan (group_tree source group)
    acts_in_tests comb = ap tests_of (sym named) ∙ sym (ap acts_by comb)

    pub acts_unless_done : group.comb ≡ false
        → both (any_of (enabling 0 plan (is_set start_name) (GroupNamed text))) (Negates (is_done (GroupNamed (text_of names group.name)))) ≡ acts_guard plan (group_tree source group)
    acts_unless_done other = ap₂ acts_of (sym named) group_text ∙ sym (ap acts_by other)

-- ---- done lines, one after another

module _ (source : List Text) (list : List Piece) where
  -- the pieces with those of these done lines
  abbrev pub dones_shown : List Text → List DoneSet → Pieces → Type 0
  dones_shown names dones pieces = ShowsPieces names (list ++ map done_wire (map (done_tree source) dones)) pieces

  pub dones_next : (before names : List Text) (kept : KeepsTexts source before) (dones : List DoneSet) (k : ℕ) (d : DoneSet) (pieces : Pieces) → slice_get dones k ≡ Some d → IsNumberOf source d.of
      → ShowsPieces names ((list ++ map done_wire (map (done_tree source) (take k dones))) ++ driven Wire (done_name (text_of before d.of)) (done_drive source before kept d) ∷ []) pieces
      → dones_shown names (take (k + 1) dones) pieces
  dones_next before names kept dones k d pieces at known shows =
      let so_far : List Piece = map done_wire (map (done_tree source) (take k dones)) in
      let wire : Text → Piece = λ t. driven Wire (done_name t) (done_drive source before kept d) in
      let P : List Piece → Type 0 = λ l. ShowsPieces names l pieces in
      let same : (list ++ so_far) ++ wire (text_of before d.of) ∷ [] ≡ list ++ map done_wire (map (done_tree source) (take (k + 1) dones)) =
      append_assoc list so_far (wire (text_of before d.of) ∷ [])
      ∙ ap (λ (t : Text). list ++ (so_far ++ wire t ∷ [])) (text_of-KeepsTexts source before d.of kept known)
      ∙ ap (λ (l : List Piece). list ++ l)
      (sym (map-append done_wire (map (done_tree source) (take k dones)) (done_tree source d ∷ [])) ∙ ap (map done_wire) (sym (map_next (done_tree source) dones k d at))) in
      subst P same shows

-- ---- groups, one after another

module _ (source : List Text) (plan : Plan) (list : List Piece) where
  -- the wire that a group acts, and then those of its done lines
  pub group_whole : (names : List Text) (group : Group) (text : Text) (pieces : Pieces) → text ≡ text_of source group.name
      → ShowsPieces names ((list ++ driven Wire (acts_name text) (one_when (acts_guard plan (group_tree source group))) ∷ []) ++ map done_wire (map (done_tree source) group.dones.items)) pieces
      → ShowsPieces names (list ++ group_pieces plan (group_tree source group)) pieces
  group_whole names group text pieces named shows =
      let dones : List Piece = map done_wire (map (done_tree source) group.dones.items) in
      let wire : Text → Piece = λ t. driven Wire (acts_name t) (one_when (acts_guard plan (group_tree source group))) in
      let P : List Piece → Type 0 = λ l. ShowsPieces names l pieces in
      subst P (append_assoc list (wire text ∷ []) dones ∙ ap (λ (t : Text). list ++ (wire t ∷ dones)) named) shows

  pub groups_next : (names : List Text) (groups : List Group) (k : ℕ) (group : Group) (pieces : Pieces) → slice_get groups k ≡ Some group
      → ShowsPieces names ((list ++ flat_map (group_pieces plan) (map (group_tree source) (take k groups))) ++ group_pieces plan (group_tree source group)) pieces
      → ShowsPieces names (list ++ flat_map (group_pieces plan) (map (group_tree source) (take (k + 1) groups))) pieces
  groups_next names groups k group pieces at shows =
      let trees : List GroupDef = map (group_tree source) (take k groups) in
      let g : GroupDef = group_tree source group in
      let P : List Piece → Type 0 = λ l. ShowsPieces names l pieces in
      let more : flat_map (group_pieces plan) (trees ++ g ∷ []) ≡ flat_map (group_pieces plan) trees ++ group_pieces plan g =
      flat_map-append (group_pieces plan) trees (g ∷ []) ∙ ap (λ (l : List Piece). flat_map (group_pieces plan) trees ++ l) (append-nil (group_pieces plan g)) in
      subst P
      (append_assoc list (flat_map (group_pieces plan) trees) (group_pieces plan g)
      ∙ ap (λ (l : List Piece). list ++ l) (sym more ∙ ap (flat_map (group_pieces plan)) (sym (map_next (group_tree source) groups k group at))))
      shows
