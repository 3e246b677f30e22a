-- Pieces and guards gathered one after another, under names that are added meanwhile.
use Rattle.std.proofs.Common.{◌≡◌, ℕ, ◌+◌, Bool, true, false, List, [], ◌∷◌, ◌++◌, Option, Some, None, refl, sym, ap, ap₂, subst, ◌∙◌, append_assoc}
use Rattle.std.specs.Prelude.{if◌then◌else◌, bytes_eq}
use Rattle.std.proofs.lemmas.List.{append-nil}
use Rattle.hw_names.specs.Name.{KeepsTexts, Text}
use Rattle.net_core.specs.Guard.{GuardTree}
use Rattle.net_core.specs.declared.net.Guard.{Guard}
use Rattle.cal_ast.specs.Actors.{Actor, GroupNamed}
use Rattle.cal_ast.specs.Numbers.{GuardHasNumbers, PortHasNumbers}
use Rattle.cal_ast.specs.Plan.{Plan, Chooses, Enables, Repeats}
use Rattle.cal_ast.specs.Tree.{PortName, port_tree}
use Rattle.cal_ast.specs.declared.tree.CalPort.{CalPort}
use Rattle.cal_token.specs.inside.Tokens.{Again, Going, size}
use Rattle.cal_walk.specs.Left.{is_over}
use Rattle.cal_lower.specs.inside.Making.{Made, ShowsParts, loop_made, part_made, tests_group, with_made}
use Rattle.cal_lower.specs.inside.Parts.{again_guard, chooses_nothing, ends_guard, ends_wire, none_if_over, part_ends, part_pieces, tested_guard}
use Rattle.cal_lower.specs.inside.Pieces.{Piece, Register, any_of, both, either, has_token, piece, reads, token_name}
use Rattle.cal_lower.specs.inside.Shown.{Guards, ShowsActs, ShowsGuard, ShowsGuards, ShowsPieces, ShowsPort, ShowsWanted, more_of, nothing, seen_guard}
use Rattle.cal_lower.specs.declared.acts.Acts.{Acts}
use Rattle.cal_lower.specs.declared.pieces.Pieces.{Pieces}
use Rattle.cal_lower.proofs.GrownLemmas.{show_all_kept, show_push, shows_kept}
use Rattle.cal_lower.proofs.MakingLemmas.{Alike, enable_alike, more_is, shows_alike}

-- ---- names are added

module _ (old new : List Text) (kept : KeepsTexts old new) where
  pub port_later : (tree : PortName) (p : CalPort) → ShowsPort old tree p → ShowsPort new tree p
  port_later tree p shows = shows_kept PortHasNumbers port_tree old new tree p kept shows

  pub guard_later : (tree : GuardTree PortName) (g : Guard CalPort) → ShowsGuard old tree g → ShowsGuard new tree g
  guard_later tree g shows = shows_kept GuardHasNumbers seen_guard old new tree g kept shows

  -- a guard is put last
  pub guard_more : (trees : List (GuardTree PortName)) (items more : List (Guard CalPort)) (tree : GuardTree PortName) (g : Guard CalPort) → more ≡ items ++ g ∷ []
      → ShowsGuard new tree g → ShowsGuards old trees items → ShowsGuards new (trees ++ tree ∷ []) more
  guard_more trees items more tree g is here before =
      let P : List (Guard CalPort) → Type 0 = ShowsGuards new (trees ++ tree ∷ []) in
      subst P (sym is) (show_push GuardHasNumbers seen_guard new trees items tree g (show_all_kept GuardHasNumbers seen_guard old new trees items kept before) here)

-- ---- guards for groups

-- the same guards for each group
pub tested_same : (names : List Text) (enabled tested others : Guards) (acts : Acts) → ((group : Text) → tested group ≡ others group) → ShowsActs names enabled tested acts
    → ShowsActs names enabled others acts
tested_same names enabled tested others acts same shows = record {
  at = λ n group there.
      let (w, is, shown) = shows.at n group there in
      let T : List (GuardTree PortName) → Type 0 = λ l. ShowsWanted names (enabled group) l w in
      (w, is, subst T (same group) shown);
}

-- a test in which no group acts, and one in which this one does
pub no_test : (names : List Text) (enabled tested : Guards) (tree : GuardTree PortName) (acts : Acts) → ShowsActs names enabled tested acts
    → ShowsActs names enabled (λ group. tested group ++ tests_group None tree group) acts
no_test names enabled tested tree acts shows = tested_same names enabled tested (λ group. tested group ++ tests_group None tree group) acts (λ group. sym (append-nil (tested group))) shows

pub one_test : (names : List Text) (enabled tested : Guards) (tree : GuardTree PortName) (name : Text) (acts : Acts) → ShowsActs names enabled (more_of tested name tree) acts
    → ShowsActs names enabled (λ group. tested group ++ tests_group (Some (GroupNamed name)) tree group) acts
one_test names enabled tested tree name acts shows =
    tested_same names enabled (more_of tested name tree) (λ group. tested group ++ tests_group (Some (GroupNamed name)) tree group) acts
    (λ group. more_is (bytes_eq name group) (tested group) tree) shows

-- ---- what a part makes itself

module _ (names : List Text) (a : Made) (pieces : Pieces) (acts : Acts) where
  -- pieces, and the guard of a test
  pub own_shown : (list : List Piece) (by : Option Actor) (tree : GuardTree PortName) → ShowsPieces names (a.pieces ++ list) pieces
      → ShowsActs names a.enabled (λ group. a.tested group ++ tests_group by tree group) acts
      → ShowsParts names (with_made a (record { pieces = list; enabled = nothing; tested = tests_group by tree })) (record { pieces = pieces; acts = acts })
  own_shown list by tree pieces_are acts_are =
      let first : Made = record { pieces = a.pieces ++ list; enabled = a.enabled; tested = λ group. a.tested group ++ tests_group by tree group } in
      let whole : Made = with_made a (record { pieces = list; enabled = nothing; tested = tests_group by tree }) in
      let alike : Alike first whole = record { pieces = refl; enabled = λ group. sym (append-nil (a.enabled group)); tested = λ group. refl } in
      shows_alike names first whole (record { pieces = pieces; acts = acts }) alike (record { pieces = pieces_are; acts = acts_are })

  -- an enabled group
  pub enable_shown : (k : ℕ) (start : GuardTree PortName) (name : Text) (ends going : Piece) → ends ∷ going ∷ [] ≡ part_pieces k (Enables (GroupNamed name)) start
      → ShowsPieces names ((a.pieces ++ ends ∷ []) ++ going ∷ []) pieces → ShowsActs names (more_of a.enabled name (either start (has_token (Going k)))) a.tested acts
      → ShowsParts names (with_made a (part_made k (Enables (GroupNamed name)) start)) (record { pieces = pieces; acts = acts })
  enable_shown k start name ends going is pieces_are acts_are =
      let first : Made = record { pieces = (a.pieces ++ ends ∷ []) ++ going ∷ []; enabled = more_of a.enabled name (either start (has_token (Going k))); tested = a.tested } in
      shows_alike names first (with_made a (part_made k (Enables (GroupNamed name)) start)) (record { pieces = pieces; acts = acts }) (enable_alike a k start name ends going is)
      (record { pieces = pieces_are; acts = acts_are })

  -- a loop, without its body
  pub loop_shown : (k : ℕ) (port : PortName) (by : Option Actor) (body : Plan) (start : GuardTree PortName)
      → ShowsPieces names ((a.pieces ++ ends_wire k (Repeats port by body) start ∷ []) ++ piece Register (token_name (Again k)) (again_guard k port body start) ∷ []) pieces
      → ShowsActs names a.enabled (λ group. a.tested group ++ tests_group by (tested_guard k start) group) acts
      → ShowsParts names (with_made a (loop_made k port by body start)) (record { pieces = pieces; acts = acts })
  loop_shown k port by body start pieces_are acts_are =
      let ends = ends_wire k (Repeats port by body) start in
      let again = piece Register (token_name (Again k)) (again_guard k port body start) in
      let P : List Piece → Type 0 = λ l. ShowsPieces names l pieces in
      own_shown (ends ∷ again ∷ []) by (tested_guard k start) (subst P (append_assoc a.pieces (ends ∷ []) (again ∷ [])) pieces_are) acts_are

-- ---- where choices and loops end

-- the guards that a choice ends, whose branches have these numbers
pub choice_guard : (k : ℕ) (port : PortName) (by : Option Actor) (on off : Plan) (start : GuardTree PortName) (on_over off_over : Bool) (m n : ℕ)
    → on_over ≡ is_over on → off_over ≡ is_over off → m ≡ k + 1 → n ≡ k + 1 + size on
    → any_of (chooses_nothing start port on_over off_over ++ none_if_over on (part_ends m ∷ []) ++ none_if_over off (part_ends n ∷ [])) ≡ ends_guard k (Chooses port by on off) start
choice_guard k port by on off start on_over off_over m n on_is off_is m_is n_is =
    ap₂ (λ (a b : Bool). any_of (chooses_nothing start port a b ++ none_if_over on (part_ends m ∷ []) ++ none_if_over off (part_ends n ∷ []))) on_is off_is
    ∙ ap₂ (λ (i j : ℕ). any_of (chooses_nothing start port (is_over on) (is_over off) ++ none_if_over on (part_ends i ∷ []) ++ none_if_over off (part_ends j ∷ []))) m_is n_is

-- where a loop is tested again, by whether its body takes a row
module _ (k : ℕ) (port : PortName) (body : Plan) (start : GuardTree PortName) where
  pub again_over : is_over body ≡ true → both (tested_guard k start) (reads port) ≡ again_guard k port body start
  again_over over = sym (ap (λ (b : Bool). if b then both (tested_guard k start) (reads port) else part_ends (k + 1)) over)

  pub again_lasts : is_over body ≡ false → part_ends (k + 1) ≡ again_guard k port body start
  again_lasts lasts = sym (ap (λ (b : Bool). if b then both (tested_guard k start) (reads port) else part_ends (k + 1)) lasts)
