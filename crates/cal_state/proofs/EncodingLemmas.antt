-- Assignments of a lowered component, one after another: those that stay, and those of registers, which become wires and what brings threads to states.
use Rattle.std.proofs.Common.{◌≡◌, ℕ, ◌+◌, List, [], ◌∷◌, ◌++◌, length, map, All, Option, Some, None, refl, sym, ap, ap₂, subst, ◌∙◌, append_assoc, append-nil, codes, Vec, Global, arith}
use Rattle.std.specs.Prelude.{flat_map}
use Rattle.std.specs.List.{AllZip}
use Rattle.std.proofs.lemmas.List.{length-map}
use Rattle.std.proofs.lemmas.List.Elements.{All-head, All-tail}
use Rattle.hw_names.specs.Name.{KeepsTexts, Text}
use Rattle.net_core.specs.Guard.{GuardTree}
use Rattle.net_core.specs.declared.net.Guard.{Guard}
use Rattle.net_core.specs.declared.net.Src.TheVariants.{Lit}
use Rattle.cal_ast.specs.Numbers.{SetHasNumbers}
use Rattle.cal_ast.specs.Tree.{Assignment, PortName, assignment_tree, port_of}
use Rattle.cal_ast.specs.declared.tree.Assign.{Assign}
use Rattle.cal_ast.specs.declared.tree.CalPort.{CalPort}
use Rattle.cal_lower.specs.inside.Pieces.{Kind, Piece, Wire, Register, enables_piece, piece, piece_set, piece_sets}
use Rattle.cal_lower.specs.inside.Shown.{Shows, ShowAll, ShowsGuard, ShowsPort}
use Rattle.cal_lower.proofs.GrownLemmas.{show_append, show_push}
use Rattle.cal_lower.proofs.StableLemmas.{KeepsTexts-refl}
use Rattle.cal_state.specs.inside.Making.{Encoding, HasKind, ShowSets, ShowsEncoding, ShowsWhen}
use Rattle.cal_state.specs.inside.States.{all_next_sets, as_wire, as_wires, next_sets}
use Rattle.cal_state.specs.inside.Threads.{Place, NoState, IsIn}
use Rattle.cal_state.specs.declared.component.Sets.{Sets}
use Rattle.cal_state.proofs.MadeLemmas.{literal_set, one_guard}

-- ---- lists, from their first element on

module _ {X Y : Type 0} (Numbered : List Text → X → Type 0) (tree_of : List Text → X → Y) (names : List Text) where
  pub show_first : (y : Y) (ys : List Y) (x : X) (xs : List X) → ShowAll Numbered tree_of names (y ∷ ys) (x ∷ xs) → Shows Numbered tree_of names y x
  show_first y ys x xs shows = record {
    tree = λ later more. let e : tree_of later x ∷ map (tree_of later) xs ≡ y ∷ ys = shows.trees later more in cc;
    numbers = λ later more. All-head (Numbered later) x xs (shows.numbers later more);
  }

  pub show_rest : (y : Y) (ys : List Y) (x : X) (xs : List X) → ShowAll Numbered tree_of names (y ∷ ys) (x ∷ xs) → ShowAll Numbered tree_of names ys xs
  show_rest y ys x xs shows = record {
    trees = λ later more. let e : tree_of later x ∷ map (tree_of later) xs ≡ y ∷ ys = shows.trees later more in cc;
    numbers = λ later more. All-tail (Numbered later) x xs (shows.numbers later more);
  }

  pub show_some : (y : Y) (ys : List Y) (xs : List X) → ShowAll Numbered tree_of names (y ∷ ys) xs → length xs ≡ 0 → ⊥
  show_some y ys xs shows none =
      let count = ap length (shows.trees names (KeepsTexts-refl names)) in
      omega (arith, count, length-map xs (tree_of names), none)

-- ---- one assignment, or two

module _ (names : List Text) where
  abbrev set_shows : Assignment → Assign → Type 0
  set_shows = Shows SetHasNumbers assignment_tree names

  -- the next stays
  pub stays : (tree : Assignment) (left wires states : List Assignment) (old new : Sets) (set : Assign)
      → ShowsEncoding names (record { left = tree ∷ left; wires = wires; states = states }) old
      → old.left.items ≡ set ∷ new.left.items → new.wires.items ≡ old.wires.items ++ set ∷ [] → new.states ≡ old.states
      → ShowsEncoding names (record { left = left; wires = wires ++ tree ∷ []; states = states }) new
  stays tree left wires states old new set shows cut put same =
      let L : List Assign → Type 0 = ShowSets names (tree ∷ left) in
      let W : List Assign → Type 0 = ShowSets names (wires ++ tree ∷ []) in
      let S : Vec Assign Global → Type 0 = λ v. ShowSets names states v.items in
      let all = subst L cut shows.left in
      record {
        left = show_rest SetHasNumbers assignment_tree names tree left set new.left.items all;
        wires = subst W (sym put) (show_push SetHasNumbers assignment_tree names wires old.wires.items tree set shows.wires (show_first SetHasNumbers assignment_tree names tree left set new.left.items all));
        states = subst S (sym same) shows.states;
      }

  -- there is a next one
  pub some_left : {Z : Type 0} (tree : Assignment) (left wires states : List Assignment) (old : Sets)
      → ShowsEncoding names (record { left = tree ∷ left; wires = wires; states = states }) old → length old.left.items ≡ 0 → Z
  some_left tree left wires states old shows none = absurd (show_some SetHasNumbers assignment_tree names tree left old.left.items shows.left none)

  register_sets : (p : Piece) → p.kind ≡ Register → piece_sets p ≡ piece_set p ∷ record { dst = port_of p.name (codes "write_en"); guard = None; src = Lit 1 1 } ∷ []
  register_sets p is = ap (λ (k : Kind). piece_set p ∷ enables_piece k p.name) is

  pub wire_sets : (p : Piece) → p.kind ≡ Wire → piece_sets p ≡ piece_set p ∷ []
  wire_sets p is = ap (λ (k : Kind). piece_set p ∷ enables_piece k p.name) is

  -- those of a register are the next two
  pub register_left : (p : Piece) (left wires states : List Assignment) (old : Sets) → p.kind ≡ Register
      → ShowsEncoding names (record { left = piece_sets p ++ left; wires = wires; states = states }) old
      → ShowsEncoding names (record { left = piece_set p ∷ record { dst = port_of p.name (codes "write_en"); guard = None; src = Lit 1 1 } ∷ left; wires = wires; states = states }) old
  register_left p left wires states old is shows =
      let P : List Assignment → Type 0 = λ sets. ShowsEncoding names (record { left = sets ++ left; wires = wires; states = states }) old in
      subst P (register_sets p is) shows

  -- it becomes a wire
  pub replaced : (p : Piece) (tree : GuardTree PortName) (left wires states : List Assignment) (old new : Sets) (set enable : Assign) (guard : Guard CalPort) (mid : List Assign)
      → p.kind ≡ Register → ShowsGuard names tree guard → ShowsEncoding names (record { left = piece_sets p ++ left; wires = wires; states = states }) old
      → old.left.items ≡ set ∷ mid → mid ≡ enable ∷ new.left.items
      → new.wires.items ≡ old.wires.items ++ record { dst = set.dst; guard = Some guard; src = Lit 1 1 } ∷ [] → new.states ≡ old.states
      → ShowsWhen names p.guard set.guard × ShowsEncoding names (record { left = left; wires = wires ++ piece_sets (piece Wire p.name tree); states = states }) new
  replaced p tree left wires states old new set enable guard mid is guard_is shows cut cut' put same =
      let here = register_left p left wires states old is shows in
      let one = piece_set p in
      let two : Assignment = record { dst = port_of p.name (codes "write_en"); guard = None; src = Lit 1 1 } in
      let L : List Assign → Type 0 = ShowSets names (one ∷ two ∷ left) in
      let M : List Assign → Type 0 = ShowSets names (two ∷ left) in
      let W : List Assign → Type 0 = ShowSets names (wires ++ piece_sets (piece Wire p.name tree)) in
      let S : Vec Assign Global → Type 0 = λ v. ShowSets names states v.items in
      let all = subst L cut here.left in
      let drives : set_shows one set = show_first SetHasNumbers assignment_tree names one (two ∷ left) set mid all in
      let rest = subst M cut' (show_rest SetHasNumbers assignment_tree names one (two ∷ left) set mid all) in
      let dst : ShowsPort names (port_of p.name (codes "in")) set.dst = record {
        tree = λ later more. ap (λ (a : Assignment). a.dst) (drives.tree later more);
        numbers = λ later more. (drives.numbers later more).0;
      } in
      let when : ShowsWhen names p.guard set.guard = record {
        tree = λ later more. ap (λ (a : Assignment). a.guard) (drives.tree later more);
        numbers = λ later more. (drives.numbers later more).1;
      } in
      let wire = literal_set names (port_of p.name (codes "in")) set.dst (Some tree) (Some guard) 1 1 1 1 dst (one_guard names tree guard guard_is) refl refl in (
        when,
        record {
          left = show_rest SetHasNumbers assignment_tree names two left enable new.left.items rest;
          wires = subst W (sym put) (show_push SetHasNumbers assignment_tree names wires old.wires.items (piece_set (piece Wire p.name tree)) _ shows.wires wire);
          states = subst S (sym same) shows.states;
        },
      )

  -- there are two next ones
  pub two_left : {Z : Type 0} (p : Piece) (left wires states : List Assignment) (old : Sets) (set : Assign) (mid : List Assign) → p.kind ≡ Register
      → ShowsEncoding names (record { left = piece_sets p ++ left; wires = wires; states = states }) old → old.left.items ≡ set ∷ mid → length mid ≡ 0 → Z
  two_left p left wires states old set mid is shows cut none =
      let here = register_left p left wires states old is shows in
      let one = piece_set p in
      let two : Assignment = record { dst = port_of p.name (codes "write_en"); guard = None; src = Lit 1 1 } in
      let L : List Assign → Type 0 = ShowSets names (one ∷ two ∷ left) in
      absurd (show_some SetHasNumbers assignment_tree names two left mid (show_rest SetHasNumbers assignment_tree names one (two ∷ left) set mid (subst L cut here.left)) none)

  -- and what drove it brings a thread to a state
  pub held : (tree : Assignment) (left wires states : List Assignment) (old new : Sets) (set : Assign) → ShowsEncoding names (record { left = left; wires = wires; states = states }) old
      → set_shows tree set → new.left.items ≡ old.left.items → new.wires ≡ old.wires → new.states.items ≡ old.states.items ++ set ∷ []
      → ShowsEncoding names (record { left = left; wires = wires; states = states ++ tree ∷ [] }) new
  held tree left wires states old new set shows here same_left same_wires put =
      let L : List Assign → Type 0 = ShowSets names left in
      let W : Vec Assign Global → Type 0 = λ v. ShowSets names wires v.items in
      let S : List Assign → Type 0 = ShowSets names (states ++ tree ∷ []) in
      record {
        left = subst L (sym same_left) shows.left;
        wires = subst W (sym same_wires) shows.wires;
        states = subst S (sym put) (show_push SetHasNumbers assignment_tree names states old.states.items tree set shows.states here);
      }

  -- all that was made
  pub finished : (tree : Assignment) (wires states more : List Assignment) (old : Sets) (enables one two all rest : List Assign) (set : Assign)
      → ShowsEncoding names (record { left = tree ∷ []; wires = wires; states = states }) old → ShowSets names more enables → one ≡ old.wires.items ++ old.states.items
      → two ≡ one ++ enables → old.left.items ≡ set ∷ rest → all ≡ two ++ set ∷ [] → ShowSets names (wires ++ (states ++ more) ++ tree ∷ []) all
  finished tree wires states more old enables one two all rest set shows others one_is two_is cut all_is =
      let L : List Assign → Type 0 = ShowSets names (tree ∷ []) in
      let last = show_first SetHasNumbers assignment_tree names tree [] set rest (subst L cut shows.left) in
      let w = old.wires.items in
      let s = old.states.items in
      let same : all ≡ (w ++ (s ++ enables)) ++ set ∷ [] =
      all_is ∙ ap (λ (l : List Assign). l ++ set ∷ []) (two_is ∙ ap (λ (l : List Assign). l ++ enables) one_is ∙ append_assoc w s enables) in
      let A : List Assign → Type 0 = ShowSets names (wires ++ (states ++ more) ++ tree ∷ []) in
      let both = show_append SetHasNumbers assignment_tree names states more s enables shows.states others in
      let whole = show_append SetHasNumbers assignment_tree names wires (states ++ more) w (s ++ enables) shows.wires both in
      subst A (sym same) (show_push SetHasNumbers assignment_tree names (wires ++ (states ++ more)) (w ++ (s ++ enables)) tree set whole last)
