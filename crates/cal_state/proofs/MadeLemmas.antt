-- What is made of threads and their states: cells, guards and assignments; and that it goes on to show them where names are added.
use Rattle.std.proofs.Common.{◌≡◌, ℕ, List, [], ◌∷◌, ◌++◌, map, Option, Some, None, false, codes, refl, sym, ap, ap₂, subst, ◌∙◌, append-nil, Vec, Global}
use Rattle.std.specs.Global.{Box}
use Rattle.std.specs.List.{AllZip}
use Rattle.std.proofs.lemmas.List.{map-append}
use Rattle.hw_names.specs.Name.{KeepsTexts, Text}
use Rattle.hw_names.specs.declared.names.NameId.{NameId}
use Rattle.net_core.specs.Guard.{GuardTree, Compares, guard_tree, source_tree}
use Rattle.net_core.specs.declared.net.Cmp.{Cmp}
use Rattle.net_core.specs.declared.net.Guard.{Guard}
use Rattle.net_core.specs.declared.net.Guard.TheVariants as variants
use Rattle.net_core.specs.declared.net.Src.{Src}
use Rattle.net_core.specs.declared.net.Src.TheVariants.{Lit, Port}
use Rattle.cal_ast.specs.Numbers.{CellHasNumbers, GuardHasNumbers, SetHasNumbers, SourceHasNumbers}
use Rattle.cal_ast.specs.Tree.{PortName, port_of, port_tree, assignment_tree, cell_tree}
use Rattle.cal_ast.specs.declared.tree.Assign.{Assign}
use Rattle.cal_ast.specs.declared.tree.CalCell.{CalCell}
use Rattle.cal_ast.specs.declared.tree.CalPort.{CalPort}
use Rattle.cal_lower.specs.inside.Pieces.{shown}
use Rattle.cal_lower.specs.inside.Shown.{Shows, ShowAll, ShowsGuard, ShowsGuards, ShowsName, ShowsPort, seen_guard}
use Rattle.cal_lower.proofs.GrownLemmas.{name_number, name_text, show_all_kept, show_none, show_one, show_push}
use Rattle.cal_state.specs.inside.Making.{AreTexts, ShowsPlace, ShowsPlaces, ShowsRegisters, ShowsState, ShowsThread, ShowsWhen, Walk, one_place, with_walk}
use Rattle.cal_state.specs.inside.States.{is_on, thread_cell, thread_enable, thread_name, width_of}
use Rattle.cal_state.specs.inside.Threads.{Thread, State, Place, NoState, IsIn}
use Rattle.cal_state.specs.declared.places.Places.{Places}
use Rattle.cal_state.specs.declared.places.Registers.{Registers}
use Rattle.cal_state.specs.declared.threads.State as state
use Rattle.cal_state.specs.declared.threads.Texts.{Texts}
use Rattle.cal_state.specs.declared.threads.Thread as thread

-- ---- names are added

module _ (old new : List Text) (kept : KeepsTexts old new) where
  pub texts_kept : (texts : Texts) → AreTexts old texts → AreTexts new texts
  texts_kept texts are = record {
    wire = kept _ _ are.wire;
    register = kept _ _ are.register;
    input = kept _ _ are.input;
    enable = kept _ _ are.enable;
    output = kept _ _ are.output;
    over = kept _ _ are.over;
  }

  pub thread_kept : (tree : Thread) (made : thread.Thread) → ShowsThread old tree made → ShowsThread new tree made
  thread_kept tree made shows = record { register = kept _ _ shows.register; width = shows.width }

  pub state_kept : (tree : State) (made : state.State) → ShowsState old tree made → ShowsState new tree made
  state_kept tree made shows = record { thread = thread_kept tree.thread made.thread shows.thread; number = shows.number }

  place_kept : (x : Place) (m : Option state.State) → ShowsPlace old x m → ShowsPlace new x m
  place_kept NoState None shows = tt
  place_kept NoState (Some made) shows = absurd shows
  place_kept (IsIn token tree) None shows = absurd shows
  place_kept (IsIn token tree) (Some made) shows = state_kept tree made shows

  places_kept : (xs : List Place) (ms : List (Option state.State)) → AllZip (ShowsPlace old) xs ms → AllZip (ShowsPlace new) xs ms
  places_kept [] [] shows = shows
  places_kept [] (m ∷ ms) shows = absurd shows
  places_kept (x ∷ xs) [] shows = absurd shows
  places_kept (x ∷ xs) (m ∷ ms) shows = (place_kept x m shows.0, places_kept xs ms shows.1)

  pub registers_kept : (trees : List Thread) (made : Registers) → ShowsRegisters old trees made → ShowsRegisters new trees made
  registers_kept trees made shows = record {
    texts = texts_kept made.texts shows.texts;
    cells = show_all_kept CellHasNumbers cell_tree old new _ _ kept shows.cells;
    on = show_all_kept GuardHasNumbers seen_guard old new _ _ kept shows.on;
    enables = show_all_kept SetHasNumbers assignment_tree old new _ _ kept shows.enables;
  }

  pub walk_kept : (walk : Walk) (made : Places) → ShowsPlaces old walk made → ShowsPlaces new walk made
  walk_kept walk made shows = record {
    registers = registers_kept walk.threads made.registers shows.registers;
    pieces = places_kept walk.places made.pieces.items shows.pieces;
  }

-- ---- cells, guards and assignments

module _ (names : List Text) where
  pub register_shown : (tree : Thread) (made : thread.Thread) (texts : Texts) (params : Vec ℕ Global) → AreTexts names texts → ShowsThread names tree made
      → params.items ≡ made.width ∷ []
      → Shows CellHasNumbers cell_tree names (thread_cell tree) (record { name = made.register; made = texts.register; params = params; external = false })
  register_shown tree made texts params are shows is = record {
    tree = λ later more.
        ap₂ (λ (n m : Text). record { name = n; made = m; params = params.items; external = false })
        (name_text later (thread_name tree) made.register (more _ _ shows.register)) (name_text later (codes "std_reg") texts.register (more _ _ are.register))
        ∙ ap (λ (ps : List ℕ). record { name = thread_name tree; made = codes "std_reg"; params = ps; external = false }) (is ∙ ap (λ (w : ℕ). w ∷ []) shows.width);
    numbers = λ later more.
        (name_number later (thread_name tree) made.register (more _ _ shows.register), name_number later (codes "std_reg") texts.register (more _ _ are.register));
  }

  pub no_guard : ShowsWhen names None None
  no_guard = record { tree = λ later more. refl; numbers = λ later more. tt }

  pub one_guard : (tree : GuardTree PortName) (made : Guard CalPort) → ShowsGuard names tree made → ShowsWhen names (Some tree) (Some made)
  one_guard tree made shows = record { tree = λ later more. ap Some (shows.tree later more); numbers = λ later more. shows.numbers later more }

  -- a port is driven by a literal
  pub literal_set : (port : PortName) (dst : CalPort) (when : Option (GuardTree PortName)) (guard : Option (Guard CalPort)) (width value w v : ℕ) → ShowsPort names port dst
      → ShowsWhen names when guard → w ≡ width → v ≡ value
      → Shows SetHasNumbers assignment_tree names (record { dst = port; guard = when; src = Lit width value }) (record { dst = dst; guard = guard; src = Lit w v })
  literal_set port dst when guard width value w v port_is when_is w_is v_is = record {
    tree = λ later more.
        ap₂ (λ (p : PortName) (g : Option (GuardTree PortName)). record { dst = p; guard = g; src = Lit w v }) (port_is.tree later more) (when_is.tree later more)
        ∙ ap₂ (λ (a b : ℕ). record { dst = port; guard = when; src = Lit a b }) w_is v_is;
    numbers = λ later more. (port_is.numbers later more, when_is.numbers later more, tt);
  }

  -- a port is compared to a literal
  pub compare_shown : (how : Cmp) (port : PortName) (made : CalPort) (width value w : ℕ) (left right : Box (Src CalPort)) → left.value ≡ Port made → right.value ≡ Lit w value
      → ShowsPort names port made → w ≡ width → ShowsGuard names (Compares how (Port port) (Lit width value)) (variants.Test how left right)
  compare_shown how port made width value w left right left_is right_is port_is w_is = record {
    tree = λ later more.
        let seen : Src CalPort → Src PortName = source_tree (port_tree later) in
        ap₂ (λ (a b : Src CalPort). Compares how (seen a) (seen b)) left_is right_is
        ∙ ap₂ (λ (p : PortName) (a : ℕ). Compares how (Port p) (Lit a value)) (port_is.tree later more) w_is;
    numbers = λ later more.
        let N : Src CalPort → Type 0 = SourceHasNumbers later in
        (subst N (sym left_is) (port_is.numbers later more), subst N (sym right_is) tt);
  }

-- two guards, one after another
pub two_guards : (names : List Text) (one two : GuardTree PortName) (g h : Guard CalPort) (none first second : List (Guard CalPort)) → none ≡ [] → first ≡ none ++ g ∷ []
    → second ≡ first ++ h ∷ [] → ShowsGuard names one g → ShowsGuard names two h → ShowsGuards names (one ∷ two ∷ []) second
two_guards names one two g h none first second e f s is_one is_two =
    let P : List (Guard CalPort) → Type 0 = ShowsGuards names (one ∷ two ∷ []) in
    let items : second ≡ g ∷ h ∷ [] = s ∙ ap (λ (l : List (Guard CalPort)). l ++ h ∷ []) (f ∙ ap (λ (l : List (Guard CalPort)). l ++ g ∷ []) e) in
    subst P (sym items) (show_push GuardHasNumbers seen_guard names (one ∷ []) (g ∷ []) two h (show_one GuardHasNumbers seen_guard names one g is_one) is_two)

-- ---- one more

pub zip_push : {X Y : Type 0} (R : X → Y → Type 0) (xs : List X) (ys : List Y) (x : X) (y : Y) → AllZip R xs ys → R x y → AllZip R (xs ++ x ∷ []) (ys ++ y ∷ [])
zip_push R [] [] x y all here = (here, tt)
zip_push R [] (z ∷ ys) x y all here = absurd all
zip_push R (z ∷ xs) [] x y all here = absurd all
zip_push R (z ∷ xs) (w ∷ ys) x y all here = (all.0, zip_push R xs ys x y all.1 here)

-- a place, after what was made so far
pub place_push : (names : List Text) (walk : Walk) (x : Place) (old new : Places) (m : Option state.State) → ShowsPlaces names walk old → ShowsPlace names x m
    → new.registers ≡ old.registers → new.pieces.items ≡ old.pieces.items ++ m ∷ [] → ShowsPlaces names (with_walk walk (one_place x)) new
place_push names walk x old new m shows here same is =
    let R : Registers → Type 0 = λ r. ShowsRegisters names (walk.threads ++ []) r in
    let T : List Thread → Type 0 = λ ts. ShowsRegisters names ts old.registers in
    let P : List (Option state.State) → Type 0 = λ ms. AllZip (ShowsPlace names) (walk.places ++ x ∷ []) ms in
    record {
      registers = subst R (sym same) (subst T (sym (append-nil walk.threads)) shows.registers);
      pieces = subst P (sym is) (zip_push (ShowsPlace names) walk.places old.pieces.items x m shows.pieces here);
    }

-- one more element of a list that shows what is made of another one
show_more : {X Y Z : Type 0} (Numbered : List Text → X → Type 0) (tree_of : List Text → X → Y) (names : List Text) (f : Z → Y) (zs : List Z) (z : Z) (old new : List X) (x : X)
    → ShowAll Numbered tree_of names (map f zs) old → new ≡ old ++ x ∷ [] → Shows Numbered tree_of names (f z) x → ShowAll Numbered tree_of names (map f (zs ++ z ∷ [])) new
show_more Numbered tree_of names f zs z old new x before is here =
    let P : List _ → Type 0 = ShowAll Numbered tree_of names (map f (zs ++ z ∷ [])) in
    let Q : List _ → Type 0 = λ ys. ShowAll Numbered tree_of names ys (old ++ x ∷ []) in
    subst P (sym is) (subst Q (sym (map-append f zs (z ∷ []))) (show_push Numbered tree_of names (map f zs) old (f z) x before here))

-- another thread
pub registers_push : (names : List Text) (trees : List Thread) (tree : Thread) (old new : Registers) (cell : CalCell) (on : Guard CalPort) (enable : Assign) → ShowsRegisters names trees old
    → new.texts ≡ old.texts → new.cells.items ≡ old.cells.items ++ cell ∷ [] → new.on.items ≡ old.on.items ++ on ∷ [] → new.enables.items ≡ old.enables.items ++ enable ∷ []
    → Shows CellHasNumbers cell_tree names (thread_cell tree) cell → ShowsGuard names (is_on tree) on → Shows SetHasNumbers assignment_tree names (thread_enable tree) enable
    → ShowsRegisters names (trees ++ tree ∷ []) new
registers_push names trees tree old new cell on enable shows texts cells ons enables cell_is on_is enable_is =
    let T : Texts → Type 0 = AreTexts names in
    record {
      texts = subst T (sym texts) shows.texts;
      cells = show_more CellHasNumbers cell_tree names thread_cell trees tree old.cells.items new.cells.items cell shows.cells cells cell_is;
      on = show_more GuardHasNumbers seen_guard names is_on trees tree old.on.items new.on.items on shows.on ons on_is;
      enables = show_more SetHasNumbers assignment_tree names thread_enable trees tree old.enables.items new.enables.items enable shows.enables enables enable_is;
    }

-- no thread
pub no_registers : (names : List Text) (made : Registers) → AreTexts names made.texts → made.cells.items ≡ [] → made.on.items ≡ [] → made.enables.items ≡ [] → ShowsRegisters names [] made
no_registers names made are cells on enables =
    let C : List CalCell → Type 0 = ShowAll CellHasNumbers cell_tree names [] in
    let G : List (Guard CalPort) → Type 0 = ShowAll GuardHasNumbers seen_guard names [] in
    let E : List Assign → Type 0 = ShowAll SetHasNumbers assignment_tree names [] in
    record {
      texts = are;
      cells = subst C (sym cells) (show_none CellHasNumbers cell_tree names);
      on = subst G (sym on) (show_none GuardHasNumbers seen_guard names);
      enables = subst E (sym enables) (show_none SetHasNumbers assignment_tree names);
    }

-- the state of a thread
pub state_shown : (names : List Text) (tree : Thread) (number : ℕ) (made : thread.Thread) (s : state.State) → s ≡ record { thread = made; number = number } → ShowsThread names tree made
    → ShowsState names (record { thread = tree; number = number }) s
state_shown names tree number made s is shows =
    let P : state.State → Type 0 = ShowsState names (record { thread = tree; number = number }) in
    subst P (sym is) (record { thread = shows; number = refl })

-- the registers of another thread, after what was made so far
pub thread_push : (names : List Text) (walk : Walk) (tree : Thread) (old new : Places) → ShowsPlaces names walk old → ShowsRegisters names (walk.threads ++ tree ∷ []) new.registers
    → new.pieces ≡ old.pieces → ShowsPlaces names (with_walk walk (record { threads = tree ∷ []; places = [] })) new
thread_push names walk tree old new shows registers same =
    let P : List Place → Type 0 = λ xs. AllZip (ShowsPlace names) xs new.pieces.items in
    let V : Vec (Option state.State) Global → Type 0 = λ v. AllZip (ShowsPlace names) walk.places v.items in
    record {
      registers = registers;
      pieces = subst P (sym (append-nil walk.places)) (subst V (sym same) shows.pieces);
    }
