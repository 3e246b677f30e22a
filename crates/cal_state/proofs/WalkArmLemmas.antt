-- The arms of a statement: what is made of it, by its form.
use Rattle.std.proofs.Common.{◌≡◌, ℕ, ◌+◌, Bool, true, false, ◌||◌, not, List, length, Option, option_map, refl, sym, ap, ap₂, ◌∙◌}
use Rattle.std.specs.Global.{Box}
use Rattle.hw_names.specs.Name.{Text, text_of}
use Rattle.hw_names.specs.declared.names.NameId.{NameId}
use Rattle.cal_ast.specs.Actors.{GroupNamed}
use Rattle.cal_ast.specs.Items.{statements_in, unless_empty}
use Rattle.cal_ast.specs.Plan.{Plan}
use Rattle.cal_ast.specs.Tree.{port_tree, statement_tree}
use Rattle.cal_ast.specs.declared.tree.CalPort.{CalPort}
use Rattle.cal_ast.specs.declared.tree.Control.{Control}
use Rattle.cal_ast.specs.declared.tree.Control.TheVariants as controls
use Rattle.cal_token.specs.inside.Tokens.{Again, size}
use Rattle.cal_walk.specs.Left.{is_over}
use Rattle.cal_lower.proofs.SizeLemmas.{plan}
use Rattle.cal_state.specs.inside.Making.{Walk, one_place, part_walk, turn_walk, with_walk}
use Rattle.cal_state.specs.inside.Threads.{NoState, Thread, lasting_states, place_in}
use Rattle.cal_state.specs.declared.places.Entry.{Entry}
use Rattle.cal_state.specs.declared.threads.Thread as code
use Rattle.cal_state.proofs.WalkLemmas.{chooses_arm, repeats_arm}

-- the item of the other branch of a choice
abbrev pub other_item : List Text → ℕ → Control → ℕ
other_item source item on = item + 1 + length (unless_empty (statement_tree source on) (statements_in (statement_tree source on)))

-- the part inside another one, and the one after it
abbrev pub inner_entry : code.Thread → ℕ → ℕ → Entry
inner_entry made n k = record { thread = made; state = n + 1; number = k + 1; later = true }

abbrev pub entry_after : Entry → Plan → Entry
entry_after e p = record { thread = e.thread; state = e.state + lasting_states p; number = e.number + size p; later = e.later || not (is_over p) }

module _ (source : List Text) (item : ℕ) (control : Control) (walk : Walk) (thread : Thread) (made : code.Thread) (n k : ℕ) where
  abbrev with_ends : Walk
  with_ends = with_walk walk (one_place NoState)

  abbrev turn_at : Entry → Plan → Walk
  turn_at e p = turn_walk e.later thread e.state e.number p

  pub if_walk : (port : CalPort) (by : Option NameId) (yes_box no_box : Box Control) → control ≡ controls.If port by yes_box no_box
      → (e f : Entry) (s r u : Control) → s ≡ yes_box.value → r ≡ no_box.value → u ≡ yes_box.value → e ≡ inner_entry made n k → f ≡ entry_after e (plan source (item + 1) u)
      → with_walk (with_walk with_ends (turn_at e (plan source (item + 1) s))) (turn_at f (plan source (other_item source item yes_box.value) r))
      ≡ with_walk walk (part_walk thread n k (plan source item control))
  if_walk port by yes_box no_box is e f s r u s_is r_is u_is e_is f_is =
      let other = other_item source item yes_box.value in
      let on = plan source (item + 1) yes_box.value in
      let off = plan source other no_box.value in
      let first = inner_entry made n k in
      let whole : Entry → Plan → Entry → Plan → Walk = λ x a y b. with_walk (with_walk with_ends (turn_at x a)) (turn_at y b) in
      let after : f ≡ entry_after first on = f_is ∙ ap₂ (λ (x : Entry) (c : Control). entry_after x (plan source (item + 1) c)) e_is u_is in
      ap₂ (λ (x : Entry) (c : Control). whole x (plan source (item + 1) c) f (plan source other r)) e_is s_is
      ∙ ap₂ (λ (y : Entry) (c : Control). whole first on y (plan source other c)) after r_is
      ∙ chooses_arm walk thread n k (plan source item control) (port_tree source port) (option_map GroupNamed (option_map (text_of source) by)) on off (ap (plan source item) is)

  pub while_walk : (port : CalPort) (by : Option NameId) (box : Box Control) → control ≡ controls.While port by box → (e : Entry) (s : Control) → s ≡ box.value
      → e ≡ inner_entry made n k
      → with_walk (with_walk with_ends (one_place (place_in (Again k) thread n))) (turn_at e (plan source (item + 1) s)) ≡ with_walk walk (part_walk thread n k (plan source item control))
  while_walk port by box is e s s_is e_is =
      let body = plan source (item + 1) box.value in
      let whole : Entry → Plan → Walk = λ x a. with_walk (with_walk with_ends (one_place (place_in (Again k) thread n))) (turn_at x a) in
      ap₂ (λ (x : Entry) (c : Control). whole x (plan source (item + 1) c)) e_is s_is
      ∙ repeats_arm walk thread n k (plan source item control) (port_tree source port) (option_map GroupNamed (option_map (text_of source) by)) body (ap (plan source item) is)
