-- The arms of a statement: what is made of it, whatever the names are that its ports and groups have by then.
use Rattle.std.proofs.Common.{◌≡◌, ℕ, ◌+◌, List, [], ◌∷◌, length, Option, Some, None, option_map, IfSome, refl, sym, ap, ap₂, subst, ◌∙◌, Vec, Global}
use Rattle.std.specs.Global.{Box}
use Rattle.hw_names.specs.Name.{KeepsTexts, Text, text_of}
use Rattle.hw_names.specs.declared.names.NameId.{NameId}
use Rattle.net_core.specs.Guard.{GuardTree, Negates}
use Rattle.net_core.specs.Numbers.{IsNumberOf}
use Rattle.cal_ast.specs.Actors.{Actor, GroupNamed}
use Rattle.cal_ast.specs.Items.{statements_in, unless_empty}
use Rattle.cal_ast.specs.Plan.{Plan, Enables, InTurn, AtOnce, Chooses, Repeats}
use Rattle.cal_ast.specs.Tree.{PortName, port_tree, statement_tree}
use Rattle.cal_ast.specs.declared.tree.CalPort.{CalPort}
use Rattle.cal_ast.specs.declared.tree.Control.{Control}
use Rattle.cal_ast.specs.declared.tree.Control.TheVariants as controls
use Rattle.cal_token.specs.inside.Tokens.{size}
use Rattle.cal_lower.specs.inside.Making.{Made, ShowsParts, by_group, with_made, part_made, later_made, in_turn_made, at_once_made, choice_made, loop_made}
use Rattle.cal_lower.specs.inside.Parts.{ends_wire, part_ends, tested_guard}
use Rattle.cal_lower.specs.inside.Pieces.{both, reads}
use Rattle.cal_lower.specs.inside.Statements.{CanLower}
use Rattle.cal_lower.specs.declared.made.Parts.{Parts}
use Rattle.cal_lower.proofs.StableLemmas.{by_kept}
use Rattle.cal_lower.proofs.MakingLemmas.{at_once_alike, chooses_alike, in_turn_alike, repeats_alike, shows_alike, with_pieces}
use Rattle.cal_lower.proofs.SizeLemmas.{plan, plan_par, plan_seq, plans}

-- the item of the other branch of a choice
abbrev pub other_item : List Text → ℕ → Control → ℕ
other_item source item on = item + 1 + length (unless_empty (statement_tree source on) (statements_in (statement_tree source on)))

-- the group of a test, by the text that its number has in the source
abbrev pub by_actor : List Text → Option NameId → Option Actor
by_actor source by = option_map GroupNamed (option_map (text_of source) by)

pub by_source : (source names : List Text) (by : Option NameId) → KeepsTexts source names → IfSome by (IsNumberOf source) → by_group names by ≡ by_actor source by
by_source source names by kept known = by_kept source names kept by known ∙ same by
  where
    same : (b : Option NameId) → by_group source b ≡ by_actor source b
    same None = refl
    same (Some id) = refl

module _ (source : List Text) (item : ℕ) (control : Control) (made : Made) (k : ℕ) (start : GuardTree PortName) (names : List Text) (parts : Parts) where
  -- what a statement makes, by its form
  pub of_plan : (p : Plan) → plan source item control ≡ p → ShowsParts names (with_made made (part_made k p start)) parts → ShowsParts names (with_made made (part_made k (plan source item control) start)) parts
  of_plan p is shown = let P : Plan → Type 0 = λ q. ShowsParts names (with_made made (part_made k q start)) parts in subst P (sym is) shown

  -- an enabled group, whose text is kept
  pub enable_arm : (before : List Text) (g : NameId) → control ≡ controls.Enable g → CanLower source before control → text_of before g ≡ text_of source g
      → ShowsParts names (with_made made (part_made k (Enables (GroupNamed (text_of before g))) start)) parts → ShowsParts names (with_made made (part_made k (plan source item control) start)) parts
  enable_arm before g is can text shown =
      of_plan (Enables (GroupNamed (text_of before g)))
      (ap (plan source item) is ∙ ap (λ (t : Text). Enables (GroupNamed t)) (sym text))
      shown

  -- statements in turn, after the wire that tells where they end
  pub seq_arm : (v : Vec Control Global) (items : List Control) → control ≡ controls.Seq v → items ≡ v.items
      → ShowsParts names (with_made (with_pieces made (ends_wire k (InTurn (plans source (item + 1) items)) start ∷ [])) (in_turn_made (k + 1) (plans source (item + 1) items) start)) parts
      → ShowsParts names (with_made made (part_made k (plan source item control) start)) parts
  seq_arm v items is same shown =
      of_plan (InTurn (plans source (item + 1) items)) (plan_seq source item control v items is same)
      (shows_alike names _ _ parts (in_turn_alike made k start (plans source (item + 1) items)) shown)

  -- statements at once
  pub par_arm : (v : Vec Control Global) (items : List Control) → control ≡ controls.Par v → items ≡ v.items
      → ShowsParts names (with_made (with_pieces made (ends_wire k (AtOnce (plans source (item + 1) items)) start ∷ [])) (at_once_made (k + 1) (plans source (item + 1) items) start (part_ends k))) parts
      → ShowsParts names (with_made made (part_made k (plan source item control) start)) parts
  par_arm v items is same shown =
      of_plan (AtOnce (plans source (item + 1) items)) (plan_par source item control v items is same)
      (shows_alike names _ _ parts (at_once_alike made k start (plans source (item + 1) items)) shown)

  -- a choice, then the branch that is taken where its port reads 1, and then the other one
  pub if_arm : (port : CalPort) (by : Option NameId) (yes_box no_box : Box Control) → control ≡ controls.If port by yes_box no_box → (actor : Option Actor) → actor ≡ by_actor source by
      → (m n : ℕ) → m ≡ k + 1 → n ≡ k + 1 + size (plan source (item + 1) yes_box.value)
      → (s u t v : Control) → s ≡ yes_box.value → u ≡ yes_box.value → t ≡ no_box.value → v ≡ no_box.value
      → let p = port_tree source port in
      let other = other_item source item yes_box.value in
      let first = with_made made (choice_made k (Chooses p actor (plan source (item + 1) s) (plan source other t)) actor start) in
      let second = with_made first (later_made m (plan source (item + 1) u) (both start (reads p))) in
      ShowsParts names (with_made second (later_made n (plan source other v) (both start (Negates (reads p))))) parts
      → ShowsParts names (with_made made (part_made k (plan source item control) start)) parts
  if_arm port by yes_box no_box is actor actor_is m n m_is n_is s u t v s_is u_is t_is v_is shown =
      let p = port_tree source port in
      let other = other_item source item yes_box.value in
      let on = plan source (item + 1) yes_box.value in
      let off = plan source other no_box.value in
      let b = by_actor source by in
      let whole : Option Actor → Plan → Plan → ℕ → Plan → ℕ → Plan → Made = λ a x y i z j w.
      with_made (with_made (with_made made (choice_made k (Chooses p a x y) a start)) (later_made i z (both start (reads p)))) (later_made j w (both start (Negates (reads p)))) in
      let same : whole actor (plan source (item + 1) s) (plan source other t) m (plan source (item + 1) u) n (plan source other v) ≡ whole b on off (k + 1) on (k + 1 + size on) off =
      ap (λ (a : Option Actor). whole a (plan source (item + 1) s) (plan source other t) m (plan source (item + 1) u) n (plan source other v)) actor_is
      ∙ ap₂ (λ (x y : Control). whole b (plan source (item + 1) x) (plan source other y) m (plan source (item + 1) u) n (plan source other v)) s_is t_is
      ∙ ap₂ (λ (i j : ℕ). whole b on off i (plan source (item + 1) u) j (plan source other v)) m_is n_is
      ∙ ap₂ (λ (x y : Control). whole b on off (k + 1) (plan source (item + 1) x) (k + 1 + size on) (plan source other y)) u_is v_is in
      let S : Made → Type 0 = λ a. ShowsParts names a parts in
      of_plan (Chooses p b on off) (ap (plan source item) is) (shows_alike names _ _ parts (chooses_alike made k start p b on off) (subst S same shown))

  -- a loop, and then its body
  pub while_arm : (port : CalPort) (by : Option NameId) (box : Box Control) → control ≡ controls.While port by box → (actor : Option Actor) → actor ≡ by_actor source by
      → (m : ℕ) → m ≡ k + 1 → (s u : Control) → s ≡ box.value → u ≡ box.value
      → let p = port_tree source port in
      let first = with_made made (loop_made k p actor (plan source (item + 1) s) start) in
      ShowsParts names (with_made first (later_made m (plan source (item + 1) u) (both (tested_guard k start) (reads p)))) parts
      → ShowsParts names (with_made made (part_made k (plan source item control) start)) parts
  while_arm port by box is actor actor_is m m_is s u s_is u_is shown =
      let p = port_tree source port in
      let body = plan source (item + 1) box.value in
      let b = by_actor source by in
      let next = both (tested_guard k start) (reads p) in
      let whole : Option Actor → Plan → ℕ → Plan → Made = λ a x i y. with_made (with_made made (loop_made k p a x start)) (later_made i y next) in
      let same : whole actor (plan source (item + 1) s) m (plan source (item + 1) u) ≡ whole b body (k + 1) body =
      ap₂ (λ (a : Option Actor) (i : ℕ). whole a (plan source (item + 1) s) i (plan source (item + 1) u)) actor_is m_is
      ∙ ap₂ (λ (x y : Control). whole b (plan source (item + 1) x) (k + 1) (plan source (item + 1) y)) s_is u_is in
      let S : Made → Type 0 = λ a. ShowsParts names a parts in
      of_plan (Repeats p b body) (ap (plan source item) is) (shows_alike names _ _ parts (repeats_alike made k start p b body next refl) (subst S same shown))
