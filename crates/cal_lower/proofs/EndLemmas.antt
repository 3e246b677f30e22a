-- Guards that parts end, one part after another.
use Rattle.std.proofs.Common.{◌≡◌, ℕ, ◌+◌, Bool, true, false, List, [], ◌∷◌, ◌++◌, refl, sym, ap, subst, ◌∙◌, append_assoc}
use Rattle.std.specs.Prelude.{if◌then◌else◌}
use Rattle.std.proofs.lemmas.List.{append-nil}
use Rattle.hw_names.specs.Name.{Text}
use Rattle.net_core.specs.Guard.{GuardTree}
use Rattle.net_core.specs.declared.net.Guard.{Guard}
use Rattle.cal_ast.specs.Plan.{Plan}
use Rattle.cal_ast.specs.Tree.{PortName}
use Rattle.cal_ast.specs.declared.tree.CalPort.{CalPort}
use Rattle.cal_ast.specs.declared.tree.Control.{Control}
use Rattle.cal_token.specs.inside.Tokens.{Ended, size}
use Rattle.cal_walk.specs.Left.{is_over}
use Rattle.cal_lower.specs.inside.Parts.{ended_guards, none_if_over, part_ends}
use Rattle.cal_lower.specs.inside.Pieces.{either, has_token}
use Rattle.cal_lower.specs.inside.Shown.{ShowsGuards}
use Rattle.cal_lower.proofs.SizeLemmas.{item_after, plan, plans, plans_end, plans_next}

-- a part that takes no row has no guard, and any other one has its own
module _ (names : List Text) (trees : List (GuardTree PortName)) (guards : List (Guard CalPort)) (p : Plan) (g : GuardTree PortName) where
  pub over_has_none : is_over p ≡ true → ShowsGuards names trees guards → ShowsGuards names (trees ++ none_if_over p (g ∷ [])) guards
  over_has_none over shown =
      let P : List (GuardTree PortName) → Type 0 = λ l. ShowsGuards names l guards in
      subst P (sym (ap (λ (b : Bool). trees ++ (if b then [] else g ∷ [])) over ∙ append-nil trees)) shown

  pub lasting_has_one : is_over p ≡ false → ShowsGuards names (trees ++ g ∷ []) guards → ShowsGuards names (trees ++ none_if_over p (g ∷ [])) guards
  lasting_has_one lasts shown =
      let P : List (GuardTree PortName) → Type 0 = λ l. ShowsGuards names l guards in
      subst P (sym (ap (λ (b : Bool). trees ++ (if b then [] else g ∷ [])) lasts)) shown

abbrev pub has_ended : ℕ → GuardTree PortName
has_ended k = either (part_ends k) (has_token (Ended k))

module _ (source : List Text) (whole : List (GuardTree PortName)) where
  -- these guards so far, and with those of the rest it is the whole
  pub record EndedSoFar (names : List Text) (guards : List (Guard CalPort)) (k : ℕ) (rest : List Control) : Type 0 where
    pub now : List (GuardTree PortName)
    pub item : ℕ
    pub shown : ShowsGuards names now guards
    pub is : now ++ ended_guards k (plans source item rest) ≡ whole

  pub ended_next : (names later_names : List Text) (guards later_guards : List (Guard CalPort)) (k next : ℕ) (rest others : List Control) (s : Control) → rest ≡ s ∷ others
      → ((item : ℕ) → next ≡ k + size (plan source item s))
      → ((trees : List (GuardTree PortName)) (item : ℕ) → ShowsGuards names trees guards → ShowsGuards later_names (trees ++ none_if_over (plan source item s) (has_ended k ∷ [])) later_guards)
      → EndedSoFar names guards k rest → EndedSoFar later_names later_guards next others
  ended_next names later_names guards later_guards k next rest others s is sized more so_far =
      let at = so_far.item in
      let later = item_after source at s in
      let here = none_if_over (plan source at s) (has_ended k ∷ []) in
      record {
        now = so_far.now ++ here;
        item = later;
        shown = more so_far.now at so_far.shown;
        is =
            ap (λ n. (so_far.now ++ here) ++ ended_guards n (plans source later others)) (sized at)
            ∙ append_assoc so_far.now here (ended_guards (k + size (plan source at s)) (plans source later others))
            ∙ ap (λ ps. so_far.now ++ ended_guards k ps) (sym (plans_next source at rest others s is))
            ∙ so_far.is;
      }

  pub ended_end : (names : List Text) (guards : List (Guard CalPort)) (k : ℕ) (rest : List Control) → rest ≡ [] → EndedSoFar names guards k rest → ShowsGuards names whole guards
  ended_end names guards k rest is so_far =
      let P : List (GuardTree PortName) → Type 0 = λ l. ShowsGuards names l guards in
      subst P (sym (append-nil so_far.now) ∙ ap (λ ps. so_far.now ++ ended_guards k ps) (sym (plans_end source so_far.item rest is)) ∙ so_far.is) so_far.shown

pub ended_start : (source : List Text) (names : List Text) (guards : List (Guard CalPort)) (item k : ℕ) (ss rest : List Control) → rest ≡ ss → ShowsGuards names [] guards
    → EndedSoFar source (ended_guards k (plans source item ss)) names guards k rest
ended_start source names guards item k ss rest is shown =
    let P : List Control → Type 0 = EndedSoFar source (ended_guards k (plans source item ss)) names guards k in
    subst P (sym is) (record { now = []; item = item; shown = shown; is = refl })
