-- How many numbers statements take, and whether they take a row, as far as a list is gone over.
use Rattle.std.proofs.Common.{◌≡◌, ℕ, ◌+◌, ◌^◌, ◌<◌, ◌≤◌, Bool, true, false, ◌&&◌, List, [], ◌∷◌, length, map, refl, sym, ap, ◌∙◌, Vec, Global, arith, inl, inr, Option}
use Rattle.std.specs.Prelude.{if◌then◌else◌}
use Rattle.std.proofs.lemmas.Bool.{cases_Bool}
use Rattle.std.specs.Global.{Box}
use Rattle.hw_names.specs.Name.{Text}
use Rattle.hw_names.specs.declared.names.NameId.{NameId}
use Rattle.cal_ast.specs.Items.{statements_in, unless_empty}
use Rattle.cal_ast.specs.Plan.{Plan, Plans, InTurn, AtOnce, NoPlans, MorePlans, plan_at, plans_from, section_plan}
use Rattle.cal_ast.specs.Tree.{control_tree, statement_tree}
use Rattle.cal_ast.specs.declared.tree.CalPort.{CalPort}
use Rattle.cal_ast.specs.declared.tree.Control.{Control}
use Rattle.cal_ast.specs.declared.tree.Control.TheVariants as controls
use Rattle.cal_ast.specs.declared.tree.ControlPart.{ControlPart}
use Rattle.cal_ast.specs.declared.tree.ControlPart.TheVariants as part
use Rattle.cal_token.specs.inside.Tokens.{size, sizes}
use Rattle.cal_walk.specs.Left.{are_over, is_over}
use Rattle.cal_lower.specs.inside.Parts.{last_part}
use Rattle.cal_lower.specs.inside.Statements.{statements_from}
use Rattle.cal_lower.proofs.StatementLemmas.{par_tree, seq_tree}

-- the plans of statements, the first of which is at this item
abbrev pub plans : List Text → ℕ → List Control → Plans
plans names item ss = plans_from item (statements_from (map (statement_tree names) ss))

abbrev pub plan : List Text → ℕ → Control → Plan
plan names item s = plan_at item (statement_tree names s)

-- the item after those of a statement
abbrev pub item_after : List Text → ℕ → Control → ℕ
item_after names item s = item + length (statements_in (statement_tree names s))

pub plans_next : (names : List Text) (item : ℕ) (rest others : List Control) (s : Control) → rest ≡ s ∷ others → plans names item rest ≡ MorePlans (plan names item s) (plans names (item_after names item s) others)
plans_next names item rest others s is = ap (plans names item) is

pub plans_end : (names : List Text) (item : ℕ) (rest : List Control) → rest ≡ [] → plans names item rest ≡ NoPlans
plans_end names item rest is = ap (plans names item) is

-- the plan of a list of statements
pub plan_seq : (names : List Text) (item : ℕ) (control : Control) (v : Vec Control Global) (items : List Control) → control ≡ controls.Seq v → items ≡ v.items
    → plan names item control ≡ InTurn (plans names (item + 1) items)
plan_seq names item control v items is same =
    ap (plan names item) is ∙ ap (plan_at item) (seq_tree names v) ∙ ap (λ (ss : List Control). InTurn (plans names (item + 1) ss)) (sym same)

pub plan_par : (names : List Text) (item : ℕ) (control : Control) (v : Vec Control Global) (items : List Control) → control ≡ controls.Par v → items ≡ v.items
    → plan names item control ≡ AtOnce (plans names (item + 1) items)
plan_par names item control v items is same =
    ap (plan names item) is ∙ ap (plan_at item) (par_tree names v) ∙ ap (λ (ss : List Control). AtOnce (plans names (item + 1) ss)) (sym same)

-- ---- whether a row is taken

-- the rest is over exactly where the whole is
abbrev pub OverSoFar : List Text → List Control → List Control → Type 0
OverSoFar names whole rest = (item : ℕ) → (later : ℕ) × (are_over (plans names item whole) ≡ are_over (plans names later rest))

pub over_start : (names : List Text) (ss rest : List Control) → rest ≡ ss → OverSoFar names ss rest
over_start names ss rest is item = (item, ap (λ (l : List Control). are_over (plans names item l)) (sym is))

pub over_next : (names : List Text) (whole rest others : List Control) (s : Control) → rest ≡ s ∷ others → ((item : ℕ) → is_over (plan names item s) ≡ true) → OverSoFar names whole rest
    → OverSoFar names whole others
over_next names whole rest others s is over so_far item =
    let (at, same) = so_far item in
    (item_after names at s, same ∙ ap are_over (plans_next names at rest others s is) ∙ ap (λ (b : Bool). b && are_over (plans names (item_after names at s) others)) (over at))

pub over_not : (names : List Text) (item : ℕ) (whole rest others : List Control) (s : Control) → rest ≡ s ∷ others → ((item : ℕ) → is_over (plan names item s) ≡ false) → OverSoFar names whole rest
    → are_over (plans names item whole) ≡ false
over_not names item whole rest others s is lasts so_far =
    let (at, same) = so_far item in
    same ∙ ap are_over (plans_next names at rest others s is) ∙ ap (λ (b : Bool). b && are_over (plans names (item_after names at s) others)) (lasts at)

pub over_end : (names : List Text) (item : ℕ) (whole rest : List Control) → rest ≡ [] → OverSoFar names whole rest → are_over (plans names item whole) ≡ true
over_end names item whole rest is so_far = let (at, same) = so_far item in same ∙ ap are_over (plans_end names at rest is)

-- ---- sizes

-- the number after the whole is the number after the rest, which begins with this one
abbrev pub CountsTo : List Text → ℕ → List Control → ℕ → List Control → Type 0
CountsTo names number whole next rest = (item : ℕ) → (later : ℕ) × (number + sizes (plans names item whole) ≡ next + sizes (plans names later rest))

pub counts_start : (names : List Text) (number : ℕ) (ss rest : List Control) → rest ≡ ss → CountsTo names number ss number rest
counts_start names number ss rest is item = (item, ap (λ (l : List Control). number + sizes (plans names item l)) (sym is))

pub counts_next : (names : List Text) (number next after : ℕ) (whole rest others : List Control) (s : Control) → rest ≡ s ∷ others
    → ((item : ℕ) → after ≡ next + size (plan names item s)) → CountsTo names number whole next rest → CountsTo names number whole after others
counts_next names number next after whole rest others s is sized so_far item =
    let (at, same) = so_far item in
    let cut = ap sizes (plans_next names at rest others s is) in
    let here = sized at in
    (item_after names at s, omega (arith, same, cut, here))

pub counts_end : (names : List Text) (number item next : ℕ) (whole rest : List Control) → rest ≡ [] → CountsTo names number whole next rest → next ≡ number + sizes (plans names item whole)
counts_end names number item next whole rest is so_far =
    let (at, same) = so_far item in
    let none = ap sizes (plans_end names at rest is) in
    omega (arith, same, none)

-- ---- the last part that takes a row

-- of plans from k on, after one with this number
abbrev pub last_from : ℕ → ℕ → Plans → ℕ
last_from last k ps = if are_over ps then last else last_part k ps

last_first : (k : ℕ) (ps : Plans) → are_over ps ≡ true → last_part k ps ≡ k
last_first k NoPlans over = refl
last_first k (MorePlans p ps) over = ap (λ (b : Bool). if b then k else last_part (k + size p) ps) (both_over (is_over p) (are_over ps) over)
  where
    both_over : (a b : Bool) → (a && b) ≡ true → b ≡ true
    both_over true b h = h
    both_over false b h = absurd (cc)

pub last_start : (k : ℕ) (ps : Plans) → last_part k ps ≡ last_from k k ps
last_start k ps = elim (cases_Bool (are_over ps)) [
  | inl over ↦ last_first k ps over ∙ sym (ap (λ (b : Bool). if b then k else last_part k ps) over)
  | inr lasts ↦ sym (ap (λ (b : Bool). if b then k else last_part k ps) lasts)
]

pub last_over : (last k : ℕ) (p : Plan) (ps : Plans) → is_over p ≡ true → last_from last k (MorePlans p ps) ≡ last_from last (k + size p) ps
last_over last k p ps over =
    ap (λ (b : Bool). if b && are_over ps then last else (if are_over ps then k else last_part (k + size p) ps)) over ∙ by (are_over ps)
  where
    by : (b : Bool) → (if b then last else (if b then k else last_part (k + size p) ps)) ≡ (if b then last else last_part (k + size p) ps)
    by true = refl
    by false = refl

pub last_lasts : (last k : ℕ) (p : Plan) (ps : Plans) → is_over p ≡ false → last_from last k (MorePlans p ps) ≡ last_from k (k + size p) ps
last_lasts last k p ps lasts = ap (λ (b : Bool). if b && are_over ps then last else (if are_over ps then k else last_part (k + size p) ps)) lasts

-- the last of the whole is the last of the rest, which begins with this number, after one with that
abbrev pub LastSoFar : List Text → ℕ → List Control → ℕ → ℕ → List Control → Type 0
LastSoFar names number whole last next rest = (item : ℕ) → (later : ℕ) × (last_part number (plans names item whole) ≡ last_from last next (plans names later rest))

pub last_begin : (names : List Text) (number : ℕ) (ss rest : List Control) → rest ≡ ss → LastSoFar names number ss number number rest
last_begin names number ss rest is item = (item, last_start number (plans names item ss) ∙ ap (λ (l : List Control). last_from number number (plans names item l)) (sym is))

module _ (names : List Text) (number last next after : ℕ) (whole rest others : List Control) (s : Control) (is : rest ≡ s ∷ others)
    (sized : (item : ℕ) → after ≡ next + size (plan names item s)) where
  pub last_next_over : ((item : ℕ) → is_over (plan names item s) ≡ true) → LastSoFar names number whole last next rest → LastSoFar names number whole last after others
  last_next_over over so_far item =
      let (at, same) = so_far item in
      let p = plan names at s in
      let ps = plans names (item_after names at s) others in
      (item_after names at s, same ∙ ap (last_from last next) (plans_next names at rest others s is) ∙ last_over last next p ps (over at) ∙ ap (λ (k : ℕ). last_from last k ps) (sym (sized at)))

  pub last_next_lasts : ((item : ℕ) → is_over (plan names item s) ≡ false) → LastSoFar names number whole last next rest → LastSoFar names number whole next after others
  last_next_lasts lasts so_far item =
      let (at, same) = so_far item in
      let p = plan names at s in
      let ps = plans names (item_after names at s) others in
      (item_after names at s, same ∙ ap (last_from last next) (plans_next names at rest others s is) ∙ last_lasts last next p ps (lasts at) ∙ ap (λ (k : ℕ). last_from next k ps) (sym (sized at)))

pub last_end : (names : List Text) (number item last next : ℕ) (whole rest : List Control) → rest ≡ [] → LastSoFar names number whole last next rest → last ≡ last_part number (plans names item whole)
last_end names number item last next whole rest is so_far =
    let (at, same) = so_far item in
    sym (same ∙ ap (last_from last next) (plans_end names at rest is))

-- ---- choices and loops

pub size_if : (names : List Text) (item : ℕ) (control : Control) (port : CalPort) (by : Option NameId) (on off : Box Control) → control ≡ controls.If port by on off
    → (other : ℕ) × (size (plan names item control) ≡ size (plan names (item + 1) on.value) + size (plan names other off.value) + 1)
size_if names item control port by on off is =
    let tree = statement_tree names on.value in
    (item + 1 + length (unless_empty tree (statements_in tree)), ap (λ (s : Control). size (plan names item s)) is)

pub size_while : (names : List Text) (item : ℕ) (control : Control) (port : CalPort) (by : Option NameId) (body : Box Control) → control ≡ controls.While port by body
    → size (plan names item control) ≡ size (plan names (item + 1) body.value) + 1
size_while names item control port by body is = ap (λ (s : Control). size (plan names item s)) is

-- ---- the parts of a control section

pub few_body : (names : List Text) (item : ℕ) (control : ControlPart) (s : Control) (n : ℕ) → control ≡ part.Body s → n ≡ 0 + size (plan names item s) → n < 2 ^ 64
    → size (section_plan item (control_tree names control)) ≤ 2 ^ 64
few_body names item control s n is counted small =
    let whole = ap (λ (c : ControlPart). size (section_plan item (control_tree names c))) is in
    omega (arith, whole, counted, small)
