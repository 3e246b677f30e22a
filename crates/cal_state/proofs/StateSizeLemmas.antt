-- How many states statements take, as far as a list is gone over.
use Rattle.std.proofs.Common.{◌≡◌, ℕ, ◌+◌, Bool, true, false, List, [], ◌∷◌, length, refl, sym, ap, ◌∙◌, Vec, Global, arith, Option}
use Rattle.std.proofs.lemmas.Bool.{cond-true, cond-false}
use Rattle.std.specs.Global.{Box}
use Rattle.hw_names.specs.Name.{Text}
use Rattle.hw_names.specs.declared.names.NameId.{NameId}
use Rattle.cal_ast.specs.Items.{statements_in, unless_empty}
use Rattle.cal_ast.specs.Plan.{Plan, InTurn, AtOnce, plan_at}
use Rattle.cal_ast.specs.Tree.{statement_tree}
use Rattle.cal_ast.specs.declared.tree.CalPort.{CalPort}
use Rattle.cal_ast.specs.declared.tree.Control.{Control}
use Rattle.cal_ast.specs.declared.tree.Control.TheVariants as controls
use Rattle.cal_walk.specs.Left.{is_over}
use Rattle.cal_lower.proofs.SizeLemmas.{item_after, plan, plan_par, plan_seq, plans, plans_end, plans_next}
use Rattle.cal_state.specs.inside.Threads.{lasting_states, states, states_in}

pub states_over : (p : Plan) → is_over p ≡ true → lasting_states p ≡ 0
states_over p over = cond-true (is_over p) 0 (states p) over

states_lasting : (p : Plan) → is_over p ≡ false → lasting_states p ≡ states p
states_lasting p more = cond-false (is_over p) 0 (states p) more

pub states_seq : (names : List Text) (item : ℕ) (control : Control) (v : Vec Control Global) (items : List Control) → control ≡ controls.Seq v → items ≡ v.items
    → is_over (plan names item control) ≡ false → lasting_states (plan names item control) ≡ states_in (plans names (item + 1) items) + 1
states_seq names item control v items is same more =
    states_lasting (plan names item control) more ∙ ap states (plan_seq names item control v items is same)

pub states_par : (names : List Text) (item : ℕ) (control : Control) (v : Vec Control Global) → control ≡ controls.Par v
    → is_over (plan names item control) ≡ false → lasting_states (plan names item control) ≡ 1
states_par names item control v is more = states_lasting (plan names item control) more ∙ ap states (plan_par names item control v v.items is refl)

pub states_if : (names : List Text) (item : ℕ) (control : Control) (port : CalPort) (by : Option NameId) (on off : Box Control) → control ≡ controls.If port by on off
    → (other : ℕ) × (lasting_states (plan names item control) ≡ lasting_states (plan names (item + 1) on.value) + lasting_states (plan names other off.value) + 1)
states_if names item control port by on off is =
    let tree = statement_tree names on.value in
    (item + 1 + length (unless_empty tree (statements_in tree)), ap (λ (s : Control). lasting_states (plan names item s)) is)

pub states_while : (names : List Text) (item : ℕ) (control : Control) (port : CalPort) (by : Option NameId) (body : Box Control) → control ≡ controls.While port by body
    → lasting_states (plan names item control) ≡ lasting_states (plan names (item + 1) body.value) + 1
states_while names item control port by body is = ap (λ (s : Control). lasting_states (plan names item s)) is

-- the state after the whole is the state after the rest, which begins with this one
abbrev pub StatesTo : List Text → ℕ → List Control → ℕ → List Control → Type 0
StatesTo names state whole next rest = (item : ℕ) → (later : ℕ) × (state + states_in (plans names item whole) ≡ next + states_in (plans names later rest))

pub states_start : (names : List Text) (state : ℕ) (ss rest : List Control) → rest ≡ ss → StatesTo names state ss state rest
states_start names state ss rest is item = (item, ap (λ (l : List Control). state + states_in (plans names item l)) (sym is))

pub states_next : (names : List Text) (state next after : ℕ) (whole rest others : List Control) (s : Control) → rest ≡ s ∷ others
    → ((item : ℕ) → after ≡ next + lasting_states (plan names item s)) → StatesTo names state whole next rest → StatesTo names state whole after others
states_next names state next after whole rest others s is counted so_far item =
    let (at, same) = so_far item in
    let cut = ap states_in (plans_next names at rest others s is) in
    let here = counted at in
    (item_after names at s, omega (arith, same, cut, here))

pub states_end : (names : List Text) (state item next : ℕ) (whole rest : List Control) → rest ≡ [] → StatesTo names state whole next rest → next ≡ state + states_in (plans names item whole)
states_end names state item next whole rest is so_far =
    let (at, same) = so_far item in
    let none = ap states_in (plans_end names at rest is) in
    omega (arith, same, none)
