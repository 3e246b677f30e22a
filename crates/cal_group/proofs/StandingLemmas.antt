-- Statements with an enable in place of each invoke: each comes from a statement at an item of the component. Invokes, with their items.
use Rattle.std.proofs.Common.{◌≡◌, ◌⊎◌, ℕ, zero, suc, ◌+◌, ◌<◌, ◌≤◌, List, [], ◌∷◌, ◌++◌, length, map, take, Option, Some, refl, ap, ◌∙◌, subst, inl, inr, arith}
use Rattle.std.specs.Prelude.{Contains, option_map, slice_get}
use Rattle.std.proofs.lemmas.List.Elements.{Contains-append_cases}
use Rattle.std.proofs.lemmas.Option.{slice_get-map, same_Some}
use Rattle.hw_names.specs.Name.{Text}
use Rattle.cal_ast.proofs.ListLemmas.{Contains-none, Contains-here, Contains-there, Contains-cases_first, Contains-at}
use Rattle.cal_ast.specs.Invoking.{InvokeDef, invokes_among}
use Rattle.cal_ast.specs.Items.{Item, TheStatement, statements_in, statements_of, unless_empty, control_statements, items_before_control, IsItem}
use Rattle.cal_ast.specs.Tree.{PortName, InBinding, OutBinding, Statement, Enable, Seq, Par, If, While, Invoke, Statements, NoStatements, MoreStatements, ControlSection, Absent, Empty, Body, Component}
use Rattle.cal_group.specs.inside.Expanded.{invoke_name, expanded_at, expanded_from, expanded_section}

-- ---- places in lists

pub get-left : {X : Type 0} (xs ys : List X) (k : ℕ) (x : X) → slice_get xs k ≡ Some x → slice_get (xs ++ ys) k ≡ Some x
get-left [] ys k x at = absurd (cc)
get-left (y ∷ xs) ys zero x at = at
get-left (y ∷ xs) ys (suc k) x at = get-left xs ys k x at

pub get-right : {X : Type 0} (xs ys : List X) (k : ℕ) (x : X) → slice_get ys k ≡ Some x → slice_get (xs ++ ys) (length xs + k) ≡ Some x
get-right [] ys k x at = let e : 0 + k ≡ k = omega arith in ap (slice_get ys) e ∙ at
get-right (y ∷ xs) ys k x at =
    let e : suc (length xs) + k ≡ suc (length xs + k) = omega arith in
    ap (slice_get (y ∷ xs ++ ys)) e ∙ get-right xs ys k x at

-- a place is in the first list, or in the second
pub get-cases : {X : Type 0} (xs ys : List X) (k : ℕ) (x : X) → slice_get (xs ++ ys) k ≡ Some x → (slice_get xs k ≡ Some x) ⊎ ((j : ℕ) × (k ≡ length xs + j) × (slice_get ys j ≡ Some x))
get-cases [] ys k x at = inr (k, omega arith, at)
get-cases (y ∷ xs) ys zero x at = inl at
get-cases (y ∷ xs) ys (suc k) x at =
    elim (get-cases xs ys k x at) [
      | inl first ↦ inl first
      | inr (j, e, later) ↦ inr (j, omega (arith, e), later)
    ]

-- a place within the first k
pub get-take : {X : Type 0} (xs : List X) (k j : ℕ) (x : X) → slice_get (take k xs) j ≡ Some x → (j < k) × (slice_get xs j ≡ Some x)
get-take xs zero j x at = absurd (cc)
get-take [] (suc k) j x at = absurd (cc)
get-take (y ∷ xs) (suc k) zero x at = (omega arith, at)
get-take (y ∷ xs) (suc k) (suc j) x at = let r = get-take xs k j x at in (omega (arith, r.0), r.1)

-- ---- invokes and their items

-- the invoke at an item
pub invoke_at_item : (k : ℕ) (items : List Item) (p : ℕ) (cell : Text) (ins : List InBinding) (outs : List OutBinding) → slice_get items p ≡ Some (TheStatement (Invoke cell ins outs))
    → (i : InvokeDef) × Contains (invokes_among k items) i × (i.item ≡ k + p)
invoke_at_item k [] p cell ins outs at = absurd (cc)
invoke_at_item k (TheStatement (Invoke cell' ins' outs') ∷ items) zero cell ins outs at =
    (record { item = k; cell = cell'; ins = ins'; outs = outs' }, Contains-here (record { item = k; cell = cell'; ins = ins'; outs = outs' }) (invokes_among (k + 1) items), omega arith)
invoke_at_item k (TheStatement (Invoke cell' ins' outs') ∷ items) (suc p) cell ins outs at =
    let i = invoke_at_item (k + 1) items p cell ins outs at in
    (i.0, Contains-there (record { item = k; cell = cell'; ins = ins'; outs = outs' }) (invokes_among (k + 1) items) i.0 i.1, omega (arith, i.2))
invoke_at_item k (item ∷ items) zero cell ins outs at = absurd (cc)
invoke_at_item k (item ∷ items) (suc p) cell ins outs at =
    let i = invoke_at_item (k + 1) items p cell ins outs at in
    (i.0, i.1, omega (arith, i.2))

-- invokes among items that are counted from k have items from k on
items_from : (k : ℕ) (items : List Item) (i : InvokeDef) → Contains (invokes_among k items) i → k ≤ i.item
items_from k [] i has = absurd (Contains-none i has)
items_from k (TheStatement (Invoke cell ins outs) ∷ items) i has =
    elim (Contains-cases_first (record { item = k; cell = cell; ins = ins; outs = outs }) (invokes_among (k + 1) items) i has) [
      | inl same ↦ (let e : k ≡ i.item = ap (λ (x : InvokeDef). x.item) same in omega (arith, e))
      | inr there ↦ omega (arith, items_from (k + 1) items i there)
    ]
items_from k (item ∷ items) i has = omega (arith, items_from (k + 1) items i has)

-- a later invoke has a later item
pub items_rise : (k : ℕ) (items : List Item) (a b : ℕ) (i j : InvokeDef) → a < b → slice_get (invokes_among k items) a ≡ Some i → slice_get (invokes_among k items) b ≡ Some j → i.item < j.item
items_rise k [] a b i j less at_a at_b = absurd (cc)
items_rise k (TheStatement (Invoke cell ins outs) ∷ items) zero zero i j less at_a at_b = absurd (omega arith)
items_rise k (TheStatement (Invoke cell ins outs) ∷ items) (suc a) zero i j less at_a at_b = absurd (omega arith)
items_rise k (TheStatement (Invoke cell ins outs) ∷ items) zero (suc b) i j less at_a at_b =
    let first : k ≡ i.item = ap (λ (x : InvokeDef). x.item) (same_Some (record { item = k; cell = cell; ins = ins; outs = outs }) i at_a) in
    let later = items_from (k + 1) items j (Contains-at (invokes_among (k + 1) items) b j at_b) in
    omega (arith, first, later)
items_rise k (TheStatement (Invoke cell ins outs) ∷ items) (suc a) (suc b) i j less at_a at_b = items_rise (k + 1) items a b i j (omega arith) at_a at_b
items_rise k (item ∷ items) a b i j less at_a at_b = items_rise (k + 1) items a b i j less at_a at_b

-- ---- where expanded statements come from

-- what an expanded statement of the component was
pub data Origin (c : Component) : Statement → Type 0 where
  SameEnable : (k : ℕ) (name : Text) → IsItem c k (TheStatement (Enable name)) → Origin c (Enable name)
  FromInvoke : (k : ℕ) (cell : Text) (ins : List InBinding) (outs : List OutBinding) → IsItem c k (TheStatement (Invoke cell ins outs)) → Origin c (Enable (invoke_name k))
  SameSeq : (ss : Statements) → Origin c (Seq ss)
  SamePar : (ss : Statements) → Origin c (Par ss)
  SameIf : (k : ℕ) (port : PortName) (by : Option Text) (s t on off : Statement) → IsItem c k (TheStatement (If port by s t)) → Origin c (If port by on off)
  SameWhile : (k : ℕ) (port : PortName) (by : Option Text) (s body : Statement) → IsItem c k (TheStatement (While port by s)) → Origin c (While port by body)

in_unless : (s : Statement) (statements : List Statement) (x : Statement) → Contains (unless_empty s statements) x → Contains statements x
in_unless (Seq NoStatements) statements x has = absurd (Contains-none x has)
in_unless s statements x has = has

empty_cases : (s : Statement) (statements : List Statement) → (s ≡ Seq NoStatements) ⊎ (unless_empty s statements ≡ statements)
empty_cases (Seq NoStatements) statements = inl refl
empty_cases s statements = inr refl

module _ (c : Component) where
  -- the statements stand at items from k on
  abbrev pub Stand : ℕ → List Statement → Type 0
  Stand k statements = (p : ℕ) (x : Statement) → slice_get statements p ≡ Some x → IsItem c (k + p) (TheStatement x)

  stand_first : (k : ℕ) (s : Statement) (statements : List Statement) → Stand k (s ∷ statements) → IsItem c k (TheStatement s)
  stand_first k s statements stand = let e : k + 0 ≡ k = omega arith in subst (λ (q : ℕ). IsItem c q (TheStatement s)) e (stand 0 s refl)

  stand_later : (k : ℕ) (s : Statement) (statements : List Statement) → Stand k (s ∷ statements) → Stand (k + 1) statements
  stand_later k s statements stand = λ p x at. let e : k + suc p ≡ k + 1 + p = omega arith in subst (λ (q : ℕ). IsItem c q (TheStatement x)) e (stand (suc p) x at)

  stand_left : (k : ℕ) (xs ys : List Statement) → Stand k (xs ++ ys) → Stand k xs
  stand_left k xs ys stand = λ p x at. stand p x (get-left xs ys p x at)

  stand_right : (k : ℕ) (xs ys : List Statement) → Stand k (xs ++ ys) → Stand (k + length xs) ys
  stand_right k xs ys stand = λ p x at.
      let e : k + (length xs + p) ≡ k + length xs + p = omega arith in
      subst (λ (q : ℕ). IsItem c q (TheStatement x)) e (stand (length xs + p) x (get-right xs ys p x at))

  -- a statement alone
  origin_one : (s x : Statement) → Origin c s → Contains (s ∷ []) x → Origin c x
  origin_one s x origin has = elim (Contains-cases_first s [] x has) [ inl same ↦ subst (Origin c) same origin | inr there ↦ absurd (Contains-none x there) ]

  -- a statement, or one after it
  origin_first : (s x : Statement) (statements : List Statement) → Origin c s → (Contains statements x → Origin c x) → Contains (s ∷ statements) x → Origin c x
  origin_first s x statements origin later has = elim (Contains-cases_first s statements x has) [ inl same ↦ subst (Origin c) same origin | inr there ↦ later there ]

  -- a branch or a body
  origin_part : (k : ℕ) (s : Statement) → (Stand k (statements_in s) → (x : Statement) → Contains (statements_in (expanded_at k s)) x → Origin c x)
      → Stand k (unless_empty s (statements_in s)) → (x : Statement) → Contains (unless_empty (expanded_at k s) (statements_in (expanded_at k s))) x → Origin c x
  origin_part k s whole stand x has = elim (empty_cases s (statements_in s)) [
    | inl e ↦ absurd (Contains-none x (subst (λ (y : Statement). Contains (unless_empty (expanded_at k y) (statements_in (expanded_at k y))) x) e has))
    | inr e ↦ whole (subst (Stand k) e stand) x (in_unless (expanded_at k s) (statements_in (expanded_at k s)) x has)
  ]

  mutual
    origin_at : (k : ℕ) (s : Statement) → Stand k (statements_in s) → (x : Statement) → Contains (statements_in (expanded_at k s)) x → Origin c x
    origin_at k (Enable name) stand x has = origin_one (Enable name) x (SameEnable k name (stand_first k (Enable name) [] stand)) has
    origin_at k (Seq ss) stand x has =
        origin_first (Seq (expanded_from (k + 1) ss)) x (statements_of (expanded_from (k + 1) ss)) (SameSeq (expanded_from (k + 1) ss))
        (origin_from (k + 1) ss (stand_later k (Seq ss) (statements_of ss) stand) x) has
    origin_at k (Par ss) stand x has =
        origin_first (Par (expanded_from (k + 1) ss)) x (statements_of (expanded_from (k + 1) ss)) (SamePar (expanded_from (k + 1) ss))
        (origin_from (k + 1) ss (stand_later k (Par ss) (statements_of ss) stand) x) has
    origin_at k (If port by s t) stand x has =
        let on = unless_empty s (statements_in s) in
        let off = unless_empty t (statements_in t) in
        let s' = expanded_at (k + 1) s in
        let t' = expanded_at (k + 1 + length (unless_empty s (statements_in s))) t in
        let later = stand_later k (If port by s t) (on ++ off) stand in
        origin_first (If port by s' t') x (unless_empty s' (statements_in s') ++ unless_empty t' (statements_in t'))
        (SameIf k port by s t s' t' (stand_first k (If port by s t) (on ++ off) stand))
        (λ there. elim (Contains-append_cases (unless_empty s' (statements_in s')) (unless_empty t' (statements_in t')) x there) [
          | inl one ↦ origin_part (k + 1) s (origin_at (k + 1) s) (stand_left (k + 1) on off later) x one
          | inr two ↦
              origin_part (k + 1 + length (unless_empty s (statements_in s))) t (origin_at (k + 1 + length (unless_empty s (statements_in s))) t) (stand_right (k + 1) on off later) x two
        ])
        has
    origin_at k (While port by s) stand x has =
        let body = unless_empty s (statements_in s) in
        let s' = expanded_at (k + 1) s in
        origin_first (While port by s') x (unless_empty s' (statements_in s')) (SameWhile k port by s s' (stand_first k (While port by s) body stand))
        (origin_part (k + 1) s (origin_at (k + 1) s) (stand_later k (While port by s) body stand) x) has
    origin_at k (Invoke cell ins outs) stand x has =
        origin_one (Enable (invoke_name k)) x (FromInvoke k cell ins outs (stand_first k (Invoke cell ins outs) [] stand)) has

    origin_from : (k : ℕ) (ss : Statements) → Stand k (statements_of ss) → (x : Statement) → Contains (statements_of (expanded_from k ss)) x → Origin c x
    origin_from k NoStatements stand x has = absurd (Contains-none x has)
    origin_from k (MoreStatements s ss) stand x has =
        let xs = statements_in s in
        elim (Contains-append_cases (statements_in (expanded_at k s)) (statements_of (expanded_from (k + length (statements_in s)) ss)) x has) [
          | inl one ↦ origin_at k s (stand_left k xs (statements_of ss) stand) x one
          | inr two ↦ origin_from (k + length (statements_in s)) ss (stand_right k xs (statements_of ss) stand) x two
        ]

  origin_section : (k : ℕ) (control : ControlSection) → Stand k (control_statements control) → (x : Statement) → Contains (control_statements (expanded_section k control)) x → Origin c x
  origin_section k Absent stand x has = absurd (Contains-none x has)
  origin_section k Empty stand x has = absurd (Contains-none x has)
  origin_section k (Body s) stand x has = origin_at k s stand x has

  control_stands : Stand (length (items_before_control c)) (control_statements c.control)
  control_stands p x at =
      get-right (items_before_control c) (map TheStatement (control_statements c.control)) p (TheStatement x)
      (slice_get-map TheStatement (control_statements c.control) p ∙ ap (option_map TheStatement) at)

  pub origin : (x : Statement) → Contains (control_statements (expanded_section (length (items_before_control c)) c.control)) x → Origin c x
  origin x has = origin_section (length (items_before_control c)) c.control control_stands x has
