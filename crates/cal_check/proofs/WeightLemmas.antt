-- Sums of weights that end at the greatest number of 64 bits, and what components come to.
use Rattle.std.proofs.Common.{◌≡◌, ◌≢◌, ◌⊎◌, inl, inr, ℕ, zero, suc, ◌+◌, ◌<◌, ◌≤◌, List, [], ◌∷◌, ◌++◌, length, take, get_or, set, slice_get, sum_by, All, Vec, Global, Option, Some, None, IfSome, MatchOption, option_and_then, refl, sym, ap, subst, subst₂, ◌∙◌, zero-add, get_or-set_same, get_or-set_other, length-set, length-append, arith}
use Rattle.std.proofs.lemmas.Bool.{cases_lt}
use Rattle.std.proofs.lemmas.List.{get_or-take, get_or_default, length-map, length-take, take_all}
use Rattle.std.proofs.lemmas.List.Sums.{sum_by-append, sum_by-cons, sum_by_push}
use Rattle.std.proofs.lemmas.Option.{get_or_from_slice_get, same_Some, slice_get-get_or, slice_get_read, slice_get_within}
use Rattle.hw_names.specs.Name.{Text}
use Rattle.hw_prims.specs.Table.{IsMade, Pin}
use Rattle.net_core.specs.Weight.{saturated}
use Rattle.net_core.specs.Words.{made_words}
use Rattle.cal_ast.proofs.ListLemmas.{Contains-at}
use Rattle.cal_ast.specs.Items.{statements_in, statements_of, unless_empty}
use Rattle.cal_ast.specs.Ports.{both_sides, inputs_in, outputs_in, part_of}
use Rattle.cal_ast.specs.Top.{IsTop}
use Rattle.cal_ast.specs.Tree.{CellDef, Component, Design, InBinding, OutBinding, PortName, Statement, statement_tree}
use Rattle.cal_ast.specs.Tree as tree
use Rattle.cal_ast.specs.declared.tree.Control.{Control}
use Rattle.cal_ast.specs.declared.tree.Control as code
use Rattle.cal_place.specs.Prototypes.{AreMadeOf, IsMadeOf, made_component, made_primitive}
use Rattle.cal_place.specs.Nesting.{ArePartsFirst, HasPart}
use Rattle.cal_place.specs.Signatures.{ShowsSignature, found}
use Rattle.cal_place.specs.Tables.{AreMade}
use Rattle.cal_check.specs.inside.Totals.{AreOwn, ArePartsWhole, IsWhole}
use Rattle.cal_place.specs.Statements.{statements_from}
use Rattle.cal_check.specs.Weight.{WithCells, CellsComeTo, NoCells, NoPart, APart, IsTold, cell_words, statement_weight}
use Rattle.cal_place.specs.declared.prototype.Prototype.{Prototype}
use Rattle.cal_place.specs.declared.prototype.Prototype.TheVariants as variant
use Rattle.cal_place.specs.declared.signature.Signature.{Signature}
use Rattle.cal_place.proofs.GraphLemmas.{exists_at}
use Rattle.cal_place.proofs.ListLemmas.{one_more}
use Rattle.cal_place.proofs.NestLemmas.{part_from_cell}
use Rattle.cal_place.proofs.BranchLemmas.{trees}
use Rattle.cal_place.proofs.RowLemmas.{seq_tree, par_tree}

-- ---- sums

module _ {X : Type 0} (f : X → ℕ) (xs : List X) (k : ℕ) where
  pub sum_more : (x : X) → slice_get xs k ≡ Some x → sum_by f (take (k + 1) xs) ≡ sum_by f (take k xs) + f x
  sum_more x at = ap (sum_by f) (one_more xs k x at) ∙ sum_by_push f (take k xs) x

  pub sum_all : length xs ≤ k → sum_by f (take k xs) ≡ sum_by f xs
  sum_all end = ap (sum_by f) (take_all k xs end)

-- one more in a sum that ends at the greatest number
pub sum_step : {X : Type 0} (f : X → ℕ) (xs : List X) (k : ℕ) (x : X) (old one new : ℕ) → slice_get xs k ≡ Some x → old ≡ saturated (sum_by f (take k xs)) → one ≡ saturated (f x) → new ≡ saturated (old + one)
    → new ≡ saturated (sum_by f (take (k + 1) xs))
sum_step f xs k x old one new at so_far here is = omega (arith, sum_more f xs k x at, so_far, here, is)

-- one line more in such a sum: a line counts one, and then what else it has
pub line_step : {X : Type 0} (f : X → ℕ) (xs : List X) (k : ℕ) (x : X) (nodes old counted one new : ℕ) → slice_get xs k ≡ Some x → f x ≡ 1 + nodes → old ≡ saturated (sum_by f (take k xs)) → counted ≡ saturated (old + 1) → one ≡ saturated nodes
    → new ≡ saturated (counted + one) → new ≡ saturated (sum_by f (take (k + 1) xs))
line_step f xs k x nodes old counted one new at is so_far more here last = omega (arith, sum_more f xs k x at, is, so_far, more, here, last)

-- a sum of two
pub both_counted : (a b x y r : ℕ) → a ≡ saturated x → b ≡ saturated y → r ≡ saturated (a + b) → r ≡ saturated (x + y)
both_counted a b x y r first second both = omega (arith, first, second, both)

-- how many ports a signature has
both_length : (ins outs : List Pin) → length (both_sides ins outs) ≡ length ins + length outs
both_length [] outs = let e = of_outputs outs in omega (arith, e)
  where
    of_outputs : (pins : List Pin) → length (both_sides [] pins) ≡ length pins
    of_outputs [] = refl
    of_outputs (p ∷ pins) = ap suc (of_outputs pins)
both_length (p ∷ ins) outs = let e = both_length ins outs in omega (arith, e)

pub ports_counted : (s : Signature) (c : Component) → ShowsSignature s c → length s.pins.items ≡ length (inputs_in c) + length (outputs_in c)
ports_counted s c shows =
    ap length shows.ports.pins ∙ length-map (both_sides (inputs_in c) (outputs_in c)) found ∙ both_length (inputs_in c) (outputs_in c)

-- ---- statements

abbrev pub weighed : List Statement → ℕ
weighed statements = sum_by statement_weight statements

pub weight_of_list : (ss : List Statement) → weighed (statements_of (statements_from ss)) ≡ sum_by (λ s. weighed (statements_in s)) ss
weight_of_list [] = refl
weight_of_list (s ∷ ss) =
    sum_by-append statement_weight (statements_in s) (statements_of (statements_from ss))
    ∙ ap (λ n. weighed (statements_in s) + n) (weight_of_list ss)
    ∙ sym (sum_by-cons (λ t. weighed (statements_in t)) s ss)

module _ (names : List Text) (s : Control) where
  abbrev node : Statement
  node = statement_tree names s

  abbrev branch : Control → ℕ
  branch b = weighed (unless_empty (statement_tree names b) (statements_in (statement_tree names b)))

  pub weight_enable : (group : Text) → node ≡ tree.Enable group → weighed (statements_in node) ≡ 1
  weight_enable group is =
      let P : Statement → Type 0 = λ t. weighed (statements_in t) ≡ 1 in
      subst P (sym is) refl

  pub weight_seq : (v : Vec Control Global) → s ≡ code.Seq v → weighed (statements_in node) ≡ 1 + weighed (statements_of (statements_from (trees names v.items)))
  weight_seq v is =
      let ss = statements_from (trees names v.items) in
      let P : Statement → Type 0 = λ t. weighed (statements_in t) ≡ 1 + weighed (statements_of ss) in
      subst P (sym (ap (statement_tree names) is ∙ seq_tree names v)) (sum_by-cons statement_weight (tree.Seq ss) (statements_of ss))

  pub weight_par : (v : Vec Control Global) → s ≡ code.Par v → weighed (statements_in node) ≡ 1 + weighed (statements_of (statements_from (trees names v.items)))
  weight_par v is =
      let ss = statements_from (trees names v.items) in
      let P : Statement → Type 0 = λ t. weighed (statements_in t) ≡ 1 + weighed (statements_of ss) in
      subst P (sym (ap (statement_tree names) is ∙ par_tree names v)) (sum_by-cons statement_weight (tree.Par ss) (statements_of ss))

  pub weight_if : (port : PortName) (by : Option Text) (yes' no' : Control) → node ≡ tree.If port by (statement_tree names yes') (statement_tree names no') → weighed (statements_in node) ≡ 1 + (branch yes' + branch no')
  weight_if port by yes' no' is =
      let P : Statement → Type 0 = λ t. weighed (statements_in t) ≡ 1 + (branch yes' + branch no') in
      let first = unless_empty (statement_tree names yes') (statements_in (statement_tree names yes')) in
      let second = unless_empty (statement_tree names no') (statements_in (statement_tree names no')) in
      subst P (sym is) (sum_by-cons statement_weight (tree.If port by (statement_tree names yes') (statement_tree names no')) (first ++ second) ∙ ap (λ n. 1 + n) (sum_by-append statement_weight first second))

  pub weight_while : (port : PortName) (by : Option Text) (body : Control) → node ≡ tree.While port by (statement_tree names body) → weighed (statements_in node) ≡ 1 + branch body
  weight_while port by body is =
      let P : Statement → Type 0 = λ t. weighed (statements_in t) ≡ 1 + branch body in
      let inner = unless_empty (statement_tree names body) (statements_in (statement_tree names body)) in
      subst P (sym is) (sum_by-cons statement_weight (tree.While port by (statement_tree names body)) inner)

  pub weight_invoke : (cell : Text) (ins : List InBinding) (outs : List OutBinding) → node ≡ tree.Invoke cell ins outs → weighed (statements_in node) ≡ 1 + length ins + length outs
  weight_invoke cell ins outs is =
      let P : Statement → Type 0 = λ t. weighed (statements_in t) ≡ 1 + length ins + length outs in
      let e = sum_by-cons statement_weight (tree.Invoke cell ins outs) [] in
      subst P (sym is) (omega (arith, e))

-- ---- what each component has of its own

-- what stands in a list, or is put last
pushed_at : {X : Type 0} (xs : List X) (x : X) (k : ℕ) (y : X) → slice_get (xs ++ x ∷ []) k ≡ Some y → (slice_get xs k ≡ Some y) ⊎ ((k ≡ length xs) × (x ≡ y))
pushed_at [] x zero y at = inr (refl, same_Some x y at)
pushed_at [] x (suc k) y at = absurd (cc)
pushed_at (z ∷ zs) x zero y at = inl at
pushed_at (z ∷ zs) x (suc k) y at = by (pushed_at zs x k y at)
  where
    by : (slice_get zs k ≡ Some y) ⊎ ((k ≡ length zs) × (x ≡ y)) → (slice_get zs k ≡ Some y) ⊎ ((suc k ≡ suc (length zs)) × (x ≡ y))
    by (inl there) = inl there
    by (inr last) = inr (ap suc last.0, last.1)

module _ (own : Component → ℕ) where
  pub own_none : (numbers : List ℕ) → numbers ≡ [] → AreOwn [] own numbers
  own_none numbers is =
      let none : AreOwn [] own [] = record { sized = refl; each = λ n c number at at_number. absurd (cc) } in
      subst (λ ns. AreOwn [] own ns) (sym is) none

  own_push : (xs : Design) (c : Component) (numbers : List ℕ) (number : ℕ) → AreOwn xs own numbers → number ≡ saturated (own c) → AreOwn (xs ++ c ∷ []) own (numbers ++ number ∷ [])
  own_push xs c numbers number so_far is = record {
    sized = omega (arith, so_far.sized, length-append numbers (number ∷ []), length-append xs (c ∷ []));
    each = λ n d m at at_m. by n d m (pushed_at xs c n d at) (pushed_at numbers number n m at_m);
  }
    where
      by : (n : ℕ) (d : Component) (m : ℕ) → (slice_get xs n ≡ Some d) ⊎ ((n ≡ length xs) × (c ≡ d)) → (slice_get numbers n ≡ Some m) ⊎ ((n ≡ length numbers) × (number ≡ m)) → m ≡ saturated (own d)
      by n d m (inl at) (inl at_m) = so_far.each n d m at at_m
      by n d m (inl at) (inr last) = absurd (omega (arith, so_far.sized, last.0, slice_get_within xs n d at))
      by n d m (inr last) (inl at_m) = absurd (omega (arith, so_far.sized, last.0, slice_get_within numbers n m at_m))
      by n d m (inr last) (inr last_m) = sym last_m.1 ∙ is ∙ ap (λ x. saturated (own x)) last.1

  pub own_more : (design : Design) (k : ℕ) (c : Component) (numbers new : List ℕ) (number : ℕ) → slice_get design k ≡ Some c → new ≡ numbers ++ number ∷ [] → number ≡ saturated (own c) → AreOwn (take k design) own numbers → AreOwn (take (k + 1) design) own new
  own_more design k c numbers new number at put is so_far =
      subst₂ (λ xs ns. AreOwn xs own ns) (sym (one_more design k c at)) (sym put) (own_push (take k design) c numbers number so_far is)

  pub own_all : (design : Design) (k : ℕ) (numbers : List ℕ) → length design ≤ k → AreOwn (take k design) own numbers → AreOwn design own numbers
  own_all design k numbers end so_far = subst (λ xs. AreOwn xs own numbers) (take_all k design end) so_far

-- what the cells of the component at hand are made of
pub made_at : (design : Design) (mades : List (Vec (Option Prototype) Global)) (k : ℕ) (cells : Vec (Option Prototype) Global) (shown : List (Option Prototype)) → AreMade design mades → k < length mades → cells ≡ get_or mades k cells → shown ≡ cells.items
    → (c : Component) × (slice_get design k ≡ Some c) × AreMadeOf design c.cells shown
made_at design mades k cells shown are within is same =
    let c = exists_at design k (omega (arith, within, are.sized)) in
    let at : slice_get mades k ≡ Some cells = slice_get_read mades (length mades) k cells refl within is in
    (c.0, c.1, subst (AreMadeOf design c.0.cells) (sym same) (are.each k c.0 cells c.1 at))

-- a cell at hand is made so
pub cell_made : (design : Design) (cells : List CellDef) (mades : List (Option Prototype)) (k : ℕ) (d : Option Prototype) → AreMadeOf design cells mades → k < length mades → (cell : CellDef) × (slice_get cells k ≡ Some cell) × IsMadeOf design cell (get_or mades k d)
cell_made design cells mades k d are within =
    let cell = exists_at cells k (omega (arith, within, are.sized)) in
    (cell.0, cell.1, are.each k cell.0 (get_or mades k d) cell.1 (slice_get-get_or mades k d within))

pub is_in_range : (design : Design) (cells : List CellDef) (mades : List (Option Prototype)) (k : ℕ) (d : Option Prototype) → AreMadeOf design cells mades → k < length mades → IfSome (option_and_then made_primitive (get_or mades k d)) IsMade
is_in_range design cells mades k d are within = let cell = cell_made design cells mades k d are within in cell.2.in_range

pub words_step : (design : Design) (cells : List CellDef) (mades : List (Option Prototype)) (k : ℕ) (d : Option Prototype) (old one new : ℕ) → AreMadeOf design cells mades → k < length mades → old ≡ saturated (sum_by cell_words (take k cells))
    → one ≡ made_words (option_and_then made_primitive (get_or mades k d)) → new ≡ saturated (old + one) → new ≡ saturated (sum_by cell_words (take (k + 1) cells))
words_step design cells mades k d old one new are within so_far here is =
    let cell = cell_made design cells mades k d are within in
    let e : one ≡ cell_words cell.0 = here ∙ sym (ap made_words cell.2.primitive) in
    omega (arith, sum_more cell_words cells k cell.0 cell.1, so_far, e, is)

-- ---- what components come to

-- the components of cells are components of the design
pub parts_within : (design : Design) (cells : List CellDef) (mades shown : List (Option Prototype)) (n : ℕ) → AreMadeOf design cells mades → shown ≡ mades → n ≡ length design → All (λ cell. IfSome (option_and_then made_component cell) (λ part. part < n)) shown
parts_within design cells mades shown n are same count =
    let own : All (λ (cell : Option Prototype). IfSome (option_and_then made_component cell) (λ part. part < n)) mades = λ k d within.
    (let cell = cell_made design cells mades k d are within in
    subst (λ m. IfSome (option_and_then made_component (get_or mades k d)) (λ part. part < m)) (sym count) cell.2.within) in
    subst (λ (l : List (Option Prototype)). All (λ (cell : Option Prototype). IfSome (option_and_then made_component cell) (λ part. part < n)) l) (sym same) own

module _ (design : Design) (own : Component → ℕ) where
  -- one more cell
  cells_put : (cells : List CellDef) (p : ℕ) → CellsComeTo design own cells p → (cell : CellDef) (q : ℕ) → CellsComeTo design own (cell ∷ []) q → CellsComeTo design own (cells ++ cell ∷ []) (p + q)
  cells_put cells p NoCells cell q one = subst (CellsComeTo design own (cell ∷ [])) (sym (zero-add q)) one
  cells_put cells p (NoPart c cs parts none rest) cell q one = NoPart c (cs ++ cell ∷ []) (parts + q) none (cells_put cs parts rest cell q one)
  cells_put cells p (APart c cs comp part parts made comes rest) cell q one =
      let e : part + (parts + q) ≡ part + parts + q = omega arith in
      subst (CellsComeTo design own (c ∷ (cs ++ cell ∷ []))) e (APart c (cs ++ cell ∷ []) comp part (parts + q) made comes (cells_put cs parts rest cell q one))

  -- the cells so far come to so much
  pub record CellsWeigh (cells : List CellDef) (sum : ℕ) : Type 0 where
    pub parts : ℕ
    pub comes : CellsComeTo design own cells parts
    pub is : sum ≡ saturated parts

  pub cells_none : CellsWeigh [] 0
  cells_none = record { parts = 0; comes = NoCells; is = refl }

  module _ (n : ℕ) (c : Component) (at : slice_get design n ≡ Some c) (whole : List ℕ) (are : ArePartsWhole design own n whole) (k : ℕ) (cell : CellDef) (there : slice_get c.cells k ≡ Some cell) (sum : ℕ) (so_far : CellsWeigh (take k c.cells) sum) where
    longer : take (k + 1) c.cells ≡ take k c.cells ++ cell ∷ []
    longer = one_more c.cells k cell there

    put : (q new : ℕ) → CellsComeTo design own (cell ∷ []) q → new ≡ saturated (sum + saturated q) → CellsWeigh (take (k + 1) c.cells) new
    put q new one is = record {
      parts = so_far.parts + q;
      comes = subst (λ (l : List CellDef). CellsComeTo design own l (so_far.parts + q)) (sym longer) (cells_put (take k c.cells) so_far.parts so_far.comes cell q one);
      is = omega (arith, is, so_far.is);
    }

    pub cell_without : (made : Option Prototype) → IsMadeOf design cell made → option_and_then made_component made ≡ None → CellsWeigh (take (k + 1) c.cells) sum
    cell_without made is none =
        let no_part : part_of design cell ≡ None = is.part ∙ ap (option_and_then (slice_get design)) none in
        let e : sum ≡ saturated (sum + saturated 0) = (let f = so_far.is in omega (arith, f)) in
        put 0 sum (NoPart cell [] 0 no_part NoCells) e

    pub cell_with : (made : Option Prototype) (m new : ℕ) → IsMadeOf design cell made → option_and_then made_component made ≡ Some m → new ≡ saturated (sum + get_or whole m 0) → CellsWeigh (take (k + 1) c.cells) new
    cell_with made m new is some more =
        let O : Option ℕ → Type 0 = λ o. IfSome o (λ number. number < length design) in
        let within : m < length design = subst O some is.within in
        let part = exists_at design m within in
        let made_of : part_of design cell ≡ Some part.0 = is.part ∙ ap (option_and_then (slice_get design)) some ∙ part.1 in
        let held = held_by made m is some in
        let in_whole : m < length whole = omega (arith, are.sized, within) in
        let weighs = are.each m part.0 (get_or whole m 0) held part.1 (slice_get-get_or whole m 0 in_whole) in
        put (weighs.whole + 0) new (APart cell [] part.0 weighs.whole 0 made_of weighs.comes NoCells) (let w = weighs.is in omega (arith, more, w))
      where
        held_by : (made : Option Prototype) (m : ℕ) → IsMadeOf design cell made → option_and_then made_component made ≡ Some m → HasPart design n m
        held_by None m is e = absurd (cc)
        held_by (Some (variant.Primitive prim)) m is e = absurd (cc)
        held_by (Some (variant.Component j)) m is e =
            let same : j ≡ m = same_Some j m e in
            subst (HasPart design n) same (part_from_cell design n j c at cell (Contains-at c.cells k cell there) is)

    pub cell_weighs : (made : Option Prototype) (x new : ℕ) → IsMadeOf design cell made → MatchOption (option_and_then made_component made) (x ≡ 0) (λ part. x ≡ get_or whole part 0) → new ≡ saturated (sum + x) → CellsWeigh (take (k + 1) c.cells) new
    cell_weighs made x new is told more = by (option_and_then made_component made) refl told
      where
        by : (o : Option ℕ) → option_and_then made_component made ≡ o → MatchOption o (x ≡ 0) (λ part. x ≡ get_or whole part 0) → CellsWeigh (take (k + 1) c.cells) new
        by None e none =
            let same : sum ≡ new = (let f = so_far.is in omega (arith, f, none, more)) in
            subst (CellsWeigh (take (k + 1) c.cells)) same (cell_without made is e)
        by (Some m) e one = cell_with made m new is e (omega (arith, one, more))

  -- one cell more, and all of them
  pub cells_step : (n : ℕ) (c : Component) (mades : List (Option Prototype)) (whole : List ℕ) (k : ℕ) (d : Option Prototype) (sum x new : ℕ) → slice_get design n ≡ Some c → AreMadeOf design c.cells mades → ArePartsWhole design own n whole → k < length mades → CellsWeigh (take k c.cells) sum
      → MatchOption (option_and_then made_component (get_or mades k d)) (x ≡ 0) (λ part. x ≡ get_or whole part 0) → new ≡ saturated (sum + x) → CellsWeigh (take (k + 1) c.cells) new
  cells_step n c mades whole k d sum x new at are parts within so_far told more =
      let cell = cell_made design c.cells mades k d are within in
      cell_weighs n c at whole parts k cell.0 cell.1 sum so_far (get_or mades k d) x new cell.2 told more

  pub cells_all : (cells : List CellDef) (k : ℕ) (sum : ℕ) → length cells ≤ k → CellsWeigh (take k cells) sum → (parts : ℕ) × CellsComeTo design own cells parts × (sum ≡ saturated parts)
  cells_all cells k sum end so_far =
      let all : CellsWeigh cells sum = subst (λ (l : List CellDef). CellsWeigh l sum) (take_all k cells end) so_far in
      (all.parts, all.comes, all.is)

  -- ---- components in an order in which parts come first

  pub record WeighSoFar (order : List ℕ) (k : ℕ) (whole : List ℕ) : Type 0 where
    pub sized : length whole ≡ length design
    pub each : (i : ℕ) (c : Component) → i < k → slice_get design (get_or order i 0) ≡ Some c → IsWhole design own c (get_or whole (get_or order i 0) 0)

  pub weigh_none : (order whole : List ℕ) → length whole ≡ length design → WeighSoFar order 0 whole
  weigh_none order whole sized = record { sized = sized; each = λ i c less at. absurd (omega (arith, less)) }

  module _ (order : List ℕ) (first : ArePartsFirst design order) (k : ℕ) (within : k < length order) (whole : List ℕ) (so_far : WeighSoFar order k whole) where
    -- the parts of the next component
    pub parts_whole : ArePartsWhole design own (get_or order k 0) whole
    parts_whole = record {
      sized = so_far.sized;
      each = λ m part number held at at_number.
          let has = first.after k m within held in
          let less : has.0 < k = omega (arith, has.1, length-take k order) in
          let in_order : has.0 < length order = omega (arith, less) in
          let is : get_or order has.0 0 ≡ m = get_or_default order has.0 0 m in_order ∙ sym (get_or-take k order has.0 m less) ∙ has.2 in
          let told = so_far.each has.0 part less (ap (slice_get design) is ∙ at) in
          let value : get_or whole (get_or order has.0 0) 0 ≡ number = ap (λ j. get_or whole j 0) is ∙ get_or_from_slice_get whole m number 0 at_number in
          subst (IsWhole design own part) value told;
    }

    pub weigh_more : (c : Component) (new : List ℕ) (own_number parts number : ℕ) → slice_get design (get_or order k 0) ≡ Some c → own_number ≡ saturated (own c) → CellsWeigh c.cells parts
        → number ≡ saturated (own_number + parts) → new ≡ set whole (get_or order k 0) number → WeighSoFar order (k + 1) new
    weigh_more c new own_number parts number at is_own weigh is put = record {
      sized = ap length put ∙ length-set whole (get_or order k 0) number ∙ so_far.sized;
      each = λ i other less at_i. elim (cases_lt i k) [
        | inl earlier ↦
            let apart : get_or order i 0 ≢ get_or order k 0 = λ same. (let e = first.once i k (omega (arith, earlier, within)) within same in omega (arith, e, earlier)) in
            let kept : get_or whole (get_or order i 0) 0 ≡ get_or new (get_or order i 0) 0 =
            sym (ap (λ (l : List ℕ). get_or l (get_or order i 0) 0) put ∙ get_or-set_other whole (get_or order k 0) (get_or order i 0) number 0 apart) in
            subst (IsWhole design own other) kept (so_far.each i other earlier at_i)
        | inr here ↦
            let same : k ≡ i = omega arith in
            let one : c ≡ other = same_Some c other (sym at ∙ ap (λ j. slice_get design (get_or order j 0)) same ∙ at_i) in
            let inside : get_or order k 0 < length whole = omega (arith, so_far.sized, slice_get_within design (get_or order k 0) c at) in
            let value : get_or new (get_or order i 0) 0 ≡ number =
            ap (λ j. get_or new (get_or order j 0) 0) (sym same) ∙ ap (λ (l : List ℕ). get_or l (get_or order k 0) 0) put ∙ get_or-set_same whole (get_or order k 0) number 0 inside in
            let all : IsWhole design own c number = record {
              whole = own c + weigh.parts;
              comes = WithCells c weigh.parts weigh.comes;
              is = (let w = weigh.is in omega (arith, is, is_own, w));
            } in
            subst (IsWhole design own other) (sym value) (subst (λ (d : Component). IsWhole design own d number) one all)
      ];
    }

  -- the top component
  pub told_top : (order : List ℕ) → ArePartsFirst design order → (k : ℕ) (whole : List ℕ) (top told : ℕ) → length order ≤ k → WeighSoFar order k whole → IsTop design top → top < length design → told ≡ get_or whole top 0 → IsTold design own told
  told_top order first k whole top told end so_far is_top within is =
      let c = exists_at design top within in
      let has = first.each top within in
      let at : get_or order has.0 0 ≡ top = get_or_default order has.0 0 top has.1 ∙ has.2 in
      let weighs = so_far.each has.0 c.0 (omega (arith, has.1, end)) (ap (slice_get design) at ∙ c.1) in
      record {
        n = top;
        top = is_top;
        c = c.0;
        at = c.1;
        whole = weighs.whole;
        comes = weighs.comes;
        is = is ∙ ap (λ j. get_or whole j 0) (sym at) ∙ weighs.is;
      }
