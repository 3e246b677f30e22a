-- Laws of the first broken rule: part by part, line by line.
use Rattle.std.proofs.Common.{◌≡◌, ℕ, ◌+◌, ◌<◌, List, [], ◌∷◌, ◌++◌, length, take, flat_map, Option, Some, None, Result, Ok, Err, refl, sym, ap, ap₂, subst, ◌∙◌, append_assoc, length-append, get_or, drop, arith}
use Rattle.std.proofs.lemmas.Grind.{flat_map-append}
use Rattle.std.proofs.lemmas.List.{append-nil, take_more, flat_map_more, length-take-le, take-append-drop}
use Rattle.std.specs.Prelude.{IsErr, IsErrAnd}
use Rattle.hw_names.specs.Name.{Text}
use Rattle.net_core.specs.Judging.{first_not_kept, or_later, first_broken, Tells}
use Rattle.net_core.specs.Netlist.{Line}
use Rattle.net_core.specs.Rules.{PortLine, ports_at, cell_names_at, rules_after}
use Rattle.net_core.specs.declared.rules.NetEnd.{NetEnd}
use Rattle.net_core.specs.declared.rules.NetEnd.TheVariants.{Refused, Memory}

abbrev pub Fault : Type 0
Fault = Option (ℕ × ℕ)

-- the first fault, or else the second
abbrev pub or_next : Fault → Fault → Fault
or_next None later = later
or_next (Some fault) later = Some fault

or_later-or_next : (rule : Option ℕ) (item : ℕ) (here later : Fault) → or_later rule item (or_next here later) ≡ or_next (or_later rule item here) later
or_later-or_next None item here later = refl
or_later-or_next (Some rule) item here later = refl

first_broken-at : (all p q : List PortLine) (c d : List Text) (i j : ℕ) (lines : List Line) → p ≡ q → c ≡ d → i ≡ j → first_broken all p c i lines ≡ first_broken all q d j lines
first_broken-at all p q c d i j lines same_ports same_cells same_item = cc

-- an error that is passed on tells what it told
pub passes_on : {T : Type 0} (answer : Result T NetEnd) (e : NetEnd) (fault : Fault) → IsErrAnd answer (λ x. x ≡ e) → Tells {T = T} (Err e) fault → Tells answer fault
passes_on (Ok x) e fault passed tells = absurd passed
passes_on {T} (Err x) e fault passed tells = let P : NetEnd → Type 0 = λ y. Tells {T = T} (Err y) fault in subst P (sym passed) tells

-- lines are judged part by part
pub first_broken-append : (all ports : List PortLine) (cells : List Text) (item : ℕ) (xs ys : List Line) → first_broken all ports cells item (xs ++ ys)
    ≡ or_next (first_broken all ports cells item xs) (first_broken all (ports ++ flat_map ports_at xs) (cells ++ flat_map cell_names_at xs) (item + length xs) ys)
unfolding first_broken
first_broken-append all ports cells item [] ys =
    first_broken-at all ports (ports ++ []) cells (cells ++ []) item (item + 0) ys (sym (append-nil ports)) (sym (append-nil cells)) (omega arith)
first_broken-append all ports cells item (x ∷ xs) ys =
    let rule = first_not_kept 1 (rules_after all ports cells x) in
    let rest = first_broken-append all (ports ++ ports_at x) (cells ++ cell_names_at x) (item + 1) xs ys in
    let further = first_broken-at all (ports ++ ports_at x ++ flat_map ports_at xs) (ports ++ (ports_at x ++ flat_map ports_at xs)) (cells ++ cell_names_at x ++ flat_map cell_names_at xs) (cells ++ (cell_names_at x ++ flat_map cell_names_at xs)) (item + 1 + length xs) (item + length (x ∷ xs)) ys (append_assoc ports (ports_at x) (flat_map ports_at xs)) (append_assoc cells (cell_names_at x) (flat_map cell_names_at xs)) (omega arith) in
    let here = first_broken all (ports ++ ports_at x) (cells ++ cell_names_at x) (item + 1) xs in
    ap (or_later rule item) (rest ∙ ap (or_next here) further)
    ∙ or_later-or_next rule item here (first_broken all (ports ++ (ports_at x ++ flat_map ports_at xs)) (cells ++ (cell_names_at x ++ flat_map cell_names_at xs)) (item + length (x ∷ xs)) ys)

-- the lines before this number keep the rules, and led from the first ports, cells and item to these
pub record Reached (all ports : List PortLine) (cells : List Text) (first : ℕ) (lines : List Line) (i : ℕ) (ports' : List PortLine) (cells' : List Text) (item' : ℕ) : Type 0 where
  pub ports_are : ports' ≡ ports ++ flat_map ports_at (take i lines)
  pub cells_are : cells' ≡ cells ++ flat_map cell_names_at (take i lines)
  pub item_is : item' ≡ first + i
  pub kept : first_broken all ports cells first (take i lines) ≡ None

pub reached_none : (all ports : List PortLine) (cells : List Text) (first : ℕ) (lines : List Line) → Reached all ports cells first lines 0 ports cells first
unfolding first_broken
reached_none all ports cells first lines =
    record { ports_are = sym (append-nil ports); cells_are = sym (append-nil cells); item_is = omega arith; kept = refl }

more_of : {A : Type 0} (f : Line → List A) (lines : List Line) (i : ℕ) (xs xs' : List A) (d line : Line) → i < length lines → get_or lines i d ≡ line
    → xs' ≡ xs ++ flat_map f (take i lines) → xs' ++ f line ≡ xs ++ flat_map f (take (i + 1) lines)
more_of f lines i xs xs' d line within at are =
    ap (λ ys. ys ++ f line) are ∙ flat_map_more f xs (take i lines) line
    ∙ ap (λ ls. xs ++ flat_map f ls) (sym (take_more lines i d within ∙ ap (λ x. take i lines ++ x ∷ []) at))

module _ {all ports : List PortLine} {cells : List Text} {first : ℕ} {lines : List Line} {i : ℕ} {ports' : List PortLine} {cells' : List Text} {item' : ℕ} where
  -- the lines up to this one
  here_too : (r : Reached all ports cells first lines i ports' cells' item') (d line : Line) (fault : Fault) → i < length lines → get_or lines i d ≡ line
      → first_broken all ports' cells' item' (line ∷ []) ≡ fault → first_broken all ports cells first (take (i + 1) lines) ≡ fault
  here_too r d line fault within at here =
      let long : length (take i lines) ≡ i = length-take-le i lines (omega arith) in
      let reached : item' ≡ first + length (take i lines) = omega (arith, r.item_is, long) in
      ap (first_broken all ports cells first) (take_more lines i d within ∙ ap (λ x. take i lines ++ x ∷ []) at)
      ∙ first_broken-append all ports cells first (take i lines) (line ∷ [])
      ∙ ap₂ or_next r.kept (sym (first_broken-at all ports' (ports ++ flat_map ports_at (take i lines)) cells' (cells ++ flat_map cell_names_at (take i lines)) item' (first + length (take i lines)) (line ∷ []) r.ports_are r.cells_are reached) ∙ here)

  -- one more line that keeps the rules
  pub reached_more : (r : Reached all ports cells first lines i ports' cells' item') (d line : Line) (ports'' : List PortLine) (cells'' : List Text) → i < length lines → get_or lines i d ≡ line
      → first_broken all ports' cells' item' (line ∷ []) ≡ None → ports'' ≡ ports' ++ ports_at line → cells'' ≡ cells' ++ cell_names_at line
      → Reached all ports cells first lines (i + 1) ports'' cells'' (item' + 1)
  reached_more r d line ports'' cells'' within at kept more_ports more_cells =
      record {
        ports_are = more_ports ∙ more_of ports_at lines i ports ports' d line within at r.ports_are;
        cells_are = more_cells ∙ more_of cell_names_at lines i cells cells' d line within at r.cells_are;
        item_is = omega (arith, r.item_is);
        kept = here_too r d line None within at kept;
      }

  -- a line that breaks a rule is the first of all that does
  pub reached_broken : {T : Type 0} (U : Type 0) (r : Reached all ports cells first lines i ports' cells' item') (d line : Line) (answer : Result T NetEnd) (e : NetEnd) → i < length lines → get_or lines i d ≡ line
      → IsErrAnd answer (λ x. x ≡ e) → Tells {T = U} (Err e) (first_broken all ports' cells' item' (line ∷ [])) → Tells answer (first_broken all ports cells first lines)
  reached_broken U r d line answer (Refused rule item) within at passed tells =
      passes_on answer (Refused rule item) _ passed
      (ap (first_broken all ports cells first) (sym (take-append-drop (i + 1) lines))
      ∙ first_broken-append all ports cells first (take (i + 1) lines) (drop (i + 1) lines)
      ∙ ap (λ f. or_next f (first_broken all (ports ++ flat_map ports_at (take (i + 1) lines)) (cells ++ flat_map cell_names_at (take (i + 1) lines)) (first + length (take (i + 1) lines)) (drop (i + 1) lines)))
      (here_too r d line (Some (rule, item)) within at tells))
  reached_broken U r d line answer Memory within at passed tells = passes_on answer Memory _ passed tt

-- the first lines keep the rules, and led from nothing to these ports, these names of cells and this item
pub record Begun (all : List PortLine) (lines : List Line) (ports : List PortLine) (cells : List Text) (item : ℕ) : Type 0 where
  pub ports_are : ports ≡ flat_map ports_at lines
  pub cells_are : cells ≡ flat_map cell_names_at lines
  pub item_is : item ≡ 1 + length lines
  pub kept : first_broken all [] [] 1 lines ≡ None

pub begun_none : (all : List PortLine) → Begun all [] [] [] 1
unfolding first_broken
begun_none all = record { ports_are = refl; cells_are = refl; item_is = omega arith; kept = refl }

module _ {all : List PortLine} {xs : List Line} {ports : List PortLine} {cells : List Text} {item : ℕ} where
  -- what follows is judged from there
  pub first_broken-begun : Begun all xs ports cells item → (ys : List Line) → first_broken all [] [] 1 (xs ++ ys) ≡ first_broken all ports cells item ys
  first_broken-begun b ys =
      first_broken-append all [] [] 1 xs ys
      ∙ ap (λ f. or_next f (first_broken all ([] ++ flat_map ports_at xs) ([] ++ flat_map cell_names_at xs) (1 + length xs) ys)) b.kept
      ∙ sym (first_broken-at all ports (flat_map ports_at xs) cells (flat_map cell_names_at xs) item (1 + length xs) ys b.ports_are b.cells_are b.item_is)

  pub tells_begun : {T : Type 0} (answer : Result T NetEnd) → Begun all xs ports cells item → (ys : List Line) → Tells answer (first_broken all ports cells item ys) → Tells answer (first_broken all [] [] 1 (xs ++ ys))
  tells_begun {T} answer b ys tells = let P : Fault → Type 0 = Tells answer in subst P (sym (first_broken-begun b ys)) tells

  pub begun_more : Begun all xs ports cells item → (ys : List Line) (ports' : List PortLine) (cells' : List Text) (item' : ℕ) → first_broken all ports cells item ys ≡ None
      → ports' ≡ ports ++ flat_map ports_at ys → cells' ≡ cells ++ flat_map cell_names_at ys → item' ≡ item + length ys → Begun all (xs ++ ys) ports' cells' item'
  begun_more b ys ports' cells' item' kept more_ports more_cells more = record {
    ports_are = more_ports ∙ ap (λ ps. ps ++ flat_map ports_at ys) b.ports_are ∙ sym (flat_map-append ports_at xs ys);
    cells_are = more_cells ∙ ap (λ ns. ns ++ flat_map cell_names_at ys) b.cells_are ∙ sym (flat_map-append cell_names_at xs ys);
    item_is = omega (arith, more, b.item_is, length-append xs ys);
    kept = first_broken-begun b ys ∙ kept;
  }

-- an error in the first lines is that of all
pub tells_prefix : {T : Type 0} (answer : Result T NetEnd) (all : List PortLine) (xs ys : List Line) → IsErr answer → Tells answer (first_broken all [] [] 1 xs) → Tells answer (first_broken all [] [] 1 (xs ++ ys))
tells_prefix (Ok x) all xs ys is_err tells = cc
tells_prefix (Err (Refused rule i)) all xs ys is_err tells =
    first_broken-append all [] [] 1 xs ys ∙ ap (λ f. or_next f (first_broken all ([] ++ flat_map ports_at xs) ([] ++ flat_map cell_names_at xs) (1 + length xs) ys)) tells
tells_prefix (Err Memory) all xs ys is_err tells = tt

-- an error in the lines that follow
pub tells_broken : {T : Type 0} (answer : Result T NetEnd) (e : NetEnd) (all : List PortLine) (xs ys : List Line) (ports : List PortLine) (cells : List Text) (item : ℕ) → IsErrAnd answer (λ x. x ≡ e) → Begun all xs ports cells item
    → Tells {T = Unit {0}} (Err e) (first_broken all ports cells item ys) → Tells answer (first_broken all [] [] 1 (xs ++ ys))
tells_broken answer e all xs ys ports cells item passed b tells =
    tells_begun answer b ys (passes_on answer e (first_broken all ports cells item ys) passed (as_any answer e (first_broken all ports cells item ys) tells))
  where
    as_any : {T : Type 0} (r : Result T NetEnd) (x : NetEnd) (fault : Fault) → Tells {T = Unit {0}} (Err x) fault → Tells {T = T} (Err x) fault
    as_any r (Refused rule i) fault t = t
    as_any r Memory fault t = t
