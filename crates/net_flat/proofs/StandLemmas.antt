-- Parts of a netlist stand for their trees also where names are added.
use Rattle.std.proofs.Common.{◌≡◌, ℕ, ◌+◌, ◌<◌, List, [], ◌∷◌, ◌++◌, length, map, get_or, take, All, Some, None, refl, sym, ap, ap₂, ◌∙◌, arith}
use Rattle.std.proofs.lemmas.List.{map-append, take_more}
use Rattle.std.proofs.lemmas.List.Elements.{All-append, All-head, All-tail, All-nil, All-push, All-weaker}
use Rattle.hw_names.proofs.NameLemmas.{length-KeepsTexts, text_of-KeepsTexts}
use Rattle.hw_names.specs.Name.{Text, KeepsTexts, text_of}
use Rattle.hw_names.specs.declared.names.NameId.{NameId}
use Rattle.net_core.specs.Guard.{Reads, Compares, Negates, AllOf, AnyOf, MoreGuards, guard_trees}
use Rattle.net_core.specs.Netlist.{pin_of, cell_of, set_of}
use Rattle.net_core.specs.Numbers.{IsNumberOf, SourceHasNumbers, GuardHasNumbers, GuardsHaveNumbers, WhenHasNumbers, PortHasNumbers, CellHasNumbers, SetHasNumbers}
use Rattle.net_core.specs.declared.net.Guard.{Guard, Row_of-Guard, end_of-Guard, more_of-Guard}
use Rattle.net_core.specs.declared.net.Guard as code
use Rattle.net_core.specs.declared.net.Src.TheVariants.{Port, Lit}
use Rattle.net_flat.specs.inside.StandFor.{StandsFor, StandFor, net_guard, net_source, net_when}

pub Keeps-itself : (names : List Text) → KeepsTexts names names
Keeps-itself names i text found = found

pub Keeps-then : (a b c : List Text) → KeepsTexts a b → KeepsTexts b c → KeepsTexts a c
Keeps-then a b c first second i text found = second i text (first i text found)

pub take_one : {X : Type 0} (xs : List X) (i : ℕ) (x : X) → i < length xs → x ≡ get_or xs i x → take (i + 1) xs ≡ take i xs ++ x ∷ []
take_one xs i x within is = take_more xs i x within ∙ ap (λ y. take i xs ++ y ∷ []) (sym is)

-- what a number means lasts where names keep their texts
abbrev pub IsStable : {X Y : Type 0} → (List Text → X → Type 0) → (List Text → X → Y) → Type 0
IsStable {X} Numbered tree_of = (old new : List Text) (x : X) → KeepsTexts old new → Numbered old x → Numbered new x × (tree_of new x ≡ tree_of old x)

pub number_kept : (old new : List Text) (id : NameId) → KeepsTexts old new → IsNumberOf old id → IsNumberOf new id
number_kept old new id kept within = let more = length-KeepsTexts old new kept in omega (arith, more, within)

pub stable_name : IsStable IsNumberOf text_of
stable_name old new id kept within = (number_kept old new id kept within, text_of-KeepsTexts old new id kept within)

pub stable_source : IsStable SourceHasNumbers net_source
stable_source old new (Port p) kept within = (number_kept old new p kept within, ap Port (text_of-KeepsTexts old new p kept within))
stable_source old new (Lit width value) kept within = (tt, refl)

mutual
  pub stable_guard : IsStable GuardHasNumbers net_guard
  stable_guard old new (code.Read s) kept h = let s' = stable_source old new s.value kept h in (s'.0, ap Reads s'.1)
  stable_guard old new (code.Test op a b) kept h =
      let a' = stable_source old new a.value kept h.0 in
      let b' = stable_source old new b.value kept h.1 in
      ((a'.0, b'.0), ap₂ (Compares op) a'.1 b'.1)
  stable_guard old new (code.Not' p g) kept h = let g' = stable_guard old new g kept h in (g'.0, ap Negates g'.1)
  stable_guard old new (code.All' shape gs) kept h = let gs' = stable_guards old new gs kept h in (gs'.0, ap AllOf gs'.1)
  stable_guard old new (code.Any' shape gs) kept h = let gs' = stable_guards old new gs kept h in (gs'.0, ap AnyOf gs'.1)

  stable_guards : {m : _} (old new : List Text) (gs : Row_of-Guard NameId m) → KeepsTexts old new → GuardsHaveNumbers old gs → GuardsHaveNumbers new gs × (guard_trees (text_of new) gs ≡ guard_trees (text_of old) gs)
  stable_guards old new end_of-Guard kept h = (tt, refl)
  stable_guards old new (more_of-Guard g gs) kept h =
      let g' = stable_guard old new g kept h.0 in
      let gs' = stable_guards old new gs kept h.1 in
      ((g'.0, gs'.0), ap₂ MoreGuards g'.1 gs'.1)

pub stable_when : IsStable WhenHasNumbers net_when
stable_when old new None kept h = (tt, refl)
stable_when old new (Some g) kept h = let g' = stable_guard old new g kept h in (g'.0, ap Some g'.1)

pub stable_pin : IsStable PortHasNumbers pin_of
stable_pin old new p kept h =
    let name = stable_name old new p.name kept h in
    (name.0, ap (λ text. record { name = text; width = p.width }) name.1)

pub stable_cell : IsStable CellHasNumbers cell_of
stable_cell old new c kept h =
    let name = stable_name old new c.name kept h.0 in
    let prim = stable_name old new c.prim kept h.1 in
    ((name.0, prim.0), ap₂ (λ text made. record { name = text; prim = made; params = c.params.items; shown = c.shown }) name.1 prim.1)

pub stable_set : IsStable SetHasNumbers set_of
stable_set old new a kept h =
    let dst = stable_name old new a.dst kept h.0 in
    let guard = stable_when old new a.guard kept h.1 in
    let src = stable_source old new a.src kept h.2 in (
      (dst.0, guard.0, src.0),
      ap (λ text. record { dst = text; guard = net_when new a.guard; src = net_source new a.src }) dst.1
          ∙ ap₂ (λ g s. record { dst = text_of old a.dst; guard = g; src = s }) guard.1 src.1,
    )

module _ {X Y : Type 0} (Numbered : List Text → X → Type 0) (tree_of : List Text → X → Y) (stable : IsStable Numbered tree_of) where
  pub one_kept : (old new : List Text) (y : Y) (x : X) → KeepsTexts old new → StandsFor Numbered tree_of old y x → StandsFor Numbered tree_of new y x
  one_kept old new y x kept h =
      let x' = stable old new x kept h.numbers in
      record { numbers = x'.0; tree = x'.1 ∙ h.tree }

  trees_kept : (old new : List Text) (xs : List X) → KeepsTexts old new → All (Numbered old) xs → map (tree_of new) xs ≡ map (tree_of old) xs
  trees_kept old new [] kept h = refl
  trees_kept old new (x ∷ xs) kept h =
      ap₂ ◌∷◌ (stable old new x kept (All-head (Numbered old) x xs h)).1 (trees_kept old new xs kept (All-tail (Numbered old) x xs h))

  pub all_kept : (old new : List Text) (ys : List Y) (xs : List X) → KeepsTexts old new → StandFor Numbered tree_of old ys xs → StandFor Numbered tree_of new ys xs
  all_kept old new ys xs kept h =
      record {
        numbers = All-weaker (Numbered old) (Numbered new) (λ x within. (stable old new x kept within).0) xs h.numbers;
        trees = trees_kept old new xs kept h.numbers ∙ h.trees;
      }

  pub stand_none : (names : List Text) → StandFor Numbered tree_of names [] []
  stand_none names = record { numbers = All-nil (Numbered names); trees = refl }

  -- one more, where names were added
  pub stand_push : (old new : List Text) (ys : List Y) (xs : List X) (y : Y) (x : X) → KeepsTexts old new → StandFor Numbered tree_of old ys xs → StandsFor Numbered tree_of new y x → StandFor Numbered tree_of new (ys ++ y ∷ []) (xs ++ x ∷ [])
  stand_push old new ys xs y x kept h one =
      let h' = all_kept old new ys xs kept h in
      record {
        numbers = All-push (Numbered new) xs x h'.numbers one.numbers;
        trees = map-append (tree_of new) xs (x ∷ []) ∙ ap₂ (λ zs z. zs ++ z ∷ []) h'.trees one.tree;
      }

  -- more of them, where names were added
  pub stand_append : (old new : List Text) (ys zs : List Y) (xs ws : List X) → KeepsTexts old new → StandFor Numbered tree_of old ys xs → StandFor Numbered tree_of new zs ws → StandFor Numbered tree_of new (ys ++ zs) (xs ++ ws)
  stand_append old new ys zs xs ws kept h more =
      let h' = all_kept old new ys xs kept h in
      record {
        numbers = All-append (Numbered new) xs ws h'.numbers more.numbers;
        trees = map-append (tree_of new) xs ws ∙ ap₂ ◌++◌ h'.trees more.trees;
      }
