-- The numbers of names, one more at a time, and the names of a component's ports.
use Rattle.std.proofs.Common.{◌≡◌, ℕ, ◌<◌, List, [], ◌∷◌, ◌++◌, Option, Some, length, map, slice_get, refl, sym, ap, ap₂, ◌∙◌}
use Rattle.std.specs.Prelude.{All}
use Rattle.std.proofs.lemmas.List.{length-map, map-append}
use Rattle.std.proofs.lemmas.List.Elements.{All-cons, All-nil}
use Rattle.std.proofs.lemmas.Option.{slice_get_within}
use Rattle.hw_names.proofs.NameLemmas.{text_of-slice_get}
use Rattle.hw_names.specs.Name.{Text, KeepsTexts, text_of}
use Rattle.fil_ast.specs.Tree.{DataPort, port_tree}
use Rattle.fil_ast.specs.declared.tree.FilPort.{FilPort}
use Rattle.fil_place.proofs.GeneralLemmas.{mapped_at, unmapped}
use Rattle.fil_loops.specs.inside.Reached.{AreNumbered, port_names}

-- ---- the numbers of names

module _ (old new : List Text) (keeps : KeepsTexts old new) where
  pub numbered_kept : (numbers : List ℕ) (texts : List Text) → AreNumbered old numbers texts → AreNumbered new numbers texts
  numbered_kept [] [] e = refl
  numbered_kept [] (t ∷ texts) e = absurd (cc)
  numbered_kept (n ∷ numbers) [] e = absurd (cc)
  numbered_kept (n ∷ numbers) (t ∷ texts) e =
      let head : slice_get old n ≡ Some t = cc in
      let tail : AreNumbered old numbers texts = cc in
      ap₂ ◌∷◌ (keeps n t head) (numbered_kept numbers texts tail)

  pub numbered_more : (numbers : List ℕ) (texts : List Text) (n : ℕ) (text : Text) → AreNumbered old numbers texts → slice_get new n ≡ Some text → AreNumbered new (numbers ++ n ∷ []) (texts ++ text ∷ [])
  numbered_more numbers texts n text are at =
      map-append (slice_get new) numbers (n ∷ [])
      ∙ ap₂ (λ (os : List (Option Text)) (o : Option Text). os ++ o ∷ []) (numbered_kept numbers texts are) at
      ∙ sym (map-append (λ (t : Text). Some t) texts (text ∷ []))

-- the numbers of some texts, and then of others
pub numbered_both : (names : List Text) (numbers others : List ℕ) (texts rest : List Text) → AreNumbered names numbers texts → AreNumbered names others rest → AreNumbered names (numbers ++ others) (texts ++ rest)
numbered_both names numbers others texts rest first second =
    map-append (slice_get names) numbers others ∙ ap₂ (λ (a b : List (Option Text)). a ++ b) first second ∙ sym (map-append (λ (t : Text). Some t) texts rest)

-- the number of one of the texts that are numbered
pub number_of : (names : List Text) (numbers : List ℕ) (texts : List Text) → AreNumbered names numbers texts → (k : ℕ) (text : Text) → slice_get texts k ≡ Some text → (n : ℕ) × (slice_get numbers k ≡ Some n) × (slice_get names n ≡ Some text)
number_of names numbers texts are k text at =
    unmapped (slice_get names) numbers k (Some text) (ap (λ (l : List (Option Text)). slice_get l k) are ∙ mapped_at (λ (t : Text). Some t) texts k text at)

pub numbered_length : (names : List Text) (numbers : List ℕ) (texts : List Text) → AreNumbered names numbers texts → length numbers ≡ length texts
numbered_length names numbers texts are = sym (length-map numbers (slice_get names)) ∙ ap length are ∙ length-map texts (λ (t : Text). Some t)

pub numbered_within : (names : List Text) (numbers : List ℕ) (texts : List Text) → AreNumbered names numbers texts → All (λ (n : ℕ). n < length names) numbers
numbered_within names [] texts e = All-nil (λ (n : ℕ). n < length names)
numbered_within names (n ∷ numbers) [] e = absurd (cc)
numbered_within names (n ∷ numbers) (t ∷ texts) e =
    let head : slice_get names n ≡ Some t = cc in
    let tail : AreNumbered names numbers texts = cc in
    All-cons (λ (n : ℕ). n < length names) n numbers (slice_get_within names n t head) (numbered_within names numbers texts tail)

-- the name of a port of the component by its number
pub name_at : (names : List Text) (ports : List FilPort) (k : ℕ) (q : FilPort) (text : Text) → slice_get ports k ≡ Some q → slice_get names q.name.0 ≡ Some text → slice_get (port_names names ports) k ≡ Some text
name_at names ports k q text at named =
    mapped_at (λ (p : FilPort). text_of names p.name) ports k q at ∙ ap Some (text_of-slice_get names q.name text named)

-- names of code's ports are those of the tree's
pub tree_names : (names : List Text) (ports : List FilPort) → port_names names ports ≡ map (λ (p : DataPort). p.name) (map (port_tree names) ports)
tree_names names [] = refl
tree_names names (p ∷ ports) = ap (λ (l : List Text). text_of names p.name ∷ l) (tree_names names ports)
