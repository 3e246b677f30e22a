-- The names of groups, as they become known.
use Rattle.std.proofs.Common.{◌≡◌, ℕ, ◌+◌, List, take, All, Contains, Some}
use Rattle.std.specs.Prelude.{slice_get}
use Rattle.std.proofs.lemmas.List.Elements.{All-weaker}
use Rattle.hw_names.proofs.NameLemmas.{Contains-slice_get}
use Rattle.hw_names.specs.Name.{KeepsTexts, Text, text_of}
use Rattle.cal_ast.proofs.ListLemmas.{place_of}
use Rattle.cal_ast.specs.declared.tree.Group.{Group}
use Rattle.cal_lower.proofs.NextLemmas.{All-next}

pub known_kept : (old new : List Text) (text : Text) → KeepsTexts old new → Contains old text → Contains new text
known_kept old new text kept has =
    let p = place_of old text has in
    Contains-slice_get new p.0 text (kept p.0 text p.1)

-- one more group is known
pub known_next : (names old new : List Text) (groups : List Group) (k : ℕ) (g : Group) → slice_get groups k ≡ Some g → KeepsTexts old new → Contains new (text_of names g.name)
    → All (λ (group : Group). Contains old (text_of names group.name)) (take k groups) → All (λ (group : Group). Contains new (text_of names group.name)) (take (k + 1) groups)
known_next names old new groups k g at kept here before =
    let P : Group → Type 0 = λ group. Contains old (text_of names group.name) in
    let Q : Group → Type 0 = λ group. Contains new (text_of names group.name) in
    All-next Q groups k g at (All-weaker P Q (λ group has. known_kept old new (text_of names group.name) kept has) (take k groups) before) here
