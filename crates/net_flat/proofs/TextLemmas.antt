-- Full names at a path are its prefix, and then a name.
use Rattle.std.proofs.Common.{◌≡◌, List, [], ◌∷◌, ◌++◌, slice_get, Option, Some, None, option_map, refl, sym, ap, ◌∙◌, append_assoc}
use Rattle.std.proofs.lemmas.Option.{slice_get_within}
use Rattle.hw_names.proofs.NameLemmas.{text_of-slice_get}
use Rattle.hw_names.specs.Name.{Text, Path, dot, full_name, port_at, text_of}
use Rattle.hw_names.specs.declared.names.NameId.{NameId}
use Rattle.net_core.specs.Numbers.{IsNumberOf}
use Rattle.cal_ast.specs.Instances.{port_name}
use Rattle.cal_ast.specs.Tree.{port_tree}
use Rattle.cal_ast.specs.declared.tree.CalPort.{CalPort}
use Rattle.net_flat.specs.inside.Placed.{port_text, prefix_of}
use Rattle.net_flat.specs.inside.StandFor.{StandsFor}

pub prefix_of-last : (path : Path) (name : Text) → prefix_of (path ++ name ∷ []) ≡ prefix_of path ++ name ++ dot ∷ []
prefix_of-last [] name = refl
prefix_of-last (first ∷ path) name =
    let before = first ++ dot ∷ prefix_of path in
    let last : Text = dot ∷ [] in
    let longer : prefix_of (first ∷ (path ++ name ∷ [])) ≡ first ++ ((dot ∷ prefix_of path) ++ (name ++ last)) =
    ap (λ (text : Text). first ++ dot ∷ text) (prefix_of-last path name ∙ append_assoc (prefix_of path) name last) in
    longer ∙ sym (append_assoc before name last ∙ append_assoc first (dot ∷ prefix_of path) (name ++ last))

pub full_name-prefix : (path : Path) (name : Text) → full_name path name ≡ prefix_of path ++ name
full_name-prefix [] name = refl
full_name-prefix (first ∷ path) name =
    let longer : full_name (first ∷ path) name ≡ first ++ ((dot ∷ prefix_of path) ++ name) = ap (λ text. first ++ dot ∷ text) (full_name-prefix path name) in
    longer ∙ sym (append_assoc first (dot ∷ prefix_of path) name)

-- the name of a port at a path
pub port_name-prefix : (names : List Text) (path : Path) (p : CalPort) → port_name path (port_tree names p) ≡ port_text names (prefix_of path) p
port_name-prefix names path p = by (option_map (text_of names) p.cell)
  where
    by : (cell : Option Text) → port_at path cell (text_of names p.port) ≡ prefix_of path ++ port_at [] cell (text_of names p.port)
    by None = full_name-prefix path (text_of names p.port)
    by (Some cell) =
        ap (λ text. text ++ dot ∷ text_of names p.port) (full_name-prefix path cell) ∙ append_assoc (prefix_of path) cell (dot ∷ text_of names p.port)

-- a number that was found stands for its text
pub number_stands : (names : List Text) (id : NameId) (text : Text) → slice_get names id.0 ≡ Some text → StandsFor IsNumberOf text_of names text id
number_stands names id text found =
    record { numbers = slice_get_within names id.0 text found; tree = text_of-slice_get names id text found }
