-- Names as texts, full names of ports, and lists of names. The words are this project's own.
use Rattle.std.specs.Prelude.{◌≡◌, ◌≢◌, ℕ, List, [], ◌∷◌, ◌++◌, Option, Some, None, slice_get, slice_index_or, All, AllPairs}
use Rattle.hw_names.specs.declared.names.NameId.{NameId}

-- a name, or names joined by dots, as bytes
abbrev pub Text : Type 0
Text = List ℕ

-- the names of instances, from the top down
abbrev pub Path : Type 0
Path = List Text

-- the byte that joins names
abbrev pub dot : ℕ
dot = 46

-- two texts joined by a dot
abbrev pub dotted : Text → Text → Text
dotted a b = a ++ dot ∷ b

-- the name of what stands at the end of a path: the path's names and its own, joined by dots
abbrev pub full_name : Path → Text → Text
full_name [] name = name
full_name (instance ∷ path) name = dotted instance (full_name path name)

-- the name of a port of the component at a path, or of a port of a cell in it
abbrev pub port_at : Path → Option Text → Text → Text
port_at path None port = full_name path port
port_at path (Some cell) port = dotted (full_name path cell) port

-- no byte of the text is a dot
abbrev pub HasNoDot : Text → Type 0
HasNoDot text = All (λ byte. byte ≢ dot) text

-- the name is not empty and has no dot
abbrev pub IsPlain : Text → Type 0
IsPlain name = (name ≢ []) × HasNoDot name

-- each name of the path is plain
abbrev pub IsPlainPath : Path → Type 0
IsPlainPath path = All IsPlain path

-- the text of a number in a list of names; the empty text past the end
abbrev pub text_of : List Text → NameId → Text
text_of names id = slice_index_or names id.0 []

-- each of the names is plain
abbrev pub HasPlainNames : List Text → Type 0
HasPlainNames names = All IsPlain names

-- each two of the names differ
abbrev pub AreDistinct : List Text → Type 0
AreDistinct names = AllPairs (λ a b. a ≢ b) names

-- each number of the old names has its text in the new ones
abbrev pub KeepsTexts : List Text → List Text → Type 0
KeepsTexts old new = (i : ℕ) (text : Text) → slice_get old i ≡ Some text → slice_get new i ≡ Some text
