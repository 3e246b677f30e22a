-- A row as a list of values along a list of names, and the row that it stands for.
use Rattle.std.specs.Prelude.{ℕ, List, [], ◌∷◌, if◌then◌else◌, bytes_eq}
use Rattle.hw_prims.specs.Row.{Text, Row}

-- the value along the first name that is the port's, else 0
abbrev pub row_of : List Text → List ℕ → Row
row_of [] values port = 0
row_of (name ∷ names) [] port = 0
row_of (name ∷ names) (v ∷ values) port = if bytes_eq name port then v else row_of names values port
