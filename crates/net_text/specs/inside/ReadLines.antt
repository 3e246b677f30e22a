-- Reading a line: what the private functions compute, on lists. proofs/ shows that they read just the texts of lines.
use Rattle.std.specs.Prelude.{ℕ, zero, suc, Bool, true, false, List, [], ◌∷◌, length, codes, Option, None, Some, option_map}
use Rattle.hw_names.specs.Name.{Text}
use Rattle.hw_prims.specs.Table.{Pin}
use Rattle.net_core.specs.Guard.{GuardTree, Reads}
use Rattle.net_core.specs.Netlist.{Line, InLine, OutLine, WireLine, CellOf, SetOf, CellLine, SetLine}
use Rattle.net_core.specs.declared.net.Src.{Src}
use Rattle.net_text.specs.Names.{is_segment, is_path}
use Rattle.net_text.specs.inside.ReadGuards.{guard_at}
use Rattle.net_text.specs.inside.ReadWords.{Read, ◌>>=◌, whole, after, word_at, number_at, source_at, where_after}

-- a port of this name, from the space before its width on
unfoldable pub pin_from : Text → Text → Option Pin
pin_from name text = do
  number ← after (codes " ") text
  width ← whole (number_at number)
  Some (record { name = name; width = width })

unfoldable pub pin_of_text : (Text → Bool) → Text → Option Pin
pin_of_text test text = word_at test text >>= λ name. pin_from name.0 name.1

-- a parameter, from the space before it on
unfoldable pub param_at : Text → Read ℕ
param_at text = after (codes " ") text >>= λ number. number_at number

-- parameters up to the end, at most as many as the first number
unfoldable pub params_of_text : ℕ → Text → Option (List ℕ)
params_of_text zero [] = Some []
params_of_text zero (c ∷ cs) = None
params_of_text (suc most) [] = Some []
params_of_text (suc most) (c ∷ cs) =
    param_at (c ∷ cs) >>= λ param. params_of_text most param.1 >>= λ params. Some (param.0 ∷ params)

unfoldable pub cell_of_text : Bool → Text → Option CellLine
cell_of_text shown text = do
  name ← word_at is_path text
  second ← after (codes " ") name.1
  prim ← word_at is_segment second
  params ← params_of_text (length prim.1) prim.1
  Some (record { name = name.0; prim = prim.0; params = params; shown = shown })

-- what an assignment takes, and when
abbrev pub Value : Type 0
Value = Option (GuardTree Text) × Src Text

-- the source that is taken where a guard is true, from what follows the guard on
unfoldable pub guarded_of_text : Text → Option (Src Text)
guarded_of_text text = after (codes " ? ") text >>= λ rest. whole (source_at rest)

-- what follows a guard: nothing, where it is a source that is taken at all times, or the source that is taken where it is true
unfoldable pub value_from : Text → GuardTree Text → Option Value
value_from [] (Reads src) = Some (None, src)
value_from [] guard = None
value_from (c ∷ cs) guard = guarded_of_text (c ∷ cs) >>= λ src. Some (Some guard, src)

unfoldable pub value_of_text : Text → Option Value
value_of_text text = guard_at text >>= λ guard. value_from guard.1 guard.0

unfoldable pub set_of_text : Text → Option SetLine
set_of_text text = do
  dst ← word_at is_path text
  rest ← after (codes " = ") dst.1
  value ← value_of_text rest
  Some (record { dst = dst.0; guard = value.0; src = value.1 })

-- a line without its line feed
unfoldable pub line_of_text : Text → Option Line
line_of_text text =
    where_after (after (codes "in ") text) (λ rest. option_map InLine (pin_of_text is_segment rest))
    (where_after (after (codes "out ") text) (λ rest. option_map OutLine (pin_of_text is_segment rest))
    (where_after (after (codes "wire ") text) (λ rest. option_map WireLine (pin_of_text is_path rest))
    (where_after (after (codes "cell ") text) (λ rest. option_map CellOf (cell_of_text false rest))
    (where_after (after (codes "ext ") text) (λ rest. option_map CellOf (cell_of_text true rest))
    (where_after (after (codes "set ") text) (λ rest. option_map SetOf (set_of_text rest)) None)))))
