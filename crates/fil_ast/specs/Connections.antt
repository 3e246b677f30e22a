-- F9: each output is connected exactly once, by a value that is available throughout its interval. Filament, PLDI 2023; the number is this project's.
use Rattle.std.specs.Prelude.{List, [], ◌∷◌, flat_map, All, Contains, IfSome}
use Rattle.hw_names.specs.Name.{Text}
use Rattle.fil_ast.specs.Scope.{Scope, output_of}
use Rattle.fil_ast.specs.Timeline.{own_interval, Covers}
use Rattle.fil_ast.specs.Tree.{DataPort, Statement, New, Call, Both, Connect, Component}

-- the output that a statement connects
abbrev pub connected_at : Statement → List Text
connected_at (New name made params) = []
connected_at (Call name inst gives) = []
connected_at (Both name made params gives) = []
connected_at (Connect output value) = output ∷ []

-- F9 at a statement: a connection is its output's first, and its value covers the output's interval
abbrev pub ConnectsOnce : Scope → List Statement → Statement → Type 0
ConnectsOnce scope before (New name made params) = Unit {0}
ConnectsOnce scope before (Call name inst gives) = Unit {0}
ConnectsOnce scope before (Both name made params gives) = Unit {0}
ConnectsOnce scope before (Connect output value) =
    (¬ Contains (flat_map connected_at before) output) × IfSome (own_interval scope (output_of scope output)) (Covers scope value)

-- F9 at the end: each output is connected
abbrev pub ConnectsAll : Component → Type 0
ConnectsAll c = All (λ (p : DataPort). Contains (flat_map connected_at c.body) p.name) c.outs
