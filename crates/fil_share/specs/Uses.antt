-- Uses of instances' events, by the component's event and the rows after it, and the holds that transactions make of them. This project's.
use Rattle.std.specs.Prelude.{ℕ, ◌+◌, ◌≤◌, List, [], ◌∷◌, map, flat_map, bytes_eq, Bool, Option, Some, None}
use Rattle.hw_names.specs.Name.{Text, text_of}
use Rattle.fil_ast.specs.Holds.{Hold, Start, start_of, uses_of}
use Rattle.fil_ast.specs.Numbers.{IsNumberOf}
use Rattle.fil_ast.specs.Scope.{Scope, Invocation}
use Rattle.fil_ast.specs.Timeline as tree
use Rattle.fil_ast.specs.Tree.{Component}
use Rattle.hw_limits.specs.declared.limits.TheConstants.{MOST_OFFSET, MOST_ROWS}
use Rattle.fil_ast.specs.declared.tx.Tx.{Tx}
use Rattle.fil_share.specs.declared.hold.Hold as shown
use Rattle.fil_share.specs.declared.uses.Use.{Use}

-- an event of an instance, held in the rows [from, to) after an event of the component, by an invocation
pub record Held : Type 0 where
  pub on : Text
  pub inst : Text
  pub event : ℕ
  pub from : ℕ
  pub to : ℕ
  pub call : Text

abbrev pub held : Text → tree.Use → Held
held call u =
    record { on = u.at.event; inst = u.inst; event = u.event; from = u.at.plus; to = u.at.plus + u.hold; call = call }

abbrev pub held_by : Scope → Invocation → List Held
held_by scope v = map (held v.name) (uses_of scope v)

abbrev pub shown_use : List Text → Use → Held
shown_use names u =
    record { on = text_of names u.on; inst = text_of names u.inst; event = u.event; from = u.from; to = u.to; call = text_of names u.call }

-- the use by transaction n, which starts in this row
abbrev pub moved : ℕ → ℕ → Held → Hold
moved n row h = record { inst = h.inst; event = h.event; from = row + h.from; to = row + h.to; call = h.call; tx = n }

abbrev pub is_on : Text → Held → Bool
is_on event h = bytes_eq h.on event

-- each name's number replaced by its text
abbrev pub shown_hold : List Text → shown.Hold → Hold
shown_hold names h =
    record { inst = text_of names h.inst; event = h.event; from = h.from; to = h.to; call = text_of names h.call; tx = h.tx }

-- the event, the instance and the invocation are numbers of the names
abbrev pub UseHasNumbers : List Text → Use → Type 0
UseHasNumbers names u = IsNumberOf names u.on × IsNumberOf names u.inst × IsNumberOf names u.call

-- the instance and the invocation are numbers of the names
abbrev pub HoldHasNumbers : List Text → shown.Hold → Type 0
HoldHasNumbers names h = IsNumberOf names h.inst × IsNumberOf names h.call

-- the use has numbers of the names, and is within few rows after its event
pub record IsGoodUse (names : List Text) (u : Use) : Type 0 where
  pub numbered : UseHasNumbers names u
  pub early : u.from ≤ MOST_OFFSET
  pub ordered : u.from ≤ u.to
  pub small : u.to ≤ MOST_ROWS

abbrev pub listed_start : Option Start → List Start
listed_start None = []
listed_start (Some s) = s ∷ []

-- when transactions start
abbrev pub starts_of : Component → List Tx → List Start
starts_of c txs = flat_map (λ tx. listed_start (start_of c tx)) txs
