-- Reading a text line by line: what the private functions compute, on lists.
use Rattle.std.specs.Prelude.{◌≡◌, ℕ, Bool, true, not, ◌&&◌, ◌==◌, if◌then◌else◌, List, [], ◌∷◌, ◌++◌, length, codes, Option, None, Some}
use Rattle.std.specs.List.{flat_map}
use Rattle.hw_names.specs.Name.{Text}
use Rattle.net_core.specs.Netlist.{Netlist, netlist_of, lines_of, Line, InLine, OutLine, WireLine, CellOf, SetOf}
use Rattle.net_core.specs.declared.net.Net.{Net}
use Rattle.net_text.specs.Layout.{line_text, ended}
use Rattle.net_text.specs.Names.{HasText, is_segment}
use Rattle.net_text.specs.inside.ReadWords.{◌>>=◌, whole, after, word_at}
use Rattle.net_text.specs.inside.ReadLines.{line_of_text}
use Rattle.net_text.specs.inside.ReadResults.{Extends, HasRoom}

-- a byte that ends no line
abbrev pub in_line : ℕ → Bool
in_line c = not (c == 10)

abbrev pub is_nil : {A : Type 0} → List A → Bool
is_nil xs = length xs == 0

-- nothing of a later section stands yet
unfoldable pub follows : Netlist → Line → Bool
follows n (InLine p) = is_nil n.outs && is_nil n.wires && is_nil n.cells && is_nil n.sets
follows n (OutLine p) = is_nil n.wires && is_nil n.cells && is_nil n.sets
follows n (WireLine p) = is_nil n.cells && is_nil n.sets
follows n (CellOf c) = is_nil n.sets
follows n (SetOf a) = true

-- the line at the end of its section
unfoldable pub with_line : Netlist → Line → Netlist
with_line n (InLine p) = record n { ins = n.ins ++ p ∷ [] }
with_line n (OutLine p) = record n { outs = n.outs ++ p ∷ [] }
with_line n (WireLine p) = record n { wires = n.wires ++ p ∷ [] }
with_line n (CellOf c) = record n { cells = n.cells ++ c ∷ [] }
with_line n (SetOf a) = record n { sets = n.sets ++ a ∷ [] }

-- the netlist with one more line
unfoldable pub next_net : Netlist → Text → Option Netlist
next_net n text = line_of_text text >>= λ line. if follows n line then Some (with_line n line) else None

-- a netlist of its first line alone
abbrev pub empty_net : Text → Netlist
empty_net name = record { name = name; ins = []; outs = []; wires = []; cells = []; sets = [] }

unfoldable pub first_net : Text → Option Netlist
first_net text = do
  rest ← after (codes "net ") text
  name ← whole (word_at is_segment rest)
  Some (empty_net name)

-- a netlist whose names are in a longer list
abbrev pub netlist_with : List Text → Net → Netlist
netlist_with names net = netlist_of (record net { names = names })

-- more names change nothing
abbrev pub IsSettled : Net → Type 0
IsSettled net = (later : List Text) → Extends net.names later → netlist_with later net ≡ netlist_of net

-- the text of the netlist so far, without its last line
abbrev pub front_text : Netlist → Text
front_text n = ended (codes "net " ++ n.name) ++ flat_map (λ line. ended (line_text line)) (lines_of n)

-- the text is the netlist so far and this rest
pub record IsRead (bytes : Text) (net : Net) (rest : Text) : Type 0 where
  pub has : HasText (netlist_of net)
  pub parts : bytes ≡ front_text (netlist_of net) ++ rest
  pub settled : IsSettled net
  pub room : HasRoom net.names rest
