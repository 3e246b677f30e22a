-- Done lines, guards and sources of a component, over the numbers of a netlist's ports. This project's.
use Rattle.std.specs.Prelude.{◌≡◌, ℕ, zero, suc, ◌<◌, ◌==◌, ◌&&◌, ◌||◌, Bool, List, [], ◌∷◌, ◌++◌, codes, length, map, All, Option, Some, Contains}
use Rattle.std.specs.Prelude.{slice_get, slice_index_or}
use Rattle.std.specs.List.{list_any}
use Rattle.hw_names.specs.Name.{Text, text_of}
use Rattle.hw_prims.specs.Row.{Row}
use Rattle.net_core.specs.Graph.{guard_ports, option_ports, source_ports}
use Rattle.net_core.specs.Guard.{GuardTree, Negates, guard_holds, guard_option, guard_tree, source_tree, source_value}
use Rattle.net_core.specs.declared.net.Guard.{Guard}
use Rattle.net_core.specs.declared.net.Src.{Src}
use Rattle.cal_ast.specs.Actors.{Actor, actors_of, group_of}
use Rattle.cal_ast.specs.Instances.{port_name}
use Rattle.cal_ast.specs.Invoking.{invoke_done}
use Rattle.cal_ast.specs.Schedule.{is_group_done, reads_done}
use Rattle.cal_ast.specs.Tree.{DoneLine, GroupDef, Component, Design, done_tree, port_of, port_tree}
use Rattle.cal_ast.specs.declared.tree.CalPort.{CalPort}
use Rattle.cal_ast.specs.declared.tree.DoneSet.{DoneSet}
use Rattle.cal_walk.specs.declared.planning.Invoke.{Invoke}
use Rattle.cal_sched.specs.declared.watch.Watch.{Watch}

-- the full name of a port that a line of the top component names
abbrev pub top_port : List Text → CalPort → Text
top_port names p = port_name [] (port_tree names p)

-- the name of the port with this number
abbrev pub named : List Text → ℕ → Text
named ports k = slice_index_or ports k []

-- the value of the port with this number
abbrev pub value_at : List ℕ → ℕ → ℕ
value_at values k = slice_index_or values k 0

abbrev pub numbers_only : ℕ → ℕ
numbers_only k = k

-- the list has elements with these numbers
abbrev pub AreWithin : {X : Type 0} → List X → List ℕ → Type 0
AreWithin xs numbers = All (λ k. k < length xs) numbers

-- ---- lines over numbers

-- the ports that a source, a guard, or the guard of a line reads, by their full names
abbrev pub source_reads : List Text → Src CalPort → List Text
source_reads names src = source_ports (source_tree (top_port names) src)

abbrev pub guard_reads : List Text → Guard CalPort → List Text
guard_reads names guard = guard_ports (guard_tree (top_port names) guard)

abbrev pub when_reads : List Text → Option (Guard CalPort) → List Text
when_reads names guard = option_ports (guard_option (top_port names) guard)

-- these are among the ports
abbrev pub HasPorts : List Text → List Text → Type 0
HasPorts ports read = All (Contains ports) read

-- the source over numbers of ports
pub record IsSourceOver (names ports : List Text) (src : Src CalPort) (over : Src ℕ) : Type 0 where
  pub is : source_tree (named ports) over ≡ source_tree (top_port names) src
  pub within : AreWithin ports (source_ports over)

-- the guard over numbers of ports
pub record IsGuardOver (names ports : List Text) (guard : Guard CalPort) (over : Guard ℕ) : Type 0 where
  pub is : guard_tree (named ports) over ≡ guard_tree (top_port names) guard
  pub within : AreWithin ports (guard_ports (guard_tree numbers_only over))

pub record AreGuardsOver (names ports : List Text) (guards : List (Guard CalPort)) (over : List (Guard ℕ)) : Type 0 where
  pub are : map (guard_tree (named ports)) over ≡ map (guard_tree (top_port names)) guards
  pub within : All (λ g. AreWithin ports (guard_ports (guard_tree numbers_only g))) over

-- the guard of a line, if it has one
pub record IsWhenOver (names ports : List Text) (guard : Option (Guard CalPort)) (over : Option (Guard ℕ)) : Type 0 where
  pub is : guard_option (named ports) over ≡ guard_option (top_port names) guard
  pub within : AreWithin ports (option_ports (guard_option numbers_only over))

-- the guard behind this many `!`
abbrev pub negations : {P : Type 0} → ℕ → GuardTree P → GuardTree P
negations zero g = g
negations (suc n) g = Negates (negations n g)

-- ---- done lines

-- the ports that a done line reads, by their full names
abbrev pub done_reads : List Text → DoneSet → List Text
done_reads names d = when_reads names d.guard ++ source_reads names d.src

-- the full name of the port `done` of an invoked cell
abbrev pub invoke_port : List Text → Invoke → Text
invoke_port names i = port_name [] (port_of (text_of names i.cell) (codes "done"))

-- a done line over numbers reads 1, where the ports have these values
abbrev pub reads_one : List ℕ → Watch → Bool
reads_one values w = guard_holds (value_at values) (guard_option numbers_only w.guard) && (source_value (value_at values) w.src == 1)

-- what a done line over numbers reads is there
pub record WatchIsWithin {X : Type 0} (ports : List X) (w : Watch) : Type 0 where
  pub guard : AreWithin ports (option_ports (guard_option numbers_only w.guard))
  pub src : AreWithin ports (source_ports w.src)

-- it is of one of so many actors
abbrev pub ActorIsBelow : ℕ → Watch → Type 0
ActorIsBelow count w = w.actor < count

-- it is of the actor, and reads 1
abbrev pub is_watch_of : ℕ → List ℕ → Watch → Bool
is_watch_of actor values w = (w.actor == actor) && reads_one values w

-- one of the actor's done lines reads 1
abbrev pub is_done : ℕ → List ℕ → List Watch → Bool
is_done actor values watches = list_any (is_watch_of actor values) watches

-- done lines of an actor are put last: in each row an actor is done where it was before, and this one where one of the lines reads 1
pub record PutsLines (ports : List Text) (actor : ℕ) (lines : List DoneLine) (old new : List Watch) : Type 0 where
  pub within : All (WatchIsWithin ports) old → All (WatchIsWithin ports) new
  pub actors : (count : ℕ) → actor < count → All (ActorIsBelow count) old → All (ActorIsBelow count) new
  pub done : (row : Row) (k : ℕ) →
      is_done k (map row ports) new ≡ (is_done k (map row ports) old || ((actor == k) && list_any (reads_done [] row) lines))

-- the done lines of a group are put last
abbrev pub PutsDones : List Text → List Text → ℕ → List DoneSet → List Watch → List Watch → Type 0
PutsDones names ports actor dones old new = PutsLines ports actor (map (done_tree names) dones) old new

-- the done line of an invoke is put last
abbrev pub PutsInvoke : List Text → List Text → ℕ → Invoke → List Watch → List Watch → Type 0
PutsInvoke names ports actor invoke old new = PutsLines ports actor (invoke_done [] (text_of names invoke.cell) ∷ []) old new

-- the done lines of these groups, whose places are their actors' numbers: in each row the actor is done exactly where its group is
pub record AreWatchesOfGroups (groups : List GroupDef) (ports : List Text) (watches : List Watch) : Type 0 where
  pub within : All (WatchIsWithin ports) watches
  pub actors : All (ActorIsBelow (length groups)) watches
  pub done : (row : Row) (k : ℕ) → is_done k (map row ports) watches ≡ is_group_done [] row (slice_get groups k)

-- the done lines of the component's actors, by their numbers: in each row an actor is done exactly where one of its own reads 1
pub record AreWatchesOf (design : Design) (c : Component) (ports : List Text) (watches : List Watch) : Type 0 where
  pub within : All (WatchIsWithin ports) watches
  pub actors : All (ActorIsBelow (length (actors_of c))) watches
  pub done : (k : ℕ) (actor : Actor) (row : Row) → slice_get (actors_of c) k ≡ Some actor →
      is_done k (map row ports) watches ≡ is_group_done [] row (group_of design c actor)
