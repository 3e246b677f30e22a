-- What rows give that agree on the ports that are read.
use Rattle.std.proofs.Common.{◌≡◌, ℕ, suc, List, [], ◌∷◌, ◌++◌, Bool, true, false, ◌&&◌, ◌||◌, ◌==◌, Option, None, Some, refl, ap, ap₂, inl, inr}
use Rattle.std.specs.Prelude.{slice_get, map, bytes_eq, if◌then◌else◌, not, Contains, is_some}
use Rattle.std.proofs.lemmas.Bool.{and_parts}
use Rattle.std.proofs.lemmas.Slice.Eq.{bytes_eq-Decides}
use Rattle.hw_names.specs.Name.{Text}
use Rattle.hw_prims.specs.Row.{Row}
use Rattle.net_core.specs.Graph.{source_ports, guard_ports, guards_ports, option_ports, set_ports}
use Rattle.net_core.specs.Guard.{GuardTree, GuardTrees, Reads, Compares, Negates, AllOf, AnyOf, NoGuards, MoreGuards, source_value, compare_values, holds, all_hold, any_holds, guard_holds}
use Rattle.net_core.specs.NetRun.{values_for}
use Rattle.net_core.specs.Netlist.{Netlist, SetLine}
use Rattle.net_core.specs.Rules.{PortLine, ports_of, IsValid, each_read, each_reads, each_in_guard, each_source, source_exists, port_named}
use Rattle.net_core.specs.declared.net.Src.{Src}
use Rattle.net_core.specs.declared.net.Src.TheVariants.{Port, Lit}
use Rattle.hw_graph.proofs.MemberLemmas.{In, in_left, in_right, in_append}
use Rattle.net_sim.proofs.ValidLemmas.{named_contains, set_keeps}
use Rattle.net_sim.specs.Layout.{port_names}

-- two rows agree on these ports
abbrev pub AgreeAt : Row → Row → List Text → Type 0
AgreeAt row row' ports = (p : Text) → In ports p → row p ≡ row' p

agree_left : (row row' : Row) (xs ys : List Text) → AgreeAt row row' (xs ++ ys) → AgreeAt row row' xs
agree_left row row' xs ys same p has = same p (in_left xs ys p has)

agree_right : (row row' : Row) (xs ys : List Text) → AgreeAt row row' (xs ++ ys) → AgreeAt row row' ys
agree_right row row' xs ys same p has = same p (in_right xs ys p has)

pub source_agrees : (row row' : Row) (s : Src Text) → AgreeAt row row' (source_ports s) → source_value row s ≡ source_value row' s
source_agrees row row' (Port p) same = same p (inl refl)
source_agrees row row' (Lit width value) same = refl

mutual
  pub guard_agrees : (row row' : Row) (g : GuardTree Text) → AgreeAt row row' (guard_ports g) → holds row g ≡ holds row' g
  guard_agrees row row' (Reads s) same = ap (λ v. v == 1) (source_agrees row row' s same)
  guard_agrees row row' (Compares op a b) same =
      ap₂ (compare_values op) (source_agrees row row' a (agree_left row row' (source_ports a) (source_ports b) same)) (source_agrees row row' b (agree_right row row' (source_ports a) (source_ports b) same))
  guard_agrees row row' (Negates g) same = ap not (guard_agrees row row' g same)
  guard_agrees row row' (AllOf gs) same = all_agree row row' gs same
  guard_agrees row row' (AnyOf gs) same = any_agree row row' gs same

  pub all_agree : (row row' : Row) (gs : GuardTrees Text) → AgreeAt row row' (guards_ports gs) → all_hold row gs ≡ all_hold row' gs
  all_agree row row' NoGuards same = refl
  all_agree row row' (MoreGuards g gs) same =
      ap₂ ◌&&◌ (guard_agrees row row' g (agree_left row row' (guard_ports g) (guards_ports gs) same)) (all_agree row row' gs (agree_right row row' (guard_ports g) (guards_ports gs) same))

  pub any_agree : (row row' : Row) (gs : GuardTrees Text) → AgreeAt row row' (guards_ports gs) → any_holds row gs ≡ any_holds row' gs
  any_agree row row' NoGuards same = refl
  any_agree row row' (MoreGuards g gs) same =
      ap₂ ◌||◌ (guard_agrees row row' g (agree_left row row' (guard_ports g) (guards_ports gs) same)) (any_agree row row' gs (agree_right row row' (guard_ports g) (guards_ports gs) same))

pub option_agrees : (row row' : Row) (g : Option (GuardTree Text)) → AgreeAt row row' (option_ports g) → guard_holds row g ≡ guard_holds row' g
option_agrees row row' None same = refl
option_agrees row row' (Some g) same = guard_agrees row row' g same

one_agrees : (b on on' : Bool) (v v' : ℕ) (vs vs' : List ℕ) → (b ≡ true → (on ≡ on') × (v ≡ v')) → vs ≡ vs' → (if b && on then v ∷ vs else vs) ≡ (if b && on' then v' ∷ vs' else vs')
one_agrees true on on' v v' vs vs' h e = rw ((h refl).0, (h refl).1, e) refl
one_agrees false on on' v v' vs vs' h e = e

-- rows that agree on what a port's assignments read drive it alike
pub drivers_agree : (row row' : Row) (port : Text) (sets : List SetLine) → ((k : ℕ) (a : SetLine) → slice_get sets k ≡ Some a → a.dst ≡ port → AgreeAt row row' (set_ports a)) → values_for port row sets ≡ values_for port row' sets
drivers_agree row row' port [] same = refl
drivers_agree row row' port (a ∷ sets) same =
    one_agrees (bytes_eq a.dst port) (guard_holds row a.guard) (guard_holds row' a.guard) (source_value row a.src) (source_value row' a.src) (values_for port row sets) (values_for port row' sets)
    (λ t.
    let here = same 0 a refl ((bytes_eq-Decides a.dst port).0 t) in
    (option_agrees row row' a.guard (agree_left row row' (option_ports a.guard) (source_ports a.src) here), source_agrees row row' a.src (agree_right row row' (option_ports a.guard) (source_ports a.src) here)))
    (drivers_agree row row' port sets (λ k b at. same (suc k) b at))

-- ---- the ports that an assignment of a valid netlist reads are its ports

abbrev AreThere : List PortLine → List Text → Type 0
AreThere ports names = (p : Text) → In names p → Contains (map (λ (q : PortLine). q.name) ports) p

both_there : (ports : List PortLine) (xs ys : List Text) → AreThere ports xs → AreThere ports ys → AreThere ports (xs ++ ys)
both_there ports xs ys f g p has = elim (in_append xs ys p has) [ inl l ↦ f p l | inr r ↦ g p r ]

source_reads : (ports : List PortLine) (s : Src Text) → source_exists ports s ≡ true → AreThere ports (source_ports s)
source_reads ports (Port q) e p (inl same) = rw (← same) (named_contains ports q e)
source_reads ports (Port q) e p (inr none) = absurd none
source_reads ports (Lit width value) e p none = absurd none

mutual
  guard_reads : (ports : List PortLine) (g : GuardTree Text) → each_read (source_exists ports) g ≡ true → AreThere ports (guard_ports g)
  guard_reads ports (Reads s) e = source_reads ports s e
  guard_reads ports (Compares op a b) e = let p = and_parts (source_exists ports a) (source_exists ports b) e in both_there ports (source_ports a) (source_ports b) (source_reads ports a p.0) (source_reads ports b p.1)
  guard_reads ports (Negates g) e = guard_reads ports g e
  guard_reads ports (AllOf gs) e = guards_reads ports gs e
  guard_reads ports (AnyOf gs) e = guards_reads ports gs e

  guards_reads : (ports : List PortLine) (gs : GuardTrees Text) → each_reads (source_exists ports) gs ≡ true → AreThere ports (guards_ports gs)
  guards_reads ports NoGuards e = λ p none. absurd none
  guards_reads ports (MoreGuards g gs) e =
      let p = and_parts (each_read (source_exists ports) g) (each_reads (source_exists ports) gs) e in
      both_there ports (guard_ports g) (guards_ports gs) (guard_reads ports g p.0) (guards_reads ports gs p.1)

option_reads : (ports : List PortLine) (g : Option (GuardTree Text)) → each_in_guard (source_exists ports) g ≡ true → AreThere ports (option_ports g)
option_reads ports None e = λ p none. absurd none
option_reads ports (Some g) e = guard_reads ports g e

pub set_reads : (n : Netlist) → IsValid n → (k : ℕ) (a : SetLine) → slice_get n.sets k ≡ Some a → (p : Text) → In (set_ports a) p → Contains (port_names n) p
set_reads n valid k a at =
    let known = (set_keeps n valid k a at).known in
    let sources = (and_parts (is_some (port_named (ports_of n) a.dst)) (each_source (source_exists (ports_of n)) a) known).1 in
    let parts = and_parts (each_in_guard (source_exists (ports_of n)) a.guard) (source_exists (ports_of n) a.src) sources in
    both_there (ports_of n) (option_ports a.guard) (source_ports a.src) (option_reads (ports_of n) a.guard parts.0) (source_reads (ports_of n) a.src parts.1)
