-- What a guard reads, and a list of guards guard by guard.
use Rattle.std.proofs.Common.{Result, Ok, Err, ◌≡◌, ℕ, zero, suc, ◌⊎◌, inl, inr, List, [], ◌∷◌, ◌++◌, Some, get_or, map, Vec, Global, refl, sym, ap, ◌∙◌, subst}
use Rattle.std.specs.Prelude.{slice_get, All, Contains, IfOk}
use Rattle.std.specs.List.{flat_map}
use Rattle.std.proofs.lemmas.List.{map-append, get_or_default}
use Rattle.std.proofs.lemmas.List.Elements.{All-contains}
use Rattle.std.proofs.lemmas.Option.{same_Some}
use Rattle.hw_names.specs.Name.{Text}
use Rattle.hw_names.specs.declared.names.NameId.{NameId}
use Rattle.net_core.proofs.GuardLemmas.{guard_tree-All, guard_tree-Any}
use Rattle.net_core.specs.Graph.{guard_ports, guards_ports, option_ports, source_ports, set_ports}
use Rattle.net_core.specs.Guard.{guard_tree, guards_of}
use Rattle.net_core.specs.Netlist.{Netlist, SetLine}
use Rattle.net_core.specs.Rules.{IsValid}
use Rattle.net_core.specs.declared.net.Guard.{Guard}
use Rattle.net_core.specs.declared.net.Guard.TheVariants as variants
use Rattle.net_sim.proofs.AgreeLemmas.{set_reads}
use Rattle.hw_graph.proofs.MemberLemmas.{In, in_of, contains_of, in_left, in_right}
use Rattle.net_sim.specs.Layout.{port_names}
use Rattle.net_sim.specs.inside.Wires.{Reading, reading}

-- what holds of each member of a list
pub all_in : {X : Type 0} (P : X → Type 0) (xs : List X) → ((x : X) → In xs x → P x) → All P xs
all_in P xs f k d within = f (get_or xs k d) (in_of xs (get_or xs k d) (k, within, get_or_default xs k (get_or xs k d) d within))

pub all_left : {X : Type 0} (P : X → Type 0) (xs ys : List X) → All P (xs ++ ys) → All P xs
all_left P xs ys all = all_in P xs (λ x has. All-contains P (xs ++ ys) x all (contains_of (xs ++ ys) x (in_left xs ys x has)))

pub all_right : {X : Type 0} (P : X → Type 0) (xs ys : List X) → All P (xs ++ ys) → All P ys
all_right P xs ys all = all_in P ys (λ x has. All-contains P (xs ++ ys) x all (contains_of (xs ++ ys) x (in_right xs ys x has)))

-- what follows from a fact where there is an answer
pub if_ok : {T E : Type 0} (r : Result T E) (P Q : Type 0) → (P → Q) → IfOk r (λ _. P) → IfOk r (λ _. Q)
if_ok (Ok x) P Q f h = f h
if_ok (Err e) P Q f h = h

-- the pairs that a guard makes with the destination of its assignment
abbrev pub guard_readings : Text → (NameId → Text) → Guard NameId → List Reading
guard_readings port text guard = map (reading port) (guard_ports (guard_tree text guard))

module _ (text : NameId → Text) where
  -- what the guards of a list in a guard read
  pub guard_ports-list : (g : Guard NameId) (v : Vec (Guard NameId) Global) → (g ≡ variants.All v) ⊎ (g ≡ variants.Any v) → guard_ports (guard_tree text g) ≡ guards_ports (guards_of (map (guard_tree text) v.items))
  guard_ports-list g v (inl e) = ap (λ x. guard_ports (guard_tree text x)) e ∙ ap guard_ports (guard_tree-All text v)
  guard_ports-list g v (inr e) = ap (λ x. guard_ports (guard_tree text x)) e ∙ ap guard_ports (guard_tree-Any text v)

  pub readings-list : (port : Text) (gs : List (Guard NameId)) → flat_map (guard_readings port text) gs ≡ map (reading port) (guards_ports (guards_of (map (guard_tree text) gs)))
  readings-list port [] = refl
  readings-list port (g ∷ gs) =
      ap (λ l. guard_readings port text g ++ l) (readings-list port gs)
      ∙ sym (map-append (reading port) (guard_ports (guard_tree text g)) (guards_ports (guards_of (map (guard_tree text) gs))))

  -- what holds of each port that a list of guards reads holds of those of one guard
  pub all_of_one : (P : Text → Type 0) (gs : List (Guard NameId)) (k : ℕ) (g : Guard NameId) → slice_get gs k ≡ Some g → All P (guards_ports (guards_of (map (guard_tree text) gs))) → All P (guard_ports (guard_tree text g))
  all_of_one P [] k g at all = cc
  all_of_one P (h ∷ gs) zero g at all =
      let same : h ≡ g = same_Some h g at in
      let here = all_left P (guard_ports (guard_tree text h)) (guards_ports (guards_of (map (guard_tree text) gs))) all in
      subst (λ (x : Guard NameId). All P (guard_ports (guard_tree text x))) same here
  all_of_one P (h ∷ gs) (suc k) g at all =
      all_of_one P gs k g at (all_right P (guard_ports (guard_tree text h)) (guards_ports (guards_of (map (guard_tree text) gs))) all)

-- each port that an assignment of a valid netlist reads is one of the netlist's
module _ (n : Netlist) (valid : IsValid n) (k : ℕ) (a : SetLine) (at : slice_get n.sets k ≡ Some a) where
  set_there : All (Contains (port_names n)) (set_ports a)
  set_there = all_in (Contains (port_names n)) (set_ports a) (set_reads n valid k a at)

  pub guard_there : All (Contains (port_names n)) (option_ports a.guard)
  guard_there = all_left (Contains (port_names n)) (option_ports a.guard) (source_ports a.src) set_there
