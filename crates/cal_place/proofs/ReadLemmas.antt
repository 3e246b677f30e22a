-- The ports that a line reads: those of its guard, and that of its source.
use Rattle.std.proofs.Common.{◌≡◌, ◌↔◌, ◌⊎◌, inl, inr, ℕ, zero, suc, ◌+◌, ◌++◌, Some, Vec, Global, take, slice_get, List, [], ◌∷◌, map, All, refl, sym, ap, ap₂, subst, ◌∙◌, append_assoc, arith}
use Rattle.std.proofs.lemmas.List.{append-nil, map-append, take_more}
use Rattle.std.proofs.lemmas.Option.{get_or_from_slice_get, slice_get_within}
use Rattle.std.proofs.lemmas.List.Elements.{All-append}
use Rattle.hw_names.specs.Name.{Text}
use Rattle.net_core.proofs.GuardLemmas.{guard_tree-All, guard_tree-Any}
use Rattle.net_core.specs.Graph.{guard_ports, guards_ports}
use Rattle.net_core.specs.Guard.{GuardTree, guard_tree, guards_of}
use Rattle.net_core.specs.declared.net.Guard.{Guard}
use Rattle.net_core.specs.declared.net.Guard.TheVariants as variants
use Rattle.cal_ast.specs.Numbers.{PortHasNumbers}
use Rattle.cal_ast.specs.Tree.{PortName, port_tree}
use Rattle.cal_ast.specs.declared.tree.CalPort.{CalPort}
use Rattle.cal_place.specs.ReadPorts.{AddsPorts, AreReads}
use Rattle.cal_place.proofs.ListLemmas.{All-back, All-front}

-- a fact of each port of two lists
pub all_both : {X : Type 0} (P : X → Type 0) (xs ys : List X) → All P (xs ++ ys) ↔ (All P xs × All P ys)
all_both P xs ys = (λ all. (All-front P xs ys all, All-back P xs ys all), λ both. All-append P xs ys both.0 both.1)

module _ (names : List Text) where
  pub adds_none : (old : List CalPort) → AddsPorts names old old []
  adds_none old = record { added = []; longer = sym (append-nil old); are = record { ports = refl; numbers = λ k d within. absurd (omega arith) } }

  pub adds_both : (old mid new : List CalPort) (xs ys : List PortName) → AddsPorts names old mid xs → AddsPorts names mid new ys → AddsPorts names old new (xs ++ ys)
  adds_both old mid new xs ys first second =
      record {
        added = first.added ++ second.added;
        longer = second.longer ∙ ap (λ l. l ++ second.added) first.longer ∙ append_assoc old first.added second.added;
        are = record {
          ports = map-append (port_tree names) first.added second.added ∙ ap₂ ◌++◌ first.are.ports second.are.ports;
          numbers = All-append (PortHasNumbers names) first.added second.added first.are.numbers second.are.numbers;
        };
      }

  pub adds_one : (old new : List CalPort) (p : CalPort) → new ≡ old ++ p ∷ [] → PortHasNumbers names p → AddsPorts names old new (port_tree names p ∷ [])
  adds_one old new p longer numbers =
      record {
        added = p ∷ [];
        longer = longer;
        are = record { ports = refl; numbers = one };
      }
    where
      one : All (PortHasNumbers names) (p ∷ [])
      one zero d within = numbers
      one (suc k) d within = absurd (omega arith)

  -- a list that began empty has the ports that were added
  pub added_first : (old new : List CalPort) (reads : List PortName) → old ≡ [] → AddsPorts names old new reads → AreReads names reads new
  added_first old new reads none adds = subst (λ (l : List CalPort). AreReads names reads l) (sym (adds.longer ∙ ap (λ l. l ++ adds.added) none)) adds.are

-- ---- the guards of a list

-- what the guards of a list in a guard read
pub guard_list : (f : CalPort → PortName) (g : Guard CalPort) (v : Vec (Guard CalPort) Global) → (g ≡ variants.All v) ⊎ (g ≡ variants.Any v) → guard_ports (guard_tree f g) ≡ guards_ports (guards_of (map (guard_tree f) v.items))
guard_list f g v (inl e) = ap (λ x. guard_ports (guard_tree f x)) e ∙ ap guard_ports (guard_tree-All f v)
guard_list f g v (inr e) = ap (λ x. guard_ports (guard_tree f x)) e ∙ ap guard_ports (guard_tree-Any f v)

guards_both : (xs ys : List (GuardTree PortName)) → guards_ports (guards_of (xs ++ ys)) ≡ guards_ports (guards_of xs) ++ guards_ports (guards_of ys)
guards_both [] ys = refl
guards_both (x ∷ xs) ys = ap (λ (l : List PortName). guard_ports x ++ l) (guards_both xs ys) ∙ sym (append_assoc (guard_ports x) (guards_ports (guards_of xs)) (guards_ports (guards_of ys)))

-- one guard more
pub guards_next : (f : CalPort → PortName) (gs : List (Guard CalPort)) (i : ℕ) (g : Guard CalPort) → slice_get gs i ≡ Some g → guards_ports (guards_of (map (guard_tree f) (take (i + 1) gs))) ≡ guards_ports (guards_of (map (guard_tree f) (take i gs))) ++ guard_ports (guard_tree f g)
guards_next f gs i g at =
    ap (λ (l : List (Guard CalPort)). guards_ports (guards_of (map (guard_tree f) l))) (take_more gs i g (slice_get_within gs i g at) ∙ ap (λ (x : Guard CalPort). take i gs ++ x ∷ []) (get_or_from_slice_get gs i g g at))
    ∙ ap (λ (l : List (GuardTree PortName)). guards_ports (guards_of l)) (map-append (guard_tree f) (take i gs) (g ∷ []))
    ∙ guards_both (map (guard_tree f) (take i gs)) (guard_tree f g ∷ [])
    ∙ ap (λ (l : List PortName). guards_ports (guards_of (map (guard_tree f) (take i gs))) ++ l) (append-nil (guard_ports (guard_tree f g)))
