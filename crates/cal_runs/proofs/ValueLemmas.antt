-- What rows give that agree on the ports that are read: values of sources and guards, of assignments, and of done lines.
use Rattle.std.proofs.Common.{◌≡◌, ◌⊎◌, inl, inr, ℕ, List, [], ◌∷◌, ◌++◌, Bool, true, false, ◌&&◌, ◌||◌, ◌==◌, Option, None, Some, refl, sym, ap, ap₂, ◌∙◌}
use Rattle.std.specs.Prelude.{Contains, bytes_eq, flat_map, if◌then◌else◌, not}
use Rattle.std.specs.List.{list_any}
use Rattle.std.proofs.lemmas.List.Elements.{Contains-append_left, Contains-append_right}
use Rattle.std.proofs.lemmas.Slice.Eq.{bytes_eq-Decides}
use Rattle.hw_names.specs.Name.{Text, Path}
use Rattle.hw_prims.specs.Row.{Row}
use Rattle.net_core.specs.Graph.{source_ports, guard_ports, guards_ports, option_ports}
use Rattle.net_core.specs.Guard.{GuardTree, GuardTrees, Reads, Compares, Negates, AllOf, AnyOf, NoGuards, MoreGuards, source_value, compare_values, holds, all_hold, any_holds, guard_holds}
use Rattle.net_core.specs.declared.net.Src.{Src}
use Rattle.net_core.specs.declared.net.Src.TheVariants.{Port, Lit}
use Rattle.cal_ast.proofs.ListLemmas.{Contains-none, Contains-here, Contains-there, Contains-cases_first}
use Rattle.cal_ast.specs.Actors.{Actor, ActorGroup}
use Rattle.cal_ast.specs.CalRun.{look, values_for}
use Rattle.cal_ast.specs.Instances.{port_name}
use Rattle.cal_ast.specs.Schedule.{reads_done, sets_of_actor}
use Rattle.cal_ast.specs.Tree.{PortName, Assignment, DoneLine}
use Rattle.cal_ast.specs.Wires.{set_ports, done_ports}

module _ (see other : PortName → ℕ) where
  -- what is seen of these ports agrees
  abbrev pub AgreeAt : List PortName → Type 0
  AgreeAt ports = (p : PortName) → Contains ports p → see p ≡ other p

  agree_left : (xs ys : List PortName) → AgreeAt (xs ++ ys) → AgreeAt xs
  agree_left xs ys same p has = same p (Contains-append_left xs ys p has)

  agree_right : (xs ys : List PortName) → AgreeAt (xs ++ ys) → AgreeAt ys
  agree_right xs ys same p has = same p (Contains-append_right xs ys p has)

  source_agrees : (s : Src PortName) → AgreeAt (source_ports s) → source_value see s ≡ source_value other s
  source_agrees (Port p) same = same p (Contains-here p [])
  source_agrees (Lit width value) same = refl

  mutual
    guard_agrees : (g : GuardTree PortName) → AgreeAt (guard_ports g) → holds see g ≡ holds other g
    guard_agrees (Reads s) same = ap (λ v. v == 1) (source_agrees s same)
    guard_agrees (Compares op a b) same =
        ap₂ (compare_values op) (source_agrees a (agree_left (source_ports a) (source_ports b) same)) (source_agrees b (agree_right (source_ports a) (source_ports b) same))
    guard_agrees (Negates g) same = ap not (guard_agrees g same)
    guard_agrees (AllOf gs) same = all_agree gs same
    guard_agrees (AnyOf gs) same = any_agree gs same

    all_agree : (gs : GuardTrees PortName) → AgreeAt (guards_ports gs) → all_hold see gs ≡ all_hold other gs
    all_agree NoGuards same = refl
    all_agree (MoreGuards g gs) same =
        ap₂ ◌&&◌ (guard_agrees g (agree_left (guard_ports g) (guards_ports gs) same)) (all_agree gs (agree_right (guard_ports g) (guards_ports gs) same))

    any_agree : (gs : GuardTrees PortName) → AgreeAt (guards_ports gs) → any_holds see gs ≡ any_holds other gs
    any_agree NoGuards same = refl
    any_agree (MoreGuards g gs) same =
        ap₂ ◌||◌ (guard_agrees g (agree_left (guard_ports g) (guards_ports gs) same)) (any_agree gs (agree_right (guard_ports g) (guards_ports gs) same))

  option_agrees : (g : Option (GuardTree PortName)) → AgreeAt (option_ports g) → guard_holds see g ≡ guard_holds other g
  option_agrees None same = refl
  option_agrees (Some g) same = guard_agrees g same

  -- what is read in a guard and as a source
  both_agree : (g : Option (GuardTree PortName)) (s : Src PortName) → AgreeAt (option_ports g ++ source_ports s) → (guard_holds see g ≡ guard_holds other g) × (source_value see s ≡ source_value other s)
  both_agree g s same = (option_agrees g (agree_left (option_ports g) (source_ports s) same), source_agrees s (agree_right (option_ports g) (source_ports s) same))

one_agrees : (b on on' : Bool) (v v' : ℕ) (vs vs' : List ℕ) → (b ≡ true → (on ≡ on') × (v ≡ v')) → vs ≡ vs' → (if b && on then v ∷ vs else vs) ≡ (if b && on' then v' ∷ vs' else vs')
one_agrees true on on' v v' vs vs' h e = rw ((h refl).0, (h refl).1, e) refl
one_agrees false on on' v v' vs vs' h e = e

module _ (path : Path) (row row' : Row) where
  -- done lines whose ports agree read alike
  pub dones_agree : (dones : List DoneLine) → ((d : DoneLine) → Contains dones d → AgreeAt (look path row) (look path row') (done_ports d)) → list_any (reads_done path row) dones ≡ list_any (reads_done path row') dones
  dones_agree [] same = refl
  dones_agree (d ∷ dones) same =
      let both = both_agree (look path row) (look path row') d.guard d.src (same d (Contains-here d dones)) in
      ap₂ ◌||◌ (ap₂ (λ (on : Bool) (v : ℕ). on && (v == 1)) both.0 both.1) (dones_agree dones (λ e has. same e (Contains-there d dones e has)))

  module _ (port : Text) where
    -- an assignment among these drives the port
    pub record IsDriven (sets : List Assignment) : Type 0 where
      pub a : Assignment
      pub has : Contains sets a
      pub is : port_name path a.dst ≡ port

    driven_or_not : (sets : List Assignment) → IsDriven sets ⊎ ((a : Assignment) → Contains sets a → port_name path a.dst ≡ port → ⊥)
    driven_or_not [] = inr (λ a has is. Contains-none a has)
    driven_or_not (a ∷ sets) = by (bytes_eq (port_name path a.dst) port) refl (driven_or_not sets)
      where
        by : (b : Bool) → bytes_eq (port_name path a.dst) port ≡ b → IsDriven sets ⊎ ((x : Assignment) → Contains sets x → port_name path x.dst ≡ port → ⊥)
            → IsDriven (a ∷ sets) ⊎ ((x : Assignment) → Contains (a ∷ sets) x → port_name path x.dst ≡ port → ⊥)
        by true e later = inl (record { a = a; has = Contains-here a sets; is = (bytes_eq-Decides (port_name path a.dst) port).0 e })
        by false e (inl d) = inl (record { a = d.a; has = Contains-there a sets d.a d.has; is = d.is })
        by false e (inr none) = inr (λ x has is. elim (Contains-cases_first a sets x has) [
          | inl same ↦
              let yes' = (bytes_eq-Decides (port_name path a.dst) port).1 (ap (λ (y : Assignment). port_name path y.dst) same ∙ is) in
              let apart : true ≡ false = sym yes' ∙ e in
              absurd (cc)
          | inr there ↦ none x there is
        ])

    -- assignments of other ports give no value
    values_none : (r : Row) (sets : List Assignment) → ((a : Assignment) → Contains sets a → port_name path a.dst ≡ port → ⊥) → values_for path port r sets ≡ []
    values_none r [] none = refl
    values_none r (a ∷ sets) none = by (bytes_eq (port_name path a.dst) port) refl (values_none r sets (λ x has is. none x (Contains-there a sets x has) is))
      where
        by : (b : Bool) → bytes_eq (port_name path a.dst) port ≡ b → values_for path port r sets ≡ []
            → (if b && guard_holds (look path r) a.guard then source_value (look path r) a.src ∷ values_for path port r sets else values_for path port r sets) ≡ []
        by true e later = absurd (none a (Contains-here a sets) ((bytes_eq-Decides (port_name path a.dst) port).0 e))
        by false e later = later

    -- rows that agree on what the port's assignments read drive it alike
    pub values_agree : (sets : List Assignment) → ((a : Assignment) → Contains sets a → port_name path a.dst ≡ port → AgreeAt (look path row) (look path row') (set_ports a))
        → values_for path port row sets ≡ values_for path port row' sets
    values_agree [] same = refl
    values_agree (a ∷ sets) same =
        one_agrees (bytes_eq (port_name path a.dst) port) (guard_holds (look path row) a.guard) (guard_holds (look path row') a.guard) (source_value (look path row) a.src) (source_value (look path row') a.src)
        (values_for path port row sets) (values_for path port row' sets)
        (λ t. both_agree (look path row) (look path row') a.guard a.src (same a (Contains-here a sets) ((bytes_eq-Decides (port_name path a.dst) port).0 t)))
        (values_agree sets (λ x has is. same x (Contains-there a sets x has) is))

    pub values-append : (r : Row) (xs ys : List Assignment) → values_for path port r (xs ++ ys) ≡ values_for path port r xs ++ values_for path port r ys
    values-append r [] ys = refl
    values-append r (a ∷ xs) ys = by (bytes_eq (port_name path a.dst) port && guard_holds (look path r) a.guard) (values-append r xs ys)
      where
        by : (b : Bool) → values_for path port r (xs ++ ys) ≡ values_for path port r xs ++ values_for path port r ys
            → (if b then source_value (look path r) a.src ∷ values_for path port r (xs ++ ys) else values_for path port r (xs ++ ys))
            ≡ (if b then source_value (look path r) a.src ∷ values_for path port r xs else values_for path port r xs) ++ values_for path port r ys
        by true later = ap (λ (values : List ℕ). source_value (look path r) a.src ∷ values) later
        by false later = later

    -- an actor gives the port alike, where its acting agrees if it drives the port
    module _ (acts acts' : Actor → Bool) where
      actor_agrees : (a : ActorGroup) → (IsDriven a.group.sets → acts a.actor ≡ acts' a.actor) → values_for path port row a.group.sets ≡ values_for path port row' a.group.sets
          → values_for path port row (sets_of_actor acts a) ≡ values_for path port row' (sets_of_actor acts' a)
      actor_agrees a same values = elim (driven_or_not a.group.sets) [
        | inl driven ↦ alike (acts a.actor) (acts' a.actor) (same driven)
        | inr none ↦ nothing row none (acts a.actor) ∙ sym (nothing row' none (acts' a.actor))
      ]
        where
          alike : (b b' : Bool) → b ≡ b' → values_for path port row (if b then a.group.sets else []) ≡ values_for path port row' (if b' then a.group.sets else [])
          alike true true e = values
          alike false false e = refl
          alike true false e = absurd (cc)
          alike false true e = absurd (cc)

          nothing : (r : Row) → ((x : Assignment) → Contains a.group.sets x → port_name path x.dst ≡ port → ⊥) → (b : Bool) → values_for path port r (if b then a.group.sets else []) ≡ []
          nothing r none true = values_none r a.group.sets none
          nothing r none false = refl

      pub actors_agree : (actors : List ActorGroup) → ((a : ActorGroup) → Contains actors a → IsDriven a.group.sets → acts a.actor ≡ acts' a.actor)
          → ((a : ActorGroup) → Contains actors a → values_for path port row a.group.sets ≡ values_for path port row' a.group.sets)
          → values_for path port row (flat_map (sets_of_actor acts) actors) ≡ values_for path port row' (flat_map (sets_of_actor acts') actors)
      actors_agree [] same values = refl
      actors_agree (a ∷ actors) same values =
          values-append row (sets_of_actor acts a) (flat_map (sets_of_actor acts) actors)
          ∙ ap₂ ◌++◌ (actor_agrees a (same a (Contains-here a actors)) (values a (Contains-here a actors)))
          (actors_agree actors (λ x has driven. same x (Contains-there a actors x has) driven) (λ x has. values x (Contains-there a actors x has)))
          ∙ sym (values-append row' (sets_of_actor acts' a) (flat_map (sets_of_actor acts') actors))
