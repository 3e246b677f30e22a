-- What a number among ports, instances and invocations means.
use Rattle.std.proofs.Common.{◌≡◌, ℕ, zero, suc, ◌+◌, ◌-◌, ◌<◌, ◌≤◌, ◌⊎◌, inl, inr, Vec, Global, Bool, true, false, cond, List, [], ◌∷◌, ◌++◌, length, map, slice_get, Contains, Option, Some, None, Bor, option_map, refl, sym, ap, ap₂, subst, ◌∙◌, append_assoc, zero-add, arith, length-append, ◌↔◌}
use Rattle.std.specs.List.{find}
use Rattle.std.specs.Option.{IfSome, SomeIff, option_and_then, option_copied}
use Rattle.std.specs.Slice.{IsItemAt}
use Rattle.std.specs.Str.{bytes_eq}
use Rattle.std.proofs.lemmas.Bool.{cases_lt, false_from_ne_true}
use Rattle.std.proofs.lemmas.List.{length-map, get_or_append_left, get_or-append-add}
use Rattle.std.proofs.lemmas.List.Elements.{Contains-append_left, Contains-append_right}
use Rattle.std.proofs.lemmas.Option.{same_Some, slice_get-map, slice_get_past, slice_get_within, slice_get-get_or, get_or_from_slice_get}
use Rattle.std.proofs.lemmas.Simd.{map-map}
use Rattle.std.proofs.lemmas.Slice.Eq.{bytes_eq-Decides}
use Rattle.hw_names.specs.Name.{Text, AreDistinct}
use Rattle.fil_ast.specs.Naming.{port_names, invocation_names}
use Rattle.fil_ast.specs.Scope.{Scope, Instance, Invocation, Result, input_of, output_of, instance_named, invocation_named, instance_signature, result_at, result_of, signature_in, sig_port_named}
use Rattle.fil_ast.specs.Signature.{SigPort, Signature, sig_port}
use Rattle.fil_ast.specs.Tree.{Component, DataPort, Interface, TimeAt, port_tree}
use Rattle.fil_ast.specs.declared.tree.FilComp.{FilComp}
use Rattle.fil_ast.specs.declared.tree.FilPort.{FilPort}
use Rattle.fil_ast.specs.Tree.{value_tree}
use Rattle.fil_ast.specs.Typing.{value_width}
use Rattle.fil_ast.specs.declared.tree.Value.{Value}
use Rattle.fil_ast.specs.declared.tree.Value.TheVariants as values
use Rattle.hw_names.proofs.NameLemmas.{text_of-slice_get}
use Rattle.hw_names.specs.declared.names.NameId.{NameId}
use Rattle.fil_place.specs.Tables.{IsPlace, instance_of, made_signature, meant_signature, times_of, times_shown}
use Rattle.fil_place.specs.declared.earlier.Earlier.{Earlier}
use Rattle.fil_place.specs.declared.tables.Tables.{Tables}
use Rattle.fil_place.specs.declared.times.Offset.{Offset}
use Rattle.fil_place.proofs.FindLemmas.{find_at_place, find_nowhere}

-- what `get` answers, as a look-up
pub got : {X : Type 0} (xs : List X) (i : ℕ) (r : Option (Bor X)) → IsItemAt xs i r → option_copied r ≡ slice_get xs i
got xs i None h = sym (slice_get_past xs i h.3)
got xs i (Some x) h = sym (slice_get-get_or xs i x.now h.3.0 ∙ ap Some (sym h.1))

pub got_among : {X : Type 0} (xs : List X) (i : ℕ) (r : Option (Bor X)) → IsItemAt xs i r → IfSome r (λ (x : Bor X). Contains xs x.now)
got_among xs i None h = tt
got_among xs i (Some x) h = (i, h.3.0, sym h.1)

-- nothing is found, so it is not there
pub not_found : (P : Type 0) → ((false ≡ true) ↔ P) → P → ⊥
not_found P iff p = let bad : false ≡ true = iff.1 p in absurd (cc)

later_distinct : (name : Text) (names : List Text) → AreDistinct (name ∷ names) → AreDistinct names
later_distinct name names distinct i j d before within = distinct (suc i) (suc j) d (omega arith) (omega arith)

-- a search by name, among names that stand in the midst of distinct names
module _ {X : Type 0} (name_of : X → Text) where
  found_first : (x : X) (xs : List X) (name : Text) → name_of x ≡ name → find (λ y. bytes_eq (name_of y) name) (x ∷ xs) ≡ Some x
  found_first x xs name same =
      ap (λ (b : Bool). cond b (Some x) (find (λ y. bytes_eq (name_of y) name) xs)) ((bytes_eq-Decides (name_of x) name).1 same)

  found_later : (x : X) (xs : List X) (name : Text) → (name_of x ≡ name → ⊥) → find (λ y. bytes_eq (name_of y) name) (x ∷ xs) ≡ find (λ y. bytes_eq (name_of y) name) xs
  found_later x xs name apart =
      ap (λ (b : Bool). cond b (Some x) (find (λ y. bytes_eq (name_of y) name) xs)) (false_from_ne_true (bytes_eq (name_of x) name) (λ is. apart ((bytes_eq-Decides (name_of x) name).0 is)))

  at_front : (xs : List X) (after : List Text) (name : Text) (k : ℕ) → AreDistinct (map name_of xs ++ after) → slice_get (map name_of xs ++ after) k ≡ Some name → find (λ y. bytes_eq (name_of y) name) xs ≡ slice_get xs k
  at_front [] after name k distinct at = refl
  at_front (x ∷ xs) after name zero distinct at = found_first x xs name (same_Some (name_of x) name at)
  at_front (x ∷ xs) after name (suc k) distinct at =
      let below = slice_get_within (map name_of (x ∷ xs) ++ after) (suc k) name at in
      let apart : name_of x ≡ name → ⊥ = λ same. distinct 0 (suc k) name (omega arith) below (same ∙ sym (get_or_from_slice_get (map name_of xs ++ after) k name name at)) in
      found_later x xs name apart ∙ at_front xs after name k (later_distinct (name_of x) (map name_of xs ++ after) distinct) at

  in_midst : (before : List Text) (xs : List X) (after : List Text) (name : Text) (k : ℕ) → AreDistinct (before ++ (map name_of xs ++ after))
      → slice_get (before ++ (map name_of xs ++ after)) (length before + k) ≡ Some name → find (λ y. bytes_eq (name_of y) name) xs ≡ slice_get xs k
  in_midst [] xs after name k distinct at =
      at_front xs after name k distinct (ap (slice_get (map name_of xs ++ after)) (sym (zero-add k)) ∙ at)
  in_midst (a ∷ before) xs after name k distinct at =
      let whole = before ++ (map name_of xs ++ after) in
      let e : suc (length before + k) ≡ suc (length before) + k = omega arith in
      in_midst before xs after name k (later_distinct a whole distinct) (ap (slice_get (a ∷ whole)) e ∙ at)

  module _ (before : List Text) (xs : List X) (after names : List Text) (are : names ≡ before ++ (map name_of xs ++ after)) (name : Text) where
    -- the name is not there at all
    pub nowhere : (Contains names name → ⊥) → find (λ y. bytes_eq (name_of y) name) xs ≡ None
    nowhere absent =
        find_nowhere name_of xs (map name_of xs) name refl (λ there.
        let C : List Text → Type 0 = λ ts. Contains ts name in
        absent (subst C (sym are) (Contains-append_right before (map name_of xs ++ after) name (Contains-append_left (map name_of xs) after name there))))

    module _ (distinct : AreDistinct names) (n : ℕ) (at : slice_get names n ≡ Some name) where
      whole_distinct : AreDistinct (before ++ (map name_of xs ++ after))
      whole_distinct = let D : List Text → Type 0 = AreDistinct in subst D are distinct

      -- it stands among these
      pub at_midst : (k : ℕ) → n ≡ length before + k → find (λ y. bytes_eq (name_of y) name) xs ≡ slice_get xs k
      at_midst k is =
          in_midst before xs after name k whole_distinct
          (ap (slice_get (before ++ (map name_of xs ++ after))) (sym is) ∙ ap (λ (ts : List Text). slice_get ts n) (sym are) ∙ at)

      -- it stands before these
      pub before_midst : n < length before → find (λ y. bytes_eq (name_of y) name) xs ≡ None
      before_midst early =
          find_nowhere name_of xs (map name_of xs) name refl (λ (j, below, there).
          let whole = before ++ (map name_of xs ++ after) in
          let later : n < length before + j = omega arith in
          let inner : j < length (map name_of xs ++ after) = omega (arith, length-append (map name_of xs) after) in
          let within : length before + j < length whole = omega (arith, length-append before (map name_of xs ++ after)) in
          let here = get_or_from_slice_get whole n name name (ap (λ (ts : List Text). slice_get ts n) (sym are) ∙ at) in
          let other = get_or-append-add before (map name_of xs ++ after) j name ∙ get_or_append_left (map name_of xs) after name j below ∙ there in
          whole_distinct n (length before + j) name later within (here ∙ sym other))

module _ (c : Component) (others : List Text) where
  abbrev gos : List Text
  gos = map (λ (g : Interface). g.name) c.interfaces

  abbrev sig_ports : List DataPort → List SigPort
  sig_ports ports = map (sig_port c.events) ports

  abbrev sig_names : List DataPort → List Text
  sig_names ports = map (λ (p : SigPort). p.name) (sig_ports ports)

  same_names : (ports : List DataPort) → map (λ (p : DataPort). p.name) ports ≡ sig_names ports
  same_names ports = sym (map-map (λ (p : SigPort). p.name) (sig_port c.events) ports)

  pub are_ins : port_names c ++ others ≡ gos ++ (sig_names c.ins ++ (map (λ (p : DataPort). p.name) c.outs ++ others))
  are_ins =
      ap (λ ts. ((gos ++ ts) ++ map (λ (p : DataPort). p.name) c.outs) ++ others) (same_names c.ins)
      ∙ append_assoc (gos ++ sig_names c.ins) (map (λ (p : DataPort). p.name) c.outs) others
      ∙ append_assoc gos (sig_names c.ins) (map (λ (p : DataPort). p.name) c.outs ++ others)

  pub are_outs : port_names c ++ others ≡ (gos ++ map (λ (p : DataPort). p.name) c.ins) ++ (sig_names c.outs ++ others)
  are_outs =
      ap (λ ts. ((gos ++ map (λ (p : DataPort). p.name) c.ins) ++ ts) ++ others) (same_names c.outs)
      ∙ append_assoc (gos ++ map (λ (p : DataPort). p.name) c.ins) (sig_names c.outs) others

-- ports of a component, by their places
module _ (names : List Text) (earlier : Earlier) (comp : FilComp) (tables : Tables) (scope : Scope) (place : IsPlace names earlier comp tables scope) where
  abbrev others : List Text
  others = invocation_names scope.invocations

  abbrev own : List DataPort → List SigPort
  own ports = sig_ports scope.comp others ports

  pub count_gos : length (gos scope.comp others) ≡ length comp.gos.items
  count_gos =
      length-map scope.comp.interfaces (λ (g : Interface). g.name) ∙ ap (λ (c : Component). length c.interfaces) place.is_comp
      ∙ length-map comp.gos.items _

  pub count_ins : length (map (λ (p : DataPort). p.name) scope.comp.ins) ≡ length comp.ins.items
  count_ins =
      length-map scope.comp.ins (λ (p : DataPort). p.name) ∙ ap (λ (c : Component). length c.ins) place.is_comp
      ∙ length-map comp.ins.items _

  pub count_outs : length (map (λ (p : DataPort). p.name) scope.comp.outs) ≡ length comp.outs.items
  count_outs =
      length-map scope.comp.outs (λ (p : DataPort). p.name) ∙ ap (λ (c : Component). length c.outs) place.is_comp
      ∙ length-map comp.outs.items _

  -- a port of the component at a place, as a port of the signature
  pub port_seen : (ports : List FilPort) (k : ℕ) (r : Option (Bor FilPort)) → IsItemAt ports k r
      → option_map (λ (p : Bor FilPort). sig_port scope.comp.events (port_tree names p.now)) r ≡ slice_get (own (map (port_tree names) ports)) k
  port_seen ports k r is =
      let f = λ (p : FilPort). sig_port scope.comp.events (port_tree names p) in
      composed f r ∙ ap (option_map f) (got ports k r is) ∙ sym (slice_get-map f ports k)
      ∙ ap (λ ps. slice_get ps k) (sym (map-map (sig_port scope.comp.events) (port_tree names) ports))
    where
      composed : {X Y : Type 0} (f : X → Y) (r : Option (Bor X)) → option_map (λ (x : Bor X). f x.now) r ≡ option_map f (option_copied r)
      composed f None = refl
      composed f (Some x) = refl

  module _ (name : Text) where
    pub no_input : (Contains tables.ports name → ⊥) → input_of scope name ≡ None
    no_input = nowhere (λ (p : SigPort). p.name) (gos scope.comp others) (own scope.comp.ins) _ tables.ports (place.shows.ports ∙ are_ins scope.comp others) name

    pub no_output : (Contains tables.ports name → ⊥) → output_of scope name ≡ None
    no_output = nowhere (λ (p : SigPort). p.name) _ (own scope.comp.outs) others tables.ports (place.shows.ports ∙ are_outs scope.comp others) name

    are_invocations : tables.ports ≡ port_names scope.comp ++ (map (λ (v : Invocation). v.name) scope.invocations ++ [])
    are_invocations = place.shows.ports ∙ ap (λ ts. port_names scope.comp ++ ts) (sym (append_nil others))
      where
        append_nil : (ts : List Text) → ts ++ [] ≡ ts
        append_nil [] = refl
        append_nil (t ∷ ts) = ap (λ us. t ∷ us) (append_nil ts)

    pub no_invocation : (Contains tables.ports name → ⊥) → invocation_named scope.invocations name ≡ None
    no_invocation = nowhere (λ (v : Invocation). v.name) (port_names scope.comp) scope.invocations [] tables.ports are_invocations name

    module _ (distinct : AreDistinct tables.ports) (n : ℕ) (at : slice_get tables.ports n ≡ Some name) where
      pub no_input_before : n < length comp.gos.items → input_of scope name ≡ None
      no_input_before early =
          before_midst (λ (p : SigPort). p.name) (gos scope.comp others) (own scope.comp.ins) _ tables.ports (place.shows.ports ∙ are_ins scope.comp others) name distinct n at
          (omega (arith, count_gos))

      pub input_there : (k : ℕ) (r : Option (Bor FilPort)) → n ≡ length comp.gos.items + k → IsItemAt comp.ins.items k r
          → option_map (λ (p : Bor FilPort). sig_port scope.comp.events (port_tree names p.now)) r ≡ input_of scope name
      input_there k r is item =
          port_seen comp.ins.items k r item ∙ ap (λ (c : Component). slice_get (own c.ins) k) (sym place.is_comp)
          ∙ sym (at_midst (λ (p : SigPort). p.name) (gos scope.comp others) (own scope.comp.ins) _ tables.ports (place.shows.ports ∙ are_ins scope.comp others) name distinct n at k (omega (arith, count_gos)))

      count_before : length (gos scope.comp others ++ map (λ (p : DataPort). p.name) scope.comp.ins) ≡ length comp.gos.items + length comp.ins.items
      count_before = length-append (gos scope.comp others) (map (λ (p : DataPort). p.name) scope.comp.ins) ∙ ap₂ ◌+◌ count_gos count_ins

      pub no_output_before : n < length comp.gos.items + length comp.ins.items → output_of scope name ≡ None
      no_output_before early =
          before_midst (λ (p : SigPort). p.name) _ (own scope.comp.outs) others tables.ports (place.shows.ports ∙ are_outs scope.comp others) name distinct n at
          (omega (arith, count_before))

      pub output_there : (k : ℕ) (r : Option (Bor FilPort)) → n ≡ (length comp.gos.items + length comp.ins.items) + k → IsItemAt comp.outs.items k r
          → option_map (λ (p : Bor FilPort). sig_port scope.comp.events (port_tree names p.now)) r ≡ output_of scope name
      output_there k r is item =
          port_seen comp.outs.items k r item ∙ ap (λ (c : Component). slice_get (own c.outs) k) (sym place.is_comp)
          ∙ sym (at_midst (λ (p : SigPort). p.name) _ (own scope.comp.outs) others tables.ports (place.shows.ports ∙ are_outs scope.comp others) name distinct n at k (omega (arith, count_before)))

      count_ports : length (port_names scope.comp) ≡ (length comp.gos.items + length comp.ins.items) + length comp.outs.items
      count_ports =
          length-append (gos scope.comp others ++ map (λ (p : DataPort). p.name) scope.comp.ins) (map (λ (p : DataPort). p.name) scope.comp.outs) ∙ ap₂ ◌+◌ count_before count_outs

      pub no_invocation_before : n < (length comp.gos.items + length comp.ins.items) + length comp.outs.items → invocation_named scope.invocations name ≡ None
      no_invocation_before early =
          before_midst (λ (v : Invocation). v.name) (port_names scope.comp) scope.invocations [] tables.ports are_invocations name distinct n at
          (omega (arith, count_ports))

      invocation_there : (k : ℕ) → n ≡ ((length comp.gos.items + length comp.ins.items) + length comp.outs.items) + k → slice_get scope.invocations k ≡ invocation_named scope.invocations name
      invocation_there k is = sym (at_midst (λ (v : Invocation). v.name) (port_names scope.comp) scope.invocations [] tables.ports are_invocations name distinct n at k (omega (arith, count_ports)))

      -- its number, where the number of its name is past those of ports
      pub invocation_place : (outs count : ℕ) (r : Option ℕ) → n ≡ (length comp.gos.items + length comp.ins.items) + outs → count ≡ length comp.outs.items → SomeIff r (count ≤ outs) (outs - count)
          → option_and_then (slice_get scope.invocations) r ≡ invocation_named scope.invocations name
      invocation_place outs count None is counted past = sym (no_invocation_before (by (cases_lt outs count)))
        where
          by : (outs < count) ⊎ (count ≤ outs) → n < (length comp.gos.items + length comp.ins.items) + length comp.outs.items
          by (inl early) = omega arith
          by (inr late) = absurd (past late)
      invocation_place outs count (Some k) is counted (late, here) = invocation_there k (omega arith)

  -- what an invocation gives, by its number
  pub invoked_at : (k : ℕ) (r : Option (Bor ℕ)) → IsItemAt tables.invoked.items k r → option_map (slice_get tables.instances) (option_copied r) ≡ option_map instance_of (slice_get scope.invocations k)
  invoked_at k r item =
      ap (option_map (slice_get tables.instances)) (got tables.invoked.items k r item)
      ∙ sym (slice_get-map (slice_get tables.instances) tables.invoked.items k)
      ∙ ap (λ os. slice_get os k) place.shows.invoked
      ∙ slice_get-map instance_of scope.invocations k

  pub given_at : (k : ℕ) (r : Option (Bor (Vec Offset Global))) → IsItemAt tables.times.items k r → option_map (λ (at : Bor (Vec Offset Global)). times_shown tables.events at.now) r ≡ option_map times_of (slice_get scope.invocations k)
  given_at k r item =
      composed r ∙ ap (option_map (times_shown tables.events)) (got tables.times.items k r item)
      ∙ sym (slice_get-map (times_shown tables.events) tables.times.items k)
      ∙ ap (λ (os : List (List (Option TimeAt))). slice_get os k) place.shows.times
      ∙ slice_get-map times_of scope.invocations k
    where
      composed : (r : Option (Bor (Vec Offset Global))) → option_map (λ (at : Bor (Vec Offset Global)). times_shown tables.events at.now) r ≡ option_map (times_shown tables.events) (option_copied r)
      composed None = refl
      composed (Some at) = refl

-- what an instance is made of, by its place
module _ (names : List Text) (earlier : Earlier) (comp : FilComp) (tables : Tables) (scope : Scope) (place : IsPlace names earlier comp tables scope) (name : Text) where
  pub no_instance_named : (Contains tables.instances name → ⊥) → instance_named scope.instances name ≡ None
  no_instance_named absent = find_nowhere (λ (i : Instance). i.name) scope.instances tables.instances name place.shows.instances absent

  pub no_instance : (Contains tables.instances name → ⊥) → instance_signature scope name ≡ None
  no_instance absent = ap (option_and_then (λ (i : Instance). signature_in scope.comps i.made i.params)) (no_instance_named absent)

  tables_distinct : AreDistinct tables.instances
  tables_distinct = let D : List Text → Type 0 = AreDistinct in subst D (sym place.shows.instances) place.shows.distinct

  pub instance_at : (n : ℕ) → slice_get tables.instances n ≡ Some name → instance_named scope.instances name ≡ slice_get scope.instances n
  instance_at n at = find_at_place (λ (i : Instance). i.name) scope.instances tables.instances name n place.shows.instances tables_distinct at

  same_chains : {X Y Z : Type 0} (f : X → Option Z) (g : Y → Option Z) (a : Option X) (b : Option Y) → option_map f a ≡ option_map g b → option_and_then f a ≡ option_and_then g b
  same_chains f g None None e = refl
  same_chains f g None (Some y) e = absurd (cc)
  same_chains f g (Some x) None e = absurd (cc)
  same_chains f g (Some x) (Some y) e = same_Some (f x) (g y) e

  pub callee_there : (n : ℕ) → slice_get tables.instances n ≡ Some name → option_and_then (made_signature earlier) (slice_get tables.made.items n) ≡ instance_signature scope name
  callee_there n at =
      same_chains (made_signature earlier) (meant_signature scope.comps) (slice_get tables.made.items n) (slice_get scope.instances n)
      (sym (slice_get-map (made_signature earlier) tables.made.items n) ∙ ap (λ os. slice_get os n) place.shows.made ∙ slice_get-map (meant_signature scope.comps) scope.instances n)
      ∙ ap (option_and_then (meant_signature scope.comps)) (sym (instance_at n at))

-- the invocation of a number that stands for an instance's name
pub no_invoked : (instances : List Text) (o : Option Invocation) → ◌≡◌ {A = Option (Option Text)} None (option_map instance_of o) → o ≡ None
no_invoked instances None e = refl
no_invoked instances (Some v) e = absurd (cc)

pub invoked_some : (instances : List Text) (n : ℕ) (o : Option Invocation) → Some (slice_get instances n) ≡ option_map instance_of o → (v : Invocation) × (o ≡ Some v) × (slice_get instances n ≡ Some v.inst)
invoked_some instances n None e = absurd (cc)
invoked_some instances n (Some v) e = (v, refl, same_Some (slice_get instances n) (Some v.inst) e)

-- the port of a result, from the signature of the invoked instance
module _ (scope : Scope) (invocation port : Text) where
  pub result_none : invocation_named scope.invocations invocation ≡ None → option_map (λ (r : Result). r.port) (result_of scope invocation port) ≡ None
  result_none none = ap (λ o. option_map (λ (r : Result). r.port) (option_and_then (λ (v : Invocation). result_at scope v port) o)) none

  undone : (v : Invocation) (o : Option SigPort) → option_map (λ (r : Result). r.port) (option_map (λ p. record { invocation = v; port = p }) o) ≡ o
  undone v None = refl
  undone v (Some p) = refl

  pub result_seen : (v : Invocation) (s : Option Signature) → invocation_named scope.invocations invocation ≡ Some v → s ≡ instance_signature scope v.inst
      → option_and_then (λ (s : Signature). sig_port_named s.outs port) s ≡ option_map (λ (r : Result). r.port) (result_of scope invocation port)
  result_seen v s is signed =
      ap (option_and_then (λ (s : Signature). sig_port_named s.outs port)) signed
      ∙ sym (undone v (option_and_then (λ (s : Signature). sig_port_named s.outs port) (instance_signature scope v.inst)))
      ∙ ap (λ o. option_map (λ (r : Result). r.port) (option_and_then (λ (v : Invocation). result_at scope v port) o)) (sym is)

-- the width of what a look-up sees
pub width_seen : {X : Type 0} (f : X → SigPort) (width : X → ℕ) (r : Option X) (o : Option SigPort) → ((x : X) → width x ≡ (f x).width) → option_map f r ≡ o → option_map width r ≡ option_map (λ (p : SigPort). p.width) o
width_seen f width None o same e = ap (option_map (λ (p : SigPort). p.width)) e
width_seen f width (Some x) o same e = ap Some (same x) ∙ ap (option_map (λ (p : SigPort). p.width)) e

-- the width of a value, by the texts of its names
module _ (names : List Text) (scope : Scope) (value : Value) where
  pub width_port : (id : NameId) (text : Text) → value ≡ values.Port id → slice_get names id.0 ≡ Some text
      → option_map (λ (p : SigPort). p.width) (input_of scope text) ≡ value_width scope (value_tree names value)
  width_port id text is at =
      ap (λ t. option_map (λ (p : SigPort). p.width) (input_of scope t)) (sym (text_of-slice_get names id text at)) ∙ ap (λ v. value_width scope (value_tree names v)) (sym is)

  of_port : (o : Option Result) → option_map (λ (p : SigPort). p.width) (option_map (λ (r : Result). r.port) o) ≡ option_map (λ (r : Result). r.port.width) o
  of_port None = refl
  of_port (Some r) = refl

  pub width_out : (v p : NameId) (invocation port : Text) → value ≡ values.Out v p → slice_get names v.0 ≡ Some invocation → slice_get names p.0 ≡ Some port
      → option_map (λ (p : SigPort). p.width) (option_map (λ (r : Result). r.port) (result_of scope invocation port)) ≡ value_width scope (value_tree names value)
  width_out v p invocation port is at_v at_p =
      of_port (result_of scope invocation port)
      ∙ ap₂ (λ t u. option_map (λ (r : Result). r.port.width) (result_of scope t u)) (sym (text_of-slice_get names v invocation at_v)) (sym (text_of-slice_get names p port at_p))
      ∙ ap (λ x. value_width scope (value_tree names x)) (sym is)
