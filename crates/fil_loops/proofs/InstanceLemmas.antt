-- On which inputs the outputs of an instance depend within a row: a primitive's, and an earlier component's.
use Rattle.std.proofs.Common.{◌≡◌, ◌↔◌, ◌⊎◌, inl, inr, ℕ, zero, suc, ◌<◌, ◌≤◌, Bool, true, false, List, [], ◌∷◌, ◌++◌, Option, Some, None, Contains, length, map, filter, slice_get, take, option_map, is_some, refl, sym, ap, subst, subst₂, ◌∙◌, arith, length-append}
use Rattle.std.specs.Option.{option_and_then}
use Rattle.std.specs.Prelude.{if◌then◌else◌, ◌||◌, reverse}
use Rattle.std.proofs.lemmas.Bool.{cases_lt}
use Rattle.std.proofs.lemmas.List.{reverse-append, reverse-reverse, take_at, take-append-le}
use Rattle.std.proofs.lemmas.Option.{same_Some, slice_get_within, slice_get-map}
use Rattle.hw_graph.proofs.MemberLemmas.{In, in_at, at_of, in_of, contains_of, from_map, from_filter}
use Rattle.hw_names.proofs.NameLemmas.{same_number}
use Rattle.hw_names.specs.Name.{Text, AreDistinct}
use Rattle.hw_prims.proofs.PortNameLemmas.{keeps_words-made}
use Rattle.hw_prims.specs.Filament.{is_data_pin}
use Rattle.hw_prims.specs.Meaning.{is_through}
use Rattle.hw_prims.specs.Memory.{keeps_words}
use Rattle.hw_prims.specs.Table.{Pin, inputs_of, outputs_of, is_memory, is_primitive, prim_names, prim_of}
use Rattle.hw_prims.specs.declared.prim.Primitive.{Primitive}
use Rattle.hw_prims.specs.declared.prim.Primitive.TheVariants.{StdMemD1, StdMemD2}
use Rattle.fil_ast.proofs.PrimitiveLemmas.{OfEach, row_of}
use Rattle.fil_ast.specs.Items.{TheSignature}
use Rattle.fil_ast.specs.Primitives.{FilamentPrimitive, filament_primitive, filament_primitives, input_port, is_filament_primitive, output_port, primitive_signature, signature_by, table_name, timing_of}
use Rattle.fil_ast.specs.Rules.{F1, KeepsRules, all_rules}
use Rattle.fil_ast.specs.Scope.{Scope, Instance, bare_signature, component_named, instance_signature, signature_in}
use Rattle.fil_ast.specs.Signature.{SigPort, Signature, component_signature, sig_port}
use Rattle.fil_ast.specs.Tree.{Component, DataPort, Design}
use Rattle.fil_ast.specs.Wires.{DependsWithin, OfComponent, OfPrimitive, Reaches, through_before, through_of, whole_scope}
use Rattle.fil_place.proofs.FindLemmas.{find_at_place}
use Rattle.fil_loops.proofs.ReadingLemmas.{instance_found}
use Rattle.fil_loops.specs.inside.PortGraph.{Below}
use Rattle.fil_loops.specs.inside.Readings.{ReadsAll, ReadsMade, ReadsWithin}
use Rattle.fil_place.specs.Tables.{IsPlace}
use Rattle.fil_place.specs.declared.earlier.Earlier.{Earlier}
use Rattle.fil_place.specs.declared.tables.Tables.{Tables}
use Rattle.fil_ast.specs.declared.tree.FilComp.{FilComp}

-- ---- Filament's primitives: none is a memory, so all outputs of one depend on all inputs, or none on any

same_through : (prim : Primitive) → keeps_words prim ≡ false → (a b c d : Text) → is_through prim a b ≡ is_through prim c d
unfolding keeps_words is_through
same_through (StdMemD1 w size idx) e a b c d = absurd (cc)
same_through (StdMemD2 w size0 size1 idx0 idx1) e a b c d = absurd (cc)
same_through prim e a b c d = refl

abbrev HasNoMemory : FilamentPrimitive → Type 0
HasNoMemory p = is_memory p.table ≡ false

none_has_memory : OfEach HasNoMemory filament_primitives
unfolding is_memory prim_names
none_has_memory = (refl, (refl, (refl, (refl, (refl, (refl, (refl, (refl, (refl, (refl, (refl, (refl, (refl, (refl, (refl, (refl, tt))))))))))))))))

no_memory : (made table : Text) → table_name made ≡ Some table → is_memory table ≡ false
no_memory made table told = let p = row_of HasNoMemory none_has_memory made table told in ap is_memory (sym p.tabled) ∙ p.holds

pub through_alike : (made table : Text) (params : List ℕ) (prim : Primitive) (a b c d : Text) → table_name made ≡ Some table → prim_of table params ≡ Some prim → is_through prim a b ≡ is_through prim c d
through_alike made table params prim a b c d told is =
    same_through prim (keeps_words-made table params prim is ∙ no_memory made table told) a b c d

pub table_prim : (made table : Text) (params : List ℕ) (prim : Primitive) → table_name made ≡ Some table → filament_primitive made params ≡ Some prim → prim_of table params ≡ Some prim
table_prim made table params prim told is = sym (ap (option_and_then (λ (t : Text). prim_of t params)) told) ∙ is

-- a list that is not empty
pub some_within : {X : Type 0} (xs : List X) (x : X) → In xs x → 0 < length xs
some_within xs x has = let place = at_of xs x has in omega (arith, slice_get_within xs place.0 x place.1)

pub pin_within : {Y : Type 0} (f : Pin → Y) (pins : List Pin) (y : Y) → Contains (map f (filter is_data_pin pins)) y → 0 < length pins
pin_within f pins y has =
    let m = from_map f (filter is_data_pin pins) y (in_of (map f (filter is_data_pin pins)) y has) in
    some_within pins m.0 (from_filter is_data_pin pins m.0 m.1).0

-- whether the primitive of a name is through, or not, as far as it has inputs and outputs
abbrev pub IsThrough : Text → List ℕ → Bool → Type 0
IsThrough made params b = (prim : Primitive) (input output : Text) → filament_primitive made params ≡ Some prim → 0 < length (inputs_of prim) → 0 < length (outputs_of prim) → is_through prim input output ≡ b

-- ---- the components before one

-- a component of the name, whose output reaches an input of it
pub record IsThroughAt (comps : Design) (name output input : Text) : Type 0 where
  pub n : ℕ
  pub d : Component
  pub at : slice_get comps n ≡ Some d
  pub is_named : name ≡ d.name
  pub reaches : Reaches (through_before (take n comps)) (whole_scope (take n comps) d) input output

-- an output of component n, by its own number, reaches an input of it
pub record IsOwnReading (comps : Design) (n : ℕ) (output input : Text) : Type 0 where
  pub d : Component
  pub at : slice_get comps n ≡ Some d
  pub o : ℕ
  pub i : ℕ
  pub own_output : DataPort
  pub own_input : DataPort
  pub output_at : slice_get d.outs o ≡ Some own_output
  pub input_at : slice_get d.ins i ≡ Some own_input
  pub output_named : own_output.name ≡ output
  pub input_named : own_input.name ≡ input
  pub reaches : Reaches (through_before (take n comps)) (whole_scope (take n comps) d) own_input.name own_output.name

module _ (scope : Scope) (keeps : KeepsRules all_rules scope.comps) where
  no_primitive : (n : ℕ) (d : Component) → slice_get scope.comps n ≡ Some d → is_filament_primitive d.name ≡ false
  no_primitive n d at = left (is_filament_primitive d.name) (is_primitive d.name) (keeps n d at 0 TheSignature refl 0 F1 (omega arith)).no_primitive
    where
      left : (a b : Bool) → (a || b) ≡ false → a ≡ false
      left true b e = absurd (cc)
      left false b e = refl

  no_table_of : (made : Text) (t : Option Text) → table_name made ≡ t → is_filament_primitive made ≡ false → table_name made ≡ None
  no_table_of made None at none = at
  no_table_of made (Some table) at none = let bad : true ≡ false = sym (ap is_some at) ∙ none in absurd (cc)

  -- a component has no primitive's name
  pub no_table_at : (made output input : Text) → IsThroughAt scope.comps made output input → table_name made ≡ None
  no_table_at made output input t = no_table_of made (table_name made) refl (ap is_filament_primitive t.is_named ∙ no_primitive t.n t.d t.at)

-- ---- lists

pub last_at : {X : Type 0} (xs : List X) (x : X) → slice_get (xs ++ x ∷ []) (length xs) ≡ Some x
last_at [] x = refl
last_at (y ∷ xs) x = last_at xs x

pub front_at : {X : Type 0} (xs ys : List X) (k : ℕ) → k < length xs → slice_get (xs ++ ys) k ≡ slice_get xs k
front_at [] ys k lt = absurd (omega arith)
front_at (x ∷ xs) ys zero lt = refl
front_at (x ∷ xs) ys (suc k) lt = front_at xs ys k (omega (arith, lt))

pub unmap_at : {X Y : Type 0} (f : X → Y) (xs : List X) (k : ℕ) (y : Y) → slice_get (map f xs) k ≡ Some y → (x : X) × (slice_get xs k ≡ Some x) × (f x ≡ y)
unmap_at f [] k y at = absurd (cc)
unmap_at f (x ∷ xs) zero y at = (x, refl, same_Some (f x) y at)
unmap_at f (x ∷ xs) (suc k) y at = unmap_at f xs k y at

reverse_one : {X : Type 0} (x : X) (xs : List X) → reverse (x ∷ xs) ≡ reverse xs ++ x ∷ []
reverse_one x xs = reverse-append (x ∷ []) xs

-- ---- the relation of the components before one, component by component

module _ (name output input : Text) where
  abbrev Over : Component → Design → List Component → Type 0
  Over d before latest = Reaches (through_of latest) (whole_scope before d) input output

  seen_at : (comps : Design) (n : ℕ) (d : Component) (latest : List Component) → slice_get comps n ≡ Some d → reverse latest ≡ take n comps → name ≡ d.name → Over d (reverse latest) latest → IsThroughAt comps name output input
  seen_at comps n d latest at same is_named over =
      let whole : Over d (take n comps) latest = subst (λ (before : Design). Over d before latest) same over in
      let back : latest ≡ reverse (take n comps) = sym (reverse-reverse latest) ∙ ap reverse same in
      record { n = n; d = d; at = at; is_named = is_named; reaches = subst (λ (l : List Component). Over d (take n comps) l) back whole }

  pub told_at : (latest : List Component) → through_of latest name output input → IsThroughAt (reverse latest) name output input
  told_at [] t = absurd t
  told_at (c ∷ rest) (inl t) =
      let comps = reverse rest ++ c ∷ [] in
      let place = seen_at comps (length (reverse rest)) c rest (last_at (reverse rest) c) (sym (take_at (reverse rest) (c ∷ []) (length (reverse rest)) refl)) t.0 t.1 in
      subst (λ (l : Design). IsThroughAt l name output input) (sym (reverse_one c rest)) place
  told_at (c ∷ rest) (inr t) =
      let p = told_at rest t in
      let comps = reverse rest ++ c ∷ [] in
      let lt = slice_get_within (reverse rest) p.n p.d p.at in
      let same : take p.n comps ≡ take p.n (reverse rest) = take-append-le p.n (reverse rest) (c ∷ []) (omega (arith, lt)) in
      let there : IsThroughAt comps name output input = record {
        n = p.n;
        d = p.d;
        at = front_at (reverse rest) (c ∷ []) p.n lt ∙ p.at;
        is_named = p.is_named;
        reaches = subst (λ (l : Design). Reaches (through_before l) (whole_scope l p.d) input output) (sym same) p.reaches;
      } in
      subst (λ (l : Design). IsThroughAt l name output input) (sym (reverse_one c rest)) there

  pub tells : (latest : List Component) → IsThroughAt (reverse latest) name output input → through_of latest name output input
  tells [] p = absurd (omega (arith, slice_get_within [] p.n p.d p.at))
  tells (c ∷ rest) whole = by (tells rest) (cases_lt p.n (length (reverse rest)))
    where
      p : IsThroughAt (reverse rest ++ c ∷ []) name output input
      p = subst (λ (l : Design). IsThroughAt l name output input) (reverse_one c rest) whole

      by : (IsThroughAt (reverse rest) name output input → through_of rest name output input) → (p.n < length (reverse rest)) ⊎ (length (reverse rest) ≤ p.n) → through_of (c ∷ rest) name output input
      by go (inl lt) =
          let same : take p.n (reverse rest ++ c ∷ []) ≡ take p.n (reverse rest) = take-append-le p.n (reverse rest) (c ∷ []) (omega (arith, lt)) in
          inr (go (record {
            n = p.n;
            d = p.d;
            at = sym (front_at (reverse rest) (c ∷ []) p.n lt) ∙ p.at;
            is_named = p.is_named;
            reaches = subst (λ (l : Design). Reaches (through_before l) (whole_scope l p.d) input output) same p.reaches;
          }))
      by go (inr past) =
          let n_is : p.n ≡ length (reverse rest) = omega (arith, past, slice_get_within (reverse rest ++ c ∷ []) p.n p.d p.at, length-append (reverse rest) (c ∷ [])) in
          let d_is : p.d ≡ c = same_Some p.d c (sym p.at ∙ (ap (slice_get (reverse rest ++ c ∷ [])) n_is ∙ last_at (reverse rest) c)) in
          let same : take p.n (reverse rest ++ c ∷ []) ≡ reverse rest = ap (λ k. take k (reverse rest ++ c ∷ [])) n_is ∙ take_at (reverse rest) (c ∷ []) (length (reverse rest)) refl in
          let first : Reaches (through_before (reverse rest)) (whole_scope (reverse rest) p.d) input output = subst (λ (l : Design). Reaches (through_before l) (whole_scope l p.d) input output) same p.reaches in
          let second : Over p.d (reverse rest) rest = subst (λ (l : List Component). Over p.d (reverse rest) l) (reverse-reverse rest) first in
          inl (p.is_named ∙ ap (λ (x : Component). x.name) d_is, subst (λ (x : Component). Over x (reverse rest) rest) d_is second)

  pub through_told : (comps : Design) → through_before comps name output input → IsThroughAt comps name output input
  through_told comps t = subst (λ (l : Design). IsThroughAt l name output input) (reverse-reverse comps) (told_at (reverse comps) t)

  pub through_tells : (comps : Design) → IsThroughAt comps name output input → through_before comps name output input
  through_tells comps p = tells (reverse comps) (subst (λ (l : Design). IsThroughAt l name output input) (sym (reverse-reverse comps)) p)

-- ---- an instance

-- what is no primitive reads nothing through no components
pub reads_nothing : (scope : Scope) (i : Instance) → table_name i.made ≡ None → (p o : Text) → ReadsMade (through_before []) scope i p o → ⊥
reads_nothing scope i no_table p o (sig, told, w) = by w.depends
  where
    by : DependsWithin (through_before []) i w.output.name w.input.name → ⊥
    by (OfPrimitive prim is t) = let bad : ◌≡◌ {A = Option Primitive} None (Some prim) = sym (ap (option_and_then (λ (t : Text). prim_of t i.params)) no_table) ∙ is in absurd (cc)
    by (OfComponent t) = let nothing : through_before [] i.made w.output.name w.input.name = t in absurd nothing

module _ (names : List Text) (earlier : Earlier) (comp : FilComp) (tables : Tables) (scope : Scope) (place : IsPlace names earlier comp tables scope)
    (i : Instance) (has : Contains scope.instances i) where
  module _ (sig : Signature) (told : instance_signature scope i.name ≡ Some sig) where
    signed : signature_in scope.comps i.made i.params ≡ Some sig
    signed = sym (ap (option_and_then (λ (x : Instance). signature_in scope.comps x.made x.params)) (instance_found scope i place.shows.distinct has)) ∙ told

    of_sig : (p o : Text) → ReadsMade (through_before []) scope i p o → ReadsWithin (through_before []) i sig p o
    of_sig p o (other, there, w) = subst (λ (x : Signature). ReadsWithin (through_before []) i x p o) (same_Some other sig (sym there ∙ told)) w

    -- a primitive's
    module _ (table : Text) (of_table : table_name i.made ≡ Some table) (b : Bool) (flag : IsThrough i.made i.params b) where
      is_primitive_name : is_filament_primitive i.made ≡ true
      is_primitive_name = ap is_some of_table

      prim_signed : primitive_signature i.made i.params ≡ Some sig
      prim_signed = sym (ap (λ (t : Bool). if t then primitive_signature i.made i.params else option_and_then (bare_signature i.params) (component_named scope.comps i.made)) is_primitive_name) ∙ signed

      prim_made : (prim : Primitive) × (filament_primitive i.made i.params ≡ Some prim) × (signature_by (timing_of i.made) prim ≡ sig)
      prim_made = by (filament_primitive i.made i.params) refl prim_signed
        where
          by : (r : Option Primitive) → filament_primitive i.made i.params ≡ r → option_map (signature_by (timing_of i.made)) r ≡ Some sig
              → (prim : Primitive) × (filament_primitive i.made i.params ≡ Some prim) × (signature_by (timing_of i.made) prim ≡ sig)
          by None at e = absurd (cc)
          by (Some prim) at e = (prim, at, same_Some (signature_by (timing_of i.made) prim) sig e)

      through_is : (input output : SigPort) → Contains sig.ins input → Contains sig.outs output → (prim : Primitive) → filament_primitive i.made i.params ≡ Some prim → is_through prim input.name output.name ≡ b
      through_is input output ins outs prim is =
          let same : prim_made.0 ≡ prim = same_Some prim_made.0 prim (sym prim_made.1 ∙ is) in
          let by_prim : signature_by (timing_of i.made) prim ≡ sig = ap (signature_by (timing_of i.made)) (sym same) ∙ prim_made.2 in
          let has_ins = pin_within input_port (inputs_of prim) input (subst (λ (s : Signature). Contains s.ins input) (sym by_prim) ins) in
          let has_outs = pin_within (output_port (timing_of i.made)) (outputs_of prim) output (subst (λ (s : Signature). Contains s.outs output) (sym by_prim) outs) in
          flag prim input.name output.name is has_ins has_outs

      pub reads_all : b ≡ true → (p o : Text) → Below (ReadsAll i.name sig) (length sig.outs) p o ↔ ReadsMade (through_before []) scope i p o
      reads_all on p o = (from, to)
        where
          from : Below (ReadsAll i.name sig) (length sig.outs) p o → ReadsMade (through_before []) scope i p o
          from (k, lt, r) =
              let ins = contains_of sig.ins r.reads.input (in_at sig.ins r.k r.reads.input r.reads.taken) in
              let outs = contains_of sig.outs r.output (in_at sig.outs k r.output r.given) in (
                sig,
                told,
                record {
                  input = r.reads.input;
                  output = r.output;
                  ins = ins;
                  outs = outs;
                  depends = OfPrimitive prim_made.0 prim_made.1 (through_is r.reads.input r.output ins outs prim_made.0 prim_made.1 ∙ on);
                  is_port = r.reads.is_port;
                  is_other = r.reads.is_other;
                },
              )

          to : ReadsMade (through_before []) scope i p o → Below (ReadsAll i.name sig) (length sig.outs) p o
          to reads =
              let w = of_sig p o reads in
              let out = at_of sig.outs w.output (in_of sig.outs w.output w.outs) in
              let inn = at_of sig.ins w.input (in_of sig.ins w.input w.ins) in
              (out.0, slice_get_within sig.outs out.0 w.output out.1, record { output = w.output; given = out.1; k = inn.0; reads = record { input = w.input; taken = inn.1; is_port = w.is_port; is_other = w.is_other } })

    -- an earlier component's
    module _ (no_table : table_name i.made ≡ None) (distinct : AreDistinct earlier.names) (n : ℕ) (at_name : slice_get earlier.names n ≡ Some i.made) where
      name_at : slice_get (map (λ (c : Component). c.name) scope.comps) n ≡ Some i.made
      name_at = ap (λ (ts : List Text). slice_get ts n) (sym place.shows.components.names) ∙ at_name

      there : (d : Component) × (slice_get scope.comps n ≡ Some d) × (d.name ≡ i.made)
      there = unmap_at (λ (c : Component). c.name) scope.comps n i.made name_at

      sig_is : component_signature there.0 ≡ sig
      sig_is =
          let not_primitive : is_filament_primitive i.made ≡ false = ap is_some no_table in
          let by_name : option_and_then (bare_signature i.params) (component_named scope.comps i.made) ≡ Some sig = sym (ap (λ (t : Bool). if t then primitive_signature i.made i.params else option_and_then (bare_signature i.params) (component_named scope.comps i.made)) not_primitive) ∙ signed in
          let found : component_named scope.comps i.made ≡ Some there.0 = find_at_place (λ (c : Component). c.name) scope.comps earlier.names i.made n place.shows.components.names distinct at_name ∙ there.1 in
          bare i.params (sym (ap (option_and_then (bare_signature i.params)) found) ∙ by_name)
        where
          bare : (params : List ℕ) → bare_signature params there.0 ≡ Some sig → component_signature there.0 ≡ sig
          bare [] e = same_Some (component_signature there.0) sig e
          bare (x ∷ params) e = absurd (cc)

      -- a port of the signature is the component's
      out_port_at : (k : ℕ) (p : SigPort) → slice_get sig.outs k ≡ Some p → (q : DataPort) × (slice_get there.0.outs k ≡ Some q) × (q.name ≡ p.name)
      out_port_at k p at =
          let m = unmap_at (sig_port there.0.events) there.0.outs k p (ap (λ (s : Signature). slice_get s.outs k) sig_is ∙ at) in
          (m.0, m.1, ap (λ (x : SigPort). x.name) m.2)

      in_port_at : (k : ℕ) (p : SigPort) → slice_get sig.ins k ≡ Some p → (q : DataPort) × (slice_get there.0.ins k ≡ Some q) × (q.name ≡ p.name)
      in_port_at k p at =
          let m = unmap_at (sig_port there.0.events) there.0.ins k p (ap (λ (s : Signature). slice_get s.ins k) sig_is ∙ at) in
          (m.0, m.1, ap (λ (x : SigPort). x.name) m.2)

      abbrev ReachesOwn : Text → Text → Type 0
      ReachesOwn output input = Reaches (through_before (take n scope.comps)) (whole_scope (take n scope.comps) there.0) input output

      own_reach : (output input : Text) → IsThroughAt scope.comps i.made output input → ReachesOwn output input
      own_reach output input q =
          let named_q : slice_get earlier.names q.n ≡ Some i.made = ap (λ (ts : List Text). slice_get ts q.n) place.shows.components.names ∙ (slice_get-map (λ (c : Component). c.name) scope.comps q.n ∙ (ap (option_map (λ (c : Component). c.name)) q.at ∙ ap Some (sym q.is_named))) in
          let n_is : q.n ≡ n = same_number earlier.names q.n n i.made distinct named_q at_name in
          let d_is : q.d ≡ there.0 = same_Some q.d there.0 (sym q.at ∙ (ap (slice_get scope.comps) n_is ∙ there.1)) in
          subst₂ (λ (k : ℕ) (d : Component). Reaches (through_before (take k scope.comps)) (whole_scope (take k scope.comps) d) input output) n_is d_is q.reaches

      -- a reading through the instance is one of the component's own ports
      pub own_reading : (output input : SigPort) → Contains sig.outs output → Contains sig.ins input → IsThroughAt scope.comps i.made output.name input.name → IsOwnReading scope.comps n output.name input.name
      own_reading output input outs ins q =
          let out = at_of sig.outs output (in_of sig.outs output outs) in
          let inn = at_of sig.ins input (in_of sig.ins input ins) in
          let own_out = out_port_at out.0 output out.1 in
          let own_in = in_port_at inn.0 input inn.1 in
          record {
            d = there.0;
            at = there.1;
            o = out.0;
            i = inn.0;
            own_output = own_out.0;
            own_input = own_in.0;
            output_at = own_out.1;
            input_at = own_in.1;
            output_named = own_out.2;
            input_named = own_in.2;
            reaches = subst₂ (λ (a b : Text). ReachesOwn a b) (sym own_out.2) (sym own_in.2) (own_reach output.name input.name q);
          }

  -- a primitive of which no output depends on any input
  pub reads_none : (table : Text) → table_name i.made ≡ Some table → IsThrough i.made i.params false → (p o : Text) → ReadsMade (through_before []) scope i p o → ⊥
  reads_none table of_table flag p o (sig, told, w) = by w.depends
    where
      by : DependsWithin (through_before []) i w.output.name w.input.name → ⊥
      by (OfPrimitive prim is t) = let bad : true ≡ false = sym t ∙ through_is sig told table of_table false flag w.input w.output w.ins w.outs prim is in absurd (cc)
      by (OfComponent t) = let nothing : through_before [] i.made w.output.name w.input.name = t in absurd nothing
