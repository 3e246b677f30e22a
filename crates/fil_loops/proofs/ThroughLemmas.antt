-- What is read through instances of components is what the graphs inside them say.
use Rattle.std.proofs.Common.{◌≡◌, ◌⊎◌, inl, inr, ℕ, zero, suc, ◌+◌, ◌-◌, ◌<◌, ◌≤◌, Bool, false, List, [], ◌∷◌, Option, Some, None, is_some, Contains, length, map, slice_get, take, refl, sym, ap, ap₂, subst, subst₂, ◌∙◌, if◌then◌else◌, arith}
use Rattle.std.specs.Option.{option_and_then}
use Rattle.std.specs.Prelude.{IsSome}
use Rattle.std.proofs.lemmas.List.{length-map}
use Rattle.std.proofs.lemmas.Option.{same_Some, slice_get_within}
use Rattle.hw_cells.specs.PartGraph.{Leads}
use Rattle.hw_graph.proofs.MemberLemmas.{In, in_at, at_of, in_of, contains_of, from_flat_map}
use Rattle.hw_names.proofs.NameLemmas.{KeepsTexts-append}
use Rattle.hw_names.specs.Name.{Text, AreDistinct, dotted}
use Rattle.hw_texts.proofs.TextLemmas.{get_right}
use Rattle.fil_ast.specs.Items.{TheStatement}
use Rattle.fil_ast.specs.Naming.{instance_names}
use Rattle.fil_ast.specs.Primitives.{is_filament_primitive, primitive_signature}
use Rattle.fil_ast.specs.Rules.{F3, KeepsComponent, KeepsRules, all_rules}
use Rattle.fil_ast.specs.Scope.{Instance, Scope, bare_signature, component_named, instance_signature, instances_at, signature_in}
use Rattle.fil_ast.specs.Signature.{Signature, component_signature, sig_port}
use Rattle.fil_ast.specs.Tree.{Both, Call, Component, Connect, DataPort, Design, New, Statement}
use Rattle.fil_ast.specs.Wires.{ByArgument, ByConnection, ByInstance, DependsWithin, OfComponent, OfPrimitive, Reaches, ReadsByInstance, ReadsPort, through_before, whole_scope}
use Rattle.fil_ast.specs.declared.tree.FilComp.{FilComp}
use Rattle.fil_place.proofs.GeneralLemmas.{mapped_at, unmapped}
use Rattle.fil_loops.proofs.InstanceLemmas.{IsOwnReading, IsThroughAt, front_at, no_table_at, own_reading, through_tells, through_told}
use Rattle.fil_place.proofs.FindLemmas.{find_at_place}
use Rattle.fil_loops.proofs.ReadingLemmas.{instance_found}
use Rattle.fil_loops.specs.inside.Cells.{IsInsideAt, ReadsInside}
use Rattle.fil_loops.specs.inside.PortsOfParts.{AreParts, IsMadeOf}
use Rattle.fil_loops.specs.inside.Reached.{ReadsOwn}
use Rattle.fil_loops.specs.OwnPorts.{input_names, output_names, own_port_names}
use Rattle.fil_place.specs.Tables.{IsPlace}
use Rattle.fil_loops.specs.Wiring.{IsInside, ShowInsides}
use Rattle.fil_loops.specs.declared.inside.Inside.{Inside}
use Rattle.fil_place.specs.declared.earlier.Earlier.{Earlier}
use Rattle.fil_place.specs.declared.tables.Tables.{Tables}

pub there_at : {X : Type 0} (xs : List X) (k : ℕ) → k < length xs → (x : X) × (slice_get xs k ≡ Some x)
there_at [] k lt = absurd (omega arith)
there_at (x ∷ xs) zero lt = (x, refl)
there_at (x ∷ xs) (suc k) lt = there_at xs k (omega (arith, lt))

-- ---- what an instance is made of

-- an instance of a component that keeps F3 has a signature
instance_signed : (comps : Design) (c : Component) → KeepsComponent all_rules comps c → (i : Instance) → In (whole_scope comps c).instances i → IsSome (signature_in comps i.made i.params)
instance_signed comps c keeps i has = let r = from_flat_map instances_at c.body i has in of (r.0) (at_of c.body r.0 r.1) (r.2)
  where
    of : (s : Statement) → (k : ℕ) × (slice_get c.body k ≡ Some s) → In (instances_at s) i → IsSome (signature_in comps i.made i.params)
    of (New name made params) (k, at) (inl e) =
        subst (λ (x : Instance). IsSome (signature_in comps x.made x.params)) e (keeps (suc k) (TheStatement (take k c.body) (New name made params)) (inl (New name made params, at, refl)) 2 F3 (omega arith))
    of (New name made params) (k, at) (inr none) = absurd none
    of (Both name made params gives) (k, at) (inl e) =
        subst (λ (x : Instance). IsSome (signature_in comps x.made x.params)) e (keeps (suc k) (TheStatement (take k c.body) (Both name made params gives)) (inl (Both name made params gives, at, refl)) 2 F3 (omega arith)).0
    of (Both name made params gives) (k, at) (inr none) = absurd none
    of (Call name inst gives) at none = absurd none
    of (Connect output value) at none = absurd none

signed_by : (s : Option Signature) → IsSome s → (sig : Signature) × (s ≡ Some sig)
signed_by None some = absurd (cc)
signed_by (Some sig) some = (sig, refl)

-- an instance that has a signature, and is made of a component, has the component's
bare : (params : List ℕ) (d : Component) (sig : Signature) → bare_signature params d ≡ Some sig → bare_signature params d ≡ Some (component_signature d)
bare [] d sig e = refl
bare (p ∷ params) d sig e = absurd (cc)

-- ---- the ports of a component, by their numbers

-- a port that is an output of the component
pub record IsOutput (c : Component) (number inputs : ℕ) (name : Text) : Type 0 where
  pub o : ℕ
  pub output : DataPort
  pub is : number ≡ inputs + o
  pub at : slice_get c.outs o ≡ Some output
  pub named : output.name ≡ name

own_output_at : (c : Component) (number inputs : ℕ) (name : Text) → inputs ≡ length c.ins → inputs ≤ number → slice_get (own_port_names c) number ≡ Some name → IsOutput c number inputs name
own_output_at c number inputs name size past at =
    let o = number - inputs in
    let number_is : number ≡ inputs + o = omega (arith, past) in
    let names : number ≡ length (input_names c) + o = number_is ∙ ap (λ (k : ℕ). k + o) (size ∙ sym (length-map c.ins (λ (p : DataPort). p.name))) in
    let there : slice_get (output_names c) o ≡ Some name = sym (get_right (input_names c) (output_names c) o) ∙ ap (slice_get (own_port_names c)) (sym names) ∙ at in
    let port = unmapped (λ (p : DataPort). p.name) c.outs o name there in
    record { o = o; output = port.0; is = number_is; at = port.1; named = port.2 }

own_input_at : (c : Component) (number : ℕ) (name : Text) → number < length c.ins → slice_get (own_port_names c) number ≡ Some name → (input : DataPort) × (slice_get c.ins number ≡ Some input) × (input.name ≡ name)
own_input_at c number name lt at =
    unmapped (λ (p : DataPort). p.name) c.ins number name (sym (front_at (input_names c) (output_names c) number (omega (arith, lt, length-map c.ins (λ (p : DataPort). p.name)))) ∙ at)

input_name_at : (c : Component) (i : ℕ) (input : DataPort) → slice_get c.ins i ≡ Some input → slice_get (own_port_names c) i ≡ Some input.name
input_name_at c i input at = KeepsTexts-append (input_names c) (output_names c) i input.name (mapped_at (λ (p : DataPort). p.name) c.ins i input at)

output_name_at : (c : Component) (inputs o : ℕ) (output : DataPort) → inputs ≡ length c.ins → slice_get c.outs o ≡ Some output → slice_get (own_port_names c) (inputs + o) ≡ Some output.name
output_name_at c inputs o output size at =
    ap (λ (n : ℕ). slice_get (own_port_names c) (n + o)) (size ∙ sym (length-map c.ins (λ (p : DataPort). p.name)))
    ∙ get_right (input_names c) (output_names c) o
    ∙ mapped_at (λ (p : DataPort). p.name) c.outs o output at

-- a reading that goes through no instance of a component
pub by_own : (through : Text → Text → Text → Type 0) (scope : Scope) (port other : Text) → ReadsPort (through_before []) scope port other → ReadsPort through scope port other
by_own through scope port other (ByArgument a) = ByArgument a
by_own through scope port other (ByConnection a) = ByConnection a
by_own through scope port other (ByInstance r) =
    ByInstance (record {
      instance = r.instance;
      has = r.has;
      signature = r.signature;
      signed = r.signed;
      input = r.input;
      output = r.output;
      has_input = r.has_input;
      has_output = r.has_output;
      depends = depends r.instance r.output.name r.input.name r.depends;
      is_port = r.is_port;
      is_other = r.is_other;
    })
  where
    depends : (i : Instance) (output input : Text) → DependsWithin (through_before []) i output input → DependsWithin through i output input
    depends i output input (OfPrimitive prim is t) = OfPrimitive prim is t
    depends i output input (OfComponent t) = let nothing : through_before [] i.made output input = t in absurd nothing

module _ (comps : Design) (c : Component) (names : List Text) (earlier : Earlier) (comp : FilComp) (tables : Tables) (place : IsPlace names earlier comp tables (whole_scope comps c)) (distinct : AreDistinct earlier.names) (keeps : KeepsRules all_rules comps)
    (parts : List (Option ℕ)) (are : AreParts comps (whole_scope comps c).instances parts) (insides : List Inside) (shows : ShowInsides comps insides) where
  abbrev scope : Scope
  scope = whole_scope comps c

  abbrev Inner : Text → Text → Type 0
  Inner = ReadsInside parts insides (instance_names scope.instances)

  inner_reading : (port other : Text) (r : ReadsByInstance (through_before comps) scope port other) → through_before comps r.instance.made r.output.name r.input.name → Inner port other
  inner_reading port other r t = record {
    instance = k.0;
    inst = i.name;
    instance_at = mapped_at (λ (x : Instance). x.name) scope.instances k.0 i k.1;
    inside = inside;
    known = (q.n, (are k.0 q.n).1 (record { instance = i; part = q.d; instance_at = k.1; part_at = q.at; named = sym q.is_named }), own.1);
    output = inside.graph.inputs + o.o;
    input = o.i;
    is_output = omega arith;
    is_input = omega (arith, slice_get_within o.d.ins o.i o.own_input o.input_at, shown.inputs);
    from = leads.node;
    to = leads.other;
    from_output = record { name = r.output.name; name_at = output_there; is_port = r.is_port; is_node = leads.is_node };
    to_input = record { name = r.input.name; name_at = input_there; is_port = r.is_other; is_node = leads.is_other };
    leads = leads.leads;
  }
    where
      i : Instance
      i = r.instance

      q : IsThroughAt comps i.made r.output.name r.input.name
      q = through_told i.made r.output.name r.input.name comps t

      k : (n : ℕ) × (slice_get scope.instances n ≡ Some i)
      k = at_of scope.instances i (in_of scope.instances i r.has)

      at_name : slice_get earlier.names q.n ≡ Some i.made
      at_name = ap (λ (ts : List Text). slice_get ts q.n) place.shows.components.names ∙ mapped_at (λ (x : Component). x.name) comps q.n q.d q.at ∙ ap Some (sym q.is_named)

      o : IsOwnReading comps q.n r.output.name r.input.name
      o = own_reading names earlier comp tables scope place i r.has r.signature r.signed (no_table_at scope keeps i.made r.output.name r.input.name q) distinct q.n at_name r.output r.input r.has_output r.has_input q

      own : (l : Inside) × (slice_get insides q.n ≡ Some l)
      own = there_at insides q.n (omega (arith, slice_get_within comps q.n q.d q.at, shows.all))

      inside : Inside
      inside = own.0

      shown : IsInside (take q.n comps) o.d inside
      shown = shows.each q.n o.d inside o.at own.1

      input_there : slice_get inside.names o.i ≡ Some r.input.name
      input_there = ap (λ (ts : List Text). slice_get ts o.i) shown.names ∙ input_name_at o.d o.i o.own_input o.input_at ∙ ap Some o.input_named

      output_there : slice_get inside.names (inside.graph.inputs + o.o) ≡ Some r.output.name
      output_there =
          ap (λ (ts : List Text). slice_get ts (inside.graph.inputs + o.o)) shown.names
          ∙ output_name_at o.d inside.graph.inputs o.o o.own_output shown.inputs o.output_at
          ∙ ap Some o.output_named

      leads : Leads inside.graph (inside.graph.inputs + o.o) o.i
      leads = (shown.leads o.i o.o o.own_input o.own_output o.input_at o.output_at).1 o.reaches

  -- a reading goes through an instance of a component, or does without
  pub own_or_inner : (port other : Text) → ReadsPort (through_before comps) scope port other → ReadsOwn comps c port other ⊎ Inner port other
  own_or_inner port other (ByArgument a) = inl (ByArgument a)
  own_or_inner port other (ByConnection a) = inl (ByConnection a)
  own_or_inner port other (ByInstance r) = by r.depends
    where
      by : DependsWithin (through_before comps) r.instance r.output.name r.input.name → ReadsOwn comps c port other ⊎ Inner port other
      by (OfComponent t) = inr (inner_reading port other r t)
      by (OfPrimitive prim is through) =
          inl (ByInstance (record {
            instance = r.instance;
            has = r.has;
            signature = r.signature;
            signed = r.signed;
            input = r.input;
            output = r.output;
            has_input = r.has_input;
            has_output = r.has_output;
            depends = OfPrimitive prim is through;
            is_port = r.is_port;
            is_other = r.is_other;
          }))

  -- what an instance is made of
  pub record IsKnown (k : ℕ) (inst : Text) (inside : Inside) : Type 0 where
    pub i : Instance
    pub n : ℕ
    pub d : Component
    pub instance_at : slice_get scope.instances k ≡ Some i
    pub named : i.name ≡ inst
    pub part_at : slice_get comps n ≡ Some d
    pub made : d.name ≡ i.made
    pub shown : IsInside (take n comps) d inside

  pub known_of : (k : ℕ) (inst : Text) (inside : Inside) → slice_get (instance_names scope.instances) k ≡ Some inst → IsInsideAt parts insides k inside → IsKnown k inst inside
  known_of k inst inside at (part, made, there) =
      let p : IsMadeOf comps scope.instances k part = (are k part).0 made in
      let own = unmapped (λ (x : Instance). x.name) scope.instances k inst at in
      let same : own.0 ≡ p.instance = same_Some own.0 p.instance (sym own.1 ∙ p.instance_at) in
      record {
        i = p.instance;
        n = part;
        d = p.part;
        instance_at = p.instance_at;
        named = sym (ap (λ (x : Instance). x.name) same) ∙ own.2;
        part_at = p.part_at;
        made = p.named;
        shown = shows.each part p.part inside p.part_at there;
      }

  module _ (own_keeps : KeepsComponent all_rules comps c) where
    -- the signature of an instance of a component is the component's
    signature_is : (i : Instance) → Contains scope.instances i → (n : ℕ) (d : Component) → slice_get comps n ≡ Some d → d.name ≡ i.made → is_filament_primitive i.made ≡ false → instance_signature scope i.name ≡ Some (component_signature d)
    signature_is i has n d at named no_primitive =
        ap (option_and_then (λ (x : Instance). signature_in comps x.made x.params)) (instance_found scope i place.shows.distinct has)
        ∙ by_name
        ∙ (let some = signed_by (signature_in comps i.made i.params) (instance_signed comps c own_keeps i (in_of scope.instances i has)) in
        bare i.params d some.0 (sym by_name ∙ some.1))
      where
        found : component_named comps i.made ≡ Some d
        found =
            let at_name : slice_get earlier.names n ≡ Some i.made = ap (λ (ts : List Text). slice_get ts n) place.shows.components.names ∙ mapped_at (λ (x : Component). x.name) comps n d at ∙ ap Some named in
            find_at_place (λ (x : Component). x.name) comps earlier.names i.made n place.shows.components.names distinct at_name ∙ at

        by_name : signature_in comps i.made i.params ≡ bare_signature i.params d
        by_name =
            ap (λ (t : Bool). if t then primitive_signature i.made i.params else option_and_then (bare_signature i.params) (component_named comps i.made)) no_primitive
            ∙ ap (option_and_then (bare_signature i.params)) found

    pub by_inner : (port other : Text) → Inner port other → ReadsPort (through_before comps) scope port other
    by_inner port other r =
        subst₂ (λ (p o : Text). ReadsPort (through_before comps) scope p o) port_is other_is
        (ByInstance (record {
          instance = i;
          has = has;
          signature = component_signature d;
          signed = signature_is i has known.n d known.part_at known.made (ap is_some (no_table_at scope keeps i.made output.output.name input.0.name at));
          input = sig_port d.events input.0;
          output = sig_port d.events output.output;
          has_input = contains_of (map (sig_port d.events) d.ins) (sig_port d.events input.0) (in_at (map (sig_port d.events) d.ins) r.input (sig_port d.events input.0) (mapped_at (sig_port d.events) d.ins r.input input.0 input.1));
          has_output = contains_of (map (sig_port d.events) d.outs) (sig_port d.events output.output) (in_at (map (sig_port d.events) d.outs) output.o (sig_port d.events output.output) (mapped_at (sig_port d.events) d.outs output.o output.output output.at));
          depends = OfComponent (through_tells i.made output.output.name input.0.name comps at);
          is_port = refl;
          is_other = refl;
        }))
      where
        known : IsKnown r.instance r.inst r.inside
        known = known_of r.instance r.inst r.inside r.instance_at r.known

        i : Instance
        i = known.i

        d : Component
        d = known.d

        has : Contains scope.instances i
        has = contains_of scope.instances i (in_at scope.instances r.instance i known.instance_at)

        output : IsOutput d r.output r.inside.graph.inputs r.from_output.name
        output = own_output_at d r.output r.inside.graph.inputs r.from_output.name known.shown.inputs r.is_output (ap (λ (ts : List Text). slice_get ts r.output) (sym known.shown.names) ∙ r.from_output.name_at)

        input : (p : DataPort) × (slice_get d.ins r.input ≡ Some p) × (p.name ≡ r.to_input.name)
        input = own_input_at d r.input r.to_input.name (omega (arith, r.is_input, known.shown.inputs)) (ap (λ (ts : List Text). slice_get ts r.input) (sym known.shown.names) ∙ r.to_input.name_at)

        reaches : Reaches (through_before (take known.n comps)) (whole_scope (take known.n comps) d) (input.0).name output.output.name
        reaches =
            (known.shown.leads r.input output.o input.0 output.output input.1 output.at).0
            (record {
              node = r.from;
              other = r.to;
              is_node = ap (slice_get r.inside.graph.nodes.items) (sym output.is) ∙ r.from_output.is_node;
              is_other = r.to_input.is_node;
              leads = r.leads;
            })

        at : IsThroughAt comps i.made output.output.name (input.0).name
        at = record { n = known.n; d = d; at = known.part_at; is_named = sym known.made; reaches = reaches }

        port_is : dotted i.name output.output.name ≡ port
        port_is = ap₂ dotted known.named output.named ∙ r.from_output.is_port

        other_is : dotted i.name (input.0).name ≡ other
        other_is = ap₂ dotted known.named input.2 ∙ r.to_input.is_port
