-- What a component's ports read is what its statements say, one by one.
use Rattle.std.proofs.Common.{◌≡◌, inl, inr, ℕ, ◌+◌, List, [], ◌∷◌, Option, Some, None, Vec, Global, Contains, length, map, slice_get, option_map, refl, sym, ap, ap₂, subst, ◌∙◌, arith}
use Rattle.std.specs.List.{flat_map}
use Rattle.std.specs.Prelude.{All}
use Rattle.std.proofs.lemmas.List.{length-map}
use Rattle.std.proofs.lemmas.List.Elements.{All-nil, All-cons}
use Rattle.std.proofs.lemmas.Option.{same_Some, slice_get_within, slice_get-map}
use Rattle.hw_graph.proofs.MemberLemmas.{In, in_at, at_of, in_of, contains_of, in_flat_map, from_flat_map}
use Rattle.hw_graph.specs.declared.groups.Entry.{Entry}
use Rattle.hw_names.proofs.NameLemmas.{text_of-slice_get}
use Rattle.hw_names.specs.Name.{Text, AreDistinct, dotted, text_of}
use Rattle.hw_names.specs.declared.names.NameId.{NameId}
use Rattle.fil_ast.specs.Naming.{instance_names}
use Rattle.fil_ast.specs.Scope.{Scope, Instance, Invocation, instances_at, invocations_at, instance_named, invocation_named, instance_signature}
use Rattle.fil_ast.specs.Signature as tree
use Rattle.fil_ast.specs.Signature.{Signature}
use Rattle.fil_ast.specs.Tree.{Statement, New, Call, Both, Connect, Component, Design, ValueTree, InputValue, OutputValue, Literal, component_tree, giving, statement_tree, value_tree}
use Rattle.fil_ast.specs.Wires.{IsPortOf, OwnInput, ByInvocation, ReadsPort, ByArgument, ByConnection, ByInstance, through_before, whole_scope}
use Rattle.fil_ast.specs.declared.tree.FilComp.{FilComp}
use Rattle.fil_ast.specs.declared.tree.Stmt.{Stmt}
use Rattle.fil_ast.specs.declared.tree.Stmt.TheVariants as stmts
use Rattle.fil_ast.specs.declared.tree.Time.{Time}
use Rattle.fil_ast.specs.declared.tree.Value.{Value}
use Rattle.fil_ast.specs.declared.tree.Value.TheVariants as values
use Rattle.fil_sig.specs.Seen.{seen, seen_port}
use Rattle.fil_sig.specs.declared.time_sig.SigPort.{SigPort}
use Rattle.fil_sig.specs.declared.time_sig.TimeSig.{TimeSig}
use Rattle.fil_loops.specs.inside.PortGraph.{Adds, Below, HasReading, IsPair}
use Rattle.fil_loops.specs.inside.Reached.{HasOwnReadings, ReadsOwn}
use Rattle.fil_loops.specs.declared.graph.PortGraph.{PortGraph}
use Rattle.fil_loops.specs.inside.Readings.{port_of_value, ReadsArgument, ReadsAll, ReadsEach, ReadsGiven, ReadsMade, ReadsValue, ReadsBy, ReadsAt}
use Rattle.fil_place.proofs.FindLemmas.{find_at_place}
use Rattle.fil_loops.proofs.PortGraphLemmas.{adds_none, adds_same, below_more, below_skip}

-- ---- the port of a value

pub port_told : (scope : Scope) (value : ValueTree) (other : Text) → IsPortOf scope value other → port_of_value scope value ≡ Some other
port_told scope value other (OwnInput name) = refl
port_told scope value other (ByInvocation name port v is) = ap (option_map (λ (x : Invocation). dotted x.inst port)) is

pub port_of : (scope : Scope) (value : ValueTree) (other : Text) → port_of_value scope value ≡ Some other → IsPortOf scope value other
port_of scope (InputValue name) other e = subst (IsPortOf scope (InputValue name)) (same_Some name other e) (OwnInput name)
port_of scope (OutputValue name port) other e = by (invocation_named scope.invocations name) refl e
  where
    by : (o : Option Invocation) → invocation_named scope.invocations name ≡ o → option_map (λ (x : Invocation). dotted x.inst port) o ≡ Some other → IsPortOf scope (OutputValue name port) other
    by None at told = absurd (cc)
    by (Some v) at told = subst (IsPortOf scope (OutputValue name port)) (same_Some (dotted v.inst port) other told) (ByInvocation name port v at)
port_of scope (Literal width value) other e = absurd (cc)

-- ---- statements

module _ (through : Text → Text → Text → Type 0) (earlier : Design) (c : Component) (port other : Text) where
  abbrev scope : Scope
  scope = whole_scope earlier c

  said : (s : Statement) → In c.body s → ReadsBy through scope s port other → Below (ReadsAt through scope c.body) (length c.body) port other
  said s has by = let place = at_of c.body s has in (place.0, slice_get_within c.body place.0 s place.1, (s, place.1, by))

  said_invocation : (v : Invocation) → In (flat_map invocations_at c.body) v → ReadsGiven scope v.inst v.gives.args port other → Below (ReadsAt through scope c.body) (length c.body) port other
  said_invocation v has given = let r = from_flat_map invocations_at c.body v has in of (r.0) (r.1) (r.2)
    where
      of : (s : Statement) → In c.body s → In (invocations_at s) v → Below (ReadsAt through scope c.body) (length c.body) port other
      of (Call name inst gives) there (inl e) = said (Call name inst gives) there (subst (λ (x : Invocation). ReadsGiven scope x.inst x.gives.args port other) (sym e) given)
      of (Call name inst gives) there (inr none) = absurd none
      of (Both name made params gives) there (inl e) = said (Both name made params gives) there (inr (subst (λ (x : Invocation). ReadsGiven scope x.inst x.gives.args port other) (sym e) given))
      of (Both name made params gives) there (inr none) = absurd none
      of (New name made params) there none = absurd none
      of (Connect output value) there none = absurd none

  said_instance : (i : Instance) → In (flat_map instances_at c.body) i → ReadsMade through scope i port other → Below (ReadsAt through scope c.body) (length c.body) port other
  said_instance i has reads = let r = from_flat_map instances_at c.body i has in of (r.0) (r.1) (r.2)
    where
      of : (s : Statement) → In c.body s → In (instances_at s) i → Below (ReadsAt through scope c.body) (length c.body) port other
      of (New name made params) there (inl e) = said (New name made params) there (subst (λ (x : Instance). ReadsMade through scope x port other) (sym e) reads)
      of (New name made params) there (inr none) = absurd none
      of (Both name made params gives) there (inl e) = said (Both name made params gives) there (inl (subst (λ (x : Instance). ReadsMade through scope x port other) (sym e) reads))
      of (Both name made params gives) there (inr none) = absurd none
      of (Call name inst gives) there none = absurd none
      of (Connect output value) there none = absurd none

  pub by_statements : ReadsPort through scope port other → Below (ReadsAt through scope c.body) (length c.body) port other
  by_statements (ByArgument r) =
      said_invocation r.invocation (in_of (flat_map invocations_at c.body) r.invocation r.invoked)
      (r.signature, r.signed, r.place, record { arg = r.value; input = r.input; given = r.given; taken = r.taken; is_port = r.is_port; is_other = port_told scope r.value other r.is_other })
  by_statements (ByConnection r) = said (Connect port r.value) (in_of c.body (Connect port r.value) r.connected) (refl, port_told scope r.value other r.is_other)
  by_statements (ByInstance r) =
      said_instance r.instance (in_of (flat_map instances_at c.body) r.instance r.has)
      (r.signature, r.signed, record { input = r.input; output = r.output; ins = r.has_input; outs = r.has_output; depends = r.depends; is_port = r.is_port; is_other = r.is_other })

  of_given : (v : Invocation) → In (flat_map invocations_at c.body) v → ReadsGiven scope v.inst v.gives.args port other → ReadsPort through scope port other
  of_given v has (sig, signed, k, r) =
      ByArgument
      (record {
        invocation = v;
        invoked = contains_of (flat_map invocations_at c.body) v has;
        signature = sig;
        signed = signed;
        place = k;
        value = r.arg;
        given = r.given;
        input = r.input;
        taken = r.taken;
        is_port = r.is_port;
        is_other = port_of scope r.arg other r.is_other;
      })

  of_made : (i : Instance) → In (flat_map instances_at c.body) i → ReadsMade through scope i port other → ReadsPort through scope port other
  of_made i has (sig, signed, r) =
      ByInstance
      (record {
        instance = i;
        has = contains_of (flat_map instances_at c.body) i has;
        signature = sig;
        signed = signed;
        input = r.input;
        output = r.output;
        has_input = r.ins;
        has_output = r.outs;
        depends = r.depends;
        is_port = r.is_port;
        is_other = r.is_other;
      })

  of_statement : (s : Statement) → In c.body s → ReadsBy through scope s port other → ReadsPort through scope port other
  of_statement (New name made params) has by = of_made _ (in_flat_map instances_at c.body (New name made params) _ has (inl refl)) by
  of_statement (Call name inst gives) has by = of_given _ (in_flat_map invocations_at c.body (Call name inst gives) _ has (inl refl)) by
  of_statement (Both name made params gives) has (inl by) = of_made _ (in_flat_map instances_at c.body (Both name made params gives) _ has (inl refl)) by
  of_statement (Both name made params gives) has (inr by) = of_given _ (in_flat_map invocations_at c.body (Both name made params gives) _ has (inl refl)) by
  of_statement (Connect output value) has by =
      subst (λ (x : Text). ReadsPort through scope x other) by.0
      (ByConnection (record { value = value; connected = contains_of c.body (Connect output value) has; is_other = port_of scope value other by.1 }))

  pub of_statements : Below (ReadsAt through scope c.body) (length c.body) port other → ReadsPort through scope port other
  of_statements (k, lt, (s, at, by)) = of_statement s (in_at c.body k s at) by

-- all statements make the readings of the component but those through instances of components
pub whole_graph : (comps : Design) (names : List Text) (comp : FilComp) (start g : PortGraph) → start.entries.items ≡ []
    → Adds (Below (ReadsAt (through_before []) (whole_scope comps (component_tree names comp)) (component_tree names comp).body) (length comp.body.items)) start g → HasOwnReadings comps (component_tree names comp) g
whole_graph comps names comp start g none adds port other = (to, from)
  where
    tree : Component
    tree = component_tree names comp

    count : length tree.body ≡ length comp.body.items
    count = length-map comp.body.items (statement_tree names)

    nothing : HasReading start port other → ⊥
    nothing h = let has = subst (λ (l : List Entry). Contains l h.entry) none h.there in absurd (omega (arith, has.1))

    to : HasReading g port other → ReadsOwn comps tree port other
    to h = elim ((adds.has port other).0 h) [
      | inl old ↦ absurd (nothing old)
      | inr (k, lt, said) ↦ of_statements (through_before []) comps tree port other (k, omega (arith, lt, count), said)
    ]

    from : ReadsOwn comps tree port other → HasReading g port other
    from reads = let s = by_statements (through_before []) comps tree port other reads in (adds.has port other).1 (inr (s.0, omega (arith, s.1, count), s.2))

-- an instance is found by its name
pub instance_found : (scope : Scope) (i : Instance) → AreDistinct (instance_names scope.instances) → Contains scope.instances i → instance_named scope.instances i.name ≡ Some i
instance_found scope i distinct has =
    let place = at_of scope.instances i (in_of scope.instances i has) in
    find_at_place (λ (x : Instance). x.name) scope.instances (instance_names scope.instances) i.name place.0 refl distinct (named scope.instances place.0 place.1) ∙ place.1
  where
    named : (xs : List Instance) (k : ℕ) → slice_get xs k ≡ Some i → slice_get (instance_names xs) k ≡ Some i.name
    named xs k at = slice_get-map (λ (x : Instance). x.name) xs k ∙ ap (option_map (λ (x : Instance). x.name)) at

-- ---- an output's value, by the names of its invocation and its port

pub out_port : (names : List Text) (scope : Scope) (value : Value) (v p : NameId) (invocation port : Text) (o : Option Text) → value ≡ values.Out v p → slice_get names v.0 ≡ Some invocation → slice_get names p.0 ≡ Some port
    → o ≡ option_map (λ (x : Invocation). x.inst) (invocation_named scope.invocations invocation) → option_map (λ (t : Text). dotted t port) o ≡ port_of_value scope (value_tree names value)
out_port names scope value v p invocation port o is at_v at_p named =
    ap (option_map (λ (t : Text). dotted t port)) named
    ∙ composed (invocation_named scope.invocations invocation)
    ∙ ap₂ (λ i q. port_of_value scope (OutputValue i q)) (sym (text_of-slice_get names v invocation at_v)) (sym (text_of-slice_get names p port at_p))
    ∙ ap (λ x. port_of_value scope (value_tree names x)) (sym is)
  where
    composed : (r : Option Invocation) → option_map (λ (t : Text). dotted t port) (option_map (λ (x : Invocation). x.inst) r) ≡ option_map (λ (x : Invocation). dotted x.inst port) r
    composed None = refl
    composed (Some x) = refl

pub out_nothing : (names : List Text) (scope : Scope) (value : Value) (v p : NameId) (invocation : Text) → value ≡ values.Out v p → slice_get names v.0 ≡ Some invocation
    → ◌≡◌ {A = Option Text} None (option_map (λ (x : Invocation). x.inst) (invocation_named scope.invocations invocation)) → ◌≡◌ {A = Option Text} None (port_of_value scope (value_tree names value))
out_nothing names scope value v p invocation is at_v none =
    by (invocation_named scope.invocations invocation) refl none
    ∙ (ap (λ i. port_of_value scope (OutputValue i (text_of names p))) (sym (text_of-slice_get names v invocation at_v)) ∙ ap (λ x. port_of_value scope (value_tree names x)) (sym is))
  where
    by : (o : Option Invocation) → invocation_named scope.invocations invocation ≡ o → ◌≡◌ {A = Option Text} None (option_map (λ (x : Invocation). x.inst) o)
        → ◌≡◌ {A = Option Text} None (option_map (λ (x : Invocation). dotted x.inst (text_of names p)) (invocation_named scope.invocations invocation))
    by None at e = sym (ap (option_map (λ (x : Invocation). dotted x.inst (text_of names p))) at)
    by (Some x) at e = absurd (cc)

-- ---- one thing more that a graph gains

pub value_gained : (scope : Scope) (value : ValueTree) (port other : Text) (old new : PortGraph) → port_of_value scope value ≡ Some other → Adds (IsPair port other) old new → Adds (ReadsValue scope port value) old new
value_gained scope value port other old new is adds =
    adds_same (IsPair port other) (ReadsValue scope port value) old new
    (λ p o. (λ pair. (pair.0, is ∙ ap Some pair.1), λ reads. (reads.0, same_Some other o (sym is ∙ reads.1))))
    adds

pub no_value : (scope : Scope) (value : ValueTree) (port : Text) (g : PortGraph) → port_of_value scope value ≡ None → Adds (ReadsValue scope port value) g g
no_value scope value port g is = adds_none (ReadsValue scope port value) g (λ p o reads. none o (sym is ∙ reads.1))
  where
    none : (o : Text) → ◌≡◌ {A = Option Text} None (Some o) → ⊥
    none o e = absurd (cc)

module _ (names : List Text) (scope : Scope) (inst : Text) (sig : TimeSig) (args : List Value) (k : ℕ) (old mid new : PortGraph) where
  abbrev AtArgument : ℕ → Text → Text → Type 0
  AtArgument = ReadsArgument scope inst (seen sig) (map (value_tree names) args)

  pub argument_gained : (value : Value) (input : SigPort) (port : Text) → slice_get args k ≡ Some value → slice_get sig.ins.items k ≡ Some input → port ≡ dotted inst input.name
      → Adds (Below AtArgument k) old mid → Adds (ReadsValue scope port (value_tree names value)) mid new → Adds (Below AtArgument (k + 1)) old new
  argument_gained value input port at_arg at_in is first second =
      below_more AtArgument k old mid new first (adds_same (ReadsValue scope port (value_tree names value)) (AtArgument k) mid new (λ p o. (to p o, from p o)) second)
    where
      arg_at : slice_get (map (value_tree names) args) k ≡ Some (value_tree names value)
      arg_at = slice_get-map (value_tree names) args k ∙ ap (option_map (value_tree names)) at_arg

      in_at_place : slice_get (seen sig).ins k ≡ Some (seen_port input)
      in_at_place = slice_get-map seen_port sig.ins.items k ∙ ap (option_map seen_port) at_in

      to : (p o : Text) → ReadsValue scope port (value_tree names value) p o → AtArgument k p o
      to p o reads = record { arg = value_tree names value; input = seen_port input; given = arg_at; taken = in_at_place; is_port = sym is ∙ reads.0; is_other = reads.1 }

      from : (p o : Text) → AtArgument k p o → ReadsValue scope port (value_tree names value) p o
      from p o r =
          let same_arg : value_tree names value ≡ r.arg = same_Some (value_tree names value) r.arg (sym arg_at ∙ r.given) in
          let same_in : seen_port input ≡ r.input = same_Some (seen_port input) r.input (sym in_at_place ∙ r.taken) in
          (is ∙ ap (λ (q : tree.SigPort). dotted inst q.name) same_in ∙ r.is_port, ap (port_of_value scope) same_arg ∙ r.is_other)

  -- the callee has no such input
  pub argument_surplus : slice_get sig.ins.items k ≡ None → Adds (Below AtArgument k) old mid → Adds (Below AtArgument (k + 1)) old mid
  argument_surplus none first =
      below_skip AtArgument k old mid (λ p o r. absent r.input (sym (slice_get-map seen_port sig.ins.items k ∙ ap (option_map seen_port) none) ∙ r.taken)) first
    where
      absent : (q : tree.SigPort) → ◌≡◌ {A = Option tree.SigPort} None (Some q) → ⊥
      absent q e = absurd (cc)

module _ (names : List Text) (scope : Scope) (inst : Text) (args : List Value) where
  pub arguments_gained : (sig : TimeSig) (old new : PortGraph) → instance_signature scope inst ≡ Some (seen sig)
      → Adds (Below (ReadsArgument scope inst (seen sig) (map (value_tree names) args)) (length args)) old new → Adds (ReadsGiven scope inst (map (value_tree names) args)) old new
  arguments_gained sig old new signed adds =
      adds_same (Below (ReadsArgument scope inst (seen sig) (map (value_tree names) args)) (length args)) (ReadsGiven scope inst (map (value_tree names) args)) old new (λ p o. (to p o, from p o)) adds
    where
      to : (p o : Text) → Below (ReadsArgument scope inst (seen sig) (map (value_tree names) args)) (length args) p o → ReadsGiven scope inst (map (value_tree names) args) p o
      to p o (k, lt, r) = (seen sig, signed, k, r)

      from : (p o : Text) → ReadsGiven scope inst (map (value_tree names) args) p o → Below (ReadsArgument scope inst (seen sig) (map (value_tree names) args)) (length args) p o
      from p o (other, told, k, r) =
          let same : other ≡ seen sig = same_Some other (seen sig) (sym told ∙ signed) in
          let reads : ReadsArgument scope inst (seen sig) (map (value_tree names) args) k p o = subst (λ (x : Signature). ReadsArgument scope inst x (map (value_tree names) args) k p o) same r in
          (k, omega (arith, slice_get_within (map (value_tree names) args) k reads.arg reads.given, length-map args (value_tree names)), reads)

  pub no_arguments : (g : PortGraph) → instance_signature scope inst ≡ None → Adds (ReadsGiven scope inst (map (value_tree names) args)) g g
  no_arguments g none = adds_none (ReadsGiven scope inst (map (value_tree names) args)) g (λ p o r. absent r.0 (sym none ∙ r.1))
    where
      absent : (x : Signature) → ◌≡◌ {A = Option Signature} None (Some x) → ⊥
      absent x e = absurd (cc)

module _ (inst output : Text) (ins : List SigPort) (k : ℕ) (old mid new : PortGraph) where
  abbrev AtInput : ℕ → Text → Text → Type 0
  AtInput = ReadsEach inst output (map seen_port ins)

  pub each_gained : (input : SigPort) (port other : Text) → slice_get ins k ≡ Some input → port ≡ dotted inst output → other ≡ dotted inst input.name
      → Adds (Below AtInput k) old mid → Adds (IsPair port other) mid new → Adds (Below AtInput (k + 1)) old new
  each_gained input port other at_in is_port is_other first second =
      below_more AtInput k old mid new first (adds_same (IsPair port other) (AtInput k) mid new (λ p o. (to p o, from p o)) second)
    where
      there : slice_get (map seen_port ins) k ≡ Some (seen_port input)
      there = slice_get-map seen_port ins k ∙ ap (option_map seen_port) at_in

      to : (p o : Text) → IsPair port other p o → AtInput k p o
      to p o pair = record { input = seen_port input; taken = there; is_port = sym is_port ∙ pair.0; is_other = sym is_other ∙ pair.1 }

      from : (p o : Text) → AtInput k p o → IsPair port other p o
      from p o r =
          let same_in : seen_port input ≡ r.input = same_Some (seen_port input) r.input (sym there ∙ r.taken) in
          (is_port ∙ r.is_port, is_other ∙ ap (λ (q : tree.SigPort). dotted inst q.name) same_in ∙ r.is_other)

-- ---- the outputs of an instance

module _ (inst : Text) (sig : TimeSig) (o : ℕ) (output : SigPort) (at_out : slice_get sig.outs.items o ≡ Some output) (old mid new : PortGraph) where
  out_at : slice_get (seen sig).outs o ≡ Some (seen_port output)
  out_at = slice_get-map seen_port sig.outs.items o ∙ ap (option_map seen_port) at_out

  pub all_gained : Adds (Below (ReadsAll inst (seen sig)) o) old mid → Adds (Below (ReadsEach inst output.name (map seen_port sig.ins.items)) (length sig.ins.items)) mid new
      → Adds (Below (ReadsAll inst (seen sig)) (o + 1)) old new
  all_gained first second =
      below_more (ReadsAll inst (seen sig)) o old mid new first (adds_same (Below (ReadsEach inst output.name (map seen_port sig.ins.items)) (length sig.ins.items)) (ReadsAll inst (seen sig) o) mid new (λ p q. (to p q, from p q)) second)
    where
      to : (p q : Text) → Below (ReadsEach inst output.name (map seen_port sig.ins.items)) (length sig.ins.items) p q → ReadsAll inst (seen sig) o p q
      to p q (k, lt, r) = record { output = seen_port output; given = out_at; k = k; reads = r }

      from : (p q : Text) → ReadsAll inst (seen sig) o p q → Below (ReadsEach inst output.name (map seen_port sig.ins.items)) (length sig.ins.items) p q
      from p q r =
          let same : r.output ≡ seen_port output = same_Some r.output (seen_port output) (sym r.given ∙ out_at) in
          let reads : ReadsEach inst output.name (map seen_port sig.ins.items) r.k p q = subst (λ (x : tree.SigPort). ReadsEach inst x.name (map seen_port sig.ins.items) r.k p q) same r.reads in
          (r.k, omega (arith, slice_get_within (map seen_port sig.ins.items) r.k reads.input reads.taken, length-map sig.ins.items seen_port), reads)

-- ---- the statements, one by one

all_of : {X : Type 0} (P : X → Type 0) (xs : List X) → ((x : X) → In xs x → P x) → All P xs
all_of P [] holds = All-nil P
all_of P (x ∷ xs) holds = All-cons P x xs (holds x (inl refl)) (all_of P xs (λ y has. holds y (inr has)))

pub instances_there : (body : List Statement) (k : ℕ) (s : Statement) → slice_get body k ≡ Some s → All (Contains (flat_map instances_at body)) (instances_at s)
instances_there body k s at =
    all_of (Contains (flat_map instances_at body)) (instances_at s) (λ i has. contains_of (flat_map instances_at body) i (in_flat_map instances_at body s i (in_at body k s at) has))

module _ (through : Text → Text → Text → Type 0) (scope : Scope) (body : List Statement) (k : ℕ) (old mid new : PortGraph) where
  pub statement_gained : (s : Statement) → slice_get body k ≡ Some s → Adds (Below (ReadsAt through scope body) k) old mid → Adds (ReadsBy through scope s) mid new → Adds (Below (ReadsAt through scope body) (k + 1)) old new
  statement_gained s at first second =
      below_more (ReadsAt through scope body) k old mid new first (adds_same (ReadsBy through scope s) (ReadsAt through scope body k) mid new
      (λ p q. (λ by. (s, at, by), λ r. subst (λ (x : Statement). ReadsBy through scope x p q) (same_Some r.0 s (sym r.1 ∙ at)) r.2)) second)

module _ (names : List Text) (stmt : Stmt) where
  pub new_tree : (name made : NameId) (params : Vec ℕ Global) (nt mt : Text) → stmt ≡ stmts.New name made params → slice_get names name.0 ≡ Some nt → slice_get names made.0 ≡ Some mt → statement_tree names stmt ≡ New nt mt params.items
  new_tree name made params nt mt is at_name at_made =
      ap (statement_tree names) is ∙ ap₂ (λ n m. New n m params.items) (text_of-slice_get names name nt at_name) (text_of-slice_get names made mt at_made)

  pub call_tree : (name inst : NameId) (at : Vec Time Global) (args : Vec Value Global) (it : Text) → stmt ≡ stmts.Call name inst at args → slice_get names inst.0 ≡ Some it → statement_tree names stmt ≡ Call (text_of names name) it (giving names at.items args.items)
  call_tree name inst at args it is at_inst = ap (statement_tree names) is ∙ ap (λ i. Call (text_of names name) i (giving names at.items args.items)) (text_of-slice_get names inst it at_inst)

  pub both_tree : (name made : NameId) (params : Vec ℕ Global) (at : Vec Time Global) (args : Vec Value Global) (nt mt : Text) → stmt ≡ stmts.Both name made params at args → slice_get names name.0 ≡ Some nt → slice_get names made.0 ≡ Some mt
      → statement_tree names stmt ≡ Both nt mt params.items (giving names at.items args.items)
  both_tree name made params at args nt mt is at_name at_made =
      ap (statement_tree names) is ∙ ap₂ (λ n m. Both n m params.items (giving names at.items args.items)) (text_of-slice_get names name nt at_name) (text_of-slice_get names made mt at_made)

  pub set_tree : (dst : NameId) (value : Value) (dt : Text) → stmt ≡ stmts.Set dst value → slice_get names dst.0 ≡ Some dt → statement_tree names stmt ≡ Connect dt (value_tree names value)
  set_tree dst value dt is at_dst = ap (statement_tree names) is ∙ ap (λ d. Connect d (value_tree names value)) (text_of-slice_get names dst dt at_dst)
