-- F14 by levels: along readings levels fall, so none comes back to where it began.
use Rattle.std.proofs.Common.{◌≡◌, ◌⊎◌, ◌↔◌, inl, inr, ℕ, ◌+◌, ◌<◌, ◌≤◌, Bool, true, false, List, [], ◌∷◌, Option, Some, length, map, take, get_or, slice_get, refl, sym, ap, ap₂, subst, subst₂, ◌∙◌, arith}
use Rattle.std.specs.Prelude.{All, IsTrue, slice_index}
use Rattle.std.proofs.lemmas.List.{length-map}
use Rattle.std.proofs.lemmas.List.Elements.{All-contains}
use Rattle.std.proofs.lemmas.Option.{same_Some, slice_get_within, get_or_from_slice_get}
use Rattle.hw_graph.proofs.MemberLemmas.{at_of, in_of}
use Rattle.hw_levels.specs.Levels.{AreLevels, IsBelow, MayReach}
use Rattle.hw_levels.specs.declared.cells.CellPort.{CellPort}
use Rattle.hw_names.proofs.NameLemmas.{Contains-slice_get, KeepsTexts-append, same_number}
use Rattle.hw_names.specs.Name.{Text, AreDistinct, HasNoDot, dotted}
use Rattle.fil_ast.specs.Naming.{instance_names}
use Rattle.fil_ast.specs.Rules.{KeepsRules, all_rules}
use Rattle.fil_ast.specs.Scope.{Instance, Scope}
use Rattle.fil_ast.specs.Tree.{Component, DataPort, Design}
use Rattle.fil_ast.specs.Wires.{Straight, ByArgument, ByConnection, ByInstance, DependsWithin, HasNoLoop, OfComponent, OfPrimitive, Over, Reaches, ReadsAlong, ReadsByInstance, ReadsPort, through_before, whole_scope}
use Rattle.fil_ast.specs.declared.tree.FilComp.{FilComp}
use Rattle.fil_place.proofs.GeneralLemmas.{mapped_at}
use Rattle.fil_loops.proofs.InstanceLemmas.{IsOwnReading, IsThroughAt, no_table_at, own_reading, through_told}
use Rattle.fil_loops.proofs.PortNumberLemmas.{cut_at_last}
use Rattle.hw_texts.proofs.TextLemmas.{get_right}
use Rattle.fil_loops.proofs.DependLemmas.{number_of, numbered_length}
use Rattle.fil_loops.proofs.ThroughLemmas.{there_at}
use Rattle.fil_loops.specs.inside.PortsOfParts.{AreParts, HasAllPorts, IsPortOfPart}
use Rattle.fil_loops.specs.Levels.{ShowAllLevels, ShowsLevels}
use Rattle.fil_loops.specs.inside.PortGraph.{HasInstances, HasReading}
use Rattle.fil_loops.specs.inside.Reached.{AreNumbered, HasOwnReadings, ReadsOwn}
use Rattle.fil_loops.specs.OwnPorts.{input_names, output_names, own_port_names}
use Rattle.fil_place.specs.Tables.{IsPlace}
use Rattle.fil_loops.specs.declared.graph.PortGraph.{PortGraph}
use Rattle.fil_loops.specs.declared.levels.Levels.{Levels}
use Rattle.fil_place.specs.declared.earlier.Earlier.{Earlier}
use Rattle.fil_place.specs.declared.tables.Tables.{Tables}

-- a reading through an instance: the ports of the component that it is made of, by their numbers there
pub record IsPartReading (instances : List Text) (parts : List (Option ℕ)) (levels : List Levels) (port other : Text) : Type 0 where
  pub instance : ℕ
  pub inst : Text
  pub instance_at : slice_get instances instance ≡ Some inst
  pub part : ℕ
  pub made : slice_get parts instance ≡ Some (Some part)
  pub own : Levels
  pub known : slice_get levels part ≡ Some own
  pub distinct : AreDistinct own.names
  pub dotless : All HasNoDot own.names
  pub all : length own.levels.items ≡ length own.names
  pub high : ℕ
  pub low : ℕ
  pub output : Text
  pub input : Text
  pub output_at : slice_get own.names high ≡ Some output
  pub input_at : slice_get own.names low ≡ Some input
  pub is_output : own.inputs ≤ high
  pub is_input : low < own.inputs
  pub lower : IsBelow own.levels.items low high
  pub is_port : dotted inst output ≡ port
  pub is_other : dotted inst input ≡ other

dotless_at : (names : List Text) (k : ℕ) (name : Text) → All HasNoDot names → slice_get names k ≡ Some name → HasNoDot name
dotless_at names k name all at = All-contains HasNoDot names name all (Contains-slice_get names k name at)

side_true : (b : Bool) (P : Type 0) → IsTrue b ↔ P → P → b ≡ true
side_true b P is holds = is.1 holds

side_false : (b : Bool) (P : Type 0) → IsTrue b ↔ P → (P → ⊥) → b ≡ false
side_false true P is none = absurd (none (is.0 refl))
side_false false P is none = refl

-- what is read through an instance of a component whose levels are known
module _ (comps : Design) (c : Component) (names : List Text) (earlier : Earlier) (comp : FilComp) (tables : Tables) (place : IsPlace names earlier comp tables (whole_scope comps c)) (distinct : AreDistinct earlier.names) (keeps : KeepsRules all_rules comps)
    (parts : List (Option ℕ)) (are : AreParts comps (whole_scope comps c).instances parts) (levels : List Levels) (shows : ShowAllLevels comps levels) where
  abbrev scope : Scope
  scope = whole_scope comps c

  abbrev PartReading : Text → Text → Type 0
  PartReading = IsPartReading (instance_names scope.instances) parts levels

  part_reading : (port other : Text) (r : ReadsByInstance (through_before comps) scope port other) → through_before comps r.instance.made r.output.name r.input.name → PartReading port other
  part_reading port other r t = record {
    instance = k.0;
    inst = i.name;
    instance_at = mapped_at (λ (x : Instance). x.name) scope.instances k.0 i k.1;
    part = q.n;
    made = (are k.0 q.n).1 (record { instance = i; part = q.d; instance_at = k.1; part_at = q.at; named = sym q.is_named });
    own = own.0;
    known = own.1;
    distinct = shown.distinct;
    dotless = shown.dotless;
    all = shown.all;
    high = own.0.inputs + o.o;
    low = o.i;
    output = r.output.name;
    input = r.input.name;
    output_at = output_there;
    input_at = input_there;
    is_output = omega arith;
    is_input = omega (arith, slice_get_within o.d.ins o.i o.own_input o.input_at, shown.inputs);
    lower = shown.lower o.i o.o o.own_input o.own_output o.input_at o.output_at o.reaches;
    is_port = r.is_port;
    is_other = r.is_other;
  }
    where
      i : Instance
      i = r.instance

      q : IsThroughAt comps i.made r.output.name r.input.name
      q = through_told i.made r.output.name r.input.name comps t

      k : (n : ℕ) × (slice_get scope.instances n ≡ Some i)
      k = at_of scope.instances i (in_of scope.instances i r.has)

      at_name : slice_get earlier.names q.n ≡ Some i.made
      at_name = ap (λ (ts : List Text). slice_get ts q.n) place.shows.components.names ∙ mapped_at (λ (x : Component). x.name) comps q.n q.d q.at ∙ ap Some (sym q.is_named)

      o : IsOwnReading comps q.n r.output.name r.input.name
      o = own_reading names earlier comp tables scope place i r.has r.signature r.signed (no_table_at scope keeps i.made r.output.name r.input.name q) distinct q.n at_name r.output r.input r.has_output r.has_input q

      own : (l : Levels) × (slice_get levels q.n ≡ Some l)
      own = there_at levels q.n (omega (arith, slice_get_within comps q.n q.d q.at, shows.all))

      shown : ShowsLevels (take q.n comps) o.d own.0
      shown = shows.each q.n o.d own.0 o.at own.1

      input_there : slice_get own.0.names o.i ≡ Some r.input.name
      input_there =
          let here = mapped_at (λ (p : DataPort). p.name) o.d.ins o.i o.own_input o.input_at in
          ap (λ (ts : List Text). slice_get ts o.i) shown.names ∙ KeepsTexts-append (input_names o.d) (output_names o.d) o.i o.own_input.name here ∙ ap Some o.input_named

      output_there : slice_get own.0.names (own.0.inputs + o.o) ≡ Some r.output.name
      output_there =
          let here = mapped_at (λ (p : DataPort). p.name) o.d.outs o.o o.own_output o.output_at in
          let size : own.0.inputs ≡ length (input_names o.d) = shown.inputs ∙ sym (length-map o.d.ins (λ (p : DataPort). p.name)) in
          ap₂ (λ (ts : List Text) (n : ℕ). slice_get ts (n + o.o)) shown.names size ∙ get_right (input_names o.d) (output_names o.d) o.o ∙ here ∙ ap Some o.output_named

  -- a reading goes through an instance of a component, or does without
  split : (port other : Text) → ReadsPort (through_before comps) scope port other → ReadsOwn comps c port other ⊎ PartReading port other
  split port other (ByArgument a) = inl (ByArgument a)
  split port other (ByConnection a) = inl (ByConnection a)
  split port other (ByInstance r) = by r.depends
    where
      by : DependsWithin (through_before comps) r.instance r.output.name r.input.name → ReadsOwn comps c port other ⊎ PartReading port other
      by (OfComponent t) = inr (part_reading port other r t)
      by (OfPrimitive prim is through) = inl (ByInstance (record {
        instance = r.instance;
        has = r.has;
        signature = r.signature;
        signed = r.signed;
        input = r.input;
        output = r.output;
        has_input = r.has_input;
        has_output = r.has_output;
        depends = OfPrimitive prim is through;
        is_port = r.is_port;
        is_other = r.is_other;
      }))

  -- of two readings that follow one another not both go through instances of components
  apart : (port between other : Text) → PartReading port between → PartReading between other → ⊥
  apart port between other a b =
      let parted = cut_at_last a.inst b.inst a.input b.output (dotless_at a.own.names a.low a.input a.dotless a.input_at) (dotless_at b.own.names b.high b.output b.dotless b.output_at) (a.is_other ∙ sym b.is_port) in
      let same_instance : a.instance ≡ b.instance = same_number (instance_names scope.instances) a.instance b.instance b.inst instances_distinct (a.instance_at ∙ ap Some parted.0) b.instance_at in
      let same_made : Some a.part ≡ Some b.part = same_Some (Some a.part) (Some b.part) (sym a.made ∙ ap (slice_get parts) same_instance ∙ b.made) in
      let same_part : a.part ≡ b.part = same_Some a.part b.part same_made in
      let same_own : a.own ≡ b.own = same_Some a.own b.own (sym a.known ∙ ap (slice_get levels) same_part ∙ b.known) in
      let input_at : slice_get b.own.names a.low ≡ Some b.output = ap (λ (l : Levels). slice_get l.names a.low) (sym same_own) ∙ a.input_at ∙ ap Some parted.1 in
      let is_input : a.low < b.own.inputs = subst (λ (l : Levels). a.low < l.inputs) same_own a.is_input in
      omega (arith, same_number b.own.names a.low b.high b.output b.distinct input_at b.output_at, is_input, b.is_output)
    where
      instances_distinct : AreDistinct (instance_names scope.instances)
      instances_distinct = place.shows.distinct

  module _ (g : PortGraph) (has : HasInstances scope g) (is : HasOwnReadings comps c g) (ports_distinct : AreDistinct g.ports.names) (cells : List CellPort) (every : HasAllPorts g.ports parts levels cells)
      (found : List ℕ) (falling : AreLevels g.entries.items cells found) where
    abbrev IsNamed : Text → Type 0
    IsNamed port = (n : ℕ) × (slice_get g.ports.names n ≡ Some port)

    instances_are : (k : ℕ) (inst : Text) → slice_get (instance_names scope.instances) k ≡ Some inst → slice_get g.ports.instances k ≡ Some inst
    instances_are k inst at = ap (λ (l : List Text). slice_get l k) has ∙ at

    output_port : (port other : Text) (r : PartReading port other) (n : ℕ) → slice_get g.ports.names n ≡ Some port → IsPortOfPart g.ports parts levels n r.instance r.high r.own
    output_port port other r n at = record {
      inst = r.inst;
      name = r.output;
      here = at ∙ ap Some (sym r.is_port);
      dotless = dotless_at r.own.names r.high r.output r.dotless r.output_at;
      instance_at = instances_are r.instance r.inst r.instance_at;
      part = r.part;
      made = r.made;
      known = r.known;
      pin_at = r.output_at;
      has_level = omega (arith, slice_get_within r.own.names r.high r.output r.output_at, r.all);
    }

    input_port : (port other : Text) (r : PartReading port other) (n : ℕ) → slice_get g.ports.names n ≡ Some other → IsPortOfPart g.ports parts levels n r.instance r.low r.own
    input_port port other r n at = record {
      inst = r.inst;
      name = r.input;
      here = at ∙ ap Some (sym r.is_other);
      dotless = dotless_at r.own.names r.low r.input r.dotless r.input_at;
      instance_at = instances_are r.instance r.inst r.instance_at;
      part = r.part;
      made = r.made;
      known = r.known;
      pin_at = r.input_at;
      has_level = omega (arith, slice_get_within r.own.names r.low r.input r.input_at, r.all);
    }

    part_falls : (port other : Text) → PartReading port other → (m n : ℕ) → slice_get g.ports.names m ≡ Some port → slice_get g.ports.names n ≡ Some other → IsBelow found n m
    part_falls port other r m n at_port at_other =
        let out = every m r.instance r.high r.own (output_port port other r m at_port) in
        let inn = every n r.instance r.low r.own (input_port port other r n at_other) in
        let may : MayReach out.0 inn.0 = record {
          cell = out.2.cell ∙ sym inn.2.cell;
          is_output = side_false out.0.is_input (r.high < r.own.inputs) out.2.side (λ less. omega (arith, less, r.is_output));
          is_input = side_true inn.0.is_input (r.low < r.own.inputs) inn.2.side r.is_input;
          lower = subst₂ (λ (a b : ℕ). a < b) (sym inn.2.level) (sym out.2.level) r.lower;
        } in
        subst₂ (λ (a b : ℕ). IsBelow found a b) inn.2.number out.2.number (falling.cells out.0 inn.0 out.1 inn.1 may)

    direct_falls : (port other : Text) → ReadsOwn comps c port other → (m n : ℕ) → slice_get g.ports.names m ≡ Some port → slice_get g.ports.names n ≡ Some other → IsBelow found n m
    direct_falls port other r m n at_port at_other =
        let h : HasReading g port other = (is port other).1 r in
        let key : h.entry.key ≡ m = same_number g.ports.names h.entry.key m port ports_distinct h.key at_port in
        let value : h.entry.value ≡ n = same_number g.ports.names h.entry.value n other ports_distinct h.value at_other in
        subst₂ (λ (a b : ℕ). IsBelow found a b) value key (falling.wires h.entry h.there)

    one_falls : (port other : Text) → ReadsPort (through_before comps) scope port other → (m n : ℕ) → slice_get g.ports.names m ≡ Some port → slice_get g.ports.names n ≡ Some other → IsBelow found n m
    one_falls port other r m n at_port at_other =
        elim (split port other r) [
          | inl direct ↦ direct_falls port other direct m n at_port at_other
          | inr through ↦ part_falls port other through m n at_port at_other
        ]

    reader_named : (port other : Text) → ReadsOwn comps c port other → IsNamed port
    reader_named port other r = let h = (is port other).1 r in (h.entry.key, h.key)

    read_named : (port other : Text) → ReadsOwn comps c port other → IsNamed other
    read_named port other r = let h = (is port other).1 r in (h.entry.value, h.value)

    -- what is read through an instance, and reads, is named
    after_part : (before port other : Text) → PartReading before port → ReadsPort (through_before comps) scope port other → IsNamed port
    after_part before port other a r =
        elim (split port other r) [
          | inl direct ↦ reader_named port other direct
          | inr through ↦ absurd (apart before port other a through)
        ]

    start_named : (before other port : Text) → PartReading before port → Reaches (through_before comps) scope other port → IsNamed port
    start_named before other port a (Straight p r) = after_part before p other a r
    start_named before other port a (Over p between r rest) = after_part before p between a r

    -- so is what is read and reaches
    between_named : (port between other : Text) → ReadsPort (through_before comps) scope port between → Reaches (through_before comps) scope other between → IsNamed between
    between_named port between other r rest =
        elim (split port between r) [
          | inl direct ↦ read_named port between direct
          | inr through ↦ start_named port other between through rest
        ]

    pub falls : (other port : Text) → Reaches (through_before comps) scope other port → (m n : ℕ) → slice_get g.ports.names m ≡ Some port → slice_get g.ports.names n ≡ Some other → IsBelow found n m
    falls other port (Straight p r) m n at_port at_other = one_falls p other r m n at_port at_other
    falls other port (Over p between r rest) m n at_port at_other =
        let mid = between_named p between other r rest in
        let first : IsBelow found mid.0 m = one_falls p between r m mid.0 at_port mid.1 in
        let second : IsBelow found n mid.0 = falls other between rest mid.0 n mid.1 at_other in
        omega (arith, first, second)

    -- what is reached, and reads through an instance, is named
    end_named : (other port after : Text) → Reaches (through_before comps) scope other port → PartReading other after → IsNamed other
    end_named other port after (Straight p r) b =
        elim (split p other r) [
          | inl direct ↦ read_named p other direct
          | inr through ↦ absurd (apart p other after through b)
        ]
    end_named other port after (Over p between r rest) b = end_named other between after rest b

    itself_named : (port : Text) → Reaches (through_before comps) scope port port → IsNamed port
    itself_named port reach = by port reach refl
      where
        by : (p : Text) → Reaches (through_before comps) scope port p → p ≡ port → IsNamed port
        by p (Straight x r) same =
            let own : ReadsPort (through_before comps) scope port port = subst (λ (t : Text). ReadsPort (through_before comps) scope t port) same r in
            elim (split port port own) [
              | inl direct ↦ reader_named port port direct
              | inr through ↦ absurd (apart port port port through through)
            ]
        by p (Over x between r rest) same =
            let own : ReadsPort (through_before comps) scope port between = subst (λ (t : Text). ReadsPort (through_before comps) scope t between) same r in
            elim (split port between own) [
              | inl direct ↦ reader_named port between direct
              | inr through ↦ end_named port between between rest through
            ]

    along_reaches : (port : Text) (others : List Text) (back : Text) → ReadsAlong comps c (port ∷ others) back → Reaches (through_before comps) scope back port
    along_reaches port [] back r = Straight port r
    along_reaches port (next ∷ others) back along = Over port next along.0 (along_reaches next others back along.1)

    pub no_loop_by_levels : HasNoLoop comps c
    no_loop_by_levels first others loop =
        let reach = along_reaches first others first loop.along in
        let named = itself_named first reach in
        let bad : IsBelow found named.0 named.0 = falls first first reach named.0 named.0 named.1 named.1 in
        omega (arith, bad)

    -- the component's own levels
    module _ (texts : List Text) (are_names : texts ≡ own_port_names c) (differ : AreDistinct texts) (no_dots : All HasNoDot texts)
        (numbers : List ℕ) (numbered : AreNumbered g.ports.names numbers (own_port_names c)) (own : Levels) (own_names : own.names ≡ texts) (inputs_are : own.inputs ≡ length c.ins)
        (own_levels : own.levels.items ≡ map (slice_index found) numbers) where
      sized : length own.levels.items ≡ length own.names
      sized = ap length own_levels ∙ length-map numbers (slice_index found) ∙ numbered_length g.ports.names numbers (own_port_names c) numbered ∙ sym (ap length (own_names ∙ are_names))

      -- a port's number in the graph has the level that stands at the port's place
      number_at : (k : ℕ) (port : Text) → slice_get (own_port_names c) k ≡ Some port → (n : ℕ) × (slice_get g.ports.names n ≡ Some port) × (slice_index own.levels.items k ≡ slice_index found n)
      number_at k port at =
          let n = number_of g.ports.names numbers (own_port_names c) numbered k port at in
          let level = get_or_from_slice_get (map (slice_index found) numbers) k (slice_index found n.0) 0 (mapped_at (slice_index found) numbers k n.0 n.1) in
          (n.0, n.2, ap (λ (l : List ℕ). get_or l k 0) own_levels ∙ level)

      input_at : (i : ℕ) (input : DataPort) → slice_get c.ins i ≡ Some input → slice_get (own_port_names c) i ≡ Some input.name
      input_at i input at = KeepsTexts-append (input_names c) (output_names c) i input.name (mapped_at (λ (p : DataPort). p.name) c.ins i input at)

      output_at : (o : ℕ) (output : DataPort) → slice_get c.outs o ≡ Some output → slice_get (own_port_names c) (own.inputs + o) ≡ Some output.name
      output_at o output at =
          let size : own.inputs ≡ length (input_names c) = inputs_are ∙ sym (length-map c.ins (λ (p : DataPort). p.name)) in
          ap (λ (n : ℕ). slice_get (own_port_names c) (n + o)) size ∙ get_right (input_names c) (output_names c) o ∙ mapped_at (λ (p : DataPort). p.name) c.outs o output at

      pub shows_own : ShowsLevels comps c own
      shows_own = record {
        names = own_names ∙ are_names;
        inputs = inputs_are;
        distinct = subst AreDistinct (sym own_names) differ;
        dotless = subst (All HasNoDot) (sym own_names) no_dots;
        all = sized;
        lower = λ i o input output at_in at_out reach.
            (let low = number_at i input.name (input_at i input at_in) in
            let high = number_at (own.inputs + o) output.name (output_at o output at_out) in
            let below : IsBelow found low.0 high.0 = falls input.name output.name reach high.0 low.0 high.1 low.1 in
            subst₂ (λ (a b : ℕ). a < b) (sym low.2) (sym high.2) below);
      }
