-- The one graph of a component's ports and of its instances' graphs leads as the component's ports read one another.
use Rattle.std.proofs.Common.{◌≡◌, ◌≢◌, ◌⊎◌, inl, inr, ℕ, ◌<◌, Bool, true, false, ◌==◌, List, [], ◌∷◌, Option, Some, Contains, length, slice_get, refl, sym, ap, ap₂, subst, subst₂, ◌∙◌, arith}
use Rattle.std.specs.Prelude.{All}
use Rattle.std.proofs.lemmas.Bool.Decides.{Decides-eqb}
use Rattle.std.proofs.lemmas.List.Elements.{All-contains, All-cons, All-head, All-nil, All-tail}
use Rattle.std.proofs.lemmas.Option.{same_Some, slice_get_within}
use Rattle.hw_cells.specs.Cells as numbers
use Rattle.hw_cells.specs.Cells.{IsFit, IsFlat, IsPinWithin, Reads}
use Rattle.hw_cells.specs.declared.cell.Cell.{Cell}
use Rattle.hw_graph.proofs.MemberLemmas.{at_of, in_of}
use Rattle.hw_names.proofs.NameLemmas.{Contains-slice_get, same_number}
use Rattle.hw_names.specs.Name.{Text, AreDistinct, HasNoDot, dot, dotted}
use Rattle.fil_ast.specs.Naming.{instance_names}
use Rattle.fil_ast.specs.Rules.{KeepsComponent, KeepsRules, all_rules}
use Rattle.fil_ast.specs.Scope.{Scope}
use Rattle.fil_ast.specs.Tree.{Component, Design}
use Rattle.fil_ast.specs.Wires.{Straight, Over, Reaches, ReadsPort, through_before, whole_scope}
use Rattle.fil_ast.specs.declared.tree.FilComp.{FilComp}
use Rattle.fil_loops.proofs.PortGraphLemmas.{IsWithin}
use Rattle.fil_loops.proofs.ThroughLemmas.{by_inner, by_own, known_of, own_or_inner, there_at}
use Rattle.fil_loops.specs.inside.Cells.{AreCells, LeadsAsRead, NumbersDotted, ReadsAt, ReadsInside}
use Rattle.fil_loops.specs.inside.PortsOfParts.{AreParts}
use Rattle.fil_loops.specs.inside.PortGraph.{Adds, HasInstances, HasReading, NoPair}
use Rattle.fil_loops.specs.inside.Ports.{PortList}
use Rattle.fil_loops.specs.inside.Reached.{HasOwnReadings, ReadsOwn}
use Rattle.fil_place.specs.Tables.{IsPlace}
use Rattle.fil_loops.specs.Wiring.{ShowInsides}
use Rattle.fil_loops.specs.declared.graph.PortGraph.{PortGraph}
use Rattle.fil_loops.specs.declared.inside.Inside.{Inside}
use Rattle.fil_place.specs.declared.earlier.Earlier.{Earlier}
use Rattle.fil_place.specs.declared.tables.Tables.{Tables}

-- ---- dots

abbrev IsNoDot : ℕ → Type 0
IsNoDot byte = byte ≢ dot

-- a text has a dot or none
dotless_or : (text : Text) → HasNoDot text ⊎ ¬ HasNoDot text
dotless_or [] = inl (All-nil IsNoDot)
dotless_or (byte ∷ text) = by (byte == dot) refl (dotless_or text)
  where
    by : (b : Bool) → (byte == dot) ≡ b → HasNoDot text ⊎ ¬ HasNoDot text → HasNoDot (byte ∷ text) ⊎ ¬ HasNoDot (byte ∷ text)
    by true e rest = inr (λ all. All-head IsNoDot byte text all ((Decides-eqb byte dot).0 e))
    by false e (inl plain) = inl (All-cons IsNoDot byte text (λ same. let yes = (Decides-eqb byte dot).1 same in absurd (cc)) plain)
    by false e (inr dots) = inr (λ all. dots (All-tail IsNoDot byte text all))

-- names before the first dot are equal, and so is what follows
cut_at_first : (a b x y : Text) → HasNoDot a → HasNoDot b → dotted a x ≡ dotted b y → (a ≡ b) × (x ≡ y)
cut_at_first [] [] x y p q e = (refl, cc)
cut_at_first [] (c ∷ b) x y p q e = let bad : dot ≡ c = cc in absurd (All-head IsNoDot c b q (sym bad))
cut_at_first (c ∷ a) [] x y p q e = let bad : c ≡ dot = cc in absurd (All-head IsNoDot c a p bad)
cut_at_first (c ∷ a) (d ∷ b) x y p q e =
    let heads : c ≡ d = cc in
    let tails : dotted a x ≡ dotted b y = cc in
    let rest = cut_at_first a b x y (All-tail IsNoDot c a p) (All-tail IsNoDot d b q) tails in
    (ap₂ ◌∷◌ heads rest.0, rest.1)

-- ---- the graph with more ports

pub own_kept : (comps : Design) (c : Component) (made g : PortGraph) → Adds NoPair made g → HasOwnReadings comps c made → HasOwnReadings comps c g
own_kept comps c made g adds is port other = (λ h. to ((adds.has port other).0 h), λ r. (adds.has port other).1 (inl ((is port other).1 r)))
  where
    to : HasReading made port other ⊎ NoPair port other → ReadsOwn comps c port other
    to (inl h) = (is port other).0 h
    to (inr none) = absurd none

-- cells of the ports, by the numbers that code has
pub fit_cells : (parts : List (Option ℕ)) (insides : List Inside) (ports : PortList) (cells listed : List Cell) (count : ℕ) → AreCells parts insides ports cells → cells ≡ listed → length ports.names ≡ count → All (IsFit count) listed
fit_cells parts insides ports cells listed count are same size = subst₂ (λ (n : ℕ) (l : List Cell). All (IsFit n) l) size same are.fit

module _ (comps : Design) (c : Component) (names : List Text) (earlier : Earlier) (comp : FilComp) (tables : Tables) (place : IsPlace names earlier comp tables (whole_scope comps c)) (distinct : AreDistinct earlier.names) (keeps : KeepsRules all_rules comps)
    (own_keeps : KeepsComponent all_rules comps c) (parts : List (Option ℕ)) (are : AreParts comps (whole_scope comps c).instances parts) (insides : List Inside) (shows : ShowInsides comps insides) (g : PortGraph) (has : HasInstances (whole_scope comps c) g)
    (is : HasOwnReadings comps c g) (ports_distinct : AreDistinct g.ports.names) (dots : NumbersDotted parts insides g.ports) where
  abbrev scope : Scope
  scope = whole_scope comps c

  abbrev ReadsText : Text → Text → Type 0
  ReadsText = ReadsPort (through_before comps) scope

  abbrev ReachesText : Text → Text → Type 0
  ReachesText port other = Reaches (through_before comps) scope other port

  abbrev Inner : Text → Text → Type 0
  Inner = ReadsInside parts insides g.ports.instances

  abbrev IsNamed : ℕ → Text → Type 0
  IsNamed n port = slice_get g.ports.names n ≡ Some port

  -- ---- one reading

  own_or_inner_read : (port other : Text) → ReadsText port other → ReadsOwn comps c port other ⊎ Inner port other
  own_or_inner_read port other r =
      subst (λ (l : List Text). ReadsOwn comps c port other ⊎ ReadsInside parts insides l port other) (sym has)
      (own_or_inner comps c names earlier comp tables place distinct keeps parts are insides shows port other r)

  inner_read : (port other : Text) → Inner port other → ReadsText port other
  inner_read port other r =
      by_inner comps c names earlier comp tables place distinct keeps parts are insides shows own_keeps port other (subst (λ (l : List Text). ReadsInside parts insides l port other) has r)

  -- ---- what is read and reads has a number

  instances_distinct : AreDistinct g.ports.instances
  instances_distinct = subst AreDistinct (sym has) place.shows.distinct

  -- of two readings that follow one another not both go through instances without dots
  apart : (before port after : Text) (a : Inner before port) (b : Inner port after) → HasNoDot a.inst → HasNoDot b.inst → ⊥
  apart before port after a b plain_a plain_b =
      let parted = cut_at_first a.inst b.inst a.to_input.name b.from_output.name plain_a plain_b (a.to_input.is_port ∙ sym b.from_output.is_port) in
      let same_instance : a.instance ≡ b.instance = same_number g.ports.instances a.instance b.instance b.inst instances_distinct (a.instance_at ∙ ap Some parted.0) b.instance_at in
      let same_made : Some (a.known).0 ≡ Some (b.known).0 = same_Some (Some (a.known).0) (Some (b.known).0) (sym (a.known).1 ∙ ap (slice_get parts) same_instance ∙ (b.known).1) in
      let same_part : (a.known).0 ≡ (b.known).0 = same_Some (a.known).0 (b.known).0 same_made in
      let same : a.inside ≡ b.inside = same_Some a.inside b.inside (sym (a.known).2 ∙ ap (slice_get insides) same_part ∙ (b.known).2) in
      let at_input : slice_get b.inside.names a.input ≡ Some b.from_output.name = ap (λ (l : Inside). slice_get l.names a.input) (sym same) ∙ a.to_input.name_at ∙ ap Some parted.1 in
      let is_input : a.input < b.inside.graph.inputs = subst (λ (l : Inside). a.input < l.graph.inputs) same a.is_input in
      let at_b : slice_get (instance_names scope.instances) b.instance ≡ Some b.inst = ap (λ (l : List Text). slice_get l b.instance) (sym has) ∙ b.instance_at in
      let known = known_of comps c names earlier comp tables place distinct keeps parts are insides shows b.instance b.inst b.inside at_b b.known in
      omega (arith, same_number b.inside.names a.input b.output b.from_output.name known.shown.distinct at_input b.from_output.name_at, is_input, b.is_output)

  -- ports of an instance whose name has a dot have numbers
  dotted_named : (instance : ℕ) (inst name : Text) (inside : Inside) (number : ℕ) (port : Text) → slice_get g.ports.instances instance ≡ Some inst → ¬ HasNoDot inst → (part : ℕ) → slice_get parts instance ≡ Some (Some part)
      → slice_get insides part ≡ Some inside → slice_get inside.names number ≡ Some name → dotted inst name ≡ port → Contains g.ports.names port
  dotted_named instance inst name inside number port at has_dot part made known name_at is_port =
      subst (Contains g.ports.names) is_port (dots instance inst name inside at has_dot (part, made, known) (Contains-slice_get inside.names number name name_at))

  inner_between : (before port after : Text) → Inner before port → Inner port after → Contains g.ports.names port
  inner_between before port after a b =
      elim (dotless_or a.inst) [
        | inr has_dot ↦ dotted_named a.instance a.inst a.to_input.name a.inside a.input port a.instance_at has_dot (a.known).0 (a.known).1 (a.known).2 a.to_input.name_at a.to_input.is_port
        | inl plain_a ↦
            elim (dotless_or b.inst) [
              | inr has_dot ↦ dotted_named b.instance b.inst b.from_output.name b.inside b.output port b.instance_at has_dot (b.known).0 (b.known).1 (b.known).2 b.from_output.name_at b.from_output.is_port
              | inl plain_b ↦ absurd (apart before port after a b plain_a plain_b)
            ]
      ]

  between : (before port after : Text) → ReadsText before port → ReadsText port after → Contains g.ports.names port
  between before port after first second =
      elim (own_or_inner_read before port first) [
        | inl own ↦ let h = (is before port).1 own in Contains-slice_get g.ports.names h.entry.value port h.value
        | inr a ↦
            elim (own_or_inner_read port after second) [
              | inl own ↦ let h = (is port after).1 own in Contains-slice_get g.ports.names h.entry.key port h.key
              | inr b ↦ inner_between before port after a b
            ]
      ]

  module _ (cells : List Cell) (are_cells : AreCells parts insides g.ports cells) where
    text_reads : (i j : ℕ) (port other : Text) → IsNamed i port → IsNamed j other → Reads g.entries.items cells i j → ReadsText port other
    text_reads i j port other at_port at_other (inl there) =
        by_own (through_before comps) scope port other ((is port other).0 (record { entry = record { key = i; value = j }; there = there; key = at_port; value = at_other }))
    text_reads i j port other at_port at_other (inr through) = inner_read port other ((are_cells.each i j port other at_port at_other).0 through)

    number_reads : (i j : ℕ) (port other : Text) → IsNamed i port → IsNamed j other → ReadsText port other → Reads g.entries.items cells i j
    number_reads i j port other at_port at_other read =
        elim (own_or_inner_read port other read) [
          | inl own ↦
              (let h : HasReading g port other = (is port other).1 own in
              let key : h.entry.key ≡ i = same_number g.ports.names h.entry.key i port ports_distinct h.key at_port in
              let value : h.entry.value ≡ j = same_number g.ports.names h.entry.value j other ports_distinct h.value at_other in
              inl (subst₂ (λ (a b : ℕ). Contains g.entries.items (record { key = a; value = b })) key value h.there))
          | inr inner ↦ inr ((are_cells.each i j port other at_port at_other).1 inner)
        ]

    reads_within : (i j : ℕ) → Reads g.entries.items cells i j → (i < length g.ports.names) × (j < length g.ports.names)
    reads_within i j (inl there) = All-contains (IsWithin g.ports.names) g.entries.items (record { key = i; value = j }) g.in_range there
    reads_within i j (inr (cell, has_cell, through)) =
        let ports = length g.ports.names in
        let fit = All-contains (IsFit ports) cells cell are_cells.fit has_cell in
        let output = All-contains (IsPinWithin ports (length cell.reads.now)) cell.outputs.items through.output fit.outputs through.has_output in
        let input = All-contains (IsPinWithin ports (length cell.reads.now)) cell.inputs.items through.input fit.inputs through.has_input in
        (omega (arith, output.0, through.is_output), omega (arith, input.0, through.is_input))

    -- ---- readings one after another

    text_reaches : (i j : ℕ) → numbers.Reaches g.entries.items cells i j → (port other : Text) → IsNamed i port → IsNamed j other → ReachesText port other
    text_reaches i j (numbers.Directly n m read) port other at_port at_other = Straight port (text_reads n m port other at_port at_other read)
    text_reaches i j (numbers.Through n next m read rest) port other at_port at_other =
        let mid = there_at g.ports.names next (reads_within n next read).1 in
        Over port mid.0 (text_reads n next port mid.0 at_port mid.1 read) (text_reaches next m rest mid.0 other mid.1 at_other)

    -- what reaches another reads one
    first_read : (other port : Text) → ReachesText port other → (next : Text) × ReadsText port next
    first_read other port (Straight p read) = (other, read)
    first_read other port (Over p next read rest) = (next, read)

    number_reaches : (other port : Text) → ReachesText port other → (i j : ℕ) → IsNamed i port → IsNamed j other → numbers.Reaches g.entries.items cells i j
    number_reaches other port (Straight p read) i j at_port at_other = numbers.Directly i j (number_reads i j p other at_port at_other read)
    number_reaches other port (Over p next read rest) i j at_port at_other =
        let on = first_read other next rest in
        let mid = at_of g.ports.names next (in_of g.ports.names next (between p next on.0 read on.1)) in
        numbers.Through i mid.0 j (number_reads i mid.0 p next at_port mid.1 read) (number_reaches other next rest mid.0 j mid.1 at_other)

    reads_at : (i j : ℕ) → Reads g.entries.items cells i j → ReadsAt comps c g.ports.names i j
    reads_at i j read =
        let within = reads_within i j read in
        let port = there_at g.ports.names i within.0 in
        let other = there_at g.ports.names j within.1 in
        record { port = port.0; read = other.0; is_port = port.1; is_read = other.1; reads = text_reads i j port.0 other.0 port.1 other.1 read }

    pub leads_as_read : (reads : List (List ℕ)) → IsFlat g.entries.items (length g.ports.names) cells reads → LeadsAsRead comps c g.ports.names reads
    leads_as_read reads flat = record {
      in_range = flat.in_range;
      all = flat.all;
      reaches = λ port other i j at_port at_other.
          let same = flat.reaches i j (slice_get_within g.ports.names i port at_port) (slice_get_within g.ports.names j other at_other) in
          (λ reaches. text_reaches i j (same.0 reaches) port other at_port at_other, λ reaches. same.1 (number_reaches other port reaches i j at_port at_other));
      between = between;
      loops = λ nodes cycle first.
          let loop = flat.loops nodes cycle first in
          record { some = loop.some; along = λ i lt. reads_at _ _ (loop.along i lt); back = reads_at _ _ loop.back; once = loop.once };
    }
