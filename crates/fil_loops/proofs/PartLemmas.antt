-- What the functions of levels say, one statement, port or node more at a time.
use Rattle.std.proofs.Common.{◌≡◌, ◌↔◌, inl, inr, ℕ, ◌+◌, ◌<◌, List, [], ◌∷◌, ◌++◌, Option, Some, Contains, length, flat_map, map, take, slice_get, sym, ap, subst, ◌∙◌, append_assoc, arith}
use Rattle.std.specs.Prelude.{All}
use Rattle.std.proofs.lemmas.Bool.{cases_lt}
use Rattle.std.proofs.lemmas.List.{append-nil, length-append}
use Rattle.std.proofs.lemmas.List.Concat.{flat_map-append}
use Rattle.std.proofs.lemmas.List.Elements.{All-contains, All-push, Contains-append_left}
use Rattle.hw_graph.proofs.MemberLemmas.{contains_of, in_at}
use Rattle.hw_levels.specs.declared.cells.CellPort.{CellPort}
use Rattle.hw_names.specs.Name.{Text, HasNoDot}
use Rattle.fil_ast.specs.Scope.{Instance, instances_at}
use Rattle.fil_ast.specs.Tree.{Component, Design, Statement}
use Rattle.fil_share.proofs.ListLemmas.{take_next}
use Rattle.fil_place.proofs.GeneralLemmas.{mapped_at, unmapped}
use Rattle.fil_loops.proofs.InstanceLemmas.{front_at, last_at}
use Rattle.fil_loops.proofs.WiredLemmas.{last_or_before}
use Rattle.fil_loops.specs.inside.PortsOfParts.{AreParts, IsMadeOf, IsPortOfPart, TellsPort}
use Rattle.fil_loops.specs.inside.Ports.{IsFit, PortList, full_name_in}
use Rattle.fil_loops.specs.declared.levels.Levels.{Levels}
use Rattle.fil_loops.specs.declared.ports.PortKey.{PortKey}

-- a part for each instance: exactly of one that is made of a component its number
pub record HaveParts (comps : Design) (instances : List Instance) (parts : List (Option ℕ)) : Type 0 where
  pub all : length parts ≡ length instances
  pub are : AreParts comps instances parts

-- the part of an instance: exactly the number of a component that it is made of
abbrev pub IsPart : Design → Instance → Option ℕ → Type 0
IsPart comps i o = (n : ℕ) → (o ≡ Some n) ↔ ((part : Component) × (slice_get comps n ≡ Some part) × (part.name ≡ i.made))

-- by the names of the components
pub part_told : (comps : Design) (names : List Text) → names ≡ map (λ (c : Component). c.name) comps → (i : Instance) (made : Text) → i.made ≡ made → (o : Option ℕ) → ((n : ℕ) → (o ≡ Some n) ↔ (slice_get names n ≡ Some made)) → IsPart comps i o
part_told comps names are i made same o tells n = (to, from)
  where
    to : o ≡ Some n → (part : Component) × (slice_get comps n ≡ Some part) × (part.name ≡ i.made)
    to is = let m = unmapped (λ (c : Component). c.name) comps n made (ap (λ (l : List Text). slice_get l n) (sym are) ∙ (tells n).0 is) in (m.0, m.1, m.2 ∙ sym same)

    from : (part : Component) × (slice_get comps n ≡ Some part) × (part.name ≡ i.made) → o ≡ Some n
    from (part, at, named) = (tells n).1 (ap (λ (l : List Text). slice_get l n) are ∙ mapped_at (λ (c : Component). c.name) comps n part at ∙ ap Some (named ∙ same))

pub parts_more : (comps : Design) (instances : List Instance) (i : Instance) (parts : List (Option ℕ)) (o : Option ℕ) → IsPart comps i o → HaveParts comps instances parts → HaveParts comps (instances ++ i ∷ []) (parts ++ o ∷ [])
parts_more comps instances i parts o is has = record {
  all = omega (arith, length-append parts (o ∷ []), length-append instances (i ∷ []), has.all);
  are = λ k n. (to k n, from k n);
}
  where
    to : (k n : ℕ) → slice_get (parts ++ o ∷ []) k ≡ Some (Some n) → IsMadeOf comps (instances ++ i ∷ []) k n
    to k n at =
        elim (last_or_before parts o k (Some n) at) [
          | inl before ↦
              (let made = (has.are k n).0 before.1 in
              record {
                instance = made.instance;
                part = made.part;
                instance_at = front_at instances (i ∷ []) k (omega (arith, before.0, has.all)) ∙ made.instance_at;
                part_at = made.part_at;
                named = made.named;
              })
          | inr last ↦
              (let made = (is n).0 last.1 in
              let here : length instances ≡ k = omega (arith, last.0, has.all) in
              record {
                instance = i;
                part = made.0;
                instance_at = ap (slice_get (instances ++ i ∷ [])) (sym here) ∙ last_at instances i;
                part_at = made.1;
                named = made.2;
              })
        ]

    from : (k n : ℕ) → IsMadeOf comps (instances ++ i ∷ []) k n → slice_get (parts ++ o ∷ []) k ≡ Some (Some n)
    from k n made =
        elim (last_or_before instances i k made.instance made.instance_at) [
          | inl before ↦
              front_at parts (o ∷ []) k (omega (arith, before.0, has.all))
              ∙ (has.are k n).1 (record { instance = made.instance; part = made.part; instance_at = before.1; part_at = made.part_at; named = made.named })
          | inr last ↦
              (let here : length parts ≡ k = omega (arith, last.0, has.all) in
              ap (slice_get (parts ++ o ∷ [])) (sym here) ∙ last_at parts o ∙ ap Some ((is n).1 (made.part, made.part_at, made.named ∙ ap (λ (x : Instance). x.made) (sym last.1))))
        ]

next_instances : (body : List Statement) (k : ℕ) (s : Statement) → slice_get body k ≡ Some s → flat_map instances_at (take (k + 1) body) ≡ flat_map instances_at (take k body) ++ instances_at s
next_instances body k s at =
    ap (flat_map instances_at) (take_next body k s at) ∙ flat_map-append instances_at (take k body) (s ∷ [])
    ∙ ap (λ (l : List Instance). flat_map instances_at (take k body) ++ l) (append-nil (instances_at s))

pub statement_makes : (comps : Design) (body : List Statement) (k : ℕ) (s : Statement) (i : Instance) (parts : List (Option ℕ)) (o : Option ℕ) → slice_get body k ≡ Some s → instances_at s ≡ i ∷ []
    → IsPart comps i o → HaveParts comps (flat_map instances_at (take k body)) parts → HaveParts comps (flat_map instances_at (take (k + 1) body)) (parts ++ o ∷ [])
statement_makes comps body k s i parts o at makes is has =
    subst (λ (l : List Instance). HaveParts comps l (parts ++ o ∷ [])) (sym (next_instances body k s at ∙ ap (λ (l : List Instance). flat_map instances_at (take k body) ++ l) makes))
    (parts_more comps (flat_map instances_at (take k body)) i parts o is has)

pub statement_makes_none : (comps : Design) (body : List Statement) (k : ℕ) (s : Statement) (parts : List (Option ℕ)) → slice_get body k ≡ Some s → instances_at s ≡ []
    → HaveParts comps (flat_map instances_at (take k body)) parts → HaveParts comps (flat_map instances_at (take (k + 1) body)) parts
statement_makes_none comps body k s parts at makes has =
    subst (λ (l : List Instance). HaveParts comps l parts)
    (sym (next_instances body k s at ∙ ap (λ (l : List Instance). flat_map instances_at (take k body) ++ l) makes ∙ append-nil (flat_map instances_at (take k body)))) has

-- ---- the ports of instances, node by node

module _ (ports : PortList) (parts : List (Option ℕ)) (levels : List Levels) where
  -- all such ports among the first nodes are among the cells
  abbrev pub HasPortsBelow : ℕ → List CellPort → Type 0
  HasPortsBelow count cells =
      (node instance pin : ℕ) (own : Levels) → node < count → IsPortOfPart ports parts levels node instance pin own → (port : CellPort) × Contains cells port × TellsPort node instance pin own port

  pub ports_more : (count : ℕ) (cells : List CellPort) (port : CellPort) → ((instance pin : ℕ) (own : Levels) → IsPortOfPart ports parts levels count instance pin own → TellsPort count instance pin own port)
      → HasPortsBelow count cells → HasPortsBelow (count + 1) (cells ++ port ∷ [])
  ports_more count cells port tells before node instance pin own below is =
      elim (cases_lt node count) [
        | inl less ↦ let old = before node instance pin own less is in (old.0, Contains-append_left cells (port ∷ []) old.0 old.1, old.2)
        | inr past ↦
            (let same : count ≡ node = omega (arith, below, past) in
            let here : IsPortOfPart ports parts levels count instance pin own = subst (λ (n : ℕ). IsPortOfPart ports parts levels n instance pin own) (sym same) is in
            (port, contains_of (cells ++ port ∷ []) port (in_at (cells ++ port ∷ []) (length cells) port (last_at cells port)), subst (λ (n : ℕ). TellsPort n instance pin own port) same (tells instance pin own here)))
      ]

  pub ports_skip : (count : ℕ) (cells : List CellPort) → ((instance pin : ℕ) (own : Levels) → IsPortOfPart ports parts levels count instance pin own → ⊥) → HasPortsBelow count cells → HasPortsBelow (count + 1) cells
  ports_skip count cells none before node instance pin own below is =
      elim (cases_lt node count) [
        | inl less ↦ before node instance pin own less is
        | inr past ↦
            (let same : count ≡ node = omega (arith, below, past) in
            absurd (none instance pin own (subst (λ (n : ℕ). IsPortOfPart ports parts levels n instance pin own) (sym same) is)))
      ]

-- ---- texts without dots

-- one name more stands last
pub names_more : (old mid new : List Text) (all : List Text) (k : ℕ) (text : Text) → slice_get all k ≡ Some text → mid ≡ old ++ take k all → new ≡ mid ++ text ∷ [] → new ≡ old ++ take (k + 1) all
names_more old mid new all k text at before added =
    added ∙ ap (λ (l : List Text). l ++ text ∷ []) before ∙ append_assoc old (take k all) (text ∷ []) ∙ ap (λ (l : List Text). old ++ l) (sym (take_next all k text at))

pub dotless_more : (mid new : List Text) (text : Text) → new ≡ mid ++ text ∷ [] → HasNoDot text → All HasNoDot mid → All HasNoDot new
dotless_more mid new text added plain all = subst (All HasNoDot) (sym added) (All-push HasNoDot mid text all plain)

-- ---- keys of ports

-- the key of a port that has this full name
pub key_at : (texts : List Text) (keys : List PortKey) → All (IsFit texts) keys → (place : ℕ) (name : Text) → slice_get (map (full_name_in texts) keys) place ≡ Some name
    → (k : PortKey) × (slice_get keys place ≡ Some k) × IsFit texts k × (full_name_in texts k ≡ name)
key_at texts keys fit place name at =
    let m = unmapped (full_name_in texts) keys place name at in
    (m.0, m.1, All-contains (IsFit texts) keys m.0 fit (contains_of keys m.0 (in_at keys place m.0 m.1)), m.2)
