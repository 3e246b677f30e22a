-- A component that looks the same in two designs keeps the rules of the one in the other.
use Rattle.std.proofs.Common.{inl, inr, List, [], ◌∷◌, map, refl, sym, ◌∙◌, subst}
use Rattle.std.specs.Prelude.{Contains, codes}
use Rattle.std.proofs.lemmas.List.Elements.{All-weaker}
use Rattle.cal_ast.specs.Actors.{ActorGroup}
use Rattle.cal_ast.specs.Items.{Item, TheSignature, TheCell, TheGroup, TheAssignment, TheDone, TheStatement}
use Rattle.cal_ast.specs.Naming.{GroupNaming, HasNewNames, IsKnownCell}
use Rattle.cal_ast.specs.Rules.{Rule, C1, C2, C3, C4, Keeps, all_rules}
use Rattle.cal_ast.specs.Tree.{PortName, own, Assignment, CellDef, GroupDef, Component, Design}
use Rattle.cal_ast.specs.Wires.{IsGroupOf, IsAssignmentOf, IsAssignedIn, ReadsPort, ByAssignment, ByDone, ByGo, ByPrimitive, ByComponent, Reaches, Straight, Over, ReadsAlong}
use Rattle.cal_part.specs.Laws.{LooksKeepNoLoop, LooksKeepRules}
use Rattle.cal_part.specs.SameLooks.{LooksTheSame, PassNoMore}
use Rattle.cal_part.proofs.PlaceLemmas.{LooksAlike}
use Rattle.cal_part.proofs.RuleLemmas.{at_assignment, at_done, at_statement, widths_kept}
use Rattle.cal_part.proofs.SameLemmas.{actors_alike, side_alike}

-- the same said of one component twice
like : (first second : Design) (c : Component) → LooksTheSame first second c → LooksAlike first c second c
like first second c looks = record {
  ins = refl;
  outs = refl;
  groups = refl;
  sets = refl;
  control = refl;
  cells = λ cell known. known;
  ports = looks.ports;
  starts = looks.starts;
}

-- ---- C1 to C11

module _ (first second earlier earlier' : Design) (c : Component) (looks : LooksTheSame first second c) (names : HasNewNames earlier c → HasNewNames earlier' c)
    (cells : (cell : CellDef) → IsKnownCell first c cell → IsKnownCell second c cell) (naming : GroupNaming) where
  rule_kept : (item : Item) (rule : Rule) → Keeps naming first earlier c item rule → Keeps naming second earlier' c item rule
  rule_kept TheSignature C1 h = names h
  rule_kept TheSignature C4 h = widths_kept first c second c (like first second c looks) h
  rule_kept TheSignature rule h = tt
  rule_kept (TheCell before cell) C1 h = h
  rule_kept (TheCell before cell) C2 h = cells cell h
  rule_kept (TheCell before cell) C3 h = h
  rule_kept (TheCell before cell) rule h = tt
  rule_kept (TheGroup before g) rule h = h
  rule_kept (TheAssignment a) rule h = at_assignment first c second c (like first second c looks) a rule h
  rule_kept (TheDone g before line) rule h = at_done first c second c (like first second c looks) g before line rule h
  rule_kept (TheStatement s) rule h = at_statement first c second c (like first second c looks) s rule h

pub looks_keep_rules : LooksKeepRules
looks_keep_rules first second earlier earlier' c looks names cells naming keeps k item is =
    All-weaker (Keeps naming first earlier c item) (Keeps naming second earlier' c item) (rule_kept first second earlier earlier' c looks names cells naming item) all_rules (keeps k item is)

-- ---- C12

module _ (first second these : Design) (pass : PassNoMore first second these) where
  module _ (c : Component) (has : Contains these c) where
    alike : LooksAlike first c second c
    alike = like first second c (pass.looks c has)

    group_before : (g : GroupDef) → IsGroupOf second c g → IsGroupOf first c g
    group_before g is = subst (λ (actors : List ActorGroup). Contains (map (λ (a : ActorGroup). a.group) actors) g) (sym (actors_alike first c second c alike refl)) is

    assigned_before : (g : GroupDef) (port : PortName) → IsAssignedIn second c g port → IsAssignedIn first c g port
    assigned_before g port s = record { is = group_before g s.is; a = s.a; has = s.has; drives = s.drives }

    assignment_before : (a : Assignment) → IsAssignmentOf second c a → IsAssignmentOf first c a
    assignment_before a (inl continuous) = inl continuous
    assignment_before a (inr (g, is, there)) = inr (g, group_before g is, there)

  mutual
    reads : (c : Component) (port to : PortName) → ReadsPort second c port to → Contains these c → ReadsPort first c port to
    reads c port to (ByAssignment x p q r) has = ByAssignment x p q (record { a = r.a; is = assignment_before x has r.a r.is; drives = r.drives; reads = r.reads })
    reads c port to (ByDone x p q r) has = ByDone x p q (record { g = r.g; assigned = assigned_before x has r.g p r.assigned; d = r.d; has = r.has; reads = r.reads })
    reads c port to (ByGo x p q r) has =
        ByGo x p q (record {
          g = r.g;
          assigned = assigned_before x has r.g p r.assigned;
          is_go = r.is_go;
          is_input = side_alike first x second x (alike x has) (own (codes "go")) ∙ r.is_input;
        })
    reads c port to (ByPrimitive x p q r) has = ByPrimitive x p q r
    reads c port to (ByComponent x part p q output input r rest) has =
        elim (pass.parts x part r.cell has r.made) [
          | inl (made, there) ↦ ByComponent x part p q output input (record {
            cell = r.cell;
            made = made;
            has_output = r.has_output;
            has_input = r.has_input;
            is_output = r.is_output;
            is_input = r.is_input;
          }) (reaches part (own output) (own input) rest there)
          | inr nothing ↦ absurd (nothing output input rest)
        ]

    reaches : (c : Component) (port to : PortName) → Reaches second c port to → Contains these c → Reaches first c port to
    reaches c port to (Straight x p q r) has = Straight x p q (reads x p q r has)
    reaches c port to (Over x p between q r rest) has = Over x p between q (reads x p between r has) (reaches x between q rest has)

  along : (c : Component) → Contains these c → (ports : List PortName) (back : PortName) → ReadsAlong second c ports back → ReadsAlong first c ports back
  along c has [] back r = tt
  along c has (p ∷ []) back r = reads c p back r has
  along c has (p ∷ q ∷ ports) back r = (reads c p q r.0 has, along c has (q ∷ ports) back r.1)

pub looks_keep_no_loop : LooksKeepNoLoop
looks_keep_no_loop first second these pass c has none start others loop =
    none start others (record { along = along first second these pass c has (start ∷ others) start loop.along; distinct = loop.distinct })
