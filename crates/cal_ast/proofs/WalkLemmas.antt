-- Walks over the reads of all instances below a component: none comes back to where it began.
use Rattle.std.proofs.Common.{◌≡◌, ◌⊎◌, inl, inr, [], ◌∷◌, Contains, Option, Some, None, option_and_then, refl, sym, ap, ap₂, subst, ◌∙◌}
use Rattle.std.proofs.lemmas.Option.{same_Some}
use Rattle.hw_names.specs.Name.{Text, Path}
use Rattle.cal_ast.specs.Instances.{component_at}
use Rattle.cal_ast.specs.Ports.{part_in}
use Rattle.cal_ast.specs.Tree.{PortName, Component, Design}
use Rattle.cal_ast.specs.Wires.{ReadsPort, HasNoLoop}
use Rattle.cal_ast.proofs.ClimbLemmas.{Place, owner, place, IsTaken, IsGiven, Onward, Climbs, reach_more, climb_more, climb_same}
use Rattle.cal_ast.proofs.CycleLemmas.{reaches_no_itself}
use Rattle.cal_ast.proofs.InstanceLemmas.{component_at-step}
use Rattle.cal_ast.proofs.LookupLemmas.{part_in-design}

-- a port of an instance below the component reads another of the same instance
pub record Step (design : Design) (c : Component) (from to : Place) : Type 0 where
  pub path : Path
  pub inner : Component
  pub at : component_at design c path ≡ Some inner
  pub port : PortName
  pub other : PortName
  pub reads : ReadsPort design inner port other
  pub given : IsGiven inner port
  pub taken : IsTaken inner other
  pub starts : from ≡ place path port
  pub ends : to ≡ place path other

-- steps one after another, or none
pub data Walk (design : Design) (c : Component) : Place → Place → Type 0 where
  Stay : (from to : Place) → from ≡ to → Walk design c from to
  Go : (from between to : Place) → Step design c from between → Walk design c between to → Walk design c from to

-- a step within the component itself
record TopStep (design : Design) (c : Component) (from to : Place) : Type 0 where
  port : PortName
  other : PortName
  reads : ReadsPort design c port other
  given : IsGiven c port
  taken : IsTaken c other
  starts : from ≡ place [] port
  ends : to ≡ place [] other

-- a walk with a step within the component itself
record Passes (design : Design) (c : Component) (from to : Place) : Type 0 where
  start : Place
  next : Place
  before : Walk design c from start
  top : TopStep design c start next
  after : Walk design c next to

-- the place below the cell
abbrev under : Text → Place → Place
under cell p = (cell ∷ p.0, p.1)

place-under : (cell : Text) (path : Path) (port : PortName) → place (cell ∷ path) port ≡ under cell (place path port)
place-under cell path port = ap (λ (way : Path). (way, port.pin)) (by port.cell)
  where
    by : (c : Option Text) → owner (cell ∷ path) c ≡ cell ∷ owner path c
    by None = refl
    by (Some name) = refl

under_same : (cell cell' : Text) (p q : Place) → under cell p ≡ under cell' q → (cell ≡ cell') × (p ≡ q)
under_same cell cell' p q e =
    let paths : cell ∷ p.0 ≡ cell' ∷ q.0 = ap (λ (r : Place). r.0) e in
    let pins : p.1 ≡ q.1 = ap (λ (r : Place). r.1) e in
    let cells : cell ≡ cell' = cc in
    let rest : p.0 ≡ q.0 = cc in
    (cells, ap₂ (λ (way : Path) (name : Text). (way, name)) rest pins)

module _ (design : Design) where
  -- one walk after another
  pub walk_on : (c : Component) (from between to : Place) → Walk design c from between → Walk design c between to → Walk design c from to
  walk_on c from between to (Stay p q same) rest = subst (λ r. Walk design c r to) (sym same) rest
  walk_on c from between to (Go p next q s walk) rest = Go p next to s (walk_on c next q to walk rest)

  -- a walk to a port of the component, from where a read of an instance ends
  climb : (c : Component) (from to : Place) → Walk design c from to → (last : PortName) → IsGiven c last → to ≡ place [] last
      → (path : Path) (inner : Component) (port : PortName) → component_at design c path ≡ Some inner → IsTaken inner port → from ≡ place path port → Climbs design c path port last
  climb c from to (Stay p q same) last given is path inner port at taken here =
      climb_same design c path [] inner c at refl last port last taken given (sym here ∙ same ∙ is) (inl refl)
  climb c from to (Go p between q s walk) last given is path inner port at taken here =
      let on = climb c between q walk last given is s.path s.inner s.other s.at s.taken s.ends in
      climb_same design c path s.path inner s.inner at s.at last port s.port taken s.given (sym here ∙ s.starts) (climb_more design c s.inner s.path s.at s.port s.other last s.reads on)

  -- a step at the empty path is within the component itself
  as_top : (c : Component) (from to : Place) (s : Step design c from to) → s.path ≡ [] → TopStep design c from to
  as_top c from to s is =
      let same : c ≡ s.inner = same_Some c s.inner (ap (component_at design c) (sym is) ∙ s.at) in
      record {
        port = s.port;
        other = s.other;
        reads = subst (λ x. ReadsPort design x s.port s.other) (sym same) s.reads;
        given = subst (λ x. IsGiven x s.port) (sym same) s.given;
        taken = subst (λ x. IsTaken x s.other) (sym same) s.taken;
        starts = s.starts ∙ ap (λ way. place way s.port) is;
        ends = s.ends ∙ ap (λ way. place way s.other) is;
      }

  -- a walk from a step within the component comes not back
  no_top_round : (c : Component) (from to : Place) → HasNoLoop design c → TopStep design c from to → Walk design c to from → ⊥
  no_top_round c from to clear top walk =
      let on : Onward design c top.other top.port = climb c to from walk top.port top.given top.starts [] c top.other refl top.taken top.ends in
      reaches_no_itself design c top.port clear (reach_more design c top.port top.other top.port top.reads on)

  -- a step in an instance below a cell, seen from what the cell is made of
  step_below : (c part : Component) (cell : Text) (path : Path) (from to : Place) (s : Step design c from to) → s.path ≡ cell ∷ path → component_at design part path ≡ Some s.inner → Step design part (place path s.port) (place path s.other)
  step_below c part cell path from to s is at = record {
    path = path;
    inner = s.inner;
    at = at;
    port = s.port;
    other = s.other;
    reads = s.reads;
    given = s.given;
    taken = s.taken;
    starts = refl;
    ends = refl;
  }

  -- where such a step starts and ends, seen from above
  starts_under : (c : Component) (cell : Text) (path : Path) (from to : Place) (s : Step design c from to) → s.path ≡ cell ∷ path → from ≡ under cell (place path s.port)
  starts_under c cell path from to s is = s.starts ∙ ap (λ way. place way s.port) is ∙ place-under cell path s.port

  ends_under : (c : Component) (cell : Text) (path : Path) (from to : Place) (s : Step design c from to) → s.path ≡ cell ∷ path → to ≡ under cell (place path s.other)
  ends_under c cell path from to s is = s.ends ∙ ap (λ way. place way s.other) is ∙ place-under cell path s.other

  module _ (c part : Component) (cell : Text) (is_part : part_in design c cell ≡ Some part) where
    -- a step from below the cell stays there
    record Inner (from to : Place) : Type 0 where
      next : Place
      is : to ≡ under cell next
      step : Step design part from next

    split : (from to : Place) (s : Step design c from to) (start : Place) → from ≡ under cell start → TopStep design c from to ⊎ Inner start to
    split from to s start below = by s.path refl
      where
        by : (path : Path) → s.path ≡ path → TopStep design c from to ⊎ Inner start to
        by [] is = inl (as_top c from to s is)
        by (first ∷ path) is =
            let same = under_same first cell (place path s.port) start (sym (starts_under c first path from to s is) ∙ below) in
            let is_first = ap (part_in design c) same.0 ∙ is_part in
            let at = sym (ap (option_and_then (λ x. component_at design x path)) is_first) ∙ ap (component_at design c) (sym is) ∙ s.at in
            inr (record {
              next = place path s.other;
              is = ends_under c first path from to s is ∙ ap (λ name. under name (place path s.other)) same.0;
              step = subst (λ p. Step design part p (place path s.other)) same.1 (step_below c part first path from to s is at);
            })

    -- a walk that begins below the cell passes the component, or stays below
    record Stays (from to : Place) : Type 0 where
      end : Place
      is : to ≡ under cell end
      walk : Walk design part from end

    stays : (from to : Place) → Walk design c from to → (start : Place) → from ≡ under cell start → Passes design c from to ⊎ Stays start to
    stays from to (Stay p q same) start below = inr (record { end = start; is = sym same ∙ below; walk = Stay start start refl })
    stays from to (Go p between q s walk) start below =
        elim (split p between s start below) [
          | inl top ↦ inl (record { start = p; next = between; before = Stay p p refl; top = top; after = walk })
          | inr i ↦ elim (stays between q walk i.next i.is) [
            | inl w ↦ inl (record { start = w.start; next = w.next; before = Go p between w.start s w.before; top = w.top; after = w.after })
            | inr t ↦ inr (record { end = t.end; is = t.is; walk = Go start i.next t.end i.step t.walk })
          ]
        ]

  -- no walk comes back: one that stays below a cell is a shorter way down there, and one that doesn't may begin within the component itself
  pub no_round : ((c : Component) → Contains design c → HasNoLoop design c) → (path : Path) (c : Component) → Contains design c → (from to : Place) (s : Step design c from to) → s.path ≡ path → Walk design c to from → ⊥
  unfolding step_below
  no_round clear [] c has from to s is walk = no_top_round c from to (clear c has) (as_top c from to s is) walk
  no_round clear (cell ∷ path) c has from to s is walk =
      let down = component_at-step design c cell path s.inner (ap (component_at design c) (sym is) ∙ s.at) in
      let part = down.0 in
      elim (stays c part cell down.1 to from walk (place path s.other) (ends_under c cell path from to s is)) [
        | inl p ↦ no_top_round c p.start p.next (clear c has) p.top (walk_on c p.next from p.start p.after (Go from to p.start s p.before))
        | inr t ↦ (let same = under_same cell cell (place path s.port) t.end (sym (starts_under c cell path from to s is) ∙ t.is) in
            no_round clear path part (part_in-design design c cell part down.1) (place path s.port) (place path s.other) (step_below c part cell path from to s is down.2) refl
            (subst (λ p. Walk design part (place path s.other) p) (sym same.1) t.walk))
      ]
