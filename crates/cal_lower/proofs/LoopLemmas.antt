-- A lowered design has no loop: one over a port of the source would be one of the source, and one over ports of pieces alone would fall without end.
use Rattle.std.proofs.Common.{◌≡◌, ◌⊎◌, inl, inr, List, [], ◌∷◌, map, refl, sym, ap, subst, ◌∙◌}
use Rattle.std.specs.Prelude.{All, Contains, slice_get}
use Rattle.std.proofs.lemmas.Option.{slice_get-map}
use Rattle.cal_ast.proofs.CycleLemmas.{reaches_no_itself}
use Rattle.cal_ast.proofs.ListLemmas.{place_of, Contains-at}
use Rattle.cal_ast.proofs.SideLemmas.{some_found}
use Rattle.cal_ast.specs.Holes.{guarded}
use Rattle.cal_ast.specs.NoInvoke.{IsPlainDesign}
use Rattle.cal_ast.specs.Plain.{HasPlainTree}
use Rattle.cal_ast.specs.Rules.{HasNoLoops}
use Rattle.cal_ast.specs.Tree.{PortName, own, Component, Design}
use Rattle.cal_ast.specs.Wires.{ReadsByAssignment, ReadsByDone, ReadsByGo, ReadsByPrimitive, CrossesCell, ReadsPort, ByAssignment, ByDone, ByGo, ByPrimitive, ByComponent, Reaches, Straight, Over, ReadsAlong, HasNoLoop}
use Rattle.cal_lower.specs.inside.Lowered.{HasFewParts, lowered, rules_from}
use Rattle.cal_lower.proofs.AnswerReadLemmas.{Stands, Onward, Apart, enters_on, enters_piece, set_on, done_line_on, go_on, primitive_on, part_on, read_falls}
use Rattle.cal_lower.proofs.ExtendedLemmas.{HasPlace}
use Rattle.cal_lower.proofs.GuardedLemmas.{whole, built}
use Rattle.cal_lower.proofs.LoweredLemmas.{tokens}
use Rattle.cal_lower.proofs.RankLemmas.{Falls, falls_on, falls_not}

-- ---- what is reached

module _ (design : Design) where
  reach_join : (c : Component) (p q r : PortName) → Reaches design c p q → Reaches design c q r → Reaches design c p r
  reach_join c p q r (Straight d p' q' reads) later = Over d p' q' r reads later
  reach_join c p q r (Over d p' between q' reads rest) later = Over d p' between r reads (reach_join d between q' r rest later)

  along_reaches : (c : Component) (first : PortName) (others : List PortName) (back : PortName) → ReadsAlong design c (first ∷ others) back → Reaches design c first back
  along_reaches c first [] back along = Straight c first back along
  along_reaches c first (next ∷ others) back along = Over c first next back along.0 (along_reaches c next others back along.1)

  -- the port itself, or one that it reaches
  abbrev ReachesOrIs : Component → PortName → PortName → Type 0
  ReachesOrIs c p q = (p ≡ q) ⊎ Reaches design c p q

  reach_from : (c : Component) (p q r : PortName) → ReachesOrIs c p q → Reaches design c q r → Reaches design c p r
  reach_from c p q r (inl same) later = subst (λ (x : PortName). Reaches design c x r) (sym same) later
  reach_from c p q r (inr first) later = reach_join c p q r first later

  reach_to : (c : Component) (p q r : PortName) → Reaches design c p q → ReachesOrIs c q r → Reaches design c p r
  reach_to c p q r first (inl same) = subst (λ (x : PortName). Reaches design c p x) same first
  reach_to c p q r first (inr later) = reach_join c p q r first later

module _ (source : Design) (tree : HasPlainTree source) (plain : IsPlainDesign source) (all_few : All HasFewParts source) where
  abbrev answer : Design
  answer = whole tokens source

  abbrev answered : Component → Component
  answered = built tokens source

  -- ---- over a port of the source

  arrive : (c : Component) → Contains source c → (o q : PortName) → HasPlace source c q.cell → Onward source c o q → Reaches source c o q
  arrive c has o q place (inl (reads, there)) = Straight c o q reads
  arrive c has o q place (inr (full, enters)) = absurd (enters_piece source tree plain all_few c has full o q enters place)

  go_over : (c : Component) (o between q : PortName) → Onward source c o between → ((from : PortName) → Stands source c from between → Reaches source c from q) → Reaches source c o q
  go_over c o between q (inl (reads, there)) further = Over c o between q reads (further between (inl (refl, there)))
  go_over c o between q (inr enters) further = further o (inr enters)

  next : (c : Component) → Contains source c → (d : Component) → answered c ≡ d → (o p q : PortName) → ReadsPort answer d p q → (HasPlace source c p.cell → Onward source c p q)
      → Stands source c o p → Onward source c o q
  next c has d same o p q reads step (inl (is, place)) = subst (λ (x : PortName). Onward source c x q) is (step place)
  next c has d same o p q reads step (inr (full, enters)) =
      enters_on source tree plain all_few c has full o p q enters (subst (λ (x : Component). ReadsPort answer x p q) (sym same) reads)

  mutual
    read_on : (d : Component) (p q : PortName) → ReadsPort answer d p q → (c : Component) → Contains source c → answered c ≡ d → HasPlace source c p.cell → Onward source c p q
    read_on d p q (ByAssignment x p' q' r) c has same place =
        set_on source tree plain all_few c has p' q' place (subst (λ (y : Component). ReadsByAssignment answer y p' q') (sym same) r)
    read_on d p q (ByDone x p' q' r) c has same place =
        done_line_on source tree plain all_few c has p' q' (subst (λ (y : Component). ReadsByDone answer y p' q') (sym same) r)
    read_on d p q (ByGo x p' q' r) c has same place =
        go_on source tree plain all_few c has p' q' (subst (λ (y : Component). ReadsByGo answer y p' q') (sym same) r)
    read_on d p q (ByPrimitive x p' q' r) c has same place =
        primitive_on source tree plain all_few c has p' q' place (subst (λ (y : Component). ReadsByPrimitive y p' q') (sym same) r)
    read_on d p q (ByComponent x part p' q' output input r there) c has same place =
        part_on source tree plain all_few c has p' q' part output input place (subst (λ (y : Component). CrossesCell answer y part p' q' output input) (sym same) r)
        (λ b has_b is. reach_on part (own output) (own input) there b has_b is (own output) (inl (refl, tt)) tt)

    reach_on : (d : Component) (p q : PortName) → Reaches answer d p q → (c : Component) → Contains source c → answered c ≡ d → (o : PortName) → Stands source c o p
        → HasPlace source c q.cell → Reaches source c o q
    reach_on d p q (Straight x p' q' r) c has same o stands place =
        arrive c has o q' place (next c has x same o p' q' r (λ there. read_on x p' q' r c has same there) stands)
    reach_on d p q (Over x p' between q' r rest) c has same o stands place =
        go_over c o between q' (next c has x same o p' between r (λ there. read_on x p' between r c has same there) stands)
        (λ from standing. reach_on x between q' rest c has same from standing place)

  -- ---- over ports of pieces

  -- a port of the source lies between, or the ports fall
  abbrev Passes : Component → PortName → PortName → Type 0
  Passes c p q = (s : PortName) × HasPlace source c s.cell × ReachesOrIs answer (answered c) p s × ReachesOrIs answer (answered c) s q

  first_step : (c : Component) (has : Contains source c) (p q : PortName) → ReadsPort answer (answered c) p q → Apart source tree plain all_few c has p q → Passes c p q ⊎ Falls p q
  first_step c has p q reads (inl (inl place)) = inl (p, place, inl refl, inr (Straight (answered c) p q reads))
  first_step c has p q reads (inl (inr place)) = inl (q, place, inr (Straight (answered c) p q reads), inl refl)
  first_step c has p q reads (inr falls) = inr falls

  more_steps : (c : Component) (p between q : PortName) → ReadsPort answer (answered c) p between → Reaches answer (answered c) between q
      → Passes c p between ⊎ Falls p between → Passes c between q ⊎ Falls between q → Passes c p q ⊎ Falls p q
  more_steps c p between q reads rest (inl (s, place, to, from)) later =
      inl (s, place, to, inr (reach_from answer (answered c) s between q from rest))
  more_steps c p between q reads rest (inr falls) (inl (s, place, to, from)) =
      inl (s, place, inr (reach_to answer (answered c) p between s (Straight (answered c) p between reads) to), from)
  more_steps c p between q reads rest (inr falls) (inr further) = inr (falls_on p between q falls further)

  passes : (c : Component) → Contains source c → (d : Component) (p q : PortName) → Reaches answer d p q → answered c ≡ d → Passes c p q ⊎ Falls p q
  passes c has d p q (Straight x p' q' r) same =
      let reads = subst (λ (y : Component). ReadsPort answer y p' q') (sym same) r in
      first_step c has p' q' reads (read_falls source tree plain all_few c has p' q' reads)
  passes c has d p q (Over x p' between q' r rest) same =
      let reads = subst (λ (y : Component). ReadsPort answer y p' between) (sym same) r in
      more_steps c p' between q' reads (subst (λ (y : Component). Reaches answer y between q') (sym same) rest)
      (first_step c has p' between reads (read_falls source tree plain all_few c has p' between reads)) (passes c has x between q' rest same)

  -- ---- no loop

  clear : (c : Component) → Contains source c → HasNoLoop source c
  clear c has = let k = place_of source c has in plain.no_loop k.0 c k.1

  no_round : (c : Component) → Contains source c → (p : PortName) → Reaches answer (answered c) p p → ⊥
  no_round c has p round = elim (passes c has (answered c) p p round refl) [
    | inr falls ↦ falls_not p falls
    | inl (s, place, to, from) ↦
        let whole_round : Reaches answer (answered c) s s =
        reach_to answer (answered c) s p s (reach_from answer (answered c) s p p from round) to in
        reaches_no_itself source c s (clear c has) (reach_on (answered c) s s whole_round c has refl s (inl (refl, place)) place)
  ]

  pub no_loop_in : (c : Component) → Contains source c → HasNoLoop answer (answered c)
  no_loop_in c has first others loop = no_round c has first (along_reaches answer (answered c) first others first loop.along)

  pub no_loops : HasNoLoops answer
  no_loops n d at =
      let x = some_found (guarded (map lowered source) (rules_from 0 source)) (slice_get (map lowered source) n) d
      (sym (slice_get-map (guarded (map lowered source) (rules_from 0 source)) (map lowered source) n) ∙ at) in
      let c = some_found lowered (slice_get source n) x.0 (sym (slice_get-map lowered source n) ∙ x.1) in
      let same : answered c.0 ≡ d = ap (guarded (map lowered source) (rules_from 0 source)) c.2 ∙ x.2 in
      subst (λ (y : Component). HasNoLoop answer y) same (no_loop_in c.0 (Contains-at source n c.0 c.1))
