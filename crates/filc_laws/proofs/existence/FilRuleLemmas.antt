-- A design keeps F1 to F14, or is refused.
use Rattle.std.proofs.Common.{◌≡◌, ℕ, zero, suc, ◌+◌, ◌<◌, ◌⊎◌, inl, inr, List, [], ◌∷◌, ◌++◌, length, take, Option, None, Some, refl, sym, ap, subst, ◌∙◌, arith}
use Rattle.std.specs.Prelude.{slice_get, All, map}
use Rattle.std.specs.List.{flat_map}
use Rattle.std.proofs.lemmas.Bool.{cases_lt}
use Rattle.std.proofs.lemmas.Option.{same_Some, slice_get_within}
use Rattle.hw_graph.proofs.MemberLemmas.{In, in_at, in_of, in_left, in_right, in_map, in_flat_map}
use Rattle.hw_names.specs.Name.{Text, dotted}
use Rattle.fil_ast.specs.Evidence.{Evidence, Nothing, ALoop}
use Rattle.fil_ast.specs.Items.{Item, TheSignature, TheStatement, TheEnd, IsItem, scope_after, scope_with}
use Rattle.fil_ast.specs.Refusal.{IsRefusal, BreaksRule, HasLoop, ShowsBroken}
use Rattle.fil_ast.specs.Rules.{Rule, F11, F12, FilRules, HasFirstLoop, IsFirstBroken, Keeps, KeepsComponent, KeepsItem, KeepsRules, all_rules}
use Rattle.fil_ast.specs.Scope.{Scope, Instance, Invocation, instance_signature}
use Rattle.fil_ast.specs.Signature.{SigPort, Signature}
use Rattle.fil_ast.specs.Tree.{Component, Design, Statement, New, Call, Both, Connect}
use Rattle.fil_ast.specs.Wires.{ByArgument, ByConnection, ByInstance, HasNoLoop, IsLeastLoop, IsLoop, ReadsAlong, ReadsPort, through_before, whole_scope}
use Rattle.filc_laws.proofs.existence.Classical.{sure, next, so, by_cases, all_or_first, IsJudgedBelow}
use Rattle.filc_laws.proofs.existence.EvidenceLemmas.{shows}
use Rattle.filc_laws.proofs.existence.LeastLemmas.{LeastOf, least_of}
use Rattle.filc_laws.proofs.existence.ListLemmas.{place_of, all_of}
use Rattle.filc_laws.specs.Classically.{Classically}

-- ---- items

-- an item has one number
item_once : (c : Component) (k : ℕ) (a b : Item) → IsItem c k a → IsItem c k b → a ≡ b
item_once c zero a b p q = p ∙ sym q
item_once c (suc k) a b (inl (s, at, is)) (inl (t, at', is')) = is ∙ ap (TheStatement (take k c.body)) (same_Some s t (sym at ∙ at')) ∙ sym is'
item_once c (suc k) a b (inl (s, at, is)) (inr (end, is')) = let within = slice_get_within c.body k s at in absurd (omega (arith, end, within))
item_once c (suc k) a b (inr (end, is)) (inl (s, at, is')) = let within = slice_get_within c.body k s at in absurd (omega (arith, end, within))
item_once c (suc k) a b (inr (end, is)) (inr (end', is')) = is ∙ sym is'

item_at : (c : Component) (k : ℕ) → k < length c.body + 2 → (item : Item) × IsItem c k item
item_at c zero less = (TheSignature, refl)
item_at c (suc k) less = elim (cases_lt k (length c.body)) [
  | inl within ↦ let s = place_of c.body k within in (TheStatement (take k c.body) s.0, inl (s.0, s.1, refl))
  | inr past ↦ (TheEnd, inr (omega (arith, less, past), refl))
]

item_within : (c : Component) (k : ℕ) (item : Item) → IsItem c k item → k < length c.body + 2
item_within c zero item is = omega arith
item_within c (suc k) item (inl (s, at, is)) = let within = slice_get_within c.body k s at in omega (arith, within)
item_within c (suc k) item (inr (end, is)) = omega (arith, end)

-- ---- F1 to F13

module _ (comps : Design) where
  abbrev IsBrokenSomewhere : Type 0
  IsBrokenSomewhere = (n : ℕ) × (k : ℕ) × (r : ℕ) × IsFirstBroken all_rules comps n k r

  module _ (n : ℕ) (c : Component) (at : slice_get comps n ≡ Some c)
      (components : (m : ℕ) (earlier : Component) → m < n → slice_get comps m ≡ Some earlier → KeepsComponent all_rules (take m comps) earlier) where
    abbrev earlier : Design
    earlier = take n comps

    module _ (k : ℕ) (items : (j : ℕ) → j < k → KeepsItem all_rules earlier c j) (item : Item) (here : IsItem c k item) where
      abbrev KeepsAt : ℕ → Type 0
      KeepsAt r = (rule : Rule) → slice_get all_rules r ≡ Some rule → Keeps earlier c item rule

      broken_rule : (KeepsItem all_rules earlier c k → ⊥) → IsJudgedBelow KeepsAt (length all_rules) → IsBrokenSomewhere
      broken_rule lacks (inl all) =
          absurd (lacks (λ other is. subst (λ (i : Item). All (Keeps earlier c i) all_rules) (item_once c k item other here is)
          (all_of (Keeps earlier c item) all_rules (λ r less rule rule_at. all r less rule rule_at))))
      broken_rule lacks (inr (r, less, unkept, before)) =
          let rule = place_of all_rules r less in (
            n,
            k,
            r,
            record {
              c = c;
              at = at;
              components = components;
              items = items;
              item = item;
              here = here;
              lesser = λ q other below other_at. before q below other other_at;
              rule = rule.0;
              numbered = rule.1;
              broken = λ keeps. unkept (λ other other_at. subst (Keeps earlier c item) (same_Some rule.0 other (sym rule.1 ∙ other_at)) keeps);
            },
          )

      broken_here : (KeepsItem all_rules earlier c k → ⊥) → Classically IsBrokenSomewhere
      broken_here lacks = so (all_or_first KeepsAt (length all_rules)) (broken_rule lacks)

    broken_item : (KeepsComponent all_rules earlier c → ⊥) → IsJudgedBelow (KeepsItem all_rules earlier c) (length c.body + 2) → Classically IsBrokenSomewhere
    broken_item lacks (inl all) = absurd (lacks (λ k item is. all k (item_within c k item is) item is))
    broken_item lacks (inr (k, less, unkept, before)) = let item = item_at c k less in broken_here k before item.0 item.1 unkept

    broken_component : (KeepsComponent all_rules earlier c → ⊥) → Classically IsBrokenSomewhere
    broken_component lacks = next (all_or_first (KeepsItem all_rules earlier c) (length c.body + 2)) (broken_item lacks)

  abbrev KeepsNumber : ℕ → Type 0
  KeepsNumber n = (c : Component) → slice_get comps n ≡ Some c → KeepsComponent all_rules (take n comps) c

  broken_design : IsJudgedBelow KeepsNumber (length comps) → Classically (KeepsRules all_rules comps ⊎ IsBrokenSomewhere)
  broken_design (inl all) = sure (inl (λ n c at. all n (slice_get_within comps n c at) c at))
  broken_design (inr (n, less, lacks, before)) =
      let c = place_of comps n less in
      so (broken_component n c.0 c.1 (λ m other below at. before m below other at)
      (λ keeps. lacks (λ other at. subst (KeepsComponent all_rules (take n comps)) (same_Some c.0 other (sym c.1 ∙ at)) keeps))) inr

  keeps_or_breaks : Classically (KeepsRules all_rules comps ⊎ IsBrokenSomewhere)
  keeps_or_breaks = next (all_or_first KeepsNumber (length comps)) broken_design

-- F12 comes after F11
late : (q : ℕ) → slice_get all_rules q ≡ Some F12 → 10 < q
late zero e = absurd cc
late (suc zero) e = absurd cc
late (suc (suc zero)) e = absurd cc
late (suc (suc (suc zero))) e = absurd cc
late (suc (suc (suc (suc zero)))) e = absurd cc
late (suc (suc (suc (suc (suc zero))))) e = absurd cc
late (suc (suc (suc (suc (suc (suc zero)))))) e = absurd cc
late (suc (suc (suc (suc (suc (suc (suc zero))))))) e = absurd cc
late (suc (suc (suc (suc (suc (suc (suc (suc zero)))))))) e = absurd cc
late (suc (suc (suc (suc (suc (suc (suc (suc (suc zero))))))))) e = absurd cc
late (suc (suc (suc (suc (suc (suc (suc (suc (suc (suc zero)))))))))) e = absurd cc
late (suc (suc (suc (suc (suc (suc (suc (suc (suc (suc (suc q))))))))))) e = omega arith

-- what the first broken rule shows is there
shown : (comps : Design) (n k r : ℕ) (f : IsFirstBroken all_rules comps n k r) → Classically ((e : Evidence) × ShowsBroken (take n comps) f.c f.item f.rule e)
shown comps n k r f = by f.item f.broken (λ q rule less at. f.lesser q rule less at)
  where
    by : (item : Item) → (Keeps (take n comps) f.c item f.rule → ⊥) → ((q : ℕ) (rule : Rule) → q < r → slice_get all_rules q ≡ Some rule → Keeps (take n comps) f.c item rule) → Classically ((e : Evidence) × ShowsBroken (take n comps) f.c item f.rule e)
    by TheSignature broken lesser = sure (Nothing, refl)
    by TheEnd broken lesser = sure (Nothing, refl)
    by (TheStatement before s) broken lesser =
        shows f.rule (scope_after (take n comps) f.c before) (scope_with (take n comps) f.c before s) before s
        (λ same. lesser 10 F11 (late r (f.numbered ∙ ap Some same)) refl) broken

-- ---- F14

module _ (scope : Scope) where
  abbrev port_names_in : (Signature → List SigPort) → Text → Option Signature → List Text
  port_names_in ports inst None = []
  port_names_in ports inst (Some sig) = map (λ (p : SigPort). dotted inst p.name) (ports sig)

  abbrev of_invocation : Invocation → List Text
  of_invocation v = port_names_in (λ sig. sig.ins) v.inst (instance_signature scope v.inst)

  abbrev of_instance : Instance → List Text
  of_instance i = port_names_in (λ sig. sig.outs) i.name (instance_signature scope i.name)

  abbrev of_statement : Statement → List Text
  of_statement (New name made params) = []
  of_statement (Call name inst gives) = []
  of_statement (Both name made params gives) = []
  of_statement (Connect output value) = output ∷ []

  -- the ports that read others
  abbrev reading_ports : List Text
  reading_ports = flat_map of_invocation scope.invocations ++ (flat_map of_statement scope.comp.body ++ flat_map of_instance scope.instances)

  named_there : (ports : Signature → List SigPort) (inst : Text) (o : Option Signature) (sig : Signature) → o ≡ Some sig → (p : SigPort) → In (ports sig) p → In (port_names_in ports inst o) (dotted inst p.name)
  named_there ports inst o sig is p has =
      subst (λ (x : Option Signature). In (port_names_in ports inst x) (dotted inst p.name)) (sym is) (in_map (λ (q : SigPort). dotted inst q.name) (ports sig) p has)

  reads_from : (through : Text → Text → Text → Type 0) (port other : Text) → ReadsPort through scope port other → In reading_ports port
  reads_from through port other (ByArgument r) =
      subst (λ (x : Text). In reading_ports x) r.is_port
      (in_left (flat_map of_invocation scope.invocations) (flat_map of_statement scope.comp.body ++ flat_map of_instance scope.instances) (dotted r.invocation.inst r.input.name)
      (in_flat_map of_invocation scope.invocations r.invocation (dotted r.invocation.inst r.input.name) (in_of scope.invocations r.invocation r.invoked)
      (named_there (λ sig. sig.ins) r.invocation.inst (instance_signature scope r.invocation.inst) r.signature r.signed r.input (in_at r.signature.ins r.place r.input r.taken))))
  reads_from through port other (ByConnection r) =
      in_right (flat_map of_invocation scope.invocations) (flat_map of_statement scope.comp.body ++ flat_map of_instance scope.instances) port
      (in_left (flat_map of_statement scope.comp.body) (flat_map of_instance scope.instances) port
      (in_flat_map of_statement scope.comp.body (Connect port r.value) port (in_of scope.comp.body (Connect port r.value) r.connected) (inl refl)))
  reads_from through port other (ByInstance r) =
      subst (λ (x : Text). In reading_ports x) r.is_port
      (in_right (flat_map of_invocation scope.invocations) (flat_map of_statement scope.comp.body ++ flat_map of_instance scope.instances) (dotted r.instance.name r.output.name)
      (in_right (flat_map of_statement scope.comp.body) (flat_map of_instance scope.instances) (dotted r.instance.name r.output.name)
      (in_flat_map of_instance scope.instances r.instance (dotted r.instance.name r.output.name) (in_of scope.instances r.instance r.has)
      (named_there (λ sig. sig.outs) r.instance.name (instance_signature scope r.instance.name) r.signature r.signed r.output (in_of r.signature.outs r.output r.has_output)))))

module _ (earlier : Design) (c : Component) where
  first_reads : (port : Text) (others : List Text) (back : Text) → ReadsAlong earlier c (port ∷ others) back → In (reading_ports (whole_scope earlier c)) port
  first_reads port [] back reads = reads_from (whole_scope earlier c) (through_before earlier) port back reads
  first_reads port (other ∷ others) back along = reads_from (whole_scope earlier c) (through_before earlier) port other along.0

  abbrev LiesOnLoop : Text → Type 0
  LiesOnLoop port = (others : List Text) × IsLoop earlier c port others

  abbrev HasLeastLoop : Type 0
  HasLeastLoop = (first : Text) × (others : List Text) × IsLeastLoop earlier c first others

  least_loop : LeastOf LiesOnLoop (reading_ports (whole_scope earlier c)) → HasLeastLoop
  least_loop l = (l.text, l.has.0, record { is_loop = l.has.1; least = λ port ports loop. l.least port (first_reads port ports port loop.along) (ports, loop) })

  some_loop : (HasNoLoop earlier c → ⊥) → Classically HasLeastLoop
  some_loop loops =
      by_cases ((first : Text) × LiesOnLoop first)
      (λ (first, loop). so (least_of LiesOnLoop (reading_ports (whole_scope earlier c)) first loop) least_loop)
      (λ none. absurd (loops (λ first others loop. none (first, (others, loop)))))

module _ (comps : Design) (keeps : KeepsRules all_rules comps) where
  abbrev HasNoLoopAt : ℕ → Type 0
  HasNoLoopAt n = (c : Component) → slice_get comps n ≡ Some c → HasNoLoop (take n comps) c

  abbrev IsLoopedSomewhere : Type 0
  IsLoopedSomewhere = (n : ℕ) × (first : Text) × (others : List Text) × HasFirstLoop comps n first others

  first_loop : IsJudgedBelow HasNoLoopAt (length comps) → Classically (FilRules comps ⊎ IsLoopedSomewhere)
  first_loop (inl all) = sure (inl (record { keeps = keeps; no_loop = λ n c at. all n (slice_get_within comps n c at) c at }))
  first_loop (inr (n, less, lacks, before)) =
      let c = place_of comps n less in
      so (some_loop (take n comps) c.0 (λ none. lacks (λ other at. subst (HasNoLoop (take n comps)) (same_Some c.0 other (sym c.1 ∙ at)) none)))
      (λ (first, others, loop). inr (
        n,
        first,
        others,
        record {
          others_keep = keeps;
          c = c.0;
          at = c.1;
          components = λ m other below at. before m below other at;
          loop = loop;
        },
      ))

  loops_or_not : Classically (FilRules comps ⊎ IsLoopedSomewhere)
  loops_or_not = next (all_or_first HasNoLoopAt (length comps)) first_loop

-- ---- the design

abbrev pub IsFilRuled : Design → Type 0
IsFilRuled comps = FilRules comps ⊎ ((name : Text) × (item : ℕ) × (e : Evidence) × (rule : ℕ) × IsRefusal comps name item e rule)

by_loop : (comps : Design) (keeps : KeepsRules all_rules comps) → FilRules comps ⊎ IsLoopedSomewhere comps keeps → IsFilRuled comps
by_loop comps keeps (inl rules) = inl rules
by_loop comps keeps (inr (n, first, others, loop)) = inr (loop.c.name, 0, ALoop (first ∷ others), 14, HasLoop n first others loop refl refl refl)

by_rule : (comps : Design) → KeepsRules all_rules comps ⊎ IsBrokenSomewhere comps → Classically (IsFilRuled comps)
by_rule comps (inl keeps) = so (loops_or_not comps keeps) (by_loop comps keeps)
by_rule comps (inr (n, k, r, f)) = so (shown comps n k r f) (λ (e, told). inr (f.c.name, k, e, r + 1, BreaksRule n r f refl told))

pub is_fil_ruled : (comps : Design) → Classically (IsFilRuled comps)
is_fil_ruled comps = next (keeps_or_breaks comps) (by_rule comps)
