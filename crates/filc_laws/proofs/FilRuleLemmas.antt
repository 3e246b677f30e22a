-- The first broken rule of a design is one, with its place and with what it shows, but for which loop that is.
use Rattle.std.proofs.Common.{◌≡◌, ℕ, zero, suc, ◌+◌, ◌<◌, ◌⊎◌, inl, inr, List, ◌∷◌, length, take, Some, refl, sym, ap, subst, subst₂, ◌∙◌, arith}
use Rattle.std.specs.Prelude.{slice_get, All}
use Rattle.std.proofs.lemmas.List.Elements.{All-contains}
use Rattle.std.proofs.lemmas.Option.{same_Some}
use Rattle.hw_names.specs.Name.{Text, AreDistinct}
use Rattle.fil_ast.specs.Evidence.{Evidence, Nothing, ALoop}
use Rattle.fil_ast.specs.Items.{Item, TheSignature, TheStatement, TheEnd, IsItem, scope_after, scope_with}
use Rattle.fil_ast.specs.Naming.{event_names}
use Rattle.fil_ast.specs.Refusal.{IsRefusal, BreaksRule, HasLoop, ShowsBroken}
use Rattle.fil_ast.specs.Rules.{Rule, F1, F11, F12, IsFirstBroken, HasFirstLoop, Keeps, KeepsItem, FilRules, all_rules}
use Rattle.fil_ast.specs.Scope.{invocations_at}
use Rattle.fil_ast.specs.Sharing.{KeepsUsesApart}
use Rattle.fil_ast.specs.Tree.{Component, Design, Statement}
use Rattle.fil_ast.specs.Wires.{IsLoop}
use Rattle.fil_share.proofs.ListLemmas.{Contains-at}
use Rattle.filc_stop.specs.declared.language.Language.TheVariants.{Filament}
use Rattle.filc_laws.proofs.EvidenceLemmas.{shows_once}
use Rattle.filc_laws.proofs.ListLemmas.{nothing_past}
use Rattle.filc_laws.proofs.OrderLemmas.{neither_below, neither_greater}
use Rattle.filc_laws.specs.OneRule.{AreOneRefusal, FilRefusalIsOne, RefusedDesignBreaksRules}

-- an item has one number
item_once : (c : Component) (k : ℕ) (a b : Item) → IsItem c k a → IsItem c k b → a ≡ b
item_once c zero a b p q = p ∙ sym q
item_once c (suc k) a b (inl (s, at, is)) (inl (t, at', is')) = is ∙ ap (TheStatement (take k c.body)) (same_Some s t (sym at ∙ at')) ∙ sym is'
item_once c (suc k) a b (inl (s, at, is)) (inr (end, is')) = absurd (nothing_past c.body k s (omega (arith, end)) at)
item_once c (suc k) a b (inr (end, is)) (inl (s, at, is')) = absurd (nothing_past c.body k s (omega (arith, end)) at)
item_once c (suc k) a b (inr (end, is)) (inr (end', is')) = is ∙ sym is'

-- the item of a broken rule doesn't keep the rules
not_kept : (rules : List Rule) (comps : Design) (n k r : ℕ) (f : IsFirstBroken rules comps n k r) → KeepsItem rules (take n comps) f.c k → ⊥
not_kept rules comps n k r f kept =
    f.broken (All-contains (Keeps (take n comps) f.c f.item) rules f.rule (kept f.item f.here) (Contains-at rules r f.rule f.numbered))

-- F12 comes after F11
late : (q : ℕ) → slice_get all_rules q ≡ Some F12 → 10 < q
late zero e = absurd cc
late (suc zero) e = absurd cc
late (suc (suc zero)) e = absurd cc
late (suc (suc (suc zero))) e = absurd cc
late (suc (suc (suc (suc zero)))) e = absurd cc
late (suc (suc (suc (suc (suc zero))))) e = absurd cc
late (suc (suc (suc (suc (suc (suc zero)))))) e = absurd cc
late (suc (suc (suc (suc (suc (suc (suc zero))))))) e = absurd cc
late (suc (suc (suc (suc (suc (suc (suc (suc zero)))))))) e = absurd cc
late (suc (suc (suc (suc (suc (suc (suc (suc (suc zero))))))))) e = absurd cc
late (suc (suc (suc (suc (suc (suc (suc (suc (suc (suc zero)))))))))) e = absurd cc
late (suc (suc (suc (suc (suc (suc (suc (suc (suc (suc (suc q))))))))))) e = omega arith

-- what the first broken rule shows is one
evidence_once : (comps : Design) (n k r : ℕ) (f : IsFirstBroken all_rules comps n k r) (e e' : Evidence) → ShowsBroken (take n comps) f.c f.item f.rule e → ShowsBroken (take n comps) f.c f.item f.rule e' → e ≡ e'
evidence_once comps n zero r f e e' p q =
    let shown : e ≡ Nothing = subst (λ (i : Item). ShowsBroken (take n comps) f.c i f.rule e) f.here p in
    let shown' : e' ≡ Nothing = subst (λ (i : Item). ShowsBroken (take n comps) f.c i f.rule e') f.here q in
    shown ∙ sym shown'
evidence_once comps n (suc k) r f e e' p q = by f.here
  where
    by : ((s : Statement) × (slice_get f.c.body k ≡ Some s) × (f.item ≡ TheStatement (take k f.c.body) s)) ⊎ ((k ≡ length f.c.body) × (f.item ≡ TheEnd)) → e ≡ e'
    by (inr (end, is)) =
        let shown : e ≡ Nothing = subst (λ (i : Item). ShowsBroken (take n comps) f.c i f.rule e) is p in
        let shown' : e' ≡ Nothing = subst (λ (i : Item). ShowsBroken (take n comps) f.c i f.rule e') is q in
        shown ∙ sym shown'
    by (inl (s, at, is)) =
        let with = scope_with (take n comps) f.c (take k f.c.body) s in
        let distinct : AreDistinct (event_names f.c) = (f.items 0 (omega arith) TheSignature refl 0 F1 (omega arith)).events in
        let kept : f.rule ≡ F12 → All (KeepsUsesApart with) (invocations_at s) =
        λ same. subst (λ (i : Item). Keeps (take n comps) f.c i F11) is (f.lesser 10 F11 (late r (f.numbered ∙ ap Some same)) refl) in
        shows_once f.rule (scope_after (take n comps) f.c (take k f.c.body)) with s e e' (λ same. (distinct, kept same))
        (subst (λ (i : Item). ShowsBroken (take n comps) f.c i f.rule e) is p) (subst (λ (i : Item). ShowsBroken (take n comps) f.c i f.rule e') is q)

-- ---- two first broken rules

module _ (comps : Design) (n n' k k' r r' : ℕ) (f : IsFirstBroken all_rules comps n k r) (g : IsFirstBroken all_rules comps n' k' r') where
  same_number : n ≡ n'
  same_number =
      neither_below n n' (λ less. not_kept all_rules comps n k r f (g.components n f.c less f.at k)) (λ more. not_kept all_rules comps n' k' r' g (f.components n' g.c more g.at k'))

  same_before : take n comps ≡ take n' comps
  same_before = ap (λ (m : ℕ). take m comps) same_number

  same_component : f.c ≡ g.c
  same_component = same_Some f.c g.c (sym f.at ∙ ap (slice_get comps) same_number ∙ g.at)

  same_place : k ≡ k'
  same_place =
      neither_below k k'
      (λ less. not_kept all_rules comps n k r f (subst₂ (λ (d : Design) (c : Component). KeepsItem all_rules d c k) (sym same_before) (sym same_component) (g.items k less)))
      (λ more. not_kept all_rules comps n' k' r' g (subst₂ (λ (d : Design) (c : Component). KeepsItem all_rules d c k') same_before same_component (f.items k' more)))

  same_item : f.item ≡ g.item
  same_item = item_once g.c k' f.item g.item (subst₂ (λ (c : Component) (m : ℕ). IsItem c m f.item) same_component same_place f.here) g.here

  -- what holds where the one is broken holds where the other is
  carried : (rule : Rule) → Keeps (take n comps) f.c f.item rule → Keeps (take n' comps) g.c g.item rule
  carried rule keeps =
      subst (λ (i : Item). Keeps (take n' comps) g.c i rule) same_item (subst₂ (λ (d : Design) (c : Component). Keeps d c f.item rule) same_before same_component keeps)

  carried_back : (rule : Rule) → Keeps (take n' comps) g.c g.item rule → Keeps (take n comps) f.c f.item rule
  carried_back rule keeps =
      subst (λ (i : Item). Keeps (take n comps) f.c i rule) (sym same_item) (subst₂ (λ (d : Design) (c : Component). Keeps d c g.item rule) (sym same_before) (sym same_component) keeps)

  same_order : r ≡ r'
  same_order =
      neither_below r r' (λ less. f.broken (carried_back f.rule (g.lesser r f.rule less f.numbered))) (λ more. g.broken (carried g.rule (f.lesser r' g.rule more g.numbered)))

  same_rule : f.rule ≡ g.rule
  same_rule = same_Some f.rule g.rule (sym f.numbered ∙ ap (slice_get all_rules) same_order ∙ g.numbered)

  same_shown : (e e' : Evidence) → ShowsBroken (take n comps) f.c f.item f.rule e → ShowsBroken (take n' comps) g.c g.item g.rule e' → e ≡ e'
  same_shown e e' p q =
      let of_rule : ShowsBroken (take n' comps) g.c g.item f.rule e' = subst (λ (x : Rule). ShowsBroken (take n' comps) g.c g.item x e') (sym same_rule) q in
      let of_item : ShowsBroken (take n' comps) g.c f.item f.rule e' = subst (λ (i : Item). ShowsBroken (take n' comps) g.c i f.rule e') (sym same_item) of_rule in
      evidence_once comps n k r f e e' p (subst₂ (λ (d : Design) (c : Component). ShowsBroken d c f.item f.rule e') (sym same_before) (sym same_component) of_item)

-- ---- F14

module _ (comps : Design) (n n' : ℕ) (port port' : Text) (others others' : List Text) (f : HasFirstLoop comps n port others) (g : HasFirstLoop comps n' port' others') where
  loop_number : n ≡ n'
  loop_number =
      neither_below n n' (λ less. g.components n f.c less f.at port others f.loop.is_loop) (λ more. f.components n' g.c more g.at port' others' g.loop.is_loop)

  loop_component : f.c ≡ g.c
  loop_component = same_Some f.c g.c (sym f.at ∙ ap (slice_get comps) loop_number ∙ g.at)

  loop_before : take n comps ≡ take n' comps
  loop_before = ap (λ (m : ℕ). take m comps) loop_number

  loop_port : port ≡ port'
  loop_port =
      neither_greater port port'
      (f.loop.least port' others' (subst₂ (λ (d : Design) (c : Component). IsLoop d c port' others') (sym loop_before) (sym loop_component) g.loop.is_loop))
      (g.loop.least port others (subst₂ (λ (d : Design) (c : Component). IsLoop d c port others) loop_before loop_component f.loop.is_loop))

-- a rule that is judged before F14 is broken, or all are kept
not_both : (comps : Design) (n k r m : ℕ) (port : Text) (others : List Text) (f : IsFirstBroken all_rules comps n k r) → HasFirstLoop comps m port others → ⊥
not_both comps n k r m port others f loop = not_kept all_rules comps n k r f (loop.others_keep n f.c f.at k)

broken_once : (comps : Design) (rule rule' : ℕ) (name name' : Text) (item item' : ℕ) (e e' : Evidence) → IsRefusal comps name item e rule → IsRefusal comps name' item' e' rule'
    → AreOneRefusal Filament ALoop (record { rule = rule; name = name; item = item; shows = e }) (record { rule = rule'; name = name'; item = item'; shows = e' })
broken_once comps rule rule' name name' item item' e e' (BreaksRule n place f named shows) (BreaksRule n' place' g named' shows') =
    let rules = ap (λ (p : ℕ). p + 1) (same_order comps n n' item item' place place' f g) in
    let names = sym named ∙ ap (λ (c : Component). c.name) (same_component comps n n' item item' place place' f g) ∙ named' in
    let items = same_place comps n n' item item' place place' f g in
    let shown = same_shown comps n n' item item' place place' f g e e' shows shows' in
    inl (λ k. record { rule = rules k; name = names k; item = items k; shows = shown k })
broken_once comps rule rule' name name' item item' e e' (BreaksRule n place f named shows) (HasLoop m port others loop named' first shown) = absurd (not_both comps n item place m port others f loop)
broken_once comps rule rule' name name' item item' e e' (HasLoop m port others loop named first shown) (BreaksRule n place f named' shows) = absurd (not_both comps n item' place m port others f loop)
broken_once comps rule rule' name name' item item' e e' (HasLoop m port others f named first shown) (HasLoop m' port' others' g named' first' shown') =
    let names : name' ≡ name = sym named' ∙ ap (λ (c : Component). c.name) (sym (loop_component comps m m' port port' others others' f g)) ∙ named in
    let ports : e' ≡ ALoop (port ∷ others') = shown' ∙ ap (λ (p : Text). ALoop (p ∷ others')) (sym (loop_port comps m m' port port' others others' f g)) in
    inr (record {
      name = name;
      first = port;
      ports = others;
      ports' = others';
      shown = λ k. record { rule = 14; name = name; item = first k; shows = shown k };
      shown' = λ k. record { rule = 14; name = names k; item = first' k; shows = ports k };
    })

pub fil_refusal_is_one : FilRefusalIsOne
fil_refusal_is_one = λ design b other p q. broken_once design b.rule other.rule b.name other.name b.item other.item b.shows other.shows p q

refused_breaks : (comps : Design) (name : Text) (item : ℕ) (e : Evidence) (rule : ℕ) → IsRefusal comps name item e rule → FilRules comps → ⊥
refused_breaks comps name item e rule (BreaksRule n place f named shows) rules = not_kept all_rules comps n item place f (rules.keeps n f.c f.at item)
refused_breaks comps name item e rule (HasLoop n port others loop named first shown) rules = rules.no_loop n loop.c loop.at port others loop.loop.is_loop

pub refused_design_breaks_rules : RefusedDesignBreaksRules
refused_design_breaks_rules = λ design b p rules. refused_breaks design b.name b.item b.shows b.rule p rules
