-- The first broken rule of a Calyx design is one, with its place and with what it shows, but for which loop that is.
use Rattle.std.proofs.Common.{◌≡◌, ℕ, ◌+◌, inl, inr, List, ◌∷◌, map, take, sym, ap, subst, subst₂, ◌∙◌}
use Rattle.std.specs.Prelude.{slice_get}
use Rattle.std.proofs.lemmas.List.Elements.{All-contains}
use Rattle.std.proofs.lemmas.Option.{same_Some}
use Rattle.hw_names.specs.Name.{Text}
use Rattle.cal_ast.specs.Items.{Item, IsItem}
use Rattle.cal_ast.specs.Naming.{Unreserved}
use Rattle.cal_ast.specs.Rules.{Rule, IsFirstBroken, HasFirstLoop, Keeps, KeepsItem, CalRules, IsRefusal, BreaksRule, HasLoop, all_rules}
use Rattle.cal_ast.specs.Tree.{PortName, Component, Design}
use Rattle.cal_ast.specs.Wires.{IsLoop}
use Rattle.cal_ast.specs.Wires as wires
use Rattle.fil_share.proofs.ListLemmas.{Contains-at}
use Rattle.filc_stop.specs.declared.language.Language.TheVariants.{Calyx}
use Rattle.filc_laws.proofs.OrderLemmas.{neither_below, neither_greater}
use Rattle.filc_laws.specs.OneRule.{AreOneRefusal, CalRefusalIsOne, RefusedCalBreaksRules}

-- an item has one number
item_once : (c : Component) (k : ℕ) (a b : Item) → IsItem c k a → IsItem c k b → a ≡ b
item_once c k a b p q = same_Some a b (sym p ∙ q)

-- the item of a broken rule doesn't keep the rules
not_kept : (design : Design) (n k r : ℕ) (f : IsFirstBroken design n k r) → KeepsItem Unreserved design (take n design) f.c k → ⊥
not_kept design n k r f kept =
    f.broken (All-contains (Keeps Unreserved design (take n design) f.c f.item) all_rules f.rule (kept f.item f.here) (Contains-at all_rules r f.rule f.numbered))

-- ---- two first broken rules

module _ (design : Design) (n n' k k' r r' : ℕ) (f : IsFirstBroken design n k r) (g : IsFirstBroken design n' k' r') where
  same_number : n ≡ n'
  same_number = neither_below n n' (λ less. not_kept design n k r f (g.components n f.c less f.at k)) (λ more. not_kept design n' k' r' g (f.components n' g.c more g.at k'))

  same_before : take n design ≡ take n' design
  same_before = ap (λ (m : ℕ). take m design) same_number

  same_component : f.c ≡ g.c
  same_component = same_Some f.c g.c (sym f.at ∙ ap (slice_get design) same_number ∙ g.at)

  same_place : k ≡ k'
  same_place =
      neither_below k k'
      (λ less. not_kept design n k r f (subst₂ (λ (d : Design) (c : Component). KeepsItem Unreserved design d c k) (sym same_before) (sym same_component) (g.items k less)))
      (λ more. not_kept design n' k' r' g (subst₂ (λ (d : Design) (c : Component). KeepsItem Unreserved design d c k') same_before same_component (f.items k' more)))

  same_item : f.item ≡ g.item
  same_item = item_once g.c k' f.item g.item (subst₂ (λ (c : Component) (m : ℕ). IsItem c m f.item) same_component same_place f.here) g.here

  -- what holds where the one is broken holds where the other is
  carried : (rule : Rule) → Keeps Unreserved design (take n design) f.c f.item rule → Keeps Unreserved design (take n' design) g.c g.item rule
  carried rule keeps =
      subst (λ (i : Item). Keeps Unreserved design (take n' design) g.c i rule) same_item
      (subst₂ (λ (d : Design) (c : Component). Keeps Unreserved design d c f.item rule) same_before same_component keeps)

  carried_back : (rule : Rule) → Keeps Unreserved design (take n' design) g.c g.item rule → Keeps Unreserved design (take n design) f.c f.item rule
  carried_back rule keeps =
      subst (λ (i : Item). Keeps Unreserved design (take n design) f.c i rule) (sym same_item)
      (subst₂ (λ (d : Design) (c : Component). Keeps Unreserved design d c g.item rule) (sym same_before) (sym same_component) keeps)

  same_order : r ≡ r'
  same_order =
      neither_below r r' (λ less. f.broken (carried_back f.rule (g.lesser r f.rule less f.numbered))) (λ more. g.broken (carried g.rule (f.lesser r' g.rule more g.numbered)))

-- ---- C12

module _ (design : Design) (n n' : ℕ) (port port' : PortName) (others others' : List PortName) (f : HasFirstLoop design n port others) (g : HasFirstLoop design n' port' others') where
  loop_number : n ≡ n'
  loop_number =
      neither_below n n' (λ less. g.components n f.c less f.at port others f.loop.is_loop) (λ more. f.components n' g.c more g.at port' others' g.loop.is_loop)

  loop_component : f.c ≡ g.c
  loop_component = same_Some f.c g.c (sym f.at ∙ ap (slice_get design) loop_number ∙ g.at)

  loop_port : wires.shown port ≡ wires.shown port'
  loop_port =
      neither_greater (wires.shown port) (wires.shown port')
      (f.loop.least port' others' (subst (λ (c : Component). IsLoop design c port' others') (sym loop_component) g.loop.is_loop))
      (g.loop.least port others (subst (λ (c : Component). IsLoop design c port others) loop_component f.loop.is_loop))

-- a rule that is judged before C12 is broken, or all are kept
not_both : (design : Design) (n k r m : ℕ) (port : PortName) (others : List PortName) (f : IsFirstBroken design n k r) → HasFirstLoop design m port others → ⊥
not_both design n k r m port others f loop = not_kept design n k r f (loop.others_keep n f.c f.at k)

broken_once : (design : Design) (rule rule' : ℕ) (name name' : Text) (item item' : ℕ) (ports ports' : List Text) → IsRefusal design name item ports rule → IsRefusal design name' item' ports' rule'
    → AreOneRefusal Calyx (λ loop. loop) (record { rule = rule; name = name; item = item; shows = ports }) (record { rule = rule'; name = name'; item = item'; shows = ports' })
broken_once design rule rule' name name' item item' ports ports' (BreaksRule n place f named none) (BreaksRule n' place' g named' none') =
    let rules = ap (λ (p : ℕ). p + 1) (same_order design n n' item item' place place' f g) in
    let names = sym named ∙ ap (λ (c : Component). c.name) (same_component design n n' item item' place place' f g) ∙ named' in
    let items = same_place design n n' item item' place place' f g in
    let shown : ports ≡ ports' = none ∙ sym none' in
    inl (λ k. record { rule = rules k; name = names k; item = items k; shows = shown k })
broken_once design rule rule' name name' item item' ports ports' (BreaksRule n place f named none) (HasLoop m port others loop named' first told) = absurd (not_both design n item place m port others f loop)
broken_once design rule rule' name name' item item' ports ports' (HasLoop m port others loop named first told) (BreaksRule n place f named' none) = absurd (not_both design n item' place m port others f loop)
broken_once design rule rule' name name' item item' ports ports' (HasLoop m port others f named first told) (HasLoop m' port' others' g named' first' told') =
    let names : name' ≡ name = sym named' ∙ ap (λ (c : Component). c.name) (sym (loop_component design m m' port port' others others' f g)) ∙ named in
    let same : wires.shown port' ≡ wires.shown port = sym (loop_port design m m' port port' others others' f g) in
    let shown' : ports' ≡ wires.shown port ∷ map wires.shown others' = told' ∙ ap (λ (p : Text). p ∷ map wires.shown others') same in
    inr (record {
      name = name;
      first = wires.shown port;
      ports = map wires.shown others;
      ports' = map wires.shown others';
      shown = λ k. record { rule = 12; name = name; item = first k; shows = told k };
      shown' = λ k. record { rule = 12; name = names k; item = first' k; shows = shown' k };
    })

pub cal_refusal_is_one : CalRefusalIsOne
cal_refusal_is_one = λ design b other p q. broken_once design b.rule other.rule b.name other.name b.item other.item b.shows other.shows p q

refused_breaks : (design : Design) (name : Text) (item : ℕ) (ports : List Text) (rule : ℕ) → IsRefusal design name item ports rule → CalRules design → ⊥
refused_breaks design name item ports rule (BreaksRule n place f named none) rules = not_kept design n item place f (rules.keeps n f.c f.at item)
refused_breaks design name item ports rule (HasLoop n port others loop named first told) rules = rules.no_loop n loop.c loop.at port others loop.loop.is_loop

pub refused_cal_breaks_rules : RefusedCalBreaksRules
refused_cal_breaks_rules = λ design b p rules. refused_breaks design b.name b.item b.shows b.rule p rules
