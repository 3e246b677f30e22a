-- Readings that a graph of ports gains, one after another.
use Rattle.std.proofs.Common.{◌≡◌, ◌↔◌, ◌⊎◌, inl, inr, ℕ, ◌+◌, ◌<◌, Bool, true, false, List, [], ◌∷◌, ◌++◌, Some, Contains, length, get_or, slice_get, refl, sym, ap, subst, ◌∙◌, arith}
use Rattle.std.specs.Prelude.{All, if◌then◌else◌}
use Rattle.std.proofs.lemmas.Bool.{cases_lt}
use Rattle.std.proofs.lemmas.List.Elements.{All-push, All-contains, All-weaker}
use Rattle.std.proofs.lemmas.Option.{slice_get-get_or}
use Rattle.hw_graph.proofs.MemberLemmas.{In, in_of, contains_of, in_left, in_right, in_append}
use Rattle.hw_graph.specs.declared.groups.Entry.{Entry}
use Rattle.hw_names.proofs.NameLemmas.{length-KeepsTexts}
use Rattle.hw_names.specs.Name.{Text, KeepsTexts}
use Rattle.fil_ast.specs.Scope.{Scope}
use Rattle.fil_loops.specs.inside.PortGraph.{NoPair, HasInstances, HasReading, Adds, IsPair, Below}
use Rattle.fil_loops.specs.declared.graph.PortGraph.{PortGraph}

-- ---- entries and names

abbrev pub IsWithin : List Text → Entry → Type 0
IsWithin names e = (e.key < length names) × (e.value < length names)

pub within_more : (old new : List Text) (entries : List Entry) → KeepsTexts old new → All (IsWithin old) entries → All (IsWithin new) entries
within_more old new entries keeps all =
    let longer = length-KeepsTexts old new keeps in
    All-weaker (IsWithin old) (IsWithin new) (λ e within. (omega (arith, within.0), omega (arith, within.1))) entries all

-- one more entry, or none where there was no memory for it
pub within_pushed : (names : List Text) (old new : List Entry) (e : Entry) (b : Bool) → new ≡ (if b then old ++ e ∷ [] else old) → All (IsWithin names) old → IsWithin names e → All (IsWithin names) new
within_pushed names old new e true are all within = subst (All (IsWithin names)) (sym are) (All-push (IsWithin names) old e all within)
within_pushed names old new e false are all within = subst (All (IsWithin names)) (sym are) all

same_text : (old new : List Text) (i : ℕ) (text : Text) → KeepsTexts old new → i < length old → slice_get new i ≡ Some text → slice_get old i ≡ Some text
same_text old new i text keeps lt at =
    let there = slice_get-get_or old i [] lt in
    there ∙ (sym (keeps i (get_or old i []) there) ∙ at)

-- ---- what a graph gains

pub adds_none : (P : Text → Text → Type 0) (g : PortGraph) → ((port other : Text) → P port other → ⊥) → Adds P g g
adds_none P g none = record {
  texts = λ i text at. at;
  instances = refl;
  has = λ port other. (λ h. inl h, λ e. elim e [ inl h ↦ h | inr p ↦ absurd (none port other p) ]);
}

-- one more name
pub adds_named : (old new : PortGraph) → KeepsTexts old.ports.names new.ports.names → new.ports.instances ≡ old.ports.instances → new.entries.items ≡ old.entries.items → Adds NoPair old new
adds_named old new keeps instances items = record {
  texts = keeps;
  instances = instances;
  has = λ p o. (λ h. inl (back p o h), λ e. elim e [ inl h ↦ forth p o h | inr none ↦ absurd none ]);
}
  where
    back : (p o : Text) → HasReading new p o → HasReading old p o
    back p o h =
        let there = subst (λ (es : List Entry). Contains es h.entry) items h.there in
        let within = All-contains (IsWithin old.ports.names) old.entries.items h.entry old.in_range there in
        record {
          entry = h.entry;
          there = there;
          key = same_text old.ports.names new.ports.names h.entry.key p keeps within.0 h.key;
          value = same_text old.ports.names new.ports.names h.entry.value o keeps within.1 h.value;
        }

    forth : (p o : Text) → HasReading old p o → HasReading new p o
    forth p o h = record {
      entry = h.entry;
      there = subst (λ (es : List Entry). Contains es h.entry) (sym items) h.there;
      key = keeps h.entry.key p h.key;
      value = keeps h.entry.value o h.value;
    }

-- no pair, and then no pair
pub adds_no_more : (old mid new : PortGraph) → Adds NoPair old mid → Adds NoPair mid new → Adds NoPair old new
adds_no_more old mid new first second = record {
  texts = λ i text at. second.texts i text (first.texts i text at);
  instances = second.instances ∙ first.instances;
  has = λ p o. (
    λ h. elim ((second.has p o).0 h) [ inl m ↦ (first.has p o).0 m | inr none ↦ absurd none ],
    λ e. elim e [ inl h ↦ (second.has p o).1 (inl ((first.has p o).1 (inl h))) | inr none ↦ absurd none ],
  );
}

pub adds_same : (P Q : Text → Text → Type 0) (old new : PortGraph) → ((port other : Text) → P port other ↔ Q port other) → Adds P old new → Adds Q old new
adds_same P Q old new same adds = record {
  texts = adds.texts;
  instances = adds.instances;
  has = λ port other. (
    λ h. elim ((adds.has port other).0 h) [ inl o ↦ inl o | inr p ↦ inr ((same port other).0 p) ],
    λ e. elim e [ inl o ↦ (adds.has port other).1 (inl o) | inr q ↦ (adds.has port other).1 (inr ((same port other).1 q)) ],
  );
}

pub adds_both : (P Q : Text → Text → Type 0) (a b c : PortGraph) → Adds P a b → Adds Q b c → Adds (λ port other. P port other ⊎ Q port other) a c
adds_both P Q a b c first second = record {
  texts = λ i text at. second.texts i text (first.texts i text at);
  instances = second.instances ∙ first.instances;
  has = λ port other. (
    λ h. elim ((second.has port other).0 h) [
      | inl m ↦ elim ((first.has port other).0 m) [ inl o ↦ inl o | inr p ↦ inr (inl p) ]
      | inr q ↦ inr (inr q)
    ],
    λ e. elim e [
      | inl o ↦ (second.has port other).1 (inl ((first.has port other).1 (inl o)))
      | inr both ↦ elim both [
        | inl p ↦ (second.has port other).1 (inl ((first.has port other).1 (inr p)))
        | inr q ↦ (second.has port other).1 (inr q)
      ]
    ],
  );
}

-- no pair, and then others
pub adds_after : (P : Text → Text → Type 0) (a b c : PortGraph) → Adds NoPair a b → Adds P b c → Adds P a c
adds_after P a b c first second =
    adds_same (λ port other. NoPair port other ⊎ P port other) P a c (λ port other. (λ e. elim e [ inl none ↦ absurd none | inr p ↦ p ], λ p. inr p)) (adds_both NoPair P a b c first second)

pub adds_before : (P : Text → Text → Type 0) (a b c : PortGraph) → Adds P a b → Adds NoPair b c → Adds P a c
adds_before P a b c first second =
    adds_same (λ port other. P port other ⊎ NoPair port other) P a c (λ port other. (λ e. elim e [ inl p ↦ p | inr none ↦ absurd none ], λ p. inl p)) (adds_both P NoPair a b c first second)

-- the instances stay those of the scope
pub instances_kept : (P : Text → Text → Type 0) (scope : Scope) (old new : PortGraph) → Adds P old new → HasInstances scope old → HasInstances scope new
instances_kept P scope old new adds has = adds.instances ∙ has

pub instance_within : (P : Text → Text → Type 0) (instance : ℕ) (old new : PortGraph) → Adds P old new → instance < length old.ports.instances → instance < length new.ports.instances
instance_within P instance old new adds lt = omega (arith, lt, ap length adds.instances)

pub instance_stays : (P : Text → Text → Type 0) (instance : ℕ) (inst : Text) (old new : PortGraph) → Adds P old new → slice_get old.ports.instances instance ≡ Some inst → slice_get new.ports.instances instance ≡ Some inst
instance_stays P instance inst old new adds at = ap (λ (l : List Text). slice_get l instance) adds.instances ∙ at

pub port_within : (P : Text → Text → Type 0) (port : ℕ) (old new : PortGraph) → Adds P old new → port < length old.ports.names → port < length new.ports.names
port_within P port old new adds lt = omega (arith, lt, length-KeepsTexts old.ports.names new.ports.names adds.texts)

pub ports_within : (P : Text → Text → Type 0) (ports : List ℕ) (old new : PortGraph) → Adds P old new → All (λ (port : ℕ). port < length old.ports.names) ports → All (λ (port : ℕ). port < length new.ports.names) ports
ports_within P ports old new adds all =
    All-weaker (λ (port : ℕ). port < length old.ports.names) (λ (port : ℕ). port < length new.ports.names) (λ port lt. port_within P port old new adds lt) ports all

-- ---- loops

pub below_none : (P : ℕ → Text → Text → Type 0) (g : PortGraph) → Adds (Below P 0) g g
below_none P g = adds_none (Below P 0) g (λ port other below. absurd (omega (arith, below.1)))

pub below_start : (P : ℕ → Text → Text → Type 0) (old new : PortGraph) → Adds NoPair old new → Adds (Below P 0) old new
below_start P old new adds = adds_same NoPair (Below P 0) old new (λ port other. (λ none. absurd none, λ below. absurd (omega (arith, below.1)))) adds

pub below_more : (P : ℕ → Text → Text → Type 0) (n : ℕ) (old mid new : PortGraph) → Adds (Below P n) old mid → Adds (P n) mid new → Adds (Below P (n + 1)) old new
below_more P n old mid new first second =
    adds_same (λ port other. Below P n port other ⊎ P n port other) (Below P (n + 1)) old new same (adds_both (Below P n) (P n) old mid new first second)
  where
    same : (port other : Text) → (Below P n port other ⊎ P n port other) ↔ Below P (n + 1) port other
    same port other = (to, from)
      where
        to : Below P n port other ⊎ P n port other → Below P (n + 1) port other
        to (inl below) = (below.0, omega (arith, below.1), below.2)
        to (inr here) = (n, omega arith, here)

        from : Below P (n + 1) port other → Below P n port other ⊎ P n port other
        from (k, lt, p) = elim (cases_lt k n) [
          | inl less ↦ inl (k, less, p)
          | inr more ↦ let e : k ≡ n = omega (arith, lt, more) in inr (subst (λ (i : ℕ). P i port other) e p)
        ]

-- a step that has nothing to add
pub below_skip : (P : ℕ → Text → Text → Type 0) (n : ℕ) (old new : PortGraph) → ((port other : Text) → P n port other → ⊥) → Adds (Below P n) old new → Adds (Below P (n + 1)) old new
below_skip P n old new none first = below_more P n old new new first (adds_none (P n) new none)

pub below_all : (P : ℕ → Text → Text → Type 0) (i n : ℕ) (old new : PortGraph) → i ≡ n → Adds (Below P i) old new → Adds (Below P n) old new
below_all P i n old new same adds = subst (λ (k : ℕ). Adds (Below P k) old new) same adds

-- ---- one reading

module _ (old new : PortGraph) (port other : Text) (e : Entry) (keeps : KeepsTexts old.ports.names new.ports.names) (instances : new.ports.instances ≡ old.ports.instances) (items : new.entries.items ≡ old.entries.items ++ e ∷ [])
    (key : slice_get new.ports.names e.key ≡ Some port) (value : slice_get new.ports.names e.value ≡ Some other) where
  gained : (p o : Text) → HasReading new p o → HasReading old p o ⊎ IsPair port other p o
  gained p o h = elim (in_append old.entries.items (e ∷ []) h.entry (subst (λ (es : List Entry). In es h.entry) items (in_of new.entries.items h.entry h.there))) [
    | inl before ↦
        let there = contains_of old.entries.items h.entry before in
        let within = All-contains (IsWithin old.ports.names) old.entries.items h.entry old.in_range there in
        inl (record {
          entry = h.entry;
          there = there;
          key = same_text old.ports.names new.ports.names h.entry.key p keeps within.0 h.key;
          value = same_text old.ports.names new.ports.names h.entry.value o keeps within.1 h.value;
        })
    | inr last ↦ inr (of_last last)
  ]
    where
      of_last : In (e ∷ []) h.entry → IsPair port other p o
      of_last (inl same) =
          let at_key : Some port ≡ Some p = sym key ∙ (ap (λ (x : Entry). slice_get new.ports.names x.key) same ∙ h.key) in
          let at_value : Some other ≡ Some o = sym value ∙ (ap (λ (x : Entry). slice_get new.ports.names x.value) same ∙ h.value) in
          (cc, cc)
      of_last (inr none) = absurd none

  kept : (p o : Text) → HasReading old p o → HasReading new p o
  kept p o h = record {
    entry = h.entry;
    there = contains_of new.entries.items h.entry (subst (λ (es : List Entry). In es h.entry) (sym items) (in_left old.entries.items (e ∷ []) h.entry (in_of old.entries.items h.entry h.there)));
    key = keeps h.entry.key p h.key;
    value = keeps h.entry.value o h.value;
  }

  made : HasReading new port other
  made = record {
    entry = e;
    there = contains_of new.entries.items e (subst (λ (es : List Entry). In es e) (sym items) (in_right old.entries.items (e ∷ []) e (inl refl)));
    key = key;
    value = value;
  }

  pub adds_pair : Adds (IsPair port other) old new
  adds_pair = record {
    texts = keeps;
    instances = instances;
    has = λ p o. (gained p o, back p o);
  }
    where
      back : (p o : Text) → HasReading old p o ⊎ IsPair port other p o → HasReading new p o
      back p o (inl h) = kept p o h
      back p o (inr same) =
          let at : HasReading new p other = subst (λ (x : Text). HasReading new x other) same.0 made in
          subst (λ (y : Text). HasReading new p y) same.1 at
