-- A circuit that carries lists whose transactions have values for their own event alone carries every legal list.
use Rattle.std.proofs.Common.{◌≡◌, ℕ, ◌==◌, ◌&&◌, Bool, true, false, cond, List, [], ◌∷◌, map, take, get_or, slice_get, Some, refl, sym, ap, subst}
use Rattle.std.specs.List.{AllZip, list_any}
use Rattle.std.specs.Str.{bytes_eq}
use Rattle.std.proofs.lemmas.Bool.{and_from, and_parts}
use Rattle.std.proofs.lemmas.Bool.Decides.{Decides-eqb}
use Rattle.std.proofs.lemmas.List.Elements.{All-map}
use Rattle.std.proofs.lemmas.Slice.Eq.{bytes_eq-Decides}
use Rattle.hw_names.specs.Name.{Path, Text, full_name}
use Rattle.hw_prims.specs.Row.{Trace}
use Rattle.hw_prims.specs.Timed.{AreLegalTransactions, Behaviour, TimedPort, TimedSignature, Transaction, Values}
use Rattle.net_core.specs.Circuit.{Circuit, IsRun}
use Rattle.net_core.specs.NetRun.{net_circuit}
use Rattle.fil_ast.specs.Behaviours.{IsGiven, Itself, OfPrimitive, Below, HasOwnValues, component_behaviour, inner_transactions}
use Rattle.fil_ast.specs.Rules.{FilRules}
use Rattle.fil_ast.specs.Tree.{Component, Design}
use Rattle.fil_promise.specs.Refines.{CarriesList, CarriesLists, GiveInputs}
use Rattle.fil_lower.specs.Separate.{AreAlike, IsSeparate}
use Rattle.fil_lower.proofs.AlikeLemmas.{alike_inputs, alike_legal, alike_outputs}
use Rattle.fil_lower.proofs.DesignLemmas.{components_separate, primitive_separate}
use Rattle.fil_laws.proofs.AlikeGivenLemmas.{flipped, given_lists_stay_alike, turned}
use Rattle.fil_laws.proofs.ListLemmas.{any_passes, some_passes}
use Rattle.fil_laws.proofs.PathLemmas.{given_lists_are_legal}
use Rattle.fil_laws.specs.Events.{OwnValuesSuffice}

-- ---- values for the transaction's own event

-- the port is one of the name, of the transaction's event
abbrev is_own : Transaction → Text → TimedPort → Bool
is_own tx name p = bytes_eq p.name name && p.event == tx.event

abbrev own_values : TimedSignature → Transaction → Values
own_values sig tx name = cond (list_any (is_own tx name) sig.ins) (tx.values name) 0

abbrev with_own : TimedSignature → Transaction → Transaction
with_own sig tx = record { event = tx.event; start = tx.start; hold = tx.hold; values = own_values sig tx }

has_own : (b : Behaviour) (tx : Transaction) → HasOwnValues b (with_own b.sig tx)
has_own b tx name none = by (list_any (is_own tx name) b.sig.ins) refl
  where
    by : (t : Bool) → list_any (is_own tx name) b.sig.ins ≡ t → cond t (tx.values name) 0 ≡ 0
    by true some =
        let m = some_passes (is_own tx name) b.sig.ins some in
        let both = and_parts (bytes_eq m.0.name name) (m.0.event == tx.event) m.1.passes in
        absurd (none m.0 m.1.among ((bytes_eq-Decides m.0.name name).0 both.0) ((Decides-eqb m.0.event tx.event).0 both.1))
    by false is = refl

own_alike : (sig : TimedSignature) (tx : Transaction) → AreAlike sig (with_own sig tx) tx
own_alike sig tx = record {
  event = refl;
  start = refl;
  hold = refl;
  values = λ p has on.
      let passes = and_from (bytes_eq p.name p.name) (p.event == tx.event) ((bytes_eq-Decides p.name p.name).1 refl) ((Decides-eqb p.event tx.event).1 on) in
      ap (λ (t : Bool). cond t (tx.values p.name) 0) (any_passes (is_own tx p.name) sig.ins p (record { among = has; passes = passes }));
}

all_alike : (sig : TimedSignature) (txs : List Transaction) → AllZip (AreAlike sig) (map (with_own sig) txs) txs
all_alike sig [] = tt
all_alike sig (tx ∷ txs) = (own_alike sig tx, all_alike sig txs)

-- ---- down a path

-- where something is given, something is given of another list
given_for : (comps : Design) (b : Behaviour) (given : List Transaction) (n : ℕ) (txs : List Transaction) (path : Path) → IsGiven comps b given n txs path → (others : List Transaction) → (given' : List Transaction) × IsGiven comps b given' n others path
given_for comps b given n txs path (Itself k c at is) others = (others, Itself k c at is)
given_for comps b given n txs path (OfPrimitive k us c inst i prim at found means promises list) others =
    (inner_transactions (take k comps) c others inst, OfPrimitive k others c inst i prim at found means promises refl)
given_for comps b given n txs path (Below k m us c d inst i deeper at found none below at_m named rest) others =
    let r = given_for comps b given m (inner_transactions (take k comps) c us inst) deeper rest (inner_transactions (take k comps) c others inst) in
    (r.0, Below k m others c d inst i deeper at found none below at_m named r.1)

-- what promises at a path keeps events apart
path_separate : (comps : Design) → FilRules comps → (b : Behaviour) (given : List Transaction) (n : ℕ) (txs : List Transaction) (path : Path) → IsGiven comps b given n txs path → IsSeparate b
path_separate comps rules b given n txs path (Itself k c at is) = subst IsSeparate (sym is) (components_separate comps rules k c at)
path_separate comps rules b given n txs path (OfPrimitive k us c inst i prim at found means promises list) = subst IsSeparate (sym promises) (primitive_separate prim)
path_separate comps rules b given n txs path (Below k m us c d inst i deeper at found none below at_m named rest) =
    path_separate comps rules b given m (inner_transactions (take k comps) c us inst) deeper rest

module _ (comps : Design) (number : ℕ) (c : Component) (circuit : Circuit) (rules : FilRules comps) (here : slice_get comps number ≡ Some c) (all : CarriesLists comps number c circuit)
    (txs : List Transaction) (legal : AreLegalTransactions (component_behaviour (take number comps) c).sig txs)
    (asked : ℕ) (inputs : Trace) (loads : Text → List ℕ) (height : ℕ) (trace : Trace) (run : IsRun circuit asked inputs loads height trace) (give : GiveInputs (component_behaviour (take number comps) c) asked inputs txs) where
  abbrev promise : Behaviour
  promise = component_behaviour (take number comps) c

  abbrev owns : List Transaction
  owns = map (with_own promise.sig) txs

  to_own : AllZip (AreAlike promise.sig) txs owns
  to_own = flipped (AreAlike promise.sig) (AreAlike promise.sig) owns txs (turned promise.sig) (all_alike promise.sig txs)

  carried : CarriesList comps number circuit owns asked height trace
  carried =
      all owns (alike_legal promise txs owns to_own legal) (All-map (HasOwnValues promise) (with_own promise.sig) txs (λ k d within. has_own promise (get_or txs k d))) asked inputs loads height trace run
      (λ r below. alike_inputs promise txs owns to_own (full_name []) (inputs r) r (give r below))

  pub carries_any : CarriesList comps number circuit txs asked height trace
  carries_any = record {
    whole = carried.whole;
    clean = carried.clean;
    legal = λ path b given is. given_lists_are_legal comps number txs (record { rules = rules; c = c; at = here; legal = legal }) path b given is;
    carries = λ path b given is r below.
        let other = given_for comps b given number txs path is owns in
        let zip = given_lists_stay_alike comps number c owns txs rules here (all_alike promise.sig txs) path b other.0 given other.1 is in
        let w = carried.carries path b other.0 other.1 r below in
        (alike_inputs b other.0 given zip (full_name path) (trace r) r w.0, alike_outputs b other.0 given zip (path_separate comps rules b given number txs path is) (full_name path) (trace r) r w.1);
  }

pub own_values_suffice : OwnValuesSuffice
own_values_suffice comps number c net rules here all txs legal asked inputs loads height trace run give =
    carries_any comps number c (net_circuit net) rules here all txs legal asked inputs loads height trace run give
