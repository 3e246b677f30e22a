-- What is loaded, one word after another.
use Rattle.std.proofs.Common.{◌≡◌, ℕ, List, [], Bool, true, false, length, refl, sym, ap, ◌∙◌, subst}
use Rattle.std.specs.Prelude.{slice_set, bytes_eq, if◌then◌else◌}
use Rattle.std.proofs.lemmas.Option.{same_Some}
use Rattle.std.proofs.lemmas.Slice.Eq.{bytes_eq-Decides}
use Rattle.hw_names.specs.Name.{Text}
use Rattle.hw_prims.specs.Meaning.{opening_state}
use Rattle.hw_prims.specs.Memory.{word_count, padded_words, state_with_word}
use Rattle.hw_prims.specs.declared.prim.Primitive.{Primitive}
use Rattle.net_core.specs.NetRun.{IsNetCell}
use Rattle.net_core.specs.Netlist.{Netlist, CellLine, netlist_of}
use Rattle.net_core.specs.declared.net.Net.{Net}
use Rattle.net_sim.proofs.ShownLemmas.{shown_is_cell, one_primitive, opening_with_word}
use Rattle.net_sim.specs.Shown.{IsShown, with_word}
use Rattle.net_sim.specs.Sim.{states_of}
use Rattle.net_sim.specs.Standing.{LoadsOneWord}

put : (b : Bool) (x y : List ℕ) → b ≡ true → (if b then x else y) ≡ x
put b x y e = ap (λ (t : Bool). if t then x else y) e

kept : (b : Bool) (x y : List ℕ) → b ≡ false → (if b then x else y) ≡ y
kept b x y e = ap (λ (t : Bool). if t then x else y) e

-- a load changes one word of what is loaded
pub loads_one_word : LoadsOneWord
loads_one_word net loads sim new mem at word cell prim valid shown has before load = record {
  net_is = load.net ∙ before.net_is;
  phase = load.phase ∙ before.phase;
  values = ap length load.values ∙ before.values;
  states = λ other other_prim is_cell. by_name other other_prim is_cell (bytes_eq cell other) refl;
  hidden = λ other none. hidden_still other none (bytes_eq cell other) refl;
}
  where
    n : Netlist
    n = netlist_of net

    padded : List ℕ
    padded = slice_set (padded_words (word_count prim) (loads cell)) at word

    loaded : (m : Net) → m ≡ net → ((c : Text) (p : Primitive) → IsShown (netlist_of m) mem c p → states_of (netlist_of m) new.states c p ≡ state_with_word (states_of (netlist_of m) sim.states c p) at word) → states_of (netlist_of net) new.states cell prim ≡ state_with_word (states_of (netlist_of net) sim.states cell prim) at word
    loaded m e by = subst (λ (x : Net). (c : Text) (p : Primitive) → IsShown (netlist_of x) mem c p → states_of (netlist_of x) new.states c p ≡ state_with_word (states_of (netlist_of x) sim.states c p) at word) e by cell prim shown

    others : (m : Net) → m ≡ net → ((c : Text) (p : Primitive) → IsNetCell (netlist_of m) c p → (IsShown (netlist_of m) mem c p → ⊥) → states_of (netlist_of m) new.states c p ≡ states_of (netlist_of m) sim.states c p) → (c : Text) (p : Primitive) → IsNetCell (netlist_of net) c p → (IsShown (netlist_of net) mem c p → ⊥) → states_of (netlist_of net) new.states c p ≡ states_of (netlist_of net) sim.states c p
    others m e by = subst (λ (x : Net). (c : Text) (p : Primitive) → IsNetCell (netlist_of x) c p → (IsShown (netlist_of x) mem c p → ⊥) → states_of (netlist_of x) new.states c p ≡ states_of (netlist_of x) sim.states c p) e by

    -- the loaded cell
    here : states_of (netlist_of net) new.states cell prim ≡ opening_state prim padded
    here = loaded sim.net before.net_is load.loaded ∙ ap (λ s. state_with_word s at word) (before.states cell prim (shown_is_cell (netlist_of net) mem cell prim shown)) ∙ opening_with_word prim (loads cell) at word (has.within cell prim shown)

    -- another cell has another name
    apart : (other : Text) (other_prim : Primitive) → (cell ≡ other → ⊥) → IsShown (netlist_of net) mem other other_prim → ⊥
    apart other other_prim ne is = ne (sym shown.named ∙ ap (λ (c : CellLine). c.name) (same_Some shown.line is.line (sym shown.at ∙ is.at)) ∙ is.named)

    by_name : (other : Text) (other_prim : Primitive) → IsNetCell (netlist_of net) other other_prim → (b : Bool) → bytes_eq cell other ≡ b → states_of (netlist_of net) new.states other other_prim ≡ opening_state other_prim (with_word loads cell prim at word other)
    by_name other other_prim is_cell true t =
        let same : cell ≡ other = (bytes_eq-Decides cell other).0 t in
        let same_prim : prim ≡ other_prim = one_primitive (netlist_of net) valid other prim other_prim (subst (λ (c : Text). IsNetCell (netlist_of net) c prim) same (shown_is_cell (netlist_of net) mem cell prim shown)) is_cell in
        subst (λ (p : Primitive). states_of (netlist_of net) new.states other p ≡ opening_state p (with_word loads cell prim at word other)) same_prim
        (subst (λ (c : Text). states_of (netlist_of net) new.states c prim ≡ opening_state prim padded) same here ∙ ap (opening_state prim) (sym (put (bytes_eq cell other) padded (loads other) t)))
    by_name other other_prim is_cell false t =
        others sim.net before.net_is load.others other other_prim is_cell (apart other other_prim (λ same. let yes : bytes_eq cell other ≡ true = (bytes_eq-Decides cell other).1 same in absurd (cc)))
        ∙ before.states other other_prim is_cell ∙ ap (opening_state other_prim) (sym (kept (bytes_eq cell other) padded (loads other) t))

    hidden_still : (other : Text) → ((m : ℕ) (p : Primitive) → IsShown (netlist_of net) m other p → ⊥) → (b : Bool) → bytes_eq cell other ≡ b → with_word loads cell prim at word other ≡ []
    hidden_still other none true t =
        let same : cell ≡ other = (bytes_eq-Decides cell other).0 t in
        absurd (none mem prim (subst (λ (c : Text). IsShown (netlist_of net) mem c prim) same shown))
    hidden_still other none false t = kept (bytes_eq cell other) padded (loads other) t ∙ before.hidden other none
