-- The lines of what transactions hold.
use Rattle.std.proofs.Common.{◌≡◌, ℕ, suc, ◌+◌, ◌<◌, ◌≤◌, List, [], ◌∷◌, ◌++◌, codes, decimal, flat_map, length, map, take, drop, get_or, slice_get, All, Some, refl, sym, ap, ap₂, subst, ◌∙◌, arith, append_assoc}
use Rattle.std.specs.Option.{option_map_or}
use Rattle.std.specs.Prelude.{option_map}
use Rattle.std.proofs.lemmas.List.{at_drop_more, drop_all, length-map}
use Rattle.std.proofs.lemmas.Option.{slice_get-get_or, slice_get-map}
use Rattle.hw_names.specs.Name.{Text}
use Rattle.fil_ast.specs.Holds as tree
use Rattle.fil_ast.specs.Holds.{holds_of}
use Rattle.fil_ast.specs.Tree.{Event, Component, component_tree, design_of, event_tree}
use Rattle.fil_ast.specs.Wires.{whole_scope}
use Rattle.fil_ast.specs.declared.tree.FilComp.{FilComp}
use Rattle.fil_ast.specs.declared.tree.FilDesign.{FilDesign}
use Rattle.fil_ast.specs.declared.tx.Tx.{Tx}
use Rattle.fil_share.specs.Uses.{listed_start, shown_hold, starts_of}
use Rattle.fil_share.specs.declared.hold.Hold.{Hold}
use Rattle.stim_read.specs.TxRun.{transaction_seen}
use Rattle.filc_load.specs.Built.{FitsComponent}
use Rattle.filc_report.specs.Transactions.{hold_line, hold_lines, start_of}

-- ---- a line

-- the texts of a hold's line, one after another
pub hold_texts : (h : tree.Hold) (inst space from space_2 to space_3 call space_4 tx end : Text) → inst ≡ h.inst → space ≡ codes " " → from ≡ decimal h.from → space_2 ≡ codes " " → to ≡ decimal h.to → space_3 ≡ codes " " → call ≡ h.call → space_4 ≡ codes " " → tx ≡ decimal h.tx → end ≡ 10 ∷ []
    → inst ++ (space ++ (from ++ (space_2 ++ (to ++ (space_3 ++ (call ++ (space_4 ++ (tx ++ (end ++ []))))))))) ≡ hold_line h
hold_texts h inst space from space_2 to space_3 call space_4 tx end e1 e2 e3 e4 e5 e6 e7 e8 e9 e10 =
    ap₂ ◌++◌ e1 (ap₂ ◌++◌ e2 (ap₂ ◌++◌ e3 (ap₂ ◌++◌ e4 (ap₂ ◌++◌ e5 (ap₂ ◌++◌ e6 (ap₂ ◌++◌ e7 (ap₂ ◌++◌ e8 (ap₂ ◌++◌ e9 (ap (λ (t : Text). t ++ []) e10)))))))))
    ∙ sym (in_turn h.inst (codes " ") (decimal h.from) (codes " ") (decimal h.to) (codes " ") h.call (codes " ") (decimal h.tx) (10 ∷ []))
  where
    in_turn : (a b c d e f g i j k : Text) → a ++ b ++ c ++ d ++ e ++ f ++ g ++ i ++ j ++ k ≡ a ++ (b ++ (c ++ (d ++ (e ++ (f ++ (g ++ (i ++ (j ++ k))))))))
    in_turn a b c d e f g i j k = simp append_assoc

-- ---- lines one after another

-- the lines of these holds
abbrev pub lines_of : List Text → List Hold → Text
lines_of names holds = flat_map hold_line (map (shown_hold names) holds)

pub next_line : (names : List Text) (holds : List Hold) (i : ℕ) (d : Hold) → i < length holds → lines_of names (drop i holds) ≡ hold_line (shown_hold names (get_or holds i d)) ++ lines_of names (drop (i + 1) holds)
next_line names holds i d within = at_drop_more (lines_of names) holds i d within

pub end_of_lines : (names : List Text) (holds : List Hold) (i : ℕ) → length holds ≤ i → lines_of names (drop i holds) ≡ []
end_of_lines names holds i past = ap (lines_of names) (drop_all i holds past)

-- ---- when transactions start

start_same : (c : Component) (tx : Tx) (e : Event) → slice_get c.events tx.event ≡ Some e → listed_start (tree.start_of c tx) ≡ start_of c (transaction_seen tx) ∷ []
start_same c tx e at =
    ap (λ o. listed_start (option_map (λ (e : Event). record { event = e.name; row = tx.start }) o)) at
    ∙ ap (λ name. record { event = name; row = tx.start } ∷ []) (sym (ap (λ o. option_map_or (λ (e : Event). e.name) o []) at))

-- a transaction of the component starts at one of its events
pub starts_same : (c : Component) (txs : List Tx) → All (FitsComponent c) txs → starts_of c txs ≡ map (start_of c) (map transaction_seen txs)
starts_same c [] fit = refl
starts_same c (tx ∷ txs) fit =
    let no_event : Event = record { name = []; delay = 0 } in
    let fits = fit 0 tx (omega arith) in
    ap₂ ◌++◌ (start_same c tx (get_or c.events tx.event no_event) (slice_get-get_or c.events tx.event no_event fits.event))
    (starts_same c txs (λ k d within. fit (suc k) d (omega arith)))

-- ---- the component's transactions

-- the transactions of a component of the design are those of its tree
pub tree_here : (d : FilDesign) (n : ℕ) (comp : FilComp) → slice_get d.comps.items n ≡ Some comp → slice_get (design_of d) n ≡ Some (component_tree d.names comp)
tree_here d n comp at = slice_get-map (component_tree d.names) d.comps.items n ∙ ap (option_map (component_tree d.names)) at

pub all_events : (d e : FilDesign) (n : ℕ) (txs : List Tx) → e ≡ d → ((c : Component) → slice_get (design_of d) n ≡ Some c → All (FitsComponent c) txs) → (comp : FilComp) → slice_get e.comps.items n ≡ Some comp → All (λ (tx : Tx). tx.event < length comp.events.items) txs
all_events d e n txs same fit comp at k tx within =
    let here : slice_get d.comps.items n ≡ Some comp = ap (λ (o : FilDesign). slice_get o.comps.items n) (sym same) ∙ at in
    let fits = fit (component_tree d.names comp) (tree_here d n comp here) k tx within in
    omega (arith, fits.event, length-map comp.events.items (event_tree d.names))

-- the lines of what was found are those of the transactions
pub lines_are : (d e : FilDesign) (n : ℕ) (c : Component) (txs : List Tx) (found : List Hold) → e ≡ d → slice_get (design_of d) n ≡ Some c → All (FitsComponent c) txs
    → ((b : Component) → slice_get (design_of e) n ≡ Some b → map (shown_hold e.names) found ≡ holds_of (whole_scope (take n (design_of e)) b) (starts_of b txs))
    → lines_of d.names found ≡ hold_lines (design_of d) n c (map transaction_seen txs)
lines_are d e n c txs found same at fit known =
    let F : FilDesign → Type 0 = λ (o : FilDesign). (b : Component) → slice_get (design_of o) n ≡ Some b → map (shown_hold o.names) found ≡ holds_of (whole_scope (take n (design_of o)) b) (starts_of b txs) in
    ap (flat_map hold_line) (subst F same known c at ∙ ap (holds_of (whole_scope (take n (design_of d)) c)) (starts_same c txs fit))
