-- What a transaction computes, put down one by one: the values of its inputs, the outputs of its event, and the lines of transactions.
use Rattle.std.proofs.Common.{◌≡◌, ℕ, ◌+◌, ◌<◌, ◌≤◌, Bool, true, false, cond, List, [], ◌∷◌, ◌++◌, decimal, length, map, filter, drop, get_or, slice_get, All, Some, refl, sym, ap, ap₂, subst, ◌∙◌, arith, add-one, append_assoc}
use Rattle.std.specs.Prelude.{bytes_eq, option_map, slice_index}
use Rattle.std.specs.Option.{option_map_or}
use Rattle.std.proofs.lemmas.List.{append-nil, drop_all, drop_more, get_or-map, length-map, map-append}
use Rattle.std.proofs.lemmas.Option.{get_or_from_slice_get, slice_get-get_or, slice_get-map, slice_get_within}
use Rattle.hw_bits.specs.Values.{values_of, widths_of}
use Rattle.hw_bits.specs.declared.bits.Bits.{Bits}
use Rattle.hw_names.specs.Name.{Text}
use Rattle.hw_names.proofs.NameLemmas.{text_of-slice_get}
use Rattle.fil_ast.specs.Flow.{Named, flow}
use Rattle.fil_ast.specs.Transactions.{inputs_given, is_of_event, outputs_shown}
use Rattle.fil_ast.specs.Tree.{Event, DataPort, Component, Design, component_tree, design_of, event_tree, port_tree}
use Rattle.fil_ast.specs.declared.tree.EventDef.{EventDef}
use Rattle.fil_ast.specs.declared.tree.FilComp.{FilComp}
use Rattle.fil_ast.specs.declared.tree.FilDesign.{FilDesign}
use Rattle.fil_ast.specs.declared.tree.FilPort.{FilPort}
use Rattle.fil_ast.specs.declared.tx.Tx.{Tx}
use Rattle.fil_ast.specs.Typing.{IsWidth}
use Rattle.fil_sig.proofs.ListLemmas.{All-unmap}
use Rattle.fil_flow.specs.Dataflow.{IsDataflowOf}
use Rattle.fil_flow.specs.Shown.{port_widths}
use Rattle.fil_flow.specs.declared.dataflow.Dataflow.{Dataflow}
use Rattle.stim_read.specs.TxRun.{Transaction, transaction_seen}
use Rattle.filc_report.proofs.MemoryLemmas.{first_left}
use Rattle.filc_report.specs.Rows.{port_text, ports_text}
use Rattle.filc_load.specs.StimulusFile.{event_name}
use Rattle.filc_report.specs.Transactions.{flow_line, flow_lines, named_line}

-- what is left of a mapped list, from a place on
pub mapped_here : {X Y : Type 0} (f : X → Y) (xs : List X) (i : ℕ) (x : X) → i < length xs → x ≡ get_or xs i x → drop i (map f xs) ≡ f x ∷ drop (i + 1) (map f xs)
mapped_here f xs i x within is =
    let inside : i < length (map f xs) = omega (arith, within, length-map xs f) in
    drop_more (map f xs) i (f x) inside ∙ ap (λ y. y ∷ drop (i + 1) (map f xs)) (get_or-map f xs i x (f x) within ∙ ap f (sym is))

-- a port of the code at its place among the ports of the tree
pub port_here : (names : List Text) (ports items : List FilPort) (i : ℕ) (d : FilPort) → items ≡ ports → i < length items → drop i (map (port_tree names) ports) ≡ port_tree names (get_or items i d) ∷ drop (i + 1) (map (port_tree names) ports)
port_here names ports items i d same within =
    let F : List FilPort → Type 0 = λ ps. drop i (map (port_tree names) ps) ≡ port_tree names (get_or items i d) ∷ drop (i + 1) (map (port_tree names) ps) in
    let inside : i < length (map (port_tree names) items) = omega (arith, within, length-map items (port_tree names)) in
    let first = drop_more (map (port_tree names) items) i (port_tree names (get_or items i d)) inside in
    subst F same (first ∙ ap (λ p. p ∷ drop (i + 1) (map (port_tree names) items)) (get_or-map (port_tree names) items i d (port_tree names (get_or items i d)) within))

-- the width of a port of the code
pub width_here : (names : List Text) (ports items : List FilPort) (i : ℕ) (d : FilPort) → All (λ (p : DataPort). IsWidth p.width) (map (port_tree names) ports) → items ≡ ports → i < length items → IsWidth (get_or items i d).width
width_here names ports items i d wide same within =
    let F : List FilPort → Type 0 = λ ps. All (λ (p : DataPort). IsWidth p.width) (map (port_tree names) ps) in
    All-unmap (λ (p : DataPort). IsWidth p.width) (port_tree names) items (subst F (sym same) wide) i d within

-- whether a port is of an event, by the text of its event
pub of_event : (names : List Text) (p : FilPort) (event text : Text) (r b : Bool) → slice_get names p.from.event.0 ≡ Some text → r ≡ bytes_eq text event → r ≡ b → is_of_event event (port_tree names p) ≡ b
of_event names p event text r b named test is = ap (λ t. bytes_eq t event) (text_of-slice_get names p.from.event text named) ∙ sym test ∙ is

-- the name of an event, by its number in the component
pub event_here : (names : List Text) (comp : FilComp) (k : ℕ) (e : EventDef) (text : Text) → k < length comp.events.items → e ≡ get_or comp.events.items k e → slice_get names e.name.0 ≡ Some text → event_name (component_tree names comp) k ≡ text
event_here names comp k e text within is named =
    let at : slice_get (map (event_tree names) comp.events.items) k ≡ Some (event_tree names e) =
    slice_get-map (event_tree names) comp.events.items k ∙ ap (option_map (event_tree names)) (slice_get-get_or comp.events.items k e within ∙ ap Some (sym is)) in
    ap (λ o. option_map_or (λ (e : Event). e.name) o []) at ∙ text_of-slice_get names e.name text named

-- ---- inputs

-- the inputs so far have their values, for which so many of those given were taken
pub record AreGiven (event : Text) (ports : List DataPort) (given : List Bits) (i taken : ℕ) (inputs : List Bits) : Type 0 where
  pub values : values_of inputs ++ inputs_given event (drop i ports) (drop taken (values_of given)) ≡ inputs_given event ports (values_of given)
  pub widths : widths_of inputs ++ port_widths (drop i ports) ≡ port_widths ports
  pub left : drop taken (widths_of given) ≡ port_widths (filter (is_of_event event) (drop i ports))

pub given_none : (event : Text) (ports : List DataPort) (given : List Bits) → widths_of given ≡ port_widths (filter (is_of_event event) ports) → AreGiven event ports given 0 0 []
given_none event ports given fits = record { values = refl; widths = refl; left = fits }

pub given_all : (event : Text) (ports : List DataPort) (given : List Bits) (i taken : ℕ) (inputs : List Bits) → length ports ≤ i → AreGiven event ports given i taken inputs
    → (values_of inputs ≡ inputs_given event ports (values_of given)) × (widths_of inputs ≡ port_widths ports)
given_all event ports given i taken inputs past so_far =
    let none = drop_all i ports past in (
      sym (append-nil (values_of inputs)) ∙ ap (λ ps. values_of inputs ++ inputs_given event ps (drop taken (values_of given))) (sym none) ∙ so_far.values,
      sym (append-nil (widths_of inputs)) ∙ ap (λ ps. widths_of inputs ++ port_widths ps) (sym none) ∙ so_far.widths,
    )

-- one more at the end of what was put, one less of what is left
one_more : {X : Type 0} (f : X → ℕ) (xs : List X) (x : X) (y : ℕ) (rest left all : List ℕ) → f x ≡ y → left ≡ y ∷ rest → map f xs ++ left ≡ all → map f (xs ++ x ∷ []) ++ rest ≡ all
one_more f xs x y rest left all is parts so_far =
    ap (λ ys. ys ++ rest) (map-append f xs (x ∷ [])) ∙ append_assoc (map f xs) (f x ∷ []) rest
    ∙ ap (λ ys. map f xs ++ ys) (ap (λ z. z ∷ rest) is ∙ sym parts) ∙ so_far

module _ (event : Text) (ports : List DataPort) (given : List Bits) (i taken : ℕ) (inputs : List Bits) (so_far : AreGiven event ports given i taken inputs) (p : DataPort) (here : drop i ports ≡ p ∷ drop (i + 1) ports) where
  abbrev later : List DataPort
  later = filter (is_of_event event) (drop (i + 1) ports)

  left_at : (b : Bool) → is_of_event event p ≡ b → drop taken (widths_of given) ≡ port_widths (cond b (p ∷ later) later)
  left_at b is = so_far.left ∙ ap (λ ps. port_widths (filter (is_of_event event) ps)) here ∙ ap (λ t. port_widths (cond t (p ∷ later) later)) is

  -- where the next input is of the event, a value of its width is left
  next_given : is_of_event event p ≡ true → (slice_get (widths_of given) taken ≡ Some p.width) × (drop (taken + 1) (widths_of given) ≡ port_widths later)
  next_given is = first_left (widths_of given) taken p.width (port_widths later) (left_at true is)

  pub given_within : is_of_event event p ≡ true → taken < length given
  given_within is = omega (arith, slice_get_within (widths_of given) taken p.width (next_given is).0, length-map given (λ (x : Bits). x.width))

  pub given_own : (v : Bits) → is_of_event event p ≡ true → v ≡ get_or given taken v → AreGiven event ports given (i + 1) (taken + 1) (inputs ++ v ∷ [])
  given_own v is taken_is =
      let within = given_within is in
      let width : v.width ≡ p.width =
      ap (λ (x : Bits). x.width) taken_is ∙ sym (get_or-map (λ (x : Bits). x.width) given taken v 0 within) ∙ get_or_from_slice_get (widths_of given) taken p.width 0 (next_given is).0 in
      let rest = drop (taken + 1) (values_of given) in
      let cut : inputs_given event (drop i ports) (drop taken (values_of given)) ≡ v.value ∷ inputs_given event (drop (i + 1) ports) rest =
      ap₂ (inputs_given event) here (mapped_here (λ (x : Bits). x.value) given taken v within taken_is)
      ∙ ap (λ b. cond b (v.value ∷ inputs_given event (drop (i + 1) ports) rest) (0 ∷ inputs_given event (drop (i + 1) ports) (v.value ∷ rest))) is in
      record {
        values = one_more (λ (x : Bits). x.value) inputs v v.value _ _ _ refl cut so_far.values;
        widths = one_more (λ (x : Bits). x.width) inputs v p.width _ _ _ width (ap port_widths here) so_far.widths;
        left = (next_given is).1;
      }

  pub given_other : (v : Bits) → is_of_event event p ≡ false → v.value ≡ 0 → v.width ≡ p.width → AreGiven event ports given (i + 1) taken (inputs ++ v ∷ [])
  given_other v is zero_is width =
      let left = drop taken (values_of given) in
      let cut : inputs_given event (drop i ports) left ≡ 0 ∷ inputs_given event (drop (i + 1) ports) left =
      ap (λ ps. inputs_given event ps left) here
      ∙ ap (λ b. cond b (slice_index left 0 ∷ inputs_given event (drop (i + 1) ports) (drop 1 left)) (0 ∷ inputs_given event (drop (i + 1) ports) left)) is in
      record {
        values = one_more (λ (x : Bits). x.value) inputs v 0 _ _ _ zero_is cut so_far.values;
        widths = one_more (λ (x : Bits). x.width) inputs v p.width _ _ _ width (ap port_widths here) so_far.widths;
        left = left_at false is;
      }

-- ---- the line of a transaction

-- these ports with their values, and the end of the line
abbrev pub rest_of_named : List Named → Text
rest_of_named ports = ports_text (map (λ (p : Named). p.name) ports) (map (λ (p : Named). p.value) ports) ++ 10 ∷ []

-- what a line still has from output k on
abbrev pub rest_of_flow : Text → List DataPort → List ℕ → ℕ → Text
rest_of_flow event outs values k = rest_of_named (outputs_shown event (drop k outs) (drop k values))

pub flow_from : (number : ℕ) (ports : List Named) → named_line number ports ≡ decimal number ++ rest_of_named ports
flow_from number ports = append_assoc (decimal number) (ports_text (map (λ (p : Named). p.name) ports) (map (λ (p : Named). p.value) ports)) (10 ∷ [])

module _ (event : Text) (outs : List DataPort) (values : List ℕ) (k : ℕ) (p : DataPort) (v : ℕ) (here : drop k outs ≡ p ∷ drop (k + 1) outs) (value : drop k values ≡ v ∷ drop (k + 1) values) where
  abbrev others : List Named
  others = outputs_shown event (drop (k + 1) outs) (drop (k + 1) values)

  shown_at : (b : Bool) → is_of_event event p ≡ b → rest_of_flow event outs values k ≡ rest_of_named (cond b (record { name = p.name; value = v } ∷ others) others)
  shown_at b is =
      ap₂ (λ ps vs. rest_of_named (outputs_shown event ps vs)) here value
      ∙ ap (λ t. rest_of_named (cond t (record { name = p.name; value = v } ∷ others) others)) is

  -- an output of the event is shown, any other is passed over
  pub next_output : is_of_event event p ≡ true → rest_of_flow event outs values k ≡ port_text p.name v ++ rest_of_flow event outs values (k + 1)
  next_output is =
      shown_at true is
      ∙ append_assoc (port_text p.name v) (ports_text (map (λ (q : Named). q.name) others) (map (λ (q : Named). q.value) others)) (10 ∷ [])

  pub other_output : is_of_event event p ≡ false → rest_of_flow event outs values k ≡ rest_of_flow event outs values (k + 1)
  other_output is = shown_at false is

pub end_of_flow : (event : Text) (outs : List DataPort) (values : List ℕ) (k : ℕ) → length outs ≤ k → rest_of_flow event outs values k ≡ 10 ∷ []
end_of_flow event outs values k past = ap (λ ps. rest_of_named (outputs_shown event ps (drop k values))) (drop_all k outs past)

-- ---- transactions

pub next_flow : (design : Design) (c : Component) (ts : List Transaction) (i : ℕ) (t : Transaction) → drop i ts ≡ t ∷ drop (i + 1) ts → flow_lines design c i (drop i ts) ≡ flow_line design c i t ++ flow_lines design c (i + 1) (drop (i + 1) ts)
next_flow design c ts i t here =
    ap (flow_lines design c i) here ∙ ap (λ n. flow_line design c i t ++ flow_lines design c n (drop (i + 1) ts)) (sym (add-one i))

pub end_of_flows : (design : Design) (c : Component) (ts : List Transaction) (i : ℕ) → length ts ≤ i → flow_lines design c i (drop i ts) ≡ []
end_of_flows design c ts i past = ap (flow_lines design c i) (drop_all i ts past)

-- the line of a transaction, from the values that were made for its inputs and of its outputs
pub flow_line_is : (design : Design) (c : Component) (i : ℕ) (tx : Tx) (inputs values : List ℕ) → inputs ≡ inputs_given (event_name c tx.event) c.ins (values_of tx.values.items) → values ≡ flow design c inputs
    → named_line i (outputs_shown (event_name c tx.event) c.outs values) ≡ flow_line design c i (transaction_seen tx)
flow_line_is design c i tx inputs values given is =
    ap (λ (vs : List ℕ). named_line i (outputs_shown (event_name c tx.event) c.outs vs)) (is ∙ ap (flow design c) given)

-- what is known of the dataflow of a design, of the same design
pub dataflow_of : (d e : FilDesign) (n : ℕ) (c : Component) (dataflow : Dataflow) → e ≡ d → slice_get (design_of d) n ≡ Some c → ((b : Component) → slice_get (design_of e) n ≡ Some b → IsDataflowOf (design_of e) b dataflow) → IsDataflowOf (design_of d) c dataflow
dataflow_of d e n c dataflow same at known =
    let F : FilDesign → Type 0 = λ (o : FilDesign). (b : Component) → slice_get (design_of o) n ≡ Some b → IsDataflowOf (design_of o) b dataflow in
    subst F same known c at
