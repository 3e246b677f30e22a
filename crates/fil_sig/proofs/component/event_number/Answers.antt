use Rattle.std.proofs.Common.{◌≡◌, ◌<◌, ◌+◌, ℕ, suc, List, length, map, get_or, drop, bytes_eq, refl, sym, ap, ◌∙◌, arith}
use Rattle.std.proofs.Math.Seq.{drop-length}
use Rattle.hw_names.specs.Name.{text_of}
use Rattle.hw_names.proofs.NameLemmas.{text_of-slice_get}
use Rattle.fil_ast.specs.Signature.{event_number}
use Rattle.fil_ast.specs.Tree.{event_tree}
use Rattle.fil_ast.specs.declared.tree.EventDef.{EventDef}
use Rattle.fil_sig.proofs.ListLemmas.{found_at, missed_at}
use Rattle.fil_sig.proofs.component.event_number.Goals as goal

no_event : EventDef
no_event = record { name = record { 0 = 0 }; delay = 0 }

pub returns-then-eq : goal.returns-then-eq
unfolding no_event
returns-then-eq c =
    let names = c.args.names.now in
    let events = c.args.events.now in
    let name = c.text-text.result.now in
    let i = c.loop-known.known-index in
    let within : i < length events = c.loop-known-test.true in
    let test = λ (e : EventDef). bytes_eq (text_of names e.name) name in
    let yes = ap (λ t. bytes_eq t name) (text_of-slice_get names (get_or events i no_event).name c.text.result.now c.text.ensures) ∙ sym c.eq.ensures ∙ c.if-eq.true in
    let here = found_at (λ (es : List EventDef). event_number (map (event_tree names) es) name) test (λ (e : EventDef). 0) suc (λ e es. refl) events i no_event within yes in
    let whole = c.loop-known.invariant.1 in
    let same : c.loop-known.number ≡ event_number (map (event_tree names) events) name = omega (arith, c.loop-known.invariant.0, here, whole) in
    same ∙ ap (event_number (map (event_tree names) events)) (sym (text_of-slice_get names c.args.event name c.text-text.ensures))

pub loop-known-preserved : goal.loop-known-preserved
unfolding no_event
loop-known-preserved c =
    let names = c.args.names.now in
    let events = c.args.events.now in
    let name = c.text-text.result.now in
    let i = c.loop-known.known-index in
    let within : i < length events = c.loop-known-test.true in
    let test = λ (e : EventDef). bytes_eq (text_of names e.name) name in
    let no = ap (λ t. bytes_eq t name) (text_of-slice_get names (get_or events i no_event).name c.text.result.now c.text.ensures) ∙ sym c.eq.ensures ∙ c.if-eq.false in
    let here = missed_at (λ (es : List EventDef). event_number (map (event_tree names) es) name) test (λ (e : EventDef). 0) suc (λ e es. refl) events i no_event within no in
    let whole = c.loop-known.invariant.1 in
    (ap (λ n. n + 1) c.loop-known.invariant.0, omega (arith, here, whole))

pub returns : goal.returns
returns c =
    let names = c.args.names.now in
    let events = c.args.events.now in
    let name = c.text-text.result.now in
    let end : c.loop-known.known-index ≡ length events = omega arith in
    let none : event_number (map (event_tree names) (drop c.loop-known.known-index events)) name ≡ 0 =
    ap (λ (k : ℕ). event_number (map (event_tree names) (drop k events)) name) end ∙ ap (λ (es : List EventDef). event_number (map (event_tree names) es) name) (drop-length events) in
    let whole = c.loop-known.invariant.1 in
    let same : c.loop-known.number ≡ event_number (map (event_tree names) events) name = omega (arith, c.loop-known.invariant.0, none, whole) in
    same ∙ ap (event_number (map (event_tree names) events)) (sym (text_of-slice_get names c.args.event name c.text-text.ensures))
