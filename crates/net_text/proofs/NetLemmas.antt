-- A netlist to which a line is added.
use Rattle.std.proofs.Common.{◌≡◌, true, false, List, [], Option, Some, None, refl, sym, ap, ◌∙◌, subst}
use Rattle.hw_names.specs.Name.{Text, text_of}
use Rattle.net_core.specs.Netlist.{Netlist, Line, netlist_of}
use Rattle.net_core.specs.declared.net.Net.{Net}
use Rattle.net_text.specs.declared.lines.NetLine.{NetLine}
use Rattle.net_text.specs.inside.View.{line_of}
use Rattle.net_text.specs.inside.ReadResults.{Extends}
use Rattle.net_text.specs.inside.ReadLines.{line_of_text}
use Rattle.net_text.specs.inside.ReadTexts.{follows, with_line, next_net, netlist_with, IsSettled, empty_net}
use Rattle.net_text.proofs.NameLemmas.{Extends-itself, Extends-then}

-- the new net is the old one with the line, whatever names come later
pub record Adds (old new : Net) (line : NetLine) (text : Text) : Type 0 where
  pub settled : IsSettled old
  pub extends : Extends old.names new.names
  pub read : (later : List Text) → Extends new.names later → line_of_text text ≡ Some (line_of later line)
  pub pushed : (names : List Text) → netlist_with names new ≡ with_line (netlist_with names old) (line_of names line)

pub with_next : (old new : Net) (line : NetLine) (text : Text) → Adds old new line text → netlist_of new ≡ with_line (netlist_of old) (line_of new.names line)
with_next old new line text adds = adds.pushed new.names ∙ ap (λ (n : Netlist). with_line n (line_of new.names line)) (adds.settled new.names adds.extends)

pub next_is : (old new : Net) (line : NetLine) (text : Text) → Adds old new line text → follows (netlist_with new.names old) (line_of new.names line) ≡ true → next_net (netlist_of old) text ≡ Some (netlist_of new)
unfolding next_net
next_is old new line text adds ok =
    let e = adds.read new.names (Extends-itself new.names) in
    let ok' : follows (netlist_of old) (line_of new.names line) ≡ true = subst (λ (n : Netlist). follows n (line_of new.names line) ≡ true) (adds.settled new.names adds.extends) ok in
    rw (e, ok') (ap (λ (n : Netlist). Some n) (sym (with_next old new line text adds)))

some_is : {A : Type 0} (a b : A) → ◌≡◌ {A = Option A} (Some a) (Some b) → a ≡ b
some_is a b e = cc

pub stays_settled : (old new : Net) (line : NetLine) (text : Text) → Adds old new line text → IsSettled new
stays_settled old new line text adds later ext =
    let same : line_of later line ≡ line_of new.names line = some_is (line_of later line) (line_of new.names line) (sym (adds.read later ext) ∙ adds.read new.names (Extends-itself new.names)) in
    adds.pushed later
    ∙ ap (λ (n : Netlist). with_line n (line_of later line)) (adds.settled later (Extends-then adds.extends ext))
    ∙ ap (λ (l : Line). with_line (netlist_of old) l) same
    ∙ sym (with_next old new line text adds)

pub next_none : (old : Net) (names : List Text) (line : NetLine) (text : Text) → IsSettled old → Extends old.names names → line_of_text text ≡ Some (line_of names line) → follows (netlist_with names old) (line_of names line) ≡ false
    → next_net (netlist_of old) text ≡ None
unfolding next_net
next_none old names line text settled ext read refused =
    let refused' : follows (netlist_of old) (line_of names line) ≡ false = subst (λ (n : Netlist). follows n (line_of names line) ≡ false) (settled names ext) refused in
    rw (read, refused') refl

-- a net of a name alone
pub record IsBare (net : Net) : Type 0 where
  pub ins : net.ins.items ≡ []
  pub outs : net.outs.items ≡ []
  pub wires : net.wires.items ≡ []
  pub cells : net.cells.items ≡ []
  pub sets : net.sets.items ≡ []

pub only_name : (net : Net) (names : List Text) → IsBare net → netlist_with names net ≡ empty_net (text_of names net.name)
only_name net names bare = rw (bare.ins, bare.outs, bare.wires, bare.cells, bare.sets) refl

pub first_settled : (net : Net) (name : Text) → IsBare net → ((later : List Text) → Extends net.names later → ◌≡◌ {A = Option Text} (Some name) (Some (text_of later net.name))) → IsSettled net
first_settled net name bare named later ext =
    let same : text_of later net.name ≡ text_of net.names net.name =
    some_is (text_of later net.name) (text_of net.names net.name) (sym (named later ext) ∙ named net.names (Extends-itself net.names)) in
    only_name net later bare ∙ ap empty_net same ∙ sym (only_name net net.names bare)
