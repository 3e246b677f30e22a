-- Reading a text line by line.
use Rattle.std.proofs.Common.{◌≡◌, ◌-◌, ◌^◌, ◌<◌, false, [], ◌∷◌, ◌++◌, length, Some, sym, ap, ◌∙◌, append_assoc, arith}
use Rattle.std.proofs.lemmas.Bool.{false≢true}
use Rattle.std.proofs.lemmas.List.{length-append}
use Rattle.std.proofs.lemmas.Slice.Eq.{bytes_eq-Decides}
use Rattle.std.specs.Str.{bytes_eq}
use Rattle.hw_names.specs.Name.{Text}
use Rattle.net_core.specs.Netlist.{netlist_of}
use Rattle.net_core.specs.declared.net.Net.{Net}
use Rattle.net_text.specs.Layout.{ended}
use Rattle.net_text.specs.inside.ReadResults.{Grows}
use Rattle.net_text.specs.inside.ReadTexts.{IsSettled, IsRead, front_text, first_net, next_net}
use Rattle.net_text.proofs.TextLaws.{first_takes, next_takes}

pub first_is_read : (bytes line after : Text) (net : Net) → bytes ≡ line ++ 10 ∷ after → length bytes < 2 ^ 32 - 1 → first_net line ≡ Some (netlist_of net) → IsSettled net → Grows [] net.names line [] → IsRead bytes net after
first_is_read bytes line after net parts short first settled grows =
    let f = first_takes line (netlist_of net) first in
    record {
      has = f.has;
      parts = parts ∙ sym (append_assoc line (10 ∷ []) after) ∙ ap (λ (t : Text). t ++ after) (sym f.text);
      settled = settled;
      room = omega (arith, grows.bound, ap length parts, length-append line (10 ∷ after));
    }

pub next_is_read : (bytes rest line after : Text) (old new : Net) → IsRead bytes old rest → rest ≡ line ++ 10 ∷ after → next_net (netlist_of old) line ≡ Some (netlist_of new) → IsSettled new → Grows old.names new.names line [] → IsRead bytes new after
next_is_read bytes rest line after old new read parts next settled grows =
    let n = next_takes (netlist_of old) line (netlist_of new) read.has next in
    record {
      has = n.has;
      parts = read.parts ∙ ap (λ (t : Text). front_text (netlist_of old) ++ t) (parts ∙ sym (append_assoc line (10 ∷ []) after))
          ∙ sym (append_assoc (front_text (netlist_of old)) (ended line) after) ∙ ap (λ (t : Text). t ++ after) (sym n.text);
      settled = settled;
      room = omega (arith, grows.bound, read.room, ap length parts, length-append line (10 ∷ after));
    }

pub differ : (a b : Text) → bytes_eq a b ≡ false → a ≡ b → ⊥
differ a b no_match same = false≢true (sym no_match ∙ (bytes_eq-Decides a b).1 same)
