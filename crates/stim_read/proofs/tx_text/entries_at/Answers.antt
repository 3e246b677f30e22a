use Rattle.std.proofs.Common.{◌≡◌, Global, Vec, List, Option, IfOk, map, option_map, sym, ap, subst, ◌∙◌}
use Rattle.serde_json.specs.View.{view}
use Rattle.stim_read.specs.Parts.{◌>>=◌, each, items_in, items_of}
use Rattle.stim_read.specs.TxText.{Starts, tx_entry_in, tx_entry_seen}
use Rattle.stim_read.specs.declared.tx_text.TxEntry.{TxEntry}
use Rattle.stim_read.proofs.SeenLemmas.{items_seen}
use Rattle.stim_read.proofs.tx_text.entries_at.Goals as goal

pub returns-in_default : goal.returns-in_default
returns-in_default c = ap (λ o. o >>= items_in >>= each (tx_entry_in c.args.version)) c.in_default.ensures

pub returns-in-None : goal.returns-in-None
returns-in-None c =
    let f = tx_entry_in c.args.version in
    ap (λ o. option_map items_of o >>= each f) c.in-None.ensures ∙ ap (λ o. o >>= items_in >>= each f) c.in-Some.ensures

pub returns-in-Some-as_array : goal.returns-in-Some-as_array
returns-in-Some-as_array c =
    let f = tx_entry_in c.args.version in
    let e = ap (λ xs. each f (map view xs)) c.deref.ensures.value ∙ ap (each f) (sym (items_seen c.in-Some-as_array.values.now.items))
    ∙ ap (λ o. option_map items_of o >>= each f) c.in-Some-as_array.ensures ∙ ap (λ o. o >>= items_in >>= each f) c.in-Some.ensures in
    subst (λ (m : Option (List Starts)). IfOk c.read_tx_entries.result (λ o. option_map (λ (v : Vec TxEntry Global). map tx_entry_seen v.items) o ≡ m)) e c.read_tx_entries.ensures
