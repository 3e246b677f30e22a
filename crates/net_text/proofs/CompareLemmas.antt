-- The first guard in brackets, before an operator.
use Rattle.std.proofs.Common.{◌≡◌, ◌<◌, List, [], ◌∷◌, length, Some, None, arith, refl, sym, ap, ◌∙◌}
use Rattle.hw_names.specs.Name.{Text, text_of}
use Rattle.hw_names.specs.declared.names.NameId.{NameId}
use Rattle.net_core.specs.Guard.{GuardTree, Reads, source_tree, guard_tree}
use Rattle.net_core.specs.declared.net.Guard.{Guard}
use Rattle.net_core.specs.declared.net.Guard as code
use Rattle.net_core.specs.declared.net.Src.{Src}
use Rattle.std.specs.Global.{Box}
use Rattle.std.proofs.lemmas.List.{nil_from_length}
use Rattle.net_text.specs.inside.ReadWords.{◌>>=◌}
use Rattle.net_text.specs.inside.ReadLines.{guarded_of_text, value_from, value_of_text}
use Rattle.net_text.specs.inside.ReadGuards.{test_from, guard_at}
use Rattle.net_text.specs.inside.ReadResults.{Extends}
use Rattle.net_text.proofs.NameLemmas.{Extends-itself}

pub no_source : (names : List Text) (g : Guard NameId) (text : Text) → ((s : _) → g ≡ code.Read s → ⊥) → test_from (guard_tree (text_of names) g) text ≡ None
no_source names (code.Read s) text other = absurd (other s refl)
no_source names (code.Test op a b) text other = refl
no_source names (code.Not' p g) text other = refl
no_source names (code.All' shape gs) text other = refl
no_source names (code.Any' shape gs) text other = refl

pub no_value : (names : List Text) (g : Guard NameId) → ((s : _) → g ≡ code.Read s → ⊥) → value_from [] (guard_tree (text_of names) g) ≡ None
unfolding value_from
no_value names (code.Read s) other = absurd (other s refl)
no_value names (code.Test op a b) other = refl
no_value names (code.Not' p g) other = refl
no_value names (code.All' shape gs) other = refl
no_value names (code.Any' shape gs) other = refl

-- a guard that is all that there is, and one that a source follows
pub value_alone : (text : Text) (g : GuardTree Text) (rest : Text) → guard_at text ≡ Some (g, rest) → length rest ≡ 0 → value_of_text text ≡ value_from [] g
unfolding value_of_text
value_alone text g rest e none = rw e (ap (λ (t : Text). value_from t g) (nil_from_length rest none))

pub value_guarded : (text : Text) (g : GuardTree Text) (rest : Text) → guard_at text ≡ Some (g, rest) → 0 < length rest → value_of_text text ≡ (guarded_of_text rest >>= λ src. Some (Some g, src))
unfolding value_of_text value_from
value_guarded text g [] e some = absurd (omega arith)
value_guarded text g (c ∷ cs) e some = rw e refl

reads_is : (a b : Src Text) → ◌≡◌ {A = GuardTree Text} (Reads a) (Reads b) → a ≡ b
reads_is a b e = cc

-- a source that stays what it is as names are added
pub source_stays : (names : List Text) (first : Guard NameId) (left : Box (Src NameId)) (tree : GuardTree Text) → first ≡ code.Read left → ((later : List Text) → Extends names later → guard_tree (text_of later) first ≡ tree)
    → (later : List Text) → Extends names later → source_tree (text_of later) left.value ≡ source_tree (text_of names) left.value
source_stays names first left tree e stays later ext =
    reads_is (source_tree (text_of later) left.value) (source_tree (text_of names) left.value)
    (ap (guard_tree (text_of later)) (sym e) ∙ stays later ext ∙ sym (stays names (Extends-itself names)) ∙ ap (guard_tree (text_of names)) e)
