-- Numbers of names, while names are added.
use Rattle.std.proofs.Common.{◌≡◌, ◌<◌, ◌≤◌, ◌⊎◌, List, [], ◌∷◌, ◌++◌, length, Some, slice_get, sym, ap, ◌∙◌, inl, inr, append_assoc, arith}
use Rattle.std.proofs.lemmas.List.{append-nil, length_push, get_or_append_left}
use Rattle.std.proofs.lemmas.Option.{slice_get_within, get_or_from_slice_get}
use Rattle.hw_names.specs.Name.{Text, text_of}
use Rattle.hw_names.specs.declared.names.NameId.{NameId}
use Rattle.net_text.specs.inside.ReadResults.{Extends, Grows}

pub Extends-itself : (names : List Text) → Extends names names
Extends-itself names = record { more = []; parts = sym (append-nil names) }

pub Extends-then : {a b c : List Text} → Extends a b → Extends b c → Extends a c
Extends-then {a} p q = record { more = p.more ++ q.more; parts = q.parts ∙ ap (λ (t : List Text). t ++ q.more) p.parts ∙ append_assoc a p.more q.more }

-- a name keeps its text
pub text_later : (names later : List Text) (id : NameId) (text : Text) → slice_get names id.0 ≡ Some text → Extends names later → text_of later id ≡ text
text_later names later id text h e =
    ap (λ (l : List Text). text_of l id) e.parts
    ∙ get_or_append_left names e.more [] id.0 (slice_get_within names id.0 text h)
    ∙ get_or_from_slice_get names id.0 text [] h

-- what a new name does to the names
pub Grows-from_intern : (old new : List Text) (text : Text) → 0 < length text → (new ≡ old) ⊎ (new ≡ old ++ text ∷ []) → Grows old new text []
Grows-from_intern old new text some (inl e) = record { extends = record { more = []; parts = e ∙ sym (append-nil old) }; bound = omega (arith, ap length e) }
Grows-from_intern old new text some (inr e) = record { extends = record { more = text ∷ []; parts = e }; bound = omega (arith, ap length e, length_push old text) }

pub Grows-then : {a b c : List Text} {text rest last : Text} → Grows a b text rest → Grows b c rest last → Grows a c text last
Grows-then p q = record { extends = Extends-then p.extends q.extends; bound = omega (arith, p.bound, q.bound) }

-- less may be left
pub Grows-past : {a b : List Text} {text rest : Text} → (last : Text) → Grows a b text rest → length last ≤ length rest → Grows a b text last
Grows-past last p le = record { extends = p.extends; bound = omega (arith, p.bound) }
