-- Names that tell the order of the full names of ports.
use Rattle.std.proofs.Common.{◌≡◌, ◌≢◌, ℕ, ◌<◌, List, [], ◌∷◌, Some, length, map, get_or, slice_get, refl, sym, ap, subst, subst₂, ◌∙◌, arith}
use Rattle.std.specs.Prelude.{All}
use Rattle.std.specs.Cmp.Lexicographic.{slice_cmp}
use Rattle.std.specs.Ordering.{nat_cmp}
use Rattle.std.specs.declared.cmp.Ordering.TheVariants.{Greater}
use Rattle.std.proofs.lemmas.List.{length-map}
use Rattle.std.proofs.lemmas.List.Elements.{All-cons, All-head, All-nil, All-tail}
use Rattle.std.proofs.lemmas.Option.{get_or_from_slice_get, slice_get-get_or}
use Rattle.hw_names.specs.Name.{Text}
use Rattle.hw_short.specs.Order as order
use Rattle.hw_short.specs.Order.{IsUpTo, TellOrder, text_in}
use Rattle.fil_place.proofs.GeneralLemmas.{mapped_at}
use Rattle.fil_loops.specs.inside.Ports.{IsFit, TellNames, full_name_in, full_of}
use Rattle.fil_loops.specs.declared.ports.PortKey.{PortKey}
use Rattle.fil_loops.specs.declared.ports.PortKey.TheVariants.{Own, OfInstance}

-- ---- the full name of a key, by numbers

text_is : (texts : List Text) (key : PortKey) → text_in texts (full_of key) ≡ Some (full_name_in texts key)
text_is texts (Own port) = refl
text_is texts (OfInstance instance port) = refl

full_fits : (texts : List Text) (key : PortKey) → IsFit texts key → order.IsFit (length texts) (full_of key)
full_fits texts (Own port) fit = fit.within
full_fits texts (OfInstance instance port) fit = (fit.0, fit.1.within)

pub all_full_fit : (texts : List Text) (keys : List PortKey) → All (IsFit texts) keys → All (order.IsFit (length texts)) (map full_of keys)
all_full_fit texts [] all = All-nil (order.IsFit (length texts))
all_full_fit texts (key ∷ keys) all =
    All-cons (order.IsFit (length texts)) (full_of key) (map full_of keys) (full_fits texts key (All-head (IsFit texts) key keys all)) (all_full_fit texts keys (All-tail (IsFit texts) key keys all))

-- ---- names that tell the order

texts_up_to : (texts : List Text) (key other : PortKey) → IsUpTo (text_in texts (full_of key)) (text_in texts (full_of other)) → slice_cmp nat_cmp (full_name_in texts key) (full_name_in texts other) ≢ Greater
texts_up_to texts key other up = subst₂ IsUpTo (text_is texts key) (text_is texts other) up

-- from the numbers of texts to the full names
pub keys_tell : (texts : List Text) (keys : List PortKey) (seen names : List Text) → map (full_name_in texts) keys ≡ seen → TellOrder texts (map full_of keys) names → TellNames seen names
keys_tell texts keys seen names view tell = record {
  sized = omega (arith, tell.sized, length-map keys full_of, count);
  each = λ i j lt_i lt_j at_most.
      let up = tell.each i j (full_of (key_in i)) (full_of (key_in j)) (mapped_at full_of keys i (key_in i) (key_at i lt_i)) (mapped_at full_of keys j (key_in j) (key_at j lt_j)) at_most in
      subst₂ (λ (s t : Text). slice_cmp nat_cmp s t ≢ Greater) (seen_at i lt_i) (seen_at j lt_j) (texts_up_to texts (key_in i) (key_in j) up);
}
  where
    count : length seen ≡ length keys
    count = sym (ap length view) ∙ length-map keys (full_name_in texts)

    key_in : ℕ → PortKey
    key_in i = get_or keys i (Own 0)

    key_at : (i : ℕ) → i < length seen → slice_get keys i ≡ Some (key_in i)
    key_at i lt = slice_get-get_or keys i (Own 0) (omega (arith, lt, count))

    seen_at : (i : ℕ) → i < length seen → full_name_in texts (key_in i) ≡ get_or seen i []
    seen_at i lt = sym (get_or_from_slice_get seen i (full_name_in texts (key_in i)) [] (ap (λ (l : List Text). slice_get l i) (sym view) ∙ mapped_at (full_name_in texts) keys i (key_in i) (key_at i lt)))

tell_themselves : (seen : List Text) → TellNames seen seen
tell_themselves seen = record { sized = refl; each = λ i j lt_i lt_j at_most. at_most }

pub full_tell : (seen names : List Text) → names ≡ seen → TellNames seen names
full_tell seen names same = subst (TellNames seen) (sym same) (tell_themselves seen)
