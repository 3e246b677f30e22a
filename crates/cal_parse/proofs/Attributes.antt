-- What lists of attributes give.
use Rattle.std.proofs.Common.{◌≡◌, Bool, true, false, ◌||◌, List, [], ◌∷◌, ◌++◌, Result, Ok, Err, refl, sym, ap, ◌∙◌}
use Rattle.hw_grammar.specs.declared.sort.Sort.TheVariants.{At, Comma}
use Rattle.hw_grammar.specs.declared.terminal.Terminal.{Terminal}
use Rattle.hw_grammar.specs.declared.end.ReadEnd.{ReadEnd}
use Rattle.hw_grammar.specs.Reading.{Answer, Fails, after, many}
use Rattle.cal_parse.specs.Grammar.{is_some_true}
use Rattle.cal_parse.specs.inside.Reading.{attribute_at, attributes_at, angle_entry_at, more_entries_at}
use Rattle.hw_grammar.proofs.Steps.{mapped_ok, mapped_fails}

or_last : (a b c : Bool) → ((a || b) || c) ≡ (a || (b || c))
or_last true b c = refl
or_last false b c = refl

or_none : (a : Bool) → (a || false) ≡ a
or_none true = refl
or_none false = refl

some_push : (xs : List Bool) (b : Bool) → is_some_true (xs ++ b ∷ []) ≡ (is_some_true xs || b)
some_push [] b = or_none b
some_push (x ∷ xs) b = ap (λ (y : Bool). x || y) (some_push xs b) ∙ sym (or_last x (is_some_true xs) b)

pub push_true : (xs : List Bool) (b v : Bool) → is_some_true xs ≡ v → is_some_true (xs ++ b ∷ []) ≡ (v || b)
push_true xs b v e = some_push xs b ∙ ap (λ (y : Bool). y || b) e

pub attributes_ok : (ts rest : List Terminal) (front : List Bool) (v : Bool) → many (At ∷ []) attribute_at ts ≡ Ok (front, rest) → is_some_true front ≡ v → attributes_at ts ≡ Ok (v, rest)
unfolding attributes_at
attributes_ok ts rest front v e is = mapped_ok is_some_true (many (At ∷ []) attribute_at) ts front rest e ∙ ap (λ (b : Bool). Ok (b, rest)) is

pub attributes_refused : (ts bad : List Terminal) → many (At ∷ []) attribute_at ts ≡ Err bad → attributes_at ts ≡ Err bad
unfolding attributes_at
attributes_refused ts bad e = rw e refl

pub attributes_fails : (ts : List Terminal) (e : ReadEnd) → Fails e (many (At ∷ []) attribute_at ts) → Fails e (attributes_at ts)
unfolding attributes_at
attributes_fails ts e f = mapped_fails is_some_true (many (At ∷ []) attribute_at) ts e f

pub more_entries_ok : (ts rest : List Terminal) (front : List Bool) (v : Bool) → many (Comma ∷ []) (after Comma angle_entry_at) ts ≡ Ok (front, rest) → is_some_true front ≡ v → more_entries_at ts ≡ Ok (v, rest)
unfolding more_entries_at
more_entries_ok ts rest front v e is = mapped_ok is_some_true (many (Comma ∷ []) (after Comma angle_entry_at)) ts front rest e ∙ ap (λ (b : Bool). Ok (b, rest)) is

pub more_entries_refused : (ts bad : List Terminal) → many (Comma ∷ []) (after Comma angle_entry_at) ts ≡ Err bad → more_entries_at ts ≡ Err bad
unfolding more_entries_at
more_entries_refused ts bad e = rw e refl

pub more_entries_fails : (ts : List Terminal) (e : ReadEnd) → Fails e (many (Comma ∷ []) (after Comma angle_entry_at) ts) → Fails e (more_entries_at ts)
unfolding more_entries_at
more_entries_fails ts e f = mapped_fails is_some_true (many (Comma ∷ []) (after Comma angle_entry_at)) ts e f
