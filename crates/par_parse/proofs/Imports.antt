-- Imports are read and dropped.
use Rattle.std.proofs.Common.{◌≡◌, ◌-◌, List, [], ◌∷◌, length, Result, Ok, Err, refl, ap, arith}
use Rattle.hw_grammar.specs.declared.sort.Sort.TheVariants.{Import}
use Rattle.hw_grammar.specs.declared.terminal.Terminal.{Terminal}
use Rattle.hw_grammar.specs.declared.end.ReadEnd.{ReadEnd}
use Rattle.hw_grammar.specs.declared.end.ReadEnd.TheVariants as ends
use Rattle.hw_grammar.specs.Reading.{◌>>=◌, times, many, with_front, Fails}
use Rattle.par_parse.specs.inside.Reading.{import_at, imports_at}

all_of : (r : Result (List (Unit {0}) × List Terminal) (List Terminal)) → with_front [] r ≡ r
all_of (Ok x) = refl
all_of (Err bad) = refl

pub unchanged : (ts : List Terminal) → with_front [] (times (Import ∷ []) import_at (length ts - 0) ts) ≡ many (Import ∷ []) import_at ts
unchanged ts = let k : length ts - 0 ≡ length ts = omega arith in rw k (all_of (times (Import ∷ []) import_at (length ts) ts))

pub dropped : (ts rest : List Terminal) (front : List (Unit {0})) → many (Import ∷ []) import_at ts ≡ Ok (front, rest) → imports_at ts ≡ Ok (tt, rest)
unfolding imports_at
dropped ts rest front e = ap (λ (r : Result (List (Unit {0}) × List Terminal) (List Terminal)). r >>= λ x. Ok (tt, x.1)) e

pub dropped_refused : (ts bad : List Terminal) → many (Import ∷ []) import_at ts ≡ Err bad → imports_at ts ≡ Err bad
unfolding imports_at
dropped_refused ts bad e = ap (λ (r : Result (List (Unit {0}) × List Terminal) (List Terminal)). r >>= λ x. Ok (tt, x.1)) e

pub dropped_fails : (ts : List Terminal) (e : ReadEnd) → Fails e (many (Import ∷ []) import_at ts) → Fails e (imports_at ts)
dropped_fails ts ends.Memory f = tt
dropped_fails ts (ends.Refused bad) f = dropped_refused ts bad.now f
