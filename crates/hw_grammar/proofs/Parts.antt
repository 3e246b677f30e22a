-- Readers on texts of a bounded length, and their laws: what stands before a terminal, or between two.
use Rattle.std.proofs.Common.{◌≡◌, ℕ, zero, suc, Bool, true, false, ◌&&◌, List, [], ◌∷◌}
use Rattle.hw_grammar.specs.declared.sort.Sort.{Sort}
use Rattle.hw_grammar.specs.declared.terminal.Terminal.{Terminal}
use Rattle.hw_grammar.specs.Grammar.{Lang, One, Then, After, Closed, Between}
use Rattle.hw_grammar.specs.Reading.{Reader, closed, between}
use Rattle.hw_grammar.proofs.Exact.{IsLang, apart, then_first, then_ext, one-exact, mapped-law, then-law, One-law}
use Rattle.hw_grammar.proofs.Upto.{Upto, upto, upto-then, upto-mapped, upto-after}
use Rattle.hw_grammar.proofs.Limit.{Within, within-mapped, within-then, within-after, within-self, Limit, limit-const, limit-mapped, limit-then, limit-after, after-law}

pub upto-closed : {A : Type 0} {P : Lang A} {p : Reader A} {f e : List Sort} {n : Bool} (bound : ℕ) (sort : Sort) → Upto bound P p f n e → apart (sort ∷ []) e ≡ true → Upto bound (Closed P sort) (closed p sort) (then_first n f (sort ∷ [])) (n && false) []
upto-closed {A = A} bound sort a side = upto-mapped bound (λ (x : A × Terminal). x.0) (upto-then bound a (upto bound (one-exact sort)) side)

pub upto-between : {A : Type 0} {P : Lang A} {p : Reader A} {f e : List Sort} {n : Bool} (bound : ℕ) (first last : Sort) → Upto bound P p f n e → apart (last ∷ []) e ≡ true → Upto (suc bound) (Between first P last) (between first p last) (first ∷ []) false (then_ext (n && false) [] [])
upto-between bound first last a side = upto-after bound first (upto-closed bound last a side)

pub closed-law : {A : Type 0} {P : Lang A} {f : List Sort} {n : Bool} (sort : Sort) → IsLang P f n → IsLang (Closed P sort) (then_first n f (sort ∷ [])) (n && false)
closed-law {A = A} sort p = mapped-law (λ (x : A × Terminal). x.0) (then-law p (One-law sort))

pub between-law : {A : Type 0} {P : Lang A} {f : List Sort} {n : Bool} (first last : Sort) → IsLang P f n → IsLang (Between first P last) (first ∷ []) false
between-law first last p = after-law first (closed-law last p)

pub within-closed : {A : Type 0} (P Q : Lang A) (sort : Sort) → Within P Q → Within (Closed P sort) (Closed Q sort)
within-closed {A = A} P Q sort h = within-mapped (Then P (One sort)) (Then Q (One sort)) (λ (x : A × Terminal). x.0) (within-then P Q (One sort) (One sort) h (within-self (One sort)))

pub within-between : {A : Type 0} (first last : Sort) (P Q : Lang A) → Within P Q → Within (Between first P last) (Between first Q last)
within-between first last P Q h = within-after first (Closed P last) (Closed Q last) (within-closed P Q last h)

pub limit-closed : {A : Type 0} (P : ℕ → Lang A) (L : Lang A) (sort : Sort) → Limit P L → Limit (λ d. Closed (P d) sort) (Closed L sort)
limit-closed {A = A} P L sort x =
    limit-mapped (λ d. Then (P d) (One sort)) (Then L (One sort)) (λ (x : A × Terminal). x.0) (limit-then P L (λ d. One sort) (One sort) x (limit-const (One sort)))

pub limit-between : {A : Type 0} (first last : Sort) (P : ℕ → Lang A) (L : Lang A) → Limit P L → Limit (λ d. Between first (P d) last) (Between first L last)
limit-between first last P L x = limit-after first (λ d. Closed (P d) last) (Closed L last) (limit-closed P L last x)

-- ---- one language within another, as a language by its depth

-- S at depth 0, T at all others
abbrev pub first_then : {A : Type 0} → Lang A → Lang A → ℕ → Lang A
first_then S T zero = S
first_then S T (suc d) = T

pub pair-limit : {A : Type 0} (S T : Lang A) → Within S T → Limit (first_then S T) T
pair-limit S T h = record {
  up = λ d. elim d as (λ d. Within (first_then S T d) T) [ zero ↦ h | suc d ↦ within-self T ];
  down = λ w a m l. (1, l);
  grows = λ d. elim d as (λ d. Within (first_then S T d) (first_then S T (suc d))) [ zero ↦ h | suc d ↦ within-self T ];
}
