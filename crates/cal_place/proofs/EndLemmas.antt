-- Ends that a call passes up.
use Rattle.std.proofs.Common.{◌≡◌, Result, Ok, Err, IfErr, IsErrAnd, sym, subst}

-- an end is passed up as it is
pub passed_up : {T E : Type 0} (r : Result T E) (e : E) (P : E → Type 0) → IsErrAnd r (λ other. other ≡ e) → P e → IfErr r P
passed_up (Ok x) e P is tells = tt
passed_up (Err y) e P is tells = subst P (sym is) tells
