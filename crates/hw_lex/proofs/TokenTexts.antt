-- Tokens and their bytes by number.
use Rattle.std.proofs.Common.{◌≡◌, ℕ, zero, suc, ◌<◌, List, [], ◌∷◌, length, get_or, Some, refl, sym, ap, arith}
use Rattle.std.specs.Prelude.{slice_get}
use Rattle.hw_lex.specs.declared.token.Token.{Token}
use Rattle.hw_lex.specs.Cut.{token_text, token_texts}

pub get_is : {X : Type 0} (xs : List X) (i : ℕ) (x : X) → i < length xs → x ≡ get_or xs i x → slice_get xs i ≡ Some x
get_is [] i x lt e = absurd (omega arith)
get_is (y ∷ xs) zero x lt e = ap Some (sym e)
get_is (y ∷ xs) (suc i) x lt e = get_is xs i x (omega arith) e

pub text_is : (source : List ℕ) (tokens : List Token) (i : ℕ) (token : Token) → i < length tokens → token ≡ get_or tokens i token → slice_get (token_texts source tokens) i ≡ Some (token_text source token)
text_is source [] i token lt e = absurd (omega arith)
text_is source (first ∷ tokens) zero token lt e = ap (λ (t : Token). Some (token_text source t)) (sym e)
text_is source (first ∷ tokens) (suc i) token lt e = text_is source tokens i token (omega arith) e

pub length-token_texts : (source : List ℕ) (tokens : List Token) → length (token_texts source tokens) ≡ length tokens
length-token_texts source [] = refl
length-token_texts source (token ∷ tokens) = ap suc (length-token_texts source tokens)
