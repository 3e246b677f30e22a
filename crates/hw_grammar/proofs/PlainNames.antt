-- Words of the grammar are plain names.
use Rattle.std.proofs.Common.{◌≡◌, ℕ, true, [], ◌∷◌, refl, subst}
use Rattle.std.specs.List.{list_all}
use Rattle.std.proofs.lemmas.Bool.{false≢true}
use Rattle.std.proofs.lemmas.List.Sums.{AllPass-from_list_all}
use Rattle.hw_names.specs.Name.{Text, dot, IsPlain}
use Rattle.hw_lex.specs.declared.token.Dialect.{Dialect}
use Rattle.hw_lex.specs.declared.token.Dialect.TheVariants.{Fil, Filp, Cal}
use Rattle.hw_lex.specs.Byte.{is_letter, is_name_byte}
use Rattle.hw_lex.specs.Word.{IsName}

letter_in_name : (dialect : Dialect) (byte : ℕ) → is_letter byte ≡ true → is_name_byte dialect byte ≡ true
letter_in_name Fil byte h = rw h refl
letter_in_name Filp byte h = rw h refl
letter_in_name Cal byte h = rw h refl

dot_not_in_name : (dialect : Dialect) → is_name_byte dialect dot ≡ true → ⊥
dot_not_in_name Fil h = false≢true h
dot_not_in_name Filp h = false≢true h
dot_not_in_name Cal h = false≢true h

pub name_plain : (dialect : Dialect) (word : Text) → IsName dialect word → IsPlain word
name_plain dialect [] w = absurd w
name_plain dialect (first ∷ others) w =
    let all : list_all (is_name_byte dialect) (first ∷ others) ≡ true = rw (letter_in_name dialect first w.0, w.1) refl in
    ((λ e. absurd cc), λ k d lt e. dot_not_in_name dialect (subst (λ (x : ℕ). is_name_byte dialect x ≡ true) e (AllPass-from_list_all (is_name_byte dialect) (first ∷ others) all k d lt)))
