-- Each mark of each language has a sort.
use Rattle.std.proofs.Common.{◌≡◌, ℕ, true, ◌&&◌, eqb, List, [], ◌∷◌, refl, sym, subst, is_some}
use Rattle.std.specs.Prelude.{slice_index}
use Rattle.std.specs.List.{list_all, list_any}
use Rattle.std.proofs.lemmas.Bool.{eqb-true}
use Rattle.hw_names.specs.Name.{Text}
use Rattle.hw_lex.specs.declared.token.Dialect.{Dialect}
use Rattle.hw_lex.specs.declared.token.Dialect.TheVariants.{Fil, Filp, Cal}
use Rattle.hw_lex.specs.Byte.{single_marks, double_marks, is_single_mark}
use Rattle.hw_lex.specs.Word.{is_mark}
use Rattle.hw_lex.proofs.Fronts.{and_true, any_of}
use Rattle.hw_grammar.specs.Terminals.{marks, entry_of}

single_known : (dialect : Dialect) (byte : ℕ) → is_single_mark dialect byte ≡ true → is_some (entry_of marks (byte ∷ [])) ≡ true
single_known Fil byte h =
    let m = any_of (λ m. eqb m byte) (λ m. is_some (entry_of marks (m ∷ []))) (single_marks Fil) h refl in
    subst (λ (x : ℕ). is_some (entry_of marks (x ∷ [])) ≡ true) (eqb-true m.0 byte m.1) m.2
single_known Filp byte h =
    let m = any_of (λ m. eqb m byte) (λ m. is_some (entry_of marks (m ∷ []))) (single_marks Filp) h refl in
    subst (λ (x : ℕ). is_some (entry_of marks (x ∷ [])) ≡ true) (eqb-true m.0 byte m.1) m.2
single_known Cal byte h =
    let m = any_of (λ m. eqb m byte) (λ m. is_some (entry_of marks (m ∷ []))) (single_marks Cal) h refl in
    subst (λ (x : ℕ). is_some (entry_of marks (x ∷ [])) ≡ true) (eqb-true m.0 byte m.1) m.2

pair_known : (first second : ℕ) (list : List (List ℕ)) → list_any (λ m. eqb first (slice_index m 0) && eqb second (slice_index m 1)) list ≡ true → list_all (λ m. is_some (entry_of marks (slice_index m 0 ∷ slice_index m 1 ∷ []))) list ≡ true → is_some (entry_of marks (first ∷ second ∷ [])) ≡ true
pair_known first second list h all =
    let m = any_of (λ m. eqb first (slice_index m 0) && eqb second (slice_index m 1)) (λ m. is_some (entry_of marks (slice_index m 0 ∷ slice_index m 1 ∷ []))) list h all in
    let t = and_true (eqb first (slice_index m.0 0)) (eqb second (slice_index m.0 1)) m.1 in
    let a = sym (eqb-true first (slice_index m.0 0) t.0) in
    let b = sym (eqb-true second (slice_index m.0 1) t.1) in
    subst (λ (x : ℕ). is_some (entry_of marks (first ∷ x ∷ [])) ≡ true) b (subst (λ (x : ℕ). is_some (entry_of marks (x ∷ slice_index m.0 1 ∷ [])) ≡ true) a m.2)

-- the table of marks has each mark of each language
pub mark_known : (dialect : Dialect) (word : Text) → is_mark dialect word ≡ true → is_some (entry_of marks word) ≡ true
mark_known dialect [] h = absurd cc
mark_known dialect (first ∷ []) h = single_known dialect first h
mark_known Fil (first ∷ second ∷ []) h = pair_known first second (double_marks Fil) h refl
mark_known Filp (first ∷ second ∷ []) h = pair_known first second (double_marks Filp) h refl
mark_known Cal (first ∷ second ∷ []) h = pair_known first second (double_marks Cal) h refl
mark_known dialect (first ∷ second ∷ third ∷ word) h = absurd cc
