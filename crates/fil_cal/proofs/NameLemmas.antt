-- Names of primitives, of their ports and of registers are names of Calyx's grammar.
use Rattle.std.proofs.Common.{◌≡◌, Bool, true, false, not, ◌&&◌, if◌then◌else◌, List, [], ◌∷◌, is_some, Option, Some, None, Contains, bytes_eq, refl, sym, subst}
use Rattle.std.specs.List.{list_all}
use Rattle.std.proofs.lemmas.Bool.{false≢true}
use Rattle.std.proofs.lemmas.List.Elements.{All-contains}
use Rattle.std.proofs.lemmas.List.Sums.{AllPass-from_list_all}
use Rattle.std.proofs.lemmas.Slice.Eq.{bytes_eq-Decides}
use Rattle.hw_names.specs.Name.{Text}
use Rattle.hw_lex.specs.Byte.{is_letter, is_name_byte}
use Rattle.hw_lex.specs.Word.{IsName}
use Rattle.hw_lex.specs.declared.token.Dialect.TheVariants.{Cal}
use Rattle.hw_grammar.specs.Terminals.{keywords, entry_of}
use Rattle.hw_grammar.specs.declared.sort.Sort.{Sort}
use Rattle.hw_prims.specs.Table.{inputs_of, is_primitive, meaning_in, outputs_of, pin_names, prim_names}
use Rattle.hw_prims.specs.declared.name.PrimName.{PrimName}
use Rattle.hw_prims.specs.declared.prim.Primitive.{Primitive}
use Rattle.hw_prims.specs.declared.prim.Primitive.TheVariants.{StdConst}
use Rattle.net_text.specs.Names.{begins_name, continues_name}
use Rattle.net_text.proofs.NumberLaws.{both_true}
use Rattle.cal_ast.specs.Written.{IsCalName}
use Rattle.fil_promise.specs.Refines.{IsGenerated}
use Rattle.fil_net.proofs.RegisterNames.{register_segment}
use Rattle.fil_net.proofs.SegmentLemmas.{IsSegment}

-- the text is no keyword
abbrev IsNoKeyword : Text → Type 0
IsNoKeyword text = entry_of (keywords Cal) text ≡ None

-- names of netlists are Calyx's, but for keywords
segment_name : (text : Text) → IsSegment text → IsName Cal text
segment_name [] is = absurd (false≢true is)
segment_name (c ∷ cs) is = both_true (begins_name c) (list_all continues_name cs) is

pub register_name : (name : Text) → IsGenerated name → IsCalName name
register_name name generated = (segment_name name (register_segment name generated), subst IsNoKeyword (sym generated.1) refl)

-- ---- names of a finite table, by a test

abbrev is_cal_name : Text → Bool
is_cal_name [] = false
is_cal_name (c ∷ cs) = is_letter c && (list_all (is_name_byte Cal) cs && not (is_some (entry_of (keywords Cal) (c ∷ cs))))

no_row : (o : Option Sort) → not (is_some o) ≡ true → o ≡ None
no_row None is = refl
no_row (Some sort) is = absurd (false≢true is)

tested_name : (text : Text) → is_cal_name text ≡ true → IsCalName text
tested_name [] is = absurd (false≢true is)
tested_name (c ∷ cs) is =
    let keyword : Option Sort = entry_of (keywords Cal) (c ∷ cs) in
    let first = both_true (is_letter c) (list_all (is_name_byte Cal) cs && not (is_some keyword)) is in
    let later = both_true (list_all (is_name_byte Cal) cs) (not (is_some keyword)) first.1 in
    ((first.0, later.0), no_row keyword later.1)

-- ---- primitives

known_name : (table : List (Text × PrimName)) (text : Text) → list_all (λ (entry : Text × PrimName). is_cal_name entry.0) table ≡ true → is_some (meaning_in table text) ≡ true → IsCalName text
known_name [] text all is = absurd (false≢true is)
known_name ((known, name) ∷ others) text all is =
    let parts = both_true (is_cal_name known) (list_all (λ (entry : Text × PrimName). is_cal_name entry.0) others) all in
    by (bytes_eq known text) refl (tested_name known parts.0) (known_name others text parts.1) is
  where
    by : (b : Bool) → bytes_eq known text ≡ b → IsCalName known → (is_some (meaning_in others text) ≡ true → IsCalName text) → is_some (if b then Some name else meaning_in others text) ≡ true → IsCalName text
    by true same first later is' = subst IsCalName ((bytes_eq-Decides known text).0 same) first
    by false other first later is' = later is'

pub primitive_name : (text : Text) → is_primitive text ≡ true → IsCalName text
unfolding prim_names is_primitive
primitive_name text is = known_name prim_names text refl is

inputs_tested : (prim : Primitive) → list_all is_cal_name (pin_names (inputs_of prim)) ≡ true
unfolding inputs_of
inputs_tested (StdConst w v) = refl
inputs_tested prim = refl

outputs_tested : (prim : Primitive) → list_all is_cal_name (pin_names (outputs_of prim)) ≡ true
unfolding outputs_of
outputs_tested (StdConst w v) = refl
outputs_tested prim = refl

name_among : (names : List Text) (name : Text) → list_all is_cal_name names ≡ true → Contains names name → IsCalName name
name_among names name tested has = tested_name name (All-contains (λ (t : Text). is_cal_name t ≡ true) names name (AllPass-from_list_all is_cal_name names tested) has)

pub input_name : (prim : Primitive) (name : Text) → Contains (pin_names (inputs_of prim)) name → IsCalName name
input_name prim name has = name_among (pin_names (inputs_of prim)) name (inputs_tested prim) has

pub output_name : (prim : Primitive) (name : Text) → Contains (pin_names (outputs_of prim)) name → IsCalName name
output_name prim name has = name_among (pin_names (outputs_of prim)) name (outputs_tested prim) has
