-- Names of Filament, and names joined by dots, in the grammar of netlists.
use Rattle.std.proofs.Common.{◌≡◌, ℕ, ◌^◌, ◌==◌, ◌||◌, ◌&&◌, Bool, true, false, List, [], ◌∷◌, ◌++◌, is_some, All, Option, Some, None, refl, sym, ap, subst, ◌∙◌}
use Rattle.std.specs.List.{list_all}
use Rattle.std.specs.Prelude.{IfSome, bytes_eq, if◌then◌else◌}
use Rattle.std.proofs.lemmas.Bool.{false≢true}
use Rattle.std.proofs.lemmas.Bool.Decides.{Decides-eqb, Decides-ltb}
use Rattle.std.proofs.lemmas.List.{append-nil}
use Rattle.std.proofs.lemmas.List.Elements.{All-head, All-push, All-tail}
use Rattle.std.proofs.lemmas.Slice.Eq.{bytes_eq-Decides}
use Rattle.hw_names.specs.Name.{Path, Text, dot, dotted, full_name, port_at}
use Rattle.hw_names.proofs.NameLemmas.{full_name-append}
use Rattle.hw_lex.specs.Byte.{is_between, is_letter, is_name_byte}
use Rattle.hw_lex.specs.declared.token.Dialect.TheVariants.{Fil}
use Rattle.hw_grammar.specs.Words.{IsWritten}
use Rattle.hw_prims.specs.Table.{is_primitive, meaning_in, prim_names}
use Rattle.hw_prims.specs.declared.name.PrimName.{PrimName}
use Rattle.net_text.specs.Names.{begins_name, continues_name, is_number, is_path, is_rest_of_path, is_segment}
use Rattle.net_text.proofs.NumberLaws.{both_true}
use Rattle.net_text.proofs.WordLaws.{all_imply}
use Rattle.cal_ast.specs.Instances.{port_name}
use Rattle.cal_ast.specs.Tree.{PortName}
use Rattle.fil_parse.specs.Written.{IsFilName}

abbrev pub IsSegment : Text → Type 0
IsSegment name = is_segment name ≡ true

abbrev pub IsSegmentPort : PortName → Type 0
IsSegmentPort p = IfSome p.cell IsSegment × IsSegment p.pin

pub both : (a b : Bool) → a ≡ true → b ≡ true → (a && b) ≡ true
both a b is_a is_b = rw (is_a, is_b) refl

or_more : (a b e : Bool) → (a || b) ≡ true → (a || b || e) ≡ true
or_more true b e is = refl
or_more false true e is = refl
or_more false false e is = absurd (false≢true is)

-- a name of Filament is one of netlists
goes_on : (c : ℕ) → is_name_byte Fil c ≡ true → continues_name c ≡ true
goes_on c is = or_more (is_letter c) (is_between 48 57 c) (c == 36) is

pub fil_segment : (name : Text) → IsFilName name → IsSegment name
fil_segment [] is = absurd is.0
fil_segment (c ∷ cs) is = both (begins_name c) (list_all continues_name cs) is.0.0 (all_imply (is_name_byte Fil) continues_name goes_on cs is.0.1)

-- ---- numbers

pub number_text : (n : ℕ) → IsWritten n → is_number n ≡ true
number_text n is = (Decides-ltb n (2 ^ 128)).1 is

-- ---- paths

not_dot : (c : ℕ) → continues_name c ≡ true → (c == 46) ≡ false
not_dot c is = by (c == 46) refl
  where
    by : (b : Bool) → (c == 46) ≡ b → b ≡ false
    by true same = absurd (false≢true (sym (sym is ∙ ap continues_name ((Decides-eqb c 46).0 same))))
    by false other = refl

rest_append : (cs tail : Text) → list_all continues_name cs ≡ true → is_rest_of_path tail ≡ true → is_rest_of_path (cs ++ tail) ≡ true
rest_append [] tail all is = is
rest_append (c ∷ cs) tail all is =
    let parts = both_true (continues_name c) (list_all continues_name cs) all in
    let later = rest_append cs tail parts.1 is in
    rw (not_dot c parts.0, parts.0) later

pub segment_path : (name : Text) → IsSegment name → is_path name ≡ true
segment_path [] is = absurd (false≢true is)
segment_path (c ∷ cs) is =
    let parts = both_true (begins_name c) (list_all continues_name cs) is in
    both (begins_name c) (is_rest_of_path cs) parts.0 (subst (λ (t : Text). is_rest_of_path t ≡ true) (append-nil cs) (rest_append cs [] parts.1 refl))

dotted_path : (a b : Text) → IsSegment a → is_path b ≡ true → is_path (dotted a b) ≡ true
dotted_path [] b is path = absurd (false≢true is)
dotted_path (c ∷ cs) b is path =
    let parts = both_true (begins_name c) (list_all continues_name cs) is in
    both (begins_name c) (is_rest_of_path (cs ++ dot ∷ b)) parts.0 (rest_append cs (dot ∷ b) parts.1 path)

pub full_path : (path : Path) (name : Text) → All IsSegment path → IsSegment name → is_path (full_name path name) ≡ true
full_path [] name all is = segment_path name is
full_path (s ∷ path) name all is = dotted_path s (full_name path name) (All-head IsSegment s path all) (full_path path name (All-tail IsSegment s path all) is)

pub port_path : (path : Path) (p : PortName) → All IsSegment path → IsSegmentPort p → is_path (port_name path p) ≡ true
port_path path p all is = by p.cell is.0
  where
    by : (cell : Option Text) → IfSome cell IsSegment → is_path (port_at path cell p.pin) ≡ true
    by None known = full_path path p.pin all is.1
    by (Some cell) known = subst (λ (t : Text). is_path t ≡ true) (full_name-append path cell p.pin) (full_path (path ++ cell ∷ []) p.pin (All-push IsSegment path cell all known) is.1)

-- ---- primitives

known_segment : (table : List (Text × PrimName)) (text : Text) → list_all (λ (entry : Text × PrimName). is_segment entry.0) table ≡ true → is_some (meaning_in table text) ≡ true → IsSegment text
known_segment [] text all is = absurd (false≢true is)
known_segment ((known, name) ∷ others) text all is =
    let parts = both_true (is_segment known) (list_all (λ (entry : Text × PrimName). is_segment entry.0) others) all in
    by (bytes_eq known text) refl parts.0 (known_segment others text parts.1) is
  where
    by : (b : Bool) → bytes_eq known text ≡ b → IsSegment known → (is_some (meaning_in others text) ≡ true → IsSegment text) → is_some (if b then Some name else meaning_in others text) ≡ true → IsSegment text
    by true same first later is' = subst IsSegment ((bytes_eq-Decides known text).0 same) first
    by false other first later is' = later is'

-- the table's names are names of netlists
pub primitive_segment : (text : Text) → is_primitive text ≡ true → IsSegment text
unfolding prim_names is_primitive
primitive_segment text is = known_segment prim_names text refl is
