-- Names of Calyx, and names joined by dots, in the grammar of netlists.
use Rattle.std.proofs.Common.{◌≡◌, ℕ, ◌^◌, ◌==◌, Bool, true, false, [], ◌∷◌, ◌++◌, All, Option, Some, None, refl, sym, ap, subst, ◌∙◌}
use Rattle.std.specs.List.{list_all}
use Rattle.std.proofs.lemmas.Bool.{and_parts, false≢true}
use Rattle.std.proofs.lemmas.Bool.Decides.{Decides-eqb, Decides-ltb}
use Rattle.std.proofs.lemmas.List.{append-nil}
use Rattle.std.proofs.lemmas.List.Elements.{All-head, All-push, All-tail}
use Rattle.hw_names.specs.Name.{Path, Text, dot, dotted, full_name, port_at}
use Rattle.hw_names.proofs.NameLemmas.{full_name-append}
use Rattle.hw_lex.specs.Byte.{is_name_byte}
use Rattle.hw_lex.specs.declared.token.Dialect.TheVariants.{Cal}
use Rattle.hw_grammar.specs.Words.{IsWritten}
use Rattle.net_text.specs.Names.{begins_name, continues_name, is_number, is_path, is_rest_of_path, is_segment}
use Rattle.net_text.proofs.WordLaws.{all_imply}
use Rattle.cal_ast.specs.Instances.{port_name}
use Rattle.cal_ast.specs.Tree.{PortName}
use Rattle.cal_ast.specs.Written.{IsCalName, NameIsWritten, PortIsWritten}
use Rattle.cal_group.proofs.WrittenNames.{both_are}

abbrev pub IsSegment : Text → Type 0
IsSegment name = is_segment name ≡ true

-- a name of Calyx is one of netlists
pub cal_segment : (name : Text) → IsCalName name → IsSegment name
cal_segment [] is = absurd is.0
cal_segment (c ∷ cs) is = both_are (begins_name c) (list_all continues_name cs) is.0.0 (all_imply (is_name_byte Cal) continues_name (λ byte goes_on. goes_on) cs is.0.1)

pub number_text : (n : ℕ) → IsWritten n → is_number n ≡ true
number_text n is = (Decides-ltb n (2 ^ 128)).1 is

-- ---- paths

not_dot : (c : ℕ) → continues_name c ≡ true → (c == 46) ≡ false
not_dot c is = by (c == 46) refl
  where
    by : (b : Bool) → (c == 46) ≡ b → b ≡ false
    by true same = absurd (false≢true (sym (sym is ∙ ap continues_name ((Decides-eqb c 46).0 same))))
    by false other = refl

rest_append : (cs tail : Text) → list_all continues_name cs ≡ true → is_rest_of_path tail ≡ true → is_rest_of_path (cs ++ tail) ≡ true
rest_append [] tail all is = is
rest_append (c ∷ cs) tail all is =
    let parts = and_parts (continues_name c) (list_all continues_name cs) all in
    let later = rest_append cs tail parts.1 is in
    rw (not_dot c parts.0, parts.0) later

segment_path : (name : Text) → IsSegment name → is_path name ≡ true
segment_path [] is = absurd (false≢true is)
segment_path (c ∷ cs) is =
    let parts = and_parts (begins_name c) (list_all continues_name cs) is in
    both_are (begins_name c) (is_rest_of_path cs) parts.0 (subst (λ (t : Text). is_rest_of_path t ≡ true) (append-nil cs) (rest_append cs [] parts.1 refl))

dotted_path : (a b : Text) → IsSegment a → is_path b ≡ true → is_path (dotted a b) ≡ true
dotted_path [] b is path = absurd (false≢true is)
dotted_path (c ∷ cs) b is path =
    let parts = and_parts (begins_name c) (list_all continues_name cs) is in
    both_are (begins_name c) (is_rest_of_path (cs ++ dot ∷ b)) parts.0 (rest_append cs (dot ∷ b) parts.1 path)

pub full_path : (path : Path) (name : Text) → All IsSegment path → IsSegment name → is_path (full_name path name) ≡ true
full_path [] name all is = segment_path name is
full_path (s ∷ path) name all is = dotted_path s (full_name path name) (All-head IsSegment s path all) (full_path path name (All-tail IsSegment s path all) is)

pub port_path : (path : Path) (p : PortName) → All IsSegment path → PortIsWritten p → is_path (port_name path p) ≡ true
port_path path p all is = by p.cell is.0
  where
    by : (cell : Option Text) → NameIsWritten cell → is_path (port_at path cell p.pin) ≡ true
    by None known = full_path path p.pin all (cal_segment p.pin is.1)
    by (Some cell) known =
        subst (λ (t : Text). is_path t ≡ true) (full_name-append path cell p.pin) (full_path (path ++ cell ∷ []) p.pin (All-push IsSegment path cell all (cal_segment cell known)) (cal_segment p.pin is.1))
