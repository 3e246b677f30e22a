-- The names of a primitive's pins are plain.
use Rattle.std.proofs.Common.{◌≡◌, Bool, true, false, not, ◌&&◌, ◌==◌, List, [], ◌∷◌, ◌++◌, Option, Some, None, refl}
use Rattle.std.specs.List.{list_all}
use Rattle.std.specs.Option.{option_map_or}
use Rattle.std.specs.Prelude.{All}
use Rattle.std.proofs.lemmas.Bool.{and_parts}
use Rattle.std.proofs.lemmas.List.Elements.{All-nil, All-cons}
use Rattle.hw_graph.proofs.MemberLemmas.{In}
use Rattle.hw_names.proofs.NameLemmas.{HasNoDot-from_test}
use Rattle.hw_names.specs.Name.{Text, dot, IsPlain}
use Rattle.hw_prims.specs.Table.{prim_name, input_names, output_names, inputs_named, outputs_named}
use Rattle.hw_prims.specs.declared.name.PrimName.{PrimName}
use Rattle.hw_prims.specs.declared.name.PrimName.TheVariants as name
use Rattle.net_flat.proofs.ListFacts.{of_all}

-- whether a text is plain, and whether all are, as tests that compute
abbrev plain_text : Text → Bool
plain_text [] = false
plain_text (c ∷ cs) = list_all (λ byte. not (byte == dot)) (c ∷ cs)

abbrev plain_texts : List Text → Bool
plain_texts [] = true
plain_texts (x ∷ xs) = plain_text x && plain_texts xs

IsPlain-from_test : (text : Text) → plain_text text ≡ true → IsPlain text
IsPlain-from_test [] e = absurd (cc)
IsPlain-from_test (c ∷ cs) e = (λ empty. cc, HasNoDot-from_test (c ∷ cs) e)

All-from_test : (texts : List Text) → plain_texts texts ≡ true → All IsPlain texts
All-from_test [] e = All-nil IsPlain
All-from_test (x ∷ xs) e =
    let parts = and_parts (plain_text x) (plain_texts xs) e in
    All-cons IsPlain x xs (IsPlain-from_test x parts.0) (All-from_test xs parts.1)

ports_named_plain : (n : PrimName) → plain_texts (inputs_named n ++ outputs_named n) ≡ true
ports_named_plain name.StdConst = refl
ports_named_plain n = refl

ports_tested : (o : Option PrimName) → plain_texts (option_map_or inputs_named o [] ++ option_map_or outputs_named o []) ≡ true
ports_tested (Some n) = ports_named_plain n
ports_tested None = refl

-- the names of the pins that go with a primitive's name
abbrev pub prim_pins : Text → List Text
prim_pins made = input_names made ++ output_names made

pub pin_name_plain : (made name : Text) → In (prim_pins made) name → IsPlain name
unfolding input_names output_names
pin_name_plain made name h = of_all IsPlain (prim_pins made) name (All-from_test (prim_pins made) (ports_tested (prim_name made))) h
