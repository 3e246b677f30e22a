-- What the names of ports say of a primitive's pins.
use Rattle.std.proofs.Common.{◌≡◌, ◌≢◌, ℕ, Bool, true, false, not, ◌&&◌, ◌<◌, ◌≤◌, List, [], ◌∷◌, ◌++◌, ◌*◌, length, Option, None, Some, refl, sym, ap, ap₂, subst, ◌∙◌, lit≤, arith}
use Rattle.std.proofs.Math.Nat.{mul-pos}
use Rattle.std.specs.Prelude.{bytes_eq, All, AllPairs, option_and_then, is_some, nat_lt, if◌then◌else◌}
use Rattle.std.specs.List.{list_all}
use Rattle.std.specs.Option.{option_map_or}
use Rattle.std.proofs.lemmas.Bool.{and_parts}
use Rattle.std.proofs.lemmas.Bool.Decides.{nat_tests}
use Rattle.std.proofs.lemmas.List.Elements.{All-nil, All-cons}
use Rattle.std.proofs.lemmas.List.{map-append, length-map}
use Rattle.std.proofs.lemmas.List.Kept.{AllPairs-cons}
use Rattle.std.proofs.lemmas.Slice.Eq.{bytes_eq-Decides}
use Rattle.hw_prims.specs.Memory.{keeps_words, word_count}
use Rattle.hw_prims.specs.Row.{Text}
use Rattle.hw_prims.specs.Table.{Pin, prim_name, prim_of, prim_in_range, is_primitive, is_made, IsMade, with_params, one, two, three, five, pins_of, inputs_of, outputs_of, input_names, output_names, inputs_named, outputs_named, names_memory, is_memory, pin_names}
use Rattle.hw_prims.specs.declared.name.PrimName.{PrimName}
use Rattle.hw_prims.specs.declared.name.PrimName.TheVariants as name
use Rattle.hw_prims.specs.declared.prim.Primitive.{Primitive}
use Rattle.hw_prims.specs.declared.prim.Primitive.TheVariants.{StdConst, StdWire, StdAdd, StdSub, StdAnd, StdOr, StdXor, StdNot, StdEq, StdNeq, StdLt, StdGt, StdLe, StdGe, StdLsh, StdRsh, StdSlice, StdPad, FilMux, FilSlice, FilConcat, StdReg, StdMemD1, StdMemD2, StdMultPipe, FilDelay, FilFastMult, FilSeqMult}

-- the primitive has the port names that go with this name
pub record HasNames (name : Text) (prim : Primitive) : Type 0 where
  pub inputs : pin_names (inputs_of prim) ≡ input_names name
  pub outputs : pin_names (outputs_of prim) ≡ output_names name

-- a primitive made of as many parameters as are taken
one-Some : (make : ℕ → Primitive) (params : List ℕ) (prim : Primitive) → one make params ≡ Some prim → (a : ℕ) × (make a ≡ prim)
one-Some make (a ∷ []) prim is = (a, cc)
one-Some make [] prim is = absurd cc
one-Some make (a ∷ b ∷ params) prim is = absurd cc

two-Some : (make : ℕ → ℕ → Primitive) (params : List ℕ) (prim : Primitive) → two make params ≡ Some prim → (a : ℕ) × (b : ℕ) × (make a b ≡ prim)
two-Some make (a ∷ b ∷ []) prim is = (a, b, cc)
two-Some make [] prim is = absurd cc
two-Some make (a ∷ []) prim is = absurd cc
two-Some make (a ∷ b ∷ c ∷ params) prim is = absurd cc

three-Some : (make : ℕ → ℕ → ℕ → Primitive) (params : List ℕ) (prim : Primitive) → three make params ≡ Some prim → (a : ℕ) × (b : ℕ) × (c : ℕ) × (make a b c ≡ prim)
three-Some make (a ∷ b ∷ c ∷ []) prim is = (a, b, c, cc)
three-Some make [] prim is = absurd cc
three-Some make (a ∷ []) prim is = absurd cc
three-Some make (a ∷ b ∷ []) prim is = absurd cc
three-Some make (a ∷ b ∷ c ∷ d ∷ params) prim is = absurd cc

five-Some : (make : ℕ → ℕ → ℕ → ℕ → ℕ → Primitive) (params : List ℕ) (prim : Primitive) → five make params ≡ Some prim → (a : ℕ) × (b : ℕ) × (c : ℕ) × (d : ℕ) × (e : ℕ) × (make a b c d e ≡ prim)
five-Some make (a ∷ b ∷ c ∷ d ∷ e ∷ []) prim is = (a, b, c, d, e, cc)
five-Some make [] prim is = absurd cc
five-Some make (a ∷ []) prim is = absurd cc
five-Some make (a ∷ b ∷ []) prim is = absurd cc
five-Some make (a ∷ b ∷ c ∷ []) prim is = absurd cc
five-Some make (a ∷ b ∷ c ∷ d ∷ []) prim is = absurd cc
five-Some make (a ∷ b ∷ c ∷ d ∷ e ∷ f ∷ params) prim is = absurd cc

-- what a primitive of this name has, whatever its parameters
record IsNamed (name : PrimName) (prim : Primitive) : Type 0 where
  inputs : pin_names (inputs_of prim) ≡ inputs_named name
  outputs : pin_names (outputs_of prim) ≡ outputs_named name
  memory : keeps_words prim ≡ names_memory name

IsNamed-with_params : (name : PrimName) (params : List ℕ) (prim : Primitive) → with_params name params ≡ Some prim → IsNamed name prim
unfolding with_params inputs_of outputs_of keeps_words
IsNamed-with_params name.StdConst params prim is = let made = two-Some StdConst params prim is in subst (IsNamed name.StdConst) made.2 (record { inputs = refl; outputs = refl; memory = refl })
IsNamed-with_params name.StdWire params prim is = let made = one-Some StdWire params prim is in subst (IsNamed name.StdWire) made.1 (record { inputs = refl; outputs = refl; memory = refl })
IsNamed-with_params name.StdAdd params prim is = let made = one-Some StdAdd params prim is in subst (IsNamed name.StdAdd) made.1 (record { inputs = refl; outputs = refl; memory = refl })
IsNamed-with_params name.StdSub params prim is = let made = one-Some StdSub params prim is in subst (IsNamed name.StdSub) made.1 (record { inputs = refl; outputs = refl; memory = refl })
IsNamed-with_params name.StdAnd params prim is = let made = one-Some StdAnd params prim is in subst (IsNamed name.StdAnd) made.1 (record { inputs = refl; outputs = refl; memory = refl })
IsNamed-with_params name.StdOr params prim is = let made = one-Some StdOr params prim is in subst (IsNamed name.StdOr) made.1 (record { inputs = refl; outputs = refl; memory = refl })
IsNamed-with_params name.StdXor params prim is = let made = one-Some StdXor params prim is in subst (IsNamed name.StdXor) made.1 (record { inputs = refl; outputs = refl; memory = refl })
IsNamed-with_params name.StdNot params prim is = let made = one-Some StdNot params prim is in subst (IsNamed name.StdNot) made.1 (record { inputs = refl; outputs = refl; memory = refl })
IsNamed-with_params name.StdEq params prim is = let made = one-Some StdEq params prim is in subst (IsNamed name.StdEq) made.1 (record { inputs = refl; outputs = refl; memory = refl })
IsNamed-with_params name.StdNeq params prim is = let made = one-Some StdNeq params prim is in subst (IsNamed name.StdNeq) made.1 (record { inputs = refl; outputs = refl; memory = refl })
IsNamed-with_params name.StdLt params prim is = let made = one-Some StdLt params prim is in subst (IsNamed name.StdLt) made.1 (record { inputs = refl; outputs = refl; memory = refl })
IsNamed-with_params name.StdGt params prim is = let made = one-Some StdGt params prim is in subst (IsNamed name.StdGt) made.1 (record { inputs = refl; outputs = refl; memory = refl })
IsNamed-with_params name.StdLe params prim is = let made = one-Some StdLe params prim is in subst (IsNamed name.StdLe) made.1 (record { inputs = refl; outputs = refl; memory = refl })
IsNamed-with_params name.StdGe params prim is = let made = one-Some StdGe params prim is in subst (IsNamed name.StdGe) made.1 (record { inputs = refl; outputs = refl; memory = refl })
IsNamed-with_params name.StdLsh params prim is = let made = one-Some StdLsh params prim is in subst (IsNamed name.StdLsh) made.1 (record { inputs = refl; outputs = refl; memory = refl })
IsNamed-with_params name.StdRsh params prim is = let made = one-Some StdRsh params prim is in subst (IsNamed name.StdRsh) made.1 (record { inputs = refl; outputs = refl; memory = refl })
IsNamed-with_params name.StdSlice params prim is = let made = two-Some StdSlice params prim is in subst (IsNamed name.StdSlice) made.2 (record { inputs = refl; outputs = refl; memory = refl })
IsNamed-with_params name.StdPad params prim is = let made = two-Some StdPad params prim is in subst (IsNamed name.StdPad) made.2 (record { inputs = refl; outputs = refl; memory = refl })
IsNamed-with_params name.FilMux params prim is = let made = one-Some FilMux params prim is in subst (IsNamed name.FilMux) made.1 (record { inputs = refl; outputs = refl; memory = refl })
IsNamed-with_params name.FilSlice params prim is = let made = three-Some FilSlice params prim is in subst (IsNamed name.FilSlice) made.3 (record { inputs = refl; outputs = refl; memory = refl })
IsNamed-with_params name.FilConcat params prim is = let made = two-Some FilConcat params prim is in subst (IsNamed name.FilConcat) made.2 (record { inputs = refl; outputs = refl; memory = refl })
IsNamed-with_params name.StdReg params prim is = let made = one-Some StdReg params prim is in subst (IsNamed name.StdReg) made.1 (record { inputs = refl; outputs = refl; memory = refl })
IsNamed-with_params name.StdMemD1 params prim is = let made = three-Some StdMemD1 params prim is in subst (IsNamed name.StdMemD1) made.3 (record { inputs = refl; outputs = refl; memory = refl })
IsNamed-with_params name.StdMemD2 params prim is = let made = five-Some StdMemD2 params prim is in subst (IsNamed name.StdMemD2) made.5 (record { inputs = refl; outputs = refl; memory = refl })
IsNamed-with_params name.StdMultPipe params prim is = let made = one-Some StdMultPipe params prim is in subst (IsNamed name.StdMultPipe) made.1 (record { inputs = refl; outputs = refl; memory = refl })
IsNamed-with_params name.FilDelay params prim is = let made = one-Some FilDelay params prim is in subst (IsNamed name.FilDelay) made.1 (record { inputs = refl; outputs = refl; memory = refl })
IsNamed-with_params name.FilFastMult params prim is = let made = one-Some FilFastMult params prim is in subst (IsNamed name.FilFastMult) made.1 (record { inputs = refl; outputs = refl; memory = refl })
IsNamed-with_params name.FilSeqMult params prim is = let made = one-Some FilSeqMult params prim is in subst (IsNamed name.FilSeqMult) made.1 (record { inputs = refl; outputs = refl; memory = refl })

if-Some : (on : Bool) (whole prim : Primitive) → (if on then Some whole else None) ≡ Some prim → (on ≡ true) × (whole ≡ prim)
if-Some true whole prim is = (refl, cc)
if-Some false whole prim is = absurd cc

and_then-Some : {X : Type 0} (f : X → Option Primitive) (o : Option X) (prim : Primitive) → option_and_then f o ≡ Some prim → (x : X) × (o ≡ Some x) × (f x ≡ Some prim)
and_then-Some f (Some x) prim is = (x, refl, is)
and_then-Some f None prim is = absurd cc

-- a made primitive's name, and what goes with it
record IsMadeOf (text : Text) (prim : Primitive) : Type 0 where
  name : PrimName
  named : prim_name text ≡ Some name
  goes : IsNamed name prim
  made : IsMade prim

prim_of-Some : (text : Text) (params : List ℕ) (prim : Primitive) → prim_of text params ≡ Some prim → IsMadeOf text prim
unfolding prim_of
prim_of-Some text params prim is =
    let ranged = and_then-Some prim_in_range (option_and_then (λ (n : PrimName). with_params n params) (prim_name text)) prim is in
    let made = if-Some (is_made ranged.0) ranged.0 prim ranged.2 in
    let known = and_then-Some (λ (n : PrimName). with_params n params) (prim_name text) ranged.0 ranged.1 in
    record {
      name = known.0;
      named = known.1;
      goes = subst (IsNamed known.0) made.1 (IsNamed-with_params known.0 params ranged.0 known.2);
      made = subst IsMade made.1 made.0;
    }

-- what is made has its parameters in range
pub prim_of-made : (name : Text) (params : List ℕ) (prim : Primitive) → prim_of name params ≡ Some prim → IsMade prim
prim_of-made name params prim is = (prim_of-Some name params prim is).made

-- a primitive that was made has the port names of its name
pub has_names : (name : Text) (params : List ℕ) (prim : Primitive) → prim_of name params ≡ Some prim → HasNames name prim
unfolding input_names output_names
has_names name params prim is =
    let of = prim_of-Some name params prim is in
    record { inputs = of.goes.inputs ∙ rw of.named refl; outputs = of.goes.outputs ∙ rw of.named refl }

-- it keeps words exactly where its name is a memory's
pub keeps_words-made : (name : Text) (params : List ℕ) (prim : Primitive) → prim_of name params ≡ Some prim → keeps_words prim ≡ is_memory name
unfolding is_memory
keeps_words-made name params prim is =
    let of = prim_of-Some name params prim is in of.goes.memory ∙ rw of.named refl

-- a memory has a word, and nothing else has one
pub word_count-memory : (prim : Primitive) → IsMade prim → keeps_words prim ≡ nat_lt 0 (word_count prim)
unfolding is_made keeps_words word_count
word_count-memory (StdMemD1 w size idx) made = grind (arith, nat_tests)
word_count-memory (StdMemD2 w size0 size1 idx0 idx1) made =
    let rows : 0 < size0 = grind (arith, nat_tests) in
    let row : 0 < size1 = grind (arith, nat_tests) in
    let words : 0 < size0 * size1 = mul-pos rows row in
    grind (arith, nat_tests)
word_count-memory prim made = refl

-- a name that the table doesn't have makes no primitive
pub unknown_makes_none : (name : Text) (params : List ℕ) → is_primitive name ≡ false → prim_of name params ≡ None
unfolding is_primitive prim_of
unknown_makes_none name params unknown = none (prim_name name) unknown
  where
    none : (o : Option PrimName) → is_some o ≡ false → option_and_then prim_in_range (option_and_then (λ (n : PrimName). with_params n params) o) ≡ None
    none (Some n) e = absurd cc
    none None e = refl

-- whether no name of the list stands in it twice, as a test that computes
abbrev differs_from : Text → Text → Bool
differs_from x y = not (bytes_eq x y)

abbrev all_differ : List Text → Bool
all_differ [] = true
all_differ (x ∷ xs) = list_all (differs_from x) xs && all_differ xs

abbrev Differs : Text → Text → Type 0
Differs a b = a ≢ b

All-from_test : (x : Text) (xs : List Text) → list_all (differs_from x) xs ≡ true → All (Differs x) xs
All-from_test x [] e = All-nil (Differs x)
All-from_test x (y ∷ ys) e =
    let parts = and_parts (differs_from x y) (list_all (differs_from x) ys) e in
    let other : x ≢ y = λ same. let yes = (bytes_eq-Decides x y).1 same in cc in
    All-cons (Differs x) y ys other (All-from_test x ys parts.1)

AllPairs-from_test : (xs : List Text) → all_differ xs ≡ true → AllPairs Differs xs
AllPairs-from_test [] e = λ i j d l m. absurd (omega arith)
AllPairs-from_test (x ∷ xs) e =
    let parts = and_parts (list_all (differs_from x) xs) (all_differ xs) e in
    AllPairs-cons Differs x xs (All-from_test x xs parts.0) (AllPairs-from_test xs parts.1)

-- the names of a name's ports
abbrev ports_named : PrimName → List Text
ports_named n = inputs_named n ++ outputs_named n

ports_named-differ : (n : PrimName) → all_differ (ports_named n) ≡ true
ports_named-differ name.StdConst = refl
ports_named-differ n = refl

ports_named-few : (n : PrimName) → length (ports_named n) ≤ 8
ports_named-few name.StdConst = lit≤ tt
ports_named-few n = lit≤ tt

ports_tested : (o : Option PrimName) → all_differ (option_map_or inputs_named o [] ++ option_map_or outputs_named o []) ≡ true
ports_tested (Some n) = ports_named-differ n
ports_tested None = refl

ports_few : (o : Option PrimName) → length (option_map_or inputs_named o [] ++ option_map_or outputs_named o []) ≤ 8
ports_few (Some n) = ports_named-few n
ports_few None = lit≤ tt

-- the names of a primitive's ports are distinct
pub names_differ : (name : Text) → AllPairs (λ a b. a ≢ b) (input_names name ++ output_names name)
unfolding input_names output_names
names_differ name = AllPairs-from_test (input_names name ++ output_names name) (ports_tested (prim_name name))

-- a primitive has few ports
pub few_names : (name : Text) → length (input_names name ++ output_names name) ≤ 8
unfolding input_names output_names
few_names name = ports_few (prim_name name)

-- the names of a primitive's pins
pub pin_names-pins_of : (name : Text) (prim : Primitive) → HasNames name prim → pin_names (pins_of prim) ≡ input_names name ++ output_names name
pin_names-pins_of name prim named =
    map-append (λ (p : Pin). p.name) (inputs_of prim) (outputs_of prim) ∙ ap₂ ◌++◌ named.inputs named.outputs

-- the names of a primitive's pins are distinct
pub pins_differ : (name : Text) (prim : Primitive) → HasNames name prim → AllPairs (λ a b. a ≢ b) (pin_names (pins_of prim))
pins_differ name prim named =
    let D : List Text → Type 0 = AllPairs (λ a b. a ≢ b) in subst D (sym (pin_names-pins_of name prim named)) (names_differ name)

-- a primitive has few pins
pub few_pins : (name : Text) (prim : Primitive) → HasNames name prim → length (pins_of prim) ≤ 8
few_pins name prim named =
    let counted = sym (length-map (pins_of prim) (λ (p : Pin). p.name)) ∙ ap length (pin_names-pins_of name prim named) in
    omega (arith, few_names name)
