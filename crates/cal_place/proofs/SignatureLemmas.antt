-- The ports of a component as code keeps them.
use Rattle.std.proofs.Common.{◌≡◌, ℕ, ◌+◌, ◌≤◌, Bool, true, false, not, Decides, List, [], ◌∷◌, ◌++◌, length, map, take, slice_get, Option, Some, None, is_some, option_map, refl, sym, ap, ap₂, subst, ◌∙◌, append_assoc, append-nil, subst₂, codes}
use Rattle.std.specs.Prelude.{bytes_eq, if◌then◌else◌}
use denote.Enum.Bare.{sameb, same_true, true_same}
use Rattle.std.proofs.lemmas.List.{map-append, length-map, take_all}
use Rattle.std.proofs.lemmas.Option.{slice_get-map}
use Rattle.hw_names.specs.Name.{Text, text_of}
use Rattle.hw_names.specs.declared.names.NameId.{NameId}
use Rattle.hw_prims.specs.Table.{Pin, pin}
use Rattle.cal_ast.specs.Ports.{Side, Input, Output, SidedPin, both_sides, on_side, has_pin, inputs_in, is_bare, is_own, outputs_in, port_named, with_pin}
use Rattle.cal_ast.specs.Tree.{Component}
use Rattle.cal_place.specs.FirstPlaces.{ShowsFirsts, TellsFirst}
use Rattle.cal_place.specs.Signatures.{ShowsPorts, ShowsSignature, code_of, found, side_of, sided, sided_names}
use Rattle.cal_place.specs.contracts.signature.Side.{the_type}
use Rattle.cal_place.specs.declared.signature.Pin as code
use Rattle.cal_place.specs.declared.signature.Side as code_side
use Rattle.cal_place.specs.declared.signature.Side.TheVariants as side
use Rattle.cal_place.specs.declared.signature.Signature.{Signature}
use Rattle.cal_place.proofs.FoundLemmas.{found_first, found_none}
use Rattle.cal_place.proofs.ListLemmas.{one_more}

code_of-side_of : (s : code_side.Side) → code_of (side_of s) ≡ s
code_of-side_of side.Input = refl
code_of-side_of side.Output = refl

pub found-sided : (name : Text) (p : code.Pin) → found (sided name p) ≡ p
found-sided name p = ap (λ s. record { side = s; width = p.width }) (code_of-side_of p.side)

-- sides are told apart by a test
pub same_side : (a b : code_side.Side) → Decides (sameb the_type a b) (a ≡ b)
same_side a b = (same_true the_type tt a b, true_same the_type a b)

-- one more port
pub port_added : (old new : Signature) (ports : List SidedPin) (name : Text) (p : code.Pin)
    → ShowsFirsts new.names (sided_names ports ++ name ∷ []) → new.pins.items ≡ old.pins.items ++ p ∷ [] → ShowsPorts old ports
    → ShowsPorts new (ports ++ sided name p ∷ [])
port_added old new ports name p names pins shows =
    record {
      names = subst (λ (l : List Text). ShowsFirsts new.names l) (sym (map-append (λ (q : SidedPin). q.pin.name) ports (sided name p ∷ []))) names;
      pins = pins ∙ ap₂ (λ xs y. xs ++ y ∷ []) shows.pins (sym (found-sided name p)) ∙ sym (map-append found ports (sided name p ∷ []));
    }

-- how many ports there are so far
pub ports_counted : (s : Signature) (ports : List SidedPin) → ShowsPorts s ports → length (sided_names ports) ≡ length s.pins.items
ports_counted s ports shows =
    length-map ports (λ (q : SidedPin). q.pin.name) ∙ sym (length-map ports found) ∙ ap length (sym shows.pins)

-- what a name finds
pub port_found : (s : Signature) (ports : List SidedPin) (name : Text) (place : ℕ) → ShowsPorts s ports → TellsFirst (sided_names ports) name (Some place)
    → slice_get s.pins.items place ≡ option_map found (port_named ports name)
port_found s ports name place shows first =
    ap (λ (l : List code.Pin). slice_get l place) shows.pins
    ∙ slice_get-map found ports place
    ∙ ap (option_map found) (sym (found_first (λ (q : SidedPin). q.pin.name) ports name place first))

pub port_missing : (ports : List SidedPin) (name : Text) → TellsFirst (sided_names ports) name None → None ≡ option_map found (port_named ports name)
port_missing ports name absent = ap (option_map found) (sym (found_none (λ (q : SidedPin). q.pin.name) ports name absent))

-- a port that has no cell, and one that has a cell
module _ (names : List Text) (pin name : Text) (b : Bool) where
  pub own_text : (cell : Option NameId) → is_some cell ≡ not b → b ≡ true → bytes_eq pin name ≡ is_own name (record { cell = option_map (text_of names) cell; pin = pin })
  own_text None is yes' = refl
  own_text (Some c) is yes' = let bad : true ≡ false = is ∙ ap not yes' in absurd (cc)

  pub cell_port : (cell : Option NameId) → is_some cell ≡ not b → b ≡ false → b ≡ is_own name (record { cell = option_map (text_of names) cell; pin = pin })
  cell_port None is fails = let bad : false ≡ true = is ∙ ap not fails in absurd (cc)
  cell_port (Some c) is fails = fails

-- the ports of a side that has an implied one, or not
pub side_bare : (implied : Text) (pins : List Pin) (bare : Bool) → bare ≡ true → pins ≡ (if bare then pins else with_pin implied pins)
side_bare implied pins true is = refl
side_bare implied pins false is = absurd (cc)

pub side_has : (implied : Text) (pins : List Pin) (bare : Bool) → has_pin pins implied ≡ true → pins ≡ (if bare then pins else with_pin implied pins)
side_has implied pins true is = refl
side_has implied pins false is = rw is refl

pub side_implied : (implied : Text) (pins : List Pin) (bare : Bool) → bare ≡ false → has_pin pins implied ≡ false → pins ++ pin implied 1 ∷ [] ≡ (if bare then pins else with_pin implied pins)
side_implied implied pins true is none = absurd (cc)
side_implied implied pins false is none = rw none refl

-- the written ports of a side, one more and all
pub side_more : (ports : List SidedPin) (side : Side) (pins : List Pin) (n : ℕ) (p : Pin) (name : Text) → slice_get pins n ≡ Some p → p.name ≡ name
    → (ports ++ on_side side (take n pins)) ++ record { side = side; pin = record { name = name; width = p.width } } ∷ [] ≡ ports ++ on_side side (take (n + 1) pins)
side_more ports side pins n p name at same =
    let w : Pin → SidedPin = λ q. record { side = side; pin = q } in
    append_assoc ports (map w (take n pins)) _
    ∙ ap (λ l. ports ++ l)
    (ap (λ t. map w (take n pins) ++ record { side = side; pin = record { name = t; width = p.width } } ∷ []) (sym same)
    ∙ sym (ap (map w) (one_more pins n p at) ∙ map-append w (take n pins) (p ∷ [])))

pub side_none : (ports : List SidedPin) (side : Side) (pins : List Pin) → ports ≡ ports ++ on_side side (take 0 pins)
side_none ports side pins = sym (append-nil ports)

pub side_all : (ports : List SidedPin) (side : Side) (pins : List Pin) (n : ℕ) → length pins ≤ n → ports ++ on_side side (take n pins) ≡ ports ++ on_side side pins
side_all ports side pins n end = ap (λ ps. ports ++ on_side side ps) (take_all n pins end)

-- the implied port of a side
pub side_last : (ports : List SidedPin) (side : Side) (pins : List Pin) (name : Text)
    → (ports ++ on_side side pins) ++ record { side = side; pin = pin name 1 } ∷ [] ≡ ports ++ on_side side (pins ++ pin name 1 ∷ [])
side_last ports side pins name =
    let w : Pin → SidedPin = λ q. record { side = side; pin = q } in
    append_assoc ports (map w pins) _ ∙ ap (λ l. ports ++ l) (sym (map-append w pins (pin name 1 ∷ [])))

-- the ports of both sides, one side put after the other
pub signature_shown : (c : Component) (mid new : Signature) (first_bare second_bare : Bool) (ins outs : List Pin) → first_bare ≡ is_bare c → second_bare ≡ is_bare c → ins ≡ c.ins → outs ≡ c.outs
    → ShowsPorts mid (on_side Input (if first_bare then ins else with_pin (codes "go") ins))
    → ((ports : List SidedPin) → ShowsPorts mid ports → ShowsPorts new (ports ++ on_side Output (if second_bare then outs else with_pin (codes "done") outs)))
    → new.bare ≡ is_bare c → new.inputs ≡ length mid.pins.items → ShowsSignature new c
signature_shown c mid new first_bare second_bare ins outs is_first is_second same_ins same_outs first second bare inputs =
    let w : Pin → SidedPin = λ p. record { side = Input; pin = p } in
    let F : Bool → List Pin → Type 0 = λ b pins. ShowsPorts mid (on_side Input (if b then pins else with_pin (codes "go") pins)) in
    let one : ShowsPorts mid (on_side Input (inputs_in c)) = subst₂ F is_first same_ins first in
    let S : Bool → List Pin → Type 0 = λ b pins. ShowsPorts new (on_side Input (inputs_in c) ++ on_side Output (if b then pins else with_pin (codes "done") pins)) in
    let both : ShowsPorts new (both_sides (inputs_in c) (outputs_in c)) = subst₂ S is_second same_outs (second (on_side Input (inputs_in c)) one) in
    record {
      bare = bare;
      inputs = inputs ∙ ap length one.pins ∙ length-map (on_side Input (inputs_in c)) found ∙ length-map (inputs_in c) w;
      ports = both;
    }
