-- Ports of one component can be told apart in each of its instances, so what drives them is told by the component's own names.
use Rattle.std.proofs.Common.{◌≡◌, ℕ, List, [], ◌∷◌, ◌++◌, Bool, true, false, ◌&&◌, if◌then◌else◌, Option, Some, None, IfSome, refl, sym, ap, ap₂, ◌∙◌, append_assoc}
use Rattle.std.specs.Str.{bytes_eq}
use Rattle.std.proofs.lemmas.Bool.{and_parts}
use Rattle.std.proofs.lemmas.List.Elements.{All-head, All-tail}
use Rattle.std.proofs.lemmas.Slice.Eq.{bytes_eq-Decides}
use Rattle.hw_names.proofs.NameLemmas.{cut, not_dotted}
use Rattle.hw_names.specs.Name.{Text, Path, dot, dotted, full_name, port_at, IsPlain}
use Rattle.net_core.specs.Guard.{guard_holds, source_value}
use Rattle.cal_ast.specs.CalRun.{look}
use Rattle.cal_ast.specs.Instances.{port_name}
use Rattle.cal_ast.specs.Laws.{is_cell, DrivesAreLocal}
use Rattle.cal_ast.specs.Plain.{IsPlainPort}
use Rattle.cal_ast.specs.Tree.{PortName, Assignment}

same_after : (start x y : Text) → start ++ x ≡ start ++ y → x ≡ y
same_after [] x y e = e
same_after (c ∷ start) x y e = let tails : start ++ x ≡ start ++ y = cc in same_after start x y tails

-- what has one full name at a path has one name
pub same_below : (path : Path) (x y : Text) → full_name path x ≡ full_name path y → x ≡ y
same_below [] x y e = e
same_below (instance ∷ path) x y e =
    let rest = same_after instance _ _ e in
    let tails : full_name path x ≡ full_name path y = cc in
    same_below path x y tails

-- the name of a port within its component
abbrev name_within : Option Text → Text → Text
name_within None pin = pin
name_within (Some cell) pin = dotted cell pin

full_name-dotted : (path : Path) (cell pin : Text) → full_name path (dotted cell pin) ≡ dotted (full_name path cell) pin
full_name-dotted [] cell pin = refl
full_name-dotted (instance ∷ path) cell pin = ap (dotted instance) (full_name-dotted path cell pin) ∙ sym (append_assoc instance (dot ∷ full_name path cell) (dot ∷ pin))

port_at-full_name : (path : Path) (cell : Option Text) (pin : Text) → port_at path cell pin ≡ full_name path (name_within cell pin)
port_at-full_name path None pin = refl
port_at-full_name path (Some cell) pin = sym (full_name-dotted path cell pin)

same_within : (a b : Option Text) (x y : Text) → IfSome a IsPlain → IfSome b IsPlain → IsPlain x → IsPlain y → name_within a x ≡ name_within b y → (a ≡ b) × (x ≡ y)
same_within None None x y ha hb hx hy e = (refl, e)
same_within None (Some b) x y ha hb hx hy e = absurd (not_dotted x b y hx e)
same_within (Some a) None x y ha hb hx hy e = absurd (not_dotted y a x hy (sym e))
same_within (Some a) (Some b) x y ha hb hx hy e = let both = cut a b x y ha hb e in (ap Some both.0, both.1)

-- ports of one instance with plain names and one full name are the same
pub same_port : (path : Path) (p q : PortName) → IsPlainPort p → IsPlainPort q → port_name path p ≡ port_name path q → p ≡ q
same_port path p q hp hq e =
    let within = same_below path _ _ (sym (port_at-full_name path p.cell p.pin) ∙ e ∙ port_at-full_name path q.cell q.pin) in
    let both = same_within p.cell q.cell p.pin q.pin hp.0 hq.0 hp.1 hq.1 within in
    ap₂ (λ cell pin. record { cell = cell; pin = pin }) both.0 both.1

is_same : (a b : Bool) → (a ≡ true → b ≡ true) → (b ≡ true → a ≡ true) → a ≡ b
is_same true b f g = sym (f refl)
is_same false true f g = g refl
is_same false false f g = refl

is_cell-refl : (a : Option Text) → is_cell a a ≡ true
is_cell-refl None = refl
is_cell-refl (Some a) = (bytes_eq-Decides a a).1 refl

is_cell-same : (a b : Option Text) → is_cell a b ≡ true → a ≡ b
is_cell-same None None e = refl
is_cell-same None (Some b) e = cc
is_cell-same (Some a) None e = cc
is_cell-same (Some a) (Some b) e = ap Some ((bytes_eq-Decides a b).0 e)

-- whether a port is this one, by its place and name in the component
abbrev pub is_port : PortName → PortName → Bool
is_port p q = is_cell p.cell q.cell && bytes_eq p.pin q.pin

pub is_port-refl : (p : PortName) → is_port p p ≡ true
is_port-refl p = let cell = is_cell-refl p.cell in let pin = (bytes_eq-Decides p.pin p.pin).1 refl in rw (cell, pin) refl

pub is_port-same : (p q : PortName) → is_port p q ≡ true → p ≡ q
is_port-same p q e =
    let parts = and_parts (is_cell p.cell q.cell) (bytes_eq p.pin q.pin) e in
    ap₂ (λ cell pin. record { cell = cell; pin = pin }) (is_cell-same p.cell q.cell parts.0) ((bytes_eq-Decides p.pin q.pin).0 parts.1)

-- the test of full names says the same as that of local ones
pub port_name-is_port : (path : Path) (p q : PortName) → IsPlainPort p → IsPlainPort q → bytes_eq (port_name path p) (port_name path q) ≡ is_port p q
port_name-is_port path p q hp hq =
    is_same _ _
    (λ t. let same = same_port path p q hp hq ((bytes_eq-Decides (port_name path p) (port_name path q)).0 t) in rw (← same) (is_port-refl p))
    (λ t. (bytes_eq-Decides (port_name path p) (port_name path q)).1 (ap (port_name path) (is_port-same p q t)))

-- where names are plain, what drives a port of an instance is told by the names of its component alone
pub drives_are_local : DrivesAreLocal
drives_are_local path row p [] hp hs = refl
drives_are_local path row p (a ∷ sets) hp hs =
    let see : PortName → ℕ = look path row in
    ap₂ (λ (test : Bool) (values : List ℕ). if test && guard_holds see a.guard then source_value see a.src ∷ values else values)
    (port_name-is_port path a.dst p (All-head (λ (b : Assignment). IsPlainPort b.dst) a sets hs) hp)
    (drives_are_local path row p sets hp (All-tail (λ (b : Assignment). IsPlainPort b.dst) a sets hs))
