-- Laws of what guards keep of the rules: part by part.
use Rattle.std.proofs.Common.{◌≡◌, ℕ, zero, suc, ◌<◌, Bool, true, false, ◌&&◌, ◌==◌, List, [], ◌∷◌, ◌++◌, length, map, get_or, Option, Some, None, is_some, option_map, refl, sym, ap, ap₂, ◌∙◌, inl, inr, ◌⊎◌, Vec, Global, arith}
use Rattle.std.proofs.lemmas.Bool.{and_parts}
use Rattle.hw_names.specs.Name.{Text}
use Rattle.net_core.specs.Guard.{GuardTree, Reads, Compares, Negates, guards_of, guard_tree, source_tree}
use Rattle.net_core.specs.inside.Kept.{all_kept, both_kept, kept_alone, kept_compared, kept_driven, kept_by_guard, kept_by_guards, kept_by_option, kept_by_set}
use Rattle.net_core.specs.Netlist.{SetLine}
use Rattle.net_core.specs.PortList.{port_line}
use Rattle.net_core.specs.declared.ports.Port.{Port}
use Rattle.net_core.specs.Rules.{PortLine, port_named, is_writable, width_or_none, each_in_guard, option_widths_agree, each_read, each_reads, source_exists, literal_fits, source_is_readable, source_width, guard_widths_agree, guards_widths_agree}
use Rattle.net_core.specs.declared.net.Guard.{Guard}
use Rattle.net_core.specs.declared.net.Guard.TheVariants as variants
use Rattle.net_core.specs.declared.net.Src.{Src}
use Rattle.net_core.specs.declared.net.Src.TheVariants as src
use Rattle.net_core.specs.declared.net.Cmp.{Cmp}
use Rattle.net_core.specs.declared.sets.Kept.{Kept}
use Rattle.net_core.specs.declared.sets.Source.{Source}
use Rattle.net_core.proofs.GuardLemmas.{guard_tree-All, guard_tree-Any}

and-assoc : (a b c : Bool) → (a && (b && c)) ≡ ((a && b) && c)
and-assoc true b c = refl
and-assoc false b c = refl

and-true : (a : Bool) → (a && true) ≡ a
and-true true = refl
and-true false = refl

and-swap : (a b c d : Bool) → ((a && b) && (c && d)) ≡ ((a && c) && (b && d))
and-swap true true c d = refl
and-swap true false true d = refl
and-swap true false false d = refl
and-swap false b c d = refl

pub source_tree-same : {P : Type 0} (s : Src P) → source_tree (λ p. p) s ≡ s
source_tree-same (src.Port p) = refl
source_tree-same (src.Lit width value) = refl

each_reads-push : {P : Type 0} (test : Src P → Bool) (gs : List (GuardTree P)) (g : GuardTree P) → each_reads test (guards_of (gs ++ g ∷ [])) ≡ (each_reads test (guards_of gs) && each_read test g)
each_reads-push test [] g = and-true (each_read test g)
each_reads-push test (x ∷ gs) g =
    ap (λ b. each_read test x && b) (each_reads-push test gs g) ∙ and-assoc (each_read test x) (each_reads test (guards_of gs)) (each_read test g)

guards_widths_agree-push : (ports : List PortLine) (gs : List (GuardTree Text)) (g : GuardTree Text) → guards_widths_agree ports (guards_of (gs ++ g ∷ [])) ≡ (guards_widths_agree ports (guards_of gs) && guard_widths_agree ports g)
guards_widths_agree-push ports [] g = and-true (guard_widths_agree ports g)
guards_widths_agree-push ports (x ∷ gs) g =
    ap (λ b. guard_widths_agree ports x && b) (guards_widths_agree-push ports gs g)
    ∙ and-assoc (guard_widths_agree ports x) (guards_widths_agree ports (guards_of gs)) (guard_widths_agree ports g)

same_kept : (a b c d e f : Bool) → a ≡ d → b ≡ e → c ≡ f → (let x : Kept = record { known = a; widths = b; sides = c } in x) ≡ record { known = d; widths = e; sides = f }
same_kept a b c d e f p q r = cc

pub kept_by_guards-none : (ports : List PortLine) → all_kept ≡ kept_by_guards ports (guards_of [])
unfolding kept_by_guards
kept_by_guards-none ports = refl

-- one more guard
pub kept_by_guards-push : (ports : List PortLine) (gs : List (GuardTree Text)) (g : GuardTree Text) → kept_by_guards ports (guards_of (gs ++ g ∷ [])) ≡ both_kept (kept_by_guards ports (guards_of gs)) (kept_by_guard ports g)
unfolding kept_by_guard kept_by_guards
kept_by_guards-push ports gs g =
    same_kept _ _ _ _ _ _
    (each_reads-push (source_exists ports) gs g)
    (ap₂ ◌&&◌ (each_reads-push literal_fits gs g) (guards_widths_agree-push ports gs g)
    ∙ and-swap (each_reads literal_fits (guards_of gs)) (each_read literal_fits g) (guards_widths_agree ports (guards_of gs)) (guard_widths_agree ports g))
    (each_reads-push (source_is_readable ports) gs g)

-- a negation keeps what its guard keeps
pub kept_by_guard-Negates : (ports : List PortLine) (g : GuardTree Text) → kept_by_guard ports (Negates g) ≡ kept_by_guard ports g
unfolding kept_by_guard
kept_by_guard-Negates ports g = refl

module _ {P : Type 0} (g : Guard P) (v : Vec (Guard P) Global) where
  -- a list in a guard keeps what its guards keep
  pub kept_by_guard-list : (ports : List PortLine) (f : P → Text) → (g ≡ variants.All v) ⊎ (g ≡ variants.Any v) → kept_by_guard ports (guard_tree f g) ≡ kept_by_guards ports (guards_of (map (guard_tree f) v.items))
  unfolding kept_by_guard kept_by_guards
  kept_by_guard-list ports f (inl e) = ap (λ x. kept_by_guard ports (guard_tree f x)) e ∙ ap (kept_by_guard ports) (guard_tree-All f v)
  kept_by_guard-list ports f (inr e) = ap (λ x. kept_by_guard ports (guard_tree f x)) e ∙ ap (kept_by_guard ports) (guard_tree-Any f v)

  pub each_read-list : {Q : Type 0} (test : Src Q → Bool) (f : P → Q) → (g ≡ variants.All v) ⊎ (g ≡ variants.Any v) → each_read test (guard_tree f g) ≡ each_reads test (guards_of (map (guard_tree f) v.items))
  each_read-list test f (inl e) = ap (λ x. each_read test (guard_tree f x)) e ∙ ap (each_read test) (guard_tree-All f v)
  each_read-list test f (inr e) = ap (λ x. each_read test (guard_tree f x)) e ∙ ap (each_read test) (guard_tree-Any f v)

-- what holds of all guards of a list holds of each
pub each_reads-at : {P Q : Type 0} (test : Src Q → Bool) (f : P → Q) (gs : List (Guard P)) (i : ℕ) (d : Guard P) → i < length gs → each_reads test (guards_of (map (guard_tree f) gs)) ≡ true → each_read test (guard_tree f (get_or gs i d)) ≡ true
each_reads-at test f [] i d within all = absurd (omega arith)
each_reads-at test f (g ∷ gs) zero d within all = (and_parts (each_read test (guard_tree f g)) (each_reads test (guards_of (map (guard_tree f) gs))) all).0
each_reads-at test f (g ∷ gs) (suc i) d within all =
    each_reads-at test f gs i d (omega arith) (and_parts (each_read test (guard_tree f g)) (each_reads test (guards_of (map (guard_tree f) gs))) all).1

-- what was found of a source is what the rules say of it
pub record IsFound (ports : List PortLine) (s : Src Text) (found : Source) : Type 0 where
  pub known : found.known ≡ source_exists ports s
  pub fits : found.fits ≡ literal_fits s
  pub readable : found.readable ≡ source_is_readable ports s
  pub width : found.width ≡ source_width ports s

pub kept_by_guard-Reads : (ports : List PortLine) (s : Src Text) (found : Source) → IsFound ports s found → kept_alone found ≡ kept_by_guard ports (Reads s)
unfolding kept_by_guard
kept_by_guard-Reads ports s found is =
    same_kept _ _ _ _ _ _ is.known (ap₂ (λ a w. a && (w == 1)) is.fits is.width) is.readable

pub kept_by_guard-Compares : (ports : List PortLine) (op : Cmp) (s t : Src Text) (left right : Source) → IsFound ports s left → IsFound ports t right → kept_compared left right ≡ kept_by_guard ports (Compares op s t)
unfolding kept_by_guard
kept_by_guard-Compares ports op s t left right is_left is_right =
    same_kept _ _ _ _ _ _ (ap₂ ◌&&◌ is_left.known is_right.known)
    (ap₂ ◌&&◌ (ap₂ ◌&&◌ is_left.fits is_right.fits) (ap₂ ◌==◌ is_left.width is_right.width))
    (ap₂ ◌&&◌ is_left.readable is_right.readable)

and-late : (a b c : Bool) → (a && (b && c)) ≡ ((a && c) && b)
and-late true true c = sym (and-true c)
and-late true false true = refl
and-late true false false = refl
and-late false b c = refl

-- the parts of the widths of an assignment, its guard's last
widths_apart : (gl sl eq ga : Bool) → (((gl && sl) && eq) && ga) ≡ ((sl && eq) && (gl && ga))
widths_apart true sl eq ga = refl
widths_apart false true true ga = refl
widths_apart false true false ga = refl
widths_apart false false eq ga = refl

option_known : (ports : List PortLine) (g : Option (GuardTree Text)) → (kept_by_option ports g).known ≡ each_in_guard (source_exists ports) g
unfolding kept_by_guard
option_known ports None = refl
option_known ports (Some g) = refl

option_widths : (ports : List PortLine) (g : Option (GuardTree Text)) → (kept_by_option ports g).widths ≡ (each_in_guard literal_fits g && option_widths_agree ports g)
unfolding kept_by_guard
option_widths ports None = refl
option_widths ports (Some g) = refl

option_sides : (ports : List PortLine) (g : Option (GuardTree Text)) → (kept_by_option ports g).sides ≡ each_in_guard (source_is_readable ports) g
unfolding kept_by_guard
option_sides ports None = refl
option_sides ports (Some g) = refl

module _ (name : Text) (port : Option PortLine) (found : Source) where
  driven_known : (dst : Option Port) → port ≡ option_map (port_line name) dst → (kept_driven dst found).known ≡ (is_some port && found.known)
  driven_known None e = sym (ap (λ o. is_some o && found.known) e)
  driven_known (Some p) e = sym (ap (λ o. is_some o && found.known) e)

  driven_widths : (dst : Option Port) → port ≡ option_map (port_line name) dst → (kept_driven dst found).widths ≡ (found.fits && (width_or_none port == found.width))
  driven_widths None e = sym (ap (λ o. found.fits && (width_or_none o == found.width)) e)
  driven_widths (Some p) e = sym (ap (λ o. found.fits && (width_or_none o == found.width)) e)

  driven_sides : (dst : Option Port) → port ≡ option_map (port_line name) dst → (kept_driven dst found).sides ≡ (is_writable port && found.readable)
  driven_sides None e = sym (ap (λ o. is_writable o && found.readable) e)
  driven_sides (Some p) e = sym (ap (λ o. is_writable o && found.readable) e)

-- a source and a guard keep what their assignment keeps
pub kept_by_set-parts : (ports : List PortLine) (a : SetLine) (dst : Option Port) (found : Source) → port_named ports a.dst ≡ option_map (port_line a.dst) dst → IsFound ports a.src found
    → both_kept (kept_driven dst found) (kept_by_option ports a.guard) ≡ kept_by_set ports a
unfolding kept_by_set
kept_by_set-parts ports a dst found e is =
    let port = port_named ports a.dst in
    same_kept _ _ _ _ _ _
    (ap₂ ◌&&◌ (driven_known a.dst port found dst e ∙ ap (λ b. is_some port && b) is.known) (option_known ports a.guard)
    ∙ sym (and-late (is_some port) (each_in_guard (source_exists ports) a.guard) (source_exists ports a.src)))
    (ap₂ ◌&&◌ (driven_widths a.dst port found dst e ∙ ap₂ (λ f w. f && (width_or_none port == w)) is.fits is.width) (option_widths ports a.guard)
    ∙ sym (widths_apart (each_in_guard literal_fits a.guard) (literal_fits a.src) (width_or_none port == source_width ports a.src) (option_widths_agree ports a.guard)))
    (ap₂ ◌&&◌ (driven_sides a.dst port found dst e ∙ ap (λ b. is_writable port && b) is.readable) (option_sides ports a.guard)
    ∙ sym (and-late (is_writable port) (each_in_guard (source_is_readable ports) a.guard) (source_is_readable ports a.src)))
