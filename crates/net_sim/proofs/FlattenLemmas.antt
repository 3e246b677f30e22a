-- Guards made flat, one test after another.
use Rattle.std.proofs.Common.{◌≡◌, ℕ, zero, suc, ◌+◌, ◌<◌, List, [], ◌∷◌, ◌++◌, Bool, true, false, ◌&&◌, ◌||◌, Option, Some, None, Result, Ok, Err, length, drop, map, get_or, Vec, Global, refl, sym, ap, ap₂, ◌∙◌, arith, subst}
use Rattle.std.specs.Prelude.{slice_get, ◌==◌, not, Contains, is_some, option_map, IfOk}
use Rattle.std.proofs.lemmas.Bool.{and_parts}
use Rattle.std.proofs.lemmas.List.{length_push, drop_more}
use Rattle.std.proofs.lemmas.List.Elements.{All-cons, All-nil}
use Rattle.std.proofs.lemmas.Option.{slice_get_read, slice_get-map, same_Some}
use Rattle.hw_names.specs.Name.{Text}
use Rattle.hw_names.specs.declared.names.NameId.{NameId}
use Rattle.hw_prims.specs.Row.{Row}
use Rattle.net_core.proofs.GuardLemmas.{guard_tree-All, guard_tree-Any}
use Rattle.net_core.specs.Guard.{GuardTree, GuardTrees, Reads, Compares, Negates, AllOf, AnyOf, NoGuards, MoreGuards, guards_of, guard_tree, compare_values, holds, all_hold, any_holds}
use Rattle.net_core.specs.Netlist.{Netlist, SetLine}
use Rattle.net_core.specs.Rules.{PortLine, ports_of, port_named, port_width, source_width, source_exists, literal_fits, each_read, each_reads, each_in_guard, each_source, option_widths_agree, IsValid}
use Rattle.net_core.specs.declared.net.Cmp.{Cmp}
use Rattle.net_core.specs.declared.net.Cmp.TheVariants.{Eq}
use Rattle.net_core.specs.declared.net.Guard.{Guard}
use Rattle.net_core.specs.declared.net.Guard.TheVariants as variants
use Rattle.net_core.specs.declared.net.Src.{Src}
use Rattle.net_core.specs.declared.net.Src.TheVariants.{Port, Lit}
use Rattle.net_sim.proofs.GrowthLemmas.{each_more}
use Rattle.net_sim.proofs.TestLemmas.{adds_one, keeps_on, keeps_itself, leads_on, leads_kept, stands_on, number_in}
use Rattle.net_sim.proofs.ValidLemmas.{named_contains, set_keeps}
use Rattle.net_sim.specs.Compiled.{IsSource}
use Rattle.net_sim.specs.Evaluated.{IsWithin, source_number}
use Rattle.net_sim.specs.inside.Flattening.{IsKnownSource, EachSource, EachSourceOf, EachOptionSource, AreExits, AddsTests, AddsGuard, KeepsTests, joined, exit_of, exits_before}
use Rattle.net_sim.specs.Layout.{port_names}
use Rattle.net_sim.specs.Tests.{AreTests, AreValuesIn, Leads, Here, StandsFor, end_of}
use Rattle.net_sim.specs.declared.flatten.Exits.{Exits}
use Rattle.net_sim.specs.declared.flatten.Join.{Join}
use Rattle.net_sim.specs.declared.flatten.Join.TheVariants.{All as AllGuards, Any as AnyGuards}
use Rattle.net_sim.specs.declared.guards.Test.{Test}
use Rattle.net_sim.specs.declared.plan.Source.{Source}

-- ---- results

pub if_ok : {T E : Type 0} (r : Result T E) (P Q : T → Type 0) → ((x : T) → P x → Q x) → IfOk r P → IfOk r Q
if_ok (Ok x) P Q f is = f x is
if_ok (Err e) P Q f is = tt

pub if_both_ok : {T E : Type 0} (r : Result T E) (P R Q : T → Type 0) → ((x : T) → P x → R x → Q x) → IfOk r P → IfOk r R → IfOk r Q
if_both_ok (Ok x) P R Q f is also = f x is also
if_both_ok (Err e) P R Q f is also = tt

-- ---- the sources of a valid netlist's guards

source_known : (ports : List PortLine) (s : Src Text) → source_exists ports s ≡ true → literal_fits s ≡ true → IsKnownSource (map (λ (p : PortLine). p.name) ports) s
source_known ports (Port p) there fits = record { there = All-cons (Contains (map (λ (q : PortLine). q.name) ports)) p [] (named_contains ports p there) (All-nil (Contains (map (λ (q : PortLine). q.name) ports))); fits = fits }
source_known ports (Lit width value) there fits = record { there = All-nil (Contains (map (λ (q : PortLine). q.name) ports)); fits = fits }

mutual
  guard_known : (ports : List PortLine) (g : GuardTree Text) → each_read (source_exists ports) g ≡ true → each_read literal_fits g ≡ true → EachSource (IsKnownSource (map (λ (p : PortLine). p.name) ports)) g
  guard_known ports (Reads s) there fits = source_known ports s there fits
  guard_known ports (Compares op a b) there fits =
      let t = and_parts (source_exists ports a) (source_exists ports b) there in
      let f = and_parts (literal_fits a) (literal_fits b) fits in
      (source_known ports a t.0 f.0, source_known ports b t.1 f.1)
  guard_known ports (Negates g) there fits = guard_known ports g there fits
  guard_known ports (AllOf gs) there fits = guards_known ports gs there fits
  guard_known ports (AnyOf gs) there fits = guards_known ports gs there fits

  guards_known : (ports : List PortLine) (gs : GuardTrees Text) → each_reads (source_exists ports) gs ≡ true → each_reads literal_fits gs ≡ true → EachSourceOf (IsKnownSource (map (λ (p : PortLine). p.name) ports)) gs
  guards_known ports NoGuards there fits = tt
  guards_known ports (MoreGuards g gs) there fits =
      let t = and_parts (each_read (source_exists ports) g) (each_reads (source_exists ports) gs) there in
      let f = and_parts (each_read literal_fits g) (each_reads literal_fits gs) fits in
      (guard_known ports g t.0 f.0, guards_known ports gs t.1 f.1)

option_known : (ports : List PortLine) (g : Option (GuardTree Text)) → each_in_guard (source_exists ports) g ≡ true → each_in_guard literal_fits g ≡ true → EachOptionSource (IsKnownSource (map (λ (p : PortLine). p.name) ports)) g
option_known ports None there fits = tt
option_known ports (Some g) there fits = guard_known ports g there fits

pub guard_sources : (n : Netlist) → IsValid n → (k : ℕ) (a : SetLine) → slice_get n.sets k ≡ Some a → EachOptionSource (IsKnownSource (port_names n)) a.guard
guard_sources n valid k a at =
    let keeps = set_keeps n valid k a at in
    let exists = (and_parts (is_some (port_named (ports_of n) a.dst)) (each_source (source_exists (ports_of n)) a) keeps.known).1 in
    let there = (and_parts (each_in_guard (source_exists (ports_of n)) a.guard) (source_exists (ports_of n) a.src) exists).0 in
    let both = (and_parts (each_source literal_fits a && (port_width (ports_of n) a.dst == source_width (ports_of n) a.src)) (option_widths_agree (ports_of n) a.guard) keeps.widths).0 in
    let first = (and_parts (each_source literal_fits a) (port_width (ports_of n) a.dst == source_width (ports_of n) a.src) both).0 in
    option_known (ports_of n) a.guard there (and_parts (each_in_guard literal_fits a.guard) (literal_fits a.src) first).0

-- what holds of each source of a list's guards holds of those of one
pub source_of_list : (P : Src Text → Type 0) (gs : List (GuardTree Text)) (k : ℕ) (g : GuardTree Text) → slice_get gs k ≡ Some g → EachSourceOf P (guards_of gs) → EachSource P g
source_of_list P [] k g at each = let bad : None ≡ Some g = at in absurd (cc)
source_of_list P (h ∷ gs) zero g at each = subst (EachSource P) (same_Some h g at) each.0
source_of_list P (h ∷ gs) (suc k) g at each = source_of_list P gs k g at each.1

-- ---- leaves

-- a comparison that leads to the exits
abbrev pub compares : Cmp → (left right : Source) → Exits → Test
compares op left right exits = record { op = op; left = left; right = right; yes = exits.yes; no = exits.no }

pub adds_leaf : (names : List Text) (tests : List Test) (exits : Exits) (truth : Row → Bool) (op : Cmp) (left right : Source) (test : Test) → test ≡ compares op left right exits → AreExits tests exits → IsWithin (length names) left → IsWithin (length names) right
    → ((row : Row) (values : List ℕ) → AreValuesIn row names values → compare_values op (source_number values left) (source_number values right) ≡ truth row)
    → AddsTests names tests (tests ++ test ∷ []) exits truth (length tests + 2)
adds_leaf names tests exits truth op left right test e are l r same =
    subst (λ t. AddsTests names tests (tests ++ t ∷ []) exits truth (length tests + 2)) (sym e)
    (adds_one names tests exits truth (compares op left right exits) (record { left = l; right = r; yes = are.yes; no = are.no })
    (λ row values has. ap (exit_of exits) (same row values has)))

-- a lone source is 1
pub read_truth : (names : List Text) (src : Src Text) (left right : Source) → IsSource names src left → ((values : List ℕ) → source_number values right ≡ 1) → (row : Row) (values : List ℕ) → AreValuesIn row names values → compare_values Eq (source_number values left) (source_number values right) ≡ holds row (Reads src)
read_truth names src left right is is_one row values has = ap₂ ◌==◌ (number_in row names values src left has is) (is_one values)

pub compare_truth : (names : List Text) (op : Cmp) (a b : Src Text) (left right : Source) → IsSource names a left → IsSource names b right → (row : Row) (values : List ℕ) → AreValuesIn row names values → compare_values op (source_number values left) (source_number values right) ≡ holds row (Compares op a b)
compare_truth names op a b left right is is' row values has = ap₂ (compare_values op) (number_in row names values a left has is) (number_in row names values b right has is')

-- what was added for one truth and its exits, for another with others
pub finish : (names : List Text) (start first new : List Test) (exits ways : Exits) (test all : Row → Bool) (number : ℕ) → first ≡ start → ((row : Row) → exit_of ways (test row) ≡ exit_of exits (all row)) → AddsTests names first new ways test number → AddsTests names start new exits all number
finish names start first new exits ways test all number e same added = record {
  keeps = subst (λ l. KeepsTests l new) e added.keeps;
  tests = subst (λ l. AreTests (length names) l → AreTests (length names) new) e added.tests;
  within = added.within;
  leads = λ row values has. subst (λ to. Leads new values to number) (same row) (added.leads row values has);
}

-- ---- guards in the code's tree

module _ (f : NameId → Text) where
  pub tree_of_all : (g : Guard NameId) (v : Vec (Guard NameId) Global) → g ≡ variants.All v → guard_tree f g ≡ AllOf (guards_of (map (guard_tree f) v.items))
  tree_of_all g v e = ap (guard_tree f) e ∙ guard_tree-All f v

  pub tree_of_any : (g : Guard NameId) (v : Vec (Guard NameId) Global) → g ≡ variants.Any v → guard_tree f g ≡ AnyOf (guards_of (map (guard_tree f) v.items))
  tree_of_any g v e = ap (guard_tree f) e ∙ guard_tree-Any f v

  pub all_truth : (g : Guard NameId) (v : Vec (Guard NameId) Global) (items : List (Guard NameId)) → g ≡ variants.All v → items ≡ v.items → (row : Row) → joined AllGuards row (guards_of (map (guard_tree f) items)) ≡ holds row (guard_tree f g)
  all_truth g v items e same row = ap (λ (l : List (Guard NameId)). all_hold row (guards_of (map (guard_tree f) l))) same ∙ ap (holds row) (sym (tree_of_all g v e))

  pub any_truth : (g : Guard NameId) (v : Vec (Guard NameId) Global) (items : List (Guard NameId)) → g ≡ variants.Any v → items ≡ v.items → (row : Row) → joined AnyGuards row (guards_of (map (guard_tree f) items)) ≡ holds row (guard_tree f g)
  any_truth g v items e same row = ap (λ (l : List (Guard NameId)). any_holds row (guards_of (map (guard_tree f) l))) same ∙ ap (holds row) (sym (tree_of_any g v e))

  pub all_sources : (P : Src Text → Type 0) (g : Guard NameId) (v : Vec (Guard NameId) Global) (items : List (Guard NameId)) → g ≡ variants.All v → items ≡ v.items → EachSource P (guard_tree f g) → EachSourceOf P (guards_of (map (guard_tree f) items))
  all_sources P g v items e same each =
      let Q : List (Guard NameId) → Type 0 = λ (l : List (Guard NameId)). EachSourceOf P (guards_of (map (guard_tree f) l)) in
      subst Q (sym same) (subst (EachSource P) (tree_of_all g v e) each)

  pub any_sources : (P : Src Text → Type 0) (g : Guard NameId) (v : Vec (Guard NameId) Global) (items : List (Guard NameId)) → g ≡ variants.Any v → items ≡ v.items → EachSource P (guard_tree f g) → EachSourceOf P (guards_of (map (guard_tree f) items))
  any_sources P g v items e same each =
      let Q : List (Guard NameId) → Type 0 = λ (l : List (Guard NameId)). EachSourceOf P (guards_of (map (guard_tree f) l)) in
      subst Q (sym same) (subst (EachSource P) (tree_of_any g v e) each)

  -- a guard of a list in the code's tree
  pub source_in : (P : Src Text → Type 0) (items : List (Guard NameId)) (i : ℕ) (g : Guard NameId) → i < length items → g ≡ get_or items i g → EachSourceOf P (guards_of (map (guard_tree f) items)) → EachSource P (guard_tree f g)
  source_in P items i g lt is each =
      source_of_list P (map (guard_tree f) items) i (guard_tree f g) (slice_get-map (guard_tree f) items i ∙ ap (option_map (guard_tree f)) (slice_get_read items (length items) i g refl lt is)) each

-- ---- lists

abbrev of_two : Join → Bool → Bool → Bool
of_two AllGuards a b = a && b
of_two AnyGuards a b = a || b

joined_more : (join : Join) (row : Row) (g : GuardTree Text) (gs : GuardTrees Text) → joined join row (MoreGuards g gs) ≡ of_two join (holds row g) (joined join row gs)
joined_more AllGuards row g gs = refl
joined_more AnyGuards row g gs = refl

-- the first guard leads to the exit of the list, or to the others, which lead there
first_leads : (tests : List Test) (values : List ℕ) (join : Join) (exits : Exits) (rest start : ℕ) (first others : Bool) → Leads tests values (exit_of (exits_before join exits rest) first) start → Leads tests values (exit_of exits others) rest → Leads tests values (exit_of exits (of_two join first others)) start
first_leads tests values AllGuards exits rest start true others here on = leads_on tests values (exit_of exits others) rest start here on
first_leads tests values AllGuards exits rest start false others here on = here
first_leads tests values AnyGuards exits rest start true others here on = here
first_leads tests values AnyGuards exits rest start false others here on = leads_on tests values (exit_of exits others) rest start here on

exit_within : (tests : List Test) (exits : Exits) (b : Bool) → AreExits tests exits → exit_of exits b < length tests + 2
exit_within tests exits true are = are.yes
exit_within tests exits false are = are.no

pub exits_there : (join : Join) (old new : List Test) (exits : Exits) (rest : ℕ) → AreExits old exits → KeepsTests old new → rest < length new + 2 → AreExits new (exits_before join exits rest)
exits_there AllGuards old new exits rest are keeps within = record { yes = within; no = omega (arith, are.no, keeps.longer) }
exits_there AnyGuards old new exits rest are keeps within = record { yes = omega (arith, are.yes, keeps.longer); no = within }

pub negated_exit : (exits : Exits) (b : Bool) → exit_of (record { yes = exits.no; no = exits.yes }) b ≡ exit_of exits (not b)
negated_exit exits true = refl
negated_exit exits false = refl

pub exits_negated : (tests : List Test) (exits : Exits) → AreExits tests exits → AreExits tests (record { yes = exits.no; no = exits.yes })
exits_negated tests exits are = record { yes = are.no; no = are.yes }

pub listed_none : (names : List Text) (tests : List Test) (join : Join) (exits : Exits) (start : ℕ) → AreExits tests exits → ((row : Row) → start ≡ exit_of exits (joined join row NoGuards)) → AddsTests names tests tests exits (λ row. joined join row NoGuards) start
listed_none names tests join exits start are same = record {
  keeps = keeps_itself tests;
  tests = λ old. old;
  within = subst (λ k. k < length tests + 2) (sym (same (λ name. 0))) (exit_within tests exits (joined join (λ name. 0) NoGuards) are);
  leads = λ row values has. subst (Leads tests values (exit_of exits (joined join row NoGuards))) (sym (same row)) Here;
}

-- one more guard before those of a list
pub listed_more : (names : List Text) (old mid new : List Test) (join : Join) (exits : Exits) (rest start : ℕ) (g : GuardTree Text) (gs : GuardTrees Text) → AddsTests names old mid exits (λ row. joined join row gs) rest → AddsTests names mid new (exits_before join exits rest) (λ row. holds row g) start → AddsTests names old new exits (λ row. joined join row (MoreGuards g gs)) start
listed_more names old mid new join exits rest start g gs others first = record {
  keeps = keeps_on old mid new others.keeps first.keeps;
  tests = λ are. first.tests (others.tests are);
  within = first.within;
  leads = λ row values has.
      subst (λ b. Leads new values (exit_of exits b) start) (sym (joined_more join row g gs))
      (first_leads new values join exits rest start (holds row g) (joined join row gs) (first.leads row values has) (leads_kept mid new values (exit_of exits (joined join row gs)) rest first.keeps (others.leads row values has)));
}

pub drop_trees : (f : NameId → Text) (items : List (Guard NameId)) (i : ℕ) (g : Guard NameId) → i < length items → g ≡ get_or items i g → guards_of (map (guard_tree f) (drop i items)) ≡ MoreGuards (guard_tree f g) (guards_of (map (guard_tree f) (drop (i + 1) items)))
drop_trees f items i g lt is = ap (λ (l : List (Guard NameId)). guards_of (map (guard_tree f) l)) (drop_more items i g lt ∙ ap (λ (x : Guard NameId). x ∷ drop (i + 1) items) (sym is))

-- ---- one assignment

pub adds_some : (names : List Text) (old new : List Test) (exits : Exits) (g : GuardTree Text) (start : ℕ) → exits.yes ≡ 1 → exits.no ≡ 0 → AddsTests names old new exits (λ row. holds row g) start → AddsGuard names old new (Some g) start
adds_some names old new exits g start is_yes is_no added = record {
  keeps = added.keeps;
  tests = added.tests;
  stands = record { within = added.within; leads = λ row values has. subst (λ to. Leads new values to start) (ends (holds row g)) (added.leads row values has) };
}
  where
    ends : (b : Bool) → exit_of exits b ≡ end_of b
    ends true = is_yes
    ends false = is_no

pub adds_none : (names : List Text) (tests : List Test) → AddsGuard names tests tests None 1
adds_none names tests = record { keeps = keeps_itself tests; tests = λ are. are; stands = record { within = omega arith; leads = λ row values has. Here } }

-- ---- all assignments

-- the guards of the first assignments
pub record AreGuardsSoFar (n : Netlist) (i : ℕ) (tests : List Test) (starts : List ℕ) : Type 0 where
  pub tests_are : AreTests (length (port_names n)) tests
  pub all : length starts ≡ i
  pub each : (k : ℕ) (a : SetLine) (start : ℕ) → slice_get n.sets k ≡ Some a → slice_get starts k ≡ Some start → StandsFor (port_names n) tests start a.guard

pub guards_none : (n : Netlist) → AreGuardsSoFar n 0 [] []
guards_none n = record { tests_are = λ k test none. (let bad : None ≡ Some test = none in absurd (cc)); all = refl; each = λ k a start at none. let bad : None ≡ Some start = none in absurd (cc) }

pub guards_more : (n : Netlist) (i : ℕ) (tests tests' : List Test) (starts : List ℕ) (a : SetLine) (start : ℕ) → AreGuardsSoFar n i tests starts → slice_get n.sets i ≡ Some a → AddsGuard (port_names n) tests tests' a.guard start → AreGuardsSoFar n (i + 1) tests' (starts ++ start ∷ [])
guards_more n i tests tests' starts a start so_far at added = record {
  tests_are = added.tests so_far.tests_are;
  all = length_push starts start ∙ ap (λ k. k + 1) so_far.all;
  each =
      each_more (λ k (b : SetLine) s. StandsFor (port_names n) tests s b.guard) (λ k (b : SetLine) s. StandsFor (port_names n) tests' s b.guard) n.sets starts a start (λ k b s. stands_on (port_names n) tests tests' s b.guard added.keeps)
      (ap (slice_get n.sets) so_far.all ∙ at) added.stands so_far.each;
}
