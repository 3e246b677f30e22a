-- Laws of lists of ports: their names, a port put last, and the port of a name.
use Rattle.std.proofs.Common.{◌≡◌, ◌≢◌, ℕ, zero, suc, ◌+◌, nat_lt, Bool, true, false, not, List, [], ◌∷◌, ◌++◌, length, map, slice_get, Contains, Option, Some, None, cond, is_some, take, ◌||◌, option_map, refl, sym, ap, subst, ◌∙◌, arith, length-append}
use Rattle.std.specs.Cmp.Lexicographic.{nat_list_eq_equiv}
use Rattle.std.specs.Str.{bytes_eq}
use Rattle.std.proofs.lemmas.Bool.{or_parts}
use Rattle.std.proofs.lemmas.Bool.Decides.{nat_tests}
use Rattle.std.proofs.lemmas.Map.Views.{Contains-from_any, list_any-from_Contains}
use Rattle.std.proofs.lemmas.Slice.Eq.{bytes_eq-Decides}
use Rattle.std.proofs.lemmas.Option.{slice_get_within, slice_get-map, get_or_from_slice_get}
use Rattle.hw_names.specs.Name.{Text, AreDistinct}
use Rattle.net_core.specs.PortList.{port_line, port_lines}
use Rattle.net_core.specs.Rules.{PortLine, port_names, port_named, ports_of, is_among}
use Rattle.net_core.specs.Netlist.{Netlist}
use Rattle.net_core.specs.Table.{IsTableOf}
use Rattle.net_core.specs.declared.ports.Port.{Port}
use Rattle.net_core.specs.declared.table.PortInfo.{PortInfo}
use Rattle.net_core.specs.declared.table.Table.{Table}
use Rattle.std.proofs.lemmas.List.{length-map}

bytes_eq-refl : (x : Text) → bytes_eq x x ≡ true
bytes_eq-refl x = (bytes_eq-Decides x x).1 refl

bytes_eq-apart : (x y : Text) → x ≢ y → bytes_eq x y ≡ false
bytes_eq-apart x y apart = by (bytes_eq x y) refl
  where
    by : (b : Bool) → bytes_eq x y ≡ b → bytes_eq x y ≡ false
    by true e = absurd (apart ((bytes_eq-Decides x y).0 e))
    by false e = e

-- a text is among the names exactly where the test says so
pub Contains-is_among : (names : List Text) (name : Text) → is_among names name ≡ true → Contains names name
Contains-is_among names name e = Contains-from_any (λ x y. (bytes_eq-Decides x y).0) name names e

pub is_among-Contains : (names : List Text) (name : Text) → Contains names name → is_among names name ≡ true
is_among-Contains names name there = list_any-from_Contains nat_list_eq_equiv name names there

pub absent_from : (names : List Text) (name : Text) → is_among names name ≡ false → Contains names name → ⊥
absent_from names name e there = let yes = is_among-Contains names name there in cc

-- the names of ports are those that they were put with
pub port_names-port_lines : (names : List Text) (ports : List Port) → length names ≡ length ports → port_names (port_lines names ports) ≡ names
port_names-port_lines [] ports e = refl
port_names-port_lines (n ∷ names) [] e = absurd (omega arith)
port_names-port_lines (n ∷ names) (p ∷ ports) e =
    let shorter : length names ≡ length ports = omega arith in
    ap (λ rest. n ∷ rest) (port_names-port_lines names ports shorter)

-- a port put last
pub port_lines-push : (names : List Text) (ports : List Port) (name : Text) (port : Port) → length names ≡ length ports
    → port_lines (names ++ name ∷ []) (ports ++ port ∷ []) ≡ port_lines names ports ++ port_line name port ∷ []
port_lines-push [] [] name port e = refl
port_lines-push [] (p ∷ ports) name port e = absurd (omega arith)
port_lines-push (n ∷ names) [] name port e = absurd (omega arith)
port_lines-push (n ∷ names) (p ∷ ports) name port e =
    let shorter : length names ≡ length ports = omega arith in
    ap (λ rest. port_line n p ∷ rest) (port_lines-push names ports name port shorter)

-- a name that is no port's
pub port_named-absent : (ports : List PortLine) (name : Text) → is_among (port_names ports) name ≡ false → port_named ports name ≡ None
port_named-absent [] name e = refl
port_named-absent (p ∷ ports) name e =
    let parts = or_parts (bytes_eq name p.name) (is_among (port_names ports) name) e in
    let other : bytes_eq p.name name ≡ false =
    bytes_eq-apart p.name name (λ same. let yes = (bytes_eq-Decides name p.name).1 (sym same) in cc) in
    ap (λ b. cond b (Some p) (port_named ports name)) other ∙ port_named-absent ports name parts.1

distinct_tail : (name : Text) (names : List Text) → AreDistinct (name ∷ names) → AreDistinct names
distinct_tail name names distinct i j d before within = distinct (suc i) (suc j) d (omega arith) (omega arith)

slice_get-port_lines : (names : List Text) (ports : List Port) (k : ℕ) (name : Text) (p : Port)
    → slice_get names k ≡ Some name → slice_get ports k ≡ Some p → slice_get (port_lines names ports) k ≡ Some (port_line name p)
slice_get-port_lines [] ports k name p name_at port_at = cc
slice_get-port_lines (n ∷ names) [] k name p name_at port_at = cc
slice_get-port_lines (n ∷ names) (q ∷ ports) zero name p name_at port_at = cc
slice_get-port_lines (n ∷ names) (q ∷ ports) (suc k) name p name_at port_at = slice_get-port_lines names ports k name p name_at port_at

-- a name that is a port's
pub port_named-there : (ports : List PortLine) (k : ℕ) (p : PortLine) → AreDistinct (port_names ports) → slice_get ports k ≡ Some p → port_named ports p.name ≡ Some p
port_named-there [] k p distinct at = cc
port_named-there (q ∷ ports) zero p distinct at =
    let same : q ≡ p = cc in
    let yes : bytes_eq q.name p.name ≡ true = (bytes_eq-Decides q.name p.name).1 (ap (λ (x : PortLine). x.name) same) in
    ap (λ b. cond b (Some q) (port_named ports p.name)) yes ∙ ap Some same
port_named-there (q ∷ ports) (suc k) p distinct at =
    let name_at : slice_get (port_names ports) k ≡ Some p.name =
    slice_get-map (λ (x : PortLine). x.name) ports k ∙ ap (option_map (λ (x : PortLine). x.name)) at in
    let within = slice_get_within (port_names ports) k p.name name_at in
    let apart : q.name ≢ p.name =
    λ same. distinct 0 (suc k) [] (omega arith) (omega arith) (same ∙ sym (get_or_from_slice_get (port_names ports) k p.name [] name_at)) in
    ap (λ b. cond b (Some q) (port_named ports p.name)) (bytes_eq-apart q.name p.name apart)
    ∙ port_named-there ports k p (distinct_tail q.name (port_names ports) distinct) at

-- the port of a name that has this number
pub port_named-port_lines : (names : List Text) (ports : List Port) (k : ℕ) (name : Text) (p : Port) → length names ≡ length ports → AreDistinct names
    → slice_get names k ≡ Some name → slice_get ports k ≡ Some p → port_named (port_lines names ports) name ≡ Some (port_line name p)
port_named-port_lines names ports k name p e distinct name_at port_at =
    port_named-there (port_lines names ports) k (port_line name p)
    (let D : List Text → Type 0 = AreDistinct in subst D (sym (port_names-port_lines names ports e)) distinct)
    (slice_get-port_lines names ports k name p name_at port_at)

pub is_among-absent : (names : List Text) (name : Text) → (Contains names name → ⊥) → is_among names name ≡ false
is_among-absent names name absent = by (is_among names name) refl
  where
    by : (b : Bool) → is_among names name ≡ b → is_among names name ≡ false
    by true e = absurd (absent (Contains-is_among names name e))
    by false e = e

-- a name is new exactly where the names grow when it is interned
pub grows_by_new : (old new : List Text) (name : Text) → (Contains old name → new ≡ old) → ((Contains old name → ⊥) → new ≡ old ++ name ∷ [])
    → nat_lt (length old) (length new) ≡ not (is_among old name)
grows_by_new old new name present added = by (is_among old name) refl
  where
    by : (b : Bool) → is_among old name ≡ b → nat_lt (length old) (length new) ≡ not b
    by true e = let same = ap length (present (Contains-is_among old name e)) in grind (arith, nat_tests)
    by false e = let longer = ap length (added (absent_from old name e)) ∙ length-append old (name ∷ []) in grind (arith, nat_tests)

-- a name that was not there is put last
pub added_where_new : (old new : List Text) (name : Text) → ((Contains old name → ⊥) → new ≡ old ++ name ∷ []) → not (is_among old name) ≡ true → new ≡ old ++ name ∷ []
added_where_new old new name added new_name = added (absent_from old name (by (is_among old name) new_name))
  where
    by : (b : Bool) → not b ≡ true → b ≡ false
    by true e = cc
    by false e = refl

pub same_where_there : (old new : List Text) (name : Text) → (Contains old name → new ≡ old) → not (is_among old name) ≡ false → new ≡ old
same_where_there old new name present there = present (Contains-is_among old name (by (is_among old name) there))
  where
    by : (b : Bool) → not b ≡ false → b ≡ true
    by true e = refl
    by false e = cc

-- a name of distinct names is not among those before it
pub not_before : (names : List Text) (i : ℕ) (name : Text) → AreDistinct names → slice_get names i ≡ Some name → is_among (take i names) name ≡ false
not_before [] i name distinct at = cc
not_before (n ∷ names) zero name distinct at = refl
not_before (n ∷ names) (suc i) name distinct at =
    let within = slice_get_within names i name at in
    let apart : name ≢ n = λ same. distinct 0 (suc i) [] (omega arith) (omega arith) (sym same ∙ sym (get_or_from_slice_get names i name [] at)) in
    ap (λ b. b || is_among (take i names) name) (bytes_eq-apart name n apart) ∙ not_before names i name (distinct_tail n names distinct) at

-- a name is found exactly where it is among the ports' names
is_some-port_named : (ports : List PortLine) (name : Text) → is_some (port_named ports name) ≡ is_among (port_names ports) name
is_some-port_named [] name = refl
is_some-port_named (p ∷ ports) name = by (bytes_eq p.name name) refl (is_some-port_named ports name)
  where
    by : (b : Bool) → bytes_eq p.name name ≡ b → is_some (port_named ports name) ≡ is_among (port_names ports) name
        → is_some (cond (bytes_eq p.name name) (Some p) (port_named ports name)) ≡ (bytes_eq name p.name || is_among (port_names ports) name)
    by true e rest =
        let yes : bytes_eq name p.name ≡ true = (bytes_eq-Decides name p.name).1 (sym ((bytes_eq-Decides p.name name).0 e)) in
        rw (e, yes) refl
    by false e rest =
        let no : bytes_eq name p.name ≡ false = bytes_eq-apart name p.name (λ same. let yes = (bytes_eq-Decides p.name name).1 (sym same) in cc) in
        rw (e, no) rest

pub found_among : {T : Type 0} (ports : List PortLine) (name : Text) (line : T → PortLine) (found : Option T) → port_named ports name ≡ option_map line found → is_some found ≡ is_among (port_names ports) name
found_among ports name line found e = by found ∙ ap is_some (sym e) ∙ is_some-port_named ports name
  where
    by : (o : Option _) → is_some o ≡ is_some (option_map line o)
    by None = refl
    by (Some x) = refl

pub length-port_lines : (names : List Text) (ports : List Port) → length names ≡ length ports → length (port_lines names ports) ≡ length names
length-port_lines names ports e = sym (length-map (port_lines names ports) (λ (p : PortLine). p.name)) ∙ ap length (port_names-port_lines names ports e)

-- ports with their numbers, counted on from this one
abbrev pub numbered : ℕ → List Port → List PortInfo
numbered k [] = []
numbered k (p ∷ ports) = record { name = record { 0 = k }; width = p.width } ∷ numbered (k + 1) ports

pub numbered-push : (k : ℕ) (ports : List Port) (p : Port) (n : ℕ) → n ≡ k + length ports → numbered k ports ++ (record { name = record { 0 = n }; width = p.width }) ∷ [] ≡ numbered k (ports ++ p ∷ [])
numbered-push k [] p n e = ap (λ j. record { name = record { 0 = j }; width = p.width } ∷ []) (let same : n ≡ k = omega arith in same)
numbered-push k (q ∷ ports) p n e = ap (λ rest. record { name = record { 0 = k }; width = q.width } ∷ rest) (numbered-push (k + 1) ports p n (omega arith))

widths-numbered : (k : ℕ) (names : List Text) (ports : List Port) → length names ≡ length ports → map (λ (p : PortInfo). p.width) (numbered k ports) ≡ map (λ (p : PortLine). p.width) (port_lines names ports)
widths-numbered k [] [] e = refl
widths-numbered k [] (p ∷ ports) e = absurd (omega arith)
widths-numbered k (n ∷ names) [] e = absurd (omega arith)
widths-numbered k (n ∷ names) (p ∷ ports) e = ap (λ rest. p.width ∷ rest) (widths-numbered (k + 1) names ports (omega arith))

number-numbered : (k : ℕ) (ports : List Port) (i : ℕ) (info : PortInfo) → slice_get (numbered k ports) i ≡ Some info → info.name.0 ≡ k + i
number-numbered k [] i info at = cc
number-numbered k (p ∷ ports) zero info at = let same : record { name = record { 0 = k }; width = p.width } ≡ info = cc in omega (arith, ap (λ (x : PortInfo). x.name.0) same)
number-numbered k (p ∷ ports) (suc i) info at = let rest = number-numbered (k + 1) ports i info at in omega arith

-- names and numbered ports are a table
pub is_table : (n : Netlist) (names : List Text) (ports : List Port) (table : Table) → length names ≡ length ports → ports_of n ≡ port_lines names ports → table.names ≡ names → table.ports.items ≡ numbered 0 ports → IsTableOf n table
is_table n names ports table e are same_names same_ports = record {
  names = same_names ∙ sym (port_names-port_lines names ports e) ∙ ap port_names (sym are);
  widths = ap (map (λ (p : PortInfo). p.width)) same_ports ∙ widths-numbered 0 names ports e ∙ ap (map (λ (p : PortLine). p.width)) (sym are);
  numbers = λ k info at. let number = number-numbered 0 ports k info (ap (λ (items : List PortInfo). slice_get items k) (sym same_ports) ∙ at) in omega arith;
}
