-- Keys of ports and holes: their order, and that each stands for one.
use Rattle.std.proofs.Common.{◌≡◌, ◌≢◌, ℕ, ◌+◌, ◌<◌, ◌^◌, true, false, List, [], ◌∷◌, ◌++◌, length, take, drop, get_or, Option, Some, None, refl, sym, ap, subst, ◌∙◌, append_assoc}
use Rattle.std.specs.Int.{from_be_bytes, to_be_bytes, w64}
use Rattle.std.specs.Prelude.{◌==◌}
use Rattle.std.proofs.lemmas.List.{take_more}
use Rattle.std.proofs.lemmas.List.Concat.{flat_map-append}
use Rattle.std.proofs.lemmas.Nat.{from_be_bytes-to_be_bytes_8}
use Rattle.std.proofs.lemmas.Option.{same_Some}
use Rattle.std.specs.Cmp.Lexicographic.{slice_cmp}
use Rattle.std.specs.Ordering.{nat_cmp, ordering_then}
use Rattle.std.specs.declared.cmp.Ordering.{Ordering}
use Rattle.std.specs.declared.cmp.Ordering.TheVariants.{Less, Equal, Greater}
use Rattle.hw_names.specs.Name.{Text, dot}
use Rattle.cal_ast.specs.Tree.{PortName, port_of}
use Rattle.cal_ast.specs.Wires.{shown}
use Rattle.cal_wires.specs.Nodes.{APort, AHole, Node, HasKey, IsName, cell_key, key_of, marked}
use Rattle.cal_wires.specs.declared.full_names.TheConstants.{BYTE, END, HOLE}

-- marked texts stand in the order of the texts
marked_order : (a b u v : Text) → slice_cmp nat_cmp (marked a ++ END ∷ u) (marked b ++ END ∷ v) ≢ Greater → slice_cmp nat_cmp a b ≢ Greater
marked_order [] [] u v h e = absurd (cc)
marked_order [] (y ∷ b) u v h e = absurd (cc)
marked_order (x ∷ a) [] u v h e = absurd (h refl)
marked_order (x ∷ a) (y ∷ b) u v h e = by (marked_order a b u v) (nat_cmp x y) h e
  where
    by : (slice_cmp nat_cmp (marked a ++ END ∷ u) (marked b ++ END ∷ v) ≢ Greater → slice_cmp nat_cmp a b ≢ Greater) → (o : Ordering)
        → ordering_then o (slice_cmp nat_cmp (marked a ++ END ∷ u) (marked b ++ END ∷ v)) ≢ Greater → ordering_then o (slice_cmp nat_cmp a b) ≡ Greater → ⊥
    by later Less g f = absurd (cc)
    by later Equal g f = later g f
    by later Greater g f = absurd (g refl)

-- keys of ports stand in the order of full names
pub key_order : (p q : PortName) → slice_cmp nat_cmp (key_of (APort p)) (key_of (APort q)) ≢ Greater → slice_cmp nat_cmp (shown p) (shown q) ≢ Greater
key_order p q h = marked_order (shown p) (shown q) (cell_key p.cell) (cell_key q.cell) h

-- and before those of holes
pub port_before_hole : (p : PortName) (k : ℕ) → slice_cmp nat_cmp (key_of (AHole k)) (key_of (APort p)) ≡ Greater
port_before_hole p k = by (shown p)
  where
    by : (a : Text) → slice_cmp nat_cmp (key_of (AHole k)) (marked a ++ END ∷ cell_key p.cell) ≡ Greater
    by [] = refl
    by (x ∷ a) = refl

-- a marked text is told from what follows it
marked_same : (a b u v : Text) → marked a ++ END ∷ u ≡ marked b ++ END ∷ v → (a ≡ b) × (u ≡ v)
marked_same [] [] u v e = (refl, cc)
marked_same [] (y ∷ b) u v e = absurd (cc)
marked_same (x ∷ a) [] u v e = absurd (cc)
marked_same (x ∷ a) (y ∷ b) u v e =
    let same : x ≡ y = cc in
    let rest : marked a ++ END ∷ u ≡ marked b ++ END ∷ v = cc in
    let r = marked_same a b u v rest in
    (cc, r.1)

same_cell : (a b : Option Text) → cell_key a ≡ cell_key b → a ≡ b
same_cell None None e = refl
same_cell None (Some y) e = absurd (cc)
same_cell (Some x) None e = absurd (cc)
same_cell (Some x) (Some y) e = cc

after_same : (cell x y : Text) → cell ++ dot ∷ x ≡ cell ++ dot ∷ y → x ≡ y
after_same [] x y e = cc
after_same (b ∷ cell) x y e = after_same cell x y (cc)

-- a port has one key
pub same_port : (p q : PortName) → key_of (APort p) ≡ key_of (APort q) → p ≡ q
same_port p q e =
    let r = marked_same (shown p) (shown q) (cell_key p.cell) (cell_key q.cell) e in
    by p.cell q.cell p.pin q.pin r.0 (same_cell p.cell q.cell r.1)
  where
    by : (c d : Option Text) (x y : Text) → shown (record { cell = c; pin = x }) ≡ shown (record { cell = d; pin = y }) → c ≡ d → ◌≡◌ {A = PortName} (record { cell = c; pin = x }) (record { cell = d; pin = y })
    by None None x y same cells = ap (λ (t : Text). record { cell = None; pin = t }) same
    by None (Some d) x y same cells = absurd (cc)
    by (Some c) None x y same cells = absurd (cc)
    by (Some c) (Some d) x y same cells =
        let cell : c ≡ d = cc in
        let pins : x ≡ y = after_same c x y (same ∙ ap (λ t. t ++ dot ∷ y) (sym cell)) in
        cc

-- so a key tells the cell and the port that it is of
pub same_pin : (cell other pin name : Text) → key_of (APort (port_of cell pin)) ≡ key_of (APort (port_of other name)) → (cell ≡ other) × (pin ≡ name)
same_pin cell other pin name e =
    let same = same_port (port_of cell pin) (port_of other name) e in
    (same_Some cell other (ap (λ p. p.cell) same), ap (λ p. p.pin) same)

-- a port's key is no hole's
pub port_no_hole : (p : PortName) (k : ℕ) → key_of (APort p) ≡ key_of (AHole k) → ⊥
port_no_hole p k e = by (shown p) e
  where
    by : (a : Text) → marked a ++ END ∷ cell_key p.cell ≡ key_of (AHole k) → ⊥
    by [] f = absurd (cc)
    by (x ∷ a) f = absurd (cc)

tail_same : (x : ℕ) (xs ys : List ℕ) → x ∷ xs ≡ x ∷ ys → xs ≡ ys
tail_same x xs ys e = cc

-- a hole of 64 bits has one key
same_hole : (j k : ℕ) → j < 2 ^ 64 → k < 2 ^ 64 → key_of (AHole j) ≡ key_of (AHole k) → j ≡ k
same_hole j k fits_j fits_k e =
    sym (from_be_bytes-to_be_bytes_8 j fits_j)
    ∙ ap (from_be_bytes w64) (tail_same HOLE (to_be_bytes w64 j) (to_be_bytes w64 k) e)
    ∙ from_be_bytes-to_be_bytes_8 k fits_k

-- the key of a node tells it
pub same_node : (n m : Node) → HasKey n → HasKey m → key_of n ≡ key_of m → n ≡ m
same_node (APort p) (APort q) has_n has_m e = ap APort (same_port p q e)
same_node (APort p) (AHole k) has_n has_m e = absurd (port_no_hole p k e)
same_node (AHole k) (APort p) has_n has_m e = absurd (port_no_hole p k (sym e))
same_node (AHole j) (AHole k) has_n has_m e = ap AHole (same_hole j k has_n has_m e)

-- ---- a key that is made, and one that is read

-- one byte more
pub marked_more : (old key text : Text) (i : ℕ) → i < length text → key ≡ old ++ marked (take i text) → (key ++ BYTE ∷ []) ++ get_or text i 0 ∷ [] ≡ old ++ marked (take (i + 1) text)
marked_more old key text i within so_far =
    append_assoc key (BYTE ∷ []) (get_or text i 0 ∷ [])
    ∙ ap (λ (l : Text). l ++ BYTE ∷ get_or text i 0 ∷ []) so_far
    ∙ append_assoc old (marked (take i text)) (BYTE ∷ get_or text i 0 ∷ [])
    ∙ ap (λ (l : Text). old ++ l) (sym (flat_map-append (λ (byte : ℕ). BYTE ∷ byte ∷ []) (take i text) (get_or text i 0 ∷ [])))
    ∙ ap (λ (l : Text). old ++ marked l) (sym (take_more text i 0 within))

marked_both : (a b : Text) → marked a ++ marked b ≡ marked (a ++ b)
marked_both a b = sym (flat_map-append (λ (byte : ℕ). BYTE ∷ byte ∷ []) a b)

-- the key of a port of the component, and of a cell
pub own_key : (pin : Text) → marked pin ++ END ∷ [] ≡ key_of (APort (record { cell = None; pin = pin }))
own_key pin = refl

pub cell_port_key : (cell pin : Text) → (((marked cell ++ marked (dot ∷ [])) ++ marked pin) ++ END ∷ []) ++ BYTE ∷ cell ≡ key_of (APort (record { cell = Some cell; pin = pin }))
cell_port_key cell pin =
    append_assoc ((marked cell ++ marked (dot ∷ [])) ++ marked pin) (END ∷ []) (BYTE ∷ cell)
    ∙ ap (λ (l : Text). l ++ END ∷ BYTE ∷ cell) (append_assoc (marked cell) (marked (dot ∷ [])) (marked pin) ∙ ap (λ (l : Text). marked cell ++ l) (marked_both (dot ∷ []) pin) ∙ marked_both cell (dot ∷ pin))

-- a port's key does not begin as a hole's
pub begins_no_hole : (p : PortName) → (get_or (key_of (APort p)) 0 0 == HOLE) ≡ false
begins_no_hole p = by (shown p)
  where
    by : (a : Text) → (get_or (marked a ++ END ∷ cell_key p.cell) 0 0 == HOLE) ≡ false
    by [] = refl
    by (x ∷ a) = refl

-- what was read of a key is the full name, where no marked byte follows
pub name_read : (name rest a u : Text) → marked name ++ rest ≡ marked a ++ END ∷ u → ((byte : ℕ) (more : List ℕ) → rest ≡ BYTE ∷ byte ∷ more → ⊥) → name ≡ a
name_read [] rest [] u e ends = refl
name_read [] rest (y ∷ a) u e ends = absurd (ends y (marked a ++ END ∷ u) e)
name_read (x ∷ name) rest [] u e ends = absurd (cc)
name_read (x ∷ name) rest (y ∷ a) u e ends =
    let same : x ≡ y = cc in
    let more : marked name ++ rest ≡ marked a ++ END ∷ u = cc in
    let names = name_read name rest a u more ends in
    cc

-- the name that was read of a node's key that is no hole's
pub name_told : (node : Node) (key name rest : Text) → key ≡ key_of node → (get_or key 0 0 == HOLE) ≡ false → key ≡ marked name ++ rest → ((byte : ℕ) (more : List ℕ) → rest ≡ BYTE ∷ byte ∷ more → ⊥) → IsName node (Some name)
name_told (APort p) key name rest is no_hole read ends = ap Some (name_read name rest (shown p) (cell_key p.cell) (sym read ∙ is) ends)
name_told (AHole k) key name rest is no_hole read ends =
    let begins : true ≡ false = subst (λ (t : Text). (get_or t 0 0 == HOLE) ≡ false) is no_hole in
    absurd (cc)

pub none_told : (node : Node) (key : Text) → key ≡ key_of node → (get_or key 0 0 == HOLE) ≡ true → IsName node None
none_told (APort p) key is hole =
    let begins : (get_or (key_of (APort p)) 0 0 == HOLE) ≡ true = subst (λ (t : Text). (get_or t 0 0 == HOLE) ≡ true) is hole in
    let apart = begins_no_hole p in
    absurd (cc)
none_told (AHole k) key is hole = refl

-- one byte more is read
pub read_more : (key name : Text) (place byte : ℕ) → key ≡ marked name ++ drop place key → drop place key ≡ BYTE ∷ byte ∷ drop (place + 2) key → key ≡ marked (name ++ byte ∷ []) ++ drop (place + 2) key
read_more key name place byte so_far here =
    so_far
    ∙ ap (λ (l : Text). marked name ++ l) here
    ∙ sym (append_assoc (marked name) (BYTE ∷ byte ∷ []) (drop (place + 2) key))
    ∙ ap (λ (l : Text). l ++ drop (place + 2) key) (marked_both name (byte ∷ []))
