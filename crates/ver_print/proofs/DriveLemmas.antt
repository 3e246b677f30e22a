-- What drives a port, assignment by assignment.
use Rattle.std.proofs.Common.{◌≡◌, ℕ, ◌+◌, ◌<◌, ◌≤◌, Bool, true, false, cond, List, [], ◌∷◌, ◌++◌, length, map, filter, take, drop, get_or, slice_get, flat_map, codes, decimal, Option, Some, option_map, option_to_list, sym, ap, ap₂, ◌∙◌, append_assoc, append-nil}
use Rattle.std.proofs.lemmas.List.{drop_more, drop_all, take_all}
use Rattle.std.proofs.lemmas.List.Concat.{flat_map-append}
use Rattle.std.proofs.lemmas.List.Elements.{filter_more}
use Rattle.std.proofs.lemmas.Option.{slice_get_within, slice_get-map, get_or_from_slice_get}
use Rattle.hw_names.specs.Name.{Text}
use Rattle.net_core.specs.Netlist.{Netlist, SetLine, set_of}
use Rattle.net_core.specs.Rules.{PortLine, ports_of}
use Rattle.net_core.specs.declared.net.NetAssign.{NetAssign}
use Rattle.ver_print.specs.inside.Drivers.{picked}
use Rattle.ver_print.specs.Values.{drive_line, drives_text, guarded_text, sets_to, value_text}
use Rattle.ver_print.specs.Words.{escaped}

-- ---- an assignment

guarded_parts : (a o g t s p m z : Text) → a ++ o ++ g ++ t ++ s ++ p ++ m ++ z ≡ a ++ (o ++ g ++ t ++ s ++ p ++ m ++ z)
guarded_parts a o g t s p m z = simp append_assoc

pub guarded_put : (a b c d e f h guard source between others : Text) → b ≡ a ++ codes "(" → c ≡ b ++ guard → d ≡ c ++ codes ") ? " → e ≡ d ++ source → f ≡ e ++ between → h ≡ f ++ codes ": "
    → h ++ others ≡ a ++ (codes "(" ++ guard ++ codes ") ? " ++ source ++ between ++ codes ": " ++ others)
guarded_put a b c d e f h guard source between others h1 h2 h3 h4 h5 h6 =
    rw (h6, h5, h4, h3, h2, h1) (guarded_parts a (codes "(") guard (codes ") ? ") source between (codes ": ") others)

-- ---- the assignments of a port

module _ (names : List Text) (sets : List NetAssign) (numbers : List ℕ) where
  -- the value of the assignments from this one on
  abbrev pub value_from : ℕ → ℕ → Text
  value_from width i = value_text width (map (set_of names) (picked sets (drop i numbers)))

  pub value_next : (width i number : ℕ) (a : NetAssign) → i < length numbers → get_or numbers i 0 ≡ number → slice_get sets number ≡ Some a
      → value_from width i ≡ guarded_text (set_of names a).guard (set_of names a).src (value_from width (i + 1))
  value_next width i number a within is at =
      ap (λ (ns : List ℕ). value_text width (map (set_of names) (picked sets ns))) (drop_more numbers i 0 within)
      ∙ ap (λ (o : Option NetAssign). value_text width (map (set_of names) (option_to_list o ++ picked sets (drop (i + 1) numbers)))) (ap (slice_get sets) is ∙ at)

  pub value_end : (width i : ℕ) → length numbers ≤ i → value_from width i ≡ decimal width ++ codes "'d0"
  value_end width i past = ap (λ (ns : List ℕ). value_text width (map (set_of names) (picked sets ns))) (drop_all i numbers past)

-- ---- the lines

abbrev line_of : Text → Text → Text
line_of target text = codes "  " ++ (codes "assign " ++ target ++ codes "= " ++ text ++ codes ";") ++ codes "\n"

line_put : (a b c d e target text : Text) → b ≡ a ++ codes "  assign " → c ≡ b ++ target → d ≡ c ++ codes "= " → e ≡ d ++ text → e ++ codes ";\n" ≡ a ++ line_of target text
line_put a b c d e target text h1 h2 h3 h4 = rw (h4, h3, h2, h1) (simp append_assoc)

pub drive_put : (sets : List SetLine) (p : PortLine) (port : Text) (width : ℕ) (lines : List SetLine) (a b c d e : Text) → p.name ≡ port → p.width ≡ width → lines ≡ sets_to port sets
    → b ≡ a ++ codes "  assign " → c ≡ b ++ escaped port → d ≡ c ++ codes "= " → e ≡ d ++ value_text width lines → e ++ codes ";\n" ≡ a ++ drive_line sets p
drive_put sets p port width lines a b c d e named wide are h1 h2 h3 h4 =
    line_put a b c d e (escaped port) (value_text width lines) h1 h2 h3 h4
    ∙ ap₂ (λ (w : ℕ) (ls : List SetLine). a ++ line_of (escaped port) (value_text w ls)) (sym wide) are
    ∙ ap (λ (name : Text). a ++ line_of (escaped name) (value_text p.width (sets_to name sets))) (sym named)

module _ (n : Netlist) where
  abbrev pub writable_before : ℕ → List PortLine
  writable_before i = filter (λ (p : PortLine). p.writable) (take i (ports_of n))

  abbrev pub drives_before : ℕ → Text
  drives_before i = flat_map (drive_line n.sets) (writable_before i)

  -- whether assignments may drive a port, in a list of this for all ports
  pub writable_here : (sides : List Bool) (i : ℕ) (p : PortLine) → sides ≡ map (λ (q : PortLine). q.writable) (ports_of n) → slice_get (ports_of n) i ≡ Some p → get_or sides i false ≡ p.writable
  writable_here sides i p are at =
      ap (λ (s : List Bool). get_or s i false) are
      ∙ get_or_from_slice_get (map (λ (q : PortLine). q.writable) (ports_of n)) i p.writable false (slice_get-map (λ (q : PortLine). q.writable) (ports_of n) i ∙ ap (option_map (λ (q : PortLine). q.writable)) at)

  next_writable : (i : ℕ) (p : PortLine) → slice_get (ports_of n) i ≡ Some p → writable_before (i + 1) ≡ writable_before i ++ cond p.writable (p ∷ []) []
  next_writable i p at =
      filter_more (λ (q : PortLine). q.writable) (ports_of n) i p (slice_get_within (ports_of n) i p at)
      ∙ ap (λ (q : PortLine). writable_before i ++ cond q.writable (q ∷ []) []) (get_or_from_slice_get (ports_of n) i p p at)

  pub drives_more : (i : ℕ) (p : PortLine) (before out new : Text) → slice_get (ports_of n) i ≡ Some p → p.writable ≡ true → out ≡ before ++ drives_before i → new ≡ out ++ drive_line n.sets p → new ≡ before ++ drives_before (i + 1)
  drives_more i p before out new at writable so_far put =
      let more : drives_before (i + 1) ≡ drives_before i ++ drive_line n.sets p =
      ap (flat_map (drive_line n.sets)) (next_writable i p at ∙ ap (λ (b : Bool). writable_before i ++ cond b (p ∷ []) []) writable)
      ∙ flat_map-append (drive_line n.sets) (writable_before i) (p ∷ []) ∙ ap (λ (t : Text). drives_before i ++ t) (append-nil (drive_line n.sets p)) in
      put ∙ ap (λ (t : Text). t ++ drive_line n.sets p) so_far ∙ append_assoc before (drives_before i) (drive_line n.sets p) ∙ ap (λ (t : Text). before ++ t) (sym more)

  pub drives_skip : (i : ℕ) (p : PortLine) (before out : Text) → slice_get (ports_of n) i ≡ Some p → p.writable ≡ false → out ≡ before ++ drives_before i → out ≡ before ++ drives_before (i + 1)
  drives_skip i p before out at fixed so_far =
      so_far ∙ ap (λ (ps : List PortLine). before ++ flat_map (drive_line n.sets) ps)
      (sym (next_writable i p at ∙ ap (λ (b : Bool). writable_before i ++ cond b (p ∷ []) []) fixed ∙ append-nil (writable_before i)))

  pub drives_all : (i : ℕ) → length (ports_of n) ≤ i → drives_before i ≡ drives_text n
  drives_all i all = ap (λ (ps : List PortLine). flat_map (drive_line n.sets) (filter (λ (p : PortLine). p.writable) ps)) (take_all i (ports_of n) all)
