-- Lines: what is read is the text of the line, and the text of a line is read.
use Rattle.net_core.specs.Guard.{GuardTree, Reads, Compares, Negates, AllOf, AnyOf}
use Rattle.std.proofs.Common.{◌≡◌, ℕ, zero, suc, ◌≤◌, ◌&&◌, Bool, true, false, cond, List, [], ◌∷◌, ◌++◌, length, codes, Option, Some, None, option_map, refl, sym, ap, ◌∙◌, append_assoc, subst, inl, inr, ◌⊎◌, arith}
use Rattle.std.specs.Fmt.{decimal}
use Rattle.std.specs.List.{list_all}
use Rattle.std.proofs.lemmas.List.{append-nil, length-append}
use Rattle.hw_names.specs.Name.{Text}
use Rattle.hw_prims.specs.Table.{Pin}
use Rattle.net_core.specs.Netlist.{Line, InLine, OutLine, WireLine, CellOf, SetOf, CellLine, SetLine}
use Rattle.net_text.specs.Layout.{source_text, guard_text, when_text, pin_text, parameters_text, line_text}
use Rattle.net_text.specs.Names.{is_segment, is_path, is_number, source_has_text, guard_has_text, when_has_text, line_has_text}
use Rattle.net_text.specs.inside.ReadWords.{Read, ◌>>=◌, whole, after, is_word_byte, word_at, number_at, source_at, where_after}
use Rattle.net_text.specs.inside.ReadLines.{Value, pin_from, pin_of_text, param_at, params_of_text, cell_of_text, guarded_of_text, value_from, value_of_text, set_of_text, line_of_text}
use Rattle.net_text.specs.inside.ReadGuards.{guard_at, guard_within}
use Rattle.net_text.proofs.GuardLaws.{guard_takes, guard_again}
use Rattle.net_text.proofs.NumberLaws.{both_true}
use Rattle.net_text.proofs.ParamLemmas.{bind_some}
use Rattle.net_text.proofs.WordLaws.{Apart, some_is, segment_word, path_word, after_takes, name_again, name_takes, number_at_again, number_at_takes, source_again, source_takes}

pub whole_is : {A : Type 0} (read : Read A) (a : A) → whole read ≡ Some a → read ≡ Some (a, [])
whole_is None a e = absurd cc
whole_is (Some (b, [])) a e = ap (λ x. Some (x, [])) (some_is b a e)
whole_is (Some (b, c ∷ cs)) a e = absurd cc

number_end : (n : ℕ) → is_number n ≡ true → number_at (decimal n) ≡ Some (n, [])
number_end n h = ap number_at (sym (append-nil (decimal n))) ∙ number_at_again n [] h tt

-- ---- ports

pin_from_again : (name : Text) (width : ℕ) → is_number width ≡ true → pin_from name (codes " " ++ decimal width) ≡ Some (record { name = name; width = width })
unfolding pin_from
pin_from_again name width h = rw (number_end width h) refl

pub pin_again : (test : Text → Bool) (p : Pin) → test p.name ≡ true → list_all is_word_byte p.name ≡ true → is_number p.width ≡ true → pin_of_text test (pin_text p) ≡ Some p
unfolding pin_of_text
pin_again test p h bytes fits =
    ap (pin_of_text test) (append_assoc p.name (codes " ") (decimal p.width))
    ∙ rw (name_again test p.name (codes " " ++ decimal p.width) h bytes refl) (pin_from_again p.name p.width fits)

pub pin_takes : (test : Text → Bool) (text : Text) (p : Pin) → pin_of_text test text ≡ Some p → (text ≡ pin_text p) × (test p.name ≡ true) × (is_number p.width ≡ true)
unfolding pin_of_text pin_from
pin_takes test text p e =
    let a = bind_some (word_at test text) (λ name. after (codes " ") name.1 >>= λ number. whole (number_at number) >>= λ width. Some (record { name = name.0; width = width })) p e in
    let b = bind_some (after (codes " ") a.0.1) (λ number. whole (number_at number) >>= λ width. Some (record { name = a.0.0; width = width })) p a.2 in
    let c = bind_some (whole (number_at b.0)) (λ width. Some (record { name = a.0.0; width = width })) p b.2 in
    let name = name_takes test text a.0.0 a.0.1 a.1 in
    let mark = after_takes (codes " ") a.0.1 b.0 b.1 in
    let number = number_at_takes b.0 c.0 [] (whole_is (number_at b.0) c.0 c.1) in
    let made : Pin = record { name = a.0.0; width = c.0 } in
    let parts : text ≡ pin_text made =
    name.0 ∙ ap (λ (t : Text). a.0.0 ++ t) (mark ∙ ap (λ (t : Text). codes " " ++ t) (number.0 ∙ append-nil (decimal c.0))) ∙ sym (append_assoc a.0.0 (codes " ") (decimal c.0)) in
    subst (λ (q : Pin). (text ≡ pin_text q) × (test q.name ≡ true) × (is_number q.width ≡ true)) (some_is made p c.2) (parts, name.1, number.1)

-- ---- parameters

params_apart : (params : List ℕ) → Apart (parameters_text params)
params_apart [] = tt
params_apart (p ∷ params) = refl

pub params_again : (params : List ℕ) (most : ℕ) → list_all is_number params ≡ true → length (parameters_text params) ≤ most → params_of_text most (parameters_text params) ≡ Some params
unfolding params_of_text param_at
params_again [] zero h le = refl
params_again [] (suc most) h le = refl
params_again (p ∷ params) zero h le = absurd (omega arith)
params_again (p ∷ params) (suc most) h le =
    let b = both_true (is_number p) (list_all is_number params) h in
    rw (number_at_again p (parameters_text params) b.0 (params_apart params), params_again params most b.1 (omega (arith, length-append (decimal p) (parameters_text params)))) refl

pub params_take : (most : ℕ) (text : Text) (params : List ℕ) → params_of_text most text ≡ Some params → (text ≡ parameters_text params) × (list_all is_number params ≡ true)
unfolding params_of_text param_at
params_take zero [] params e = subst (λ (ps : List ℕ). ([] ≡ parameters_text ps) × (list_all is_number ps ≡ true)) (some_is [] params e) (refl, refl)
params_take zero (c ∷ cs) params e = absurd cc
params_take (suc most) [] params e = subst (λ (ps : List ℕ). ([] ≡ parameters_text ps) × (list_all is_number ps ≡ true)) (some_is [] params e) (refl, refl)
params_take (suc most) (c ∷ cs) params e =
    let a = bind_some (param_at (c ∷ cs)) (λ param. params_of_text most param.1 >>= λ params. Some (param.0 ∷ params)) params e in
    let b = bind_some (params_of_text most a.0.1) (λ params. Some (a.0.0 ∷ params)) params a.2 in
    let d = bind_some (after (codes " ") (c ∷ cs)) number_at a.0 a.1 in
    let mark = after_takes (codes " ") (c ∷ cs) d.0 d.1 in
    let number = number_at_takes d.0 a.0.0 a.0.1 d.2 in
    let rest = params_take most a.0.1 b.0 b.1 in
    let parts : c ∷ cs ≡ parameters_text (a.0.0 ∷ b.0) = mark ∙ ap (λ (t : Text). 32 ∷ t) (number.0 ∙ ap (λ (t : Text). decimal a.0.0 ++ t) rest.0) in
    let fits : list_all is_number (a.0.0 ∷ b.0) ≡ true = rw number.1 rest.1 in
    subst (λ (ps : List ℕ). (c ∷ cs ≡ parameters_text ps) × (list_all is_number ps ≡ true)) (some_is (a.0.0 ∷ b.0) params b.2) (parts, fits)

-- ---- cells

abbrev pub cell_text : CellLine → Text
cell_text c = c.name ++ (codes " " ++ (c.prim ++ parameters_text c.params))

pub cell_again : (c : CellLine) → is_path c.name ≡ true → is_segment c.prim ≡ true → list_all is_number c.params ≡ true → cell_of_text c.shown (cell_text c) ≡ Some c
unfolding cell_of_text
cell_again c h k fits =
    rw (name_again is_path c.name (codes " " ++ (c.prim ++ parameters_text c.params)) h (path_word c.name h) refl, name_again is_segment c.prim (parameters_text c.params) k (segment_word c.prim k) (params_apart c.params), params_again c.params (length (parameters_text c.params)) fits (omega arith)) refl

pub cell_takes : (shown : Bool) (text : Text) (c : CellLine) → cell_of_text shown text ≡ Some c → (text ≡ cell_text c) × (c.shown ≡ shown) × (line_has_text (CellOf c) ≡ true)
unfolding cell_of_text
cell_takes shown text c e =
    let name = bind_some (word_at is_path text) (λ name. after (codes " ") name.1 >>= λ second. word_at is_segment second >>= λ prim. params_of_text (length prim.1) prim.1 >>= λ params. Some (record { name = name.0; prim = prim.0; params = params; shown = shown })) c e in
    let mark = bind_some (after (codes " ") name.0.1) (λ second. word_at is_segment second >>= λ prim. params_of_text (length prim.1) prim.1 >>= λ params. Some (record { name = name.0.0; prim = prim.0; params = params; shown = shown })) c name.2 in
    let prim = bind_some (word_at is_segment mark.0) (λ prim. params_of_text (length prim.1) prim.1 >>= λ params. Some (record { name = name.0.0; prim = prim.0; params = params; shown = shown })) c mark.2 in
    let params = bind_some (params_of_text (length prim.0.1) prim.0.1) (λ params. Some (record { name = name.0.0; prim = prim.0.0; params = params; shown = shown })) c prim.2 in
    let made : CellLine = record { name = name.0.0; prim = prim.0.0; params = params.0; shown = shown } in
    let n = name_takes is_path text name.0.0 name.0.1 name.1 in
    let p = name_takes is_segment mark.0 prim.0.0 prim.0.1 prim.1 in
    let ps = params_take (length prim.0.1) prim.0.1 params.0 params.1 in
    let parts : text ≡ cell_text made =
    n.0 ∙ ap (λ (t : Text). name.0.0 ++ t) (after_takes (codes " ") name.0.1 mark.0 mark.1 ∙ ap (λ (t : Text). codes " " ++ t) (p.0 ∙ ap (λ (t : Text). prim.0.0 ++ t) ps.0)) in
    let fits : line_has_text (CellOf made) ≡ true = rw (n.1, p.1, ps.1) refl in
    subst (λ (d : CellLine). (text ≡ cell_text d) × (d.shown ≡ shown) × (line_has_text (CellOf d) ≡ true)) (some_is made c params.2) (parts, refl, fits)

-- ---- assignments

pub value_again : (value : Value) → when_has_text value.0 ≡ true → source_has_text value.1 ≡ true → value_of_text (when_text value.0 ++ source_text value.1) ≡ Some value
unfolding value_of_text value_from guarded_of_text
value_again (None, src) h fits =
    let read : guard_at (source_text src) ≡ Some (Reads src, []) =
    ap (guard_within (length (source_text src))) (sym (append-nil (source_text src))) ∙ guard_again (Reads src) (length (source_text src)) [] fits tt (omega arith) in
    rw read refl
value_again (Some g, src) h fits =
    let text : Text = when_text (Some g) ++ source_text src in
    let regrouped : text ≡ guard_text g ++ (codes " ? " ++ source_text src) = append_assoc (guard_text g) (codes " ? ") (source_text src) in
    let long : length (guard_text g) ≤ length text = omega (arith, ap length regrouped, length-append (guard_text g) (codes " ? " ++ source_text src)) in
    let read : guard_at text ≡ Some (g, codes " ? " ++ source_text src) = ap (guard_within (length text)) regrouped ∙ guard_again g (length text) (codes " ? " ++ source_text src) h refl long in
    rw (read, ap source_at (sym (append-nil (source_text src))) ∙ source_again src [] fits tt) refl

-- the text is what an assignment takes, and when
abbrev IsValue : Text → Value → Type 0
IsValue text value = (text ≡ when_text value.0 ++ source_text value.1) × (when_has_text value.0 ≡ true) × (source_has_text value.1 ≡ true)

value_from_takes : (rest : Text) (g : GuardTree Text) (value : Value) → guard_has_text g ≡ true → value_from rest g ≡ Some value → IsValue (guard_text g ++ rest) value
unfolding value_from guarded_of_text
value_from_takes [] (Reads src) value h e = subst (IsValue (source_text src ++ [])) (some_is (None, src) value e) (append-nil (source_text src), refl, h)
value_from_takes [] (Compares op a b) value h e = absurd cc
value_from_takes [] (Negates g) value h e = absurd cc
value_from_takes [] (AllOf gs) value h e = absurd cc
value_from_takes [] (AnyOf gs) value h e = absurd cc
value_from_takes (c ∷ cs) g value h e =
    let src = bind_some (guarded_of_text (c ∷ cs)) (λ src. Some (Some g, src)) value e in
    let mark = bind_some (after (codes " ? ") (c ∷ cs)) (λ rest. whole (source_at rest)) src.0 src.1 in
    let s = source_takes mark.0 src.0 [] (whole_is (source_at mark.0) src.0 mark.2) in
    let parts : guard_text g ++ (c ∷ cs) ≡ when_text (Some g) ++ source_text src.0 =
    ap (λ (t : Text). guard_text g ++ t) (after_takes (codes " ? ") (c ∷ cs) mark.0 mark.1 ∙ ap (λ (t : Text). codes " ? " ++ t) (s.0 ∙ append-nil (source_text src.0)))
    ∙ sym (append_assoc (guard_text g) (codes " ? ") (source_text src.0)) in
    subst (IsValue (guard_text g ++ (c ∷ cs))) (some_is (Some g, src.0) value src.2) (parts, h, s.1)

pub value_takes : (text : Text) (value : Value) → value_of_text text ≡ Some value → IsValue text value
unfolding value_of_text
value_takes text value e =
    let g = bind_some (guard_at text) (λ guard. value_from guard.1 guard.0) value e in
    let is = guard_takes (length text) text g.0.0 g.0.1 g.1 in
    let v = value_from_takes g.0.1 g.0.0 value is.has g.2 in
    (is.parts ∙ v.0, v.1, v.2)

abbrev pub set_text : SetLine → Text
set_text a = a.dst ++ (codes " = " ++ (when_text a.guard ++ source_text a.src))

pub set_again : (a : SetLine) → is_path a.dst ≡ true → when_has_text a.guard ≡ true → source_has_text a.src ≡ true → set_of_text (set_text a) ≡ Some a
unfolding set_of_text
set_again a h g fits =
    rw (name_again is_path a.dst (codes " = " ++ (when_text a.guard ++ source_text a.src)) h (path_word a.dst h) refl, value_again (a.guard, a.src) g fits) refl

pub set_takes : (text : Text) (a : SetLine) → set_of_text text ≡ Some a → (text ≡ set_text a) × (line_has_text (SetOf a) ≡ true)
unfolding set_of_text
set_takes text a e =
    let dst = bind_some (word_at is_path text) (λ dst. after (codes " = ") dst.1 >>= λ rest. value_of_text rest >>= λ value. Some (record { dst = dst.0; guard = value.0; src = value.1 })) a e in
    let mark = bind_some (after (codes " = ") dst.0.1) (λ rest. value_of_text rest >>= λ value. Some (record { dst = dst.0.0; guard = value.0; src = value.1 })) a dst.2 in
    let value = bind_some (value_of_text mark.0) (λ value. Some (record { dst = dst.0.0; guard = value.0; src = value.1 })) a mark.2 in
    let made : SetLine = record { dst = dst.0.0; guard = value.0.0; src = value.0.1 } in
    let n = name_takes is_path text dst.0.0 dst.0.1 dst.1 in
    let v = value_takes mark.0 value.0 value.1 in
    let parts : text ≡ set_text made = n.0 ∙ ap (λ (t : Text). dst.0.0 ++ t) (after_takes (codes " = ") dst.0.1 mark.0 mark.1 ∙ ap (λ (t : Text). codes " = " ++ t) v.0) in
    let fits : line_has_text (SetOf made) ≡ true = rw (n.1, v.1, v.2) refl in
    subst (λ (b : SetLine). (text ≡ set_text b) × (line_has_text (SetOf b) ≡ true)) (some_is made a value.2) (parts, fits)

-- ---- whole lines

in_cases : {A : Type 0} (o : Option Text) (f : Text → Option A) (other : Option A) (a : A) → where_after o f other ≡ Some a → ((rest : Text) × (o ≡ Some rest) × (f rest ≡ Some a)) ⊎ (other ≡ Some a)
in_cases (Some rest) f other a e = inl (rest, refl, e)
in_cases None f other a e = inr e

mapped : {A B : Type 0} (f : A → B) (o : Option A) (b : B) → option_map f o ≡ Some b → (a : A) × (o ≡ Some a) × (f a ≡ b)
mapped f None b e = absurd cc
mapped f (Some a) b e = (a, refl, some_is (f a) b e)

cell_line : (shown : Bool) (name prim : Text) (params : List ℕ) → line_text (CellOf (record { name = name; prim = prim; params = params; shown = shown })) ≡ cond shown (codes "ext ") (codes "cell ") ++ cell_text (record { name = name; prim = prim; params = params; shown = shown })
cell_line true name prim params = ap (λ (t : Text). codes "ext " ++ t) (append_assoc (name ++ codes " ") prim (parameters_text params) ∙ append_assoc name (codes " ") (prim ++ parameters_text params))
cell_line false name prim params = ap (λ (t : Text). codes "cell " ++ t) (append_assoc (name ++ codes " ") prim (parameters_text params) ∙ append_assoc name (codes " ") (prim ++ parameters_text params))

set_line : (a : SetLine) → line_text (SetOf a) ≡ codes "set " ++ set_text a
set_line a = ap (λ (t : Text). codes "set " ++ t) (append_assoc (a.dst ++ codes " = ") (when_text a.guard) (source_text a.src) ∙ append_assoc a.dst (codes " = ") (when_text a.guard ++ source_text a.src))

cell_line_again : (shown : Bool) (c : CellLine) → c.shown ≡ shown → line_has_text (CellOf c) ≡ true → line_of_text (cond shown (codes "ext ") (codes "cell ") ++ cell_text c) ≡ Some (CellOf c)
unfolding line_of_text
cell_line_again true c s h =
    let a = both_true (is_path c.name && is_segment c.prim) (list_all is_number c.params) h in
    let b = both_true (is_path c.name) (is_segment c.prim) a.0 in
    ap (option_map CellOf) (ap (λ (shown : Bool). cell_of_text shown (cell_text c)) (sym s) ∙ cell_again c b.0 b.1 a.1)
cell_line_again false c s h =
    let a = both_true (is_path c.name && is_segment c.prim) (list_all is_number c.params) h in
    let b = both_true (is_path c.name) (is_segment c.prim) a.0 in
    ap (option_map CellOf) (ap (λ (shown : Bool). cell_of_text shown (cell_text c)) (sym s) ∙ cell_again c b.0 b.1 a.1)

pub line_again : (line : Line) → line_has_text line ≡ true → line_of_text (line_text line) ≡ Some line
unfolding line_of_text
line_again (InLine p) h = let b = both_true (is_segment p.name) (is_number p.width) h in ap (option_map InLine) (pin_again is_segment p b.0 (segment_word p.name b.0) b.1)
line_again (OutLine p) h = let b = both_true (is_segment p.name) (is_number p.width) h in ap (option_map OutLine) (pin_again is_segment p b.0 (segment_word p.name b.0) b.1)
line_again (WireLine p) h = let b = both_true (is_path p.name) (is_number p.width) h in ap (option_map WireLine) (pin_again is_path p b.0 (path_word p.name b.0) b.1)
line_again (CellOf c) h = ap line_of_text (cell_line c.shown c.name c.prim c.params) ∙ cell_line_again c.shown c refl h
line_again (SetOf a) h =
    let b = both_true (is_path a.dst && when_has_text a.guard) (source_has_text a.src) h in
    let d = both_true (is_path a.dst) (when_has_text a.guard) b.0 in
    ap line_of_text (set_line a) ∙ ap (option_map SetOf) (set_again a d.0 d.1 b.1)

-- the line is the text's
abbrev pub IsLineOf : Text → Line → Type 0
IsLineOf text line = (text ≡ line_text line) × (line_has_text line ≡ true)

-- a line with this mark, or another
by_mark : {A : Type 0} (mark text : Text) (of : A → Line) (read : Text → Option A) (other : Option Line) (line : Line) → ((rest : Text) (a : A) → read rest ≡ Some a → IsLineOf (mark ++ rest) (of a)) → (other ≡ Some line → IsLineOf text line)
    → where_after (after mark text) (λ rest. option_map of (read rest)) other ≡ Some line → IsLineOf text line
by_mark {A} mark text of read other line takes others e =
    elim (in_cases (after mark text) (λ rest. option_map of (read rest)) other line e) [
      | inl found ↦
          let m = mapped of (read found.0) line found.2 in
          let is : IsLineOf (mark ++ found.0) line = subst (λ (l : Line). IsLineOf (mark ++ found.0) l) m.2 (takes found.0 m.0 m.1) in
          (after_takes mark text found.0 found.1 ∙ is.0, is.1)
      | inr rest ↦ others rest
    ]

pin_line : (mark : Text) (of : Pin → Line) (test : Text → Bool) → ((p : Pin) → line_text (of p) ≡ mark ++ pin_text p) → ((p : Pin) → line_has_text (of p) ≡ (test p.name && is_number p.width))
    → (rest : Text) (p : Pin) → pin_of_text test rest ≡ Some p → IsLineOf (mark ++ rest) (of p)
pin_line mark of test is has rest p e =
    let t = pin_takes test rest p e in
    (ap (λ (x : Text). mark ++ x) t.0 ∙ sym (is p), has p ∙ rw (t.1, t.2) refl)

cell_line_takes : (shown : Bool) (rest : Text) (c : CellLine) → cell_of_text shown rest ≡ Some c → IsLineOf (cond shown (codes "ext ") (codes "cell ") ++ rest) (CellOf c)
cell_line_takes shown rest c e =
    let t = cell_takes shown rest c e in
    (ap (λ (x : Text). cond shown (codes "ext ") (codes "cell ") ++ x) t.0 ∙ ap (λ (b : Bool). cond b (codes "ext ") (codes "cell ") ++ cell_text c) (sym t.1) ∙ sym (cell_line c.shown c.name c.prim c.params), t.2)

set_line_takes : (rest : Text) (a : SetLine) → set_of_text rest ≡ Some a → IsLineOf (codes "set " ++ rest) (SetOf a)
set_line_takes rest a e = let t = set_takes rest a e in (ap (λ (x : Text). codes "set " ++ x) t.0 ∙ sym (set_line a), t.1)

pub line_takes : (text : Text) (line : Line) → line_of_text text ≡ Some line → IsLineOf text line
unfolding line_of_text
line_takes text line e =
    by_mark (codes "in ") text InLine (pin_of_text is_segment) _ line (pin_line (codes "in ") InLine is_segment (λ p. refl) (λ p. refl))
    (by_mark (codes "out ") text OutLine (pin_of_text is_segment) _ line (pin_line (codes "out ") OutLine is_segment (λ p. refl) (λ p. refl))
    (by_mark (codes "wire ") text WireLine (pin_of_text is_path) _ line (pin_line (codes "wire ") WireLine is_path (λ p. refl) (λ p. refl))
    (by_mark (codes "cell ") text CellOf (cell_of_text false) _ line (cell_line_takes false)
    (by_mark (codes "ext ") text CellOf (cell_of_text true) _ line (cell_line_takes true)
    (by_mark (codes "set ") text SetOf set_of_text None line set_line_takes (λ none. absurd cc)))))) e
