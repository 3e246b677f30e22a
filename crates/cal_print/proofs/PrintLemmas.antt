-- Texts put one after the other.
use Rattle.std.proofs.Common.{◌≡◌, ℕ, suc, ◌+◌, ◌<◌, Bool, true, false, not, cond, ◌==◌, List, [], ◌∷◌, ◌++◌, length, map, take, get_or, codes, Result, Ok, Err, OnOk, refl, sym, ap, ◌∙◌, append_assoc, arith}
use Rattle.std.specs.List.{flat_map}
use Rattle.std.proofs.lemmas.Bool.{ne_eqb}
use Rattle.std.proofs.lemmas.List.{append-nil, take_more, length-take, length-map, map-append}
use Rattle.hw_names.specs.Name.{Text}
use Rattle.net_core.specs.Guard.{GuardTree, guards_of}
use Rattle.cal_ast.specs.Tree.{PortName}
use Rattle.cal_print.specs.Layout.{joined, is_list, enclosed, guard_text, guards_text, more_text}

-- what was put, said in another way
pub OnOk-is : {A E : Type 0} (r : Result A E) (new text other : Text) → OnOk r (new ≡ text) → text ≡ other → OnOk r (new ≡ other)
OnOk-is (Ok x) new text other h e = h ∙ e
OnOk-is (Err x) new text other h e = h

pub flat_map-map : {X Y : Type 0} (f : Y → Text) (g : X → Y) (xs : List X) → flat_map f (map g xs) ≡ flat_map (λ x. f (g x)) xs
flat_map-map f g [] = refl
flat_map-map f g (x ∷ xs) = ap (λ (t : Text). f (g x) ++ t) (flat_map-map f g xs)

pub joined-map : {X Y : Type 0} (f : Y → Text) (g : X → Y) (xs : List X) → joined f (map g xs) ≡ joined (λ x. f (g x)) xs
joined-map f g [] = refl
joined-map f g (x ∷ xs) = ap (λ (t : Text). f (g x) ++ t) (flat_map-map (λ y. codes ", " ++ f y) g xs)

-- ---- lists of guards

pub enclosed_put : (b : Bool) (out text : Text) → ((out ++ cond b (codes "(") []) ++ text) ++ cond b (codes ")") [] ≡ out ++ enclosed b text
enclosed_put true out text = simp append_assoc
enclosed_put false out text = append-nil ((out ++ []) ++ text) ∙ ap (λ (t : Text). t ++ text) (append-nil out)

abbrev operand_text : GuardTree PortName → Text
operand_text g = enclosed (is_list g) (guard_text g)

more_text-push : (between : Text) (gs : List (GuardTree PortName)) (g : GuardTree PortName) → more_text between (guards_of (gs ++ g ∷ [])) ≡ more_text between (guards_of gs) ++ (between ++ operand_text g)
more_text-push between [] g = append-nil (between ++ operand_text g)
more_text-push between (h ∷ gs) g =
    let first : Text = between ++ operand_text h in
    ap (λ (t : Text). first ++ t) (more_text-push between gs g) ∙ sym (append_assoc first (more_text between (guards_of gs)) (between ++ operand_text g))

-- one more guard at the end of a list
guards_text-push : (between : Text) (gs : List (GuardTree PortName)) (g : GuardTree PortName)
    → guards_text between (guards_of (gs ++ g ∷ [])) ≡ guards_text between (guards_of gs) ++ (cond (not (length gs == 0)) between [] ++ operand_text g)
guards_text-push between [] g = append-nil (operand_text g)
guards_text-push between (h ∷ gs) g =
    let more : (suc (length gs) == 0) ≡ false = ne_eqb (suc (length gs)) 0 (λ e. omega (arith, e)) in
    ap (λ (t : Text). operand_text h ++ t) (more_text-push between gs g) ∙ sym (append_assoc (operand_text h) (more_text between (guards_of gs)) (between ++ operand_text g))
    ∙ ap (λ (b : Bool). (operand_text h ++ more_text between (guards_of gs)) ++ (cond (not b) between [] ++ operand_text g)) (sym more)

-- a turn of the loop over the guards of a list
pub guards_step : {X : Type 0} (f : X → GuardTree PortName) (between : Text) (xs : List X) (i : ℕ) (x : X) (first listed : Bool) (before out a b c new : Text) → i < length xs → x ≡ get_or xs i x
    → first ≡ (i == 0) → listed ≡ is_list (f x) → out ≡ before ++ guards_text between (guards_of (map f (take i xs)))
    → a ≡ out ++ cond (not first) between [] → b ≡ a ++ cond listed (codes "(") [] → c ≡ b ++ guard_text (f x) → new ≡ c ++ cond listed (codes ")") []
    → new ≡ before ++ guards_text between (guards_of (map f (take (i + 1) xs)))
guards_step {X = X} f between xs i x first listed before out a b c new lt item is_first is_listed so_far h1 h2 h3 h4 =
    let front : Text = guards_text between (guards_of (map f (take i xs))) in
    let size : length (map f (take i xs)) ≡ i = length-map (take i xs) f ∙ omega (arith, length-take i xs) in
    let trees : map f (take (i + 1) xs) ≡ map f (take i xs) ++ f x ∷ [] =
    ap (map f) (take_more xs i x lt) ∙ ap (λ (y : X). map f (take i xs ++ y ∷ [])) (sym item) ∙ map-append f (take i xs) (x ∷ []) in
    let put : new ≡ (out ++ cond (not first) between []) ++ enclosed listed (guard_text (f x)) =
    rw (h4, h3, h2, h1) (enclosed_put listed (out ++ cond (not first) between []) (guard_text (f x))) in
    put
    ∙ ap (λ (v : Bool). (out ++ cond (not first) between []) ++ enclosed v (guard_text (f x))) is_listed
    ∙ ap (λ (v : Bool). (out ++ cond (not v) between []) ++ operand_text (f x)) is_first
    ∙ ap (λ (t : Text). (t ++ cond (not (i == 0)) between []) ++ operand_text (f x)) so_far
    ∙ append_assoc (before ++ front) (cond (not (i == 0)) between []) (operand_text (f x))
    ∙ append_assoc before front (cond (not (i == 0)) between [] ++ operand_text (f x))
    ∙ ap (λ (n : ℕ). before ++ (front ++ (cond (not (n == 0)) between [] ++ operand_text (f x)))) (sym size)
    ∙ ap (λ (t : Text). before ++ t) (sym (guards_text-push between (map f (take i xs)) (f x)))
    ∙ ap (λ (gs : List (GuardTree PortName)). before ++ guards_text between (guards_of gs)) (sym trees)
