-- Lists of guards as they are folded, guard by guard.
use Rattle.std.proofs.Common.{◌≡◌, ℕ, zero, suc, ◌+◌, ◌≤◌, Bool, true, false, ◌&&◌, ◌||◌, List, [], ◌∷◌, ◌++◌, length, slice_get, Contains, Some, inl, inr, refl, sym, ap, ap₂, subst, ◌∙◌, append_assoc, append-nil, arith}
use Rattle.std.proofs.lemmas.Bool.{and_right, or_right}
use Rattle.std.proofs.lemmas.List.Elements.{Contains-append_left, Contains-append_right, Contains-append_cases}
use Rattle.std.proofs.lemmas.Option.{same_Some}
use Rattle.hw_names.specs.Name.{Text}
use Rattle.net_core.specs.Guard.{GuardTree, Reads, Compares, Negates, AllOf, AnyOf, all_hold, any_holds, guards_of, holds}
use Rattle.net_core.specs.Weight.{node_count, nodes_count}
use Rattle.net_guard.proofs.LeafLemmas.{none_in}
use Rattle.net_guard.specs.Folded.{AreFolded, HasNoAll, HasNoAny, IsFolded, count_guards}
use Rattle.net_guard.specs.inside.Folding.{AreFoldsOf, HasNoSuch, IsReduced, flipped, joint_tree, neutral}
use Rattle.net_guard.specs.Simplified.{all_leaves, leaves}
use Rattle.net_guard.specs.declared.tops.Joint.{Joint}
use Rattle.net_guard.specs.declared.tops.Joint.TheVariants as joints

-- ---- joined lists

and_assoc : (a b c : Bool) → (a && (b && c)) ≡ ((a && b) && c)
and_assoc true b c = refl
and_assoc false b c = refl

or_assoc : (a b c : Bool) → (a || (b || c)) ≡ ((a || b) || c)
or_assoc true b c = refl
or_assoc false b c = refl

and_true : (b : Bool) → (b && true) ≡ b
and_true true = refl
and_true false = refl

or_false : (b : Bool) → (b || false) ≡ b
or_false true = refl
or_false false = refl

-- both are true, or either
abbrev both : Joint → Bool → Bool → Bool
both joints.All a b = a && b
both joints.Any a b = a || b

all_hold-append : (look : Text → ℕ) (xs ys : List (GuardTree Text)) → all_hold look (guards_of (xs ++ ys)) ≡ (all_hold look (guards_of xs) && all_hold look (guards_of ys))
all_hold-append look [] ys = refl
all_hold-append look (x ∷ xs) ys =
    ap (λ (b : Bool). holds look x && b) (all_hold-append look xs ys) ∙ and_assoc (holds look x) (all_hold look (guards_of xs)) (all_hold look (guards_of ys))

any_holds-append : (look : Text → ℕ) (xs ys : List (GuardTree Text)) → any_holds look (guards_of (xs ++ ys)) ≡ (any_holds look (guards_of xs) || any_holds look (guards_of ys))
any_holds-append look [] ys = refl
any_holds-append look (x ∷ xs) ys =
    ap (λ (b : Bool). holds look x || b) (any_holds-append look xs ys) ∙ or_assoc (holds look x) (any_holds look (guards_of xs)) (any_holds look (guards_of ys))

holds-append : (look : Text → ℕ) (kind : Joint) (xs ys : List (GuardTree Text)) → holds look (joint_tree kind (xs ++ ys)) ≡ both kind (holds look (joint_tree kind xs)) (holds look (joint_tree kind ys))
holds-append look joints.All xs ys = all_hold-append look xs ys
holds-append look joints.Any xs ys = any_holds-append look xs ys

holds-none : (look : Text → ℕ) (kind : Joint) → holds look (joint_tree kind []) ≡ neutral kind
holds-none look joints.All = refl
holds-none look joints.Any = refl

holds-one : (look : Text → ℕ) (kind : Joint) (g : GuardTree Text) → holds look (joint_tree kind (g ∷ [])) ≡ holds look g
holds-one look joints.All g = and_true (holds look g)
holds-one look joints.Any g = or_false (holds look g)

all_leaves-append : (xs ys : List (GuardTree Text)) → all_leaves (guards_of (xs ++ ys)) ≡ all_leaves (guards_of xs) ++ all_leaves (guards_of ys)
all_leaves-append [] ys = refl
all_leaves-append (x ∷ xs) ys =
    ap (λ (ls : List (GuardTree Text)). leaves x ++ ls) (all_leaves-append xs ys) ∙ sym (append_assoc (leaves x) (all_leaves (guards_of xs)) (all_leaves (guards_of ys)))

leaves-joint : (kind : Joint) (gs : List (GuardTree Text)) → leaves (joint_tree kind gs) ≡ all_leaves (guards_of gs)
leaves-joint joints.All gs = refl
leaves-joint joints.Any gs = refl

nodes_count-append : (xs ys : List (GuardTree Text)) → nodes_count (guards_of (xs ++ ys)) ≡ nodes_count (guards_of xs) + nodes_count (guards_of ys)
nodes_count-append [] ys = omega arith
nodes_count-append (x ∷ xs) ys = omega (arith, nodes_count-append xs ys)

node_count-joint : (kind : Joint) (gs : List (GuardTree Text)) → node_count (joint_tree kind gs) ≡ 1 + nodes_count (guards_of gs)
node_count-joint joints.All gs = refl
node_count-joint joints.Any gs = refl

AreFolded-append : (xs ys : List (GuardTree Text)) → AreFolded (guards_of xs) → AreFolded (guards_of ys) → AreFolded (guards_of (xs ++ ys))
AreFolded-append [] ys first second = second
AreFolded-append (x ∷ xs) ys first second = (first.0, AreFolded-append xs ys first.1 second)

HasNoAll-append : (xs ys : List (GuardTree Text)) → HasNoAll (guards_of xs) → HasNoAll (guards_of ys) → HasNoAll (guards_of (xs ++ ys))
HasNoAll-append [] ys first second = second
HasNoAll-append (AllOf gs ∷ xs) ys first second = absurd first
HasNoAll-append (Reads s ∷ xs) ys first second = HasNoAll-append xs ys first second
HasNoAll-append (Compares op a b ∷ xs) ys first second = HasNoAll-append xs ys first second
HasNoAll-append (Negates g ∷ xs) ys first second = HasNoAll-append xs ys first second
HasNoAll-append (AnyOf gs ∷ xs) ys first second = HasNoAll-append xs ys first second

HasNoAny-append : (xs ys : List (GuardTree Text)) → HasNoAny (guards_of xs) → HasNoAny (guards_of ys) → HasNoAny (guards_of (xs ++ ys))
HasNoAny-append [] ys first second = second
HasNoAny-append (AnyOf gs ∷ xs) ys first second = absurd first
HasNoAny-append (Reads s ∷ xs) ys first second = HasNoAny-append xs ys first second
HasNoAny-append (Compares op a b ∷ xs) ys first second = HasNoAny-append xs ys first second
HasNoAny-append (Negates g ∷ xs) ys first second = HasNoAny-append xs ys first second
HasNoAny-append (AllOf gs ∷ xs) ys first second = HasNoAny-append xs ys first second

HasNoSuch-append : (kind : Joint) (xs ys : List (GuardTree Text)) → HasNoSuch kind xs → HasNoSuch kind ys → HasNoSuch kind (xs ++ ys)
HasNoSuch-append joints.All xs ys first second = HasNoAll-append xs ys first second
HasNoSuch-append joints.Any xs ys first second = HasNoAny-append xs ys first second

HasNoSuch-none : (kind : Joint) → HasNoSuch kind []
HasNoSuch-none joints.All = tt
HasNoSuch-none joints.Any = tt

pub count_guards-length : (gs : List (GuardTree Text)) → count_guards (guards_of gs) ≡ length gs
count_guards-length [] = refl
count_guards-length (g ∷ gs) = omega (arith, count_guards-length gs)

-- ---- lists that are folded

pub no_folds : (kind : Joint) → AreFoldsOf kind [] []
no_folds kind = record { truth = λ look. refl; leaves = λ leaf here. here; nodes = omega arith; folded = tt; none_such = HasNoSuch-none kind }

-- one list after another
pub folds_append : (kind : Joint) (olds news olds' news' : List (GuardTree Text)) → AreFoldsOf kind olds news → AreFoldsOf kind olds' news' → AreFoldsOf kind (olds ++ olds') (news ++ news')
folds_append kind olds news olds' news' first second =
    record {
      truth = λ look. holds-append look kind news news' ∙ ap₂ (both kind) (first.truth look) (second.truth look) ∙ sym (holds-append look kind olds olds');
      leaves = λ leaf here.
          let L : List (GuardTree Text) → Type 0 = λ ls. Contains ls leaf in
          subst L (sym (all_leaves-append olds olds')) (elim (Contains-append_cases (all_leaves (guards_of news)) (all_leaves (guards_of news')) leaf (subst L (all_leaves-append news news') here)) [
            | inl left ↦ Contains-append_left (all_leaves (guards_of olds)) (all_leaves (guards_of olds')) leaf (first.leaves leaf left)
            | inr right ↦ Contains-append_right (all_leaves (guards_of olds)) (all_leaves (guards_of olds')) leaf (second.leaves leaf right)
          ]);
      nodes = omega (arith, nodes_count-append news news', nodes_count-append olds olds', first.nodes, second.nodes);
      folded = AreFolded-append news news' first.folded second.folded;
      none_such = HasNoSuch-append kind news news' first.none_such second.none_such;
    }

-- a guard that is folded
pub one_fold : (kind : Joint) (old new : GuardTree Text) → IsReduced old new → IsFolded new → HasNoSuch kind (new ∷ []) → AreFoldsOf kind (old ∷ []) (new ∷ [])
one_fold kind old new reduced folded none_such =
    record {
      truth = λ look. holds-one look kind new ∙ reduced.truth look ∙ sym (holds-one look kind old);
      leaves = λ leaf here.
          let L : List (GuardTree Text) → Type 0 = λ ls. Contains ls leaf in
          subst L (sym (append-nil (leaves old))) (reduced.leaves leaf (subst L (append-nil (leaves new)) here));
      nodes = omega (arith, reduced.nodes);
      folded = (folded, tt);
      none_such = none_such;
    }

-- a guard that has no part in the list
pub neutral_fold : (kind : Joint) (old : GuardTree Text) → ((look : Text → ℕ) → holds look old ≡ neutral kind) → AreFoldsOf kind (old ∷ []) []
neutral_fold kind old known =
    record {
      truth = λ look. holds-none look kind ∙ sym (known look) ∙ sym (holds-one look kind old);
      leaves = λ leaf here. absurd (none_in leaf here);
      nodes = omega arith;
      folded = tt;
      none_such = HasNoSuch-none kind;
    }

parts_of : (kind : Joint) (gs : List (GuardTree Text)) → IsFolded (joint_tree kind gs) → AreFolded (guards_of gs) × HasNoSuch kind gs × (2 ≤ length gs)
parts_of joints.All gs (part, folded) = (folded, part.all, omega (arith, part.lists, count_guards-length gs))
parts_of joints.Any gs (part, folded) = (folded, part.any, omega (arith, part.lists, count_guards-length gs))

-- a guard that is folded to a list of the same kind
pub list_fold : (kind : Joint) (old : GuardTree Text) (mores : List (GuardTree Text)) → IsReduced old (joint_tree kind mores) → IsFolded (joint_tree kind mores) → AreFoldsOf kind (old ∷ []) mores
list_fold kind old mores reduced folded =
    let parts = parts_of kind mores folded in
    record {
      truth = λ look. reduced.truth look ∙ sym (holds-one look kind old);
      leaves = λ leaf here.
          let L : List (GuardTree Text) → Type 0 = λ ls. Contains ls leaf in
          subst L (sym (append-nil (leaves old))) (reduced.leaves leaf (subst L (sym (leaves-joint kind mores)) here));
      nodes = omega (arith, reduced.nodes, node_count-joint kind mores);
      folded = parts.0;
      none_such = parts.1;
    }

pub list_counted : (kind : Joint) (mores : List (GuardTree Text)) → IsFolded (joint_tree kind mores) → 2 ≤ length mores
list_counted kind mores folded = (parts_of kind mores folded).2

-- ---- what the list is as a guard

pub none_left : (kind : Joint) (olds : List (GuardTree Text)) → AreFoldsOf kind olds [] → (look : Text → ℕ) → holds look (joint_tree kind olds) ≡ neutral kind
none_left kind olds are look = sym (are.truth look) ∙ holds-none look kind

pub one_left : (kind : Joint) (olds : List (GuardTree Text)) (new : GuardTree Text) → AreFoldsOf kind olds (new ∷ []) → IsReduced (joint_tree kind olds) new
one_left kind olds new are =
    record {
      truth = λ look. sym (holds-one look kind new) ∙ are.truth look;
      leaves = λ leaf here.
          let L : List (GuardTree Text) → Type 0 = λ ls. Contains ls leaf in
          subst L (sym (leaves-joint kind olds)) (are.leaves leaf (subst L (sym (append-nil (leaves new))) here));
      nodes = omega (arith, are.nodes, node_count-joint kind olds);
    }

pub list_left : (kind : Joint) (olds news : List (GuardTree Text)) → AreFoldsOf kind olds news → IsReduced (joint_tree kind olds) (joint_tree kind news)
list_left kind olds news are =
    record {
      truth = are.truth;
      leaves = λ leaf here.
          let L : List (GuardTree Text) → Type 0 = λ ls. Contains ls leaf in
          subst L (sym (leaves-joint kind olds)) (are.leaves leaf (subst L (leaves-joint kind news) here));
      nodes = omega (arith, are.nodes, node_count-joint kind olds, node_count-joint kind news);
    }

pub list_is_folded : (kind : Joint) (news : List (GuardTree Text)) → AreFolded (guards_of news) → HasNoSuch kind news → 2 ≤ length news → IsFolded (joint_tree kind news)
list_is_folded joints.All news folded none_such some =
    (record { literal = tt; comparison = tt; negation = tt; all = none_such; any = tt; lists = omega (arith, some, count_guards-length news) }, folded)
list_is_folded joints.Any news folded none_such some =
    (record { literal = tt; comparison = tt; negation = tt; all = tt; any = none_such; lists = omega (arith, some, count_guards-length news) }, folded)

-- ---- a guard that decides the list

all_decided : (look : Text → ℕ) (gs : List (GuardTree Text)) (k : ℕ) (g : GuardTree Text) → slice_get gs k ≡ Some g → holds look g ≡ false → all_hold look (guards_of gs) ≡ false
all_decided look [] k g at known = absurd (cc)
all_decided look (x ∷ gs) zero g at known = ap (λ (h : GuardTree Text). holds look h && all_hold look (guards_of gs)) (same_Some x g at) ∙ ap (λ (b : Bool). b && all_hold look (guards_of gs)) known
all_decided look (x ∷ gs) (suc k) g at known = and_right (holds look x) (all_hold look (guards_of gs)) (all_decided look gs k g at known)

any_decided : (look : Text → ℕ) (gs : List (GuardTree Text)) (k : ℕ) (g : GuardTree Text) → slice_get gs k ≡ Some g → holds look g ≡ true → any_holds look (guards_of gs) ≡ true
any_decided look [] k g at known = absurd (cc)
any_decided look (x ∷ gs) zero g at known = ap (λ (h : GuardTree Text). holds look h || any_holds look (guards_of gs)) (same_Some x g at) ∙ ap (λ (b : Bool). b || any_holds look (guards_of gs)) known
any_decided look (x ∷ gs) (suc k) g at known = or_right (holds look x) (any_holds look (guards_of gs)) (any_decided look gs k g at known)

pub decided : (look : Text → ℕ) (kind : Joint) (gs : List (GuardTree Text)) (k : ℕ) (g : GuardTree Text) (truth : Bool) → slice_get gs k ≡ Some g → holds look g ≡ truth → flipped truth (neutral kind) ≡ true → holds look (joint_tree kind gs) ≡ truth
decided look joints.All gs k g true at known settles = absurd (cc)
decided look joints.All gs k g false at known settles = all_decided look gs k g at known
decided look joints.Any gs k g true at known settles = any_decided look gs k g at known
decided look joints.Any gs k g false at known settles = absurd (cc)
