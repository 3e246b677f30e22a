-- Lists of guards, and runs of `!`.
use Rattle.std.proofs.Common.{◌≡◌, ◌≢◌, ℕ, zero, suc, ◌+◌, ◌≤◌, Bool, true, false, ◌||◌, cond, List, [], ◌∷◌, length, map, take, drop, Result, Ok, Err, refl, sym, ap, subst, ◌∙◌, arith, Vec, Global}
use Rattle.std.specs.List.{prefix_len}
use Rattle.std.proofs.lemmas.List.{length-map}
use Rattle.std.proofs.lemmas.List.Sums.{prefix_len-le-length}
use Rattle.std.proofs.lemmas.List.Folds.{length-prefix_len}
use mathlib.Core.Former.{Count}
use Rattle.hw_names.specs.Name.{Text}
use Rattle.hw_grammar.specs.declared.sort.Sort.TheVariants.{Not, LeftParen, RightParen, And, Or}
use Rattle.hw_grammar.specs.declared.end.ReadEnd.{ReadEnd}
use Rattle.hw_grammar.specs.declared.terminal.Terminal.{Terminal}
use Rattle.hw_grammar.specs.Sort.{same_sort, has}
use Rattle.hw_grammar.specs.Reading.{Reader, Answer, Fails, ◌>>=◌, one, then, mapped, after, between, times, many, separated, with_front}
use Rattle.net_core.specs.Guard.{GuardTree, Reads, Negates, AllOf, AnyOf, MoreGuards, guards_of, guard_tree, guard_trees}
use Rattle.net_core.specs.declared.net.Guard.{Guard, Row_of-Guard, end_of-Guard, more_of-Guard, items-the_row-Guard, items_hidden-the_row-Guard-0}
use Rattle.net_core.specs.declared.net.Guard as code
use Rattle.cal_ast.specs.declared.tree.CalPort.{CalPort}
use Rattle.cal_ast.specs.Tree.{PortName, port_tree}
use Rattle.cal_parse.specs.Grammar.{Source, read_from, negated_from, all_from, any_from}
use Rattle.cal_parse.specs.inside.Reading.{source_at, test_at, is_not, negated, negations_from, operand_by, negated_by, unit_by, conjunction_by, guard_by, guard_to}
use Rattle.hw_grammar.proofs.Steps.{then_ok, then_fails, mapped_ok, mapped_fails, after_ok, after_fails, after_missing, separated_missing, separated_is}

abbrev Tree : Type 0
Tree = GuardTree PortName

abbrev trees : List Text → List (Guard CalPort) → List (GuardTree PortName)
trees names guards = map (guard_tree (port_tree names)) guards

row_is : (names : List Text) (n : Count) (r : Row_of-Guard CalPort n) → guard_trees (port_tree names) r ≡ guards_of (trees names (items-the_row-Guard CalPort n r))
row_is names n end_of-Guard = refl
row_is names n (more_of-Guard g rest) = ap (MoreGuards (guard_tree (port_tree names) g)) (row_is names _ rest)

abbrev row_of : Guard CalPort → (n : Count) × Row_of-Guard CalPort n
row_of (code.All' shape r) = (_, r)
row_of _ = (_, end_of-Guard)

all_many : (xs : List (GuardTree PortName)) → length xs ≢ 1 → AllOf (guards_of xs) ≡ all_from xs
all_many [] h = refl
all_many (x ∷ []) h = absurd (h refl)
all_many (x ∷ y ∷ xs) h = refl

any_many : (xs : List (GuardTree PortName)) → length xs ≢ 1 → AnyOf (guards_of xs) ≡ any_from xs
any_many [] h = refl
any_many (x ∷ []) h = absurd (h refl)
any_many (x ∷ y ∷ xs) h = refl

pub all_tree : (names : List Text) (v : Vec (Guard CalPort) Global) → length v.items ≢ 1 → guard_tree (port_tree names) (code.All v) ≡ all_from (trees names v.items)
all_tree names v h =
    let r = row_of (code.All v) in
    ap AllOf (row_is names r.0 r.1) ∙ ap (λ (gs : List (Guard CalPort)). AllOf (guards_of (trees names gs))) (items_hidden-the_row-Guard-0 CalPort v)
    ∙ all_many (trees names v.items) (rw length-map h)

pub any_tree : (names : List Text) (v : Vec (Guard CalPort) Global) → length v.items ≢ 1 → guard_tree (port_tree names) (code.Any v) ≡ any_from (trees names v.items)
any_tree names v h =
    let r = row_of (code.All v) in
    ap AnyOf (row_is names r.0 r.1) ∙ ap (λ (gs : List (Guard CalPort)). AnyOf (guards_of (trees names gs))) (items_hidden-the_row-Guard-0 CalPort v)
    ∙ any_many (trees names v.items) (rw length-map h)

-- ---- runs of `!`

pub prefix_fits : (p : Terminal → Bool) (ts : List Terminal) → prefix_len p ts ≤ length ts
prefix_fits p ts = prefix_len-le-length p ts

abbrev run_after : Bool → Terminal → List Terminal → (List Terminal → Result (List Terminal × List Terminal) (List Terminal)) → Result (List Terminal × List Terminal) (List Terminal)
run_after v t ts more =
    let first : Result (Terminal × List Terminal) (List Terminal) = cond v (Ok (t, ts)) (Err (t ∷ ts)) in
    first >>= λ x. (more x.1 >>= λ y. Ok (x.0 ∷ y.0, y.1))

run_step : (v : Bool) (t : Terminal) (ts : List Terminal) (k : ℕ) (more : List Terminal → Result (List Terminal × List Terminal) (List Terminal)) → more ts ≡ Ok (take k ts, drop k ts)
    → cond (v || false) (run_after v t ts more) (Ok ([], t ∷ ts)) ≡ Ok (take (cond v (1 + k) 0) (t ∷ ts), drop (cond v (1 + k) 0) (t ∷ ts))
run_step true t ts k more e = let one : 1 + k ≡ suc k = omega arith in rw (one, e) refl
run_step false t ts k more e = refl

run_within : (n : ℕ) (ts : List Terminal) → length ts ≤ n → times (Not ∷ []) (one Not) n ts ≡ Ok (take (prefix_len is_not ts) ts, drop (prefix_len is_not ts) ts)
run_within zero [] le = refl
run_within (suc n) [] le = refl
run_within zero (t ∷ ts) le = absurd (omega arith)
run_within (suc n) (t ∷ ts) le = run_step (same_sort t.sort Not) t ts (prefix_len is_not ts) (times (Not ∷ []) (one Not) n) (run_within n ts (omega arith))

pub run_of : (ts : List Terminal) → many (Not ∷ []) (one Not) ts ≡ Ok (take (prefix_len is_not ts) ts, drop (prefix_len is_not ts) ts)
run_of ts = run_within (length ts) ts (omega arith)

pub length-run : (ts : List Terminal) → length (take (prefix_len is_not ts) ts) ≡ prefix_len is_not ts
length-run ts = length-prefix_len is_not ts

-- ---- what the readers of guards give

module _ (names : List Text) (guards : Reader Tree) (ts : List Terminal) where
  pub operand_parentheses : has (LeftParen ∷ []) ts ≡ true → operand_by names guards ts ≡ between LeftParen guards RightParen ts
  unfolding operand_by
  operand_parentheses h = rw h refl

  pub operand_source : (source : Source) (rest : List Terminal) → has (LeftParen ∷ []) ts ≡ false → source_at names ts ≡ Ok (source, rest) → operand_by names guards ts ≡ Ok (Reads source, rest)
  unfolding operand_by
  operand_source source rest h e = rw (h, e) refl

  pub operand_fails : (e : ReadEnd) → has (LeftParen ∷ []) ts ≡ false → Fails e (source_at names ts) → Fails e (operand_by names guards ts)
  unfolding operand_by
  operand_fails e h f = rw h (mapped_fails read_from (source_at names) ts e f)

  pub unit_negated : has (Not ∷ []) ts ≡ true → unit_by names guards ts ≡ negated_by names guards ts
  unfolding unit_by
  unit_negated h = rw h refl

  pub unit_parentheses : has (Not ∷ []) ts ≡ false → has (LeftParen ∷ []) ts ≡ true → unit_by names guards ts ≡ between LeftParen guards RightParen ts
  unfolding unit_by
  unit_parentheses h k = rw (h, k) refl

  pub unit_test : has (Not ∷ []) ts ≡ false → has (LeftParen ∷ []) ts ≡ false → unit_by names guards ts ≡ test_at names ts
  unfolding unit_by
  unit_test h k = rw (h, k) refl

  pub negated_missing : (e : ReadEnd) → Fails e (one Not ts) → Fails e (negated_by names guards ts)
  unfolding negated_by
  negated_missing e f =
      mapped_fails negated_from (after Not (mapped negations_from (then (many (Not ∷ []) (one Not)) (operand_by names guards)))) ts e
      (after_missing Not (mapped negations_from (then (many (Not ∷ []) (one Not)) (operand_by names guards))) ts e f)

  module _ (mid : List Terminal) (t : Terminal) (first : one Not ts ≡ Ok (t, mid)) (count : ℕ) (behind : List Terminal) (is : count ≡ prefix_len is_not mid) (after_run : behind ≡ drop count mid) where
    run_read : many (Not ∷ []) (one Not) mid ≡ Ok (take (prefix_len is_not mid) mid, behind)
    run_read = run_of mid ∙ ap (λ (r : List Terminal). Ok (take (prefix_len is_not mid) mid, r)) (ap (λ (n : ℕ). drop n mid) (sym is) ∙ sym after_run)

    pub negated_ok : (operand guard : Tree) (rest : List Terminal) → operand_by names guards behind ≡ Ok (operand, rest) → guard ≡ negated count operand → negated_by names guards ts ≡ Ok (Negates guard, rest)
    unfolding negated_by
    negated_ok operand guard rest e same =
        let n : length (take (prefix_len is_not mid) mid) ≡ count = length-run mid ∙ sym is in
        mapped_ok negated_from (after Not (mapped negations_from (then (many (Not ∷ []) (one Not)) (operand_by names guards)))) ts (negations_from (take (prefix_len is_not mid) mid, operand)) rest
        (after_ok Not (mapped negations_from (then (many (Not ∷ []) (one Not)) (operand_by names guards))) ts mid t first (negations_from (take (prefix_len is_not mid) mid, operand)) rest
        (mapped_ok negations_from (then (many (Not ∷ []) (one Not)) (operand_by names guards)) mid (take (prefix_len is_not mid) mid, operand) rest
        (then_ok (many (Not ∷ []) (one Not)) (operand_by names guards) mid behind (take (prefix_len is_not mid) mid) run_read operand rest e)))
        ∙ ap (λ (g : Tree). Ok (Negates g, rest)) (ap (λ (k : ℕ). negated k operand) n ∙ sym same)

    pub negated_fails : (e : ReadEnd) → Fails e (operand_by names guards behind) → Fails e (negated_by names guards ts)
    unfolding negated_by
    negated_fails e f =
        mapped_fails negated_from (after Not (mapped negations_from (then (many (Not ∷ []) (one Not)) (operand_by names guards)))) ts e
        (after_fails Not (mapped negations_from (then (many (Not ∷ []) (one Not)) (operand_by names guards))) ts mid t first e
        (mapped_fails negations_from (then (many (Not ∷ []) (one Not)) (operand_by names guards)) mid e
        (then_fails (many (Not ∷ []) (one Not)) (operand_by names guards) mid behind (take (prefix_len is_not mid) mid) run_read e f)))

  pub conjunction_missing : (e : ReadEnd) → Fails e (unit_by names guards ts) → Fails e (conjunction_by names guards ts)
  unfolding conjunction_by
  conjunction_missing e f = mapped_fails all_from (separated And (unit_by names guards)) ts e (separated_missing And (unit_by names guards) ts e f)

  module _ (x : Tree) (mid : List Terminal) (first : unit_by names guards ts ≡ Ok (x, mid)) where
    pub conjunction_ok : (front : List Tree) → front ≡ x ∷ [] → (all : List (Guard CalPort)) (rest : List Terminal) → with_front front (many (And ∷ []) (after And (unit_by names guards)) mid) ≡ Ok (trees names all, rest)
        → (guard : Tree) → guard ≡ all_from (trees names all) → conjunction_by names guards ts ≡ Ok (guard, rest)
    unfolding conjunction_by
    conjunction_ok front one all rest e guard same =
        mapped_ok all_from (separated And (unit_by names guards)) ts (trees names all) rest
        (separated_is And (unit_by names guards) ts x mid first ∙ ap (λ (f : List Tree). with_front f (many (And ∷ []) (after And (unit_by names guards)) mid)) (sym one) ∙ e) ∙ ap (λ (g : Tree). Ok (g, rest)) (sym same)

    pub conjunction_fails : (front : List Tree) → front ≡ x ∷ [] → (e : ReadEnd) → Fails e (with_front front (many (And ∷ []) (after And (unit_by names guards)) mid)) → Fails e (conjunction_by names guards ts)
    unfolding conjunction_by
    conjunction_fails front one e f =
        mapped_fails all_from (separated And (unit_by names guards)) ts e
        (subst (λ (r : Answer (List Tree)). Fails e r) (sym (separated_is And (unit_by names guards) ts x mid first ∙ ap (λ (f : List Tree). with_front f (many (And ∷ []) (after And (unit_by names guards)) mid)) (sym one))) f)

module _ (names : List Text) (depth less : ℕ) (is : depth ≡ suc less) (ts : List Terminal) where
  abbrev conjunctions : Reader Tree
  conjunctions = conjunction_by names (guard_to names less)

  guard_is : guard_to names depth ts ≡ mapped any_from (separated Or conjunctions) ts
  unfolding guard_by
  guard_is = rw is refl

  pub guard_missing : (e : ReadEnd) → Fails e (conjunctions ts) → Fails e (guard_to names depth ts)
  guard_missing e f =
      subst (λ (r : Answer Tree). Fails e r) (sym guard_is) (mapped_fails any_from (separated Or conjunctions) ts e (separated_missing Or conjunctions ts e f))

  module _ (x : Tree) (mid : List Terminal) (first : conjunctions ts ≡ Ok (x, mid)) where
    pub guard_ok : (front : List Tree) → front ≡ x ∷ [] → (all : List (Guard CalPort)) (rest : List Terminal) → with_front front (many (Or ∷ []) (after Or conjunctions) mid) ≡ Ok (trees names all, rest)
        → (guard : Tree) → guard ≡ any_from (trees names all) → guard_to names depth ts ≡ Ok (guard, rest)
    guard_ok front one all rest e guard same =
        guard_is ∙ mapped_ok any_from (separated Or conjunctions) ts (trees names all) rest
        (separated_is Or conjunctions ts x mid first ∙ ap (λ (f : List Tree). with_front f (many (Or ∷ []) (after Or conjunctions) mid)) (sym one) ∙ e) ∙ ap (λ (g : Tree). Ok (g, rest)) (sym same)

    pub guard_fails : (front : List Tree) → front ≡ x ∷ [] → (e : ReadEnd) → Fails e (with_front front (many (Or ∷ []) (after Or conjunctions) mid)) → Fails e (guard_to names depth ts)
    guard_fails front one e f =
        subst (λ (r : Answer Tree). Fails e r) (sym guard_is)
        (mapped_fails any_from (separated Or conjunctions) ts e
        (subst (λ (r : Answer (List Tree)). Fails e r) (sym (separated_is Or conjunctions ts x mid first ∙ ap (λ (f : List Tree). with_front f (many (Or ∷ []) (after Or conjunctions) mid)) (sym one))) f))
