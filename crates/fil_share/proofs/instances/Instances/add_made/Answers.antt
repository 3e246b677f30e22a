use Rattle.std.proofs.Common.{◌≡◌, ℕ, List, [], ◌++◌, map, All, Some, sym, ap₂, subst, ◌∙◌}
use Rattle.std.specs.Prelude.{OnOk}
use Rattle.std.proofs.lemmas.List.Elements.{All-head}
use Rattle.hw_names.specs.Name.{Text, text_of}
use Rattle.hw_names.proofs.NameLemmas.{text_of-slice_get}
use Rattle.fil_ast.specs.Scope.{Instance, instances_at, signature_in}
use Rattle.fil_ast.specs.Tree.{component_tree, statement_tree}
use Rattle.fil_ast.specs.declared.tree.Stmt.{Stmt}
use Rattle.fil_sig.specs.Refusals.{IsUsable}
use Rattle.fil_sig.specs.Seen.{seen}
use Rattle.fil_share.specs.Instances.{CanBeMade, IsNew, ShowsInstances}
use Rattle.fil_share.proofs.CalleeLemmas.{callee_small}
use Rattle.fil_share.proofs.instances.Instances.add_made.Goals as goal

pub callee-requires-clause-usable : goal.callee-requires-clause-usable
callee-requires-clause-usable c =
    let names = c.args.names.now in
    let trees = map (component_tree names) c.args.earlier.now in
    let i : Instance = record { name = text_of names c.in-New.name; made = text_of names c.in-New.comp; params = c.in-New.params.items } in
    let M : Stmt → Type 0 = λ s. All (CanBeMade trees) (instances_at (statement_tree names s)) in
    let can : IsUsable trees i.made i.params = All-head (CanBeMade trees) i [] (subst M c.in-New.is c.requires.made) in
    let named = text_of-slice_get names c.in-New.comp c.text.result.now c.text.ensures in
    subst (λ (t : Text). IsUsable trees t c.deref.result.now) named (subst (λ (ps : List ℕ). IsUsable trees i.made ps) (sym c.deref.ensures.value) can)

pub callee-requires-in-Both-clause-usable : goal.callee-requires-in-Both-clause-usable
callee-requires-in-Both-clause-usable c =
    let names = c.args.names.now in
    let trees = map (component_tree names) c.args.earlier.now in
    let i : Instance = record { name = text_of names c.in-Both.name; made = text_of names c.in-Both.comp; params = c.in-Both.params.items } in
    let M : Stmt → Type 0 = λ s. All (CanBeMade trees) (instances_at (statement_tree names s)) in
    let can : IsUsable trees i.made i.params = All-head (CanBeMade trees) i [] (subst M c.in-Both.is c.requires.made) in
    let named = text_of-slice_get names c.in-Both.comp c.text-in-Both.result.now c.text-in-Both.ensures in
    subst (λ (t : Text). IsUsable trees t c.deref-in-Both.result.now) named (subst (λ (ps : List ℕ). IsUsable trees i.made ps) (sym c.deref-in-Both.ensures.value) can)

pub returns-in_ok-sig-in-New : goal.returns-in_ok-sig-in-New
returns-in_ok-sig-in-New c instances shown new =
    let names = c.args.names.now in
    let trees = map (component_tree names) c.args.earlier.now in
    let i : Instance = record { name = text_of names c.in-New.name; made = text_of names c.in-New.comp; params = c.in-New.params.items } in
    let M : Stmt → Type 0 = λ s. All (CanBeMade trees) (instances_at (statement_tree names s)) in
    let N : Stmt → Type 0 = λ s. All (IsNew instances) (instances_at (statement_tree names s)) in
    let S : Stmt → Type 0 = λ s. OnOk c.add.result (ShowsInstances c.add.new.self trees (instances ++ instances_at (statement_tree names s))) in
    let can : IsUsable trees i.made i.params = All-head (CanBeMade trees) i [] (subst M c.in-New.is c.requires.made) in
    let named = text_of-slice_get names c.in-New.comp c.text.result.now c.text.ensures in
    let signed : signature_in trees i.made i.params ≡ Some (seen c.in_ok-sig-in-New.sig) =
    ap₂ (λ (t : Text) (ps : List ℕ). signature_in trees t ps) named (sym c.deref.ensures.value) ∙ c.in_ok-sig-in-New.ensures in
    subst S (sym c.in-New.is)
    (c.add.ensures trees instances i shown (text_of-slice_get names c.in-New.name c.text-in-New.result.now c.text-in-New.ensures) signed
    (callee_small names c.args.earlier.now c.requires.small i.made i.params (seen c.in_ok-sig-in-New.sig) can signed) (All-head (IsNew instances) i [] (subst N c.in-New.is new)))

pub returns-in_ok-sig-in-Both : goal.returns-in_ok-sig-in-Both
returns-in_ok-sig-in-Both c instances shown new =
    let names = c.args.names.now in
    let trees = map (component_tree names) c.args.earlier.now in
    let i : Instance = record { name = text_of names c.in-Both.name; made = text_of names c.in-Both.comp; params = c.in-Both.params.items } in
    let M : Stmt → Type 0 = λ s. All (CanBeMade trees) (instances_at (statement_tree names s)) in
    let N : Stmt → Type 0 = λ s. All (IsNew instances) (instances_at (statement_tree names s)) in
    let S : Stmt → Type 0 = λ s. OnOk c.add-in-Both.result (ShowsInstances c.add-in-Both.new.self trees (instances ++ instances_at (statement_tree names s))) in
    let can : IsUsable trees i.made i.params = All-head (CanBeMade trees) i [] (subst M c.in-Both.is c.requires.made) in
    let named = text_of-slice_get names c.in-Both.comp c.text-in-Both.result.now c.text-in-Both.ensures in
    let signed : signature_in trees i.made i.params ≡ Some (seen c.in_ok-sig-in-Both.sig) =
    ap₂ (λ (t : Text) (ps : List ℕ). signature_in trees t ps) named (sym c.deref-in-Both.ensures.value) ∙ c.in_ok-sig-in-Both.ensures in
    subst S (sym c.in-Both.is)
    (c.add-in-Both.ensures trees instances i shown (text_of-slice_get names c.in-Both.name c.text-in-Both-2.result.now c.text-in-Both-2.ensures) signed
    (callee_small names c.args.earlier.now c.requires.small i.made i.params (seen c.in_ok-sig-in-Both.sig) can signed) (All-head (IsNew instances) i [] (subst N c.in-Both.is new)))
