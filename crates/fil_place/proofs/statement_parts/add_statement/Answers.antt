use Rattle.std.proofs.Common.{◌≡◌, List, [], ◌∷◌, ◌++◌, Contains, Option, Some, false, flat_map, slice_get, is_some, refl, sym, ap, ap₂, subst, ◌∙◌}
use Rattle.std.specs.Option.{option_and_then}
use Rattle.std.specs.Prelude.{OnOk}
use Rattle.hw_names.specs.Name.{Text, text_of}
use Rattle.hw_names.proofs.NameLemmas.{slice_get-last, text_of-slice_get}
use Rattle.fil_ast.specs.Naming.{MakesNewNames, UsesKnownNames}
use Rattle.fil_ast.specs.Connections.{ConnectsOnce, connected_at}
use Rattle.fil_ast.specs.Scope.{Invocation}
use Rattle.fil_ast.specs.Signature.{Signature}
use Rattle.fil_ast.specs.Tree.{New, Call, Both, Connect, giving, statement_tree, value_tree}
use Rattle.fil_ast.specs.declared.tree.Stmt.{Stmt}
use Rattle.fil_place.specs.Starts.{AddsUses, ListsAllUses}
use Rattle.fil_place.specs.Tables.{AddsInstance, AddsInvocation, AreTimesOf, IsMadeAt, Shows, grown, made_signature, signature_at}
use Rattle.fil_place.specs.declared.starts.Starts.{Starts}
use Rattle.fil_place.specs.declared.tables.Tables.{Tables}
use Rattle.fil_place.proofs.GeneralLemmas.{clash}
use Rattle.fil_place.proofs.AddLemmas.{connected_more, connected_same, grown_both, grown_call, grown_new, on_ok, on_ok_all, on_ok_both}
use Rattle.fil_place.proofs.ListedLemmas.{lists_connect, lists_none, lists_one, made_last}
use Rattle.fil_place.proofs.LookupLemmas.{callee_there, no_instance_named, not_found}
use Rattle.fil_place.proofs.StatementLemmas.{both_instance, both_invocation, call_absent, new_absent}
use Rattle.fil_place.proofs.statement_parts.add_statement.Goals as goal

pub returns-in-Some-clause-shown : goal.returns-in-Some-clause-shown
returns-in-Some-clause-shown c scope place fresh known wide made given =
    let names = c.args.around.now.names.now in
    let earlier = c.args.around.now.earlier.now in
    let old = c.args.tables.now in
    let new = c.add_instance.new.tables in
    let r = c.add_instance.result in
    let name = text_of names c.in-New.name in
    let of = text_of names c.in-New.comp in
    let params = c.in-New.params.items in
    let m = c.in-Some.made in
    let named = text_of-slice_get names c.in-New.name c.text.result.now c.text.ensures in
    let F : Stmt → Type 0 = λ s. MakesNewNames scope (statement_tree names s) in
    let M : Stmt → Type 0 = λ s. IsMadeAt earlier scope.comps c.args.parts.made (statement_tree names s) in
    let A : Text → Type 0 = λ t. OnOk r ((Contains old.instances t → ⊥) → AddsInstance old new t m) in
    let S : Stmt → Type 0 = λ s. OnOk r (Shows earlier new (grown scope (statement_tree names s))) in
    let absent = new_absent names earlier c.args.around.now.comp.now old scope place name of params (subst F c.in-New.is fresh) in
    let signed = sym (ap (option_and_then (made_signature earlier)) c.in-Some.is) ∙ subst M c.in-New.is made in
    subst S (sym c.in-New.is)
    (on_ok r (subst A (sym named) c.add_instance.ensures.added) (λ adds. grown_new earlier old new scope place.shows name of params m (adds absent) absent signed))

pub returns-in-Some-find-clause-shown : goal.returns-in-Some-find-clause-shown
returns-in-Some-find-clause-shown c scope place fresh known wide made given =
    let names = c.args.around.now.names.now in
    let earlier = c.args.around.now.earlier.now in
    let old = c.args.tables.now in
    let new = c.add_invocation.new.tables in
    let r = c.add_invocation.result in
    let name = text_of names c.in-Call.name in
    let inst = text_of names c.in-Call.inst in
    let gives = giving names c.in-Call.at.items c.in-Call.args.items in
    let n = c.in-Some-find.instance.0 in
    let named = text_of-slice_get names c.in-Call.name c.text-in-Some-find.result.now c.text-in-Some-find.ensures in
    let named_inst = text_of-slice_get names c.in-Call.inst c.text-in-Call.result.now c.text-in-Call.ensures in
    let F : Stmt → Type 0 = λ s. MakesNewNames scope (statement_tree names s) in
    let A : Text → Type 0 = λ t. OnOk r ((Contains old.ports t → ⊥) → AddsInvocation old new t n c.args.parts.at) in
    let S : Stmt → Type 0 = λ s. OnOk r (Shows earlier new (grown scope (statement_tree names s))) in
    let T : Stmt → Type 0 = λ s. AreTimesOf old.events c.args.parts.at.items (statement_tree names s) in
    let absent = call_absent names earlier c.args.around.now.comp.now old scope place name inst gives (subst F c.in-Call.is fresh) in
    subst S (sym c.in-Call.is)
    (on_ok r (subst A (sym named) c.add_invocation.ensures.added) (λ adds. grown_call earlier old new scope place.shows name inst gives n c.args.parts.at (adds absent) (c.in-Some-find.ensures.text ∙ ap Some (sym named_inst)) (subst T c.in-Call.is given)))

pub returns-in-Call-clause-shown : goal.returns-in-Call-clause-shown
returns-in-Call-clause-shown c scope place fresh known wide made given =
    let names = c.args.around.now.names.now in
    let earlier = c.args.around.now.earlier.now in
    let old = c.args.tables.now in
    let inst = text_of names c.in-Call.inst in
    let named_inst = text_of-slice_get names c.in-Call.inst c.text-in-Call.result.now c.text-in-Call.ensures in
    let K : Stmt → Type 0 = λ s. UsesKnownNames scope (statement_tree names s) in
    let there = (subst K c.in-Call.is known).0 in
    let absent : Contains old.instances inst → ⊥ = λ listed. not_found (Contains old.instances c.text-in-Call.result.now) c.in-None-find.ensures.present (subst (λ (t : Text). Contains old.instances t) named_inst listed) in
    absurd (clash false (sym (ap is_some (no_instance_named names earlier c.args.around.now.comp.now old scope place inst absent)) ∙ there) refl)

pub returns-in-Some-made-clause-shown : goal.returns-in-Some-made-clause-shown
returns-in-Some-made-clause-shown c scope place fresh known wide made given =
    let names = c.args.around.now.names.now in
    let earlier = c.args.around.now.earlier.now in
    let old = c.args.tables.now in
    let mid = c.add_instance-in-Some-made.new.tables in
    let new = c.add_invocation-in-Some-made.new.tables in
    let r = c.add_invocation-in-Some-made.result in
    let name = text_of names c.in-Both.name in
    let of = text_of names c.in-Both.comp in
    let params = c.in-Both.params.items in
    let gives = giving names c.in-Both.at.items c.in-Both.args.items in
    let m = c.in-Some-made.made in
    let n = c.len-instance.result in
    let named = text_of-slice_get names c.in-Both.name c.text-in-Some-made.result.now c.text-in-Some-made.ensures in
    let named_again = text_of-slice_get names c.in-Both.name c.text-in-Some-made-2.result.now c.text-in-Some-made-2.ensures in
    let F : Stmt → Type 0 = λ s. MakesNewNames scope (statement_tree names s) in
    let M : Stmt → Type 0 = λ s. IsMadeAt earlier scope.comps c.args.parts.made (statement_tree names s) in
    let A : Text → Type 0 = λ t. (Contains old.instances t → ⊥) → AddsInstance old mid t m in
    let B : Text → Type 0 = λ t. OnOk r ((Contains mid.ports t → ⊥) → AddsInvocation mid new t n c.args.parts.at) in
    let S : Stmt → Type 0 = λ s. OnOk r (Shows earlier new (grown scope (statement_tree names s))) in
    let T : Stmt → Type 0 = λ s. AreTimesOf old.events c.args.parts.at.items (statement_tree names s) in
    let new_names = subst F c.in-Both.is fresh in
    let absent = both_instance names earlier c.args.around.now.comp.now old scope place name of params gives new_names in
    let first = subst A (sym named) c.in_ok-add_instance-in-Some-made.ensures.added absent in
    let no_port : Contains mid.ports name → ⊥ = λ there. both_invocation names earlier c.args.around.now.comp.now old scope place name of params gives new_names (subst (λ (ts : List Text). Contains ts name) first.ports there) in
    let signed = sym (ap (option_and_then (made_signature earlier)) c.in-Some-made.is) ∙ subst M c.in-Both.is made in
    let at : slice_get mid.instances n ≡ Some name = ap₂ slice_get first.instances c.len-instance.ensures.len ∙ slice_get-last old.instances name in
    subst S (sym c.in-Both.is)
    (on_ok r (subst B (sym named_again) c.add_invocation-in-Some-made.ensures.added) (λ adds.
    grown_both earlier old mid new scope place.shows name of params gives m n c.args.parts.at first (adds no_port) absent signed at (subst T c.in-Both.is given)))

pub returns-in-Some-clause-connected : goal.returns-in-Some-clause-connected
returns-in-Some-clause-connected c scope before are once =
    let names = c.args.around.now.names.now in
    let R : Stmt → Type 0 = λ s. OnOk c.add_instance.result (c.add_instance.new.tables.connected ≡ flat_map connected_at (before ++ statement_tree names s ∷ [])) in
    subst R (sym c.in-New.is) (on_ok c.add_instance.result c.add_instance.ensures.connected (λ same. connected_same before (New (text_of names c.in-New.name) (text_of names c.in-New.comp) c.in-New.params.items) c.args.tables.now.connected c.add_instance.new.tables.connected are refl same))

pub returns-in-Some-find-clause-connected : goal.returns-in-Some-find-clause-connected
returns-in-Some-find-clause-connected c scope before are once =
    let names = c.args.around.now.names.now in
    let R : Stmt → Type 0 = λ s. OnOk c.add_invocation.result (c.add_invocation.new.tables.connected ≡ flat_map connected_at (before ++ statement_tree names s ∷ [])) in
    subst R (sym c.in-Call.is) (on_ok c.add_invocation.result c.add_invocation.ensures.connected (λ same. connected_same before (Call (text_of names c.in-Call.name) (text_of names c.in-Call.inst) (giving names c.in-Call.at.items c.in-Call.args.items)) c.args.tables.now.connected c.add_invocation.new.tables.connected are refl same))

pub returns-in-Some-made-clause-connected : goal.returns-in-Some-made-clause-connected
returns-in-Some-made-clause-connected c scope before are once =
    let names = c.args.around.now.names.now in
    let r = c.add_invocation-in-Some-made.result in
    let new = c.add_invocation-in-Some-made.new.tables in
    let s = Both (text_of names c.in-Both.name) (text_of names c.in-Both.comp) c.in-Both.params.items (giving names c.in-Both.at.items c.in-Both.args.items) in
    let R : Stmt → Type 0 = λ s. OnOk r (new.connected ≡ flat_map connected_at (before ++ statement_tree names s ∷ [])) in
    subst R (sym c.in-Both.is)
    (on_ok r c.add_invocation-in-Some-made.ensures.connected (λ same.
    connected_same before s c.args.tables.now.connected new.connected are refl (same ∙ c.in_ok-add_instance-in-Some-made.ensures.connected)))

pub returns-clause-connected : goal.returns-clause-connected
returns-clause-connected c scope before are once =
    let names = c.args.around.now.names.now in
    let old = c.args.tables.now.connected in
    let dst = text_of names c.in-Set.dst in
    let s = Connect dst (value_tree names c.in-Set.value) in
    let named = text_of-slice_get names c.in-Set.dst c.text-in-Set.result.now c.text-in-Set.ensures in
    let new = c.add_connected.new.connected in
    let r = c.add_connected.result in
    let R : Stmt → Type 0 = λ s. OnOk r (new ≡ flat_map connected_at (before ++ statement_tree names s ∷ [])) in
    let O : Stmt → Type 0 = λ s. ConnectsOnce scope before (statement_tree names s) in
    let A : Text → Type 0 = λ t. OnOk r ((Contains old t → ⊥) → new ≡ old ++ t ∷ []) in
    let C : List Text → Type 0 = λ ts. Contains ts dst in
    let absent : Contains old dst → ⊥ = λ there. (subst O c.in-Set.is once).0 (subst C are there) in
    subst R (sym c.in-Set.is) (on_ok r (subst A (sym named) c.add_connected.ensures) (λ put. connected_more before s old new are (put absent)))

pub returns-in-Some-clause-listed : goal.returns-in-Some-clause-listed
returns-in-Some-clause-listed c scope place fresh known wide made given lists =
    let names = c.args.around.now.names.now in
    let earlier = c.args.around.now.earlier.now in
    let old = c.args.tables.now in
    let new = c.add_instance.new.tables in
    let r = c.add_instance.result in
    let name = text_of names c.in-New.name in
    let of = text_of names c.in-New.comp in
    let params = c.in-New.params.items in
    let m = c.in-Some.made in
    let named = text_of-slice_get names c.in-New.name c.text.result.now c.text.ensures in
    let F : Stmt → Type 0 = λ s. MakesNewNames scope (statement_tree names s) in
    let M : Stmt → Type 0 = λ s. IsMadeAt earlier scope.comps c.args.parts.made (statement_tree names s) in
    let A : Text → Type 0 = λ t. OnOk r ((Contains old.instances t → ⊥) → AddsInstance old new t m) in
    let S : Stmt → Type 0 = λ s. OnOk r (ListsAllUses new (grown scope (statement_tree names s))) in
    let s = New name of params in
    let absent = new_absent names earlier c.args.around.now.comp.now old scope place name of params (subst F c.in-New.is fresh) in
    let signed = sym (ap (option_and_then (made_signature earlier)) c.in-Some.is) ∙ subst M c.in-New.is made in
    subst S (sym c.in-New.is)
    (on_ok_both r (subst A (sym named) c.add_instance.ensures.added) c.add_instance.ensures.starts (λ adds same.
    lists_none earlier old new scope s place.shows (subst F c.in-New.is fresh) (grown_new earlier old new scope place.shows name of params m (adds absent) absent signed) lists refl same))

pub returns-in-Some-find-clause-listed : goal.returns-in-Some-find-clause-listed
returns-in-Some-find-clause-listed c scope place fresh known wide made given lists =
    let names = c.args.around.now.names.now in
    let earlier = c.args.around.now.earlier.now in
    let old = c.args.tables.now in
    let new = c.add_invocation.new.tables in
    let r = c.add_invocation.result in
    let name = text_of names c.in-Call.name in
    let inst = text_of names c.in-Call.inst in
    let gives = giving names c.in-Call.at.items c.in-Call.args.items in
    let n = c.in-Some-find.instance.0 in
    let named = text_of-slice_get names c.in-Call.name c.text-in-Some-find.result.now c.text-in-Some-find.ensures in
    let named_inst = text_of-slice_get names c.in-Call.inst c.text-in-Call.result.now c.text-in-Call.ensures in
    let F : Stmt → Type 0 = λ s. MakesNewNames scope (statement_tree names s) in
    let A : Text → Type 0 = λ t. OnOk r ((Contains old.ports t → ⊥) → AddsInvocation old new t n c.args.parts.at) in
    let T : Stmt → Type 0 = λ s. AreTimesOf old.events c.args.parts.at.items (statement_tree names s) in
    let S : Stmt → Type 0 = λ s. OnOk r (ListsAllUses new (grown scope (statement_tree names s))) in
    let s = Call name inst gives in
    let v : Invocation = record { name = name; inst = inst; gives = gives } in
    let there : slice_get old.instances n ≡ Some inst = c.in-Some-find.ensures.text ∙ ap Some (sym named_inst) in
    let times = subst T c.in-Call.is given in
    let D : Option Signature → Type 0 = λ o. OnOk r (AddsUses old.events o inst gives.times n old.starts new.starts) in
    let uses = subst D (callee_there names earlier c.args.around.now.comp.now old scope place inst n there) (c.add_invocation.ensures.uses old.events inst gives.times times) in
    let absent = call_absent names earlier c.args.around.now.comp.now old scope place name inst gives (subst F c.in-Call.is fresh) in
    subst S (sym c.in-Call.is)
    (on_ok_both r (subst A (sym named) c.add_invocation.ensures.added) uses (λ adds used.
    lists_one earlier old new scope s place.shows (subst F c.in-Call.is fresh) (grown_call earlier old new scope place.shows name inst gives n c.args.parts.at (adds absent) there times) lists v n refl (ap (λ (ts : List Text). slice_get ts n) (adds absent).instances ∙ there) used))

pub returns-in-Some-made-clause-listed : goal.returns-in-Some-made-clause-listed
returns-in-Some-made-clause-listed c scope place fresh known wide made given lists =
    let names = c.args.around.now.names.now in
    let earlier = c.args.around.now.earlier.now in
    let old = c.args.tables.now in
    let mid = c.add_instance-in-Some-made.new.tables in
    let new = c.add_invocation-in-Some-made.new.tables in
    let r = c.add_invocation-in-Some-made.result in
    let name = text_of names c.in-Both.name in
    let of = text_of names c.in-Both.comp in
    let params = c.in-Both.params.items in
    let gives = giving names c.in-Both.at.items c.in-Both.args.items in
    let m = c.in-Some-made.made in
    let n = c.len-instance.result in
    let named = text_of-slice_get names c.in-Both.name c.text-in-Some-made.result.now c.text-in-Some-made.ensures in
    let named_again = text_of-slice_get names c.in-Both.name c.text-in-Some-made-2.result.now c.text-in-Some-made-2.ensures in
    let F : Stmt → Type 0 = λ s. MakesNewNames scope (statement_tree names s) in
    let M : Stmt → Type 0 = λ s. IsMadeAt earlier scope.comps c.args.parts.made (statement_tree names s) in
    let A : Text → Type 0 = λ t. (Contains old.instances t → ⊥) → AddsInstance old mid t m in
    let B : Text → Type 0 = λ t. OnOk r ((Contains mid.ports t → ⊥) → AddsInvocation mid new t n c.args.parts.at) in
    let S : Stmt → Type 0 = λ s. OnOk r (ListsAllUses new (grown scope (statement_tree names s))) in
    let T : Stmt → Type 0 = λ s. AreTimesOf old.events c.args.parts.at.items (statement_tree names s) in
    let new_names = subst F c.in-Both.is fresh in
    let absent = both_instance names earlier c.args.around.now.comp.now old scope place name of params gives new_names in
    let first = subst A (sym named) c.in_ok-add_instance-in-Some-made.ensures.added absent in
    let no_port : Contains mid.ports name → ⊥ = λ there. both_invocation names earlier c.args.around.now.comp.now old scope place name of params gives new_names (subst (λ (ts : List Text). Contains ts name) first.ports there) in
    let signed = sym (ap (option_and_then (made_signature earlier)) c.in-Some-made.is) ∙ subst M c.in-Both.is made in
    let at : slice_get mid.instances n ≡ Some name = ap₂ slice_get first.instances c.len-instance.ensures.len ∙ slice_get-last old.instances name in
    let s = Both name of params gives in
    let v : Invocation = record { name = name; inst = name; gives = gives } in
    let times = subst T c.in-Both.is given in
    let made_of = ap (option_and_then (made_signature earlier)) (made_last earlier old mid scope place.shows name m first n at c.len-instance.ensures.len) ∙ signed in
    let D : Option Signature → Type 0 = λ o. OnOk r (AddsUses old.events o name gives.times n mid.starts new.starts) in
    let E : Starts → Type 0 = λ starts. OnOk r (AddsUses old.events (signature_at scope s) name gives.times n starts new.starts) in
    let uses = subst E c.in_ok-add_instance-in-Some-made.ensures.starts (subst D made_of (c.add_invocation-in-Some-made.ensures.uses old.events name gives.times times)) in
    subst S (sym c.in-Both.is)
    (on_ok_both r (subst B (sym named_again) c.add_invocation-in-Some-made.ensures.added) uses (λ adds used.
    lists_one earlier old new scope s place.shows new_names (grown_both earlier old mid new scope place.shows name of params gives m n c.args.parts.at first (adds no_port) absent signed at times) lists v n refl
    (ap (λ (ts : List Text). slice_get ts n) (adds no_port).instances ∙ at) used))

pub returns-in-Call-clause-listed : goal.returns-in-Call-clause-listed
returns-in-Call-clause-listed c scope place fresh known wide made given lists =
    let names = c.args.around.now.names.now in
    let earlier = c.args.around.now.earlier.now in
    let old = c.args.tables.now in
    let inst = text_of names c.in-Call.inst in
    let named_inst = text_of-slice_get names c.in-Call.inst c.text-in-Call.result.now c.text-in-Call.ensures in
    let K : Stmt → Type 0 = λ s. UsesKnownNames scope (statement_tree names s) in
    let there = (subst K c.in-Call.is known).0 in
    let absent : Contains old.instances inst → ⊥ = λ listed. not_found (Contains old.instances c.text-in-Call.result.now) c.in-None-find.ensures.present (subst (λ (t : Text). Contains old.instances t) named_inst listed) in
    absurd (clash false (sym (ap is_some (no_instance_named names earlier c.args.around.now.comp.now old scope place inst absent)) ∙ there) refl)

pub returns-clause-listed : goal.returns-clause-listed
returns-clause-listed c scope place fresh known wide made given lists =
    let names = c.args.around.now.names.now in
    let old = c.args.tables.now in
    let r = c.add_connected.result in
    let new : Tables = record {
      events = old.events;
      ports = old.ports;
      instances = old.instances;
      made = old.made;
      invoked = old.invoked;
      times = old.times;
      calls = old.calls;
      starts = old.starts;
      connected = c.add_connected.new.connected;
    } in
    let S : Stmt → Type 0 = λ s. OnOk r (ListsAllUses new (grown scope (statement_tree names s))) in
    subst S (sym c.in-Set.is) (on_ok_all r (lists_connect old new scope (text_of names c.in-Set.dst) (value_tree names c.in-Set.value) refl refl refl lists))
