-- The labels of the actors that act, one after another.
use Rattle.std.proofs.Common.{◌≡◌, ℕ, ◌+◌, ◌<◌, ◌≤◌, List, [], ◌∷◌, ◌++◌, Bool, false, Vec, Global, length, map, take, get_or, flat_map, Some, refl, sym, ap, ap₂, ◌∙◌, arith}
use Rattle.std.specs.Prelude.{codes, decimal, if◌then◌else◌, slice_get}
use Rattle.std.proofs.lemmas.List.{append-nil, append_assoc, get_or-map, length-map, map-append, map_more, map_push, take_all, take_more}
use Rattle.std.proofs.lemmas.List.Concat.{flat_map-append}
use Rattle.std.proofs.lemmas.Option.{same_Some, slice_get-get_or, slice_get_within}
use Rattle.std.proofs.lemmas.Simd.{map-map}
use Rattle.hw_names.specs.Name.{Text, text_of}
use Rattle.cal_ast.specs.Actors.{Actor, GroupNamed, InvokeAt, actors_of}
use Rattle.cal_ast.specs.Invoking.{InvokeDef, invokes_in}
use Rattle.cal_ast.specs.Tree.{Component, GroupDef, component_tree, group_tree}
use Rattle.cal_ast.specs.declared.tree.Group.{Group}
use Rattle.cal_sched.specs.declared.walker.Walker.{Walker}
use Rattle.cal_walk.specs.Planning.{IsControlOf, invoke_tree}
use Rattle.cal_walk.specs.declared.planning.Controlled.{Controlled}
use Rattle.cal_walk.specs.declared.planning.Invoke.{Invoke}
use Rattle.filc_calyx.specs.inside.Scheduling.{AreLabelsOf, TellsActing, label, label_if, label_texts}

-- where no actor acts
pub none_act : (acts : Actor → Bool) (actors : List Actor) → ((actor : Actor) → acts actor ≡ false) → flat_map (label_if acts) actors ≡ []
none_act acts [] none = refl
none_act acts (actor ∷ actors) none = ap₂ ◌++◌ (ap (λ (b : Bool). if b then label actor else []) (none actor)) (none_act acts actors none)

module _ (actors : List Actor) (acts : Actor → Bool) (labels : List (Vec ℕ Global)) (are : AreLabelsOf actors labels) (w : Walker) (tells : TellsActing actors acts w) (k : ℕ) (within : k < length labels) where
  abbrev actor : Actor
  actor = get_or actors k (InvokeAt 0)

  here : k < length actors
  here = omega (arith, within, ap length are, length-map labels (λ (l : Vec ℕ Global). l.items), length-map actors label)

  told : slice_get w.acting.items k ≡ Some (acts actor)
  told = tells k actor (slice_get-get_or actors k (InvokeAt 0) here)

  pub inside : k < length w.acting.items
  inside = slice_get_within w.acting.items k (acts actor) told

  pub label_is : (l : Vec ℕ Global) → l ≡ get_or labels k l → l.items ≡ label actor
  label_is l is =
      ap (λ (v : Vec ℕ Global). v.items) is
      ∙ sym (get_or-map (λ (v : Vec ℕ Global). v.items) labels k l [] within)
      ∙ ap (λ (texts : List Text). get_or texts k []) are
      ∙ get_or-map label actors k (InvokeAt 0) [] here

  -- one actor more
  pub actor_more : (b : Bool) (before text new : Text) → slice_get w.acting.items k ≡ Some b → text ≡ before ++ flat_map (label_if acts) (take k actors) → new ≡ text ++ (if b then label actor else [])
      → new ≡ before ++ flat_map (label_if acts) (take (k + 1) actors)
  actor_more b before text new at so_far is =
      let rest : flat_map (label_if acts) (take (k + 1) actors) ≡ flat_map (label_if acts) (take k actors) ++ (if b then label actor else []) =
      ap (flat_map (label_if acts)) (take_more actors k (InvokeAt 0) here)
      ∙ flat_map-append (label_if acts) (take k actors) (actor ∷ [])
      ∙ ap (λ (text : Text). flat_map (label_if acts) (take k actors) ++ text)
      (append-nil (label_if acts actor) ∙ ap (λ (c : Bool). if c then label actor else []) (same_Some (acts actor) b (sym told ∙ at))) in
      is ∙ ap (λ (front : Text). front ++ (if b then label actor else [])) so_far ∙ append_assoc before (flat_map (label_if acts) (take k actors)) (if b then label actor else [])
      ∙ ap (λ (more : Text). before ++ more) (sym rest)

-- after the last nothing is left out
pub actors_all : (actors : List Actor) (labels : List (Vec ℕ Global)) → AreLabelsOf actors labels → (at : ℕ) → length labels ≤ at → take at actors ≡ actors
actors_all actors labels are at past =
    take_all at actors (omega (arith, past, ap length are, length-map labels (λ (l : Vec ℕ Global). l.items), length-map actors label))

-- ---- all labels

-- one label more
pub label_more : {X : Type 0} (f : X → Text) (items : List X) (i : ℕ) (d : X) (before : List Text) (labels : List (Vec ℕ Global)) (one : Vec ℕ Global) → i < length items → one.items ≡ f (get_or items i d)
    → label_texts labels ≡ before ++ map f (take i items) → label_texts (labels ++ one ∷ []) ≡ before ++ map f (take (i + 1) items)
label_more f items i d before labels one within is so_far =
    map_push (λ (l : Vec ℕ Global). l.items) labels one
    ∙ ap₂ (λ (texts : List Text) (text : Text). texts ++ text ∷ []) so_far is
    ∙ append_assoc before (map f (take i items)) (f (get_or items i d) ∷ [])
    ∙ ap (λ (texts : List Text). before ++ texts) (sym (map_more f items i d within))

pub labels_are : (names : List Text) (control : Controlled) (c : Component) (texts : List Text) → component_tree names control.comp.now ≡ c → IsControlOf names c control
    → texts ≡ map (λ (group : Group). codes " " ++ text_of names group.name) control.comp.now.groups.items ++ map (λ (invoke : Invoke). codes " #" ++ decimal invoke.item) control.invokes.items
    → texts ≡ map label (actors_of c)
labels_are names control c texts is control_is made =
    let groups : List Group = control.comp.now.groups.items in
    let first : map (λ (group : Group). codes " " ++ text_of names group.name) groups ≡ map label (map (λ (g : GroupDef). GroupNamed g.name) c.groups) =
    sym (map-map (λ (g : GroupDef). label (GroupNamed g.name)) (group_tree names) groups)
    ∙ ap (map (λ (g : GroupDef). label (GroupNamed g.name))) (ap (λ (x : Component). x.groups) is)
    ∙ sym (map-map label (λ (g : GroupDef). GroupNamed g.name) c.groups) in
    let second : map (λ (invoke : Invoke). codes " #" ++ decimal invoke.item) control.invokes.items ≡ map label (map (λ (i : InvokeDef). InvokeAt i.item) (invokes_in c)) =
    sym (map-map (λ (i : InvokeDef). label (InvokeAt i.item)) (invoke_tree names) control.invokes.items)
    ∙ ap (map (λ (i : InvokeDef). label (InvokeAt i.item))) control_is.invokes_are
    ∙ sym (map-map label (λ (i : InvokeDef). InvokeAt i.item) (invokes_in c)) in
    made ∙ ap₂ ◌++◌ first second
    ∙ sym (map-append label (map (λ (g : GroupDef). GroupNamed g.name) c.groups) (map (λ (i : InvokeDef). InvokeAt i.item) (invokes_in c)))
