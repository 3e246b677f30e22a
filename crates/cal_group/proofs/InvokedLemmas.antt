-- The group of an invoke in memory, in its names and in later ones.
use Rattle.std.proofs.Common.{◌≡◌, ℕ, List, [], ◌∷◌, ◌++◌, map, Option, Some, None, All, refl, sym, ap, ap₂, ◌∙◌, subst}
use Rattle.std.specs.Prelude.{codes, slice_get}
use Rattle.std.proofs.lemmas.List.{map-append}
use Rattle.std.proofs.lemmas.List.Elements.{All-nil, All-cons, All-head, All-tail, All-append, All-push}
use Rattle.std.proofs.lemmas.Option.{slice_get_within}
use Rattle.hw_names.proofs.NameLemmas.{text_of-KeepsTexts, text_of-slice_get}
use Rattle.hw_names.specs.Name.{KeepsTexts, Text, text_of}
use Rattle.hw_names.specs.declared.names.NameId.{NameId}
use Rattle.net_core.specs.Numbers.{IsNumberOf}
use Rattle.net_core.specs.declared.net.Src.{Src}
use Rattle.net_core.specs.declared.net.Src.TheVariants.{Port, Lit}
use Rattle.cal_ast.specs.Invoking.{InvokeDef, invoke_done, invoke_group, gives_input, takes_output, starts_cell, go_of}
use Rattle.cal_ast.specs.Numbers.{DoneHasNumbers, GroupHasNumbers, InHasNumbers, OutHasNumbers, SetHasNumbers}
use Rattle.cal_ast.specs.Tree.{PortName, Assignment, DoneLine, GroupDef, Invoke, Component, Design, assignment_tree, done_tree, group_tree, in_tree, out_tree}
use Rattle.cal_ast.specs.declared.tree.Assign.{Assign}
use Rattle.cal_ast.specs.declared.tree.DoneSet.{DoneSet}
use Rattle.cal_ast.specs.declared.tree.Group.{Group}
use Rattle.cal_ast.specs.declared.tree.InBind.{InBind}
use Rattle.cal_ast.specs.declared.tree.OutBind.{OutBind}
use Rattle.cal_group.specs.inside.Expanded.{invoke_name}
use Rattle.cal_group.specs.inside.Expansion.{AddsGroups, IsInvokedGroup, IsLater, binding_sets, taking_sets, start_set, done_line, port_at}
use Rattle.cal_group.specs.declared.expand.Call.{Call}
use Rattle.cal_group.proofs.StableLemmas.{id_number, port_kept, port_numbers, source_kept, source_numbers}

-- ---- its assignments

module _ (source later : List Text) (kept : KeepsTexts source later) (cell : NameId) (known : IsNumberOf source cell) where
  abbrev cell_text : Text
  cell_text = text_of source cell

  same_cell : text_of later cell ≡ cell_text
  same_cell = text_of-KeepsTexts source later cell kept known

  gives_is : (b : InBind) → InHasNumbers source b → assignment_tree later (record { dst = port_at cell b.port; guard = None; src = b.src }) ≡ gives_input cell_text (in_tree source b)
  gives_is b has =
      let of : Text → Text → Src PortName → Assignment = λ c p s. record { dst = record { cell = Some c; pin = p }; guard = None; src = s } in
      let pin = text_of-KeepsTexts source later b.port kept has.0 in
      let src = source_kept source later kept b.src has.1 in
      λ j. of (same_cell j) (pin j) (src j)

  pub gives_are : (ins : List InBind) → All (InHasNumbers source) ins → map (assignment_tree later) (binding_sets cell ins) ≡ map (gives_input cell_text) (map (in_tree source) ins)
  gives_are [] all = refl
  gives_are (b ∷ ins) all = ap₂ ◌∷◌ (gives_is b (All-head (InHasNumbers source) b ins all)) (gives_are ins (All-tail (InHasNumbers source) b ins all))

  takes_is : (b : OutBind) → OutHasNumbers source b → assignment_tree later (record { dst = b.dst; guard = None; src = Port (port_at cell b.port) }) ≡ takes_output cell_text (out_tree source b)
  takes_is b has =
      let of : PortName → Text → Text → Assignment = λ d c p. record { dst = d; guard = None; src = Port (record { cell = Some c; pin = p }) } in
      let dst = port_kept source later kept b.dst has.1 in
      let pin = text_of-KeepsTexts source later b.port kept has.0 in
      λ j. of (dst j) (same_cell j) (pin j)

  pub takes_are : (outs : List OutBind) → All (OutHasNumbers source) outs → map (assignment_tree later) (taking_sets cell outs) ≡ map (takes_output cell_text) (map (out_tree source) outs)
  takes_are [] all = refl
  takes_are (b ∷ outs) all = ap₂ ◌∷◌ (takes_is b (All-head (OutHasNumbers source) b outs all)) (takes_are outs (All-tail (OutHasNumbers source) b outs all))

  pub starts_is : (go : NameId) (text : Text) (o : Option Text) → text_of later go ≡ text → o ≡ Some text → map (assignment_tree later) (start_set cell go ∷ []) ≡ starts_cell cell_text o
  starts_is go text o is of_cell =
      let of : Text → Text → Assignment = λ c p. record { dst = record { cell = Some c; pin = p }; guard = None; src = Lit 1 1 } in
      ap₂ (λ (c p : Text). of c p ∷ []) same_cell is ∙ ap (starts_cell cell_text) (sym of_cell)

  pub done_is : (name done : NameId) (group : Text) → text_of later name ≡ group → text_of later done ≡ codes "done" → done_tree later (done_line name cell done) ≡ invoke_done group cell_text
  done_is name done group is of_done =
      let of : Text → Text → Text → DoneLine = λ g c p. record { group = g; guard = None; src = Port (record { cell = Some c; pin = p }) } in
      λ j. of (is j) (same_cell j) (of_done j)

  -- ---- their numbers

  abbrev within : IsNumberOf later cell
  within = id_number source later kept cell known

  pub gives_numbers : (ins : List InBind) → All (InHasNumbers source) ins → All (SetHasNumbers later) (binding_sets cell ins)
  gives_numbers [] all = All-nil (SetHasNumbers later)
  gives_numbers (b ∷ ins) all =
      let has = All-head (InHasNumbers source) b ins all in
      let set : Assign = record { dst = port_at cell b.port; guard = None; src = b.src } in
      All-cons (SetHasNumbers later) set (binding_sets cell ins) ((within, id_number source later kept b.port has.0), tt, source_numbers source later kept b.src has.1)
      (gives_numbers ins (All-tail (InHasNumbers source) b ins all))

  pub takes_numbers : (outs : List OutBind) → All (OutHasNumbers source) outs → All (SetHasNumbers later) (taking_sets cell outs)
  takes_numbers [] all = All-nil (SetHasNumbers later)
  takes_numbers (b ∷ outs) all =
      let has = All-head (OutHasNumbers source) b outs all in
      let set : Assign = record { dst = b.dst; guard = None; src = Port (port_at cell b.port) } in
      All-cons (SetHasNumbers later) set (taking_sets cell outs) (port_numbers source later kept b.dst has.1, tt, (within, id_number source later kept b.port has.0))
      (takes_numbers outs (All-tail (OutHasNumbers source) b outs all))

-- ---- the group

-- an invoke is of a cell of the source, and the group's name and the ports that it uses are these names
pub record IsNamedCall (source names : List Text) (call : Call) (go : Text) (group : NameId) (k : ℕ) : Type 0 where
  pub cell : IsNumberOf source call.cell
  pub ins : All (InHasNumbers source) call.ins.now
  pub outs : All (OutHasNumbers source) call.outs.now
  pub starts : slice_get names call.go.0 ≡ Some go
  pub done : slice_get names call.done.0 ≡ Some (codes "done")
  pub name : slice_get names group.0 ≡ Some (invoke_name k)

module _ (source names : List Text) (call : Call) (go : Text) (name : NameId) (k : ℕ) (named : IsNamedCall source names call go name k) (group : Group) (made : IsInvokedGroup call name group) where
  module _ (later : List Text) (is_later : IsLater names source later) where
    abbrev gives : List Assign
    gives = binding_sets call.cell call.ins.now

    abbrev start : List Assign
    start = start_set call.cell call.go ∷ []

    abbrev takes : List Assign
    takes = taking_sets call.cell call.outs.now

    name_at : slice_get later name.0 ≡ Some (invoke_name k)
    name_at = is_later.0 name.0 (invoke_name k) named.name

    go_at : slice_get later call.go.0 ≡ Some go
    go_at = is_later.0 call.go.0 go named.starts

    done_at : slice_get later call.done.0 ≡ Some (codes "done")
    done_at = is_later.0 call.done.0 (codes "done") named.done

    pub group_numbers : GroupHasNumbers later group
    group_numbers =
        let cell = id_number source later is_later.1 call.cell named.cell in
        let of_name : IsNumberOf later name = slice_get_within later name.0 (invoke_name k) name_at in
        let of_go : IsNumberOf later call.go = slice_get_within later call.go.0 go go_at in
        let of_done : IsNumberOf later call.done = slice_get_within later call.done.0 (codes "done") done_at in
        let N : NameId → Type 0 = IsNumberOf later in
        let S : List Assign → Type 0 = All (SetHasNumbers later) in
        let D : List DoneSet → Type 0 = All (DoneHasNumbers later) in
        record {
          name = subst N (sym made.name_is) of_name;
          sets = subst S (sym made.sets) (All-append (SetHasNumbers later) (gives ++ start) takes
              (All-push (SetHasNumbers later) gives (start_set call.cell call.go) (gives_numbers source later is_later.1 call.cell named.cell call.ins.now named.ins) ((cell, of_go), tt, tt))
              (takes_numbers source later is_later.1 call.cell named.cell call.outs.now named.outs));
          dones = subst D (sym made.dones) (All-cons (DoneHasNumbers later) (done_line name call.cell call.done) [] (of_name, tt, (cell, of_done)) (All-nil (DoneHasNumbers later)));
        }

    module _ (design : Design) (c : Component) (starts : go_of design c (text_of source call.cell) ≡ Some go) where
      abbrev invoke : InvokeDef
      invoke = record { item = k; cell = text_of source call.cell; ins = map (in_tree source) call.ins.now; outs = map (out_tree source) call.outs.now }

      sets_are : map (assignment_tree later) group.sets.items
          ≡ map (gives_input invoke.cell) invoke.ins ++ starts_cell invoke.cell (go_of design c invoke.cell) ++ map (takes_output invoke.cell) invoke.outs
      sets_are =
          let t = assignment_tree later in
          let given = gives_are source later is_later.1 call.cell named.cell call.ins.now named.ins in
          let started = starts_is source later is_later.1 call.cell named.cell call.go go (go_of design c invoke.cell) (text_of-slice_get later call.go go go_at) starts in
          let taken = takes_are source later is_later.1 call.cell named.cell call.outs.now named.outs in
          ap (map t) made.sets ∙ map-append t (gives ++ start) takes ∙ ap (λ (l : List Assignment). l ++ map t takes) (map-append t gives start) ∙ (λ j. (given j ++ started j) ++ taken j)

      dones_are : map (done_tree later) group.dones.items ≡ invoke_done (invoke_name k) invoke.cell ∷ []
      dones_are =
          ap (map (done_tree later)) made.dones
          ∙ ap (λ (d : DoneLine). d ∷ []) (done_is source later is_later.1 call.cell named.cell name call.done (invoke_name k) (text_of-slice_get later name (invoke_name k) name_at) (text_of-slice_get later call.done (codes "done") done_at))

      pub group_is : group_tree later group ≡ invoke_group design c (invoke_name k) invoke
      group_is =
          let of : Text → _ → List Assignment → List DoneLine → GroupDef = λ n b s d. record { name = n; comb = b; sets = s; dones = d } in
          let n : text_of later group.name ≡ invoke_name k = ap (text_of later) made.name_is ∙ text_of-slice_get later name (invoke_name k) name_at in
          let b = made.acts in
          let s = sets_are in
          let d = dones_are in
          λ j. of (n j) (b j) (s j) (d j)

  -- the groups so far, and this one
  pub adds_invoke : (design : Design) (c : Component) → go_of design c (text_of source call.cell) ≡ Some go → (before after : List Group) → after ≡ before ++ group ∷ []
      → AddsGroups design c source names k (Invoke (text_of source call.cell) (map (in_tree source) call.ins.now) (map (out_tree source) call.outs.now) ∷ []) before after
  adds_invoke design c starts before after puts = record {
    numbers = λ later is all. (
        let P : List Group → Type 0 = All (GroupHasNumbers later) in
        subst P (sym puts) (All-push (GroupHasNumbers later) before group all (group_numbers later is)));
    trees = λ later is.
        ap (map (group_tree later)) puts ∙ map-append (group_tree later) before (group ∷ [])
        ∙ ap (λ (g : GroupDef). map (group_tree later) before ++ g ∷ []) (group_is later is design c starts);
  }
