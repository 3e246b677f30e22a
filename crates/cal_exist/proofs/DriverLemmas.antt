-- What drives each port of a design: one thing alone, told by its full name.
use Rattle.std.proofs.Common.{◌≡◌, ◌⊎◌, inl, inr, ℕ, List, [], ◌∷◌, ◌++◌, Bool, true, false, not, ◌&&◌, Option, Some, None, refl, sym, ap, ap₂, ◌∙◌, subst}
use Rattle.std.specs.Prelude.{Contains, bytes_eq, codes, is_some, slice_get, if◌then◌else◌}
use Rattle.std.proofs.lemmas.Option.{same_Some, slice_get-get_or, slice_get_within, get_or_from_slice_get}
use Rattle.hw_names.proofs.NameLemmas.{full_name-append, plain_append, same_number}
use Rattle.hw_names.specs.Name.{Text, Path, dotted, full_name, port_at}
use Rattle.hw_prims.specs.Table.{Pin, pin_names, outputs_of}
use Rattle.hw_prims.specs.declared.prim.Primitive.{Primitive}
use Rattle.net_core.specs.Circuit.{Drive}
use Rattle.cal_ast.proofs.InstanceLemmas.{component_at-below}
use Rattle.cal_ast.proofs.LookupLemmas.{cell_inputs-part, primitive_or_part}
use Rattle.cal_ast.proofs.PlainLemmas.{known_ports_are_plain}
use Rattle.cal_ast.proofs.SideLemmas.{destination_pin, input_first, some_found}
use Rattle.cal_ast.specs.CalRun.{values_for}
use Rattle.cal_ast.specs.Instances.{component_at, IsPrimitiveCell}
use Rattle.cal_ast.specs.Naming.{Unreserved, IsKnownPort}
use Rattle.cal_ast.specs.Plain.{IsPlainPort, HasPlainTree}
use Rattle.cal_ast.specs.Ports.{Side, Input, Output, SidedPin, is_bare, inputs_in, outputs_in, part_in, primitive_in, port_in, side_in}
use Rattle.cal_ast.specs.Rules.{CalRules}
use Rattle.cal_ast.specs.Schedule.{IsPortOf}
use Rattle.cal_ast.specs.Sides.{IsDestination}
use Rattle.cal_ast.specs.Tree.{PortName, own, port_of, Component, Design}
use Rattle.cal_walk.specs.Stages.{Progress}
use Rattle.cal_runs.proofs.RoleLemmas.{destination_known, role_of}
use Rattle.cal_runs.proofs.RoleLemmas as told
use Rattle.net_runs.proofs.OrderlyLemmas.{Role, Given, Driven, Computed, Alike}
use Rattle.cal_exist.proofs.ActivityLemmas.{activity, circuit, done_in}
use Rattle.cal_exist.proofs.PartLemmas.{Parts, End, parts, end_of, end_of-append}
use Rattle.cal_exist.proofs.PortLemmas.{outputs_apart, output_side, here, plain_here, done_side, input_not_done, parts_name, port_or_not}

-- the inputs of the top, the assignments of an instance, its control, or a primitive's cell and its output
data Driver : Type 0 where
  FromTop : Driver
  ByAssignments : Path → Driver
  ByControl : Path → Driver
  ByCell : Path → Text → Text → Driver

-- an input of an instance is driven by the one above it
abbrev input_driver : Option End → Driver
input_driver None = FromTop
input_driver (Some e) = ByAssignments e.above

abbrev sided_driver : Path → Option End → Option Side → Driver
sided_driver path e None = input_driver e
sided_driver path e (Some Input) = input_driver e
sided_driver path e (Some Output) = ByAssignments path

abbrev own_driver : Path → Option End → Bool → Option Side → Driver
own_driver path e true side = ByControl path
own_driver path e false side = sided_driver path e side

abbrev cell_driver : End → Text → Option Side → Driver
cell_driver e pin None = FromTop
cell_driver e pin (Some Input) = ByAssignments e.above
cell_driver e pin (Some Output) = ByCell e.above e.cell pin

abbrev gives_done : Component → Text → Bool
gives_done c pin = not (is_bare c) && bytes_eq pin (codes "done")

abbrev side_of : Design → Option Component → PortName → Option Side
side_of design None p = None
side_of design (Some c) p = side_in design c p

module _ (design : Design) (top : Component) where
  abbrev end_driver : Text → Option End → Driver
  end_driver pin None = FromTop
  end_driver pin (Some e) = cell_driver e pin (side_of design (component_at design top e.above) (port_of e.cell pin))

  abbrev driver_by : Path → Text → Option Component → Driver
  driver_by path pin None = end_driver pin (end_of path)
  driver_by path pin (Some c) = own_driver path (end_of path) (gives_done c pin) (side_in design c (own pin))

  abbrev driver_of : Parts → Driver
  driver_of p = driver_by p.path p.last (component_at design top p.path)

module _ (design : Design) (top : Component) (plain : HasPlainTree design) (rules : CalRules design) (in_design : Contains design top) (progress : Path → Progress) where
  abbrev pub RoleOf : Text → Type 0
  RoleOf = Role (circuit design top progress)

  driver : Text → Driver
  driver name = driver_of design top (parts name)

  plain_known : (path : Path) (c : Component) → component_at design top path ≡ Some c → (cell : Option Text) (pin : Text) → IsKnownPort design c (record { cell = cell; pin = pin }) → IsPlainPort (record { cell = cell; pin = pin })
  plain_known path c at cell pin known = known_ports_are_plain design c (record { cell = cell; pin = pin }) plain (here design top plain rules in_design path c at) known

  -- ---- each role has its driver

  from_top : (name : Text) → Contains (pin_names (inputs_in top)) name → driver name ≡ FromTop
  unfolding driver
  from_top name has =
      let side = input_first (inputs_in top) (outputs_in top) name has in
      let known = let q = some_found (λ (x : SidedPin). x.side) (port_in design top (own name)) Input side in ap is_some q.1 in
      let is = plain_known [] top refl None name known in
      ap (driver_of design top) (parts_name design top plain rules in_design [] name name (plain_here design top plain rules in_design [] top refl) is.1 refl)
      ∙ ap₂ (own_driver [] None) (input_not_done design top plain rules in_design [] top refl name has) side

  not_control : (c : Component) (pin : Text) → (is_bare c ≡ false → bytes_eq pin (codes "done") ≡ false) → gives_done c pin ≡ false
  not_control c pin other = by (is_bare c) refl
    where
      by : (b : Bool) → is_bare c ≡ b → (not b && bytes_eq pin (codes "done")) ≡ false
      by true bare = refl
      by false control = other control

  assigned_below : (path : Path) (c : Component) (cell pin : Text) → component_at design top path ≡ Some c → IsDestination design c (port_of cell pin) → driver_of design top (record { path = path ++ cell ∷ []; last = pin }) ≡ ByAssignments path
  assigned_below path c cell pin at sink = by (part_in design c cell) refl
    where
      by : (o : Option Component) → part_in design c cell ≡ o → driver_of design top (record { path = path ++ cell ∷ []; last = pin }) ≡ ByAssignments path
      by None none =
          ap (driver_by design top (path ++ cell ∷ []) pin) (component_at-below design top path c cell at ∙ none)
          ∙ ap (end_driver design top pin) (end_of-append path cell)
          ∙ ap (λ (o : Option Component). cell_driver (record { above = path; cell = cell }) pin (side_of design o (port_of cell pin))) at
          ∙ ap (cell_driver (record { above = path; cell = cell }) pin) sink.side
      by (Some part) is =
          let at_part = component_at-below design top path c cell at ∙ is in
          let has = subst (λ (pins : List Pin). Contains (pin_names pins) pin) (cell_inputs-part design c cell part is) (destination_pin design c (Some cell) pin sink) in
          ap (driver_by design top (path ++ cell ∷ []) pin) at_part
          ∙ ap₂ (own_driver (path ++ cell ∷ []) (end_of (path ++ cell ∷ []))) (input_not_done design top plain rules in_design (path ++ cell ∷ []) part at_part pin has) (input_first (inputs_in part) (outputs_in part) pin has)
          ∙ ap input_driver (end_of-append path cell)

  by_assignments : (name : Text) (path : Path) (c : Component) (cell : Option Text) (pin : Text) → component_at design top path ≡ Some c → IsDestination design c (record { cell = cell; pin = pin }) → port_at path cell pin ≡ name → driver name ≡ ByAssignments path
  unfolding driver
  by_assignments name path c None pin at sink named =
      let is = plain_known path c at None pin (destination_known design c (own pin) sink) in
      ap (driver_of design top) (parts_name design top plain rules in_design path pin name (plain_here design top plain rules in_design path c at) is.1 named)
      ∙ ap (driver_by design top path pin) at
      ∙ ap₂ (own_driver path (end_of path)) (not_control c pin sink.not_done) sink.side
  by_assignments name path c (Some cell) pin at sink named =
      let is = plain_known path c at (Some cell) pin (destination_known design c (port_of cell pin) sink) in
      ap (driver_of design top) (parts_name design top plain rules in_design (path ++ cell ∷ []) pin name (plain_append path cell (plain_here design top plain rules in_design path c at) is.0) is.1 (full_name-append path cell pin ∙ named))
      ∙ assigned_below path c cell pin at sink

  done_known : (path : Path) (c : Component) → component_at design top path ≡ Some c → is_bare c ≡ false → IsKnownPort design c (own (codes "done"))
  done_known path c at control =
      let q = some_found (λ (x : SidedPin). x.side) (port_in design c (own (codes "done"))) Output (done_side design top plain rules in_design path c at control) in
      ap is_some q.1

  by_control : (name : Text) (path : Path) (c : Component) → component_at design top path ≡ Some c → is_bare c ≡ false → full_name path (codes "done") ≡ name → driver name ≡ ByControl path
  unfolding driver
  by_control name path c at control named =
      let is = plain_known path c at None (codes "done") (done_known path c at control) in
      ap (driver_of design top) (parts_name design top plain rules in_design path (codes "done") name (plain_here design top plain rules in_design path c at) is.1 named)
      ∙ ap (driver_by design top path (codes "done")) at
      ∙ ap (λ (b : Bool). own_driver path (end_of path) (not b && bytes_eq (codes "done") (codes "done")) (side_in design c (own (codes "done")))) control

  output_known : (c : Component) (cell : Text) (prim : Primitive) (output : Text) → primitive_in c cell ≡ Some prim → Contains (pin_names (outputs_of prim)) output → IsKnownPort design c (port_of cell output)
  output_known c cell prim output made has =
      let q = some_found (λ (x : SidedPin). x.side) (port_in design c (port_of cell output)) Output (output_side c cell prim made design output has) in
      ap is_some q.1

  by_cell : (name output cell : Text) (prim : Primitive) → (is : IsPrimitiveCell design top cell prim) → Contains (pin_names (outputs_of prim)) output → dotted cell output ≡ name → driver name ≡ ByCell is.path is.cell output
  unfolding driver
  by_cell name output cell prim is has named =
      let plains = plain_known is.path is.c is.at (Some is.cell) output (output_known is.c is.cell prim output is.made has) in
      ap (driver_of design top) (parts_name design top plain rules in_design (is.path ++ is.cell ∷ []) output name (plain_append is.path is.cell (plain_here design top plain rules in_design is.path is.c is.at) plains.0) plains.1
      (full_name-append is.path is.cell output ∙ ap (λ (x : Text). dotted x output) is.named ∙ named))
      ∙ ap (driver_by design top (is.path ++ is.cell ∷ []) output) (component_at-below design top is.path is.c is.cell is.at ∙ no_part (part_in design is.c is.cell) refl)
      ∙ ap (end_driver design top output) (end_of-append is.path is.cell)
      ∙ ap (λ (o : Option Component). cell_driver (record { above = is.path; cell = is.cell }) output (side_of design o (port_of is.cell output))) is.at
      ∙ ap (cell_driver (record { above = is.path; cell = is.cell }) output) (output_side is.c is.cell prim is.made design output has)
    where
      no_part : (o : Option Component) → part_in design is.c is.cell ≡ o → part_in design is.c is.cell ≡ None
      no_part None none = none
      no_part (Some part) some = absurd (primitive_or_part design is.c is.cell prim part is.made some)

  contained : (pins : List Text) (k : ℕ) (pin : Text) → slice_get pins k ≡ Some pin → Contains pins pin
  contained pins k pin at = (k, slice_get_within pins k pin at, get_or_from_slice_get pins k pin pin at)

  -- what a role says of the driver
  abbrev Says : (name : Text) → RoleOf name → Driver → Type 0
  Says name (Given is) d = d ≡ FromTop
  Says name (Driven drive (inl s)) d = d ≡ ByAssignments s.path
  Says name (Driven drive (inr s)) d = d ≡ ByControl s.path
  Says name (Computed cell prim k output is at named) d = d ≡ ByCell is.path is.cell output

  says : (name : Text) (r : RoleOf name) → Says name r (driver name)
  says name (Given is) = from_top name is
  says name (Driven drive (inl s)) = by_assignments name s.path s.c s.cell s.pin s.at s.sink s.named
  says name (Driven drive (inr s)) = by_control name s.path s.c s.at s.control s.named
  says name (Computed cell prim k output is at named) = by_cell name output cell prim is (contained (pin_names (outputs_of prim)) k output at) named

  -- ---- one driver makes one role

  same_component : (p q : Path) (c d : Component) → component_at design top p ≡ Some c → component_at design top q ≡ Some d → p ≡ q → c ≡ d
  same_component p q c d at at' same = same_Some c d (sym at ∙ ap (component_at design top) same ∙ at')

  same_assignments : (p q : Path) → ByAssignments p ≡ ByAssignments q → p ≡ q
  same_assignments p q e = cc

  same_control : (p q : Path) → ByControl p ≡ ByControl q → p ≡ q
  same_control p q e = cc

  same_cell : (p q : Path) (a b x y : Text) → ByCell p a x ≡ ByCell q b y → (p ≡ q) × (a ≡ b) × (x ≡ y)
  same_cell p q a b x y e = (cc, cc, cc)

  alike : (name : Text) (r r' : RoleOf name) (d : Driver) → Says name r d → Says name r' d → Alike (circuit design top progress) name r r'
  alike name (Given is) (Given is') d e e' = tt
  alike name (Driven drive (inl s)) (Driven drive' (inl s')) d e e' =
      let path = same_assignments s.path s'.path (sym e ∙ e') in
      let c = same_component s.path s'.path s.c s'.c s.at s'.at path in
      λ t row. ap (λ (f : Drive). f t row) s.drives ∙ ap₂ (λ (p : Path) (x : Component). values_for p name row ((activity design top progress).sets p x t row)) path c ∙ sym (ap (λ (f : Drive). f t row) s'.drives)
  alike name (Driven drive (inr s)) (Driven drive' (inr s')) d e e' =
      let path = same_control s.path s'.path (sym e ∙ e') in
      λ t row. ap (λ (f : Drive). f t row) s.drives ∙ ap (λ (p : Path). (if done_in design top progress p t then 1 else 0) ∷ []) path ∙ sym (ap (λ (f : Drive). f t row) s'.drives)
  alike name (Computed cell prim k output is at named) (Computed cell' prim' k' output' is' at' named') d e e' =
      let same = same_cell is.path is'.path is.cell is'.cell output output' (sym e ∙ e') in
      let c = same_component is.path is'.path is.c is'.c is.at is'.at same.0 in
      let prims : prim ≡ prim' = same_Some prim prim' (sym is.made ∙ ap₂ primitive_in c same.1 ∙ is'.made) in (
        sym is.named ∙ ap₂ full_name same.0 same.1 ∙ is'.named,
        prims,
        same_number (pin_names (outputs_of prim')) k k' output' (outputs_apart is'.c is'.cell prim' is'.made) (subst (λ (p : Primitive). slice_get (pin_names (outputs_of p)) k ≡ Some output') prims (at ∙ ap Some same.2)) at',
      )
  alike name (Given is) (Driven drive' (inl s')) d e e' = let bad : FromTop ≡ ByAssignments s'.path = sym e ∙ e' in cc
  alike name (Given is) (Driven drive' (inr s')) d e e' = let bad : FromTop ≡ ByControl s'.path = sym e ∙ e' in cc
  alike name (Given is) (Computed cell' prim' k' output' is' at' named') d e e' = let bad : FromTop ≡ ByCell is'.path is'.cell output' = sym e ∙ e' in cc
  alike name (Driven drive (inl s)) (Given is') d e e' = let bad : ByAssignments s.path ≡ FromTop = sym e ∙ e' in cc
  alike name (Driven drive (inl s)) (Driven drive' (inr s')) d e e' = let bad : ByAssignments s.path ≡ ByControl s'.path = sym e ∙ e' in cc
  alike name (Driven drive (inl s)) (Computed cell' prim' k' output' is' at' named') d e e' = let bad : ByAssignments s.path ≡ ByCell is'.path is'.cell output' = sym e ∙ e' in cc
  alike name (Driven drive (inr s)) (Given is') d e e' = let bad : ByControl s.path ≡ FromTop = sym e ∙ e' in cc
  alike name (Driven drive (inr s)) (Driven drive' (inl s')) d e e' = let bad : ByControl s.path ≡ ByAssignments s'.path = sym e ∙ e' in cc
  alike name (Driven drive (inr s)) (Computed cell' prim' k' output' is' at' named') d e e' = let bad : ByControl s.path ≡ ByCell is'.path is'.cell output' = sym e ∙ e' in cc
  alike name (Computed cell prim k output is at named) (Given is') d e e' = let bad : ByCell is.path is.cell output ≡ FromTop = sym e ∙ e' in cc
  alike name (Computed cell prim k output is at named) (Driven drive' (inl s')) d e e' = let bad : ByCell is.path is.cell output ≡ ByAssignments s'.path = sym e ∙ e' in cc
  alike name (Computed cell prim k output is at named) (Driven drive' (inr s')) d e e' = let bad : ByCell is.path is.cell output ≡ ByControl s'.path = sym e ∙ e' in cc

  pub one_role : (name : Text) (r r' : RoleOf name) → Alike (circuit design top progress) name r r'
  one_role name r r' = alike name r r' (driver name) (says name r) (says name r')

  -- ---- ports and roles

  to_role : (name : Text) → told.Role design top name → RoleOf name
  to_role name (told.Given has) = Given has
  to_role name (told.Driven path c cell pin at sink named) =
      Driven (λ t row. values_for path name row ((activity design top progress).sets path c t row)) (inl (record { path = path; c = c; at = at; cell = cell; pin = pin; sink = sink; named = named; drives = refl }))
  to_role name (told.Controlled path c at control named) =
      Driven (λ t row. (if done_in design top progress path t then 1 else 0) ∷ []) (inr (record { path = path; c = c; at = at; control = control; named = named; drives = refl }))
  to_role name (told.Computed cell prim output is has named) =
      Computed cell prim has.0 output is (slice_get-get_or (pin_names (outputs_of prim)) has.0 output has.1 ∙ ap Some has.2) named

  pub role_port : (name : Text) → RoleOf name → IsPortOf design top name
  role_port name (Given has) =
      let q = some_found (λ (x : SidedPin). x.side) (port_in design top (own name)) Input (input_first (inputs_in top) (outputs_in top) name has) in
      record { path = []; c = top; at = refl; p = own name; known = ap is_some q.1; named = refl }
  role_port name (Driven drive (inl s)) =
      record { path = s.path; c = s.c; at = s.at; p = record { cell = s.cell; pin = s.pin }; known = destination_known design s.c (record { cell = s.cell; pin = s.pin }) s.sink; named = s.named }
  role_port name (Driven drive (inr s)) =
      record { path = s.path; c = s.c; at = s.at; p = own (codes "done"); known = done_known s.path s.c s.at s.control; named = s.named }
  role_port name (Computed cell prim k output is at named) =
      record {
        path = is.path;
        c = is.c;
        at = is.at;
        p = port_of is.cell output;
        known = output_known is.c is.cell prim output is.made (contained (pin_names (outputs_of prim)) k output at);
        named = ap (λ (x : Text). dotted x output) is.named ∙ named;
      }

  pub decide_role : (name : Text) → RoleOf name ⊎ (RoleOf name → ⊥)
  decide_role name = elim (port_or_not design top plain rules in_design name) [
    | inl port ↦ inl (to_role name (role_of Unreserved design top rules.keeps in_design name port))
    | inr none ↦ inr (λ r. none (role_port name r))
  ]
