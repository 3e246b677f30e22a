-- A lowered design that is flattened keeps what the Filament design promises: its ports, its cells and its transactions.
use Rattle.std.proofs.Common.{◌≡◌, ◌⊎◌, ℕ, true, false, ◌&&◌, Bool, List, [], ◌∷◌, ◌++◌, codes, take, slice_get, Option, Some, refl, sym, ap, subst, ◌∙◌, inl, inr}
use Rattle.std.specs.Option.{unwrap_or}
use Rattle.std.specs.Prelude.{Contains, bytes_eq}
use Rattle.std.proofs.lemmas.Bool.{false≢true}
use Rattle.std.proofs.lemmas.List.Elements.{All-contains, Contains-push}
use Rattle.std.proofs.lemmas.Option.{none-some}
use Rattle.std.proofs.lemmas.Slice.Eq.{bytes_eq-Decides}
use Rattle.hw_names.specs.Name.{Path, Text, IsPlain, IsPlainPath, dotted, full_name}
use Rattle.hw_names.proofs.NameLemmas.{plain_append}
use Rattle.hw_prims.specs.Table.{is_memory, is_primitive}
use Rattle.net_core.specs.NetRun.{net_circuit}
use Rattle.net_core.specs.Netlist.{CellLine, Netlist, netlist_of}
use Rattle.cal_ast.specs.Keeping.{flat_cell, is_top}
use Rattle.cal_ast.specs.Plain.{IsPlainCell, IsPlainComponent}
use Rattle.cal_ast.specs.Top as calyx_top
use Rattle.cal_ast.specs.Tree as calyx
use Rattle.cal_ast.specs.Tree.{CellDef}
use Rattle.cal_ast.proofs.InstanceLemmas.{plain_path}
use Rattle.cal_ast.proofs.ListLemmas.{Contains-at}
use Rattle.fil_ast.specs.Primitives.{table_name}
use Rattle.fil_ast.specs.Scope.{Instance, instance_named}
use Rattle.fil_ast.specs.Top.{IsTop}
use Rattle.fil_ast.specs.Tree.{Component}
use Rattle.fil_ast.specs.Wires.{whole_scope}
use Rattle.fil_fsm.specs.Chain.{register}
use Rattle.fil_promise.specs.Refines.{IsGenerated, CarriesLists, HasInstanceCells, IsInstanceAt, IsInstanceCell, IsMadeByLowering, instance_cell, joined}
use Rattle.fil_lower.specs.Lowers as wires
use Rattle.fil_lower.proofs.AvailableLemmas.{found_passes}
use Rattle.fil_lower.proofs.CallLemmas.{found_among}
use Rattle.fil_lower.proofs.LoweredLemmas.{is_made_of}
use Rattle.fil_lower.proofs.MadeLemmas.{instance_found, is_instance}
use Rattle.fil_lower.proofs.NameLemmas.{from_map}
use Rattle.net_flat.specs.Flattened.{IsFlattened}
use Rattle.fil_net.specs.Laws.{FlattenedLoweringsRefine}
use Rattle.fil_net.proofs.InstanceLemmas.{WiresOf, comp_at, component_made, low_at, low_below, low_name, primitive_made, same_names, stands_below}

-- ---- names and lines of cells

joined_full : (path : Path) (name : Text) → full_name path name ≡ joined (path ++ name ∷ [])
joined_full [] name = refl
joined_full (s ∷ []) name = refl
joined_full (s ∷ r ∷ path) name = ap (dotted s) (joined_full (r ∷ path) name)

not_shown : (path : Path) (memory : Bool) → (is_top path && false && memory) ≡ false
not_shown [] memory = refl
not_shown (s ∷ path) memory = refl

-- an instance's cell at a path is the line of the instance
instance_line : (path : Path) (i : Instance) (table : Text) → table_name i.made ≡ Some table → flat_cell path (wires.instance_cell i) ≡ instance_cell (path ++ i.name ∷ []) table i
instance_line path i table told = λ j. record {
  name = joined_full path i.name j;
  prim = ap (λ (o : Option Text). unwrap_or o i.made) told j;
  params = i.params;
  shown = not_shown path (is_memory (unwrap_or (table_name i.made) i.made)) j;
}

module _ (of : WiresOf) where
  open of use {comps, rules, design, lowers}

  -- ---- the top

  top_of : (n : ℕ) → calyx_top.IsTop design n → IsTop comps n
  top_of n (inl (low, at_low, named, first)) =
      let c = comp_at of n low at_low in
      inl (
        c.0,
        c.1,
        sym (low_name of n c.0 low c.1 at_low) ∙ named,
        λ m d less at_m is_main.
            let part = low_at of m d at_m in
            first m part.0 less part.1 (low_name of m d part.0 at_m part.1 ∙ is_main),
      )
  top_of n (inr (none, last)) = inr ((λ has. none (subst (λ (names : List Text). Contains names (codes "main")) (sym (same_names of)) has)), last ∙ lowers.count)

  -- ---- cells

  module _ (number : ℕ) (top : calyx.Component) (at_top : slice_get design number ≡ Some top) (n : Netlist) (flat : IsFlattened design top n) where
    instance_among : (path : Path) (i : Instance) (table : Text) → IsInstanceAt comps i number path → table_name i.made ≡ Some table → Contains n.cells (instance_cell path table i)
    instance_among path i table at told =
        let s = stands_below of i number path top at_top at in
        let instances : List Instance = (whole_scope (take s.m comps) s.c).instances in
        let among : Contains instances i = found_among (λ (j : Instance). bytes_eq j.name s.inst) instances i s.named in
        let is_named : i.name ≡ s.inst = (bytes_eq-Decides i.name s.inst).0 (found_passes (λ (j : Instance). bytes_eq j.name s.inst) instances i s.named) in
        let has : Contains s.found.cells (wires.instance_cell i) = (lowers.components s.m s.c s.found s.here s.at_found).cells.all i among in
        let made = is_instance comps rules s.m s.c s.here i among in
        let primitive : is_primitive (wires.instance_cell i).made ≡ true = elim made.kind [
          | inl p ↦ primitive_made of i p.table p.told (is_made_of p.table i.params p.prim p.is)
          | inr k ↦ absurd (none-some table (sym k.none ∙ told))
        ] in
        let path_is : s.before ++ i.name ∷ [] ≡ path = ap (λ (name : Text). s.before ++ name ∷ []) is_named ∙ sym s.ends in
        subst (Contains n.cells) (instance_line s.before i table told ∙ ap (λ (p : Path). instance_cell p table i) path_is) (flat.cells.all s.before s.found (wires.instance_cell i) s.at has primitive)

    -- a cell of a component that stands at the path is a primitive instance, or a register
    module _ (m : ℕ) (c : Component) (here : slice_get comps m ≡ Some c) (path : Path) (plain_at : IsPlainPath path)
        (instances : (inst : Text) (i : Instance) → instance_named (whole_scope (take m comps) c).instances inst ≡ Some i → IsInstanceAt comps i number (path ++ inst ∷ [])) (line : CellLine) where
      instance_known : (i : Instance) → Contains (whole_scope (take m comps) c).instances i → is_primitive (wires.instance_cell i).made ≡ true → line ≡ flat_cell path (wires.instance_cell i) → IsInstanceCell comps number line
      instance_known i has primitive is =
          let made = is_instance comps rules m c here i has in
          elim made.kind [
            | inl p ↦ (path ++ i.name ∷ [], i, p.table, instances i.name i (instance_found comps rules m c here i has), p.told, is ∙ instance_line path i p.table p.told)
            | inr k ↦
                (let made_is = component_made of i k.m k.d k.none k.at k.is_named in
                absurd (false≢true (sym (ap is_primitive made_is.0 ∙ made_is.1) ∙ primitive)))
          ]

      register_known : (name : Text) → IsGenerated name → IsPlain name → line ≡ flat_cell path (register name) → IsMadeByLowering line
      register_known name generated plain is = record {
        path = path ++ name ∷ [];
        segment = name;
        joins = ap (λ (l : CellLine). l.name) is ∙ joined_full path name;
        plain = plain_append path name plain_at plain;
        among = Contains-push path name;
        generated = generated;
        prim = ap (λ (l : CellLine). l.prim) is;
        params = ap (λ (l : CellLine). l.params) is;
        not_shown = ap (λ (l : CellLine). l.shown) is ∙ not_shown path (is_memory (codes "std_reg"));
      }

    line_known : (line : CellLine) → Contains n.cells line → IsInstanceCell comps number line ⊎ IsMadeByLowering line
    line_known line has =
        let f = flat.cells.only line has in
        let low = low_below of f.0 number top f.1 at_top f.3 in
        let path_is = plain_path design top f.0 f.1 lowers.plain (Contains-at design number top at_top) f.3 in
        elim ((lowers.components low.m low.c f.1 low.here low.at_found).cells.only f.2 f.4) [
          | inl of_instance ↦
              (let i = from_map wires.instance_cell (whole_scope (take low.m comps) low.c).instances f.2 of_instance in
              inl (instance_known low.m low.c low.here f.0 path_is low.instances line i.0 i.1 (ap (λ (x : CellDef). is_primitive x.made) i.2 ∙ f.5) (f.6 ∙ ap (flat_cell f.0) (sym i.2))))
          | inr made ↦
              (let plain : IsPlain f.2.name = All-contains IsPlainCell f.1.cells f.2 (All-contains IsPlainComponent design f.1 lowers.plain (Contains-at design low.m f.1 low.at_found)).cells f.4 in
              inr (register_known low.m low.c low.here f.0 path_is low.instances line f.2.name made.0 plain (f.6 ∙ ap (flat_cell f.0) made.1)))
        ]

    pub instance_cells : HasInstanceCells comps number n
    instance_cells = record { all = instance_among; only = line_known }

    -- ---- runs

    pub carries_lists : (c : Component) → slice_get comps number ≡ Some c → CarriesLists comps number c (net_circuit n)
    carries_lists c here txs legal own asked inputs loads height trace run give =
        let keeps = lowers.components number c top here at_top in
        let list = keeps.carries txs legal own asked inputs loads height trace ((flat.runs asked inputs loads height trace).0 run) give in
        record { whole = list.whole; clean = λ t port below conflict. list.clean t port below ((flat.conflicts t (trace t) port).0 conflict); legal = list.legal; carries = list.carries }

pub flattened_refine : FlattenedLoweringsRefine
flattened_refine comps design net rules lowers flat =
    let of : WiresOf = record { comps = comps; rules = rules; design = design; lowers = lowers } in
    let c = comp_at of flat.place flat.top flat.at in
    let keeps = lowers.components flat.place c.0 flat.top c.1 flat.at in
    record {
      number = flat.place;
      is_top = top_of of flat.place flat.is_top;
      c = c.0;
      at = c.1;
      valid = flat.valid;
      no_loop = flat.no_loop;
      name = flat.flattened.name ∙ keeps.name;
      ins = flat.flattened.ins ∙ keeps.ins;
      outs = flat.flattened.outs ∙ keeps.outs;
      cells = instance_cells of flat.place flat.top flat.at (netlist_of net) flat.flattened;
      carries = carries_lists of flat.place flat.top flat.at (netlist_of net) flat.flattened c.0 c.1;
    }
