-- What holds before the first statement of a component.
use Rattle.std.proofs.Common.{◌≡◌, ℕ, List, [], Some, None, slice_get, refl, sym, subst, arith}
use Rattle.std.proofs.lemmas.Option.{none-some, slice_get_within}
use Rattle.hw_names.specs.Name.{Text, AreDistinct}
use Rattle.fil_ast.specs.Items.{scope_after}
use Rattle.fil_ast.specs.Naming.{HasNewNames}
use Rattle.fil_ast.specs.Tree.{Design, component_tree}
use Rattle.fil_ast.specs.declared.tree.FilComp.{FilComp}
use Rattle.fil_rules.specs.inside.StandsAt.{StandsAt}
use Rattle.fil_place.specs.Starts.{use_at}
use Rattle.fil_place.specs.Tables.{Shows}
use Rattle.fil_place.specs.declared.earlier.Earlier.{Earlier}
use Rattle.fil_place.specs.declared.tables.Tables.{Tables}

-- what holds before the first statement of a component whose signature keeps F1
pub start : (names : List Text) (earlier : Earlier) (comps : Design) (comp : FilComp) (tables : Tables) → Shows earlier tables (scope_after comps (component_tree names comp) []) → HasNewNames comps (component_tree names comp) → ((i k s : ℕ) → use_at tables.starts i k s ≡ None) → tables.connected ≡ []
    → StandsAt names earlier comp tables (scope_after comps (component_tree names comp) []) []
start names earlier comps comp tables shows new unused connected =
    let D : List Text → Type 0 = AreDistinct in
    record {
      place = record { shows = shows; is_comp = refl };
      distinct = subst D (sym shows.events) new.events;
      connected = connected;
      held = λ v u there uses. absurd (omega (arith, there.1));
      shared = λ i j v w u x less at_i at_j uses_u uses_x inst event. (let within = slice_get_within [] i v at_i in absurd (omega arith));
      listed = record {
        each = λ i name at. (let T : List Text → Type 0 = λ ts. slice_get ts i ≡ Some name in absurd (none-some name (subst T shows.instances at)));
        past = λ i k s le. unused i k s;
      };
    }
