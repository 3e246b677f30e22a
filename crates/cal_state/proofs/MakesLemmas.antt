-- A design with states in place of its control keeps what its source has.
use Rattle.std.proofs.Common.{◌≡◌, ℕ, true, List, map, slice_get, Some, sym, ap, subst, ◌∙◌}
use Rattle.std.specs.Prelude.{option_map}
use Rattle.std.proofs.lemmas.Bool.{cond-true}
use Rattle.std.proofs.lemmas.Option.{same_Some, slice_get-map}
use Rattle.cal_ast.specs.Holes.{ActivityRule}
use Rattle.cal_ast.specs.NoInvoke.{IsPlainDesign}
use Rattle.cal_ast.specs.Plain.{HasPlainTree}
use Rattle.cal_ast.specs.Ports.{is_bare}
use Rattle.cal_ast.specs.Tree.{Absent, Component, Design}
use Rattle.cal_ast.specs.Written.{DesignIsWritten, RulesAreWritten}
use Rattle.cal_state.specs.MakesStates.{MakesStates}
use Rattle.cal_state.specs.inside.Encoded.{IsStatesOf, encoded, with_states}
use Rattle.cal_state.proofs.RegisterLemmas.{states_are_few}
use Rattle.cal_state.proofs.ShapeLemmas.{states_keep_shape}
use Rattle.cal_state.proofs.StateHoleLemmas.{states_are_holes}
use Rattle.cal_state.proofs.StatePlainLemmas.{states_are_plain}
use Rattle.cal_state.proofs.StateRunLemmas.{states_keep_runs}
use Rattle.cal_state.proofs.WrittenComponents.{encoded_written_design, encoded_written_rules}

module _ (source answer : Design) (rules : List ActivityRule) (is : IsStatesOf source answer rules) where
  -- a component without control keeps its cells
  keeps_cells : (n : ℕ) (c d : Component) → slice_get source n ≡ Some c → slice_get answer n ≡ Some d → is_bare c ≡ true → d.cells ≡ c.cells
  keeps_cells n c d at at_answer bare =
      let found : Some d ≡ Some (encoded c)
      = sym at_answer ∙ ap (λ (design : Design). slice_get design n) is.design ∙ slice_get-map encoded source n ∙ ap (option_map encoded) at in
      let whole : encoded c ≡ record c { control = Absent } = cond-true (is_bare c) (record c { control = Absent }) (with_states c) bare in
      ap (λ (x : Component). x.cells) (same_Some d (encoded c) found ∙ whole)

  pub makes_states : HasPlainTree source → IsPlainDesign source → MakesStates source answer rules
  makes_states names plain = record {
    replaces = record {
      shape = states_keep_shape source answer rules plain is;
      holes = states_are_holes source answer rules names plain is;
      runs = states_keep_runs source answer rules names plain is;
      plain = λ groups. states_are_plain source answer rules names groups plain is;
    };
    registers = λ n c d at at_answer full. states_are_few source answer rules n c d is at at_answer full;
    bare_cells = keeps_cells;
    written = λ written. subst DesignIsWritten (sym is.design) (encoded_written_design source is.few written);
    written_rules = λ written. subst RulesAreWritten (sym is.acting) (encoded_written_rules source written);
  }
