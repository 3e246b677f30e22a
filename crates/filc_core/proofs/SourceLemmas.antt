-- A file gives one design, or is refused, not both; and so does a stimulus.
use Rattle.std.proofs.Common.{◌≡◌, ◌<◌, length, Option, Some, IsSome, refl, sym, subst, ◌∙◌, arith, ⊎_elim}
use Rattle.std.proofs.lemmas.Option.{same_Some}
use Rattle.hw_names.specs.Name.{Text}
use Rattle.fil_ast.specs.Tree.{Component, Design}
use Rattle.cal_ast.specs.Tree as calyx
use Rattle.cal_parse.proofs.Designs as calyx_texts
use Rattle.fil_parse.proofs.Designs.{one_tree}
use Rattle.net_core.proofs.RuleLemmas.{broken_is_not_valid}
use Rattle.net_core.specs.Graph.{IsLoop}
use Rattle.net_core.specs.Netlist.{Netlist}
use Rattle.net_core.specs.Rules.{FirstBroken}
use Rattle.net_core.specs.Weight.{weight_of}
use Rattle.net_core.specs.Words.{word_total}
use Rattle.net_text.proofs.OneNetlist.{one_netlist}
use Rattle.stim_read.specs.CycleRun.{Run}
use Rattle.stim_read.specs.TxRun.{TxRun}
use Rattle.filc_load.proofs.CalLemmas.{given_cal_not_refused}
use Rattle.filc_load.proofs.FilLemmas.{given_fil_not_refused}
use Rattle.filc_load.proofs.StimulusLemmas.{one_stimulus_run, one_stimulus_list, given_end, given_tx_end, not_refused_by}
use Rattle.filc_load.specs.NetFile
use Rattle.filc_load.specs.NetFile.{GivesNet}
use Rattle.filc_load.specs.Settable.{settable_inputs, settable_memories}
use Rattle.filc_load.specs.CalFile.{GivesCal}
use Rattle.filc_load.specs.Source.{Tells, IsRefusedIn, FileGivesCal, FileGivesNet, FileGivesFil, IsAccepted, IsRefusedForSource}
use Rattle.filc_load.specs.FilFile.{GivesFil}
use Rattle.filc_load.specs.StimulusFile.{GivesRun, GivesTransactions, IsRefusedBy, IsRefusedForStimulus, FileGivesRun, FileGivesTransactions, component_events, run_causes, transaction_causes}
use Rattle.filc_stop.specs.Language.{most_bytes}
use Rattle.filc_stop.specs.Outcome.{Contents, Outcome}
use Rattle.filc_stop.specs.declared.ended.Ended.{Ended}
use Rattle.filc_stop.specs.declared.language.Language.{Language}
use Rattle.filc_stop.specs.declared.language.Language.TheVariants.{Netlists, Filament, Calyx}
use Rattle.hw_limits.specs.declared.limits.TheConstants.{MOST_WEIGHT, MOST_WORDS}

-- a text that gives a netlist isn't refused
given_not_refused : (text : Text) (n : Netlist) (ended : Ended) (line : Text) → GivesNet text n → NetFile.IsRefused text ended line → ⊥
given_not_refused text n ended line gives (NetFile.NestsTooDeep deep is tells) = omega (arith, deep, gives.accepted.text_of.shallow)
given_not_refused text n ended line gives (NetFile.HasNoGrammar place shallow refused is tells) = refused.spells_none n gives.accepted.text_of.spells
given_not_refused text n ended line gives (NetFile.BreaksRule m rule item of broken is tells) =
    broken_is_not_valid n rule item (subst (λ (k : Netlist). FirstBroken k rule item) (one_netlist text m n of.spells gives.accepted.text_of.spells) broken) gives.accepted.valid
given_not_refused text n ended line gives (NetFile.HasLoop m first others of valid least is tells) =
    gives.accepted.no_loop first others (subst (λ (k : Netlist). IsLoop k first others) (one_netlist text m n of.spells gives.accepted.text_of.spells) least.is_loop)
given_not_refused text n ended line gives (NetFile.IsTooHeavy m of heavy is tells) =
    let same = one_netlist text m n of.text_of.spells gives.accepted.text_of.spells in
    let over : MOST_WEIGHT < weight_of n = subst (λ (k : Netlist). MOST_WEIGHT < weight_of k) same heavy in omega (arith, over, gives.light)
given_not_refused text n ended line gives (NetFile.HasTooManyWords m of light many is tells) =
    let same = one_netlist text m n of.text_of.spells gives.accepted.text_of.spells in
    let over : MOST_WORDS < word_total n = subst (λ (k : Netlist). MOST_WORDS < word_total k) same many in omega (arith, over, gives.few_words)

-- two told contents of a file are one
pub told_once : (contents : Contents) (file bytes bytes' : Text) → contents file ≡ Some bytes → contents file ≡ Some bytes' → bytes ≡ bytes'
told_once contents file bytes bytes' told told' = same_Some bytes bytes' (sym told ∙ told')

pub is_told : (told : Option Text) (bytes : Text) → told ≡ Some bytes → IsSome told
is_told told bytes is = subst IsSome (sym is) refl

-- ---- the file of a design

module _ (contents : Contents) (file : Text) where
  -- it gives one netlist
  pub one_net : (n m : Netlist) → FileGivesNet contents file n → FileGivesNet contents file m → n ≡ m
  one_net n m gives gives' =
      one_netlist gives.bytes n m gives.gives.accepted.text_of.spells
      (subst (λ (text : Text). GivesNet text m) (told_once contents file gives'.bytes gives.bytes gives'.tells.told gives.tells.told) gives'.gives).accepted.text_of.spells

  -- it gives one design
  pub one_fil : (d e : Design) → FileGivesFil contents file d → FileGivesFil contents file e → d ≡ e
  one_fil d e gives gives' =
      one_tree gives.bytes d e gives.gives.accepted.text_of.spells
      (subst (λ (text : Text). GivesFil text e) (told_once contents file gives'.bytes gives.bytes gives'.tells.told gives.tells.told) gives'.gives).accepted.text_of.spells

  -- it gives one Calyx design
  pub one_cal : (d e : calyx.Design) → FileGivesCal contents file d → FileGivesCal contents file e → d ≡ e
  one_cal d e gives gives' =
      calyx_texts.one_tree gives.bytes d e gives.gives.accepted.text_of.spells
      (subst (λ (text : Text). GivesCal text e) (told_once contents file gives'.bytes gives.bytes gives'.tells.told gives.tells.told) gives'.gives).accepted.text_of.spells

  -- a text that is told, and is within the limit and isn't refused, is not refused as the file's
  never_refused : (language : Language) (bytes : Text) (o : Outcome) → Tells contents language file bytes → ((ended : Ended) (line : Text) → IsRefusedIn language bytes ended line → ⊥) → IsRefusedForSource contents language file o → ⊥
  never_refused language bytes o tells not refused =
      ⊎_elim (λ long.
      let over : most_bytes language < length bytes = subst (λ (text : Text). most_bytes language < length text) (told_once contents file long.0.bytes bytes long.0.told tells.told) long.0.over in
      omega (arith, over, tells.within))
      (λ text. not refused.ended refused.line
      (subst (λ (t : Text). IsRefusedIn language t refused.ended refused.line) (told_once contents file text.bytes bytes text.tells.told tells.told) text.refused))
      refused.source

  -- a file that is accepted isn't refused
  pub accepted_not_refused : (language : Language) (o : Outcome) → IsAccepted contents language file → IsRefusedForSource contents language file o → ⊥
  accepted_not_refused Netlists o (n, gives) refused =
      never_refused Netlists gives.bytes o gives.tells (λ ended line. given_not_refused gives.bytes n ended line gives.gives) refused
  accepted_not_refused Filament o (design, gives) refused =
      never_refused Filament gives.bytes o gives.tells (λ ended line. given_fil_not_refused gives.bytes design ended line gives.gives) refused
  accepted_not_refused Calyx o (design, gives) refused =
      never_refused Calyx gives.bytes o gives.tells (λ ended line. given_cal_not_refused gives.bytes design ended line gives.gives) refused

  -- its content is told
  pub accepted_is_told : (language : Language) → IsAccepted contents language file → IsSome (contents file)
  accepted_is_told Netlists (n, gives) = is_told (contents file) gives.bytes gives.tells.told
  accepted_is_told Filament (design, gives) = is_told (contents file) gives.bytes gives.tells.told
  accepted_is_told Calyx (design, gives) = is_told (contents file) gives.bytes gives.tells.told

-- ---- the file of a stimulus

module _ (contents : Contents) (stimulus : Text) where
  -- it gives a netlist one run
  pub one_given_run : (n : Netlist) (run run' : Run) → FileGivesRun contents stimulus n run → FileGivesRun contents stimulus n run' → run ≡ run'
  one_given_run n run run' gives gives' =
      let same = told_once contents stimulus gives'.bytes gives.bytes gives'.told gives.told in
      one_stimulus_run gives.bytes (settable_inputs n) (settable_memories n) run run' gives.gives.gives
      (subst (λ (text : Text). GivesRun text n run') same gives'.gives).gives

  -- it gives a component one list of transactions
  pub one_given_list : (c : Component) (run run' : TxRun) → FileGivesTransactions contents stimulus c run → FileGivesTransactions contents stimulus c run' → run ≡ run'
  one_given_list c run run' gives gives' =
      let same = told_once contents stimulus gives'.bytes gives.bytes gives'.told gives.told in
      one_stimulus_list gives.bytes (component_events c) run run' gives.gives.gives
      (subst (λ (text : Text). GivesTransactions text c run') same gives'.gives).gives

  -- a stimulus that gives something isn't refused
  pub run_not_refused : (n : Netlist) (run : Run) (o : Outcome) → FileGivesRun contents stimulus n run → IsRefusedForStimulus contents stimulus (λ bytes. run_causes bytes n) o → ⊥
  run_not_refused n run o gives refused =
      let same = told_once contents stimulus refused.refused.bytes gives.bytes refused.refused.told gives.told in
      not_refused_by (run_causes gives.bytes n) gives.bytes refused.ended refused.line
      (λ end cause. given_end gives.bytes (settable_inputs n) (settable_memories n) run end gives.gives.gives cause) gives.gives.within
      (subst (λ (text : Text). IsRefusedBy (run_causes text n) text refused.ended refused.line) same refused.refused.refused)

  pub list_not_refused : (c : Component) (run : TxRun) (o : Outcome) → FileGivesTransactions contents stimulus c run → IsRefusedForStimulus contents stimulus (λ bytes. transaction_causes bytes c) o → ⊥
  list_not_refused c run o gives refused =
      let same = told_once contents stimulus refused.refused.bytes gives.bytes refused.refused.told gives.told in
      not_refused_by (transaction_causes gives.bytes c) gives.bytes refused.ended refused.line
      (λ end cause. given_tx_end gives.bytes (component_events c) run end gives.gives.gives cause) gives.gives.within
      (subst (λ (text : Text). IsRefusedBy (transaction_causes text c) text refused.ended refused.line) same refused.refused.refused)
