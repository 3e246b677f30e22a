-- From what the text of a file gives to what the file gives.
use Rattle.std.proofs.Common.{◌≡◌, ◌≢◌, ℕ, ◌+◌, ◌<◌, ◌≤◌, ◌⊎◌, inl, inr, ⊎_elim, true, false, List, [], ◌∷◌, ◌++◌, codes, length, map, take, get_or, Option, None, Some, refl, sym, ap, ap₂, ◌∙◌, subst, arith}
use Rattle.std.proofs.lemmas.List.{take_more, take_all, map-append, length-map}
use Rattle.std.proofs.lemmas.Option.{get_or_from_slice_get}
use Rattle.std.specs.Prelude.{Result, Ok, Err, IsSome, IfSome, IfOk, IfErr, All, Contains, slice_get}
use Rattle.std.specs.Result.{IsErrAnd}
use Rattle.hw_names.specs.Name.{Text}
use Rattle.cal_ast.specs.Tree as calyx
use Rattle.fil_ast.specs.Tree.{Component, design_of}
use Rattle.fil_ast.specs.declared.tx.TxList.{TxList}
use Rattle.net_core.specs.Netlist.{Netlist, netlist_of}
use Rattle.net_core.specs.Rules.{PortLine, ports_of, port_names, IsValid}
use Rattle.net_core.specs.declared.stimulus.CycleList.{CycleList}
use Rattle.net_sim.specs.Layout.{name_of}
use Rattle.net_sim.specs.Order.{IsLeastLoopOf}
use Rattle.stim_read.specs.CycleRun.{run_seen}
use Rattle.stim_read.specs.TxRun.{tx_run_seen}
use Rattle.hw_limits.specs.declared.limits.TheConstants.{MOST_CYCLES, MOST_STIMULUS_BYTES}
use Rattle.stim_read.specs.declared.stim_end.StimEnd.{StimEnd}
use Rattle.filc_stop.specs.Language.{most_bytes}
use Rattle.filc_stop.specs.Lines.{limit_line, loop_text, rule_name, rule_line, stimulus_line, conflict_line}
use Rattle.filc_stop.specs.Outcome.{Contents}
use Rattle.filc_stop.specs.Stops.{IsOfSource}
use Rattle.filc_stop.specs.declared.ended.Ended.{Ended}
use Rattle.filc_stop.specs.declared.ended.Ended.TheVariants.{Refused, Stimulus, Conflict, Limit}
use Rattle.filc_stop.specs.declared.language.Language.{Language}
use Rattle.filc_stop.specs.declared.language.Language.TheVariants.{Netlists, Filament, Calyx}
use Rattle.filc_stop.specs.declared.refusal.Refusal.TheVariants as refusal
use Rattle.filc_stop.specs.declared.stop.Stop.{Stop}
use Rattle.filc_stop.specs.declared.stop.Stop.TheVariants as stop
use Rattle.filc_load.specs.Built.{KnowsFile, IsBuiltFrom, IsFilBuiltFrom, IsCalBuiltFrom, IsGivenBy, AreGivenBy, IsUnbuilt, IsUnread, GivesNothing, IsNotGiven, AreNamesOf}
use Rattle.filc_load.specs.CalFile
use Rattle.filc_load.specs.FilFile
use Rattle.filc_load.specs.NetFile
use Rattle.filc_load.specs.NetFile.{IsTextOf, IsRefused, HasLoop}
use Rattle.filc_load.specs.Source.{Tells, IsRefusedIn, FileGivesNet, FileGivesFil, FileGivesCal}
use Rattle.filc_load.specs.StimulusFile.{GivesRun, GivesTransactions, TooLong}
use Rattle.filc_load.specs.declared.cal_file.CalBuilt.{CalBuilt}
use Rattle.filc_load.specs.declared.fil_file.FilBuilt.{FilBuilt}
use Rattle.filc_load.specs.declared.net_file.Built.{Built}

some_text : (told : Option Text) → IsSome told → (bytes : Text) × (told ≡ Some bytes)
some_text None is = cc
some_text (Some bytes) is = (bytes, refl)

-- what was read of a told content is that content
told_is : (told : Option Text) (bytes : Text) → IsSome told → IfSome told (λ content. bytes ≡ content) → told ≡ Some bytes
told_is None bytes is same = cc
told_is (Some content) bytes is same = ap Some (sym same)

-- ---- the file of a design

module _ (contents : Contents) (language : Language) (file : Text) where
  -- what was read of a told content is the text that the file tells
  pub tells_text : (bytes : Text) → IsSome (contents file) → IfSome (contents file) (λ content. bytes ≡ content) → length bytes ≤ most_bytes language → Tells contents language file bytes
  tells_text bytes told same within = record { told = told_is (contents file) bytes told same; within = within }

  -- a content that is too long
  pub too_long : IsSome (contents file) → IfSome (contents file) (λ content. most_bytes language < length content) → IsUnread contents language file (stop.Refused (refusal.SourceTooLong language))
  too_long told long =
      let bytes = some_text (contents file) told in
      let over : most_bytes language < length bytes.0 = subst (λ (o : Option Text). IfSome o (λ content. most_bytes language < length content)) bytes.1 long in
      inl (record { bytes = bytes.0; told = bytes.1; over = over }, refl, refl)

  unread : (bytes : Text) (why : Stop) → Tells contents language file bytes → IsUnbuilt language bytes why → IsUnread contents language file why
  unread bytes stop.ReadFault tells unbuilt = tt
  unread bytes stop.StimulusReadFault tells unbuilt = unbuilt
  unread bytes (stop.Refused why) tells unbuilt = inr (record { bytes = bytes; tells = tells; refused = unbuilt })
  unread bytes stop.WriteFault tells unbuilt = unbuilt
  unread bytes stop.Memory tells unbuilt = tt

  -- a text that gives nothing
  pub unread_text : {T : Type 0} (bytes : Text) (answer : Result T Stop) → Tells contents language file bytes → IfErr answer (IsUnbuilt language bytes) → IfErr answer (IsUnread contents language file)
  unread_text bytes (Ok value) tells unbuilt = tt
  unread_text bytes (Err why) tells unbuilt = unread bytes why tells unbuilt

-- a text that gives a netlist
pub read_net : (contents : Contents) (file bytes : Text) (answer : Result Built Stop) → Tells contents Netlists file bytes → IfOk answer (IsBuiltFrom bytes) → IfOk answer (λ (b : Built). FileGivesNet contents file (netlist_of b.net))
read_net contents file bytes (Ok b) tells built = record { bytes = bytes; tells = tells; gives = built.gives }
read_net contents file bytes (Err why) tells built = tt

-- a text that gives a Filament design
pub read_fil : (contents : Contents) (file bytes : Text) (answer : Result FilBuilt Stop) → Tells contents Filament file bytes → IfOk answer (IsFilBuiltFrom bytes) → IfOk answer (λ (b : FilBuilt). FileGivesFil contents file (design_of b.design))
read_fil contents file bytes (Ok b) tells built = record { bytes = bytes; tells = tells; gives = built.gives }
read_fil contents file bytes (Err why) tells built = tt

-- a text that gives a Calyx design
pub read_cal : (contents : Contents) (file bytes : Text) (answer : Result CalBuilt Stop) → Tells contents Calyx file bytes → IfOk answer (IsCalBuiltFrom bytes) → IfOk answer (λ (b : CalBuilt). FileGivesCal contents file (calyx.design_of b.design))
read_cal contents file bytes (Ok b) tells built = record { bytes = bytes; tells = tells; gives = built.gives }
read_cal contents file bytes (Err why) tells built = tt

-- ---- the refusal of a design's text is none of a stimulus or of a run

-- the letter with which the name of a limit starts, in its line
abbrev letter : Text → ℕ
letter line = get_or line 6 0

-- it is not that of cycles, of a stimulus or of transactions
abbrev IsOtherLetter : ℕ → Type 0
IsOtherLetter c = (c ≢ 99) × (c ≢ 115) × (c ≢ 116)

-- that of nesting, of offsets, of a weight and of words
other_n : IsOtherLetter 110
other_n = ((λ same. omega (arith, same)), (λ same. omega (arith, same)), (λ same. omega (arith, same)))

other_o : IsOtherLetter 111
other_o = ((λ same. omega (arith, same)), (λ same. omega (arith, same)), (λ same. omega (arith, same)))

other_w : IsOtherLetter 119
other_w = ((λ same. omega (arith, same)), (λ same. omega (arith, same)), (λ same. omega (arith, same)))

abbrev IsEndOfText : Ended → Text → Type 0
IsEndOfText ended line = (ended ≡ Refused) ⊎ ((ended ≡ Limit) × IsOtherLetter (letter line))

end_of_text : (language : Language) (text : Text) (ended : Ended) (line : Text) → IsRefusedIn language text ended line → IsEndOfText ended line
end_of_text Netlists text ended line (NetFile.NestsTooDeep deep is tells) = inr (is, subst IsOtherLetter (sym (ap letter tells)) other_n)
end_of_text Netlists text ended line (NetFile.HasNoGrammar place shallow refused is tells) = inl is
end_of_text Netlists text ended line (NetFile.BreaksRule n rule item of broken is tells) = inl is
end_of_text Netlists text ended line (NetFile.HasLoop n first others of valid least is tells) = inl is
end_of_text Netlists text ended line (NetFile.IsTooHeavy n of heavy is tells) = inr (is, subst IsOtherLetter (sym (ap letter tells)) other_w)
end_of_text Netlists text ended line (NetFile.HasTooManyWords n of light many is tells) = inr (is, subst IsOtherLetter (sym (ap letter tells)) other_w)
end_of_text Filament text ended line (FilFile.HasNoTokens at faults is tells) = inl is
end_of_text Filament text ended line (FilFile.NestsTooDeep depth nested deep is tells) = inr (is, subst IsOtherLetter (sym (ap letter tells)) other_n)
end_of_text Filament text ended line (FilFile.HasNoGrammar at shallow refused is tells) = inl is
end_of_text Filament text ended line (FilFile.HasLargeOffset design offset shallow spells large is tells) = inr (is, subst IsOtherLetter (sym (ap letter tells)) other_o)
end_of_text Filament text ended line (FilFile.BreaksRule design rule name item evidence of first is tells) = inl is
end_of_text Filament text ended line (FilFile.IsTooHeavy design number top of has heavy is tells) = inr (is, subst IsOtherLetter (sym (ap letter tells)) other_w)
end_of_text Calyx text ended line (CalFile.ByTokens cause) = inl cause.is
end_of_text Calyx text ended line (CalFile.ByNesting cause) = inr (cause.is, subst IsOtherLetter (sym (ap letter cause.tells)) other_n)
end_of_text Calyx text ended line (CalFile.ByGrammar cause) = inl cause.is
end_of_text Calyx text ended line (CalFile.ByWord cause) = inl cause.is
end_of_text Calyx text ended line (CalFile.ByRule cause) = inl cause.is
end_of_text Calyx text ended line (CalFile.ByWeight cause) = inr (cause.is, subst IsOtherLetter (sym (ap letter cause.tells)) other_w)
end_of_text Calyx text ended line (CalFile.ByWords cause) = inr (cause.is, subst IsOtherLetter (sym (ap letter cause.tells)) other_w)

-- a limit that a text is over
other_limit : (line : Text) → IsEndOfText Limit line → IsOtherLetter (letter line)
other_limit line end = ⊎_elim (λ is. absurd (cc is)) (λ limit. limit.1) end

no_stimulus_rule : (line : Text) → IsEndOfText Stimulus line → ⊥
no_stimulus_rule line end = ⊎_elim (λ is. cc is) (λ limit. let is = limit.0 in cc is) end

no_conflict : (line : Text) → IsEndOfText Conflict line → ⊥
no_conflict line end = ⊎_elim (λ is. cc is) (λ limit. let is = limit.0 in cc is) end

of_source : (language : Language) (text : Text) (why : Stop) → IsUnbuilt language text why → IsOfSource why
of_source language text stop.ReadFault unbuilt = tt
of_source language text stop.StimulusReadFault unbuilt = unbuilt
of_source language text (stop.Refused (refusal.SourceTooLong l)) unbuilt = tt
of_source language text (stop.Refused (refusal.HasNoTokens at)) unbuilt = tt
of_source language text (stop.Refused (refusal.NestsTooDeep l depth)) unbuilt = tt
of_source language text (stop.Refused (refusal.HasNoGrammar at)) unbuilt = tt
of_source language text (stop.Refused (refusal.LeavesOut word at)) unbuilt = tt
of_source language text (stop.Refused (refusal.HasLargeOffset offset)) unbuilt = tt
of_source language text (stop.Refused (refusal.BreaksRule l rule name item ports)) unbuilt = tt
of_source language text (stop.Refused (refusal.BreaksFilamentRule rule name item evidence)) unbuilt = tt
of_source language text (stop.Refused (refusal.IsTooHeavy weight)) unbuilt = tt
of_source language text (stop.Refused (refusal.HasTooManyWords words)) unbuilt = tt
of_source language text (stop.Refused (refusal.TooManyCycles cycles)) unbuilt =
    let line = limit_line (codes "cycles") cycles MOST_CYCLES in (other_limit line (end_of_text language text Limit line unbuilt)).0 refl
of_source language text (stop.Refused refusal.StimulusTooLong) unbuilt =
    let line = limit_line (codes "stimulus") (MOST_STIMULUS_BYTES + 1) MOST_STIMULUS_BYTES in (other_limit line (end_of_text language text Limit line unbuilt)).1 refl
of_source language text (stop.Refused (refusal.BreaksStimulusRule rule entry first second delay)) unbuilt =
    let line = stimulus_line rule entry first second delay in no_stimulus_rule line (end_of_text language text Stimulus line unbuilt)
of_source language text (stop.Refused (refusal.StimulusTooLarge count limit true)) unbuilt =
    let line = limit_line (codes "cycles") count limit in (other_limit line (end_of_text language text Limit line unbuilt)).0 refl
of_source language text (stop.Refused (refusal.StimulusTooLarge count limit false)) unbuilt =
    let line = limit_line (codes "transactions") count limit in (other_limit line (end_of_text language text Limit line unbuilt)).2 refl
of_source language text (stop.Refused (refusal.Conflict cycle port)) unbuilt =
    let line = conflict_line cycle port in no_conflict line (end_of_text language text Conflict line unbuilt)
of_source language text stop.WriteFault unbuilt = unbuilt
of_source language text stop.Memory unbuilt = tt

pub stops_of_source : {T : Type 0} (language : Language) (text : Text) (answer : Result T Stop) → IfErr answer (IsUnbuilt language text) → IfErr answer IsOfSource
stops_of_source language text (Ok value) unbuilt = tt
stops_of_source language text (Err why) unbuilt = of_source language text why unbuilt

-- ---- errors

-- an error that is passed on
pub passed_on : {T : Type 0} (claim : Stop → Type 0) (answer : Result T Stop) (why : Stop) → IsErrAnd answer (λ other. other ≡ why) → claim why → IfErr answer claim
passed_on claim (Ok value) why is holds = tt
passed_on claim (Err other) why is holds = subst claim (sym is) holds

-- what holds of each error holds of the one that came
pub err_of : {T : Type 0} (claim : Stop → Type 0) (answer : Result T Stop) (why : Stop) → IfErr answer claim → answer ≡ Err why → claim why
err_of claim (Ok value) why holds is = cc
err_of claim (Err other) why holds is = let same : other ≡ why = cc is in subst claim same holds

-- a file that was read is known, whatever came of its text
pub knows_file : {T : Type 0} (names : List Text) (file : Text) (answer : Result T Stop) → Contains names file → KnowsFile names file answer
knows_file names file (Ok value) known = known
knows_file names file (Err stop.ReadFault) known = tt
knows_file names file (Err stop.StimulusReadFault) known = tt
knows_file names file (Err (stop.Refused why)) known = known
knows_file names file (Err stop.WriteFault) known = tt
knows_file names file (Err stop.Memory) known = tt

knows_error : (U T : Type 0) (names : List Text) (file : Text) (why : Stop) → KnowsFile {T = U} names file (Err why) → KnowsFile {T = T} names file (Err why)
knows_error U T names file stop.ReadFault knows = tt
knows_error U T names file stop.StimulusReadFault knows = tt
knows_error U T names file (stop.Refused why) knows = knows
knows_error U T names file stop.WriteFault knows = tt
knows_error U T names file stop.Memory knows = tt

-- the same where an error is passed on
pub knows_passed : {T : Type 0} (U : Type 0) (names : List Text) (file : Text) (answer : Result T Stop) (why : Stop) → IsErrAnd answer (λ other. other ≡ why) → KnowsFile {T = U} names file (Err why) → KnowsFile names file answer
knows_passed U names file (Ok value) why is knows = absurd is
knows_passed {T} U names file (Err other) why is knows = knows_error U T names file other (subst (λ (w : Stop). KnowsFile {T = U} names file (Err w)) (sym is) knows)

-- ---- the file of a stimulus

-- the file of a stimulus, whose content is told
module _ (contents : Contents) (file : Text) (told : IsSome (contents file)) where
  -- a content that is too long
  pub too_long_stimulus : (causes : Text → StimEnd → Type 0) → IfSome (contents file) (λ content. MOST_STIMULUS_BYTES < length content) → IsNotGiven contents file causes (stop.Refused refusal.StimulusTooLong)
  too_long_stimulus causes long =
      let bytes = some_text (contents file) told in
      let over : MOST_STIMULUS_BYTES < length bytes.0 = subst (λ (o : Option Text). IfSome o (λ content. MOST_STIMULUS_BYTES < length content)) bytes.1 long in
      record { bytes = bytes.0; told = bytes.1; refused = TooLong over refl refl }

  -- a text that gives a run
  pub given_run : (text : Text) (n : Netlist) (answer : Result CycleList Stop) → IfSome (contents file) (λ content. text ≡ content) → IfOk answer (λ (list : CycleList). GivesRun text n (run_seen list)) → IfOk answer (IsGivenBy contents file n)
  given_run text n (Ok list) same gives = record { bytes = text; told = told_is (contents file) text told same; gives = gives }
  given_run text n (Err why) same gives = tt

  -- a text that gives transactions
  pub given_transactions : (text : Text) (c : Component) (answer : Result TxList Stop) → IfSome (contents file) (λ content. text ≡ content) → IfOk answer (λ (list : TxList). GivesTransactions text c (tx_run_seen list)) → IfOk answer (AreGivenBy contents file c)
  given_transactions text c (Ok list) same gives = record { bytes = text; told = told_is (contents file) text told same; gives = gives }
  given_transactions text c (Err why) same gives = tt

  none_given : (text : Text) (causes : Text → StimEnd → Type 0) (why : Stop) → IfSome (contents file) (λ content. text ≡ content) → GivesNothing (causes text) text why → IsNotGiven contents file causes why
  none_given text causes stop.ReadFault same none = absurd none
  none_given text causes stop.StimulusReadFault same none = absurd none
  none_given text causes (stop.Refused why) same none = record { bytes = text; told = told_is (contents file) text told same; refused = none }
  none_given text causes stop.WriteFault same none = absurd none
  none_given text causes stop.Memory same none = tt

  -- a text that gives none
  pub not_given : {T : Type 0} (text : Text) (causes : Text → StimEnd → Type 0) (answer : Result T Stop) → IfSome (contents file) (λ content. text ≡ content) → IfErr answer (GivesNothing (causes text) text) → IfErr answer (IsNotGiven contents file causes)
  not_given text causes (Ok v) same none = tt
  not_given text causes (Err why) same none = none_given text causes why same none

-- ---- loops

-- the names of ports with one more
pub names_more : (names : List Text) (ports : List ℕ) (i d : ℕ) (texts : List Text) (text : Text) → i < length ports → slice_get names (get_or ports i d) ≡ Some text → AreNamesOf names (take i ports) texts → AreNamesOf names (take (i + 1) ports) (texts ++ text ∷ [])
names_more names ports i d texts text within named are =
    let name : get_or names (get_or ports i d) [] ≡ text = get_or_from_slice_get names (get_or ports i d) text [] named in
    let last : take (i + 1) ports ≡ take i ports ++ get_or ports i d ∷ [] = take_more ports i d within in
    sym (ap (map (λ (p : ℕ). get_or names p [])) last ∙ map-append (λ (p : ℕ). get_or names p []) (take i ports) (get_or ports i d ∷ []) ∙ ap₂ (λ (ts : List Text) (t : Text). ts ++ t ∷ []) (sym are) name)

pub names_within : (names : List Text) (ports : List ℕ) (texts : List Text) (i : ℕ) → length ports ≤ i → AreNamesOf names (take i ports) texts → AreNamesOf names ports texts
names_within names ports texts i long are = are ∙ ap (map (λ (p : ℕ). get_or names p [])) (take_all i ports long)

-- the ports of the least loop are numbers of the table
pub loop_within : (n : Netlist) (names : List Text) (ports : List ℕ) → names ≡ port_names (ports_of n) → IsLeastLoopOf n ports → All (λ (port : ℕ). port < length names) ports
loop_within n names [] all least = absurd least
loop_within n names (port ∷ ports) all least = λ k d inside.
    let within = least.0 k d inside in omega (arith, within, ap length all, length-map (ports_of n) (λ (p : PortLine). p.name))

-- a netlist with a loop is refused by its least
pub loop_refused : (n : Netlist) (names : List Text) (ports : List ℕ) (name : Text) (texts : List Text) → IsValid n → names ≡ port_names (ports_of n) → IsLeastLoopOf n ports → name ≡ n.name → AreNamesOf names ports texts → (text : Text) → IsTextOf n text → IsRefused text Refused (rule_line (rule_name Netlists 6) name 0 (loop_text texts))
loop_refused n names [] name texts valid all least named are text of = absurd least
loop_refused n names (port ∷ ports) name texts valid all least named are text of =
    HasLoop n (name_of n port) (map (name_of n) ports) of valid least.1 refl
    (ap₂ (λ (t : Text) (ts : List Text). rule_line (rule_name Netlists 6) t 0 (loop_text ts)) named (are ∙ ap (λ (ns : List Text). map (λ (p : ℕ). get_or ns p []) (port ∷ ports)) all))
