-- From what a command performs and how its line is told to the theorem of the top call.
use Rattle.std.proofs.Common.{◌≡◌, ◌≢◌, ◌⊎◌, ℕ, ◌≤◌, List, [], ◌∷◌, Option, Ok, Err, refl, sym, ap, subst, ◌∙◌, arith, inl, inr, ⊎_elim}
use Rattle.hw_io.proofs.WritingLemmas.{appends_none}
use Rattle.hw_names.specs.Name.{Text}
use Rattle.filc_stop.proofs.SinkLemmas.{keeps_none, keeps_no_prefix, whole_prefix}
use Rattle.filc_stop.specs.Lines.{as_line, usage_line, read_fault_line, memory_line}
use Rattle.filc_stop.specs.Outcome.{Contents, refused_with, usage_told}
use Rattle.filc_stop.specs.Stops.{IsLineTold, IsTold, answer_of, refusal_line}
use Rattle.filc_stop.specs.declared.ended.Ended.{Ended}
use Rattle.filc_stop.specs.declared.ended.Ended.TheVariants.{Done, Usage, ReadFault, WriteFault, Memory, Conflict}
use Rattle.filc_stop.specs.declared.refusal.Refusal.{Refusal}
use Rattle.filc_stop.specs.declared.refusal.Refusal.TheVariants as refusal
use Rattle.filc_stop.specs.declared.stop.Stop.{Stop}
use Rattle.filc_stop.specs.declared.stop.Stop.TheVariants as stop
use Rattle.filc_core.proofs.AskLemmas.{asks_once}
use Rattle.filc_core.proofs.FileLemmas.{keeps_but_more}
use Rattle.filc_core.proofs.LawLemmas.{laws_of}
use Rattle.filc_core.specs.Call.{Call, Disk, Stream, GainsNothing, GainsPart, HasFault, disk_of}
use Rattle.filc_core.specs.Command.{AskedFile}
use Rattle.filc_core.specs.Files.{AreKnown, HasReadCause, MayBeRead, RestsOnMore}
use Rattle.filc_core.specs.Request.{Request, command_of, entry_of, files_of, Asks, AskNothing}
use Rattle.filc_core.specs.TopCall.{Answers, CanNotRead, HasPartOfReport, HasReadFault, HasWriteFault, InReport, InLine, InReadFault, IsAllTold, IsAnswered, IsAskedFor, IsCalledFor, IsComplete, IsEndOf, IsVerdictEnd, MeetsNoFault}
use Rattle.filc_core.specs.Verdict.{NotAsked, Asked}
use Rattle.filc_core.specs.inside.Performing.{AreKnownBy, GoesOn, Performs}

-- a sink that nothing was written to
abbrev kept_sink : Option Text → ℕ → Stream
kept_sink held count = record { written = held; written' = held; faults = count; faults' = count }

-- ---- words that ask for nothing

module _ {F : Type 0} (names : F → List Text) (contents : F → Contents) (faults : F → Text → ℕ) (files : F) (words : List Text) (held : Option Text) (count : ℕ) (err : Stream) (ended : Ended) (nothing : AskNothing words) (told : IsLineTold usage_line Usage WriteFault ended err.written err.written' (HasFault err)) (more : err.faults ≤ err.faults') where
  abbrev unasked_call : Call
  unasked_call = record { words = words; disk = disk_of names contents faults files files; out = kept_sink held count; err = err; ended = ended }

  unasked_verdict : IsVerdictEnd ended → IsAnswered unasked_call
  unasked_verdict is =
      ⊎_elim (λ whole. record { made = []; report = []; line = usage_line; verdict = NotAsked nothing (ap (λ (e : Ended). refused_with e usage_line) whole.0); reported = appends_none held; told = whole.1 })
      (λ part. absurd (subst IsVerdictEnd part.0 is)) told

  unasked_called : IsCalledFor words ended
  unasked_called = ⊎_elim (λ whole. subst (IsCalledFor words) (sym whole.0) nothing) (λ part. subst (IsCalledFor words) (sym part.0) tt) told

  -- the answer is one of these two
  no_other : (other : Ended) → Usage ≢ other → WriteFault ≢ other → ended ≡ other → ⊥
  no_other other apart not_fault is = ⊎_elim (λ whole. apart (sym whole.0 ∙ is)) (λ part. not_fault (sym part.0 ∙ is)) told

  unasked_rose : ended ≡ WriteFault → HasFault err
  unasked_rose is = ⊎_elim (λ whole. absurd (let e : Usage ≡ WriteFault = sym whole.0 ∙ is in cc e)) (λ part. part.1) told

  unasked_write : ended ≡ WriteFault → HasWriteFault unasked_call
  unasked_write is =
      ⊎_elim (λ whole. absurd (let e : Usage ≡ WriteFault = sym whole.0 ∙ is in cc e))
      (λ part. InLine part.1 (record { made = []; outcome = usage_told; verdict = NotAsked nothing refl; has_line = λ e. cc e; reported = appends_none held; part = part.2 })) told

  pub unasked_answers : Answers unasked_call
  unasked_answers = record {
    verdict = λ is content. unasked_verdict is;
    called_for = unasked_called;
    known = λ is r asks. absurd (nothing r asks);
    read_fault = λ is. absurd (no_other ReadFault (λ e. cc e) (λ e. cc e) is);
    write_rose = λ is. inr (unasked_rose is);
    write_fault = λ is content. unasked_write is;
    memory = λ is content. absurd (no_other Memory (λ e. cc e) (λ e. cc e) is);
    memory_line = λ is. absurd (no_other Memory (λ e. cc e) (λ e. cc e) is);
    files = record { names_kept = refl; contents_kept = λ file. refl; others_kept = λ file unread. refl; never_fall = λ file. omega arith };
    out_never_falls = omega arith;
    err_never_falls = more;
    complete = λ r asks granted clear. absurd (nothing r asks);
  }

-- ---- refusals

-- each refusal is a verdict, and has a line
is_verdict : (why : Refusal) → IsVerdictEnd (answer_of why)
is_verdict (refusal.SourceTooLong language) = tt
is_verdict (refusal.HasNoTokens at) = tt
is_verdict (refusal.NestsTooDeep language depth) = tt
is_verdict (refusal.HasNoGrammar at) = tt
is_verdict (refusal.LeavesOut word at) = tt
is_verdict (refusal.HasLargeOffset offset) = tt
is_verdict (refusal.BreaksRule language rule name item ports) = tt
is_verdict (refusal.BreaksFilamentRule rule name item evidence) = tt
is_verdict (refusal.IsTooHeavy weight) = tt
is_verdict (refusal.HasTooManyWords words) = tt
is_verdict (refusal.TooManyCycles cycles) = tt
is_verdict refusal.StimulusTooLong = tt
is_verdict (refusal.BreaksStimulusRule rule entry first second delay) = tt
is_verdict (refusal.StimulusTooLarge count limit cycles) = tt
is_verdict (refusal.Conflict cycle port) = tt

has_line : (why : Refusal) → refusal_line why ≢ []
has_line (refusal.SourceTooLong language) e = cc e
has_line (refusal.HasNoTokens at) e = cc e
has_line (refusal.NestsTooDeep language depth) e = cc e
has_line (refusal.HasNoGrammar at) e = cc e
has_line (refusal.LeavesOut word at) e = cc e
has_line (refusal.HasLargeOffset offset) e = cc e
has_line (refusal.BreaksRule language rule name item ports) e = cc e
has_line (refusal.BreaksFilamentRule rule name item evidence) e = cc e
has_line (refusal.IsTooHeavy weight) e = cc e
has_line (refusal.HasTooManyWords words) e = cc e
has_line (refusal.TooManyCycles cycles) e = cc e
has_line refusal.StimulusTooLong e = cc e
has_line (refusal.BreaksStimulusRule rule entry first second delay) e = cc e
has_line (refusal.StimulusTooLarge count limit cycles) e = cc e
has_line (refusal.Conflict cycle port) e = cc e

-- a refusal that rests on more than this file
rests : (contents : Contents) (file : AskedFile) (why : Refusal) → RestsOnMore contents file (answer_of why) → GoesOn contents file (Err (stop.Refused why))
rests contents file (refusal.SourceTooLong language) accepted = inl accepted
rests contents file (refusal.HasNoTokens at) accepted = inl accepted
rests contents file (refusal.NestsTooDeep language depth) accepted = inl accepted
rests contents file (refusal.HasNoGrammar at) accepted = inl accepted
rests contents file (refusal.LeavesOut word at) accepted = inl accepted
rests contents file (refusal.HasLargeOffset offset) accepted = inl accepted
rests contents file (refusal.BreaksRule language rule name item ports) accepted = inl accepted
rests contents file (refusal.BreaksFilamentRule rule name item evidence) accepted = inl accepted
rests contents file (refusal.IsTooHeavy weight) accepted = inl accepted
rests contents file (refusal.HasTooManyWords words) accepted = inl accepted
rests contents file (refusal.TooManyCycles cycles) accepted = inl accepted
rests contents file refusal.StimulusTooLong accepted = inl accepted
rests contents file (refusal.BreaksStimulusRule rule entry first second delay) accepted = inr (λ of. of)
rests contents file (refusal.StimulusTooLarge count limit cycles) accepted = inl accepted
rests contents file (refusal.Conflict cycle port) accepted = inr (λ of. of)

-- a request calls for each of its answers, but for the answers of faults
called_for : (words : List Text) (r : Request) (why : Refusal) → Asks words r → (command_of r).stops (stop.Refused why) → IsCalledFor words (answer_of why)
called_for words r (refusal.SourceTooLong language) asks stops = (r, asks, inr (stop.Refused (refusal.SourceTooLong language), stops, refl))
called_for words r (refusal.HasNoTokens at) asks stops = (r, asks, inr (stop.Refused (refusal.HasNoTokens at), stops, refl))
called_for words r (refusal.NestsTooDeep language depth) asks stops = (r, asks, inr (stop.Refused (refusal.NestsTooDeep language depth), stops, refl))
called_for words r (refusal.HasNoGrammar at) asks stops = (r, asks, inr (stop.Refused (refusal.HasNoGrammar at), stops, refl))
called_for words r (refusal.LeavesOut word at) asks stops = (r, asks, inr (stop.Refused (refusal.LeavesOut word at), stops, refl))
called_for words r (refusal.HasLargeOffset offset) asks stops = (r, asks, inr (stop.Refused (refusal.HasLargeOffset offset), stops, refl))
called_for words r (refusal.BreaksRule language rule name item ports) asks stops = (r, asks, inr (stop.Refused (refusal.BreaksRule language rule name item ports), stops, refl))
called_for words r (refusal.BreaksFilamentRule rule name item evidence) asks stops = (r, asks, inr (stop.Refused (refusal.BreaksFilamentRule rule name item evidence), stops, refl))
called_for words r (refusal.IsTooHeavy weight) asks stops = (r, asks, inr (stop.Refused (refusal.IsTooHeavy weight), stops, refl))
called_for words r (refusal.HasTooManyWords count) asks stops = (r, asks, inr (stop.Refused (refusal.HasTooManyWords count), stops, refl))
called_for words r (refusal.TooManyCycles cycles) asks stops = (r, asks, inr (stop.Refused (refusal.TooManyCycles cycles), stops, refl))
called_for words r refusal.StimulusTooLong asks stops = (r, asks, inr (stop.Refused refusal.StimulusTooLong, stops, refl))
called_for words r (refusal.BreaksStimulusRule rule entry first second delay) asks stops = (r, asks, inr (stop.Refused (refusal.BreaksStimulusRule rule entry first second delay), stops, refl))
called_for words r (refusal.StimulusTooLarge count limit cycles) asks stops = (r, asks, inr (stop.Refused (refusal.StimulusTooLarge count limit cycles), stops, refl))
called_for words r (refusal.Conflict cycle port) asks stops = (r, asks, inr (stop.Refused (refusal.Conflict cycle port), stops, refl))

-- ---- known files

-- the files of a command that is done
known_done : (disk : Disk) (files : List AskedFile) → AreKnownBy disk (Ok tt) files → AreKnown disk Done files
known_done disk [] known = tt
known_done disk (file ∷ files) known = (known.0, λ rests'. known_done disk files (known.1 tt))

-- those of a command that is refused
known_refused : (disk : Disk) (why : Refusal) (ended : Ended) → ended ≡ answer_of why → (files : List AskedFile) → AreKnownBy disk (Err (stop.Refused why)) files → AreKnown disk ended files
known_refused disk why ended is [] known = tt
known_refused disk why ended is (file ∷ files) known = (
  known.0,
  λ rests'. known_refused disk why ended is files (known.1 (rests disk.contents file why (subst (RestsOnMore disk.contents file) is rests'))),
)

-- ---- a command that is done

module _ {disk : Disk} {out : Stream} (words : List Text) (r : Request) (asks : Asks words r) (performs : Performs (entry_of r.command).command r.arguments disk (Ok tt) out) (held : Option Text) (count : ℕ) where
  abbrev done_call : Call
  done_call = record { words = words; disk = disk; out = out; err = kept_sink held count; ended = Done }

  done_verdict : IsAllTold done_call → IsAnswered done_call
  done_verdict told =
      let has = performs.leaves (told r asks) in
      record { made = has.made; report = has.report; line = []; verdict = Asked r asks has.outcome; reported = has.reported; told = appends_none held }

  pub done_answers : Answers done_call
  done_answers = record {
    verdict = λ is told. done_verdict told;
    called_for = (r, asks, inl refl);
    known = λ is r' asks'. subst (λ (q : Request). AreKnown disk Done (files_of q)) (asks_once words r r' asks asks') (known_done disk (files_of r) performs.known);
    read_fault = λ is. absurd (let e : Done ≡ ReadFault = is in cc e);
    write_rose = λ is. absurd (let e : Done ≡ WriteFault = is in cc e);
    write_fault = λ is content. absurd (let e : Done ≡ WriteFault = is in cc e);
    memory = λ is content. absurd (let e : Done ≡ Memory = is in cc e);
    memory_line = λ is. absurd (let e : Done ≡ Memory = is in cc e);
    files = keeps_but_more (MayBeRead disk.contents (files_of r)) (IsAskedFor done_call) disk (λ file read. (r, asks, read)) performs.files;
    out_never_falls = performs.never_falls;
    err_never_falls = omega arith;
    complete = λ r' asks' granted clear. tt;
  }

-- ---- a command that stopped, and the line that tells it

module _ {disk : Disk} {why : Stop} {out : Stream} (words : List Text) (r : Request) (asks : Asks words r) (performs : Performs (entry_of r.command).command r.arguments disk (Err why) out) (ended : Ended) (err : Stream) (told : IsTold r.arguments.design r.arguments.stimulus why ended err.written err.written' (HasFault err)) (more : err.faults ≤ err.faults') where
  abbrev stop_call : Call
  stop_call = record { words = words; disk = disk; out = out; err = err; ended = ended }

  -- what holds by the stop, however it is told
  abbrev StopsBy : Stop → Type 0
  StopsBy w = Performs (entry_of r.command).command r.arguments disk (Err w) out

  abbrev ToldAs : Stop → Type 0
  ToldAs w = IsTold r.arguments.design r.arguments.stimulus w ended err.written err.written' (HasFault err)

  -- the line of a refusal
  verdict_at : (w : Stop) → StopsBy w → ToldAs w → IsVerdictEnd ended → IsAllTold stop_call → IsAnswered stop_call
  verdict_at stop.ReadFault by tells is content = absurd (⊎_elim (λ whole. subst IsVerdictEnd whole.0 is) (λ part. subst IsVerdictEnd part.0 is) tells)
  verdict_at stop.StimulusReadFault by tells is content = absurd (⊎_elim (λ whole. subst IsVerdictEnd whole.0 is) (λ part. subst IsVerdictEnd part.0 is) tells)
  verdict_at (stop.Refused why') by tells is content =
      let has = by.leaves (content r asks) in
      ⊎_elim (λ whole. record {
        made = has.made;
        report = has.report;
        line = refusal_line why';
        verdict = Asked r asks (subst (λ (e : Ended). (command_of r).comes disk.contents has.made (record { ended = e; report = has.report; line = refusal_line why' })) (sym whole.0) has.outcome);
        reported = has.reported;
        told = whole.1;
      }) (λ part. absurd (subst IsVerdictEnd part.0 is)) tells
  verdict_at stop.WriteFault by tells is content = absurd (⊎_elim (λ whole. subst IsVerdictEnd whole.0 is) (λ part. subst IsVerdictEnd part.0 is) tells)
  verdict_at stop.Memory by tells is content = absurd (⊎_elim (λ whole. subst IsVerdictEnd whole.0 is) (λ part. subst IsVerdictEnd part.0 is) tells)

  called_at : (w : Stop) → StopsBy w → ToldAs w → IsCalledFor words ended
  called_at stop.ReadFault by tells =
      ⊎_elim (λ whole. subst (IsCalledFor words) (sym whole.0) (r, asks, inr (stop.ReadFault, by.stops, refl))) (λ part. subst (IsCalledFor words) (sym part.0) tt) tells
  called_at stop.StimulusReadFault by tells =
      ⊎_elim (λ whole. subst (IsCalledFor words) (sym whole.0) (r, asks, inr (stop.StimulusReadFault, by.stops, refl))) (λ part. subst (IsCalledFor words) (sym part.0) tt) tells
  called_at (stop.Refused why') by tells =
      ⊎_elim (λ whole. subst (IsCalledFor words) (sym whole.0) (called_for words r why' asks by.stops)) (λ part. subst (IsCalledFor words) (sym part.0) tt) tells
  called_at stop.WriteFault by tells = ⊎_elim (λ whole. subst (IsCalledFor words) (sym whole.0) tt) (λ part. subst (IsCalledFor words) (sym part.0) tt) tells
  called_at stop.Memory by tells = ⊎_elim (λ whole. subst (IsCalledFor words) (sym whole.0) tt) (λ part. subst (IsCalledFor words) (sym part.0) tt) tells

  abbrev Known : Type 0
  Known = AreKnown disk ended (files_of r)

  known_at : (w : Stop) → StopsBy w → ToldAs w → IsVerdictEnd ended → Known
  known_at stop.ReadFault by tells is = absurd (⊎_elim (λ whole. subst IsVerdictEnd whole.0 is) (λ part. subst IsVerdictEnd part.0 is) tells)
  known_at stop.StimulusReadFault by tells is = absurd (⊎_elim (λ whole. subst IsVerdictEnd whole.0 is) (λ part. subst IsVerdictEnd part.0 is) tells)
  known_at (stop.Refused why') by tells is =
      ⊎_elim (λ whole. known_refused disk why' ended whole.0 (files_of r) by.known) (λ part. absurd (subst IsVerdictEnd part.0 is)) tells
  known_at stop.WriteFault by tells is = absurd (⊎_elim (λ whole. subst IsVerdictEnd whole.0 is) (λ part. subst IsVerdictEnd part.0 is) tells)
  known_at stop.Memory by tells is = absurd (⊎_elim (λ whole. subst IsVerdictEnd whole.0 is) (λ part. subst IsVerdictEnd part.0 is) tells)

  -- ---- faults

  abbrev Cause : Text → Type 0
  Cause file = HasReadCause disk (files_of r) file

  unread : (file : Text) → Cause file × GainsNothing out → CanNotRead stop_call file
  unread file cause = record { r = r; asks = asks; has_cause = cause.0; unreported = cause.1 }

  fault_told : (file : Text) → Cause file × GainsNothing out → IsLineTold (read_fault_line file) ReadFault WriteFault ended err.written err.written' (HasFault err) → ended ≡ ReadFault → HasReadFault stop_call
  fault_told file cause tells is =
      ⊎_elim (λ whole. record { file = file; unread = unread file cause; told = whole.1 })
      (λ part. absurd (let e : WriteFault ≡ ReadFault = sym part.0 ∙ is in cc e)) tells

  -- a line that tells of no fault in reading
  told_is : (line : Text) (e other : Ended) → e ≢ other → WriteFault ≢ other → IsLineTold line e WriteFault ended err.written err.written' (HasFault err) → ended ≡ other → ⊥
  told_is line e other apart not_fault tells is = ⊎_elim (λ whole. apart (sym whole.0 ∙ is)) (λ part. not_fault (sym part.0 ∙ is)) tells

  -- a line of want of memory
  memory_is : (line : Text) (other : Ended) → Memory ≢ other → IsLineTold line Memory Memory ended err.written err.written' (HasFault err) → ended ≡ other → ⊥
  memory_is line other apart tells is = ⊎_elim (λ whole. apart (sym whole.0 ∙ is)) (λ part. apart (sym part.0 ∙ is)) tells

  read_at : (w : Stop) → StopsBy w → ToldAs w → ended ≡ ReadFault → HasReadFault stop_call
  read_at stop.ReadFault by tells is = fault_told r.arguments.design (by.read_fault refl) tells is
  read_at stop.StimulusReadFault by tells is = fault_told r.arguments.stimulus (by.stimulus_read_fault refl) tells is
  read_at (stop.Refused why') by tells is = absurd (told_is (refusal_line why') (answer_of why') ReadFault (λ e. subst IsVerdictEnd e (is_verdict why')) (λ e. cc e) tells is)
  read_at stop.WriteFault by tells is = absurd (told_is [] WriteFault ReadFault (λ e. cc e) (λ e. cc e) tells is)
  read_at stop.Memory by tells is = absurd (memory_is memory_line ReadFault (λ e. cc e) tells is)

  fault_untold : (file : Text) → Cause file × GainsNothing out → IsLineTold (read_fault_line file) ReadFault WriteFault ended err.written err.written' (HasFault err) → ended ≡ WriteFault → HasWriteFault stop_call
  fault_untold file cause tells is =
      ⊎_elim (λ whole. absurd (let e : ReadFault ≡ WriteFault = sym whole.0 ∙ is in cc e))
      (λ part. InReadFault part.1 (record { file = file; unread = unread file cause; part = part.2 })) tells

  write_at : (w : Stop) → StopsBy w → ToldAs w → ended ≡ WriteFault → IsAllTold stop_call → HasWriteFault stop_call
  write_at stop.ReadFault by tells is content = fault_untold r.arguments.design (by.read_fault refl) tells is
  write_at stop.StimulusReadFault by tells is content = fault_untold r.arguments.stimulus (by.stimulus_read_fault refl) tells is
  write_at (stop.Refused why') by tells is content =
      let has = by.leaves (content r asks) in
      ⊎_elim (λ whole. absurd (subst IsVerdictEnd (sym whole.0 ∙ is) (is_verdict why')))
      (λ part. InLine part.1 (record {
        made = has.made;
        outcome = record { ended = answer_of why'; report = has.report; line = refusal_line why' };
        verdict = Asked r asks has.outcome;
        has_line = has_line why';
        reported = has.reported;
        part = part.2;
      })) tells
  write_at stop.WriteFault by tells is content =
      InReport (by.write_fault refl) (r, asks, by.leaves (content r asks)) (⊎_elim (λ whole. keeps_none err.written err.written' whole.1) (λ part. keeps_no_prefix err.written err.written' part.2) tells)
  write_at stop.Memory by tells is content = absurd (memory_is memory_line WriteFault (λ e. cc e) tells is)

  -- the count of the sink that failed rose
  rose_at : (w : Stop) → StopsBy w → ToldAs w → ended ≡ WriteFault → HasFault out ⊎ HasFault err
  rose_at stop.ReadFault by tells is = ⊎_elim (λ whole. absurd (let e : ReadFault ≡ WriteFault = sym whole.0 ∙ is in cc e)) (λ part. inr part.1) tells
  rose_at stop.StimulusReadFault by tells is = ⊎_elim (λ whole. absurd (let e : ReadFault ≡ WriteFault = sym whole.0 ∙ is in cc e)) (λ part. inr part.1) tells
  rose_at (stop.Refused why') by tells is = ⊎_elim (λ whole. absurd (subst IsVerdictEnd (sym whole.0 ∙ is) (is_verdict why'))) (λ part. inr part.1) tells
  rose_at stop.WriteFault by tells is = inl (by.write_fault refl)
  rose_at stop.Memory by tells is = absurd (memory_is memory_line WriteFault (λ e. cc e) tells is)

  -- ---- want of memory

  memory_at : (w : Stop) → StopsBy w → ToldAs w → ended ≡ Memory → (IsAllTold stop_call → HasPartOfReport stop_call) × GainsPart err (as_line memory_line)
  memory_at stop.ReadFault by tells is = absurd (told_is (read_fault_line r.arguments.design) ReadFault Memory (λ e. cc e) (λ e. cc e) tells is)
  memory_at stop.StimulusReadFault by tells is = absurd (told_is (read_fault_line r.arguments.stimulus) ReadFault Memory (λ e. cc e) (λ e. cc e) tells is)
  memory_at (stop.Refused why') by tells is = absurd (told_is (refusal_line why') (answer_of why') Memory (λ e. subst IsVerdictEnd e (is_verdict why')) (λ e. cc e) tells is)
  memory_at stop.WriteFault by tells is = absurd (told_is [] WriteFault Memory (λ e. cc e) (λ e. cc e) tells is)
  memory_at stop.Memory by tells is = (
    λ content. (r, asks, by.leaves (content r asks)),
    ⊎_elim (λ whole. whole_prefix err.written err.written' (as_line memory_line) whole.1) (λ part. part.2) tells,
  )

  -- ---- what is granted is done, by the causes of the other answers

  no_cause : (file : Text) → MeetsNoFault stop_call → Cause file → ⊥
  no_cause file clear cause = ⊎_elim (λ unknown. unknown (clear.known file (r, asks, cause.read))) (λ rose. clear.read file (r, asks, cause.read) rose) cause.fault

  granted_end : (e : Ended) → ended ≡ e → IsEndOf r e → IsEndOf r ended
  granted_end e is end = subst (IsEndOf r) (sym is) end

  granted_at : (w : Stop) → StopsBy w → ToldAs w → (command_of r).granted disk.contents → MeetsNoFault stop_call → IsEndOf r ended
  granted_at stop.ReadFault by tells granted clear = absurd (no_cause r.arguments.design clear (by.read_fault refl).0)
  granted_at stop.StimulusReadFault by tells granted clear = absurd (no_cause r.arguments.stimulus clear (by.stimulus_read_fault refl).0)
  granted_at (stop.Refused why') by tells granted clear =
      let laws = laws_of r in let has = by.leaves (laws.granted_told disk.contents granted) in
      ⊎_elim (λ whole. ⊎_elim (λ done. granted_end Done (whole.0 ∙ done) tt)
      (λ clash. granted_end Conflict (whole.0 ∙ clash) (inr (stop.Refused why', by.stops, sym clash)))
      (laws.granted_ends disk.contents has.made (record { ended = answer_of why'; report = has.report; line = refusal_line why' }) granted has.outcome))
      (λ part. absurd (clear.told part.1)) tells
  granted_at stop.WriteFault by tells granted clear = absurd (clear.reported (by.write_fault refl))
  granted_at stop.Memory by tells granted clear = ⊎_elim (λ whole. granted_end Memory whole.0 tt) (λ part. granted_end Memory part.0 tt) tells

  stop_complete : IsComplete stop_call
  stop_complete r' asks' granted clear =
      let same = asks_once words r r' asks asks' in
      subst (λ (q : Request). IsEndOf q ended) same
      (granted_at why performs told (subst (λ (q : Request). (command_of q).granted disk.contents) (sym same) granted) clear)

  pub stop_answers : Answers stop_call
  stop_answers = record {
    verdict = verdict_at why performs told;
    called_for = called_at why performs told;
    known = λ is r' asks'. subst (λ (q : Request). AreKnown disk ended (files_of q)) (asks_once words r r' asks asks') (known_at why performs told is);
    read_fault = read_at why performs told;
    write_rose = rose_at why performs told;
    write_fault = write_at why performs told;
    memory = λ is. (memory_at why performs told is).0;
    memory_line = λ is. (memory_at why performs told is).1;
    files = keeps_but_more (MayBeRead disk.contents (files_of r)) (IsAskedFor stop_call) disk (λ file read. (r, asks, read)) performs.files;
    out_never_falls = performs.never_falls;
    err_never_falls = more;
    complete = stop_complete;
  }
