-- From the contracts of loading and reporting to what a command performs: its design's file gives none, its stimulus gives nothing, or its
-- report is written. Any command's proof is made of these.
use Rattle.std.proofs.Common.{◌≡◌, ℕ, ◌≤◌, List, [], ◌∷◌, Option, Result, Ok, Err, IsSome, refl, sym, ap, subst, arith, inl, inr}
use mathlib.Core.Path.{fun_ext}
use Rattle.std.specs.Prelude.{Contains, IfErr, IsErrOf, OnOk, OnErr}
use Rattle.std.specs.Result.{IsErrAnd}
use Rattle.std.specs.Io.KnownBytes.{Appends}
use Rattle.hw_io.proofs.WritingLemmas.{appends_none}
use Rattle.hw_io.specs.Faults.{Rose}
use Rattle.hw_io.specs.Reading.{KeepsFiles, IsReadFault}
use Rattle.hw_io.specs.Writing.{AppendsPrefix}
use Rattle.hw_names.specs.Name.{Text}
use Rattle.stim_read.specs.declared.stim_end.StimEnd.{StimEnd}
use Rattle.filc_load.specs.Built.{KnowsFile, IsUnread, IsNotGiven}
use Rattle.filc_load.specs.Source.{IsAccepted, IsRefusedForSource}
use Rattle.filc_load.specs.StimulusFile.{IsRefusedForStimulus}
use Rattle.filc_stop.proofs.SinkLemmas.{keeps_all}
use Rattle.filc_stop.specs.Leaving.{Coming, MakesNone, IsCutShort, Leaves, LeavesAt}
use Rattle.filc_stop.specs.Outcome.{Contents, Outcome, done_with}
use Rattle.filc_stop.specs.Stops.{IsOfSource, IsOfStimulus, IsOfRun, IsWritingStop, answer_of, refusal_line}
use Rattle.filc_stop.specs.declared.language.Language.{Language}
use Rattle.filc_stop.specs.declared.stop.Stop.{Stop}
use Rattle.filc_stop.specs.declared.stop.Stop.TheVariants as stop
use Rattle.filc_core.proofs.FileLemmas.{keeps_one, keeps_both, known_before, later_fault}
use Rattle.filc_core.proofs.SourceLemmas.{accepted_not_refused, accepted_is_told}
use Rattle.filc_core.specs.Arguments.{Arguments}
use Rattle.filc_core.specs.Call.{Disk, Stream, disk_of}
use Rattle.filc_core.specs.Command.{AskedFile, Command, design_file, stimulus_file}
use Rattle.filc_core.specs.Files.{AreTold, KeepsFilesBut, MayBeRead}
use Rattle.filc_core.specs.inside.Performing.{AreKnownBy, GoesOn, Performs}

-- an error that is passed on is the one that came
pub same_error : {T : Type 0} (result : Result T Stop) (why : Stop) → IsErrAnd result (λ e. e ≡ why) → result ≡ Err why
same_error (Ok value) why is = absurd is
same_error (Err e) why is = ap Err is

-- the stop of an error
error_of : {T : Type 0} (why other : Stop) → ◌≡◌ {A = Result T Stop} (Err why) (Err other) → why ≡ other
error_of why other is = cc is

-- what holds by the contents after a read, holds by those before it
pub by_earlier : (contents now : Contents) (file : Text) (claim : Contents → Type 0) → ((name : Text) → now name ≡ contents name) → IsSome (contents file) → (IsSome (now file) → claim now) → claim contents
by_earlier contents now file claim kept told holds = subst (λ (k : Contents). IsSome (k file) → claim k) (fun_ext kept) holds told

-- a stop that isn't a fault in reading
abbrev pub IsNoReadFault : Stop → Type 0
IsNoReadFault stop.ReadFault = ⊥
IsNoReadFault stop.StimulusReadFault = ⊥
IsNoReadFault why = Unit {0}

-- a sink before and after
abbrev pub passed_by : Option Text → Option Text → ℕ → ℕ → Stream
passed_by out out' before after = record { written = out; written' = out'; faults = before; faults' = after }

-- a sink that nothing is written to
abbrev pub idle : Option Text → ℕ → Stream
idle out count = passed_by out out count count

-- ---- known files

-- a file that is known, is known whatever the result
knows : (names : List Text) (file : Text) (result : Result (Unit {0}) Stop) → Contains names file → KnowsFile names file result
knows names file (Ok done) known = known
knows names file (Err stop.ReadFault) known = tt
knows names file (Err stop.StimulusReadFault) known = tt
knows names file (Err (stop.Refused why)) known = known
knows names file (Err stop.WriteFault) known = tt
knows names file (Err stop.Memory) known = tt

-- all files are known
abbrev pub AllAreKnown : List Text → List AskedFile → Type 0
AllAreKnown names [] = Unit {0}
AllAreKnown names (file ∷ files) = Contains names file.name × AllAreKnown names files

known_by : (disk : Disk) (result : Result (Unit {0}) Stop) (files : List AskedFile) → AllAreKnown disk.names files → AreKnownBy disk result files
known_by disk result [] known = tt
known_by disk result (file ∷ files) known = (knows disk.names file.name result known.0, λ on. known_by disk result files known.1)

-- ---- the files that were read, where a report follows

pub record HasRead (disk : Disk) (files : List AskedFile) : Type 0 where
  pub kept : KeepsFilesBut (MayBeRead disk.contents files) disk
  pub known : AllAreKnown disk.names files

module _ (command : Arguments → Command) (a : Arguments) {disk : Disk} {result : Result (Unit {0}) Stop} {out out' : Option Text} {before after : ℕ} (read : HasRead disk (command a).files) where
  -- a report that was written, or that stops in the middle
  pub reports : (AreTold disk.contents (command a).files → Leaves ((command a).makes disk.contents) ((command a).comes disk.contents) result out out')
      → IfErr result (command a).stops → IfErr result IsNoReadFault → (IsErrOf result stop.WriteFault → Rose before after) → before ≤ after
      → Performs command a disk result (passed_by out out' before after)
  reports leaves stops no_fault rose more = record {
    files = read.kept;
    leaves = leaves;
    stops = stops;
    known = known_by disk result (command a).files read.known;
    read_fault = λ fault. absurd (subst (λ (res : Result (Unit {0}) Stop). IfErr res IsNoReadFault) fault no_fault);
    stimulus_read_fault = λ fault. absurd (subst (λ (res : Result (Unit {0}) Stop). IfErr res IsNoReadFault) fault no_fault);
    write_fault = rose;
    never_falls = more;
  }

-- an error that stops the report
pub report_stops : (command : Arguments → Command) (a : Arguments) → {disk : Disk} {result : Result (Unit {0}) Stop} {out out' : Option Text} {before after : ℕ}
    → HasRead disk (command a).files → (why : Stop) → IsErrAnd result (λ e. e ≡ why)
    → (AreTold disk.contents (command a).files → LeavesAt ((command a).makes disk.contents) ((command a).comes disk.contents) why out out')
    → (command a).stops why → IsNoReadFault why → (why ≡ stop.WriteFault → Rose before after) → before ≤ after
    → Performs command a disk result (passed_by out out' before after)
report_stops command a {disk = disk} {result = result} {out = out} {out' = out'} {before = before} {after = after} read why passed leaves stops no_fault rose more =
    subst (λ (res : Result (Unit {0}) Stop). Performs command a disk res (passed_by out out' before after)) (sym (same_error result why passed))
    (reports command a read leaves stops no_fault (λ e. rose (error_of why stop.WriteFault e)) more)

-- ---- the design's file

-- a command that reads a design in this language, and then these files
pub record ReadsDesign (command : Arguments → Command) (a : Arguments) (language : Language) (rest : List AskedFile) : Type 0 where
  pub files : (command a).files ≡ design_file language a.design ∷ rest
  pub refused : (contents : Contents) (o : Outcome) → IsRefusedForSource contents language a.design o → (command a).comes contents [] o
  pub stops : (why : Stop) → IsOfSource why → (command a).stops why

module _ (command : Arguments → Command) (a : Arguments) (language : Language) where
  module _ (rest : List AskedFile) (is : ReadsDesign command a language rest) where
    may_read_design : (contents : Contents) → MayBeRead contents (command a).files a.design
    may_read_design contents = subst (λ (files : List AskedFile). MayBeRead contents files a.design) (sym is.files) (inl refl)

    pub design_told : (contents : Contents) → AreTold contents (command a).files → IsSome (contents a.design)
    design_told contents told = (subst (AreTold contents) is.files told).0

  -- an accepted design is all, where nothing else is read
  pub one_told : ReadsDesign command a language [] → (contents : Contents) → IsAccepted contents language a.design → AreTold contents (command a).files
  one_told is contents accepted = subst (AreTold contents) (sym is.files) (accepted_is_told contents a.design language accepted, λ passes. tt)

  module _ (is : ReadsDesign command a language (stimulus_file a.stimulus ∷ [])) (contents : Contents) where
    may_read_stimulus : (IsSome (contents a.design) → IsAccepted contents language a.design) → MayBeRead contents (command a).files a.stimulus
    may_read_stimulus accepted = subst (λ (files : List AskedFile). MayBeRead contents files a.stimulus) (sym is.files) (inr (accepted, inl refl))

    pub stimulus_told : AreTold contents (command a).files → IsAccepted contents language a.design → IsSome (contents a.stimulus)
    stimulus_told told accepted = ((subst (AreTold contents) is.files told).1 accepted).0

    -- an accepted design and a stimulus that is told are all that is to be told
    pub both_told : IsAccepted contents language a.design → IsSome (contents a.stimulus) → AreTold contents (command a).files
    both_told accepted told =
        subst (AreTold contents) (sym is.files) (accepted_is_told contents a.design language accepted, λ passes. (told, λ passes'. tt))

module _ {F : Type 0} (command : Arguments → Command) (a : Arguments) (language : Language) (names : F → List Text) (contents : F → Contents) (faults : F → Text → ℕ) (old mid : F) (kept : KeepsFiles names contents faults a.design old mid) where
  abbrev read_disk : Disk
  read_disk = disk_of names contents faults old mid

  module _ (rest : List AskedFile) (is : ReadsDesign command a language rest) where
    design_kept : KeepsFilesBut (MayBeRead (contents old) (command a).files) read_disk
    design_kept = keeps_one names contents faults (MayBeRead (contents old) (command a).files) a.design old mid (may_read_design command a language rest is (contents old)) kept

    -- it gives none: what is left in the sink
    source_leaves : (why : Stop) (out : Option Text) → IsUnread (contents old) language a.design why → LeavesAt ((command a).makes (contents old)) ((command a).comes (contents old)) why out out
    source_leaves stop.ReadFault out unread = keeps_all out
    source_leaves stop.StimulusReadFault out unread = absurd unread
    source_leaves (stop.Refused why) out unread = record {
      made = [];
      report = [];
      outcome = is.refused (contents old) _ (record { ended = answer_of why; line = refusal_line why; source = unread; outcome = refl });
      reported = appends_none out;
    }
    source_leaves stop.WriteFault out unread = absurd unread
    source_leaves stop.Memory out unread = inl (keeps_all out)

    -- an accepted file isn't refused
    no_refusal : (why : Stop) → IsOfSource why → (IsSome (contents old a.design) → IsUnread (contents old) language a.design why) → GoesOn (contents old) (design_file language a.design) (Err why) → ⊥
    no_refusal stop.ReadFault of unread on = on
    no_refusal stop.StimulusReadFault of unread on = on
    no_refusal (stop.Refused why) of unread (inl accepted) =
        accepted_not_refused (contents old) a.design language _ accepted
        (record { ended = answer_of why; line = refusal_line why; source = unread (accepted_is_told (contents old) a.design language accepted); outcome = refl })
    no_refusal (stop.Refused why) of unread (inr other) = other of
    no_refusal stop.WriteFault of unread on = on
    no_refusal stop.Memory of unread on = on

    -- it gives none: what the command performs
    source_ends : (result : Result (Unit {0}) Stop) (why : Stop) (out : Option Text) (count : ℕ) → IsErrAnd result (λ e. e ≡ why)
        → (IsSome (contents old a.design) → IsUnread (contents old) language a.design why) → KnowsFile {T = Unit {0}} (names old) a.design (Err why)
        → (why ≡ stop.ReadFault → IsReadFault (names old) a.design (faults old a.design) (faults mid a.design)) → IsOfSource why
        → Performs command a read_disk result (idle out count)
    source_ends result why out count passed unread known fault of =
        subst (λ (res : Result (Unit {0}) Stop). Performs command a read_disk res (idle out count)) (sym (same_error result why passed)) (record {
          files = design_kept;
          leaves = λ told. source_leaves why out (unread (design_told command a language rest is (contents old) told));
          stops = is.stops why of;
          known = subst (AreKnownBy read_disk (Err why)) (sym is.files) (known, λ on. absurd (no_refusal why of unread on));
          read_fault = λ e. (record { read = may_read_design command a language rest is (contents old); fault = fault (error_of why stop.ReadFault e) }, keeps_all out);
          stimulus_read_fault = λ e. absurd (subst IsOfSource (error_of why stop.StimulusReadFault e) of);
          write_fault = λ e. absurd (subst IsOfSource (error_of why stop.WriteFault e) of);
          never_falls = omega arith;
        })

    -- it was read, and then there was no memory: what the command performs
    memory_ends : (result : Result (Unit {0}) Stop) (out : Option Text) (count : ℕ) → IsErrAnd result (λ e. e ≡ stop.Memory) → (command a).stops stop.Memory → Performs command a read_disk result (idle out count)
    memory_ends result out count passed stops =
        subst (λ (res : Result (Unit {0}) Stop). Performs command a read_disk res (idle out count)) (sym (same_error result stop.Memory passed)) (record {
          files = design_kept;
          leaves = λ told. inl (keeps_all out);
          stops = stops;
          known = subst (AreKnownBy read_disk (Err stop.Memory)) (sym is.files) (tt, λ on. absurd on);
          read_fault = λ fault. absurd (let e = error_of stop.Memory stop.ReadFault fault in cc e);
          stimulus_read_fault = λ fault. absurd (let e = error_of stop.Memory stop.StimulusReadFault fault in cc e);
          write_fault = λ fault. absurd (let e = error_of stop.Memory stop.WriteFault fault in cc e);
          never_falls = omega arith;
        })

  -- it was read, and a report follows
  has_read : ReadsDesign command a language [] → Contains (names old) a.design → HasRead read_disk (command a).files
  has_read is known = record { kept = design_kept [] is; known = subst (AllAreKnown (names old)) (sym is.files) (known, tt) }

  -- ---- the stimulus's file, after the design's

  module _ (is : ReadsDesign command a language (stimulus_file a.stimulus ∷ [])) (new : F) (late : KeepsFiles names contents faults a.stimulus mid new) (known : Contains (names old) a.design) (accepted : IsSome (contents old a.design) → IsAccepted (contents old) language a.design) where
    abbrev both_disk : Disk
    both_disk = disk_of names contents faults old new

    both_kept : KeepsFilesBut (MayBeRead (contents old) (command a).files) both_disk
    both_kept =
        keeps_both names contents faults (MayBeRead (contents old) (command a).files) a.design a.stimulus old mid new
        (may_read_design command a language (stimulus_file a.stimulus ∷ []) is (contents old)) (may_read_stimulus command a language is (contents old) accepted) kept late

    -- both were read, and a report follows
    has_read_both : Contains (names mid) a.stimulus → HasRead both_disk (command a).files
    has_read_both known_too = record {
      kept = both_kept;
      known = subst (AllAreKnown (names old)) (sym is.files) (known, (known_before names contents faults a.design a.stimulus old mid kept known_too, tt));
    }

    module _ (causes : Text → StimEnd → Type 0) where
      stimulus_leaves : (why : Stop) (out : Option Text) → IsNotGiven (contents old) a.stimulus causes why
          → ((o : Outcome) → IsRefusedForStimulus (contents old) a.stimulus causes o → (command a).comes (contents old) [] o)
          → LeavesAt ((command a).makes (contents old)) ((command a).comes (contents old)) why out out
      stimulus_leaves stop.ReadFault out none refused = absurd none
      stimulus_leaves stop.StimulusReadFault out none refused = keeps_all out
      stimulus_leaves (stop.Refused why) out none refused = record {
        made = [];
        report = [];
        outcome = refused _ (record { ended = answer_of why; line = refusal_line why; refused = none; outcome = refl });
        reported = appends_none out;
      }
      stimulus_leaves stop.WriteFault out none refused = absurd none
      stimulus_leaves stop.Memory out none refused = inl (keeps_all out)

      -- it gives nothing: what the command performs
      stimulus_ends : (result : Result (Unit {0}) Stop) (why : Stop) (out : Option Text) (count : ℕ) → IsErrAnd result (λ e. e ≡ why)
          → (AreTold (contents old) (command a).files → (o : Outcome) → IsRefusedForStimulus (contents old) a.stimulus causes o → (command a).comes (contents old) [] o)
          → (IsSome (contents mid a.stimulus) → IsNotGiven (contents mid) a.stimulus causes why) → KnowsFile {T = Unit {0}} (names mid) a.stimulus (Err why)
          → (why ≡ stop.StimulusReadFault → IsReadFault (names mid) a.stimulus (faults mid a.stimulus) (faults new a.stimulus))
          → IsOfStimulus why → (command a).stops why
          → Performs command a both_disk result (idle out count)
      stimulus_ends result why out count passed refused not_given known_too fault of stops =
          subst (λ (res : Result (Unit {0}) Stop). Performs command a both_disk res (idle out count)) (sym (same_error result why passed)) (record {
            files = both_kept;
            leaves = λ told.
                stimulus_leaves why out
                (by_earlier (contents old) (contents mid) a.stimulus (λ (k : Contents). IsNotGiven k a.stimulus causes why) kept.contents_kept
                (stimulus_told command a language is (contents old) told (accepted (design_told command a language (stimulus_file a.stimulus ∷ []) is (contents old) told))) not_given)
                (refused told);
            stops = stops;
            known = subst (AreKnownBy both_disk (Err why)) (sym is.files) (
              knows (names old) a.design (Err why) known,
              λ on. (subst (λ (ns : List Text). KnowsFile {T = Unit {0}} ns a.stimulus (Err why)) kept.names_kept known_too, λ on'. tt),
            );
            read_fault = λ e. absurd (subst IsOfStimulus (error_of why stop.ReadFault e) of);
            stimulus_read_fault = λ e. (
              record {
                read = may_read_stimulus command a language is (contents old) accepted;
                fault = later_fault names contents faults a.design a.stimulus old mid new kept (fault (error_of why stop.StimulusReadFault e));
              },
              keeps_all out,
            );
            write_fault = λ e. absurd (subst IsOfStimulus (error_of why stop.WriteFault e) of);
            never_falls = omega arith;
          })

-- ---- what a report leaves

still_cut : (makes makes' : Text → Type 0) (comes comes' : Coming) → ((made : Text) → makes made → makes' made) → ((made : Text) (o : Outcome) → comes' made o → comes made o) → (out out' : Option Text) → IsCutShort makes comes out out' → IsCutShort makes' comes' out out'
still_cut makes makes' comes comes' made_too less out out' (inl kept) = inl kept
still_cut makes makes' comes comes' made_too less out out' (inr has) = inr (record { made = has.made; makes_it = made_too has.made has.makes_it; part = λ o may. has.part o (less has.made o may) })

part_leaves : (comes : Coming) (text : Text) (out out' : Option Text) → ((o : Outcome) → comes [] o → o ≡ done_with text) → AppendsPrefix out out' text → IsCutShort MakesNone comes out out'
part_leaves comes text out out' alone part =
    inr (record { made = []; makes_it = refl; part = λ o may. subst (λ (bytes : Text). AppendsPrefix out out' bytes) (ap (λ (x : Outcome). x.report) (sym (alone o may))) part })

-- what comes of two is the same, and what one makes the other makes too: so is what is left
pub leaves_of : (makes makes' : Text → Type 0) (comes comes' : Coming) → ((made : Text) → makes made → makes' made) → ((made : Text) (o : Outcome) → comes made o → comes' made o) → ((made : Text) (o : Outcome) → comes' made o → comes made o)
    → (result : Result (Unit {0}) Stop) (out out' : Option Text) → Leaves makes comes result out out' → Leaves makes' comes' result out out'
leaves_of makes makes' comes comes' made_too more less (Ok done) out out' has = record { made = has.made; report = has.report; outcome = more has.made _ has.outcome; reported = has.reported }
leaves_of makes makes' comes comes' made_too more less (Err stop.ReadFault) out out' kept = kept
leaves_of makes makes' comes comes' made_too more less (Err stop.StimulusReadFault) out out' kept = kept
leaves_of makes makes' comes comes' made_too more less (Err (stop.Refused why)) out out' has = record { made = has.made; report = has.report; outcome = more has.made _ has.outcome; reported = has.reported }
leaves_of makes makes' comes comes' made_too more less (Err stop.WriteFault) out out' cut = still_cut makes makes' comes comes' made_too less out out' cut
leaves_of makes makes' comes comes' made_too more less (Err stop.Memory) out out' cut = still_cut makes makes' comes comes' made_too less out out' cut

-- the same, where both make the same
pub leaves_as : (makes : Text → Type 0) (comes comes' : Coming) → ((made : Text) (o : Outcome) → comes made o → comes' made o) → ((made : Text) (o : Outcome) → comes' made o → comes made o)
    → (result : Result (Unit {0}) Stop) (out out' : Option Text) → Leaves makes comes result out out' → Leaves makes comes' result out out'
leaves_as makes comes comes' more less result out out' has = leaves_of makes makes comes comes' (λ made is. is) more less result out out' has

-- a text that alone may come was written, or a part of it
pub text_leaves : (comes : Coming) (text : Text) (result : Result (Unit {0}) Stop) (out out' : Option Text) → comes [] (done_with text) → ((o : Outcome) → comes [] o → o ≡ done_with text)
    → OnOk result (Appends out out' text) → OnErr result (AppendsPrefix out out' text) → IfErr result IsWritingStop → Leaves MakesNone comes result out out'
text_leaves comes text (Ok done) out out' may alone written part stops = record { made = []; report = text; outcome = may; reported = written }
text_leaves comes text (Err stop.ReadFault) out out' may alone written part stops = absurd stops
text_leaves comes text (Err stop.StimulusReadFault) out out' may alone written part stops = absurd stops
text_leaves comes text (Err (stop.Refused why)) out out' may alone written part stops = absurd stops
text_leaves comes text (Err stop.WriteFault) out out' may alone written part stops = part_leaves comes text out out' alone part
text_leaves comes text (Err stop.Memory) out out' may alone written part stops = part_leaves comes text out out' alone part

pub no_fault_at_run : (why : Stop) → IsOfRun why → IsNoReadFault why
no_fault_at_run stop.ReadFault of = of
no_fault_at_run stop.StimulusReadFault of = of
no_fault_at_run (stop.Refused why) of = tt
no_fault_at_run stop.WriteFault of = tt
no_fault_at_run stop.Memory of = tt

pub no_fault_at_writing : (why : Stop) → IsWritingStop why → IsNoReadFault why
no_fault_at_writing stop.ReadFault of = of
no_fault_at_writing stop.StimulusReadFault of = of
no_fault_at_writing (stop.Refused why) of = tt
no_fault_at_writing stop.WriteFault of = tt
no_fault_at_writing stop.Memory of = tt

-- what holds of each stop of one kind, holds of the result's
pub if_stops : (of claim : Stop → Type 0) (result : Result (Unit {0}) Stop) → ((why : Stop) → of why → claim why) → IfErr result of → IfErr result claim
if_stops of claim (Ok done) all is = tt
if_stops of claim (Err why) all is = all why is

-- ---- what a command performs, at each of its ends

-- the design's file was read: it is known, and accepted where its content is told
pub record DesignRead {F : Type 0} (names : F → List Text) (contents : F → Contents) (faults : F → Text → ℕ) (language : Language) (file : Text) (old mid : F) : Type 0 where
  pub files : KeepsFiles names contents faults file old mid
  pub known : Contains (names old) file
  pub accepted : IsSome (contents old file) → IsAccepted (contents old) language file

module _ {F : Type 0} {language : Language} {names : F → List Text} {contents : F → Contents} {faults : F → Text → ℕ} (command : Arguments → Command) (a : Arguments) where
  -- the design's file gives none
  pub source_stops : {T : Type 0} {rest : List AskedFile} {old new : F} {result : Result (Unit {0}) Stop} {out : Option Text} {count : ℕ}
      → ReadsDesign command a language rest → KeepsFiles names contents faults a.design old new → (why : Stop) → IsErrAnd result (λ e. e ≡ why)
      → (IsSome (contents old a.design) → IsUnread (contents old) language a.design why) → KnowsFile {T = T} (names old) a.design (Err why)
      → (◌≡◌ {A = Result T Stop} (Err why) (Err stop.ReadFault) → IsReadFault (names old) a.design (faults old a.design) (faults new a.design)) → IsOfSource why
      → Performs command a (disk_of names contents faults old new) result (idle out count)
  source_stops {rest = rest} {old = old} {new = new} {result = result} {out = out} {count = count} reads kept why passed unread known fault of =
      source_ends command a language names contents faults old new kept rest reads result why out count passed unread known (λ e. fault (ap Err e)) of

  -- the design's file was read, and then there was no memory
  pub memory_stops : {rest : List AskedFile} {old new : F} {result : Result (Unit {0}) Stop} {out : Option Text} {count : ℕ}
      → ReadsDesign command a language rest → KeepsFiles names contents faults a.design old new → IsErrAnd result (λ e. e ≡ stop.Memory) → (command a).stops stop.Memory
      → Performs command a (disk_of names contents faults old new) result (idle out count)
  memory_stops {rest = rest} {old = old} {new = new} {result = result} {out = out} {count = count} reads kept passed stops =
      memory_ends command a language names contents faults old new kept rest reads result out count passed stops

  -- the stimulus gives nothing
  pub stimulus_stops : {T : Type 0} {old mid new : F} {result : Result (Unit {0}) Stop} {out : Option Text} {count : ℕ}
      → ReadsDesign command a language (stimulus_file a.stimulus ∷ []) → DesignRead names contents faults language a.design old mid → KeepsFiles names contents faults a.stimulus mid new
      → (causes : Text → StimEnd → Type 0) (why : Stop) → IsErrAnd result (λ e. e ≡ why)
      → (AreTold (contents old) (command a).files → (o : Outcome) → IsRefusedForStimulus (contents old) a.stimulus causes o → (command a).comes (contents old) [] o)
      → (IsSome (contents mid a.stimulus) → IsNotGiven (contents mid) a.stimulus causes why) → KnowsFile {T = T} (names mid) a.stimulus (Err why)
      → (◌≡◌ {A = Result T Stop} (Err why) (Err stop.StimulusReadFault) → IsReadFault (names mid) a.stimulus (faults mid a.stimulus) (faults new a.stimulus)) → IsOfStimulus why → (command a).stops why
      → Performs command a (disk_of names contents faults old new) result (idle out count)
  stimulus_stops {old = old} {mid = mid} {new = new} {result = result} {out = out} {count = count} reads first late causes why passed refused not_given known fault of stops =
      stimulus_ends command a language names contents faults old mid first.files reads new late first.known first.accepted causes result why out count passed refused not_given known (λ e. fault (ap Err e)) of stops

  -- a report follows, once the design's file was read
  pub read_one : {old new : F} → ReadsDesign command a language [] → KeepsFiles names contents faults a.design old new → Contains (names old) a.design → HasRead (disk_of names contents faults old new) (command a).files
  read_one {old = old} {new = new} reads kept known = has_read command a language names contents faults old new kept reads known

  -- the same, once the stimulus's file was read too
  pub read_both : {old mid new : F} → ReadsDesign command a language (stimulus_file a.stimulus ∷ []) → DesignRead names contents faults language a.design old mid → KeepsFiles names contents faults a.stimulus mid new → Contains (names mid) a.stimulus
      → HasRead (disk_of names contents faults old new) (command a).files
  read_both {old = old} {mid = mid} {new = new} reads first late known =
      has_read_both command a language names contents faults old mid first.files reads new late first.known first.accepted known
