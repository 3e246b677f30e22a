-- Answers of two programs, by what both left in their sinks.
use Rattle.std.proofs.Common.{◌≡◌, List, ◌++◌, Option, inl, inr, sym, ap, subst₂, ◌∙◌}
use Rattle.std.specs.Io.KnownBytes.{Appends}
use Rattle.hw_names.specs.Name.{Text}
use Rattle.filc_stop.specs.Lines.{as_line}
use Rattle.filc_stop.specs.Outcome.{Contents}
use Rattle.filc_core.specs.Call.{Call, Stream, Gains}
use Rattle.filc_core.specs.TopCall.{IsAnswered}
use Rattle.filc_core.specs.Verdict.{Verdict}
use Rattle.filc_laws.proofs.VerdictLemmas.{one_verdict}
use Rattle.filc_laws.specs.OneAnswer.{AskAlike, Holds, IsSameOut, IsSameErr, OneAnswer}
use Rattle.filc_laws.specs.OneLine.{IsSameLine}
use Rattle.filc_laws.specs.OneVerdict.{AreOne, IsSameReport}

same_out : (words : List Text) (contents : Contents) (made made' report report' out out' out'' : Text) → out' ≡ out ++ report → out'' ≡ out ++ report' → IsSameReport words contents made made' report report' → IsSameOut words contents out out' out''
same_out words contents made made' report report' out out' out'' e e' (inl same) = inl (e ∙ ap (λ (r : Text). out ++ r) same ∙ sym e')
same_out words contents made made' report report' out out' out'' e e' (inr (inl of)) = inr (inl (record {
  asked = of.asked;
  asks = of.asks;
  made = made;
  made' = made';
  from = of.from;
  from' = of.from';
  printed = e ∙ ap (λ (r : Text). out ++ r) of.printed;
  printed' = e' ∙ ap (λ (r : Text). out ++ r) of.printed';
}))
same_out words contents made made' report report' out out' out'' e e' (inr (inr traces)) =
    inr (inr (record { made = made; made' = made'; report = report; report' = report'; traces = traces; printed = e; printed' = e' }))

same_err : (line line' err err' err'' : Text) → err' ≡ err ++ as_line line → err'' ≡ err ++ as_line line' → IsSameLine line line' → IsSameErr err err' err''
same_err line line' err err' err'' e e' (inl same) = inl (e ∙ ap (λ (l : Text). err ++ as_line l) same ∙ sym e')
same_err line line' err err' err'' e e' (inr loop) = inr (record { line = line; line' = line'; loop = loop; told = e; told' = e' })

-- what a sink gained, by what it held
gained : (sink : Stream) (before after text : Text) → Holds sink before after → Gains sink text → after ≡ before ++ text
gained sink before after text holds gains =
    subst₂ (λ (old new : Option Text). Appends old new text → after ≡ before ++ text) (sym holds.held) (sym holds.holds) (λ is. is) gains

same_answers : (call other : Call) → AskAlike call other → (p : IsAnswered call) → (q : IsAnswered other) → AreOne call.words call.disk.contents p.made q.made (record { ended = call.ended; report = p.report; line = p.line }) (record { ended = other.ended; report = q.report; line = q.line })
same_answers call other alike p q =
    one_verdict call.words call.disk.contents p.made q.made (record { ended = call.ended; report = p.report; line = p.line }) (record { ended = other.ended; report = q.report; line = q.line }) p.verdict
    (subst₂ (λ (words : List Text) (contents : Contents). Verdict words contents q.made (record { ended = other.ended; report = q.report; line = q.line })) (sym alike.words) (sym alike.contents) q.verdict)

pub one_answer : OneAnswer
one_answer = λ call other alike p q before out out' err err' err'' has has' says says'.
    let one = same_answers call other alike p q in (
      one.ended,
      same_out call.words call.disk.contents p.made q.made p.report q.report before out out' (gained call.out before out p.report has p.reported) (gained other.out before out' q.report has' q.reported) one.report,
      same_err p.line q.line err err' err'' (gained call.err err err' (as_line p.line) says p.told) (gained other.err err err'' (as_line q.line) says' q.told) one.line,
    )
