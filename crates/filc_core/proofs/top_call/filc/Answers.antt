use Rattle.std.proofs.Common.{List, ℕ, map}
use Rattle.std.specs.Borrow.{Bor}
use Rattle.filc_core.proofs.AnswerLemmas.{unasked_answers, done_answers, stop_answers}
use Rattle.filc_core.specs.Call.{stream_of}
use Rattle.filc_core.specs.inside.Told.{request_told}
use Rattle.filc_core.proofs.top_call.filc.Goals as goal

abbrev words_of : List (Bor (List ℕ)) → List (List ℕ)
words_of words = map (λ (w : Bor (List ℕ)). w.now) words

pub returns-in_default : goal.returns-in_default
returns-in_default g c =
    unasked_answers g.F.Files.names g.F.Files.content g.F.Files.faults c.args.files.now (words_of c.args.words.now) (g.O.Sink.written c.args.out.now) (g.O.Sink.faults c.args.out.now)
    (stream_of g.E.Sink.written g.E.Sink.faults c.args.err.now c.refuse_words.new.err) c.refuse_words.result c.in_default.ensures c.refuse_words.ensures.told c.refuse_words.ensures.never_falls

pub returns-in-Ok : goal.returns-in-Ok
returns-in-Ok g c =
    done_answers (words_of c.args.words.now) (request_told c.in-Some.request) c.in-Some.ensures c.in-Ok.ensures (g.E.Sink.written c.args.err.now) (g.E.Sink.faults c.args.err.now)

pub returns-in-Err : goal.returns-in-Err
returns-in-Err g c =
    stop_answers (words_of c.args.words.now) (request_told c.in-Some.request) c.in-Some.ensures c.in-Err.ensures c.tell.result
    (stream_of g.E.Sink.written g.E.Sink.faults c.args.err.now c.tell.new.err) c.tell.ensures.told c.tell.ensures.never_falls
