-- Bytes that are put into a line before they are passed on.
use Rattle.std.proofs.Common.{◌≡◌, ℕ, ◌+◌, [], ◌++◌, length, take, drop, Option, sym, ap, ap₂, subst, ◌∙◌, arith, append_assoc}
use Rattle.std.proofs.lemmas.List.{append-nil}
use Rattle.std.proofs.Math.Seq.{take-add, take-append_seam}
use Rattle.hw_io.specs.Writing.{AppendsPrefix, Passes}
use Rattle.hw_io.proofs.WritingLemmas.{appends_none, appends_both}
use Rattle.hw_names.specs.Name.{Text}
use Rattle.filc_stop.proofs.SinkLemmas.{PassedUpTo}

-- digits that were written up to an end follow what stood before them
pub digits_put : (old new digits rest : Text) (len start end : ℕ) → start + length digits ≡ end → end ≡ len + length digits → drop start new ≡ digits ++ rest → take start new ≡ take start old → take end new ≡ take len old ++ digits
digits_put old new digits rest len start end start_is end_is written before =
    let same : start ≡ len = omega (arith, start_is, end_is) in
    ap (λ n. take n new) end_is ∙ take-add len (length digits) new
    ∙ ap₂ ◌++◌ (subst (λ n. take n new ≡ take n old) same before)
    (ap (take (length digits)) (subst (λ n. drop n new ≡ digits ++ rest) same written) ∙ take-append_seam digits rest)

-- what is put into the line passes as if it were held
pub put_passes : (told : Option Text) (held line text : Text) → Passes told (held ++ line) told (held ++ (line ++ text)) text
put_passes told held line text = record { gained = []; in_order = sym (append_assoc held line text); appended = appends_none told }

-- the line, and then more, with nothing in the line after them
pub line_passes : (first last : Option Text) (held line text after : Text) → Passes first held last after (line ++ text) → Passes first (held ++ line) last (after ++ []) text
line_passes first last held line text after passed = record {
  gained = passed.gained;
  in_order = ap (λ rest. passed.gained ++ rest) (append-nil after) ∙ passed.in_order ∙ sym (append_assoc held line text);
  appended = passed.appended;
}

-- a line begins with the first of its bytes
pub line_begins : (told : Option Text) (held line rest all : Text) → all ≡ line ++ rest → PassedUpTo told held told (held ++ line) rest all
line_begins told held line rest all parts = record {
  gained = [];
  in_order = append_assoc held line rest ∙ ap (λ text. held ++ text) (sym parts);
  appended = appends_none told;
}

-- a line passes with the rest of its bytes
pub line_ends : (first middle last : Option Text) (held between line after rest all : Text) → PassedUpTo first held middle (between ++ line) rest all → Passes middle between last after (line ++ rest) → Passes first held last after all
line_ends first middle last held between line after rest all early late = record {
  gained = early.gained ++ late.gained;
  in_order =
      append_assoc early.gained late.gained after
      ∙ ap (λ end. early.gained ++ end) (late.in_order ∙ sym (append_assoc between line rest))
      ∙ early.in_order;
  appended = appends_both first middle last early.gained late.gained early.appended late.appended;
}

pub line_breaks : (first middle last : Option Text) (held between line rest all : Text) → PassedUpTo first held middle (between ++ line) rest all → AppendsPrefix middle last (between ++ (line ++ rest)) → AppendsPrefix first last (held ++ all)
line_breaks first middle last held between line rest all early late = record {
  gained = early.gained ++ late.gained;
  left = late.left;
  in_order =
      append_assoc early.gained late.gained late.left
      ∙ ap (λ end. early.gained ++ end) (late.in_order ∙ sym (append_assoc between line rest))
      ∙ early.in_order;
  appended = appends_both first middle last early.gained late.gained early.appended late.appended;
}
