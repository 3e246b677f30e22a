-- What a sink gained, and what is still to come.
use Rattle.std.proofs.Common.{◌≡◌, [], ◌∷◌, ◌++◌, Option, None, Some, refl, sym, ap, subst, ◌∙◌, append_assoc}
use Rattle.std.proofs.lemmas.List.{append-nil}
use Rattle.std.specs.Io.KnownBytes.{Appends, Keeps}
use Rattle.hw_io.proofs.WritingLemmas.{appends_none, keeps_appends_none, appends_both}
use Rattle.hw_io.specs.Writing.{AppendsPrefix, Passes}
use Rattle.hw_names.specs.Name.{Text}

-- the sink gained all of these bytes up to the rest
pub record GainedUpTo (old new : Option Text) (rest all : Text) : Type 0 where
  pub gained : Text
  pub in_order : gained ++ rest ≡ all
  pub appended : Appends old new gained

pub gained_none : (told : Option Text) (all : Text) → GainedUpTo told told all all
gained_none told all = record { gained = []; in_order = refl; appended = appends_none told }

pub gained_more : (first middle last : Option Text) (text rest next all : Text) → rest ≡ text ++ next → GainedUpTo first middle rest all → Appends middle last text → GainedUpTo first last next all
gained_more first middle last text rest next all parts early late = record {
  gained = early.gained ++ text;
  in_order = append_assoc early.gained text next ∙ ap (λ r. early.gained ++ r) (sym parts) ∙ early.in_order;
  appended = appends_both first middle last early.gained text early.appended late;
}

pub gained_prefix : (first middle last : Option Text) (text rest next all : Text) → rest ≡ text ++ next → GainedUpTo first middle rest all → AppendsPrefix middle last text → AppendsPrefix first last all
gained_prefix first middle last text rest next all parts early late = record {
  gained = early.gained ++ late.gained;
  left = late.left ++ next;
  in_order = append_assoc early.gained late.gained (late.left ++ next) ∙ ap (λ r. early.gained ++ r) (sym (append_assoc late.gained late.left next) ∙ ap (λ r. r ++ next) late.in_order ∙ sym parts) ∙ early.in_order;
  appended = appends_both first middle last early.gained late.gained early.appended late.appended;
}

pub gained_all : (old new : Option Text) (rest all : Text) → rest ≡ [] → GainedUpTo old new rest all → Appends old new all
gained_all old new rest all none gained =
    subst (λ bytes. Appends old new bytes) (sym (append-nil gained.gained) ∙ ap (λ r. gained.gained ++ r) (sym none) ∙ gained.in_order) gained.appended

-- a line in three parts: its front, what it shows, and the line feed
module _ (first second third fourth : Option Text) (front shows all : Text) (parts : front ++ (shows ++ 10 ∷ []) ≡ all) where
  after_front : Appends first second front → GainedUpTo first second (shows ++ 10 ∷ []) all
  after_front whole = gained_more first first second front all (shows ++ 10 ∷ []) all (sym parts) (gained_none first all) whole

  after_shows : Appends first second front → Appends second third shows → GainedUpTo first third (10 ∷ []) all
  after_shows whole shown = gained_more first second third shows (shows ++ 10 ∷ []) (10 ∷ []) all refl (after_front whole) shown

  pub front_cut : AppendsPrefix first second front → AppendsPrefix first second all
  front_cut cut = gained_prefix first first second front all (shows ++ 10 ∷ []) all (sym parts) (gained_none first all) cut

  pub shows_cut : Appends first second front → AppendsPrefix second third shows → AppendsPrefix first third all
  shows_cut whole cut = gained_prefix first second third shows (shows ++ 10 ∷ []) (10 ∷ []) all refl (after_front whole) cut

  pub feed_cut : Appends first second front → Appends second third shows → AppendsPrefix third fourth (10 ∷ []) → AppendsPrefix first fourth all
  feed_cut whole shown cut = gained_prefix first third fourth (10 ∷ []) (10 ∷ []) [] all refl (after_shows whole shown) cut

  pub line_whole : Appends first second front → Appends second third shows → Appends third fourth (10 ∷ []) → Appends first fourth all
  line_whole whole shown fed = gained_all first fourth [] all refl (gained_more first third fourth (10 ∷ []) (10 ∷ []) [] all refl (after_shows whole shown) fed)

nil-append_left : (xs ys : Text) → xs ++ ys ≡ [] → xs ≡ []
nil-append_left [] ys none = refl
nil-append_left (x ∷ xs) ys none = cc none

-- what was told is kept
pub keeps_all : (told : Option Text) → Keeps told told
keeps_all None = tt
keeps_all (Some xs) = refl

pub keeps_none : (old new : Option Text) → Appends old new [] → Keeps old new
keeps_none None new gained = tt
keeps_none (Some xs) None gained = gained
keeps_none (Some xs) (Some ys) gained = gained ∙ append-nil xs

pub keeps_no_prefix : (old new : Option Text) → AppendsPrefix old new [] → Keeps old new
keeps_no_prefix old new prefix =
    keeps_none old new (subst (λ bytes. Appends old new bytes) (nil-append_left prefix.gained prefix.left prefix.in_order) prefix.appended)

pub none_prefix : (old new : Option Text) (bytes : Text) → Keeps old new → AppendsPrefix old new bytes
none_prefix old new bytes kept = record { gained = []; left = bytes; in_order = refl; appended = keeps_appends_none old new kept }

pub whole_prefix : (old new : Option Text) (bytes : Text) → Appends old new bytes → AppendsPrefix old new bytes
whole_prefix old new bytes gained = record { gained = bytes; left = []; in_order = append-nil bytes; appended = gained }

-- all of these bytes up to the rest were passed on through what is held
pub record PassedUpTo (first : Option Text) (held : Text) (now : Option Text) (after rest all : Text) : Type 0 where
  pub gained : Text
  pub in_order : gained ++ (after ++ rest) ≡ held ++ all
  pub appended : Appends first now gained

pub passed_up_to_none : (told : Option Text) (held all : Text) → PassedUpTo told held told held all all
passed_up_to_none told held all = record { gained = []; in_order = refl; appended = appends_none told }

pub passed_up_to_more : (first middle last : Option Text) (held between after text rest next all : Text) → rest ≡ text ++ next → PassedUpTo first held middle between rest all → Passes middle between last after text → PassedUpTo first held last after next all
passed_up_to_more first middle last held between after text rest next all parts early late = record {
  gained = early.gained ++ late.gained;
  in_order =
      append_assoc early.gained late.gained (after ++ next)
      ∙ ap (λ r. early.gained ++ r) (sym (append_assoc late.gained after next) ∙ ap (λ r. r ++ next) late.in_order ∙ append_assoc between text next ∙ ap (λ r. between ++ r) (sym parts))
      ∙ early.in_order;
  appended = appends_both first middle last early.gained late.gained early.appended late.appended;
}

pub passed_up_to_prefix : (first middle last : Option Text) (held between text rest next all : Text) → rest ≡ text ++ next → PassedUpTo first held middle between rest all → AppendsPrefix middle last (between ++ text) → AppendsPrefix first last (held ++ all)
passed_up_to_prefix first middle last held between text rest next all parts early late = record {
  gained = early.gained ++ late.gained;
  left = late.left ++ next;
  in_order =
      append_assoc early.gained late.gained (late.left ++ next)
      ∙ ap (λ r. early.gained ++ r) (sym (append_assoc late.gained late.left next) ∙ ap (λ r. r ++ next) late.in_order ∙ append_assoc between text next ∙ ap (λ r. between ++ r) (sym parts))
      ∙ early.in_order;
  appended = appends_both first middle last early.gained late.gained early.appended late.appended;
}

pub passed_up_to_all : (first last : Option Text) (held after rest all : Text) → rest ≡ [] → PassedUpTo first held last after rest all → Passes first held last after all
passed_up_to_all first last held after rest all none early = record {
  gained = early.gained;
  in_order = ap (λ r. early.gained ++ r) (sym (append-nil after) ∙ ap (λ r. after ++ r) (sym none)) ∙ early.in_order;
  appended = early.appended;
}
