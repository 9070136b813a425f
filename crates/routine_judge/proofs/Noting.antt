-- Right answers as noted runs give them, one run more at a time.
use Rattle.std.proofs.Common.{◌≡◌, ◌⊎◌, ◌∙◌, ℕ, ◌+◌, ◌<◌, Bool, true, false, inl, inr, List, [], ◌∷◌, ◌++◌, length, get_or, take, ap, refl, subst, sym, arith, Option, Some, None, Result, Ok, Err, true≢false}
use Rattle.std.specs.Prelude.{◌↔◌, IfSome, IsTrue}
use Rattle.std.specs.List.{Contains}
use Rattle.std.proofs.lemmas.List.{take_more}
use Rattle.std.proofs.lemmas.List.Elements.{Contains-append_left, Contains-push, Contains-push_cases}
use Rattle.std.specs.declared.alloc.Global.{Global}
use Rattle.std.specs.declared.vec.Vec.{Vec}
use Rattle.machine.specs.Replies.{trace_in}
use Rattle.machine.specs.Run.{Config, started}
use Rattle.program.specs.Sections.{Sections}
use Rattle.recovery.proofs.Limited.{ends_once}
use Rattle.recovery.specs.Answers.{answer}
use Rattle.recovery.specs.Images.{AnswersOn}
use Rattle.recovery.specs.declared.recovery_run.Cause as run
use Rattle.recovery.specs.declared.recovery_run.Cause.TheVariants.{Running}
use Rattle.routine_judge.proofs.Gathering.{none_in}
use Rattle.routine_judge.specs.Fitting.{Fits, IsWordOf}
use Rattle.routine_judge.specs.Gathered.{AreRight, AreRightAfter, IsAdded}
use Rattle.routine_judge.specs.Images.{full_image}
use Rattle.routine_judge.specs.Order.{AreAtRest}
use Rattle.routine_judge.specs.SequentialRuns.{AreSequentialRuns, FittingShows, IsNoteOf, IsSequentialRunOf, NoneFits}
use Rattle.routine_judge.specs.Views.{ProgramView}
use Rattle.routine_judge.specs.declared.order.sequential_runs.SequentialRun.{SequentialRun}
use Rattle.routine_judge.specs.declared.right.RightAnswers.{RightAnswers}
use Rattle.store_trace.specs.declared.event.Event.{Event}

abbrev Found : Type 0
Found = Result (List ℕ) run.Cause

ok_same : (a b : List ℕ) → a ≡ b → ◌≡◌ {A = Found} (Ok a) (Ok b)
ok_same a b e = cc

same_ok : (a b : List ℕ) → ◌≡◌ {A = Found} (Ok a) (Ok b) → a ≡ b
same_ok a b e = cc

err_same : (a b : run.Cause) → a ≡ b → ◌≡◌ {A = Found} (Err a) (Err b)
err_same a b e = cc

same_err : (a b : run.Cause) → ◌≡◌ {A = Found} (Err a) (Err b) → a ≡ b
same_err a b e = cc

no_err : (a : List ℕ) (b : run.Cause) → ◌≡◌ {A = Found} (Ok a) (Err b) → ⊥
no_err a b e = cc

no_cause : (a : run.Cause) → Some a ≡ None → ⊥
no_cause a e = cc

-- a routine comes to one thing on an image
pub answers_once : (program : Sections) (steps : ℕ) (medium : List (List ℕ)) (found other : Found) → AnswersOn program steps medium found →
    AnswersOn program steps medium other → found ≡ other
answers_once program steps medium found other a b =
    let one = ends_once (started program medium 1) a.end b.end steps a.full b.full a.runs b.runs in
    a.comes ∙ sym (b.comes ∙ ap (λ (full : Bool). answer b.end full) one.1 ∙ ap (λ (end : Config). answer end a.full) one.0)

-- the right answers where images show this
abbrev pub AreShown : (Found → Type 0) → Type 0 → RightAnswers → Type 0
AreShown shows no_image right = AreRight (λ bytes. shows (Ok bytes)) (λ cause. shows (Err cause)) no_image (shows (Err Running)) right

-- with what one image more shows
pub shown_more : (shows more : Found → Type 0) (no_image none : Type 0) (found : Found) (old new : RightAnswers) →
    ((other : Found) → more other ↔ (shows other ⊎ (found ≡ other))) → IsAdded found old new → AreShown shows no_image old → AreShown more none new
shown_more shows more no_image none (Ok bytes) old new is added are =
    let there : Contains new.answers.items bytes = (added.0 bytes).1 (inr refl) in
    record {
      each = λ b c. elim ((added.0 b).0 c) [
        | inl before ↦ (is (Ok b)).1 (inl (are.each b before))
        | inr same ↦ (is (Ok b)).1 (inr (ok_same bytes b (sym same)))
      ];
      all = λ b m. elim ((is (Ok b)).0 m) [
        | inl before ↦ (added.0 b).1 (inl (are.all b before))
        | inr same ↦ (added.0 b).1 (inr (sym (same_ok bytes b same)))
      ];
      cause = λ e. absurd (none_in new.answers.items bytes e there);
      none = λ e. absurd (none_in new.answers.items bytes e there);
      on = λ t. (is (Err Running)).1 (inl (are.on (sym added.2 ∙ t)));
      ends = λ f m. elim ((is (Err Running)).0 m) [ inl before ↦ are.ends (sym added.2 ∙ f) before | inr same ↦ no_err bytes Running same ];
    }
shown_more shows more no_image none (Err cause) old new is added are =
    let items : new.answers.items ≡ old.answers.items = ap (λ (answers : Vec (List ℕ) Global). answers.items) added.0 in
    record {
      each = λ b c. (is (Ok b)).1 (inl (are.each b (subst (λ (xs : List (List ℕ)). Contains xs b) items c)));
      all = λ b m. elim ((is (Ok b)).0 m) [
        | inl before ↦ subst (λ (xs : List (List ℕ)). Contains xs b) (sym items) (are.all b before)
        | inr same ↦ absurd (no_err b cause (sym same))
      ];
      cause = λ e. subst (λ (o : Option run.Cause). IfSome o (λ c. more (Err c))) (sym added.1) ((is (Err cause)).1 (inr refl));
      none = λ e n. absurd (no_cause cause (sym added.1 ∙ n));
      on = λ t. elim (added.2 t) [
        | inl earlier ↦ (is (Err Running)).1 (inl (are.on earlier))
        | inr here ↦ (is (Err Running)).1 (inr (err_same cause Running here))
      ];
      ends = λ f m. elim ((is (Err Running)).0 m) [
        | inl earlier ↦ are.ends (added.3 f).0 earlier
        | inr same ↦ (added.3 f).1 (same_err cause Running same)
      ];
    }

-- the same, told otherwise
shown_cause : (shows others : Found → Type 0) (o : Option run.Cause) → ((found : Found) → shows found → others found) → IfSome o (λ c. shows (Err c)) →
    IfSome o (λ c. others (Err c))
shown_cause shows others None same c = tt
shown_cause shows others (Some cause) same c = same (Err cause) c

pub shown_as : (shows others : Found → Type 0) (no_image none : Type 0) (right : RightAnswers) → ((found : Found) → shows found → others found) →
    ((found : Found) → others found → shows found) → (no_image → none) → AreShown shows no_image right → AreShown others none right
shown_as shows others no_image none right there back lacks are = record {
  each = λ b c. there (Ok b) (are.each b c);
  all = λ b s. are.all b (back (Ok b) s);
  cause = λ e. shown_cause shows others right.last_cause there (are.cause e);
  none = λ e n. lacks (are.none e n);
  on = λ t. there (Err Running) (are.on t);
  ends = λ f s. are.ends f (back (Err Running) s);
}

-- nothing is shown
pub shown_nothing : (shows : Found → Type 0) (none : Type 0) (right : RightAnswers) → ((found : Found) → ¬ shows found) → none → right.answers.items ≡ [] →
    right.last_cause ≡ None → right.runs_on ≡ false → AreShown shows none right
shown_nothing shows none right nothing lacks items last on = record {
  each = λ b c. absurd (none_in right.answers.items b items c);
  all = λ b s. absurd (nothing (Ok b) s);
  cause = λ e. subst (λ (o : Option run.Cause). IfSome o (λ c. shows (Err c))) (sym last) tt;
  none = λ e n. lacks;
  on = λ t. absurd (true≢false (sym t ∙ on));
  ends = λ f s. nothing (Err Running) s;
}

-- one of these notes stands for a sequential run of the program that fits the events p, and it comes to this
pub record NotesShow (view : ProgramView) (p : List Event) (notes : List SequentialRun) (found : Found) : Type 0 where
  pub note : SequentialRun
  pub among : Contains notes note
  pub end : Config
  pub is_run : IsSequentialRunOf view end
  pub is_note : IsNoteOf view end note
  pub fits : Fits (trace_in end.common) p
  pub comes : note.found ≡ found

-- none of them does
abbrev pub NoNoteFits : ProgramView → List Event → List SequentialRun → Type 0
NoNoteFits view p notes = (note : SequentialRun) → Contains notes note → (end : Config) → IsSequentialRunOf view end → IsNoteOf view end note →
    ¬ Fits (trace_in end.common) p

abbrev pub AreNoted : ProgramView → List Event → List SequentialRun → RightAnswers → Type 0
AreNoted view p notes right = AreShown (NotesShow view p notes) (NoNoteFits view p notes) right

no_notes : (note : SequentialRun) → ¬ Contains [] note
no_notes note c = let h : c.0 < 0 = c.1 in omega arith

pub noted_none : (view : ProgramView) (p : List Event) (notes : List SequentialRun) (right : RightAnswers) → right.answers.items ≡ [] → right.last_cause ≡ None →
    right.runs_on ≡ false → AreNoted view p (take 0 notes) right
noted_none view p notes right items last on =
    shown_nothing (NotesShow view p []) (NoNoteFits view p []) right (λ found s. no_notes s.note s.among) (λ note c. absurd (no_notes note c)) items last on

module _ (view : ProgramView) (p : List Event) (notes : List SequentialRun) (i : ℕ) (note : SequentialRun) (inside : i < length notes)
    (at : note ≡ get_or notes i note) where
  one_more : take (i + 1) notes ≡ take i notes ++ note ∷ []
  one_more = take_more notes i note inside ∙ ap (λ (n : SequentialRun). take i notes ++ n ∷ []) (sym at)

  note_cases : (other : SequentialRun) → Contains (take (i + 1) notes) other → Contains (take i notes) other ⊎ (note ≡ other)
  note_cases other c = Contains-push_cases (take i notes) note other (subst (λ (ns : List SequentialRun). Contains ns other) one_more c)

  note_before : (other : SequentialRun) → Contains (take i notes) other → Contains (take (i + 1) notes) other
  note_before other c = subst (λ (ns : List SequentialRun). Contains ns other) (sym one_more) (Contains-append_left (take i notes) (note ∷ []) other c)

  note_here : Contains (take (i + 1) notes) note
  note_here = subst (λ (ns : List SequentialRun). Contains ns note) (sym one_more) (Contains-push (take i notes) note)

  shows_before : (found : Found) → NotesShow view p (take i notes) found → NotesShow view p (take (i + 1) notes) found
  shows_before found s = record {
    note = s.note;
    among = note_before s.note s.among;
    end = s.end;
    is_run = s.is_run;
    is_note = s.is_note;
    fits = s.fits;
    comes = s.comes;
  }

  shows_cases : (found : Found) (s : NotesShow view p (take (i + 1) notes) found) → NotesShow view p (take i notes) found ⊎ (note ≡ s.note)
  shows_cases found s = elim (note_cases s.note s.among) [
    | inl before ↦
        inl (record { note = s.note; among = before; end = s.end; is_run = s.is_run; is_note = s.is_note; fits = s.fits; comes = s.comes })
    | inr here ↦ inr here
  ]

  -- the note fits
  pub noted_lent : (old new : RightAnswers) → (end : Config) × IsSequentialRunOf view end × IsNoteOf view end note →
      ((end : Config) → IsSequentialRunOf view end → IsNoteOf view end note → Fits (trace_in end.common) p) → IsAdded note.found old new →
      AreNoted view p (take i notes) old → AreNoted view p (take (i + 1) notes) new
  noted_lent old new stands fits added are =
      shown_more (NotesShow view p (take i notes)) (NotesShow view p (take (i + 1) notes)) (NoNoteFits view p (take i notes))
      (NoNoteFits view p (take (i + 1) notes)) note.found old new
      (λ found. (
        λ s. elim (shows_cases found s) [ inl before ↦ inl before | inr here ↦ inr (ap (λ (n : SequentialRun). n.found) here ∙ s.comes) ],
        λ c. elim c [
          | inl before ↦ shows_before found before
          | inr same ↦
              record {
                note = note;
                among = note_here;
                end = stands.0;
                is_run = stands.1;
                is_note = stands.2;
                fits = fits stands.0 stands.1 stands.2;
                comes = same;
              }
        ],
      ))
      added are

  -- it doesn't
  pub noted_left : (right : RightAnswers) → ((end : Config) → IsSequentialRunOf view end → IsNoteOf view end note → ¬ Fits (trace_in end.common) p) →
      AreNoted view p (take i notes) right → AreNoted view p (take (i + 1) notes) right
  noted_left right lacks are =
      shown_as (NotesShow view p (take i notes)) (NotesShow view p (take (i + 1) notes)) (NoNoteFits view p (take i notes))
      (NoNoteFits view p (take (i + 1) notes)) right shows_before
      (λ found s. elim (shows_cases found s) [
        | inl before ↦ before
        | inr here ↦ absurd (lacks s.end s.is_run (subst (λ (n : SequentialRun). IsNoteOf view s.end n) (sym here) s.is_note) s.fits)
      ])
      (λ none other c end is of. elim (note_cases other c) [
        | inl before ↦ none other before end is of
        | inr here ↦ lacks end is (subst (λ (n : SequentialRun). IsNoteOf view end n) (sym here) of)
      ])
      are

-- all of them are noted
pub noted_right : (view : ProgramView) (p : List Event) (notes : List SequentialRun) (right : RightAnswers) → AreSequentialRuns view notes →
    AreNoted view p notes right → AreRightAfter view p right
noted_right view p notes right all are =
    shown_as (NotesShow view p notes) (FittingShows view p) (NoNoteFits view p notes) (NoneFits view p) right
    (λ found s. record {
      end = s.end;
      is_run = s.is_run;
      fits = s.fits;
      shows = subst (λ (x : Found). AnswersOn view.routine view.steps (full_image view.medium (trace_in s.end.common)) x) s.comes s.is_note.shows;
    })
    (λ found s.
    let n = all.all s.end s.is_run in
    record {
      note = n.0;
      among = n.1;
      end = s.end;
      is_run = s.is_run;
      is_note = n.2;
      fits = s.fits;
      comes = answers_once view.routine view.steps (full_image view.medium (trace_in s.end.common)) n.0.found found n.2.shows s.shows;
    })
    (λ none end is. let n = all.all end is in none n.0 n.1 end is n.2)
    are

-- what the test of a word says of the runs for which its note stands
pub word_fits : (view : ProgramView) (p : List Event) (note : SequentialRun) (fits : Bool) →
    ((w : List Event) → IsWordOf w note.word → AreAtRest w → IsTrue fits ↔ Fits w p) → fits ≡ true → (end : Config) → IsSequentialRunOf view end →
    IsNoteOf view end note → Fits (trace_in end.common) p
word_fits view p note fits says so end is of = (says (trace_in end.common) of.word is.rests).0 so

pub word_fits_not : (view : ProgramView) (p : List Event) (note : SequentialRun) (fits : Bool) →
    ((w : List Event) → IsWordOf w note.word → AreAtRest w → IsTrue fits ↔ Fits w p) → fits ≡ false → (end : Config) → IsSequentialRunOf view end →
    IsNoteOf view end note → ¬ Fits (trace_in end.common) p
word_fits_not view p note fits says so end is of f = true≢false (sym ((says (trace_in end.common) of.word is.rests).1 f) ∙ so)
