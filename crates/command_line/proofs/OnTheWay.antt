-- What a reporter writes on the way to a verdict, line by line.
use Rattle.std.proofs.Common.{◌≡◌, ◌∙◌, ◌⊎◌, inl, inr, ℕ, ◌-◌, ◌++◌, List, [], Option, Bool, true, false, refl}
use Rattle.std.specs.Io.KnownBytes.{Appends}
use Rattle.std.proofs.lemmas.List.{append-nil}
use Rattle.debugger.specs.StreamFailures.{AppendsFront}
use Rattle.store_trace.specs.declared.event.Event.{Event}
use Rattle.verdict.specs.Progress.{HasHeard, IsTold}
use Rattle.verdict.specs.declared.moment_verdict.verdict.MomentVerdict.{MomentVerdict}
use Rattle.command_line.specs.Progress.{IsToldIf, Progresses, WritesIf, gets_line, progress_line}
use Rattle.command_line.proofs.Written.{front_more, front_nothing, joined, part_none}

-- the text that was told, all of it where every line got through; nothing where no line is wanted
pub record IsWritten {E : Type 0} (said : E → Option (List ℕ)) (tells : List ℕ → Type 0) (wanted : Bool) (errors : E) (wanted' : Bool)
    (errors' : E) : Type 0 where
  pub text : List ℕ
  pub is_told : tells text
  pub front : wanted ≡ true → AppendsFront (said errors) (said errors') text
  pub whole : wanted ≡ true → wanted' ≡ true → Appends (said errors) (said errors') text
  pub closed : wanted ≡ false → (wanted' ≡ false) × (errors' ≡ errors)

pub written_nothing : {E : Type 0} (said : E → Option (List ℕ)) (tells : List ℕ → Type 0) (wanted : Bool) (errors : E) → tells [] →
    IsWritten said tells wanted errors wanted errors
written_nothing said tells wanted errors none = record {
  text = [];
  is_told = none;
  front = λ w. front_nothing (said errors) [];
  whole = λ w w'. part_none (said errors) [];
  closed = λ w. (w, refl);
}

-- what a text tells to which this line is added, or nothing
abbrev pub TellsMore : (List ℕ → Type 0) → (List ℕ → Type 0) → List ℕ → Type 0
TellsMore tells tells' line = (text text' : List ℕ) → tells text → (text' ≡ text) ⊎ (text' ≡ text ++ line) → tells' text'

pub written_more : {E : Type 0} (said : E → Option (List ℕ)) (tells tells' : List ℕ → Type 0) (line : List ℕ) (wanted : Bool) (errors : E)
    (between : Bool) (errors' : E) (wanted'' : Bool) (errors'' : E) → IsWritten said tells wanted errors between errors' →
    TellsMore tells tells' line → WritesIf said line between errors' wanted'' errors'' → IsWritten said tells' wanted errors wanted'' errors''
written_more said tells tells' line wanted errors false errors' wanted'' errors'' is further none = record {
  text = is.text;
  is_told = further is.text is.text is.is_told (inl refl);
  front = λ w. rw none.1 (is.front w);
  whole = λ w w'. absurd cc;
  closed = λ w. (none.0, none.1 ∙ (is.closed w).1);
}
written_more said tells tells' line wanted errors true errors' wanted'' errors'' is further writes = elim writes.is_line [
  | inl none ↦ record {
    text = is.text;
    is_told = further is.text is.text is.is_told (inl refl);
    front = λ w. rw append-nil at (rw none at (front_more (said errors) (said errors') (said errors'') is.text writes.written (is.whole w refl) writes.front));
    whole = λ w w'. rw append-nil at (rw none at (joined (said errors) (said errors') (said errors'') is.text writes.written (is.whole w refl) (writes.whole w')));
    closed = λ w. let shut : true ≡ false = (is.closed w).0 in absurd cc;
  }
  | inr all ↦ record {
    text = is.text ++ line;
    is_told = further is.text (is.text ++ line) is.is_told (inr refl);
    front = λ w. rw all at (front_more (said errors) (said errors') (said errors'') is.text writes.written (is.whole w refl) writes.front);
    whole = λ w w'. rw all at (joined (said errors) (said errors') (said errors'') is.text writes.written (is.whole w refl) (writes.whole w'));
    closed = λ w. let shut : true ≡ false = (is.closed w).0 in absurd cc;
  }
]

-- nothing is told where no line is wanted
pub told_if : {E : Type 0} (said : E → Option (List ℕ)) (tells : List ℕ → Type 0) (wanted : Bool) (errors : E) (wanted' : Bool) (errors' : E) →
    IsWritten said tells wanted errors wanted' errors' → IsToldIf wanted (Progresses tells (said errors) (said errors')) errors errors'
told_if said tells true errors wanted' errors' is = record { text = is.text; is_told = is.is_told; writes = is.front refl }
told_if said tells false errors wanted' errors' is = (is.closed refl).1

-- no line is due
pub writes_none : {E : Type 0} (said : E → Option (List ℕ)) (line : List ℕ) (wanted : Bool) (errors : E) → WritesIf said line wanted errors wanted errors
writes_none said line true errors = record {
  written = [];
  is_line = inl refl;
  whole = λ w. part_none (said errors) [];
  front = front_nothing (said errors) [];
}
writes_none said line false errors = (refl, refl)

-- what becomes of a reporter, whose stream has a name, when it hears of moments that pass
abbrev pub Reports : {Reporter E : Type 0} → (Reporter → ℕ) → (Reporter → Bool) → (Reporter → E) → (E → Option (List ℕ)) →
    Reporter → ℕ → ℕ → Option ℕ → Reporter → Type 0
Reports name wanted errors said before moment moments images after = (name after ≡ name before)
    × WritesIf said (progress_line moment moments images) (wanted before) (errors before) (wanted after) (errors after)

-- a text that tells of moments of which so many pass
abbrev HasTold : {Cause : Type 0} → (ℕ → MomentVerdict Cause → Type 0) → List Event → ℕ → ℕ → ℕ → List ℕ → Type 0
HasTold judged events first end passed text = HasHeard gets_line judged events first end [] passed text

written : {Reporter E Cause : Type 0} (name : Reporter → ℕ) (wanted : Reporter → Bool) (errors : Reporter → E) (said : E → Option (List ℕ))
    (judged : ℕ → MomentVerdict Cause → Type 0) (events : List Event) (first end : ℕ) (reporter : Reporter) (passed : ℕ) (reporter' : Reporter) →
    HasHeard (Reports name wanted errors said) judged events first end reporter passed reporter' →
    IsWritten said (HasTold judged events first end passed) (wanted reporter) (errors reporter) (wanted reporter') (errors reporter')
written name wanted errors said judged events first end reporter _ _ HasHeard.nothing =
    written_nothing said (HasTold judged events first end 0) (wanted reporter) (errors reporter) HasHeard.nothing
written name wanted errors said judged events first end reporter _ _ (HasHeard.more passed further images before after heard later there row line) =
    written_more said (HasTold judged events first end passed) (HasTold judged events first end further) (progress_line further (end - first) images)
    (wanted reporter) (errors reporter) (wanted before) (errors before) (wanted after) (errors after)
    (written name wanted errors said judged events first end reporter passed before heard)
    (λ text text' told gets. HasHeard.more passed further images text text' told later there row gets) line.1

same_name : {Reporter E Cause : Type 0} (name : Reporter → ℕ) (wanted : Reporter → Bool) (errors : Reporter → E) (said : E → Option (List ℕ))
    (judged : ℕ → MomentVerdict Cause → Type 0) (events : List Event) (first end : ℕ) (reporter : Reporter) (passed : ℕ) (reporter' : Reporter) →
    HasHeard (Reports name wanted errors said) judged events first end reporter passed reporter' → name reporter' ≡ name reporter
same_name name wanted errors said judged events first end reporter _ _ HasHeard.nothing = refl
same_name name wanted errors said judged events first end reporter _ _ (HasHeard.more passed further images before after heard later there row line) =
    line.0 ∙ same_name name wanted errors said judged events first end reporter passed before heard

pub same_stream : {Reporter E Cause : Type 0} (name : Reporter → ℕ) (wanted : Reporter → Bool) (errors : Reporter → E) (said : E → Option (List ℕ))
    (judged : ℕ → MomentVerdict Cause → Type 0) (events : List Event) (first end : ℕ) (reporter reporter' : Reporter) →
    IsTold (Reports name wanted errors said) judged events first end reporter reporter' → name reporter' ≡ name reporter
same_stream name wanted errors said judged events first end reporter reporter' told =
    same_name name wanted errors said judged events first end reporter told.passed reporter' told.heard

pub told_lines : {Reporter E Cause : Type 0} (name : Reporter → ℕ) (wanted : Reporter → Bool) (errors : Reporter → E) (said : E → Option (List ℕ))
    (judged : ℕ → MomentVerdict Cause → Type 0) (events : List Event) (first end : ℕ) (reporter reporter' : Reporter) →
    IsTold (Reports name wanted errors said) judged events first end reporter reporter' →
    IsToldIf (wanted reporter) (Progresses (IsTold gets_line judged events first end []) (said (errors reporter)) (said (errors reporter')))
    (errors reporter) (errors reporter')
told_lines name wanted errors said judged events first end reporter reporter' told =
    let is : IsWritten said (HasTold judged events first end told.passed) (wanted reporter) (errors reporter) (wanted reporter') (errors reporter')
    = written name wanted errors said judged events first end reporter told.passed reporter' told.heard in
    told_if said (IsTold gets_line judged events first end []) (wanted reporter) (errors reporter) (wanted reporter') (errors reporter') record {
      text = is.text;
      is_told = record { passed = told.passed; heard = is.is_told };
      front = is.front;
      whole = is.whole;
      closed = is.closed;
    }
