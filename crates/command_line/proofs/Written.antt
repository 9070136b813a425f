-- What is known of a stream to which a text is written part by part.
use Rattle.std.proofs.Common.{◌≡◌, ◌∙◌, ◌+◌, ◌++◌, ℕ, List, [], ◌∷◌, Option, Some, None, Result, Ok, Err, ap, arith, refl, sym, length, take, drop}
use Rattle.std.proofs.Math.Seq.{take-add, take-length}
use Rattle.std.proofs.lemmas.List.{append_assoc, append-nil, take-append-drop}
use Rattle.std.specs.Prelude.{OnErr, OnOk}
use Rattle.std.specs.Io.KnownBytes.{Appends, Keeps}
use Rattle.debugger.specs.StreamFailures.{AppendsFront}
use Rattle.debugger.specs.declared.sessions.input.Failed.{Failed}

pub part_none : (stream : Option (List ℕ)) (text : List ℕ) → Appends stream stream (take 0 text)
part_none None text = tt
part_none (Some xs) text = sym (append-nil xs)

pub joined : (first second third : Option (List ℕ)) (xs ys : List ℕ) → Appends first second xs → Appends second third ys → Appends first third (xs ++ ys)
joined None second third xs ys p q = tt
joined (Some x) None third xs ys p q = absurd p
joined (Some x) (Some y) None xs ys p q = absurd q
joined (Some x) (Some y) (Some z) xs ys p q = q ∙ ap (λ (l : List ℕ). l ++ ys) p ∙ append_assoc x xs ys

pub part_more : (first second third : Option (List ℕ)) (text : List ℕ) (written count : ℕ) → Appends first second (take written text)
    → Appends second third (take count (drop written text)) → Appends first third (take (written + count) text)
part_more first second third text written count before more =
    rw take-add (joined first second third (take written text) (take count (drop written text)) before more)

pub part_kept : (first second third : Option (List ℕ)) (part : List ℕ) → Appends first second part → Keeps second third → Appends first third part
part_kept None second third part before kept = tt
part_kept (Some x) None third part before kept = absurd before
part_kept (Some x) (Some y) None part before kept = absurd kept
part_kept (Some x) (Some y) (Some z) part before kept = kept ∙ before

pub part_all : (first second : Option (List ℕ)) (text : List ℕ) (written : ℕ) → written ≡ length text → Appends first second (take written text)
    → Appends first second text
part_all first second text written all part = rw (all, take-length) at part

pub front_of : (first second : Option (List ℕ)) (text : List ℕ) (written : ℕ) → Appends first second (take written text) → AppendsFront first second text
front_of first second text written part = record {
  front = take written text;
  begins = (drop written text, sym (take-append-drop written text));
  writes = part;
}

-- a write that took nothing
pub front_none : (first second third : Option (List ℕ)) (text : List ℕ) (written : ℕ) → Appends first second (take written text)
    → Appends second third [] → AppendsFront first third text
front_none first second third text written part none =
    front_of first third text written (rw append-nil at (joined first second third (take written text) [] part none))

pub front_nothing : (stream : Option (List ℕ)) (text : List ℕ) → AppendsFront stream stream text
front_nothing stream text = front_of stream stream text 0 (part_none stream text)

pub front_all : (first second : Option (List ℕ)) (text : List ℕ) → Appends first second text → AppendsFront first second text
front_all first second text whole = record { front = text; begins = ([], sym (append-nil text)); writes = whole }

-- a text, and behind it another one or a front of it
pub front_more : (first second third : Option (List ℕ)) (text more : List ℕ) → Appends first second text → AppendsFront second third more →
    AppendsFront first third (text ++ more)
front_more first second third text more whole part = record {
  front = text ++ part.front;
  begins = (part.begins.0, ap (λ (l : List ℕ). text ++ l) part.begins.1 ∙ sym (append_assoc text part.front part.begins.0));
  writes = joined first second third text part.front whole part.writes;
}

-- all of a text, or a front of it where writing failed
pub front_either : (first second : Option (List ℕ)) (text : List ℕ) (outcome : Result (Unit {0}) Failed) → OnOk outcome (Appends first second text) →
    OnErr outcome (AppendsFront first second text) → AppendsFront first second text
front_either first second text (Ok done) whole part = front_all first second text whole
front_either first second text (Err failed) whole part = part

-- an empty text
empty_is : (text : List ℕ) → length text ≡ 0 → text ≡ []
empty_is [] none = refl
empty_is (x ∷ text) none = absurd (omega (arith, none))

pub nothing_written : (stream : Option (List ℕ)) (text : List ℕ) → length text ≡ 0 → Appends stream stream text
nothing_written stream text none = rw (empty_is text none) (part_none stream [])
