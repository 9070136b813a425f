-- What one more item adds to the text of a loop.
use Rattle.std.proofs.Common.{◌≡◌, ◌∙◌, ℕ, ◌+◌, ◌<◌, ◌≤◌, List, [], ◌∷◌, ◌++◌, length, get_or, take, ap, sym, arith}
use Rattle.std.specs.List.{enumerate_from, flat_map}
use Rattle.std.proofs.lemmas.Grind.{flat_map-append}
use Rattle.std.proofs.lemmas.List.{append-nil, take_all, take_more}
use Rattle.std.proofs.lemmas.List.FromFn.{length-enumerate_from, get_or-enumerate_from}
use Rattle.report.specs.Causes.{cause_line}
use Rattle.report.specs.Events.{KnownEvent, placed}
use Rattle.report.specs.Places.{KnownOrigin}
use Rattle.machine.specs.declared.run_trace.traced_event.TracedEvent.{TracedEvent}
use Rattle.unfinished.specs.declared.unfinished.Unfinished.{Unfinished}

-- the lines of the first events
abbrev pub lines_below : (ℕ × TracedEvent → List ℕ) → List TracedEvent → ℕ → List ℕ
lines_below line traced i = flat_map line (take i (enumerate_from 1 traced))

from_one : (i : ℕ) → 1 + i ≡ i + 1
from_one i = omega arith

pub lines_more : (line : ℕ × TracedEvent → List ℕ) (traced : List TracedEvent) (i : ℕ) (d : TracedEvent) → i < length traced
    → lines_below line traced (i + 1) ≡ lines_below line traced i ++ line (i + 1, get_or traced i d)
lines_more line traced i d within =
    let all : List (ℕ × TracedEvent) = enumerate_from 1 traced in
    ap (flat_map line) (take_more all i (0, d) (omega (arith, length-enumerate_from 1 traced)))
    ∙ flat_map-append line (take i all) (get_or all i (0, d) ∷ [])
    ∙ ap (λ (l : List ℕ). flat_map line (take i all) ++ l) (append-nil (line (get_or all i (0, d))))
    ∙ ap (λ (one : ℕ × TracedEvent). flat_map line (take i all) ++ line one) (get_or-enumerate_from 1 traced i (0, d) within)
    ∙ ap (λ (k : ℕ). flat_map line (take i all) ++ line (k, get_or traced i d)) (from_one i)

pub lines_all : (line : ℕ × TracedEvent → List ℕ) (traced : List TracedEvent) (i : ℕ) → length traced ≤ i
    → lines_below line traced i ≡ flat_map line (enumerate_from 1 traced)
lines_all line traced i h =
    ap (flat_map line) (take_all i (enumerate_from 1 traced) (omega (arith, length-enumerate_from 1 traced)))

-- the lines of all events, and the last line
pub lines_then : (line : ℕ × TracedEvent → List ℕ) (traced : List TracedEvent) (i : ℕ) (before last after : List ℕ) → length traced ≤ i
    → before ≡ lines_below line traced i → after ≡ before ++ last → after ≡ flat_map line (enumerate_from 1 traced) ++ last
lines_then line traced i before last after past was is = is ∙ ap (λ (l : List ℕ). l ++ last) (was ∙ lines_all line traced i past)

-- what one more event adds, by the text of a placed event with its number
pub line_more : (shape : ℕ → KnownEvent → List ℕ) (lines : ℕ → KnownOrigin) (traced : List TracedEvent) (i : ℕ) (d : TracedEvent)
    (one : KnownEvent) (before after : List ℕ) → i < length traced → one ≡ placed lines (get_or traced i d)
    → before ≡ lines_below (λ t. shape t.0 (placed lines t.1)) traced i → after ≡ before ++ shape (i + 1) one
    → after ≡ lines_below (λ t. shape t.0 (placed lines t.1)) traced (i + 1)
line_more shape lines traced i d one before after within told was is =
    let below : List ℕ = lines_below (λ t. shape t.0 (placed lines t.1)) traced i in
    is ∙ ap (λ (l : List ℕ). l ++ shape (i + 1) one) was
    ∙ ap (λ (o : KnownEvent). below ++ shape (i + 1) o) told
    ∙ sym (lines_more (λ t. shape t.0 (placed lines t.1)) traced i d within)

-- the lines of the first causes
abbrev pub causes_below : (ℕ → KnownOrigin) → List Unfinished → ℕ → List ℕ
causes_below lines causes i = flat_map (cause_line lines) (take i causes)

pub cause_more : (lines : ℕ → KnownOrigin) (causes : List Unfinished) (i : ℕ) (d : Unfinished) → i < length causes
    → causes_below lines causes (i + 1) ≡ causes_below lines causes i ++ cause_line lines (get_or causes i d)
cause_more lines causes i d below =
    ap (flat_map (cause_line lines)) (take_more causes i d below)
    ∙ flat_map-append (cause_line lines) (take i causes) (get_or causes i d ∷ [])
    ∙ ap (λ (l : List ℕ). causes_below lines causes i ++ l) (append-nil (cause_line lines (get_or causes i d)))

pub causes_all : (lines : ℕ → KnownOrigin) (causes : List Unfinished) (i : ℕ) → length causes ≤ i
    → causes_below lines causes i ≡ flat_map (cause_line lines) causes
causes_all lines causes i h = ap (flat_map (cause_line lines)) (take_all i causes h)
