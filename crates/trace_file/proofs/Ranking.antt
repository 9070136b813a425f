-- Events with the ranks of their lines in place of the lines.
use Rattle.std.proofs.Common.{◌≡◌, ℕ, ◌+◌, ◌<◌, ◌≤◌, List, [], ◌∷◌, ◌++◌, map, length, get_or, take, refl, sym, ap, ◌∙◌, arith, eqb}
use Rattle.std.specs.Prelude.{All}
use Rattle.std.specs.Borrow.{Bor}
use Rattle.std.specs.List.{AllByRecursion, fold, list_any}
use Rattle.std.proofs.lemmas.Bool.{eq-eqb, or_left, or_right}
use Rattle.std.proofs.lemmas.List.{length-map, map-append, take_more}
use Rattle.std.proofs.lemmas.List.Elements.{All-from_recursion, All-map}
use Rattle.store_trace.specs.Cut.{with_line}
use Rattle.store_trace.specs.TraceView.{IsEvent, NamesLine}
use Rattle.store_trace.specs.declared.event.Event.{Event}
use Rattle.store_trace.specs.declared.event.Event.TheVariants.{Store, Clean, Fence, Begin, End}
use Rattle.trace_file.proofs.LineSets.{has_with_line, upward_with_line}
use Rattle.trace_file.specs.Entries.{Entry, last_line, lines_from, place_text, trace_text}
use Rattle.trace_file.specs.Files.{AreAllowed, FitsItsLine, IsWithinLimits, lines_of, with_named}
use Rattle.trace_file.specs.Kept.{HoldsEntries}
use Rattle.trace_file.specs.Lines.{Has, IsUpward, NamesOneOf}
use Rattle.trace_file.specs.Ranks.{FileView, HasEntries, file_lines, file_text, named}
use Rattle.trace_file.specs.declared.kept.Kept.{Kept}

pub one_more_ranked : (names : List ℕ) (ranked more events : List Event) (i : ℕ) (event rank : Event) → i < length events → map (named names) ranked ≡ take i events
    → more ≡ ranked ++ rank ∷ [] → named names rank ≡ get_or events i event → map (named names) more ≡ take (i + 1) events
one_more_ranked names ranked more events i event rank inside so_far grown back =
    ap (map (named names)) grown
    ∙ map-append (named names) ranked (rank ∷ [])
    ∙ ap (λ (es : List Event). es ++ named names rank ∷ []) so_far
    ∙ ap (λ (e : Event). take i events ++ e ∷ []) back
    ∙ sym (take_more events i event inside)

-- the lines of entries have the line of each
has_stays : (l m : ℕ) (ls : List ℕ) → Has ls l → Has (with_line m ls) l
has_stays l m ls has = has_with_line l m ls ∙ or_right (eqb m l) (list_any (λ (other : ℕ). eqb other l) ls) has

named_stays : (l : ℕ) (ls : List ℕ) (event : Event) → Has ls l → Has (with_named ls event) l
named_stays l ls (Store hart line offset width value) has = has_stays l line ls has
named_stays l ls (Clean hart line) has = has_stays l line ls has
named_stays l ls (Fence hart) has = has
named_stays l ls (Begin hart op) has = has
named_stays l ls (End hart op) has = has

abbrev gathered : List ℕ → List Entry → List ℕ
gathered ls entries = fold (λ (lines : List ℕ) (entry : Entry). with_named lines entry.event) ls entries

all_stay : (l : ℕ) (ls : List ℕ) (entries : List Entry) → Has ls l → Has (gathered ls entries) l
all_stay l ls [] has = has
all_stay l ls (entry ∷ entries) has = all_stay l (with_named ls entry.event) entries (named_stays l ls entry.event has)

has_added : (m : ℕ) (ls : List ℕ) → Has (with_line m ls) m
has_added m ls = has_with_line m m ls ∙ or_left (eqb m m) (list_any (λ (other : ℕ). eqb other m) ls) (eq-eqb m m refl)

names_own : (ls : List ℕ) (event : Event) (entries : List Entry) → NamesOneOf (gathered (with_named ls event) entries) event
names_own ls (Store hart line offset width value) entries = all_stay line (with_line line ls) entries (has_added line ls)
names_own ls (Clean hart line) entries = all_stay line (with_line line ls) entries (has_added line ls)
names_own ls (Fence hart) entries = tt
names_own ls (Begin hart op) entries = tt
names_own ls (End hart op) entries = tt

names_each : (ls : List ℕ) (entries : List Entry) → AllByRecursion (λ (entry : Entry). NamesOneOf (gathered ls entries) entry.event) entries
names_each ls [] = tt
names_each ls (entry ∷ entries) = (names_own ls entry.event entries, names_each (with_named ls entry.event) entries)

pub names_all : (entries : List Entry) (lines : List ℕ) (events : List Event) → lines ≡ lines_of entries → events ≡ map (λ (entry : Entry). entry.event) entries
    → All (NamesOneOf lines) events
names_all entries lines events lines_are events_are =
    let each : All (λ (entry : Entry). NamesOneOf (lines_of entries) entry.event) entries =
    All-from_recursion (λ (entry : Entry). NamesOneOf (lines_of entries) entry.event) entries (names_each [] entries) in
    rw (lines_are, events_are) (All-map (NamesOneOf (lines_of entries)) (λ (entry : Entry). entry.event) entries each)

-- an allowed event may stand in a trace
is_event : (event : Event) → FitsItsLine event → IsWithinLimits event → IsEvent event
is_event (Store hart line offset width value) fits within = (within.0, fits.0, fits.1, fits.2)
is_event (Clean hart line) fits within = within.0
is_event (Fence hart) fits within = within
is_event (Begin hart op) fits within = within.0
is_event (End hart op) fits within = within.0

pub are_events : (entries : List Entry) (events : List Event) → AreAllowed entries → events ≡ map (λ (entry : Entry). entry.event) entries → All IsEvent events
are_events entries events all events_are =
    rw events_are (All-map IsEvent (λ (entry : Entry). entry.event) entries
    (λ k d inside. let one = all.each k d inside in is_event (get_or entries k d).event one.fits one.within))

-- what was kept is the file of the entries
pub file_holds : (entries : List Entry) (kept : Kept) (lines names : List ℕ) (events : List Event) → lines ≡ lines_of entries → HoldsEntries entries kept
    → names ≡ lines → map (named lines) events ≡ kept.events.items → All (NamesLine (length lines)) events
    → HasEntries (record { events = events; places = map (λ (place : Bor (List ℕ)). place.now) kept.places.items; names = names }) entries
file_holds entries kept lines names events lines_are holds names_are back within = record {
  names = names_are ∙ lines_are;
  ranks = rw names_are within;
  events = rw names_are (back ∙ holds.events);
  places = holds.places;
}

pub as_many : (entries : List Entry) (kept : Kept) (lines : List ℕ) (events : List Event) → HoldsEntries entries kept → map (named lines) events ≡ kept.events.items
    → length kept.places.items ≡ length events
as_many entries kept lines events holds back =
    sym (length-map kept.places.items (λ (place : Bor (List ℕ)). place.now)) ∙ ap length holds.places ∙ length-map entries (λ (entry : Entry). place_text entry.places)
    ∙ sym (length-map entries (λ (entry : Entry). entry.event)) ∙ ap length (sym holds.events) ∙ ap length (sym back) ∙ length-map events (named lines)

-- the text that is written of a file is that of its entries
lines_back : (n : ℕ) (names : List ℕ) (events : List Event) (places : List (List ℕ)) (entries : List Entry) (rest : List ℕ)
    → map (named names) events ≡ map (λ (entry : Entry). entry.event) entries → places ≡ map (λ (entry : Entry). place_text entry.places) entries
    → file_lines n names events places rest ≡ lines_from n entries rest
lines_back n names [] places [] rest e p = refl
lines_back n names [] places (x ∷ xs) rest e p = absurd (let long = ap length e in omega arith)
lines_back n names (v ∷ vs) places [] rest e p = absurd (let long = ap length e in omega arith)
lines_back n names (v ∷ vs) [] (x ∷ xs) rest e p = absurd (let long = ap length p in omega arith)
lines_back n names (v ∷ vs) (q ∷ qs) (x ∷ xs) rest e p =
    let event : named names v ≡ x.event = cc in
    let events : map (named names) vs ≡ map (λ (entry : Entry). entry.event) xs = cc in
    let place : q ≡ place_text x.places = cc in
    let places : qs ≡ map (λ (entry : Entry). place_text entry.places) xs = cc in
    let more = lines_back (n + 1) names vs qs xs rest events places in
    rw (event, place, more) refl

pub written_back : (file : FileView) (entries : List Entry) → HasEntries file entries → file_text file ≡ trace_text entries
written_back file entries has =
    let same : length file.events ≡ length entries =
    sym (length-map file.events (named file.names)) ∙ ap length has.events ∙ length-map entries (λ (entry : Entry). entry.event) in
    ap (λ (n : ℕ). file_lines 1 file.names file.events file.places (last_line n [])) same
    ∙ lines_back 1 file.names file.events file.places entries (last_line (length entries) []) has.events has.places

-- the lines of entries go upwards
named_upward : (ls : List ℕ) (event : Event) → IsUpward ls → IsUpward (with_named ls event)
named_upward ls (Store hart line offset width value) up = upward_with_line line ls up
named_upward ls (Clean hart line) up = upward_with_line line ls up
named_upward ls (Fence hart) up = up
named_upward ls (Begin hart op) up = up
named_upward ls (End hart op) up = up

gathered_upward : (ls : List ℕ) (entries : List Entry) → IsUpward ls → IsUpward (gathered ls entries)
gathered_upward ls [] up = up
gathered_upward ls (entry ∷ entries) up = gathered_upward (with_named ls entry.event) entries (named_upward ls entry.event up)

pub lines_upward : (entries : List Entry) (lines : List ℕ) → lines ≡ lines_of entries → IsUpward lines
lines_upward entries lines e = rw e (gathered_upward [] entries tt)

pub lines_few : (entries : List Entry) (lines : List ℕ) → AreAllowed entries → lines ≡ lines_of entries → length lines ≤ 16384
lines_few entries lines all e = rw e all.few_lines
