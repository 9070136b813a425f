-- The line of an entry, read from the front of a text, and why a text begins with none.
use Rattle.std.proofs.Common.{◌≡◌, ℕ, ◌+◌, List, [], ◌∷◌, ◌++◌, Ok, Err, codes, refl, sym, ap, ◌∙◌, subst, arith, inl, inr}
use Rattle.std.specs.Prelude.{◌≢◌}
use Rattle.std.specs.Borrow.{Bor}
use Rattle.store_trace.specs.declared.event.Event.{Event}
use Rattle.store_trace.specs.declared.event.Event.TheVariants as kinds
use Rattle.text.specs.Numbers.{IsOf}
use Rattle.text.specs.declared.numbers.Number.{Number}
use Rattle.trace_file.proofs.ActLemmas.{behind_decimal}
use Rattle.trace_file.proofs.CutLemmas.{same_rest}
use Rattle.trace_file.proofs.PlaceLemmas.{no_place_in_letters, same_places}
use Rattle.trace_file.specs.Cuts.{IsCutAt}
use Rattle.trace_file.specs.Entries.{Entry, act_text, entry_line, hart_of, last_line, line_end, place_text}
use Rattle.trace_file.specs.Files.{FitsItsLine, HasEntry, HasLine, IsMisnumbered, IsWithinLimits}
use Rattle.trace_file.specs.Numerals.{IsNumberBefore, numeral}
use Rattle.trace_file.specs.Parts.{BeginsWithPlace, HasAct, HasEntryLine, HasEvent, HasNoLine, HasPlaces, IsAllowedAs, IsJudged, IsLineFault, IsNumbered, IsRefused}
use Rattle.trace_file.specs.declared.acts.Act.{Act}
use Rattle.trace_file.specs.declared.fault.TraceFileCode.{TraceFileCode}
use Rattle.trace_file.specs.declared.fault.TraceFileCode.TheVariants as code
use Rattle.trace_file.specs.declared.lines.EntryLine.{EntryLine}

pub entry_read : (text t u v : List ℕ) (number hart : Number) (place : Bor (List ℕ)) (rest : List ℕ) (act : Act) → IsNumberBefore 10 32 text number t → t ≡ 104 ∷ u
    → IsNumberBefore 10 32 u hart v → HasPlaces v place.now rest → ((h : ℕ) → IsOf h hart → HasAct rest h act)
    → HasEntryLine text (record { number = number; judged = act.judged; place = place; rest = act.rest })
entry_read text t u v number hart place rest act is letter is_hart placed acts =
    let done = acts is_hart.value is_hart.known in
    let behind : v ≡ place_text placed.words ++ act_text done.event act.rest.now =
    placed.whole ∙ ap (λ (x : List ℕ). x ++ rest) placed.spelled ∙ ap (λ (x : List ℕ). place_text placed.words ++ x) done.whole in
    let of_hart : u ≡ numeral 10 (hart_of done.event) ++ 32 ∷ (place_text placed.words ++ act_text done.event act.rest.now) =
    is_hart.whole ∙ ap (λ (h : ℕ). numeral 10 h ++ 32 ∷ v) (sym done.of_hart)
    ∙ ap (λ (x : List ℕ). numeral 10 (hart_of done.event) ++ 32 ∷ x) behind in
    record {
      number = is.value;
      words = placed.words;
      event = done.event;
      are_words = placed.are_words;
      place = placed.spelled;
      whole = is.whole ∙ ap (λ (x : List ℕ). numeral 10 is.value ++ 32 ∷ x) (letter ∙ ap (λ (x : List ℕ). 104 ∷ x) of_hart);
      known = is.known;
      judged = done.judged;
    }

pub no_number : (text : List ℕ) → ((n : ℕ) (rest : List ℕ) → text ≢ numeral 10 n ++ 32 ∷ rest) → (number : ℕ) (entry : Entry) → ¬ HasEntry text number entry
no_number text none number entry e =
    none number (104 ∷ (numeral 10 (hart_of entry.event) ++ 32 ∷ (place_text entry.places ++ act_text entry.event e.rest))) e.line

behind_number : (text t : List ℕ) (number : Number) (n : ℕ) (entry : Entry) → IsNumberBefore 10 32 text number t → (e : HasEntry text n entry)
    → t ≡ 104 ∷ (numeral 10 (hart_of entry.event) ++ 32 ∷ (place_text entry.places ++ act_text entry.event e.rest))
behind_number text t number n entry is e =
    behind_decimal 32 n text t (104 ∷ (numeral 10 (hart_of entry.event) ++ 32 ∷ (place_text entry.places ++ act_text entry.event e.rest))) number (omega arith) is e.line

pub no_letter : (text t : List ℕ) (number : Number) → IsNumberBefore 10 32 text number t → ((rest : List ℕ) → t ≢ 104 ∷ rest)
    → (n : ℕ) (entry : Entry) → ¬ HasEntry text n entry
no_letter text t number is none n entry e = none _ (behind_number text t number n entry is e)

behind_letter : (text t u : List ℕ) (number : Number) (n : ℕ) (entry : Entry) → IsNumberBefore 10 32 text number t → t ≡ 104 ∷ u → (e : HasEntry text n entry)
    → u ≡ numeral 10 (hart_of entry.event) ++ 32 ∷ (place_text entry.places ++ act_text entry.event e.rest)
behind_letter text t u number n entry is letter e =
    same_rest (104 ∷ []) u (numeral 10 (hart_of entry.event) ++ 32 ∷ (place_text entry.places ++ act_text entry.event e.rest))
    (sym letter ∙ behind_number text t number n entry is e)

pub no_hart : (text t u : List ℕ) (number : Number) → IsNumberBefore 10 32 text number t → t ≡ 104 ∷ u
    → ((n : ℕ) (rest : List ℕ) → u ≢ numeral 10 n ++ 32 ∷ rest) → (n : ℕ) (entry : Entry) → ¬ HasEntry text n entry
no_hart text t u number is letter none n entry e = none (hart_of entry.event) _ (behind_letter text t u number n entry is letter e)

-- what an event did begins with no place word
pub no_place_in_act : (event : Event) (rest : List ℕ) → ¬ BeginsWithPlace (act_text event rest)
no_place_in_act (kinds.Store hart line offset width value) rest = no_place_in_letters (codes "store") 32 _ refl refl (λ same. omega arith)
no_place_in_act (kinds.Clean hart line) rest = no_place_in_letters (codes "clean") 32 _ refl refl (λ same. omega arith)
no_place_in_act (kinds.Fence hart) rest = no_place_in_letters (codes "fence") 10 rest refl refl (λ same. omega arith)
no_place_in_act (kinds.Begin hart op) rest = no_place_in_letters (codes "begin") 32 _ refl refl (λ same. omega arith)
no_place_in_act (kinds.End hart op) rest = no_place_in_letters (codes "end") 32 _ refl refl (λ same. omega arith)

pub no_act : (text t u v place rest : List ℕ) (number hart : Number) → IsNumberBefore 10 32 text number t → t ≡ 104 ∷ u → IsNumberBefore 10 32 u hart v
    → HasPlaces v place rest → ((event : Event) (more : List ℕ) → rest ≢ act_text event more) → (n : ℕ) (entry : Entry) → ¬ HasEntry text n entry
no_act text t u v place rest number hart is letter is_hart placed none n entry e =
    let behind : v ≡ place_text entry.places ++ act_text entry.event e.rest =
    behind_decimal 32 (hart_of entry.event) u v (place_text entry.places ++ act_text entry.event e.rest) hart (omega arith) is_hart
    (behind_letter text t u number n entry is letter e) in
    let split : place_text placed.words ++ rest ≡ place_text entry.places ++ act_text entry.event e.rest =
    ap (λ (x : List ℕ). x ++ rest) (sym placed.spelled) ∙ sym placed.whole ∙ behind in
    none entry.event e.rest (same_places placed.words entry.places rest (act_text entry.event e.rest) placed.are_words e.places placed.all
    (no_place_in_act entry.event e.rest) split).1

pub line_ends : (text front back : List ℕ) → IsCutAt 10 text front back → HasLine text
line_ends text front back cut = record { line = front; rest = back; whole = cut.whole }

pub line_unended : (text : List ℕ) → ((front back : List ℕ) → text ≢ front ++ 10 ∷ back) → ¬ HasLine text
line_unended text none has = none has.line has.rest has.whole

-- the next line, by what was read of it
pub last_read : (count : ℕ) (text rest : List ℕ) (total : Number) → IsNumbered (codes "events ") text total rest → ((n : ℕ) → IsOf n total → n ≡ count)
    → text ≡ last_line count rest
last_read count text rest total is same = is.whole ∙ ap (λ (n : ℕ). last_line n rest) (same is.value is.known)

pub last_misnumbered : (count : ℕ) (text rest : List ℕ) (total : Number) → IsNumbered (codes "events ") text total rest → ((n : ℕ) → IsOf n total → n ≢ count)
    → IsMisnumbered count text
last_misnumbered count text rest total is other = inr (is.value, record { rest = rest; line = is.whole }, other is.value is.known)

pub entry_misnumbered : (count : ℕ) (text : List ℕ) (read : EntryLine) → HasEntryLine text read → ((n : ℕ) → IsOf n read.number → n ≢ count + 1)
    → IsMisnumbered count text
entry_misnumbered count text read has other =
    inl (has.number, record { places = has.words; event = has.event }, record { rest = read.rest.now; places = has.are_words; line = has.whole }, other has.number has.known)

next_entry : (count : ℕ) (text : List ℕ) (read : EntryLine) (has : HasEntryLine text read) → ((n : ℕ) → IsOf n read.number → n ≡ count + 1)
    → HasEntry text (count + 1) (record { places = has.words; event = has.event })
next_entry count text read has same = record {
  rest = read.rest.now;
  places = has.are_words;
  line = has.whole ∙ ap (λ (n : ℕ). entry_line n (record { places = has.words; event = has.event }) read.rest.now) (same has.number has.known);
}

pub event_read : (count : ℕ) (text : List ℕ) (read : EntryLine) (event : Event) → HasEntryLine text read → read.judged ≡ Ok event
    → ((n : ℕ) → IsOf n read.number → n ≡ count + 1) → HasEvent count text event read.place.now read.rest.now
event_read count text read event has judged same =
    let kept : IsAllowedAs has.event event = subst (IsJudged has.event) judged has.judged in
    let whole : text ≡ entry_line (count + 1) (record { places = has.words; event = has.event }) read.rest.now =
    has.whole ∙ ap (λ (n : ℕ). entry_line n (record { places = has.words; event = has.event }) read.rest.now) (same has.number has.known) in
    record {
      words = has.words;
      are_words = has.are_words;
      place_is = has.place;
      whole = subst (λ (e : Event). text ≡ entry_line (count + 1) (record { places = has.words; event = e }) read.rest.now) kept.same whole;
      fits = subst FitsItsLine kept.same kept.fits;
      within = subst IsWithinLimits kept.same kept.within;
    }

refused_at : (count : ℕ) (text : List ℕ) (event : Event) (words : List (List ℕ)) (broken : TraceFileCode) → HasEntry text (count + 1) (record { places = words; event = event })
    → IsRefused event broken → IsLineFault count text broken
refused_at count text event words code.Store has refused = record { entry = record { places = words; event = event }; line = has; bad = refused }
refused_at count text event words code.Limit has refused =
    record { entry = record { places = words; event = event }; line = has; fits = refused.0; passed = refused.1 }
refused_at count text event words code.Form has refused = absurd refused
refused_at count text event words code.Number has refused = absurd refused
refused_at count text event words code.End has refused = absurd refused
refused_at count text event words code.Memory has refused = absurd refused

pub event_refused : (count : ℕ) (text : List ℕ) (read : EntryLine) (broken : TraceFileCode) → HasEntryLine text read → read.judged ≡ Err broken
    → ((n : ℕ) → IsOf n read.number → n ≡ count + 1) → IsLineFault count text broken
event_refused count text read broken has judged same =
    refused_at count text has.event has.words broken (next_entry count text read has same) (subst (IsJudged has.event) judged has.judged)

pub no_line : (count : ℕ) (text : List ℕ) (broken : TraceFileCode) → ((n : ℕ) (rest : List ℕ) → text ≢ codes "events " ++ (numeral 10 n ++ line_end rest))
    → ((n : ℕ) (entry : Entry) → ¬ HasEntry text n entry) → HasNoLine text broken → IsLineFault count text broken
no_line count text code.Form no_last no_entry has = record { ends = has; no_entry = no_entry; no_last = λ total last. no_last total last.rest last.line }
no_line count text code.End no_last no_entry has = has
no_line count text code.Number no_last no_entry has = absurd has
no_line count text code.Store no_last no_entry has = absurd has
no_line count text code.Limit no_last no_entry has = absurd has
no_line count text code.Memory no_last no_entry has = absurd has
