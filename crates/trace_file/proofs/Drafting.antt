-- A trace file that is read line by line.
use Rattle.std.proofs.Common.{◌≡◌, ℕ, ◌+◌, ◌<◌, ◌≤◌, Bool, true, false, List, [], ◌∷◌, ◌++◌, Option, Some, length, get_or, refl, sym, ap, ◌∙◌, subst, arith, eqb, inl, inr, length-append}
use Rattle.std.specs.Prelude.{◌≢◌}
use Rattle.std.proofs.lemmas.Bool.{both_ways, eqb-true}
use Rattle.std.proofs.lemmas.List.{get_or_at}
use Rattle.std.proofs.lemmas.List.Elements.{All-nil, All-push}
use Rattle.std.proofs.lemmas.List.Sums.{fold_push}
use Rattle.store_trace.specs.declared.event.Event.{Event}
use Rattle.store_trace.specs.declared.event.Event.TheVariants.{Store, Clean, Fence, Begin, End}
use Rattle.trace_file.proofs.Ranking.{lines_upward}
use Rattle.trace_file.specs.Lines.{IsUpward}
use Rattle.trace_file.specs.Drafts.{IsAdmissible, IsAdmitted, IsFaultBehind, IsGathered}
use Rattle.trace_file.specs.Entries.{Entry, act_text, entry_line, last_line, lines_from, place_text}
use Rattle.trace_file.specs.Files.{AreAllowed, Begins, HasEntry, IsAllowed, IsFirstFault, lines_of, with_named}
use Rattle.trace_file.specs.Kept.{HoldsEntries, KeepsAll}
use Rattle.trace_file.specs.Parts.{HasEvent, IsLineFault}
use Rattle.trace_file.specs.declared.fault.TraceFileCode.{TraceFileCode}
use Rattle.trace_file.specs.declared.fault.TraceFileCode.TheVariants as code
use Rattle.trace_file.specs.declared.kept.Kept.{Kept}

-- the entries before the rest
pub record IsReading (text lines : List ℕ) (count : ℕ) (kept : Option Kept) (rest : List ℕ) : Type 0 where
  pub before : List Entry
  pub begins : Begins text before rest
  pub number : count ≡ length before
  pub different : lines ≡ lines_of before
  pub keeps : KeepsAll before kept

pub nothing_read : (text lines : List ℕ) (kept : Kept) → lines ≡ [] → HoldsEntries [] kept → IsReading text lines 0 (Some kept) text
nothing_read text lines kept none holds = record {
  before = [];
  begins = record { allowed = record { each = All-nil IsAllowed; few = omega arith; few_lines = omega arith }; whole = refl };
  number = refl;
  different = none;
  keeps = holds;
}

lines_more : (number : ℕ) (before : List Entry) (entry : Entry) (rest : List ℕ)
    → lines_from number (before ++ entry ∷ []) rest ≡ lines_from number before (entry_line (number + length before) entry rest)
lines_more number [] entry rest = ap (λ (n : ℕ). entry_line n entry rest) (omega arith)
lines_more number (first ∷ before) entry rest =
    let next : number + 1 + length before ≡ number + length (first ∷ before) = omega arith in
    ap (λ (more : List ℕ). entry_line number first more)
    (lines_more (number + 1) before entry rest ∙ ap (λ (n : ℕ). lines_from (number + 1) before (entry_line n entry rest)) next)

lines_of_more : (before : List Entry) (entry : Entry) → lines_of (before ++ entry ∷ []) ≡ with_named (lines_of before) entry.event
lines_of_more before entry = fold_push (λ (lines : List ℕ) (e : Entry). with_named lines e.event) [] before entry

allowed_more : (before : List Entry) (entry : Entry) (count : ℕ) (lines : List ℕ) → AreAllowed before → IsAllowed entry → count ≡ length before → lines ≡ lines_of before
    → IsAdmissible count lines entry.event → AreAllowed (before ++ entry ∷ [])
allowed_more before entry count lines all one number different ok = record {
  each = All-push IsAllowed before entry all.each one;
  few = omega (arith, ok.few, number, length-append before (entry ∷ []));
  few_lines = rw (lines_of_more before entry, ← different) ok.few_lines;
}

pub one_more_read : (text lines new : List ℕ) (count : ℕ) (kept grown : Option Kept) (rest place behind : List ℕ) (event : Event) → IsReading text lines count kept rest
    → HasEvent count rest event place behind → IsAdmitted count lines event new
    → ((entries : List Entry) (entry : Entry) → KeepsAll entries kept → entry.event ≡ event → place ≡ place_text entry.places → KeepsAll (entries ++ entry ∷ []) grown)
    → IsReading text new (count + 1) grown behind
one_more_read text lines new count kept grown rest place behind event r has admitted more =
    let entry : Entry = record { places = has.words; event = event } in
    let next : count + 1 ≡ 1 + length r.before = omega (arith, r.number) in
    record {
      before = r.before ++ entry ∷ [];
      begins = record {
        allowed = allowed_more r.before entry count lines r.begins.allowed (record { places = has.are_words; fits = has.fits; within = has.within }) r.number r.different admitted.admissible;
        whole = r.begins.whole ∙ ap (λ (t : List ℕ). lines_from 1 r.before t) (has.whole ∙ ap (λ (n : ℕ). entry_line n entry behind) next)
            ∙ sym (lines_more 1 r.before entry behind);
      };
      number = omega (arith, r.number, length-append r.before (entry ∷ []));
      different = admitted.lines ∙ ap (λ (ls : List ℕ). with_named ls event) r.different ∙ sym (lines_of_more r.before entry);
      keeps = more r.before entry r.keeps refl has.place_is;
    }

empty_text : (t : List ℕ) (test : Bool) → test ≡ eqb (length t) 0 → test ≡ true → t ≡ []
empty_text [] test e empty = refl
empty_text (x ∷ t) test e empty = absurd (omega (arith, eqb-true (length (x ∷ t)) 0 (sym e ∙ empty)))

filled_text : (t : List ℕ) (test : Bool) → test ≡ eqb (length t) 0 → test ≡ false → t ≢ []
filled_text [] test e filled is = both_ways test filled e
filled_text (x ∷ t) test e filled is = absurd cc

pub all_read : (text lines : List ℕ) (count : ℕ) (kept : Option Kept) (rest behind : List ℕ) (test : Bool) → IsReading text lines count kept rest → rest ≡ last_line count behind
    → test ≡ eqb (length behind) 0 → test ≡ true → IsGathered text lines count kept
all_read text lines count kept rest behind test r e tested empty = record {
  entries = r.before;
  file = record {
    allowed = r.begins.allowed;
    whole = r.begins.whole ∙ ap (λ (t : List ℕ). lines_from 1 r.before t) (e ∙ ap (λ (n : ℕ). last_line n behind) r.number
        ∙ ap (λ (t : List ℕ). last_line (length r.before) t) (empty_text behind test tested empty));
  };
  number = r.number;
  different = r.different;
  keeps = r.keeps;
}

pub goes_on : (text lines : List ℕ) (count : ℕ) (kept : Option Kept) (rest behind : List ℕ) (test : Bool) → IsReading text lines count kept rest → rest ≡ last_line count behind
    → test ≡ eqb (length behind) 0 → test ≡ false → IsFirstFault text (count + 2) code.End
goes_on text lines count kept rest behind test r e tested filled = record {
  before = r.before;
  rest = rest;
  begins = r.begins;
  fault = inr (record {
    place = omega (arith, r.number);
    more = behind;
    whole = e ∙ ap (λ (n : ℕ). last_line n behind) r.number;
    some = filled_text behind test tested filled;
  });
}

pub fault_found : (text lines : List ℕ) (count : ℕ) (kept : Option Kept) (rest : List ℕ) (broken : TraceFileCode) → IsReading text lines count kept rest
    → IsFaultBehind count rest lines broken → IsFirstFault text (count + 1) broken
fault_found text lines count kept rest broken r fault = record {
  before = r.before;
  rest = rest;
  begins = r.begins;
  fault = fault r.before r.begins.allowed r.number r.different;
}

-- a limit is passed
last_allowed : (before : List Entry) (entry : Entry) → AreAllowed (before ++ entry ∷ []) → IsAllowed entry
last_allowed before entry all =
    let here : get_or (before ++ entry ∷ []) (length before) entry ≡ entry = get_or_at before entry [] entry (length before) refl in
    subst IsAllowed here (all.each (length before) entry (omega (arith, length-append before (entry ∷ []))))

pub limit_passed : (count : ℕ) (text lines place rest : List ℕ) (event : Event) → HasEvent count text event place rest → ¬ IsAdmissible count lines event
    → IsFaultBehind count text lines code.Limit
limit_passed count text lines place rest event has over before allowed number different =
    let entry : Entry = record { places = has.words; event = event } in (
      omega (arith, number),
      record {
        entry = entry;
        line = record { rest = rest; places = has.are_words; line = has.whole ∙ ap (λ (n : ℕ). entry_line n entry rest) (omega (arith, number)) };
        fits = has.fits;
        passed = λ all. over (record {
          few = omega (arith, all.few, number, length-append before (entry ∷ []));
          few_lines = subst (λ (ls : List ℕ). length ls ≤ 16384) (lines_of_more before entry ∙ ap (λ (ls : List ℕ). with_named ls event) (sym different)) all.few_lines;
        });
      },
    )

pub line_at_fault : (count : ℕ) (text lines : List ℕ) (broken : TraceFileCode) → IsLineFault count text broken → IsFaultBehind count text lines broken
line_at_fault count text lines code.Form fault before allowed number different = (omega (arith, number), fault)
line_at_fault count text lines code.Number fault before allowed number different =
    (omega (arith, number), subst (λ (n : ℕ). IsLineFault n text code.Number) number fault)
line_at_fault count text lines code.Store fault before allowed number different =
    (omega (arith, number), subst (λ (n : ℕ). IsLineFault n text code.Store) number fault)
line_at_fault count text lines code.Limit fault before allowed number different = (
  omega (arith, number),
  record {
    entry = fault.entry;
    line = subst (λ (n : ℕ). HasEntry text (n + 1) fault.entry) number fault.line;
    fits = fault.fits;
    passed = λ all. fault.passed (last_allowed before fault.entry all).within;
  },
)
line_at_fault count text lines code.End fault before allowed number different = inl (record { place = omega (arith, number); unended = fault })
line_at_fault count text lines code.Memory fault before allowed number different = absurd fault

-- what follows a line is shorter than the text
act_longer : (event : Event) (rest : List ℕ) → length rest < length (act_text event rest)
act_longer (Store hart line offset width value) rest = omega (arith, length-append {A = ℕ})
act_longer (Clean hart line) rest = omega (arith, length-append {A = ℕ})
act_longer (Fence hart) rest = omega arith
act_longer (Begin hart op) rest = omega (arith, length-append {A = ℕ})
act_longer (End hart op) rest = omega (arith, length-append {A = ℕ})

pub event_shorter : (count : ℕ) (text place rest : List ℕ) (event : Event) → HasEvent count text event place rest → length rest < length text
event_shorter count text place rest event has =
    let long : length (act_text event rest) ≤ length text = omega (arith, ap length has.whole, length-append {A = ℕ}) in
    omega (arith, act_longer event rest)

pub reading_upward : (text lines : List ℕ) (count : ℕ) (kept : Option Kept) (rest : List ℕ) → IsReading text lines count kept rest → IsUpward lines
reading_upward text lines count kept rest r = lines_upward r.before lines r.different
