-- What is printed of an event is the line of its entry.
use Rattle.std.proofs.Common.{◌≡◌, ℕ, ◌+◌, ◌*◌, ◌%◌, ◌^◌, ◌<◌, ◌≤◌, Bool, true, false, not, ◌&&◌, List, [], ◌∷◌, ◌++◌, Option, Some, None, map, codes, length, get_or, refl, sym, ap, ◌∙◌, arith, append_assoc}
use Rattle.std.specs.Prelude.{All, IfSome, decimal, ◌/◌, ◌==◌, nat_le, if◌then◌else◌}
use Rattle.std.specs.Fmt.{digit_glyph}
use Rattle.std.specs.List.{enumerate_from, flat_map, list_all}
use Rattle.std.proofs.Math.Nat.{mod-lt, pow-le-pow_right}
use Rattle.std.proofs.lemmas.Bool.{and_from, and_parts, ne_eqb}
use Rattle.std.proofs.lemmas.Bool.Decides.{nat_tests}
use Rattle.std.proofs.lemmas.Nat.{pow_pos}
use Rattle.std.proofs.lemmas.List.{length-map}
use Rattle.std.proofs.lemmas.List.Elements.{All-map, All-head, All-tail}
use Rattle.hart.specs.HartLines.{hexadecimal}
use Rattle.machine.specs.declared.run_trace.traced_event.TracedEvent.{TracedEvent}
use Rattle.store_trace.specs.TraceView.{IsEvent, IsWidth}
use Rattle.store_trace.specs.declared.event.Event.{Event}
use Rattle.store_trace.specs.declared.event.Event.TheVariants.{Store, Clean, Fence, Begin, End}
use Rattle.report.specs.Entries.{HasNumbers, HasSizes, entry_of, function_words, line_words, origin_words, place_words, printed_event}
use Rattle.report.specs.Events as report
use Rattle.report.specs.Places.{InFile, InFunction, KnownOrigin, executable, function_behind, line_behind, nowhere, origin_text, source_line, told_words}
use Rattle.report.specs.PrintedNames.{is_graphic, printed_name, text_byte}
use Rattle.report.specs.Rows.{two_digits}
use Rattle.trace_file.proofs.CutLemmas.{is_other}
use Rattle.trace_file.proofs.NumeralLemmas.{numeral_plain, numeral_stop}
use Rattle.trace_file.proofs.Printing.{decimal_numeral, hexadecimal_numeral}
use Rattle.trace_file.specs.Entries.{ArePlaceWords, IsPlaceWord, act_text, entry_line, hart_of, is_place_byte, last_line, lines_from, place_text}
use Rattle.trace_file.specs.Files.{FitsItsLine, IsAllowed, IsTraceFile, IsWithinLimits, lines_of}
use Rattle.trace_file.specs.Numerals.{numeral}

onto : (word more rest after : List ℕ) → more ++ rest ≡ after → (word ++ more) ++ rest ≡ word ++ after
onto word more rest after e = append_assoc word more rest ∙ ap (λ (t : List ℕ). word ++ t) e

-- place words
both_pass : (p q : ℕ → Bool) (xs : List ℕ) → list_all p xs ≡ true → list_all q xs ≡ true → list_all (λ x. p x && q x) xs ≡ true
both_pass p q [] a b = refl
both_pass p q (x ∷ xs) a b =
    let (p_here, p_rest) = and_parts (p x) (list_all p xs) a in
    let (q_here, q_rest) = and_parts (q x) (list_all q xs) b in
    and_from (p x && q x) (list_all (λ x. p x && q x) xs) (and_from (p x) (q x) p_here q_here) (both_pass p q xs p_rest q_rest)

numeral_bytes : (radix n : ℕ) → 2 ≤ radix → radix ≤ 16 → list_all is_place_byte (numeral radix n) ≡ true
numeral_bytes radix n two few =
    both_pass (is_other 32) (is_other 10) (numeral radix n) (numeral_stop radix 32 n two few (omega arith)) (numeral_stop radix 10 n two few (omega arith))

all_append : (p : ℕ → Bool) (xs ys : List ℕ) → list_all p xs ≡ true → list_all p ys ≡ true → list_all p (xs ++ ys) ≡ true
all_append p [] ys a b = b
all_append p (x ∷ xs) ys a b =
    let (here, rest) = and_parts (p x) (list_all p xs) a in and_from (p x) (list_all p (xs ++ ys)) here (all_append p xs ys rest b)

step_word : (n : ℕ) → IsPlaceWord (codes "step=" ++ numeral 10 n)
step_word n = record {
  name = codes "step";
  value = numeral 10 n;
  spelled = refl;
  some_letters = omega arith;
  letters = refl;
  some_bytes = (numeral_plain 10 n (omega arith) (omega arith)).digits.0;
  bytes = numeral_bytes 10 n (omega arith) (omega arith);
}

line_word : (n : ℕ) → IsPlaceWord (codes "line=" ++ numeral 10 n)
line_word n = record {
  name = codes "line";
  value = numeral 10 n;
  spelled = refl;
  some_letters = omega arith;
  letters = refl;
  some_bytes = (numeral_plain 10 n (omega arith) (omega arith)).digits.0;
  bytes = numeral_bytes 10 n (omega arith) (omega arith);
}

pc_word : (n : ℕ) → IsPlaceWord (codes "pc=0x" ++ numeral 16 n)
pc_word n = record {
  name = codes "pc";
  value = codes "0x" ++ numeral 16 n;
  spelled = refl;
  some_letters = omega arith;
  letters = refl;
  some_bytes = omega arith;
  bytes = all_append is_place_byte (codes "0x") (numeral 16 n) refl (numeral_bytes 16 n (omega arith) (omega arith));
}

-- a printed name has neither blanks nor line ends
high_byte : (byte : ℕ) → 33 ≤ byte → is_place_byte byte ≡ true
high_byte byte high =
    and_from (not (byte == 32)) (not (byte == 10)) (ap not (ne_eqb byte 32 (λ same. omega arith))) (ap not (ne_eqb byte 10 (λ same. omega arith)))

glyph_high : (d : ℕ) → 33 ≤ digit_glyph false d
glyph_high d = grind (arith, nat_tests)

escaped_bytes : (byte : ℕ) → list_all is_place_byte (two_digits byte) ≡ true
escaped_bytes byte =
    let high : is_place_byte (digit_glyph false (byte / 16)) ≡ true = high_byte (digit_glyph false (byte / 16)) (glyph_high (byte / 16)) in
    let low : is_place_byte (digit_glyph false (byte % 16)) ≡ true = high_byte (digit_glyph false (byte % 16)) (glyph_high (byte % 16)) in
    and_from (is_place_byte (digit_glyph false (byte / 16))) (is_place_byte (digit_glyph false (byte % 16)) && true) high
    (and_from (is_place_byte (digit_glyph false (byte % 16))) true low refl)

graphic_byte : (byte : ℕ) (graphic : Bool) → is_graphic byte ≡ graphic
    → list_all is_place_byte (if graphic then byte ∷ [] else 92 ∷ 120 ∷ two_digits byte) ≡ true
graphic_byte byte true is =
    let (ascii, other) = and_parts (nat_le 0x21 byte && nat_le byte 0x7e) (not (byte == 92)) is in
    let (low, top) = and_parts (nat_le 0x21 byte) (nat_le byte 0x7e) ascii in
    let high : 33 ≤ byte = grind (arith, nat_tests, low) in
    and_from (is_place_byte byte) true (high_byte byte high) refl
graphic_byte byte false is = escaped_bytes byte

name_bytes : (name : List ℕ) → list_all is_place_byte (printed_name name) ≡ true
name_bytes [] = refl
name_bytes (byte ∷ bytes) = all_append is_place_byte (text_byte byte) (printed_name bytes) (graphic_byte byte (is_graphic byte) refl) (name_bytes bytes)

some_behind : (front : List ℕ) (byte : ℕ) (rest : List ℕ) → 0 < length (front ++ byte ∷ rest)
some_behind [] byte rest = omega arith
some_behind (x ∷ xs) byte rest = omega arith

function_word : (place : InFunction) → IsPlaceWord (codes "in=" ++ (printed_name place.0 ++ (codes "+0x" ++ numeral 16 place.1)))
function_word place = record {
  name = codes "in";
  value = printed_name place.0 ++ (codes "+0x" ++ numeral 16 place.1);
  spelled = refl;
  some_letters = omega arith;
  letters = refl;
  some_bytes = some_behind (printed_name place.0) 43 (codes "0x" ++ numeral 16 place.1);
  bytes = all_append is_place_byte (printed_name place.0) (codes "+0x" ++ numeral 16 place.1) (name_bytes place.0)
      (all_append is_place_byte (codes "+0x") (numeral 16 place.1) refl (numeral_bytes 16 place.1 (omega arith) (omega arith)));
}

file_word : (line : InFile) → IsPlaceWord (codes "at=" ++ (printed_name line.0 ++ (codes ":" ++ numeral 10 line.1)))
file_word line = record {
  name = codes "at";
  value = printed_name line.0 ++ (codes ":" ++ numeral 10 line.1);
  spelled = refl;
  some_letters = omega arith;
  letters = refl;
  some_bytes = some_behind (printed_name line.0) 58 (numeral 10 line.1);
  bytes = all_append is_place_byte (printed_name line.0) (codes ":" ++ numeral 10 line.1) (name_bytes line.0)
      (all_append is_place_byte (codes ":") (numeral 10 line.1) refl (numeral_bytes 10 line.1 (omega arith) (omega arith)));
}

both_are_words : (line : Option InFile) (function : Option InFunction) → ArePlaceWords (line_words line ++ function_words function)
both_are_words None None = tt
both_are_words None (Some place) = (function_word place, tt)
both_are_words (Some line) None = (file_word line, tt)
both_are_words (Some line) (Some place) = (file_word line, (function_word place, tt))

origin_is_word : (origin : KnownOrigin) → ArePlaceWords (origin_words origin)
origin_is_word nowhere = tt
origin_is_word (source_line n) = (line_word n, tt)
origin_is_word (executable place) = both_are_words place.line place.function
origin_is_word (told_words words) = tt

words : (origins : ℕ → KnownOrigin) (t : TracedEvent) → ArePlaceWords (place_words origins t)
words origins t = (step_word t.step, (pc_word t.pc, origin_is_word (origins t.pc)))

-- allowed entries
fits : (event : Event) → IsEvent event → FitsItsLine (printed_event event)
fits (Store hart line offset width value) is =
    let some : 0 < 2 ^ (8 * width) = pow_pos (8 * width) in
    (is.1, is.2, is.3, mod-lt value some)
fits (Clean hart line) is = tt
fits (Fence hart) is = tt
fits (Begin hart op) is = tt
fits (End hart op) is = tt

within : (event : Event) → IsWithinLimits event → IsWithinLimits (printed_event event)
within (Store hart line offset width value) is = is
within (Clean hart line) is = is
within (Fence hart) is = is
within (Begin hart op) is = is
within (End hart op) is = is

allowed : (origins : ℕ → KnownOrigin) (t : TracedEvent) → HasSizes origins t → IsAllowed (entry_of origins t)
allowed origins t sizes = record { places = words origins t; fits = fits t.event sizes.event; within = within t.event sizes.within }

-- what is printed of what an event did
numbered : (keyword : List ℕ) (n : ℕ) (rest : List ℕ) → n < 2 ^ 64 → (keyword ++ decimal n) ++ 10 ∷ rest ≡ keyword ++ (numeral 10 n ++ 10 ∷ rest)
numbered keyword n rest small = append_assoc keyword (decimal n) (10 ∷ rest) ∙ ap (λ (t : List ℕ). keyword ++ (t ++ 10 ∷ rest)) (decimal_numeral n small)

abbrev IsNarrow : Event → Type 0
IsNarrow (Store hart line offset width value) = (line < 2 ^ 32) × (offset < 64) × (width ≤ 8)
IsNarrow (Clean hart line) = line < 2 ^ 32
IsNarrow (Fence hart) = Unit {0}
IsNarrow (Begin hart op) = op < 2 ^ 64
IsNarrow (End hart op) = op < 2 ^ 64

value_small : (value width : ℕ) → width ≤ 8 → value % 2 ^ (8 * width) < 2 ^ 64
value_small value width low =
    let some : 0 < 2 ^ (8 * width) = pow_pos (8 * width) in
    let part : value % 2 ^ (8 * width) < 2 ^ (8 * width) = mod-lt value some in
    let most : 2 ^ (8 * width) ≤ 2 ^ 64 = pow-le-pow_right {n = 2} (omega arith) {i = 8 * width} {j = 64} (omega arith) in
    omega arith

act : (event : Event) (rest : List ℕ) → IsNarrow event → (report.kind_of event ++ report.act_text event) ++ 10 ∷ rest ≡ act_text (printed_event event) rest
act (Store hart line offset width value) rest narrow =
    let v : ℕ = value % 2 ^ (8 * width) in
    rw (decimal_numeral line (omega arith), decimal_numeral offset (omega arith), decimal_numeral width (omega arith), hexadecimal_numeral v (value_small value width narrow.2))
    (onto (codes "store l") _ (10 ∷ rest) _ (onto (numeral 10 line) _ (10 ∷ rest) _ (onto (codes "+") _ (10 ∷ rest) _ (onto (numeral 10 offset) _ (10 ∷ rest) _
    (onto (codes " w") _ (10 ∷ rest) _ (onto (numeral 10 width) _ (10 ∷ rest) _ (append_assoc (codes " 0x") (numeral 16 v) (10 ∷ rest))))))))
act (Clean hart line) rest narrow = numbered (codes "clean l") line rest (omega arith)
act (Fence hart) rest narrow = refl
act (Begin hart op) rest narrow = numbered (codes "begin ") op rest narrow
act (End hart op) rest narrow = numbered (codes "end ") op rest narrow

narrow : (event : Event) → IsEvent event → IsWithinLimits event → IsNarrow event
narrow (Store hart line offset width value) is limits = (limits.1, is.3, width_small width is.1)
  where
    width_small : (width : ℕ) → IsWidth width → width ≤ 8
    width_small width w = grind (arith, w)
narrow (Clean hart line) is limits = limits.1
narrow (Fence hart) is limits = tt
narrow (Begin hart op) is limits = limits.1
narrow (End hart op) is limits = limits.1

same_hart : (event : Event) → hart_of (printed_event event) ≡ report.hart_of event
same_hart (Store hart line offset width value) = refl
same_hart (Clean hart line) = refl
same_hart (Fence hart) = refl
same_hart (Begin hart op) = refl
same_hart (End hart op) = refl

hart_small : (event : Event) → IsEvent event → report.hart_of event < 2 ^ 64
hart_small (Store hart line offset width value) is = omega (arith, is.0)
hart_small (Clean hart line) is = omega (arith, is)
hart_small (Fence hart) is = omega (arith, is)
hart_small (Begin hart op) is = omega (arith, is)
hart_small (End hart op) is = omega (arith, is)

-- words, each behind a blank
abbrev AreSpelled : List ℕ → List (List ℕ) → Type 0
AreSpelled text words = (rest : List ℕ) → text ++ 32 ∷ rest ≡ 32 ∷ (place_text words ++ rest)

function_spelled : (function : Option InFunction) → IfSome function (λ (place : InFunction). place.1 < 2 ^ 64)
    → AreSpelled (function_behind function) (function_words function)
function_spelled None small rest = refl
function_spelled (Some place) small rest =
    let word : List ℕ = codes "in=" ++ (printed_name place.0 ++ (codes "+0x" ++ numeral 16 place.1)) in
    ap (λ (digits : List ℕ). (codes " in=" ++ (printed_name place.0 ++ (codes "+0x" ++ digits))) ++ 32 ∷ rest) (hexadecimal_numeral place.1 small)
    ∙ ap (λ (t : List ℕ). 32 ∷ t) (sym (append_assoc word (32 ∷ []) rest))

line_spelled : (line : Option InFile) (behind : List ℕ) (words : List (List ℕ)) → IfSome line (λ (one : InFile). one.1 < 2 ^ 32)
    → AreSpelled behind words → AreSpelled (line_behind line ++ behind) (line_words line ++ words)
line_spelled None behind words small are rest = are rest
line_spelled (Some line) behind words small are rest =
    let word : List ℕ = codes "at=" ++ (printed_name line.0 ++ (codes ":" ++ numeral 10 line.1)) in
    ap (λ (digits : List ℕ). ((codes " at=" ++ (printed_name line.0 ++ (codes ":" ++ digits))) ++ behind) ++ 32 ∷ rest) (decimal_numeral line.1 (omega arith))
    ∙ ap (λ (t : List ℕ). 32 ∷ t) (
    append_assoc word behind (32 ∷ rest)
    ∙ ap (λ (t : List ℕ). word ++ t) (are rest)
    ∙ sym (append_assoc word (32 ∷ place_text words) rest))

-- what is known, printed behind the pc
origin_spelled : (pc : List ℕ) (origin : KnownOrigin) (rest : List ℕ) → HasNumbers origin
    → (pc ++ origin_text origin) ++ 32 ∷ rest ≡ pc ++ 32 ∷ (place_text (origin_words origin) ++ rest)
origin_spelled pc nowhere rest small = append_assoc pc [] (32 ∷ rest)
origin_spelled pc (source_line n) rest small =
    onto pc (codes " line=" ++ decimal n) (32 ∷ rest) (32 ∷ (place_text (origin_words (source_line n)) ++ rest))
    (ap (λ (t : List ℕ). codes " line=" ++ t) (ap (λ (d : List ℕ). d ++ 32 ∷ rest) (decimal_numeral n (omega arith)) ∙ sym (append_assoc (numeral 10 n) (32 ∷ []) rest)))
origin_spelled pc (executable place) rest small =
    onto pc (line_behind place.line ++ function_behind place.function) (32 ∷ rest) (32 ∷ (place_text (origin_words (executable place)) ++ rest))
    (line_spelled place.line (function_behind place.function) (function_words place.function) small.0 (function_spelled place.function small.1) rest)
origin_spelled pc (told_words words) rest small = absurd small

-- an event of a run, printed by its step and its pc
placed_at : (step pc : ℕ) (origin : KnownOrigin) (event : Event) → HasNumbers origin
    → report.placed_text (record { step = step; at = record { pc = pc; origin = origin }; event = event })
    ≡ codes "h" ++ (decimal (report.hart_of event) ++ (codes " step=" ++ (decimal step
    ++ (codes " " ++ ((codes "pc=0x" ++ (hexadecimal pc ++ origin_text origin)) ++ (codes " " ++ (report.kind_of event ++ report.act_text event)))))))
placed_at step pc nowhere event small = refl
placed_at step pc (source_line n) event small = refl
placed_at step pc (executable place) event small = refl
placed_at step pc (told_words words) event small = absurd small

places_spelled : (origins : ℕ → KnownOrigin) (t : TracedEvent) (rest : List ℕ) → place_text (place_words origins t) ++ rest
    ≡ codes "step=" ++ (numeral 10 t.step ++ (32 ∷ (codes "pc=0x" ++ (numeral 16 t.pc ++ (32 ∷ (place_text (origin_words (origins t.pc)) ++ rest))))))
places_spelled origins t rest =
    onto (codes "step=" ++ numeral 10 t.step) (32 ∷ ((codes "pc=0x" ++ numeral 16 t.pc) ++ 32 ∷ place_text (origin_words (origins t.pc)))) rest
    (32 ∷ (codes "pc=0x" ++ (numeral 16 t.pc ++ (32 ∷ (place_text (origin_words (origins t.pc)) ++ rest)))))
    (ap (λ (z : List ℕ). 32 ∷ z)
    (onto (codes "pc=0x" ++ numeral 16 t.pc) (32 ∷ place_text (origin_words (origins t.pc))) rest (32 ∷ (place_text (origin_words (origins t.pc)) ++ rest)) refl))
    ∙ append_assoc (codes "step=") (numeral 10 t.step) (32 ∷ (codes "pc=0x" ++ (numeral 16 t.pc ++ (32 ∷ (place_text (origin_words (origins t.pc)) ++ rest)))))

placed_line : (origins : ℕ → KnownOrigin) (t : TracedEvent) (rest : List ℕ) → HasSizes origins t → report.placed_text (report.placed origins t) ++ 10 ∷ rest
    ≡ codes "h" ++ (numeral 10 (report.hart_of t.event) ++ (32 ∷ (place_text (place_words origins t) ++ act_text (printed_event t.event) rest)))
placed_line origins t rest sizes =
    let h : ℕ = report.hart_of t.event in
    let done : List ℕ = act_text (printed_event t.event) rest in
    let code : List ℕ = codes "pc=0x" ++ (hexadecimal t.pc ++ origin_text (origins t.pc)) in
    let did : List ℕ = report.kind_of t.event ++ report.act_text t.event in
    let spelled : report.placed_text (report.placed origins t) ++ 10 ∷ rest
    ≡ codes "h" ++ (decimal h ++ (codes " step=" ++ (decimal t.step ++ (codes " " ++ (code ++ (codes " " ++ done)))))) =
    ap (λ (text : List ℕ). text ++ 10 ∷ rest) (placed_at t.step t.pc (origins t.pc) t.event sizes.origin)
    ∙ onto (codes "h") _ (10 ∷ rest) _ (onto (decimal h) _ (10 ∷ rest) _ (onto (codes " step=") _ (10 ∷ rest) _ (onto (decimal t.step) _ (10 ∷ rest) _
    (onto (codes " ") (code ++ (codes " " ++ did)) (10 ∷ rest) _ (onto code (codes " " ++ did) (10 ∷ rest) _
    (onto (codes " ") did (10 ∷ rest) done (act t.event rest (narrow t.event sizes.event sizes.within)))))))) in
    let pc : hexadecimal t.pc ≡ numeral 16 t.pc = hexadecimal_numeral t.pc sizes.pc in
    let placed_code : code ++ 32 ∷ done ≡ codes "pc=0x" ++ (numeral 16 t.pc ++ 32 ∷ (place_text (origin_words (origins t.pc)) ++ done)) =
    ap (λ (digits : List ℕ). (codes "pc=0x" ++ (digits ++ origin_text (origins t.pc))) ++ 32 ∷ done) pc
    ∙ ap (λ (z : List ℕ). codes "pc=0x" ++ z) (origin_spelled (numeral 16 t.pc) (origins t.pc) done sizes.origin) in
    spelled
    ∙ ap (λ (z : List ℕ). codes "h" ++ (decimal h ++ (codes " step=" ++ (decimal t.step ++ (32 ∷ z))))) placed_code
    ∙ ap (λ (d : List ℕ). codes "h" ++ (d ++ (codes " step=" ++ (decimal t.step ++ (32 ∷ (codes "pc=0x" ++ (numeral 16 t.pc ++ 32 ∷ (place_text (origin_words (origins t.pc)) ++ done))))))))
    (decimal_numeral h (hart_small t.event sizes.event))
    ∙ ap (λ (d : List ℕ). codes "h" ++ (numeral 10 h ++ (codes " step=" ++ (d ++ (32 ∷ (codes "pc=0x" ++ (numeral 16 t.pc ++ 32 ∷ (place_text (origin_words (origins t.pc)) ++ done))))))))
    (decimal_numeral t.step (omega (arith, sizes.step)))
    ∙ ap (λ (z : List ℕ). codes "h" ++ (numeral 10 h ++ (32 ∷ z))) (sym (places_spelled origins t done))

line_shown : (origins : ℕ → KnownOrigin) (n : ℕ) (t : TracedEvent) (rest : List ℕ) → n < 2 ^ 64 → HasSizes origins t
    → report.numbered_line origins (n, t) ++ rest ≡ entry_line n (entry_of origins t) rest
line_shown origins n t rest small sizes =
    onto (decimal n) (32 ∷ (report.placed_text (report.placed origins t) ++ 10 ∷ [])) rest (32 ∷ (report.placed_text (report.placed origins t) ++ 10 ∷ rest))
    (ap (λ (z : List ℕ). 32 ∷ z) (append_assoc (report.placed_text (report.placed origins t)) (10 ∷ []) rest))
    ∙ ap (λ (d : List ℕ). d ++ 32 ∷ (report.placed_text (report.placed origins t) ++ 10 ∷ rest)) (decimal_numeral n small)
    ∙ ap (λ (z : List ℕ). numeral 10 n ++ 32 ∷ z) (placed_line origins t rest sizes)
    ∙ ap (λ (h : ℕ). numeral 10 n ++ 32 ∷ 104 ∷ (numeral 10 h ++ (32 ∷ (place_text (place_words origins t) ++ act_text (printed_event t.event) rest)))) (sym (same_hart t.event))

lines_shown : (origins : ℕ → KnownOrigin) (n : ℕ) (ts : List TracedEvent) (rest : List ℕ) → n + length ts < 2 ^ 64 → All (HasSizes origins) ts
    → flat_map (report.numbered_line origins) (enumerate_from n ts) ++ rest ≡ lines_from n (map (entry_of origins) ts) rest
lines_shown origins n [] rest small all = refl
lines_shown origins n (t ∷ ts) rest small all =
    append_assoc (report.numbered_line origins (n, t)) (flat_map (report.numbered_line origins) (enumerate_from (n + 1) ts)) rest
    ∙ line_shown origins n t (flat_map (report.numbered_line origins) (enumerate_from (n + 1) ts) ++ rest) (omega arith) (All-head (HasSizes origins) t ts all)
    ∙ ap (λ (z : List ℕ). entry_line n (entry_of origins t) z) (lines_shown origins (n + 1) ts rest (omega arith) (All-tail (HasSizes origins) t ts all))

pub printed : (origins : ℕ → KnownOrigin) (ts : List TracedEvent) → All (HasSizes origins) ts → length ts ≤ 65536 → length (lines_of (map (entry_of origins) ts)) ≤ 16384
    → IsTraceFile (report.trace_text origins ts) (map (entry_of origins) ts)
printed origins ts all few few_lines =
    let same : length (map (entry_of origins) ts) ≡ length ts = length-map ts (entry_of origins) in
    record {
      allowed = record {
        each = All-map IsAllowed (entry_of origins) ts (λ k d inside. allowed origins (get_or ts k d) (all k d inside));
        few = omega arith;
        few_lines = few_lines;
      };
      whole = lines_shown origins 1 ts (codes "events " ++ (decimal (length ts) ++ 10 ∷ [])) (omega arith) all
          ∙ ap (λ (d : List ℕ). lines_from 1 (map (entry_of origins) ts) (codes "events " ++ (d ++ 10 ∷ []))) (decimal_numeral (length ts) (omega arith))
          ∙ ap (λ (n : ℕ). lines_from 1 (map (entry_of origins) ts) (last_line n [])) (sym same);
    }
