-- A text is the trace file of one list of entries at most, and what is one has no fault.
use Rattle.std.proofs.Common.{◌≡◌, ℕ, zero, suc, ◌+◌, ◌<◌, ◌≤◌, ◌⊎◌, false, List, [], ◌∷◌, ◌++◌, codes, length, refl, sym, ap, ◌∙◌, subst, arith, eqb, inl, inr, append_assoc, append-nil, length-append}
use Rattle.std.specs.Prelude.{All}
use Rattle.std.specs.List.{AllByRecursion, fold}
use Rattle.std.specs.Char.{digit_value}
use Rattle.std.specs.Str.Parse.{AllDigits}
use Rattle.std.proofs.lemmas.Bool.{eqb-false}
use Rattle.std.proofs.lemmas.Bool.Decides.{nat_tests}
use Rattle.std.proofs.lemmas.List.{get_or_append_left, get_or_at}
use Rattle.std.proofs.lemmas.List.Sums.{fold-append}
use Rattle.store_trace.specs.Cut.{with_line}
use Rattle.store_trace.specs.declared.event.Event.{Event}
use Rattle.store_trace.specs.declared.event.Event.TheVariants.{Store, Clean, Fence, Begin, End}
use Rattle.trace_file.proofs.CutLemmas.{same_rest}
use Rattle.trace_file.proofs.LineLemmas.{no_place_in_act}
use Rattle.trace_file.proofs.NumeralLemmas.{numeral_plain, one_number}
use Rattle.trace_file.proofs.PlaceLemmas.{same_places}
use Rattle.trace_file.specs.Entries.{ArePlaceWords, Entry, act_text, entry_line, hart_of, last_line, line_end, lines_from, place_text}
use Rattle.trace_file.specs.Files.{AreAllowed, FitsItsLine, HasEntry, HasLast, HasLine, IsAllowed, IsFaultAt, IsFirstFault, IsTraceFile, lines_of, with_named}
use Rattle.trace_file.specs.Numerals.{numeral}
use Rattle.trace_file.specs.declared.fault.TraceFileCode.{TraceFileCode}
use Rattle.trace_file.specs.declared.fault.TraceFileCode.TheVariants as code

-- texts that begin with different bytes
apart : (a b : ℕ) (xs ys : List ℕ) → eqb a b ≡ false → a ∷ xs ≡ b ∷ ys → ⊥
apart a b xs ys unequal e = eqb-false a b unequal (let same : a ≡ b = cc in same)

decimal_rest : (stop m n : ℕ) (xs ys : List ℕ) → stop < 48 → numeral 10 m ++ stop ∷ xs ≡ numeral 10 n ++ stop ∷ ys → (m ≡ n) × (xs ≡ ys)
decimal_rest stop m n xs ys low e = one_number 10 stop m n xs ys (omega arith) (omega arith) low e

numbered_rest : (keyword : List ℕ) (m n : ℕ) (xs ys : List ℕ) → keyword ++ (numeral 10 m ++ line_end xs) ≡ keyword ++ (numeral 10 n ++ line_end ys) → (m ≡ n) × (xs ≡ ys)
numbered_rest keyword m n xs ys e =
    decimal_rest 10 m n xs ys (omega arith) (same_rest keyword (numeral 10 m ++ 10 ∷ xs) (numeral 10 n ++ 10 ∷ ys) e)

-- what an event did is said in one way
record IsSame (e f : Event) (r s : List ℕ) : Type 0 where
  event : e ≡ f
  rest : r ≡ s

same_store : (h l o w v l' o' w' v' : ℕ) (r s : List ℕ) → act_text (Store h l o w v) r ≡ act_text (Store h l' o' w' v') s
    → IsSame (Store h l o w v) (Store h l' o' w' v') r s
same_store h l o w v l' o' w' v' r s e =
    let (line, t) = decimal_rest 43 l l' _ _ (omega arith) (same_rest (codes "store l") _ _ e) in
    let (offset, u) = decimal_rest 32 o o' _ _ (omega arith) t in
    let (width, x) = decimal_rest 32 w w' _ _ (omega arith) (same_rest (119 ∷ []) _ _ u) in
    let (value, rest) = one_number 16 10 v v' r s (omega arith) (omega arith) (omega arith) (same_rest (48 ∷ 120 ∷ []) _ _ x) in
    record { event = cc; rest = rest }

same_act : (e f : Event) (r s : List ℕ) → hart_of e ≡ hart_of f → act_text e r ≡ act_text f s → IsSame e f r s
same_act (Store h l o w v) (Store g l' o' w' v') r s hart e =
    subst (λ (n : ℕ). IsSame (Store h l o w v) (Store n l' o' w' v') r s) hart (same_store h l o w v l' o' w' v' r s e)
same_act (Store h l o w v) (Clean g m) r s hart e = absurd (apart 115 99 _ _ refl e)
same_act (Store h l o w v) (Fence g) r s hart e = absurd (apart 115 102 _ _ refl e)
same_act (Store h l o w v) (Begin g k) r s hart e = absurd (apart 115 98 _ _ refl e)
same_act (Store h l o w v) (End g k) r s hart e = absurd (apart 115 101 _ _ refl e)
same_act (Clean h m) (Store g l o w v) r s hart e = absurd (apart 99 115 _ _ refl e)
same_act (Clean h m) (Clean g n) r s hart e =
    let (line, rest) = numbered_rest (codes "clean l") m n r s e in let same : h ≡ g = hart in record { event = cc; rest = rest }
same_act (Clean h m) (Fence g) r s hart e = absurd (apart 99 102 _ _ refl e)
same_act (Clean h m) (Begin g k) r s hart e = absurd (apart 99 98 _ _ refl e)
same_act (Clean h m) (End g k) r s hart e = absurd (apart 99 101 _ _ refl e)
same_act (Fence h) (Store g l o w v) r s hart e = absurd (apart 102 115 _ _ refl e)
same_act (Fence h) (Clean g m) r s hart e = absurd (apart 102 99 _ _ refl e)
same_act (Fence h) (Fence g) r s hart e =
    let same : h ≡ g = hart in record { event = cc; rest = same_rest (codes "fence\n") r s e }
same_act (Fence h) (Begin g k) r s hart e = absurd (apart 102 98 _ _ refl e)
same_act (Fence h) (End g k) r s hart e = absurd (apart 102 101 _ _ refl e)
same_act (Begin h j) (Store g l o w v) r s hart e = absurd (apart 98 115 _ _ refl e)
same_act (Begin h j) (Clean g m) r s hart e = absurd (apart 98 99 _ _ refl e)
same_act (Begin h j) (Fence g) r s hart e = absurd (apart 98 102 _ _ refl e)
same_act (Begin h j) (Begin g k) r s hart e =
    let (op, rest) = numbered_rest (codes "begin ") j k r s e in let same : h ≡ g = hart in record { event = cc; rest = rest }
same_act (Begin h j) (End g k) r s hart e = absurd (apart 98 101 _ _ refl e)
same_act (End h j) (Store g l o w v) r s hart e = absurd (apart 101 115 _ _ refl e)
same_act (End h j) (Clean g m) r s hart e = absurd (apart 101 99 _ _ refl e)
same_act (End h j) (Fence g) r s hart e = absurd (apart 101 102 _ _ refl e)
same_act (End h j) (Begin g k) r s hart e = absurd (apart 101 98 _ _ refl e)
same_act (End h j) (End g k) r s hart e =
    let (op, rest) = numbered_rest (codes "end ") j k r s e in let same : h ≡ g = hart in record { event = cc; rest = rest }

-- an entry's line is said in one way
pub record IsOneLine (m n : ℕ) (a b : Entry) (r s : List ℕ) : Type 0 where
  pub number : m ≡ n
  pub entry : a ≡ b
  pub rest : r ≡ s

by_parts : (ps qs : List (List ℕ)) (e f : Event) → ps ≡ qs → e ≡ f → let a : Entry = record { places = ps; event = e } in let b : Entry = record { places = qs; event = f } in a ≡ b
by_parts ps qs e f p q = cc

one_line : (m n : ℕ) (a b : Entry) (r s : List ℕ) → ArePlaceWords a.places → ArePlaceWords b.places → entry_line m a r ≡ entry_line n b s → IsOneLine m n a b r s
one_line m n a b r s places others e =
    let (number, t) = decimal_rest 32 m n _ _ (omega arith) e in
    let (hart, u) = decimal_rest 32 (hart_of a.event) (hart_of b.event) _ _ (omega arith) (same_rest (104 ∷ []) _ _ t) in
    let (words, acts) = same_places a.places b.places (act_text a.event r) (act_text b.event s) places others (no_place_in_act a.event r) (no_place_in_act b.event s) u in
    let same = same_act a.event b.event r s hart acts in
    record { number = number; entry = by_parts a.places b.places a.event b.event words same.event; rest = same.rest }

-- an entry's line is no last line
digit_in_front : (word rest xs : List ℕ) → 0 < length word → AllDigits 10 word → word ++ rest ≡ 101 ∷ xs → ⊥
digit_in_front [] rest xs some digits e = omega arith
digit_in_front (c ∷ cs) rest xs some digits e =
    let same : c ≡ 101 = cc in
    let small : digit_value 101 < 10 = subst (λ (b : ℕ). digit_value b < 10) same digits.0 in
    omega arith

pub entry_not_last : (n t : ℕ) (a : Entry) (r s : List ℕ) → entry_line n a r ≡ last_line t s → ⊥
entry_not_last n t a r s e =
    let plain = numeral_plain 10 n (omega arith) (omega arith) in
    digit_in_front (numeral 10 n) _ _ plain.digits.0 plain.digits.1 e

pub last_unique : (m n : ℕ) (r s : List ℕ) → last_line m r ≡ last_line n s → (m ≡ n) × (r ≡ s)
last_unique m n r s e = numbered_rest (codes "events ") m n r s e

-- two readings of one text go together as far as both go
abbrev pub Worded : List Entry → Type 0
Worded entries = AllByRecursion (λ (entry : Entry). ArePlaceWords entry.places) entries

-- one goes on where the other stops
pub record GoesOnAs (n : ℕ) (xs bs : List Entry) (r s : List ℕ) : Type 0 where
  pub more : List Entry
  pub all : bs ≡ xs ++ more
  pub rest : r ≡ lines_from (n + length xs) more s

pub together : (n : ℕ) (xs bs : List Entry) (r s : List ℕ) → Worded xs → Worded bs → lines_from n xs r ≡ lines_from n bs s → GoesOnAs n xs bs r s ⊎ GoesOnAs n bs xs s r
together n [] bs r s a b e = inl (record { more = bs; all = refl; rest = e ∙ ap (λ (k : ℕ). lines_from k bs s) (omega arith) })
together n (x ∷ xs) [] r s a b e = inr (record { more = x ∷ xs; all = refl; rest = sym e ∙ ap (λ (k : ℕ). lines_from k (x ∷ xs) r) (omega arith) })
together n (x ∷ xs) (y ∷ bs) r s a b e =
    let one = one_line n n x y (lines_from (n + 1) xs r) (lines_from (n + 1) bs s) a.0 b.0 e in
    elim (together (n + 1) xs bs r s a.1 b.1 one.rest) [
      | inl on ↦ inl (record {
        more = on.more;
        all = let first = one.entry in let others = on.all in cc;
        rest = on.rest ∙ ap (λ (k : ℕ). lines_from k on.more s) (omega arith);
      })
      | inr on ↦ inr (record {
        more = on.more;
        all = let first = one.entry in let others = on.all in cc;
        rest = on.rest ∙ ap (λ (k : ℕ). lines_from k on.more r) (omega arith);
      })
    ]

pub worded : (entries : List Entry) → AreAllowed entries → Worded entries
worded entries all = by entries all.each
  where
    by : (es : List Entry) → All IsAllowed es → Worded es
    by [] each = tt
    by (e ∷ es) each = ((each zero e (omega arith)).places, by es (λ k d inside. each (suc k) d (omega arith)))

-- one text is the file of one list of entries
ends_there : (n t k : ℕ) (more : List Entry) (r s : List ℕ) → last_line t r ≡ lines_from n more (last_line k s) → more ≡ []
ends_there n t k [] r s e = refl
ends_there n t k (x ∷ more) r s e = absurd (entry_not_last n t x (lines_from (n + 1) more (last_line k s)) r (sym e))

on_is_all : (n : ℕ) (xs bs : List Entry) (t k : ℕ) (r s : List ℕ) → GoesOnAs n xs bs (last_line t r) (last_line k s) → bs ≡ xs
on_is_all n xs bs t k r s on =
    let none = ends_there (n + length xs) t k on.more r s on.rest in
    on.all ∙ ap (λ (more : List Entry). xs ++ more) none ∙ append-nil xs

pub one_file : (text : List ℕ) (xs bs : List Entry) → IsTraceFile text xs → IsTraceFile text bs → xs ≡ bs
one_file text xs bs a b =
    elim (together 1 xs bs (last_line (length xs) []) (last_line (length bs) []) (worded xs a.allowed) (worded bs b.allowed) (sym a.whole ∙ b.whole)) [
      | inl on ↦ sym (on_is_all 1 xs bs (length xs) (length bs) [] [] on)
      | inr on ↦ on_is_all 1 bs xs (length bs) (length xs) [] [] on
    ]

-- what begins an allowed list of entries is allowed
with_line_longer : (m : ℕ) (ls : List ℕ) → length ls ≤ length (with_line m ls)
with_line_longer m [] = omega arith
with_line_longer m (l ∷ ls) = grind (arith, nat_tests, with_line_longer m ls)

with_named_longer : (ls : List ℕ) (event : Event) → length ls ≤ length (with_named ls event)
with_named_longer ls (Store hart line offset width value) = with_line_longer line ls
with_named_longer ls (Clean hart line) = with_line_longer line ls
with_named_longer ls (Fence hart) = omega arith
with_named_longer ls (Begin hart op) = omega arith
with_named_longer ls (End hart op) = omega arith

gathered_longer : (ls : List ℕ) (entries : List Entry) → length ls ≤ length (fold (λ (lines : List ℕ) (entry : Entry). with_named lines entry.event) ls entries)
gathered_longer ls [] = omega arith
gathered_longer ls (entry ∷ entries) = omega (arith, with_named_longer ls entry.event, gathered_longer (with_named ls entry.event) entries)

front_allowed : (xs more : List Entry) → AreAllowed (xs ++ more) → AreAllowed xs
front_allowed xs more all = record {
  each = λ k d inside. subst IsAllowed (get_or_append_left xs more d k inside) (all.each k d (omega (arith, length-append xs more)));
  few = omega (arith, all.few, length-append xs more);
  few_lines = omega (arith, all.few_lines, gathered_longer (lines_of xs) more, ap length (fold-append (λ (lines : List ℕ) (entry : Entry). with_named lines entry.event) [] xs more));
}

pub middle_allowed : (xs : List Entry) (x : Entry) (es : List Entry) → AreAllowed (xs ++ x ∷ es) → IsAllowed x
middle_allowed xs x es all =
    subst IsAllowed (get_or_at xs x es x (length xs) refl) (all.each (length xs) x (omega (arith, length-append xs (x ∷ es))))

next_allowed : (xs : List Entry) (x : Entry) (es : List Entry) → AreAllowed (xs ++ x ∷ es) → AreAllowed (xs ++ x ∷ [])
next_allowed xs x es all = front_allowed (xs ++ x ∷ []) es (subst AreAllowed (sym (append_assoc xs (x ∷ []) es)) all)

-- lines end
onto_line : (front text : List ℕ) → HasLine text → HasLine (front ++ text)
onto_line front text has = record {
  line = front ++ has.line;
  rest = has.rest;
  whole = ap (λ (t : List ℕ). front ++ t) has.whole ∙ sym (append_assoc front has.line (10 ∷ has.rest));
}

ends_here : (rest : List ℕ) → HasLine (10 ∷ rest)
ends_here rest = record { line = []; rest = rest; whole = refl }

numbered_ends : (keyword : List ℕ) (n : ℕ) (rest : List ℕ) → HasLine (keyword ++ (numeral 10 n ++ 10 ∷ rest))
numbered_ends keyword n rest = onto_line keyword (numeral 10 n ++ 10 ∷ rest) (onto_line (numeral 10 n) (10 ∷ rest) (ends_here rest))

act_ends : (event : Event) (rest : List ℕ) → HasLine (act_text event rest)
act_ends (Store hart line offset width value) rest =
    onto_line (codes "store l") _ (onto_line (numeral 10 line) _ (onto_line (codes "+") _ (onto_line (numeral 10 offset) _ (onto_line (codes " w") _
    (onto_line (numeral 10 width) _ (onto_line (codes " 0x") _ (onto_line (numeral 16 value) (10 ∷ rest) (ends_here rest))))))))
act_ends (Clean hart line) rest = numbered_ends (codes "clean l") line rest
act_ends (Fence hart) rest = onto_line (codes "fence") (10 ∷ rest) (ends_here rest)
act_ends (Begin hart op) rest = numbered_ends (codes "begin ") op rest
act_ends (End hart op) rest = numbered_ends (codes "end ") op rest

pub entry_ends : (text : List ℕ) (n : ℕ) (x : Entry) → HasEntry text n x → HasLine text
entry_ends text n x has =
    rw has.line (onto_line (numeral 10 n) _ (onto_line (codes " h") _ (onto_line (numeral 10 (hart_of x.event)) _ (onto_line (codes " ") _
    (onto_line (place_text x.places) (act_text x.event has.rest) (act_ends x.event has.rest))))))

pub last_ends : (text : List ℕ) (t : ℕ) → HasLast text t → HasLine text
last_ends text t has = rw has.line (numbered_ends (codes "events ") t has.rest)

-- of one text
pub not_both : (text : List ℕ) (n t : ℕ) (x : Entry) → HasEntry text n x → HasLast text t → ⊥
not_both text n t x entry last = entry_not_last n t x entry.rest last.rest (sym entry.line ∙ last.line)

pub one_entry : (text : List ℕ) (m n : ℕ) (x y : Entry) (a : HasEntry text m x) (b : HasEntry text n y) → IsOneLine m n x y a.rest b.rest
one_entry text m n x y a b = one_line m n x y a.rest b.rest a.places b.places (sym a.line ∙ b.line)

-- where an allowed entry comes next there is no fault
pub fault_at_entry : (broken : TraceFileCode) (xs : List Entry) (x : Entry) (es : List Entry) (text : List ℕ) (number : ℕ) → AreAllowed (xs ++ x ∷ es)
    → HasEntry text (length xs + 1) x → IsFaultAt broken xs text number → ⊥
fault_at_entry code.Form xs x es text number all has fault = fault.1.no_entry (length xs + 1) x has
fault_at_entry code.Number xs x es text number all has fault = elim fault.1 [
  | inl other ↦ other.3 (one_entry text other.0 (length xs + 1) other.1 x other.2 has).number
  | inr other ↦ not_both text (length xs + 1) other.0 x has other.1
]
fault_at_entry code.Store xs x es text number all has fault =
    let one = one_entry text (length xs + 1) (length xs + 1) fault.1.entry x fault.1.line has in
    fault.1.bad (subst (λ (e : Entry). FitsItsLine e.event) (sym one.entry) (middle_allowed xs x es all).fits)
fault_at_entry code.Limit xs x es text number all has fault =
    let one = one_entry text (length xs + 1) (length xs + 1) fault.1.entry x fault.1.line has in
    fault.1.passed (subst (λ (e : Entry). AreAllowed (xs ++ e ∷ [])) (sym one.entry) (next_allowed xs x es all))
fault_at_entry code.End xs x es text number all has fault = elim fault [
  | inl early ↦ early.unended (entry_ends text (length xs + 1) x has)
  | inr on ↦ not_both text (length xs + 1) (length xs) x has (record { rest = on.more; line = on.whole })
]
fault_at_entry code.Memory xs x es text number all has fault = fault

-- nor at the last line, with nothing behind it
fault_at_last : (broken : TraceFileCode) (xs : List Entry) (text : List ℕ) (number : ℕ) → text ≡ last_line (length xs) [] → IsFaultAt broken xs text number → ⊥
fault_at_last broken xs text number e fault = at broken fault
  where
    last : HasLast text (length xs)
    last = record { rest = []; line = e }

    at : (b : TraceFileCode) → IsFaultAt b xs text number → ⊥
    at code.Form fault = fault.1.no_last (length xs) last
    at code.Number fault = elim fault.1 [
      | inl other ↦ not_both text other.0 (length xs) other.1 other.2 last
      | inr other ↦ other.2 (last_unique other.0 (length xs) other.1.rest [] (sym other.1.line ∙ e)).0
    ]
    at code.Store fault = not_both text (length xs + 1) (length xs) fault.1.entry fault.1.line last
    at code.Limit fault = not_both text (length xs + 1) (length xs) fault.1.entry fault.1.line last
    at code.End fault = elim fault [
      | inl early ↦ early.unended (last_ends text (length xs) last)
      | inr on ↦ on.some (last_unique (length xs) (length xs) on.more [] (sym on.whole ∙ e)).1
    ]
    at code.Memory fault = fault

-- behind the entries that were read, xs they go on in the file
no_fault_on : (broken : TraceFileCode) (xs more : List Entry) (rest : List ℕ) (number : ℕ) → AreAllowed (xs ++ more)
    → rest ≡ lines_from (1 + length xs) more (last_line (length (xs ++ more)) []) → IsFaultAt broken xs rest number → ⊥
no_fault_on broken xs [] rest number all e fault =
    let same : length (xs ++ []) ≡ length xs = ap length (append-nil xs) in
    fault_at_last broken xs rest number (e ∙ ap (λ (n : ℕ). last_line n []) same) fault
no_fault_on broken xs (x ∷ es) rest number all e fault =
    let place : 1 + length xs ≡ length xs + 1 = omega arith in
    let tail : List ℕ = lines_from (1 + length xs + 1) es (last_line (length (xs ++ x ∷ es)) []) in
    let has : HasEntry rest (length xs + 1) x =
    record { rest = tail; places = (middle_allowed xs x es all).places; line = e ∙ ap (λ (n : ℕ). entry_line n x tail) place } in
    fault_at_entry broken xs x es rest number all has fault

-- and where the file ends before them
no_fault_before : (broken : TraceFileCode) (xs bs more : List Entry) (rest : List ℕ) (number : ℕ) → xs ≡ bs ++ more
    → last_line (length bs) [] ≡ lines_from (1 + length bs) more rest → IsFaultAt broken xs rest number → ⊥
no_fault_before broken xs bs [] rest number all e fault =
    let same : xs ≡ bs = all ∙ append-nil bs in
    fault_at_last broken xs rest number (sym e ∙ ap (λ (es : List Entry). last_line (length es) []) (sym same)) fault
no_fault_before broken xs bs (x ∷ more) rest number all e fault =
    entry_not_last (1 + length bs) (length bs) x (lines_from (1 + length bs + 1) more rest) [] (sym e)

pub no_fault : (text : List ℕ) (entries : List Entry) (number : ℕ) (broken : TraceFileCode) → IsTraceFile text entries → IsFirstFault text number broken → ⊥
no_fault text entries number broken file fault =
    elim (together 1 fault.before entries fault.rest (last_line (length entries) []) (worded fault.before fault.begins.allowed) (worded entries file.allowed)
    (sym fault.begins.whole ∙ file.whole)) [
      | inl on ↦ no_fault_on broken fault.before on.more fault.rest number (subst AreAllowed on.all file.allowed)
          (on.rest ∙ ap (λ (es : List Entry). lines_from (1 + length fault.before) on.more (last_line (length es) [])) on.all) fault.fault
      | inr on ↦ no_fault_before broken fault.before entries on.more fault.rest number on.all on.rest fault.fault
    ]
