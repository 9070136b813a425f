-- What a tally of a line is after one event more, and how its line is printed.
use Rattle.std.proofs.Common.{◌≡◌, ◌≢◌, ◌∙◌, ℕ, zero, suc, ◌+◌, ◌<◌, ◌≤◌, ◌==◌, ◌&&◌, ◌++◌, Bool, true, false, List, [], ◌∷◌, ap, sym, refl, if◌then◌else◌, length, get_or, take, replicate, max, arith, subst, reverse, append_assoc, codes, decimal, nat_lt, rules}
use Rattle.std.specs.Prelude.{OnOk, Result, Ok, Err, slice_index_or, slice_set}
use Rattle.std.specs.Result.{is_ok}
use Rattle.std.specs.List.{flat_map, range_with_len}
use Rattle.std.proofs.lemmas.List.{append-nil, get_or-set_other, get_or-set_same, reverse-append, take_more}
use Rattle.store_trace.specs.Floor.{cleaned, floor}
use Rattle.store_trace.specs.History.{history, steps_of}
use Rattle.store_trace.specs.Stores.{stores}
use Rattle.store_trace.specs.declared.crash_model.step.PersistenceStep.{PersistenceStep}
use Rattle.store_trace.specs.declared.event.Event.{Event}
use Rattle.store_trace.specs.declared.event.Event.TheVariants as events
use Rattle.debugger.specs.LinesAtRisk.{IsTally, line_text, line_texts, tally_texts, waiting_text, waiting_texts}
use Rattle.debugger.specs.declared.sessions.lines_at_risk.Tally.{Tally}
use Rattle.debugger.proofs.Texts.{texts_more}

-- one event more
history_push : (es : List Event) (event : Event) → history (es ++ event ∷ []) ≡ steps_of event ++ history es
history_push es event = ap (λ (l : List Event). flat_map steps_of l) (reverse-append es (event ∷ []))

pub history_more : (es : List Event) (i : ℕ) (d : Event) → i < length es
    → history (take (i + 1) es) ≡ steps_of (get_or es i d) ++ history (take i es)
history_more es i d h = ap (λ (l : List Event). history l) (take_more es i d h) ∙ history_push (take i es) (get_or es i d)

-- a table with a number written at a place
pub set_at_place : (old table : List ℕ) (place number k : ℕ) → place < length table
    → ((j : ℕ) → slice_index_or table j 0 ≡ slice_index_or old j 0)
    → slice_index_or (slice_set table place number) k 0 ≡ (if k == place then number else slice_index_or old k 0)
set_at_place old table place number k there same = grind (arith, get_or-set_same, get_or-set_other, same k)

pub tally_more : (es : List Event) (i line : ℕ) (d : Event) (old new : Tally) → i < length es
    → IsTally line (history (take i es)) old
    → ((p : List PersistenceStep) → IsTally line p old → IsTally line (steps_of (get_or es i d) ++ p) new)
    → IsTally line (history (take (i + 1) es)) new
tally_more es i line d old new there so_far goes = rw (history_more es i d there) (goes (history (take i es)) so_far)

-- the cleans of harts that were looked at
pub none_waiting : (tally : Tally) → tally_texts tally 0 ≡ []
unfolding tally_texts
none_waiting tally = refl

pub waiting_more : (tally : Tally) (hart : ℕ)
    → tally_texts tally (hart + 1) ≡ tally_texts tally hart ++ waiting_text tally.floor hart (slice_index_or tally.cleaned.items hart 0)
unfolding tally_texts
waiting_more tally hart = texts_more (λ h. waiting_text tally.floor h (slice_index_or tally.cleaned.items h 0)) hart

pub waiting_begun : (front : List ℕ) (tally : Tally) → front ≡ front ++ tally_texts tally 0
waiting_begun front tally = rw (none_waiting tally) (sym (append-nil front))

pub waiting_told : (front old new : List ℕ) (tally : Tally) (hart : ℕ) → old ≡ front ++ tally_texts tally hart
    → new ≡ old ++ waiting_text tally.floor hart (slice_index_or tally.cleaned.items hart 0) → new ≡ front ++ tally_texts tally (hart + 1)
waiting_told front old new tally hart so_far is =
    let more : List ℕ = waiting_text tally.floor hart (slice_index_or tally.cleaned.items hart 0) in
    is ∙ ap (λ (l : List ℕ). l ++ more) so_far ∙ append_assoc front (tally_texts tally hart) more
    ∙ ap (λ (l : List ℕ). front ++ l) (sym (waiting_more tally hart))

-- the cache lines that were looked at
pub no_lines : (es : List Event) → line_texts es 0 ≡ []
unfolding line_texts
no_lines es = refl

pub lines_more : (es : List Event) (line : ℕ) → line_texts es (line + 1) ≡ line_texts es line ++ line_text (history es) line
unfolding line_texts
lines_more es line = texts_more (line_text (history es)) line

-- texts of equal numbers are equal
same_texts : (f g : ℕ → List ℕ) (hs : List ℕ) → ((h : ℕ) → f h ≡ g h) → flat_map f hs ≡ flat_map g hs
same_texts f g [] same = refl
same_texts f g (h ∷ hs) same = ap (λ (l : List ℕ). l ++ flat_map f hs) (same h) ∙ ap (λ (l : List ℕ). g h ++ l) (same_texts f g hs same)

same_waiting : (line : ℕ) (p : List PersistenceStep) (tally : Tally) → IsTally line p tally → tally_texts tally 8 ≡ waiting_texts p line
unfolding tally_texts waiting_texts
same_waiting line p tally is = same_texts (λ h. waiting_text tally.floor h (slice_index_or tally.cleaned.items h 0))
    (λ h. waiting_text (floor line p) h (cleaned line h p)) (range_with_len 0 8)
    (λ h. rw (is.floor, is.cleaned h) refl)

-- the line of a tally
pub line_told : (line : ℕ) (p : List PersistenceStep) (tally : Tally) → tally.floor < tally.stores → IsTally line p tally
    → line_text p line ≡ codes "l" ++ (decimal line ++ (codes " stores=" ++ (decimal tally.stores ++ (codes " floor="
    ++ (decimal tally.floor ++ (tally_texts tally 8 ++ codes "\n"))))))
line_told line p tally less is =
    let stores : stores line p ≡ tally.stores = sym is.stores in
    let floor : floor line p ≡ tally.floor = sym is.floor in
    let on : nat_lt tally.floor tally.stores ≡ true = search rules in
    rw (stores, floor, sym (same_waiting line p tally is), on) refl

-- what is so of a result, where that is one
pub when_ok : {T E : Type 0} (r : Result T E) (new a b : List ℕ) → new ≡ (if is_ok r then a else b) → OnOk r (new ≡ a)
when_ok (Ok value) new a b e = e
when_ok (Err fault) new a b e = tt

-- its parts, behind what was printed
regroup : (f a b c d e g t n : List ℕ)
    → ((f ++ (a ++ (b ++ (c ++ (d ++ (e ++ g)))))) ++ t) ++ n ≡ f ++ (a ++ (b ++ (c ++ (d ++ (e ++ (g ++ (t ++ n)))))))
regroup f a b c d e g t n = simp append_assoc refl

pub line_pushed : (front head cleans new : List ℕ) (line : ℕ) (p : List PersistenceStep) (tally : Tally) → tally.floor < tally.stores
    → IsTally line p tally
    → head ≡ front ++ (codes "l" ++ (decimal line ++ (codes " stores=" ++ (decimal tally.stores ++ (codes " floor=" ++ decimal tally.floor)))))
    → cleans ≡ head ++ tally_texts tally 8 → new ≡ cleans ++ codes "\n" → new ≡ front ++ line_text p line
line_pushed front head cleans new line p tally less is one two three =
    three ∙ ap (λ (l : List ℕ). l ++ codes "\n") (two ∙ ap (λ (l : List ℕ). l ++ tally_texts tally 8) one)
    ∙ regroup front (codes "l") (decimal line) (codes " stores=") (decimal tally.stores) (codes " floor=") (decimal tally.floor) (tally_texts tally 8) (codes "\n")
    ∙ ap (λ (l : List ℕ). front ++ l) (sym (line_told line p tally less is))

pub line_untold : (line : ℕ) (p : List PersistenceStep) (tally : Tally) → tally.stores ≤ tally.floor → IsTally line p tally
    → line_text p line ≡ []
line_untold line p tally all is =
    let stores : stores line p ≡ tally.stores = sym is.stores in
    let floor : floor line p ≡ tally.floor = sym is.floor in
    let off : nat_lt tally.floor tally.stores ≡ false = search rules in
    rw (stores, floor, off) refl
