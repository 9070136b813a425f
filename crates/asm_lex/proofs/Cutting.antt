-- How `lines_of` steps over a line.
use Rattle.std.proofs.Common.{◌≡◌, ℕ, suc, ◌+◌, ◌-◌, ◌<◌, Bool, true, false, not, List, [], ◌∷◌, ◌++◌, length, get_or, take, drop, refl, sym, ap, ◌∙◌, arith, length-drop, take-append-drop}
use Rattle.std.specs.Prelude.{◌==◌, if◌then◌else◌}
use Rattle.std.specs.List.{list_all, prefix_len, onto_first}
use Rattle.std.specs.Str.Lines.{strip_carriage_return}
use Rattle.std.proofs.lemmas.Bool.Decides.{nat_tests}
use Rattle.std.proofs.lemmas.List.{take_all, take_rest, drop-drop, drop_more, nil_from_length}
use Rattle.std.proofs.lemmas.List.Sums.{prefix_len_stops}
use Rattle.asm_lex.specs.Lines.{begins_feed, without_returns, cut_at_feeds, lines_of}
use Rattle.asm_lex.proofs.Cuts.{prefix_passes}
use Rattle.asm_lex.proofs.Digits.{both_left, both_right}

-- no LF
abbrev is_inner : ℕ → Bool
is_inner b = not (b == 10)

not_true : (a : Bool) → not a ≡ true → a ≡ false
not_true true h = sym h
not_true false h = refl

not_false : (a : Bool) → not a ≡ false → a ≡ true
not_false true h = refl
not_false false h = sym h

-- a CR before LF goes, and other bytes stay
return_dropped : (b : ℕ) (bs : List ℕ) → (b == 13) ≡ true → without_returns (b ∷ 10 ∷ bs) ≡ 10 ∷ without_returns bs
unfolding without_returns
return_dropped b bs h = rw h refl

feed_kept : (bs : List ℕ) → without_returns (10 ∷ bs) ≡ 10 ∷ without_returns bs
unfolding without_returns
feed_kept bs = refl

byte_kept : (b : ℕ) (bs : List ℕ) → (b == 13) ≡ false → without_returns (b ∷ bs) ≡ b ∷ without_returns bs
unfolding without_returns
byte_kept b bs h = rw h refl

inner_kept : (b : ℕ) (bs : List ℕ) (t : Bool) → (b == 13) ≡ t → begins_feed bs ≡ false → without_returns (b ∷ bs) ≡ b ∷ without_returns bs
unfolding without_returns
inner_kept b bs true h k = rw (h, k) refl
inner_kept b bs false h k = rw h refl

cut_feed : (bs : List ℕ) → cut_at_feeds (10 ∷ bs) ≡ [] ∷ cut_at_feeds bs
unfolding cut_at_feeds
cut_feed bs = refl

cut_byte : (b : ℕ) (bs : List ℕ) → (b == 10) ≡ false → cut_at_feeds (b ∷ bs) ≡ onto_first b (cut_at_feeds bs)
unfolding cut_at_feeds
cut_byte b bs h = rw h refl

-- the CR at a line's end doesn't depend on what stands before
chosen_more : (b : ℕ) (xs ys : List ℕ) (t : Bool) → (if t then b ∷ xs else b ∷ ys) ≡ b ∷ (if t then xs else ys)
chosen_more b xs ys true = refl
chosen_more b xs ys false = refl

stripped_more : (b c : ℕ) (l : List ℕ) → strip_carriage_return (b ∷ c ∷ l) ≡ b ∷ strip_carriage_return (c ∷ l)
stripped_more b c l =
    let long : suc (suc (length l)) - 1 ≡ suc (length l) = omega arith in
    let short : suc (length l) - 1 ≡ length l = omega arith in
    rw (long, short) (chosen_more b (take (length l) (c ∷ l)) (c ∷ l) (get_or (c ∷ l) (length l) 0 == 13))

-- what the first byte of a line does to the lines
cut_more : (b c : ℕ) (bs p : List ℕ) (ps : List (List ℕ)) → (b == 10) ≡ false → (c == 10) ≡ false → cut_at_feeds (without_returns (c ∷ bs)) ≡ p ∷ ps → cut_at_feeds (without_returns (b ∷ c ∷ bs)) ≡ (b ∷ p) ∷ ps
cut_more b c bs p ps h k ih = rw (inner_kept b (c ∷ bs) (b == 13) refl k, cut_byte b _ h, ih) refl

ended_one : (b : ℕ) (rest : List ℕ) (t : Bool) → (b == 13) ≡ t → (b == 10) ≡ false → cut_at_feeds (without_returns (b ∷ 10 ∷ rest)) ≡ strip_carriage_return (b ∷ []) ∷ cut_at_feeds (without_returns rest)
ended_one b rest true h k = rw (return_dropped b rest h, cut_feed, h) refl
ended_one b rest false h k = rw (byte_kept b (10 ∷ rest) h, feed_kept rest, cut_byte b _ k, cut_feed, h) refl

-- a line that LF ends
ended : (l rest : List ℕ) → list_all is_inner l ≡ true → cut_at_feeds (without_returns (l ++ (10 ∷ rest))) ≡ strip_carriage_return l ∷ cut_at_feeds (without_returns rest)
ended [] rest h = rw (feed_kept rest, cut_feed) refl
ended (b ∷ []) rest h = ended_one b rest (b == 13) refl (not_true _ (both_left _ _ h))
ended (b ∷ c ∷ l) rest h =
    let inner = both_right (is_inner b) (list_all is_inner (c ∷ l)) h in
    rw (stripped_more b c l) (cut_more b c (l ++ (10 ∷ rest)) (strip_carriage_return (c ∷ l)) _ (not_true _ (both_left _ _ h)) (not_true _ (both_left _ _ inner)) (ended (c ∷ l) rest inner))

nothing_cut : cut_at_feeds (without_returns []) ≡ []
unfolding cut_at_feeds without_returns
nothing_cut = refl

-- a last line without LF
unended : (b : ℕ) (l : List ℕ) → list_all is_inner (b ∷ l) ≡ true → cut_at_feeds (without_returns (b ∷ l)) ≡ (b ∷ l) ∷ []
unended b [] h = rw (inner_kept b [] (b == 13) refl refl, cut_byte b _ (not_true _ (both_left _ _ h)), nothing_cut) refl
unended b (c ∷ l) h =
    let inner = both_right (is_inner b) (list_all is_inner (c ∷ l)) h in
    cut_more b c l (c ∷ l) [] (not_true _ (both_left _ _ h)) (not_true _ (both_left _ _ inner)) (unended c l inner)

alone : (bs : List ℕ) → (length bs ≡ 0 → ⊥) → list_all is_inner bs ≡ true → cut_at_feeds (without_returns bs) ≡ bs ∷ []
alone [] some h = absurd (some refl)
alone (b ∷ l) some h = unended b l h

-- the byte after the first line is its LF
feed_after : (bs : List ℕ) (n : ℕ) → n ≡ prefix_len is_inner bs → n < length bs → bs ≡ take n bs ++ (10 ∷ drop (n + 1) bs)
feed_after bs n e h =
    let stop : is_inner (get_or bs n 0) ≡ false = rw e (prefix_len_stops is_inner bs 0 (rw (← e) h)) in
    let feed : get_or bs n 0 ≡ 10 = grind (arith, nat_tests, not_false _ stop) in
    sym (take-append-drop n bs) ∙ ap (λ l. take n bs ++ l) (drop_more bs n 0 h ∙ ap (λ b. b ∷ drop (n + 1) bs) feed)

all_inner : (bs : List ℕ) (n : ℕ) → n ≡ prefix_len is_inner bs → list_all is_inner (take n bs) ≡ true
all_inner bs n e = rw e (prefix_passes is_inner bs)

-- an empty text has no lines
pub lines_of-nil : lines_of [] ≡ []
unfolding lines_of
lines_of-nil = nothing_cut

-- the steps of `next_line`
pub last_line : (bs line rest : List ℕ) (n : ℕ) → (length bs ≡ 0 → ⊥) → n ≡ prefix_len is_inner bs → line ≡ take n bs → rest ≡ drop n bs → length rest ≡ 0 → (lines_of bs ≡ line ∷ lines_of rest) × (length rest < length bs)
unfolding lines_of
last_line bs line rest n some e l r none =
    let empty : rest ≡ [] = nil_from_length rest none in
    let left : length rest ≡ length bs - n = rw r (length-drop n bs) in
    let whole : take n bs ≡ bs = take_all n bs (omega arith) in
    let inner : list_all is_inner bs ≡ true = rw whole at (all_inner bs n e) in
    (rw (empty, l, whole, nothing_cut) (alone bs some inner), omega arith)

pub ended_line : (bs line rest text : List ℕ) (n : ℕ) → n ≡ prefix_len is_inner bs → line ≡ take n bs → rest ≡ drop n bs → 0 < length rest → text ≡ strip_carriage_return line → (lines_of bs ≡ text ∷ lines_of (take (length rest - 1) (drop 1 rest))) × (length (take (length rest - 1) (drop 1 rest)) < length bs)
unfolding lines_of
ended_line bs line rest text n e l r some t =
    let left : length rest ≡ length bs - n = rw r (length-drop n bs) in
    let after : take (length rest - 1) (drop 1 rest) ≡ drop (n + 1) bs = take_rest rest 1 ∙ ap (drop 1) r ∙ drop-drop 1 n bs in
    let shorter : length (drop (n + 1) bs) ≡ length bs - (n + 1) = length-drop (n + 1) bs in
    let split = feed_after bs n e (omega arith) in
    (ap (λ w. cut_at_feeds (without_returns w)) split ∙ ended (take n bs) (drop (n + 1) bs) (all_inner bs n e) ∙ rw (after, t, l) refl, rw after (omega arith))
