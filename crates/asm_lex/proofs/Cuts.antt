-- How `pieces` steps over a blank, a comment, a run and any other byte, and what the scanner finds.
use Rattle.std.proofs.Common.{◌≡◌, ℕ, ◌+◌, ◌-◌, ◌<◌, ◌≤◌, Bool, true, false, List, [], ◌∷◌, length, get_or, take, drop, refl, sym, ap, ◌∙◌, arith, one-add, length-drop}
use Rattle.std.specs.List.{prefix_len, list_all}
use Rattle.std.proofs.lemmas.Bool.Decides.{nat_tests}
use Rattle.std.proofs.lemmas.List.{drop-drop}
use Rattle.std.proofs.lemmas.List.Sums.{AllPass-from_list_all, prefix_len-le-length}
use Rattle.std.specs.Prelude.{◌==◌}
use Rattle.asm_lex.specs.Pieces.{is_word, is_blank, begins_word, joined, pieces}
use Rattle.asm_lex.specs.Scan.{begins_blank, BeginsWithPiece, IsNextPiece}

-- a blank is no `#`
blank_no_comment : (b : ℕ) → is_blank b ≡ true → (b == 35) ≡ false
unfolding is_blank
blank_no_comment b h = grind (arith, nat_tests)

-- a byte of a run is no blank
word_no_blank : (b : ℕ) → is_word b ≡ true → is_blank b ≡ false
unfolding is_blank is_word
word_no_blank b h = grind (arith, nat_tests)

-- a byte of a run is no `#`
word_no_comment : (b : ℕ) → is_word b ≡ true → (b == 35) ≡ false
unfolding is_word
word_no_comment b h = grind (arith, nat_tests)

pub nothing_here : pieces [] ≡ []
unfolding pieces
nothing_here = refl

pub comment_here : (b : ℕ) (bs : List ℕ) → (b == 35) ≡ true → pieces (b ∷ bs) ≡ []
unfolding pieces
comment_here b bs h = rw h refl

pub blank_here : (b : ℕ) (bs : List ℕ) → is_blank b ≡ true → pieces (b ∷ bs) ≡ pieces bs
unfolding pieces
blank_here b bs h = rw (blank_no_comment b h, h) refl

pub word_here : (b : ℕ) (bs : List ℕ) → is_word b ≡ true → pieces (b ∷ bs) ≡ joined b (begins_word bs) (pieces bs)
unfolding pieces
word_here b bs h = rw (word_no_comment b h, word_no_blank b h, h) refl

pub mark_here : (b : ℕ) (bs : List ℕ) → (b == 35) ≡ false → is_blank b ≡ false → is_word b ≡ false → pieces (b ∷ bs) ≡ (b ∷ []) ∷ pieces bs
unfolding pieces
mark_here b bs h k w = rw (h, k, w) refl

-- the blanks in front are skipped
skipped_more : (b : ℕ) (bs : List ℕ) (t : Bool) → is_blank b ≡ t → pieces bs ≡ pieces (drop (prefix_len is_blank bs) bs) → pieces (b ∷ bs) ≡ pieces (drop (prefix_len is_blank (b ∷ bs)) (b ∷ bs))
skipped_more b bs true h ih = rw (blank_here b bs h, h, one-add) ih
skipped_more b bs false h ih = rw h refl

pub blanks_skipped : (bs : List ℕ) → pieces bs ≡ pieces (drop (prefix_len is_blank bs) bs)
blanks_skipped [] = refl
blanks_skipped (b ∷ bs) = skipped_more b bs (is_blank b) refl (blanks_skipped bs)

-- they are all blank, and no blank follows them
passing_more : (p : ℕ → Bool) (b : ℕ) (bs : List ℕ) (t : Bool) → p b ≡ t → list_all p (take (prefix_len p bs) bs) ≡ true → list_all p (take (prefix_len p (b ∷ bs)) (b ∷ bs)) ≡ true
passing_more p b bs true h ih = rw (h, one-add, h) ih
passing_more p b bs false h ih = rw h refl

pub prefix_passes : (p : ℕ → Bool) (bs : List ℕ) → list_all p (take (prefix_len p bs) bs) ≡ true
prefix_passes p [] = refl
prefix_passes p (b ∷ bs) = passing_more p b bs (p b) refl (prefix_passes p bs)

unblank_more : (b : ℕ) (bs : List ℕ) (t : Bool) → is_blank b ≡ t → begins_blank (drop (prefix_len is_blank bs) bs) ≡ false → begins_blank (drop (prefix_len is_blank (b ∷ bs)) (b ∷ bs)) ≡ false
unblank_more b bs true h ih = rw (h, one-add) ih
unblank_more b bs false h ih = rw h h

pub unblank_after : (bs : List ℕ) → begins_blank (drop (prefix_len is_blank bs) bs) ≡ false
unblank_after [] = refl
unblank_after (b ∷ bs) = unblank_more b bs (is_blank b) refl (unblank_after bs)

-- a run that ends here, and one that goes on
pub run_alone : (b : ℕ) (bs : List ℕ) → is_word b ≡ true → begins_word bs ≡ false → pieces (b ∷ bs) ≡ (b ∷ []) ∷ pieces bs
run_alone b bs h k = rw (word_here b bs h, k) refl

pub run_longer : (b : ℕ) (bs : List ℕ) (n : ℕ) → is_word b ≡ true → begins_word bs ≡ true → pieces bs ≡ take n bs ∷ pieces (drop n bs) → pieces (b ∷ bs) ≡ (b ∷ take n bs) ∷ pieces (drop n bs)
run_longer b bs n h k ih = rw (word_here b bs h, k, ih) refl

run_more : (b c : ℕ) (cs : List ℕ) (t : Bool) → is_word c ≡ t → is_word b ≡ true → (is_word c ≡ true → pieces (c ∷ cs) ≡ take (prefix_len is_word (c ∷ cs)) (c ∷ cs) ∷ pieces (drop (prefix_len is_word (c ∷ cs)) (c ∷ cs))) → pieces (b ∷ c ∷ cs) ≡ take (prefix_len is_word (b ∷ c ∷ cs)) (b ∷ c ∷ cs) ∷ pieces (drop (prefix_len is_word (b ∷ c ∷ cs)) (b ∷ c ∷ cs))
run_more b c cs true k h ih = rw (h, one-add (prefix_len is_word (c ∷ cs))) (run_longer b (c ∷ cs) (prefix_len is_word (c ∷ cs)) h k (ih k))
run_more b c cs false k h ih = rw (h, k) (run_alone b (c ∷ cs) h k)

pub run_cut : (b : ℕ) (bs : List ℕ) → is_word b ≡ true → pieces (b ∷ bs) ≡ take (prefix_len is_word (b ∷ bs)) (b ∷ bs) ∷ pieces (drop (prefix_len is_word (b ∷ bs)) (b ∷ bs))
run_cut b [] h = rw (h) (run_alone b [] h refl)
run_cut b (c ∷ cs) h = run_more b c cs (is_word c) refl h (run_cut c cs)

-- the branches of the scanner's step at a byte that is no blank
pub nothing_found : (bs : List ℕ) → length bs ≡ 0 → pieces bs ≡ []
nothing_found [] h = nothing_here
nothing_found (b ∷ bs) h = absurd (omega arith)

pub comment_found : (bs : List ℕ) → 0 < length bs → get_or bs 0 0 ≡ 35 → pieces bs ≡ []
comment_found [] h e = nothing_here
comment_found (b ∷ bs) h e = comment_here b bs (grind (arith, nat_tests))

pub run_found : (bs : List ℕ) (n : ℕ) → 0 < length bs → is_word (get_or bs 0 0) ≡ true → n ≡ prefix_len is_word bs → BeginsWithPiece bs n
run_found [] n h w e = absurd (omega arith)
run_found (b ∷ bs) n h w e = record {
  nonempty = rw (e, w) (omega arith);
  in_range = rw e (prefix_len-le-length is_word (b ∷ bs));
  cut = rw e (run_cut b bs w);
}

pub mark_found : (bs : List ℕ) → 0 < length bs → (get_or bs 0 0 ≡ 35 → ⊥) → begins_blank bs ≡ false → is_word (get_or bs 0 0) ≡ false → BeginsWithPiece bs 1
mark_found [] h c k w = absurd (omega arith)
mark_found (b ∷ bs) h c k w = record {
  nonempty = omega arith;
  in_range = omega arith;
  cut = mark_here b bs (grind (arith, nat_tests)) k w;
}

comma_here : (bs : List ℕ) → pieces (44 ∷ bs) ≡ (44 ∷ []) ∷ pieces bs
unfolding is_blank is_word
comma_here bs = mark_here 44 bs refl refl refl

pub comma_found : (bs : List ℕ) → 0 < length bs → get_or bs 0 0 ≡ 44 → BeginsWithPiece bs 1
comma_found [] h e = absurd (omega arith)
comma_found (b ∷ bs) h e = record {
  nonempty = omega arith;
  in_range = omega arith;
  cut = rw e (comma_here bs);
}

-- the scanner's step from a place: it skips blanks, and takes the piece that follows
pub unblank_found : (bs rest : List ℕ) (n : ℕ) → n ≡ prefix_len is_blank bs → rest ≡ drop n bs → begins_blank rest ≡ false
unblank_found bs rest n e r = rw (r, e) (unblank_after bs)

pub none_found : (bs rest : List ℕ) (n : ℕ) → n ≡ prefix_len is_blank bs → rest ≡ drop n bs → pieces rest ≡ [] → pieces bs ≡ []
none_found bs rest n e r h = blanks_skipped bs ∙ rw (← e, ← r) h

pub next_found : (line bs rest : List ℕ) (from n len : ℕ) → from ≤ length line → bs ≡ drop from line → n ≡ prefix_len is_blank bs → rest ≡ drop n bs → BeginsWithPiece rest len → IsNextPiece line from (from + n) (from + n + len)
next_found line bs rest from n len h b e r begins =
    let whole : length bs ≡ length line - from = rw b (length-drop from line) in
    let left : length rest ≡ length bs - n = rw r (length-drop n bs) in
    let first : from + n - from ≡ n = omega arith in
    let second : from + n + len - (from + n) ≡ len = omega arith in
    let there : drop (from + n) line ≡ rest = sym (drop-drop n from line) ∙ ap (drop n) (sym b) ∙ sym r in
    let after : drop (from + n + len) line ≡ drop len rest = sym (drop-drop len (from + n) line) ∙ ap (drop len) there in
    record {
      after = omega arith;
      nonempty = omega (arith, begins.nonempty);
      in_range = omega (arith, begins.in_range, begins.nonempty);
      blanks = rw (first, ← b, e) (AllPass-from_list_all is_blank _ (prefix_passes is_blank bs));
      cut = rw (← b, second, there, after) (blanks_skipped bs ∙ rw (← e, ← r) begins.cut);
    }
