-- Boxes as they are kept.
use Rattle.std.proofs.Common.{◌≡◌, ℕ, zero, suc, ◌+◌, ◌<◌, Bool, true, false, not, inl, inr, List, [], ◌∷◌, ◌++◌, Option, Some, None, length, get_or, take, refl, sym, ap, subst, ◌∙◌, arith}
use Rattle.std.specs.Prelude.{All, filter, map, replicate, slice_set}
use Rattle.std.specs.List.{Contains}
use Rattle.std.proofs.lemmas.List.{append-nil, length-set}
use Rattle.std.proofs.lemmas.List.Elements.{All-from_recursion, filter_more}
use Rattle.std.proofs.lemmas.Bool.{cases_Bool, cases_lt}
use Rattle.line_memory.specs.Lines.{AreLines, IsMedium, line_at}
use Rattle.recovery.proofs.Bytewise.{same_itself}
use Rattle.recovery.proofs.Opened.{whole_in}
use Rattle.recovery.specs.Boxes.{AreWhole, IsIn, LiesWithin, contents_of}
use Rattle.recovery.specs.Images.{same_at}
use Rattle.routine_judge.specs.BoxViews.{AreFilled, IsBoxOfMedia, first_image, spread}

pub length_spread : (lines : List (List ℕ)) (table : List (Option (List (List ℕ)))) → length (spread lines table) ≡ length lines
length_spread [] table = refl
length_spread (line ∷ lines) [] = ap suc (length_spread lines [])
length_spread (line ∷ lines) (None ∷ table) = ap suc (length_spread lines table)
length_spread (line ∷ lines) (Some contents ∷ table) = ap suc (length_spread lines table)

-- of each line
pub spread_put : (lines : List (List ℕ)) (table : List (Option (List (List ℕ)))) (l : ℕ) (contents : List (List ℕ)) → l < length lines → l < length table
    → get_or table l None ≡ Some contents → contents_of (spread lines table) l ≡ contents
spread_put [] table l contents there in_table e = absurd (omega (arith, there))
spread_put (line ∷ lines) [] l contents there in_table e = absurd (omega (arith, in_table))
spread_put (line ∷ lines) (None ∷ table) zero contents there in_table e = absurd (cc)
spread_put (line ∷ lines) (Some put ∷ table) zero contents there in_table e = cc
spread_put (line ∷ lines) (None ∷ table) (suc l) contents there in_table e = spread_put lines table l contents (omega (arith, there)) (omega (arith, in_table)) e
spread_put (line ∷ lines) (Some put ∷ table) (suc l) contents there in_table e = spread_put lines table l contents (omega (arith, there)) (omega (arith, in_table)) e

pub spread_own : (lines : List (List ℕ)) (table : List (Option (List (List ℕ)))) (l : ℕ) → l < length lines → get_or table l None ≡ None
    → contents_of (spread lines table) l ≡ line_at lines l ∷ []
spread_own [] table l there e = absurd (omega (arith, there))
spread_own (line ∷ lines) [] zero there e = refl
spread_own (line ∷ lines) [] (suc l) there e = spread_own lines [] l (omega (arith, there)) refl
spread_own (line ∷ lines) (None ∷ table) zero there e = refl
spread_own (line ∷ lines) (Some put ∷ table) zero there e = absurd (cc)
spread_own (line ∷ lines) (None ∷ table) (suc l) there e = spread_own lines table l (omega (arith, there)) e
spread_own (line ∷ lines) (Some put ∷ table) (suc l) there e = spread_own lines table l (omega (arith, there)) e

filled_at : (box : List (List (List ℕ))) (l : ℕ) → AreFilled box → l < length box → 0 < length (contents_of box l)
filled_at [] l w there = absurd (omega (arith, there))
filled_at (contents ∷ box) zero w there = w.0
filled_at (contents ∷ box) (suc l) w there = filled_at box l w.1 (omega (arith, there))

pub some_content : (box : List (List (List ℕ))) (l : ℕ) → IsBoxOfMedia box → l < length box → 0 < length (contents_of box l)
some_content box l w there = filled_at box l w.filled there

whole_at : (box : List (List (List ℕ))) (l : ℕ) → AreWhole box → l < length box → All (λ bytes. length bytes ≡ 64) (contents_of box l)
whole_at [] l w there = absurd (omega (arith, there))
whole_at (contents ∷ box) zero w there = w.0
whole_at (contents ∷ box) (suc l) w there = whole_at box l w.1 (omega (arith, there))

pub whole_contents : (box : List (List (List ℕ))) (l : ℕ) → IsBoxOfMedia box → l < length box → All (λ bytes. length bytes ≡ 64) (contents_of box l)
whole_contents box l w there = whole_at box l w.whole there

-- with other contents of a line
pub spread_set : (lines : List (List ℕ)) (table : List (Option (List (List ℕ)))) (l : ℕ) (contents : List (List ℕ)) → l < length table
    → spread lines (slice_set table l (Some contents)) ≡ slice_set (spread lines table) l contents
spread_set [] table l contents there = refl
spread_set (line ∷ lines) [] l contents there = absurd (omega (arith, there))
spread_set (line ∷ lines) (None ∷ table) zero contents there = refl
spread_set (line ∷ lines) (Some put ∷ table) zero contents there = refl
spread_set (line ∷ lines) (None ∷ table) (suc l) contents there = ap (λ (rest : List (List (List ℕ))). (line ∷ []) ∷ rest) (spread_set lines table l contents (omega (arith, there)))
spread_set (line ∷ lines) (Some put ∷ table) (suc l) contents there = ap (λ (rest : List (List (List ℕ))). put ∷ rest) (spread_set lines table l contents (omega (arith, there)))

whole_set : (box : List (List (List ℕ))) (l : ℕ) (contents : List (List ℕ)) → AreWhole box → All (λ line. length line ≡ 64) contents → AreWhole (slice_set box l contents)
whole_set [] l contents w h = tt
whole_set (first ∷ box) zero contents w h = (h, w.1)
whole_set (first ∷ box) (suc l) contents w h = (w.0, whole_set box l contents w.1 h)

filled_set : (box : List (List (List ℕ))) (l : ℕ) (contents : List (List ℕ)) → AreFilled box → 0 < length contents → AreFilled (slice_set box l contents)
filled_set [] l contents w h = tt
filled_set (first ∷ box) zero contents w h = (h, w.1)
filled_set (first ∷ box) (suc l) contents w h = (w.0, filled_set box l contents w.1 h)

box_set : (box : List (List (List ℕ))) (l : ℕ) (contents : List (List ℕ)) → IsBoxOfMedia box → All (λ line. length line ≡ 64) contents → 0 < length contents
    → IsBoxOfMedia (slice_set box l contents)
box_set box l contents w h some =
    let same : length (slice_set box l contents) ≡ length box = length-set box l contents in
    record {
      least = omega (arith, same, w.least);
      most = omega (arith, same, w.most);
      whole = whole_set box l contents w.whole h;
      filled = filled_set box l contents w.filled some;
    }

pub put_box : (lines : List (List ℕ)) (table : List (Option (List (List ℕ)))) (l : ℕ) (contents : List (List ℕ)) → l < length table → IsBoxOfMedia (spread lines table)
    → All (λ line. length line ≡ 64) contents → 0 < length contents → IsBoxOfMedia (spread lines (slice_set table l (Some contents)))
put_box lines table l contents there w h some = rw (spread_set lines table l contents there) (box_set (spread lines table) l contents w h some)

-- the box of a medium alone
spread_none : (lines : List (List ℕ)) (n : ℕ) → spread lines (replicate n None) ≡ map (λ line. line ∷ []) lines
spread_none [] n = refl
spread_none (line ∷ lines) zero = ap (λ (rest : List (List (List ℕ))). (line ∷ []) ∷ rest) (spread_none lines zero)
spread_none (line ∷ lines) (suc n) = ap (λ (rest : List (List (List ℕ))). (line ∷ []) ∷ rest) (spread_none lines n)

one_whole : (line : List ℕ) → length line ≡ 64 → All (λ bytes. length bytes ≡ 64) (line ∷ [])
one_whole line e = All-from_recursion (λ (bytes : List ℕ). length bytes ≡ 64) (line ∷ []) (e, tt)

rest_lines : (line : List ℕ) (lines : List (List ℕ)) → AreLines (line ∷ lines) → AreLines lines
rest_lines line lines w = record { whole = λ l there. w.whole (suc l) (omega (arith, there)) }

whole_alone : (lines : List (List ℕ)) → AreLines lines → AreWhole (map (λ line. line ∷ []) lines)
whole_alone [] w = tt
whole_alone (line ∷ lines) w = (one_whole line (w.whole 0 (omega arith)), whole_alone lines (rest_lines line lines w))

filled_alone : (lines : List (List ℕ)) → AreFilled (map (λ line. line ∷ []) lines)
filled_alone [] = tt
filled_alone (line ∷ lines) = (omega arith, filled_alone lines)

length_alone : (lines : List (List ℕ)) → length (map (λ line. line ∷ []) lines) ≡ length lines
length_alone [] = refl
length_alone (line ∷ lines) = ap suc (length_alone lines)

pub alone_spread : (lines : List (List ℕ)) (table : List (Option (List (List ℕ)))) (n : ℕ) → table ≡ replicate n None
    → spread lines table ≡ map (λ line. line ∷ []) lines
alone_spread lines table n e = ap (λ (t : List (Option (List (List ℕ)))). spread lines t) e ∙ spread_none lines n

media_alone : (lines : List (List ℕ)) → IsMedium lines → IsBoxOfMedia (map (λ line. line ∷ []) lines)
media_alone lines medium =
    let same : length (map (λ (line : List ℕ). line ∷ []) lines) ≡ length lines = length_alone lines in
    record {
      least = omega (arith, same, medium.least);
      most = omega (arith, same, medium.most);
      whole = whole_alone lines medium.each;
      filled = filled_alone lines;
    }

pub alone_box : (lines : List (List ℕ)) (table : List (Option (List (List ℕ)))) (n : ℕ) → table ≡ replicate n None → IsMedium lines → IsBoxOfMedia (spread lines table)
alone_box lines table n e medium =
    subst (λ (box : List (List (List ℕ))). IsBoxOfMedia box) (sym (alone_spread lines table n e)) (media_alone lines medium)

-- the image with the first content of each line
pub first_at : (box : List (List (List ℕ))) (l : ℕ) → l < length box → line_at (first_image box) l ≡ get_or (contents_of box l) 0 []
first_at [] l there = absurd (omega (arith, there))
first_at (contents ∷ box) zero there = refl
first_at (contents ∷ box) (suc l) there = first_at box l (omega (arith, there))

first_among : (box : List (List (List ℕ))) → AreFilled box → IsIn box (first_image box)
first_among [] w = tt
first_among ([] ∷ box) w = absurd (let h : 0 < 0 = w.0 in omega arith)
first_among ((first ∷ contents) ∷ box) w = ((0, omega arith, refl), first_among box w.1)

pub first_in : (box : List (List (List ℕ))) → IsBoxOfMedia box → IsIn box (first_image box)
first_in box w = first_among box w.filled

pub length_first : (box : List (List (List ℕ))) → length (first_image box) ≡ length box
length_first [] = refl
length_first (contents ∷ box) = ap suc (length_first box)

pub first_medium : (box : List (List (List ℕ))) → IsBoxOfMedia box → IsMedium (first_image box)
first_medium box w =
    let same : length (first_image box) ≡ length box = length_first box in
    record {
      least = omega (arith, same, w.least);
      most = omega (arith, same, w.most);
      each = whole_in box (first_image box) w.whole (first_in box w);
    }

-- contents that pass a test, and those that don't
pub passed_more : (test : List ℕ → Bool) (xs : List (List ℕ)) (i : ℕ) (d : List ℕ) → i < length xs → test (get_or xs i d) ≡ true
    → filter test (take (i + 1) xs) ≡ filter test (take i xs) ++ get_or xs i d ∷ []
passed_more test xs i d there t = filter_more test xs i d there ∙ rw t refl

pub left_more : (test : List ℕ → Bool) (xs : List (List ℕ)) (i : ℕ) (d : List ℕ) → i < length xs → test (get_or xs i d) ≡ false
    → filter test (take (i + 1) xs) ≡ filter test (take i xs)
left_more test xs i d there f = filter_more test xs i d there ∙ rw f (append-nil (filter test (take i xs)))

all_pass : (test : List ℕ → Bool) (xs : List (List ℕ)) → filter (λ x. not (test x)) xs ≡ [] → filter test xs ≡ xs
all_pass test [] e = refl
all_pass test (x ∷ xs) e = elim (cases_Bool (test x)) [
  | inl own ↦ rw own (ap (λ (rest : List (List ℕ)). x ∷ rest) (all_pass test xs (rw own at e)))
  | inr out ↦ absurd (let f = rw out at e in cc)
]

set_same : (box : List (List (List ℕ))) (l : ℕ) → slice_set box l (contents_of box l) ≡ box
set_same [] l = refl
set_same (contents ∷ box) zero = refl
set_same (contents ∷ box) (suc l) = ap (λ (rest : List (List (List ℕ))). contents ∷ rest) (set_same box l)

pub nothing_else : (test : List ℕ → Bool) (box : List (List (List ℕ))) (l : ℕ) → filter (λ x. not (test x)) (contents_of box l) ≡ []
    → slice_set box l (filter test (contents_of box l)) ≡ box
nothing_else test box l e =
    ap (λ (contents : List (List ℕ)). slice_set box l contents) (all_pass test (contents_of box l) e) ∙ set_same box l

pub no_image : (box : List (List (List ℕ))) (l : ℕ) (contents : List (List ℕ)) (image : List (List ℕ)) → l < length box → contents ≡ []
    → IsIn (slice_set box l contents) image → ⊥
no_image [] l contents image there e h = omega (arith, there)
no_image (first ∷ box) zero contents [] there e h = h
no_image (first ∷ box) (suc l) contents [] there e h = h
no_image (first ∷ box) zero contents (line ∷ image) there e h =
    let among : Contains [] line = subst (λ (xs : List (List ℕ)). Contains xs line) e h.0 in
    let none : among.0 < 0 = among.1 in omega arith
no_image (first ∷ box) (suc l) contents (line ∷ image) there e h = no_image box l contents image (omega (arith, there)) e h.1

-- the first content stays where it passes
first_passes : (test : List ℕ → Bool) (xs : List (List ℕ)) → 0 < length xs → test (get_or xs 0 []) ≡ true → get_or (filter test xs) 0 [] ≡ get_or xs 0 []
first_passes test [] some t = absurd (omega (arith, some))
first_passes test (x ∷ xs) some t = rw t refl

pub some_pass : (test : List ℕ → Bool) (xs : List (List ℕ)) → 0 < length xs → test (get_or xs 0 []) ≡ true → 0 < length (filter test xs)
some_pass test [] some t = absurd (omega (arith, some))
some_pass test (x ∷ xs) some t = rw t (omega arith)

first_kept : (test : List ℕ → Bool) (box : List (List (List ℕ))) (l : ℕ) → 0 < length (contents_of box l) → test (get_or (contents_of box l) 0 []) ≡ true
    → first_image (slice_set box l (filter test (contents_of box l))) ≡ first_image box
first_kept test [] l some t = refl
first_kept test (contents ∷ box) zero some t = ap (λ (line : List ℕ). line ∷ first_image box) (first_passes test contents some t)
first_kept test (contents ∷ box) (suc l) some t = ap (λ (rest : List (List ℕ)). get_or contents 0 [] ∷ rest) (first_kept test box l some t)

-- a box within another, line by line
pub within_by_line : (box other : List (List (List ℕ))) → length other ≡ length box
    → ((l : ℕ) → l < length box → All (Contains (contents_of other l)) (contents_of box l)) → LiesWithin box other
within_by_line [] [] same each = tt
within_by_line [] (others ∷ other) same each = absurd (omega (arith, same))
within_by_line (contents ∷ box) [] same each = absurd (omega (arith, same))
within_by_line (contents ∷ box) (others ∷ other) same each =
    (each 0 (omega arith), within_by_line box other (omega (arith, same)) (λ l there. each (suc l) (omega (arith, there))))

pub one_line_more : (box other : List (List (List ℕ))) (l : ℕ) (contents others : List (List ℕ)) → contents ≡ contents_of box l → others ≡ contents_of other l
    → All (Contains others) contents → ((m : ℕ) → m < l → All (Contains (contents_of other m)) (contents_of box m))
    → (m : ℕ) → m < l + 1 → All (Contains (contents_of other m)) (contents_of box m)
one_line_more box other l contents others e f all before m below = elim (cases_lt m l) [
  | inl lower ↦ before m lower
  | inr from ↦
      let here : m ≡ l = omega (arith, from, below) in
      let now : All (Contains (contents_of other l)) (contents_of box l) =
      subst (λ (xs : List (List ℕ)). All (Contains (contents_of other l)) xs) e (subst (λ (ys : List (List ℕ)). All (Contains ys) contents) f all) in
      subst (λ (n : ℕ). All (Contains (contents_of other n)) (contents_of box n)) (sym here) now
]

-- the test of a question, by the bytes of the first image
abbrev pub like_first : List (List (List ℕ)) → ℕ → ℕ → List ℕ → Bool
like_first box l bytes line = same_at bytes 0 (line_at (first_image box) l) line

-- the first content has its own bytes
pub first_like : (box : List (List (List ℕ))) (l bytes : ℕ) → l < length box → like_first box l bytes (get_or (contents_of box l) 0 []) ≡ true
first_like box l bytes there =
    ap (λ (line : List ℕ). same_at bytes 0 line (get_or (contents_of box l) 0 [])) (first_at box l there) ∙ same_itself bytes 0 (get_or (contents_of box l) 0 [])

pub first_stays : (box : List (List (List ℕ))) (l bytes : ℕ) → 0 < length (contents_of box l) → l < length box
    → first_image (slice_set box l (filter (like_first box l bytes) (contents_of box l))) ≡ first_image box
first_stays box l bytes some there = first_kept (like_first box l bytes) box l some (first_like box l bytes there)

-- contents by the first one of their line
pub like_is : (box : List (List (List ℕ))) (l bytes : ℕ) (first : List ℕ) (contents same : List (List ℕ)) → first ≡ line_at (first_image box) l → contents ≡ contents_of box l
    → same ≡ filter (λ line. same_at bytes 0 first line) contents → same ≡ filter (like_first box l bytes) (contents_of box l)
like_is box l bytes first contents same f c e =
    e ∙ ap (λ (x : List ℕ). filter (λ line. same_at bytes 0 x line) contents) f ∙ ap (λ (xs : List (List ℕ)). filter (like_first box l bytes) xs) c

pub others_are : (box : List (List (List ℕ))) (l bytes : ℕ) (first : List ℕ) (contents others : List (List ℕ)) → first ≡ line_at (first_image box) l → contents ≡ contents_of box l
    → others ≡ filter (λ line. not (same_at bytes 0 first line)) contents → others ≡ filter (λ line. not (like_first box l bytes line)) (contents_of box l)
others_are box l bytes first contents others f c e =
    e ∙ ap (λ (x : List ℕ). filter (λ line. not (same_at bytes 0 x line)) contents) f
    ∙ ap (λ (xs : List (List ℕ)). filter (λ line. not (like_first box l bytes line)) xs) c
