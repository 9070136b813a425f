-- The lines of the image of a cut, as recovery asks them.
use Rattle.std.proofs.Common.{◌≡◌, ℕ, zero, suc, ◌+◌, ◌<◌, ◌≤◌, Bool, true, false, cond, List, [], ◌∷◌, ◌++◌, get_or, length, map, take, refl, sym, ap, subst, ◌∙◌, arith, append_assoc, inr}
use Rattle.std.proofs.lemmas.List.{append-nil, map-append, take_more}
use Rattle.std.specs.Prelude.{◌⊎◌, Err, IfErr, Ok, OnOk, Result}
use Rattle.std.specs.List.{AllByRecursion}
use Rattle.nova_log.specs.Kept.{AreAlikeAt, AreKept}
use Rattle.nova_log.specs.Sources.{Source}
use Rattle.nova_log.specs.declared.kept.KeptVolume.{KeptVolume}
use Rattle.image_check.specs.Alike.{same_size}
use Rattle.verdict.specs.Branches.{IsWithin}
use Rattle.verdict.specs.CutImages.{AreByLine}
use Rattle.verdict.specs.declared.branches.question.Question.{Question}
use Rattle.image_check.specs.Verdicts.{whole_line}

-- an image's lines, of which none has been asked
abbrev pub source_of : List (List ℕ) → Source
source_of lines = record { lines = lines; asked = [] }

pub below_length : (m n : ℕ) (xs : List ℕ) → m ≡ n → AllByRecursion (λ l. l < m) xs → AllByRecursion (λ l. l < n) xs
below_length m n xs e h = subst (λ (k : ℕ). AllByRecursion (λ l. l < k) xs) e h

pub extend_below : (bound : ℕ) (xs ys : List ℕ) → AllByRecursion (λ l. l < bound) xs → AllByRecursion (λ l. l < bound) ys → AllByRecursion (λ l. l < bound) (xs ++ ys)
extend_below bound [] ys h k = k
extend_below bound (x ∷ xs) ys h k = (h.0, extend_below bound xs ys h.1 k)

pub extend_below_or_not : (b : Bool) (bound : ℕ) (xs ys : List ℕ) → AllByRecursion (λ l. l < bound) xs → AllByRecursion (λ l. l < bound) ys →
    AllByRecursion (λ l. l < bound) (cond b (xs ++ ys) xs)
extend_below_or_not true bound xs ys h k = extend_below bound xs ys h k
extend_below_or_not false bound xs ys h k = h

-- the source, by what it was made of
pub source_kept : (medium : List (List ℕ)) (source : Source) (kept : KeptVolume) → ◌≡◌ {A = Source} source (record { lines = medium; asked = [] }) →
    AreKept medium kept → AreKept source.lines kept
source_kept medium source kept e h = subst (λ (s : Source). AreKept s.lines kept) (sym e) h

-- the images of two cuts have the same bytes in a line that has one number alone
pub source_alike : (lines : ℕ) (image : (ℕ → ℕ) → List (List ℕ)) → AreByLine lines image → (low high c k : ℕ → ℕ) (source : Source) →
    ◌≡◌ {A = Source} source (record { lines = image c; asked = [] }) → IsWithin low high c → IsWithin low high k →
    AreAlikeAt (λ l. low l ≡ high l) source.lines (image k)
source_alike lines image by low high c k source e within other =
    subst (λ (s : Source). AreAlikeAt (λ l. low l ≡ high l) s.lines (image k)) (sym e)
    (record {
      size = same_size lines image by c k;
      lines = λ l same.
          let floor = within.least l in
          let top = within.most l in
          let least = other.least l in
          let most = other.most l in
          by.decides c k l (omega (arith, floor, top, least, most, same));
    })

-- the first lines, each asked as a whole
pub lines_none : (asked : List Question) (lines : List ℕ) → asked ≡ asked ++ map whole_line (take 0 lines)
lines_none asked lines = sym (append-nil asked)

pub lines_more : (start old new : List Question) (lines : List ℕ) (at line : ℕ) → at < length lines → line ≡ get_or lines at 0 → new ≡ old ++ whole_line line ∷ [] →
    old ≡ start ++ map whole_line (take at lines) → new ≡ start ++ map whole_line (take (at + 1) lines)
lines_more start old new lines at line less here grown h =
    grown ∙ ap (λ (qs : List Question). qs ++ whole_line line ∷ []) h ∙ append_assoc start (map whole_line (take at lines)) (whole_line line ∷ [])
    ∙ ap (λ (l : ℕ). start ++ (map whole_line (take at lines) ++ whole_line l ∷ [])) here
    ∙ ap (λ (qs : List Question). start ++ qs) (sym (map-append whole_line (take at lines) (get_or lines at 0 ∷ [])))
    ∙ ap (λ (ls : List ℕ). start ++ map whole_line ls) (sym (take_more lines at 0 less))

pub lines_all : (start asked : List Question) (lines : List ℕ) (at : ℕ) → length lines ≤ at → asked ≡ start ++ map whole_line (take at lines) → asked ≡ start ++ map whole_line lines
lines_all start asked lines at past h = h ∙ ap (λ (ls : List ℕ). start ++ map whole_line ls) (take_past lines at past)
  where
    take_past : (lines : List ℕ) (at : ℕ) → length lines ≤ at → take at lines ≡ lines
    take_past [] zero le = refl
    take_past [] (suc at) le = refl
    take_past (l ∷ lines) zero le = absurd (omega (arith, le))
    take_past (l ∷ lines) (suc at) le = ap (λ (ls : List ℕ). l ∷ ls) (take_past lines at (omega (arith, le)))

pub whole_below : (bound : ℕ) (lines : List ℕ) → AllByRecursion (λ l. l < bound) lines → AllByRecursion (λ q. q.line < bound) (map whole_line lines)
whole_below bound [] h = tt
whole_below bound (l ∷ lines) h = (h.0, whole_below bound lines h.1)

-- what was asked where nothing was before
pub asked_whole : (old new : List Question) (ls its : List ℕ) → old ≡ [] → new ≡ old ++ map whole_line ls → ls ≡ its → new ≡ map whole_line its
asked_whole old new ls its none grown same = grown ∙ ap (λ (qs : List Question). qs ++ map whole_line ls) none ∙ ap (λ (xs : List ℕ). map whole_line xs) same

pub asked_below : (bound : ℕ) (old new : List Question) (ls : List ℕ) → old ≡ [] → new ≡ old ++ map whole_line ls → AllByRecursion (λ l. l < bound) ls →
    AllByRecursion (λ q. q.line < bound) new
asked_below bound old new ls none grown h =
    subst (λ (qs : List Question). AllByRecursion (λ q. q.line < bound) qs) (sym (asked_whole old new ls ls none grown refl)) (whole_below bound ls h)

-- what holds in any case holds of a result
pub ok_held : {T E : Type 0} (r : Result T E) (P : Type 0) → P → OnOk r P
ok_held (Ok v) P p = p
ok_held (Err e) P p = tt

pub err_held : {T E : Type 0} (r : Result T E) (Q : E → Type 0) (P : Type 0) → P → IfErr r (λ e. Q e ⊎ P)
err_held (Ok v) Q P p = tt
err_held (Err e) Q P p = inr p
