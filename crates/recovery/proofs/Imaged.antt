-- Images by line agree on the bytes of questions whose lines their cuts give numbers with the same of these bytes.
use Rattle.std.proofs.Common.{◌≡◌, ℕ, zero, suc, ◌+◌, ◌==◌, ◌&&◌, ◌||◌, List, [], ◌∷◌, Bool, true, false, not, Some, Result, length, slice_get, take, refl, sym, ap, subst, ◌∙◌, arith, true≢false}
use Rattle.line_memory.specs.Lines.{AreLines, line_at}
use Rattle.program.specs.Sections.{Sections}
use Rattle.machine.specs.Run.{Config, started}
use Rattle.machine.specs.declared.shared_memory.history.Entry.{Entry}
use Rattle.verdict.specs.Branches.{Agree, IsAdaptive, IsShared}
use Rattle.verdict.specs.CutImages.{AreByLine}
use Rattle.recovery.specs.declared.recovery_run.Cause.{Cause}
use Rattle.recovery.specs.Answers.{answer}
use Rattle.recovery.specs.Images.{AnswersOn, AsksOn, content, has_same_bytes, same_at}
use Rattle.recovery.specs.Asking.{AgreeOn, asked}
use Rattle.verdict.specs.Bytes.{has_byte}
use Rattle.verdict.specs.declared.branches.question.Question.{Question}
use Rattle.recovery.proofs.Limited.{ends_once, next_asked, runs_alike}

-- lists that are the same at some places have the same there
here_of : (a b : Bool) → (a && b) ≡ true → a ≡ true
here_of true b h = refl
here_of false b h = absurd (true≢false (sym h))

later_of : (a b : Bool) → (a && b) ≡ true → b ≡ true
later_of true b h = h
later_of false b h = absurd (true≢false (sym h))

not_both : (b : Bool) → not b ≡ true → b ≡ true → ⊥
not_both true h e = true≢false (sym h)
not_both false h e = true≢false (sym e)

pub same_here : (bytes i : ℕ) (xs ys : List ℕ) (j : ℕ) → same_at bytes i xs ys ≡ true → has_byte bytes (i + j) ≡ true → slice_get xs j ≡ slice_get ys j
same_here bytes i [] [] j h has = refl
same_here bytes i [] (y ∷ ys) zero h has =
    let at : i + 0 ≡ i = omega arith in
    absurd (not_both (has_byte bytes i) (here_of (not (has_byte bytes i)) (same_at bytes (i + 1) [] ys) h) (subst (λ (n : ℕ). has_byte bytes n ≡ true) at has))
same_here bytes i [] (y ∷ ys) (suc j) h has =
    let at : i + suc j ≡ (i + 1) + j = omega arith in
    same_here bytes (i + 1) [] ys j (later_of (not (has_byte bytes i)) (same_at bytes (i + 1) [] ys) h) (subst (λ (n : ℕ). has_byte bytes n ≡ true) at has)
same_here bytes i (x ∷ xs) [] zero h has =
    let at : i + 0 ≡ i = omega arith in
    absurd (not_both (has_byte bytes i) (here_of (not (has_byte bytes i)) (same_at bytes (i + 1) xs []) h) (subst (λ (n : ℕ). has_byte bytes n ≡ true) at has))
same_here bytes i (x ∷ xs) [] (suc j) h has =
    let at : i + suc j ≡ (i + 1) + j = omega arith in
    same_here bytes (i + 1) xs [] j (later_of (not (has_byte bytes i)) (same_at bytes (i + 1) xs []) h) (subst (λ (n : ℕ). has_byte bytes n ≡ true) at has)
same_here bytes i (x ∷ xs) (y ∷ ys) zero h has =
    let at : i + 0 ≡ i = omega arith in
    let own : has_byte bytes i ≡ true = subst (λ (n : ℕ). has_byte bytes n ≡ true) at has in
    let one : (x == y) ≡ true = here_of (x == y) (same_at bytes (i + 1) xs ys) (rw own at h) in
    ap (λ (n : ℕ). Some n) (grind (arith, one))
same_here bytes i (x ∷ xs) (y ∷ ys) (suc j) h has =
    let at : i + suc j ≡ (i + 1) + j = omega arith in
    same_here bytes (i + 1) xs ys j (later_of (not (has_byte bytes i) || (x == y)) (same_at bytes (i + 1) xs ys) h) (subst (λ (n : ℕ). has_byte bytes n ≡ true) at has)

byte_same : (lines : ℕ) (image : (ℕ → ℕ) → List (List ℕ)) → AreByLine lines image → (c k : ℕ → ℕ) (q : Question) → has_same_bytes image q (k q.line) (c q.line) ≡ true
    → (i : ℕ) → has_byte q.bytes i ≡ true → slice_get (line_at (image k) q.line) i ≡ slice_get (line_at (image c) q.line) i
byte_same lines image by c k q e i has =
    ap (λ (line : List ℕ). slice_get line i) (by.decides (λ l. k q.line) k q.line refl)
    ∙ same_here q.bytes 0 (content image q.line (k q.line)) (content image q.line (c q.line)) i e
    (let at : 0 + i ≡ i = omega arith in subst (λ (n : ℕ). has_byte q.bytes n ≡ true) (sym at) has)
    ∙ ap (λ (line : List ℕ). slice_get line i) (sym (by.decides (λ l. c q.line) c q.line refl))

images_agree : (lines : ℕ) (image : (ℕ → ℕ) → List (List ℕ)) → AreByLine lines image → (c k : ℕ → ℕ) (questions : List Question)
    → Agree (has_same_bytes image) k c questions → AgreeOn (image c) (image k) questions
images_agree lines image by c k [] agree = tt
images_agree lines image by c k (q ∷ qs) agree = (byte_same lines image by c k q agree.0, images_agree lines image by c k qs agree.1)

same_length : (lines : ℕ) (image : (ℕ → ℕ) → List (List ℕ)) → AreByLine lines image → (c k : ℕ → ℕ) → length (image k) ≡ length (image c)
same_length lines image by c k = by.count k ∙ sym (by.count c)

pub images_adaptive : (program : Sections) (steps lines : ℕ) (image : (ℕ → ℕ) → List (List ℕ)) → AreByLine lines image
    → ((cut : ℕ → ℕ) → AreLines (image cut)) → IsAdaptive (has_same_bytes image) (λ cut. AsksOn program steps (image cut))
images_adaptive program steps lines image by whole = λ c k ls ms count x y agree.
    rw (x.asks, y.asks) (next_asked program (image c) (image k) steps x.end y.end x.full y.full count (whole c) (whole k)
    (same_length lines image by c k) x.runs y.runs (images_agree lines image by c k (take count (asked x.end.common.history)) (rw x.asks at agree)))

pub images_shared : (program : Sections) (steps lines : ℕ) (image : (ℕ → ℕ) → List (List ℕ)) → AreByLine lines image
    → ((cut : ℕ → ℕ) → AreLines (image cut)) → IsShared (has_same_bytes image) (λ cut. AsksOn program steps (image cut))
images_shared program steps lines image by whole = λ c k ls x agree.
    let r = runs_alike program (image c) (image k) steps x.end x.full (whole c) (whole k) (same_length lines image by c k) x.runs
    (images_agree lines image by c k (asked x.end.common.history) (rw x.asks at agree)) in record {
      end = r.0;
      full = x.full;
      runs = r.1;
      asks = x.asks ∙ ap (λ (history : List Entry). asked history) (sym r.2.history);
    }

pub images_answered : (program : Sections) (steps lines : ℕ) (image : (ℕ → ℕ) → List (List ℕ)) → AreByLine lines image
    → ((cut : ℕ → ℕ) → AreLines (image cut)) → (c k : ℕ → ℕ) (questions : List Question) (found : Result (List ℕ) Cause)
    → AsksOn program steps (image c) questions → Agree (has_same_bytes image) k c questions → AnswersOn program steps (image c) found
    → AnswersOn program steps (image k) found
images_answered program steps lines image by whole c k questions found x agree a =
    let r = runs_alike program (image c) (image k) steps x.end x.full (whole c) (whole k) (same_length lines image by c k) x.runs
    (images_agree lines image by c k (asked x.end.common.history) (rw x.asks at agree)) in
    let one = ends_once (started program (image c) 1) a.end x.end steps a.full x.full a.runs x.runs in record {
      end = r.0;
      full = x.full;
      runs = r.1;
      comes = a.comes ∙ sym (r.3 ∙ ap (λ (full : Bool). answer x.end full) one.1 ∙ ap (λ (end : Config). answer end a.full) one.0);
    }
