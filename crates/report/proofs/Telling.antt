-- What one more event adds to the text and to the sums.
use Rattle.std.proofs.Common.{◌≡◌, ◌∙◌, ℕ, ◌+◌, ◌<◌, ◌≤◌, List, [], ◌∷◌, ◌++◌, Option, Bool, false, cond, length, get_or, take, ap, sym, arith}
use Rattle.std.specs.List.{count_by, enumerate_from, flat_map, zip}
use Rattle.std.proofs.lemmas.Grind.{flat_map-append}
use Rattle.std.proofs.lemmas.List.{append-nil, append_assoc, take_all, take_more}
use Rattle.std.proofs.lemmas.List.FromFn.{get_or-enumerate_from, length-enumerate_from}
use Rattle.std.proofs.lemmas.List.Sums.{sum_by_more}
use Rattle.durability.specs.declared.redundant.reason.Reason.{Reason}
use Rattle.store_trace.specs.declared.event.Event.TheVariants.{Store}
use Rattle.machine.specs.declared.run_trace.traced_event.TracedEvent.{TracedEvent}
use Rattle.report.specs.Uses.{Judged}
use Rattle.report.specs.Waste.{judged_line, judged_text}
use Rattle.report.proofs.Counting.{inside, judged, length_zip}

-- what a place past the end is read as
abbrev pub no_event : TracedEvent
no_event = record { step = 0; pc = 0; event = Store 0 0 0 0 0 }

-- the lines of the first events
abbrev pub judged_below : (ℕ → TracedEvent → Reason → List ℕ) → List Judged → ℕ → List ℕ
judged_below needless all i = flat_map (judged_line needless) (take i (enumerate_from 1 all))

numbered : (i j : ℕ) (x y : Judged) → i ≡ j → x ≡ y → ◌≡◌ {A = ℕ × Judged} (i, x) (j, y)
numbered i j x y e q = cc

pub judged_next : (needless : ℕ → TracedEvent → Reason → List ℕ) (traced : List TracedEvent) (reasons : List (Option Reason)) (i : ℕ) (d : TracedEvent) (e : Option Reason) →
    i < length traced → length reasons ≡ length traced →
    judged_below needless (zip traced reasons) (i + 1)
    ≡ judged_below needless (zip traced reasons) i ++ judged_text needless (i + 1) (get_or traced i d) (get_or reasons i e)
judged_next needless traced reasons i d e within same =
    let all : List Judged = zip traced reasons in
    let numbers : List (ℕ × Judged) = enumerate_from 1 all in
    let there : i < length all = inside traced reasons i within same in
    let last : get_or numbers i (0, (d, e)) ≡ (i + 1, (get_or traced i d, get_or reasons i e)) =
    get_or-enumerate_from 1 all i (0, (d, e)) there
    ∙ numbered (1 + i) (i + 1) (get_or all i (d, e)) (get_or traced i d, get_or reasons i e) (omega arith) (judged traced reasons i d e within same) in
    ap (flat_map (judged_line needless)) (take_more numbers i (0, (d, e)) (omega (arith, there, length-enumerate_from 1 all)))
    ∙ flat_map-append (judged_line needless) (take i numbers) (get_or numbers i (0, (d, e)) ∷ [])
    ∙ ap (λ (h : ℕ × Judged). flat_map (judged_line needless) (take i numbers) ++ (judged_line needless h ++ [])) last
    ∙ ap (λ (l : List ℕ). flat_map (judged_line needless) (take i numbers) ++ l) (append-nil (judged_text needless (i + 1) (get_or traced i d) (get_or reasons i e)))

pub judged_more : (needless : ℕ → TracedEvent → Reason → List ℕ) (traced : List TracedEvent) (reasons : List (Option Reason)) (i : ℕ) (d : TracedEvent) (e : Option Reason)
    (text before after line : List ℕ) → i < length traced → length reasons ≡ length traced →
    before ≡ text ++ judged_below needless (zip traced reasons) i → after ≡ before ++ line →
    line ≡ judged_text needless (i + 1) (get_or traced i d) (get_or reasons i e) → after ≡ text ++ judged_below needless (zip traced reasons) (i + 1)
judged_more needless traced reasons i d e text before after line within same was is says =
    is ∙ ap (λ l. l ++ line) was ∙ append_assoc text (judged_below needless (zip traced reasons) i) line
    ∙ ap (λ l. text ++ (judged_below needless (zip traced reasons) i ++ l)) says ∙ ap (λ l. text ++ l) (sym (judged_next needless traced reasons i d e within same))

pub judged_all : (needless : ℕ → TracedEvent → Reason → List ℕ) (traced : List TracedEvent) (reasons : List (Option Reason)) (i : ℕ) → length traced ≤ i →
    length reasons ≡ length traced →
    judged_below needless (zip traced reasons) i ≡ flat_map (judged_line needless) (enumerate_from 1 (zip traced reasons))
judged_all needless traced reasons i past same =
    ap (flat_map (judged_line needless)) (take_all i (enumerate_from 1 (zip traced reasons))
    (omega (arith, past, length-enumerate_from 1 (zip traced reasons), length_zip traced reasons same)))

module _ (traced : List TracedEvent) (reasons : List (Option Reason)) (i : ℕ) (d : TracedEvent) (e : Option Reason) where
  pub count_next : (p : Judged → Bool) (b : Bool) → i < length traced → length reasons ≡ length traced →
      p (get_or traced i d, get_or reasons i e) ≡ b → count_by p (take (i + 1) (zip traced reasons)) ≡ count_by p (take i (zip traced reasons)) + cond b 1 0
  count_next p b within same is =
      sum_by_more (λ y. cond (p y) 1 0) (zip traced reasons) i (d, e) (inside traced reasons i within same)
      ∙ ap (λ t. count_by p (take i (zip traced reasons)) + cond t 1 0) (ap p (judged traced reasons i d e within same) ∙ is)

  -- the sum of those of a kind, by whether the next event is of it
  pub sum_next : (p : Judged → Bool) (b : Bool) (sum add : ℕ) → i < length traced → length reasons ≡ length traced →
      sum ≡ count_by p (take i (zip traced reasons)) → add ≡ cond b 1 0 → p (get_or traced i d, get_or reasons i e) ≡ b →
      sum + add ≡ count_by p (take (i + 1) (zip traced reasons))
  sum_next p b sum add within same was adds is = omega (arith, was, adds, count_next p b within same is)

  -- and where it is neither a clean nor a fence
  pub sum_stays : (p : Judged → Bool) (sum : ℕ) → i < length traced → length reasons ≡ length traced →
      sum ≡ count_by p (take i (zip traced reasons)) → p (get_or traced i d, get_or reasons i e) ≡ false →
      sum ≡ count_by p (take (i + 1) (zip traced reasons))
  sum_stays p sum within same was is = omega (arith, was, count_next p false within same is)

-- the sums of all events
pub count_all : (p : Judged → Bool) (traced : List TracedEvent) (reasons : List (Option Reason)) (i : ℕ) → length traced ≤ i →
    length reasons ≡ length traced → count_by p (take i (zip traced reasons)) ≡ count_by p (zip traced reasons)
count_all p traced reasons i past same =
    ap (count_by p) (take_all i (zip traced reasons) (omega (arith, past, length_zip traced reasons same)))
