-- A fence raises the floors of the lines that its hart cleaned, one clean after the other.
use Rattle.std.proofs.Common.{◌≡◌, ◌≢◌, ℕ, zero, suc, ◌+◌, ◌<◌, ◌≤◌, ◌==◌, nat_lt, false, List, [], ◌∷◌, length, get_or, inl, inr, refl, ap, ◌∙◌, subst, arith}
use Rattle.std.specs.Prelude.{max, slice_set}
use Rattle.std.proofs.lemmas.Bool.{cases_Bool}
use Rattle.std.proofs.lemmas.Bool.Decides.{nat_tests}
use Rattle.std.proofs.lemmas.Grind.{common_steps}
use Rattle.store_trace.specs.Floor.{cleaned, floor}
use Rattle.store_trace.specs.declared.crash_model.step.PersistenceStep.{PersistenceStep}
use Rattle.store_trace.specs.declared.crash_model.step.PersistenceStep.TheVariants as step
use Rattle.line_memory.specs.Lines.{line_at}
use Rattle.crash_image.proofs.Steps.{last_raised, raises_more, raises_raised, stores_stay}
use Rattle.crash_image.specs.Lines.{AreLines, IsLine, LineView, last_floor, raised_to}
use Rattle.crash_image.specs.Pendings.{IsHartPending, IsRaising}
use Rattle.crash_image.specs.declared.trace_index.build.Clean.{Clean}
use Rattle.crash_image.specs.declared.trace_index.line.Raise.{Raise}

-- the default of a read within the list doesn't matter
pub any_default : {X : Type 0} (xs : List X) (i : ℕ) (c d : X) → i < length xs → get_or xs i c ≡ get_or xs i d
any_default [] i c d h = absurd (omega arith)
any_default (x ∷ xs) zero c d h = refl
any_default (x ∷ xs) (suc i) c d h = any_default xs i c d (omega arith)

-- one element written
pub set_own : {X : Type 0} (xs : List X) (at : ℕ) (x : X) (i : ℕ) (d : X) → at < length xs → i ≡ at → get_or (slice_set xs at x) i d ≡ x
set_own xs at x i d b e = grind (arith, common_steps, b, e)

pub set_other : {X : Type 0} (xs : List X) (at : ℕ) (x : X) (i : ℕ) (d : X) → (at == i) ≡ false → get_or (slice_set xs at x) i d ≡ get_or xs i d
set_other xs at x i d other =
    let ne : i ≢ at = grind (arith, nat_tests, other) in
    grind (arith, common_steps, ne)

-- one clean more
pub raising_more : (start : List (List ℕ)) (past : ℕ → List PersistenceStep) (n hart : ℕ) (cleans : List Clean) (read : ℕ)
    (lines : List LineView) (x : Clean) (d new : LineView) → ((c : Clean) → get_or cleans read c ≡ x) →
    x.line < length start → x.stores ≤ cleaned x.line hart (past n) →
    new.stores ≡ (get_or lines x.line d).stores →
    new.raises ≡ raised_to (get_or lines x.line d).raises n x.stores →
    IsRaising start past n hart cleans read lines → IsRaising start past n hart cleans (read + 1) (slice_set lines x.line new)
raising_more start past n hart cleans read lines x d new is b made same raised r =
    let within : x.line < length lines = omega (arith, b, r.size) in
    let last : last_floor new.raises ≡ max (last_floor (get_or lines x.line d).raises) x.stores =
    ap (λ (raises : List Raise). last_floor raises) raised ∙ last_raised (get_or lines x.line d).raises n x.stores in
    let line : IsLine (line_at start x.line) x.line past n new = record {
      stored = rw same (r.each x.line d b).stored;
      raised = rw raised (raises_raised x.line past n x.stores (get_or lines x.line d).raises (r.each x.line d b).raised);
    } in
    let low : floor x.line (past n) ≤ last_floor new.raises = omega (arith, last, r.low x.line d b) in
    let high : last_floor new.raises ≤ max (floor x.line (past n)) (cleaned x.line hart (past n)) = omega (arith, last, made, r.high x.line d b) in
    let own : x.stores ≤ last_floor new.raises = omega (arith, last) in
    record {
      size = grind (arith, common_steps, r.size);
      each = λ l e h. elim (cases_Bool (x.line == l)) [
        | inl at ↦
            let s : l ≡ x.line = grind (arith, nat_tests, at) in
            rw (set_own lines x.line new l e within s) (rw s line)
        | inr other ↦ rw (set_other lines x.line new l e other) (r.each l e h)
      ];
      low = λ l e h. elim (cases_Bool (x.line == l)) [
        | inl at ↦
            let s : l ≡ x.line = grind (arith, nat_tests, at) in
            rw (set_own lines x.line new l e within s) (rw s low)
        | inr other ↦ rw (set_other lines x.line new l e other) (r.low l e h)
      ];
      high = λ l e h. elim (cases_Bool (x.line == l)) [
        | inl at ↦
            let s : l ≡ x.line = grind (arith, nat_tests, at) in
            rw (set_own lines x.line new l e within s) (rw s high)
        | inr other ↦ rw (set_other lines x.line new l e other) (r.high l e h)
      ];
      met = λ i c e h. elim (cases_Bool (nat_lt i read)) [
        | inl before ↦
            let f : i < read = grind (arith, nat_tests, before) in
            elim (cases_Bool (x.line == (get_or cleans i c).line)) [
              | inl at ↦
                  let s : (get_or cleans i c).line ≡ x.line = grind (arith, nat_tests, at) in
                  let old : (get_or cleans i c).stores ≤ last_floor (get_or lines x.line d).raises =
                  subst (λ (m : ℕ). (get_or cleans i c).stores ≤ last_floor (get_or lines m d).raises) s (r.met i c d f) in
                  let met : (get_or cleans i c).stores ≤ last_floor new.raises = omega (arith, old, last) in
                  rw (set_own lines x.line new (get_or cleans i c).line e within s) met
              | inr other ↦ rw (set_other lines x.line new (get_or cleans i c).line e other) (r.met i c e f)
            ]
        | inr here ↦
            let f : i ≡ read = grind (arith, nat_tests, here, h) in
            rw (f, is c) (rw (set_own lines x.line new x.line e within refl) own)
      ];
    }

-- after all of them
pub raised_all : (start : List (List ℕ)) (past : ℕ → List PersistenceStep) (n hart : ℕ) (cleans : List Clean) (read : ℕ)
    (lines : List LineView) → past (n + 1) ≡ step.Fence hart ∷ past n → IsHartPending (length start) (past n) hart cleans →
    length cleans ≤ read → IsRaising start past n hart cleans read lines → AreLines start past (n + 1) lines
raised_all start past n hart cleans read lines e w all r =
    let last : (l : ℕ) (d : LineView) → l < length start → last_floor (get_or lines l d).raises ≡ floor l (past (n + 1)) =
    λ l d b.
    let met : cleaned l hart (past n) ≤ last_floor (get_or lines l d).raises =
    w.rest l (last_floor (get_or lines l d).raises)
    (λ i c h at. subst (λ (m : ℕ). (get_or cleans i c).stores ≤ last_floor (get_or lines m d).raises) at (r.met i c d (omega (arith, h, all))))
    (r.low l d b) in
    rw e (omega (arith, met, r.low l d b, r.high l d b)) in
    record {
      size = r.size;
      each = λ l d b. record {
        stored = stores_stay (line_at start l) l past n (get_or lines l d).stores (rw e refl) (λ k. rw e refl) (r.each l d b).stored;
        raised = raises_more l past n (get_or lines l d).raises (last l d b) (r.each l d b).raised;
      };
      settled = last;
    }
