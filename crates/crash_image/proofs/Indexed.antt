-- The whole index, one event further.
use Rattle.std.proofs.Common.{◌≡◌, ℕ, ◌+◌, ◌<◌, ◌==◌, List, [], ◌∷◌, ◌++◌, length, get_or, take, inl, inr, refl, ap, ◌∙◌, sym, subst, arith}
use Rattle.std.specs.Prelude.{slice_set}
use Rattle.std.specs.List.{flat_map}
use Rattle.std.proofs.lemmas.Bool.{cases_Bool}
use Rattle.std.proofs.lemmas.Bool.Decides.{nat_tests}
use Rattle.std.proofs.lemmas.Grind.{common_steps}
use Rattle.std.proofs.lemmas.List.{reverse-append, take_more}
use Rattle.std.specs.declared.alloc.Global.{Global}
use Rattle.std.specs.declared.vec.Vec.{Vec}
use Rattle.store_trace.specs.Floor.{floor}
use Rattle.store_trace.specs.Image.{line_after}
use Rattle.store_trace.specs.Stores.{stores}
use Rattle.store_trace.specs.declared.crash_model.step.PersistenceStep.{PersistenceStep}
use Rattle.store_trace.specs.declared.crash_model.step.PersistenceStep.TheVariants as step
use Rattle.line_memory.specs.Lines.{line_at}
use Rattle.store_trace.specs.History.{at_moment, history, steps_of}
use Rattle.store_trace.specs.declared.event.Event.{Event}
use Rattle.word_bits.specs.Bytes.{stored}
use Rattle.crash_image.proofs.Raising.{set_other, set_own}
use Rattle.crash_image.proofs.Steps.{raises_more, stores_pushed, stores_stay}
use Rattle.crash_image.proofs.Waiting.{waiting_cleaned, waiting_fenced, waiting_stays}
use Rattle.crash_image.specs.Lines.{AreLines, IsLine, LineView, bytes_before, last_floor}
use Rattle.crash_image.specs.Pendings.{AreIndexed, ArePending, IsHartPending}
use Rattle.crash_image.specs.declared.trace_index.build.Clean.{Clean}

pub moment_more : (events : List Event) (i : ℕ) (d : Event) → i < length events →
    at_moment events (i + 1) ≡ steps_of (get_or events i d) ++ at_moment events i
moment_more events i d h =
    ap (λ (es : List Event). history es) (take_more events i d h)
    ∙ ap (λ (es : List Event). flat_map steps_of es) (reverse-append (take i events) (get_or events i d ∷ []))

-- an event that changes no line
lines_stay : (start : List (List ℕ)) (past : ℕ → List PersistenceStep) (n : ℕ) (lines : List LineView) →
    ((l : ℕ) → stores l (past (n + 1)) ≡ stores l (past n)) → ((l : ℕ) → floor l (past (n + 1)) ≡ floor l (past n)) →
    ((bytes : List ℕ) (l k : ℕ) → line_after bytes l k (past (n + 1)) ≡ line_after bytes l k (past n)) →
    AreLines start past n lines → AreLines start past (n + 1) lines
lines_stay start past n lines count low bytes a =
    let last : (l : ℕ) (d : LineView) → l < length start → last_floor (get_or lines l d).raises ≡ floor l (past (n + 1)) =
    λ l d b. a.settled l d b ∙ sym (low l) in
    record {
      size = a.size;
      each = λ l d b. record {
        stored = stores_stay (line_at start l) l past n (get_or lines l d).stores (count l) (bytes (line_at start l) l) (a.each l d b).stored;
        raised = raises_more l past n (get_or lines l d).raises (last l d b) (a.each l d b).raised;
      };
      settled = last;
    }

-- the mark of an operation
pub indexed_stays : (start : List (List ℕ)) (past : ℕ → List PersistenceStep) (n : ℕ) (lines : List LineView)
    (pending : List (Vec Clean Global)) → past (n + 1) ≡ past n → AreIndexed start past n lines pending →
    AreIndexed start past (n + 1) lines pending
indexed_stays start past n lines pending e a = record {
  lines_are = lines_stay start past n lines (λ l. ap (stores l) e) (λ l. ap (floor l) e) (λ bytes l k. ap (line_after bytes l k) e) a.lines_are;
  pending_are = subst (λ (p : List PersistenceStep). ArePending (length start) p pending) (sym e) a.pending_are;
}

-- a store
lines_stored : (start : List (List ℕ)) (past : ℕ → List PersistenceStep) (n : ℕ) (lines : List LineView) (l o w v : ℕ) (d new : LineView) →
    l < length start → past (n + 1) ≡ step.Store l o w v ∷ past n →
    new.stores ≡ (get_or lines l d).stores ++ record { event = n; bytes = stored (bytes_before (line_at start l) (get_or lines l d).stores (length (get_or lines l d).stores)) o w v } ∷ [] →
    new.raises ≡ (get_or lines l d).raises →
    AreLines start past n lines → AreLines start past (n + 1) (slice_set lines l new)
lines_stored start past n lines l o w v d new b e made same a =
    let within : l < length lines = omega (arith, b, a.size) in
    let low : (m : ℕ) → floor m (past (n + 1)) ≡ floor m (past n) = λ m. rw e refl in
    let last : last_floor new.raises ≡ floor l (past (n + 1)) = rw same (a.settled l d b ∙ sym (low l)) in
    let line : IsLine (line_at start l) l past (n + 1) new = record {
      stored = rw made (stores_pushed (line_at start l) l o w v past n (get_or lines l d).stores e (a.each l d b).stored);
      raised = raises_more l past n new.raises last (rw same (a.each l d b).raised);
    } in
    record {
      size = grind (arith, common_steps, a.size);
      each = λ m f h. elim (cases_Bool (l == m)) [
        | inl at ↦
            let s : m ≡ l = grind (arith, nat_tests, at) in
            rw (set_own lines l new m f within s) (rw s line)
        | inr other ↦ rw (set_other lines l new m f other) (record {
          stored = stores_stay (line_at start m) m past n (get_or lines m f).stores
              (rw e (grind (arith, nat_tests, other))) (λ k. rw e (grind (arith, nat_tests, other))) (a.each m f h).stored;
          raised = raises_more m past n (get_or lines m f).raises (a.settled m f h ∙ sym (low m)) (a.each m f h).raised;
        })
      ];
      settled = λ m f h. elim (cases_Bool (l == m)) [
        | inl at ↦
            let s : m ≡ l = grind (arith, nat_tests, at) in
            rw (set_own lines l new m f within s) (rw s last)
        | inr other ↦ rw (set_other lines l new m f other) (a.settled m f h ∙ sym (low m))
      ];
    }

pub indexed_stored : (start : List (List ℕ)) (past : ℕ → List PersistenceStep) (n : ℕ) (lines : List LineView)
    (pending : List (Vec Clean Global)) (l o w v : ℕ) (d new : LineView) →
    l < length start → past (n + 1) ≡ step.Store l o w v ∷ past n →
    new.stores ≡ (get_or lines l d).stores ++ record { event = n; bytes = stored (bytes_before (line_at start l) (get_or lines l d).stores (length (get_or lines l d).stores)) o w v } ∷ [] →
    new.raises ≡ (get_or lines l d).raises →
    AreIndexed start past n lines pending → AreIndexed start past (n + 1) (slice_set lines l new) pending
indexed_stored start past n lines pending l o w v d new b e made same a = record {
  lines_are = lines_stored start past n lines l o w v d new b e made same a.lines_are;
  pending_are = record {
    harts = a.pending_are.harts;
    each = λ hart f h. waiting_stays (length start) (past n) (past (n + 1)) hart (get_or pending hart f).items
        (λ m. rw e (omega arith)) (λ m. rw e refl) (a.pending_are.each hart f h);
  };
}

-- a clean
pub indexed_cleaned : (start : List (List ℕ)) (past : ℕ → List PersistenceStep) (n : ℕ) (lines : List LineView)
    (pending : List (Vec Clean Global)) (hart l number : ℕ) (d new : Vec Clean Global) →
    hart < 8 → l < length start → past (n + 1) ≡ step.Clean hart l ∷ past n → number ≡ stores l (past n) →
    new.items ≡ (get_or pending hart d).items ++ record { line = l; stores = number } ∷ [] →
    AreIndexed start past n lines pending → AreIndexed start past (n + 1) lines (slice_set pending hart new)
indexed_cleaned start past n lines pending hart l number d new b named e count made a =
    let within : hart < length pending = omega (arith, b, a.pending_are.harts) in
    let own : IsHartPending (length start) (past (n + 1)) hart new.items =
    rw (e, made, count) (waiting_cleaned (length start) (past n) hart l (get_or pending hart d).items named (a.pending_are.each hart d b)) in
    record {
      lines_are = lines_stay start past n lines (λ m. rw e refl) (λ m. rw e refl) (λ bytes m k. rw e refl) a.lines_are;
      pending_are = record {
        harts = grind (arith, common_steps, a.pending_are.harts);
        each = λ h f under. elim (cases_Bool (hart == h)) [
          | inl at ↦
              let s : h ≡ hart = grind (arith, nat_tests, at) in
              rw (set_own pending hart new h f within s) (rw s own)
          | inr other ↦ rw (set_other pending hart new h f other) (
              waiting_stays (length start) (past n) (past (n + 1)) h (get_or pending h f).items
              (λ m. rw e (omega arith)) (λ m. rw e (grind (arith, nat_tests, other))) (a.pending_are.each h f under))
        ];
      };
    }

-- a fence
pub indexed_fenced : (start : List (List ℕ)) (past : ℕ → List PersistenceStep) (n : ℕ) (lines : List LineView)
    (pending : List (Vec Clean Global)) (hart : ℕ) (new : Vec Clean Global) →
    hart < 8 → past (n + 1) ≡ step.Fence hart ∷ past n → new.items ≡ [] → ArePending (length start) (past n) pending →
    AreLines start past (n + 1) lines → AreIndexed start past (n + 1) lines (slice_set pending hart new)
indexed_fenced start past n lines pending hart new b e none w a =
    let within : hart < length pending = omega (arith, b, w.harts) in
    let own : IsHartPending (length start) (past (n + 1)) hart new.items = rw (e, none) (waiting_fenced (length start) (past n) hart) in
    record {
      lines_are = a;
      pending_are = record {
        harts = grind (arith, common_steps, w.harts);
        each = λ h f under. elim (cases_Bool (hart == h)) [
          | inl at ↦
              let s : h ≡ hart = grind (arith, nat_tests, at) in
              rw (set_own pending hart new h f within s) (rw s own)
          | inr other ↦ rw (set_other pending hart new h f other) (
              waiting_stays (length start) (past n) (past (n + 1)) h (get_or pending h f).items
              (λ m. rw e (omega arith)) (λ m. rw e refl) (w.each h f under))
        ];
      };
    }
