-- Steps of one hart in a row are steps of the machine.
use Rattle.std.proofs.Common.{◌≡◌, ℕ, zero, suc, ◌+◌, ◌<◌, ◌≤◌, List, [], ◌∷◌, ◌++◌, All, length, length-set, replicate, Option, Some, None, get_or, slice_get, slice_set, refl, sym, ap, subst, ◌∙◌, inl, inr, arith}
use Rattle.std.proofs.lemmas.Bool.{cases_lt}
use Rattle.std.proofs.lemmas.List.{replicate_more}
use Rattle.std.proofs.lemmas.Option.{slice_get-get_or, slice_get_within}
use Rattle.hart.specs.declared.state.HartState.{HartState}
use Rattle.line_memory.specs.Memory.{Memory}
use Rattle.machine.proofs.Determined.{runs_once}
use Rattle.machine.proofs.Naming.{served_named}
use Rattle.machine.proofs.Stepping.{goes_on_alone, goes_on_answered}
use Rattle.machine.specs.Represents.{MachineView, RunsBoth, copy_of}
use Rattle.machine.specs.Rows.{AreStepsOf, IsRow, IsRowOf, IsStepOf, RunsBeforeEach}
use Rattle.machine.specs.Run.{RunsTo}
use Rattle.machine.specs.RunLaws.{both_more, both_none}
use Rattle.machine.specs.declared.schedule.items.Step.{Step}
use Rattle.machine.specs.declared.schedule.items.Step.TheVariants.{Hart}
use Rattle.machine.specs.SharedView.{SharedView}
use Rattle.store_trace.specs.TraceView.{NamesLine}

-- a hart's place among the states
put_again : (harts : List HartState) (h : ℕ) (a b : HartState) → slice_set (slice_set harts h a) h b ≡ slice_set harts h b
put_again [] h a b = refl
put_again (s ∷ harts) zero a b = refl
put_again (s ∷ harts) (suc h) a b = ap (λ (l : List HartState). s ∷ l) (put_again harts h a b)

put_same : (harts : List HartState) (h : ℕ) (s : HartState) → slice_get harts h ≡ Some s → slice_set harts h s ≡ harts
put_same [] h s there = refl
put_same (t ∷ harts) zero s there = let same : t ≡ s = cc in ap (λ (x : HartState). x ∷ harts) (sym same)
put_same (t ∷ harts) (suc h) s there = ap (λ (l : List HartState). t ∷ l) (put_same harts h s there)

put_got : (harts : List HartState) (h : ℕ) (s : HartState) → h < length harts → slice_get (slice_set harts h s) h ≡ Some s
put_got [] h s inside = absurd (omega arith)
put_got (t ∷ harts) zero s inside = refl
put_got (t ∷ harts) (suc h) s inside = put_got harts h s (omega arith)

-- the machine with another state of hart h, and after its accesses
abbrev pub with_both : MachineView → ℕ → HartState → SharedView → MachineView
with_both m h s shared = record m { harts = slice_set m.harts h s; shared = shared }

one_of : (m : MachineView) (h : ℕ) (s t : HartState) (shared : SharedView) → h < 8 → length m.copies ≡ length m.harts → slice_get m.harts h ≡ Some s
    → IsStepOf (copy_of m h) h s t m.shared shared → RunsBoth m (with_both m h t shared) (Hart h ∷ [])
one_of m h s t shared few each there step = elim step.made [
  | inl alone ↦ goes_on_alone m (with_both m h t shared) h s t there step.running alone.0 (rw alone.1 refl)
  | inr asked ↦
      goes_on_answered m (with_both m h t shared) shared h s t asked.instr asked.request few each there step.running asked.needs asked.spelled
      asked.answers (rw asked.kept refl)
]

module _ (m : MachineView) (h : ℕ) (s : HartState) (few : h < 8) (each : length m.copies ≡ length m.harts) (there : slice_get m.harts h ≡ Some s) where
  pub steps_of_machine : (n : ℕ) (t : HartState) (shared : SharedView) → AreStepsOf (copy_of m h) h n s t m.shared shared
      → RunsBoth m (with_both m h t shared) (replicate n (Hart h))
  steps_of_machine zero t shared steps =
      let same : with_both m h t shared ≡ m =
      rw steps.1 (ap (λ (l : List HartState). record m { harts = l }) (ap (λ (x : HartState). slice_set m.harts h x) steps.0 ∙ put_same m.harts h s there)) in
      subst (λ (new : MachineView). RunsBoth m new []) (sym same) (both_none m)
  steps_of_machine (suc n) t shared steps =
      let middle : HartState = steps.0 in
      let between : SharedView = steps.1 in
      let first = steps_of_machine n middle between steps.2 in
      let inside = slice_get_within m.harts h s there in
      let last : RunsBoth (with_both m h middle between) (with_both (with_both m h middle between) h t shared) (Hart h ∷ []) =
      one_of (with_both m h middle between) h middle t shared few (rw length-set each) (put_got m.harts h middle inside) steps.3 in
      let both = both_more m (with_both m h middle between) (with_both (with_both m h middle between) h t shared) (replicate n (Hart h)) (Hart h ∷ []) first last in
      let count : n + 1 ≡ suc n = omega arith in
      let all : replicate n (Hart h) ++ Hart h ∷ [] ≡ replicate (suc n) (Hart h) =
      replicate_more n (Hart h) ∙ ap (λ (k : ℕ). replicate k (Hart h)) count in
      let whole : RunsBoth m (with_both (with_both m h middle between) h t shared) (replicate (suc n) (Hart h)) =
      subst (λ (l : List Step). RunsBoth m (with_both (with_both m h middle between) h t shared) l) all both in
      subst (λ (l : List HartState). RunsBoth m (record m { harts = l; shared = shared }) (replicate (suc n) (Hart h))) (put_again m.harts h middle t) whole

  -- the hart runs before each of them
  pub runs_before_each : (n : ℕ) (t : HartState) (shared : SharedView) → AreStepsOf (copy_of m h) h n s t m.shared shared → RunsBeforeEach m h n
  runs_before_each zero t shared steps k c d fits stands run = absurd (omega arith)
  runs_before_each (suc n) t shared steps k c d fits stands run = elim (cases_lt k n) [
    | inl less ↦ runs_before_each n steps.0 steps.1 steps.2 k c d less stands run
    | inr past ↦
        let last : k ≡ n = omega arith in
        let after = (steps_of_machine n steps.0 steps.1 steps.2).runs.represents c stands in
        let same_run : RunsTo c (replicate n (Hart h)) d = rw last at run in
        let same : d ≡ after.0 = runs_once c (replicate n (Hart h)) d after.0 same_run after.1 in
        let inside = slice_get_within m.harts h s there in
        let got = put_got m.harts h steps.0 inside in
        rw (same, ← after.2.harts, got) steps.3.running
  ]

-- one more
pub one_more_of : (text : Memory) (h n : ℕ) (s middle t : HartState) (old between new : SharedView) → AreStepsOf text h n s middle old between
    → IsStepOf text h middle t between new → AreStepsOf text h (n + 1) s t old new
one_more_of text h n s middle t old between new steps step =
    let count : n + 1 ≡ suc n = omega arith in
    rw count (middle, between, steps, step)

-- they leave the number of lines, and the events of the trace name lines
step_named : (text : Memory) (h : ℕ) (s t : HartState) (old new : SharedView) → IsStepOf text h s t old new
    → All (NamesLine (length old.cache.lines)) old.trace
    → All (NamesLine (length new.cache.lines)) new.trace × (length new.cache.lines ≡ length old.cache.lines)
step_named text h s t old new step named = elim step.made [
  | inl alone ↦ (rw alone.1 named, rw alone.1 refl)
  | inr asked ↦ (
    served_named old new h asked.request asked.answers.reply asked.width asked.answers.serves named,
    asked.answers.serves.steps.1.sizes.lines,
  )
]

steps_named : (text : Memory) (h n : ℕ) (s t : HartState) (old new : SharedView) → AreStepsOf text h n s t old new
    → All (NamesLine (length old.cache.lines)) old.trace → All (NamesLine (length new.cache.lines)) new.trace
steps_named text h zero s t old new steps named = rw steps.1 named
steps_named text h (suc n) s t old new steps named =
    (step_named text h steps.0 t steps.1 new steps.3 (steps_named text h n s steps.0 old steps.1 steps.2 named)).0

pub row_named : (text : Memory) (h n : ℕ) (at : Option ℕ) (s t : HartState) (old new : SharedView) → IsRow text h n at s t old new
    → length old.trace ≤ 65536 → All (NamesLine (length old.cache.lines)) old.trace
    → (length new.trace ≤ 65536) × All (NamesLine (length new.cache.lines)) new.trace
row_named text h n None s t old new row few named = (rw row.1 few, steps_named text h n s t old new row.0 named)
row_named text h n (Some pc) s t old new row few named = (
  row.longer.few,
  (step_named text h row.middle t row.between new row.last (steps_named text h row.quiet s row.middle old row.between row.before named)).0,
)

-- all steps of a row
row_steps : (text : Memory) (h n : ℕ) (at : Option ℕ) (s t : HartState) (old new : SharedView) → IsRow text h n at s t old new
    → AreStepsOf text h n s t old new
row_steps text h n None s t old new row = row.0
row_steps text h n (Some pc) s t old new row =
    rw row.all (one_more_of text h row.quiet s row.middle t old row.between new row.before row.last)

-- what stands at a place
pub state_there : (harts : List HartState) (h : ℕ) (s : HartState) → h < length harts → s ≡ get_or harts h s → slice_get harts h ≡ Some s
state_there harts h s inside e = rw (← e) at (slice_get-get_or harts h s inside)

pub text_there : (copies : List (List ℕ)) (h : ℕ) (text : List ℕ) → h < length copies → text ≡ get_or copies h text → text ≡ get_or copies h []
text_there [] h text inside e = absurd (omega arith)
text_there (other ∷ copies) zero text inside e = e
text_there (other ∷ copies) (suc h) text inside e = text_there copies h text (omega arith) e

pub row_runs : (old new : MachineView) (h n : ℕ) (at : Option ℕ) (s t : HartState) (shared : SharedView) → h < 8
    → length old.copies ≡ length old.harts → slice_get old.harts h ≡ Some s → IsRow (copy_of old h) h n at s t old.shared shared
    → new ≡ with_both old h t shared → RunsBoth old new (replicate n (Hart h))
row_runs old new h n at s t shared few each there row e =
    rw e (steps_of_machine old h s few each there n t shared (row_steps (copy_of old h) h n at s t old.shared shared row))

pub row_running : (old : MachineView) (h n : ℕ) (at : Option ℕ) (s t : HartState) (shared : SharedView) → h < 8
    → length old.copies ≡ length old.harts → slice_get old.harts h ≡ Some s → IsRow (copy_of old h) h n at s t old.shared shared
    → RunsBeforeEach old h n
row_running old h n at s t shared few each there row =
    runs_before_each old h s few each there n t shared (row_steps (copy_of old h) h n at s t old.shared shared row)

pub row_of : (old new : MachineView) (h n : ℕ) (at : Option ℕ) (s t : HartState) (shared : SharedView) → h < 8
    → length old.copies ≡ length old.harts → slice_get old.harts h ≡ Some s → IsRow (copy_of old h) h n at s t old.shared shared
    → new ≡ with_both old h t shared → IsRowOf old h n at new
row_of old new h n None s t shared few each there row e = rw e row.1
row_of old new h n (Some pc) s t shared few each there row e =
    let inside = slice_get_within old.harts h s there in
    let middle : MachineView = with_both old h row.middle row.between in
    let got = put_got old.harts h row.middle inside in
    let last : RunsBoth middle (with_both middle h t shared) (Hart h ∷ []) =
    one_of middle h row.middle t shared few (rw length-set each) got row.last in
    record {
      quiet = row.quiet;
      middle = middle;
      state = row.middle;
      all = row.all;
      before = steps_of_machine old h s few each there row.quiet row.middle row.between row.before;
      same = row.same;
      last = rw e (subst (λ (l : List HartState). RunsBoth middle (record old { harts = l; shared = shared }) (Hart h ∷ []))
          (put_again old.harts h row.middle t) last);
      there = got;
      pc_is = row.pc_is;
      longer = rw e row.longer;
    }
