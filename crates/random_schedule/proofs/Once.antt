-- From one seed one schedule is drawn.
use Rattle.std.proofs.Common.{◌≡◌, ℕ, suc, ◌+◌, ◌-◌, ◌<◌, ◌≤◌, List, [], ◌∷◌, ◌++◌, Option, Some, None, true, length, replicate, slice_get, take, drop, refl, sym, ap, ◌∙◌, arith, inl, inr}
use Rattle.std.proofs.lemmas.Bool.{cases_lt}
use Rattle.std.proofs.lemmas.List.{replicate-append-replicate, take-append-drop}
use Rattle.std.proofs.Math.Seq.{take-length}
use Rattle.std.specs.Prelude.{◌⊎◌}
use Rattle.hart.specs.declared.state.HartState.{HartState}
use Rattle.hart.specs.declared.state.Status.{Status}
use Rattle.hart.specs.declared.state.Status.TheVariants.{Running}
use Rattle.machine.specs.Replies.{trace_in}
use Rattle.machine.specs.Run.{Config, RunsTo}
use Rattle.machine.specs.Represents.{IsRunning}
use Rattle.machine.specs.Stops.{has_stopped, is_stopped}
use Rattle.machine.proofs.Determined.{runs_once}
use Rattle.machine.proofs.RunParts.{run_joined, run_parted}
use Rattle.machine.specs.Steps.{all_steps}
use Rattle.machine.specs.declared.schedule.items.Item.{Item}
use Rattle.machine.specs.declared.schedule.items.Step.{Step}
use Rattle.machine.specs.declared.schedule.items.Step.TheVariants.{Hart}
use Rattle.random_schedule.specs.Drawing.{DrawsEviction, DrawsEvictions, DrawsSteps, IsDrawn, MakesUpTo, Stand, StoresFirstAt, TakesTurn, TakesTurns, drawn_steps, turn_steps}
use Rattle.random_schedule.specs.Evictions.{InTurn}
use Rattle.random_schedule.specs.Interleaves.{Interleaves, running, stored_lines}
use Rattle.random_schedule.specs.SplitMix.{below, next_state}
use Rattle.random_schedule.specs.Weaving.{with_evictions}
use Rattle.random_schedule.specs.declared.evictions.Eviction.{Eviction}
use Rattle.random_schedule.proofs.Runs.{runs_of}

some_once : (o : Option ℕ) (x y : ℕ) → o ≡ Some x → o ≡ Some y → x ≡ y
some_once o x y a b = let same : Some x ≡ Some y = sym a ∙ b in cc

interleaves_once : (c d e : Config) (steps : List Step) → Interleaves c steps d → Interleaves c steps e → d ≡ e
interleaves_once c d e steps a b = runs_once c steps d e (runs_of c d steps a) (runs_of c e steps b)

parted : (c e : Config) (xs ys : List Step) → Interleaves c (xs ++ ys) e → (d : Config) × Interleaves c xs d × Interleaves d ys e
parted c e [] ys run = (c, refl, run)
parted c e (x ∷ xs) ys run = let rest = parted run.0 e xs ys run.3 in (rest.0, (run.0, run.1, run.2, rest.1), rest.2)

-- a hart that runs hasn't stopped
not_stopped : (status : Status) → status ≡ Running → has_stopped status ≡ true → ⊥
not_stopped status runs stopped = let no : has_stopped Running ≡ true = rw runs at stopped in cc

not_both : (hart : Option HartState) → IsRunning hart → is_stopped hart ≡ true → ⊥
not_both None runs stopped = absurd runs
not_both (Some s) runs stopped = not_stopped s.status runs stopped

-- a turn has one end
fewer_not : (c d e : Config) (h count m n : ℕ) → MakesUpTo c h count m d → MakesUpTo c h count n e → m < n → ⊥
fewer_not c d e h count m n a b less =
    let few = b.few in
    elim a.all [
      | inl all ↦ absurd (omega arith)
      | inr stopped ↦
          let rest : ℕ = n - m - 1 in
          let sum : m + suc rest ≡ n = omega arith in
          let steps : replicate m (Hart h) ++ replicate (suc rest) (Hart h) ≡ replicate n (Hart h) =
          replicate-append-replicate m (suc rest) (Hart h) ∙ ap (λ (k : ℕ). replicate k (Hart h)) sum in
          let parts = parted c e (replicate m (Hart h)) (replicate (suc rest) (Hart h)) (rw (← steps) at b.runs) in
          let same : parts.0 ≡ d = interleaves_once c parts.0 d (replicate m (Hart h)) parts.1 a.runs in
          let goes : IsRunning (slice_get d.harts h) = rw same at parts.2.1 in
          not_both (slice_get d.harts h) goes stopped
    ]

made_once : (c d e : Config) (h count m n : ℕ) → MakesUpTo c h count m d → MakesUpTo c h count n e → m ≡ n
made_once c d e h count m n a b = elim (cases_lt m n) [
  | inl less ↦ absurd (fewer_not c d e h count m n a b less)
  | inr more ↦ elim (cases_lt n m) [
    | inl less ↦ absurd (fewer_not c e d h count n m b a less)
    | inr few ↦ omega arith
  ]
]

stand_same : (q r : Stand) → q.config ≡ r.config → q.state ≡ r.state → q.left ≡ r.left → q ≡ r
stand_same q r a b c =
    ap (λ (x : Config). let s : Stand = record { config = x; state = q.state; left = q.left } in s) a
    ∙ ap (λ (n : ℕ). let s : Stand = record { config = r.config; state = n; left = q.left } in s) b
    ∙ ap (λ (n : ℕ). let s : Stand = record { config = r.config; state = r.state; left = n } in s) c

record SameTurn (h g m n : ℕ) (q r : Stand) : Type 0 where
  pub hart : h ≡ g
  pub made : m ≡ n
  pub stand : q ≡ r

turn_once : (p q r : Stand) (h g m n : ℕ) → TakesTurn p h m q → TakesTurn p g n r → SameTurn h g m n q r
turn_once p q r h g m n a b =
    let count : ℕ = drawn_steps (next_state p.state) p.left in
    let hart : h ≡ g = some_once (slice_get (running p.config.harts) (below (length (running p.config.harts)) p.state)) h g a.hart b.hart in
    let makes : MakesUpTo p.config h count n r.config = rw (← hart) at b.makes in
    let made : m ≡ n = made_once p.config q.config r.config h count m n a.makes makes in
    let config : q.config ≡ r.config =
    interleaves_once p.config q.config r.config (replicate n (Hart h)) (rw made at a.makes.runs) makes.runs in
    let left : q.left ≡ r.left = let x = a.left in let y = b.left in omega arith in
    record { hart = hart; made = made; stand = stand_same q r config (a.state ∙ sym b.state) left }

abbrev IsOver : Stand → Type 0
IsOver p = (running p.config.harts ≡ []) ⊎ (p.left ≡ 0)

not_over : (p q : Stand) (h m : ℕ) → TakesTurn p h m q → IsOver p → ⊥
not_over p q h m turn over = elim over [
  | inl none ↦ let no : None ≡ Some h = rw none at turn.hart in cc
  | inr zero_left ↦ let some = turn.some in absurd (omega arith)
]

record SameTurns (xs ys : List (ℕ × ℕ)) (q r : Stand) : Type 0 where
  pub turns : xs ≡ ys
  pub stand : q ≡ r

turns_once : (p q r : Stand) (xs ys : List (ℕ × ℕ)) → TakesTurns p xs q → TakesTurns p ys r → IsOver q → IsOver r → SameTurns xs ys q r
turns_once p q r [] [] a b over end = record { turns = refl; stand = a ∙ sym b }
turns_once p q r [] (y ∷ ys) a b over end = absurd (not_over p b.0 y.0 y.1 b.1 (rw a at over))
turns_once p q r (x ∷ xs) [] a b over end = absurd (not_over p a.0 x.0 x.1 a.1 (rw b at end))
turns_once p q r (x ∷ xs) (y ∷ ys) a b over end =
    let first = turn_once p a.0 b.0 x.0 y.0 x.1 y.1 a.1 b.1 in
    let rest = turns_once b.0 q r xs ys (rw first.stand at a.2) b.2 over end in
    let turn : x ≡ y = ap (λ (n : ℕ). let t : ℕ × ℕ = (n, x.1) in t) first.hart ∙ ap (λ (n : ℕ). let t : ℕ × ℕ = (y.0, n) in t) first.made in
    record {
      turns = ap (λ (t : ℕ × ℕ). t ∷ xs) turn ∙ ap (λ (ts : List (ℕ × ℕ)). y ∷ ts) rest.turns;
      stand = rest.stand;
    }

record SameSteps (xs ys : List Step) (q r : Stand) : Type 0 where
  pub steps : xs ≡ ys
  pub stand : q ≡ r

steps_once : (c : Config) (seed limit : ℕ) (xs ys : List Step) (q r : Stand) → DrawsSteps c seed limit xs q → DrawsSteps c seed limit ys r → SameSteps xs ys q r
steps_once c seed limit xs ys q r a b =
    let same = turns_once (record { config = c; state = seed; left = limit }) q r a.turns b.turns a.taken b.taken a.over b.over in
    record { steps = a.made ∙ ap (λ (turns : List (ℕ × ℕ)). turn_steps turns) same.turns ∙ sym b.made; stand = same.stand }

-- evictions
eviction_once : (c : Config) (steps : List Step) (first state : ℕ) (e f : Eviction) → DrawsEviction c steps first state e → DrawsEviction c steps first state f → e ≡ f
eviction_once c steps first state e f a b =
    let step : e.step ≡ f.step = a.step ∙ sym b.step in
    let runs : RunsTo c (take f.step steps) a.there = rw step at a.runs in
    let there : a.there ≡ b.there = runs_once c (take f.step steps) a.there b.there runs b.runs in
    let lines : List ℕ = stored_lines (trace_in b.there.common) in
    let line : e.line ≡ f.line = some_once (slice_get lines (below (length lines) (next_state state))) e.line f.line (rw there at a.line) b.line in
    ap (λ (n : ℕ). let x : Eviction = record { step = n; line = e.line } in x) step ∙ ap (λ (n : ℕ). let x : Eviction = record { step = f.step; line = n } in x) line

in_turn_once : (c : Config) (steps : List Step) (first state l m : ℕ) (es fs : List Eviction) → length es ≡ length fs
    → InTurn (DrawsEviction c steps first) state es l → InTurn (DrawsEviction c steps first) state fs m → es ≡ fs
in_turn_once c steps first state l m [] [] same a b = refl
in_turn_once c steps first state l m [] (f ∷ fs) same a b = absurd (omega arith)
in_turn_once c steps first state l m (e ∷ es) [] same a b = absurd (omega arith)
in_turn_once c steps first state l m (e ∷ es) (f ∷ fs) same a b =
    let one = eviction_once c steps first state e f a.0 b.0 in
    let rest = in_turn_once c steps first (next_state (next_state state)) l m es fs (omega arith) a.1 b.1 in
    ap (λ (x : Eviction). x ∷ es) one ∙ ap (λ (xs : List Eviction). f ∷ xs) rest

first_by : (c end : Config) (steps : List Step) (n m : ℕ) → RunsTo c steps end → StoresFirstAt c steps n → StoresFirstAt c steps m → m ≤ n
first_by c end steps n m runs a b =
    let whole : RunsTo c (take n steps ++ drop n steps) end = rw (take-append-drop n steps) runs in
    let there = run_parted c end (take n steps) (drop n steps) whole in
    let stored = (a.1 n there.0 a.0 there.1).0 (omega arith) in
    (b.1 n there.0 a.0 there.1).1 stored

stored_at_end : (c end : Config) (steps : List Step) (n : ℕ) → RunsTo c steps end → StoresFirstAt c steps n → stored_lines (trace_in end.common) ≡ [] → ⊥
stored_at_end c end steps n runs a none =
    let some = (a.1 (length steps) end (omega arith) (rw (take-length steps) runs)).0 a.0 in
    let zero_lines = ap (λ (l : List ℕ). length l) none in
    absurd (omega arith)

evictions_once : (c : Config) (steps : List Step) (end : Stand) (count : ℕ) (es fs : List Eviction) → RunsTo c steps end.config
    → DrawsEvictions c steps end count es → DrawsEvictions c steps end count fs → es ≡ fs
evictions_once c steps end count es fs runs (inl a) (inl b) = a.1 ∙ sym b.1
evictions_once c steps end count es fs runs (inl a) (inr b) = absurd (stored_at_end c end.config steps b.0 runs b.2 a.0)
evictions_once c steps end count es fs runs (inr a) (inl b) = absurd (stored_at_end c end.config steps a.0 runs a.2 b.0)
evictions_once c steps end count es fs runs (inr a) (inr b) =
    let less = first_by c end.config steps a.0 b.0 runs a.2 b.2 in
    let more = first_by c end.config steps b.0 a.0 runs b.2 a.2 in
    let first : b.0 ≡ a.0 = omega arith in
    in_turn_once c steps a.0 end.state a.1 b.1 es fs (a.4 ∙ sym b.4) a.3 (rw first at b.3)

-- the steps of a draw are a run
turns_run : (p q : Stand) (turns : List (ℕ × ℕ)) → TakesTurns p turns q → RunsTo p.config (turn_steps turns) q.config
turns_run p q [] taken = ap (λ (s : Stand). s.config) taken
turns_run p q (turn ∷ turns) taken =
    run_joined p.config taken.0.config q.config (replicate turn.1 (Hart turn.0)) (turn_steps turns)
    (runs_of p.config taken.0.config (replicate turn.1 (Hart turn.0)) taken.1.makes.runs) (turns_run taken.0 q turns taken.2)

draw_runs : (c : Config) (seed limit : ℕ) (steps : List Step) (end : Stand) → DrawsSteps c seed limit steps end → RunsTo c steps end.config
draw_runs c seed limit steps end draws =
    rw draws.made (turns_run (record { config = c; state = seed; left = limit }) end draws.turns draws.taken)

pub drawn_once : (c : Config) (seed limit count : ℕ) (one other : List Item) → IsDrawn c seed limit count one → IsDrawn c seed limit count other
    → all_steps one ≡ all_steps other
drawn_once c seed limit count one other a b =
    let same = steps_once c seed limit a.steps b.steps a.end b.end a.turns b.turns in
    let runs = draw_runs c seed limit b.steps b.end b.turns in
    let evicts : DrawsEvictions c b.steps b.end count a.evictions = rw (same.steps, same.stand) at a.evicts in
    let evictions : a.evictions ≡ b.evictions = evictions_once c b.steps b.end count a.evictions b.evictions runs evicts b.evicts in
    a.woven
    ∙ ap (λ (es : List Eviction). with_evictions 0 es a.steps) evictions
    ∙ ap (λ (steps : List Step). with_evictions 0 b.evictions steps) same.steps
    ∙ sym b.woven
