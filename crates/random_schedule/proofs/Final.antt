-- The schedule that is drawn is one of a whole run.
use Rattle.std.proofs.Common.{◌≡◌, ℕ, zero, suc, ◌+◌, ◌-◌, ◌<◌, ◌≤◌, true, false, List, [], ◌∷◌, ◌++◌, Some, length, take, drop, get_or, slice_get, refl, sym, ap, ◌∙◌, arith, eqb, leb, inl, inr, add-zero, zero-add, map}
use Rattle.std.proofs.lemmas.Bool.{cases_lt, lt-leb}
use Rattle.std.proofs.lemmas.Bool.Decides.{nat_tests}
use Rattle.std.proofs.lemmas.List.{take-append-drop}
use Rattle.std.proofs.lemmas.Nat.{mod_below}
use Rattle.std.proofs.lemmas.List.Elements.{All-cons, All-filter, All-head, All-nil, All-weaker, filter_passes}
use Rattle.std.proofs.lemmas.Option.{get_or_from_slice_get, slice_get_within}
use Rattle.std.proofs.Math.Seq.{take-length}
use Rattle.std.specs.Prelude.{All, Contains, ◌⊎◌, ◌==◌, if◌then◌else◌}
use Rattle.std.specs.List.Sorted.{IsNonDecreasingBy}
use Rattle.hart.specs.declared.state.HartState.{HartState}
use Rattle.machine.specs.Replies.{trace_in}
use Rattle.machine.specs.Run.{Config, RunsTo}
use Rattle.machine.specs.Represents.{MachineView, Represents}
use Rattle.machine.proofs.Determined.{runs_once}
use Rattle.machine.proofs.Evicting.{alike_itself, trace_alike}
use Rattle.machine.proofs.RunParts.{run_parted}
use Rattle.machine.specs.Grammar.{hart_steps}
use Rattle.machine.specs.Steps.{all_steps}
use Rattle.machine.specs.declared.schedule.items.Item.{Item}
use Rattle.machine.specs.declared.schedule.items.Step.{Step}
use Rattle.random_schedule.specs.Drawing.{DrawsEviction, DrawsEvictions, IsDrawn, Stand, StoresFirstAt, turn_steps}
use Rattle.random_schedule.specs.Evictions.{BeginsAt, Draws, InTurn, stored_by}
use Rattle.random_schedule.specs.Interleaves.{IsWhole, running, stored_lines}
use Rattle.random_schedule.specs.Making.{Agrees, AreFirstStores, HasDrawn, HasTaken, MakingView}
use Rattle.random_schedule.specs.SplitMix.{below, next_state, number}
use Rattle.random_schedule.specs.Weaving.{those_after, with_evictions}
use Rattle.random_schedule.specs.declared.evictions.Eviction.{Eviction}
use Rattle.random_schedule.specs.declared.evictions.FirstStore.{FirstStore}
use Rattle.random_schedule.proofs.Drawn.{first_stored}
use Rattle.random_schedule.proofs.Filters.{filter_none}
use Rattle.random_schedule.proofs.Lengths.{woven_length}
use Rattle.random_schedule.proofs.Runs.{runs_of}
use Rattle.random_schedule.proofs.Weaves.{counted, counted_all}
use Rattle.random_schedule.proofs.Woven.{AreStored, counted_front, counted_woven, front_again, woven_runs}

-- at the start nothing is made
first_none : (k : ℕ) (c d : Config) → k ≤ 0 → RunsTo c (take k []) d → d ≡ c
first_none zero c d few runs = runs
first_none (suc k) c d few runs = absurd (omega arith)

starts : (machine : MachineView) (c : Config) → machine.shared.trace ≡ [] → Represents machine c → trace_in c.common ≡ []
starts machine c none stands = sym stands.shared.trace ∙ none

agrees_none : (machine : MachineView) → Agrees (record { machine = machine; items = []; made = 0; stores = [] })
agrees_none machine = record {
  count = refl;
  ascending = λ i j d less inside. absurd (omega arith);
  within = All-nil (λ (s : FirstStore). s.step ≤ 0);
}

pub has_begun : (machine : MachineView) (c : Config) (seed limit : ℕ) → machine.shared.trace ≡ [] → Represents machine c
    → HasTaken c seed limit (record { machine = machine; items = []; made = 0; stores = [] }) seed
has_begun machine c seed limit none stands = record {
  turns = [];
  end = c;
  left = limit;
  taken = refl;
  made = record {
    runs = refl;
    represents = stands;
    items = refl;
    made = refl;
    stores = λ k d few runs. rw (first_none k c d few runs, starts machine c none stands) refl;
    agrees = agrees_none machine;
  };
  all = add-zero limit;
}

-- at the end a schedule is drawn
ends_by : (harts others : List HartState) (left made limit : ℕ) → harts ≡ others → left + made ≡ limit
    → (running harts ≡ []) ⊎ (made ≡ limit) → (running others ≡ []) ⊎ (left ≡ 0)
ends_by harts others left made limit e all over = elim over [
  | inl none ↦ inl (rw e at none)
  | inr last ↦ inr (omega arith)
]

pub has_drawn : (m : MakingView) (c : Config) (seed limit state : ℕ) → trace_in c.common ≡ [] → HasTaken c seed limit m state
    → (running m.machine.harts ≡ []) ⊎ (m.made ≡ limit) → HasDrawn c seed limit m.items m.made m.stores state
has_drawn m c seed limit state begins has over = record {
  steps = turn_steps has.turns;
  end = record { config = has.end; state = state; left = has.left };
  begins = begins;
  drawn = record {
    turns = has.turns;
    taken = has.taken;
    made = refl;
    over = ends_by m.machine.harts has.end.harts has.left m.made limit has.made.represents.harts has.all over;
  };
  state_is = refl;
  runs = has.made.runs;
  all = has.made.items;
  count = has.made.made;
  harts = has.made.agrees.count;
  left = has.all;
  first = has.made.stores;
  ascending = has.made.agrees.ascending;
  within = has.made.agrees.within;
}

-- by which step a line is stored
past_all : (s : FirstStore) (rest : List FirstStore) (k : ℕ) → IsNonDecreasingBy (λ (s : FirstStore). s.step) (s ∷ rest) → k < s.step
    → stored_by k (s ∷ rest) ≡ []
past_all s rest k rises later =
    let none : All (λ (x : FirstStore). leb x.step k ≡ false) (s ∷ rest) = λ j d inside.
    let first : s.step ≤ (get_or (s ∷ rest) j d).step = rises 0 j d (omega arith) inside in
    lt-leb (get_or (s ∷ rest) j d).step k (omega arith) in
    ap (λ (stores : List FirstStore). map (λ (x : FirstStore). x.line) stores) (filter_none (λ (x : FirstStore). leb x.step k) (s ∷ rest) none)

stores_first : (c : Config) (steps : List Step) (s : FirstStore) (rest : List FirstStore) → AreFirstStores c steps (s ∷ rest)
    → IsNonDecreasingBy (λ (s : FirstStore). s.step) (s ∷ rest) → s.step ≤ length steps → StoresFirstAt c steps s.step
stores_first c steps s rest first rises fits = (
  fits,
  λ k d inside runs.
      let is = first k d inside runs in
      let there : s.step ≤ k → 0 < length (stored_by k (s ∷ rest)) = λ less. first_stored (s ∷ rest) s.step k refl less in
      let back : 0 < length (stored_by k (s ∷ rest)) → s.step ≤ k = λ some. elim (cases_lt k s.step) [
        | inl later ↦ let none = ap (λ (l : List ℕ). length l) (past_all s rest k rises later) in absurd (omega arith)
        | inr made ↦ made
      ] in
      rw is (there, back),
)

-- an eviction that is drawn from first stores
below_bound : (bound state : ℕ) → 0 < bound → below bound state < bound
below_bound bound state some = mod_below (number state) bound some

draws_there : (c end : Config) (steps : List Step) (stores : List FirstStore) (first made state : ℕ) (e : Eviction) → RunsTo c steps end
    → made ≡ length steps → first ≤ made → AreFirstStores c steps stores → Draws stores first made state e → DrawsEviction c steps first state e
draws_there c end steps stores first made state e runs count fits are drawn =
    let less = below_bound (made - first + 1) state (omega arith) in
    let step = drawn.step in
    let within : e.step ≤ length steps = omega arith in
    let whole : RunsTo c (take e.step steps ++ drop e.step steps) end = rw (take-append-drop e.step steps) runs in
    let parts = run_parted c end (take e.step steps) (drop e.step steps) whole in
    let lines = are e.step parts.0 within parts.1 in
    record {
      step = rw count at drawn.step;
      within = within;
      there = parts.0;
      runs = parts.1;
      line = rw lines drawn.line;
    }

in_turn_weaker : (P Q : ℕ → Eviction → Type 0) (state last : ℕ) (evictions : List Eviction) → ((s : ℕ) (e : Eviction) → P s e → Q s e)
    → InTurn P state evictions last → InTurn Q state evictions last
in_turn_weaker P Q state last [] weaker all = all
in_turn_weaker P Q state last (e ∷ evictions) weaker all =
    (weaker state e all.0, in_turn_weaker P Q (next_state (next_state state)) last evictions weaker all.1)

pub evicts_drawn : (c : Config) (seed limit count state last made : ℕ) (items : List Item) (stores : List FirstStore) (evictions : List Eviction)
    → (has : HasDrawn c seed limit items made stores state) → (stores ≡ [] → evictions ≡ [])
    → ((first : ℕ) → BeginsAt stores first → InTurn (Draws stores first made) state evictions last × (length evictions ≡ count))
    → DrawsEvictions c has.steps has.end count evictions
evicts_drawn c seed limit count state last made items [] evictions has none drawn =
    let e : Config = has.end.config in
    inl ((has.first (length has.steps) e (omega arith) (rw (take-length has.steps) (runs_of c e has.steps has.runs))), none refl)
evicts_drawn c seed limit count state last made items (s ∷ rest) evictions has none drawn =
    let e : Config = has.end.config in
    let all = drawn s.step refl in
    let fits : s.step ≤ made = All-head (λ (x : FirstStore). x.step ≤ made) s rest has.within in
    inr (
      s.step,
      last,
      stores_first c has.steps s rest has.first has.ascending (let count = has.count in omega arith),
      rw has.state_is (in_turn_weaker (Draws (s ∷ rest) s.step made) (DrawsEviction c has.steps s.step) state last evictions
          (λ st x d. draws_there c e has.steps (s ∷ rest) s.step made st x (runs_of c e has.steps has.runs) has.count fits has.first d) all.0),
      all.1,
    )

-- each eviction is of a line that was stored by its step
in_turn_all : (P : ℕ → Eviction → Type 0) (state last : ℕ) (evictions : List Eviction) → InTurn P state evictions last
    → All (λ (e : Eviction). (s : ℕ) × P s e) evictions
in_turn_all P state last [] all = All-nil (λ (e : Eviction). (s : ℕ) × P s e)
in_turn_all P state last (e ∷ evictions) all =
    All-cons (λ (e : Eviction). (s : ℕ) × P s e) e evictions (state, all.0) (in_turn_all P (next_state (next_state state)) last evictions all.1)

contains_at : (lines : List ℕ) (i line : ℕ) → slice_get lines i ≡ Some line → Contains lines line
contains_at lines i line got = (i, slice_get_within lines i line got, get_or_from_slice_get lines i line line got)

equal_step : (a b : ℕ) → eqb a b ≡ true → a ≡ b
equal_step a b h = grind (arith, nat_tests, h)

are_stored : (c : Config) (steps : List Step) (first : ℕ) (evictions : List Eviction) → counted 0 steps ≡ length steps
    → All (λ (e : Eviction). (s : ℕ) × DrawsEviction c steps first s e) evictions → AreStored c 0 steps evictions
are_stored c steps first evictions harts all k d runs j x inside =
    let at : ℕ = counted 0 (take k steps) in
    let here : List Eviction = those_after at evictions in
    let e : Eviction = get_or here j x in
    let P : Eviction → Type 0 = λ e. (s : ℕ) × DrawsEviction c steps first s e in
    let drawn : P e = All-filter (λ (e : Eviction). eqb e.step at) P evictions all j x inside in
    let is : e.step ≡ at = equal_step e.step at (filter_passes (λ (e : Eviction). eqb e.step at) evictions j x inside) in
    let front : take e.step steps ≡ take k steps = ap (λ (n : ℕ). take n steps) (is ∙ counted_front steps k harts) ∙ front_again steps k in
    let same : drawn.1.there ≡ d = runs_once c (take k steps) drawn.1.there d (rw front at drawn.1.runs) runs in
    rw same at (contains_at (stored_lines (trace_in drawn.1.there.common)) _ e.line drawn.1.line)

-- what is made of a machine at its start
pub all_made : (machine : MachineView) (old new : MakingView) (start state limit : ℕ) (items : List Item) (made : ℕ) (stores : List FirstStore)
    → old ≡ record { machine = machine; items = []; made = 0; stores = [] } → machine.shared.trace ≡ []
    → ((c : Config) (seed : ℕ) → HasTaken c seed limit old start → HasTaken c seed limit new state)
    → (running new.machine.harts ≡ []) ⊎ (new.made ≡ limit) → items ≡ new.items → made ≡ new.made → stores ≡ new.stores
    → (c : Config) → Represents machine c → HasDrawn c start limit items made stores state
all_made machine old new start state limit items made stores e none taken over i m s c stands =
    let begun : HasTaken c start limit old start = rw e (has_begun machine c start limit none stands) in
    rw (i, m, s) (has_drawn new c start limit state (starts machine c none stands) (taken c start begun) over)

pub all_agree : (machine : MachineView) (old new : MakingView) → old ≡ record { machine = machine; items = []; made = 0; stores = [] }
    → (Agrees old → Agrees new) → Agrees new
all_agree machine old new e agrees = agrees (rw e (agrees_none machine))

-- the schedule that is drawn
pub is_drawn : (c : Config) (seed limit count state last made : ℕ) (items woven : List Item) (stores : List FirstStore) (evictions : List Eviction)
    → HasDrawn c seed limit items made stores state → (stores ≡ [] → evictions ≡ [])
    → ((first : ℕ) → BeginsAt stores first → InTurn (Draws stores first made) state evictions last × (length evictions ≡ count))
    → all_steps woven ≡ with_evictions 0 evictions (all_steps items) → IsDrawn c seed limit count woven
is_drawn c seed limit count state last made items woven stores evictions has none drawn steps = record {
  steps = has.steps;
  end = has.end;
  evictions = evictions;
  turns = has.drawn;
  evicts = evicts_drawn c seed limit count state last made items stores evictions has none drawn;
  woven = rw has.all at steps;
}

-- it is that of a whole run
first_later : (c : Config) (steps : List Step) (first : ℕ) → trace_in c.common ≡ [] → StoresFirstAt c steps first → 0 < first
first_later c steps first begins at = elim (cases_lt 0 first) [
  | inl later ↦ later
  | inr low ↦
      let some = (at.1 0 c (omega arith) refl).0 (omega arith) in
      let none : length (stored_lines (trace_in c.common)) ≡ 0 = rw begins refl in
      absurd (omega arith)
]

not_zero : (n : ℕ) → 0 < n → (n == 0) ≡ false
not_zero n some = grind (arith, nat_tests, some)

-- what the evictions come to: where they are, of which lines, and how many
record Comes (c : Config) (steps : List Step) (end : Config) (count : ℕ) (evictions : List Eviction) : Type 0 where
  pub stored : AreStored c 0 steps evictions
  pub after : All (λ (e : Eviction). 0 < e.step) evictions
  pub within : All (λ (e : Eviction). e.step ≤ length steps) evictions
  pub some : length evictions ≡ (if length (stored_lines (trace_in end.common)) == 0 then 0 else count)

comes_none : (c end : Config) (steps : List Step) (count : ℕ) (evictions : List Eviction) → stored_lines (trace_in end.common) ≡ [] → evictions ≡ []
    → Comes c steps end count evictions
comes_none c end steps count evictions none e = rw e (record {
  stored = λ k d runs. All-nil (λ (e : Eviction). Contains (stored_lines (trace_in d.common)) e.line);
  after = All-nil (λ (e : Eviction). 0 < e.step);
  within = All-nil (λ (e : Eviction). e.step ≤ length steps);
  some = rw none refl;
})

comes_some : (c end : Config) (steps : List Step) (state last first count : ℕ) (evictions : List Eviction) → counted 0 steps ≡ length steps
    → trace_in c.common ≡ [] → RunsTo c steps end → StoresFirstAt c steps first → InTurn (DrawsEviction c steps first) state evictions last
    → length evictions ≡ count → Comes c steps end count evictions
comes_some c end steps state last first count evictions harts begins runs at turns number =
    let P : Eviction → Type 0 = λ e. (s : ℕ) × DrawsEviction c steps first s e in
    let all : All P evictions = in_turn_all (DrawsEviction c steps first) state last evictions turns in
    let one = first_later c steps first begins at in
    let there = (at.1 (length steps) end (omega arith) (rw (take-length steps) runs)).0 at.0 in
    let not_none : (length (stored_lines (trace_in end.common)) == 0) ≡ false = not_zero (length (stored_lines (trace_in end.common))) there in
    record {
      stored = are_stored c steps first evictions harts all;
      after = All-weaker P (λ (e : Eviction). 0 < e.step) (λ e drawn. let is = drawn.1.step in omega arith) evictions all;
      within = All-weaker P (λ (e : Eviction). e.step ≤ length steps) (λ e drawn. drawn.1.within) evictions all;
      some = rw not_none number;
    }

comes : (c : Config) (steps : List Step) (end : Stand) (count : ℕ) (evictions : List Eviction) → counted 0 steps ≡ length steps
    → trace_in c.common ≡ [] → RunsTo c steps end.config → DrawsEvictions c steps end count evictions → Comes c steps end.config count evictions
comes c steps end count evictions harts begins runs draws = elim draws [
  | inl none ↦ comes_none c end.config steps count evictions none.0 none.1
  | inr some ↦ comes_some c end.config steps end.state some.1 some.0 count evictions harts begins runs some.2 some.3 some.4
]

whole_by : (harts others : List HartState) (left made count limit : ℕ) → harts ≡ others → left + made ≡ limit → count ≡ made
    → (running harts ≡ []) ⊎ (left ≡ 0) → (running others ≡ []) ⊎ (count ≡ limit)
whole_by harts others left made count limit e all c over = elim over [
  | inl none ↦ inl (rw e at none)
  | inr last ↦ inr (omega arith)
]

pub is_whole : (c : Config) (seed limit count state last made : ℕ) (items woven : List Item) (stores : List FirstStore) (evictions : List Eviction)
    → HasDrawn c seed limit items made stores state → (stores ≡ [] → evictions ≡ [])
    → ((first : ℕ) → BeginsAt stores first → InTurn (Draws stores first made) state evictions last × (length evictions ≡ count))
    → all_steps woven ≡ with_evictions 0 evictions (all_steps items) → IsWhole c limit count woven
is_whole c seed limit count state last made items woven stores evictions has none drawn made_of =
    let steps : List Step = has.steps in
    let is : all_steps woven ≡ with_evictions 0 evictions steps = rw has.all at made_of in
    let draws = evicts_drawn c seed limit count state last made items stores evictions has none drawn in
    let few = has.count in
    let same = has.harts in
    let left = has.left in
    let number : counted 0 steps ≡ hart_steps items = sym (ap (λ (s : List Step). counted 0 s) has.all) ∙ counted_all 0 items ∙ zero-add (hart_steps items) in
    let harts : counted 0 steps ≡ length steps = omega arith in
    let come = comes c steps has.end count evictions harts has.begins (runs_of c has.end.config steps has.runs) draws in
    let run = woven_runs c c has.end.config 0 steps evictions (alike_itself c) has.runs come.stored in
    let woven_number : hart_steps woven ≡ counted 0 steps =
    sym (counted_all 0 woven ∙ zero-add (hart_steps woven)) ∙ ap (λ (s : List Step). counted 0 s) is ∙ counted_woven 0 steps evictions in
    let long : length (all_steps woven) ≡ length steps + length evictions =
    ap (λ (s : List Step). length s) is ∙ woven_length 0 evictions steps come.after (rw harts come.within) in
    let some : length evictions ≡ (if length (stored_lines (trace_in run.last.common)) == 0 then 0 else count) = rw (trace_alike has.end.config run.last run.alike) at come.some in
    record {
      end = run.last;
      runs = rw is run.runs;
      within = omega arith;
      whole = whole_by has.end.config.harts run.last.harts has.end.left made (hart_steps woven) limit run.alike.harts has.left (omega arith) has.drawn.over;
      evictions = long ∙ ap (λ (n : ℕ). length steps + n) some ∙ ap (λ (n : ℕ). n + (if length (stored_lines (trace_in run.last.common)) == 0 then 0 else count)) (sym (woven_number ∙ harts));
    }
