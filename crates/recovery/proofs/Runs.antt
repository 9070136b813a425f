-- Whole runs over two media.
use Rattle.std.proofs.Common.{◌≡◌, true, ℕ, zero, suc, ◌+◌, ◌-◌, ◌/◌, ◌%◌, ◌<◌, ◌≤◌, List, [], ◌∷◌, ◌++◌, length, take, is_some, slice_get, refl, sym, ap, ◌∙◌, inl, inr, arith, append_assoc}
use Rattle.std.specs.List.{AllByRecursion}
use Rattle.std.proofs.lemmas.Bool.{cases_lt}
use Rattle.std.proofs.lemmas.List.{append-nil, length-append, get_or_past}
use Rattle.std.proofs.lemmas.Option.{slice_get-get_or}
use Rattle.line_memory.specs.Lines.{AreLines, line_at, line_bytes}
use Rattle.line_memory.specs.Memory.{Memory}
use Rattle.line_memory.specs.Regions.{flat}
use Rattle.line_memory.specs.declared.TheConstants.{PERSISTENT_BASE}
use Rattle.line_memory.proofs.Flat.{flat_persistent, flat_ram}
use Rattle.program.specs.Sections.{Sections}
use Rattle.machine.specs.declared.schedule.items.Step.{Step}
use Rattle.machine.specs.declared.shared_memory.history.Entry.{Entry}
use Rattle.machine.specs.Replies.{memory_in, offset_of, starting_memory}
use Rattle.verdict.specs.Bytes.{has_byte}
use Rattle.machine.specs.Run.{Config, RunsTo, started}
use Rattle.machine.proofs.Determined.{steps_once}
use Rattle.recovery.specs.Asking.{AgreeOn, AreAsOne, asked}
use Rattle.verdict.specs.declared.branches.question.Question.{Question}
use Rattle.recovery.proofs.Memories.{AgreeAt, Alike, replayed_same}
use Rattle.recovery.proofs.Following.{Twins, memory_here, memory_there, twin_steps}

-- lists that agree in parts
pub all_front : {A : Type 0} (P : A → Type 0) (xs ys : List A) → AllByRecursion P (xs ++ ys) → AllByRecursion P xs
all_front P [] ys h = tt
all_front P (x ∷ xs) ys h = (h.0, all_front P xs ys h.1)

pub all_back : {A : Type 0} (P : A → Type 0) (xs ys : List A) → AllByRecursion P (xs ++ ys) → AllByRecursion P ys
all_back P [] ys h = h
all_back P (x ∷ xs) ys h = all_back P xs ys h.1

-- the first elements of a list that is long enough don't depend on what follows
take_front : (n : ℕ) (xs ys : List Question) → n ≤ length xs → take n (xs ++ ys) ≡ take n xs
take_front zero xs ys h = refl
take_front (suc n) [] ys h = absurd (omega arith)
take_front (suc n) (x ∷ xs) ys h = ap (λ (l : List Question). x ∷ l) (take_front n xs ys (omega arith))

-- among the first elements of a list is its front
all_taken : (P : Question → Type 0) (n : ℕ) (xs ys : List Question) → length xs ≤ n → AllByRecursion P (take n (xs ++ ys)) → AllByRecursion P xs
all_taken P n [] ys h all = tt
all_taken P zero (x ∷ xs) ys h all = absurd (omega arith)
all_taken P (suc n) (x ∷ xs) ys h all = (all.0, all_taken P n xs ys (omega arith) all.1)

-- what is asked only grows, at its end
pub record Grows (c d : Config) : Type 0 where
  pub more : List Question
  pub asks : asked d.common.history ≡ asked c.common.history ++ more

pub joined : (a b c x y : List Question) → b ≡ a ++ x → c ≡ b ++ y → c ≡ a ++ (x ++ y)
joined a b c x y e f = f ∙ ap (λ (l : List Question). l ++ y) e ∙ append_assoc a x y

-- a whole run, and that of the twin
pub record TwinRuns (m o : Memory) (c d : Config) (steps : List Step) (c2 : Config) : Type 0 where
  pub end : Config
  pub runs : RunsTo d steps end
  pub twins : Twins m o c2 end

-- a run is its own twin, so that what it asks grows
pub self_twins : (m o : Memory) (c d : Config) → Twins m o c d → Twins m m c c
self_twins m o c d twins = record {
  harts = refl;
  history = refl;
  first = twins.first;
  other = twins.first;
}

pub other_twins : (m o : Memory) (c d : Config) → Twins m o c d → Twins o o d d
other_twins m o c d twins = record {
  harts = refl;
  history = refl;
  first = twins.other;
  other = twins.other;
}

pub alike_self : (m : Memory) → Alike m m
alike_self m = record { below = λ a low. refl; there = λ a. refl }

pub agree_self : (m : Memory) (lines : List Question) → AllByRecursion (AgreeAt m m) lines
agree_self m [] = tt
agree_self m (q ∷ qs) = (λ a high line has. refl, agree_self m qs)

grown : (m : Memory) (c d : Config) (steps : List Step) → Twins m m c c → RunsTo c steps d → Grows c d
grown m c d [] twins x = record { more = []; asks = rw x (sym (append-nil (asked c.common.history))) }
grown m c d (step ∷ steps) twins x =
    let t = twin_steps m m c c step x.0 (alike_self m) twins x.1 in
    let now = t.follows.same (agree_self m t.follows.questions) in
    let rest = grown m x.0 d steps (self_twins m m x.0 t.end now) x.2 in record {
      more = t.follows.questions ++ rest.more;
      asks = joined (asked c.common.history) (asked x.0.common.history) (asked d.common.history) t.follows.questions rest.more t.follows.here rest.asks;
    }

pub twin_runs : (m o : Memory) (c d : Config) (steps : List Step) (c2 : Config) → Alike m o → Twins m o c d → RunsTo c steps c2
    → AllByRecursion (AgreeAt m o) (asked c2.common.history) → TwinRuns m o c d steps c2
twin_runs m o c d [] c2 alike twins x agree = record { end = d; runs = refl; twins = rw x twins }
twin_runs m o c d (step ∷ steps) c2 alike twins x agree =
    let t = twin_steps m o c d step x.0 alike twins x.1 in
    let u = twin_steps m m c c step x.0 (alike_self m) (self_twins m o c d twins) x.1 in
    let own = self_twins m m x.0 u.end (u.follows.same (agree_self m u.follows.questions)) in
    let rest = grown m x.0 c2 steps own x.2 in
    let all = rw rest.asks at agree in
    let seen = rw t.follows.here at (all_front (AgreeAt m o) (asked x.0.common.history) rest.more all) in
    let here = all_back (AgreeAt m o) (asked c.common.history) t.follows.questions seen in
    let n = twin_runs m o x.0 t.end steps c2 alike (t.follows.same here) x.2 agree in
    record { end = n.end; runs = (t.end, t.steps, n.runs); twins = n.twins }

-- the step that comes next where what was asked so far agrees
-- `past` is where enough was asked: what comes later doesn't count
take_past : (n : ℕ) (a b c x y : List Question) → n ≤ length a → b ≡ a ++ x → c ≡ a ++ y → take n c ≡ take n b
take_past n a b c x y h e f = rw (e, f) (take_front n a y h ∙ sym (take_front n a x h))

long_enough : (count : ℕ) (xs lines : List Question) (l : Question) → count ≤ length xs → count + 1 ≤ length (xs ++ (l ∷ lines))
long_enough count xs lines l h = let e = length-append xs (l ∷ lines) in omega arith

few_enough : (count : ℕ) (xs lines : List Question) → length xs < count → length lines ≤ 1 → length (xs ++ lines) ≤ count
few_enough count xs lines h few = let e = length-append xs lines in omega arith

-- by the questions of the step
pub next_step : (m o : Memory) (c c1 d1 c2 d2 : Config) (count : ℕ)
    → AllByRecursion (AgreeAt m o) (take count (asked c2.common.history))
    → (lines more others : List Question) → asked c1.common.history ≡ asked c.common.history ++ lines → asked d1.common.history ≡ asked c.common.history ++ lines
    → length lines ≤ 1 → (AllByRecursion (AgreeAt m o) lines → Twins m o c1 d1)
    → asked c2.common.history ≡ asked c1.common.history ++ more → asked d2.common.history ≡ asked d1.common.history ++ others
    → (Twins m o c1 d1 → take (count + 1) (asked d2.common.history) ≡ take (count + 1) (asked c2.common.history))
    → take (count + 1) (asked d2.common.history) ≡ take (count + 1) (asked c2.common.history)
next_step m o c c1 d1 c2 d2 count agree [] more others here there few same loads loads_other later = later (same tt)
next_step m o c c1 d1 c2 d2 count agree (l ∷ lines) more others here there few same loads loads_other later =
    elim (cases_lt (length (asked c.common.history)) count) [
      | inl short ↦
          let fits = few_enough count (asked c.common.history) (l ∷ lines) short few in
          let all = rw (loads, here) at agree in
          let seen = all_taken (AgreeAt m o) count (asked c.common.history ++ (l ∷ lines)) more fits all in
          later (same (all_back (AgreeAt m o) (asked c.common.history) (l ∷ lines) seen))
      | inr long ↦
          take_past (count + 1) (asked c.common.history ++ (l ∷ lines)) (asked c2.common.history) (asked d2.common.history) more others
          (long_enough count (asked c.common.history) lines l (omega (arith, long)))
          (loads ∙ ap (λ (front : List Question). front ++ more) here)
          (loads_other ∙ ap (λ (front : List Question). front ++ others) there)
    ]

pub next_after : (m o : Memory) (c d : Config) (steps : List Step) (c2 d2 : Config) (count : ℕ) → Alike m o → Twins m o c d
    → RunsTo c steps c2 → RunsTo d steps d2 → AllByRecursion (AgreeAt m o) (take count (asked c2.common.history))
    → take (count + 1) (asked d2.common.history) ≡ take (count + 1) (asked c2.common.history)
next_after m o c d [] c2 d2 count alike twins x y agree =
    rw (x, y) (ap (λ (history : List Entry). take (count + 1) (asked history)) twins.history)
next_after m o c d (step ∷ steps) c2 d2 count alike twins x y agree =
    let t = twin_steps m o c d step x.0 alike twins x.1 in
    let one : y.0 ≡ t.end = steps_once d step y.0 t.end y.1 t.steps in
    let there : asked y.0.common.history ≡ asked c.common.history ++ t.follows.questions =
    ap (λ (end : Config). asked end.common.history) one ∙ t.follows.there
    ∙ ap (λ (history : List Entry). asked history ++ t.follows.questions) twins.history in
    let same : AllByRecursion (AgreeAt m o) t.follows.questions → Twins m o x.0 y.0 = λ h. rw one (t.follows.same h) in
    let own = self_twins m o c d twins in
    let u = twin_steps m m c c step x.0 (alike_self m) own x.1 in
    let more = grown m x.0 c2 steps (self_twins m m x.0 u.end (u.follows.same (agree_self m u.follows.questions))) x.2 in
    let other = other_twins m o c d twins in
    let v = twin_steps o o d d step y.0 (alike_self o) other y.1 in
    let others = grown o y.0 d2 steps (self_twins o o y.0 v.end (v.follows.same (agree_self o v.follows.questions))) y.2 in
    next_step m o c x.0 y.0 c2 d2 count agree t.follows.questions more.more others.more t.follows.here there t.follows.few same more.asks others.asks
    (λ next. next_after m o x.0 y.0 steps c2 d2 count alike next x.2 y.2 agree)

-- two media at the start of a run
lines_there : (lines others : List (List ℕ)) (offset : ℕ) → AreLines lines → AreLines others → length others ≡ length lines
    → is_some (line_bytes others offset) ≡ is_some (line_bytes lines offset)
unfolding line_bytes
lines_there lines others offset whole each same = elim (cases_lt (offset / 64) (length lines)) [
  | inl low ↦
      let a = whole.whole (offset / 64) low in
      let b = each.whole (offset / 64) (omega arith) in
      rw (slice_get-get_or (line_at lines (offset / 64)) (offset % 64) 0 (omega arith), slice_get-get_or (line_at others (offset / 64)) (offset % 64) 0 (omega arith)) refl
  | inr high ↦ rw (get_or_past lines (offset / 64) [] (omega (arith, high)), get_or_past others (offset / 64) [] (omega (arith, high))) refl
]

there_above : (ram : Memory) (lines others : List (List ℕ)) (a offset : ℕ) → a ≡ PERSISTENT_BASE + offset → AreLines lines → AreLines others
    → length others ≡ length lines → is_some (flat ram (line_bytes others) a) ≡ is_some (flat ram (line_bytes lines) a)
there_above ram lines others a offset place whole each same =
    rw (place, flat_persistent ram (line_bytes others) offset, flat_persistent ram (line_bytes lines) offset) (lines_there lines others offset whole each same)

byte_above : (ram : Memory) (lines others : List (List ℕ)) (l a offset : ℕ) → a ≡ PERSISTENT_BASE + offset → offset / 64 ≡ l
    → slice_get (line_at others l) (offset % 64) ≡ slice_get (line_at lines l) (offset % 64) → flat ram (line_bytes others) a ≡ flat ram (line_bytes lines) a
unfolding line_bytes
byte_above ram lines others l a offset place here e =
    rw (place, flat_persistent ram (line_bytes others) offset, flat_persistent ram (line_bytes lines) offset, here) e

agree_above : (ram : Memory) (lines others : List (List ℕ)) (q : Question)
    → ((i : ℕ) → has_byte q.bytes i ≡ true → slice_get (line_at others q.line) i ≡ slice_get (line_at lines q.line) i)
    → AgreeAt (flat ram (line_bytes lines)) (flat ram (line_bytes others)) q
agree_above ram lines others q e = λ a high here has. byte_above ram lines others q.line a (a - PERSISTENT_BASE) (omega arith) here (e (offset_of a) has)

pub flat_alike : (ram : Memory) (lines others : List (List ℕ)) → AreLines lines → AreLines others → length others ≡ length lines
    → Alike (flat ram (line_bytes lines)) (flat ram (line_bytes others))
flat_alike ram lines others whole each same = record {
  below = λ a low. flat_ram ram (line_bytes others) a low ∙ sym (flat_ram ram (line_bytes lines) a low);
  there = λ a. elim (cases_lt a PERSISTENT_BASE) [
    | inl low ↦ rw (flat_ram ram (line_bytes others) a low, flat_ram ram (line_bytes lines) a low) refl
    | inr high ↦
        let place : a ≡ PERSISTENT_BASE + (a - PERSISTENT_BASE) = omega arith in
        there_above ram lines others a (a - PERSISTENT_BASE) place whole each same
  ];
}

pub flat_agree : (ram : Memory) (lines others : List (List ℕ)) (asked : List Question) → AgreeOn lines others asked
    → AllByRecursion (AgreeAt (flat ram (line_bytes lines)) (flat ram (line_bytes others))) asked
flat_agree ram lines others [] agree = tt
flat_agree ram lines others (q ∷ qs) agree = (agree_above ram lines others q agree.0, flat_agree ram lines others qs agree.1)

pub start_twins : (program : Sections) (lines others : List (List ℕ)) (harts : ℕ)
    → Twins (starting_memory program lines) (starting_memory program others) (started program lines harts) (started program others harts)
start_twins program lines others harts = record {
  harts = refl;
  history = refl;
  first = refl;
  other = refl;
}

below_same : (m o : Memory) (c d : Config) → Alike m o → Twins m o c d → (a : ℕ) → a < PERSISTENT_BASE → memory_in d.common a ≡ memory_in c.common a
below_same m o c d alike twins a low =
    ap (λ (memory : Memory). memory a) (memory_there m o c d twins)
    ∙ replayed_same m o c.common.history a (alike.below a low)
    ∙ ap (λ (memory : Memory). memory a) (sym (memory_here m o c d twins))

pub as_one : (m o : Memory) (c d : Config) → Alike m o → Twins m o c d → AreAsOne c d
as_one m o c d alike twins = record {
  harts = twins.harts;
  history = twins.history;
  memory = below_same m o c d alike twins;
}

pub next_asked : (program : Sections) (lines others : List (List ℕ)) (harts : ℕ) (steps : List Step) (d e : Config) (count : ℕ)
    → AreLines lines → AreLines others → length others ≡ length lines
    → RunsTo (started program lines harts) steps d → RunsTo (started program others harts) steps e
    → AgreeOn lines others (take count (asked d.common.history))
    → take (count + 1) (asked e.common.history) ≡ take (count + 1) (asked d.common.history)
next_asked program lines others harts steps d e count whole each same x y agree =
    next_after (starting_memory program lines) (starting_memory program others) (started program lines harts) (started program others harts) steps d e count
    (flat_alike _ lines others whole each same) (start_twins program lines others harts) x y
    (flat_agree _ lines others (take count (asked d.common.history)) agree)

pub runs_as_one : (program : Sections) (lines others : List (List ℕ)) (harts : ℕ) (steps : List Step) (d : Config)
    → AreLines lines → AreLines others → length others ≡ length lines
    → RunsTo (started program lines harts) steps d → AgreeOn lines others (asked d.common.history)
    → (e : Config) × RunsTo (started program others harts) steps e × AreAsOne d e
runs_as_one program lines others harts steps d whole each same x agree =
    let alike : Alike (starting_memory program lines) (starting_memory program others) = flat_alike _ lines others whole each same in
    let t = twin_runs (starting_memory program lines) (starting_memory program others) (started program lines harts) (started program others harts) steps d
    alike (start_twins program lines others harts) x (flat_agree _ lines others (asked d.common.history) agree) in
    (t.end, t.runs, as_one (starting_memory program lines) (starting_memory program others) d t.end alike t.twins)
