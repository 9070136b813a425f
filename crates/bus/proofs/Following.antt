-- How the harts of seats are run once more, in the order of a core's history.
use Rattle.std.proofs.Common.{◌≡◌, ◌≢◌, ℕ, zero, suc, ◌+◌, ◌<◌, ◌≤◌, List, [], ◌∷◌, ◌++◌, Some, Bool, MatchBool, true, false, not, eqb, length, replicate, reverse, slice_get, slice_set, slice_index_or, take, refl, sym, ap, subst, ◌∙◌, inl, inr, arith}
use Rattle.std.proofs.lemmas.Bool.{cases_Bool, cases_eq, eq-eqb, ne_eqb}
use Rattle.std.proofs.lemmas.List.{length-reverse, reverse-append, reverse-reverse, take_all, take_more}
use Rattle.std.proofs.lemmas.Option.{get_or_from_slice_get, slice_get_read, slice_get_within}
use Rattle.isa_table.specs.declared.instruction.Instr.{Instr}
use Rattle.hart.specs.Effect.{answered}
use Rattle.hart.specs.Needs.{IsSpelledBy}
use Rattle.hart.specs.declared.state.HartState.{HartState}
use Rattle.hart.specs.declared.state.Status.TheVariants.{Running}
use Rattle.hart.specs.declared.need.Need.{Need}
use Rattle.hart.specs.declared.need.Need.TheVariants.{Ask}
use Rattle.hart.specs.declared.need.Request.{Request}
use Rattle.hart.specs.declared.need.Reply.{Reply}
use Rattle.line_memory.specs.Memory.{Memory}
use Rattle.machine.proofs.Determined.{needs_once}
use Rattle.machine.specs.Run.{fetched}
use Rattle.machine.specs.Represents.{text_bytes}
use Rattle.machine.specs.declared.schedule.items.Step.{Step}
use Rattle.machine.specs.declared.schedule.items.Step.TheVariants.{Hart, Evict}
use Rattle.machine.specs.Histories.{fetched_text, is_renewing, replayed, text_of}
use Rattle.machine.specs.Replies.{starting_memory}
use Rattle.machine.specs.declared.shared_memory.history.Entry.{Entry}
use Rattle.machine.specs.declared.shared_memory.history.Entry.TheVariants.{Asked, Evicted}
use Rattle.bus.specs.declared.exchange.Exchange.{Exchange}
use Rattle.bus.specs.declared.follower.Follower.{Follower}
use Rattle.bus.specs.Agreeing.{Exchanges, IsPart}
use Rattle.bus.specs.Alone.{Asks, GoesAlone, IsAsking, LeavesAlone, StepsAlone}
use Rattle.bus.specs.Following.{AreGathered, ArePaired, Follows, IsFollowed, MakesAgain, hart_count, made_of, oldest, steps_of_all}
use Rattle.bus.specs.Gathered.{gathered}
use Rattle.bus.specs.Replays.{CoreView}
use Rattle.bus.specs.Seats.{SeatView, steps_in}
use Rattle.bus.specs.Together.{count_of}
use Rattle.bus.proofs.Agreeing.{copy_passes, own_part, passes}
use Rattle.bus.proofs.Places.{got_else, got_set, read_else, read_set, set_got, set_set}

-- a hart that has stopped, or that asks, makes no step alone
pub stopped_stays : (text : Memory) (s t : HartState) → s.status ≢ Running → StepsAlone text s t → ⊥
stopped_stays text s t stopped step = stopped step.running

pub asking_stays : (text : Memory) (s t : HartState) (request : Request) → Asks text s request → StepsAlone text s t → ⊥
asking_stays text s t request asks step =
    let same : step.need ≡ Ask request = needs_once s (fetched text s.pc) step.need (Ask request) step.needs asks.needs in
    subst (λ (need : Need). LeavesAlone s need t) same step.leaves

pub step_decided : (b : Bool) (text : Memory) (s t : HartState)
    → MatchBool b (StepsAlone text s t) ((t ≡ s) × ((request : Request) × Asks text s request))
    → MatchBool b (StepsAlone text s t) ((u : HartState) → StepsAlone text s u → ⊥)
step_decided true text s t step = step
step_decided false text s t asks = λ u step. asking_stays text s u asks.1.0 asks.1.1 step

pub asking_decided : (b : Bool) (text : Memory) (s t : HartState)
    → MatchBool b (StepsAlone text s t) ((t ≡ s) × ((request : Request) × Asks text s request))
    → MatchBool (not b) (IsAsking text s) (IsAsking text s → ⊥)
asking_decided true text s t step = λ asking. asking_stays text s t asking.0 asking.1 step
asking_decided false text s t asks = asks.1

-- the oldest of a list with one more
pub oldest_more : (n : ℕ) (xs : List Exchange) (x : Exchange) → slice_get (reverse xs) n ≡ Some x → oldest (n + 1) xs ≡ x ∷ oldest n xs
oldest_more n xs x got =
    let inside = slice_get_within (reverse xs) n x got in
    let first : take (n + 1) (reverse xs) ≡ take n (reverse xs) ++ x ∷ [] =
    take_more (reverse xs) n x inside ∙ ap (λ (y : Exchange). take n (reverse xs) ++ y ∷ []) (get_or_from_slice_get (reverse xs) n x x got) in
    ap reverse first ∙ reverse-append (take n (reverse xs)) (x ∷ [])

pub oldest_all : (n : ℕ) (xs : List Exchange) → n ≡ length xs → oldest n xs ≡ xs
oldest_all n xs whole =
    let fits : length (reverse xs) ≤ n = omega (arith, length-reverse xs, whole) in
    ap reverse (take_all n (reverse xs) fits) ∙ reverse-reverse xs

-- the pieces of an exchange that is made again
pub makes_again : (old new : CoreView) (seat : SeatView) (before after : Follower) (request : Request) (reply : Reply) (x : Exchange) (at : HartState)
    (instr : Instr) → slice_get (reverse seat.exchanges) before.next ≡ Some x → x.request ≡ request → x.reply ≡ reply
    → GoesAlone (text_bytes before.copy) x.steps before.state at
    → Asks (text_bytes before.copy) at request → IsSpelledBy (fetched (text_bytes before.copy) at.pc) instr
    → new ≡ record old { shared = new.shared; history = Asked seat.hart request reply ∷ old.history }
    → text_bytes new.shared.ram.text ≡ text_of (replayed (starting_memory old.program old.start) new.history)
    → after.next ≡ before.next + 1 → after.state ≡ answered at instr reply
    → (is_renewing request ≡ true → after.copy ≡ new.shared.ram.text) → (is_renewing request ≡ false → after.copy ≡ before.copy)
    → MakesAgain old new seat before after request reply
makes_again old new seat before after request reply x at instr there asked told alone asks spelled core text next state renewed kept =
    record {
      first = x;
      there = there;
      asked = asked;
      told = told;
      next = next;
      exchanges = record {
        at = at;
        alone = alone;
        asks = rw asked asks;
        instr = instr;
        spelled = spelled;
        answered = state ∙ ap (λ (r : Reply). answered at instr r) (sym told);
      };
      core = core;
      renewed = λ renews. ap (λ (bytes : List ℕ). text_bytes bytes) (renewed renews) ∙ text;
      kept = kept;
    }

-- what was made again
made_more : (old new : CoreView) (seat : SeatView) (before after : Follower) (request : Request) (reply : Reply)
    → (m : MakesAgain old new seat before after request reply) → made_of seat after ≡ m.first ∷ made_of seat before
made_more old new seat before after request reply m =
    ap (λ (n : ℕ). oldest n seat.exchanges) m.next ∙ oldest_more before.next seat.exchanges m.first m.there

-- the copy of the hart that asked
follower_copy : (initial : Memory) (h : ℕ) (request : Request) (reply : Reply) (history : List Entry) (old new : List ℕ)
    → text_bytes old ≡ fetched_text initial h history
    → (is_renewing request ≡ true → text_bytes new ≡ text_of (replayed initial (Asked h request reply ∷ history)))
    → (is_renewing request ≡ false → new ≡ old) → text_bytes new ≡ fetched_text initial h (Asked h request reply ∷ history)
follower_copy initial h request reply history old new was renewed kept = elim (cases_Bool (is_renewing request)) [
  | inl renews ↦ rw (renews, eq-eqb h h refl) (renewed renews)
  | inr not ↦ rw (not, kept not) was
]

-- the follower of the hart that asked
follows_own : (old new : CoreView) (seat : SeatView) (before after : Follower) (request : Request) (reply : Reply)
    → MakesAgain old new seat before after request reply → Follows old seat before → Follows new seat after
follows_own old new seat before after request reply m f =
    let initial : Memory = starting_memory old.program old.start in
    let h : ℕ = seat.hart in
    let x : Exchange = m.first in
    let more : made_of seat after ≡ x ∷ made_of seat before = made_more old new seat before after request reply m in
    let inside : before.next < length seat.exchanges =
    omega (arith, length-reverse seat.exchanges, slice_get_within (reverse seat.exchanges) before.next x m.there) in
    let next = m.next in
    let place : after.next ≤ length seat.exchanges = omega (arith, inside, next) in
    let exchanges : Exchanges (fetched_text initial h old.history) before.state x after.state =
    subst (λ (text : Memory). Exchanges text before.state x after.state) f.copy m.exchanges in
    let own : IsPart initial h (Asked h x.request x.reply ∷ old.history) (x ∷ made_of seat before) after.state =
    own_part initial h old.history x (made_of seat before) before.state after.state f.part exchanges in
    let part : IsPart initial h (Asked h request reply ∷ old.history) (made_of seat after) after.state = rw (more, ← m.asked, ← m.told) own in
    let now : text_of (replayed initial new.history) ≡ text_of (replayed initial (Asked h request reply ∷ old.history)) =
    ap (λ (core : CoreView). text_of (replayed initial core.history)) m.core in
    let copy : text_bytes after.copy ≡ fetched_text initial h (Asked h request reply ∷ old.history) =
    follower_copy initial h request reply old.history before.copy after.copy f.copy (λ renews. m.renewed renews ∙ now) m.kept in
    rw m.core (record { place = place; part = part; copy = copy })

-- those of the others
follows_passed : (old new : CoreView) (h : ℕ) (request : Request) (reply : Reply) (seat : SeatView) (f : Follower)
    → new ≡ record old { shared = new.shared; history = Asked h request reply ∷ old.history } → seat.hart ≢ h
    → Follows old seat f → Follows new seat f
follows_passed old new h request reply seat f core apart follows =
    let initial : Memory = starting_memory old.program old.start in
    let differs : eqb h seat.hart ≡ false = ne_eqb h seat.hart (λ e. apart (sym e)) in
    rw core (record {
      place = follows.place;
      part = passes initial seat.hart h request reply old.history (made_of seat f) f.state differs follows.part;
      copy = follows.copy ∙ sym (copy_passes initial seat.hart h request reply old.history differs);
    })

follows_evicted : (old new : CoreView) (line : ℕ) (seat : SeatView) (f : Follower)
    → new ≡ record old { shared = new.shared; history = Evicted line ∷ old.history } → Follows old seat f → Follows new seat f
follows_evicted old new line seat f core follows =
    rw core (record { place = follows.place; part = follows.part; copy = follows.copy })

some_same : (A : Type 0) (a b : A) → Some a ≡ Some b → a ≡ b
some_same A a b e = cc

-- how many steps there are
pub count_append : (h : ℕ) (xs ys : List Step) → count_of h (xs ++ ys) ≡ count_of h xs + count_of h ys
unfolding count_of
count_append h [] ys = omega arith
count_append h (Hart g ∷ xs) ys = elim (cases_Bool (eqb g h)) [
  | inl same ↦ rw same (let rest = count_append h xs ys in omega (arith, rest))
  | inr not ↦ rw not (count_append h xs ys)
]
count_append h (Evict line ∷ xs) ys = count_append h xs ys

pub count_own : (h n : ℕ) → count_of h (replicate n (Hart h)) ≡ n
unfolding count_of
count_own h zero = refl
count_own h (suc n) = rw (eq-eqb h h refl) (ap suc (count_own h n))

pub count_other : (h g n : ℕ) → eqb g h ≡ false → count_of h (replicate n (Hart g)) ≡ 0
unfolding count_of
count_other h g zero other = refl
count_other h g (suc n) other = rw other (count_other h g n other)

count_one : (h : ℕ) → count_of h (Hart h ∷ []) ≡ 1
unfolding count_of
count_one h = rw (eq-eqb h h refl) refl

count_none : (h g : ℕ) → eqb g h ≡ false → count_of h (Hart g ∷ []) ≡ 0
unfolding count_of
count_none h g other = rw other refl

count_eviction : (h line : ℕ) → count_of h (Evict line ∷ []) ≡ 0
unfolding count_of
count_eviction h line = refl

pub total_append : (xs ys : List Step) → hart_count (xs ++ ys) ≡ hart_count xs + hart_count ys
total_append [] ys = omega arith
total_append (Hart h ∷ xs) ys = let rest = total_append xs ys in omega (arith, rest)
total_append (Evict line ∷ xs) ys = total_append xs ys

pub total_replicate : (n h : ℕ) → hart_count (replicate n (Hart h)) ≡ n
total_replicate zero h = refl
total_replicate (suc n) h = let rest = total_replicate n h in omega (arith, rest)

-- the steps of one exchange
exchange_own : (h n : ℕ) → count_of h (replicate n (Hart h) ++ Hart h ∷ []) ≡ n + 1
exchange_own h n = count_append h (replicate n (Hart h)) (Hart h ∷ []) ∙ rw (count_own h n, count_one h) refl

exchange_other : (h g n : ℕ) → eqb g h ≡ false → count_of h (replicate n (Hart g) ++ Hart g ∷ []) ≡ 0
exchange_other h g n other =
    count_append h (replicate n (Hart g)) (Hart g ∷ []) ∙ rw (count_other h g n other, count_none h g other) refl

pub exchange_total : (n h : ℕ) → hart_count (replicate n (Hart h) ++ Hart h ∷ []) ≡ n + 1
exchange_total n h = total_append (replicate n (Hart h)) (Hart h ∷ []) ∙ ap (λ (k : ℕ). k + 1) (total_replicate n h)

steps_set : (lists : List (List Exchange)) (h : ℕ) (x : Exchange) (xs : List Exchange) → slice_get lists h ≡ Some xs
    → steps_of_all (slice_set lists h (x ∷ xs)) ≡ steps_of_all lists + (x.steps + 1)
steps_set [] h x xs got = absurd (cc)
steps_set (l ∷ lists) zero x xs got =
    let same : l ≡ xs = cc in rw same (omega arith)
steps_set (l ∷ lists) (suc h) x xs got = let rest = steps_set lists h x xs got in omega (arith, rest)

pub gathered_asked : (history : List Entry) (lists : List (List Exchange)) (steps : List Step) (h : ℕ) (request : Request) (reply : Reply) (x : Exchange)
    (xs : List Exchange) → slice_get lists h ≡ Some xs → AreGathered history lists steps
    → AreGathered (Asked h request reply ∷ history) (slice_set lists h (x ∷ xs)) (steps ++ (replicate x.steps (Hart h) ++ Hart h ∷ []))
unfolding gathered
gathered_asked history lists steps h request reply x xs got a =
    let inside = slice_get_within lists h xs got in
    let added : List Step = replicate x.steps (Hart h) ++ Hart h ∷ [] in
    let is : slice_index_or lists h [] ≡ xs = get_or_from_slice_get lists h xs [] got in
    record {
      steps_are = rw (read_set lists h (x ∷ xs) [] inside, set_set lists h (x ∷ xs) xs, set_got lists h xs got)
          (ap (λ (l : List Step). l ++ added) a.steps_are);
      made = λ k. elim (cases_eq k h) [
        | inl here ↦
            let before = a.made h in
            let own = exchange_own h x.steps in
            let sum = count_append h steps added in
            let read = ap steps_in is in
            rw (here, read_set lists h (x ∷ xs) [] inside) (omega (arith, before, own, sum, read))
        | inr apart ↦
            let before = a.made k in
            let none = exchange_other k h x.steps (ne_eqb h k (λ e. apart (sym e))) in
            let sum = count_append k steps added in
            rw (read_else lists h k (x ∷ xs) [] apart) (omega (arith, before, none, sum))
      ];
      total =
          let before = a.total in
          let own = exchange_total x.steps h in
          let sum = total_append steps added in
          let more = steps_set lists h x xs got in
          omega (arith, before, own, sum, more);
    }

pub gathered_evicted : (history : List Entry) (lists : List (List Exchange)) (steps : List Step) (line : ℕ) → AreGathered history lists steps
    → AreGathered (Evicted line ∷ history) lists (steps ++ Evict line ∷ [])
unfolding gathered
gathered_evicted history lists steps line a = record {
  steps_are = ap (λ (l : List Step). l ++ Evict line ∷ []) a.steps_are;
  made = λ k.
      let before = a.made k in
      let none = count_eviction k line in
      let sum = count_append k steps (Evict line ∷ []) in
      omega (arith, before, none, sum);
  total =
      let before = a.total in
      let sum = total_append steps (Evict line ∷ []) in
      omega (arith, before, sum);
}

-- an entry that was made again
pub asked_followed : (old new : CoreView) (seats : List SeatView) (before after : List Follower) (h : ℕ) (request : Request) (reply : Reply)
    (seat : SeatView) (f g : Follower) → ArePaired old.harts seats before → h < old.harts
    → seat ≡ slice_index_or seats h seat → f ≡ slice_index_or before h f → after ≡ slice_set before h g
    → MakesAgain old new seat f g request reply → IsFollowed old new seats before after (Asked h request reply)
asked_followed old new seats before after h request reply seat f g paired inside seat_is f_is set m =
    let count = paired.count in
    let also = paired.paired in
    let in_seats : h < length seats = omega (arith, inside, count) in
    let in_before : h < length before = omega (arith, inside, count, also) in
    let got : slice_get seats h ≡ Some seat = slice_get_read seats (length seats) h seat refl in_seats seat_is in
    let there : slice_get before h ≡ Some f = slice_get_read before (length before) h f refl in_before f_is in
    let number : seat.hart ≡ h = paired.numbered h seat got in
    let core : new ≡ record old { shared = new.shared; history = Asked h request reply ∷ old.history } =
    m.core ∙ ap (λ (k : ℕ). record old { shared = new.shared; history = Asked k request reply ∷ old.history }) number in
    record {
      core = core;
      follow = λ all_follow k s e seat_got e_got. elim (cases_eq k h) [
        | inl here ↦
            let is : seat ≡ s = some_same SeatView seat s (sym got ∙ ap (λ (i : ℕ). slice_get seats i) (sym here) ∙ seat_got) in
            let too : g ≡ e = some_same Follower g e (sym (got_set before h g in_before) ∙ ap (λ (l : List Follower). slice_get l h) (sym set)
            ∙ ap (λ (i : ℕ). slice_get after i) (sym here) ∙ e_got) in
            rw (← is, ← too) (follows_own old new seat f g request reply m (all_follow h seat f got there))
        | inr apart ↦
            let was : slice_get before k ≡ Some e = sym (got_else before h k g apart) ∙ ap (λ (l : List Follower). slice_get l k) (sym set) ∙ e_got in
            let differs : s.hart ≢ h = λ same. apart (sym (paired.numbered k s seat_got) ∙ same) in
            follows_passed old new h request reply s e core differs (all_follow k s e seat_got was)
      ];
    }

pub evicted_followed : (old new : CoreView) (seats : List SeatView) (fs : List Follower) (line : ℕ)
    → new ≡ record old { shared = new.shared; history = Evicted line ∷ old.history } → IsFollowed old new seats fs fs (Evicted line)
evicted_followed old new seats fs line core = record {
  core = core;
  follow = λ all_follow k s f got there. follows_evicted old new line s f core (all_follow k s f got there);
}
