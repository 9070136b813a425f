-- A whole history that is made again, from its start to its end.
use Rattle.std.proofs.Common.{◌≡◌, ℕ, zero, suc, ◌+◌, ◌-◌, ◌*◌, ◌<◌, ◌≤◌, List, [], ◌∷◌, ◌++◌, Some, length, map, replicate, reverse, slice_get, slice_index_or, take, refl, sym, ap, subst, ◌∙◌, inl, inr, append_assoc, arith}
use Rattle.std.proofs.lemmas.Bool.{cases_eq, ne_eqb}
use Rattle.std.proofs.lemmas.List.{get_or-reverse, length-reverse, length-take, reverse-append, take_all, take_more}
use Rattle.std.proofs.lemmas.List.FromFn.{length-map-range_with_len}
use Rattle.std.proofs.lemmas.List.Sums.{sum_by-cons}
use Rattle.std.proofs.lemmas.Option.{slice_get-get_or, slice_get_read, slice_get_within}
use Rattle.std.specs.List.{range_with_len}
use Rattle.program.specs.Sections.{Sections}
use Rattle.hart.specs.declared.state.HartState.{HartState}
use Rattle.line_memory.specs.Lines.{line_bytes}
use Rattle.line_memory.specs.Memory.{Memory}
use Rattle.machine.proofs.Copying.{text_there}
use Rattle.machine.specs.Represents.{text_bytes}
use Rattle.machine.specs.Grammar.{hart_steps, steps_in as steps_in_item}
use Rattle.machine.specs.Steps.{all_steps}
use Rattle.machine.specs.declared.schedule.items.Item.{Item}
use Rattle.machine.specs.declared.schedule.items.Item.TheVariants as items_of
use Rattle.machine.specs.declared.schedule.items.Step.{Step}
use Rattle.machine.specs.declared.schedule.items.Step.TheVariants.{Hart}
use Rattle.machine.specs.Histories.{fetched_text, text_of}
use Rattle.machine.specs.Replies.{starting_memory}
use Rattle.machine.specs.SharedView.{lines_shown}
use Rattle.machine.specs.declared.shared_memory.history.Entry.{Entry}
use Rattle.machine.specs.declared.shared_memory.history.Entry.TheVariants.{Asked, Evicted}
use Rattle.bus.specs.declared.exchange.Exchange.{Exchange}
use Rattle.bus.specs.declared.follower.Follower.{Follower}
use Rattle.bus.specs.Agreeing.{Agrees, IsPart}
use Rattle.bus.specs.Alone.{GoesAlone}
use Rattle.bus.specs.Finished.{AllAgree, last_steps}
use Rattle.bus.specs.Following.{AllEnd, AllFollow, AreGathered, ArePaired, EndsAt, Follows, HaveFollowed, IsFollowed, IsFreshOf, IsScheduleOf, follower_at_start, hart_count, steps_of_all}
use Rattle.bus.specs.Replays.{AreBelow, CoreView, IsReplay, replay}
use Rattle.bus.specs.Seats.{AreCounted, SeatView, steps_in}
use Rattle.bus.specs.Together.{count_of}
use Rattle.bus.proofs.Following.{count_append, count_other, count_own, oldest_all, total_append, total_replicate}
use Rattle.bus.proofs.Places.{there_is}

pub append_nothing : (xs : List Step) → xs ≡ xs ++ []
append_nothing [] = refl
append_nothing (x ∷ xs) = ap (λ (l : List Step). x ∷ l) (append_nothing xs)

index_same : (xs : List Entry) (i : ℕ) (d e : Entry) → i < length xs → slice_index_or xs i d ≡ slice_index_or xs i e
index_same [] i d e less = absurd (omega (arith, less))
index_same (x ∷ xs) zero d e less = refl
index_same (x ∷ xs) (suc i) d e less = index_same xs i d e (omega (arith, less))

pub entry_is : (xs : List Entry) (i : ℕ) (d : Entry) → i < length xs → slice_index_or xs i d ≡ slice_index_or xs i (slice_index_or xs i d)
entry_is xs i d less = index_same xs i d (slice_index_or xs i d) less

-- the loop over a history
pub followed_none : (old : CoreView) (seats : List SeatView) (fs : List Follower) (history : List Entry) → old.history ≡ []
    → HaveFollowed old old seats fs fs (reverse (take 0 history))
followed_none old seats fs history none = record {
  core = ap (λ (l : List Entry). record old { shared = old.shared; history = l }) none;
  follow = λ follow. follow;
}

pub followed_one : (old middle new : CoreView) (seats : List SeatView) (fs gs hs : List Follower) (history : List Entry) (i : ℕ) (d : Entry)
    → i < length history → HaveFollowed old middle seats fs gs (reverse (take i history))
    → IsFollowed middle new seats gs hs (slice_index_or history i d) → HaveFollowed old new seats fs hs (reverse (take (i + 1) history))
followed_one old middle new seats fs gs hs history i d inside before one =
    let entry : Entry = slice_index_or history i d in
    let is : entry ≡ slice_index_or history i entry = entry_is history i d inside in
    let more : entry ∷ reverse (take i history) ≡ reverse (take (i + 1) history) =
    ap (λ (e : Entry). e ∷ reverse (take i history)) is ∙ sym (reverse-append (take i history) (slice_index_or history i entry ∷ []))
    ∙ ap reverse (sym (take_more history i entry inside)) in
    record {
      core = one.core ∙ ap (λ (c : CoreView). record c { shared = new.shared; history = entry ∷ c.history }) before.core
          ∙ ap (λ (l : List Entry). record old { shared = new.shared; history = l }) more;
      follow = λ follow. one.follow (before.follow follow);
    }

pub followed_all : (old new : CoreView) (seats : List SeatView) (fs gs : List Follower) (history : List Entry) (i : ℕ)
    → length history ≤ i → HaveFollowed old new seats fs gs (reverse (take i history)) → HaveFollowed old new seats fs gs (reverse history)
followed_all old new seats fs gs history i whole f =
    subst (λ (l : List Entry). HaveFollowed old new seats fs gs (reverse l)) (take_all i history whole) f

pub paired_still : (old new : CoreView) (seats : List SeatView) (fs gs : List Follower) (history : List Entry)
    → ArePaired old.harts seats fs → HaveFollowed old new seats fs gs history → length gs ≡ length fs → ArePaired new.harts seats gs
paired_still old new seats fs gs history p f size = record {
  count = p.count ∙ sym (ap (λ (c : CoreView). c.harts) f.core);
  paired = size ∙ p.paired;
  numbered = p.numbered;
}

below_each : (n : ℕ) (l : List Entry) (k : ℕ) (e : Entry) → AreBelow n l → slice_get l k ≡ Some e → AreBelow n (e ∷ [])
below_each n [] k e below got = absurd (cc)
below_each n (Asked h request reply ∷ l) zero e below got =
    let same : Asked h request reply ≡ e = cc in
    subst (λ (x : Entry). AreBelow n (x ∷ [])) same (below.0, tt)
below_each n (Evicted line ∷ l) zero e below got =
    let same : Evicted line ≡ e = cc in
    subst (λ (x : Entry). AreBelow n (x ∷ [])) same tt
below_each n (Asked h request reply ∷ l) (suc k) e below got = below_each n l k e below.1 got
below_each n (Evicted line ∷ l) (suc k) e below got = below_each n l k e below got

pub below_there : (n : ℕ) (history : List Entry) (i : ℕ) (d : Entry) → i < length history → AreBelow n (reverse history)
    → AreBelow n (slice_index_or history i d ∷ [])
below_there n history i d inside below =
    let entry : Entry = slice_index_or history i d in
    let is : entry ≡ slice_index_or history i entry = entry_is history i d inside in
    let size = length-reverse history in
    let k : ℕ = length history - 1 - i in
    let in_history : k < length history = omega (arith, inside) in
    let in_reverse : k < length (reverse history) = omega (arith, inside, size) in
    let back : length history - 1 - k ≡ i = omega (arith, inside) in
    let read : slice_index_or (reverse history) k entry ≡ entry =
    get_or-reverse history k entry in_history ∙ ap (λ (j : ℕ). slice_index_or history j entry) back ∙ sym is in
    let got : slice_get (reverse history) k ≡ Some entry =
    slice_get-get_or (reverse history) k entry in_reverse ∙ ap (λ (e : Entry). Some e) read in
    below_each n (reverse history) k entry below got

pub below_at : (old new : CoreView) (seats : List SeatView) (fs gs : List Follower) (part history : List Entry) (i : ℕ) (d : Entry)
    → i < length history → AreBelow old.harts (reverse history) → HaveFollowed old new seats fs gs part
    → AreBelow new.harts (slice_index_or history i d ∷ [])
below_at old new seats fs gs part history i d inside below f =
    subst (λ (n : ℕ). AreBelow n (slice_index_or history i d ∷ [])) (sym (ap (λ (c : CoreView). c.harts) f.core)) (below_there old.harts history i d inside below)

-- the last steps
last_more : (h : ℕ) (xs : List SeatView) (s : SeatView) → last_steps h (xs ++ s ∷ []) ≡ last_steps h xs ++ replicate s.since (Hart (h + length xs))
unfolding last_steps
last_more h [] s =
    let place : h ≡ h + 0 = omega arith in
    sym (append_nothing (replicate s.since (Hart h))) ∙ ap (λ (k : ℕ). replicate s.since (Hart k)) place
last_more h (x ∷ xs) s =
    let place : h + 1 + length xs ≡ h + suc (length xs) = omega arith in
    ap (λ (l : List Step). replicate x.since (Hart h) ++ l) (last_more (h + 1) xs s)
    ∙ sym (append_assoc (replicate x.since (Hart h)) (last_steps (h + 1) xs) (replicate s.since (Hart (h + 1 + length xs))))
    ∙ ap (λ (k : ℕ). (replicate x.since (Hart h) ++ last_steps (h + 1) xs) ++ replicate s.since (Hart k)) place

pub last_added : (n : ℕ) (seats : List SeatView) (seat : SeatView) (steps mids all : List Step)
    → ((h : ℕ) (s : SeatView) → slice_get seats h ≡ Some s → s.hart ≡ h) → n < length seats → seat ≡ slice_index_or seats n seat
    → mids ≡ steps ++ last_steps 0 (take n seats) → all ≡ mids ++ replicate seat.since (Hart seat.hart)
    → all ≡ steps ++ last_steps 0 (take (n + 1) seats)
last_added n seats seat steps mids all numbered inside seat_is before added =
    let got : slice_get seats n ≡ Some seat = slice_get_read seats (length seats) n seat refl inside seat_is in
    let more : take (n + 1) seats ≡ take n seats ++ seat ∷ [] =
    take_more seats n seat inside ∙ ap (λ (s : SeatView). take n seats ++ s ∷ []) (sym seat_is) in
    let size : 0 + length (take n seats) ≡ n = omega (arith, inside, length-take n seats) in
    let place : 0 + length (take n seats) ≡ seat.hart = size ∙ sym (numbered n seat got) in
    let last : last_steps 0 (take (n + 1) seats) ≡ last_steps 0 (take n seats) ++ replicate seat.since (Hart seat.hart) =
    ap (λ (l : List SeatView). last_steps 0 l) more ∙ last_more 0 (take n seats) seat
    ∙ ap (λ (k : ℕ). last_steps 0 (take n seats) ++ replicate seat.since (Hart k)) place in
    added ∙ ap (λ (l : List Step). l ++ replicate seat.since (Hart seat.hart)) before
    ∙ append_assoc steps (last_steps 0 (take n seats)) (replicate seat.since (Hart seat.hart)) ∙ ap (λ (l : List Step). steps ++ l) (sym last)

pub ended_none : (seats : List SeatView) (fs : List Follower) → AllEnd 0 seats fs
ended_none seats fs h seat f less got there = absurd (omega (arith, less))

pub ended_one : (n : ℕ) (seats : List SeatView) (fs : List Follower) (seat : SeatView) (f : Follower)
    → length fs ≡ length seats → n < length seats → seat ≡ slice_index_or seats n seat → f ≡ slice_index_or fs n f
    → AllEnd n seats fs → EndsAt seat f → AllEnd (n + 1) seats fs
ended_one n seats fs seat f paired inside seat_is f_is before ends h s g less s_got g_got =
    let also : n < length fs = omega (arith, inside, paired) in
    let got : slice_get seats n ≡ Some seat = slice_get_read seats (length seats) n seat refl inside seat_is in
    let there : slice_get fs n ≡ Some f = slice_get_read fs (length fs) n f refl also f_is in
    elim (cases_eq h n) [
      | inl here ↦
          let one : Some seat ≡ Some s = sym got ∙ ap (λ (i : ℕ). slice_get seats i) (sym here) ∙ s_got in
          let two : Some f ≡ Some g = sym there ∙ ap (λ (i : ℕ). slice_get fs i) (sym here) ∙ g_got in
          let is : seat ≡ s = cc in
          let too : f ≡ g = cc in
          rw (← is, ← too) ends
      | inr apart ↦ before h s g (omega (arith, less, apart)) s_got g_got
    ]

pub ended_all : (n : ℕ) (seats : List SeatView) (fs : List Follower) → n ≡ length seats → AllEnd n seats fs → AllEnd (length seats) seats fs
ended_all n seats fs whole h = subst (λ (k : ℕ). AllEnd k seats fs) whole h

-- followers at the start
follower_at : (f : ℕ → Follower) (k n i : ℕ) (g : Follower) → slice_get (map f (range_with_len k n)) i ≡ Some g → g ≡ f (k + i)
follower_at f k zero i g got = absurd (cc)
follower_at f k (suc n) zero g got =
    let same : f k ≡ g = cc in sym same ∙ ap f (omega arith)
follower_at f k (suc n) (suc i) g got = follower_at f (k + 1) n i g got ∙ ap f (omega arith)

followers_map : (f : ℕ → Follower) (k n : ℕ) → map f (range_with_len k (suc n)) ≡ map f (range_with_len k n) ++ f (k + n) ∷ []
followers_map f k zero = ap (λ (j : ℕ). f j ∷ []) (omega arith)
followers_map f k (suc n) =
    let place : k + 1 + n ≡ k + suc n = omega arith in
    ap (λ (t : List Follower). f k ∷ t) (followers_map f (k + 1) n ∙ ap (λ (j : ℕ). map f (range_with_len (k + 1) n) ++ f j ∷ []) place)

pub followers_more : (text : List ℕ) (n : ℕ) (xs ys : List Follower) (f : Follower) → xs ≡ map (follower_at_start text) (range_with_len 0 n)
    → ys ≡ xs ++ f ∷ [] → f ≡ follower_at_start text n → ys ≡ map (follower_at_start text) (range_with_len 0 (n + 1))
followers_more text n xs ys f before added is =
    let g : ℕ → Follower = follower_at_start text in
    let count : suc n ≡ n + 1 = omega arith in
    let last : f ≡ g (0 + n) = is ∙ ap g (omega arith) in
    added ∙ ap (λ (l : List Follower). l ++ f ∷ []) before ∙ ap (λ (x : Follower). map g (range_with_len 0 n) ++ x ∷ []) last
    ∙ sym (followers_map g 0 n) ∙ ap (λ (k : ℕ). map g (range_with_len 0 k)) count

pub text_at_start : (core : CoreView) → IsReplay core.program core.start core.history core.shared → core.history ≡ []
    → text_bytes core.shared.ram.text ≡ text_of (starting_memory core.program core.start)
unfolding replay
text_at_start core is none =
    let memory = is.shows.memory in
    text_there core.shared.ram (line_bytes (lines_shown core.shared)) ∙ ap (λ (m : Memory). text_of m) (rw none at memory)

pub paired_at_start : (harts : ℕ) (text : List ℕ) (seats : List SeatView) (fs : List Follower) → length seats ≡ harts
    → ((h : ℕ) (s : SeatView) → slice_get seats h ≡ Some s → s.hart ≡ h)
    → fs ≡ map (follower_at_start text) (range_with_len 0 harts) → ArePaired harts seats fs
paired_at_start harts text seats fs count numbered are = record {
  count = count;
  paired = ap (λ (l : List Follower). length l) are ∙ length-map-range_with_len (follower_at_start text) 0 harts ∙ sym count;
  numbered = numbered;
}

follow_at_start : (core : CoreView) (seats : List SeatView) (fs : List Follower) → IsReplay core.program core.start core.history core.shared
    → core.history ≡ [] → ((h : ℕ) (s : SeatView) → slice_get seats h ≡ Some s → s.hart ≡ h)
    → fs ≡ map (follower_at_start core.shared.ram.text) (range_with_len 0 core.harts) → AllFollow core seats fs
follow_at_start core seats fs is none numbered are h seat f got there =
    let text : List ℕ = core.shared.ram.text in
    let number : h ≡ seat.hart = sym (numbered h seat got) in
    let place : f ≡ follower_at_start text seat.hart =
    follower_at (follower_at_start text) 0 core.harts h f (rw are at there) ∙ ap (follower_at_start text) (omega (arith, number)) in
    let follows : Follows core seat (follower_at_start text seat.hart) = record {
      place = omega arith;
      part = rw none (refl, refl);
      copy = rw none (text_at_start core is none);
    } in
    subst (λ (g : Follower). Follows core seat g) (sym place) follows

-- a seat agrees whose exchanges were all made again
agrees_at_end : (core fresh : CoreView) (seat : SeatView) (f : Follower) → fresh.program ≡ core.program → fresh.start ≡ core.start
    → fresh.history ≡ core.history → seat.text ≡ core.program.text → Follows fresh seat f → EndsAt seat f → Agrees core seat
agrees_at_end core fresh seat f program lines history loaded follows ends =
    let was : Memory = starting_memory fresh.program fresh.start in
    let initial : was ≡ starting_memory core.program core.start =
    ap (λ (p : Sections). starting_memory p fresh.start) program ∙ ap (λ (l : List (List ℕ)). starting_memory core.program l) lines in
    let used : IsPart was seat.hart fresh.history seat.exchanges f.state =
    subst (λ (xs : List Exchange). IsPart was seat.hart fresh.history xs f.state) (oldest_all f.next seat.exchanges ends.used) follows.part in
    let part : IsPart (starting_memory core.program core.start) seat.hart core.history seat.exchanges f.state =
    subst (λ (m : Memory). IsPart m seat.hart core.history seat.exchanges f.state) initial
    (subst (λ (l : List Entry). IsPart was seat.hart l seat.exchanges f.state) history used) in
    let copy : text_bytes seat.copy ≡ fetched_text (starting_memory core.program core.start) seat.hart core.history =
    ap (λ (bytes : List ℕ). text_bytes bytes) (sym ends.copy) ∙ follows.copy ∙ ap (λ (m : Memory). fetched_text m seat.hart fresh.history) initial
    ∙ ap (λ (l : List Entry). fetched_text (starting_memory core.program core.start) seat.hart l) history in
    let alone : GoesAlone (text_bytes seat.copy) seat.since f.state seat.state =
    subst (λ (bytes : List ℕ). GoesAlone (text_bytes bytes) seat.since f.state seat.state) ends.copy ends.alone in
    record { text = loaded; copy = copy; from = f.state; part = part; alone = alone }

-- how many steps come last
last_count : (h k : ℕ) (seats : List SeatView) → k < h → count_of k (last_steps h seats) ≡ 0
unfolding last_steps count_of
last_count h k [] less = refl
last_count h k (s ∷ seats) less =
    let other = ne_eqb h k (λ e. absurd (omega (arith, less, e))) in
    let none = count_other k h s.since other in
    let rest = last_count (h + 1) k seats (omega (arith, less)) in
    let sum = count_append k (replicate s.since (Hart h)) (last_steps (h + 1) seats) in
    omega (arith, none, rest, sum)

last_counted : (h k : ℕ) (seats : List SeatView) (seat : SeatView) → slice_get seats k ≡ Some seat → count_of (h + k) (last_steps h seats) ≡ seat.since
unfolding last_steps
last_counted h k [] seat got = absurd (cc)
last_counted h zero (s ∷ seats) seat got =
    let same : s ≡ seat = cc in
    let place : h + 0 ≡ h = omega arith in
    let own = count_own h s.since in
    let rest = last_count (h + 1) h seats (omega arith) in
    let sum = count_append h (replicate s.since (Hart h)) (last_steps (h + 1) seats) in
    let since : s.since ≡ seat.since = ap (λ (x : SeatView). x.since) same in
    ap (λ (j : ℕ). count_of j (replicate s.since (Hart h) ++ last_steps (h + 1) seats)) place ∙ omega (arith, own, rest, sum, since)
last_counted h (suc k) (s ∷ seats) seat got =
    let place : h + 1 + k ≡ h + suc k = omega arith in
    let other = ne_eqb h (h + suc k) (λ e. absurd (omega (arith, e))) in
    let none = count_other (h + suc k) h s.since other in
    let rest = subst (λ (j : ℕ). count_of j (last_steps (h + 1) seats) ≡ seat.since) place (last_counted (h + 1) k seats seat got) in
    let sum = count_append (h + suc k) (replicate s.since (Hart h)) (last_steps (h + 1) seats) in
    omega (arith, none, rest, sum)

last_total : (h : ℕ) (s : SeatView) (seats : List SeatView)
    → hart_count (last_steps h (s ∷ seats)) ≡ s.since + hart_count (last_steps (h + 1) seats)
unfolding last_steps
last_total h s seats =
    let own = total_replicate s.since h in
    let sum = total_append (replicate s.since (Hart h)) (last_steps (h + 1) seats) in
    omega (arith, own, sum)

-- all steps are few
all_few : (h : ℕ) (seats : List SeatView) → ((i : ℕ) (s : SeatView) → slice_get seats i ≡ Some s → steps_in s.exchanges + s.since ≤ 500000000)
    → steps_of_all (map (λ (seat : SeatView). seat.exchanges) seats) + hart_count (last_steps h seats) ≤ 500000000 * length seats
unfolding last_steps
all_few h [] each = omega arith
all_few h (s ∷ seats) each =
    let first = each 0 s refl in
    let rest = all_few (h + 1) seats (λ i t got. each (suc i) t got) in
    let last = last_total h s seats in
    omega (arith, first, rest, last)

pub hart_steps_are : (items : List Item) → hart_steps items ≡ hart_count (all_steps items)
hart_steps_are [] = refl
hart_steps_are (items_of.Steps hart count ∷ items) =
    let sum = sum_by-cons steps_in_item (items_of.Steps hart count) items in
    let rest = hart_steps_are items in
    let own = total_replicate count hart in
    let all = total_append (replicate count (Hart hart)) (all_steps items) in
    omega (arith, sum, rest, own, all)
hart_steps_are (items_of.Evict line ∷ items) =
    let sum = sum_by-cons steps_in_item (items_of.Evict line) items in
    let rest = hart_steps_are items in
    omega (arith, sum, rest)

few_of : (s : SeatView) → AreCounted s.made s.budget s.since s.exchanges → steps_in s.exchanges + s.since ≤ 500000000
few_of s c =
    let count = c.count in
    let within = c.within in
    let limit = c.limit in
    omega (arith, count, within, limit)

list_at : (seats : List SeatView) (h : ℕ) (s : SeatView) → slice_get seats h ≡ Some s
    → slice_index_or (map (λ (seat : SeatView). seat.exchanges) seats) h [] ≡ s.exchanges
list_at [] h s got = absurd (cc)
list_at (x ∷ seats) zero s got =
    let same : x ≡ s = cc in ap (λ (y : SeatView). y.exchanges) same
list_at (x ∷ seats) (suc h) s got = list_at seats h s got

-- the schedule of what all seats have made
pub scheduled : (core : CoreView) (seats : List SeatView) (items : List Item) (middle : List Step) → core.harts ≤ 8 → length seats ≡ core.harts
    → ((h : ℕ) (s : SeatView) → slice_get seats h ≡ Some s → AreCounted s.made s.budget s.since s.exchanges)
    → AreGathered core.history (map (λ (seat : SeatView). seat.exchanges) seats) middle → all_steps items ≡ middle ++ last_steps 0 seats
    → IsScheduleOf core seats items
scheduled core seats items middle most count counts made added =
    record {
      steps = added ∙ ap (λ (l : List Step). l ++ last_steps 0 seats) made.steps_are;
      few =
          let items_are = hart_steps_are items in
          let all = ap hart_count added in
          let sum = total_append middle (last_steps 0 seats) in
          let total = made.total in
          let most_all = all_few 0 seats (λ h s got. few_of s (counts h s got)) in
          omega (arith, items_are, all, sum, total, most_all, count, most);
      made = λ h s got.
          let all = ap (λ (l : List Step). count_of h l) added in
          let sum = count_append h middle (last_steps 0 seats) in
          let first = made.made h ∙ ap steps_in (list_at seats h s got) in
          let place : 0 + h ≡ h = omega arith in
          let last = subst (λ (k : ℕ). count_of k (last_steps 0 seats) ≡ s.since) place (last_counted 0 h seats s got) in
          let c = counts h s got in
          let is = c.count in
          omega (arith, all, sum, first, last, is);
      within = λ h s got. let c = counts h s got in c.within;
    }

-- the start
fresh_are : (core fresh : CoreView) (fs : List Follower) → IsFreshOf core fresh
    → fs ≡ map (follower_at_start fresh.shared.ram.text) (range_with_len 0 core.harts)
    → fs ≡ map (follower_at_start fresh.shared.ram.text) (range_with_len 0 fresh.harts)
fresh_are core fresh fs is are =
    are ∙ ap (λ (n : ℕ). map (follower_at_start fresh.shared.ram.text) (range_with_len 0 n)) (sym is.harts)

-- seats agree whose harts were run once more
pub all_agree : (core fresh new : CoreView) (seats : List SeatView) (fs gs : List Follower) (history : List Entry) → length seats ≡ core.harts
    → ((h : ℕ) (s : SeatView) → slice_get seats h ≡ Some s → s.hart ≡ h)
    → ((h : ℕ) (s : SeatView) → slice_get seats h ≡ Some s → s.text ≡ core.program.text) → IsFreshOf core fresh
    → fs ≡ map (follower_at_start fresh.shared.ram.text) (range_with_len 0 core.harts) → length gs ≡ length fs → reverse history ≡ core.history
    → HaveFollowed fresh new seats fs gs (reverse history) → AllEnd (length seats) seats gs → AllAgree core seats
all_agree core fresh new seats fs gs history count numbered loaded is are size turned f ends =
    let paired : length gs ≡ length seats = size ∙ (paired_at_start core.harts fresh.shared.ram.text seats fs count numbered are).paired in
    let follow : AllFollow new seats gs =
    f.follow (follow_at_start fresh seats fs is.replay_is is.none numbered (fresh_are core fresh fs is are)) in
    let program : new.program ≡ core.program = ap (λ (c : CoreView). c.program) f.core ∙ is.program in
    let lines : new.start ≡ core.start = ap (λ (c : CoreView). c.start) f.core ∙ is.start_is in
    let same : new.history ≡ core.history = ap (λ (c : CoreView). c.history) f.core ∙ turned in
    record {
      count = count;
      numbered = numbered;
      each = λ h s got.
          let inside = slice_get_within seats h s got in
          let g = there_is gs h (omega (arith, inside, paired)) in
          agrees_at_end core new s g.0 program lines same (loaded h s got) (follow h s g.0 got g.1) (ends h s g.0 inside got g.1);
    }

pub is_fresh_of : (core fresh : CoreView) → fresh.program ≡ core.program → fresh.start ≡ core.start → fresh.harts ≡ core.harts → fresh.history ≡ []
    → IsReplay fresh.program fresh.start fresh.history fresh.shared → IsFreshOf core fresh
is_fresh_of core fresh program lines harts none is =
    record { program = program; start_is = lines; harts = harts; none = none; replay_is = is }

pub ends_at : (seat : SeatView) (f : Follower) (t : HartState) (items : List Exchange) → reverse items ≡ seat.exchanges
    → f.next ≡ length items → GoesAlone (text_bytes f.copy) seat.since f.state t → t ≡ seat.state → f.copy ≡ seat.copy → EndsAt seat f
ends_at seat f t items turned used alone state copy = record {
  used = used ∙ sym (length-reverse items) ∙ ap (λ (l : List Exchange). length l) turned;
  alone = subst (λ (m : HartState). GoesAlone (text_bytes f.copy) seat.since f.state m) state alone;
  copy = copy;
}

-- the beginning
pub begin_paired : (core fresh : CoreView) (seats : List SeatView) (fs : List Follower) → IsFreshOf core fresh
    → fs ≡ map (follower_at_start fresh.shared.ram.text) (range_with_len 0 core.harts) → length seats ≡ core.harts
    → ((h : ℕ) (s : SeatView) → slice_get seats h ≡ Some s → s.hart ≡ h) → ArePaired fresh.harts seats fs
begin_paired core fresh seats fs is are count numbered =
    paired_at_start fresh.harts fresh.shared.ram.text seats fs (count ∙ sym is.harts) numbered (fresh_are core fresh fs is are)

pub begin_below : (core fresh : CoreView) (history : List Entry) → IsFreshOf core fresh → reverse history ≡ core.history
    → AreBelow core.harts core.history → AreBelow fresh.harts (reverse history)
begin_below core fresh history is turned below =
    subst (λ (n : ℕ). AreBelow n (reverse history)) (sym is.harts) (subst (λ (l : List Entry). AreBelow core.harts l) (sym turned) below)

pub begin_follow : (core fresh : CoreView) (seats : List SeatView) (fs : List Follower) → IsFreshOf core fresh
    → fs ≡ map (follower_at_start fresh.shared.ram.text) (range_with_len 0 core.harts)
    → ((h : ℕ) (s : SeatView) → slice_get seats h ≡ Some s → s.hart ≡ h) → AllFollow fresh seats fs
begin_follow core fresh seats fs is are numbered =
    follow_at_start fresh seats fs is.replay_is is.none numbered (fresh_are core fresh fs is are)
