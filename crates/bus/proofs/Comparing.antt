-- A history that is compared with the lists of seats.
use Rattle.std.proofs.Common.{◌≡◌, ◌≢◌, ℕ, zero, suc, ◌+◌, ◌-◌, ◌<◌, ◌≤◌, ◌^◌, List, [], ◌∷◌, ◌++◌, Bool, MatchBool, true, false, Some, eqb, length, map, replicate, reverse, slice_get, slice_index_or, slice_set, take, drop, refl, sym, ap, subst, ◌∙◌, inl, inr, append_assoc, arith, eq-eqb}
use Rattle.std.proofs.lemmas.Bool.{cases_Bool, cases_eq, ne_eqb}
use Rattle.std.proofs.Math.Nat.{mod-add-mod, mod-eq_of_lt, zero-mod}
use Rattle.std.proofs.lemmas.List.{append-nil, length-reverse, map-append, reverse-append, take_all, take_more}
use Rattle.std.proofs.lemmas.Option.{slice_get_read, slice_get_within}
use Rattle.hart.specs.declared.state.HartState.{HartState}
use Rattle.hart.specs.declared.need.Request.{Request}
use Rattle.hart.specs.declared.need.Reply.{Reply}
use Rattle.line_memory.specs.Memory.{Memory}
use Rattle.line_memory.specs.Lines.{line_bytes}
use Rattle.line_memory.specs.Regions.{padded}
use Rattle.line_memory.specs.declared.TheConstants.{DATA_SIZE, TEXT_SIZE}
use Rattle.machine.proofs.Copying.{text_there}
use Rattle.machine.specs.Represents.{text_bytes}
use Rattle.machine.specs.Steps.{all_steps}
use Rattle.machine.specs.declared.schedule.items.Item.{Item}
use Rattle.machine.specs.declared.schedule.items.Step.{Step}
use Rattle.machine.specs.declared.schedule.items.Step.TheVariants.{Hart, Evict}
use Rattle.machine.specs.Histories.{fetched_text, is_renewing, text_of}
use Rattle.machine.specs.Replies.{events_of, starting_memory}
use Rattle.store_trace.specs.declared.event.Event.{Event}
use Rattle.machine.specs.declared.shared_memory.history.Entry.{Entry}
use Rattle.machine.specs.declared.shared_memory.history.Entry.TheVariants.{Asked, Evicted}
use Rattle.bus.specs.declared.exchange.Exchange.{Exchange}
use Rattle.bus.specs.declared.finish_fault.FinishFault.{FinishFault}
use Rattle.bus.specs.Agreeing.{Agrees, Exchanges, IsPart, LastIs}
use Rattle.bus.specs.Finished.{AllAgree, last_steps}
use Rattle.bus.specs.declared.runs.Runs.{Runs}
use Rattle.bus.specs.Following.{AreGathered, IfForeign, IsNotNext, IsScheduleOf, hart_count, oldest, steps_of_all}
use Rattle.bus.specs.Gathered.{earlier, gathered, steps_to}
use Rattle.bus.specs.Leading.{HasMade, IsLed}
use Rattle.bus.specs.Listed.{AllLed, AreListed, AreNotWhole, AreRun, AreWhole, EvictsAlso, HasOtherCopy, IsAccountOf, IsListOf, IsListed, IsNextOf, IsNotWhole, IsUnlisted, IsWhole, NewestIs, all_taken, in_word, numbered}
use Rattle.bus.specs.Replays.{CoreView}
use Rattle.bus.specs.Seats.{AreCounted, SeatView, steps_in}
use Rattle.bus.specs.Together.{count_of}
use Rattle.bus.proofs.Agreeing.{copy_passes}
use Rattle.bus.proofs.Following.{exchange_total, gathered_asked, gathered_evicted, oldest_all, oldest_more, total_append}
use Rattle.bus.proofs.Foreign.{NoneAgree, foreign_weaker, next_is, oldest_size, parted, texts_same}
use Rattle.bus.proofs.Places.{get_of, got_else, got_set, read_set, set_got, set_set, there_is}
use Rattle.bus.proofs.Replayed.{append_nothing, entry_is, hart_steps_are, last_added, scheduled}

-- a hart that renewed its copy in none of its exchanges fetches the text of the start
copied_at : (initial text : Memory) (h g : ℕ) (request : Request) (reply : Reply) (before : List Entry) (xs : List Exchange) (t : HartState)
    → ((ys : List Exchange) (s : HartState) → IsListOf h before ys → HasMade text h ys s → fetched_text initial h before ≡ text_of initial)
    → NewestIs request reply (IsListOf h before) xs → HasMade text h xs t → fetched_text initial h (Asked g request reply ∷ before) ≡ text_of initial
copied_at initial text h g request reply before [] t rest list made = absurd list
copied_at initial text h g request reply before (x ∷ xs) t rest list made =
    let not : is_renewing request ≡ false = ap is_renewing (sym list.0) ∙ made.2.kept in
    let was : fetched_text initial h before ≡ text_of initial = rest xs made.0 list.2 made.1 in
    rw not was

pub copied_same : (initial text : Memory) (h : ℕ) (history : List Entry) (xs : List Exchange) (t : HartState) → IsListOf h history xs
    → HasMade text h xs t → fetched_text initial h history ≡ text_of initial
copied_same initial text h [] xs t list made = refl
copied_same initial text h (Evicted line ∷ before) xs t list made = copied_same initial text h before xs t list made
copied_same initial text h (Asked g request reply ∷ before) xs t list made = elim (cases_Bool (eqb g h)) [
  | inl same ↦
      copied_at initial text h g request reply before xs t (λ ys s l m. copied_same initial text h before ys s l m) (rw same at list) made
  | inr other ↦
      copy_passes initial h g request reply before other ∙ copied_same initial text h before xs t (rw other at list) made
]

-- what such a hart has made is its part of the history, where its list is
part_at : (initial text : Memory) (h : ℕ) (request : Request) (reply : Reply) (before : List Entry) (xs : List Exchange) (t : HartState)
    → text ≡ text_of initial
    → ((ys : List Exchange) (s : HartState) → IsListOf h before ys → HasMade text h ys s → IsPart initial h before ys s)
    → NewestIs request reply (IsListOf h before) xs → HasMade text h xs t
    → LastIs (fetched_text initial h before) request reply (IsPart initial h before) xs t
part_at initial text h request reply before [] t is rest list made = absurd list
part_at initial text h request reply before (x ∷ xs) t is rest list made =
    let same : text ≡ fetched_text initial h before = is ∙ sym (copied_same initial text h before xs made.0 list.2 made.1) in
    let exchanges : Exchanges (fetched_text initial h before) made.0 x t = subst (λ (m : Memory). Exchanges m made.0 x t) same made.2.exchanges in
    (list.0, list.1, (made.0, rest xs made.0 list.2 made.1, exchanges))

pub part_of : (initial text : Memory) (h : ℕ) (history : List Entry) (xs : List Exchange) (t : HartState) → text ≡ text_of initial
    → IsListOf h history xs → HasMade text h xs t → IsPart initial h history xs t
part_of initial text h [] xs t is list made = (list, subst (λ (l : List Exchange). HasMade text h l t) list made)
part_of initial text h (Evicted line ∷ before) xs t is list made = part_of initial text h before xs t is list made
part_of initial text h (Asked g request reply ∷ before) xs t is list made = elim (cases_Bool (eqb g h)) [
  | inl same ↦
      rw same (part_at initial text h request reply before xs t is (λ ys s l m. part_of initial text h before ys s is l m) (rw same at list) made)
  | inr other ↦ rw other (part_of initial text h before xs t is (rw other at list) made)
]

pub agrees_so : (core : CoreView) (seat : SeatView) (copy : List ℕ) → text_bytes copy ≡ text_of (starting_memory core.program core.start)
    → IsListOf seat.hart core.history seat.exchanges → seat.text ≡ core.program.text → seat.copy ≡ copy
    → IsLed seat.hart seat.copy seat.exchanges seat.since seat.state → Agrees core seat
agrees_so core seat copy first list loaded fetched led =
    let initial : Memory = starting_memory core.program core.start in
    let text : text_bytes seat.copy ≡ text_of initial = ap (λ (c : List ℕ). text_bytes c) fetched ∙ first in
    record {
      text = loaded;
      copy = text ∙ sym (copied_same initial (text_bytes seat.copy) seat.hart core.history seat.exchanges led.from list led.made);
      from = led.from;
      part = part_of initial (text_bytes seat.copy) seat.hart core.history seat.exchanges led.from text list led.made;
      alone = led.alone;
    }

-- a part of a history has its list
list_at_last : (text : Memory) (request : Request) (reply : Reply) (Before : List Exchange → HartState → Type 0) (h : ℕ) (before : List Entry)
    (xs : List Exchange) (t : HartState) → ((ys : List Exchange) (s : HartState) → Before ys s → IsListOf h before ys)
    → LastIs text request reply Before xs t → NewestIs request reply (IsListOf h before) xs
list_at_last text request reply Before h before [] t rest last = absurd last
list_at_last text request reply Before h before (x ∷ xs) t rest last = (last.0, last.1, rest xs last.2.0 last.2.1)

pub list_of_part : (initial : Memory) (h : ℕ) (history : List Entry) (xs : List Exchange) (t : HartState) → IsPart initial h history xs t
    → IsListOf h history xs
list_of_part initial h [] xs t part = part.0
list_of_part initial h (Evicted line ∷ before) xs t part = list_of_part initial h before xs t part
list_of_part initial h (Asked g request reply ∷ before) xs t part = elim (cases_Bool (eqb g h)) [
  | inl same ↦
      rw same (list_at_last (fetched_text initial h before) request reply (IsPart initial h before) h before xs t
      (λ ys s p. list_of_part initial h before ys s p) (rw same at part))
  | inr other ↦ rw other (list_of_part initial h before xs t (rw other at part))
]

-- two lists of one hart are as long as each other
long_at : (request : Request) (reply : Reply) (h : ℕ) (before : List Entry) (xs ys : List Exchange)
    → ((vs ws : List Exchange) → IsListOf h before vs → IsListOf h before ws → length vs ≡ length ws)
    → NewestIs request reply (IsListOf h before) xs → NewestIs request reply (IsListOf h before) ys → length xs ≡ length ys
long_at request reply h before [] ys rest a b = absurd a
long_at request reply h before (x ∷ xs) [] rest a b = absurd b
long_at request reply h before (x ∷ xs) (y ∷ ys) rest a b = ap suc (rest xs ys a.2 b.2)

long_as : (h : ℕ) (history : List Entry) (xs ys : List Exchange) → IsListOf h history xs → IsListOf h history ys → length xs ≡ length ys
long_as h [] xs ys a b = ap (λ (l : List Exchange). length l) (a ∙ sym b)
long_as h (Evicted line ∷ before) xs ys a b = long_as h before xs ys a b
long_as h (Asked g request reply ∷ before) xs ys a b = elim (cases_Bool (eqb g h)) [
  | inl same ↦ long_at request reply h before xs ys (λ vs ws p q. long_as h before vs ws p q) (rw same at a) (rw same at b)
  | inr other ↦ long_as h before xs ys (rw other at a) (rw other at b)
]

-- the list of a hart up to an earlier place
record ListBack (h : ℕ) (before : List Entry) (xs : List Exchange) : Type 0 where
  pub later : List Exchange
  pub earliest : List Exchange
  pub split : xs ≡ later ++ earliest
  pub list : IsListOf h before earliest

list_back_at : (request : Request) (reply : Reply) (h : ℕ) (history before : List Entry) (xs : List Exchange)
    → ((ys : List Exchange) → IsListOf h history ys → ListBack h before ys) → NewestIs request reply (IsListOf h history) xs → ListBack h before xs
list_back_at request reply h history before [] back list = absurd list
list_back_at request reply h history before (x ∷ xs) back list =
    let rest = back xs list.2 in
    record { later = x ∷ rest.later; earliest = rest.earliest; split = ap (λ (l : List Exchange). x ∷ l) rest.split; list = rest.list }

list_back : (h : ℕ) (later before : List Entry) (xs : List Exchange) → IsListOf h (later ++ before) xs → ListBack h before xs
list_back h [] before xs list = record { later = []; earliest = xs; split = refl; list = list }
list_back h (Evicted line ∷ later) before xs list = list_back h later before xs list
list_back h (Asked g request reply ∷ later) before xs list = elim (cases_Bool (eqb g h)) [
  | inl same ↦
      list_back_at request reply h (later ++ before) before xs (λ ys l. list_back h later before ys l) (rw same at list)
  | inr other ↦ list_back h later before xs (rw other at list)
]

-- the newest of a list
record NewestOf (request : Request) (reply : Reply) (h : ℕ) (before : List Entry) (xs : List Exchange) : Type 0 where
  pub first : Exchange
  pub rest : List Exchange
  pub list_is : xs ≡ first ∷ rest
  pub asks : first.request ≡ request
  pub told : first.reply ≡ reply
  pub list : IsListOf h before rest

newest_of : (request : Request) (reply : Reply) (h : ℕ) (before : List Entry) (xs : List Exchange) → NewestIs request reply (IsListOf h before) xs
    → NewestOf request reply h before xs
newest_of request reply h before [] list = absurd list
newest_of request reply h before (x ∷ xs) list =
    record { first = x; rest = xs; list_is = refl; asks = list.0; told = list.1; list = list.2 }

-- where the next of a seat's exchanges is another than the history's, the seat's list isn't its hart's
not_next : (h : ℕ) (seat : SeatView) (n : ℕ) (history later : List Entry) (request : Request) (reply : Reply) → IsListed h history seat n
    → IsNotNext seat.exchanges n request reply → IsListOf h (later ++ Asked h request reply ∷ history) seat.exchanges → ⊥
not_next h seat n history later request reply listed none whole =
    let back = list_back h later (Asked h request reply ∷ history) seat.exchanges whole in
    let own : NewestIs request reply (IsListOf h history) back.earliest = rw (eq-eqb h h refl) at back.list in
    let top = newest_of request reply h history back.earliest own in
    let split : seat.exchanges ≡ back.later ++ top.first ∷ top.rest = back.split ∙ ap (λ (l : List Exchange). back.later ++ l) top.list_is in
    let size : length top.rest ≡ n =
    long_as h history top.rest (oldest n seat.exchanges) top.list listed.list ∙ oldest_size n seat.exchanges listed.place in
    none.not top.first (next_is back.later top.rest seat.exchanges top.first n split size) top.asks top.told

-- the exchanges that were compared
taken_set : (seats : List SeatView) (counts : List ℕ) (h : ℕ) (seat : SeatView) (n : ℕ) → slice_get seats h ≡ Some seat → h < length counts
    → all_taken seats (slice_set counts h n) ≡ slice_set (all_taken seats counts) h (oldest n seat.exchanges)
taken_set [] counts h seat n got inside = absurd (cc)
taken_set (s ∷ seats) [] h seat n got inside = absurd (omega (arith, inside))
taken_set (s ∷ seats) (k ∷ counts) zero seat n got inside =
    let same : s ≡ seat = cc in ap (λ (y : SeatView). oldest n y.exchanges ∷ all_taken seats counts) same
taken_set (s ∷ seats) (k ∷ counts) (suc h) seat n got inside =
    ap (λ (l : List (List Exchange)). oldest k s.exchanges ∷ l) (taken_set seats counts h seat n got (omega (arith, inside)))

taken_got : (seats : List SeatView) (counts : List ℕ) (h : ℕ) (seat : SeatView) (n : ℕ) → slice_get seats h ≡ Some seat
    → slice_get counts h ≡ Some n → slice_get (all_taken seats counts) h ≡ Some (oldest n seat.exchanges)
taken_got [] counts h seat n got there = absurd (cc)
taken_got (s ∷ seats) [] h seat n got there = absurd (cc)
taken_got (s ∷ seats) (k ∷ counts) zero seat n got there =
    let same : s ≡ seat = cc in
    let too : k ≡ n = cc in
    rw (same, too) refl
taken_got (s ∷ seats) (k ∷ counts) (suc h) seat n got there = taken_got seats counts h seat n got there

taken_used : (seats : List SeatView) (counts : List ℕ) → length seats ≤ length counts
    → ((h : ℕ) (s : SeatView) (n : ℕ) → slice_get seats h ≡ Some s → slice_get counts h ≡ Some n → n ≡ length s.exchanges)
    → all_taken seats counts ≡ map (λ (seat : SeatView). seat.exchanges) seats
taken_used [] counts enough used = refl
taken_used (s ∷ seats) [] enough used = absurd (omega (arith, enough))
taken_used (s ∷ seats) (n ∷ counts) enough used =
    let first : oldest n s.exchanges ≡ s.exchanges = oldest_all n s.exchanges (used 0 s n refl refl) in
    ap (λ (l : List Exchange). l ∷ all_taken seats counts) first
    ∙ ap (λ (l : List (List Exchange)). s.exchanges ∷ l) (taken_used seats counts (omega (arith, enough)) (λ h t k got there. used (suc h) t k got there))

-- nothing was compared yet
each_none : (xs : List Exchange) (lists : List (List Exchange)) → steps_in xs ≡ 0 → ((h : ℕ) → steps_in (slice_index_or lists h []) ≡ 0)
    → (h : ℕ) → steps_in (slice_index_or (xs ∷ lists) h []) ≡ 0
each_none xs lists first rest zero = first
each_none xs lists first rest (suc h) = rest h

none_taken : (seats : List SeatView) (counts : List ℕ) → ((h n : ℕ) → slice_get counts h ≡ Some n → n ≡ 0)
    → (steps_of_all (all_taken seats counts) ≡ 0) × ((h : ℕ) → steps_in (slice_index_or (all_taken seats counts) h []) ≡ 0)
none_taken [] counts zeros = (refl, λ h. refl)
none_taken (s ∷ seats) [] zeros = (refl, λ h. refl)
none_taken (s ∷ seats) (n ∷ counts) zeros =
    let first : oldest n s.exchanges ≡ [] = ap (λ (k : ℕ). oldest k s.exchanges) (zeros 0 n refl) in
    let rest = none_taken seats counts (λ h k got. zeros (suc h) k got) in
    let own : steps_in (oldest n s.exchanges) ≡ 0 = ap steps_in first in
    let sum = rest.0 in
    (omega (arith, own, sum), each_none (oldest n s.exchanges) (all_taken seats counts) own rest.1)

pub zeros_are : (m h n : ℕ) → slice_get (replicate m 0) h ≡ Some n → n ≡ 0
zeros_are zero h n got = absurd (cc)
zeros_are (suc m) zero n got = let same : Some 0 ≡ Some n = got in cc
zeros_are (suc m) (suc h) n got = zeros_are m h n got

numbered_none : (lists : List (List Exchange)) → [] ≡ map in_word (numbered [] lists)
unfolding numbered
numbered_none lists = refl

pub listed_none : (seats : List SeatView) (counts : List ℕ) (runs : Runs) → ((h n : ℕ) → slice_get counts h ≡ Some n → n ≡ 0)
    → all_steps runs.schedule ≡ [] → runs.made ≡ 0 → runs.numbers.items ≡ [] → AreListed seats counts [] runs
unfolding gathered count_of
listed_none seats counts runs zeros none made numbers =
    let nothing = none_taken seats counts zeros in
    let begun : AreGathered [] (all_taken seats counts) [] =
    record { steps_are = refl; made = λ h. sym (nothing.1 h); total = sym nothing.0 } in
    let zero_is : 0 ≡ in_word 0 = sym (zero-mod (2 ^ 32)) in
    record {
      each = λ h seat n got there. let none_yet : n ≡ 0 = zeros h n there in record {
        place = omega (arith, none_yet);
        list = ap (λ (k : ℕ). oldest k seat.exchanges) none_yet;
      };
      run = record {
        gathered = subst (λ (l : List Step). AreGathered [] (all_taken seats counts) l) (sym none) begun;
        made = made ∙ zero_is ∙ ap (λ (l : List Step). in_word (hart_count l)) (sym none);
        numbers = numbers ∙ numbered_none (all_taken seats counts);
      };
    }

-- the numbers of one entry more
in_words : (made total : ℕ) (events : List Event) → made ≡ in_word total
    → map (λ (event : Event). made) events ≡ map in_word (map (λ (event : Event). total) events)
in_words made total [] is = refl
in_words made total (event ∷ events) is =
    ap (λ (n : ℕ). n ∷ map (λ (e : Event). made) events) is ∙ ap (λ (l : List ℕ). in_word total ∷ l) (in_words made total events is)

numbered_asked : (history : List Entry) (lists : List (List Exchange)) (h : ℕ) (request : Request) (reply : Reply) (x : Exchange)
    (xs : List Exchange) (old new : List ℕ) (made : ℕ) → slice_get lists h ≡ Some xs → old ≡ map in_word (numbered history lists)
    → made ≡ in_word (hart_count (gathered (Asked h request reply ∷ history) (slice_set lists h (x ∷ xs))))
    → new ≡ old ++ map (λ (event : Event). made) (events_of h request reply)
    → new ≡ map in_word (numbered (Asked h request reply ∷ history) (slice_set lists h (x ∷ xs)))
unfolding numbered
numbered_asked history lists h request reply x xs old new made got before is added =
    let inside = slice_get_within lists h xs got in
    let total : ℕ = hart_count (gathered (Asked h request reply ∷ history) (slice_set lists h (x ∷ xs))) in
    let later : List ℕ = map (λ (event : Event). total) (events_of h request reply) in
    rw (read_set lists h (x ∷ xs) [] inside, set_set lists h (x ∷ xs) xs, set_got lists h xs got)
    (added ∙ ap (λ (l : List ℕ). l ++ map (λ (event : Event). made) (events_of h request reply)) before
    ∙ ap (λ (l : List ℕ). map in_word (numbered history lists) ++ l) (in_words made total (events_of h request reply) is)
    ∙ sym (map-append in_word (numbered history lists) later))

numbered_evicted : (history : List Entry) (lists : List (List Exchange)) (line : ℕ)
    → numbered (Evicted line ∷ history) lists ≡ numbered history lists
unfolding numbered
numbered_evicted history lists line = refl

counted_on : (made n s total : ℕ) → made ≡ in_word n → total ≡ n + (s + 1) → in_word (in_word (made + s) + 1) ≡ in_word total
counted_on made n s total is sum =
    let last : n + s + 1 ≡ total = omega (arith, sum) in
    ap (λ (k : ℕ). in_word (in_word (k + s) + 1)) is ∙ ap (λ (k : ℕ). in_word (k + 1)) (mod-add-mod n (2 ^ 32) s)
    ∙ mod-add-mod (n + s) (2 ^ 32) 1 ∙ ap in_word last

-- one entry more
some_seat : (a b : SeatView) → Some a ≡ Some b → a ≡ b
some_seat a b e = cc

some_count : (a b : ℕ) → Some a ≡ Some b → a ≡ b
some_count a b e = cc

pub run_asked : (history : List Entry) (lists : List (List Exchange)) (h : ℕ) (request : Request) (reply : Reply) (old new : Runs) (x : Exchange)
    (xs : List Exchange) → slice_get lists h ≡ Some xs → all_steps new.schedule ≡ (all_steps old.schedule ++ replicate x.steps (Hart h)) ++ Hart h ∷ []
    → new.made ≡ in_word (in_word (old.made + x.steps) + 1)
    → new.numbers.items ≡ old.numbers.items ++ map (λ (event : Event). new.made) (events_of h request reply)
    → AreRun history lists old → AreRun (Asked h request reply ∷ history) (slice_set lists h (x ∷ xs)) new
run_asked history lists h request reply old new x xs got added made numbers a =
    let all : all_steps new.schedule ≡ all_steps old.schedule ++ (replicate x.steps (Hart h) ++ Hart h ∷ []) =
    added ∙ append_assoc (all_steps old.schedule) (replicate x.steps (Hart h)) (Hart h ∷ []) in
    let more : AreGathered (Asked h request reply ∷ history) (slice_set lists h (x ∷ xs)) (all_steps new.schedule) =
    rw all (gathered_asked history lists (all_steps old.schedule) h request reply x xs got a.gathered) in
    let total : hart_count (all_steps new.schedule) ≡ hart_count (all_steps old.schedule) + (x.steps + 1) =
    ap hart_count all ∙ total_append (all_steps old.schedule) (replicate x.steps (Hart h) ++ Hart h ∷ [])
    ∙ ap (λ (k : ℕ). hart_count (all_steps old.schedule) + k) (exchange_total x.steps h) in
    let made_is : new.made ≡ in_word (hart_count (all_steps new.schedule)) =
    made ∙ counted_on old.made (hart_count (all_steps old.schedule)) x.steps (hart_count (all_steps new.schedule)) a.made total in
    record {
      gathered = more;
      made = made_is;
      numbers = numbered_asked history lists h request reply x xs old.numbers.items new.numbers.items new.made got a.numbers
          (made_is ∙ ap (λ (l : List Step). in_word (hart_count l)) more.steps_are) numbers;
    }

pub is_next : (seat : SeatView) (n m h : ℕ) (request : Request) (reply : Reply) (old one two new : Runs) (x : Exchange)
    → slice_get (reverse seat.exchanges) n ≡ Some x → x.request ≡ request → x.reply ≡ reply → m ≡ n + 1
    → all_steps one.schedule ≡ all_steps old.schedule ++ replicate x.steps (Hart h) → one.made ≡ in_word (old.made + x.steps)
    → one.numbers.items ≡ old.numbers.items → all_steps two.schedule ≡ all_steps one.schedule ++ replicate 1 (Hart h) → two.made ≡ in_word (one.made + 1)
    → two.numbers.items ≡ one.numbers.items
    → new.numbers.items ≡ two.numbers.items ++ map (λ (event : Event). two.made) (events_of h request reply) → new.schedule ≡ two.schedule
    → new.made ≡ two.made → IsNextOf seat n m h request reply old new
is_next seat n m h request reply old one two new x there asked told next first made_one same_one last made_two same_two numbers steps made = record {
  first = x;
  there = there;
  asked = asked;
  told = told;
  next = next;
  added = ap all_steps steps ∙ last ∙ ap (λ (l : List Step). l ++ Hart h ∷ []) first;
  made = made ∙ made_two ∙ ap (λ (k : ℕ). in_word (k + 1)) made_one;
  numbers = numbers ∙ ap (λ (l : List ℕ). l ++ map (λ (event : Event). two.made) (events_of h request reply)) (same_two ∙ same_one)
      ∙ ap (λ (k : ℕ). old.numbers.items ++ map (λ (event : Event). k) (events_of h request reply)) (sym made);
}

pub listed_asked : (seats : List SeatView) (counts after : List ℕ) (h : ℕ) (request : Request) (reply : Reply) (old new : Runs)
    (seat : SeatView) (n m : ℕ) → slice_get seats h ≡ Some seat → slice_get counts h ≡ Some n → after ≡ slice_set counts h m
    → IsNextOf seat n m h request reply old new → (history : List Entry) → AreListed seats counts history old
    → AreListed seats after (Asked h request reply ∷ history) new
listed_asked seats counts after h request reply old new seat n m got there set next history a =
    let x : Exchange = next.first in
    let inside = slice_get_within counts h n there in
    let more : oldest m seat.exchanges ≡ x ∷ oldest n seat.exchanges =
    ap (λ (k : ℕ). oldest k seat.exchanges) next.next ∙ oldest_more n seat.exchanges x next.there in
    let within : n < length seat.exchanges =
    omega (arith, length-reverse seat.exchanges, slice_get_within (reverse seat.exchanges) n x next.there) in
    let count = next.next in
    let lists : all_taken seats after ≡ slice_set (all_taken seats counts) h (x ∷ oldest n seat.exchanges) =
    ap (λ (l : List ℕ). all_taken seats l) set ∙ taken_set seats counts h seat m got inside
    ∙ ap (λ (l : List Exchange). slice_set (all_taken seats counts) h l) more in
    let own : IsListed h (Asked h request reply ∷ history) seat m = record {
      place = omega (arith, within, count);
      list = rw (eq-eqb h h refl, more) (next.asked, next.told, (a.each h seat n got there).list);
    } in
    record {
      each = λ k s j s_got j_got. elim (cases_eq k h) [
        | inl here ↦
            let is : seat ≡ s = some_seat seat s (sym got ∙ ap (λ (i : ℕ). slice_get seats i) (sym here) ∙ s_got) in
            let too : m ≡ j = some_count m j (sym (got_set counts h m inside) ∙ ap (λ (l : List ℕ). slice_get l h) (sym set)
            ∙ ap (λ (i : ℕ). slice_get after i) (sym here) ∙ j_got) in
            rw (← is, ← too, here) own
        | inr apart ↦
            let was : slice_get counts k ≡ Some j = sym (got_else counts h k m apart) ∙ ap (λ (l : List ℕ). slice_get l k) (sym set) ∙ j_got in
            let before = a.each k s j s_got was in
            let differs : eqb h k ≡ false = ne_eqb h k (λ e. apart (sym e)) in
            record { place = before.place; list = rw differs before.list }
      ];
      run = rw lists (run_asked history (all_taken seats counts) h request reply old new x (oldest n seat.exchanges)
          (taken_got seats counts h seat n got there) next.added next.made next.numbers a.run);
    }

pub listed_evicted : (seats : List SeatView) (counts : List ℕ) (line : ℕ) (old new : Runs) → EvictsAlso line old new
    → (history : List Entry) → AreListed seats counts history old → AreListed seats counts (Evicted line ∷ history) new
listed_evicted seats counts line old new e history a =
    let lists : List (List Exchange) = all_taken seats counts in
    let sum : hart_count (all_steps old.schedule ++ Evict line ∷ []) ≡ hart_count (all_steps old.schedule) + hart_count (Evict line ∷ []) =
    total_append (all_steps old.schedule) (Evict line ∷ []) in
    let longer : hart_count (all_steps new.schedule) ≡ hart_count (all_steps old.schedule ++ Evict line ∷ []) = ap hart_count e.added in
    let total : hart_count (all_steps old.schedule) ≡ hart_count (all_steps new.schedule) = omega (arith, sum, longer) in
    record {
      each = λ h seat n got there. let before = a.each h seat n got there in record { place = before.place; list = before.list };
      run = record {
        gathered = rw e.added (gathered_evicted history lists (all_steps old.schedule) line a.run.gathered);
        made = e.made ∙ a.run.made ∙ ap in_word total;
        numbers = e.numbers ∙ a.run.numbers ∙ ap (λ (l : List ℕ). map in_word l) (sym (numbered_evicted history lists line));
      };
    }

pub unlisted_at : (seats : List SeatView) (counts : List ℕ) (h : ℕ) (request : Request) (reply : Reply) (old : Runs) (seat : SeatView) (n : ℕ)
    → slice_get seats h ≡ Some seat → slice_get counts h ≡ Some n → IsNotNext seat.exchanges n request reply → (history later : List Entry)
    → AreListed seats counts history old → IsUnlisted seats (later ++ Asked h request reply ∷ history)
unlisted_at seats counts h request reply old seat n got there none history later a = record {
  hart = h;
  seat = seat;
  there = got;
  not = not_next h seat n history later request reply (a.each h seat n got there) none;
}

-- as seats and counts are read
pub asked_listed : (seats : List SeatView) (counts after : List ℕ) (h : ℕ) (request : Request) (reply : Reply) (old new : Runs)
    (seat : SeatView) (m : ℕ) → length seats ≤ length counts → h < length seats → seat ≡ slice_index_or seats h seat → after ≡ slice_set counts h m
    → IsNextOf seat (slice_index_or counts h 0) m h request reply old new → (history : List Entry) → AreListed seats counts history old
    → AreListed seats after (Asked h request reply ∷ history) new
asked_listed seats counts after h request reply old new seat m enough inside seat_is set next history a =
    let got : slice_get seats h ≡ Some seat = slice_get_read seats (length seats) h seat refl inside seat_is in
    let there : slice_get counts h ≡ Some (slice_index_or counts h 0) = get_of counts h 0 (omega (arith, inside, enough)) in
    listed_asked seats counts after h request reply old new seat (slice_index_or counts h 0) m got there set next history a

pub asked_unlisted : (seats : List SeatView) (counts : List ℕ) (h : ℕ) (request : Request) (reply : Reply) (old : Runs) (seat : SeatView)
    (fault : FinishFault) → length seats ≤ length counts → h < length seats → seat ≡ slice_index_or seats h seat
    → IfForeign (IsNotNext seat.exchanges (slice_index_or counts h 0) request reply) fault
    → IfForeign ((history later : List Entry) → AreListed seats counts history old → IsUnlisted seats (later ++ Asked h request reply ∷ history)) fault
asked_unlisted seats counts h request reply old seat fault enough inside seat_is refused =
    let got : slice_get seats h ≡ Some seat = slice_get_read seats (length seats) h seat refl inside seat_is in
    let there : slice_get counts h ≡ Some (slice_index_or counts h 0) = get_of counts h 0 (omega (arith, inside, enough)) in
    foreign_weaker (IsNotNext seat.exchanges (slice_index_or counts h 0) request reply)
    ((history later : List Entry) → AreListed seats counts history old → IsUnlisted seats (later ++ Asked h request reply ∷ history)) fault
    (λ none history later a. unlisted_at seats counts h request reply old seat (slice_index_or counts h 0) got there none history later a) refused

-- the loop over a history
entry_more : (history : List Entry) (i : ℕ) (d : Entry) → i < length history
    → slice_index_or history i d ∷ reverse (take i history) ≡ reverse (take (i + 1) history)
entry_more history i d inside =
    let entry : Entry = slice_index_or history i d in
    let is : entry ≡ slice_index_or history i entry = entry_is history i d inside in
    ap (λ (e : Entry). e ∷ reverse (take i history)) is ∙ sym (reverse-append (take i history) (slice_index_or history i entry ∷ []))
    ∙ ap reverse (sym (take_more history i entry inside))

pub listed_one : (seats : List SeatView) (counts after : List ℕ) (history : List Entry) (i : ℕ) (d : Entry) (old new : Runs)
    → i < length history → AreListed seats counts (reverse (take i history)) old
    → ((l : List Entry) → AreListed seats counts l old → AreListed seats after (slice_index_or history i d ∷ l) new)
    → AreListed seats after (reverse (take (i + 1) history)) new
listed_one seats counts after history i d old new inside a one =
    subst (λ (l : List Entry). AreListed seats after l new) (entry_more history i d inside) (one (reverse (take i history)) a)

pub listed_all : (seats : List SeatView) (counts : List ℕ) (history : List Entry) (i : ℕ) (runs : Runs) → length history ≤ i
    → AreListed seats counts (reverse (take i history)) runs → AreListed seats counts (reverse history) runs
listed_all seats counts history i runs whole a =
    subst (λ (l : List Entry). AreListed seats counts (reverse l) runs) (take_all i history whole) a

unlisted_in : (seats : List SeatView) (counts : List ℕ) (history : List Entry) (i : ℕ) (d : Entry) (runs : Runs) → i < length history
    → AreListed seats counts (reverse (take i history)) runs
    → ((l later : List Entry) → AreListed seats counts l runs → IsUnlisted seats (later ++ slice_index_or history i d ∷ l))
    → IsUnlisted seats (reverse history)
unlisted_in seats counts history i d runs inside a one =
    let entry : Entry = slice_index_or history i d in
    subst (λ (l : List Entry). IsUnlisted seats l) (sym (parted history i entry inside (entry_is history i d inside)))
    (one (reverse (take i history)) (reverse (drop (i + 1) history)) a)

pub list_fails : (seats : List SeatView) (counts : List ℕ) (history : List Entry) (i : ℕ) (d : Entry) (runs : Runs) (fault : FinishFault)
    → i < length history → AreListed seats counts (reverse (take i history)) runs
    → IfForeign ((l later : List Entry) → AreListed seats counts l runs → IsUnlisted seats (later ++ slice_index_or history i d ∷ l)) fault
    → IfForeign (IsUnlisted seats (reverse history)) fault
list_fails seats counts history i d runs fault inside a refused =
    foreign_weaker ((l later : List Entry) → AreListed seats counts l runs → IsUnlisted seats (later ++ slice_index_or history i d ∷ l))
    (IsUnlisted seats (reverse history)) fault (unlisted_in seats counts history i d runs inside a) refused

-- the last steps
pub whole_none : (text : List ℕ) (seats : List SeatView) (counts : List ℕ) (runs : Runs) → AreWhole text 0 seats counts runs runs
unfolding last_steps
whole_none text seats counts runs = record {
  each = λ h seat n less got there. absurd (omega (arith, less));
  added = append_nothing (all_steps runs.schedule);
  numbers = refl;
}

pub whole_one : (text : List ℕ) (n : ℕ) (seats : List SeatView) (counts : List ℕ) (old middle new : Runs) (seat : SeatView)
    → ((h : ℕ) (s : SeatView) → slice_get seats h ≡ Some s → s.hart ≡ h)
    → length seats ≤ length counts → n < length seats → seat ≡ slice_index_or seats n seat
    → AreWhole text n seats counts old middle → IsWhole text seat (slice_index_or counts n 0)
    → all_steps new.schedule ≡ all_steps middle.schedule ++ replicate seat.since (Hart seat.hart) → new.numbers.items ≡ middle.numbers.items
    → AreWhole text (n + 1) seats counts old new
whole_one text n seats counts old middle new seat numbered enough inside seat_is before whole added same =
    let also : n < length counts = omega (arith, inside, enough) in
    let got : slice_get seats n ≡ Some seat = slice_get_read seats (length seats) n seat refl inside seat_is in
    let there : slice_get counts n ≡ Some (slice_index_or counts n 0) = get_of counts n 0 also in
    record {
      each = λ h s j less s_got j_got. elim (cases_eq h n) [
        | inl here ↦
            let is : seat ≡ s = some_seat seat s (sym got ∙ ap (λ (i : ℕ). slice_get seats i) (sym here) ∙ s_got) in
            let too : slice_index_or counts n 0 ≡ j =
            some_count (slice_index_or counts n 0) j (sym there ∙ ap (λ (i : ℕ). slice_get counts i) (sym here) ∙ j_got) in
            subst (λ (k : ℕ). IsWhole text s k) too (subst (λ (y : SeatView). IsWhole text y (slice_index_or counts n 0)) is whole)
        | inr apart ↦ before.each h s j (omega (arith, less, apart)) s_got j_got
      ];
      added = last_added n seats seat (all_steps old.schedule) (all_steps middle.schedule) (all_steps new.schedule) numbered inside seat_is before.added added;
      numbers = same ∙ before.numbers;
    }

pub whole_all : (text : List ℕ) (n : ℕ) (seats : List SeatView) (counts : List ℕ) (old new : Runs) → n ≡ length seats
    → AreWhole text n seats counts old new → AreWhole text (length seats) seats counts old new
whole_all text n seats counts old new same w = subst (λ (k : ℕ). AreWhole text k seats counts old new) same w

pub end_fails_at : (text : List ℕ) (seats : List SeatView) (counts : List ℕ) (n : ℕ) (seat : SeatView) (fault : FinishFault)
    → length seats ≤ length counts → n < length seats → seat ≡ slice_index_or seats n seat
    → IfForeign (IsNotWhole text seat (slice_index_or counts n 0)) fault → IfForeign (AreNotWhole text seats counts) fault
end_fails_at text seats counts n seat fault enough inside seat_is refused =
    let also : n < length counts = omega (arith, inside, enough) in
    foreign_weaker (IsNotWhole text seat (slice_index_or counts n 0)) (AreNotWhole text seats counts) fault (λ none. record {
      hart = n;
      seat = seat;
      count = slice_index_or counts n 0;
      there = slice_get_read seats (length seats) n seat refl inside seat_is;
      beside = get_of counts n 0 also;
      not = none;
    }) refused

-- why a seat isn't whole
pub not_loaded : (text : List ℕ) (seat : SeatView) (n : ℕ) → seat.text ≢ text → IsNotWhole text seat n
not_loaded text seat n apart loaded used = apart loaded

pub not_used : (text : List ℕ) (seat : SeatView) (n : ℕ) (items : List Exchange) → reverse items ≡ seat.exchanges → n ≢ length items
    → IsNotWhole text seat n
not_used text seat n items turned apart loaded used =
    apart (used ∙ sym (ap (λ (l : List Exchange). length l) turned) ∙ length-reverse items)

pub is_whole : (text : List ℕ) (seat : SeatView) (n : ℕ) (items : List Exchange) → seat.text ≡ text → reverse items ≡ seat.exchanges
    → n ≡ length items → AreCounted seat.made seat.budget seat.since seat.exchanges → IsWhole text seat n
is_whole text seat n items loaded turned used counted = record {
  loaded = loaded;
  used = used ∙ sym (length-reverse items) ∙ ap (λ (l : List Exchange). length l) turned;
  counted = counted;
}

-- no number is past the last step
counted_before : (before all later : List Step) → all ≡ before ++ later → hart_count before ≤ hart_count all
counted_before before all later split =
    let sum = ap hart_count split ∙ total_append before later in
    omega (arith, sum)

same_numbers : (total : ℕ) (events : List Event) → total < 2 ^ 32
    → map in_word (map (λ (event : Event). total) events) ≡ map (λ (event : Event). total) events
same_numbers total [] few = refl
same_numbers total (event ∷ events) few =
    ap (λ (n : ℕ). n ∷ map in_word (map (λ (e : Event). total) events)) (mod-eq_of_lt few)
    ∙ ap (λ (l : List ℕ). total ∷ l) (same_numbers total events few)

numbers_within : (history : List Entry) (lists : List (List Exchange)) → hart_count (gathered history lists) < 2 ^ 32
    → map in_word (numbered history lists) ≡ numbered history lists
unfolding numbered gathered
numbers_within [] lists few = refl
numbers_within (Evicted line ∷ before) lists few =
    numbers_within before lists (omega (arith, few, total_append (gathered before lists) (Evict line ∷ [])))
numbers_within (Asked h request reply ∷ before) lists few =
    let others : List (List Exchange) = slice_set lists h (earlier (slice_index_or lists h [])) in
    let own : List Step = replicate (steps_to (slice_index_or lists h [])) (Hart h) ++ Hart h ∷ [] in
    let total : ℕ = hart_count (gathered before others ++ own) in
    let later : List ℕ = map (λ (event : Event). total) (events_of h request reply) in
    let rest = numbers_within before others (omega (arith, few, total_append (gathered before others) own)) in
    map-append in_word (numbered before others) later ∙ ap (λ (l : List ℕ). l ++ map in_word later) rest
    ∙ ap (λ (l : List ℕ). numbered before others ++ l) (same_numbers total (events_of h request reply) few)

-- what the seats have made
pub is_account : (core : CoreView) (seats : List SeatView) (counts : List ℕ) (old new : Runs) (items : List Item) (numbers : List ℕ)
    (history : List Entry) → length seats ≡ core.harts → core.harts ≤ 8 → ((h : ℕ) (s : SeatView) → slice_get seats h ≡ Some s → s.hart ≡ h)
    → length seats ≤ length counts → reverse history ≡ core.history → AreListed seats counts (reverse history) old
    → AreWhole core.program.text (length seats) seats counts old new → all_steps items ≡ all_steps new.schedule → numbers ≡ new.numbers.items
    → IsAccountOf core seats items numbers
is_account core seats counts old new items numbers history count most numbered_so enough turned a w made same =
    let listed : AreListed seats counts core.history old = subst (λ (l : List Entry). AreListed seats counts l old) turned a in
    let whole : (h : ℕ) (s : SeatView) (n : ℕ) → slice_get seats h ≡ Some s → slice_get counts h ≡ Some n → IsWhole core.program.text s n =
    λ h s n got there. w.each h s n (slice_get_within seats h s got) got there in
    let beside : (h : ℕ) (s : SeatView) → slice_get seats h ≡ Some s → (n : ℕ) × (slice_get counts h ≡ Some n) = λ h s got.
    let inside = slice_get_within seats h s got in there_is counts h (omega (arith, inside, enough)) in
    let lists : all_taken seats counts ≡ map (λ (seat : SeatView). seat.exchanges) seats =
    taken_used seats counts enough (λ h s n got there. let x = whole h s n got there in x.used) in
    let run : AreRun core.history (map (λ (seat : SeatView). seat.exchanges) seats) old =
    subst (λ (l : List (List Exchange)). AreRun core.history l old) lists listed.run in
    let counts_are : (h : ℕ) (s : SeatView) → slice_get seats h ≡ Some s → AreCounted s.made s.budget s.since s.exchanges = λ h s got.
    let n = beside h s got in
    let x = whole h s n.0 got n.1 in x.counted in
    let added : all_steps items ≡ all_steps old.schedule ++ last_steps 0 seats =
    made ∙ (w.added ∙ ap (λ (l : List SeatView). all_steps old.schedule ++ last_steps 0 l) (take_all (length seats) seats (omega arith))) in
    let schedule : IsScheduleOf core seats items =
    scheduled core seats items (all_steps old.schedule) most count counts_are run.gathered added in
    let few : hart_count (gathered core.history (map (λ (seat : SeatView). seat.exchanges) seats)) < 2 ^ 32 =
    let steps = ap hart_count run.gathered.steps_are in
    let within = counted_before (all_steps old.schedule) (all_steps items) (last_steps 0 seats) added in
    let all = hart_steps_are items in
    let limit = schedule.few in
    omega (arith, steps, within, all, limit) in
    record {
      loaded = λ h s got. let n = beside h s got in let x = whole h s n.0 got n.1 in x.loaded;
      list = λ h s got.
          let n = beside h s got in
          let x = whole h s n.0 got n.1 in
          let own = listed.each h s n.0 got n.1 in
          subst (λ (k : ℕ). IsListOf k core.history s.exchanges) (sym (numbered_so h s got))
          (subst (λ (l : List Exchange). IsListOf h core.history l) (oldest_all n.0 s.exchanges x.used) own.list);
      schedule = schedule;
      numbers_are = same ∙ w.numbers ∙ run.numbers
          ∙ numbers_within core.history (map (λ (seat : SeatView). seat.exchanges) seats) few;
    }

-- where a list isn't its hart's, or a seat not whole, not all seats agree
unlisted_none : (core : CoreView) (seats : List SeatView) (history : List Entry) → ((h : ℕ) (s : SeatView) → slice_get seats h ≡ Some s → s.hart ≡ h)
    → reverse history ≡ core.history → IsUnlisted seats (reverse history) → NoneAgree core seats
unlisted_none core seats history numbered turned u each =
    let a = each u.hart u.seat u.there in
    let list : IsListOf u.seat.hart core.history u.seat.exchanges =
    list_of_part (starting_memory core.program core.start) u.seat.hart core.history u.seat.exchanges a.from a.part in
    u.not (subst (λ (l : List Entry). IsListOf u.hart l u.seat.exchanges) (sym turned)
    (subst (λ (k : ℕ). IsListOf k core.history u.seat.exchanges) (numbered u.hart u.seat u.there) list))

pub unlisted_fails : (core : CoreView) (seats : List SeatView) (history : List Entry) (fault : FinishFault)
    → ((h : ℕ) (s : SeatView) → slice_get seats h ≡ Some s → s.hart ≡ h) → reverse history ≡ core.history
    → IfForeign (IsUnlisted seats (reverse history)) fault → IfForeign (NoneAgree core seats) fault
unlisted_fails core seats history fault numbered turned refused =
    foreign_weaker (IsUnlisted seats (reverse history)) (NoneAgree core seats) fault (unlisted_none core seats history numbered turned) refused

not_whole_none : (core : CoreView) (seats : List SeatView) (counts : List ℕ) (runs : Runs) (history : List Entry)
    → ((h : ℕ) (s : SeatView) → slice_get seats h ≡ Some s → s.hart ≡ h) → reverse history ≡ core.history
    → AreListed seats counts (reverse history) runs → AreNotWhole core.program.text seats counts → NoneAgree core seats
not_whole_none core seats counts runs history numbered turned a w each =
    let seat : SeatView = w.seat in
    let agrees = each w.hart seat w.there in
    let number : seat.hart ≡ w.hart = numbered w.hart seat w.there in
    let list : IsListOf seat.hart core.history seat.exchanges =
    list_of_part (starting_memory core.program core.start) seat.hart core.history seat.exchanges agrees.from agrees.part in
    let listed = a.each w.hart seat w.count w.there w.beside in
    let own : IsListOf seat.hart core.history (oldest w.count seat.exchanges) =
    subst (λ (k : ℕ). IsListOf k core.history (oldest w.count seat.exchanges)) (sym number)
    (subst (λ (l : List Entry). IsListOf w.hart l (oldest w.count seat.exchanges)) turned listed.list) in
    let used : w.count ≡ length seat.exchanges =
    sym (oldest_size w.count seat.exchanges listed.place) ∙ long_as seat.hart core.history (oldest w.count seat.exchanges) seat.exchanges own list in
    w.not agrees.text used

pub not_whole_fails : (core : CoreView) (seats : List SeatView) (counts : List ℕ) (runs : Runs) (history : List Entry) (fault : FinishFault)
    → ((h : ℕ) (s : SeatView) → slice_get seats h ≡ Some s → s.hart ≡ h) → reverse history ≡ core.history
    → AreListed seats counts (reverse history) runs → IfForeign (AreNotWhole core.program.text seats counts) fault
    → IfForeign (NoneAgree core seats) fault
not_whole_fails core seats counts runs history fault numbered turned a refused =
    foreign_weaker (AreNotWhole core.program.text seats counts) (NoneAgree core seats) fault
    (not_whole_none core seats counts runs history numbered turned a) refused

-- the whole text region is padded by nothing, so that the text of the start is the program's
padded_whole : (bytes : List ℕ) (size : ℕ) → length bytes ≡ size → padded bytes size ≡ bytes
unfolding padded
padded_whole bytes size whole =
    let none : size - length bytes ≡ 0 = omega (arith, whole) in
    rw none (append-nil bytes)

first_text : (core : CoreView) → length core.program.text ≡ TEXT_SIZE
    → text_bytes core.program.text ≡ text_of (starting_memory core.program core.start)
first_text core whole =
    ap (λ (bytes : List ℕ). text_bytes bytes) (sym (padded_whole core.program.text TEXT_SIZE whole))
    ∙ text_there (record { text = padded core.program.text TEXT_SIZE; bytes = padded core.program.static_data DATA_SIZE }) (line_bytes core.start)

-- seats whose harts were led by the text of the start
pub all_agree_so : (core : CoreView) (seats : List SeatView) → length core.program.text ≡ TEXT_SIZE → length seats ≡ core.harts
    → ((h : ℕ) (s : SeatView) → slice_get seats h ≡ Some s → s.hart ≡ h)
    → ((h : ℕ) (s : SeatView) → slice_get seats h ≡ Some s → s.text ≡ core.program.text)
    → ((h : ℕ) (s : SeatView) → slice_get seats h ≡ Some s → IsListOf s.hart core.history s.exchanges) → AllLed seats
    → ((h : ℕ) (s : SeatView) → slice_get seats h ≡ Some s → s.copy ≡ core.program.text) → AllAgree core seats
all_agree_so core seats whole count numbered loaded list led copies = record {
  count = count;
  numbered = numbered;
  each = λ h s got.
      agrees_so core s core.program.text (first_text core whole) (list h s got) (loaded h s got) (copies h s got) (led h s got);
}

pub other_copy_fails : (core : CoreView) (seats : List SeatView) → length core.program.text ≡ TEXT_SIZE
    → ((h : ℕ) (s : SeatView) → slice_get seats h ≡ Some s → IsListOf s.hart core.history s.exchanges) → AllLed seats
    → HasOtherCopy core.program.text seats → NoneAgree core seats
other_copy_fails core seats whole list led w each =
    let seat : SeatView = w.seat in
    let initial : Memory = starting_memory core.program core.start in
    let agrees = each w.hart seat w.there in
    let l = led w.hart seat w.there in
    let copies : text_bytes seat.copy ≡ text_bytes core.program.text =
    agrees.copy ∙ copied_same initial (text_bytes seat.copy) seat.hart core.history seat.exchanges l.from (list w.hart seat w.there) l.made
    ∙ sym (first_text core whole) in
    w.not copies

-- the loops over seats
pub led_one : (seats : List SeatView) (n : ℕ) (seat : SeatView) → n < length seats → seat ≡ slice_index_or seats n seat
    → IsLed seat.hart seat.copy seat.exchanges seat.since seat.state
    → ((h : ℕ) (s : SeatView) → h < n → slice_get seats h ≡ Some s → IsLed s.hart s.copy s.exchanges s.since s.state)
    → (h : ℕ) (s : SeatView) → h < n + 1 → slice_get seats h ≡ Some s → IsLed s.hart s.copy s.exchanges s.since s.state
led_one seats n seat inside seat_is led before h s less s_got =
    let got : slice_get seats n ≡ Some seat = slice_get_read seats (length seats) n seat refl inside seat_is in
    elim (cases_eq h n) [
      | inl here ↦
          let is : seat ≡ s = some_seat seat s (sym got ∙ ap (λ (i : ℕ). slice_get seats i) (sym here) ∙ s_got) in
          subst (λ (y : SeatView). IsLed y.hart y.copy y.exchanges y.since y.state) is led
      | inr apart ↦ before h s (omega (arith, less, apart)) s_got
    ]

pub led_whole : (seats : List SeatView) (n : ℕ) → length seats ≤ n
    → ((h : ℕ) (s : SeatView) → h < n → slice_get seats h ≡ Some s → IsLed s.hart s.copy s.exchanges s.since s.state) → AllLed seats
led_whole seats n whole each h s got = each h s (omega (arith, whole, slice_get_within seats h s got)) got

pub copies_one : (copy : List ℕ) (seats : List SeatView) (n : ℕ) (seat : SeatView) → n < length seats → seat ≡ slice_index_or seats n seat
    → seat.copy ≡ copy → ((h : ℕ) (s : SeatView) → h < n → slice_get seats h ≡ Some s → s.copy ≡ copy)
    → (h : ℕ) (s : SeatView) → h < n + 1 → slice_get seats h ≡ Some s → s.copy ≡ copy
copies_one copy seats n seat inside seat_is same before h s less s_got =
    let got : slice_get seats n ≡ Some seat = slice_get_read seats (length seats) n seat refl inside seat_is in
    elim (cases_eq h n) [
      | inl here ↦
          let is : seat ≡ s = some_seat seat s (sym got ∙ ap (λ (i : ℕ). slice_get seats i) (sym here) ∙ s_got) in
          ap (λ (y : SeatView). y.copy) (sym is) ∙ same
      | inr apart ↦ before h s (omega (arith, less, apart)) s_got
    ]

pub copies_whole : (copy : List ℕ) (seats : List SeatView) (n : ℕ) → length seats ≤ n
    → ((h : ℕ) (s : SeatView) → h < n → slice_get seats h ≡ Some s → s.copy ≡ copy)
    → (h : ℕ) (s : SeatView) → slice_get seats h ≡ Some s → s.copy ≡ copy
copies_whole copy seats n whole each h s got = each h s (omega (arith, whole, slice_get_within seats h s got)) got

pub copy_differs : (copy : List ℕ) (seats : List SeatView) (n : ℕ) (seat : SeatView) → n < length seats → seat ≡ slice_index_or seats n seat
    → length seat.copy ≡ TEXT_SIZE → length copy ≡ TEXT_SIZE → seat.copy ≢ copy → HasOtherCopy copy seats
copy_differs copy seats n seat inside seat_is one other apart = record {
  hart = n;
  seat = seat;
  there = slice_get_read seats (length seats) n seat refl inside seat_is;
  not = λ same. apart (texts_same seat.copy copy one other same);
}

-- what was found out
pub is_so : (b : Bool) (P Q : Type 0) → b ≡ true → MatchBool b P Q → P
is_so true P Q is found = found
is_so false P Q is found = absurd (cc)

pub not_so : (b : Bool) (P Q : Type 0) → b ≡ false → MatchBool b P Q → Q
not_so true P Q is found = absurd (cc)
not_so false P Q is found = found
