-- Where a seat can't be followed, it doesn't agree.
use Rattle.std.proofs.Common.{◌≡◌, ◌≢◌, ℕ, zero, suc, ◌+◌, ◌<◌, ◌≤◌, List, [], ◌∷◌, ◌++◌, Option, Some, None, Bool, MatchBool, true, false, eqb, length, reverse, slice_get, slice_index_or, take, drop, refl, sym, ap, subst, ◌∙◌, inl, inr, append_assoc, arith}
use Rattle.std.proofs.lemmas.Bool.{cases_Bool, cases_eq, cases_lt}
use Rattle.std.proofs.lemmas.List.{length-reverse, length-take, reverse-append, reverse-reverse, take-append-drop, take_more}
use Rattle.std.proofs.lemmas.Option.{get_or_from_slice_get, slice_get-get_or, slice_get_read, slice_get_within}
use Rattle.std.proofs.lemmas.List.Sorted.{All-permutation}
use Rattle.std.specs.List.{All}
use Rattle.std.specs.List.Sorted.{IsPermutation}
use Rattle.isa_table.specs.Table.{Spells}
use Rattle.isa_table.specs.declared.instruction.Instr.{Instr}
use Rattle.decode.specs.Decoding.{Decodes}
use Rattle.hart.specs.Effect.{answered}
use Rattle.hart.specs.Needs.{IsSpelledBy, Needs}
use Rattle.hart.specs.declared.state.HartState.{HartState}
use Rattle.hart.specs.declared.need.Need.{Need}
use Rattle.hart.specs.declared.need.Need.TheVariants.{Local, Ask, Stop}
use Rattle.hart.specs.declared.need.Request.{Request}
use Rattle.hart.specs.declared.need.Reply.{Reply}
use Rattle.program.specs.Sections.{Sections}
use Rattle.line_memory.specs.Memory.{Memory}
use Rattle.line_memory.specs.declared.TheConstants.{TEXT_BASE, TEXT_SIZE}
use Rattle.line_memory.proofs.Accesses.{region_byte}
use Rattle.machine.proofs.Determined.{needs_once}
use Rattle.machine.specs.Run.{fetched}
use Rattle.machine.specs.Represents.{text_bytes}
use Rattle.machine.specs.Histories.{fetched_text}
use Rattle.machine.specs.Replies.{reply_after, starting_memory}
use Rattle.machine.specs.declared.shared_memory.history.Entry.{Entry}
use Rattle.machine.specs.declared.shared_memory.history.Entry.TheVariants.{Asked, Evicted}
use Rattle.bus.specs.declared.exchange.Exchange.{Exchange}
use Rattle.bus.specs.declared.finish_fault.FinishFault.{FinishFault}
use Rattle.bus.specs.declared.finish_fault.FinishFault.TheVariants.{SeatMissing, SeatNumber, Foreign, Memory as NoMemory}
use Rattle.bus.specs.declared.follower.Follower.{Follower}
use Rattle.bus.specs.Agreeing.{Agrees, Exchanges, IsPart, LastIs}
use Rattle.bus.specs.Alone.{Asks, GoesAlone, IsAsking, LeavesAlone, StepsAlone}
use Rattle.bus.specs.Ending.{EachAgrees, RefusesGathering}
use Rattle.bus.specs.Following.{AllFollow, AreForeign, ArePaired, CannotEnd, CannotFollow, CannotMake, EndsNot, Follows, GoesNot, HaveFollowed, IfForeign, IsFreshOf, IsNotNext, made_of, oldest}
use Rattle.bus.specs.Gathered.{earlier}
use Rattle.bus.specs.Numbering.{ArePlaced}
use Rattle.bus.specs.Replays.{CoreView, IsReplay, common_of, replay}
use Rattle.bus.specs.Seats.{SeatView}
use Rattle.bus.specs.Together.{RefusesFinish}
use Rattle.bus.proofs.Following.{asking_stays}
use Rattle.bus.proofs.Gathering.{evicted_here, newest, told_here}
use Rattle.bus.proofs.Replayed.{entry_is}

-- a step alone leads to one state
leaves_once : (s t u : HartState) (need : Need) → LeavesAlone s need t → LeavesAlone s need u → t ≡ u
leaves_once s t u (Local after) a b = a ∙ sym b
leaves_once s t u (Stop trap) a b = a ∙ sym b
leaves_once s t u (Ask request) a b = absurd a

pub steps_once : (text : Memory) (s t u : HartState) → StepsAlone text s t → StepsAlone text s u → t ≡ u
steps_once text s t u a b =
    let same : b.need ≡ a.need = needs_once s (fetched text s.pc) b.need a.need b.needs a.needs in
    leaves_once s t u a.need a.leaves (subst (λ (need : Need). LeavesAlone s need u) same b.leaves)

pub goes_once : (text : Memory) (n : ℕ) (s t u : HartState) → GoesAlone text n s t → GoesAlone text n s u → t ≡ u
goes_once text zero s t u a b = a ∙ sym b
goes_once text (suc n) s t u a b =
    let same : b.0 ≡ a.0 = goes_once text n s b.0 a.0 b.1 a.1 in
    steps_once text a.0 t u a.2 (subst (λ (m : HartState). StepsAlone text m u) same b.2)

-- a step on the way
record Within (text : Memory) (n : ℕ) (s : HartState) : Type 0 where
  pub at : HartState
  pub after : HartState
  pub goes : GoesAlone text n s at
  pub step : StepsAlone text at after

goes_within : (text : Memory) (k n : ℕ) (s t : HartState) → n < k → GoesAlone text k s t → Within text n s
goes_within text zero n s t less goes = absurd (omega (arith, less))
goes_within text (suc k) n s t less goes = elim (cases_eq n k) [
  | inl here ↦ record { at = goes.0; after = t; goes = subst (λ (j : ℕ). GoesAlone text j s goes.0) (sym here) goes.1; step = goes.2 }
  | inr apart ↦ goes_within text k n s goes.0 (omega (arith, less, apart)) goes.1
]

-- where a hart is stuck, it makes no further steps
pub stuck : (text : Memory) (n k : ℕ) (s t : HartState) → n < k → GoesAlone text n s t → ((u : HartState) → StepsAlone text t u → ⊥) → GoesNot text k s
stuck text n k s t less goes stays u all =
    let within = goes_within text k n s u less all in
    let same : within.at ≡ t = goes_once text n s within.at t within.goes goes in
    stays within.after (subst (λ (m : HartState). StepsAlone text m within.after) same within.step)

-- a hart asks after one number of steps
not_less : (text : Memory) (n k : ℕ) (s t u : HartState) (request : Request) → GoesAlone text n s t → Asks text t request → GoesAlone text k s u → n < k → ⊥
not_less text n k s t u request goes asks all less =
    stuck text n k s t less goes (λ v step. asking_stays text t v request asks step) u all

asks_after : (text : Memory) (n k : ℕ) (s t u : HartState) (request other : Request) → GoesAlone text n s t → Asks text t request
    → GoesAlone text k s u → Asks text u other → n ≡ k
asks_after text n k s t u request other goes asks all too = elim (cases_eq n k) [
  | inl same ↦ same
  | inr apart ↦ elim (cases_lt n k) [
    | inl less ↦ absurd (not_less text n k s t u request goes asks all less)
    | inr most ↦ absurd (not_less text k n s u t other all too goes (omega (arith, most, apart)))
  ]
]

-- an instruction has one spelling
spells_one : (w : ℕ) (o : Option Instr) (i j : Instr) → Decodes w o → Spells w i → Spells w j → i ≡ j
spells_one w o i j decodes a b =
    let e : Some i ≡ Some j = sym (decodes.all i a) ∙ decodes.all j b in cc

spelled_once : (s : HartState) (word : Option ℕ) (need : Need) (i j : Instr) → Needs s word need → IsSpelledBy word i → IsSpelledBy word j → i ≡ j
spelled_once s None need i j needs a b = absurd a
spelled_once s (Some w) need i j needs a b = spells_one w needs.0 i j needs.1 a b

-- an exchange is one, and leads to one state
exchange_is : (x y : Exchange) → x.steps ≡ y.steps → x.request ≡ y.request → x.reply ≡ y.reply → x ≡ y
exchange_is x y steps request reply =
    ap (λ (n : ℕ). record { steps = n; request = x.request; reply = x.reply }) steps
    ∙ ap (λ (q : Request). record { steps = y.steps; request = q; reply = x.reply }) request
    ∙ ap (λ (r : Reply). record { steps = y.steps; request = y.request; reply = r }) reply

exchange_once : (text : Memory) (s t u : HartState) (x y : Exchange) → x.request ≡ y.request → x.reply ≡ y.reply → Exchanges text s x t
    → Exchanges text s y u → (x ≡ y) × (t ≡ u)
exchange_once text s t u x y request reply a b =
    let steps : x.steps ≡ y.steps = asks_after text x.steps y.steps s a.at b.at x.request y.request a.alone a.asks b.alone b.asks in
    let at : b.at ≡ a.at = goes_once text x.steps s b.at a.at (subst (λ (n : ℕ). GoesAlone text n s b.at) (sym steps) b.alone) a.alone in
    let spelled : IsSpelledBy (fetched text a.at.pc) b.instr = subst (λ (m : HartState). IsSpelledBy (fetched text m.pc) b.instr) at b.spelled in
    let instr : a.instr ≡ b.instr =
    spelled_once a.at (fetched text a.at.pc) (Ask x.request) a.instr b.instr a.asks.needs a.spelled spelled in (
      exchange_is x y steps request reply,
      a.answered ∙ ap (λ (m : HartState). answered m a.instr x.reply) (sym at) ∙ ap (λ (i : Instr). answered b.at i x.reply) instr
          ∙ ap (λ (r : Reply). answered b.at b.instr r) reply ∙ sym b.answered,
    )

-- one part of a history is one list, and leads to one state
last_once : (text : Memory) (request : Request) (reply : Reply) (Before : List Exchange → HartState → Type 0) (xs ys : List Exchange) (s t : HartState)
    → ((vs ws : List Exchange) (v w : HartState) → Before vs v → Before ws w → (vs ≡ ws) × (v ≡ w))
    → LastIs text request reply Before xs s → LastIs text request reply Before ys t → (xs ≡ ys) × (s ≡ t)
last_once text request reply Before [] ys s t once a b = absurd a
last_once text request reply Before (x ∷ xs) [] s t once a b = absurd b
last_once text request reply Before (x ∷ xs) (y ∷ ys) s t once a b =
    let before = once xs ys a.2.0 b.2.0 a.2.1 b.2.1 in
    let own : Exchanges text a.2.0 y t = subst (λ (m : HartState). Exchanges text m y t) (sym before.1) b.2.2 in
    let one = exchange_once text a.2.0 s t x y (a.0 ∙ sym b.0) (a.1 ∙ sym b.1) a.2.2 own in
    (ap (λ (z : Exchange). z ∷ xs) one.0 ∙ ap (λ (l : List Exchange). y ∷ l) before.0, one.1)

pub one_part : (initial : Memory) (h : ℕ) (history : List Entry) (xs ys : List Exchange) (s t : HartState) → IsPart initial h history xs s
    → IsPart initial h history ys t → (xs ≡ ys) × (s ≡ t)
one_part initial h [] xs ys s t a b = (a.0 ∙ sym b.0, a.1 ∙ sym b.1)
one_part initial h (Evicted line ∷ before) xs ys s t a b = one_part initial h before xs ys s t a b
one_part initial h (Asked g request reply ∷ before) xs ys s t a b = elim (cases_Bool (eqb g h)) [
  | inl same ↦
      last_once (fetched_text initial h before) request reply (IsPart initial h before) xs ys s t
      (λ vs ws v w p q. one_part initial h before vs ws v w p q) (rw same at a) (rw same at b)
  | inr other ↦ one_part initial h before xs ys s t (rw other at a) (rw other at b)
]

-- the part of the history up to an earlier place
record PartBack (initial : Memory) (h : ℕ) (before : List Entry) (xs : List Exchange) : Type 0 where
  pub later : List Exchange
  pub earliest : List Exchange
  pub from : HartState
  pub split : xs ≡ later ++ earliest
  pub part : IsPart initial h before earliest from

last_back : (text : Memory) (request : Request) (reply : Reply) (initial : Memory) (h : ℕ) (history before : List Entry) (xs : List Exchange) (t : HartState)
    → ((ys : List Exchange) (s : HartState) → IsPart initial h history ys s → PartBack initial h before ys)
    → LastIs text request reply (IsPart initial h history) xs t → PartBack initial h before xs
last_back text request reply initial h history before [] t back last = absurd last
last_back text request reply initial h history before (x ∷ xs) t back last =
    let rest = back xs last.2.0 last.2.1 in
    record {
      later = x ∷ rest.later;
      earliest = rest.earliest;
      from = rest.from;
      split = ap (λ (l : List Exchange). x ∷ l) rest.split;
      part = rest.part;
    }

part_back : (initial : Memory) (h : ℕ) (later before : List Entry) (xs : List Exchange) (t : HartState) → IsPart initial h (later ++ before) xs t
    → PartBack initial h before xs
part_back initial h [] before xs t part = record { later = []; earliest = xs; from = t; split = refl; part = part }
part_back initial h (Evicted line ∷ later) before xs t part = part_back initial h later before xs t part
part_back initial h (Asked g request reply ∷ later) before xs t part = elim (cases_Bool (eqb g h)) [
  | inl same ↦
      last_back (fetched_text initial h (later ++ before)) request reply initial h (later ++ before) before xs t
      (λ ys s p. part_back initial h later before ys s p) (rw same at part)
  | inr other ↦ part_back initial h later before xs t (rw other at part)
]

told_back : (program : Sections) (lines : List (List ℕ)) (later before : List Entry) → (replay program lines (later ++ before)).history ≡ later ++ before
    → (replay program lines before).history ≡ before
told_back program lines [] before told = told
told_back program lines (Asked h request reply ∷ later) before told =
    let t = told_here program lines (later ++ before) h request reply told in
    told_back program lines later before t.1
told_back program lines (Evicted line ∷ later) before told =
    told_back program lines later before (evicted_here program lines (later ++ before) line told)

-- the next of the exchanges
got_after : (xs ys : List Exchange) (x : Exchange) → slice_get (xs ++ x ∷ ys) (length xs) ≡ Some x
got_after [] ys x = refl
got_after (y ∷ xs) ys x = got_after xs ys x

pub next_is : (later made xs : List Exchange) (x : Exchange) (n : ℕ) → xs ≡ later ++ x ∷ made → length made ≡ n → slice_get (reverse xs) n ≡ Some x
next_is later made xs x n split size =
    let turned : reverse xs ≡ reverse made ++ x ∷ reverse later =
    ap reverse split ∙ reverse-append later (x ∷ made) ∙ ap (λ (l : List Exchange). l ++ reverse later) (reverse-append (x ∷ []) made)
    ∙ append_assoc (reverse made) (x ∷ []) (reverse later) in
    let place : length (reverse made) ≡ n = length-reverse made ∙ size in
    ap (λ (l : List Exchange). slice_get l n) turned
    ∙ ap (λ (k : ℕ). slice_get (reverse made ++ x ∷ reverse later) k) (sym place) ∙ got_after (reverse made) (reverse later) x

pub oldest_size : (n : ℕ) (xs : List Exchange) → n ≤ length xs → length (oldest n xs) ≡ n
oldest_size n xs fits =
    let size = length-reverse xs in
    let taken = length-take n (reverse xs) in
    length-reverse (take n (reverse xs)) ∙ omega (arith, fits, size, taken)

told_as : (p q : Sections) (k l : List (List ℕ)) (xs ys : List Entry) → p ≡ q → k ≡ l → xs ≡ ys → (replay p k xs).history ≡ xs
    → (replay q l ys).history ≡ ys
told_as p q k l xs ys program lines history told =
    subst (λ (h : List Entry). (replay q l h).history ≡ h) history
    (subst (λ (m : List (List ℕ)). (replay q m xs).history ≡ xs) lines
    (subst (λ (r : Sections). (replay r k xs).history ≡ xs) program told))

-- a request that a seat can't make isn't in the history of a core that it agrees with
cannot_agree : (core full : CoreView) (seat : SeatView) (f : Follower) (later : List Entry) (request : Request) (reply : Reply)
    → full.program ≡ core.program → full.start ≡ core.start → full.history ≡ later ++ Asked seat.hart request reply ∷ core.history
    → (replay full.program full.start full.history).history ≡ full.history
    → Follows core seat f → CannotMake core seat f request reply → Agrees full seat → ⊥
cannot_agree core full seat f later request reply program lines history told follows cannot agrees =
    let h : ℕ = seat.hart in
    let initial : Memory = starting_memory core.program core.start in
    let before : List Entry = core.history in
    let same : starting_memory full.program full.start ≡ initial =
    ap (λ (p : Sections). starting_memory p full.start) program ∙ ap (λ (l : List (List ℕ)). starting_memory core.program l) lines in
    let whole : IsPart initial h (later ++ Asked h request reply ∷ before) seat.exchanges agrees.from =
    subst (λ (l : List Entry). IsPart initial h l seat.exchanges agrees.from) history
    (subst (λ (m : Memory). IsPart m h full.history seat.exchanges agrees.from) same agrees.part) in
    let back = part_back initial h later (Asked h request reply ∷ before) seat.exchanges agrees.from whole in
    let last = newest initial h before request reply back.earliest back.from back.part in
    let x : Exchange = last.first in
    let xs : List Exchange = earlier back.earliest in
    let one = one_part initial h before xs (made_of seat f) last.from f.state last.part follows.part in
    let split : seat.exchanges ≡ back.later ++ x ∷ xs = back.split ∙ ap (λ (l : List Exchange). back.later ++ l) last.list_is in
    let size : length xs ≡ f.next = ap (λ (l : List Exchange). length l) one.0 ∙ oldest_size f.next seat.exchanges follows.place in
    let there : slice_get (reverse seat.exchanges) f.next ≡ Some x = next_is back.later xs seat.exchanges x f.next split size in
    let told_all : (replay core.program core.start (later ++ Asked h request reply ∷ before)).history ≡ later ++ Asked h request reply ∷ before =
    told_as full.program core.program full.start core.start full.history (later ++ Asked h request reply ∷ before) program lines history told in
    let told_one = told_here core.program core.start before h request reply
    (told_back core.program core.start later (Asked h request reply ∷ before) told_all) in
    let exchanges : Exchanges (text_bytes f.copy) f.state x back.from =
    subst (λ (m : HartState). Exchanges (text_bytes f.copy) m x back.from) one.1
    (subst (λ (text : Memory). Exchanges text last.from x back.from) (sym follows.copy) last.exchanges) in
    cannot x back.from there last.asks last.told told_one.0 exchanges

-- a history, up to an entry and after it
pub parted : (history : List Entry) (i : ℕ) (entry : Entry) → i < length history → entry ≡ slice_index_or history i entry
    → reverse history ≡ reverse (drop (i + 1) history) ++ entry ∷ reverse (take i history)
parted history i entry inside is =
    let front : take (i + 1) history ≡ take i history ++ entry ∷ [] =
    take_more history i entry inside ∙ ap (λ (e : Entry). take i history ++ e ∷ []) (sym is) in
    ap reverse (sym (take-append-drop (i + 1) history)) ∙ reverse-append (take (i + 1) history) (drop (i + 1) history)
    ∙ ap (λ (l : List Entry). reverse (drop (i + 1) history) ++ reverse l) front
    ∙ ap (λ (l : List Entry). reverse (drop (i + 1) history) ++ l) (reverse-append (take i history) (entry ∷ []))

pub foreign_at : (core middle : CoreView) (seats : List SeatView) (fs gs : List Follower) (history : List Entry) (i : ℕ) (d : Entry)
    → ((h : ℕ) (s : SeatView) → slice_get seats h ≡ Some s → s.hart ≡ h) → i < length history
    → HaveFollowed core middle seats fs gs (reverse (take i history)) → CannotFollow middle seats gs (slice_index_or history i d)
    → AllFollow core seats fs → AreForeign core seats (reverse history)
foreign_at core middle seats fs gs history i d numbered inside before cannot all full program lines history_is told each =
    let entry : Entry = slice_index_or history i d in
    let is : entry ≡ slice_index_or history i entry = entry_is history i d inside in
    let seat : SeatView = cannot.seat in
    let f : Follower = cannot.follower in
    let number : seat.hart ≡ cannot.hart = numbered cannot.hart seat cannot.there in
    let asked : entry ≡ Asked seat.hart cannot.request cannot.reply =
    cannot.asked ∙ ap (λ (h : ℕ). Asked h cannot.request cannot.reply) (sym number) in
    let then : middle.history ≡ reverse (take i history) = ap (λ (c : CoreView). c.history) before.core in
    let later : List Entry = reverse (drop (i + 1) history) in
    let split : full.history ≡ later ++ Asked seat.hart cannot.request cannot.reply ∷ middle.history =
    history_is ∙ parted history i entry inside is ∙ ap (λ (e : Entry). later ++ e ∷ reverse (take i history)) asked
    ∙ ap (λ (l : List Entry). later ++ Asked seat.hart cannot.request cannot.reply ∷ l) (sym then) in
    cannot_agree middle full seat f later cannot.request cannot.reply (program ∙ sym (ap (λ (c : CoreView). c.program) before.core))
    (lines ∙ sym (ap (λ (c : CoreView). c.start) before.core)) split told (before.follow all cannot.hart seat f cannot.there cannot.beside)
    cannot.cannot (each cannot.hart seat cannot.there)

-- a seat whose last steps lead elsewhere doesn't agree
pub foreign_end : (core new : CoreView) (seats : List SeatView) (fs gs : List Follower) (history : List Entry)
    → HaveFollowed core new seats fs gs history → AllFollow core seats fs → EndsNot seats gs → AreForeign core seats history
foreign_end core new seats fs gs history after all_follow ends full program lines history_is told each =
    let seat : SeatView = ends.seat in
    let f : Follower = ends.follower in
    let follows = after.follow all_follow ends.hart seat f ends.there ends.beside in
    let a = each ends.hart seat ends.there in
    let initial : Memory = starting_memory new.program new.start in
    let same_program : full.program ≡ new.program = program ∙ sym (ap (λ (c : CoreView). c.program) after.core) in
    let same_lines : full.start ≡ new.start = lines ∙ sym (ap (λ (c : CoreView). c.start) after.core) in
    let same_history : full.history ≡ new.history = history_is ∙ sym (ap (λ (c : CoreView). c.history) after.core) in
    let same : starting_memory full.program full.start ≡ initial =
    ap (λ (p : Sections). starting_memory p full.start) same_program ∙ ap (λ (l : List (List ℕ)). starting_memory new.program l) same_lines in
    let part : IsPart initial seat.hart new.history seat.exchanges a.from =
    subst (λ (l : List Entry). IsPart initial seat.hart l seat.exchanges a.from) same_history
    (subst (λ (m : Memory). IsPart m seat.hart full.history seat.exchanges a.from) same a.part) in
    let copy : text_bytes seat.copy ≡ fetched_text initial seat.hart new.history =
    a.copy ∙ ap (λ (m : Memory). fetched_text m seat.hart full.history) same ∙ ap (λ (l : List Entry). fetched_text initial seat.hart l) same_history in
    let one = one_part initial seat.hart new.history seat.exchanges (made_of seat f) a.from f.state part follows.part in
    let used : f.next ≡ length seat.exchanges =
    sym (oldest_size f.next seat.exchanges follows.place) ∙ sym (ap (λ (l : List Exchange). length l) one.0) in
    let copies : text_bytes f.copy ≡ text_bytes seat.copy = follows.copy ∙ sym copy in
    let alone : GoesAlone (text_bytes f.copy) seat.since f.state seat.state =
    subst (λ (m : HartState). GoesAlone (text_bytes f.copy) seat.since m seat.state) one.1
    (subst (λ (t : Memory). GoesAlone t seat.since a.from seat.state) (sym copies) a.alone) in
    ends.cannot used alone copies

-- the texts of two regions are one where their bytes are
lists_same : (xs ys : List ℕ) → length xs ≡ length ys → ((i : ℕ) → i < length xs → slice_get xs i ≡ slice_get ys i) → xs ≡ ys
lists_same [] [] size each = refl
lists_same [] (y ∷ ys) size each = absurd (omega (arith, size))
lists_same (x ∷ xs) [] size each = absurd (omega (arith, size))
lists_same (x ∷ xs) (y ∷ ys) size each =
    let first : Some x ≡ Some y = each 0 (omega arith) in
    let same : x ≡ y = cc in
    ap (λ (z : ℕ). z ∷ xs) same
    ∙ ap (λ (l : List ℕ). y ∷ l) (lists_same xs ys (omega (arith, size)) (λ i less. each (suc i) (omega (arith, less))))

pub texts_same : (a b : List ℕ) → length a ≡ TEXT_SIZE → length b ≡ TEXT_SIZE → text_bytes a ≡ text_bytes b → a ≡ b
texts_same a b one other same =
    lists_same a b (one ∙ sym other) (λ i less.
    let inside : i < TEXT_SIZE = omega (arith, less, one) in
    sym (region_byte TEXT_BASE TEXT_SIZE a i inside) ∙ ap (λ (m : Memory). m (TEXT_BASE + i)) same ∙ region_byte TEXT_BASE TEXT_SIZE b i inside)

-- why the last steps can't be made
pub other_count : (seat : SeatView) (f : Follower) → f.next ≢ length seat.exchanges → CannotEnd seat f
other_count seat f apart used alone copy = apart used

pub other_steps : (seat : SeatView) (f : Follower) → GoesNot (text_bytes f.copy) seat.since f.state → CannotEnd seat f
other_steps seat f not used alone copy = not seat.state alone

pub other_state : (seat : SeatView) (f : Follower) (t : HartState) → GoesAlone (text_bytes f.copy) seat.since f.state t → t ≢ seat.state
    → CannotEnd seat f
other_state seat f t goes apart used alone copy = apart (goes_once (text_bytes f.copy) seat.since f.state t seat.state goes alone)

pub other_copy : (seat : SeatView) (f : Follower) → length f.copy ≡ TEXT_SIZE → length seat.copy ≡ TEXT_SIZE → f.copy ≢ seat.copy
    → CannotEnd seat f
other_copy seat f one other apart used alone copy = apart (texts_same f.copy seat.copy one other copy)

pub ends_not : (seats : List SeatView) (fs : List Follower) (n : ℕ) (seat : SeatView) (f : Follower) → length fs ≡ length seats
    → n < length seats → seat ≡ slice_index_or seats n seat → f ≡ slice_index_or fs n f → CannotEnd seat f → EndsNot seats fs
ends_not seats fs n seat f paired inside seat_is f_is cannot =
    let also : n < length fs = omega (arith, inside, paired) in
    record {
      hart = n;
      seat = seat;
      follower = f;
      there = slice_get_read seats (length seats) n seat refl inside seat_is;
      beside = slice_get_read fs (length fs) n f refl also f_is;
      cannot = cannot;
    }

-- why a request can't be made
pub none_next : (items xs : List Exchange) (n : ℕ) (request : Request) (reply : Reply) → reverse items ≡ xs → length items ≤ n
    → IsNotNext xs n request reply
none_next items xs n request reply turned past = record {
  not = λ x got asked told.
      let inside = slice_get_within (reverse xs) n x got in
      let size = length-reverse xs in
      let also = length-reverse items in
      let same = ap (λ (l : List Exchange). length l) turned in
      absurd (omega (arith, inside, size, also, same, past));
}

-- the next of the items, as it is read
read_next : (items xs : List Exchange) (n : ℕ) (d x : Exchange) → reverse items ≡ xs → n < length items → slice_get (reverse xs) n ≡ Some x
    → slice_index_or items n d ≡ x
read_next items xs n d x turned inside got =
    let back : reverse xs ≡ items = ap reverse (sym turned) ∙ reverse-reverse items in
    let there : slice_get items n ≡ Some x = ap (λ (l : List Exchange). slice_get l n) (sym back) ∙ got in
    get_or_from_slice_get items n x d there

pub other_request : (items xs : List Exchange) (n : ℕ) (d : Exchange) (request : Request) (reply : Reply) → reverse items ≡ xs → n < length items
    → (slice_index_or items n d).request ≢ request → IsNotNext xs n request reply
other_request items xs n d request reply turned inside apart = record {
  not = λ x got asked told. apart (ap (λ (y : Exchange). y.request) (read_next items xs n d x turned inside got) ∙ asked);
}

pub other_reply : (items xs : List Exchange) (n : ℕ) (d : Exchange) (request : Request) (reply : Reply) → reverse items ≡ xs → n < length items
    → (slice_index_or items n d).reply ≢ reply → IsNotNext xs n request reply
other_reply items xs n d request reply turned inside apart = record {
  not = λ x got asked told. apart (ap (λ (y : Exchange). y.reply) (read_next items xs n d x turned inside got) ∙ told);
}

one_got : (xs : List Exchange) (n : ℕ) (x y : Exchange) → slice_get xs n ≡ Some x → slice_get xs n ≡ Some y → x ≡ y
one_got xs n x y a b = let same : Some x ≡ Some y = sym a ∙ b in cc

pub no_steps : (core : CoreView) (seat : SeatView) (f : Follower) (request : Request) (reply : Reply) (x : Exchange)
    → slice_get (reverse seat.exchanges) f.next ≡ Some x → GoesNot (text_bytes f.copy) x.steps f.state → CannotMake core seat f request reply
no_steps core seat f request reply x there not y t other asked told answer exchanges =
    let same = one_got (reverse seat.exchanges) f.next y x other there in
    not exchanges.at (subst (λ (z : Exchange). GoesAlone (text_bytes f.copy) z.steps f.state exchanges.at) same exchanges.alone)

pub no_request : (core : CoreView) (seat : SeatView) (f : Follower) (request : Request) (reply : Reply) (x : Exchange) (at : HartState)
    → slice_get (reverse seat.exchanges) f.next ≡ Some x → GoesAlone (text_bytes f.copy) x.steps f.state at
    → (Asks (text_bytes f.copy) at request → ⊥) → CannotMake core seat f request reply
no_request core seat f request reply x at there goes not y t other asked told answer exchanges =
    let same = one_got (reverse seat.exchanges) f.next y x other there in
    let alone : GoesAlone (text_bytes f.copy) x.steps f.state exchanges.at =
    subst (λ (z : Exchange). GoesAlone (text_bytes f.copy) z.steps f.state exchanges.at) same exchanges.alone in
    let place : exchanges.at ≡ at = goes_once (text_bytes f.copy) x.steps f.state exchanges.at at alone goes in
    let asks : Asks (text_bytes f.copy) exchanges.at request =
    subst (λ (q : Request). Asks (text_bytes f.copy) exchanges.at q) asked exchanges.asks in
    not (subst (λ (m : HartState). Asks (text_bytes f.copy) m request) place asks)

pub no_answer : (core : CoreView) (seat : SeatView) (f : Follower) (request : Request) (reply : Reply)
    → reply ≢ reply_after (common_of core) seat.hart request → CannotMake core seat f request reply
no_answer core seat f request reply apart x t there asked told answer exchanges = apart answer

-- one request is asked
asked_once : (text : Memory) (s : HartState) (one other : Request) → Asks text s one → Asks text s other → one ≡ other
asked_once text s one other a b =
    let same : Ask one ≡ Ask other = needs_once s (fetched text s.pc) (Ask one) (Ask other) a.needs b.needs in cc

pub asks_other : (text : Memory) (s : HartState) (one other : Request) → Asks text s one → one ≢ other → Asks text s other → ⊥
asks_other text s one other a apart b = apart (asked_once text s one other a b)

pub asks_nothing : (text : Memory) (s : HartState) (request : Request) → (IsAsking text s → ⊥) → Asks text s request → ⊥
asks_nothing text s request none asks = none (request, asks)

-- the fault of a refusal
pub foreign_weaker : (P Q : Type 0) (fault : FinishFault) → (P → Q) → IfForeign P fault → IfForeign Q fault
foreign_weaker P Q SeatMissing f p = absurd p
foreign_weaker P Q SeatNumber f p = absurd p
foreign_weaker P Q Foreign f p = f p
foreign_weaker P Q NoMemory f p = tt

pub memory_is : (P : Type 0) (fault : FinishFault) → fault ≡ NoMemory → IfForeign P fault
memory_is P fault is = rw is tt

pub cannot_follow : (core : CoreView) (seats : List SeatView) (fs : List Follower) (entry : Entry) (h : ℕ) (request : Request) (reply : Reply)
    (seat : SeatView) (f : Follower) → ArePaired core.harts seats fs → h < core.harts → seat ≡ slice_index_or seats h seat
    → f ≡ slice_index_or fs h f → entry ≡ Asked h request reply → CannotMake core seat f request reply → CannotFollow core seats fs entry
cannot_follow core seats fs entry h request reply seat f paired inside seat_is f_is asked cannot =
    let count = paired.count in
    let also = paired.paired in
    let in_seats : h < length seats = omega (arith, inside, count) in
    let in_fs : h < length fs = omega (arith, inside, count, also) in
    record {
      hart = h;
      request = request;
      reply = reply;
      seat = seat;
      follower = f;
      asked = asked;
      there = slice_get_read seats (length seats) h seat refl in_seats seat_is;
      beside = slice_get_read fs (length fs) h f refl in_fs f_is;
      cannot = cannot;
    }

-- a core that is the replay of its own history
pub are_foreign : (core fresh : CoreView) (seats : List SeatView) → fresh.program ≡ core.program → fresh.start ≡ core.start
    → IsReplay core.program core.start core.history core.shared → AreForeign fresh seats core.history
    → ((h : ℕ) (seat : SeatView) → slice_get seats h ≡ Some seat → Agrees core seat) → ⊥
are_foreign core fresh seats program lines is foreign each = foreign core (sym program) (sym lines) refl is.told each

-- seats that have changed places
pub each_moved : (core : CoreView) (old new : List SeatView) → IsPermutation old new → EachAgrees core old
    → (h : ℕ) (seat : SeatView) → slice_get new h ≡ Some seat → Agrees core seat
each_moved core old new same each h seat got =
    let all : All (λ (s : SeatView). Agrees core s) old = λ k d less. each k (slice_index_or old k d) (slice_get-get_or old k d less) in
    let moved = All-permutation (λ (s : SeatView). Agrees core s) old new same all in
    subst (λ (s : SeatView). Agrees core s) (get_or_from_slice_get new h seat seat got) (moved h seat (slice_get_within new h seat got))

pub refuses_gathering : (core : CoreView) (old new : List SeatView) (fault : FinishFault) → ArePlaced core.harts old new
    → IfForeign (((h : ℕ) (seat : SeatView) → slice_get new h ≡ Some seat → Agrees core seat) → ⊥) fault → RefusesGathering core old fault
refuses_gathering core old new SeatMissing placed refused = absurd refused
refuses_gathering core old new SeatNumber placed refused = absurd refused
refuses_gathering core old new Foreign placed refused = (placed.once, λ each. refused (each_moved core old new placed.same each))
refuses_gathering core old new NoMemory placed refused = placed.once

-- where the run is made again from the start
pub foreign_middle : (core fresh : CoreView) (seats : List SeatView) (fs : List Follower) (history : List Entry) → IsFreshOf core fresh
    → AllFollow fresh seats fs → reverse history ≡ core.history → IsReplay core.program core.start core.history core.shared
    → (AllFollow fresh seats fs → AreForeign fresh seats (reverse history))
    → ((h : ℕ) (seat : SeatView) → slice_get seats h ≡ Some seat → Agrees core seat) → ⊥
foreign_middle core fresh seats fs history is all turned replays foreign each =
    are_foreign core fresh seats is.program is.start_is replays
    (subst (λ (l : List Entry). AreForeign fresh seats l) turned (foreign all)) each

pub foreign_last : (core fresh new : CoreView) (seats : List SeatView) (fs gs : List Follower) (history : List Entry) → IsFreshOf core fresh → AllFollow fresh seats fs → reverse history ≡ core.history
    → IsReplay core.program core.start core.history core.shared → HaveFollowed fresh new seats fs gs (reverse history)
    → EndsNot seats gs → ((h : ℕ) (seat : SeatView) → slice_get seats h ≡ Some seat → Agrees core seat) → ⊥
foreign_last core fresh new seats fs gs history is follow turned replays after ends each =
    are_foreign core fresh seats is.program is.start_is replays
    (subst (λ (l : List Entry). AreForeign fresh seats l) turned
    (foreign_end fresh new seats fs gs (reverse history) after follow ends)) each

-- the faults of the calls
pub make_no_exchange : (core : CoreView) (seat : SeatView) (f : Follower) (request : Request) (reply : Reply) (fault : FinishFault)
    → IfForeign (IsNotNext seat.exchanges f.next request reply) fault → IfForeign (CannotMake core seat f request reply) fault
make_no_exchange core seat f request reply fault refused =
    foreign_weaker (IsNotNext seat.exchanges f.next request reply) (CannotMake core seat f request reply) fault
    (λ n x t there asked told answer exchanges. n.not x there asked told) refused

pub make_no_steps : (core : CoreView) (seat : SeatView) (f : Follower) (request : Request) (reply : Reply) (x : Exchange) (fault : FinishFault)
    → slice_get (reverse seat.exchanges) f.next ≡ Some x → IfForeign (GoesNot (text_bytes f.copy) x.steps f.state) fault
    → IfForeign (CannotMake core seat f request reply) fault
make_no_steps core seat f request reply x fault there refused =
    foreign_weaker (GoesNot (text_bytes f.copy) x.steps f.state) (CannotMake core seat f request reply) fault
    (no_steps core seat f request reply x there) refused

pub make_no_request : (core : CoreView) (seat : SeatView) (f : Follower) (request : Request) (reply : Reply) (x : Exchange) (at : HartState)
    (fault : FinishFault) → slice_get (reverse seat.exchanges) f.next ≡ Some x → GoesAlone (text_bytes f.copy) x.steps f.state at
    → IfForeign (Asks (text_bytes f.copy) at request → ⊥) fault → IfForeign (CannotMake core seat f request reply) fault
make_no_request core seat f request reply x at fault there goes refused =
    foreign_weaker (Asks (text_bytes f.copy) at request → ⊥) (CannotMake core seat f request reply) fault
    (no_request core seat f request reply x at there goes) refused

pub make_no_answer : (core : CoreView) (seat : SeatView) (f : Follower) (request : Request) (reply : Reply) (fault : FinishFault)
    → IfForeign (reply ≢ reply_after (common_of core) seat.hart request) fault → IfForeign (CannotMake core seat f request reply) fault
make_no_answer core seat f request reply fault refused =
    foreign_weaker (reply ≢ reply_after (common_of core) seat.hart request) (CannotMake core seat f request reply) fault
    (no_answer core seat f request reply) refused

pub follow_cannot : (core : CoreView) (seats : List SeatView) (fs : List Follower) (entry : Entry) (h : ℕ) (request : Request) (reply : Reply)
    (seat : SeatView) (f : Follower) (fault : FinishFault) → ArePaired core.harts seats fs → h < core.harts → seat ≡ slice_index_or seats h seat
    → f ≡ slice_index_or fs h f → entry ≡ Asked h request reply → IfForeign (CannotMake core seat f request reply) fault
    → IfForeign (CannotFollow core seats fs entry) fault
follow_cannot core seats fs entry h request reply seat f fault paired inside seat_is f_is asked refused =
    foreign_weaker (CannotMake core seat f request reply) (CannotFollow core seats fs entry) fault
    (cannot_follow core seats fs entry h request reply seat f paired inside seat_is f_is asked) refused

pub follow_fails : (core middle : CoreView) (seats : List SeatView) (fs gs : List Follower) (history : List Entry) (i : ℕ) (d : Entry)
    (fault : FinishFault) → ((h : ℕ) (s : SeatView) → slice_get seats h ≡ Some s → s.hart ≡ h)
    → i < length history → HaveFollowed core middle seats fs gs (reverse (take i history))
    → IfForeign (CannotFollow middle seats gs (slice_index_or history i d)) fault
    → IfForeign (AllFollow core seats fs → AreForeign core seats (reverse history)) fault
follow_fails core middle seats fs gs history i d fault numbered inside before refused =
    foreign_weaker (CannotFollow middle seats gs (slice_index_or history i d)) (AllFollow core seats fs → AreForeign core seats (reverse history)) fault
    (foreign_at core middle seats fs gs history i d numbered inside before) refused

pub end_no_steps : (seat : SeatView) (f : Follower) (fault : FinishFault) → IfForeign (GoesNot (text_bytes f.copy) seat.since f.state) fault
    → IfForeign (CannotEnd seat f) fault
end_no_steps seat f fault refused =
    foreign_weaker (GoesNot (text_bytes f.copy) seat.since f.state) (CannotEnd seat f) fault (other_steps seat f) refused

pub end_fails : (seats : List SeatView) (fs : List Follower) (n : ℕ) (seat : SeatView) (f : Follower) (fault : FinishFault)
    → length fs ≡ length seats → n < length seats → seat ≡ slice_index_or seats n seat → f ≡ slice_index_or fs n f
    → IfForeign (CannotEnd seat f) fault → IfForeign (EndsNot seats fs) fault
end_fails seats fs n seat f fault paired inside seat_is f_is refused =
    foreign_weaker (CannotEnd seat f) (EndsNot seats fs) fault (ends_not seats fs n seat f paired inside seat_is f_is) refused

-- no seats agree
abbrev pub NoneAgree : CoreView → List SeatView → Type 0
NoneAgree core seats = ((h : ℕ) (seat : SeatView) → slice_get seats h ≡ Some seat → Agrees core seat) → ⊥

pub middle_fails : (core fresh : CoreView) (seats : List SeatView) (fs : List Follower) (history : List Entry) (fault : FinishFault) → IsFreshOf core fresh
    → AllFollow fresh seats fs → reverse history ≡ core.history → IsReplay core.program core.start core.history core.shared
    → IfForeign (AllFollow fresh seats fs → AreForeign fresh seats (reverse history)) fault → IfForeign (NoneAgree core seats) fault
middle_fails core fresh seats fs history fault is all turned replays refused =
    foreign_weaker (AllFollow fresh seats fs → AreForeign fresh seats (reverse history)) (NoneAgree core seats) fault
    (foreign_middle core fresh seats fs history is all turned replays) refused

pub last_fails : (core fresh new : CoreView) (seats : List SeatView) (fs gs : List Follower) (history : List Entry)
    (fault : FinishFault) → IsFreshOf core fresh → AllFollow fresh seats fs → reverse history ≡ core.history
    → IsReplay core.program core.start core.history core.shared → HaveFollowed fresh new seats fs gs (reverse history)
    → IfForeign (EndsNot seats gs) fault → IfForeign (NoneAgree core seats) fault
last_fails core fresh new seats fs gs history fault is follow turned replays after refused =
    foreign_weaker (EndsNot seats gs) (NoneAgree core seats) fault
    (foreign_last core fresh new seats fs gs history is follow turned replays after) refused

pub other_answer : (core : CoreView) (h : ℕ) (request : Request) (reply answer : Reply) → answer ≡ reply_after (common_of core) h request → answer ≢ reply
    → reply ≢ reply_after (common_of core) h request
other_answer core h request reply answer is apart same = apart (is ∙ sym same)

pub not_stepped : (b : Bool) (text : Memory) (s t : HartState) → b ≡ false
    → MatchBool b (StepsAlone text s t) ((u : HartState) → StepsAlone text s u → ⊥) → (u : HartState) → StepsAlone text s u → ⊥
not_stepped true text s t is match = absurd (cc)
not_stepped false text s t is match = match

-- what stands at a place of the exchanges, as it is read
pub next_there : (items xs : List Exchange) (n : ℕ) (d : Exchange) → reverse items ≡ xs → n < length items
    → slice_get (reverse xs) n ≡ Some (slice_index_or items n d)
next_there items xs n d turned inside =
    let back : reverse xs ≡ items = ap reverse (sym turned) ∙ reverse-reverse items in
    ap (λ (l : List Exchange). slice_get l n) back ∙ slice_get-get_or items n d inside

pub bytes_differ : (b : Bool) (x y p q : List ℕ) → b ≡ false → MatchBool b (x ≡ y) (x ≢ y) → x ≡ p → y ≡ q → p ≢ q
bytes_differ true x y p q is match one other same = absurd (cc)
bytes_differ false x y p q is match one other same = match (one ∙ same ∙ sym other)

pub refuses_after : (P : Type 0) (harts : ℕ) (seats : List SeatView) (fault : FinishFault) → IfForeign P fault → RefusesFinish harts seats fault
refuses_after P harts seats SeatMissing refused = absurd refused
refuses_after P harts seats SeatNumber refused = absurd refused
refuses_after P harts seats Foreign refused = tt
refuses_after P harts seats NoMemory refused = tt
