-- What one more item adds in a loop.
use Rattle.std.proofs.Common.{◌≡◌, ◌∙◌, ℕ, ◌+◌, ◌<◌, ◌≤◌, Bool, true, false, not, cond, List, [], ◌∷◌, ◌++◌, Some, None, Option, length, get_or, map, take, refl, sym, ap, append_assoc, arith, filter}
use Rattle.std.specs.List.{cons_option, enumerate_from, filter_map, flat_map, slice_get}
use Rattle.std.proofs.lemmas.Grind.{flat_map-append}
use Rattle.std.proofs.lemmas.List.{append-nil, map_more, take_all, take_more}
use Rattle.std.proofs.lemmas.List.Elements.{filter-append, filter_map-append}
use Rattle.std.proofs.lemmas.List.FromFn.{length-enumerate_from, get_or-enumerate_from}
use Rattle.std.proofs.lemmas.Option.{slice_get_within, get_or_from_slice_get}
use Rattle.hart.specs.declared.state.HartState.{HartState}
use Rattle.store_trace.specs.Marks.{begun, begun_by, ended, ended_by}
use Rattle.plan.specs.declared.operation.Operation.{Operation}
use Rattle.store_trace.specs.declared.event.Event.{Event}
use Rattle.unfinished.specs.Causes.{cause_among, cause_of, cause_of_hart, is_among, is_success, numbers_of}
use Rattle.unfinished.specs.declared.unfinished.Unfinished.{Unfinished}
use Rattle.unfinished.specs.declared.unfinished.Unfinished.TheVariants.{Hart}

given_more : (h : Event → Option ℕ) (events : List Event) (i : ℕ) (d : Event) (o : Option ℕ) → i < length events → h (get_or events i d) ≡ o
    → filter_map h (take (i + 1) events) ≡ filter_map h (take i events) ++ cons_option o []
given_more h events i d o below is =
    ap (λ (all : List Event). filter_map h all) (take_more events i d below)
    ∙ filter_map-append h (take i events) (get_or events i d ∷ [])
    ∙ ap (λ (p : Option ℕ). filter_map h (take i events) ++ cons_option p []) is

-- an event that begins or ends an operation, and one that doesn't
pub begun_more : (events : List Event) (i : ℕ) (d : Event) (op : ℕ) → i < length events → begun_by (get_or events i d) ≡ Some op
    → begun (take (i + 1) events) ≡ begun (take i events) ++ op ∷ []
begun_more events i d op below is = given_more begun_by events i d (Some op) below is

pub begun_same : (events : List Event) (i : ℕ) (d : Event) → i < length events → begun_by (get_or events i d) ≡ None
    → begun (take (i + 1) events) ≡ begun (take i events)
begun_same events i d below is = given_more begun_by events i d None below is ∙ append-nil (begun (take i events))

pub ended_more : (events : List Event) (i : ℕ) (d : Event) (op : ℕ) → i < length events → ended_by (get_or events i d) ≡ Some op
    → ended (take (i + 1) events) ≡ ended (take i events) ++ op ∷ []
ended_more events i d op below is = given_more ended_by events i d (Some op) below is

pub ended_same : (events : List Event) (i : ℕ) (d : Event) → i < length events → ended_by (get_or events i d) ≡ None
    → ended (take (i + 1) events) ≡ ended (take i events)
ended_same events i d below is = given_more ended_by events i d None below is ∙ append-nil (ended (take i events))

-- the numbers that aren't among some
abbrev pub others : List ℕ → List ℕ → List ℕ
others among numbers = filter (λ op. not (is_among among op)) numbers

others_more : (among : List ℕ) (b : Bool) (op : ℕ) → is_among among op ≡ b → others among (op ∷ []) ≡ cond b [] (op ∷ [])
others_more among true op is = rw is refl
others_more among false op is = rw is refl

other_next : (among numbers : List ℕ) (i d : ℕ) (b : Bool) → i < length numbers → is_among among (get_or numbers i d) ≡ b
    → others among (take (i + 1) numbers) ≡ others among (take i numbers) ++ cond b [] (get_or numbers i d ∷ [])
other_next among numbers i d b below is =
    ap (others among) (take_more numbers i d below)
    ∙ filter-append (λ op. not (is_among among op)) (take i numbers) (get_or numbers i d ∷ [])
    ∙ ap (λ (rest : List ℕ). others among (take i numbers) ++ rest) (others_more among b (get_or numbers i d) is)

pub other_kept : (among numbers : List ℕ) (i d : ℕ) → i < length numbers → is_among among (get_or numbers i d) ≡ false
    → others among (take (i + 1) numbers) ≡ others among (take i numbers) ++ get_or numbers i d ∷ []
other_kept among numbers i d below is = other_next among numbers i d false below is

pub other_left : (among numbers : List ℕ) (i d : ℕ) → i < length numbers → is_among among (get_or numbers i d) ≡ true
    → others among (take (i + 1) numbers) ≡ others among (take i numbers)
other_left among numbers i d below is = other_next among numbers i d true below is ∙ append-nil (others among (take i numbers))

-- the same by the numbers of a plan's operations
planned_next : (among : List ℕ) (planned : List Operation) (i : ℕ) (d : Operation) (b : Bool) → i < length planned
    → is_among among (get_or planned i d).number ≡ b
    → others among (numbers_of (take (i + 1) planned)) ≡ others among (numbers_of (take i planned)) ++ cond b [] ((get_or planned i d).number ∷ [])
planned_next among planned i d b below is =
    ap (others among) (map_more (λ o. o.number) planned i d below)
    ∙ filter-append (λ op. not (is_among among op)) (numbers_of (take i planned)) ((get_or planned i d).number ∷ [])
    ∙ ap (λ (rest : List ℕ). others among (numbers_of (take i planned)) ++ rest) (others_more among b (get_or planned i d).number is)

pub planned_kept : (among : List ℕ) (planned : List Operation) (i : ℕ) (d : Operation) → i < length planned
    → is_among among (get_or planned i d).number ≡ false
    → others among (numbers_of (take (i + 1) planned)) ≡ others among (numbers_of (take i planned)) ++ (get_or planned i d).number ∷ []
planned_kept among planned i d below is = planned_next among planned i d false below is

pub planned_left : (among : List ℕ) (planned : List Operation) (i : ℕ) (d : Operation) → i < length planned
    → is_among among (get_or planned i d).number ≡ true
    → others among (numbers_of (take (i + 1) planned)) ≡ others among (numbers_of (take i planned))
planned_left among planned i d below is =
    planned_next among planned i d true below is ∙ append-nil (others among (numbers_of (take i planned)))

-- the causes of the harts below one
abbrev pub causes_below : List HartState → ℕ → List Unfinished
causes_below harts hart = flat_map cause_of_hart (take hart (enumerate_from 0 harts))

numbered : (i j : ℕ) (r s : HartState) → i ≡ j → r ≡ s → ◌≡◌ {A = ℕ × HartState} (i, r) (j, s)
numbered i j r s e q = cc

pub hart_more : (harts : List HartState) (hart : ℕ) (state : HartState) → slice_get harts hart ≡ Some state
    → causes_below harts (hart + 1) ≡ causes_below harts hart ++ cause_of_hart (hart, state)
hart_more harts hart state e =
    let all : List (ℕ × HartState) = enumerate_from 0 harts in
    let within : hart < length harts = slice_get_within harts hart state e in
    let last : get_or all hart (0, state) ≡ (hart, state) =
    get_or-enumerate_from 0 harts hart (0, state) within ∙ numbered (0 + hart) hart (get_or harts hart state) state (omega arith) (get_or_from_slice_get harts hart state state e) in
    ap (flat_map cause_of_hart) (take_more all hart (0, state) (omega (arith, length-enumerate_from 0 harts)))
    ∙ flat_map-append cause_of_hart (take hart all) (get_or all hart (0, state) ∷ [])
    ∙ ap (λ (h : ℕ × HartState). flat_map cause_of_hart (take hart all) ++ (cause_of_hart h ++ [])) last
    ∙ ap (λ (l : List Unfinished). flat_map cause_of_hart (take hart all) ++ l) (append-nil (cause_of_hart (hart, state)))

pub harts_all : (harts : List HartState) (hart : ℕ) → length harts ≤ hart
    → causes_below harts hart ≡ flat_map cause_of_hart (enumerate_from 0 harts)
harts_all harts hart h =
    ap (flat_map cause_of_hart) (take_all hart (enumerate_from 0 harts) (omega (arith, length-enumerate_from 0 harts)))

pub planned_push : (among : List ℕ) (planned : List Operation) (i : ℕ) (x : Operation) (b : Bool) (left before after : List ℕ)
    → i < length planned → x ≡ get_or planned i x → b ≡ is_among among x.number → b ≡ false
    → before ≡ left ++ others among (numbers_of (take i planned)) → after ≡ before ++ x.number ∷ []
    → after ≡ left ++ others among (numbers_of (take (i + 1) planned))
planned_push among planned i x b left before after below is told lacks was pushed =
    pushed ∙ ap (λ (l : List ℕ). l ++ x.number ∷ []) was ∙ append_assoc left (others among (numbers_of (take i planned))) (x.number ∷ [])
    ∙ ap (λ (o : Operation). left ++ (others among (numbers_of (take i planned)) ++ o.number ∷ [])) is
    ∙ ap (λ (l : List ℕ). left ++ l) (sym (planned_kept among planned i x below (ap (λ (o : Operation). is_among among o.number) (sym is) ∙ sym told ∙ lacks)))

pub planned_skip : (among : List ℕ) (planned : List Operation) (i : ℕ) (x : Operation) (b : Bool) (left before after : List ℕ)
    → i < length planned → x ≡ get_or planned i x → b ≡ is_among among x.number → b ≡ true
    → before ≡ left ++ others among (numbers_of (take i planned)) → after ≡ before
    → after ≡ left ++ others among (numbers_of (take (i + 1) planned))
planned_skip among planned i x b left before after below is told has was same =
    same ∙ was ∙ ap (λ (l : List ℕ). left ++ l) (sym (planned_left among planned i x below (ap (λ (o : Operation). is_among among o.number) (sym is) ∙ sym told ∙ has)))

-- the same of a hart's cause, by whether it has exited with 0
caused : (b : Bool) (u : Unfinished) → b ≡ false → cond b [] (u ∷ []) ≡ u ∷ []
caused true u e = absurd cc
caused false u e = refl

uncaused : (b : Bool) (u : Unfinished) → b ≡ true → cond b [] (u ∷ []) ≡ []
uncaused true u e = refl
uncaused false u e = absurd cc

pub hart_push : (harts : List HartState) (hart : ℕ) (s : HartState) (b : Bool) (before after : List Unfinished)
    → slice_get harts hart ≡ Some s → b ≡ is_success s.status → b ≡ false → before ≡ causes_below harts hart
    → after ≡ before ++ Hart hart s.status s.pc ∷ [] → after ≡ causes_below harts (hart + 1)
hart_push harts hart s b before after got told lacks was pushed =
    pushed ∙ ap (λ (l : List Unfinished). l ++ Hart hart s.status s.pc ∷ []) was
    ∙ ap (λ (l : List Unfinished). causes_below harts hart ++ l) (sym (caused (is_success s.status) (Hart hart s.status s.pc) (sym told ∙ lacks)))
    ∙ sym (hart_more harts hart s got)

pub hart_skip : (harts : List HartState) (hart : ℕ) (s : HartState) (b : Bool) (before after : List Unfinished)
    → slice_get harts hart ≡ Some s → b ≡ is_success s.status → b ≡ true → before ≡ causes_below harts hart
    → after ≡ before → after ≡ causes_below harts (hart + 1)
hart_skip harts hart s b before after got told has was same =
    same ∙ was ∙ sym (append-nil (causes_below harts hart))
    ∙ ap (λ (l : List Unfinished). causes_below harts hart ++ l) (sym (uncaused (is_success s.status) (Hart hart s.status s.pc) (sym told ∙ has)))
    ∙ sym (hart_more harts hart s got)

-- an operation more of those that haven't ended
pub cause_push : (events : List Event) (numbers found : List ℕ) (i d : ℕ) (u : Unfinished) (left before after : List Unfinished)
    → i < length numbers → found ≡ begun events → u ≡ cause_among found (get_or numbers i d)
    → before ≡ left ++ map (cause_of events) (take i numbers) → after ≡ before ++ u ∷ []
    → after ≡ left ++ map (cause_of events) (take (i + 1) numbers)
cause_push events numbers found i d u left before after below is told was pushed =
    pushed ∙ ap (λ (l : List Unfinished). l ++ u ∷ []) was
    ∙ append_assoc left (map (cause_of events) (take i numbers)) (u ∷ [])
    ∙ ap (λ (v : Unfinished). left ++ (map (cause_of events) (take i numbers) ++ v ∷ []))
    (told ∙ ap (λ (l : List ℕ). cause_among l (get_or numbers i d)) is)
    ∙ ap (λ (l : List Unfinished). left ++ l) (sym (map_more (cause_of events) numbers i d below))
