-- One thread more.
use Rattle.std.proofs.Common.{◌≡◌, ◌⊎◌, ℕ, ◌+◌, Bool, true, false, List, [], ◌∷◌, ◌++◌, All, Option, Some, None, Result, Ok, Err, IfOk, IfSome, length, map, refl, sym, ap, ◌∙◌, subst, inl, inr, arith, length-append, append-nil}
use Rattle.std.specs.Prelude.{MatchBool, ◌||◌, nat_le, option_map, if◌then◌else◌}
use Rattle.std.specs.List.{Contains, list_any}
use Rattle.std.proofs.lemmas.List.{map-append, length-map}
use Rattle.std.proofs.lemmas.List.Elements.{All-push, Contains-append_left, Contains-append_right}
use Rattle.std.proofs.lemmas.List.Folds.{list_any-append}
use Rattle.std.proofs.lemmas.Grind.{flat_map-append}
use Rattle.atomic_table.specs.Seated.{TableId}
use Rattle.machine.specs.declared.shared_memory.fault.StepFault.{StepFault}
use Rattle.workers.specs.Stops.{HasSeen, Sitting, all_found, fresh}
use Rattle.bus.specs.declared.crew.Refusal.{Refusal}
use Rattle.bus.proofs.Comparing.{is_so, not_so}
use Rattle.bus.specs.Crews.{AreDone, AreJoined, HaveEnded, AreRefusals, BeganView, HasKept, IsCrew, IsIdle, badge_of, lower_of, noted}
use Rattle.bus.specs.Driving.{HasEnded, IsDriven, badge}
use Rattle.bus.specs.Seats.{SeatView}
use Rattle.bus.specs.Stepping.{IsStepRefusal}

lower_cause : (lowest : Option Refusal) (hart : ℕ) (fault : StepFault) → AreRefusals lowest → IsStepRefusal fault → AreRefusals (lower_of lowest hart fault)
lower_cause None hart fault before cause = cause
lower_cause (Some r) hart fault before cause = at_test (nat_le r.hart hart)
  where
    at_test : (b : Bool) → AreRefusals (if b then Some r else Some (record { hart = hart; fault = fault }))
    at_test true = before
    at_test false = cause

-- what was noted stays noted
lower_some : (lowest : Option Refusal) (hart : ℕ) (fault : StepFault) → lower_of lowest hart fault ≡ None → ⊥
lower_some None hart fault none = cc
lower_some (Some r) hart fault none = at_test (nat_le r.hart hart) none
  where
    at_test : (b : Bool) → (if b then Some r else Some (record { hart = hart; fault = fault })) ≡ None → ⊥
    at_test true none = cc
    at_test false none = cc

pub noted_cause : (lowest : Option Refusal) (hart : ℕ) (refused : Option StepFault) → AreRefusals lowest
    → ((fault : StepFault) → refused ≡ Some fault → IsStepRefusal fault) → AreRefusals (noted lowest hart refused)
noted_cause lowest hart None before cause = before
noted_cause lowest hart (Some fault) before cause = lower_cause lowest hart fault before (cause fault refl)

pub noted_none : (lowest : Option Refusal) (hart : ℕ) (refused : Option StepFault) → noted lowest hart refused ≡ None → (lowest ≡ None) × (refused ≡ None)
noted_none lowest hart None none = (none, refl)
noted_none lowest hart (Some fault) none = absurd (lower_some lowest hart fault none)

kept_at : (old : List BeganView) (child : Option BeganView) (kept : Bool) (new : List BeganView) → HasKept old child kept new → kept ≡ true
    → (c : BeganView) × (child ≡ Some c) × (new ≡ old ++ c ∷ [])
kept_at old None kept new of is = absurd (cc)
kept_at old (Some child) kept new of is = (child, refl, of is)

still_raised : (mine after : Sitting) (whole kept : Bool) → (kept ≡ true → after ≡ mine) → (kept ≡ false → after.raised ≡ true)
    → (whole ≡ false → mine.raised ≡ true) → (whole ≡ false) ⊎ (kept ≡ false) → after.raised ≡ true
still_raised mine after whole true same raised before (inl was) = ap (λ (s : Sitting). s.raised) (same refl) ∙ before was
still_raised mine after whole true same raised before (inr other) = absurd (cc)
still_raised mine after whole false same raised before which = raised refl

pub crew_more : (table : TableId) (given : List SeatView) (begun new : List BeganView) (mine after : Sitting) (whole next : Bool)
    (child : Option BeganView) (kept : Bool) (seat : SeatView)
    → HasKept begun child kept new → after.table ≡ mine.table → (kept ≡ true → after ≡ mine)
    → (kept ≡ false → after.raised ≡ true) → MatchBool next ((whole ≡ true) × (kept ≡ true)) ((whole ≡ false) ⊎ (kept ≡ false))
    → IsCrew table given begun mine whole
    → ((c : BeganView) → child ≡ Some c → (badge_of c ≡ badge seat) × (c.place.table ≡ table))
    → IsCrew table (given ++ seat ∷ []) new after next
crew_more table given begun new mine after whole next child kept seat of place same raised is crew its =
    let both : next ≡ true → (whole ≡ true) × (kept ≡ true) = λ held. is_so next ((whole ≡ true) × (kept ≡ true)) ((whole ≡ false) ⊎ (kept ≡ false)) held is in
    record {
      word = place ∙ crew.word;
      words = λ held.
          let k = kept_at begun child kept new of (both held).1 in
          subst (All (λ (b : BeganView). b.place.table ≡ table)) (sym k.2)
          (All-push (λ (b : BeganView). b.place.table ≡ table) begun k.0 (crew.words (both held).0) (its k.0 k.1).1);
      same = λ held.
          let k = kept_at begun child kept new of (both held).1 in
          ap (map badge_of) k.2 ∙ (map-append badge_of begun (k.0 ∷ [])
          ∙ (ap (λ (l : List (ℕ × ℕ)). l ++ badge_of k.0 ∷ []) (crew.same (both held).0)
          ∙ (ap (λ (b : ℕ × ℕ). map badge given ++ b ∷ []) (its k.0 k.1).0 ∙ sym (map-append badge given (seat ∷ [])))));
      quiet = λ held. ap (λ (s : Sitting). s.raised) (same (both held).1) ∙ crew.quiet (both held).0;
      raises = λ lost. still_raised mine after whole kept same raised crew.raises (not_so next ((whole ≡ true) × (kept ≡ true)) ((whole ≡ false) ⊎ (kept ≡ false)) lost is);
    }

-- where all have ended and one more has, or a word was seen raised
ends_more : (seats : List SeatView) (stops : List Sitting) (seat : SeatView) (stop : Sitting) → stop.raised ≡ false
    → All HasEnded seats ⊎ Contains (all_found stops) true → HasEnded seat ⊎ HasSeen stop
    → All HasEnded (seats ++ seat ∷ []) ⊎ Contains (all_found (stops ++ stop ∷ [])) true
ends_more seats stops seat stop quiet before last =
    let found : all_found (stops ++ stop ∷ []) ≡ all_found stops ++ all_found (stop ∷ []) = flat_map-append (λ (x : Sitting). x.found) stops (stop ∷ []) in
    let one : all_found (stop ∷ []) ≡ stop.found = append-nil stop.found in
    elim before [
      | inr seen ↦ inr (subst (λ (l : List Bool). Contains l true) (sym found) (Contains-append_left (all_found stops) (all_found (stop ∷ [])) true seen))
      | inl all ↦ elim last [
        | inl ended ↦ inl (All-push HasEnded seats seat all ended)
        | inr looked ↦ elim looked [
          | inl raised ↦ let no : true ≡ false = sym raised ∙ quiet in absurd (cc)
          | inr seen ↦ inr (subst (λ (l : List Bool). Contains l true) (sym found)
              (Contains-append_right (all_found stops) (all_found (stop ∷ [])) true (subst (λ (l : List Bool). Contains l true) (sym one) seen)))
        ]
      ]
    ]

or_none : (a b : Bool) → a ≡ false → b ≡ false → (a || (b || false)) ≡ false
or_none a b first second = rw (first, second) refl

pub joined_more : (table : TableId) (begun : List BeganView) (first : Bool) (b : BeganView) (seats more : List SeatView) (stops others : List Sitting)
    (lowest next : Option Refusal) (whole still one two both : Bool) (hart : ℕ) (seat : SeatView) (stop : Sitting) (refused : Option StepFault)
    → next ≡ noted lowest hart refused → (one ≡ true → more ≡ seats ++ seat ∷ []) → (two ≡ true → others ≡ stops ++ stop ∷ [])
    → MatchBool both ((one ≡ true) × (two ≡ true)) ((one ≡ false) ⊎ (two ≡ false))
    → MatchBool still ((whole ≡ true) × (both ≡ true)) ((whole ≡ false) ⊎ (both ≡ false))
    → AreJoined table begun first seats stops lowest whole → IsDriven (badge_of b) b.place seat stop refused
    → (first ≡ true → b.place.table ≡ table)
    → AreJoined table (begun ++ b ∷ []) first more others next still
joined_more table begun first b seats more stops others lowest next whole still one two both hart seat stop refused is_next kept_one kept_two of_both of_still joined driven place =
    let at_whole : still ≡ true → (whole ≡ true) × (both ≡ true) = λ held. is_so still ((whole ≡ true) × (both ≡ true)) ((whole ≡ false) ⊎ (both ≡ false)) held of_still in
    let at_both : still ≡ true → (one ≡ true) × (two ≡ true) = λ held. is_so both ((one ≡ true) × (two ≡ true)) ((one ≡ false) ⊎ (two ≡ false)) (at_whole held).1 of_both in
    let at_lowest : next ≡ None → (lowest ≡ None) × (refused ≡ None) = λ none. noted_none lowest hart refused (sym is_next ∙ none) in
    let seats_are : still ≡ true → more ≡ seats ++ seat ∷ [] = λ held. kept_one (at_both held).0 in
    let stops_are : still ≡ true → others ≡ stops ++ stop ∷ [] = λ held. kept_two (at_both held).1 in
    record {
      cause = subst AreRefusals (sym is_next) (noted_cause lowest hart refused joined.cause driven.cause);
      before = λ held. joined.before (at_whole held).0;
      words = λ held. subst (All (λ (s : Sitting). s.table ≡ table)) (sym (stops_are held))
          (All-push (λ (s : Sitting). s.table ≡ table) stops stop (joined.words (at_whole held).0) (driven.word ∙ place (joined.before (at_whole held).0)));
      same = λ held. ap (map badge) (seats_are held) ∙ (map-append badge seats (seat ∷ [])
          ∙ (ap (λ (l : List (ℕ × ℕ)). l ++ badge seat ∷ []) (joined.same (at_whole held).0)
          ∙ (ap (λ (k : ℕ × ℕ). map badge_of begun ++ k ∷ []) driven.same ∙ sym (map-append badge_of begun (b ∷ [])))));
      count = λ held.
          let a : length others ≡ length stops + 1 = ap length (stops_are held) ∙ length-append stops (stop ∷ []) in
          let e : length more ≡ length seats + 1 = ap length (seats_are held) ∙ length-append seats (seat ∷ []) in
          let k : length stops ≡ length seats = joined.count (at_whole held).0 in omega arith;
      quiet = λ held none. ap (list_any (λ (s : Sitting). s.raised)) (stops_are held) ∙ (list_any-append (λ (s : Sitting). s.raised) stops (stop ∷ [])
          ∙ or_none (list_any (λ (s : Sitting). s.raised) stops) stop.raised (joined.quiet (at_whole held).0 (at_lowest none).0) (driven.quiet (at_lowest none).1));
      ends = λ held none.
          subst (λ (l : List SeatView). All HasEnded l ⊎ Contains (all_found others) true) (sym (seats_are held))
          (subst (λ (l : List Sitting). All HasEnded (seats ++ seat ∷ []) ⊎ Contains (all_found l) true) (sym (stops_are held))
          (ends_more seats stops seat stop (driven.quiet (at_lowest none).1) (joined.ends (at_whole held).0 (at_lowest none).0) (driven.ended (at_lowest none).1)));
    }

-- where no fault was noted, there was no refusal
unrefused : (lowest : Option Refusal) → option_map (λ (r : Refusal). r.fault) lowest ≡ None → lowest ≡ None
unrefused None none = refl
unrefused (Some r) none = absurd (cc)

cause_of : (lowest : Option Refusal) (fault : StepFault) → AreRefusals lowest → option_map (λ (r : Refusal). r.fault) lowest ≡ Some fault
    → IsStepRefusal fault
cause_of None fault cause is = absurd (cc)
cause_of (Some r) fault cause is = let same : r.fault ≡ fault = cc in subst IsStepRefusal same cause

-- seats of threads of a whole crew: where no step was refused, no word was seen raised
pub settled : (table : TableId) (given loose seats : List SeatView) (stops : List Sitting) (mine : Sitting) (lowest : Option Refusal) (whole : Bool)
    (refused : Option StepFault) → whole ≡ true
    → (list_any (λ (s : Sitting). s.raised) stops ≡ false → mine.raised ≡ false → Contains (all_found stops) true → ⊥)
    → map badge seats ≡ map badge loose → (All HasEnded loose → All HasEnded seats) → refused ≡ option_map (λ (r : Refusal). r.fault) lowest
    → HaveEnded table given loose stops mine lowest whole → AreDone given seats refused
settled table given loose seats stops mine lowest whole refused held unseen same kept is e =
    let first = e.joined.before held in
    record {
      same = same ∙ (e.joined.same held ∙ e.crew.same first);
      cause = λ fault some. cause_of lowest fault e.joined.cause (sym is ∙ some);
      ended = λ none.
          let calm = unrefused lowest (sym is ∙ none) in
          elim (e.joined.ends held calm) [
            | inl all ↦ kept all
            | inr seen ↦ absurd (unseen (e.joined.quiet held calm) (e.crew.quiet first) seen)
          ];
    }

pub length_of : (table : TableId) (given loose : List SeatView) (stops : List Sitting) (mine : Sitting) (lowest : Option Refusal) (whole : Bool) → whole ≡ true
    → HaveEnded table given loose stops mine lowest whole → length stops ≡ length given
length_of table given loose stops mine lowest whole held e =
    let first = e.joined.before held in
    let same : map badge loose ≡ map badge given = e.joined.same held ∙ e.crew.same first in
    e.joined.count held ∙ (sym (length-map loose badge) ∙ (ap length same ∙ length-map given badge))

-- of a thread that began with this seat and a place at this word
pub promised : (hart budget : ℕ) (place : Sitting) (seat : SeatView) (table : TableId) (loose : SeatView) (stop : Sitting) (refused : Option StepFault)
    → hart ≡ seat.hart → budget ≡ seat.budget → place ≡ fresh table → IsDriven (badge seat) (fresh table) loose stop refused
    → IsDriven (hart, budget) place loose stop refused
promised hart budget place seat table loose stop refused number limit is driven =
    let first = sym number in
    let second = sym limit in
    let same : badge seat ≡ (hart, budget) = λ i. (first i, second i) in
    subst (λ (k : ℕ × ℕ). IsDriven k place loose stop refused) same (subst (λ (p : Sitting). IsDriven (badge seat) p loose stop refused) (sym is) driven)

-- where no place raised the word, none saw it raised
pub closed_quiet : (stops : List Sitting) (mine : Sitting) (all : List Sitting) (closed : Bool) → all ≡ stops ++ mine ∷ []
    → closed ≡ list_any (λ (s : Sitting). s.raised) all → (Contains (all_found all) true → closed ≡ true)
    → list_any (λ (s : Sitting). s.raised) stops ≡ false → mine.raised ≡ false → Contains (all_found stops) true → ⊥
closed_quiet stops mine all closed pushed is seen quiet own looked =
    let low : closed ≡ false = is ∙ (ap (list_any (λ (s : Sitting). s.raised)) pushed ∙ (list_any-append (λ (s : Sitting). s.raised) stops (mine ∷ [])
    ∙ or_none (list_any (λ (s : Sitting). s.raised) stops) mine.raised quiet own)) in
    let found : all_found all ≡ all_found stops ++ all_found (mine ∷ []) = ap all_found pushed ∙ flat_map-append (λ (x : Sitting). x.found) stops (mine ∷ []) in
    let high : closed ≡ true = seen (subst (λ (l : List Bool). Contains l true) (sym found) (Contains-append_left (all_found stops) (all_found (mine ∷ [])) true looked)) in
    let no : true ≡ false = sym high ∙ low in cc

pub none_left : (xs : List BeganView) → length xs ≡ 0 → xs ≡ []
none_left [] none = refl
none_left (x ∷ xs) none = absurd (omega arith)

pub none_left_of : (xs : List SeatView) → length xs ≡ 0 → xs ≡ []
none_left_of [] none = refl
none_left_of (x ∷ xs) none = absurd (omega arith)

-- a crew that is idle is one of no seats
pub idle_crew : (table : TableId) (begun : List BeganView) (seats : List SeatView) (stops : List Sitting) (mine : Sitting) (lowest : Option Refusal) (whole : Bool)
    → IsIdle table begun seats stops mine lowest whole → IsCrew table [] begun mine whole
idle_crew table begun seats stops mine lowest whole idle = record {
  word = ap (λ (s : Sitting). s.table) idle.place;
  words = λ held. subst (All (λ (b : BeganView). b.place.table ≡ table)) (sym idle.none) (λ k d less. absurd (omega arith));
  same = λ held. ap (map badge_of) idle.none;
  quiet = λ held. ap (λ (s : Sitting). s.raised) idle.place;
  raises = λ lost. let is : true ≡ false = sym idle.is_whole ∙ lost in absurd (cc);
}

-- before the first thread is joined
pub none_joined : (table : TableId) (first : Bool) (lowest : Option Refusal) (seats : List SeatView) (stops : List Sitting) → AreRefusals lowest → seats ≡ [] → stops ≡ []
    → AreJoined table [] first seats stops lowest first
none_joined table first lowest seats stops cause no_seats no_stops =
    subst (λ (l : List SeatView). AreJoined table [] first l stops lowest first) (sym no_seats)
    (subst (λ (l : List Sitting). AreJoined table [] first [] l lowest first) (sym no_stops) (record {
      cause = cause;
      before = λ held. held;
      words = λ held. λ k d less. absurd (omega arith);
      same = λ held. refl;
      count = λ held. refl;
      quiet = λ held none. refl;
      ends = λ held none. inl (λ k d less. absurd (omega arith));
    }))

-- none of an idle crew was refused a step
pub idle_cause : (table : TableId) (begun : List BeganView) (seats : List SeatView) (stops : List Sitting) (mine : Sitting) (lowest later : Option Refusal) (whole : Bool)
    → IsIdle table begun seats stops mine lowest whole → later ≡ lowest → AreRefusals later
idle_cause table begun seats stops mine lowest later whole idle is = subst AreRefusals (sym (is ∙ idle.unrefused)) tt

pub at_some : (P : BeganView → Type 0) (r : Option BeganView) → IfSome r P → (c : BeganView) → r ≡ Some c → P c
at_some P None kept c is = absurd (cc)
at_some P (Some x) kept c is = let same : x ≡ c = cc in subst P same kept

pub have_ended : (table : TableId) (given : List SeatView) (begun : List BeganView) (mine after : Sitting) (first : Bool) (lowest : Option Refusal) (whole : Bool)
    (seats : List SeatView) (stops : List Sitting) → IsCrew table given begun mine first → after ≡ mine
    → AreJoined table begun first seats stops lowest whole → HaveEnded table given seats stops after lowest whole
have_ended table given begun mine after first lowest whole seats stops crew is joined = record {
  begun = begun;
  first = first;
  crew = subst (λ (m : Sitting). IsCrew table given begun m first) (sym is) crew;
  joined = joined;
}

pub done_so : {X E : Type 0} (f : X → List SeatView) (g : X → Option StepFault) (r : Result X E) (table : TableId) (given loose : List SeatView) (stops : List Sitting) (mine : Sitting)
    (lowest : Option Refusal) (whole : Bool) → IfOk r (λ (x : X). (all : List SeatView) → HaveEnded table all loose stops mine lowest whole → AreDone all (f x) (g x))
    → HaveEnded table given loose stops mine lowest whole → IfOk r (λ (x : X). AreDone given (f x) (g x))
done_so f g (Ok x) table given loose stops mine lowest whole each ended = each given ended
done_so f g (Err fault) table given loose stops mine lowest whole each ended = tt
