-- Which operations are known to have ended, and which numbers to have begun.
use Rattle.std.proofs.Common.{◌≡◌, ℕ, ◌+◌, ◌-◌, ◌<◌, ◌≤◌, Bool, true, false, not, refl, inl, inr, List, [], ◌∷◌, ◌++◌, length, get_or, take, drop, sym, ap, ◌∙◌, subst, arith, Some, None, Result, Ok, Err, OnOk}
use Rattle.std.specs.Prelude.{max, slice_index_or}
use Rattle.std.specs.List.{Contains, cons_option}
use Rattle.std.proofs.lemmas.Bool.{cases_lt}
use Rattle.std.proofs.lemmas.Grind.{common_steps}
use Rattle.std.proofs.lemmas.List.Elements.{Contains-append_cases, Contains-append_left, Contains-append_right}
use Rattle.std.proofs.lemmas.Option.{slice_get-get_or, get_or_from_slice_get}
use Rattle.plan.specs.declared.operation.Operation.{Operation}
use Rattle.store_trace.specs.declared.event.Event.{Event}
use Rattle.store_trace.specs.declared.event.Event.TheVariants.{Begin}
use Rattle.store_trace.specs.Marks.{begun, begun_by, ended, ended_by}
use Rattle.store_trace.proofs.Marking.{begun_kept, begun_step, ended_step, none_begun, open_unended}
use Rattle.store_trace.proofs.Members.{contains_cases, no_members}
use Rattle.image_check.specs.OrderFaults.{AreNoted, AreSettled, AreSound, OpensSharer}
use Rattle.image_check.specs.declared.fault.OpFault.TheVariants.{BegunTwice}
use Rattle.image_check.specs.declared.order.Noted.{Noted}
use Rattle.image_check.proofs.Beginning.{ended_parts, rest_is, sound_first, unended}

-- before the first event
pub none_noted : (noted : Noted) → noted.settled ≡ 0 → AreNoted [] noted
none_noted noted e = record {
  greatest = λ op c. absurd (none_begun op c);
  settled = record {
    within = omega (arith, e);
    ended = λ k d op l b. absurd (omega (arith, e, l));
  };
}

-- an event more
settled_more : (before : List Event) (event : Event) (place : ℕ) → AreSettled before place → AreSettled (before ++ event ∷ []) place
settled_more before event place s = record {
  within = let whole : length (before ++ event ∷ []) ≡ length before + 1 = grind (arith, common_steps) in omega (arith, whole, s.within);
  ended = λ k d op l b.
      let there : k < length before = omega (arith, l, s.within) in
      let e : get_or (before ++ event ∷ []) k d ≡ get_or before k d = grind (arith, common_steps, there) in
      let c = s.ended k d op l (sym (ap (λ (x : Event). begun_by x) e) ∙ b) in
      subst (λ (ops : List ℕ). Contains ops op) (sym (ended_step before event))
      (Contains-append_left (ended before) (cons_option (ended_by event) []) op c);
}

pub noted_still : (before : List Event) (event : Event) (noted : Noted) → begun_by event ≡ None → AreNoted before noted → AreNoted (before ++ event ∷ []) noted
noted_still before event noted none n = record {
  greatest = λ op c. n.greatest op (subst (λ (ops : List ℕ). Contains ops op) (begun_kept before event none) c);
  settled = settled_more before event noted.settled n.settled;
}

pub noted_begun : (before : List Event) (hart op greatest : ℕ) (noted : Noted) → ((other : ℕ) → Contains (begun before) other → other ≤ greatest) →
    noted.greatest ≡ max greatest op → AreSettled before noted.settled → AreNoted (before ++ Begin hart op ∷ []) noted
noted_begun before hart op greatest noted below e s = record {
  greatest = λ other c.
      elim (Contains-append_cases (begun before) (op ∷ []) other (subst (λ (ops : List ℕ). Contains ops other) (begun_step before (Begin hart op)) c)) [
        | inl a ↦ omega (arith, below other a, e)
        | inr b ↦ elim (contains_cases op [] other b) [ inl same ↦ omega (arith, same, e) | inr z ↦ absurd (no_members other z) ]
      ];
  settled = settled_more before (Begin hart op) noted.settled s;
}

-- a place further, at which no pending operation begins
pub settled_next : (events : List Event) (place : ℕ) (e : Event) → place < length events → AreSettled events place →
    ((op : ℕ) → begun_by (get_or events place e) ≡ Some op → Contains (ended (take (length events - place) (drop place events))) op) →
    AreSettled events (place + 1)
settled_next events place e h s here = record {
  within = omega (arith, h);
  ended = λ k d op l b. elim (cases_lt k place) [
    | inl before ↦ s.ended k d op before b
    | inr late ↦
        let at : k ≡ place = omega arith in
        let same : get_or events k d ≡ get_or events place e = ap (λ (j : ℕ). get_or events j d) at
        ∙ get_or_from_slice_get events place (get_or events place e) d (slice_get-get_or events place e h) in
        let c = subst (λ (es : List Event). Contains (ended es) op) (rest_is events place) (here op (sym (ap (λ (x : Event). begun_by x) same) ∙ b)) in
        subst (λ (ops : List ℕ). Contains ops op) (sym (ended_parts events place)) (Contains-append_right (ended (take place events)) (ended (drop place events)) op c)
  ];
}

-- what has ended shares nothing any more
pub settled_unshared : (plan : List Operation) (events : List Event) (place op : ℕ) → AreSettled events place →
    (k : ℕ) (d : Event) → k < place → ¬ OpensSharer plan events (slice_index_or events k d) op
settled_unshared plan events place op s k d l o = open_unended events o.other o.open_still (s.ended k d o.other l o.begins)

-- an operation that ends at all ends behind its Begin
pub ended_behind : (plan : List Operation) (events : List Event) (i hart op : ℕ) (d : Event) → i < length events → AreSound plan events (length events) →
    get_or events i d ≡ Begin hart op → Contains (ended events) op → Contains (ended (take (length events - i) (drop i events))) op
ended_behind plan events i hart op d l s e c =
    elim (Contains-append_cases (ended (take i events)) (ended (drop i events)) op (subst (λ (ops : List ℕ). Contains ops op) (ended_parts events i) c)) [
      | inl a ↦ absurd (unended plan (take i events) (get_or events i d) op (sound_first plan events i (omega arith) s)
          (s i (get_or events i d) BegunTwice l (slice_get-get_or events i d l)) (ap (λ (x : Event). begun_by x) e) a)
      | inr b ↦ subst (λ (es : List Event). Contains (ended es) op) (sym (rest_is events i)) b
    ]

pub ended_at_all : (events : List Event) (i op : ℕ) → Contains (ended (take (length events - i) (drop i events))) op → Contains (ended events) op
ended_at_all events i op c =
    subst (λ (ops : List ℕ). Contains ops op) (sym (ended_parts events i))
    (Contains-append_right (ended (take i events)) (ended (drop i events)) op (subst (λ (es : List Event). Contains (ended es) op) (rest_is events i) c))

-- an event that begins an operation which has ended, or none
pub begins_ended : (events : List Event) (op begins : ℕ) (ends : Bool) → Some begins ≡ Some op → not ends ≡ false →
    (ends ≡ true → Contains (ended events) begins) → Contains (ended events) op
begins_ended events op begins true e f c = let same : begins ≡ op = cc in subst (λ (o : ℕ). Contains (ended events) o) same (c refl)
begins_ended events op begins false e f c = absurd cc

pub begins_none : (events : List Event) (op : ℕ) → None ≡ Some op → Contains (ended events) op
begins_none events op e = absurd cc

pub on_ok : {A E P : Type 0} (outcome : Result A E) → P → OnOk outcome P
on_ok (Ok done) p = p
on_ok (Err fault) p = tt
