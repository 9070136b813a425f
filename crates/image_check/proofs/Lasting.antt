-- From a moment to the next, event by event: a pass and the flags that are kept.
use Rattle.std.proofs.Common.{◌≡◌, ℕ, ◌+◌, ◌<◌, ◌==◌, ◌&&◌, not, Bool, true, false, cond, inl, inr, List, [], ◌∷◌, ◌++◌, length, get_or, take, refl, sym, ap, subst, ◌∙◌, arith, None, append-nil, eqb-true, eq-eqb}
use Rattle.std.specs.Prelude.{Result, filter}
use Rattle.std.specs.List.{Contains, flat_map}
use Rattle.std.proofs.lemmas.Bool.{cases_Bool}
use Rattle.std.proofs.lemmas.List.{take_more}
use Rattle.std.proofs.lemmas.List.Elements.{filter-append}
use Rattle.std.proofs.lemmas.Option.{slice_get-get_or}
use Rattle.nova_log.specs.Volumes.{volume_of}
use Rattle.nova_log.specs.declared.fault.VolumeFault.{VolumeFault}
use Rattle.plan.specs.declared.operation.Operation.{Operation}
use Rattle.store_trace.specs.History.{at_moment, history}
use Rattle.store_trace.specs.declared.event.Event.{Event}
use Rattle.store_trace.specs.declared.event.Event.TheVariants.{Store, Clean, Fence, Begin, End}
use Rattle.nova_log.specs.declared.volume.entry.Entry.{Entry}
use Rattle.image_check.specs.Keeping.{KeepsPass}
use Rattle.image_check.specs.Legal.{IsLegal, with_entries}
use Rattle.store_trace.specs.Marks.{begun, begun_by, ended, ended_by, is_open, pending}
use Rattle.image_check.specs.OrderFaults.{AreSound, HasFault}
use Rattle.image_check.specs.Planned.{planned}
use Rattle.image_check.specs.Verdicts.{AreFlagged, IsMomentVerdict, asks_at, found_at}
use Rattle.image_check.specs.declared.fault.OpFault.TheVariants.{BegunTwice}
use Rattle.verdict.specs.Branches.{same_number}
use Rattle.verdict.proofs.Keeping.{like_next, pass_kept}
use Rattle.verdict.specs.declared.moment_verdict.verdict.MomentVerdict.TheVariants as moments
use Rattle.image_check.proofs.Beginning.{sound_first, unended}
use Rattle.image_check.proofs.Keeping.{by_lines, unseen}
use Rattle.store_trace.proofs.Members.{contains_first, contains_later, from_filter}
use Rattle.image_check.proofs.Pending.{pending_kept, pending_more}
use Rattle.store_trace.proofs.Marking.{ended_kept}

-- where no operation begins or ends, the same is legal
legal_same : (plan : List Operation) (r : Result (List (List Entry)) VolumeFault) (before after : List Event) (v : List (List Entry)) →
    ended after ≡ ended before → pending after ≡ pending before → IsLegal plan r before v → IsLegal plan r after v
legal_same plan r before after v e p l = record {
  before = l.before;
  started = l.started;
  chosen = l.chosen;
  grown =
      ap (λ (over : List ℕ). with_entries l.before (flat_map (planned plan) (over ++ filter l.chosen (pending after)))) e
      ∙ ap (λ (ops : List ℕ). with_entries l.before (flat_map (planned plan) (ended before ++ filter l.chosen ops))) p
      ∙ l.grown;
}

legal_other : (plan : List Operation) (r : Result (List (List Entry)) VolumeFault) (before : List Event) (event : Event) (v : List (List Entry)) →
    begun_by event ≡ None → ended_by event ≡ None → IsLegal plan r before v → IsLegal plan r (before ++ event ∷ []) v
legal_other plan r before event v b e l =
    legal_same plan r before (before ++ event ∷ []) v (ended_kept before event e) (pending_kept before event b e) l

-- where one begins, each legal volume is legal without it
and_true : (b : Bool) → (b && true) ≡ b
and_true true = refl
and_true false = refl

and_false : (b : Bool) → (b && false) ≡ false
and_false true = refl
and_false false = refl

unequal : (a b : ℕ) → ¬ (a ≡ b) → (a == b) ≡ false
unequal a b n = elim (cases_Bool (a == b)) [ inl t ↦ absurd (n (eqb-true a b t)) | inr f ↦ f ]

filter_without : (p : ℕ → Bool) (op : ℕ) (xs : List ℕ) → ¬ Contains xs op → filter (λ x. p x && not (op == x)) xs ≡ filter p xs
filter_without p op [] n = refl
filter_without p op (x ∷ xs) n =
    let test : (p x && not (op == x)) ≡ p x = ap (λ (b : Bool). p x && not b) (unequal op x (λ e. n (contains_first x xs op (sym e)))) ∙ and_true (p x) in
    ap (λ (b : Bool). cond b (x ∷ filter (λ y. p y && not (op == y)) xs) (filter (λ y. p y && not (op == y)) xs)) test
    ∙ ap (λ (rest : List ℕ). cond (p x) (x ∷ rest) rest) (filter_without p op xs (λ c. n (contains_later x xs op c)))

filter_last : (p : ℕ → Bool) (op : ℕ) → filter (λ x. p x && not (op == x)) (op ∷ []) ≡ []
filter_last p op =
    let test : (p op && not (op == op)) ≡ false = ap (λ (b : Bool). p op && not b) (eq-eqb op op refl) ∙ and_false (p op) in
    ap (λ (b : Bool). cond b (op ∷ []) []) test

legal_begun : (plan : List Operation) (r : Result (List (List Entry)) VolumeFault) (before : List Event) (hart op : ℕ) (v : List (List Entry)) →
    ¬ Contains (begun before) op → ¬ Contains (ended before) op → IsLegal plan r before v → IsLegal plan r (before ++ Begin hart op ∷ []) v
legal_begun plan r before hart op v n m l =
    let after = before ++ Begin hart op ∷ [] in
    let test : ℕ → Bool = λ x. l.chosen x && not (op == x) in
    let open_now : ¬ Contains (pending before) op = λ c. n (from_filter (is_open before) (begun before) op c).0 in
    let same : filter (λ x. l.chosen x && not (op == x)) (pending after) ≡ filter l.chosen (pending before) =
    ap (λ (ops : List ℕ). filter (λ x. l.chosen x && not (op == x)) ops) (pending_more before hart op m)
    ∙ filter-append (λ x. l.chosen x && not (op == x)) (pending before) (op ∷ [])
    ∙ ap (λ (last : List ℕ). filter (λ x. l.chosen x && not (op == x)) (pending before) ++ last) (filter_last l.chosen op)
    ∙ append-nil (filter (λ x. l.chosen x && not (op == x)) (pending before))
    ∙ filter_without l.chosen op (pending before) open_now in
    record {
      before = l.before;
      started = l.started;
      chosen = λ x. l.chosen x && not (op == x);
      grown =
          ap (λ (over : List ℕ). with_entries l.before (flat_map (planned plan) (over ++ filter (λ x. l.chosen x && not (op == x)) (pending after))))
          (ended_kept before (Begin hart op) refl)
          ∙ ap (λ (ops : List ℕ). with_entries l.before (flat_map (planned plan) (ended before ++ ops))) same
          ∙ l.grown;
    }

legal_event : (plan : List Operation) (r : Result (List (List Entry)) VolumeFault) (before : List Event) (event : Event) (flags : List Bool) (v : List (List Entry)) →
    AreSound plan before (length before) → ¬ HasFault plan before event BegunTwice → KeepsPass flags event →
    IsLegal plan r before v → IsLegal plan r (before ++ event ∷ []) v
legal_event plan r before (Store hart m o w b) flags v s n k l = legal_other plan r before (Store hart m o w b) v refl refl l
legal_event plan r before (Clean hart m) flags v s n k l = legal_other plan r before (Clean hart m) v refl refl l
legal_event plan r before (Fence hart) flags v s n k l = legal_other plan r before (Fence hart) v refl refl l
legal_event plan r before (Begin hart op) flags v s n k l =
    legal_begun plan r before hart op v n (unended plan before (Begin hart op) op s n refl) l
legal_event plan r before (End hart op) flags v s n k l = absurd k

pub kept_next : (plan : List Operation) (start : List (List ℕ)) (events : List Event) (i : ℕ) (d : Event) (flags : List Bool) → i < length events →
    AreSound plan events (length events) → KeepsPass flags (get_or events i d) → AreFlagged start (at_moment events i) flags →
    IsMomentVerdict plan start (take i events) moments.Pass →
    AreFlagged start (at_moment events (i + 1)) flags × IsMomentVerdict plan start (take (i + 1) events) moments.Pass
kept_next plan start events i d flags l s k f pass =
    let event = get_or events i d in
    let before = take i events in
    let after = take (i + 1) events in
    let same : before ++ event ∷ [] ≡ after = sym (take_more events i d l) in
    let twice : ¬ HasFault plan before event BegunTwice = s i event BegunTwice l (slice_get-get_or events i d l) in
    let legal : (v : List (List Entry)) → IsLegal plan (volume_of start) before v → IsLegal plan (volume_of start) after v =
    λ v h. subst (λ (es : List Event). IsLegal plan (volume_of start) es v) same
    (legal_event plan (volume_of start) before event flags v (sound_first plan events i (omega arith) s) twice k h) in
    pass_kept false start (history before) (history after) flags same_number same_number (asks_at start (history before)) (asks_at start (history after)) (found_at plan start before)
    (found_at plan start after) (λ q n m x y e. e) (like_next start events i d flags l (unseen flags event k)) (by_lines plan start before after legal) f pass
