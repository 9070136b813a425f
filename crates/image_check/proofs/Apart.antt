-- Where the marks are right, pending operations don't share an inode.
use Rattle.std.proofs.Common.{◌≡◌, ◌⊎◌, ℕ, zero, suc, ◌<◌, ◌≤◌, Bool, true, false, not, inl, inr, List, [], ◌∷◌, ◌++◌, length, get_or, take, refl, sym, ap, ◌∙◌, subst, arith, Some, ◌||◌, add-one}
use Rattle.std.specs.Prelude.{◌==◌}
use Rattle.std.specs.List.{Contains, cons_option, list_any}
use Rattle.std.proofs.lemmas.List.{take_more}
use Rattle.std.proofs.lemmas.List.Elements.{Contains-append_cases, filter_map-append}
use Rattle.std.proofs.lemmas.List.Folds.{list_any-append}
use Rattle.std.proofs.lemmas.Option.{slice_get-get_or}
use Rattle.plan.specs.declared.operation.Operation.{Operation}
use Rattle.store_trace.specs.declared.event.Event.{Event}
use Rattle.store_trace.specs.declared.event.Event.TheVariants.{Store, Clean, Fence, Begin, End}
use Rattle.image_check.specs.Growth.{AreApart}
use Rattle.store_trace.specs.Marks.{begun, begun_by, ended, ended_by, is_open, pending}
use Rattle.image_check.specs.OrderFaults.{AreSound, IsSharing, ShareInode}
use Rattle.image_check.specs.declared.fault.OpFault.TheVariants.{SharesInode}
use Rattle.store_trace.proofs.Members.{from_filter, from_some, in_filter, no_members}

neither_first : (a b : Bool) → not (a || b) ≡ true → not a ≡ true
neither_first true b e = e
neither_first false b e = refl

-- an operation that is open after a further event was open before it
open_before : (events : List Event) (event : Event) (op : ℕ) → is_open (events ++ event ∷ []) op ≡ true → is_open events op ≡ true
open_before events event op e =
    let parts : ended (events ++ event ∷ []) ≡ ended events ++ cons_option (ended_by event) [] = filter_map-append ended_by events (event ∷ []) in
    let any : list_any (λ other. other == op) (ended (events ++ event ∷ [])) ≡
    (list_any (λ other. other == op) (ended events) || list_any (λ other. other == op) (cons_option (ended_by event) [])) =
    ap (λ (xs : List ℕ). list_any (λ other. other == op) xs) parts
    ∙ list_any-append (λ other. other == op) (ended events) (cons_option (ended_by event) []) in
    neither_first (list_any (λ other. other == op) (ended events)) (list_any (λ other. other == op) (cons_option (ended_by event) []))
    (sym (ap (λ (b : Bool). not b) any) ∙ e)

-- a pending operation was pending before the event, or begins in it
pending_cases : (events : List Event) (event : Event) (op : ℕ) → Contains (pending (events ++ event ∷ [])) op →
    Contains (pending events) op ⊎ (begun_by event ≡ Some op)
pending_cases events event op c =
    let both : Contains (begun (events ++ event ∷ [])) op × (is_open (events ++ event ∷ []) op ≡ true) =
    from_filter (is_open (events ++ event ∷ [])) (begun (events ++ event ∷ [])) op c in
    let parts : begun (events ++ event ∷ []) ≡ begun events ++ cons_option (begun_by event) [] = filter_map-append begun_by events (event ∷ []) in
    elim (Contains-append_cases (begun events) (cons_option (begun_by event) []) op (subst (λ (xs : List ℕ). Contains xs op) parts both.0)) [
      | inl a ↦ inl (in_filter (is_open events) (begun events) op a (open_before events event op both.1))
      | inr b ↦ elim (from_some (begun_by event) [] op b) [ inl e ↦ inr e | inr z ↦ absurd (no_members op z) ]
    ]

begun_same : (a b : ℕ) → Some a ≡ Some b → a ≡ b
begun_same a b e = cc

sharing_from : (plan : List Operation) (events : List Event) (event : Event) (op other : ℕ) → begun_by event ≡ Some op →
    Contains (pending events) other → ShareInode plan other op → IsSharing plan events event
sharing_from plan events (Store hart line offset width value) op other e c s = absurd cc
sharing_from plan events (Clean hart line) op other e c s = absurd cc
sharing_from plan events (Fence hart) op other e c s = absurd cc
sharing_from plan events (Begin hart begins) op other e c s =
    (other, c, subst (λ (o : ℕ). ShareInode plan other o) (sym (begun_same begins op e)) s)
sharing_from plan events (End hart ends) op other e c s = absurd cc

shared_both : (plan : List Operation) (a b : ℕ) → ShareInode plan a b → ShareInode plan b a
shared_both plan a b s = record { inode = s.inode; of_one = s.of_other; of_other = s.of_one }

apart_more : (plan : List Operation) (events : List Event) (event : Event) → AreApart plan events → ¬ IsSharing plan events event →
    AreApart plan (events ++ event ∷ [])
apart_more plan events event h n one other c d differ s = elim (pending_cases events event one c) [
  | inl a ↦ elim (pending_cases events event other d) [
    | inl b ↦ h one other a b differ s
    | inr e ↦ n (sharing_from plan events event other one e a s)
  ]
  | inr e ↦ elim (pending_cases events event other d) [
    | inl b ↦ n (sharing_from plan events event one other e b (shared_both plan one other s))
    | inr f ↦ differ (begun_same one other (sym e ∙ f))
  ]
]

apart_first : (plan : List Operation) → AreApart plan []
apart_first plan one other c d differ s = no_members one c

sound_less : (plan : List Operation) (events : List Event) (m n : ℕ) → m ≤ n → AreSound plan events n → AreSound plan events m
sound_less plan events m n h s i event fault l at f = s i event fault (omega arith) at f

apart_upto : (plan : List Operation) (events : List Event) (m : ℕ) → m ≤ length events → AreSound plan events m → AreApart plan (take m events)
apart_upto plan events zero h s = apart_first plan
apart_upto plan events (suc m) h s =
    let inside : m < length events = omega arith in
    let last : Event = get_or events m (Fence 0) in
    let before : AreApart plan (take m events) = apart_upto plan events m (omega arith) (sound_less plan events m (suc m) (omega arith) s) in
    let unshared : ¬ IsSharing plan (take m events) last =
    λ f. s m last SharesInode (omega arith) (slice_get-get_or events m (Fence 0) inside) f in
    let more : take (suc m) events ≡ take m events ++ last ∷ [] = subst (λ (k : ℕ). take k events ≡ take m events ++ last ∷ []) (add-one m) (take_more events m (Fence 0) inside) in
    subst (λ (es : List Event). AreApart plan es) (sym more) (apart_more plan (take m events) last before unshared)

pub sound_apart : (plan : List Operation) (events : List Event) (m : ℕ) → m ≤ length events → AreSound plan events (length events) → AreApart plan (take m events)
sound_apart plan events m h s = apart_upto plan events m h (sound_less plan events m (length events) h s)
