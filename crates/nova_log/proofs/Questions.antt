-- Questions that were asked one after the other: a list of them through or stopped, from its parts.
use Rattle.std.proofs.Common.{◌≡◌, ℕ, zero, suc, ◌+◌, ◌-◌, ◌<◌, ◌≤◌, List, [], ◌∷◌, ◌++◌, length, get_or, map, take, drop, refl, sym, ap, subst, ◌∙◌, append_assoc, arith, Option, Some, None}
use Rattle.std.proofs.lemmas.List.{append-nil, map-append, take_more, take-append-drop}
use Rattle.std.proofs.lemmas.Grind.{flat_map-append}
use Rattle.std.specs.Option.{option_or}
use Rattle.std.proofs.lemmas.List.Elements.{All-append}
use Rattle.std.specs.List.{All, flat_map, range_with_len}
use Rattle.nova_log.specs.Questions.{Question, question, first_fault, lines_asked, unless_ended, IsThrough, IsStopped}
use Rattle.nova_log.specs.declared.fault.VolumeFault.{VolumeFault}

pub or_none : (f g : Option VolumeFault) → option_or f g ≡ None → (f ≡ None) × (g ≡ None)
or_none None g e = (refl, e)
or_none (Some f) g e = absurd (cc)

-- two lists in a row
pub first_after : (p q : List Question) → first_fault p ≡ None → first_fault (p ++ q) ≡ first_fault q
first_after [] q e = refl
first_after (x ∷ p) q e = let b = or_none x.fault (first_fault p) e in rw b.0 (first_after p q b.1)

pub asked_after : (p q : List Question) → first_fault p ≡ None → lines_asked (p ++ q) ≡ lines_asked p ++ lines_asked q
asked_after [] q e = refl
asked_after (x ∷ p) q e =
    let b = or_none x.fault (first_fault p) e in
    rw b.0 (ap (λ (lines : List ℕ). x.line ∷ lines) (asked_after p q b.1))

pub first_before : (p q : List Question) (f : VolumeFault) → first_fault p ≡ Some f → first_fault (p ++ q) ≡ Some f
first_before [] q f e = absurd (cc)
first_before (x ∷ p) q f e =
    (elim x.fault as (λ g. option_or g (first_fault p) ≡ Some f → option_or g (first_fault (p ++ q)) ≡ Some f) [
      | None ↦ λ h. first_before p q f h
      | Some g ↦ λ h. h
    ]) e

pub asked_before : (p q : List Question) (f : VolumeFault) → first_fault p ≡ Some f → lines_asked (p ++ q) ≡ lines_asked p
asked_before [] q f e = absurd (cc)
asked_before (x ∷ p) q f e =
    (elim x.fault as (λ g. option_or g (first_fault p) ≡ Some f → x.line ∷ unless_ended g (lines_asked (p ++ q)) ≡ x.line ∷ unless_ended g (lines_asked p)) [
      | None ↦ λ h. ap (λ (lines : List ℕ). x.line ∷ lines) (asked_before p q f h)
      | Some g ↦ λ h. refl
    ]) e

pub through_both : (p q : List Question) (a b c : List ℕ) → IsThrough p a b → IsThrough q b c → IsThrough (p ++ q) a c
through_both p q a b c h k = record {
  clean = first_after p q h.clean ∙ k.clean;
  asked = rw (asked_after p q h.clean)
      (k.asked ∙ ap (λ (lines : List ℕ). lines ++ lines_asked q) h.asked ∙ append_assoc a (lines_asked p) (lines_asked q));
}

pub stopped_second : (p q : List Question) (f : VolumeFault) (a b c : List ℕ) → IsThrough p a b → IsStopped q f b c → IsStopped (p ++ q) f a c
stopped_second p q f a b c h k = record {
  first = first_after p q h.clean ∙ k.first;
  asked = rw (asked_after p q h.clean)
      (k.asked ∙ ap (λ (lines : List ℕ). lines ++ lines_asked q) h.asked ∙ append_assoc a (lines_asked p) (lines_asked q));
}

pub stopped_first : (p q : List Question) (f : VolumeFault) (a b : List ℕ) → IsStopped p f a b → IsStopped (p ++ q) f a b
stopped_first p q f a b h = record {
  first = first_before p q f h.first;
  asked = rw (asked_before p q f h.first) h.asked;
}

-- no question, and one
pub through_none : (a : List ℕ) → IsThrough [] a a
through_none a = record { clean = refl; asked = sym (append-nil a) }

pub through_one : (line : ℕ) (fault : Option VolumeFault) (a b : List ℕ) → fault ≡ None → b ≡ a ++ line ∷ [] → IsThrough (question line fault ∷ []) a b
through_one line fault a b e asked = rw e (record { clean = refl; asked = asked })

pub stopped_one : (line : ℕ) (fault : Option VolumeFault) (f : VolumeFault) (a b : List ℕ) → fault ≡ Some f → b ≡ a ++ line ∷ [] → IsStopped (question line fault ∷ []) f a b
stopped_one line fault f a b e asked = rw e (record { first = refl; asked = asked })

-- one more number of a range
pub range_more : (a n : ℕ) → range_with_len a (n + 1) ≡ range_with_len a n ++ (a + n) ∷ []
range_more a zero = let e : a + 0 ≡ a = omega arith in rw e refl
range_more a (suc n) =
    let one : suc n + 1 ≡ suc (n + 1) = omega arith in
    let sum : a + suc n ≡ a + 1 + n = omega arith in
    rw (one, sum) (ap (λ (rest : List ℕ). a ∷ rest) (range_more (a + 1) n))

pub range_parts : (a n m : ℕ) → range_with_len a (n + m) ≡ range_with_len a n ++ range_with_len (a + n) m
range_parts a zero m = let e : 0 + m ≡ m = omega arith in let s : a + 0 ≡ a = omega arith in rw (e, s) refl
range_parts a (suc n) m =
    let one : suc n + m ≡ suc (n + m) = omega arith in
    let sum : a + suc n ≡ a + 1 + n = omega arith in
    rw (one, sum) (ap (λ (rest : List ℕ). a ∷ rest) (range_parts (a + 1) n m))

pub numbers_through : (f : ℕ → List Question) (from n number : ℕ) (a b c : List ℕ) → from + n ≡ number →
    IsThrough (flat_map f (range_with_len from n)) a b → IsThrough (f number) b c → IsThrough (flat_map f (range_with_len from (n + 1))) a c
numbers_through f from n number a b c e h k =
    let one : f number ++ [] ≡ f number = append-nil (f number) in
    let split : flat_map f (range_with_len from (n + 1)) ≡ flat_map f (range_with_len from n) ++ f number =
    rw (range_more from n, e, flat_map-append f (range_with_len from n) (number ∷ [])) (ap (λ (rest : List Question). flat_map f (range_with_len from n) ++ rest) one) in
    rw split (through_both (flat_map f (range_with_len from n)) (f number) a b c h k)

numbers_split : (f : ℕ → List Question) (from n rest number : ℕ) → from + n ≡ number →
    flat_map f (range_with_len from (n + suc rest)) ≡ flat_map f (range_with_len from n) ++ (f number ++ flat_map f (range_with_len (number + 1) rest))
numbers_split f from n rest number e = rw (range_parts from n (suc rest), e) (flat_map-append f (range_with_len from n) (range_with_len number (suc rest)))

numbers_ended : (f : ℕ → List Question) (from n rest number : ℕ) (fault : VolumeFault) (a b c : List ℕ) → from + n ≡ number →
    IsThrough (flat_map f (range_with_len from n)) a b → IsStopped (f number) fault b c → IsStopped (flat_map f (range_with_len from (n + suc rest))) fault a c
numbers_ended f from n rest number fault a b c e h k =
    rw (numbers_split f from n rest number e)
    (stopped_second (flat_map f (range_with_len from n)) (f number ++ flat_map f (range_with_len (number + 1) rest)) fault a b c h
    (stopped_first (f number) (flat_map f (range_with_len (number + 1) rest)) fault b c k))

pub numbers_stopped : (f : ℕ → List Question) (from n count number : ℕ) (fault : VolumeFault) (a b c : List ℕ) → from + n ≡ number → n < count →
    IsThrough (flat_map f (range_with_len from n)) a b → IsStopped (f number) fault b c → IsStopped (flat_map f (range_with_len from count)) fault a c
numbers_stopped f from n count number fault a b c e less h k =
    let parts : n + suc (count - suc n) ≡ count = omega arith in
    let P : ℕ → Type 0 = λ m. IsStopped (flat_map f (range_with_len from m)) fault a c in
    subst P parts (numbers_ended f from n (count - suc n) number fault a b c e h k)

-- the same, from one number to below another
pub span_through : (f : ℕ → List Question) (from number : ℕ) (a b c : List ℕ) → from ≤ number →
    IsThrough (flat_map f (range_with_len from (number - from))) a b → IsThrough (f number) b c →
    IsThrough (flat_map f (range_with_len from (number + 1 - from))) a c
span_through f from number a b c le h k =
    let e : from + (number - from) ≡ number = omega arith in
    let more : number + 1 - from ≡ (number - from) + 1 = omega arith in
    rw more (numbers_through f from (number - from) number a b c e h k)

pub span_stopped : (f : ℕ → List Question) (from number end : ℕ) (fault : VolumeFault) (a b c : List ℕ) → from ≤ number → number < end →
    IsThrough (flat_map f (range_with_len from (number - from))) a b → IsStopped (f number) fault b c →
    IsStopped (flat_map f (range_with_len from (end - from))) fault a c
span_stopped f from number end fault a b c le less h k =
    let e : from + (number - from) ≡ number = omega arith in
    numbers_stopped f from (number - from) (end - from) number fault a b c e (omega arith) h k

-- the values of one more number
pub numbers_mapped : {X : Type 0} (f : ℕ → X) (from n number : ℕ) (items : List X) (item : X) → from + n ≡ number →
    items ≡ map f (range_with_len from n) → item ≡ f number → items ++ item ∷ [] ≡ map f (range_with_len from (n + 1))
numbers_mapped {X} f from n number items item e h k =
    rw (range_more from n, e, map-append f (range_with_len from n) (number ∷ []), h, k) refl

pub span_mapped : {X : Type 0} (f : ℕ → X) (from number : ℕ) (items : List X) (item : X) → from ≤ number →
    items ≡ map f (range_with_len from (number - from)) → item ≡ f number → items ++ item ∷ [] ≡ map f (range_with_len from (number + 1 - from))
span_mapped {X} f from number items item le h k =
    let e : from + (number - from) ≡ number = omega arith in
    let more : number + 1 - from ≡ (number - from) + 1 = omega arith in
    rw more (numbers_mapped f from (number - from) number items item e h k)

-- the values of one more item
pub items_mapped : {X Y : Type 0} (f : X → Y) (items : List X) (i : ℕ) (d : X) (values : List Y) (value : Y) → i < length items →
    values ≡ map f (take i items) → value ≡ f (get_or items i d) → values ++ value ∷ [] ≡ map f (take (i + 1) items)
items_mapped {X} {Y} f items i d values value less h k =
    rw (take_more items i d less, map-append f (take i items) (get_or items i d ∷ []), h, k) refl

-- one more item of a list
pub items_through : {X : Type 0} (f : X → List Question) (items : List X) (i : ℕ) (d : X) (a b c : List ℕ) → i < length items →
    IsThrough (flat_map f (take i items)) a b → IsThrough (f (get_or items i d)) b c → IsThrough (flat_map f (take (i + 1) items)) a c
items_through {X} f items i d a b c less h k =
    let item = get_or items i d in
    let one : f item ++ [] ≡ f item = append-nil (f item) in
    let split : flat_map f (take (i + 1) items) ≡ flat_map f (take i items) ++ f item =
    rw (take_more items i d less, flat_map-append f (take i items) (item ∷ [])) (ap (λ (rest : List Question). flat_map f (take i items) ++ rest) one) in
    rw split (through_both (flat_map f (take i items)) (f item) a b c h k)

pub items_stopped : {X : Type 0} (f : X → List Question) (items : List X) (i : ℕ) (d : X) (fault : VolumeFault) (a b c : List ℕ) → i < length items →
    IsThrough (flat_map f (take i items)) a b → IsStopped (f (get_or items i d)) fault b c → IsStopped (flat_map f items) fault a c
items_stopped {X} f items i d fault a b c less h k =
    let item = get_or items i d in
    let one : f item ++ [] ≡ f item = append-nil (f item) in
    let split : flat_map f items ≡ (flat_map f (take i items) ++ f item) ++ flat_map f (drop (i + 1) items) =
    (ap (λ (all : List X). flat_map f all) (sym (take-append-drop (i + 1) items)))
    ∙ flat_map-append f (take (i + 1) items) (drop (i + 1) items)
    ∙ ap (λ (front : List Question). front ++ flat_map f (drop (i + 1) items))
    (rw (take_more items i d less, flat_map-append f (take i items) (item ∷ [])) (ap (λ (rest : List Question). flat_map f (take i items) ++ rest) one)) in
    rw split (stopped_first (flat_map f (take i items) ++ f item) (flat_map f (drop (i + 1) items)) fault a c
    (stopped_second (flat_map f (take i items)) (f item) fault a b c h k))

-- of the whole list the rest is left to ask
pub record Leads (whole rest : List Question) (before now : List ℕ) : Type 0 where
  pub first : first_fault whole ≡ first_fault rest
  pub asked : before ++ lines_asked whole ≡ now ++ lines_asked rest

pub leads_start : (whole : List Question) (a : List ℕ) → Leads whole whole a a
leads_start whole a = record { first = refl; asked = refl }

pub leads_more : (whole rest one next : List Question) (a b c : List ℕ) → Leads whole rest a b → rest ≡ one ++ next → IsThrough one b c → Leads whole next a c
leads_more whole rest one next a b c h e k = record {
  first = h.first ∙ ap first_fault e ∙ first_after one next k.clean;
  asked = h.asked ∙ ap (λ (q : List Question). b ++ lines_asked q) e ∙ ap (λ (lines : List ℕ). b ++ lines) (asked_after one next k.clean)
      ∙ sym (append_assoc b (lines_asked one) (lines_asked next)) ∙ ap (λ (lines : List ℕ). lines ++ lines_asked next) (sym k.asked);
}

pub leads_end : (whole rest : List Question) (a b : List ℕ) → Leads whole rest a b → rest ≡ [] → IsThrough whole a b
leads_end whole rest a b h e = record {
  clean = h.first ∙ ap first_fault e;
  asked = sym (h.asked ∙ ap (λ (q : List Question). b ++ lines_asked q) e ∙ append-nil b);
}

pub leads_stopped : (whole rest one next : List Question) (fault : VolumeFault) (a b c : List ℕ) → Leads whole rest a b → rest ≡ one ++ next →
    IsStopped one fault b c → IsStopped whole fault a c
leads_stopped whole rest one next fault a b c h e k = record {
  first = h.first ∙ ap first_fault e ∙ first_before one next fault k.first;
  asked = sym (h.asked ∙ ap (λ (q : List Question). b ++ lines_asked q) e ∙ ap (λ (lines : List ℕ). b ++ lines) (asked_before one next fault k.first) ∙ sym k.asked);
}

-- one more item of which a fact holds
all_one : {X : Type 0} (P : X → Type 0) (x : X) → P x → (k : ℕ) (d : X) → k < length (x ∷ []) → P (get_or (x ∷ []) k d)
all_one P x h zero d less = h
all_one P x h (suc k) d less = absurd (omega arith)

pub all_more : {X : Type 0} (P : X → Type 0) (items : List X) (x : X) → All P items → P x → All P (items ++ x ∷ [])
all_more P items x h one = All-append P items (x ∷ []) h (all_one P x one)
