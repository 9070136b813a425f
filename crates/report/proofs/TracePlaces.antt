-- The places of a trace file's events, and their numbers.
use Rattle.std.proofs.Common.{◌≡◌, ◌∙◌, inl, inr, ℕ, ◌+◌, ◌<◌, ◌≤◌, Bool, true, false, List, [], ◌∷◌, ◌++◌, length, get_or, map, take, refl, ap, sym, subst, arith, Less, Equal, Greater, nat_cmp}
use Rattle.std.specs.Prelude.{Contains}
use Rattle.std.specs.Cmp.Lexicographic.{slice_cmp}
use Rattle.std.specs.Global.{Vec}
use Rattle.std.specs.List.{range_with_len}
use Rattle.std.specs.List.Sorted.{IsNonDecreasingBy, IsPartitionPoint, IsPartitionedBy, IsPermutation, IsSorted}
use Rattle.std.specs.Ordering.{is_eq, is_lt, ordering_index, ordering_reverse}
use Rattle.std.specs.declared.cmp.Ordering.{Ordering}
use Rattle.std.proofs.lemmas.Bool.{cases_lt}
use Rattle.std.proofs.lemmas.Cmp.{nat_list_cmp_total, tied_itself}
use Rattle.std.proofs.lemmas.List.{get_or-map, length-map, map-append, take_more}
use Rattle.std.proofs.lemmas.List.FromFn.{map-range_with_len_more}
use Rattle.std.proofs.lemmas.List.Sorted.{Contains-permutation, IsPermutation-map, ranks_by, searchable_from_sorted, sorted_far}
use Rattle.std.proofs.lemmas.Map.Text.{is_eq-slice_cmp}
use Rattle.std.proofs.lemmas.Option.{slice_get-get_or}
use Rattle.std.proofs.lemmas.Slice.Eq.{bytes_eq-Decides}
use Rattle.report.specs.Places.{KnownOrigin, by_words, told_words}
use Rattle.report.specs.Told.{ArePlacesOf, HasNumber, compare, event_of, is_below, line_number, numbered, origin_by, place_of, spaced_in, step_of}
use Rattle.store_trace.specs.declared.event.Event.{Event}
use Rattle.machine.specs.declared.run_trace.traced_event.TracedEvent.{TracedEvent}
use Rattle.trace_file.specs.Ranks.{copies_of, named}
use Rattle.trace_file.specs.Spaced.{spaced_words}

abbrev items_of : Vec ℕ → List ℕ
items_of place = place.items

-- the places of texts stand among them when these are put in order
pub each_there : (texts spaced places : List (Vec ℕ)) → copies_of spaced ≡ spaced_in false texts → IsPermutation spaced places
    → IsSorted compare places → ArePlacesOf texts places
each_there texts spaced places are moved sorted = record {
  upwards = sorted;
  all = λ k d inside.
      let word : List ℕ = spaced_words false (get_or texts k d).items in
      let here : Contains (spaced_in false texts) word = (
        k,
        subst (λ (n : ℕ). k < n) (sym (length-map texts (λ (text : Vec ℕ). spaced_words false text.items))) inside,
        get_or-map (λ (text : Vec ℕ). spaced_words false text.items) texts k d word inside,
      ) in
      Contains-permutation (copies_of spaced) (copies_of places) word (IsPermutation-map items_of spaced places moved)
      (subst (λ (l : List (List ℕ)). Contains l word) (sym are) here);
}

index_of_less : (o : Ordering) → is_lt o ≡ true → ordering_index o ≡ 0
index_of_less Less is = refl
index_of_less Equal is = absurd cc
index_of_less Greater is = absurd cc

less_by_index : (o : Ordering) → ordering_index o ≤ 0 → is_lt o ≡ true
less_by_index Less low = refl
less_by_index Equal low = absurd (omega arith)
less_by_index Greater low = absurd (omega arith)

-- those below a place stand before the others
pub parted : (places : List (Vec ℕ)) (place : List ℕ) → IsSorted compare places → IsPartitionedBy (λ (other : Vec ℕ). is_below other.items place) places
parted places place sorted =
    let rising : IsNonDecreasingBy (λ (other : Vec ℕ). ordering_index (slice_cmp nat_cmp other.items place)) places =
    searchable_from_sorted nat_list_cmp_total items_of places place sorted in
    λ i j d low inside is.
    let zero_at : ordering_index (slice_cmp nat_cmp (get_or places j d).items place) ≡ 0 = index_of_less (slice_cmp nat_cmp (get_or places j d).items place) is in
    less_by_index (slice_cmp nat_cmp (get_or places i d).items place) (omega (arith, rising i j d low inside, zero_at))

not_itself : (place : List ℕ) → is_below place place ≡ false
not_itself place = ap is_lt (tied_itself nat_list_cmp_total place)

tie_by : (one other : List ℕ) (o : Ordering) → slice_cmp nat_cmp one other ≡ o → is_lt o ≡ false → is_below other one ≡ false → one ≡ other
tie_by one other Less e p q = absurd cc
tie_by one other Equal e p q = (bytes_eq-Decides one other).0 (sym (is_eq-slice_cmp one other) ∙ ap is_eq e)
tie_by one other Greater e p q =
    let less : slice_cmp nat_cmp other one ≡ Less = nat_list_cmp_total.antisymm other one ∙ ap ordering_reverse e in
    let below : is_below other one ≡ true = ap is_lt less in
    absurd cc

-- of two places one is below the other, or they are one
tie : (one other : List ℕ) → is_below one other ≡ false → is_below other one ≡ false → one ≡ other
tie one other p q = tie_by one other (slice_cmp nat_cmp one other) refl p q

both : (b : Bool) → b ≡ true → b ≡ false → ⊥
both b p q = absurd cc

shown_at : (places : List (Vec ℕ)) (n : ℕ) (d : Vec ℕ) → n < length places → numbered places n ≡ told_words (get_or places n d).items
shown_at places n d inside = ap by_words (slice_get-get_or places n d inside)

words_of_shown : (words other : List ℕ) → told_words words ≡ told_words other → words ≡ other
words_of_shown words other e = cc

-- the number of a place that is there: how many are below it
numbered_by : (places : List (Vec ℕ)) (v : Vec ℕ) (place : List ℕ) (n : ℕ) → IsSorted compare places → Contains (copies_of places) place
    → IsPartitionPoint (λ (other : Vec ℕ). is_below other.items place ≡ true) (λ (other : Vec ℕ). is_below other.items place ≡ false) places n
    → HasNumber places place n
numbered_by places v place n sorted there point =
    let j : ℕ = there.0 in
    let j_inside : j < length places = omega (arith, there.1, length-map places items_of) in
    let at_j : (get_or places j v).items ≡ place = sym (get_or-map items_of places j v place j_inside) ∙ there.2 in
    let low : n ≤ j = elim (cases_lt j n) [
      | inl before ↦
          absurd (both (is_below (get_or places j v).items place) (point.0 j v (omega arith) before)
          (ap (λ (p : List ℕ). is_below p place) at_j ∙ not_itself place))
      | inr h ↦ h
    ] in
    let inside : n < length places = omega arith in
    let not_below : is_below (get_or places n v).items place ≡ false = point.1 n v (omega arith) inside in
    let not_above : is_below (get_or places j v).items (get_or places n v).items ≡ false =
    sorted_far (λ one other. is_lt (compare one other)) (ranks_by nat_list_cmp_total items_of) places sorted n j v low j_inside in
    let here : (get_or places n v).items ≡ place =
    tie (get_or places n v).items place not_below (ap (λ (p : List ℕ). is_below p (get_or places n v).items) (sym at_j) ∙ not_above) in
    record {
      there = shown_at places n v inside ∙ ap told_words here;
      first = λ k words other before is is_other.
          let mine : (get_or places n v).items ≡ words = words_of_shown _ _ (sym (shown_at places n v inside) ∙ is) in
          let others : (get_or places k v).items ≡ other = words_of_shown _ _ (sym (shown_at places k v (omega arith)) ∙ is_other) in
          let below : is_below (get_or places k v).items place ≡ true = point.0 k v (omega arith) before in
          ap (λ (p : List ℕ). is_below p words) (sym others) ∙ ap (λ (p : List ℕ). is_below (get_or places k v).items p) (sym mine ∙ here) ∙ below;
    }

pub numbered_at : (places : List (Vec ℕ)) (place : List ℕ) (n : ℕ) → IsSorted compare places → Contains (copies_of places) place
    → IsPartitionPoint (λ (other : Vec ℕ). is_below other.items place ≡ true) (λ (other : Vec ℕ). is_below other.items place ≡ false) places n
    → HasNumber places place n
numbered_at [] place n sorted there point = let none : there.0 < 0 = there.1 in absurd (omega arith)
numbered_at (v ∷ vs) place n sorted there point = numbered_by (v ∷ vs) v place n sorted there point

-- an event more, with its line's name
pub event_more : (names : List ℕ) (events : List Event) (at : ℕ) (d : Event) (traced more : List TracedEvent) (one : TracedEvent) → at < length events
    → map event_of traced ≡ map (named names) (take at events) → one.event ≡ named names (get_or events at d) → more ≡ traced ++ one ∷ []
    → map event_of more ≡ map (named names) (take (at + 1) events)
event_more names events at d traced more one inside was is added =
    ap (map event_of) added
    ∙ map-append event_of traced (one ∷ [])
    ∙ ap (λ (l : List Event). l ++ one.event ∷ []) was
    ∙ ap (λ (e : Event). map (named names) (take at events) ++ e ∷ []) is
    ∙ sym (map-append (named names) (take at events) (get_or events at d ∷ []))
    ∙ sym (ap (map (named names)) (take_more events at d inside))

-- and with the number of its place
pub place_more : (origins : ℕ → KnownOrigin) (texts : List (Vec ℕ)) (at : ℕ) (text : Vec ℕ) (traced more : List TracedEvent) (one : TracedEvent)
    → at < length texts → text ≡ get_or texts at text → map (origin_by origins) traced ≡ map place_of (take at texts)
    → origins one.pc ≡ place_of text → more ≡ traced ++ one ∷ [] → map (origin_by origins) more ≡ map place_of (take (at + 1) texts)
place_more origins texts at text traced more one inside read was is added =
    ap (map (origin_by origins)) added
    ∙ map-append (origin_by origins) traced (one ∷ [])
    ∙ ap (λ (l : List KnownOrigin). l ++ origins one.pc ∷ []) was
    ∙ ap (λ (o : KnownOrigin). map place_of (take at texts) ++ o ∷ []) (is ∙ ap place_of read)
    ∙ sym (map-append place_of (take at texts) (get_or texts at text ∷ []))
    ∙ sym (ap (map place_of) (take_more texts at text inside))

-- and with the number of its line
pub step_more : (at : ℕ) (traced more : List TracedEvent) (one : TracedEvent) → map step_of traced ≡ map line_number (range_with_len 0 at)
    → one.step ≡ at + 1 → more ≡ traced ++ one ∷ [] → map step_of more ≡ map line_number (range_with_len 0 (at + 1))
step_more at traced more one was is added =
    ap (map step_of) added
    ∙ map-append step_of traced (one ∷ [])
    ∙ ap (λ (l : List ℕ). l ++ one.step ∷ []) was
    ∙ ap (λ (n : ℕ). map line_number (range_with_len 0 at) ++ n ∷ []) is
    ∙ sym (map-range_with_len_more line_number 0 at at (omega arith))
