-- States by the numbers of their parts.
use Rattle.std.proofs.Common.{◌≡◌, ◌⊎◌, inl, inr, ℕ, ◌+◌, ◌<◌, List, [], ◌∷◌, ◌++◌, Some, length, slice_get, slice_index_or, slice_set, refl, sym, ap, ◌∙◌, subst, arith}
use Rattle.std.proofs.lemmas.Bool.{cases_eq}
use Rattle.std.proofs.lemmas.List.{get_or-set_other, get_or-set_same, length-append}
use Rattle.std.proofs.lemmas.Option.{get_or_from_slice_get, same_Some, slice_get-get_or, slice_get_within}
use Rattle.bus.proofs.Places.{there_is}
use Rattle.schedule_states.proofs.Growing.{there_still}
use Rattle.schedule_states.proofs.Looking.{each_pushed, got_appended, within_kept}
use Rattle.schedule_states.specs.Covering.{IsMet, ReachedView}
use Rattle.schedule_states.specs.Numbers.{AreKept}
use Rattle.schedule_states.specs.Reaching.{AreNumbered, AreNumbersOf, ArePartsOf, AreThere, HaveGrown}
use Rattle.schedule_states.specs.States.{AreGrown, PartsView}
use Rattle.schedule_states.specs.Successors.{HasLists}
use Rattle.schedule_states.specs.declared.program_state.HartPart.{HartPart}
use Rattle.schedule_states.specs.declared.program_state.ProgramState.{ProgramState}
use Rattle.schedule_states.specs.declared.program_state.StateNumbers.{StateNumbers}

pub numbers_there : {T : Type 0} (old new : ReachedView T) (numbers : StateNumbers) → HaveGrown old new → AreThere old numbers → AreThere new numbers
numbers_there old new numbers grown there = record {
  memory = there_still old.parts new.parts numbers.memory grown.parts there.memory;
  standing = within_kept old.standings new.standings numbers.standing grown.standings there.standing;
  harts = λ h few.
      let was : h < old.harts = omega (arith, grown.harts, few) in
      let part : (part : HartPart) × (slice_get old.hart_parts (slice_index_or numbers.harts h 0) ≡ Some part) × (part.text < length old.parts.lists) = there.harts h was in
      (part.0, grown.hart_parts (slice_index_or numbers.harts h 0) part.0 part.1, there_still old.parts new.parts part.0.text grown.parts part.2);
}

pub met_kept : {T : Type 0} (old new : ReachedView T) (n : ℕ) (s : ProgramState) (t : T) → HaveGrown old new → IsMet old n s t → IsMet new n s t
met_kept old new n s t grown met = record {
  numbers = met.numbers;
  found = grown.states n met.numbers met.found;
  memory = met.memory;
  standing = grown.standings met.numbers.standing t met.standing;
  count = met.count ∙ sym grown.harts;
  each = λ h part here. grown.hart_parts (slice_index_or met.numbers.harts h 0) part (met.each h part here);
}

pub parts_kept : {T : Type 0} (old new : ReachedView T) (numbers : StateNumbers) (parts : List HartPart) → HaveGrown old new → ArePartsOf old numbers old.harts parts →
    ArePartsOf new numbers new.harts parts
parts_kept old new numbers parts grown are = record {
  count_is = are.count_is ∙ sym grown.harts;
  each = λ h part here. grown.hart_parts (slice_index_or numbers.harts h 0) part (are.each h part here);
}

pub parts_more : {T : Type 0} (r : ReachedView T) (numbers : StateNumbers) (count : ℕ) (parts : List HartPart) (part : HartPart) → ArePartsOf r numbers count parts →
    slice_get r.hart_parts (slice_index_or numbers.harts count 0) ≡ Some part → ArePartsOf r numbers (count + 1) (parts ++ part ∷ [])
parts_more r numbers count parts part are here = record {
  count_is = let more : length (parts ++ part ∷ []) ≡ length parts + 1 = length-append parts (part ∷ []) in more ∙ ap (λ (n : ℕ). n + 1) are.count_is;
  each = each_pushed (λ h one. slice_get r.hart_parts (slice_index_or numbers.harts h 0) ≡ Some one) parts part are.each (rw are.count_is here);
}

pub numbers_more : (old new parts : List HartPart) (count : ℕ) (numbers : List ℕ) (number : ℕ) (part : HartPart) → count < 8 → length numbers ≡ 8 → AreKept old new →
    slice_get parts count ≡ Some part → slice_get new number ≡ Some part → AreNumbersOf old parts count numbers →
    AreNumbersOf new parts (count + 1) (slice_set numbers count number)
numbers_more old new parts count numbers number part few long kept there found are h one within got =
    elim (cases_eq h count) [
      | inl same ↦
          let both : Some part ≡ Some one = sym there ∙ ap (λ (n : ℕ). slice_get parts n) (sym same) ∙ got in
          let here : slice_index_or (slice_set numbers count number) h 0 ≡ number = ap (λ (n : ℕ). slice_index_or (slice_set numbers count number) n 0) same
          ∙ get_or-set_same numbers count number 0 (omega (arith, few, long)) in
          rw here (found ∙ both)
      | inr apart ↦ rw (get_or-set_other numbers count h number 0 apart) (kept (slice_index_or numbers h 0) one (are h one (omega (arith, within, apart)) got))
    ]

pub numbered_kept : {T : Type 0} (old new : ReachedView T) → HaveGrown old new → new.states ≡ old.states → AreNumbered old → AreNumbered new
numbered_kept old new grown same are = record {
  few = rw grown.harts are.few;
  each = λ n numbers found. numbers_there old new numbers grown (are.each n numbers (sym (ap (λ (xs : List StateNumbers). slice_get xs n) same) ∙ found));
}

abbrev pub with_states : {T : Type 0} → ReachedView T → List StateNumbers → ReachedView T
with_states r states = record { parts = r.parts; hart_parts = r.hart_parts; standings = r.standings; states = states; harts = r.harts }

there_at : {T : Type 0} (r : ReachedView T) (states : List StateNumbers) (one : StateNumbers) → AreThere r one → AreThere (with_states r states) one
there_at r states one there = record { memory = there.memory; standing = there.standing; harts = there.harts }

pub numbered_more : {T : Type 0} (r : ReachedView T) (states : List StateNumbers) (numbers : StateNumbers) → AreNumbered r → AreThere r numbers →
    (states ≡ r.states) ⊎ (states ≡ r.states ++ numbers ∷ []) →
    AreNumbered (with_states r states)
numbered_more r states numbers are there appended = record {
  few = are.few;
  each = λ n one found. there_at r states one (elim (got_appended r.states states numbers appended n one found) [
    | inl before ↦ are.each n one before
    | inr same ↦ subst (λ (x : StateNumbers). AreThere r x) (sym same) there
  ]);
}

pub numbers_of_there : {T : Type 0} (r : ReachedView T) (s : ProgramState) (numbers : StateNumbers) → HasLists r.parts s → length s.harts.items ≡ r.harts →
    numbers.memory ≡ s.memory → numbers.standing < length r.standings → AreNumbersOf r.hart_parts s.harts.items (length s.harts.items) numbers.harts → AreThere r numbers
numbers_of_there r s numbers lists count memory standing are = record {
  memory = rw memory lists.memory;
  standing = standing;
  harts = λ h few.
      let there : h < length s.harts.items = omega (arith, count, few) in
      let some : (part : HartPart) × (slice_get s.harts.items h ≡ Some part) = there_is s.harts.items h there in
      (some.0, are h some.0 there some.1, subst (λ (p : HartPart). p.text < length r.parts.lists) (get_or_from_slice_get s.harts.items h some.0 some.0 some.1) (lists.texts h some.0 there));
}

abbrev pub with_parts : {T : Type 0} → ReachedView T → List HartPart → ReachedView T
with_parts r hart_parts = record { parts = r.parts; hart_parts = hart_parts; standings = r.standings; states = r.states; harts = r.harts }

pub numbered_parts : {T : Type 0} (r : ReachedView T) (hart_parts : List HartPart) → AreKept r.hart_parts hart_parts → AreNumbered r → AreNumbered (with_parts r hart_parts)
numbered_parts r hart_parts kept are = numbered_kept r (with_parts r hart_parts) (record {
  parts = record { table = record { start = refl; grows = λ n s found. found }; lists = λ n held found. found; claims = refl };
  hart_parts = kept;
  standings = λ n value found. found;
  states = λ n value found. found;
  harts = refl;
}) refl are

-- the parts alone grow
pub grown_by : {T : Type 0} (r : ReachedView T) (parts : PartsView) → AreGrown r.parts parts →
    HaveGrown r (record { parts = parts; hart_parts = r.hart_parts; standings = r.standings; states = r.states; harts = r.harts })
grown_by r parts grown = record { parts = grown; hart_parts = λ n value found. found; standings = λ n value found. found; states = λ n value found. found; harts = refl }

pub numbered_grown : {T : Type 0} (r : ReachedView T) (parts : PartsView) (standings : List T) → AreGrown r.parts parts → AreKept r.standings standings → AreNumbered r →
    AreNumbered (record { parts = parts; hart_parts = r.hart_parts; standings = standings; states = r.states; harts = r.harts })
numbered_grown r parts standings grown kept are =
    numbered_kept r (record { parts = parts; hart_parts = r.hart_parts; standings = standings; states = r.states; harts = r.harts }) (record {
      parts = grown;
      hart_parts = λ n value found. found;
      standings = kept;
      states = λ n value found. found;
      harts = refl;
    }) refl are

-- where a state is met
pub numbered_state : {T : Type 0} (r : ReachedView T) (hart_parts : List HartPart) (states : List StateNumbers) (s : ProgramState) (numbers : StateNumbers) → AreNumbered r →
    AreKept r.hart_parts hart_parts → HasLists r.parts s → length s.harts.items ≡ r.harts → numbers.memory ≡ s.memory → numbers.standing < length r.standings →
    AreNumbersOf hart_parts s.harts.items (length s.harts.items) numbers.harts → (states ≡ r.states) ⊎ (states ≡ r.states ++ numbers ∷ []) →
    AreNumbered (with_states (with_parts r hart_parts) states)
numbered_state r hart_parts states s numbers are kept lists count memory standing of appended =
    numbered_more (with_parts r hart_parts) states numbers (numbered_parts r hart_parts kept are)
    (numbers_of_there (with_parts r hart_parts) s numbers lists count memory standing of) appended

pub met_of : {T : Type 0} (r : ReachedView T) (s : ProgramState) (t : T) (numbers : StateNumbers) (number : ℕ) → length s.harts.items ≡ r.harts → numbers.memory ≡ s.memory →
    slice_get r.standings numbers.standing ≡ Some t → AreNumbersOf r.hart_parts s.harts.items (length s.harts.items) numbers.harts →
    slice_get r.states number ≡ Some numbers → IsMet r number s t
met_of r s t numbers number count memory standing are found = record {
  numbers = numbers;
  found = found;
  memory = sym memory;
  standing = standing;
  count = count;
  each = λ h part here. are h part (slice_get_within s.harts.items h part here) here;
}

pub met_of_parts : {T : Type 0} (r : ReachedView T) (number : ℕ) (numbers : StateNumbers) (s : ProgramState) (t : T) → slice_get r.states number ≡ Some numbers →
    s.memory ≡ numbers.memory → slice_get r.standings numbers.standing ≡ Some t → ArePartsOf r numbers r.harts s.harts.items → IsMet r number s t
met_of_parts r number numbers s t found memory standing parts = record {
  numbers = numbers;
  found = found;
  memory = memory;
  standing = standing;
  count = parts.count_is;
  each = parts.each;
}

pub lists_of_met : {T : Type 0} (r : ReachedView T) (number : ℕ) (s : ProgramState) (t : T) (met : IsMet r number s t) → AreThere r met.numbers → HasLists r.parts s
lists_of_met r number s t met there =
    record {
      memory = rw met.memory there.memory;
      texts = λ h d here.
          let few : h < r.harts = omega (arith, met.count, here) in
          let known : (part : HartPart) × (slice_get r.hart_parts (slice_index_or met.numbers.harts h 0) ≡ Some part) × (part.text < length r.parts.lists) = there.harts h few in
          let mine : slice_get r.hart_parts (slice_index_or met.numbers.harts h 0) ≡ Some (slice_index_or s.harts.items h d) =
          met.each h (slice_index_or s.harts.items h d) (slice_get-get_or s.harts.items h d here) in
          let same : known.0 ≡ slice_index_or s.harts.items h d = same_Some known.0 (slice_index_or s.harts.items h d) (sym known.1 ∙ mine) in
          subst (λ (p : HartPart). p.text < length r.parts.lists) same known.2;
    }

pub lists_of_parts : {T : Type 0} (r : ReachedView T) (number : ℕ) (numbers : StateNumbers) (s : ProgramState) → slice_get r.states number ≡ Some numbers →
    s.memory ≡ numbers.memory → ArePartsOf r numbers r.harts s.harts.items → AreThere r numbers → HasLists r.parts s
lists_of_parts {T} r number numbers s found memory parts there =
    let t : (t : T) × (slice_get r.standings numbers.standing ≡ Some t) = there_is r.standings numbers.standing there.standing in
    lists_of_met r number s t.0 (record { numbers = numbers; found = found; memory = memory; standing = t.1; count = parts.count_is; each = parts.each }) there

pub lists_kept : (old new : PartsView) (s : ProgramState) → AreGrown old new → HasLists old s → HasLists new s
lists_kept old new s grown lists = record {
  memory = there_still old new s.memory grown lists.memory;
  texts = λ h d here. there_still old new (slice_index_or s.harts.items h d).text grown (lists.texts h d here);
}
