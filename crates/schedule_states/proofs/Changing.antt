-- The parts of harts, changed one by one.
use Rattle.std.proofs.Common.{◌≡◌, ◌⊎◌, inl, inr, ℕ, ◌+◌, ◌<◌, ◌≤◌, List, Some, length, slice_get, slice_set, sym, subst, ◌∙◌, arith}
use Rattle.std.proofs.lemmas.Bool.{cases_eq}
use Rattle.std.proofs.lemmas.List.{length-set}
use Rattle.std.proofs.lemmas.Option.{same_Some, slice_get_within}
use Rattle.bus.proofs.Places.{got_else, got_set}
use Rattle.hart.specs.declared.need.Request.{Request}
use Rattle.hart.specs.declared.need.Reply.{Reply}
use Rattle.schedule_states.specs.Successors.{AreHartsAfter, IsOtherAfter}
use Rattle.schedule_states.specs.declared.program_state.HartPart.{HartPart}

-- hart g's part is another hart's after the request
abbrev pub IsGivenUp : Request → Reply → List HartPart → ℕ → HartPart → Type 0
IsGivenUp request reply harts g part = (was : HartPart) × (slice_get harts g ≡ Some was) × IsOtherAfter request reply was part

-- so of the first harts, and the others are as before
abbrev pub AreGivenUp : Request → Reply → List HartPart → ℕ → List HartPart → Type 0
AreGivenUp request reply harts count after = (g : ℕ) (part : HartPart) → slice_get after g ≡ Some part →
    ((g < count) × IsGivenUp request reply harts g part) ⊎ ((count ≤ g) × (slice_get harts g ≡ Some part))

pub none_given_up : (request : Request) (reply : Reply) (harts after : List HartPart) → after ≡ harts → AreGivenUp request reply harts 0 after
none_given_up request reply harts after same g part got = inr (omega arith, subst (λ (parts : List HartPart). slice_get parts g ≡ Some part) same got)

pub given_up_more : (request : Request) (reply : Reply) (harts after : List HartPart) (at : ℕ) (was one : HartPart) → slice_get after at ≡ Some was →
    AreGivenUp request reply harts at after → IsOtherAfter request reply was one → AreGivenUp request reply harts (at + 1) (slice_set after at one)
given_up_more request reply harts after at was one there known is g part got =
    elim (cases_eq g at) [
      | inl same ↦
          let here : slice_get (slice_set after at one) at ≡ Some part = subst (λ (n : ℕ). slice_get (slice_set after at one) n ≡ Some part) same got in
          let now : one ≡ part = same_Some one part (sym (got_set after at one (slice_get_within after at was there)) ∙ here) in
          let before : slice_get harts at ≡ Some was = elim (known at was there) [
            | inl earlier ↦ let less = earlier.0 in absurd (omega (arith, less))
            | inr later ↦ later.1
          ] in
          let given : IsGivenUp request reply harts at part = (was, before, subst (λ (p : HartPart). IsOtherAfter request reply was p) now is) in
          inl (omega (arith, same), subst (λ (n : ℕ). IsGivenUp request reply harts n part) (sym same) given)
      | inr apart ↦ elim (known g part (sym (got_else after at g one apart) ∙ got)) [
        | inl earlier ↦ let less = earlier.0 in inl (omega (arith, less), earlier.1)
        | inr later ↦ let less = later.0 in inr (omega (arith, less, apart), later.1)
      ]
    ]

pub harts_are_after : (h : ℕ) (own : HartPart) (request : Request) (reply : Reply) (harts after : List HartPart) → h < length harts → length after ≡ length harts →
    AreGivenUp request reply harts (length harts) after → AreHartsAfter h own request reply harts (slice_set after h own)
harts_are_after h own request reply harts after there long known = record {
  count = length-set after h own ∙ long;
  each = λ g part got. elim (cases_eq g h) [
    | inl same ↦
        let here : slice_get (slice_set after h own) h ≡ Some part = subst (λ (n : ℕ). slice_get (slice_set after h own) n ≡ Some part) same got in
        inl (same, sym (same_Some own part (sym (got_set after h own (omega (arith, there, long))) ∙ here)))
    | inr apart ↦ elim (known g part (sym (got_else after h g own apart) ∙ got)) [
      | inl given ↦ inr (apart, given.1)
      | inr later ↦ let less = later.0 in let within = slice_get_within harts g part later.1 in absurd (omega (arith, less, within))
    ]
  ];
}
