-- Values that the code finds equal.
use Rattle.std.proofs.Common.{◌≡◌, ◌&&◌, ◌==◌, Bool, true, false, bytes_eq, refl, ap}
use Rattle.std.specs.Bool.{Decides}
use lib.Pointwise.{pointwise}
use mathlib.Core.Bool.{beq}
use Rattle.std.proofs.lemmas.Bool.Decides.{Decides-and, Decides-eqb, Decides-like}
use Rattle.std.proofs.lemmas.Slice.Eq.{bytes_eq-Decides, slice_eq-Decides}
use Rattle.schedule_states.specs.declared.held_lines.HeldLine.{HeldLine}
use Rattle.schedule_states.specs.declared.line_state.Content.{Content}

same_content : (a b : Content) → (a.bytes ≡ b.bytes) × (a.stays ≡ b.stays) → a ≡ b
same_content a b e = λ i. record { bytes = e.0 i; stays = e.1 i }

same_parts : (a b : Content) → a ≡ b → (a.bytes ≡ b.bytes) × (a.stays ≡ b.stays)
same_parts a b e = (ap (λ (x : Content). x.bytes) e, ap (λ (x : Content). x.stays) e)

bools_decide : (a b : Bool) → Decides (beq a b) (a ≡ b)
bools_decide true true = (λ h. refl, λ e. refl)
bools_decide false false = (λ h. refl, λ e. refl)
bools_decide true false = (λ h. absurd cc, λ e. absurd cc)
bools_decide false true = (λ h. absurd cc, λ e. absurd cc)

pub contents_decide : (a b : Content) → Decides (bytes_eq a.bytes b.bytes && pointwise beq a.stays b.stays) (a ≡ b)
contents_decide a b = Decides-like _ (same_content a b) (same_parts a b)
    (Decides-and (bytes_eq a.bytes b.bytes) (pointwise beq a.stays b.stays) (bytes_eq-Decides a.bytes b.bytes)
    (slice_eq-Decides bools_decide a.stays b.stays (pointwise beq a.stays b.stays) refl))

same_held : (a b : HeldLine) → (a.line ≡ b.line) × (a.state ≡ b.state) → a ≡ b
same_held a b e = λ i. record { line = e.0 i; state = e.1 i }

held_parts : (a b : HeldLine) → a ≡ b → (a.line ≡ b.line) × (a.state ≡ b.state)
held_parts a b e = (ap (λ (x : HeldLine). x.line) e, ap (λ (x : HeldLine). x.state) e)

pub held_decide : (a b : HeldLine) → Decides ((a.line == b.line) && (a.state == b.state)) (a ≡ b)
held_decide a b = Decides-like _ (same_held a b) (held_parts a b)
    (Decides-and (a.line == b.line) (a.state == b.state) (Decides-eqb a.line b.line) (Decides-eqb a.state b.state))
