-- When a hart's reservation of a line stands, by what the harts did.
-- Source: RISC-V Unprivileged ISA 20191213, chapter 8 (LR and SC), where a reservation set is one line of 64 bytes.
use Rattle.std.specs.Prelude.{◌≡◌, ℕ, ◌<◌, ◌↔◌, ◌&&◌, Bool, false, not, List, [], ◌∷◌, Option, Some, IsTrue, slice_get, if◌then◌else◌, eqb}

-- what a hart did: it reserved a line, wrote to a line, or ended its own reservation by an SC at some line
pub data Call : Type 0 where
  Reserved : (hart line : ℕ) → Call
  Stored : (hart line : ℕ) → Call
  Taken : (hart : ℕ) → Call

-- in a list of calls, the newest first: the hart's last LR or SC is an LR of the line, and no other hart has written to
-- the line since
abbrev pub is_reserved : ℕ → ℕ → List Call → Bool
is_reserved h l [] = false
is_reserved h l (Reserved hart line ∷ before) = if eqb hart h then eqb line l else is_reserved h l before
is_reserved h l (Stored hart line ∷ before) = if eqb line l && not (eqb hart h) then false else is_reserved h l before
is_reserved h l (Taken hart ∷ before) = if eqb hart h then false else is_reserved h l before

-- each hart's word names the line of its standing reservation, if there is one
abbrev pub Agrees : List (Option ℕ) → List Call → Type 0
Agrees words calls = (h l : ℕ) → h < 8 → (slice_get words h ≡ Some (Some l)) ↔ IsTrue (is_reserved h l calls)

-- no word names a line
abbrev pub AreFree : List (Option ℕ) → Type 0
AreFree words = (k l : ℕ) → ¬ (slice_get words k ≡ Some (Some l))

-- the words change as one more call asks: after any calls that the old ones agree with
pub record Follows (old new : List (Option ℕ)) (call : Call) : Type 0 where
  pub agrees : (calls : List Call) → Agrees old calls → Agrees new (call ∷ calls)
