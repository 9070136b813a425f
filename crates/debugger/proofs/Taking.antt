-- Bytes that are taken one after another.
use Rattle.std.proofs.Common.{◌≡◌, ◌≢◌, ◌∙◌, ◌++◌, ◌∷◌, ℕ, List, [], true, false, Option, ap, sym, refl, length, arith}
use Rattle.std.proofs.lemmas.List.{append_assoc, append-nil, length-append}
use Rattle.std.proofs.lemmas.List.Elements.{All-append, All-cons, All-nil}
use Rattle.std.proofs.KnownBytes.{Consumes-nil, Consumes-trans}
use Rattle.debugger.specs.Reading.{IsHeld, IsOver, ReadsLine, Takes, ahead_of}
use Rattle.debugger.specs.Dialogue.{IsLine, most_line}
use Rattle.debugger.specs.declared.sessions.input.Input.{Input}
use Rattle.debugger.specs.declared.sessions.input.Fit.{Fit}
use Rattle.debugger.specs.declared.sessions.input.Fit.TheVariants as fits

pub takes_none : (input : Input) (source : Option (List ℕ)) → Takes input input source source []
takes_none input source = record {
  read = [];
  reads = Consumes-nil source;
  bytes = append-nil (ahead_of input);
  left = omega arith;
}

pub takes_more : (a b c : Input) (s t u : Option (List ℕ)) (xs ys : List ℕ) → Takes a b s t xs → Takes b c t u ys → Takes a c s u (xs ++ ys)
takes_more a b c s t u xs ys first second = record {
  read = first.read ++ second.read;
  reads = Consumes-trans s t u first.read second.read first.reads second.reads;
  bytes = sym (append_assoc (ahead_of a) first.read second.read)
      ∙ ap (λ (l : List ℕ). l ++ second.read) first.bytes
      ∙ append_assoc xs (ahead_of b) second.read
      ∙ ap (λ (l : List ℕ). xs ++ l) second.bytes
      ∙ sym (append_assoc xs ys (ahead_of c));
  left = omega (arith, length-append xs ys, first.left, second.left);
}

-- a part of a line is taken, and held as far as its limit
pub record IsPart (old new : Input) (source source_then : Option (List ℕ)) (read : Fit) (line : List ℕ) : Type 0 where
  pub whole : List ℕ
  pub is_line : IsLine whole
  pub held : IsHeld read line whole
  pub takes : Takes old new source source_then whole

-- one more byte, which is held where there is room
pub held_full : (read : Fit) (held whole : List ℕ) (byte : ℕ) → length held ≡ most_line → IsHeld read held whole
    → IsHeld fits.TooLong held (whole ++ byte ∷ [])
held_full fits.Whole held whole byte full (e, most) = (full, omega (arith, length-append whole (byte ∷ []), ap length e))
held_full fits.TooLong held whole byte full (e, past) = (full, omega (arith, length-append whole (byte ∷ [])))

pub held_more : (read : Fit) (held whole : List ℕ) (byte : ℕ) → length held ≢ most_line → IsHeld read held whole
    → IsHeld read (held ++ byte ∷ []) (whole ++ byte ∷ [])
held_more fits.Whole held whole byte room (e, most) =
    (ap (λ (l : List ℕ). l ++ byte ∷ []) e, omega (arith, length-append whole (byte ∷ []), ap length e))
held_more fits.TooLong held whole byte room (e, past) = absurd (room e)

pub part_begun : (input : Input) (source : Option (List ℕ)) → IsPart input input source source fits.Whole []
part_begun input source = record {
  whole = [];
  is_line = All-nil (λ b. b ≢ 10);
  held = (refl, omega arith);
  takes = takes_none input source;
}

pub part_more : (old middle new : Input) (s t u : Option (List ℕ)) (kind made : Fit) (before after : List ℕ) (byte : ℕ)
    → IsPart old middle s t kind before → Takes middle new t u (byte ∷ []) → byte ≢ 10
    → ((whole : List ℕ) → IsHeld kind before whole → IsHeld made after (whole ++ byte ∷ [])) → IsPart old new s u made after
part_more old middle new s t u kind made before after byte part takes other held = record {
  whole = part.whole ++ byte ∷ [];
  is_line = All-append (λ b. b ≢ 10) part.whole (byte ∷ []) part.is_line (All-cons (λ b. b ≢ 10) byte [] other (All-nil (λ b. b ≢ 10)));
  held = held part.whole part.held;
  takes = takes_more old middle new s t u part.whole (byte ∷ []) part.takes takes;
}

-- a line ends by its line end, or by the end of the input
pub line_done : (old middle new : Input) (s t u : Option (List ℕ)) (kind : Fit) (held : List ℕ) → IsPart old middle s t kind held
    → Takes middle new t u (10 ∷ []) → ReadsLine old new s u (record { fit = kind; is_last = false }) held
line_done old middle new s t u kind held part takes = record {
  whole = part.whole;
  is_line = part.is_line;
  held = part.held;
  takes = takes_more old middle new s t u part.whole (10 ∷ []) part.takes takes;
  over = tt;
}

pub line_last : (old middle new : Input) (s t u : Option (List ℕ)) (kind : Fit) (held : List ℕ) → IsPart old middle s t kind held
    → Takes middle new t u [] → IsOver new u → ReadsLine old new s u (record { fit = kind; is_last = true }) held
line_last old middle new s t u kind held part takes over = record {
  whole = part.whole;
  is_line = part.is_line;
  held = part.held;
  takes = takes_more old middle new s t u part.whole [] part.takes takes;
  over = over;
}

pub part_left : (old middle new : Input) (s t u : Option (List ℕ)) (kind : Fit) (held : List ℕ) → IsPart old middle s t kind held
    → Takes middle new t u [] → (taken : List ℕ) × Takes old new s u taken
part_left old middle new s t u kind held part takes =
    (part.whole ++ [], takes_more old middle new s t u part.whole [] part.takes takes)

pub part_broken : (old middle new : Input) (s t u : Option (List ℕ)) (kind : Fit) (held : List ℕ) (byte : ℕ) → IsPart old middle s t kind held
    → Takes middle new t u (byte ∷ []) → (taken : List ℕ) × Takes old new s u taken
part_broken old middle new s t u kind held byte part takes =
    (part.whole ++ byte ∷ [], takes_more old middle new s t u part.whole (byte ∷ []) part.takes takes)
