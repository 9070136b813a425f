-- What is ahead of an input, as bytes are read and taken.
use Rattle.std.proofs.Common.{◌≡◌, ◌∙◌, ◌<◌, ◌≤◌, ◌+◌, ◌-◌, ◌++◌, ◌∷◌, ℕ, suc, List, [], Option, ap, sym, arith, length, get_or, take, drop}
use Rattle.std.proofs.lemmas.List.{append-nil, length-take}
use Rattle.std.proofs.Math.Seq.{drop-cons}
use Rattle.std.proofs.KnownBytes.{Consumes-kept, Consumes-nil}
use Rattle.std.specs.Io.KnownBytes.{Consumes, IsAtEnd, Keeps}
use Rattle.std.specs.List.{slice_range}
use Rattle.debugger.specs.Reading.{Takes, ahead_of}
use Rattle.debugger.specs.declared.sessions.input.Input.{Input}
use Rattle.debugger.proofs.Taking.{takes_more}

pub none_ahead : (chunk : List ℕ) (taken filled : ℕ) → taken ≡ filled → slice_range chunk taken filled ≡ []
none_ahead chunk taken filled e =
    let none : filled - taken ≡ 0 = omega (arith, e) in
    ap (λ (n : ℕ). take n (drop taken chunk)) none

pub nothing_ahead : (input : Input) → input.taken ≡ 0 → input.filled ≡ 0 → ahead_of input ≡ []
nothing_ahead input front none = none_ahead input.chunk input.taken input.filled (front ∙ sym none)

-- no more is ahead than a chunk holds
pub near_ahead : (input : Input) → length (ahead_of input) ≤ 1024
near_ahead input =
    omega (arith, length-take (input.filled - input.taken) (drop input.taken input.chunk), input.within)

pub first_ahead : (chunk : List ℕ) (taken filled : ℕ) → taken < filled → filled ≤ length chunk
    → slice_range chunk taken filled ≡ get_or chunk taken 0 ∷ slice_range chunk (taken + 1) filled
first_ahead chunk taken filled less most =
    let within : taken < length chunk = omega (arith, less, most) in
    let next : suc taken ≡ taken + 1 = omega arith in
    let size : filled - taken ≡ suc (filled - suc taken) = omega (arith, less) in
    ap (λ (n : ℕ). take n (drop taken chunk)) size
    ∙ ap (λ (l : List ℕ). take (suc (filled - suc taken)) l) (drop-cons chunk taken 0 within)
    ∙ ap (λ (n : ℕ). get_or chunk taken 0 ∷ take (filled - n) (drop n chunk)) next

front_ahead : (chunk : List ℕ) (taken filled count : ℕ) → taken ≡ 0 → filled ≡ count → slice_range chunk taken filled ≡ take count chunk
front_ahead chunk taken filled count front e =
    let same : count - 0 ≡ count = omega arith in
    rw (front, e) (ap (λ (n : ℕ). take n chunk) same)

-- a chunk is read where none was ahead
pub filled : (old new : Input) (s t : Option (List ℕ)) (count : ℕ) → old.taken ≡ old.filled → new.taken ≡ 0 → new.filled ≡ count
    → new.left ≡ old.left → Consumes s t (take count new.chunk) → Takes old new s t []
filled old new s t count none front e left consumes = record {
  read = take count new.chunk;
  reads = consumes;
  bytes = ap (λ (l : List ℕ). l ++ take count new.chunk) (none_ahead old.chunk old.taken old.filled none)
      ∙ sym (front_ahead new.chunk new.taken new.filled count front e);
  left = omega (arith, left);
}

pub not_filled : (old new : Input) (s t : Option (List ℕ)) → old.taken ≡ old.filled → new.taken ≡ 0 → new.filled ≡ 0
    → new.left ≡ old.left → Keeps s t → Takes old new s t []
not_filled old new s t none front e left kept = record {
  read = [];
  reads = Consumes-kept s s t [] (Consumes-nil s) kept;
  bytes = append-nil (ahead_of old) ∙ none_ahead old.chunk old.taken old.filled none ∙ sym (nothing_ahead new front e);
  left = omega (arith, left);
}

pub at_end : (chunk : List ℕ) (count : ℕ) (t : Option (List ℕ)) → (count ≡ 0 → 0 < length chunk → IsAtEnd t) → length chunk ≡ 1024 → count ≡ 0
    → IsAtEnd t
at_end chunk count t ends size none = ends none (omega (arith, size))

-- a byte is taken of those that are ahead, once as many were read
pub byte_taken : (old middle new : Input) (s t : Option (List ℕ)) (byte : ℕ) → Takes old middle s t [] → ahead_of middle ≡ byte ∷ ahead_of new
    → middle.left ≡ new.left + 1 → Takes old new s t (byte ∷ [])
byte_taken old middle new s t byte first e left = takes_more old middle new s t t [] (byte ∷ []) first (record {
  read = [];
  reads = Consumes-nil t;
  bytes = append-nil (ahead_of middle) ∙ e;
  left = omega (arith, left);
})
