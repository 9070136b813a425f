-- Lines of zeros, and bytes with zeros behind them.
use Rattle.std.proofs.Common.{◌≡◌, ℕ, ◌-◌, ◌≤◌, List, [], ◌++◌, length, take, replicate, refl, arith}
use Rattle.std.proofs.lemmas.List.{length-replicate, get_or-replicate, take_all}
use Rattle.line_memory.specs.Lines.{IsMedium, zero_lines}
use Rattle.line_memory.specs.Regions.{padded}

pub padded_is : (bytes : List ℕ) (size : ℕ) → length bytes ≤ size → take size bytes ++ replicate (size - length bytes) 0 ≡ padded bytes size
unfolding padded
padded_is bytes size fits = rw (take_all size bytes fits) refl

pub zero_medium : (lines : List (List ℕ)) (count : ℕ) → lines ≡ zero_lines count → 512 ≤ count → count ≤ 16384 → IsMedium lines
unfolding zero_lines
zero_medium lines count e least most =
    let n : length (replicate count (replicate {A = ℕ} 64 0)) ≡ count = length-replicate count (replicate {A = ℕ} 64 0) in
    rw e (record {
      least = omega arith;
      most = omega arith;
      each = record { whole = λ line h. rw (get_or-replicate count line (replicate {A = ℕ} 64 0) [] (omega arith)) refl };
    })

-- lines of zeros, as they are made
pub zeros_made : (count : ℕ) → replicate count (replicate {A = ℕ} 64 0) ≡ zero_lines count
unfolding zero_lines
zeros_made count = refl
