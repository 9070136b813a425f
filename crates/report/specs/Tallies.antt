-- The uses of each pc as they are counted.
use Rattle.std.specs.Prelude.{◌≡◌, ◌↔◌, ◌==◌, ◌+◌, ◌<◌, ℕ, Bool, List, Option, Some, None, cond, if◌then◌else◌}
use Rattle.std.specs.List.{count_by}
use Rattle.report.specs.Uses.{Judged, is_use_at, is_use_by, is_vain_at}
use Rattle.report.specs.declared.redundant.uses.Uses.{Uses}

-- the hart that made all, with one more that this hart made
abbrev pub maker_with : ℕ → Option ℕ → Option ℕ
maker_with hart None = None
maker_with hart (Some first) = if first == hart then Some first else None

-- the uses of a pc with one more
abbrev pub with_use : ℕ → Bool → Option Uses → Uses
with_use hart vain None = record { hart = Some hart; count = 1; vain = cond vain 1 0 }
with_use hart vain (Some uses) = record { hart = maker_with hart uses.hart; count = uses.count + 1; vain = uses.vain + cond vain 1 0 }

-- the uses of a pc among the events of a run
pub record AreUsesOf (all : List Judged) (pc : ℕ) (uses : Uses) : Type 0 where
  pub some : 0 < uses.count
  pub count : uses.count ≡ count_by (is_use_at pc) all
  pub vain : uses.vain ≡ count_by (is_vain_at pc) all
  pub hart : (h : ℕ) → uses.hart ≡ Some h ↔ count_by (is_use_by pc h) all ≡ uses.count

abbrev pub AreUsesAt : List Judged → ℕ → Option Uses → Type 0
AreUsesAt all pc None = count_by (is_use_at pc) all ≡ 0
AreUsesAt all pc (Some uses) = AreUsesOf all pc uses

-- of each pc
abbrev pub AreUses : List Judged → (ℕ → Option Uses) → Type 0
AreUses all uses = (pc : ℕ) → AreUsesAt all pc (uses pc)
