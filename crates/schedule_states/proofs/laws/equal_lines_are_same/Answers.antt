use Rattle.std.proofs.Common.{refl, sym}
use Rattle.std.proofs.lemmas.Bool.Decides.{Decides-and}
use Rattle.std.proofs.lemmas.Slice.Eq.{bytes_eq-Decides, slice_eq-Decides}
use Rattle.schedule_states.proofs.Same.{contents_decide}
use Rattle.schedule_states.proofs.laws.equal_lines_are_same.Goals as goal

pub returns : goal.returns
returns c = λ one other equal.
    let both = (Decides-and _ _ (bytes_eq-Decides one.bytes other.bytes) (slice_eq-Decides (λ a b. contents_decide a b) one.others.items other.others.items _ refl)).0 equal in
    record { bytes = sym both.0; others = sym both.1 }
