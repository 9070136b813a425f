use Rattle.std.proofs.Common.{◌∙◌, [], ap, length, refl, sym, true≢false}
use Rattle.std.proofs.lemmas.List.{length-replicate}
use Rattle.verdict.proofs.Opening.{fresh_decided}
use Rattle.verdict.proofs.branches.pieces.open_piece.Goals as goal

pub open_each-requires-clause-piece : goal.open_each-requires-clause-piece
open_each-requires-clause-piece g c κs within =
    let e = c.in_ok-without_room.ensures in
    record {
      done = [];
      count = refl;
      least_size = λ some. absurd (true≢false (sym some));
      asked_size = ap length e.asked ∙ length-replicate _ _ ∙ c.lines.ensures;
      only = fresh_decided _ _ e.asked;
      runs = record { answers = tt; asked = tt; best = tt; branches = e.found };
    }
