use Rattle.std.proofs.Common.{◌≡◌, Bool, true, false, Some, slice_index_or, refl, ap, ◌∙◌, rules}
use Rattle.std.proofs.lemmas.Option.{slice_get-get_or}
use Rattle.schedule_states.proofs.Marking.{marked_there}
use Rattle.schedule_states.proofs.ways.mark_one.Goals as goal

pub returns-then-marks-number-clause-still : goal.returns-then-marks-number-clause-still
returns-then-marks-number-clause-still c told =
    let is : slice_index_or c.args.marks.now c.args.number false ≡ true = search rules in
    (refl, λ hart m way marked. marked_there c.args.marks.now c.args.number (rw c.requires.count c.requires.there) is)

pub returns-then-not-leads_to_mark-clause-still : goal.returns-then-not-leads_to_mark-clause-still
returns-then-not-leads_to_mark-clause-still c told = (refl, λ hart m way marked. absurd (c.leads_to_mark.ensures.none (search rules) hart m way marked))

pub returns-clause-marked : goal.returns-clause-marked
returns-clause-marked c told =
    let found = c.leads_to_mark.ensures.found (search rules) in
    let is : slice_index_or c.args.marks.now c.args.number false ≡ false = search rules in record {
      hart = found.0;
      target = found.1;
      way = found.2;
      marked = found.3;
      was = slice_get-get_or c.args.marks.now c.args.number false (rw c.requires.count c.requires.there) ∙ ap (λ (mark : Bool). Some mark) is;
      now = refl;
    }
