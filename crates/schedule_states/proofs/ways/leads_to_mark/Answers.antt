use Rattle.std.proofs.Common.{◌≡◌, ◌<◌, ℕ, true, false, List, [], length, slice_index_or, inl, inr, subst, arith, rules}
use Rattle.std.proofs.lemmas.Bool.{cases_eq}
use Rattle.schedule_states.proofs.Marking.{marked_there, unmarked_there, way_is, way_of}
use Rattle.schedule_states.specs.Ways.{IsMarked}
use Rattle.schedule_states.proofs.ways.leads_to_mark.Goals as goal

pub bounds-marks-to : goal.bounds-marks-to
bounds-marks-to c = omega (arith, c.requires.inside c.args.number c.loop-hart.hart _ (way_of c.args.next.now c.args.number c.loop-hart.hart c.requires.there (omega arith)), c.requires.count)

pub returns-then-marks-to-clause-found : goal.returns-then-marks-to-clause-found
returns-then-marks-to-clause-found c told =
    let to : List ℕ = slice_index_or c.args.next.now c.args.number [] in
    let there : slice_index_or to c.loop-hart.hart 0 < length c.args.marks.now =
    omega (arith, c.requires.inside c.args.number c.loop-hart.hart _ (way_of c.args.next.now c.args.number c.loop-hart.hart c.requires.there (omega arith)), c.requires.count) in
    let is : slice_index_or c.args.marks.now (slice_index_or to c.loop-hart.hart 0) false ≡ true = search rules in (
      c.loop-hart.hart,
      slice_index_or to c.loop-hart.hart 0,
      way_of c.args.next.now c.args.number c.loop-hart.hart c.requires.there (omega arith),
      marked_there c.args.marks.now (slice_index_or to c.loop-hart.hart 0) there is,
    )

pub loop-hart-preserved : goal.loop-hart-preserved
loop-hart-preserved c h few marked = elim (cases_eq h c.loop-hart.hart) [
  | inl same ↦
      let to : List ℕ = slice_index_or c.args.next.now c.args.number [] in
      let is : slice_index_or c.args.marks.now (slice_index_or to c.loop-hart.hart 0) false ≡ false = search rules in
      unmarked_there c.args.marks.now (slice_index_or to c.loop-hart.hart 0) is (subst (λ (k : ℕ). IsMarked c.args.marks.now (slice_index_or to k 0)) same marked)
  | inr other ↦ c.loop-hart.invariant h (omega (arith, few, other)) marked
]

pub returns-clause-none : goal.returns-clause-none
returns-clause-none c told hart m way marked =
    let end : c.loop-hart.hart ≡ 8 = omega arith in
    c.loop-hart.invariant hart (omega (arith, way.few, end)) (subst (λ (k : ℕ). IsMarked c.args.marks.now k) (way_is c.args.next.now c.args.number hart m way) marked)
