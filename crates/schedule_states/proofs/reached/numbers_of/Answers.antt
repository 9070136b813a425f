use Rattle.std.proofs.Common.{◌≡◌, ◌<◌, Some, length, slice_get, slice_index_or, ap, sym, ◌∙◌, rules, arith}
use Rattle.std.proofs.lemmas.List.{length-set}
use Rattle.std.proofs.lemmas.Option.{slice_get-get_or}
use Rattle.schedule_states.proofs.Numbering.{numbers_more}
use Rattle.schedule_states.specs.declared.program_state.HartPart.{HartPart}
use Rattle.schedule_states.proofs.reached.numbers_of.Goals as goal

pub number_at-requires-clause-before : goal.number_at-requires-clause-before
number_at-requires-clause-before c = λ h part few here.
    c.loop-hart.invariant.0 (slice_index_or c.args.before.numbers.now h 0) part (c.requires.before.numbered h part few here)

pub number_at-requires-clause-alike : goal.number_at-requires-clause-alike
number_at-requires-clause-alike c = λ was here apart.
    let there : c.loop-hart.hart < length c.args.parts.now = search rules in
    let got : slice_get c.args.parts.now c.loop-hart.hart ≡ Some c.index-parts-hart.result =
    slice_get-get_or c.args.parts.now c.loop-hart.hart c.index-parts-hart.result there ∙ ap (λ (p : HartPart). Some p) (sym c.index-parts-hart.is) in
    c.requires.before.others c.loop-hart.hart was c.index-parts-hart.result here got apart

pub loop-hart-preserved : goal.loop-hart-preserved
loop-hart-preserved c =
    let there : c.loop-hart.hart < length c.args.parts.now = search rules in
    let got : slice_get c.args.parts.now c.loop-hart.hart ≡ Some c.index-parts-hart.result =
    slice_get-get_or c.args.parts.now c.loop-hart.hart c.index-parts-hart.result there ∙ ap (λ (p : HartPart). Some p) (sym c.index-parts-hart.is) in
    let few : c.loop-hart.hart < 8 = omega (arith, there, c.requires.few) in (
      λ n value got. c.number_at.ensures.kept n value (c.loop-hart.invariant.0 n value got),
      numbers_more c.loop-hart.known c.number_at.new.known c.args.parts.now c.loop-hart.hart c.loop-hart.numbers c.in_ok-numbers.field-0 c.index-parts-hart.result
          few c.loop-hart.invariant.2 c.number_at.ensures.kept got c.in_ok-numbers.ensures.number c.loop-hart.invariant.1,
      length-set c.loop-hart.numbers c.loop-hart.hart c.in_ok-numbers.field-0 ∙ c.loop-hart.invariant.2,
    )
