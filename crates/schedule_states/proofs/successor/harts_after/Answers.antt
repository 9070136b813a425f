use Rattle.std.proofs.Common.{◌≡◌, ◌∙◌, ◌<◌, ℕ, List, Some, length, slice_get, ap, sym, subst, rules, arith}
use Rattle.std.proofs.lemmas.List.{length-set}
use Rattle.std.proofs.lemmas.Option.{slice_get-get_or}
use Rattle.schedule_states.proofs.Changing.{AreGivenUp, given_up_more, harts_are_after, none_given_up}
use Rattle.schedule_states.specs.declared.program_state.HartPart.{HartPart}
use Rattle.schedule_states.proofs.successor.harts_after.Goals as goal

pub loop-at-init : goal.loop-at-init
loop-at-init c = (
  ap (λ (parts : List HartPart). length parts) c.in_ok-after.ensures.items,
  none_given_up c.args.request c.args.reply c.args.harts.now c.in_ok-after.after.items c.in_ok-after.ensures.items,
)

pub loop-at-preserved : goal.loop-at-preserved
loop-at-preserved c =
    let after = c.loop-at.after.items in
    let at = c.loop-at.at in
    let long = c.loop-at.invariant.0 in
    let test = c.loop-at-test.true in
    let here : at < length after = omega (arith, long, test) in
    let got : slice_get after at ≡ Some c.index_mut.result.now = slice_get-get_or after at c.index_mut.result.now here
    ∙ ap (λ (part : HartPart). Some part) (sym c.index_mut.ensures.value) in (
      length-set after at c.give_up.new.part ∙ long,
      given_up_more c.args.request c.args.reply c.args.harts.now after at c.index_mut.result.now c.give_up.new.part got c.loop-at.invariant.1 c.give_up.ensures,
    )

pub returns : goal.returns
returns c =
    let after = c.loop-at.after.items in
    let harts = c.args.harts.now in
    let end : c.loop-at.at ≡ length harts = search rules in
    let known : AreGivenUp c.args.request c.args.reply harts (length harts) after =
    subst (λ (count : ℕ). AreGivenUp c.args.request c.args.reply harts count after) end c.loop-at.invariant.1 in
    harts_are_after c.args.hart c.args.own.now c.args.request c.args.reply harts after c.requires.there c.loop-at.invariant.0 known
