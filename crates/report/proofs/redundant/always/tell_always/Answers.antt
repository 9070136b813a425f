use Rattle.std.proofs.Common.{◌∙◌, ◌++◌, [], ◌∷◌, ap, string_bytes, sym}
use Rattle.report.specs.Forms.{always_form, shown_form}
use Rattle.std.proofs.lemmas.List.{append-nil, append_assoc}
use Rattle.report.specs.Places.{KnownCode, origin_in}
use Rattle.report.proofs.Listing.{always_in, are_always, lines_of, told, untold}
use Rattle.report.proofs.redundant.always.tell_always.Goals as goal

pub loop-pc-init : goal.loop-pc-init
loop-pc-init c = (c.into_iter-pc-iterator.ensures.into_iter_gives.0, sym (append-nil _))

pub loop-pc-preserved-in-Continue-1 : goal.loop-pc-preserved-in-Continue-1
loop-pc-preserved-in-Continue-1 c =
    let i = c.loop-pc.invariant in (
      append_assoc c.loop-pc.yielded ((c.in-Some.pc, c.in-Some.one) ∷ []) c.next.new.self ∙ (ap (λ l. c.loop-pc.yielded ++ l) (sym (c.in-Some.ensures.steps)) ∙ i.0),
      told (always_form c.args.form (origin_in c.args.places.now)) _ _ _ _ c.loop-pc.yielded (c.in-Some.pc, c.in-Some.one) c.if-one.true i.1 (c.in_ok-tell_shown.ensures)
          (ap (λ (at : KnownCode). shown_form c.args.form (record { at = at; hart = c.in-Some.one.hart; count = c.in-Some.one.count })) c.at.ensures),
    )

pub loop-pc-preserved : goal.loop-pc-preserved
loop-pc-preserved c =
    let i = c.loop-pc.invariant in (
      append_assoc c.loop-pc.yielded ((c.in-Some.pc, c.in-Some.one) ∷ []) c.next.new.self ∙ (ap (λ l. c.loop-pc.yielded ++ l) (sym (c.in-Some.ensures.steps)) ∙ i.0),
      untold (always_form c.args.form (origin_in c.args.places.now)) _ _ c.loop-pc.yielded (c.in-Some.pc, c.in-Some.one) c.if-one.false i.1,
    )

pub returns : goal.returns
returns c =
    let i = c.loop-pc.invariant in
    let whole = sym (append-nil c.loop-pc.yielded) ∙ (ap (λ l. c.loop-pc.yielded ++ l) (sym c.in-None.ensures.steps.0) ∙ i.0) in
    λ all are. (
      always_in c.args.uses.entries,
      are_always all c.args.uses c.into_iter-pc-iterator.ensures.into_iter_gives.5 are,
      i.1 ∙ ap (λ es. string_bytes c.args.text.now ++ lines_of (always_form c.args.form (origin_in c.args.places.now)) es) whole,
    )
