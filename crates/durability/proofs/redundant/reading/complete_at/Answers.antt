use Rattle.std.proofs.Common.{◌<◌, Some, length, arith, ◌∙◌, ap}
use Rattle.std.proofs.lemmas.Option.{slice_get-get_or}
use Rattle.store_trace.specs.declared.event.Event.{Event}
use Rattle.store_trace.specs.declared.event.Event.TheVariants.{Store}
use Rattle.durability.proofs.Completed.{completed_again, completed_raises, completed_skips, completed_there}
use Rattle.durability.proofs.redundant.reading.complete_at.Goals as goal

pub returns-in_default : goal.returns-in_default
returns-in_default c = λ at low a.
    let none : Event = Store 0 0 0 0 0 in
    let here = slice_get-get_or c.args.events.now c.args.place none c.requires.there in
    completed_skips c.args.events.now at c.args.hart c.args.place _ c.args.lines.now c.args.told.now c.args.rises here
    c.in_default.ensures.none c.requires.hart low a

pub returns-then-last-place : goal.returns-then-last-place
returns-then-last-place c = λ at low a.
    let none : Event = Store 0 0 0 0 0 in
    let here = slice_get-get_or c.args.events.now c.args.place none c.requires.there ∙ ap (λ (e : Event). Some e) c.in-Some.ensures.some in
    let named = rw c.in-Some.ensures.some at (c.requires.named c.args.place none c.requires.there) in
    let within : c.args.place < length c.args.told.now = omega arith in
    completed_again c.args.events.now at c.args.hart c.args.place c.in-Some.line c.args.lines.now c.args.told.now c.args.rises _ _ here
    c.requires.hart named within low c.if-last-place.true a

pub returns-then-last-lines : goal.returns-then-last-lines
returns-then-last-lines c = λ at low a.
    let none : Event = Store 0 0 0 0 0 in
    let here = slice_get-get_or c.args.events.now c.args.place none c.requires.there ∙ ap (λ (e : Event). Some e) c.in-Some.ensures.some in
    let named = rw c.in-Some.ensures.some at (c.requires.named c.args.place none c.requires.there) in
    let within : c.args.place < length c.args.told.now = omega arith in
    completed_there c.args.events.now at c.args.hart c.args.place c.in-Some.line c.args.lines.now c.args.told.now c.args.rises _ _ here
    c.requires.hart named within low c.if-last-place.false c.if-last-lines.true a

pub returns : goal.returns
returns c = λ at low a.
    let none : Event = Store 0 0 0 0 0 in
    let here = slice_get-get_or c.args.events.now c.args.place none c.requires.there ∙ ap (λ (e : Event). Some e) c.in-Some.ensures.some in
    let named = rw c.in-Some.ensures.some at (c.requires.named c.args.place none c.requires.there) in
    let within : c.args.place < length c.args.told.now = omega arith in
    completed_raises c.args.events.now at c.args.hart c.args.place c.in-Some.line c.args.lines.now c.args.told.now c.args.rises _ _ here
    c.requires.hart named within low c.if-last-place.false c.if-last-lines.false a
