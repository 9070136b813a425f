use Rattle.std.proofs.Common.{◌<◌, ◌∙◌, sym, subst, arith}
use Rattle.std.proofs.lemmas.Result.{err_from_is_err_and}
use Rattle.bus.specs.Replays.{CoreView}
use Rattle.machine.proofs.Naming.{served_named}
use Rattle.bus.proofs.Refusing.{refuses_telling, telling_for_memory}
use Rattle.bus.proofs.Replaying.{asked_below, asked_exact, asked_kept, asked_lines, renews_is, tells_is}
use Rattle.bus.proofs.locked.Core.ask.Goals as goal

pub returns-clause-ok : goal.returns-clause-ok
returns-clause-ok c =
    let there : c.args.hart < c.self.inside.harts = subst (λ (core : CoreView). c.args.hart < core.harts) (sym c.self.view_is) c.requires.hart in
    let few : c.args.hart < 8 = omega (arith, there, c.self.invariant.4) in
    tells_is _ _ _ _ c.self.inside.history.items c.add_entry.new.history.items _ c.request.new.self c.args.hart c.args.request c.in_ok-reply.reply
    few c.self.invariant.0 c.in_ok-reply.ensures.ok (rw c.make_room.ensures.items at c.add_entry.ensures) c.args.self.now (sym c.self.view_is)

pub returns-clause-text : goal.returns-clause-text
returns-clause-text c =
    let there : c.args.hart < c.self.inside.harts = subst (λ (core : CoreView). c.args.hart < core.harts) (sym c.self.view_is) c.requires.hart in
    let few : c.args.hart < 8 = omega (arith, there, c.self.invariant.4) in
    renews_is _ _ _ _ c.self.inside.history.items c.add_entry.new.history.items _ c.request.new.self c.args.hart c.args.request c.in_ok-reply.reply
    few c.self.invariant.0 c.in_ok-reply.ensures.ok (rw c.make_room.ensures.items at c.add_entry.ensures) c.args.self.now (sym c.self.view_is)

pub invariant_of-self-2 : goal.invariant_of-self-2
invariant_of-self-2 c =
    let i = c.self.invariant in
    let there : c.args.hart < c.self.inside.harts = subst (λ (core : CoreView). c.args.hart < core.harts) (sym c.self.view_is) c.requires.hart in
    let added = rw c.make_room.ensures.items at c.add_entry.ensures in
    let serves = c.in_ok-reply.ensures.ok in (
      asked_kept _ _ c.self.inside.history.items c.add_entry.new.history.items _ c.request.new.self c.self.inside.harts c.args.hart c.args.request c.in_ok-reply.reply
          there i.4 i.0 serves added,
      asked_below c.self.inside.harts c.self.inside.history.items c.add_entry.new.history.items c.args.hart c.args.request c.in_ok-reply.reply there i.1 added,
      serves.steps.1.sizes.lines ∙ i.2,
      serves.steps.1.sizes.capacity ∙ i.3,
      i.4,
      c.request.ensures.limit,
      asked_lines _ c.self.inside.history.items c.add_entry.new.history.items c.args.hart c.args.request c.in_ok-reply.reply i.6 added,
      served_named c.self.inside.shared c.request.new.self c.args.hart c.args.request c.in_ok-reply.reply c.requires.width serves i.7,
      asked_exact _ _ c.self.inside.history.items c.add_entry.new.history.items _ c.request.new.self c.self.inside.harts c.args.hart c.args.request c.in_ok-reply.reply
          there i.4 i.0 i.8 serves added,
    )

pub returns-in_err-make_room-clause-refused : goal.returns-in_err-make_room-clause-refused
returns-in_err-make_room-clause-refused c =
    let p = err_from_is_err_and c.from_residual.result c.from_residual.ensures.1 in
    rw (p.1, p.2) (telling_for_memory c.args.self.now c.args.hart c.args.request _ c.in_err-make_room.ensures.err)

pub returns-in_err-reply-clause-refused : goal.returns-in_err-reply-clause-refused
returns-in_err-reply-clause-refused c =
    let p = err_from_is_err_and c.from_residual-in_err-reply.result c.from_residual-in_err-reply.ensures.1 in
    rw (p.1, p.2, ← c.self.view_is) (refuses_telling _ c.args.hart c.args.request _ c.in_err-reply.ensures.refused)

pub request-requires-clause-hart : goal.request-requires-clause-hart
request-requires-clause-hart c =
    let there : c.args.hart < c.self.inside.harts = subst (λ (core : CoreView). c.args.hart < core.harts) (sym c.self.view_is) c.requires.hart in
    omega (arith, there, c.self.invariant.4)
