use Rattle.std.proofs.Common.{◌≡◌, ◌∙◌, ap, sym}
use Rattle.workers.proofs.StopWordClosing.{raised_at, seen_at}
use Rattle.workers.proofs.stop_word.word.StopWord.settle.Goals as goal

pub returns-clause-raised : goal.returns-clause-raised
returns-clause-raised c =
    let table = c.self.inside.table.shared in
    let parts : c.args.all.me.0.parts ≡ table.key.seats = c.requires.parts ∙ (sym (ap (λ d. d.seats) c.self.view_is) ∙ sym c.self.invariant.0) in
    raised_at table.key.seats c.args.all.id c.args.all.me.0 _ _ c.word-word.result c.close_with-closed.ensures.values.2 c.word-word.ensures parts

pub returns-clause-seen : goal.returns-clause-seen
returns-clause-seen c =
    let table = c.self.inside.table.shared in
    let parts : c.args.all.me.0.parts ≡ table.key.seats = c.requires.parts ∙ (sym (ap (λ d. d.seats) c.self.view_is) ∙ sym c.self.invariant.0) in
    seen_at table.key.seats c.args.all.id c.args.all.me.0 _ _ c.word-word.result c.close_with-closed.ensures.values.2 c.word-word.ensures parts
