use Rattle.std.proofs.Common.{◌≡◌, ◌∙◌, ap, sym, subst}
use Rattle.std.specs.Prelude.{ℕ}
use Rattle.workers.specs.Rule.{Closes}
use Rattle.workers.proofs.Closing.{closes_at}
use Rattle.workers.proofs.desk.CheckDesk.settle.Goals as goal

pub returns : goal.returns
returns c =
    let table = c.self.inside.table.shared in
    let k = c.self.invariant in
    let moments : table.key.moments ≡ c.args.self.name.moments = k.0 ∙ ap (λ d. d.name.moments) c.self.view_is in
    let parts : c.args.all.me.0.parts ≡ table.key.workers = c.requires.parts ∙ (sym (ap (λ d. d.workers) c.self.view_is) ∙ sym k.1) in
    subst (λ (n : ℕ). Closes n c.args.all.me.0 c.word-claims.result c.word-word.result) moments
    (closes_at table.key.moments table.key.workers c.args.all.id c.args.all.me.0 _ _ c.word-claims.result c.word-word.result c.close_with-closed.ensures.values.2 c.word-claims.ensures c.word-word.ensures parts)
