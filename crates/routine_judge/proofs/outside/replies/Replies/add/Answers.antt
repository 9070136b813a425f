use Rattle.std.proofs.Common.{◌≡◌, ◌⊎◌, ◌∙◌, ◌++◌, ◌∷◌, [], ℕ, List, ap, subst}
use Rattle.std.specs.Prelude.{◌↔◌}
use Rattle.std.specs.List.{Contains}
use Rattle.routine_judge.proofs.OutsideAgreeing.{kept_more}
use Rattle.routine_judge.specs.OutsideViews.{KnownView}
use Rattle.routine_judge.specs.declared.outside.replies.Replies.{Replies}
use Rattle.routine_judge.proofs.outside.replies.Replies.add.Goals as goal

pub returns-clause-known : goal.returns-clause-known
returns-clause-known c = λ index are is.
    let old = c.args.self.now in
    let new : Replies = record { known = c.push.new.self; lines = c.list.new.self.lines } in
    let one : KnownView = record { numbers = c.args.numbers.items; reply = c.args.reply } in
    kept_more index.start index.events old new one are is
    (c.in_ok-push.ensures.items ∙ ap (λ (ks : List KnownView). ks ++ (c.new.result ∷ [])) c.in_ok-list.ensures.known
    ∙ ap (λ (k : KnownView). old.known.items ++ (k ∷ [])) c.new.ensures)
    (λ l. subst (λ (ls : List ℕ). Contains c.list.new.self.lines.items l ↔ (Contains old.lines.items l ⊎ Contains ls l)) c.lines.ensures
    (c.in_ok-list.ensures.lines l))
