use Rattle.std.proofs.Common.{◌≡◌, ℕ, Some, List, [], ◌∷◌, ◌++◌, length, ap, sym, subst, ◌∙◌, rules}
use Rattle.schedule_states.proofs.Media.{media_more, media_next}
use Rattle.schedule_states.specs.Media.{AreOnMedium, IsOnMedium, MediaView}
use Rattle.schedule_states.specs.declared.held_lines.HeldLine.{HeldLine}
use Rattle.schedule_states.proofs.medium_lists.MediumLists.number_next.Goals as goal

pub returns-in_err-number-clause-known : goal.returns-in_err-number-clause-known
returns-in_err-number-clause-known c =
    let before : MediaView = record { lists = c.self.inside.lists; numbers = c.self.inside.numbers.items } in
    let known : AreOnMedium c.args.parts.now before = subst (λ (m : MediaView). AreOnMedium c.args.parts.now m) (sym c.self.view_is) c.requires.known in
    media_more c.args.parts.now before c.number_of.new.self c.held.result.now c.number_of.ensures.kept (rw c.in_ok-lines.ensures at c.number_of.ensures.appended) c.held.ensures.below known

pub returns-in_err-push-clause-known : goal.returns-in_err-push-clause-known
returns-in_err-push-clause-known c =
    let before : MediaView = record { lists = c.self.inside.lists; numbers = c.self.inside.numbers.items } in
    let known : AreOnMedium c.args.parts.now before = subst (λ (m : MediaView). AreOnMedium c.args.parts.now m) (sym c.self.view_is) c.requires.known in
    let more : AreOnMedium c.args.parts.now (record { lists = c.number_of.new.self; numbers = c.self.inside.numbers.items }) =
    media_more c.args.parts.now before c.number_of.new.self c.held.result.now c.number_of.ensures.kept (rw c.in_ok-lines.ensures at c.number_of.ensures.appended) c.held.ensures.below known in
    let same : c.push.new.self.items ≡ c.self.inside.numbers.items = search rules in
    subst (λ (numbers : List ℕ). AreOnMedium c.args.parts.now (record { lists = c.number_of.new.self; numbers = numbers })) (sym same) more

pub returns-clause-known : goal.returns-clause-known
returns-clause-known c =
    let before : MediaView = record { lists = c.self.inside.lists; numbers = c.self.inside.numbers.items } in
    let known : AreOnMedium c.args.parts.now before = subst (λ (m : MediaView). AreOnMedium c.args.parts.now m) (sym c.self.view_is) c.requires.known in
    let more : AreOnMedium c.args.parts.now (record { lists = c.number_of.new.self; numbers = c.self.inside.numbers.items }) =
    media_more c.args.parts.now before c.number_of.new.self c.held.result.now c.number_of.ensures.kept (rw c.in_ok-lines.ensures at c.number_of.ensures.appended) c.held.ensures.below known in
    let next : length c.self.inside.numbers.items ≡ c.args.next = ap (λ (m : MediaView). length m.numbers) c.self.view_is ∙ c.requires.next in
    let on : IsOnMedium c.args.parts.now c.number_of.new.self (length c.self.inside.numbers.items) c.in_ok-number.number = record {
      held = c.held.result.now;
      found = rw next c.held.ensures.found;
      here = c.in_ok-number.ensures.number ∙ ap (λ (list : List HeldLine). Some list) c.in_ok-lines.ensures;
    } in
    let same : c.push.new.self.items ≡ c.self.inside.numbers.items ++ c.in_ok-number.number ∷ [] = search rules in
    subst (λ (numbers : List ℕ). AreOnMedium c.args.parts.now (record { lists = c.number_of.new.self; numbers = numbers })) (sym same)
    (media_next c.args.parts.now (record { lists = c.number_of.new.self; numbers = c.self.inside.numbers.items }) c.in_ok-number.number on more)
