use Rattle.std.proofs.Common.{◌≡◌, ◌⊎◌, ◌∙◌, ◌<◌, ℕ, List, [], Result, Ok, ap, get_or, inl, inr, length, subst, sym}
use Rattle.std.specs.Prelude.{◌↔◌}
use Rattle.std.specs.List.{Contains}
use Rattle.std.proofs.lemmas.List.{get_or_default}
use Rattle.routine_judge.specs.OutsideViews.{KnownView, ReplyView}
use Rattle.store_trace.proofs.Members.{no_members}
use Rattle.routine_judge.proofs.outside.right_replies.RightReplies.of_two.Goals as goal

-- what two replies show is taken in, one after the other
two_found : (none one both : List (List ℕ)) (first second a b : Result (List ℕ) (List ℕ)) → none ≡ [] → a ≡ first → b ≡ second →
    ((bytes : List ℕ) → Contains one bytes ↔ (Contains none bytes ⊎ (a ≡ Ok bytes))) → ((bytes : List ℕ) → Contains both bytes ↔ (Contains one bytes ⊎ (b ≡ Ok bytes))) →
    (bytes : List ℕ) → Contains both bytes ↔ ((first ≡ Ok bytes) ⊎ (second ≡ Ok bytes))
two_found none one both first second a b n e f adds_a adds_b bytes = (
  λ there. elim ((adds_b bytes).0 there) [
    | inl before ↦ elim ((adds_a bytes).0 before) [
      | inl nowhere ↦ absurd (no_members bytes (subst (λ (xs : List (List ℕ)). Contains xs bytes) n nowhere))
      | inr s ↦ inl (sym e ∙ s)
    ]
    | inr s ↦ inr (sym f ∙ s)
  ],
  λ shown. elim shown [
    | inl s ↦ (adds_b bytes).1 (inl ((adds_a bytes).1 (inr (e ∙ s))))
    | inr s ↦ (adds_b bytes).1 (inr (f ∙ s))
  ],
)

-- the reply at a place is the one that stands there
same_known : (replies : List KnownView) (i : ℕ) (here known : KnownView) → i < length replies → here ≡ get_or replies i here → get_or replies i known ≡ known → here ≡ known
same_known replies i here known less is at = is ∙ get_or_default replies i here known less ∙ at

pub returns-clause-answers : goal.returns-clause-answers
returns-clause-answers c = λ first second a b.
    let replies = c.args.replies.now.known.items in
    two_found c.none-answers.result.answers.items c.add_found.new.answers.answers.items c.add_found-2.new.answers.answers.items first.reply.found second.reply.found _ _
    c.none-answers.ensures.answers
    (c.found.ensures ∙ ap (λ (r : ReplyView). r.found) (c.reply.ensures ∙ ap (λ (k : KnownView). k.reply)
    (same_known replies c.args.one c.index.result.now first c.requires.one c.index.ensures a)))
    (c.found-2.ensures ∙ ap (λ (r : ReplyView). r.found) (c.reply-2.ensures ∙ ap (λ (k : KnownView). k.reply)
    (same_known replies c.args.last c.index-2.result.now second c.requires.last c.index-2.ensures b)))
    c.in_ok-add_found.ensures c.in_ok-add_found-2.ensures
