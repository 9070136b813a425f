use Rattle.std.proofs.Common.{◌≡◌, [], ◌∷◌, Option, inl, inr, ap, sym, ◌∙◌, true≢false}
use Rattle.std.specs.Option.{option_to_list}
use Rattle.plan.specs.Entries.{entries_of}
use Rattle.plan.specs.declared.operation.PlannedEntry.{PlannedEntry}
use Rattle.image_check.proofs.Planning.{share_one, share_two}
use Rattle.image_check.proofs.operations.share_inode.Goals as goal

pub returns-else-adds_to : goal.returns-else-adds_to
returns-else-adds_to c =
    let e : entries_of c.args.one.now ≡ c.entries-first.result.first ∷ c.in-Some.second ∷ [] =
    c.entries-first.ensures ∙ ap (λ (o : Option (PlannedEntry)). c.entries-first.result.first ∷ option_to_list o) c.in-Some.is in
    let t = share_two (entries_of c.args.one.now) (entries_of c.args.other.now) c.entries-first.result.first c.in-Some.second e in (
      λ r. t.1 (inr (c.adds_to-else-adds_to.ensures.0 r)),
      λ s. elim (t.0 s) [
        | inl a ↦ absurd (true≢false (sym (c.adds_to.ensures.1 a) ∙ c.if-adds_to.false))
        | inr b ↦ c.adds_to-else-adds_to.ensures.1 b
      ],
    )

pub returns-in-None : goal.returns-in-None
returns-in-None c =
    let e : entries_of c.args.one.now ≡ c.entries-first.result.first ∷ [] =
    c.entries-first.ensures ∙ ap (λ (o : Option (PlannedEntry)). c.entries-first.result.first ∷ option_to_list o) c.in-None.is in
    let t = share_one (entries_of c.args.one.now) (entries_of c.args.other.now) c.entries-first.result.first e in
    (λ r. t.1 (c.adds_to-in-None.ensures.0 r), λ s. c.adds_to-in-None.ensures.1 (t.0 s))
