use Rattle.std.proofs.Common.{◌≡◌, [], ◌∷◌, Option, inl, inr, ap, ◌∙◌, eqb-true, eq-eqb}
use Rattle.std.specs.Option.{option_to_list}
use Rattle.plan.specs.Entries.{entries_of}
use Rattle.plan.specs.declared.operation.PlannedEntry.{PlannedEntry}
use Rattle.image_check.proofs.Planning.{two_inodes}
use Rattle.image_check.proofs.operations.adds_to.Goals as goal

pub returns-else-first-inode : goal.returns-else-first-inode
returns-else-first-inode c =
    let e : entries_of c.args.operation.now ≡ c.entries-first.result.first ∷ c.in-Some.second ∷ [] =
    c.entries-first.ensures ∙ ap (λ (o : Option (PlannedEntry)). c.entries-first.result.first ∷ option_to_list o) c.in-Some.is in
    let t = two_inodes (entries_of c.args.operation.now) c.entries-first.result.first c.in-Some.second c.args.inode e in (
      λ r. t.1 (inr (eqb-true c.in-Some.second.inode c.args.inode r)),
      λ m. elim (t.0 m) [ inl a ↦ absurd (c.if-first-inode.false a) | inr b ↦ eq-eqb c.in-Some.second.inode c.args.inode b ],
    )
