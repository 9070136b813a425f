use Rattle.std.proofs.Common.{ℕ, List, arith, sym, ap, ◌∙◌}
use Rattle.line_memory.specs.Lines.{line_at}
use Rattle.lru_cache.specs.Cache.{after_use, shown}
use Rattle.lru_cache.proofs.Shows.{copy_there, none_shown, over_use, shown_used, used_resident, used_latest}
use Rattle.lru_cache.proofs.Cache.take_in.Goals as goal

pub returns-then-is_resident-clause-resident : goal.returns-then-is_resident-clause-resident
returns-then-is_resident-clause-resident c =
    let e = c.note_use.ensures.changed _ (copy_there _ c.is_resident.ensures.sound _ c.requires.over c.args.line c.requires.there (sym c.is_resident.ensures.value ∙ c.if-is_resident.true)) in
    rw e (used_resident c.args.self.now c.args.line _ (omega (arith, c.is_resident.ensures.sound.copied, c.requires.over.count)))

pub returns-then-is_resident-clause-shown : goal.returns-then-is_resident-clause-shown
returns-then-is_resident-clause-shown c =
    let e = c.note_use.ensures.changed _ (copy_there _ c.is_resident.ensures.sound _ c.requires.over c.args.line c.requires.there (sym c.is_resident.ensures.value ∙ c.if-is_resident.true)) in
    rw e (shown_used _ _ c.args.line (omega (arith, c.is_resident.ensures.sound.copied, c.requires.over.count)))

pub returns-then-is_resident-clause-changed : goal.returns-then-is_resident-clause-changed
returns-then-is_resident-clause-changed c =
    c.note_use.ensures.changed _ (copy_there _ c.is_resident.ensures.sound _ c.requires.over c.args.line c.requires.there (sym c.is_resident.ensures.value ∙ c.if-is_resident.true))

pub returns-then-is_resident-clause-over : goal.returns-then-is_resident-clause-over
returns-then-is_resident-clause-over c =
    let e = c.note_use.ensures.changed _ (copy_there _ c.is_resident.ensures.sound _ c.requires.over c.args.line c.requires.there (sym c.is_resident.ensures.value ∙ c.if-is_resident.true)) in
    rw e (over_use _ c.is_resident.ensures.sound _ c.requires.over c.args.line c.requires.there)

pub returns-else-is_resident-clause-shown : goal.returns-else-is_resident-clause-shown
returns-else-is_resident-clause-shown c =
    let e = c.fill.ensures.changed ∙ ap (λ (b : List ℕ). after_use c.args.line b c.args.self.now) (c.read_line.ensures.value ∙ sym (none_shown _ _ c.args.line c.requires.there (sym c.is_resident.ensures.value ∙ c.if-is_resident.false))) in
    rw e (shown_used _ _ c.args.line (omega (arith, c.is_resident.ensures.sound.copied, c.requires.over.count)))

pub returns-else-is_resident-clause-over : goal.returns-else-is_resident-clause-over
returns-else-is_resident-clause-over c =
    let e = c.fill.ensures.changed ∙ ap (λ (b : List ℕ). after_use c.args.line b c.args.self.now) (c.read_line.ensures.value ∙ sym (none_shown _ _ c.args.line c.requires.there (sym c.is_resident.ensures.value ∙ c.if-is_resident.false))) in
    rw e (over_use _ c.is_resident.ensures.sound _ c.requires.over c.args.line c.requires.there)

pub returns-then-is_resident-clause-latest : goal.returns-then-is_resident-clause-latest
returns-then-is_resident-clause-latest c =
    let e = c.note_use.ensures.changed _ (copy_there _ c.is_resident.ensures.sound _ c.requires.over c.args.line c.requires.there (sym c.is_resident.ensures.value ∙ c.if-is_resident.true)) in
    rw e (used_latest c.args.self.now c.args.line (line_at (shown c.args.self.now c.args.medium.now) c.args.line) c.is_resident.ensures.sound)

pub returns-else-is_resident-clause-latest : goal.returns-else-is_resident-clause-latest
returns-else-is_resident-clause-latest c =
    rw c.fill.ensures.changed (used_latest c.args.self.now c.args.line c.read_line.result.now c.is_resident.ensures.sound)
