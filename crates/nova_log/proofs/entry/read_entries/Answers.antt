use Rattle.std.proofs.Common.{◌≡◌, inl, inr, refl, ◌∙◌, get_or, map, take, arith}
use Rattle.std.proofs.lemmas.Result.{err_from_is_err_and}
use Rattle.nova_log.specs.Entries.{entry_at, entry_questions}
use Rattle.nova_log.proofs.Questions.{items_mapped, items_stopped, items_through}
use Rattle.nova_log.proofs.entry.read_entries.Goals as goal

pub returns-in_err-entry-clause-err : goal.returns-in_err-entry-clause-err
returns-in_err-entry-clause-err g c =
    let p = err_from_is_err_and c.from_residual-in_err-entry.result c.from_residual-in_err-entry.ensures.1 in
    let f = entry_questions c.args.longest (g.S.LineSource.medium c.args.source.now) in
    let h = rw c.loop-position.invariant.same at c.in_err-entry.ensures.err in
    rw (p.1, p.2) (elim h [
      | inl memory ↦ inl memory
      | inr stopped ↦ inr (items_stopped f c.args.positions.now c.loop-position.position-index 0 c.in_err-entry.field-0.0 (g.S.LineSource.asked c.args.source.now)
          (g.S.LineSource.asked c.loop-position.source) (g.S.LineSource.asked c.read_entry.new.source) (omega arith) c.loop-position.invariant.through stopped)
    ])

pub loop-position-preserved : goal.loop-position-preserved
loop-position-preserved g c =
    let medium = g.S.LineSource.medium c.args.source.now in
    record {
      same = c.read_entry.ensures.same ∙ c.loop-position.invariant.same;
      log = c.in_ok-push.ensures.ok ∙ items_mapped (entry_at medium) c.args.positions.now c.loop-position.position-index 0 c.loop-position.log c.in_ok-entry.entry (omega arith)
          c.loop-position.invariant.log (rw c.loop-position.invariant.same at c.in_ok-entry.ensures.entry);
      through = items_through (entry_questions c.args.longest medium) c.args.positions.now c.loop-position.position-index 0 (g.S.LineSource.asked c.args.source.now)
          (g.S.LineSource.asked c.loop-position.source) (g.S.LineSource.asked c.read_entry.new.source) (omega arith) c.loop-position.invariant.through
          (rw c.loop-position.invariant.same at c.in_ok-entry.ensures.ok);
    }
