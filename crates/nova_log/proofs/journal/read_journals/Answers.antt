use Rattle.std.proofs.Common.{◌≡◌, inl, inr, refl, ◌∙◌, arith}
use Rattle.std.proofs.lemmas.Result.{err_from_is_err_and}
use Rattle.nova_log.specs.Journals.{journal_questions}
use Rattle.nova_log.proofs.Journals.{journal_restored, none_restored}
use Rattle.nova_log.proofs.Questions.{numbers_stopped, numbers_through, through_none}
use Rattle.nova_log.proofs.journal.read_journals.Goals as goal

pub loop-j-init : goal.loop-j-init
loop-j-init g c =
    let medium = g.S.LineSource.medium c.args.source.now in
    record {
      same = refl;
      restored = none_restored medium;
      through = through_none (g.S.LineSource.asked c.args.source.now);
    }

pub returns-in_err-records-clause-err : goal.returns-in_err-records-clause-err
returns-in_err-records-clause-err g c =
    let p = err_from_is_err_and c.from_residual.result c.from_residual.ensures.1 in
    let f = journal_questions c.args.geometry.now.inodes (g.S.LineSource.medium c.args.source.now) in
    let h = rw c.loop-j.invariant.same at c.in_err-records.ensures.err in
    rw (p.1, p.2) (elim h [
      | inl memory ↦ inl memory
      | inr stopped ↦ inr (numbers_stopped f 0 c.loop-j.j c.args.geometry.now.journals c.loop-j.j c.in_err-records.field-0.0 (g.S.LineSource.asked c.args.source.now)
          (g.S.LineSource.asked c.loop-j.source) (g.S.LineSource.asked c.read_journal.new.source) (omega arith) (omega arith) c.loop-j.invariant.through stopped)
    ])

pub loop-j-preserved : goal.loop-j-preserved
loop-j-preserved g c =
    let medium = g.S.LineSource.medium c.args.source.now in
    let records = rw c.loop-j.invariant.same at c.in_ok-records.ensures.records in
    record {
      same = c.read_journal.ensures.same ∙ c.loop-j.invariant.same;
      restored = journal_restored medium c.loop-j.restored c.restore.new.restored c.deref.result.now c.loop-j.j c.loop-j.invariant.restored
          (c.deref.ensures.value ∙ records) c.restore.ensures;
      through = numbers_through (journal_questions c.args.geometry.now.inodes medium) 0 c.loop-j.j c.loop-j.j (g.S.LineSource.asked c.args.source.now)
          (g.S.LineSource.asked c.loop-j.source) (g.S.LineSource.asked c.read_journal.new.source) (omega arith) c.loop-j.invariant.through
          (rw c.loop-j.invariant.same at c.in_ok-records.ensures.ok);
    }
