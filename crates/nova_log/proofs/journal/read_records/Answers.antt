use Rattle.std.proofs.Common.{◌≡◌, ◌<◌, ℕ, inl, inr, refl, sym, ◌∙◌, arith}
use Rattle.std.proofs.lemmas.Result.{err_from_is_err_and}
use Rattle.nova_log.specs.Journals.{record_at, record_questions}
use Rattle.nova_log.proofs.Questions.{all_more, span_mapped, span_stopped, span_through}
use Rattle.nova_log.specs.declared.journal.Record.{Record}
use Rattle.nova_log.proofs.journal.read_records.Goals as goal

pub returns-in_err-record-clause-err : goal.returns-in_err-record-clause-err
returns-in_err-record-clause-err g c =
    let p = err_from_is_err_and c.from_residual.result c.from_residual.ensures.1 in
    let f = record_questions c.args.inodes (g.S.LineSource.medium c.args.source.now) c.args.j in
    let h = rw c.loop-r.invariant.same at c.in_err-record.ensures.err in
    rw (p.1, p.2) (elim h [
      | inl memory ↦ inl memory
      | inr stopped ↦ inr (span_stopped f c.args.head c.loop-r.r c.args.tail c.in_err-record.field-0.0 (g.S.LineSource.asked c.args.source.now)
          (g.S.LineSource.asked c.loop-r.source) (g.S.LineSource.asked c.read_record.new.source) (omega arith) (omega arith) c.loop-r.invariant.through stopped)
    ])

pub loop-r-preserved : goal.loop-r-preserved
loop-r-preserved g c =
    let medium = g.S.LineSource.medium c.args.source.now in
    record {
      same = c.read_record.ensures.same ∙ c.loop-r.invariant.same;
      records = c.in_ok-push_item.ensures ∙ span_mapped (record_at medium c.args.j) c.args.head c.loop-r.r c.loop-r.records.items c.in_ok-record.record (omega arith)
          c.loop-r.invariant.records (rw c.loop-r.invariant.same at c.in_ok-record.ensures.record);
      named = rw c.in_ok-push_item.ensures (all_more (λ (r : Record). r.inode < 64) c.loop-r.records.items c.in_ok-record.record c.loop-r.invariant.named c.in_ok-record.ensures.named);
      through = span_through (record_questions c.args.inodes medium c.args.j) c.args.head c.loop-r.r (g.S.LineSource.asked c.args.source.now)
          (g.S.LineSource.asked c.loop-r.source) (g.S.LineSource.asked c.read_record.new.source) (omega arith) c.loop-r.invariant.through
          (rw c.loop-r.invariant.same at c.in_ok-record.ensures.ok);
    }
