use Rattle.std.proofs.Common.{◌≡◌, inl, inr, sym, ap, ◌∙◌, length, arith, Ok}
use Rattle.std.proofs.lemmas.List.FromFn.{length-map-range_with_len}
use Rattle.std.proofs.lemmas.Result.{err_from_is_err_and}
use Rattle.nova_log.specs.Inodes.{inode_at}
use Rattle.nova_log.proofs.Wholes.{parts_inodes_stopped, parts_journals_stopped, parts_logs, parts_logs_stopped, parts_through, stopped_asked, stopped_volume, through_asked, through_volume}
use Rattle.nova_log.proofs.kept.recover_again.Goals as goal

pub returns-in_err-restored-clause-err : goal.returns-in_err-restored-clause-err
returns-in_err-restored-clause-err g c =
    let p = err_from_is_err_and c.from_residual-in_err-restored.result c.from_residual-in_err-restored.ensures.1 in
    rw (p.1, p.2) (elim c.in_err-restored.ensures.err [
      | inl memory ↦ inl memory
      | inr stopped ↦ inr (stopped_volume (g.S.LineSource.medium c.args.source.now) c.in_err-restored.field-0.0 (g.S.LineSource.asked c.args.source.now) (g.S.LineSource.asked c.read_journals.new.source)
          (parts_journals_stopped (g.S.LineSource.medium c.args.source.now) (g.S.LineSource.medium c.read_superblock.new.source) c.in_ok-geometry.geometry c.in_err-restored.field-0.0 (g.S.LineSource.asked c.args.source.now) (g.S.LineSource.asked c.read_superblock.new.source) (g.S.LineSource.asked c.read_journals.new.source) c.read_superblock.ensures.same c.in_ok-geometry.ensures.geometry c.in_ok-geometry.ensures.ok stopped))
    ])

pub returns-in_err-restored-clause-err_asked : goal.returns-in_err-restored-clause-err_asked
returns-in_err-restored-clause-err_asked g c =
    let p = err_from_is_err_and c.from_residual-in_err-restored.result c.from_residual-in_err-restored.ensures.1 in
    rw (p.1, p.2) (elim c.in_err-restored.ensures.err [
      | inl memory ↦ inl memory
      | inr stopped ↦ inr (stopped_asked (g.S.LineSource.medium c.args.source.now) c.in_err-restored.field-0.0 (g.S.LineSource.asked c.args.source.now) (g.S.LineSource.asked c.read_journals.new.source)
          (parts_journals_stopped (g.S.LineSource.medium c.args.source.now) (g.S.LineSource.medium c.read_superblock.new.source) c.in_ok-geometry.geometry c.in_err-restored.field-0.0 (g.S.LineSource.asked c.args.source.now) (g.S.LineSource.asked c.read_superblock.new.source) (g.S.LineSource.asked c.read_journals.new.source) c.read_superblock.ensures.same c.in_ok-geometry.ensures.geometry c.in_ok-geometry.ensures.ok stopped))
    ])

pub returns-in_err-inodes-clause-err : goal.returns-in_err-inodes-clause-err
returns-in_err-inodes-clause-err g c =
    let p = err_from_is_err_and c.from_residual-in_err-inodes.result c.from_residual-in_err-inodes.ensures.1 in
    rw (p.1, p.2) (elim c.in_err-inodes.ensures.err [
      | inl memory ↦ inl memory
      | inr stopped ↦ inr (stopped_volume (g.S.LineSource.medium c.args.source.now) c.in_err-inodes.field-0.0 (g.S.LineSource.asked c.args.source.now) (g.S.LineSource.asked c.read_inodes.new.source)
          (parts_inodes_stopped (g.S.LineSource.medium c.args.source.now) (g.S.LineSource.medium c.read_superblock.new.source) (g.S.LineSource.medium c.read_journals.new.source) c.in_ok-geometry.geometry c.in_err-inodes.field-0.0 (g.S.LineSource.asked c.args.source.now) (g.S.LineSource.asked c.read_superblock.new.source) (g.S.LineSource.asked c.read_journals.new.source) (g.S.LineSource.asked c.read_inodes.new.source) c.read_superblock.ensures.same c.read_journals.ensures.same c.in_ok-geometry.ensures.geometry
          c.in_ok-geometry.ensures.ok c.in_ok-restored.ensures.ok stopped))
    ])

pub returns-in_err-inodes-clause-err_asked : goal.returns-in_err-inodes-clause-err_asked
returns-in_err-inodes-clause-err_asked g c =
    let p = err_from_is_err_and c.from_residual-in_err-inodes.result c.from_residual-in_err-inodes.ensures.1 in
    rw (p.1, p.2) (elim c.in_err-inodes.ensures.err [
      | inl memory ↦ inl memory
      | inr stopped ↦ inr (stopped_asked (g.S.LineSource.medium c.args.source.now) c.in_err-inodes.field-0.0 (g.S.LineSource.asked c.args.source.now) (g.S.LineSource.asked c.read_inodes.new.source)
          (parts_inodes_stopped (g.S.LineSource.medium c.args.source.now) (g.S.LineSource.medium c.read_superblock.new.source) (g.S.LineSource.medium c.read_journals.new.source) c.in_ok-geometry.geometry c.in_err-inodes.field-0.0 (g.S.LineSource.asked c.args.source.now) (g.S.LineSource.asked c.read_superblock.new.source) (g.S.LineSource.asked c.read_journals.new.source) (g.S.LineSource.asked c.read_inodes.new.source) c.read_superblock.ensures.same c.read_journals.ensures.same c.in_ok-geometry.ensures.geometry
          c.in_ok-geometry.ensures.ok c.in_ok-restored.ensures.ok stopped))
    ])

pub returns-in_err-read_logs-clause-err : goal.returns-in_err-read_logs-clause-err
returns-in_err-read_logs-clause-err g c =
    let p = err_from_is_err_and c.from_residual-in_err-read_logs.result c.from_residual-in_err-read_logs.ensures.1 in
    rw (p.1, p.2) (elim (rw (c.in_ok-begin.ensures.geometry) at c.in_err-read_logs.ensures.err) [
      | inl memory ↦ inl memory
      | inr stopped ↦ inr (stopped_volume (g.S.LineSource.medium c.args.source.now) c.in_err-read_logs.field-0.0 (g.S.LineSource.asked c.args.source.now) (g.S.LineSource.asked c.read_logs.new.source)
          (parts_logs_stopped (g.S.LineSource.medium c.args.source.now) (g.S.LineSource.medium c.read_superblock.new.source) (g.S.LineSource.medium c.read_journals.new.source) (g.S.LineSource.medium c.read_inodes.new.source) c.in_ok-geometry.geometry c.in_ok-inodes.inodes.items c.as_slice.result.now c.in_err-read_logs.field-0.0
          (g.S.LineSource.asked c.args.source.now) (g.S.LineSource.asked c.read_superblock.new.source) (g.S.LineSource.asked c.read_journals.new.source) (g.S.LineSource.asked c.read_inodes.new.source) (g.S.LineSource.asked c.read_logs.new.source) c.read_superblock.ensures.same c.read_journals.ensures.same c.read_inodes.ensures.same c.in_ok-geometry.ensures.geometry
          c.as_slice.ensures.value c.in_ok-inodes.ensures.inodes c.in_ok-geometry.ensures.ok c.in_ok-restored.ensures.ok c.in_ok-inodes.ensures.ok stopped))
    ])

pub returns-in_err-read_logs-clause-err_asked : goal.returns-in_err-read_logs-clause-err_asked
returns-in_err-read_logs-clause-err_asked g c =
    let p = err_from_is_err_and c.from_residual-in_err-read_logs.result c.from_residual-in_err-read_logs.ensures.1 in
    rw (p.1, p.2) (elim (rw (c.in_ok-begin.ensures.geometry) at c.in_err-read_logs.ensures.err) [
      | inl memory ↦ inl memory
      | inr stopped ↦ inr (stopped_asked (g.S.LineSource.medium c.args.source.now) c.in_err-read_logs.field-0.0 (g.S.LineSource.asked c.args.source.now) (g.S.LineSource.asked c.read_logs.new.source)
          (parts_logs_stopped (g.S.LineSource.medium c.args.source.now) (g.S.LineSource.medium c.read_superblock.new.source) (g.S.LineSource.medium c.read_journals.new.source) (g.S.LineSource.medium c.read_inodes.new.source) c.in_ok-geometry.geometry c.in_ok-inodes.inodes.items c.as_slice.result.now c.in_err-read_logs.field-0.0
          (g.S.LineSource.asked c.args.source.now) (g.S.LineSource.asked c.read_superblock.new.source) (g.S.LineSource.asked c.read_journals.new.source) (g.S.LineSource.asked c.read_inodes.new.source) (g.S.LineSource.asked c.read_logs.new.source) c.read_superblock.ensures.same c.read_journals.ensures.same c.read_inodes.ensures.same c.in_ok-geometry.ensures.geometry
          c.as_slice.ensures.value c.in_ok-inodes.ensures.inodes c.in_ok-geometry.ensures.ok c.in_ok-restored.ensures.ok c.in_ok-inodes.ensures.ok stopped))
    ])

pub read_logs-requires-clause-few : goal.read_logs-requires-clause-few
read_logs-requires-clause-few g c =
    let count : length c.as_slice.result.now ≡ c.in_ok-geometry.geometry.inodes =
    ap length (c.as_slice.ensures.value ∙ c.in_ok-inodes.ensures.inodes)
    ∙ length-map-range_with_len (inode_at (g.S.LineSource.medium c.read_journals.new.source) c.in_ok-geometry.geometry.journals) 0 c.in_ok-geometry.geometry.inodes in
    let few = c.in_ok-geometry.ensures.sound.counts.few_inodes in
    omega arith

pub returns-clause-ok : goal.returns-clause-ok
returns-clause-ok g c =
    through_volume (g.S.LineSource.medium c.args.source.now) (g.S.LineSource.asked c.args.source.now) (g.S.LineSource.asked c.read_logs.new.source)
    (parts_through (g.S.LineSource.medium c.args.source.now) (g.S.LineSource.medium c.read_superblock.new.source) (g.S.LineSource.medium c.read_journals.new.source) (g.S.LineSource.medium c.read_inodes.new.source) c.in_ok-geometry.geometry c.in_ok-inodes.inodes.items c.as_slice.result.now
    (g.S.LineSource.asked c.args.source.now) (g.S.LineSource.asked c.read_superblock.new.source) (g.S.LineSource.asked c.read_journals.new.source) (g.S.LineSource.asked c.read_inodes.new.source) (g.S.LineSource.asked c.read_logs.new.source)
    c.read_superblock.ensures.same c.read_journals.ensures.same c.read_inodes.ensures.same c.in_ok-geometry.ensures.geometry c.as_slice.ensures.value c.in_ok-inodes.ensures.inodes
    c.in_ok-geometry.ensures.ok c.in_ok-restored.ensures.ok c.in_ok-inodes.ensures.ok (rw (c.in_ok-begin.ensures.geometry) at c.in_ok-read_logs.ensures.ok))
    ∙ sym (ap Ok (parts_logs (g.S.LineSource.medium c.args.source.now) (g.S.LineSource.medium c.read_superblock.new.source) (g.S.LineSource.medium c.read_journals.new.source) (g.S.LineSource.medium c.read_inodes.new.source) c.in_ok-geometry.geometry c.in_ok-inodes.inodes.items c.as_slice.result.now c.read_logs.new.self.volume
    c.read_superblock.ensures.same c.read_journals.ensures.same c.read_inodes.ensures.same c.in_ok-geometry.ensures.geometry c.as_slice.ensures.value c.in_ok-inodes.ensures.inodes (rw (c.in_ok-begin.ensures.geometry) at c.in_ok-read_logs.ensures.logs)))

pub returns-clause-ok_asked : goal.returns-clause-ok_asked
returns-clause-ok_asked g c =
    through_asked (g.S.LineSource.medium c.args.source.now) (g.S.LineSource.asked c.args.source.now) (g.S.LineSource.asked c.read_logs.new.source)
    (parts_through (g.S.LineSource.medium c.args.source.now) (g.S.LineSource.medium c.read_superblock.new.source) (g.S.LineSource.medium c.read_journals.new.source) (g.S.LineSource.medium c.read_inodes.new.source) c.in_ok-geometry.geometry c.in_ok-inodes.inodes.items c.as_slice.result.now
    (g.S.LineSource.asked c.args.source.now) (g.S.LineSource.asked c.read_superblock.new.source) (g.S.LineSource.asked c.read_journals.new.source) (g.S.LineSource.asked c.read_inodes.new.source) (g.S.LineSource.asked c.read_logs.new.source)
    c.read_superblock.ensures.same c.read_journals.ensures.same c.read_inodes.ensures.same c.in_ok-geometry.ensures.geometry c.as_slice.ensures.value c.in_ok-inodes.ensures.inodes
    c.in_ok-geometry.ensures.ok c.in_ok-restored.ensures.ok c.in_ok-inodes.ensures.ok (rw (c.in_ok-begin.ensures.geometry) at c.in_ok-read_logs.ensures.ok))

pub begin-requires : goal.begin-requires
begin-requires g c =
    let count : length c.in_ok-inodes.inodes.items ≡ c.in_ok-geometry.geometry.inodes =
    ap length c.in_ok-inodes.ensures.inodes
    ∙ length-map-range_with_len (inode_at (g.S.LineSource.medium c.read_journals.new.source) c.in_ok-geometry.geometry.journals) 0 c.in_ok-geometry.geometry.inodes in
    let few = c.in_ok-geometry.ensures.sound.counts.few_inodes in
    omega arith

pub read_logs-requires-clause-sound : goal.read_logs-requires-clause-sound
read_logs-requires-clause-sound g c =
    rw (c.in_ok-begin.ensures.geometry, c.read_inodes.ensures.same, c.read_journals.ensures.same, c.read_superblock.ensures.same) c.in_ok-geometry.ensures.sound

pub read_logs-requires-clause-heads : goal.read_logs-requires-clause-heads
read_logs-requires-clause-heads g c = rw (c.in_ok-begin.ensures.geometry, c.as_slice.ensures.value) c.in_ok-inodes.ensures.heads

pub read_logs-requires-clause-kept : goal.read_logs-requires-clause-kept
read_logs-requires-clause-kept g c =
    c.begin.ensures.kept (g.S.LineSource.medium c.read_inodes.new.source)
    (rw (c.read_inodes.ensures.same, c.read_journals.ensures.same, c.read_superblock.ensures.same) c.requires.kept)

pub returns-in_err-begin-clause-kept : goal.returns-in_err-begin-clause-kept
returns-in_err-begin-clause-kept g c = λ other alike before. c.begin.ensures.kept other before

pub returns-in_err-read_logs-clause-kept : goal.returns-in_err-read_logs-clause-kept
returns-in_err-read_logs-clause-kept g c = λ other alike before.
    c.read_logs.ensures.kept other (rw (c.read_inodes.ensures.same, c.read_journals.ensures.same, c.read_superblock.ensures.same) alike)
    (c.begin.ensures.kept other before)

pub returns-clause-kept : goal.returns-clause-kept
returns-clause-kept g c = λ other alike before.
    c.read_logs.ensures.kept other (rw (c.read_inodes.ensures.same, c.read_journals.ensures.same, c.read_superblock.ensures.same) alike)
    (c.begin.ensures.kept other before)
