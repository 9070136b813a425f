use Rattle.std.proofs.Common.{◌≡◌, inl, inr, refl, sym, ap, ◌∙◌, length, arith, Ok}
use Rattle.std.proofs.lemmas.List.FromFn.{length-map-range_with_len}
use Rattle.std.proofs.lemmas.Result.{err_from_is_err_and}
use Rattle.nova_log.specs.Inodes.{inode_at}
use Rattle.nova_log.proofs.Wholes.{parts_inodes_stopped, parts_journals_stopped, parts_logs, parts_logs_stopped, parts_through, stopped_asked, stopped_volume, through_asked, through_volume}
use Rattle.nova_log.proofs.recovery.recover_from.Goals as goal

pub returns-in_err-restored-clause-err : goal.returns-in_err-restored-clause-err
returns-in_err-restored-clause-err g c =
    let p = err_from_is_err_and c.from_residual-in_err-restored.result c.from_residual-in_err-restored.ensures.1 in
    rw (p.1, p.2) (elim c.in_err-restored.ensures.err [
      | inl memory ↦ inl memory
      | inr stopped ↦ inr (stopped_volume (g.S.LineSource.medium c.args.source.now) c.in_err-restored.field-0.0 (g.S.LineSource.asked c.args.source.now) (g.S.LineSource.asked c.read_journals.new.source)
          (parts_journals_stopped (g.S.LineSource.medium c.args.source.now) (g.S.LineSource.medium c.read_superblock.new.source) c.in_ok-geometry.geometry c.in_err-restored.field-0.0 (g.S.LineSource.asked c.args.source.now) (g.S.LineSource.asked c.read_superblock.new.source) (g.S.LineSource.asked c.read_journals.new.source) c.read_superblock.ensures.same c.in_ok-geometry.ensures.geometry c.in_ok-geometry.ensures.ok stopped))
    ])

pub returns-in_err-restored-clause-err_asked : goal.returns-in_err-restored-clause-err_asked
returns-in_err-restored-clause-err_asked g c =
    let p = err_from_is_err_and c.from_residual-in_err-restored.result c.from_residual-in_err-restored.ensures.1 in
    rw (p.1, p.2) (elim c.in_err-restored.ensures.err [
      | inl memory ↦ inl memory
      | inr stopped ↦ inr (stopped_asked (g.S.LineSource.medium c.args.source.now) c.in_err-restored.field-0.0 (g.S.LineSource.asked c.args.source.now) (g.S.LineSource.asked c.read_journals.new.source)
          (parts_journals_stopped (g.S.LineSource.medium c.args.source.now) (g.S.LineSource.medium c.read_superblock.new.source) c.in_ok-geometry.geometry c.in_err-restored.field-0.0 (g.S.LineSource.asked c.args.source.now) (g.S.LineSource.asked c.read_superblock.new.source) (g.S.LineSource.asked c.read_journals.new.source) c.read_superblock.ensures.same c.in_ok-geometry.ensures.geometry c.in_ok-geometry.ensures.ok stopped))
    ])

pub returns-in_err-inodes-clause-err : goal.returns-in_err-inodes-clause-err
returns-in_err-inodes-clause-err g c =
    let p = err_from_is_err_and c.from_residual-in_err-inodes.result c.from_residual-in_err-inodes.ensures.1 in
    rw (p.1, p.2) (elim c.in_err-inodes.ensures.err [
      | inl memory ↦ inl memory
      | inr stopped ↦ inr (stopped_volume (g.S.LineSource.medium c.args.source.now) c.in_err-inodes.field-0.0 (g.S.LineSource.asked c.args.source.now) (g.S.LineSource.asked c.read_inodes.new.source)
          (parts_inodes_stopped (g.S.LineSource.medium c.args.source.now) (g.S.LineSource.medium c.read_superblock.new.source) (g.S.LineSource.medium c.read_journals.new.source) c.in_ok-geometry.geometry c.in_err-inodes.field-0.0 (g.S.LineSource.asked c.args.source.now) (g.S.LineSource.asked c.read_superblock.new.source) (g.S.LineSource.asked c.read_journals.new.source) (g.S.LineSource.asked c.read_inodes.new.source) c.read_superblock.ensures.same c.read_journals.ensures.same c.in_ok-geometry.ensures.geometry
          c.in_ok-geometry.ensures.ok c.in_ok-restored.ensures.ok stopped))
    ])

pub returns-in_err-inodes-clause-err_asked : goal.returns-in_err-inodes-clause-err_asked
returns-in_err-inodes-clause-err_asked g c =
    let p = err_from_is_err_and c.from_residual-in_err-inodes.result c.from_residual-in_err-inodes.ensures.1 in
    rw (p.1, p.2) (elim c.in_err-inodes.ensures.err [
      | inl memory ↦ inl memory
      | inr stopped ↦ inr (stopped_asked (g.S.LineSource.medium c.args.source.now) c.in_err-inodes.field-0.0 (g.S.LineSource.asked c.args.source.now) (g.S.LineSource.asked c.read_inodes.new.source)
          (parts_inodes_stopped (g.S.LineSource.medium c.args.source.now) (g.S.LineSource.medium c.read_superblock.new.source) (g.S.LineSource.medium c.read_journals.new.source) c.in_ok-geometry.geometry c.in_err-inodes.field-0.0 (g.S.LineSource.asked c.args.source.now) (g.S.LineSource.asked c.read_superblock.new.source) (g.S.LineSource.asked c.read_journals.new.source) (g.S.LineSource.asked c.read_inodes.new.source) c.read_superblock.ensures.same c.read_journals.ensures.same c.in_ok-geometry.ensures.geometry
          c.in_ok-geometry.ensures.ok c.in_ok-restored.ensures.ok stopped))
    ])

pub returns-in_err-volume-clause-err : goal.returns-in_err-volume-clause-err
returns-in_err-volume-clause-err g c =
    let p = err_from_is_err_and c.from_residual-in_err-volume.result c.from_residual-in_err-volume.ensures.1 in
    rw (p.1, p.2) (elim c.in_err-volume.ensures.err [
      | inl memory ↦ inl memory
      | inr stopped ↦ inr (stopped_volume (g.S.LineSource.medium c.args.source.now) c.in_err-volume.field-0.0 (g.S.LineSource.asked c.args.source.now) (g.S.LineSource.asked c.read_logs.new.source)
          (parts_logs_stopped (g.S.LineSource.medium c.args.source.now) (g.S.LineSource.medium c.read_superblock.new.source) (g.S.LineSource.medium c.read_journals.new.source) (g.S.LineSource.medium c.read_inodes.new.source) c.in_ok-geometry.geometry c.in_ok-inodes.inodes.items c.as_slice.result.now c.in_err-volume.field-0.0
          (g.S.LineSource.asked c.args.source.now) (g.S.LineSource.asked c.read_superblock.new.source) (g.S.LineSource.asked c.read_journals.new.source) (g.S.LineSource.asked c.read_inodes.new.source) (g.S.LineSource.asked c.read_logs.new.source) c.read_superblock.ensures.same c.read_journals.ensures.same c.read_inodes.ensures.same c.in_ok-geometry.ensures.geometry
          c.as_slice.ensures.value c.in_ok-inodes.ensures.inodes c.in_ok-geometry.ensures.ok c.in_ok-restored.ensures.ok c.in_ok-inodes.ensures.ok stopped))
    ])

pub returns-in_err-volume-clause-err_asked : goal.returns-in_err-volume-clause-err_asked
returns-in_err-volume-clause-err_asked g c =
    let p = err_from_is_err_and c.from_residual-in_err-volume.result c.from_residual-in_err-volume.ensures.1 in
    rw (p.1, p.2) (elim c.in_err-volume.ensures.err [
      | inl memory ↦ inl memory
      | inr stopped ↦ inr (stopped_asked (g.S.LineSource.medium c.args.source.now) c.in_err-volume.field-0.0 (g.S.LineSource.asked c.args.source.now) (g.S.LineSource.asked c.read_logs.new.source)
          (parts_logs_stopped (g.S.LineSource.medium c.args.source.now) (g.S.LineSource.medium c.read_superblock.new.source) (g.S.LineSource.medium c.read_journals.new.source) (g.S.LineSource.medium c.read_inodes.new.source) c.in_ok-geometry.geometry c.in_ok-inodes.inodes.items c.as_slice.result.now c.in_err-volume.field-0.0
          (g.S.LineSource.asked c.args.source.now) (g.S.LineSource.asked c.read_superblock.new.source) (g.S.LineSource.asked c.read_journals.new.source) (g.S.LineSource.asked c.read_inodes.new.source) (g.S.LineSource.asked c.read_logs.new.source) c.read_superblock.ensures.same c.read_journals.ensures.same c.read_inodes.ensures.same c.in_ok-geometry.ensures.geometry
          c.as_slice.ensures.value c.in_ok-inodes.ensures.inodes c.in_ok-geometry.ensures.ok c.in_ok-restored.ensures.ok c.in_ok-inodes.ensures.ok stopped))
    ])

pub read_logs-requires-clause-few : goal.read_logs-requires-clause-few
read_logs-requires-clause-few g c =
    let count : length c.as_slice.result.now ≡ c.in_ok-geometry.geometry.inodes =
    ap length (c.as_slice.ensures.value ∙ c.in_ok-inodes.ensures.inodes)
    ∙ length-map-range_with_len (inode_at (g.S.LineSource.medium c.read_journals.new.source) c.in_ok-geometry.geometry.journals) 0 c.in_ok-geometry.geometry.inodes in
    let few = c.in_ok-geometry.ensures.sound.counts.few_inodes in
    omega arith

pub returns-clause-ok : goal.returns-clause-ok
returns-clause-ok g c =
    through_volume (g.S.LineSource.medium c.args.source.now) (g.S.LineSource.asked c.args.source.now) (g.S.LineSource.asked c.read_logs.new.source)
    (parts_through (g.S.LineSource.medium c.args.source.now) (g.S.LineSource.medium c.read_superblock.new.source) (g.S.LineSource.medium c.read_journals.new.source) (g.S.LineSource.medium c.read_inodes.new.source) c.in_ok-geometry.geometry c.in_ok-inodes.inodes.items c.as_slice.result.now
    (g.S.LineSource.asked c.args.source.now) (g.S.LineSource.asked c.read_superblock.new.source) (g.S.LineSource.asked c.read_journals.new.source) (g.S.LineSource.asked c.read_inodes.new.source) (g.S.LineSource.asked c.read_logs.new.source)
    c.read_superblock.ensures.same c.read_journals.ensures.same c.read_inodes.ensures.same c.in_ok-geometry.ensures.geometry c.as_slice.ensures.value c.in_ok-inodes.ensures.inodes
    c.in_ok-geometry.ensures.ok c.in_ok-restored.ensures.ok c.in_ok-inodes.ensures.ok c.in_ok-volume.ensures.ok)
    ∙ sym (ap Ok (parts_logs (g.S.LineSource.medium c.args.source.now) (g.S.LineSource.medium c.read_superblock.new.source) (g.S.LineSource.medium c.read_journals.new.source) (g.S.LineSource.medium c.read_inodes.new.source) c.in_ok-geometry.geometry c.in_ok-inodes.inodes.items c.as_slice.result.now c.in_ok-volume.volume
    c.read_superblock.ensures.same c.read_journals.ensures.same c.read_inodes.ensures.same c.in_ok-geometry.ensures.geometry c.as_slice.ensures.value c.in_ok-inodes.ensures.inodes c.in_ok-volume.ensures.logs))

pub returns-clause-ok_asked : goal.returns-clause-ok_asked
returns-clause-ok_asked g c =
    through_asked (g.S.LineSource.medium c.args.source.now) (g.S.LineSource.asked c.args.source.now) (g.S.LineSource.asked c.read_logs.new.source)
    (parts_through (g.S.LineSource.medium c.args.source.now) (g.S.LineSource.medium c.read_superblock.new.source) (g.S.LineSource.medium c.read_journals.new.source) (g.S.LineSource.medium c.read_inodes.new.source) c.in_ok-geometry.geometry c.in_ok-inodes.inodes.items c.as_slice.result.now
    (g.S.LineSource.asked c.args.source.now) (g.S.LineSource.asked c.read_superblock.new.source) (g.S.LineSource.asked c.read_journals.new.source) (g.S.LineSource.asked c.read_inodes.new.source) (g.S.LineSource.asked c.read_logs.new.source)
    c.read_superblock.ensures.same c.read_journals.ensures.same c.read_inodes.ensures.same c.in_ok-geometry.ensures.geometry c.as_slice.ensures.value c.in_ok-inodes.ensures.inodes
    c.in_ok-geometry.ensures.ok c.in_ok-restored.ensures.ok c.in_ok-inodes.ensures.ok c.in_ok-volume.ensures.ok)
