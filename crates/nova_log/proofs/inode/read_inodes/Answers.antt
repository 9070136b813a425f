use Rattle.std.proofs.Common.{◌≡◌, ◌<◌, true, inl, inr, refl, ◌∙◌, arith}
use Rattle.std.proofs.lemmas.Result.{err_from_is_err_and}
use Rattle.nova_log.specs.Chains.{is_page}
use Rattle.nova_log.specs.Inodes.{inode_at, inode_questions}
use Rattle.nova_log.proofs.Questions.{all_more, numbers_mapped, numbers_stopped, numbers_through}
use Rattle.nova_log.proofs.Wholes.{inode_made}
use Rattle.nova_log.specs.declared.inode.Inode.{Inode}
use Rattle.nova_log.proofs.inode.read_inodes.Goals as goal

pub returns-in_err-own-clause-err : goal.returns-in_err-own-clause-err
returns-in_err-own-clause-err g c =
    let p = err_from_is_err_and c.from_residual-in_err-own.result c.from_residual-in_err-own.ensures.1 in
    let f = inode_questions c.args.geometry.now.pages (g.S.LineSource.medium c.args.source.now) in
    let h = rw c.loop-n.invariant.same at c.in_err-own.ensures.err in
    rw (p.1, p.2) (elim h [
      | inl memory ↦ inl memory
      | inr stopped ↦ inr (numbers_stopped f 0 c.loop-n.n c.args.geometry.now.inodes c.loop-n.n c.in_err-own.field-0.0 (g.S.LineSource.asked c.args.source.now)
          (g.S.LineSource.asked c.loop-n.source) (g.S.LineSource.asked c.read_inode.new.source) (omega arith) (omega arith) c.loop-n.invariant.through stopped)
    ])

pub loop-n-preserved : goal.loop-n-preserved
loop-n-preserved g c =
    let medium = g.S.LineSource.medium c.args.source.now in
    let inode : Inode = record { head = c.in_ok-own.own.head; tail = c.restored_or.result } in
    let less : c.loop-n.n < 64 = omega arith in
    let made : inode ≡ inode_at medium c.args.geometry.now.journals c.loop-n.n =
    inode_made medium c.args.geometry.now.journals c.loop-n.n c.restored_or.result c.in_ok-own.own c.args.restored.now
    (rw c.loop-n.invariant.same at c.in_ok-own.ensures.inode) c.requires.restored less c.restored_or.ensures in
    record {
      same = c.read_inode.ensures.same ∙ c.loop-n.invariant.same;
      inodes = c.in_ok-push_item.ensures ∙ numbers_mapped (inode_at medium c.args.geometry.now.journals) 0 c.loop-n.n c.loop-n.n c.loop-n.inodes.items inode (omega arith)
          c.loop-n.invariant.inodes made;
      heads = rw c.in_ok-push_item.ensures (all_more (λ (i : Inode). is_page c.args.geometry.now.pages i.head ≡ true) c.loop-n.inodes.items inode c.loop-n.invariant.heads c.in_ok-own.ensures.head);
      through = numbers_through (inode_questions c.args.geometry.now.pages medium) 0 c.loop-n.n c.loop-n.n (g.S.LineSource.asked c.args.source.now)
          (g.S.LineSource.asked c.loop-n.source) (g.S.LineSource.asked c.read_inode.new.source) (omega arith) c.loop-n.invariant.through
          (rw c.loop-n.invariant.same at c.in_ok-own.ensures.ok);
    }
