use Rattle.std.proofs.Common.{◌≡◌, true}
use Rattle.std.specs.List.{All, flat_map, range_with_len}
use Rattle.nova_log.specs.Chains.{is_page}
use Rattle.nova_log.specs.Inodes.{inode_questions, inodes_of}
use Rattle.nova_log.specs.Questions.{IsThrough}
use Rattle.nova_log.proofs.inode.read_inodes.Given as goal

abbrev pub invariant-loop-n : goal.invariant-loop-n
invariant-loop-n g l =
    let medium = g.S.LineSource.medium l.fn.source in
    record {
      same : g.S.LineSource.medium l.source ≡ medium;
      inodes : l.inodes.items ≡ inodes_of medium l.geometry.journals l.n;
      heads : All (λ i. is_page l.geometry.pages i.head ≡ true) l.inodes.items;
      through : IsThrough (flat_map (inode_questions l.geometry.pages medium) (range_with_len 0 l.n)) (g.S.LineSource.asked l.fn.source) (g.S.LineSource.asked l.source);
    }
