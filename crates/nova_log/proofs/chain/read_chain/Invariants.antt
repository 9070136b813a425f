use Rattle.std.proofs.Common.{◌≡◌, ◌+◌, ◌≤◌, ◌++◌, true}
use Rattle.std.specs.List.{All}
use Rattle.nova_log.specs.Chains.{chain, is_page, link_questions}
use Rattle.nova_log.specs.Layouts.{page_at}
use Rattle.nova_log.proofs.Questions.{Leads}
use Rattle.nova_log.proofs.chain.read_chain.Given as goal

abbrev pub invariant-pages : goal.invariant-pages
invariant-pages g l =
    let medium = g.S.LineSource.medium l.fn.source in
    let shape = l.geometry.shape in
    record {
      same : g.S.LineSource.medium l.source ≡ medium;
      some : 1 ≤ l.more;
      page : is_page l.geometry.pages l.page ≡ true;
      positions : chain shape medium l.inode.tail l.geometry.pages l.inode.head ≡ l.positions.items ++ chain shape medium l.inode.tail l.more l.page;
      room : All (λ position. position + 128 ≤ page_at l.geometry.pages) l.positions.items;
      asked : Leads (link_questions shape l.geometry.pages medium l.inode.tail l.geometry.pages l.inode.head)
          (link_questions shape l.geometry.pages medium l.inode.tail l.more l.page) (g.S.LineSource.asked l.fn.source) (g.S.LineSource.asked l.source);
    }

abbrev pub decreases-pages : goal.decreases-pages
decreases-pages g l = l.more
