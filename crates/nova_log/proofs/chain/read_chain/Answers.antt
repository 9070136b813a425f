use Rattle.std.proofs.Common.{◌≡◌, ◌-◌, false, refl, sym, ◌∙◌}
use Rattle.nova_log.specs.Chains.{chain, ends_in, link_of, link_questions}
use Rattle.nova_log.proofs.Chains.{link_question, links_go, walk_goes, walk_room}
use Rattle.nova_log.proofs.Questions.{leads_more}
use Rattle.nova_log.proofs.chain.read_chain.Goals as goal

pub returns-then-is_ended-clause-room : goal.returns-then-is_ended-clause-room
returns-then-is_ended-clause-room g c =
    walk_room c.args.geometry.now.shape c.args.geometry.now.pages c.args.inode.tail c.pages.page c.pages.positions.items c.push_positions.new.positions.items
    c.requires.sound.shape c.pages.invariant.page c.pages.invariant.room c.in_ok-push_positions.ensures

pub pages-preserved : goal.pages-preserved
pages-preserved g c =
    let medium = g.S.LineSource.medium c.args.source.now in
    let shape = c.args.geometry.now.shape in
    let pages = c.args.geometry.now.pages in
    let goes : ends_in shape c.args.inode.tail c.pages.page ≡ false = sym c.is_ended.ensures ∙ c.if-is_ended.false in
    let link : c.in_ok-page.page ≡ link_of shape medium c.pages.page = rw c.pages.invariant.same at c.in_ok-page.ensures.link in
    record {
      same = c.read_link.ensures.same ∙ c.pages.invariant.same;
      some = c.in_ok-page.ensures.some;
      page = c.in_ok-page.ensures.page;
      positions = walk_goes shape medium c.args.inode.tail c.pages.more c.pages.page c.in_ok-page.page
          (chain shape medium c.args.inode.tail pages c.args.inode.head) c.pages.positions.items c.push_positions.new.positions.items
          c.pages.invariant.some goes link c.pages.invariant.positions c.in_ok-push_positions.ensures;
      room = walk_room shape pages c.args.inode.tail c.pages.page c.pages.positions.items c.push_positions.new.positions.items
          c.requires.sound.shape c.pages.invariant.page c.pages.invariant.room c.in_ok-push_positions.ensures;
      asked = leads_more (link_questions shape pages medium c.args.inode.tail pages c.args.inode.head)
          (link_questions shape pages medium c.args.inode.tail c.pages.more c.pages.page) (link_question shape pages medium (c.pages.more - 1) c.pages.page)
          (link_questions shape pages medium c.args.inode.tail (c.pages.more - 1) c.in_ok-page.page)
          (g.S.LineSource.asked c.args.source.now) (g.S.LineSource.asked c.pages.source) (g.S.LineSource.asked c.read_link.new.source)
          c.pages.invariant.asked (links_go shape pages medium c.args.inode.tail c.pages.more c.pages.page c.in_ok-page.page c.pages.invariant.some goes link)
          (rw c.pages.invariant.same at c.in_ok-page.ensures.ok);
    }
