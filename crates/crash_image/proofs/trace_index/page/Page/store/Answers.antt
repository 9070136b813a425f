use Rattle.std.proofs.Common.{◌∙◌, List, ap}
use Rattle.std.specs.Prelude.{slice_index_or, slice_set}
use Rattle.crash_image.specs.Lines.{LineView, unstored, with_store}
use Rattle.crash_image.proofs.Paging.{get_page, set_page}
use Rattle.crash_image.proofs.trace_index.page.Page.store.Goals as goal

pub returns-clause-stored : goal.returns-clause-stored
returns-clause-stored c =
    let made = c.make.new.lines.items in
    let own = c.index_mut.ensures.value ∙ get_page c.self.inside.lines.items made c.args.at _ c.requires.place c.in_ok-make.ensures.made c.in_ok-make.ensures.same
    ∙ ap (λ (xs : List LineView). slice_index_or xs c.args.at unstored) c.self.view_is in
    record {
      line = c.store.new.self;
      set = set_page c.self.inside.lines.items made c.args.at c.store.new.self c.in_ok-make.ensures.made c.in_ok-make.ensures.same
          ∙ ap (λ (xs : List LineView). slice_set xs c.args.at c.store.new.self) c.self.view_is;
      stores = c.in_ok-store.ensures.stores ∙ ap (λ (line : LineView). with_store c.args.start.now line.stores c.args.store) own;
      raises = c.in_ok-store.ensures.raises ∙ ap (λ (line : LineView). line.raises) own;
    }
