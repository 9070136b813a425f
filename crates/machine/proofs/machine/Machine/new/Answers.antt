use Rattle.std.proofs.Common.{◌<◌, ◌∙◌, ap, refl}
use Rattle.std.proofs.lemmas.List.FromFn.{length-map-range_with_len}
use Rattle.std.proofs.lemmas.Result.{IfOk-weaker}
use Rattle.hart.specs.Effect.{start}
use Rattle.line_memory.specs.Lines.{line_bytes}
use Rattle.line_memory.specs.Memory.{Memory}
use Rattle.machine.specs.Histories.{text_of}
use Rattle.machine.specs.SharedView.{lines_shown}
use Rattle.machine.proofs.Copying.{copies_at_start, text_there}
use Rattle.machine.proofs.machine.Machine.new.Goals as goal

pub returns-clause-ok : goal.returns-clause-ok
returns-clause-ok c =
    let shared = c.in_ok-shared.shared in
    let shows = c.in_ok-shared.ensures.ok in
    IfOk-weaker c.over.result _ _ (λ made is. rw is (record {
      harts = refl;
      shared = shows;
      copies = λ h inside.
          let few : h < c.args.harts = rw (length-map-range_with_len start 0 c.args.harts) at inside in
          let same = text_there shared.ram (line_bytes (lines_shown shared)) ∙ ap (λ (memory : Memory). text_of memory) shows.memory in
          copies_at_start shared.ram.text _ c.args.harts h few same;
    })) c.over.ensures.ok

pub returns-clause-exact : goal.returns-clause-exact
returns-clause-exact c =
    let shared = c.in_ok-shared.shared in
    let shows = c.in_ok-shared.ensures.ok in
    IfOk-weaker c.over.result _ _ (λ made is. record {
      represents = rw is (record {
        harts = refl;
        shared = shows;
        copies = λ h inside.
            let few : h < c.args.harts = rw (length-map-range_with_len start 0 c.args.harts) at inside in
            let same = text_there shared.ram (line_bytes (lines_shown shared)) ∙ ap (λ (memory : Memory). text_of memory) shows.memory in
            copies_at_start shared.ram.text _ c.args.harts h few same;
      });
      exact = rw is c.in_ok-shared.ensures.exact;
    }) c.over.ensures.ok

pub returns-clause-capacity : goal.returns-clause-capacity
returns-clause-capacity c = IfOk-weaker c.over.result _ _ (λ made is. rw is c.in_ok-shared.ensures.capacity) c.over.ensures.ok
