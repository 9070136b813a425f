use Rattle.std.proofs.Common.{◌≡◌, ◌==◌, true, [], slice_index_or, ◌∙◌, arith, rules}
use Rattle.std.proofs.lemmas.Bool.Decides.{nat_tests}
use Rattle.std.proofs.lemmas.Option.{slice_get_within}
use Rattle.schedule_states.proofs.Answered.{stands_served}
use Rattle.schedule_states.proofs.Growing.{grown_then, has_lists_after, moved_after, ready_of_next, served_still, text_still, there_still}
use Rattle.schedule_states.specs.States.{AreGrown}
use Rattle.schedule_states.specs.Successors.{AreHartsAfter, AreServed, IsServedFor, IsTextAfter}
use Rattle.schedule_states.specs.declared.program_state.HartPart.{HartPart}
use Rattle.schedule_states.specs.declared.program_state.ProgramState.{ProgramState}
use Rattle.schedule_states.proofs.parts.Parts.serve.Goals as goal

pub harts_after-requires-clause-there : goal.harts_after-requires-clause-there
harts_after-requires-clause-there c = rw c.deref-2.ensures.value (slice_get_within c.args.state.now.harts.items c.args.asking.now.hart c.args.asking.now.part c.requires.asking.part)

pub run_ahead-requires : goal.run_ahead-requires
run_ahead-requires c = there_still c.text_after.new.self c.number_of.new.self c.in_ok-text.text c.number_of.ensures.grown c.in_ok-text.ensures.there

pub returns-in-TooLong-clause-grown : goal.returns-in-TooLong-clause-grown
returns-in-TooLong-clause-grown c = grown_then c.args.self.now c.memory_after.new.self c.number_of.new.self c.memory_after.ensures.grown
    (grown_then c.memory_after.new.self c.text_after.new.self c.number_of.new.self c.text_after.ensures.grown c.number_of.ensures.grown)

pub returns-in_err-harts : goal.returns-in_err-harts
returns-in_err-harts c = record {
  successor = search rules;
  lists = search rules;
  harts = search rules;
  grown = grown_then c.args.self.now c.memory_after.new.self c.number_of.new.self c.memory_after.ensures.grown
      (grown_then c.memory_after.new.self c.text_after.new.self c.number_of.new.self c.text_after.ensures.grown c.number_of.ensures.grown);
}

pub returns : goal.returns
returns c =
    let part : HartPart = c.args.asking.now.part in
    let own : HartPart = record { state = c.run_ahead.new.hart; reserved = c.reserved_after.result; text = c.in_ok-text.text } in
    let next : ProgramState = record { harts = c.in_ok-harts.harts; memory = c.in_ok-memory.memory } in
    let more : AreGrown c.memory_after.new.self c.number_of.new.self =
    grown_then c.memory_after.new.self c.text_after.new.self c.number_of.new.self c.text_after.ensures.grown c.number_of.ensures.grown in
    let grown : AreGrown c.args.self.now c.number_of.new.self =
    grown_then c.args.self.now c.memory_after.new.self c.number_of.new.self c.memory_after.ensures.grown more in
    let table : c.number_of.new.self.table ≡ c.memory_after.new.self.table = c.number_of.ensures.table ∙ c.text_after.ensures.table in
    let text : IsTextAfter c.text_after.new.self c.args.asking.now.request c.in_ok-reply.lines.items part.text c.in_ok-text.text =
    rw c.deref.ensures.value at c.in_ok-text.ensures.text in
    let lines : AreServed c.args.self.now c.memory_after.new.self c.args.asking.now.hart c.args.asking.now.request c.in_ok-reply.reply
    (slice_index_or c.args.self.now.lists c.args.state.now.memory []) c.in_ok-reply.lines.items = c.in_ok-reply.ensures.lines in
    let itself : true ≡ (c.args.asking.now.hart == c.args.asking.now.hart) = grind (arith, nat_tests) in
    let harts : AreHartsAfter c.args.asking.now.hart own c.args.asking.now.request c.in_ok-reply.reply c.args.state.now.harts.items c.in_ok-harts.harts.items =
    rw c.deref-2.ensures.value at c.in_ok-harts.ensures in
    let served : IsServedFor c.args.self.now c.number_of.new.self c.args.state.now next c.args.asking.now.hart part own c.args.asking.now.instr
    c.args.asking.now.request c.in_ok-reply.reply c.in_ok-reply.lines.items = record {
      grown = grown;
      lists = c.in_ok-memory.ensures.lists;
      part_is = c.requires.asking.part;
      reply_is = c.in_ok-reply.ensures.reply;
      served = served_still c.args.self.now c.memory_after.new.self c.number_of.new.self c.args.asking.now.hart c.args.asking.now.request c.in_ok-reply.reply
          (slice_index_or c.args.self.now.lists c.args.state.now.memory []) c.in_ok-reply.lines.items table lines;
      memory = c.in_ok-memory.ensures.number;
      text = text_still c.text_after.new.self c.number_of.new.self c.args.asking.now.request c.in_ok-reply.lines.items part.text c.in_ok-text.text
          c.number_of.ensures.grown c.number_of.ensures.table text;
      ahead = rw c.resume.ensures at c.run_ahead.ensures.alone;
      ready = ready_of_next _ c.run_ahead.new.hart c.run_ahead.result c.run_ahead.ensures.next c.in_default.not-TooLong;
      reserved = λ calls before. c.reserved_after.ensures c.args.asking.now.hart c.args.asking.now.hart calls itself before;
      harts = harts;
    } in
    record {
      successor = λ k d stands asks. stands_served c.args.self.now c.number_of.new.self c.args.state.now next c.mark_of-mark.result k d c.args.asking.now.hart part own
          c.args.asking.now.instr c.args.asking.now.request c.in_ok-reply.reply c.in_ok-reply.lines.items served c.mark_of-mark.ensures c.requires.asking.asks
          c.requires.asking.spelled stands asks;
      lists = has_lists_after c.args.self.now c.number_of.new.self c.args.state.now next c.args.asking.now.hart own c.args.asking.now.request c.in_ok-reply.reply
          grown c.requires.lists c.in_ok-memory.ensures.there
          (there_still c.text_after.new.self c.number_of.new.self c.in_ok-text.text c.number_of.ensures.grown c.in_ok-text.ensures.there) harts;
      harts = moved_after c.args.asking.now.hart own c.args.asking.now.request c.in_ok-reply.reply c.args.state.now.harts.items c.in_ok-harts.harts.items harts;
      grown = grown;
    }
