-- Each command comes to what its function says.
use Rattle.std.proofs.Common.{refl}
use Rattle.command_line.proofs.commands.carry_out.Goals as goal

pub returns-in-Assemble-clause-carries : goal.returns-in-Assemble-clause-carries
returns-in-Assemble-clause-carries g c = rw c.in-Assemble.is (record { found = c.assemble_file.result; finding = c.assemble_file.ensures; leads = c.printed.ensures.is })

pub returns-in-MakeVolume-clause-carries : goal.returns-in-MakeVolume-clause-carries
returns-in-MakeVolume-clause-carries g c = rw c.in-MakeVolume.is (record { found = c.make_file.result; finding = c.make_file.ensures; leads = c.printed-in-MakeVolume.ensures.is })

pub returns-in-Upgrade-clause-carries : goal.returns-in-Upgrade-clause-carries
returns-in-Upgrade-clause-carries g c = rw c.in-Upgrade.is (record { found = c.upgrade_file.result; finding = c.upgrade_file.ensures; leads = c.printed-in-Upgrade.ensures.is })

pub returns-in-Run-clause-carries : goal.returns-in-Run-clause-carries
returns-in-Run-clause-carries g c = rw c.in-Run.is (record { found = c.run_file.result; finding = c.run_file.ensures; leads = c.printed-in-Run.ensures.is })

pub returns-in-Replay-clause-carries : goal.returns-in-Replay-clause-carries
returns-in-Replay-clause-carries g c = rw c.in-Replay.is (record { found = c.replay_file.result; finding = c.replay_file.ensures; leads = c.printed-in-Replay.ensures.is })

pub returns-in-Debug-clause-carries : goal.returns-in-Debug-clause-carries
returns-in-Debug-clause-carries g c = rw c.in-Debug.is (record { found = c.open_file.result; finding = c.open_file.ensures.opens; leads = c.debugged.ensures.is })

pub returns-in-Trace-clause-carries : goal.returns-in-Trace-clause-carries
returns-in-Trace-clause-carries g c = rw c.in-Trace.is (record { found = c.trace_file.result; finding = c.trace_file.ensures; leads = c.printed-in-Trace.ensures.is })

pub returns-in-Unpersisted-clause-carries : goal.returns-in-Unpersisted-clause-carries
returns-in-Unpersisted-clause-carries g c = rw c.in-Unpersisted.is (record { found = c.unpersisted_file.result; finding = c.unpersisted_file.ensures; leads = c.noted.ensures.is })

pub returns-in-Waste-clause-carries : goal.returns-in-Waste-clause-carries
returns-in-Waste-clause-carries g c = rw c.in-Waste.is (record { found = c.waste_file.result; finding = c.waste_file.ensures; leads = c.noted-in-Waste.ensures.is })

pub returns-in-Images-clause-carries : goal.returns-in-Images-clause-carries
returns-in-Images-clause-carries g c = rw c.in-Images.is (record { found = c.count_file.result; finding = c.count_file.ensures; leads = c.printed-in-Images.ensures.is })

pub returns-in-Image-clause-carries : goal.returns-in-Image-clause-carries
returns-in-Image-clause-carries g c = rw c.in-Image.is (record { found = c.image_file.result; finding = c.image_file.ensures; leads = c.printed-in-Image.ensures.is })

pub returns-in-Explain-clause-carries : goal.returns-in-Explain-clause-carries
returns-in-Explain-clause-carries g c = rw c.in-Explain.is (record { found = c.explain_file.result; finding = c.explain_file.ensures; leads = c.printed-in-Explain.ensures.is })

pub returns-in-Check-clause-carries : goal.returns-in-Check-clause-carries
returns-in-Check-clause-carries g c = rw c.in-Check.is (record { found = c.open_check.result; finding = c.open_check.ensures.opens; leads = c.opened.ensures.is })

pub returns-in-Judge-clause-carries : goal.returns-in-Judge-clause-carries
returns-in-Judge-clause-carries g c = rw c.in-Judge.is (record { found = c.open_judge.result; finding = c.open_judge.ensures.opens; leads = c.judged.ensures.is })

pub returns-in-Ask-clause-carries : goal.returns-in-Ask-clause-carries
returns-in-Ask-clause-carries g c = rw c.in-Ask.is (record { found = c.open_ask.result; finding = c.open_ask.ensures.opens; leads = c.asked.ensures.is })

pub returns-in-CheckAll-clause-carries : goal.returns-in-CheckAll-clause-carries
returns-in-CheckAll-clause-carries g c = rw c.in-CheckAll.is (record { found = c.open_check_all.result; finding = c.open_check_all.ensures.opens; leads = c.all_opened.ensures.is })

pub returns-in-JudgeAll-clause-carries : goal.returns-in-JudgeAll-clause-carries
returns-in-JudgeAll-clause-carries g c = rw c.in-JudgeAll.is (record { found = c.open_judge_all.result; finding = c.open_judge_all.ensures.opens; leads = c.all_judged.ensures.is })

pub returns-in-Answer-clause-carries : goal.returns-in-Answer-clause-carries
returns-in-Answer-clause-carries g c = rw c.in-Answer.is (record { found = c.answer_file.result; finding = c.answer_file.ensures; leads = c.printed-in-Answer.ensures.is })

pub returns-in-Picture-clause-carries : goal.returns-in-Picture-clause-carries
returns-in-Picture-clause-carries g c = rw c.in-Picture.is (record { found = c.picture_file.result; finding = c.picture_file.ensures; leads = c.printed-in-Picture.ensures.is })

pub returns-in-Interleave-clause-carries : goal.returns-in-Interleave-clause-carries
returns-in-Interleave-clause-carries g c = rw c.in-Interleave.is (record { found = c.interleave_file.result; finding = c.interleave_file.ensures; leads = c.printed-in-Interleave.ensures.is })

pub returns-in-Show-clause-carries : goal.returns-in-Show-clause-carries
returns-in-Show-clause-carries g c = rw c.in-Show.is (record { found = c.show_file.result; finding = c.show_file.ensures; leads = c.printed-in-Show.ensures.is })

pub returns-in-Listing-clause-carries : goal.returns-in-Listing-clause-carries
returns-in-Listing-clause-carries g c = rw c.in-Listing.is (record { found = c.list_file.result; finding = c.list_file.ensures; leads = c.printed-in-Listing.ensures.is })

pub returns-in-Program-clause-carries : goal.returns-in-Program-clause-carries
returns-in-Program-clause-carries g c = rw c.in-Program.is (record { found = c.size_file.result; finding = c.size_file.ensures; leads = c.printed-in-Program.ensures.is })

pub returns-in-Code-clause-carries : goal.returns-in-Code-clause-carries
returns-in-Code-clause-carries g c = rw c.in-Code.is (record {
  found = c.tell_code.result;
  finding = record { value = c.tell_code.ensures; untouched = refl };
  leads = c.printed-in-Code.ensures.is;
})
