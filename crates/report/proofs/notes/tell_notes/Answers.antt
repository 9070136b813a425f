-- One more event: its note, if it has one, and what its hart has cleaned then.
use Rattle.std.proofs.Common.{◌∙◌, sym}
use Rattle.report.proofs.Lines.{lines_all}
use Rattle.report.proofs.Noting.{cleaned_more, notes_more}
use Rattle.report.proofs.Telling.{no_event}
use Rattle.report.specs.Places.{origin_in}
use Rattle.report.specs.Notes.{note_line}
use Rattle.report.proofs.notes.tell_notes.Goals as goal

pub loop-at-preserved : goal.loop-at-preserved
loop-at-preserved c =
    let traced = c.args.traced.now in
    record {
      text = notes_more (origin_in c.args.places.now) c.args.words.now traced c.loop-at.at no_event _ _ _ _ c.loop-at-test.true c.loop-at.invariant.text
          c.place_of.ensures (rw (sym c.requires.events, c.instr_at-instr.ensures) at c.note_of-note.ensures) c.in_ok-tell_note.ensures;
      cleaned = cleaned_more traced c.loop-at.at no_event _ c.loop-at-test.true (c.pass_event.ensures _ c.loop-at.invariant.cleaned);
    }

pub returns : goal.returns
returns c = c.loop-at.invariant.text ∙ lines_all (note_line (origin_in c.args.places.now) c.args.words.now c.args.traced.now) c.args.traced.now c.loop-at.at c.loop-at-test.false
