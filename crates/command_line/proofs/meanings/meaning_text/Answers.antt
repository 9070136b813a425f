-- The parts of the line, each as its function says it.
use Rattle.std.proofs.Common.{Some, refl}
use Rattle.command_line.proofs.meanings.meaning_text.Goals as goal

pub returns : goal.returns
returns c = record {
  says = record {
    row = Some c.in-Some.row;
    is_row = rw c.code.ensures at c.in-Some.ensures;
    is_text = record {
      detail = c.in_ok-detail.detail;
      kind = c.in_ok-kind.kind.now;
      is_detail = c.in_ok-detail.ensures;
      is_kind = c.in_ok-kind.ensures;
      text_is = rw (c.in_ok-format.ensures.ok, c.in_ok-place.ensures, c.line.ensures, c.in_ok-found.ensures, c.as_str.ensures.value, c.in_ok-hint.ensures, c.told_hint.ensures) refl;
    };
  };
}
