use Rattle.std.proofs.Common.{◌∙◌, refl, sym}
use Rattle.std.proofs.lemmas.List.{take_rest}
use Rattle.text.proofs.Parting.{first_parted, parts_found}
use Rattle.text.specs.Words.{parting}
use Rattle.text.proofs.words.first_word.Goals as goal

pub returns-clause-words : goal.returns-clause-words
returns-clause-words c =
    let p = parting c.args.blanks in
    let text = c.args.text.now in
    let start = c.in_ok-text.field-0 in
    let (first, behind) = parts_found p text start c.unwrap_or.result (sym c.in_ok-text.ensures) (c.unwrap_or.ensures ∙ rw (c.end.ensures, take_rest text start) refl) in
    rw (c.split_at.ensures.front, c.split_at.ensures.back, take_rest text start, first, behind)
    (first_parted p text start (sym c.in_ok-text.ensures))

pub returns-clause-places : goal.returns-clause-places
returns-clause-places c =
    let text = c.args.text.now in
    let start = c.in_ok-text.field-0 in
    rw (c.split_at.ensures.front, c.split_at.ensures.back, take_rest text start)
    (parts_found (parting c.args.blanks) text start c.unwrap_or.result (sym c.in_ok-text.ensures) (c.unwrap_or.ensures ∙ rw (c.end.ensures, take_rest text start) refl))
