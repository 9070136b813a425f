-- The rows that the search goes through are those of the table.
use Rattle.arguments.proofs.Rows.{meaning_by_row}
use Rattle.arguments.proofs.codes.looking.meaning_of.Goals as goal

pub returns : goal.returns
returns c =
    meaning_by_row c.families.result c.args.code.now c.meaning_within.result c.meaning_within.ensures c.families.ensures
