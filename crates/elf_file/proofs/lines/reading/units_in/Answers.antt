use Rattle.std.proofs.Common.{◌∙◌, ◌+◌, Bool, cond, add-zero, map, sym, ap}
use Rattle.elf_file.specs.SourceRows.{known_row}
use Rattle.elf_file.specs.Texts.{text_from}
use Rattle.elf_file.proofs.Reading.{one_more}
use Rattle.elf_file.proofs.lines.reading.units_in.Goals as goal

pub loop-rest-preserved-then-branch : goal.loop-rest-preserved-then-branch
loop-rest-preserved-then-branch c =
    one_more (text_from c.args.strings.now) c.args.table.now c.loop-rest.rest.now c.in-Some.unit.now c.in-Some.behind.now (map known_row c.loop-rest.rows.items)
    (map known_row c.add_unit.new.rows.items) c.loop-rest.units c.loop-rest.units_read (c.loop-rest.units_read + 1) c.in-Some.ensures.shorter c.in-Some.ensures.found
    c.in_ok-add_unit.ensures.rows (sym (ap (λ (b : Bool). c.loop-rest.units_read + cond b 1 0) (sym c.in_ok-add_unit.ensures.read ∙ c.if-branch.true)))
    c.loop-rest.invariant

pub loop-rest-preserved : goal.loop-rest-preserved
loop-rest-preserved c =
    one_more (text_from c.args.strings.now) c.args.table.now c.loop-rest.rest.now c.in-Some.unit.now c.in-Some.behind.now (map known_row c.loop-rest.rows.items)
    (map known_row c.add_unit.new.rows.items) c.loop-rest.units c.loop-rest.units_read c.loop-rest.units_read c.in-Some.ensures.shorter c.in-Some.ensures.found
    c.in_ok-add_unit.ensures.rows
    (sym (ap (λ (b : Bool). c.loop-rest.units_read + cond b 1 0) (sym c.in_ok-add_unit.ensures.read ∙ c.if-branch.false) ∙ add-zero c.loop-rest.units_read))
    c.loop-rest.invariant
