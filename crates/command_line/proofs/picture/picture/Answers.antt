-- Memory for what is drawn was refused.
use Rattle.std.proofs.lemmas.Result.{err_from_is_err_and}
use Rattle.crash_image.specs.declared.ImageFault.TheVariants as faults
use Rattle.command_line.proofs.picture.picture.Goals as goal

pub returns-in_err-picture_at : goal.returns-in_err-picture_at
returns-in_err-picture_at c =
    let failed = err_from_is_err_and c.from_residual-in_err-picture_at.result c.from_residual-in_err-picture_at.ensures.1 in
    record { draws = rw failed.1 (record { fault = faults.Memory; told = failed.2; found = tt }) }
