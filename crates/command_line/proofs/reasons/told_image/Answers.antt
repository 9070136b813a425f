-- The text by the program's places is that by its file.
use Rattle.command_line.proofs.reasons.told_image.Goals as goal

pub returns-in_ok-traced-in-Some : goal.returns-in_ok-traced-in-Some
returns-in_ok-traced-in-Some c =
    rw c.in-Some.is (rw (c.deref-in-Some.ensures.value, c.in_ok-traced-in-Some.ensures.value, c.in_ok-places-in-Some.ensures.origins, c.deref.ensures.value) at c.image_losses.ensures)
