-- The file of an object is that of the program which it is loaded as.
use Rattle.command_line.proofs.ObjectPrograms.{program_of_object}
use Rattle.command_line.proofs.listing.listed.Goals as goal

pub places_of-requires : goal.places_of-requires
places_of-requires c = program_of_object c.args.file.now c.args.object.now c.requires
