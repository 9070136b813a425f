-- The codes by which faults are known.
use Rattle.std.specs.Prelude.{ℕ, List, codes}
use Rattle.crash_image.specs.declared.ImageFault.{ImageFault}
use Rattle.crash_image.specs.declared.ImageFault.TheVariants as images

-- of a moment or an image that isn't there
abbrev pub image_code : ImageFault → List ℕ
image_code images.NoSuchMoment = codes "C1"
image_code images.NotACut = codes "C2"
image_code images.Memory = codes "C3"
