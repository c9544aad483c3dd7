-- What the writer makes of settings that were read from an image.
use Rattle.std.specs.Prelude.{ℕ, ◌≡◌, List, length}
use Rattle.settings.specs.declared.types.Settings.{Settings}
use Rattle.image.specs.Internal.Write.{image_of, size_of_image}

-- the image has the length of these settings' and is what is written back
pub record RoundTrip (image : List ℕ) (s : Settings) : Type 0 where
  pub size : length image ≡ size_of_image s.counts
  pub back : image_of s ≡ image
