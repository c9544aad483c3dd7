-- `image::write::has_room` meets its contract: each arm takes the case of its counts. Assumes nothing.
use Rattle.image.specs.Internal.Write.{has_room}
use Rattle.image.proofs.write.has_room.Goals as goal

pub returns-in-Some : goal.returns-in-Some
unfolding has_room
returns-in-Some c =
    let good = c.in-Some.ensures in
    simp (good.0, c.image_size.ensures, good.1)

pub returns-in-None : goal.returns-in-None
unfolding has_room
returns-in-None c = simp c.in-None.ensures
