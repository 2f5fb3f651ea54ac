use Rattle.std.proofs.Common.{◌≡◌, ◌++◌, suc, drop, Some}
use Rattle.doc_media.specs.Media.{beside_of}
use Rattle.doc_media_links.specs.Images.{images_from}
use Rattle.doc_media_links.proofs.images.push_images.Given as goal

-- what is left of the images is still to be looked at
abbrev pub invariant-loop-index : goal.invariant-loop-index
invariant-loop-index l =
    l.fn.all.items ++ images_from (beside_of (Some l.media) (Some l.reader)) l.page 1 l.images
    ≡ l.all.items ++ images_from (beside_of (Some l.media) (Some l.reader)) l.page (suc l.index) (drop l.index l.images)
