use Rattle.doc_media.proofs.MediaLaws.{beside_of_media}
use Rattle.doc_media.proofs.laws.media_beside_a_view_are_those_seen.Goals as goal

pub returns : goal.returns
returns c = beside_of_media
