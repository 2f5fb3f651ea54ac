use Rattle.doc_media.proofs.MediaLaws.{media_of_media}
use Rattle.doc_media.proofs.laws.what_is_seen_of_media_is_seen_whole.Goals as goal

pub returns : goal.returns
returns c = media_of_media
