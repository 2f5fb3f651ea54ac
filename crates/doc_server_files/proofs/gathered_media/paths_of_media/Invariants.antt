use Rattle.std.proofs.Common.{◌≡◌, ◌++◌, drop}
use Rattle.doc_server_config.specs.Overlaps.{media_paths}
use Rattle.doc_server_files.proofs.gathered_media.paths_of_media.Given as goal

-- the paths so far, and those of the media that are left
abbrev pub invariant-loop-medium : goal.invariant-loop-medium
invariant-loop-medium l = l.paths.items ++ media_paths (drop l.medium-index l.media) ≡ media_paths l.media
