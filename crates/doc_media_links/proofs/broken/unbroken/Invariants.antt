use Rattle.std.proofs.Common.{◌≡◌, ◌++◌, Some, filter}
use Rattle.doc_media.specs.Media.{beside_of}
use Rattle.doc_media_links.specs.MediaLinks.{is_broken}
use Rattle.doc_media_links.proofs.broken.unbroken.Given as goal

-- those so far, and those that are left
abbrev pub invariant-loop-link : goal.invariant-loop-link
invariant-loop-link l = l.found.items ++ filter (is_broken (beside_of (Some l.held) (Some l.reader))) l.link-iterator.rest.items
    ≡ filter (is_broken (beside_of (Some l.held) (Some l.reader))) l.fn.links
