use Rattle.std.proofs.Common.{rules, ◌≡◌, ◌<◌, length, chars}
use Rattle.doc_rules.specs.Destinations.{balanced}
use Rattle.doc_refs_parts.proofs.Ends.{something_taken, nothing_taken}
use Rattle.doc_refs_parts.proofs.scan.destination.some_balanced.Goals as goal

pub returns-then-is_empty : goal.returns-then-is_empty
returns-then-is_empty c =
    let empty : length c.front.result.now ≡ 0 = search rules in
    nothing_taken (balanced 32) (chars c.args.text.now) (chars c.balanced-rest.result.now) c.front.result.now c.balanced-rest.ensures.value
    c.front.ensures.value empty

pub returns : goal.returns
returns c =
    let more : 0 < length c.front.result.now = search rules in
    something_taken (balanced 32) (chars c.args.text.now) (chars c.balanced-rest.result.now) c.front.result.now
    c.balanced-rest.ensures.value c.front.utf8 c.front.ensures.value more
