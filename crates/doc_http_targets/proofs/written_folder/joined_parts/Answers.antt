use Rattle.doc_http_targets.proofs.FolderSteps.{all_joined, refused}
use Rattle.doc_http_targets.proofs.written_folder.joined_parts.Goals as goal

pub returns-then-not-branch : goal.returns-then-not-branch
returns-then-not-branch c =
    refused c.args.parts.now c.loop-part.part-index _ c.in_ok-push_part.field-0 c.loop-part-test.true c.in_ok-push_part.ensures.good
    c.if-not-branch.true

pub returns : goal.returns
returns c =
    all_joined c.args.parts.now c.loop-part.part-index c.loop-part.text.items c.loop-part-test.false c.loop-part.invariant.clean
    c.loop-part.invariant.text
