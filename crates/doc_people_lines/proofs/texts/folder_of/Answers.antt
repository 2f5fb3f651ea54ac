use Rattle.doc_people_lines.proofs.TextSteps.{cut_behind_whole}
use Rattle.doc_people_lines.proofs.texts.folder_of.Goals as goal

pub range-requires-clause-end_boundary : goal.range-requires-clause-end_boundary
range-requires-clause-end_boundary c = cut_behind_whole c.args.place.now _ _ c.utf8.place c.as_bytes.ensures.value c.folder_len.ensures
