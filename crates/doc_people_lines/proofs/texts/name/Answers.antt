use Rattle.doc_people_lines.proofs.TextSteps.{cut_behind_whole}
use Rattle.doc_people_lines.proofs.texts.name.Goals as goal

pub range_from-requires : goal.range_from-requires
range_from-requires c = λ _. cut_behind_whole c.without_slash-path.result.now _ _ c.without_slash-path.utf8 c.as_bytes.ensures.value
    c.folder_len.ensures
