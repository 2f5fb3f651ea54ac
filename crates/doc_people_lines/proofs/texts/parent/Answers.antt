use Rattle.std.proofs.Common.{◌≤◌, length, take, ap, arith}
use Rattle.doc_people_lines.proofs.TextSteps.{cut_behind}
use Rattle.doc_people_lines.proofs.texts.parent.Goals as goal

pub range-requires-clause-end_boundary : goal.range-requires-clause-end_boundary
range-requires-clause-end_boundary c =
    let same = c.as_bytes-bytes.ensures.value in
    let fits : c.saturating_sub.result ≤ length c.args.folder.now = omega (arith, c.saturating_sub.ensures, ap length same) in
    cut_behind c.args.folder.now _ c.saturating_sub.result _ c.utf8.folder (ap (take c.saturating_sub.result) same) fits
    c.folder_len.ensures
