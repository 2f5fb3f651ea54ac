use Rattle.std.proofs.Common.{◌≡◌, ◌++◌, take, map, string_bytes}
use Rattle.doc_page.specs.ParagraphSteps.{lines_after}
use Rattle.doc_page.proofs.plain.paragraphs.push_lines.Given as goal

abbrev pub invariant-loop-line : goal.invariant-loop-line
invariant-loop-line l = string_bytes l.out ≡ string_bytes l.fn.out ++ lines_after (map (λ line. line.now) (take l.line-index l.lines))
