use Rattle.std.proofs.Common.{rules, ◌≡◌, ◌<◌, ◌∙◌, true, not, length, ap, sym}
use Rattle.doc_rules.specs.LeafStarts.{is_all_of}
use Rattle.doc_lines.proofs.Ends.{empty_chars}
use Rattle.doc_blocks_starts.proofs.Ends.{is_all}
use Rattle.doc_blocks_starts.proofs.heading.is_all_of.Goals as goal

pub returns-then-not-is_empty : goal.returns-then-not-is_empty
returns-then-not-is_empty c =
    let more : 0 < length c.args.text.now = search rules in
    is_all c.args.c c.args.text.now c.has_only.result c.utf8.text more c.has_only.ensures

pub returns-else-not-is_empty : goal.returns-else-not-is_empty
unfolding is_all_of
returns-else-not-is_empty c =
    let empty : length c.args.text.now ≡ 0 = search rules in
    let none : c.is_empty.result ≡ true = search rules in
    ap not none ∙ sym (ap (is_all_of c.args.c) (empty_chars c.args.text.now empty))
