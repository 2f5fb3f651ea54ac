use Rattle.std.proofs.Common.{ap, string_bytes, ◌∙◌}
use Rattle.doc_rows.specs.Looks.{last_before}
use Rattle.doc_rows.proofs.SeenLaws.{seen_by_others, seen_by_owner}
use Rattle.doc_rows.proofs.rows.Rows.last_seen.Goals as goal

pub returns-then-reader : goal.returns-then-reader
returns-then-reader c = λ site are.
    c.last.ensures
    ∙ ap (last_before (string_bytes c.args.before.now)) (seen_by_owner c.args.reader.now c.names-names.result.now c.names-names.ensures.same
    c.names-names.ensures.groups site c.args.self.now are c.if-reader.true)

pub returns : goal.returns
returns c = λ site are.
    c.last_among.ensures
    ∙ ap (last_before (string_bytes c.args.before.now))
    (seen_by_others c.args.reader.now c.names-names.result.now c.names-names.ensures.same
    c.names-names.ensures.groups site c.args.self.now are c.if-reader.false)
