use Rattle.doc_rules.specs.Parsers.{◌or◌}
use Rattle.doc_rules.specs.Tags.{comment, declaration, cdata}
use Rattle.doc_inlines_marks.proofs.EndLaws.{reads_first, reads_second}
use Rattle.doc_inlines_marks.proofs.ends.MissingEnds.marked.Goals as goal

pub returns-in-Some : goal.returns-in-Some
returns-in-Some c =
    reads_first (comment or declaration) cdata c.args.self.now c.comment.new.self _ _
    (reads_first comment declaration c.args.self.now c.comment.new.self _ _ c.in-Some.ensures)

pub returns-in-Some-declaration : goal.returns-in-Some-declaration
returns-in-Some-declaration c =
    reads_first (comment or declaration) cdata c.args.self.now c.declaration.new.self _ _
    (reads_second comment declaration c.args.self.now c.comment.new.self c.declaration.new.self _ _ c.in_default.ensures
    c.in-Some-declaration.ensures)

pub returns : goal.returns
returns c =
    reads_second (comment or declaration) cdata c.args.self.now c.declaration.new.self c.cdata.new.self _ _
    (reads_second comment declaration c.args.self.now c.comment.new.self c.declaration.new.self _ _ c.in_default.ensures
    c.in_default-declaration.ensures) c.cdata.ensures
