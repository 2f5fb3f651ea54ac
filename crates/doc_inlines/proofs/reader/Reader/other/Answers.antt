use Rattle.std.proofs.Common.{chars}
use Rattle.doc_inlines.proofs.ItemLaws.{other_reads}
use Rattle.doc_inlines.proofs.reader.Reader.other.Goals as goal

pub returns : goal.returns
returns c = λ rules targets. c.in_ok-alone.ensures rules targets
    (other_reads rules targets c.args.self.now c.args.c (chars c.args.behind.now) c.requires.other)
