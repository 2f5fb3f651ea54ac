use Rattle.std.proofs.Common.{OnOk, subst, sym}
use Rattle.std.specs.Prelude.{decimal}
use Rattle.doc_rules.specs.Html.{characters}
use Rattle.doc_html.specs.ProgressSteps.{Writes}
use Rattle.std.specs.Fmt.{digits}
use Rattle.doc_html.proofs.leaves.push_level.Goals as goal

pub returns-in-1 : goal.returns-in-1
unfolding digits
returns-in-1 g c =
    subst
    (λ n. OnOk c.markup.result (Writes g.W.Writer.holds c.args.writer.now c.markup.new.writer (characters (decimal n))))
    (sym c.in-1.is) c.markup.ensures

pub returns-in-2 : goal.returns-in-2
unfolding digits
returns-in-2 g c =
    subst
    (λ n. OnOk c.markup-in-2.result (Writes g.W.Writer.holds c.args.writer.now c.markup-in-2.new.writer (characters (decimal n))))
    (sym c.in-2.is) c.markup-in-2.ensures

pub returns-in-3 : goal.returns-in-3
unfolding digits
returns-in-3 g c =
    subst
    (λ n. OnOk c.markup-in-3.result (Writes g.W.Writer.holds c.args.writer.now c.markup-in-3.new.writer (characters (decimal n))))
    (sym c.in-3.is) c.markup-in-3.ensures

pub returns-in-4 : goal.returns-in-4
unfolding digits
returns-in-4 g c =
    subst
    (λ n. OnOk c.markup-in-4.result (Writes g.W.Writer.holds c.args.writer.now c.markup-in-4.new.writer (characters (decimal n))))
    (sym c.in-4.is) c.markup-in-4.ensures

pub returns-in-5 : goal.returns-in-5
unfolding digits
returns-in-5 g c =
    subst
    (λ n. OnOk c.markup-in-5.result (Writes g.W.Writer.holds c.args.writer.now c.markup-in-5.new.writer (characters (decimal n))))
    (sym c.in-5.is) c.markup-in-5.ensures

pub returns-in-6 : goal.returns-in-6
unfolding digits
returns-in-6 g c =
    subst
    (λ n. OnOk c.markup-in-6.result (Writes g.W.Writer.holds c.args.writer.now c.markup-in-6.new.writer (characters (decimal n))))
    (sym c.in-6.is) c.markup-in-6.ensures
