use Rattle.std.proofs.Common.{◌≡◌, ◌-◌, arith, ap, sym, subst, ◌∙◌, length, take, drop}
use Rattle.doc_http_bodies.specs.declared.size_line.SizeLine.TheVariants.{Unfinished}
use Rattle.doc_http_bodies.specs.declared.stage.Stage.TheVariants.{Line}
use Rattle.doc_http_bodies.specs.declared.stage.Step.TheVariants.{Waiting}
use Rattle.doc_http_bodies.specs.Chunks.{size_line}
use Rattle.doc_http_bodies.specs.Places.{line_end, IsSearched}
use Rattle.doc_http_bodies.specs.Framings.{body_limit}
use Rattle.doc_http_bodies.specs.StageSteps.{IsStep}
use Rattle.doc_http_bodies.proofs.StageLemmas.{searched_line, line_waits, line_breaks, line_leads}
use Rattle.doc_http_bodies.proofs.stage.at_line.Goals as goal

pub size_line-requires : goal.size_line-requires
size_line-requires c =
    subst (λ z. IsSearched line_end c.args.searched (take 256 z)) (sym c.behind-text.ensures)
    (searched_line c.args.start c.args.searched c.args.total c.args.window.now c.requires)

pub behind_line-requires : goal.behind_line-requires
unfolding body_limit
behind_line-requires c = omega (arith, c.requires.0.1, c.in-Size.ensures.within.2)

pub returns-in-Unfinished : goal.returns-in-Unfinished
returns-in-Unfinished c =
    let is : size_line (drop c.args.start c.args.window.now) ≡ Unfinished = sym (c.in-Unfinished.ensures.line
    ∙ ap size_line c.behind-text.ensures) in
    subst (λ k. IsStep c.args.window.now (Line c.args.start c.args.searched c.args.total) (Waiting (Line c.args.start k c.args.total)))
    (sym (c.saturating_sub.ensures ∙ ap (λ z. length z - 1) c.behind-text.ensures))
    (line_waits c.args.start c.args.searched c.args.total c.args.window.now c.requires is)

pub returns-in-Malformed : goal.returns-in-Malformed
returns-in-Malformed c =
    line_breaks c.args.start c.args.searched c.args.total c.args.window.now c.requires
    (sym (c.in-Malformed.ensures.line ∙ ap size_line c.behind-text.ensures))

pub returns-in-Size : goal.returns-in-Size
returns-in-Size c =
    subst (λ step. IsStep c.args.window.now (Line c.args.start c.args.searched c.args.total) step) (sym c.behind_line.ensures)
    (line_leads c.args.start c.args.searched c.args.total c.in-Size.len c.in-Size.size c.args.window.now c.requires
    (sym (c.in-Size.ensures.line ∙ ap size_line c.behind-text.ensures)))
