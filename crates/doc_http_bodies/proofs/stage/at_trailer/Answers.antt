use Rattle.std.proofs.Common.{◌≡◌, ◌-◌, ap, sym, subst, ◌∙◌, length, drop}
use Rattle.std.specs.Prelude.{None}
use Rattle.doc_http_bodies.specs.declared.stage.Stage.TheVariants.{Trailer}
use Rattle.doc_http_bodies.specs.declared.stage.Step.TheVariants.{Waiting}
use Rattle.doc_http_bodies.specs.Chunks.{trailer_len}
use Rattle.doc_http_bodies.specs.Places.{blank_line, IsSearched}
use Rattle.doc_http_bodies.specs.StageSteps.{IsStep}
use Rattle.doc_http_bodies.proofs.StageLemmas.{searched_trailer, trailer_ends, trailer_waits}
use Rattle.doc_http_bodies.proofs.stage.at_trailer.Goals as goal

pub trailer_len-requires : goal.trailer_len-requires
trailer_len-requires c =
    subst (λ z. IsSearched blank_line c.args.searched z) (sym c.behind-text.ensures)
    (searched_trailer c.args.start c.args.searched c.args.total c.args.window.now c.requires)

pub returns-in-Some : goal.returns-in-Some
returns-in-Some c =
    trailer_ends c.args.start c.args.searched c.args.total c.in-Some.len c.args.window.now c.requires
    (sym (c.in-Some.ensures.len ∙ ap trailer_len c.behind-text.ensures))

pub returns-in-None : goal.returns-in-None
returns-in-None c =
    let is : trailer_len (drop c.args.start c.args.window.now) ≡ None = sym (c.in-None.ensures.len
    ∙ ap trailer_len c.behind-text.ensures) in
    subst (λ k. IsStep c.args.window.now (Trailer c.args.start c.args.searched c.args.total)
    (Waiting (Trailer c.args.start k c.args.total)))
    (sym (c.saturating_sub.ensures ∙ ap (λ z. length z - 3) c.behind-text.ensures))
    (trailer_waits c.args.start c.args.searched c.args.total c.args.window.now c.requires is)
