use Rattle.std.proofs.Common.{ap, sym, ◌||◌, ◌∙◌}
use Rattle.std.specs.List.{list_any}
use Rattle.std.proofs.lemmas.List.Folds.{list_any-append}
use Rattle.doc_people.specs.Terms.{meets}
use Rattle.doc_shelf_hits.proofs.naming.meets_either.Goals as goal

pub returns-then-meets_any : goal.returns-then-meets_any
returns-then-meets_any c =
    sym (list_any-append (meets c.args.term.now) c.args.title.now c.args.path.now
    ∙ ap (λ b. b || list_any (meets c.args.term.now) c.args.path.now) (sym c.meets_any.ensures ∙ c.if-meets_any.true))

pub returns : goal.returns
returns c =
    c.meets_any-2.ensures
    ∙ sym (list_any-append (meets c.args.term.now) c.args.title.now c.args.path.now
    ∙ ap (λ b. b || list_any (meets c.args.term.now) c.args.path.now) (sym c.meets_any.ensures ∙ c.if-meets_any.false))
