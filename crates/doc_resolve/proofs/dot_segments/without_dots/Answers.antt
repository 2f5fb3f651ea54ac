use Rattle.std.proofs.Common.{◌∙◌, sym, ap}
use Rattle.std.proofs.lemmas.List.{map-append}
use Rattle.doc_resolve.proofs.DotSteps.{texts, without_dots-kept, without_dots-ended}
use Rattle.doc_resolve.proofs.dot_segments.without_dots.Goals as goal

pub returns-then-not-branch : goal.returns-then-not-branch
returns-then-not-branch c =
    without_dots-kept (texts c.args.front.now) c.args.path.now (texts c.in_ok-out.out.items) (texts c.put_each.new.out.items)
    (texts c.put_segments.new.out.items)
    (ap texts c.in_ok-out.ensures.items, c.in_ok-put_each.ensures, c.in_ok-put_segments.ensures.out)
    (sym c.in_ok-put_segments.ensures.dots ∙ c.if-not-branch.true)

pub returns : goal.returns
returns c =
    without_dots-ended (texts c.args.front.now) c.args.path.now (texts c.in_ok-out.out.items) (texts c.put_each.new.out.items)
    (texts c.put_segments.new.out.items) (texts c.push.new.self.items)
    (ap texts c.in_ok-out.ensures.items, c.in_ok-put_each.ensures, c.in_ok-put_segments.ensures.out)
    (sym c.in_ok-put_segments.ensures.dots ∙ c.if-not-branch.false)
    (ap texts c.in_ok-push.ensures.items ∙ map-append (λ s. s.now) c.put_segments.new.out.items _)
