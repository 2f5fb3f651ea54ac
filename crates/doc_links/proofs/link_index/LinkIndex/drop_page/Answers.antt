use Rattle.std.proofs.Common.{ℕ, List, ap, ◌∙◌}
use Rattle.std.specs.FinMap as map
use Rattle.doc_links.proofs.HeldSteps.{has_key, removed}
use Rattle.doc_links.proofs.KeySteps.{keyed_removed}
use Rattle.doc_links.proofs.NumberingSteps.{fewer_held}
use Rattle.doc_links.proofs.link_index.LinkIndex.drop_page.Goals as goal

pub returns-clause-answer : goal.returns-clause-answer
returns-clause-answer c =
    let k : List ℕ × ℕ = (c.args.path.now, c.args.stamp) in
    c.drop_page.ensures.answer ∙ has_key c.self.inside.pages k ∙ ap (λ m. map.contains_key m k) c.self.view_is

pub returns-clause-rest : goal.returns-clause-rest
returns-clause-rest c =
    let k : List ℕ × ℕ = (c.args.path.now, c.args.stamp) in
    removed c.self.inside.pages c.drop_page.new.self k c.drop_page.ensures.rest ∙ ap (λ m. map.remove m k) c.self.view_is

pub invariant_of-self : goal.invariant_of-self
invariant_of-self c =
    let slots = c.self.inside.pages in
    let numbering = c.leave_page.new.numbering in (
      keyed_removed slots c.drop_page.new.self (c.args.path.now, c.args.stamp) c.self.invariant.0 c.drop_page.ensures.rest,
      fewer_held slots numbering.names numbering.numbers.items (c.leave_page.ensures.numbered c.self.invariant.1) c.drop_page.new.self
          c.args.path.now c.args.stamp c.leave_page.ensures.apart c.drop_page.ensures.rest c.drop_page.ensures.others
          c.leave_page.ensures.gone,
      c.leave_page.ensures.named c.self.invariant.2,
    )
