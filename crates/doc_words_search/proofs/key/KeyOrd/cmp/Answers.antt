use Rattle.std.proofs.Common.{ap₂, ◌∙◌, nat_cmp}
use Rattle.std.specs.Cmp.Lexicographic.{slice_cmp}
use Rattle.doc_words_search.proofs.FrontSteps.{told_by_fronts}
use Rattle.doc_words_search.proofs.key.KeyOrd.cmp.Goals as goal

pub returns-then-self-other : goal.returns-then-self-other
returns-then-self-other c =
    c.cmp.ensures
    ∙ told_by_fronts c.self.inside.text.now c.other.inside.text.now c.self.inside.front c.other.inside.front c.self.invariant.1
    c.other.invariant.1 c.self.invariant.0 c.other.invariant.0 c.if-self-other.true
    ∙ ap₂ (slice_cmp nat_cmp) c.self.view_is c.other.view_is
