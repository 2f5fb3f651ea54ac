use Rattle.std.proofs.Common.{◌∙◌, [], ◌∷◌, ◌++◌, ap, refl, arith}
use Rattle.doc_blocks_starts.specs.Tags.{container_shown}
use Rattle.doc_blocks.proofs.TreeLaws.{Children, shows_no_end, shows_end}
use Rattle.doc_blocks.proofs.tree.Tree.end.Goals as goal

pub returns-in_default : goal.returns-in_default
returns-in_default c =
    let both = c.in_default.ensures.cases in
    λ state h. shows_no_end c.args.self.now (record { before = c.pop.new.self; blocks = c.args.self.now.blocks })
    (container_shown c.args.container) state.0 state.1 h (omega (arith, both.0)) (omega (arith, both.1)) refl

pub returns : goal.returns
returns c =
    λ state h. shows_end c.args.self.now (record { before = c.pop.new.self; blocks = c.push.new.self }) (container_shown c.args.container)
    state.0 state.1 c.in-Some.before c.replace-inside.result c.container_of.result h c.in-Some.ensures.items c.replace-inside.ensures.value
    (c.in_ok-push.ensures.items ∙ ap (λ (v : Children). v.items ++ c.container_of.result ∷ []) c.replace-inside.ensures.after)
    c.container_of.ensures
