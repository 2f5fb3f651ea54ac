use Rattle.std.proofs.Common.{ℕ, List, ap, ◌∙◌}
use Rattle.std.specs.FinMap as map
use Rattle.doc_index.specs.Held.{known_as}
use Rattle.doc_index_tables.specs.Maps.{text_map}
use Rattle.doc_links.proofs.HeldSteps.{added, free, same_held}
use Rattle.doc_links.proofs.KeySteps.{keyed_after}
use Rattle.doc_links.proofs.link_index.LinkIndex.add_parts.Goals as goal

pub add_numbered-requires : goal.add_numbered-requires
add_numbered-requires c =
    let k : List ℕ × ℕ = (c.args.path.now, c.args.stamp) in
    record { free = free c.self.inside.pages k (ap (λ m. map.get m k) c.self.view_is ∙ c.requires.free) }

pub returns-clause-ok : goal.returns-clause-ok
returns-clause-ok c =
    added c.self.inside.pages _ c.add_numbered.new.pages (c.args.path.now, c.args.stamp) c.add_numbered.result c.self.view_is
    c.in_ok-known.ensures.known c.add_numbered.ensures.ok

pub returns-clause-err : goal.returns-clause-err
returns-clause-err c = same_held c.self.inside.pages c.add_numbered.new.pages c.add_numbered.result c.self.view_is c.add_numbered.ensures.err

pub invariant_of-self : goal.invariant_of-self
invariant_of-self c = (
  keyed_after c.self.inside.pages c.add_numbered.new.pages (c.args.path.now, c.args.stamp) c.self.invariant.0 c.add_numbered.result
      (known_as c.in_ok-known.known (text_map c.in_ok-known.keys)) c.in_ok-known.ensures.keys c.add_numbered.ensures.ok
      c.add_numbered.ensures.err,
  c.add_numbered.ensures.numbered c.self.invariant.1,
  c.add_numbered.ensures.named c.self.invariant.2,
)
