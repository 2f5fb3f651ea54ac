use Rattle.std.proofs.Common.{◌≡◌, ◌++◌, refl, subst}
use Rattle.std.specs.FinMap as map
use Rattle.std.specs.FinMap.{put}
use Rattle.std.specs.Ordering.{nat_cmp}
use Rattle.doc_index_tables.proofs.CutSteps.{two_set}
use Rattle.doc_index_tables.proofs.blocks.set_in_full.Goals as goal

pub returns-clause-blocks : goal.returns-clause-blocks
returns-clause-blocks c =
    (two_set c.args.number c.args.blocks.now.items _ c.args.at c.index.result.now c.requires.place.0 c.requires.place.1
    c.requires.place.2 c.args.value c.in_ok-lower.lower c.in_ok-lower.upper c.insert.new.self.items c.in_ok-lower.ensures.blocks
    (subst (λ b. map.entries c.in_ok-lower.lower ++ map.entries c.in_ok-lower.upper
    ≡ put nat_cmp c.args.number c.args.value (map.entries b)) c.index.ensures c.in_ok-lower.ensures.numbers)
    c.in_ok-insert.ensures.items refl).0

pub returns-clause-ok : goal.returns-clause-ok
returns-clause-ok c =
    (two_set c.args.number c.args.blocks.now.items _ c.args.at c.index.result.now c.requires.place.0 c.requires.place.1
    c.requires.place.2 c.args.value c.in_ok-lower.lower c.in_ok-lower.upper c.insert.new.self.items c.in_ok-lower.ensures.blocks
    (subst (λ b. map.entries c.in_ok-lower.lower ++ map.entries c.in_ok-lower.upper
    ≡ put nat_cmp c.args.number c.args.value (map.entries b)) c.index.ensures c.in_ok-lower.ensures.numbers)
    c.in_ok-insert.ensures.items refl).1
