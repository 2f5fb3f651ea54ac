use Rattle.std.proofs.Common.{arith, sym}
use Rattle.doc_links_seen.proofs.WholeSteps.{asks_none, named_whole}
use Rattle.doc_links_seen.proofs.stands.Stands.has_at.Goals as goal

pub returns-then-anchor-eq0 : goal.returns-then-anchor-eq0
returns-then-anchor-eq0 c =
    sym (asks_none c.args.self.now.numbers.now c.args.stand c.args.anchor c.in-Some.slot (omega (arith, c.in-Some.ensures)) c.if-anchor-eq0.true)

pub returns-then-leads_to : goal.returns-then-leads_to
returns-then-leads_to c =
    let found = c.leads_to.ensures c.if-leads_to.true in
    sym (named_whole c.args.self.now.numbers.now c.args.self.now.named.now.slots.items c.args.stand c.args.anchor c.in-Some.slot found.0
    (omega (arith, c.in-Some.ensures)) (omega (arith, found.1)) found.2 c.requires)
