use Rattle.std.proofs.Common.{ap, chars, subst, sym, ◌∷◌}
use Rattle.doc_rules.specs.Inlines.{Literal}
use Rattle.doc_inlines.specs.ReaderSteps.{ReadsAs, state_made}
use Rattle.doc_inlines.proofs.ItemLaws.{goes_on, first_behind, alone_stands, alone_made, nothing_taken, all_behind}
use Rattle.doc_inlines.proofs.reader.Reader.alone.Goals as goal

pub front-own-requires : goal.front-own-requires
front-own-requires c = first_behind _ _ _ c.requires.first

pub put-requires-clause-stands : goal.put-requires-clause-stands
put-requires-clause-stands c = alone_stands c.args.c _ _ _ c.requires.first c.front-own.ensures.value

pub returns : goal.returns
returns c = λ rules targets reads.
    let p = c.in_ok-put.ensures in
    goes_on rules targets c.args.self.now c.put.new.self c.args.c (chars c.args.behind.now) (chars c.args.behind.now)
    (Literal c.args.c ∷ state_made c.args.self.now) c.requires.sound p.sound p.text (ap (λ t. chars t.now) p.rest)
    c.requires.first (all_behind (chars c.args.behind.now))
    (subst (λ n. ReadsAs rules targets c.args.self.now c.args.c (chars c.args.behind.now) (Literal c.args.c ∷ state_made c.args.self.now)
    n) (sym (nothing_taken (chars c.args.behind.now))) reads)
    (alone_made c.args.c _ _ _ _ _ c.requires.first c.front-own.ensures.value p.made)
