use Rattle.std.proofs.Common.{ap, chars, subst, sym, ◌∷◌}
use Rattle.doc_rules.specs.Inlines.{Literal}
use Rattle.doc_inlines.specs.ReaderSteps.{ReadsAs, state_made}
use Rattle.doc_inlines.proofs.ItemLaws.{goes_on, first_behind, nothing_taken, all_behind}
use Rattle.doc_inlines.proofs.EscapeLaws.{first_uncut, first_made}
use Rattle.doc_inlines.proofs.reader.Reader.literal.Goals as goal

pub pass-requires-clause-rest : goal.pass-requires-clause-rest
pass-requires-clause-rest c = first_behind _ _ _ c.requires.first

pub pass-requires-clause-uncut : goal.pass-requires-clause-uncut
pass-requires-clause-uncut c = first_uncut c.args.c _ _ c.requires.first c.requires.uncut

pub returns : goal.returns
returns c = λ rules targets reads.
    let p = c.pass.ensures in
    goes_on rules targets c.args.self.now c.pass.new.self c.args.c (chars c.args.behind.now) (chars c.args.behind.now)
    (Literal c.args.c ∷ state_made c.args.self.now) c.requires.sound p.sound p.text (ap (λ t. chars t.now) p.rest)
    c.requires.first (all_behind (chars c.args.behind.now))
    (subst (λ n. ReadsAs rules targets c.args.self.now c.args.c (chars c.args.behind.now) (Literal c.args.c ∷ state_made c.args.self.now)
    n) (sym (nothing_taken (chars c.args.behind.now))) reads)
    (first_made c.args.c _ _ _ _ c.requires.first p.made)
