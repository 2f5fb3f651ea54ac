use Rattle.std.proofs.Common.{chars, rules, ◌≡◌, []}
use Rattle.std.proofs.lemmas.Bool.{ne_eqb}
use Rattle.doc_inlines.proofs.PlainEndLaws.{no_space_at_end, other_at_end}
use Rattle.doc_inlines.proofs.plain.before_space.Goals as goal

pub returns-in_default : goal.returns-in_default
returns-in_default c =
    let nothing : chars c.args.text.now ≡ [] = search rules in
    no_space_at_end (chars c.args.text.now) nothing

pub returns-else-c-eq32 : goal.returns-else-c-eq32
returns-else-c-eq32 c = other_at_end (chars c.args.text.now) (chars c.in-Some.before.now) c.in-Some.c c.in-Some.ensures
    (ne_eqb c.in-Some.c 32 c.if-c-eq32.false)
