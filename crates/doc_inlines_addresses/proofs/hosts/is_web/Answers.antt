use Rattle.std.proofs.Common.{true, false, not, chars, refl, ap, sym, codes, ◌∙◌}
use Rattle.doc_rules.specs.Characters.{one_of}
use Rattle.doc_rules.specs.BareLinks.{host_run, holds_host}
use Rattle.doc_inlines_addresses.proofs.HostLaws.{no_web, lone_web, whole_web}
use Rattle.doc_inlines_addresses.proofs.hosts.is_web.Goals as goal

pub returns-in_default : goal.returns-in_default
returns-in_default c = no_web _ c.in_default.ensures

pub returns-in_default-next_char : goal.returns-in_default-next_char
returns-in_default-next_char c = lone_web _ _ c.in-Some.ensures c.in_default-next_char.ensures.characters

pub returns-then-not-is_no_first : goal.returns-then-not-is_no_first
returns-then-not-is_no_first c =
    whole_web _ _ _ c.in-Some-next_char.c true false c.holds_host.result c.in-Some.ensures c.in-Some-next_char.ensures.characters
    (sym c.if-is_host_char.true ∙ c.is_host_char.ensures) (sym c.if-not-is_no_first.true ∙ c.is_no_first.ensures) c.holds_host.ensures

pub returns-else-not-is_no_first : goal.returns-else-not-is_no_first
returns-else-not-is_no_first c =
    ap not c.if-not-is_no_first.false
    ∙ whole_web _ _ _ c.in-Some-next_char.c true true (holds_host (host_run (chars c.in-Some.rest.now))) c.in-Some.ensures
    c.in-Some-next_char.ensures.characters (sym c.if-is_host_char.true ∙ c.is_host_char.ensures)
    (sym c.if-not-is_no_first.false ∙ c.is_no_first.ensures) refl

pub returns-else-is_host_char : goal.returns-else-is_host_char
returns-else-is_host_char c =
    c.if-is_host_char.false
    ∙ whole_web _ _ _ c.in-Some-next_char.c false (one_of (codes ".-_") c.in-Some-next_char.c)
    (holds_host (host_run (chars c.in-Some.rest.now))) c.in-Some.ensures c.in-Some-next_char.ensures.characters
    (sym c.if-is_host_char.false ∙ c.is_host_char.ensures) refl refl
