use Rattle.std.proofs.Common.{◌==◌, true, false, not, chars, refl, ap, sym, ◌∙◌}
use Rattle.std.proofs.lemmas.Bool.{eq-eqb, ne_eqb}
use Rattle.doc_rules.specs.BareLinks.{host_run, holds_host}
use Rattle.doc_inlines_addresses.proofs.HostLaws.{no_www, lone_www, whole_www}
use Rattle.doc_inlines_addresses.proofs.hosts.is_www.Goals as goal

pub returns-in_default : goal.returns-in_default
returns-in_default c = no_www _ c.in_default.ensures

pub returns-in_default-next_char : goal.returns-in_default-next_char
returns-in_default-next_char c = lone_www _ _ c.in-Some.ensures c.in_default-next_char.ensures.characters

pub returns-then-c-ne46 : goal.returns-then-c-ne46
returns-then-c-ne46 c =
    whole_www _ _ _ c.in-Some-next_char.c true false c.holds_host.result c.in-Some.ensures c.in-Some-next_char.ensures.characters
    (sym c.if-is_host_char.true ∙ c.is_host_char.ensures) (sym (ne_eqb c.in-Some-next_char.c 46 c.if-c-ne46.true)) c.holds_host.ensures

pub returns-else-c-ne46 : goal.returns-else-c-ne46
returns-else-c-ne46 c =
    let dot = eq-eqb c.in-Some-next_char.c 46 c.if-c-ne46.false in
    ap not dot
    ∙ whole_www _ _ _ c.in-Some-next_char.c true true (holds_host (host_run (chars c.args.text.now))) c.in-Some.ensures
    c.in-Some-next_char.ensures.characters (sym c.if-is_host_char.true ∙ c.is_host_char.ensures) (sym dot) refl

pub returns-else-is_host_char : goal.returns-else-is_host_char
returns-else-is_host_char c =
    c.if-is_host_char.false
    ∙ whole_www _ _ _ c.in-Some-next_char.c false (c.in-Some-next_char.c == 46) (holds_host (host_run (chars c.args.text.now))) c.in-Some.ensures
    c.in-Some-next_char.ensures.characters (sym c.if-is_host_char.false ∙ c.is_host_char.ensures) refl refl
