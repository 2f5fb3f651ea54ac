use Rattle.std.proofs.Common.{chars, ap, sym, ◌∙◌}
use Rattle.doc_rules.specs.BareLinks.{is_host_char, is_host}
use Rattle.doc_inlines_addresses.proofs.HostLaws.{too_long, is_run}
use Rattle.doc_inlines_addresses.proofs.hosts.holds_host.Goals as goal

pub returns-then-goes_on : goal.returns-then-goes_on
returns-then-goes_on c = too_long _ _ (c.at_most-rest.ensures.value is_host_char (λ b t h. h)) (sym c.goes_on.ensures ∙ c.if-goes_on.true)

pub returns : goal.returns
returns c =
    c.is_host.ensures ∙ (ap is_host c.without_marks.ensures
    ∙ is_run _ _ (chars c.front.result.now) (c.at_most-rest.ensures.value is_host_char (λ b t h. h))
    (sym c.goes_on.ensures ∙ c.if-goes_on.false) c.front.ensures.joins)
