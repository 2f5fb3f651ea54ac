use Rattle.std.proofs.Common.{◌∙◌, ℕ, ap, sym, refl}
use Rattle.std.specs.FinMap as map
use Rattle.std.specs.BTreeMap.{BTreeMap}
use Rattle.std.specs.Ordering.{nat_cmp}
use Rattle.std.proofs.lemmas.Cmp.{nat_cmp_total}
use Rattle.std.proofs.lemmas.Map.Lookups.{exact_unsigned}
use Rattle.doc_page_parts.proofs.Maps.{looked_up, inserted}
use Rattle.doc_hub.specs.declared.connection.Connection.{Connection}
use Rattle.doc_hub.proofs.ConnectionSteps.{finishes, some_none}
use Rattle.doc_hub.proofs.connections.Connections.finish.Goals as goal

pub finish-requires : goal.finish-requires
finish-requires c =
    let look = looked_up nat_cmp_total exact_unsigned c.self.inside.entries.entries c.args.id in
    c.requires c.in-Some.connection.now (ap (λ m. map.get m c.args.id) (sym c.self.view_is) ∙ sym look ∙ sym c.in-Some.ensures.value)

pub returns-clause-finished : goal.returns-clause-finished
returns-clause-finished c =
    let es = c.self.inside.entries.entries in
    let look = looked_up nat_cmp_total exact_unsigned es c.args.id in
    let h = c.in-Some.ensures.value in
    let k = (c.get_mut.follows.holds c.finish.new.self).3 in
    finishes c.args.self.now _ c.args.id c.args.used c.args.last c.in-Some.connection.now c.finish.new.self
    (ap (λ m. map.get m c.args.id) (sym c.self.view_is) ∙ sym look ∙ sym h)
    (inserted nat_cmp_total exact_unsigned es (c.get_mut.follows.lender c.finish.new.self).entries c.args.id c.finish.new.self
    (k (rw (← h) refl)).0 ∙ ap (λ m. map.insert m c.args.id c.finish.new.self) c.self.view_is) c.finish.ensures

pub returns-in_default-clause-finished : goal.returns-in_default-clause-finished
returns-in_default-clause-finished c d found =
    let look = looked_up nat_cmp_total exact_unsigned c.self.inside.entries.entries c.args.id in
    absurd (some_none d (sym found ∙ ap (λ m. map.get m c.args.id) (sym c.self.view_is) ∙ sym look ∙ sym c.in_default.ensures.value))

pub returns-clause-none : goal.returns-clause-none
returns-clause-none c none =
    let look = looked_up nat_cmp_total exact_unsigned c.self.inside.entries.entries c.args.id in
    absurd (some_none c.in-Some.connection.now (c.in-Some.ensures.value ∙ look ∙ ap (λ m. map.get m c.args.id) c.self.view_is ∙ none))

pub returns-in_default-clause-none : goal.returns-in_default-clause-none
returns-in_default-clause-none c none =
    ap (λ (t : BTreeMap ℕ Connection). map.from_entries {R = nat_cmp} t.entries) c.get_mut.follows.holds-at-none ∙ c.self.view_is
