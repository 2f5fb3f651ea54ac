use Rattle.std.proofs.Common.{◌∙◌, ℕ, ap, sym, refl}
use Rattle.std.specs.FinMap as map
use Rattle.std.specs.Ordering.{nat_cmp}
use Rattle.std.specs.BTreeMap.{BTreeMap}
use Rattle.std.proofs.lemmas.Cmp.{nat_cmp_total}
use Rattle.std.proofs.lemmas.Map.Lookups.{exact_unsigned}
use Rattle.doc_page_parts.proofs.Maps.{looked_up, inserted}
use Rattle.doc_hub.specs.declared.connection.Connection.{Connection}
use Rattle.doc_hub.proofs.ConnectionSteps.{pushes, none_pushed}
use Rattle.doc_hub.proofs.connections.Connections.push.Goals as goal

pub returns-in_default : goal.returns-in_default
returns-in_default c =
    let look = looked_up nat_cmp_total exact_unsigned c.self.inside.entries.entries c.args.id in
    none_pushed c.args.self.now _ c.args.id c.args.bytes.now (ap (λ m. map.get m c.args.id) (sym c.self.view_is) ∙ sym look
    ∙ sym c.in_default.ensures.value) (ap (λ (t : BTreeMap ℕ Connection). map.from_entries {R = nat_cmp} t.entries)
    c.get_mut.follows.holds-at-none ∙ c.self.view_is)

pub returns : goal.returns
returns c =
    let es = c.self.inside.entries.entries in
    let look = looked_up nat_cmp_total exact_unsigned es c.args.id in
    let h = c.in-Some.ensures.value in
    let k = (c.get_mut.follows.holds c.push.new.self).3 in
    pushes c.args.self.now _ c.args.id c.args.bytes.now c.in-Some.connection.now c.push.new.self c.push.result
    (ap (λ m. map.get m c.args.id) (sym c.self.view_is) ∙ sym look ∙ sym h)
    (inserted nat_cmp_total exact_unsigned es (c.get_mut.follows.lender c.push.new.self).entries c.args.id c.push.new.self
    (k (rw (← h) refl)).0 ∙ ap (λ m. map.insert m c.args.id c.push.new.self) c.self.view_is) c.push.ensures
