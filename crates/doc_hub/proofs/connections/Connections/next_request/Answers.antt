use Rattle.std.proofs.Common.{◌∙◌, ℕ, ap, sym, refl, length}
use Rattle.std.specs.Prelude.{IfOk, OnErr}
use Rattle.std.specs.BTreeMap.{BTreeMap}
use Rattle.std.specs.FinMap as map
use Rattle.std.specs.Ordering.{nat_cmp}
use Rattle.std.proofs.lemmas.Cmp.{nat_cmp_total}
use Rattle.std.proofs.lemmas.Map.Lookups.{exact_unsigned}
use Rattle.doc_page_parts.proofs.Maps.{looked_up, inserted}
use Rattle.doc_http.specs.Requests.{IsNext, BeginsWithRequest, UsesAtMost}
use Rattle.doc_hub.specs.declared.connection.Connection.{Connection}
use Rattle.doc_hub.proofs.ConnectionSteps.{insert_same, of_the_same, some_none}
use Rattle.doc_hub.proofs.connections.Connections.next_request.Goals as goal

pub returns-in_default-clause-found : goal.returns-in_default-clause-found
returns-in_default-clause-found c d found =
    let look = looked_up nat_cmp_total exact_unsigned c.self.inside.entries.entries c.args.id in
    absurd (some_none d (sym found ∙ ap (λ m. map.get m c.args.id) (sym c.self.view_is) ∙ sym look ∙ sym c.in_default.ensures.value))

pub returns-clause-found : goal.returns-clause-found
returns-clause-found c d also =
    let found = ap (λ m. map.get m c.args.id) (sym c.self.view_is)
    ∙ sym (looked_up nat_cmp_total exact_unsigned c.self.inside.entries.entries c.args.id) ∙ sym c.in-Some.ensures.value in
    of_the_same (λ (k : Connection). IfOk c.next_request.result (λ next. IsNext k.unread next)) (map.get c.args.self.now c.args.id)
    c.in-Some.connection.now d found c.next_request.ensures.found also

pub returns-clause-within : goal.returns-clause-within
returns-clause-within c d also =
    let found = ap (λ m. map.get m c.args.id) (sym c.self.view_is)
    ∙ sym (looked_up nat_cmp_total exact_unsigned c.self.inside.entries.entries c.args.id) ∙ sym c.in-Some.ensures.value in
    of_the_same (λ (k : Connection). IfOk c.next_request.result (UsesAtMost (length k.unread))) (map.get c.args.self.now c.args.id)
    c.in-Some.connection.now d found c.next_request.ensures.within also

pub returns-clause-memory : goal.returns-clause-memory
returns-clause-memory c d also =
    let found = ap (λ m. map.get m c.args.id) (sym c.self.view_is)
    ∙ sym (looked_up nat_cmp_total exact_unsigned c.self.inside.entries.entries c.args.id) ∙ sym c.in-Some.ensures.value in
    of_the_same (λ (k : Connection). OnErr c.next_request.result (BeginsWithRequest k.unread)) (map.get c.args.self.now c.args.id)
    c.in-Some.connection.now d found c.next_request.ensures.memory also

pub returns-clause-same : goal.returns-clause-same
returns-clause-same c =
    let es = c.self.inside.entries.entries in
    let h = c.in-Some.ensures.value in
    let k = (c.get_mut.follows.holds c.next_request.new.self).3 in
    let found = ap (λ m. map.get m c.args.id) (sym c.self.view_is) ∙ sym (looked_up nat_cmp_total exact_unsigned es c.args.id) ∙ sym h in
    inserted nat_cmp_total exact_unsigned es (c.get_mut.follows.lender c.next_request.new.self).entries c.args.id c.next_request.new.self
    (k (rw (← h) refl)).0
    ∙ ap (λ m. map.insert m c.args.id c.next_request.new.self) c.self.view_is
    ∙ ap (map.insert c.args.self.now c.args.id) c.next_request.ensures.same
    ∙ insert_same c.args.self.now c.args.id c.in-Some.connection.now found

pub returns-clause-none : goal.returns-clause-none
returns-clause-none c none =
    let look = looked_up nat_cmp_total exact_unsigned c.self.inside.entries.entries c.args.id in
    absurd (some_none c.in-Some.connection.now (c.in-Some.ensures.value ∙ look ∙ ap (λ m. map.get m c.args.id) c.self.view_is ∙ none))

pub returns-in_default-clause-none : goal.returns-in_default-clause-none
returns-in_default-clause-none c none = refl

pub returns-in_default-clause-same : goal.returns-in_default-clause-same
returns-in_default-clause-same c =
    ap (λ (t : BTreeMap ℕ Connection). map.from_entries {R = nat_cmp} t.entries) c.get_mut.follows.holds-at-none ∙ c.self.view_is
