use Rattle.std.proofs.Common.{ap, ◌∙◌, refl}
use Rattle.std.specs.FinMap as map
use Rattle.doc_index_tables.specs.TextTables.{both_kinds}
use Rattle.doc_index_tables.proofs.TextSteps.{got_long, got_short, inserted_long, inserted_short, on_lent}
use Rattle.doc_index_tables.proofs.text_table.TextTable.get_mut.Goals as goal

pub returns-in-Some : goal.returns-in-Some
returns-in-Some g c = (
  (
    refl,
    λ w. on_lent c.get_mut.result _ c.get_mut.ensures.value (λ some.
        inserted_short c.args.text.now c.self.inside.short (c.get_mut.follows.lender w) c.self.inside.long.entries w c.in-Some.number
        c.in-Some.ensures.0 c.in-Some.ensures.1 ((c.get_mut.follows.holds w).3 some)
        ∙ ap (λ m. map.insert m c.args.text.now w) c.self.view_is),
    ap (λ m. both_kinds m.entries c.self.inside.long.entries) c.get_mut.follows.holds-at-none ∙ c.self.view_is,
  ),
  c.get_mut.ensures.value
      ∙ got_short c.args.text.now c.self.inside.short.entries c.self.inside.long.entries c.in-Some.number c.in-Some.ensures.0
      c.in-Some.ensures.1
      ∙ ap (λ m. map.get m c.args.text.now) c.self.view_is,
)

pub returns-in-None : goal.returns-in-None
returns-in-None g c = (
  (
    refl,
    λ w. on_lent c.get_mut-in-None.result _ c.get_mut-in-None.ensures.value (λ some.
        inserted_long c.args.text.now c.self.inside.short.entries c.self.inside.long (c.get_mut-in-None.follows.lender w) w
        c.in-None.ensures ((c.get_mut-in-None.follows.holds w).3 some)
        ∙ ap (λ m. map.insert m c.args.text.now w) c.self.view_is),
    ap (λ m. both_kinds c.self.inside.short.entries m.entries) c.get_mut-in-None.follows.holds-at-none ∙ c.self.view_is,
  ),
  c.get_mut-in-None.ensures.value
      ∙ got_long c.args.text.now c.self.inside.short.entries c.self.inside.long.entries c.in-None.ensures
      ∙ ap (λ m. map.get m c.args.text.now) c.self.view_is,
)
