use Rattle.std.proofs.Common.{ap, sym, not, ◌∙◌}
use Rattle.std.specs.Prelude.{◌&&◌}
use Rattle.doc_hub.specs.Worlds.{are_no_names}
use Rattle.doc_hub.proofs.media_to_set.have_no_names.Goals as goal

pub loop-path-init : goal.loop-path-init
loop-path-init c =
    ap (are_no_names c.args.store.now.site) (c.into_iter-path-iterator.ensures.into_iter_gives ∙ c.paths-path-items.ensures)

pub loop-path-preserved : goal.loop-path-preserved
loop-path-preserved c =
    ap (λ named. not named && are_no_names c.args.store.now.site c.next.new.self) (sym c.if-has_name.false ∙ c.has_name.ensures)
    ∙ sym (ap (are_no_names c.args.store.now.site) c.in-Some.ensures.steps) ∙ c.loop-path.invariant

pub returns-then-has_name : goal.returns-then-has_name
returns-then-has_name c =
    ap (λ named. not named && are_no_names c.args.store.now.site c.next.new.self) (sym c.if-has_name.true ∙ c.has_name.ensures)
    ∙ sym (ap (are_no_names c.args.store.now.site) c.in-Some.ensures.steps) ∙ c.loop-path.invariant

pub returns : goal.returns
returns c = sym (ap (are_no_names c.args.store.now.site) c.in-None.ensures.steps.0) ∙ c.loop-path.invariant
