use Rattle.std.proofs.Common.{◌≡◌, ◌+◌, ◌≤◌, [], true, length, arith, map, drop, refl, ap, sym, ◌∙◌}
use Rattle.std.specs.List.{list_all}
use Rattle.std.proofs.lemmas.List.{drop_all, drop_more}
use Rattle.std.proofs.lemmas.Result.{err_from_is_err_and}
use Rattle.doc_store_readers.specs.Groups.{is_group, with_names}
use Rattle.doc_store_readers.proofs.GroupSteps.{not_added}
use Rattle.doc_store_readers.proofs.SortedSteps.{collected_in_slice}
use Rattle.doc_store_readers.proofs.groups.Groups.of_names.Goals as goal

pub returns-in_err-add_name : goal.returns-in_err-add_name
returns-in_err-add_name c =
    let names = map (λ name. name.now) c.args.names.now in
    let found = map (λ name. name.now) c.loop-name.different.items in
    let good : list_all is_group names ≡ true = sym c.are_groups.ensures ∙ c.if-not-are_groups.false in
    let refused = c.in_err-add_name.ensures.err in
    let next = ap (map (λ name. name.now)) (drop_more c.args.names.now c.loop-name.name-index (record { ref_ptr = (0, 0); now = [] })
    c.loop-name-test.true) in
    let same = c.loop-name.invariant ∙ ap (with_names found) next in
    let answer = not_added names found (map (λ name. name.now) (drop (c.loop-name.name-index + 1) c.args.names.now)) _ good same refused.1
    in
    let p = err_from_is_err_and c.from_residual.result c.from_residual.ensures.1 in
    rw (answer, p.1, p.2, refused.0) refl

pub copies_of-requires : goal.copies_of-requires
copies_of-requires c =
    let names = map (λ name. name.now) c.args.names.now in
    let found = map (λ name. name.now) c.loop-name.different.items in
    let good : list_all is_group names ≡ true = sym c.are_groups.ensures ∙ c.if-not-are_groups.false in
    let past : length c.args.names.now ≤ c.loop-name.name-index = omega arith in
    let ended = drop_all c.loop-name.name-index c.args.names.now past in
    let same : with_names [] names ≡ found = c.loop-name.invariant ∙ ap (λ left. with_names found (map (λ name. name.now) left)) ended in
    collected_in_slice (λ name. name.now) names c.loop-name.different.items c.as_slice.result.now good same c.as_slice.ensures.value
    c.as_slice.ensures.fits
