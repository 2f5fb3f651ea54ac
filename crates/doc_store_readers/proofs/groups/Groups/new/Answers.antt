use Rattle.std.proofs.Common.{◌≡◌, ◌==◌, [], true, false, map, length, lit<, refl, ap, sym, ◌∙◌}
use Rattle.std.specs.List.{list_all}
use Rattle.std.proofs.lemmas.Iterator.Splits.{YieldsList-from_str_split}
use Rattle.std.proofs.lemmas.Result.{err_from_is_err_and}
use Rattle.doc_store_readers.specs.Groups.{is_group, parts_of, with_names}
use Rattle.doc_store_readers.proofs.GroupSteps.{all_added, not_added, of_text, length-shown}
use Rattle.doc_store_readers.proofs.SortedSteps.{collected_in_slice}
use Rattle.doc_store_readers.proofs.groups.Groups.new.Goals as goal
use Rattle.doc_page_parts.proofs.Lists.{yields_some, yields_none}

pub loop-name-init : goal.loop-name-init
loop-name-init c = (
  parts_of c.args.text.now,
  rw c.into_iter-name-iterator.ensures.into_iter_gives
      (YieldsList-from_str_split 44 c.args.text.now (lit< tt) c.split-name-items.ensures.text c.split-name-items.ensures.has_more
      c.split-name-items.ensures.pattern),
  rw c.new-names.ensures refl,
)

pub loop-name-preserved : goal.loop-name-preserved
loop-name-preserved c =
    let next = yields_some _ _ c.loop-name.name-iterator c.next.new.self c.in-Some.name c.loop-name.invariant.0 c.loop-name.invariant.1
    c.in-Some.ensures.steps in (
      next.0,
      next.2,
      c.loop-name.invariant.2 ∙ ap (with_names (map (λ name. name.now) c.loop-name.names.items)) next.1
          ∙ ap (λ names. with_names names next.0) (sym c.in_ok-add_name.ensures.ok),
    )

pub returns-in_err-add_name : goal.returns-in_err-add_name
returns-in_err-add_name c =
    let full : (length c.args.text.now == 0) ≡ false = sym c.is_empty.ensures ∙ c.if-is_empty.false in
    let good : list_all is_group (parts_of c.args.text.now) ≡ true = sym c.are_groups_in_text.ensures ∙ c.if-not-are_groups_in_text.false in
    let next = yields_some _ _ c.loop-name.name-iterator c.next.new.self c.in-Some.name c.loop-name.invariant.0 c.loop-name.invariant.1
    c.in-Some.ensures.steps in
    let refused = c.in_err-add_name.ensures.err in
    let same = c.loop-name.invariant.2 ∙ ap (with_names (map (λ name. name.now) c.loop-name.names.items)) next.1 in
    let answer = of_text c.args.text.now full ∙ not_added (parts_of c.args.text.now) (map (λ name. name.now) c.loop-name.names.items)
    next.0 c.in-Some.name.now good same refused.1 in
    let p = err_from_is_err_and c.from_residual.result c.from_residual.ensures.1 in
    rw (answer, p.1, p.2, refused.0) refl

pub returns-in_err-copies_of : goal.returns-in_err-copies_of
returns-in_err-copies_of c =
    let full : (length c.args.text.now == 0) ≡ false = sym c.is_empty.ensures ∙ c.if-is_empty.false in
    let good : list_all is_group (parts_of c.args.text.now) ≡ true = sym c.are_groups_in_text.ensures ∙ c.if-not-are_groups_in_text.false in
    let ended = yields_none _ _ c.loop-name.name-iterator c.next.new.self c.loop-name.invariant.0 c.loop-name.invariant.1
    c.in-None.ensures.steps in
    let same : with_names [] (parts_of c.args.text.now) ≡ map (λ name. name.now) c.loop-name.names.items = c.loop-name.invariant.2
    ∙ ap (with_names (map (λ name. name.now) c.loop-name.names.items)) ended in
    let p = err_from_is_err_and c.from_residual-in_err-copies_of.result c.from_residual-in_err-copies_of.ensures.1 in
    rw (
      of_text c.args.text.now full,
      all_added (parts_of c.args.text.now) _ good same
          (length-shown (λ name. name.now) _ _ c.as_slice.ensures.value c.as_slice.ensures.fits),
      p.1,
      p.2,
    ) refl

pub returns : goal.returns
returns c =
    let full : (length c.args.text.now == 0) ≡ false = sym c.is_empty.ensures ∙ c.if-is_empty.false in
    let good : list_all is_group (parts_of c.args.text.now) ≡ true = sym c.are_groups_in_text.ensures ∙ c.if-not-are_groups_in_text.false in
    let ended = yields_none _ _ c.loop-name.name-iterator c.next.new.self c.loop-name.invariant.0 c.loop-name.invariant.1
    c.in-None.ensures.steps in
    let same : with_names [] (parts_of c.args.text.now) ≡ map (λ name. name.now) c.loop-name.names.items = c.loop-name.invariant.2
    ∙ ap (with_names (map (λ name. name.now) c.loop-name.names.items)) ended in
    rw (
      of_text c.args.text.now full,
      all_added (parts_of c.args.text.now) _ good same
          (length-shown (λ name. name.now) _ _ c.as_slice.ensures.value c.as_slice.ensures.fits),
    ) (c.in_ok-copies_of.ensures
    ∙ ap (map (λ name. name.now)) c.as_slice.ensures.value)

pub copies_of-requires : goal.copies_of-requires
copies_of-requires c =
    let good : list_all is_group (parts_of c.args.text.now) ≡ true = sym c.are_groups_in_text.ensures ∙ c.if-not-are_groups_in_text.false in
    let ended = yields_none _ _ c.loop-name.name-iterator c.next.new.self c.loop-name.invariant.0 c.loop-name.invariant.1
    c.in-None.ensures.steps in
    let same : with_names [] (parts_of c.args.text.now) ≡ map (λ name. name.now) c.loop-name.names.items = c.loop-name.invariant.2
    ∙ ap (with_names (map (λ name. name.now) c.loop-name.names.items)) ended in
    collected_in_slice (λ name. name.now) (parts_of c.args.text.now) c.loop-name.names.items c.as_slice.result.now good same
    c.as_slice.ensures.value c.as_slice.ensures.fits
