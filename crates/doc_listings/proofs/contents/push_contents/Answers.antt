use Rattle.std.proofs.Common.{◌++◌, ◌∙◌, ap, string_bytes, sym}
use Rattle.std.proofs.lemmas.List.Folds.{flat_map-map}
use Rattle.doc_listings.specs.Listings.{entry_lines}
use Rattle.doc_listings.proofs.WriteSteps.{framed}
use Rattle.doc_listings.proofs.contents.push_contents.Goals as goal

pub returns-clause-ok : goal.returns-clause-ok
returns-clause-ok g c =
    framed _ _ _ _ _ _ _ _ c.in_ok-reserve.ensures.bytes c.in_ok-push_str.ensures.bytes
    (c.in_ok-push_pages.ensures.ok
    ∙ ap (λ lines. string_bytes c.push_str.new.self ++ lines) (sym (flat_map-map entry_lines g.P.Listed.entry c.args.pages.now)))
    c.in_ok-push_str-2.ensures.bytes
