use Rattle.std.proofs.Common.{◌≡◌, arith, length, ◌∙◌}
use Rattle.std.specs.Prelude.{map as mapped}
use Rattle.std.proofs.lemmas.List.{length-map}
use Rattle.doc_words_search.specs.SearchSteps.{hit_of}
use Rattle.doc_shelf_hits.proofs.FoundSteps.{first_are}
use Rattle.doc_shelf_hits.proofs.finding.first_of_both.Goals as goal

pub returns : goal.returns
returns c =
    let many : length c.push_first.new.found ≡ length (mapped hit_of c.args.named.now)
    = omega (arith, length-map c.args.named.now hit_of, c.push_first.auto.found) in
    c.new.ensures
    ∙ first_are c.args.most c.saturating_sub-room.result (length c.push_first.new.found) c.new-hits.result.items
    c.push_first.new.hits.items c.push_first-2.new.hits.items (mapped hit_of c.args.named.now) (mapped hit_of c.args.others.now)
    c.new-hits.ensures.items c.in_ok-push_first.ensures many c.saturating_sub-room.ensures c.in_ok-push_first-2.ensures
