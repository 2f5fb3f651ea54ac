use Rattle.std.proofs.Common.{rules, ◌≡◌, false, drop, nat_eq, arith}
use Rattle.std.proofs.lemmas.List.{take_all, length-drop}
use Rattle.std.specs.List.{starts_with}
use Rattle.doc_http_bodies.proofs.PlaceLemmas.{place_miss}
use Rattle.doc_http_bodies.proofs.finding.find.Goals as goal

pub places-preserved : goal.places-preserved
places-preserved c =
    let miss : starts_with nat_eq (drop c.places.at c.args.text.now) c.args.needle.now
    ≡ false = grind (arith, rules, take_all, length-drop) in
    place_miss c.args.needle.now c.args.text.now c.places.at c.places-test.true miss c.places.invariant
