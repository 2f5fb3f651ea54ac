use Rattle.std.proofs.Common.{rules, ◌∙◌}
use Rattle.doc_rules.proofs.ParserLaws.{is_rest_again}
use Rattle.doc_inlines.proofs.EnclosedLaws.{piece_added, piece_made}
use Rattle.doc_inlines.proofs.draft.Draft.put_text.Goals as goal

pub pieces-preserved : goal.pieces-preserved
pieces-preserved c =
    let h = c.pieces.invariant in
    let p = c.in-Some.ensures in
    record {
      is_text = search rules;
      rest = is_rest_again _ _ _ p.behind h.rest;
      items = piece_added _ _ _ _ _ _ _ h.rest p c.front-piece.ensures.value h.items c.in_ok-put.ensures.items;
      brackets = c.in_ok-put.ensures.brackets ∙ h.brackets;
      made = piece_made _ _ _ _ _ _ _ h.rest p.behind c.front-piece.ensures.value h.made c.in_ok-put.ensures.made;
      sound = c.in_ok-put.ensures.sound;
    }
