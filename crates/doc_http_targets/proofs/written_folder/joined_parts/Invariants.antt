use Rattle.std.proofs.Common.{◌≡◌, List, ℕ, Bor, map, take, false}
use Rattle.std.specs.List.{list_any}
use Rattle.doc_http_targets.specs.WrittenFolders.{holds_slash, with_slashes}
use Rattle.doc_http_targets.proofs.written_folder.joined_parts.Given as goal

abbrev pub invariant-loop-part : goal.invariant-loop-part
invariant-loop-part l =
    record {
      clean : list_any (λ (part : Bor (List ℕ)). holds_slash part.now) (take l.part-index l.parts) ≡ false;
      text : l.text.items ≡ with_slashes (map (λ part. part.now) (take l.part-index l.parts));
    }
