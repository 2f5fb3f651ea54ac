-- What is answered of a table that is handed in.
use Rattle.std.proofs.Common.{◌≡◌, ℕ, List, ap, Option, Some, None, Err}
use Rattle.doc_page_parts.specs.Refusals.{IsAnswer}
use Rattle.doc_lines.specs.declared.entities.TableError.TheVariants.{BadRow, Memory}
use Rattle.doc_lines.specs.Tables.{table_of}

pub bad_answer : (all : List (List ℕ)) (bad twice : Option ℕ) (n : ℕ) → bad ≡ Some n
    → IsAnswer Memory (table_of all bad twice) (Err (BadRow n))
bad_answer all None twice n e = absurd cc
bad_answer all (Some m) twice n e = let same : n ≡ m = cc in ap BadRow same
