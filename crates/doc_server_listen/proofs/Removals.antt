-- Where no puts are taken a step tells no edit but a removal, and the line of a removal is short.
use Rattle.std.proofs.Common.{◌≡◌, ◌≤◌, ℕ, ◌+◌, ◌*◌, List, [], ◌∷◌, ◌++◌, length, codes, Bool, true, false, sym, subst, arith, length-append}
use Rattle.std.specs.Prelude.{MatchBool, Option, Some, None, IfSome, Ok, Err, not, nat_le, nat_lt, option_to_list, ◌&&◌, ◌||◌, ◌==◌}
use Rattle.std.specs.Prelude.{Result, if◌then◌else◌}
use Rattle.std.specs.FinMap as map
use Rattle.std.specs.List.{flat_map}
use Rattle.doc_page_parts.specs.Paths.{is_path}
use Rattle.doc_page_parts.proofs.Bools.{and_first}
use Rattle.doc_store_readers.specs.Pages.{Page}
use Rattle.doc_store.specs.Store.{StoreState, fits, page_limit, put_limit, remove_page, text_limit}
use Rattle.doc_store.specs.declared.store.EditError.{EditError}
use Rattle.doc_store.specs.declared.store.EditError.TheVariants.{TooLong, StoreFull}
use Rattle.doc_http.specs.Requests.{IsNext}
use Rattle.doc_http.specs.declared.request.Request.{Request}
use Rattle.doc_http.specs.declared.request.Next.{Next}
use Rattle.doc_http.specs.declared.request.Next.TheVariants as nexts
use Rattle.doc_hub.specs.Edits.{CanBeMade, CanRegroup, puts_left}
use Rattle.doc_hub.specs.Replies.{Renders}
use Rattle.doc_hub.specs.Edit.{Edit}
use Rattle.doc_hub.specs.Edit.TheVariants as edits
use Rattle.doc_hub.specs.StepEdits.{TellsAt, edit_of_step}
use Rattle.doc_hub.specs.Worlds.{World, answer_in, asking_of}
use Rattle.doc_hub.specs.declared.connection.Connection.{Connection}
use Rattle.doc_hub.proofs.AnswerEdits.{answer_can_be_made}
use Rattle.doc_server_script.specs.Escapes.{by_number, escaped_byte, is_printable, spaceless, spaceless_byte}
use Rattle.doc_server_script.specs.LineLengths.{IsWithin, path_limit}
use Rattle.doc_server_script.specs.PageLines.{line_of, lines_of}
use Rattle.doc_server_script.proofs.LineLengths.{at_most}
use Rattle.doc_server_listen.specs.Edits.{IsRemoval, TellsRemovalsAlone, edit_at, longest_removal}

-- ---- a request is answered as by a store of which no put is left

abbrev spent : World → StoreState
spent w = record { site = w.site; stamps = map.empty; puts = put_limit }

full : (long few : Bool) → ◌≡◌ {A = Result (Unit {0}) EditError}
    (if long then Err TooLong else (if few || true then Err StoreFull else Ok tt)) (Ok tt) → ⊥
full true few e = cc
full false true e = cc
full false false e = cc

none_fits : (pages : ℕ) (stands : Bool) (text : List ℕ) → fits pages stands put_limit text ≡ Ok tt → ⊥
unfolding put_limit
none_fits pages stands text e = full (nat_lt text_limit (length text)) (not stands && nat_le page_limit pages) e

no_groups : (w : World) (path : List ℕ) (page : Option Page) → CanRegroup (spent w) path page → ⊥
no_groups w path None can = can
no_groups w path (Some page) can =
    none_fits (map.len w.site.pages) (map.contains_key w.site.pages path) page.text can

none_left : puts_left put_limit ≡ true → ⊥
unfolding put_limit
none_left e = cc

removal_alone : (w : World) (text : List ℕ) (told : Option Edit) → CanBeMade (spent w) text told → IsRemoval told
removal_alone w text None can = tt
removal_alone w text (Some (edits.Put path groups)) can =
    none_fits (map.len w.site.pages) (map.contains_key w.site.pages path) text can.1
removal_alone w text (Some (edits.Regroup path groups)) can = no_groups w path (map.get w.site.pages path) can
removal_alone w text (Some (edits.Move from to)) can = none_left can.left
removal_alone w text (Some (edits.Remove path)) can = tt

module _ (render : Renders) (w : World) (off : w.takes_puts ≡ false) where
  answer_alone : (request : Request) → IsRemoval (answer_in render w request).edit
  unfolding put_limit
  answer_alone request =
      removal_alone w request.body (answer_in render w request).edit
      (subst (λ takes. CanBeMade (spent w) request.body (answer_in render (record w { takes_puts = takes }) request).edit) (sym off)
      (answer_can_be_made true render w.settings w.media (spent w) (asking_of w request) request))

  next_alone : (next : Next) → IsRemoval (edit_of_step render w next)
  next_alone nexts.More = tt
  next_alone (nexts.Fault code bare) = tt
  next_alone (nexts.Request used request) = answer_alone request

  open_alone : (c : Connection) (told : Option Edit) (closed : Bool)
      → MatchBool closed (told ≡ None) ((next : Next) × IsNext c.unread next × (told ≡ edit_of_step render w next)) → IsRemoval told
  open_alone c told true none = subst IsRemoval (sym none) tt
  open_alone c told false (next, begins, tells) = subst IsRemoval (sym tells) (next_alone next)

  told_alone : (told : Option Edit) (k : Option Connection) → TellsAt render w k told → IsRemoval told
  told_alone told None none = subst IsRemoval (sym none) tt
  told_alone told (Some c) tells = open_alone c told c.closed tells

pub tells_removals_alone : TellsRemovalsAlone
tells_removals_alone render w id told off tells = told_alone render w off told (map.get w.connections id) tells

-- ---- the line of a removal

either : (n : ℕ) (t : Bool) (xs ys : List ℕ) → length xs ≤ n → length ys ≤ n → length (if t then xs else ys) ≤ n
either n true xs ys one two = one
either n false xs ys one two = two

byte_within : (b : ℕ) → length (spaceless_byte b) ≤ 4
byte_within b = either 4 (b == 32) (codes "\\x20") (escaped_byte b) (omega arith) (either 4 (b == 13) _ _ (omega arith)
    (either 4 (b == 10) _ _ (omega arith) (either 4 (b == 92) _ _ (omega arith)
    (either 4 (is_printable b) (b ∷ []) (by_number b) (omega arith) (omega arith)))))

written_within : (bytes : List ℕ) → length (flat_map spaceless_byte bytes) ≤ 4 * length bytes
written_within [] = omega arith
written_within (b ∷ bytes) =
    omega (arith, length-append (spaceless_byte b) (flat_map spaceless_byte bytes), byte_within b, written_within bytes)

path_length : (path : List ℕ) → is_path path ≡ true → length path ≤ path_limit
unfolding is_path
path_length path is = at_most (length path) 200 (and_first _ _ (and_first _ _ (and_first _ _ is)))

path_within : (path : List ℕ) → is_path path ≡ true → length (spaceless path) ≤ 4 * path_limit
unfolding spaceless
path_within path is = omega (arith, written_within path, path_length path is)

line_length : (path : List ℕ) → length (lines_of (option_to_list (Some (remove_page path)))) ≡ 8 + length (spaceless path)
line_length path = omega (
  arith,
  length-append (line_of (remove_page path)) [],
  length-append (codes "remove " ++ spaceless path) (10 ∷ []),
  length-append (codes "remove ") (spaceless path),
)

pub removal_within : (v : World) (told : Option Edit) → IsRemoval told → IfSome (edit_at v told) IsWithin
    → length (lines_of (option_to_list (edit_at v told))) ≤ longest_removal
unfolding longest_removal
removal_within v None is within = omega arith
removal_within v (Some (edits.Put path groups)) is within = absurd is
removal_within v (Some (edits.Regroup path groups)) is within = absurd is
removal_within v (Some (edits.Move from to)) is within = absurd is
removal_within v (Some (edits.Remove path)) is within = omega (arith, line_length path, path_within path within)
