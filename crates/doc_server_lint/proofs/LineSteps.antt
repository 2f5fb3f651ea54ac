-- What is told, piece by piece.
use Rattle.std.proofs.Common.{◌≡◌, ℕ, List, ◌++◌, append_assoc, ap, sym, ◌∙◌, subst}
use Rattle.std.specs.Prelude.{Result, Ok, Err, OnOk}
use Rattle.doc_server_lint_faults.specs.declared.what.What.{What}
use Rattle.doc_server_lint.specs.Lines.{what_text}

module _ {E : Type 0} where
  -- what is written of a variant is written of what is it
  pub of_variant : (r : Result (Unit {0}) E) (before after key : List ℕ) (given what : What) → given ≡ what
      → OnOk r (after ≡ before ++ what_text key what) → OnOk r (after ≡ before ++ what_text key given)
  of_variant r before after key given what is told = subst (λ one. OnOk r (after ≡ before ++ what_text key one)) (sym is) told

  -- the same by its text
  pub of_text : (r : Result (Unit {0}) E) (before after key text : List ℕ) (given what : What) → given ≡ what → what_text key what ≡ text
      → OnOk r (after ≡ before ++ text) → OnOk r (after ≡ before ++ what_text key given)
  of_text r before after key text given what is same told =
      of_variant r before after key given what is (subst (λ one. OnOk r (after ≡ before ++ one)) (sym same) told)

  -- the same in two pieces
  pub of_two : (r : Result (Unit {0}) E) (before middle after key first second : List ℕ) (given what : What) → given ≡ what
      → what_text key what ≡ first ++ second → middle ≡ before ++ first → OnOk r (after ≡ middle ++ second)
      → OnOk r (after ≡ before ++ what_text key given)
  of_two (Ok unit) before middle after key first second given what is same one two =
      two ∙ ap (λ m. m ++ second) one ∙ append_assoc before first second
      ∙ ap (λ text. before ++ text) (sym same ∙ ap (what_text key) (sym is))
  of_two (Err e) before middle after key first second given what is same one two = tt
