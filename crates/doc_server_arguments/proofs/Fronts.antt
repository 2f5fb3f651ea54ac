-- Words that begin with a front.
use Rattle.std.proofs.Common.{◌≡◌, ℕ, ◌==◌, List, [], ◌∷◌, ◌++◌, drop, Option, Some, None, option_copied, MatchOption, Bor}
use Rattle.std.proofs.Common.{refl, sym, ap, ◌∙◌}
use Rattle.std.specs.Str.Pattern.{FindsTextPrefix, LacksTextAt, StripsPrefix}
use Rattle.std.proofs.lemmas.Bool.{cond_both}
use Rattle.std.proofs.lemmas.Bool.Decides.{Decides-eqb}
use Rattle.doc_server_arguments.specs.Addresses.{behind}

-- a text that has a front is that front and the rest
behind-append : (front text rest : List ℕ) → behind front text ≡ Some rest → text ≡ front ++ rest
behind-append [] text rest e = cc
behind-append (x ∷ front) [] rest e = absurd (cc)
behind-append (x ∷ front) (b ∷ text) rest e =
    cond_both (x == b) (behind front text) None (λ o. o ≡ Some rest → b ∷ text ≡ x ∷ (front ++ rest))
    (λ same h. let head = (Decides-eqb x b).0 same in let tail = behind-append front text rest h in cc) (λ _ h. absurd (cc)) e

-- a front and a rest has that rest behind it
behind-front : (front rest : List ℕ) → behind front (front ++ rest) ≡ Some rest
behind-front [] rest = refl
behind-front (x ∷ front) rest = rw ((Decides-eqb x x).1 refl) (behind-front front rest)

-- what doesn't begin with the front has nothing behind it
behind-lacking : (front text : List ℕ) → LacksTextAt front text 0 → behind front text ≡ None
behind-lacking front text lacks = by (behind front text) refl
  where
    by : (o : Option (List ℕ)) → behind front text ≡ o → o ≡ None
    by None e = refl
    by (Some rest) e = absurd (lacks rest (behind-append front text rest e))

-- what is stripped off a text
pub stripped : (front text : List ℕ) (r : Option (Bor (List ℕ))) → MatchOption r (FindsTextPrefix front text None)
    (λ x. StripsPrefix (FindsTextPrefix front) text x.now) → option_copied r ≡ behind front text
stripped front text None h = sym (behind-lacking front text h)
stripped front text (Some x) h = ap Some h.2 ∙ sym (ap (behind front) h.1.1 ∙ behind-front front (drop h.0 text))
