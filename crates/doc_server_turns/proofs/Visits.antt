-- Clients that are either heard or answered.
use Rattle.std.proofs.Common.{◌≡◌, ◌≤◌, ◌++◌, ℕ, List, [], ◌∷◌, length, inl, inr, refl, sym, ap, ◌∙◌, subst, arith, append-nil, append_assoc}
use Rattle.std.proofs.lemmas.List.Elements.{All-nil}
use Rattle.doc_hub.specs.Runs.{Happened, sent_on}
use Rattle.doc_hub.specs.RunParts.{served_by}
use Rattle.doc_hub.specs.Replies.{Renders}
use Rattle.doc_hub.specs.Worlds.{World}
use Rattle.std.specs.Prelude.{Option, Some}
use Rattle.doc_server_turns.specs.Servings.{Answers, Serves}
use Rattle.doc_server_turns.specs.Visits.{AreEither, IsEither}
use Rattle.doc_server_turns.specs.Wirings.{Peer}
use Rattle.doc_server_turns.proofs.Modesty.{nothing_sent}

-- ---- one client

pub either_none : (id : ℕ) → IsEither id []
either_none id = record { own = All-nil (λ h. served_by h.event ≡ Some id); either = inl refl }

at_most : (a b : List ℕ) → b ≡ a → length b ≤ length a
at_most a b same = omega (arith, ap length same)

-- what leaves what is pending sends nothing
pub either_read : (render : Renders) (w v : World) (id : ℕ) (c d : Option (List ℕ)) (ended : Type 0) (p q : Peer)
    (s : Serves render w v id c d ended p q) → q.pending ≡ p.pending → IsEither id s.run
either_read render w v id c d ended p q s same = record {
  own = s.own;
  either = inr (nothing_sent p.pending q.pending (sent_on id s.run) s.served.takes.pending (at_most p.pending q.pending same));
}

pub either_stepped : (render : Renders) (w v : World) (id : ℕ) (p q : Peer) (a : Answers render w v id p q) → IsEither id a.run
either_stepped render w v id p q a = record { own = a.own; either = inl a.pushes }

-- ---- clients one behind the other

pub one_either : (id : ℕ) (run : List Happened) → IsEither id run → AreEither (id ∷ []) run
one_either id run is = (run, [], sym (append-nil run), is, refl)

pub either_join : (ids more : List ℕ) (xs ys : List Happened) → AreEither ids xs → AreEither more ys → AreEither (ids ++ more) (xs ++ ys)
either_join [] more xs ys is rest = subst (λ run. AreEither more (run ++ ys)) (sym is) rest
either_join (id ∷ ids) more xs ys (here, there, split, one, others) rest = (
  here,
  there ++ ys,
  ap (λ run. run ++ ys) split ∙ append_assoc here there ys,
  one,
  either_join ids more there ys others rest,
)
