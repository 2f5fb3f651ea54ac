-- What a network has told.
use Rattle.std.proofs.Common.{◌≡◌, ℕ, Bool, true, false, refl}
use Rattle.std.specs.Prelude.{Some, ◌||◌}
use Rattle.doc_server_network.specs.Networks.{Call, Recalls, Tells, end_of_input, input_came}
use Rattle.doc_server_network.specs.declared.told.Told.TheVariants as tolds
use Rattle.doc_server_turns.specs.Tellings.{IsNews}
use Rattle.doc_server_turns.specs.declared.telling.News.{News}

-- a peer of some number is gone, as was told
abbrev TellsLosses : (Call → Type 0) → Type 0
TellsLosses made = (id : ℕ) × made (Tells (Some (tolds.Connection id true)))

apart : false ≡ true → ⊥
apart e = cc

pub nothing_new : (made : Call → Type 0) → IsNews (record { is_knocked = false; is_lost = false; input_came = false; input_has_ended = false; count = 0 }) made
nothing_new made = record {
  knocked = λ is. absurd (apart is);
  lost = λ is. absurd (apart is);
  came = λ is. absurd (apart is);
  ended = λ is. absurd (apart is);
}

module _ (news : News) (old new : Call → Type 0) (still : Recalls old new) (is : IsNews news old) where
  pub news_still : IsNews news new
  news_still = record {
    knocked = λ k. still _ (is.knocked k);
    lost = λ l. ((is.lost l).0, still _ (is.lost l).1);
    came = λ c. still _ (is.came c);
    ended = λ e. still _ (is.ended e);
  }

  pub news_knocked : new (Tells (Some tolds.Door)) → IsNews (record news { is_knocked = true }) new
  news_knocked told = record {
    knocked = λ k. told;
    lost = λ l. ((is.lost l).0, still _ (is.lost l).1);
    came = λ c. still _ (is.came c);
    ended = λ e. still _ (is.ended e);
  }

  pub news_ended : new end_of_input → IsNews (record news { input_has_ended = true }) new
  news_ended told = record {
    knocked = λ k. still _ (is.knocked k);
    lost = λ l. ((is.lost l).0, still _ (is.lost l).1);
    came = λ c. still _ (is.came c);
    ended = λ e. told;
  }

  pub news_came : new input_came → IsNews (record news { input_came = true }) new
  news_came told = record {
    knocked = λ k. still _ (is.knocked k);
    lost = λ l. ((is.lost l).0, still _ (is.lost l).1);
    came = λ c. told;
    ended = λ e. still _ (is.ended e);
  }

  lost_by : (was gone : Bool) (id : ℕ) → (was ≡ true → TellsLosses new) → new (Tells (Some (tolds.Connection id gone)))
      → (was || gone) ≡ true → TellsLosses new
  lost_by true gone id before told e = before refl
  lost_by false true id before told e = (id, told)
  lost_by false false id before told e = absurd (apart e)

  pub news_lost : (id : ℕ) (gone : Bool) → new (Tells (Some (tolds.Connection id gone)))
      → IsNews (record news { is_lost = news.is_lost || gone }) new
  news_lost id gone told = record {
    knocked = λ k. still _ (is.knocked k);
    lost = λ l. lost_by news.is_lost gone id (λ w. ((is.lost w).0, still _ (is.lost w).1)) told l;
    came = λ c. still _ (is.came c);
    ended = λ e. still _ (is.ended e);
  }
