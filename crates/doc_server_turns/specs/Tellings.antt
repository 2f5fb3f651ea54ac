-- What a network has told.
use Rattle.std.specs.Prelude.{◌≡◌, ℕ, true, Some}
use Rattle.doc_server_network.specs.Networks.{Call, Tells, end_of_input, input_came}
use Rattle.doc_server_network.specs.declared.told.Told.TheVariants as tolds
use Rattle.doc_server_turns.specs.declared.telling.News.{News}

-- the network was asked what it has to tell, and has told each thing that these news say
pub record IsNews (news : News) (made : Call → Type 0) : Type 0 where
  pub knocked : news.is_knocked ≡ true → made (Tells (Some tolds.Door))
  pub lost : news.is_lost ≡ true → (id : ℕ) × made (Tells (Some (tolds.Connection id true)))
  pub came : news.input_came ≡ true → made input_came
  pub ended : news.input_has_ended ≡ true → made end_of_input
