-- What a cell's history says of the tests of a caller.
use Rattle.std.specs.Prelude.{◌≡◌, ℕ, ◌<◌, ◌≤◌, false, List}
use Rattle.cf_types.specs.declared.forms.StrForm.{StrForm}
use Rattle.engine_api.specs.declared.histories.Entry.{Entry}
use Rattle.engine_api.specs.Meaning.{Meaning}
use Rattle.engine_api.specs.History.{IsPoint, Tells}
use Rattle.vec_words.specs.declared.logged.Sight.{Sight}

-- The test of a bit that the vector has tells what stood, at a numbered point that isn't before anything its caller
-- had seen complete; past the vector's end it shows no bit.
pub record IsTold {C R I S : Type 0} (meaning : Meaning C R I S) (form : StrForm) (history : List (Entry C R))
    (owner : ℕ) (test : Sight) : Type 0 where
  pub point : IsPoint history test.at
  pub seen : test.sure ≤ test.at
  pub tells : test.index < form.vector → Tells meaning form history test.at test.sure (record { 0 = owner })
      test.index test.bit
  pub past : form.vector ≤ test.index → test.bit ≡ false
