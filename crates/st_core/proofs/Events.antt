-- Events that hold, from what the code has tested.
use Rattle.std.proofs.Common.{◌≡◌, ℕ, ◌+◌, true, false, nat_le, Option, Some, None, is_some, refl, ap, inl}
use Rattle.st_model.specs.Answer.{is_live}
use Rattle.st_model.specs.State.{greatest_number}
use Rattle.core_model.specs.Commit.{outline}
use Rattle.core_model.specs.Event.{Release}
use Rattle.core_model.specs.declared.reply.CoreReply.TheVariants.{At}
use Rattle.core_model.specs.Picture.{Core}
use Rattle.core_model.specs.Run.{IsCoreStep}
use Rattle.core_model.specs.Step.{without_snapshot}

none_of : {X : Type 0} (option : Option X) → is_some option ≡ false → option ≡ None
none_of None h = refl
none_of (Some x) h = absurd cc

pub released_is : (old new : Core) (id place : ℕ) → is_some old.turn ≡ false → is_live (outline old) id ≡ true → nat_le greatest_number old.place ≡ false
    → place ≡ old.place → new ≡ without_snapshot old id → IsCoreStep old (Release id) (At (place + 1)) new
released_is old new id place turn live spent at is = inl ((none_of old.turn turn, live), rw spent (ap (λ (n : ℕ). At (n + 1)) at, is))
