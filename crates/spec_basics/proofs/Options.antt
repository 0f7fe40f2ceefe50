-- Laws of options.
use Rattle.std.proofs.Common.{◌≡◌, Option, Some, None, ℕ, refl, sym}
use Rattle.std.specs.Prelude.{option_map}
use Rattle.std.specs.Option.{option_or}
use Rattle.std.proofs.lemmas.Option.{none-some}

pub same_some : (m d : ℕ) → Some m ≡ Some d → m ≡ d
same_some m d e = cc

pub first_none : {B : Type 0} (o p : Option B) → option_or o p ≡ None → o ≡ None
first_none None p e = refl
first_none (Some b) p e = e

pub second_none : {B : Type 0} (o p : Option B) → option_or o p ≡ None → p ≡ None
second_none None p e = e
second_none (Some b) p e = absurd (none-some b (sym e))

pub unmapped : {A B : Type 0} (f : A → B) (o : Option A) → option_map f o ≡ None → o ≡ None
unmapped f None e = refl
unmapped f (Some a) e = absurd (none-some (f a) (sym e))
