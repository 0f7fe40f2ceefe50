-- What a function list keeps.
use Rattle.std.specs.Prelude.{ℕ, List, refl}
use Rattle.std.specs.Coded.{Coded, code_by, coded×, coded_ℕ, coded_list}
use Rattle.spec_views.specs.Tree.{Tree}
use Rattle.spec_lang.specs.Code.{tree_code}
use Rattle.spec_lang.specs.Func.{Func}
use Rattle.spec_lang.specs.FuncCode.{func_code}

-- its function, what that made of each element of its input, and how many of these there is room for
pub record Kept : Type 0 where
  pub func : Func
  pub values : List Tree
  pub room : ℕ

abbrev pub kept_code : Coded Kept
kept_code =
    code_by (Func × (List Tree × ℕ)) (coded× func_code (coded× (coded_list tree_code) coded_ℕ))
    (λ k. (k.func, (k.values, k.room)))
    (λ p. record { func = p.0; values = p.1.0; room = p.1.1 }) (λ _. refl)
