-- Worked rows of the readers of the language, each by computing.
use Rattle.std.specs.Prelude.{◌≡◌, pos, true, false, [], ◌∷◌, refl, codes}
use Rattle.spec_value.specs.Tree.{num}
use Rattle.spec_syntax.specs.Reader.{read, fault, whole}
use Rattle.spec_lang.specs.declared.Bounds.TheVariants.{Tail}
use Rattle.spec_lang.specs.declared.Test.TheVariants.{Eq, Lt}
use Rattle.spec_lang.specs.Func.{at_path, total, sum, list, funcs}
use Rattle.spec_lang.specs.Matcher.{all, nothing, is, negation, both, either, matchers}
use Rattle.spec_syntax.specs.LanguageReader.{read_path, read_order, read_bounds, read_func, read_unit, read_matcher}
use Rattle.spec_syntax.specs.ValueReader.{read_nested}
use Rattle.spec_syntax.specs.Proper.{matcher_nesting}
use Rattle.spec_syntax.specs.Spelled.{spelled_matcher}

a_path : whole (read_path (codes ".0.65535")) ≡ read (0 ∷ 65535 ∷ [])
a_path = refl

-- an index ends before the digit with which it would leave its range
long_index : whole (read_path (codes ".65536")) ≡ fault 1
long_index = refl

seventeen_steps : whole (read_path (codes ".0.1.2.3.4.5.6.7.8.9.0.1.2.3.4.5.6")) ≡ fault 2
seventeen_steps = refl

an_order : whole (read_order (codes "desc .2, ."))
    ≡ read (record { path = 2 ∷ []; down = true } ∷ record { path = []; down = false } ∷ [])
an_order = refl

some_bounds : whole (read_bounds (codes "tail 3 0")) ≡ read (Tail 3 0)
some_bounds = refl

half_bounds : whole (read_bounds (codes "mid 3")) ≡ fault 2
half_bounds = refl

a_func : whole (read_func 8 (codes "[add(.0,sum(.,.1)),.]"))
    ≡ read (list (funcs (sum (at_path (0 ∷ [])) (total [] (1 ∷ [])) ∷ at_path [] ∷ [])))
unfolding read_func
a_func = refl

-- " and " binds closer, and parentheses that aren't needed are not kept
a_matcher : whole (read_matcher (codes ". = 1 or not (.0 < 2) and all"))
    ≡ read (either
    (matchers
    (is [] Eq (num (pos 1)) ∷ both (matchers (negation (is (0 ∷ []) Lt (num (pos 2))) ∷ all ∷ []))
    ∷ [])))
unfolding read_unit read_nested
a_matcher = refl

-- " o" begins a joint, and a second word that begins none is a fault
half_joint : whole (read_matcher (codes "all oder")) ≡ fault 3
unfolding read_unit
half_joint = refl

-- the ninth `not` still begins `none`
ninth_not : whole (read_matcher (codes "not not not not not not not not not all")) ≡ fault 5
unfolding read_unit
ninth_not = refl

-- parentheses stand where they are needed, and nest one deeper, as each `not` does
needed : spelled_matcher
    (both (matchers
    (either (matchers (all ∷ nothing ∷ [])) ∷ negation (both (matchers (all ∷ all ∷ []))) ∷ [])))
    ≡ codes "(all or none) and not (all and all)"
needed = refl

its_nesting : matcher_nesting
    (both (matchers
    (either (matchers (all ∷ nothing ∷ [])) ∷ negation (both (matchers (all ∷ all ∷ []))) ∷ [])))
    ≡ 2
its_nesting = refl

an_or_in_an_or : spelled_matcher
    (either (matchers (all ∷ either (matchers (all ∷ nothing ∷ [])) ∷ [])))
    ≡ codes "all or (all or none)"
an_or_in_an_or = refl

-- and nowhere else
none_needed : spelled_matcher
    (either (matchers (both (matchers (all ∷ nothing ∷ [])) ∷ negation (negation all) ∷ [])))
    ≡ codes "all and none or not not all"
none_needed = refl
