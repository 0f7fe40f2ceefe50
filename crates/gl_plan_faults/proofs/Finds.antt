-- What the tables of known lines say of a name.
use Rattle.std.proofs.Common.{◌≡◌, ℕ, zero, suc, false, List, [], ◌∷◌, Option, Some, None, refl, ap, ◌∙◌}
use Rattle.std.specs.Prelude.{option_map, option_and_then, unwrap_or, slice_get}
use Rattle.std.specs.List.{AllZip}
use Rattle.std.specs.Option.{option_or}
use Rattle.spec_plans.specs.declared.fault.NameFault.{NameFault}
use Rattle.spec_order.specs.DependencyOrder.{has}
use Rattle.gl_lines.specs.declared.line.NumberedLine.{NumberedLine}
use Rattle.spec_plans.specs.Lines.{Head}
use Rattle.spec_plans.specs.Names.{heads, list_names, number_of, class_of, needed_by, depends_on}
use Rattle.gl_plan_faults.specs.declared.listed.Listed.{Listed}
use Rattle.gl_plan_faults.specs.Marks.{AreListed, StandsFor}

module _ (lines : List NumberedLine) where
  class_at : (hs : List Head) (ls : List Listed) → AllZip (StandsFor lines) hs ls → (a : ℕ) → option_map (λ l. l.class) (slice_get ls a) ≡ option_map (λ h. h.class) (slice_get hs a)
  class_at [] [] z a = refl
  class_at [] (s ∷ ss) z a = absurd z
  class_at (h ∷ hs) [] z a = absurd z
  class_at (h ∷ hs) (s ∷ ss) z zero = ap Some z.0.class_is
  class_at (h ∷ hs) (s ∷ ss) z (suc a) = class_at hs ss z.1 a

  needs_at : (hs : List Head) (ls : List Listed) → AllZip (StandsFor lines) hs ls → (a b : ℕ) → unwrap_or (option_map (λ l. has l.needs b) (slice_get ls a)) false ≡ has (unwrap_or (option_map (needed_by lines) (slice_get hs a)) []) b
  needs_at [] [] z a b = refl
  needs_at [] (s ∷ ss) z a b = absurd z
  needs_at (h ∷ hs) [] z a b = absurd z
  needs_at (h ∷ hs) (s ∷ ss) z zero b = z.0.needs_are b
  needs_at (h ∷ hs) (s ∷ ss) z (suc a) b = needs_at hs ss z.1 a b

  pub class_some : (ls : List Listed) (name : List ℕ) (k : ℕ) → AreListed lines ls → Some k ≡ number_of (list_names lines) name → option_map (λ l. l.class) (slice_get ls k) ≡ class_of lines name
  class_some ls name k z e =
      class_at (heads lines) ls z k
      ∙ ap (λ o. option_map (λ (h : Head). h.class) (option_and_then (slice_get (heads lines)) o)) e

  pub class_none : (name : List ℕ) → None ≡ number_of (list_names lines) name → None ≡ class_of lines name
  class_none name e = ap (λ o. option_map (λ (h : Head). h.class) (option_and_then (slice_get (heads lines)) o)) e

  pub depends_at : (ls : List Listed) (a b : ℕ) → AreListed lines ls → unwrap_or (option_map (λ l. has l.needs b) (slice_get ls a)) false ≡ depends_on lines a b
  depends_at ls a b z = needs_at (heads lines) ls z a b

-- five faults, one after the other
pub five : (all a r b s c t d e a2 b2 c2 d2 e2 : Option NameFault) → all ≡ option_or a r → r ≡ option_or b s → s ≡ option_or c t → t ≡ option_or d e
    → a ≡ a2 → b ≡ b2 → c ≡ c2 → d ≡ d2 → e ≡ e2 → all ≡ option_or a2 (option_or b2 (option_or c2 (option_or d2 e2)))
five all a r b s c t d e a2 b2 c2 d2 e2 f1 f2 f3 f4 g1 g2 g3 g4 g5 =
    f1 ∙ ap (λ x. option_or a x) (f2 ∙ ap (λ x. option_or b x) (f3 ∙ ap (λ x. option_or c x) f4))
    ∙ ap (λ x. option_or x (option_or b (option_or c (option_or d e)))) g1
    ∙ ap (λ x. option_or a2 (option_or x (option_or c (option_or d e)))) g2
    ∙ ap (λ x. option_or a2 (option_or b2 (option_or x (option_or d e)))) g3
    ∙ ap (λ x. option_or a2 (option_or b2 (option_or c2 (option_or x e)))) g4
    ∙ ap (λ x. option_or a2 (option_or b2 (option_or c2 (option_or d2 x)))) g5
