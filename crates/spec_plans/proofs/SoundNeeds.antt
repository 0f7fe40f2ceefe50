-- In sound lines each name stands for something, so that a list of their plan depends on what its line names.
use Rattle.std.proofs.Common.{◌≡◌, ◌∙◌, ℕ, zero, suc, List, [], ◌∷◌, ◌++◌, None, refl, sym, ap}
use Rattle.std.specs.Prelude.{option_map, slice_get, unwrap_or}
use Rattle.std.specs.List.{cons_option, AllByRecursion}
use Rattle.gl_lines.specs.declared.named.Named.{Named}
use Rattle.gl_lines.specs.declared.line.NumberedLine.{NumberedLine}
use Rattle.spec_plans.specs.Lines.{Head}
use Rattle.spec_plans.specs.Names.{heads, list_names, numbers_in, needed_by, needed}
use Rattle.spec_plans.specs.NameFaults.{input_need, first_misnamed}
use Rattle.spec_plans.specs.Making.{numbers, plan_of}
use Rattle.spec_plans.specs.WellFormed.{inputs_at}
use Rattle.spec_plans.proofs.Made.{inputs_is}
use Rattle.spec_plans.proofs.Used.{IsKnown, IsUsed}
use Rattle.spec_plans.proofs.SoundLists.{heads_used}
use Rattle.spec_basics.proofs.Lists.{all_weaker}

-- each name that heads depend on stands for something
abbrev pub AreKnown : List (List ℕ) → List Head → Type 0
AreKnown names hs = AllByRecursion (λ h. AllByRecursion (λ n. IsKnown names n.name) (h.inputs ++ h.may)) hs

module _ (lines : List NumberedLine) where
  all_known : (ns : List Named) → AllByRecursion (λ n. IsKnown (list_names lines) n.name) ns
      → numbers_in (list_names lines) ns ≡ numbers (list_names lines) ns
  all_known [] h = refl
  all_known (n ∷ ns) h =
      ap (λ o. cons_option o (numbers_in (list_names lines) ns)) h.0.1
      ∙ ap (λ ks. h.0.0 ∷ ks) (all_known ns h.1)
      ∙ ap (λ o. unwrap_or o 0 ∷ numbers (list_names lines) ns) (sym h.0.1)

  needs_known : (hs : List Head) (a : ℕ) → AreKnown (list_names lines) hs
      → unwrap_or (option_map (needed_by lines) (slice_get hs a)) []
      ≡ unwrap_or (option_map (λ h. numbers (list_names lines) (h.inputs ++ h.may)) (slice_get hs a)) []
  needs_known [] a k = refl
  needs_known (h ∷ hs) zero k = all_known (h.inputs ++ h.may) k.0
  needs_known (h ∷ hs) (suc a) k = needs_known hs a k.1

  pub needed_where_known : AreKnown (list_names lines) (heads lines) → (a : ℕ)
      → needed lines a ≡ inputs_at (plan_of lines) a
  needed_where_known known a = needs_known (heads lines) a known ∙ sym (inputs_is lines a)

  pub needed_is : first_misnamed lines ≡ None → (a : ℕ) → needed lines a ≡ inputs_at (plan_of lines) a
  needed_is fine =
      needed_where_known
      (all_weaker (λ h. AllByRecursion (IsUsed lines (input_need h.class)) (h.inputs ++ h.may))
      (λ h. AllByRecursion (λ n. IsKnown (list_names lines) n.name) (h.inputs ++ h.may))
      (λ h. all_weaker (IsUsed lines (input_need h.class)) (λ n. IsKnown (list_names lines) n.name) (λ n u. u.known)
      (h.inputs ++ h.may)) (heads lines) (heads_used lines fine))
