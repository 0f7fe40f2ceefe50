-- What keeps a proxy from its pump.
use Rattle.std.proofs.Common.{◌≡◌, ◌∙◌, ◌≤◌, ◌<◌, ℕ, zero, suc, List, [], ◌∷◌, length, refl, sym, ap, arith}
use Rattle.std.specs.Prelude.{None, Some, slice_get, slice_index}
use Rattle.gl_outside.specs.declared.gate.Actor.{Actor}
use Rattle.gl_outside.specs.declared.gate.Actor.TheVariants.{Proxy}
use Rattle.spec_reports.specs.Delta.{Delta}
use Rattle.spec_reports.specs.Plan.{Plan, proxies_of}
use Rattle.spec_reports.specs.Fits.{no_proxy, empty_queue, reason_of_queue, reason_of_proxy, reason_at}
use Rattle.spec_reports.specs.Run.{run}
use Rattle.gl_world.specs.Pumped.{queue_after}

past_all : (xs : List ℕ) (n : ℕ) → length xs ≤ n → slice_get xs n ≡ None
past_all [] n past = refl
past_all (x ∷ xs) zero past = absurd (omega (arith, past))
past_all (x ∷ xs) (suc n) past = past_all xs n (omega (arith, past))

at_number : (xs : List ℕ) (n : ℕ) → n < length xs → slice_get xs n ≡ Some (slice_index xs n)
at_number [] n within = absurd (omega (arith, within))
at_number (x ∷ xs) zero within = refl
at_number (x ∷ xs) (suc n) within = at_number xs n (omega (arith, within))

-- the plan has no such proxy
pub no_proxy_at : (p : Plan) (order : List Actor) (n : ℕ) → length (proxies_of p) ≤ n
    → Some no_proxy ≡ reason_at p order (Proxy n)
no_proxy_at p order n past = sym (ap (reason_of_proxy (run p order).state) (past_all (proxies_of p) n past))

by_queue : (p : Plan) (order : List Actor) (n : ℕ) → n < length (proxies_of p)
    → reason_at p order (Proxy n) ≡ reason_of_queue (queue_after p order n)
by_queue p order n within = ap (reason_of_proxy (run p order).state) (at_number (proxies_of p) n within)

-- it has nothing to take
pub empty_at : (p : Plan) (order : List Actor) (n : ℕ) → n < length (proxies_of p) → queue_after p order n ≡ []
    → Some empty_queue ≡ reason_at p order (Proxy n)
empty_at p order n within none = sym (by_queue p order n within ∙ ap reason_of_queue none)

no_reason : (queue : List Delta) → ¬ (queue ≡ []) → reason_of_queue queue ≡ None
no_reason [] some = absurd (some refl)
no_reason (d ∷ queue) some = refl

-- it has something
pub pump_at : (p : Plan) (order : List Actor) (n : ℕ) → n < length (proxies_of p) → ¬ (queue_after p order n ≡ [])
    → None ≡ reason_at p order (Proxy n)
pump_at p order n within some = sym (by_queue p order n within ∙ no_reason (queue_after p order n) some)
