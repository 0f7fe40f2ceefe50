-- Proxies: what one keeps and shows, whatever its input does.
use Rattle.std.proofs.Common.{◌≡◌, ℕ, true, List, refl}
use Rattle.spec_states.specs.Tree.{Tree}
use Rattle.spec_states.specs.Delta.{Delta}
use Rattle.spec_states.specs.Shown.{is_held, shown_of}
use Rattle.spec_states.specs.Wave.{kept_later}
use Rattle.gl_graph.specs.declared.keeps.Keeps.{Keeps}
use Rattle.gl_graph.specs.declared.keeps.Keeps.TheVariants.{Source, Over, Composite, Held, Proxy}
use Rattle.gl_graph.specs.declared.held.Held.TheVariants as h
use Rattle.gl_graph.specs.Nodes.{own_of, AreAmong, StandsFor}
use Rattle.gl_graph.specs.Graph.{IsLimited}
use Rattle.gl_graph.specs.Queues.{IsProxy}
use Rattle.gl_graph.specs.Spread.{IsCopy}

-- a list is one by what it keeps
pub is_copy : (keeps : Keeps) → IsProxy (own_of keeps) → IsCopy keeps
is_copy (Proxy input p) proxy = tt
is_copy (Source k) proxy = absurd proxy
is_copy (Over input d) proxy = absurd proxy
is_copy (Composite needed k) proxy = absurd proxy
is_copy (Held input (h.Transaction t)) proxy = absurd proxy
is_copy (Held input (h.Freezable since)) proxy = absurd proxy

pub copy_held : (keeps : Keeps) → IsCopy keeps → is_held (own_of keeps) ≡ true
copy_held (Proxy input p) copy = refl
copy_held (Source k) copy = absurd copy
copy_held (Over input d) copy = absurd copy
copy_held (Composite needed k) copy = absurd copy
copy_held (Held input h) copy = absurd copy

pub copy_later : (list : ℕ) (keeps : Keeps) (delta : ℕ → Delta) → IsCopy keeps → kept_later list (own_of keeps) delta ≡ own_of keeps
copy_later list (Proxy input p) delta copy = refl
copy_later list (Source k) delta copy = absurd copy
copy_later list (Over input d) delta copy = absurd copy
copy_later list (Composite needed k) delta copy = absurd copy
copy_later list (Held input h) delta copy = absurd copy

pub copy_shows : (keeps : Keeps) (f g : ℕ → List Tree) → IsCopy keeps → shown_of (own_of keeps) f ≡ shown_of (own_of keeps) g
copy_shows (Proxy input p) f g copy = refl
copy_shows (Source k) f g copy = absurd copy
copy_shows (Over input d) f g copy = absurd copy
copy_shows (Composite needed k) f g copy = absurd copy
copy_shows (Held input h) f g copy = absurd copy

pub copy_stands : (keeps : Keeps) (f : ℕ → List Tree) → IsCopy keeps → StandsFor keeps f
copy_stands (Proxy input p) f copy = tt
copy_stands (Source k) f copy = absurd copy
copy_stands (Over input d) f copy = absurd copy
copy_stands (Composite needed k) f copy = absurd copy
copy_stands (Held input h) f copy = absurd copy

pub copy_among : (keeps : Keeps) → IsCopy keeps → AreAmong keeps
copy_among (Proxy input p) copy = tt
copy_among (Source k) copy = absurd copy
copy_among (Over input d) copy = absurd copy
copy_among (Composite needed k) copy = absurd copy
copy_among (Held input h) copy = absurd copy

pub copy_limited : (limit : ℕ) (keeps : Keeps) → IsCopy keeps → IsLimited limit keeps
copy_limited limit (Proxy input p) copy = tt
copy_limited limit (Source k) copy = absurd copy
copy_limited limit (Over input d) copy = absurd copy
copy_limited limit (Composite needed k) copy = absurd copy
copy_limited limit (Held input h) copy = absurd copy
