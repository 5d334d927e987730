-- The texts that some paths had at an earlier moment.
use Rattle.std.specs.Prelude.{ℕ, List, Bool, false, not, Option, unwrap_or, if◌then◌else◌}
use Rattle.std.specs.Option.{option_map_or}
use Rattle.std.specs.FinMap.{get, insert, contains_key}
use Rattle.doc_texts.specs.Texts.{TextMap, Texts, text_at, same_text}

-- by path, the text that there was, or that there was none
abbrev pub Prior : Type 0
Prior = TextMap (Option (List ℕ))

-- with the text that a path has now, unless an earlier one is kept
unfoldable pub remembered : Prior → Texts → List ℕ → Prior
remembered prior t path = if contains_key prior path then prior else insert prior path (text_at t path)

-- a path has another text than the one that is kept for it
unfoldable pub is_changed : Prior → Texts → List ℕ → Bool
is_changed prior t path = option_map_or (λ kept. not (same_text kept (text_at t path))) (get prior path) false

-- the text that a path had: the one that is kept for it, or else the one that it has now
unfoldable pub text_before : Prior → Texts → List ℕ → Option (List ℕ)
text_before prior t path = unwrap_or (get prior path) (text_at t path)
