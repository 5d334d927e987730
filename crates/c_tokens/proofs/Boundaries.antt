-- Where a text in UTF-8 may be cut.
use Rattle.std.proofs.Common.{◌≡◌, ℕ, zero, suc, ◌+◌, ◌-◌, ◌<◌, ◌≤◌, false, List, [], ◌∷◌, length, drop, slice_index, sym, arith, IsUtf8, IsCharBoundary}
use Rattle.std.proofs.lemmas.Grind.{common_steps}
use Rattle.std.proofs.lemmas.Str.{IsCharBoundary-after_ascii}
use Rattle.std.proofs.lemmas.List.{get_or-drop, length-drop}
use Rattle.c_tokens.specs.Logical.{continues}

-- behind an ASCII byte
pub behind_ascii : (text : List ℕ) (i j : ℕ) → j ≡ i + 1 → i < length text → slice_index text i < 128 → IsUtf8 text → IsCharBoundary text j
behind_ascii text i j e within ascii utf8 = rw e (IsCharBoundary-after_ascii text i utf8 within ascii)

-- at a byte that continues no character, or at the end
pub before_lead : (text : List ℕ) (i : ℕ) → i ≤ length text → (i < length text → continues (slice_index text i) ≡ false) → IsCharBoundary text i
before_lead text i within stops = (within, λ more high. grind (arith, common_steps, stops more))

-- one byte on, in the rest behind the first byte
pub before_lead_behind : (text : List ℕ) (n : ℕ) → 0 < length text → n ≤ length text - 1 → (n < length (drop 1 text) → continues (slice_index (drop 1 text) n) ≡ false) → IsCharBoundary text (1 + n)
before_lead_behind text n some within stops =
    before_lead text (1 + n) (omega arith)
    (λ more. rw (sym (get_or-drop 1 text n 0)) (stops (omega (arith, length-drop {A = ℕ}))))

-- what is more than 0 stands within the text
pub within_from_some : (text : List ℕ) (i : ℕ) → 0 < slice_index text i → i < length text
within_from_some [] i some = absurd (omega arith)
within_from_some (b ∷ text) zero some = omega arith
within_from_some (b ∷ text) (suc i) some = let within : i < length text = within_from_some text i some in omega arith
